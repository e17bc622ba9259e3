-- The near one of two links with their sessions: a step of its own, and the octets that a station hands down to it behind that.
use Rattle.x25_peer.proofs.Names.{◌≡◌, ℕ, ◌==◌, ◌≤◌, Ok, List, [], ◌∷◌, ◌++◌, length, Bool, true, false, if◌then◌else◌, Option, Some, None, refl, sym, ap, ap₂}
use Rattle.x25_peer.proofs.Names.{◌∙◌, subst, append_assoc, append-nil, remove, PlainFrame, PlainPacket, PlainGiven, LinkError, LinkSettings, LinkStation}
use Rattle.x25_peer.proofs.Names.{is_up, timer_step, connect_step, Entry, Meeting, Sessions, acts, extended, begun_by, Settings, link_settings, Step}
use Rattle.x25_peer.proofs.Names.{AreReadable, LinkStep}
use Rattle.std.proofs.{Common.{map, option_to_list}, lemmas.Bool.{le-leb, cond_both}}
use Rattle.x25_given.specs.{Given.{may_give}, Writing.{write}}
use Rattle.x25_line.proofs.sessions.SessionSays.{sent_append}
use Rattle.x25_line.specs.laws.Sessions.{after_step, delivered, sent_in, unless}
use Rattle.x25_link.specs.{Link.{put_refusal, put_step, take_step, abandon_step, probe_refusal, relink_step}, Station.{Side, with_nothing}}
use Rattle.x25_link.specs.declared.phase.{Phase.{Phase}, Phase.TheVariants.{Down}, Reason.TheVariants.{Counts}}
use Rattle.x25_link.specs.laws.{NoteLaw.{PutTells}, SetUp.{RelinkIsTwoSteps}}
use Rattle.x25_packet.specs.Taking.{read_in}
use Rattle.x25_station.specs.{Config.{longest_packet}, Giving.{all_given}, Station.{behind, put_on, all_put}}
use Rattle.x25_station.specs.laws.{GivenLaw.{AreTaken, PutsGiven, GivesOctets, GivenIsRead}, JoinLaw.{AreAccepted, PutsBehind}, ReadLaw.{AreOctets}}
use Rattle.x25_packet.specs.Spelling as packet
use Rattle.x25_line.specs.laws.Stations as line

-- ---- lists

pub extended_none : (lists : ℕ → List (List ℕ)) (session n : ℕ) → extended lists session [] n ≡ lists n
extended_none lists session n = cond_both (n == session) (lists n ++ []) (lists n) (λ l. l ≡ lists n) (λ _. append-nil (lists n)) (λ _. refl)

-- more in the same session
extended_again : (lists between : ℕ → List (List ℕ)) (session : ℕ) (some more : List (List ℕ)) → ((n : ℕ) → between n ≡ extended lists session some n)
    → (n : ℕ) → extended between session more n ≡ extended lists session (some ++ more) n
extended_again lists between session some more same n = ap (λ l. if n == session then l ++ more else l) (same n) ∙ by (n == session)
  where
    by : (b : Bool) → (if b then (if b then lists n ++ some else lists n) ++ more else (if b then lists n ++ some else lists n))
        ≡ (if b then lists n ++ (some ++ more) else lists n)
    by true = append_assoc (lists n) some more
    by false = refl

-- The near link goes to this one in this session, and puts these frames; it was handed down and hands up these packets in it, this is
-- left on the line to it, and these sessions have met.
pub record SessionGoes (c : LinkSettings) (v v₂ : Sessions) (session : ℕ) (link : LinkStation) (frames : List PlainFrame) (handed lifted : List (List ℕ))
    (left : List Entry) (all_met : List Meeting) : Type 0 where
  pub station : v₂.near.station ≡ link
  pub begun : v₂.near.begun ≡ session
  pub down : (n : ℕ) → v₂.near.down n ≡ extended v.near.down session handed n
  pub up : (n : ℕ) → v₂.near.up n ≡ extended v.near.up session lifted n
  pub far : v₂.far ≡ v.far
  pub out : v₂.out ≡ v.out ++ sent_in session c.role frames
  pub back : v₂.back ≡ left
  pub sent : v₂.sent ≡ v.sent ++ frames
  pub met : v₂.met ≡ all_met

-- by its own step alone
abbrev pub StepGoes : LinkSettings → Sessions → Sessions → LinkStep → List Entry → List Meeting → Type 0
StepGoes c v v₂ k left met = SessionGoes c v v₂ (begun_by k.notes.up v.near.begun) k.side.near k.side.out [] (option_to_list k.packet) left met

-- which hands this up and notes LinkUp, or doesn't
pub step_as : {c : LinkSettings} {v v₂ : Sessions} (k : LinkStep) {left : List Entry} {met : List Meeting} (up : Bool) (packet : Option (List ℕ)) → k.notes.up
    ≡ up → k.packet ≡ packet → StepGoes c v v₂ k left met
    → SessionGoes c v v₂ (begun_by up v.near.begun) k.side.near k.side.out [] (option_to_list packet) left met
step_as {c} {v} {v₂} k {left} {met} up packet is same g =
    rw (sym is) (subst (λ p. SessionGoes c v v₂ (begun_by k.notes.up v.near.begun) k.side.near k.side.out [] (option_to_list p) left met) same g)

-- ---- a step of its own

own_step : (c : LinkSettings) (v : Sessions) (rest : List Entry) (met : List Meeting) (k : LinkStep) → StepGoes c v (after_step c v rest met [] k) k rest met
own_step c v rest met k = record {
  station = refl;
  begun = refl;
  down = λ n. refl;
  up = λ n. refl;
  far = refl;
  out = refl;
  back = refl;
  sent = refl;
  met = refl;
}

-- an act that isn't refused
pub act_goes : (c : LinkSettings) (v : Sessions) (s : LinkStation) (act : line.Act) (refusal : LinkStation → Option LinkError) (step : LinkStation → LinkStep)
    → acts c act v ≡ unless (refusal v.near.station) v (after_step c v v.back v.met [] (step v.near.station)) → v.near.station ≡ s → refusal s ≡ None
    → StepGoes c v (acts c act v) (step s) v.back v.met
act_goes c v s act refusal step is station none =
    let done : LinkStation → Sessions = λ x. after_step c v v.back v.met [] (step x) in
    subst (λ x. StepGoes c v x (step s) v.back v.met)
    (sym (is ∙ ap (λ x. unless (refusal x) v (done x)) station ∙ ap (λ o. unless o v (done s)) none)) (own_step c v v.back v.met (step s))

-- a probe is refused where the link isn't up
pub probe_acts : (c : LinkSettings) (v : Sessions) → acts c line.Probe v
    ≡ unless (probe_refusal v.near.station.phase) v (after_step c v v.back v.met [] (timer_step c v.near.station))
probe_acts c v = by v.near.station.phase
  where
    by : (p : Phase) → (let done = after_step c v v.back v.met [] (timer_step c v.near.station) in (if is_up p then done else v)
        ≡ unless (probe_refusal p) v done)
    by Down = refl
    by p = refl

left_up : (c : LinkSettings) (v : Sessions) (s : LinkStation) → v.near.station ≡ s → is_up s.phase ≡ true → acts c line.Abandon v
    ≡ after_step c v v.back v.met [] (abandon_step c s)
left_up c v s station up =
    let left : LinkStation → Sessions = λ x. after_step c v v.back v.met [] (abandon_step c x) in
    ap (λ x. if is_up x.phase then left x else v) station ∙ ap (λ b. if b then left s else v) up

-- it is left, and the front octets are lost
pub abandon_goes : (c : LinkSettings) (v : Sessions) (s : LinkStation) → v.near.station ≡ s → is_up s.phase ≡ true
    → StepGoes c v (acts c (line.Lose 0) (acts c line.Abandon v)) (abandon_step c s) (remove v.back 0) v.met
abandon_goes c v s station up =
    rw (left_up c v s station up) (own_step c v (remove v.back 0) v.met (abandon_step c s))

-- it is left, and then connected
pub relink_goes : RelinkIsTwoSteps → (c : LinkSettings) (v : Sessions) (s : LinkStation) → v.near.station ≡ s → is_up s.phase ≡ true
    → StepGoes c v (acts c line.Connect (acts c line.Abandon v)) (relink_step c s) v.back v.met
relink_goes law c v s station up =
    let two = law c s in
    let n = v.near.begun in
    let down = with_nothing Down s.tries in
    let again : Side = (connect_step c down).side in
    let left : Side → Sessions = λ t. (let k : LinkStep = record { side = t; packet = None; notes = record { down = Some Counts; up = false } } in
    after_step c v v.back v.met [] k) in
    let was = left_up c v s station up ∙ ap left two.abandoned in
    subst (λ x. StepGoes c v (acts c line.Connect x) (relink_step c s) v.back v.met) (sym was)
    (rw two.connected (record {
      station = refl;
      begun = refl;
      down = extended_again v.near.down (extended v.near.down n []) n [] [] (λ i. refl);
      up = extended_again v.near.up (extended v.near.up n []) n [] [] (λ i. refl);
      far = refl;
      out = ap (λ es. es ++ sent_in n c.role again.out) (append-nil v.out);
      back = refl;
      sent = ap (λ fs. fs ++ again.out) (append-nil v.sent);
      met = refl;
    }))

-- the front octets are taken
pub deliver_goes : (c : LinkSettings) (v : Sessions) (s : LinkStation) (e : Entry) (rest : List Entry) → v.near.station ≡ s → v.back ≡ e ∷ rest
    → StepGoes c v (acts c line.Deliver v) (take_step c e.octets s) rest (acts c line.Deliver v).met
deliver_goes c v s e rest station front =
    rw (sym station) (subst (λ es. StepGoes c v (delivered c es v) (take_step c e.octets v.near.station) rest (delivered c es v).met) (sym front)
    (own_step c v rest _ (take_step c e.octets v.near.station)))

-- ---- octets that are handed down

abbrev pub handed_on : LinkSettings → List ℕ → Side → Side
handed_on c octets t = behind t (put_step c octets t.near).side

-- one after another
abbrev pub all_handed : LinkSettings → List (List ℕ) → Side → Side
all_handed c [] t = t
all_handed c (o ∷ os) t = all_handed c os (handed_on c o t)

-- each is accepted
abbrev pub AreHanded : LinkSettings → List (List ℕ) → Side → Type 0
AreHanded c [] t = Unit {0}
AreHanded c (o ∷ os) t = (put_refusal t.near ≡ None) × AreHanded c os (handed_on c o t)

-- the octets of packets
abbrev pub spelled : List PlainPacket → List (List ℕ)
spelled packets = map packet.spelling_of packets

put_as_spelled : (c : LinkSettings) (packets : List PlainPacket) (t : Side) → all_put c packets t ≡ all_handed c (spelled packets) t
put_as_spelled c [] t = refl
put_as_spelled c (p ∷ packets) t = put_as_spelled c packets (put_on c p t)

accepted_as_spelled : (c : LinkSettings) (packets : List PlainPacket) (t : Side) → AreAccepted c packets t → AreHanded c (spelled packets) t
accepted_as_spelled c [] t h = tt
accepted_as_spelled c (p ∷ packets) t h = (h.0, accepted_as_spelled c packets (put_on c p t) h.1)

-- the same where something is given beside the first
abbrev pub spelled_with : PlainGiven → List PlainPacket → List (List ℕ)
spelled_with g [] = []
spelled_with g (p ∷ packets) = write g (packet.spelling_of p) ∷ spelled packets

given_as_spelled : (c : LinkSettings) (g : PlainGiven) (packets : List PlainPacket) (t : Side) → all_given c g packets t
    ≡ all_handed c (spelled_with g packets) t
given_as_spelled c g [] t = refl
given_as_spelled c g (p ∷ packets) t = put_as_spelled c packets (handed_on c (write g (packet.spelling_of p)) t)

taken_as_spelled : (c : LinkSettings) (g : PlainGiven) (packets : List PlainPacket) (t : Side) → AreTaken c g packets t → AreHanded c (spelled_with g packets) t
taken_as_spelled c g [] t h = tt
taken_as_spelled c g (p ∷ packets) t h = (h.0, accepted_as_spelled c packets (handed_on c (write g (packet.spelling_of p)) t) h.1)

-- ---- which the other end reads, where it writes and takes packets in this way

-- octets that a link carries, read as this packet
pub record IsReadBack (wide long_data : Bool) (given : List ℕ) (p : PlainPacket) : Type 0 where
  pub octets : AreOctets given
  pub short : length given ≤ longest_packet
  pub reads : read_in wide (packet.longest_user long_data) given ≡ Ok p

-- octets that are read back as these packets
abbrev pub AreReadBack : Bool → Bool → List (List ℕ) → List PlainPacket → Type 0
AreReadBack wide long_data [] [] = Unit {0}
AreReadBack wide long_data (o ∷ os) (p ∷ ps) = IsReadBack wide long_data o p × AreReadBack wide long_data os ps
AreReadBack wide long_data os ps = ⊥

spelled_back : (wide long_data : Bool) (packets : List PlainPacket) → AreReadable wide long_data packets → AreReadBack wide long_data (spelled packets) packets
spelled_back wide long_data [] h = tt
spelled_back wide long_data (p ∷ packets) h = (record { octets = h.0.octets; short = h.0.short; reads = h.0.reads }, spelled_back wide long_data packets h.1)

spelled_with_back : GivenIsRead → (wide long_data : Bool) (g : PlainGiven) (packets : List PlainPacket) → wide ≡ true → may_give g ≡ true → GivesOctets g
    → AreReadable wide long_data packets
    → AreReadBack wide long_data (spelled_with g packets) packets
spelled_with_back law wide long_data g [] is allowed octets h = tt
spelled_with_back law wide long_data g (p ∷ packets) is allowed octets h =
    let o = write g (packet.spelling_of p) in
    let r = law wide long_data g p allowed octets h.0 in (
      record { octets = r.octets; short = r.short; reads = ap (λ b. read_in b (packet.longest_user long_data) o) is ∙ r.reads },
      spelled_back wide long_data packets h.1,
    )

-- Behind the link's own step to this side these octets are handed down, and all of the step's frames are those of the link. It accepts
-- them, and the other end reads them as these packets.
pub record PutsRead (c : Settings) (t : Side) (packets : List PlainPacket) (handed : List (List ℕ)) (step : Step) : Type 0 where
  pub accepted : AreHanded (link_settings c) handed t
  pub link : step.near.link ≡ (all_handed (link_settings c) handed t).near
  pub out : step.out ≡ (all_handed (link_settings c) handed t).out
  pub readable : AreReadBack c.wide c.long_data handed packets

-- packets that are put go down as they are spelled
pub puts_spelled : {c : Settings} {t : Side} {packets : List PlainPacket} {step : Step} → PutsBehind c t packets step → AreReadable c.wide c.long_data packets
    → PutsRead c t packets (spelled packets) step
puts_spelled {c} {t} {packets} p readable =
    let same = put_as_spelled (link_settings c) packets t in
    record {
      accepted = accepted_as_spelled (link_settings c) packets t p.accepted;
      link = p.link ∙ ap (λ u. u.near) same;
      out = p.out ∙ ap (λ u. u.out) same;
      readable = spelled_back c.wide c.long_data packets readable;
    }

-- so do those that are given facilities, user data or D
pub puts_spelled_with : GivenIsRead → {c : Settings} {g : PlainGiven} {t : Side} {packets : List PlainPacket} {step : Step} → c.wide ≡ true → may_give g ≡ true
    → GivesOctets g → PutsGiven c g t packets step → AreReadable c.wide c.long_data packets
    → PutsRead c t packets (spelled_with g packets) step
puts_spelled_with law {c} {g} {t} {packets} wide allowed octets p readable =
    let same = given_as_spelled (link_settings c) g packets t in
    record {
      accepted = taken_as_spelled (link_settings c) g packets t p.accepted;
      link = p.link ∙ ap (λ u. u.near) same;
      out = p.out ∙ ap (λ u. u.out) same;
      readable = spelled_with_back law c.wide c.long_data g packets wide allowed octets readable;
    }

-- a link that accepts octets stays up
pub handed_up : PutTells → (c : LinkSettings) (os : List (List ℕ)) (t : Side) → is_up t.near.phase ≡ true → is_up (all_handed c os t).near.phase ≡ true
handed_up tells c [] t up = up
handed_up tells c (o ∷ os) t up = handed_up tells c os (handed_on c o t) ((tells c o t.near up).stays refl ∙ up)

-- so does that of a station that puts packets
pub puts_up : PutTells → {c : Settings} {t : Side} {packets : List PlainPacket} {os : List (List ℕ)} {step : Step} → PutsRead c t packets os step
    → is_up t.near.phase ≡ true → is_up step.near.link.phase ≡ true
puts_up tells {c} {t} {os} p up = ap (λ s. is_up s.phase) p.link ∙ handed_up tells (link_settings c) os t up

-- ---- one after another

accepted : (c : LinkSettings) (o : List ℕ) (v : Sessions) → length o ≤ c.longest → put_refusal v.near.station ≡ None → acts c (line.Put o) v
    ≡ after_step c v v.back v.met (o ∷ []) (put_step c o v.near.station)
accepted c o v short none = rw (le-leb (length o) c.longest short, none) refl

put_goes : {c : LinkSettings} {v v₁ : Sessions} {session : ℕ} (t : Side) {down up : List (List ℕ)} {left : List Entry} {met : List Meeting} (o : List ℕ)
    → length o ≤ c.longest → put_refusal t.near ≡ None → SessionGoes c v v₁ session t.near t.out down up left met
    → SessionGoes c v (acts c (line.Put o) v₁) session (handed_on c o t).near (handed_on c o t).out (down ++ o ∷ []) up left met
put_goes {c} {v} {v₁} {session} t {down} {up} {left} {met} o short none g =
    let there : put_refusal v₁.near.station ≡ None = ap put_refusal g.station ∙ none in
    let k = put_step c o v₁.near.station in
    let more : List PlainFrame = (put_step c o t.near).side.out in
    let frames : k.side.out ≡ more = ap (λ s. (put_step c o s).side.out) g.station in
    subst (λ x. SessionGoes c v x session (handed_on c o t).near (handed_on c o t).out (down ++ o ∷ []) up left met) (sym (accepted c o v₁ short there))
    (record {
      station = ap (λ s. (put_step c o s).side.near) g.station;
      begun = g.begun;
      down = λ n. ap (λ s. extended v₁.near.down s (o ∷ []) n) g.begun ∙ extended_again v.near.down v₁.near.down session down (o ∷ []) g.down n;
      up = λ n. extended_none v₁.near.up v₁.near.begun n ∙ g.up n;
      far = g.far;
      out = ap₂ (λ s fs. v₁.out ++ sent_in s c.role fs) g.begun frames ∙ ap (λ es. es ++ sent_in session c.role more) g.out
          ∙ append_assoc v.out (sent_in session c.role t.out) (sent_in session c.role more)
          ∙ ap (λ es. v.out ++ es) (sym (sent_append session c.role t.out more));
      back = g.back;
      sent = ap₂ (λ l fs. l ++ fs) g.sent frames ∙ append_assoc v.sent t.out more;
      met = g.met;
    })

-- the link is handed down these, one by one
abbrev pub puts_of : List (List ℕ) → List line.Act
puts_of [] = []
puts_of (o ∷ os) = line.Put o ∷ puts_of os

-- acts of the near end, one after the other
abbrev pub all_act : LinkSettings → List line.Act → Sessions → Sessions
all_act c [] v = v
all_act c (act ∷ acted) v = all_act c acted (acts c act v)

all_puts_go : (c : Settings) (v v₁ : Sessions) (session : ℕ) (os : List (List ℕ)) (ps : List PlainPacket) (t : Side) (down up : List (List ℕ))
    (left : List Entry) (met : List Meeting)
    → (let lc = link_settings c in SessionGoes lc v v₁ session t.near t.out down up left met → AreHanded lc os t → AreReadBack c.wide c.long_data os ps
    → SessionGoes lc v (all_act lc (puts_of os) v₁) session (all_handed lc os t).near (all_handed lc os t).out (down ++ os) up left met)
all_puts_go c v v₁ session [] [] t down up left met g ok readable =
    rw (append-nil down) g
all_puts_go c v v₁ session (o ∷ os) (p ∷ ps) t down up left met g ok readable =
    let lc = link_settings c in
    let u = all_handed lc os (handed_on lc o t) in
    subst (λ d. SessionGoes lc v (all_act lc (puts_of os) (acts lc (line.Put o) v₁)) session u.near u.out d up left met) (append_assoc down (o ∷ []) os)
    (all_puts_go c v (acts lc (line.Put o) v₁) session os ps (handed_on lc o t) (down ++ o ∷ []) up left met (put_goes t o readable.0.short ok.0 g) ok.1
    readable.1)
all_puts_go c v v₁ session os ps t down up left met g ok readable = absurd readable

-- behind the link's own step to a side the station's is whole
pub puts_go : (c : Settings) (v v₁ : Sessions) (session : ℕ) (packets : List PlainPacket) (os : List (List ℕ)) (t : Side) (step : Step) (up : List (List ℕ))
    (left : List Entry) (met : List Meeting)
    → (let lc = link_settings c in SessionGoes lc v v₁ session t.near t.out [] up left met → PutsRead c t packets os step
    → SessionGoes lc v (all_act lc (puts_of os) v₁) session step.near.link step.out os up left met)
puts_go c v v₁ session packets os t step up left met g p =
    let lc = link_settings c in
    let x = all_act lc (puts_of os) v₁ in
    subst (λ s. SessionGoes lc v x session s step.out os up left met) (sym p.link)
    (rw p.out (all_puts_go c v v₁ session os packets t [] up left met g p.accepted p.readable))

-- what lasts as octets are handed down
pub puts_last : (c : LinkSettings) (R : Sessions → Type 0) → ((o : List ℕ) (v : Sessions) → R v → R (acts c (line.Put o) v))
    → (os : List (List ℕ)) {v : Sessions} → R v → R (all_act c (puts_of os) v)
puts_last c R lasts [] h = h
puts_last c R lasts (o ∷ os) {v} h = puts_last c R lasts os (lasts o v h)

-- nothing was asked of the link yet
pub stays_goes : (c : LinkSettings) (v : Sessions) (s : LinkStation) → v.near.station ≡ s → SessionGoes c v v v.near.begun s [] [] [] v.back v.met
stays_goes c v s station = record {
  station = station;
  begun = refl;
  down = λ n. sym (extended_none v.near.down v.near.begun n);
  up = λ n. sym (extended_none v.near.up v.near.begun n);
  far = refl;
  out = sym (append-nil v.out);
  back = refl;
  sent = sym (append-nil v.sent);
  met = refl;
}
