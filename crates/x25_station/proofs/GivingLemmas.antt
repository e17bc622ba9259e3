-- A call, an acceptance or a clearing with something given beside its packet.
use Rattle.x25_station.proofs.Names.{◌≡◌, ℕ, zero, suc, ◌<◌, ◌≤◌, List, [], ◌∷◌, ◌++◌, length, map, Option, Some, None, Result, Ok, Err, Bool, true, false}
use Rattle.x25_station.proofs.Names.{nat_lt, ◌==◌, ◌&&◌, if◌then◌else◌, option_to_list, refl, ap, sym, subst, ◌∙◌, arith, le_trans, fun_ext, ltb-true}
use Rattle.x25_station.proofs.Names.{map-append, Proposal, in_brief, PlainGiven, may_give, write, LayerRequest, Asks, Dials, LayerOutcome, Accepted, Declined}
use Rattle.x25_station.proofs.Names.{layer_outcome, layer_pulled, free_channel, outcome_in, outcome_on, if_at_once, puts_at_once, LayerSettings, Layer}
use Rattle.x25_station.proofs.Names.{is_channel, FitsLayer, LayerError, calls, refusal_of, Asked, name_of, shown, LinkView, Putting, Answered, Went, Refuses}
use Rattle.x25_station.proofs.Names.{begin, with_pulled, pull_one, round, rounds_of, rounds, backlog, went, alone, put_refusal, put_step, waits, LinkSettings}
use Rattle.x25_station.proofs.Names.{LinkStation, Side, is_up, WindowIsSmall, FewStand, ShownLink, LinkState, FitsWhole, waits_of, PutTells, PlainPacket}
use Rattle.x25_station.proofs.Names.{Settings, link_settings, layer_settings, manner_of, StationEntry, of_channel, of_layer, suits, is_taken, all_given}
use Rattle.x25_station.proofs.Names.{view_given, not_taken, kept_of, Station, view_of, behind, Step, Outcome, Did, Refused, entries_of_outcome, with_given}
use Rattle.x25_station.proofs.Names.{gave, gives, IsBrief, FitsParts, AreMeant, FitsStation, Does, IsEmpty, LayerGives, all_with, seen_with, GoesWith, Manner}
use Rattle.x25_frame.specs.Spelling.{spelling_of}
use Rattle.x25_station.proofs.Names.{◌+◌, ◌-◌}
use Rattle.x25_layer.specs.laws.Rounds.{at_turn, rest_of_round}
use Rattle.x25_station.specs.code.OverLink.{TurnGives}
use Rattle.x25_station.proofs.AskLemmas.{taken_link, IsNamed, calls_named, still_fits, Judges}
use Rattle.x25_station.proofs.{AskedEntryLemmas.{asked_entry, dialled_entry, asked_channel, free_is_channel}, BriefLemmas.{asked_brief, dialled_brief}}
use Rattle.x25_station.proofs.{DoesLemmas.{declines}, FrameLemmas.{count_of, put_lower, all_lower, said_few}, KeepLemmas.{put_few, room_of, all_few, below}}
use Rattle.x25_station.proofs.{LinkLemmas.{put_by_put, same_view}, Names.{StationError, AreTaken, IsKept, KeptBy, GivenKeeps}}
use Rattle.x25_station.proofs.{OutcomeLemmas.{leaves_some, still_meant}, PutLemmas.{accepted_append, all_up, accepts}, RequestLemmas.{has_room}}
use Rattle.x25_station.{proofs.ResultLemmas.{ok_err, err_is}, proofs.TakeLemmas.{least_by_meaning, few_made}, specs.Step.{gives_of}}
use Rattle.x25_packet.specs.Spelling as packet
use Rattle.x25_circuit.specs.Calling as circuit
use Rattle.x25_layer.specs.declared.layer.Layer as layer_code
use Rattle.x25_layer.specs.declared.error.LayerError.TheVariants as layer_error
use Rattle.x25_station.specs.code.OverLink as over
use Rattle.x25_station.specs.declared.station.Station as code
use Rattle.x25_station.specs.declared.step.Step as code_step
use Rattle.x25_station.specs.code.FitsStation as station

-- ---- the link after the packets

given_by_put : (c : LinkSettings) (g : PlainGiven) (packets : List PlainPacket) (t : Side) → all_with g (kept_of c t) packets
    ≡ kept_of c (all_given c g packets t)
given_by_put c g [] t = refl
given_by_put c g (p ∷ packets) t =
    let octets = write g (packet.spelling_of p) in
    let step = put_step c octets t.near in
    ap (λ (kept : List (List ℕ)). over.after_all (record { settings = c; station = step.side.near; kept = kept }) packets)
    (sym (map-append (spelling_of c.role) t.out step.side.out))
    ∙ put_by_put c packets (behind t step.side)

-- what the layer sees of it
seen_given : (c : LinkSettings) (g : PlainGiven) (turn : ℕ) (s : LinkStation) → seen_with g turn (kept_of c (alone s)) ≡ view_given c g turn s
seen_given c g turn s = ap (λ (f : List PlainPacket → ℕ). record { is_up = is_up s.phase; waits = f; turn = turn })
    (fun_ext (λ packets. ap waits_of (given_by_put c g packets (alone s))))

-- ---- the link accepts the packets

given_append : (c : LinkSettings) (g : PlainGiven) (a : List PlainPacket) (p : PlainPacket) (t : Side) → AreTaken c g a t
    → put_refusal (all_given c g a t).near ≡ None → AreTaken c g (a ++ p ∷ []) t
given_append c g [] p t all none = (none, tt)
given_append c g (q ∷ a) p t all none =
    (all.0, accepted_append c a (p ∷ []) (behind t (put_step c (write g (packet.spelling_of q)) t.near).side) all.1 (none, tt))

given_up : PutTells → (c : LinkSettings) (g : PlainGiven) (packets : List PlainPacket) (t : Side) → is_up t.near.phase ≡ true
    → is_up (all_given c g packets t).near.phase ≡ true
given_up tells c g [] t up = up
given_up tells c g (p ∷ packets) t up =
    let octets = write g (packet.spelling_of p) in
    all_up tells c packets (behind t (put_step c octets t.near).side) ((tells c octets t.near up).stays refl ∙ up)

given_few : (c : LinkSettings) (g : PlainGiven) (packets : List PlainPacket) (t : Side) → AreTaken c g packets t → waits t.near.outgoing ≤ 256
    → waits (all_given c g packets t).near.outgoing ≤ 256
given_few c g [] t all few = few
given_few c g (p ∷ packets) t all few =
    let octets = write g (packet.spelling_of p) in
    all_few c packets (behind t (put_step c octets t.near).side) all.1 (put_few c octets t.near (room_of t.near all.0 few))

pull_given : PutTells → (turn : ℕ) (c : LinkSettings) (g : PlainGiven) (s : LinkStation) (lc : LayerSettings) (h : ℕ) (p : Putting) → is_up s.phase ≡ true
    → AreTaken c g p.put (alone s)
    → AreTaken c g (pull_one (view_given c g turn s) lc h p).put (alone s)
pull_given tells turn c g s lc h p up all = test (nat_lt ((view_given c g turn s).waits p.put) 8) refl
  where
    put : (o : Option PlainPacket) → (view_given c g turn s).waits p.put < 8 → AreTaken c g (with_pulled h p (layer_pulled lc p.layer h) o).put (alone s)
    put None low = all
    put (Some q) low = given_append c g p.put q (alone s) all
        (accepts (all_given c g p.put (alone s)).near (given_up tells c g p.put (alone s) up) (omega (arith, low)))

    test : (b : Bool) → nat_lt ((view_given c g turn s).waits p.put) 8 ≡ b
        → AreTaken c g (let n : Putting = if b then with_pulled h p (layer_pulled lc p.layer h) (layer_pulled lc p.layer h).packet else p in n.put) (alone s)
    test true is = put (layer_pulled lc p.layer h).packet (ltb-true _ _ is)
    test false is = all

round_given : PutTells → (turn : ℕ) (c : LinkSettings) (g : PlainGiven) (s : LinkStation) (lc : LayerSettings) (b n : ℕ) (p : Putting) → is_up s.phase ≡ true
    → AreTaken c g p.put (alone s)
    → AreTaken c g (round (view_given c g turn s) lc b n p).put (alone s)
round_given tells turn c g s lc b zero p up all = all
round_given tells turn c g s lc b (suc n) p up all =
    pull_given tells turn c g s lc (b + suc n) (round (view_given c g turn s) lc b n p) up (round_given tells turn c g s lc b n p up all)

rounds_of_given : PutTells → (turn k : ℕ) (c : LinkSettings) (g : PlainGiven) (s : LinkStation) (lc : LayerSettings) (p : Putting) → is_up s.phase ≡ true
    → AreTaken c g p.put (alone s)
    → AreTaken c g (rounds_of k (view_given c g turn s) lc p).put (alone s)
rounds_of_given tells turn zero c g s lc p up all = all
rounds_of_given tells turn (suc k) c g s lc p up all =
    rounds_of_given tells turn k c g s lc (round (view_given c g turn s) lc 0 lc.channels.count p) up
    (round_given tells turn c g s lc 0 lc.channels.count p up all)

pub rounds_given : PutTells → (turn : ℕ) (c : LinkSettings) (g : PlainGiven) (s : LinkStation) (lc : LayerSettings) (p : Putting) → is_up s.phase ≡ true
    → AreTaken c g p.put (alone s) → AreTaken c g (rounds (view_given c g turn s) lc p).put (alone s)
rounds_given tells turn c g s lc p up all =
    let rest : Putting = rest_of_round (view_given c g turn s) lc p in
    rounds_of_given tells turn (backlog rest.layer.circuits lc.channels.count) c g s lc rest up
    (round_given tells turn c g s lc turn (lc.channels.count - turn) (at_turn turn p) up all)

-- ---- what each such step keeps

if_taken : (b : Bool) (step : Step) → IsKept step.near → KeptBy (if b then Did step else Refused not_taken)
if_taken true step kept = kept
if_taken false step kept = tt

true_false : true ≡ false → ⊥
true_false e = cc

pub given_kept : PutTells → GivenKeeps
given_kept tells c s g request kept = at (is_up s.link.phase) refl (layer_outcome lc full s.layer request) refl
  where
    lc : LayerSettings
    lc = layer_settings c

    lk : LinkSettings
    lk = link_settings c

    full : Bool
    full = waits s.link.outgoing == 256

    view : LinkView
    view = view_given (link_settings c) g s.turn s.link

    accepted : (next : Layer) (put : Option PlainPacket) → is_up s.link.phase ≡ true → layer_outcome lc full s.layer request ≡ Accepted next put
        → AreTaken lk g (option_to_list put) (alone s.link)
    accepted next None up found = tt
    accepted next (Some p) up found = (accepts s.link up (below (waits s.link.outgoing) kept.few (has_room lc full s.layer request next p found)), tt)

    at : (b : Bool) → is_up s.link.phase ≡ b → (o : LayerOutcome) → layer_outcome lc full s.layer request ≡ o
        → KeptBy (gave c g (is_taken c g request) (alone s.link) (entries_of_outcome lc s.layer request o)
        (if b then went view lc o else Refuses layer_error.NotUp))
    at false up o found = tt
    at true up (Declined e) found = tt
    at true up (Accepted next put) found =
        let p : Putting = rounds view lc (begin next put) in
        if_taken (is_taken c g request) (with_given c g (alone s.link) p (entries_of_outcome lc s.layer request (Accepted next put))) (record {
          few = given_few lk g p.put (alone s.link)
              (rounds_given tells s.turn lk g s.link lc (begin next put) up (accepted next put up found)) kept.few;
          rests = λ is. absurd (true_false (sym (given_up tells lk g p.put (alone s.link) up) ∙ is));
        })

-- ---- few frames

given_lower : (c : LinkSettings) (g : PlainGiven) (packets : List PlainPacket) (t : Side) → count_of c.window (all_given c g packets t) ≤ count_of c.window t
given_lower c g [] t = omega arith
given_lower c g (p ∷ packets) t =
    let octets = write g (packet.spelling_of p) in
    le_trans (all_lower c packets (behind t (put_step c octets t.near).side)) (put_lower c octets t)

few_given : (c : LinkSettings) (g : PlainGiven) (packets : List PlainPacket) (s : LinkStation) → c.window ≤ 7 → s.outgoing.acked ≤ s.outgoing.place
    → length (all_given c g packets (alone s)).out ≤ 8
few_given c g packets s small low =
    let lower = given_lower c g packets (alone s) in
    let one = said_few s.said_busy in
    omega (arith, lower, small, low, one)

-- ---- the calls, by the layer's clauses

abbrev pub LayersGiven : {T : Type 0} → PlainGiven → ShownLink → layer_code.Layer → ℕ → layer_code.Layer → Result T LayerError → LayerRequest → Type 0
LayersGiven g l y turn z result request = (d : LayerSettings) (k : Layer) (x : LinkState) → FitsLayer d y k → FitsWhole l x
    → LayerGives d z result (calls (seen_with g turn x) d k request)

abbrev pub LinksGiven : {T : Type 0} → PlainGiven → ShownLink → ShownLink → layer_code.Layer → ℕ → Result T LayerError → LayerRequest → Type 0
LinksGiven g l m y turn result request = (d : LayerSettings) (k : Layer) (x : LinkState) → FitsLayer d y k → FitsWhole l x
    → GoesWith m g x result (calls (seen_with g turn x) d k request)

abbrev pub TurnsGiven : {T : Type 0} → PlainGiven → ShownLink → layer_code.Layer → ℕ → ℕ → Result T LayerError → LayerRequest → Type 0
TurnsGiven g l y turn turn₂ result request = (d : LayerSettings) (k : Layer) (x : LinkState) → FitsLayer d y k → FitsWhole l x
    → TurnGives turn₂ result (calls (seen_with g turn x) d k request)

pub none_of : {A : Type 0} (o : Option A) → ((a : A) → o ≡ Some a → ⊥) → o ≡ None
none_of None other = refl
none_of (Some a) other = absurd (other a refl)

abbrev pub answered_given : Settings → PlainGiven → Station → LayerRequest → Answered
answered_given c g s request = calls (view_given (link_settings c) g s.turn s.link) (layer_settings c) s.layer request

abbrev pub entries_given : Settings → Station → LayerRequest → List StationEntry
entries_given c s request = entries_of_outcome (layer_settings c) s.layer request
    (layer_outcome (layer_settings c) (waits s.link.outgoing == 256) s.layer request)

pub layer_given : {manner : Manner} {turn : ℕ} {T : Type 0} (result : Result T LayerError) (c : Settings) (g : PlainGiven) (l : ShownLink) (y z : layer_code.Layer)
    (s : Station) (request : LayerRequest) → FitsParts c manner l y turn s
    → LayersGiven g l y turn z result request → LayerGives (layer_settings c) z result (answered_given c g s request)
layer_given result c g l y z s request fits clause =
    subst (λ (view : LinkView). LayerGives (layer_settings c) z result (calls view (layer_settings c) s.layer request)) (seen_given (link_settings c) g s.turn s.link)
    (subst (λ (at : ℕ). LayersGiven g l y at z result request) fits.turned clause (layer_settings c) s.layer (kept_of (link_settings c) (alone s.link))
    fits.layer (record { link = fits.link; kept = fits.sent }))

turn_given : {manner : Manner} {turn : ℕ} (turn₂ : ℕ) {T : Type 0} (result : Result T LayerError) (c : Settings) (g : PlainGiven) (l : ShownLink)
    (y : layer_code.Layer) (s : Station) (request : LayerRequest) → FitsParts c manner l y turn s → TurnsGiven g l y turn turn₂ result request
    → TurnGives turn₂ result (answered_given c g s request)
turn_given turn₂ result c g l y s request fits clause =
    subst (λ (view : LinkView). TurnGives turn₂ result (calls view (layer_settings c) s.layer request)) (seen_given (link_settings c) g s.turn s.link)
    (subst (λ (at : ℕ). TurnsGiven g l y at turn₂ result request) fits.turned clause (layer_settings c) s.layer (kept_of (link_settings c) (alone s.link))
    fits.layer (record { link = fits.link; kept = fits.sent }))

abbrev LinkLeft : Settings → PlainGiven → LinkStation → ShownLink → Answered → Type 0
LinkLeft c g s m (Went p) = FitsWhole m (kept_of (link_settings c) (all_given (link_settings c) g p.put (alone s)))
LinkLeft c g s m (Refuses e) = Unit {0}

left_by : {T : Type 0} (u : T) (c : Settings) (g : PlainGiven) (s : LinkStation) (m : ShownLink) (a : Answered)
    → (let r : Result T LayerError = Ok u in GoesWith m g (kept_of (link_settings c) (alone s)) r a)
    → LinkLeft c g s m a
left_by u c g s m (Went p) h = subst (λ (x : LinkState). FitsWhole m x) (given_by_put (link_settings c) g p.put (alone s)) h
left_by u c g s m (Refuses e) h = tt

link_given : {manner : Manner} {turn : ℕ} {T : Type 0} (u : T) (c : Settings) (g : PlainGiven) (l m : ShownLink) (y : layer_code.Layer) (s : Station)
    (request : LayerRequest) → FitsParts c manner l y turn s
    → (let r : Result T LayerError = Ok u in LinksGiven g l m y turn r request) → LinkLeft c g s.link m (answered_given c g s request)
link_given {T = T} u c g l m y s request fits clause =
    let r : Result T LayerError = Ok u in
    left_by u c g s.link m (answered_given c g s request)
    (subst (λ (view : LinkView). GoesWith m g (kept_of (link_settings c) (alone s.link)) r (calls view (layer_settings c) s.layer request))
    (seen_given (link_settings c) g s.turn s.link)
    (subst (λ (at : ℕ). LinksGiven g l m y at r request) fits.turned clause (layer_settings c) s.layer (kept_of (link_settings c) (alone s.link))
    fits.layer (record { link = fits.link; kept = fits.sent })))

-- ---- an accepted call

leaves_given : {T : Type 0} {manner : Manner} (u : T) (c : Settings) (g : PlainGiven) → manner ≡ manner_of c
    → (s : LinkStation) (m n : ShownLink) (z : layer_code.Layer) (turn : ℕ) (entries : List StationEntry) (a : Answered)
    → LayerGives (layer_settings c) z (Ok u) a → LinkLeft c g s m a → TurnGives turn (Ok u) a → n.station ≡ m.station → n.frames ≡ [] → KeptBy (gave c g true (alone s) entries a)
    → station.LeavesParts {T = Unit} c manner n z turn (Ok tt) (gave c g true (alone s) entries a)
leaves_given u c g as_set s m n z turn entries (Went p) layer link turns same none kept = record {
  link = taken_link (link_settings c) m n _ same link.link;
  layer = layer;
  turned = turns;
  kept = kept;
  sent = none;
  same = as_set;
}
leaves_given u c g as_set s m n z turn entries (Refuses e) layer link turns same none kept = absurd (ok_err u e layer)

sends_given : (c : Settings) (g : PlainGiven) (s : LinkStation) (m : ShownLink) (r : code_step.Step) (entries : List StationEntry) (a : Answered)
    → LinkLeft c g s m a → r.frames ≡ m.frames
    → station.Sends {T = Unit} c r (Ok tt) (gave c g true (alone s) entries a)
sends_given c g s m r entries (Went p) link made = made ∙ link.kept
sends_given c g s m r entries (Refuses e) link made = tt

enters_given : (c : Settings) (g : PlainGiven) (s : LinkStation) (r : code_step.Step) (entries : List StationEntry) (a : Answered)
    → ((p : Putting) → a ≡ Went p → r.entries.items ≡ entries)
    → station.Enters {T = Unit} r (Ok tt) (gave c g true (alone s) entries a)
enters_given c g s r entries (Went p) entered = entered p refl
enters_given c g s r entries (Refuses e) entered = tt

goes_given : {T : Type 0} (u : T) (c : Settings) (g : PlainGiven) (s : LinkStation) (z : layer_code.Layer) (entries : List StationEntry) (a : Answered)
    → LayerGives (layer_settings c) z (Ok u) a
    → station.Refuses {T = Unit} (Ok tt) (gave c g true (alone s) entries a)
goes_given u c g s z entries (Went p) layer = tt
goes_given u c g s z entries (Refuses e) layer = absurd (ok_err u e layer)

frames_given : {T : Type 0} (u : T) (c : Settings) (g : PlainGiven) (s : LinkStation) (m : ShownLink) (z : layer_code.Layer) (a : Answered)
    → (link_settings c).window ≤ 7 → s.outgoing.acked ≤ s.outgoing.place → LayerGives (layer_settings c) z (Ok u) a
    → LinkLeft c g s m a → length m.frames ≤ 8
frames_given u c g s m z (Went p) small low layer link = few_made c.role m.frames (all_given (link_settings c) g p.put (alone s)).out 8 link.kept
    (few_given (link_settings c) g p.put s small low)
frames_given u c g s m z (Refuses e) small low layer link = absurd (ok_err u e layer)

-- by how the station reads packets
abbrev pub TakesIt : Manner → PlainGiven → LayerRequest → Type 0
TakesIt manner g request = (manner.wide && (may_give g && suits g request)) ≡ true

pub as_told : (b : Bool) (manner : Manner) (c : Settings) (g : PlainGiven) (request : LayerRequest) → manner ≡ manner_of c
    → (manner.wide && (may_give g && suits g request)) ≡ b → is_taken c g request ≡ b
as_told b manner c g request same is = sym (ap (λ (m : Manner). m.wide && (may_give g && suits g request)) same) ∙ is

-- the outcome, taken or not
abbrev outcome_at : Settings → PlainGiven → Station → LayerRequest → Bool → Outcome
outcome_at c g s request taken = gives_of c s.link g taken s request

pub record GivenAnswers (c : Settings) (manner : Manner) (n : ShownLink) (z : layer_code.Layer) (turn : ℕ) (r : code_step.Step) (outcome : Outcome) : Type 0 where
  pub state : station.LeavesParts {T = Unit} c manner n z turn (Ok tt) outcome
  pub frames : station.Sends {T = Unit} c r (Ok tt) outcome
  pub refused : station.Refuses {T = Unit} (Ok tt) outcome

pub answers_given : {manner : Manner} {turn turn₂ : ℕ} {T : Type 0} (u : T) (c : Settings) (g : PlainGiven) (l m n : ShownLink) (y z : layer_code.Layer) (r : code_step.Step)
    (s : Station) (request : LayerRequest) → FitsParts c manner l y turn s
    → (let x : Result T LayerError = Ok u in LayersGiven g l y turn z x request) → (let x : Result T LayerError = Ok u in LinksGiven g l m y turn x request)
    → (let x : Result T LayerError = Ok u in TurnsGiven g l y turn turn₂ x request) → n.station ≡ m.station → n.frames ≡ [] → r.frames ≡ m.frames → GivenKeeps → TakesIt manner g request → GivenAnswers c manner n z turn₂ r (gives c s g request)
answers_given {manner = manner} {turn₂ = turn₂} {T = T} u c g l m n y z r s request fits layers links turns same none made keeps takes =
    let x : Result T LayerError = Ok u in
    let taken : is_taken c g request ≡ true = as_told true manner c g request fits.same takes in
    let a : Answered = answered_given c g s request in
    let layer = layer_given x c g l y z s request fits layers in
    let link = link_given u c g l m y s request fits links in
    let turned = turn_given turn₂ x c g l y s request fits turns in
    let entries : List StationEntry = entries_given c s request in
    let kept : KeptBy (outcome_at c g s request true) = subst (λ (b : Bool). KeptBy (outcome_at c g s request b)) taken (keeps c s g request fits.kept) in
    subst (λ (b : Bool). GivenAnswers c manner n z turn₂ r (outcome_at c g s request b)) (sym taken) (record {
      state = leaves_given u c g fits.same s.link m n z turn₂ entries a layer link turned same none kept;
      frames = sends_given c g s.link m r entries a link made;
      refused = goes_given u c g s.link z entries a layer;
    })

-- ---- its entries

went_fits : {T : Type 0} (u : T) (c : Settings) (z : layer_code.Layer) (a : Answered) (p : Putting) → LayerGives (layer_settings c) z (Ok u) a → a ≡ Went p
    → FitsLayer (layer_settings c) z p.layer
went_fits u c z a p gives is = subst (λ (x : Answered). LayerGives (layer_settings c) z (Ok u) x) is gives

entered_at : (c : Settings) (g : PlainGiven) (s : Station) (r : code_step.Step) (request : LayerRequest) (manner : Manner) → manner ≡ manner_of c
    → TakesIt manner g request
    → ((p : Putting) → answered_given c g s request ≡ Went p → r.entries.items ≡ entries_given c s request)
    → station.Enters {T = Unit} r (Ok tt) (gives c s g request)
entered_at c g s r request manner same takes entered =
    subst (λ (b : Bool). station.Enters {T = Unit} r (Ok tt) (outcome_at c g s request b)) (sym (as_told true manner c g request same takes))
    (enters_given c g s.link r (entries_given c s request) (answered_given c g s request) entered)

pub asked_given : {T : Type 0} {manner : Manner} {turn : ℕ} (u : T) (c : Settings) (g : PlainGiven) (l : ShownLink) (y z : layer_code.Layer) (s : Station)
    (r : code_step.Step) (h : ℕ) (request : circuit.Request) → FitsParts c manner l y turn s
    → (let x : Result T LayerError = Ok u in LayersGiven g l y turn z x (Asks h request)) → TakesIt manner g (Asks h request)
    → ((k : Layer) → FitsLayer (layer_settings c) z k → is_channel c.channels h ≡ true → IsBrief request → r.entries.items
    ≡ of_channel (record { channel = h; name = name_of k h; said = Asked (shown (k.circuits h) request) }) ∷ [])
    → station.Enters {T = Unit} r (Ok tt) (gives c s g (Asks h request))
asked_given {T = T} {manner = manner} u c g l y z s r h request fits layers takes entered =
    let x : Result T LayerError = Ok u in
    let view : LinkView = view_given (link_settings c) g s.turn s.link in
    let lc : LayerSettings = layer_settings c in
    entered_at c g s r (Asks h request) manner fits.same takes (λ p is.
    entered p.layer (went_fits u c z _ p (layer_given x c g l y z s (Asks h request) fits layers) is) (asked_channel view lc s.layer h request p is)
    (asked_brief view lc fits.layer.message s.layer h request p is) ∙ sym (asked_entry view lc s.layer h request p is))

pub dialled_given : {manner : Manner} {turn : ℕ} (c : Settings) (g : PlainGiven) (l : ShownLink) (y z : layer_code.Layer) (s : Station) (r : code_step.Step) (h : ℕ)
    (called calling user : List ℕ) (proposal : Proposal) → FitsParts c manner l y turn s
    → (let x : Result ℕ LayerError = Ok h in LayersGiven g l y turn z x (Dials called calling user proposal)) → TakesIt manner g (Dials called calling user proposal)
    → free_channel c.role s.layer.circuits c.channels ≡ Some h
    → ((k : Layer) → FitsLayer (layer_settings c) z k → is_channel c.channels h ≡ true → IsBrief (circuit.Calls called calling user proposal) →
    r.entries.items ≡ of_channel
    (record { channel = h; name = name_of k h; said = Asked (circuit.Calls called calling user (in_brief proposal.params)) }) ∷ [])
    → station.Enters {T = Unit} r (Ok tt) (gives c s g (Dials called calling user proposal))
dialled_given {manner = manner} c g l y z s r h called calling user proposal fits layers takes free entered =
    let x : Result ℕ LayerError = Ok h in
    let view : LinkView = view_given (link_settings c) g s.turn s.link in
    let lc : LayerSettings = layer_settings c in
    let request : LayerRequest = Dials called calling user proposal in
    entered_at c g s r request manner fits.same takes (λ p is.
    entered p.layer (went_fits h c z _ p (layer_given x c g l y z s request fits layers) is) (free_is_channel c.role s.layer.circuits c.channels h free)
    (dialled_brief view lc fits.layer.message s.layer called calling user proposal p is)
    ∙ sym (dialled_entry view lc s.layer h called calling user proposal p is free))

-- From the link and the layer of the old station its call led to the link m, from which the frames were taken, and to the layer of the new one.
pub did_given : {T : Type 0} (u : T) (old new : code.Station) (m : ShownLink) (r : code_step.Step) (g : PlainGiven) (request : LayerRequest)
    → (let x : Result T LayerError = Ok u in LayersGiven g old.link old.layer old.turn new.layer x request)
    → (let x : Result T LayerError = Ok u in LinksGiven g old.link m old.layer old.turn x request)
    → (let x : Result T LayerError = Ok u in TurnsGiven g old.link old.layer old.turn new.turn x request)
    → new.link.station ≡ m.station → new.link.frames ≡ [] → r.frames ≡ m.frames → GivenKeeps → WindowIsSmall → FewStand → TakesIt old.manner g request
    → ((c : Settings) (s : Station) → FitsStation c old s → station.Enters {T = Unit} r (Ok tt) (gives c s g request)) → old.manner ≡ new.manner
    → Does old new r (Ok tt) (λ c s. gives c s g request)
did_given {T = T} u old new m r g request layers links turns same none made keeps small stand takes entered manner =
    let x : Result T LayerError = Ok u in
    let parts : (c : Settings) (s : Station) → FitsStation c old s → GivenAnswers c new.manner new.link new.layer new.turn r (gives c s g request) =
    λ c s fits. answers_given u c g old.link m new.link old.layer new.layer r s request
    (subst (λ (b : Manner). FitsParts c b old.link old.layer old.turn s) manner fits) layers links turns same none made keeps
    (subst (λ (b : Manner). TakesIt b g request) manner takes) in
    let put : length m.frames ≤ 8 = least_by_meaning old.link old.layer (length m.frames) 8 old.meant (λ c s fits.
    frames_given u c g s.link m new.layer (answered_given c g s request) (small (link_settings c) old.link s.link fits.link)
    (stand (link_settings c) old.link s.link fits.link).place_low
    (layer_given x c g old.link old.layer new.layer s request fits layers) (link_given u c g old.link m old.layer s request fits links)) in
    let alike : length r.frames ≡ length m.frames = ap length made in
    record {
      state = λ c s fits. (parts c s fits).state;
      frames = λ c s fits. (parts c s fits).frames;
      entries = entered;
      refused = λ c s fits. (parts c s fits).refused;
      stays = λ c s fits. tt;
      empty = tt;
      few_frames = omega (arith, put, alike);
      few_entries = r.entries.few;
    }

-- ---- a refused call

refused_at : (found : StationError) (e : LayerError) → found ≡ of_layer e
    → (c : Settings) (g : PlainGiven) (taken : Bool) (t : Side) (entries : List StationEntry) (a : Answered) → IsNamed a → Some e ≡ refusal_of a
    → (let x : Result Unit StationError = Err found in station.Refuses x (gave c g taken t entries a))
refused_at found e is c g taken t entries (Went p) named refusal = absurd (none_there refusal)
  where
    none_there : Some e ≡ None → ⊥
    none_there h = cc
refused_at found e is c g taken t entries (Refuses x) named refusal = is ∙ ap of_layer (same refusal) ∙ named
  where
    same : Some e ≡ Some x → e ≡ x
    same h = cc

-- the layer's own refusal is the same, whatever is given
refusal_same : (v w : LinkView) (c : LayerSettings) (o : LayerOutcome) (b : Bool) → refusal_of (if b then went v c o else Refuses layer_error.NotUp)
    ≡ refusal_of (if b then went w c o else Refuses layer_error.NotUp)
refusal_same v w c (Accepted next put) true = refl
refusal_same v w c (Declined e) true = refl
refusal_same v w c o false = refl

judged_same : (turn : ℕ) (c : Settings) (g : PlainGiven) (s : Station) (request : LayerRequest)
    → refusal_of (calls (over.seen_at turn (kept_of (link_settings c) (alone s.link))) (layer_settings c) s.layer request)
    ≡ refusal_of (answered_given c g s request)
judged_same turn c g s request =
    ap (λ (view : LinkView). refusal_of (calls view (layer_settings c) s.layer request)) (same_view (link_settings c) turn (alone s.link))
    ∙ refusal_same (view_of (link_settings c) turn s.link) (view_given (link_settings c) g s.turn s.link) (layer_settings c)
    (layer_outcome (layer_settings c) (waits s.link.outgoing == 256) s.layer request) (is_up s.link.phase)

judged : (o : Option LayerError) (old : code.Station) (c : Settings) (g : PlainGiven) (s : Station) (request : LayerRequest) → FitsStation c old s
    → Judges o old.link old.layer request → o ≡ refusal_of (answered_given c g s request)
judged o old c g s request fits judges =
    judges (layer_settings c) s.layer s.turn (kept_of (link_settings c) (alone s.link)) fits.layer (record { link = fits.link; kept = fits.sent })
    ∙ judged_same s.turn c g s request

pub declines_early : (found : StationError) (e : LayerError) (old new : code.Station) (out : code_step.Step) (g : PlainGiven) (request : LayerRequest) → found
    ≡ of_layer e → Judges (Some e) old.link old.layer request
    → ((c : Settings) (s : Station) → FitsStation c old s → FitsStation c new s) → IsEmpty out
    → Does old new out (Err found) (λ c s. gives c s g request)
declines_early found e old new out g request is judges stays empty =
    declines old new out found (λ c s. gives c s g request) (λ c s fits.
    refused_at found e is c g (is_taken c g request) (alone s.link) (entries_given c s request) (answered_given c g s request)
    (calls_named (view_given (link_settings c) g s.turn s.link) (layer_settings c) s.layer request) (judged (Some e) old c g s request fits judges))
    stays empty

only_at : (found : StationError) (e : LayerError) → found ≡ of_layer e
    → (c : Settings) (g : PlainGiven) (taken : Bool) (t : Side) (entries : List StationEntry) (a : Answered) → IsNamed a → Some e ≡ refusal_of a
    → (let x : Result Unit StationError = Err found in station.RefusesOnly x (gave c g taken t entries a))
only_at found e is c g taken t entries (Went p) named refusal = absurd (none_there refusal)
  where
    none_there : Some e ≡ None → ⊥
    none_there h = cc
only_at found e is c g taken t entries (Refuses x) named refusal = ap (λ (f : StationError). let r : Result Unit StationError = Err f in r)
    (is ∙ ap of_layer (same refusal) ∙ named)
  where
    same : Some e ≡ Some x → e ≡ x
    same h = cc

pub only_early : (found : StationError) (e : LayerError) (old : code.Station) (g : PlainGiven) (request : LayerRequest) → found ≡ of_layer e
    → Judges (Some e) old.link old.layer request → (c : Settings) (s : Station) → FitsStation c old s
    → (let x : Result Unit StationError = Err found in station.RefusesOnly x (gives c s g request))
only_early found e old g request is judges c s fits =
    only_at found e is c g (is_taken c g request) (alone s.link) (entries_given c s request) (answered_given c g s request)
    (calls_named (view_given (link_settings c) g s.turn s.link) (layer_settings c) s.layer request) (judged (Some e) old c g s request fits judges)

not_taken_at : (c : Settings) (g : PlainGiven) (taken : Bool) (t : Side) (entries : List StationEntry) (a : Answered) → taken ≡ false → None ≡ refusal_of a
    → (let x : Result Unit StationError = Err not_taken in station.Refuses x (gave c g taken t entries a))
not_taken_at c g taken t entries (Went p) is refusal =
    subst (λ (b : Bool). (let x : Result Unit StationError = Err not_taken in station.Refuses x (gave c g b t entries (Went p)))) (sym is) refl
not_taken_at c g taken t entries (Refuses x) is refusal = absurd (none_there refusal)
  where
    none_there : None ≡ Some x → ⊥
    none_there h = cc

pub declines_given : (old new : code.Station) (out : code_step.Step) (g : PlainGiven) (request : LayerRequest) → Judges None old.link old.layer request
    → (old.manner.wide && (may_give g && suits g request)) ≡ false
    → ((c : Settings) (s : Station) → FitsStation c old s → FitsStation c new s) → IsEmpty out
    → Does old new out (Err not_taken) (λ c s. gives c s g request)
declines_given old new out g request judges not stays empty =
    declines old new out not_taken (λ c s. gives c s g request) (λ c s fits.
    not_taken_at c g (is_taken c g request) (alone s.link) (entries_given c s request) (answered_given c g s request)
    (as_told false old.manner c g request fits.same not) (judged None old c g s request fits judges))
    stays empty

late_at : (T : Type 0) (found : StationError) (e : LayerError) → found ≡ of_layer e
    → (c : Settings) (g : PlainGiven) (z : layer_code.Layer) (t : Side) (entries : List StationEntry) (a : Answered) → IsNamed a
    → (let x : Result T LayerError = Err e in LayerGives (layer_settings c) z x a)
    → (let x : Result Unit StationError = Err found in station.Refuses x (gave c g true t entries a))
late_at T found e is c g z t entries (Went p) named layer = is ∙ ap of_layer layer
late_at T found e is c g z t entries (Refuses x) named layer = is ∙ ap of_layer (err_is T LayerError e x layer) ∙ named

pub declines_late : (T : Type 0) (e : LayerError) (found : StationError) (old new : code.Station) (out : code_step.Step) (g : PlainGiven)
    (request : LayerRequest) → found ≡ of_layer e
    → (let x : Result T LayerError = Err e in LayersGiven g old.link old.layer old.turn new.layer x request) → TakesIt old.manner g request
    → ((d : LayerSettings) (k : Layer) → FitsLayer d old.layer k → FitsLayer d new.layer k)
    → ((x : LinkState) → FitsWhole old.link x → FitsWhole new.link x) → new.turn ≡ old.turn → IsEmpty out → old.manner ≡ new.manner
    → Does old new out (Err found) (λ c s. gives c s g request)
declines_late T e found old new out g request is layers takes layer_stays link_stays turn_stays empty manner =
    let r : Result T LayerError = Err e in
    declines old new out found (λ c s. gives c s g request) (λ c s fits.
    subst (λ (b : Bool). (let x : Result Unit StationError = Err found in station.Refuses x (outcome_at c g s request b)))
    (sym (as_told true old.manner c g request fits.same takes))
    (late_at T found e is c g new.layer (alone s.link) (entries_given c s request) (answered_given c g s request)
    (calls_named (view_given (link_settings c) g s.turn s.link) (layer_settings c) s.layer request)
    (layer_given r c g old.link old.layer new.layer s request fits layers)))
    (λ c s fits. subst (λ (at : ℕ). FitsParts c new.manner new.link new.layer at s) (sym turn_stays)
    (still_fits c old.link new.link old.layer new.layer s (subst (λ (b : Manner). FitsParts c b old.link old.layer old.turn s) manner fits)
    (layer_stays (layer_settings c) s.layer fits.layer) link_stays)) empty

-- so that the station stands for some state again
pub meant_given : {T : Type 0} {manner : Manner} {turn turn₂ : ℕ} (u : T) (g : PlainGiven) (l m n : ShownLink) (y z : layer_code.Layer) (r : code_step.Step)
    (request : LayerRequest) → AreMeant manner l y turn
    → (let x : Result T LayerError = Ok u in LayersGiven g l y turn z x request) → (let x : Result T LayerError = Ok u in LinksGiven g l m y turn x request)
    → (let x : Result T LayerError = Ok u in TurnsGiven g l y turn turn₂ x request) → n.station ≡ m.station → n.frames ≡ [] → r.frames ≡ m.frames → GivenKeeps → TakesIt manner g request → AreMeant manner n z turn₂
meant_given {manner = manner} {turn₂ = turn₂} u g l m n y z r request meant layers links turns same none made keeps takes =
    still_meant l n y z meant (λ c s fits.
    let a = answers_given u c g l m n y z r s request fits layers links turns same none made keeps takes in
    leaves_some c n z turn₂ (gives c s g request) a.state a.refused)

-- ---- an acceptance on a channel that isn't configured is refused, whatever it says

pub given_nowhere : (c : Settings) (s : Station) (g : PlainGiven) (h : ℕ) → is_channel c.channels h ≡ false → (a b : Option Proposal)
    → gives c s g (Asks h (circuit.Accepts a)) ≡ gives c s g (Asks h (circuit.Accepts b))
given_nowhere c s g h nowhere a b = by s.layer.restarting
  where
    lc : LayerSettings
    lc = layer_settings c

    full : Bool
    full = waits s.link.outgoing == 256

    at : circuit.Request → LayerOutcome → Outcome
    at r o = gave c g (c.wide && (may_give g && true)) (alone s.link) (entries_of_outcome lc s.layer (Asks h r) o)
        (if is_up s.link.phase then went (view_given (link_settings c) g s.turn s.link) lc o else Refuses layer_error.NotUp)

    there : circuit.Request → Bool → Outcome
    there r b = at r (if b then if_at_once (puts_at_once r) full
        (outcome_on s.layer.restarts s.layer.circuits h (circuit.outcome lc.circuit (s.layer.circuits h) r)) else Declined layer_error.NoSuchChannel)

    by : (busy : Bool) → at (circuit.Accepts a) (outcome_in lc full busy s.layer.restarts s.layer.circuits (Asks h (circuit.Accepts a)))
        ≡ at (circuit.Accepts b) (outcome_in lc full busy s.layer.restarts s.layer.circuits (Asks h (circuit.Accepts b)))
    by true = refl
    by false = ap (there (circuit.Accepts a)) nowhere ∙ sym (ap (there (circuit.Accepts b)) nowhere)
