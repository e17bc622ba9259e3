-- Two ends in the sessions that stand: worlds that events lead to, what holds of them where both ends are Up, and what deliveries keep.
use Rattle.x25_line.proofs.Names.{◌≡◌, ℕ, ◌+◌, ◌%◌, ◌≤◌, List, [], ◌∷◌, ◌++◌, length, true, false, Some, Ok, refl, sym, ap, ◌∙◌, subst, arith, le-leb}
use Rattle.x25_line.proofs.Names.{PlainFrame, info, rr, rnr, rej, frame_of, ReadsSpelled, resolved, Frame, LinkSettings, LinkStation, is_up, other, is_valid}
use Rattle.x25_line.proofs.Names.{timer_runs, timer_step, Shows, ShowAll, IsSound, IsAtRest, heard, AreJoined, number_in, AreWhole, Entry, Sessions, sent_in}
use Rattle.x25_line.proofs.Names.{IsStart, after_step, acts, swapped, happens, run, IsTimely, IsTimelyAt, AreTimely, Each, Throughout, IsDelivery, HealingLaws}
use Rattle.x25_line.proofs.{Frames.{Acks-le}, HealingLines.{Reads, reads_more}, HealingRuns.{Fit, fit_from}}
use Rattle.x25_line.proofs.{Kept.{Kept, Kept-swapped, Way, hears_valid, Way-acked, resolved_is}, Names.{Line, line_swapped, Deliver, T1, LinkEvent, Near, Far}}
use Rattle.x25_line.proofs.{StationLines.{front_of, consed}, StationSteps.{AsUp, not_both}, sessions.SessionActs.{up_in_session}}
use Rattle.x25_line.proofs.sessions.{SessionLines.{numbers}, SessionRuns.{HeldOf, held_swapped, throughout}}
use Rattle.x25_link.specs.laws.RestLaw.{HasSaidAll}

-- ---- worlds that events lead to

pub record Reached (c d : LinkSettings) (w : Sessions) : Type 0 where
  pub begin : Sessions
  pub start : IsStart begin
  pub events : List LinkEvent
  pub timely : AreTimely c d events begin
  pub is : run c d events begin ≡ w

-- a run in two parts
pub links_append : (c d : LinkSettings) (es fs : List LinkEvent) (w : Sessions) → run c d (es ++ fs) w ≡ run c d fs (run c d es w)
links_append c d [] fs w = refl
links_append c d (e ∷ es) fs w = links_append c d es fs (happens c d e w)

pub timely_append : (c d : LinkSettings) (es fs : List LinkEvent) (w : Sessions) → AreTimely c d es w → AreTimely c d fs (run c d es w)
    → AreTimely c d (es ++ fs) w
timely_append c d [] fs w h g = g
timely_append c d (e ∷ es) fs w h g = (h.0, timely_append c d es fs (happens c d e w) h.1 g)

-- a world that was reached, after one more event
pub then_happens : {c d : LinkSettings} (e : LinkEvent) {w : Sessions} → IsTimelyAt c d e w → Reached c d w → Reached c d (happens c d e w)
then_happens {c} {d} e timely r = record {
  begin = r.begin;
  start = r.start;
  events = r.events ++ e ∷ [];
  timely = timely_append c d r.events (e ∷ []) r.begin r.timely (subst (IsTimelyAt c d e) (sym r.is) timely, tt);
  is = links_append c d r.events (e ∷ []) r.begin ∙ ap (happens c d e) r.is;
}

-- timer T1 is timely where the end is Up
pub timely_up : (c d : LinkSettings) (w : Sessions) → is_up w.near.station.phase ≡ true → IsTimely c d T1 w
timely_up c d w up = λ waits. not_both (is_up w.near.station.phase) up (ap is_up waits)

pub at_reached : (Holds : LinkSettings → LinkSettings → Sessions → Type 0) → Throughout Holds → {c d : LinkSettings} → AreJoined c d → {w : Sessions}
    → Reached c d w
    → Holds c d w
at_reached Holds always {c} {d} joined r = subst (Holds c d) r.is (always c d joined r.begin r.start r.events r.timely)

-- ---- both ends are Up

-- the machine is behind, and both ends have said all that they may
pub record Sound (c d : LinkSettings) (w : Sessions) : Type 0 where
  pub line : Line (List ℕ)
  pub kept : Kept line
  pub near : AsUp c w.near.station line.near
  pub far : AsUp d w.far.station line.far
  pub out : ShowAll (numbers (other d.role) d.longest w.out) line.out
  pub back : ShowAll (numbers (other c.role) c.longest w.back) line.back
  pub near_said : HasSaidAll c.window w.near.station
  pub far_said : HasSaidAll d.window w.far.station

-- seen from the other end
pub sound_swapped : {c d : LinkSettings} {w : Sessions} → Sound c d w → Sound d c (swapped w)
sound_swapped h = record {
  line = line_swapped h.line;
  kept = Kept-swapped h.kept;
  near = h.far;
  far = h.near;
  out = h.back;
  back = h.out;
  near_said = h.far_said;
  far_said = h.near_said;
}

-- an end that is Up has numbers in order, and has said all that it may
pub record IsInOrderIfUp (c : LinkSettings) (s : LinkStation) : Type 0 where
  pub sound : is_up s.phase ≡ true → IsSound c.window s.outgoing
  pub said : HasSaidAll c.window s

-- so it is at rest where timer T1 doesn't run
pub stopped_rests : HealingLaws → {c : LinkSettings} → 1 ≤ c.window → {s : LinkStation} → IsInOrderIfUp c s → is_up s.phase ≡ true
    → timer_runs s.phase s ≡ false → IsAtRest s
stopped_rests laws {c} low {s} h up stopped = record { idle = laws.rest.no_timer c.window s low (h.sound up) h.said up stopped; no_timer = stopped }

-- all that was sent may be read
abbrev pub SentWhole : ℕ → List PlainFrame → Type 0
SentWhole n1 frames = (given : List (List ℕ)) × AreWhole n1 given frames

module _ (reads : ReadsSpelled) (laws : HealingLaws) (c d : LinkSettings) (joined : AreJoined c d) (w : Sessions) (r : Reached c d w) where
  held : HeldOf c d w
  held = at_reached HeldOf (throughout reads laws.sessions) joined r

  fit : Fit c d w
  fit = at_reached Fit (λ c d joined begin is events timely. fit_from laws joined is events) joined r

  -- behind two ends that are both Up there is the machine, in order
  pub sound_at : is_up w.near.station.phase ≡ true → is_up w.far.station.phase ≡ true → Sound c d w
  sound_at up far_up =
      let line = held.0.machine in
      let h = held.1 in
      let near = up_in_session c d w h up in
      let far = up_in_session d c (swapped w) (held_swapped c d joined w h) far_up in
      record {
        line = line;
        kept = h.holds.kept;
        near = subst (λ s. AsUp c s line.near) near.is.station near.machine;
        far = subst (λ s. AsUp d s line.far) far.is.station far.machine;
        out = rw far.is.comes h.holds.out;
        back = rw near.is.comes h.holds.back;
        near_said = fit.0.said;
        far_said = fit.1.said;
      }

  -- each end has said what it has to, and counts soundly where it is Up
  pub in_order_at : IsInOrderIfUp c w.near.station × IsInOrderIfUp d w.far.station
  in_order_at = (
    record { sound = λ up. (up_in_session c d w held.1 up).running.sound; said = fit.0.said },
    record { sound = λ up. (up_in_session d c (swapped w) (held_swapped c d joined w held.1) up).running.sound; said = fit.1.said },
  )

  -- all that was sent may be read
  pub whole_at : SentWhole d.longest w.sent
  whole_at = (let h = held.1.whole in (h.given, h.whole))

-- what the near end counts as acknowledged was taken by the far end, and what that took was sent
pub record Counted (k : ℕ) (near far : LinkStation) : Type 0 where
  pub acked : near.outgoing.acked ≤ length far.taken
  pub taken : length far.taken ≤ near.outgoing.sent
  pub room : near.outgoing.sent ≤ near.outgoing.acked + k

pub counted : {c d : LinkSettings} {w : Sessions} → Sound c d w → Counted c.window w.near.station w.far.station
counted h =
    let u = h.near in
    let v = h.far in
    let bounds = Way-acked h.kept.from_near in
    let acked = ap (λ z. z.acked) u.same in
    let sent = ap (λ z. z.sent) u.same in
    let taken = ap (λ z. length z.taken) v.same in
    record { acked = omega (arith, bounds.0, acked, taken); taken = omega (arith, bounds.1, sent, taken); room = u.sound.room }

-- the number that stands for all that the far end has taken
pub all_heard : {c d : LinkSettings} → AreJoined c d → {near far : LinkStation} → Counted c.window near far → (nr : ℕ) → nr ≡ length far.taken % 8
    → heard nr near
    ≡ length far.taken
all_heard joined {near} {far} n nr is =
    ap (resolved near.outgoing.acked) is ∙ resolved_is near.outgoing.acked (length far.taken) n.acked (omega (arith, joined.near_high, n.taken, n.room))

-- ---- the number of a frame

abbrev pub number_of : PlainFrame → ℕ
number_of (info ns nr p x) = nr
number_of (rr command nr pf) = nr
number_of (rnr command nr pf) = nr
number_of (rej command nr pf) = nr
number_of f = 0

shows_number : (f : PlainFrame) (g : Frame (List ℕ)) → Shows f g → number_of f ≡ g.ack % 8
shows_number (info ns nr p x) g s = s.1
shows_number (rr command nr pf) g s = s.1
shows_number (rnr command nr pf) g s = s.1
shows_number (rej command nr pf) g s = s.1
shows_number f g s = absurd s

-- an N(R) that comes is valid, and stands for a number that the other end has taken
pub record HearsWell (s other : LinkStation) (nr : ℕ) : Type 0 where
  pub valid : is_valid nr s ≡ true
  pub low : s.outgoing.acked ≤ heard nr s
  pub high : heard nr s ≤ length other.taken

pub hears_well : (c d : LinkSettings) (w : Sessions) → Sound c d w → (f : PlainFrame) (e : Entry) (es : List Entry) → w.back ≡ e ∷ es
    → frame_of (other c.role) c.longest e.octets ≡ Ok f → number_in (Ok f) ≡ Some f → HearsWell w.near.station w.far.station (number_of f)
hears_well c d w h f front_entry es is read is_numbered =
    let u = h.near in
    let v = h.far in
    let rest = numbers (other c.role) c.longest es in
    let shows : ShowAll (f ∷ rest) h.line.back =
    subst (λ fs. ShowAll fs h.line.back)
    (ap (numbers (other c.role) c.longest) is ∙ ap (λ z. consed (number_in z) rest) read
    ∙ ap (λ o. consed o rest) is_numbered) h.back in
    let front = front_of f rest h.line.back shows in
    let g = front.frame in
    let way = subst (λ bs. Way h.line.near h.line.far.taken (length h.line.far.taken) h.line.out bs) front.is h.kept.from_near in
    let valid = hears_valid front.others g way in
    let acked = ap (λ z. z.acked) u.same in
    let high = Acks-le g.ack front.others way.acks.1 in
    let heard_is : heard (number_of f) w.near.station ≡ g.ack =
    ap (resolved w.near.station.outgoing.acked) (shows_number f g front.shows) ∙ ap (λ a. resolved a (g.ack % 8)) acked ∙ valid.0 in
    record {
      valid = le-leb (heard (number_of f) w.near.station) w.near.station.outgoing.sent (omega (arith, heard_is, (ap (λ z. z.sent) u.same), valid.2));
      low = omega (arith, heard_is, acked, valid.1);
      high = omega (arith, heard_is, ap (λ z. length z.taken) v.same, high);
    }

-- ---- deliveries

-- nothing is on the line
pub record IsDrained (w : Sessions) : Type 0 where
  pub out : w.out ≡ []
  pub back : w.back ≡ []

-- what each delivery keeps stays through all
pub deliveries_keep : (P : Sessions → Type 0) (c d : LinkSettings) → ((w : Sessions) → P w → P (acts c Deliver w))
    → ((w : Sessions) → P w → P (swapped (acts d Deliver (swapped w))))
    → (es : List LinkEvent) (w : Sessions) → Each IsDelivery es → P w → P (run c d es w)
deliveries_keep P c d near far [] w are h = h
deliveries_keep P c d near far (Near Deliver ∷ es) w are h = deliveries_keep P c d near far es (acts c Deliver w) are.1 (near w h)
deliveries_keep P c d near far (Far Deliver ∷ es) w are h = deliveries_keep P c d near far es (swapped (acts d Deliver (swapped w))) are.1 (far w h)
deliveries_keep P c d near far (event ∷ es) w are h = absurd are.0

-- what is put may be read at the other end
pub reads_put : ReadsSpelled → {c d : LinkSettings} → AreJoined c d → (given : List (List ℕ)) (session : ℕ) (es : List Entry) (fs gs : List PlainFrame)
    → AreWhole d.longest given gs
    → Reads (other d.role) d.longest es fs → Reads (other d.role) d.longest (es ++ sent_in session c.role gs) (fs ++ gs)
reads_put reads {d = d} joined given session es fs gs whole read =
    rw (sym joined.near_role) (reads_more reads (other d.role) d.longest given session es fs gs read whole)

-- T1 doesn't run: nothing changes
pub refused : (c : LinkSettings) (w : Sessions) → timer_runs w.near.station.phase w.near.station ≡ false → acts c T1 w ≡ w
refused c w stopped = rw stopped refl

pub fires_is : (c : LinkSettings) (w : Sessions) → timer_runs w.near.station.phase w.near.station ≡ true → acts c T1 w
    ≡ after_step c w w.back w.met [] (timer_step c w.near.station)
fires_is c w running = rw running refl
