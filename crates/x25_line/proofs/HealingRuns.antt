-- After all events an end has said all that it may, and each of its packets may be sent.
use Rattle.x25_line.proofs.Names.{◌≡◌, ℕ, ◌+◌, ◌*◌, ◌≤◌, ◌⊎◌, inl, inr, List, [], ◌∷◌, length, Bool, true, false, if◌then◌else◌, refl, sym, ap, subst, arith}
use Rattle.x25_line.proofs.Names.{nat_lt, frame_of, Phase, Down, Up, Closed, LinkSettings, LinkStation, Side, is_busy, with_nothing, fresh, ended, LinkStep}
use Rattle.x25_line.proofs.Names.{quiet, other, alone, take_step, LinkEvent, Near, Far, Sessions, acts, swapped, run, IsStart, AreJoined, HealingLaws}
use Rattle.std.proofs.lemmas.Bool.{and_right}
use Rattle.x25_line.proofs.DrainSteps.{took}
use Rattle.x25_line.proofs.{StationSends.{AllWithin, within_push}, sessions.Acts.{Keeps, act_stays}}
use Rattle.x25_link.specs.declared.phase.{Closing.{Closing}, Closing.TheVariants.{Asked}, Ending.TheVariants.{GivenUp}}
use Rattle.x25_link.specs.{Link.{answered, puts, fires, asks_again, gives_up, connects, disconnects}, Station.{with_near}, laws.LinkLaws.{ended_lists}}
use Rattle.x25_link.specs.laws.RestLaw.{HasSaidAll}

run_stays : {c d : LinkSettings} {P Q : LinkStation → Type 0} → Keeps c P → Keeps d Q → (es : List LinkEvent) (w : Sessions) → P w.near.station
    → Q w.far.station
    → (let v = run c d es w in P v.near.station × Q v.far.station)
run_stays near far [] w h k = (h, k)
run_stays {c} {d} {P} {Q} near far (Near a ∷ es) w h k =
    let v = act_stays c P near w h a in
    run_stays near far es (acts c a w) v.near (rw v.far k)
run_stays {c} {d} {P} {Q} near far (Far a ∷ es) w h k =
    let v = act_stays d Q far (swapped w) k a in
    run_stays near far es (swapped (acts d a (swapped w))) (rw v.far h) v.near

-- ---- an end has said all that it may, and each packet may be sent

pub record IsFit (k n1 : ℕ) (s : LinkStation) : Type 0 where
  pub said : HasSaidAll k s
  pub within : AllWithin n1 s.outgoing.given

-- both ends are so
abbrev pub Fit : LinkSettings → LinkSettings → Sessions → Type 0
Fit c d w = IsFit c.window d.longest w.near.station × IsFit d.window c.longest w.far.station

within_of : (n1 : ℕ) {old : List (List ℕ)} (new : List (List ℕ)) → (new ≡ old) ⊎ (new ≡ []) → AllWithin n1 old → AllWithin n1 new
within_of n1 new (inl same) h = subst (AllWithin n1) (sym same) h
within_of n1 new (inr none) h = subst (AllWithin n1) (sym none) tt

side_if : (n1 : ℕ) (b : Bool) (u v : Side) → AllWithin n1 u.near.outgoing.given → AllWithin n1 v.near.outgoing.given
    → (let t : Side = if b then u else v in AllWithin n1 t.near.outgoing.given)
side_if n1 true u v f g = f
side_if n1 false u v f g = g

ended_within : (n1 k : ℕ) (t : Side) → AllWithin n1 t.near.outgoing.given → AllWithin n1 (ended k t).near.outgoing.given
ended_within n1 k t h = subst (AllWithin n1) (sym (ap (λ l. l.given) (ended_lists k t))) h

asks_within : (n1 : ℕ) (p : Phase) (t : Side) → AllWithin n1 t.near.outgoing.given → AllWithin n1 (asks_again p t).near.outgoing.given
asks_within n1 Up t h = side_if n1 (is_busy t.near) _ _ h h
asks_within n1 p t h = h

gives_within : (n1 : ℕ) (p : Phase) (t : Side) → AllWithin n1 t.near.outgoing.given → AllWithin n1 (gives_up p t).side.near.outgoing.given
gives_within n1 Closed t h = ends t.near.closing
  where
    ends : (closing : Closing) → AllWithin n1 (answered GivenUp closing t).near.outgoing.given
    ends Asked = h
    ends closing = h
gives_within n1 p t h = tt

fires_within : (n1 : ℕ) (b : Bool) (s : LinkStation) → AllWithin n1 s.outgoing.given
    → (let z : LinkStep = if b then quiet (asks_again s.phase (with_near (alone s) (record s { tries = s.tries + 1 }))) else gives_up s.phase (alone s) in
    AllWithin n1 z.side.near.outgoing.given)
fires_within n1 true s h = asks_within n1 s.phase (with_near (alone s) (record s { tries = s.tries + 1 })) h
fires_within n1 false s h = gives_within n1 s.phase (alone s) h

module _ (laws : HealingLaws) where
  pub keeps_fit : (c : LinkSettings) (n1 : ℕ) → c.window ≤ 7 → c.longest ≡ n1 → Keeps c (IsFit c.window n1)
  keeps_fit c n1 small longest = record {
    takes = λ o s h.
        let t = took c n1 (4 * length s.outgoing.given + 2) 0 s small h.within (omega arith) h.said.low o (frame_of (other c.role) c.longest o) refl in
        record { said = laws.rest.take c o s small h.said.low; within = within_of n1 (take_step c o s).side.near.outgoing.given t.given h.within };
    puts = λ packet s short h. record {
      said = laws.rest.put c packet s small h.said.low;
      within = ended_within n1 c.window (puts packet (alone s)).side (within_push n1 s.outgoing.given packet h.within (omega (arith, short, longest)));
    };
    fires = λ s h. record {
      said = laws.rest.timer c s small h.said.low;
      within = ended_within n1 c.window (fires c (alone s)).side (fires_within n1 (nat_lt s.tries c.retries) s h.within);
    };
    connects = λ s h. record { said = laws.rest.connect c s h.said.low; within = ended_within n1 c.window (connects (alone s)).side h.within };
    disconnects = λ s h. record { said = laws.rest.disconnect c s; within = ended_within n1 c.window (disconnects c.disc_again (alone s)).side tt };
    abandons = λ s h. record { said = laws.rest.abandon c s; within = ended_within n1 c.window _ tt };
  }

  first_fit : (k n1 : ℕ) {begin : Sessions} → IsStart begin → IsFit k n1 begin.near.station × IsFit k n1 begin.far.station
  first_fit k n1 (inl is) =
      let down : IsFit k n1 (with_nothing Down 0) = record { said = record { low = omega arith; settled = refl; calm = refl }; within = tt } in
      subst (λ w. IsFit k n1 w.near.station × IsFit k n1 w.far.station) (sym is) (down, down)
  first_fit k n1 (inr is) =
      let up : IsFit k n1 fresh = record { said = record { low = omega arith; settled = and_right (nat_lt 0 (0 + k)) _ refl; calm = refl }; within = tt } in
      subst (λ w. IsFit k n1 w.near.station × IsFit k n1 w.far.station) (sym is) (up, up)

  -- after any events both stations have said all that they may, and hold no packet that is too long
  pub fit_from : {c d : LinkSettings} → AreJoined c d → {begin : Sessions} → IsStart begin → (events : List LinkEvent)
      → Fit c d (run c d events begin)
  fit_from {c} {d} joined {begin} is events =
      run_stays (keeps_fit c d.longest joined.near_high joined.longest) (keeps_fit d c.longest joined.far_high (sym joined.longest)) events begin
      (first_fit c.window d.longest is).0 (first_fit d.window c.longest is).1
