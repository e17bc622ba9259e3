-- A link that is set up once heals as one over sessions does: where both ends are Up, no end ever awaited UA, so timer T1 was timely.
use Rattle.x25_line.proofs.Names.{◌≡◌, List, ℕ, [], ◌∷◌, length, inl, inr, true, false, refl, sym, ap, ◌∙◌, subst, arith, ReadsSpelled, Waiting, LinkSettings}
use Rattle.x25_line.proofs.Names.{LinkStation, is_up, IsAtRest, BusyLaws, Stations, Act, T1, LinkEvent, Near, Far, stations_swapped, start, AreJoined}
use Rattle.x25_line.proofs.Names.{IsSetUpOnce, Line, line_swapped, octets_of, Entry, Sessions, AreTimely, IsTimelyAt, from_set_up, swapped, machine_run}
use Rattle.x25_line.proofs.{HealingEnds.{rest_or_out}, HealingRuns.{fit_from}, HealingSteps.{IsDrained, IsInOrderIfUp, stopped_rests}}
use Rattle.x25_line.proofs.{Names.{machine_at_start, HasTries, HealingLaws}, SessionsHeal.{sessions_heal_unless_both_busy, puts_heal_sessions}}
use Rattle.x25_line.proofs.{StationActs.{of_act}, StationClaimLemmas.{idle_all, holds_order, holds_lists}, StationEvents.{each_hands_one}}
use Rattle.x25_line.proofs.{StationRuns.{joint_swapped, event_joint, once_before, run_once, start_machine}, StationSteps.{Joint, Holds, not_both, up_of}}
use Rattle.x25_line.proofs.sessions.SessionUnasked.{IsFirst, first_lasts, begun_once, once_begun, first_alike, timely_unasked}
use Rattle.x25_line.proofs.sessions.SessionsForgotten.{Alike, happens_alike, runs_alike}
use Rattle.x25_line.specs.laws.HealingOnce.{IsHealed, RestShows, HealsUnlessBothBusy, FreeThroughout, PutsHeal}
use Rattle.x25_line.specs.laws.{HealingPuts.{LinkMayHeal, SessionsFreeThroughout}, Stations.{acts, happens, run}}
use Rattle.x25_line.specs.laws.Sessions as session

-- ---- two ends that are Up were so all along

abbrev AreUp : Stations → Type 0
AreUp w = (is_up w.near.station.phase ≡ true) × (is_up w.far.station.phase ≡ true)

module _ (reads : ReadsSpelled) (laws : HealingLaws) where
  up_before : {c d : LinkSettings} (a : Act) {w : Stations} {l : Line (List ℕ)} → Joint c d w l → (acts c a w).near.came_up ≡ false
      → is_up (acts c a w).near.station.phase ≡ true → is_up w.near.station.phase ≡ true
  up_before a {w} h once = of_act laws.sessions.laws {Q = λ place v. is_up v.near.station.phase ≡ true → is_up w.near.station.phase ≡ true} (record {
    fits = h.near;
    still = λ up. up;
    none_comes = λ is up. up;
    takes = λ o os is u no_sabm up. u.up;
    puts = λ packet u short up. u.up;
    rests = λ step u stays up. u.up;
    parts = λ step parts up. not_both (is_up step.side.near.phase) up parts.away.away;
    passes = λ o os is step parts up. not_both (is_up step.side.near.phase) up parts.away.away;
    loses = λ i less up. up;
  }) a once

  were_up : {c d : LinkSettings} → AreJoined c d → (e : LinkEvent) {w : Stations} {l : Line (List ℕ)} → Joint c d w l → IsSetUpOnce (happens c d e w)
      → AreUp (happens c d e w) → AreUp w
  were_up {c} {d} joined (Near a) {w} h once up =
      (up_before a h once.near up.0, ap (λ e. is_up e.station.phase) (sym (each_hands_one c d (Near a) w).far) ∙ up.1)
  were_up {c} {d} joined (Far a) {w} h once up =
      (ap (λ e. is_up e.station.phase) (sym (each_hands_one c d (Far a) w).far) ∙ up.0, up_before a (joint_swapped joined.longest h) once.far up.1)

  -- an end that is Up awaits no UA, so its timer T1 is timely
  timely_run : {c d : LinkSettings} → AreJoined c d → (es : List LinkEvent) {v : Sessions} {w : Stations} {l : Line (List ℕ)} → Alike IsFirst ⊥ v w
      → Joint c d w l
      → IsSetUpOnce (run c d es w) → AreUp (run c d es w) → AreUp w × AreTimely c d es v
  timely_run joined [] alike h once up = (up, tt)
  timely_run {c} {d} joined (e ∷ es) {v} {w} alike h once up =
      let first = once_before c d es (happens c d e w) once in
      let k = timely_run joined es (happens_alike first_lasts c d e alike) (event_joint joined reads laws.sessions.laws e first h) once up in
      let were = were_up joined e h first k.0 in
      (were, (at e were, k.1))
    where
      still : {s t : LinkStation} → s ≡ t → is_up s.phase ≡ true → t.phase ≡ Waiting → ⊥
      still {s} {t} same up waits = not_both (is_up t.phase) (ap (λ x. is_up x.phase) (sym same) ∙ up) (ap is_up waits)

      at : (e : LinkEvent) → AreUp w → IsTimelyAt c d e v
      at (Near a) up = timely_unasked c d a v (still alike.near.station up.0)
      at (Far a) up = timely_unasked d c a (swapped v) (still alike.far.station up.1)

  -- ---- an end that rests has handed all up

  healed : {c d : LinkSettings} {w : Stations} → Holds c d w → IsAtRest w.near.station → IsHealed w.near w.far
  healed {w = w} holds rest =
      let t = laws.rest.only_then w.near.station rest in
      let acked = idle_all w.near.station rest.idle (up_of holds.1.near t.0).sound.sent_high ∙ ap length ((holds_lists holds).0.given t.0) in
      record { rest = rest; handed_up = (holds_order holds).0.idle rest.idle; acked = acked; sent = sym t.3 ∙ acked }

holds_swapped : {c d : LinkSettings} → AreJoined c d → {w : Stations} → Holds c d w → Holds d c (stations_swapped w)
holds_swapped joined holds = (line_swapped holds.0, joint_swapped joined.longest holds.1)

none_on : (es : List Entry) → octets_of es ≡ [] → es ≡ []
none_on [] none = refl
none_on (e ∷ es) none = absurd (omega (arith, ap length none))

free_run : (c d : LinkSettings) (es : List LinkEvent) {v : Sessions} {w : Stations} → Alike IsFirst ⊥ v w → FreeThroughout c d es w
    → SessionsFreeThroughout c d es v
free_run c d [] h free = rw (sym h.near.station, sym h.far.station) free
free_run c d (e ∷ es) h free = (rw (sym h.near.station, sym h.far.station) free.0, free_run c d es (happens_alike first_lasts c d e h) free.1)

-- ---- after these events

module _ (reads : ReadsSpelled) (laws : HealingLaws) (busy_laws : BusyLaws) (c d : LinkSettings) (joined : AreJoined c d) (events : List LinkEvent)
    (once : IsSetUpOnce (run c d events start)) where
  abbrev w : Stations
  w = run c d events start

  -- the same over sessions
  abbrev v : Sessions
  v = session.run c d events from_set_up

  -- after more of them
  alike : (es : List LinkEvent) → Alike IsFirst ⊥ (session.run c d es v) (run c d es w)
  alike es = runs_alike first_lasts c d es (runs_alike first_lasts c d events first_alike)

  holds : Holds c d w
  holds = (machine_run c d events start (machine_at_start c d), run_once joined reads laws.sessions.laws events (start_machine joined) once)

  timely : is_up v.near.station.phase ≡ true → is_up v.far.station.phase ≡ true → AreTimely c d events from_set_up
  timely up far_up =
      (timely_run reads laws joined events first_alike (start_machine joined) once
      (rw ((alike []).near.station, (alike []).far.station) (up, far_up))).1

  orders : IsInOrderIfUp c w.near.station × IsInOrderIfUp d w.far.station
  orders =
      let fit = fit_from laws joined {begin = from_set_up} (inr refl) events in (
        record { sound = λ up. (up_of holds.1.near up).sound; said = rw (alike []).near.station fit.0.said },
        record { sound = λ up. (up_of holds.1.far up).sound; said = rw (alike []).far.station fit.1.said },
      )

  drained : (es : List LinkEvent) → (let x = run c d es w in x.out ≡ [] → x.back ≡ [] → IsDrained (session.run c d es v))
  drained es out back = record { out = none_on _ (sym (alike es).out ∙ out); back = none_on _ (sym (alike es).back ∙ back) }

  -- both ends rest in the sessions that they were in
  arrived : (es : List LinkEvent)
      → (let u = session.run c d es v in IsAtRest u.near.station → IsAtRest u.far.station → u.near.begun ≡ v.near.begun → u.far.begun ≡ v.far.begun
      → (let x = run c d es w in IsHealed x.near x.far × IsHealed x.far x.near))
  arrived es near far near_session far_session =
      let a = alike es in
      let after : Holds c d (run c d es w) = (
        _,
        run_once joined reads laws.sessions.laws es holds.1 (record {
          near = once_begun a.near (near_session ∙ begun_once (alike []).near once.near);
          far = once_begun a.far (far_session ∙ begun_once (alike []).far once.far);
        }),
      ) in
      (healed reads laws after (rw a.near.station near), healed reads laws (holds_swapped joined after) (rw a.far.station far))

  pub rest_shows : RestShows c d w
  rest_shows = (
    λ up stopped. healed reads laws holds (stopped_rests laws joined.near_low orders.0 up stopped),
    λ up stopped. healed reads laws (holds_swapped joined holds) (stopped_rests laws joined.far_low orders.1 up stopped),
  )

  pub heals_unless_both_busy : HealsUnlessBothBusy c d w
  heals_unless_both_busy no_out no_back free es are out_after back_after =
      let a = alike [] in
      let b = alike (Near T1 ∷ Far T1 ∷ es) in
      let was = drained [] no_out no_back in
      let after = drained (Near T1 ∷ Far T1 ∷ es) out_after back_after in
      let heals = λ (near : HasTries c.retries v.near.station). λ (far : HasTries d.retries v.far.station).
      (sessions_heal_unless_both_busy reads laws busy_laws c d joined from_set_up (inr refl) events (timely near.up far.up) was.out was.back
      (rw (sym a.near.station, sym a.far.station) free) es are after.out after.back).healed near far in
      let each = rest_or_out reads laws c d joined v (subst (IsInOrderIfUp c) a.near.station orders.0) (subst (IsInOrderIfUp d) a.far.station orders.1) was es
      are after (λ near far. (let k = heals near far in (inl k.near_rest, inl k.far_rest))) in
      record {
        near = rw b.near.station each.0;
        far = rw b.far.station each.1;
        healed = λ near far.
            let k = heals (subst (HasTries c.retries) a.near.station near) (subst (HasTries d.retries) a.far.station far) in
            arrived (Near T1 ∷ Far T1 ∷ es) k.near_rest k.far_rest k.near_session k.far_session;
      }

  pub puts_heal : PutsHeal c d w
  puts_heal no_out no_back near far es are free out_after back_after =
      let a = alike [] in
      let was = drained [] no_out no_back in
      let after = drained (Near T1 ∷ Far T1 ∷ es) out_after back_after in
      let near_may = subst (LinkMayHeal c.retries) a.near.station near in
      let far_may = subst (LinkMayHeal d.retries) a.far.station far in
      let k = puts_heal_sessions reads laws busy_laws c d joined from_set_up (inr refl) events (timely near_may.up far_may.up) was.out was.back near_may far_may
      es are (free_run c d es (alike (Near T1 ∷ Far T1 ∷ [])) free) after.out after.back in
      arrived (Near T1 ∷ Far T1 ∷ es) k.near_rest k.far_rest k.near_session k.far_session
