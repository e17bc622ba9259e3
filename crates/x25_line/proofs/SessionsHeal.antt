-- The laws of healing: what rest shows; whatever the two ends are on a drained line, with one busy end, and while packets are put.
use Rattle.x25_line.proofs.Names.{◌≡◌, ℕ, List, [], ◌∷◌, inl, refl, sym, ap, ◌∙◌, ReadsSpelled, LinkSettings, LinkStep, take_step, timer_step, timer_refusal}
use Rattle.x25_line.proofs.Names.{IsAtRest, BusyLaws, Deliver, T1, Entry, Meeting, Sessions, begun_by, after_step, delivered, acts, swapped, run, AreJoined}
use Rattle.x25_line.proofs.{Choices.{unless_by}, HealingBoth.{HealsAt, begins, both_settle, deliveries_heal}, HealingEnds.{after_firings, rest_or_out}}
use Rattle.x25_line.proofs.{HealingPuts.{puts_run}, HealingSteps.{IsDrained, Reached, at_reached, in_order_at, stopped_rests, deliveries_keep}}
use Rattle.x25_line.proofs.{Names.{Throughout, HealingLaws}, sessions.SessionHeld.{extended_nil}, sessions.TwoSessions.{idle_has_arrived}}
use Rattle.x25_line.specs.{Healing.{EachRestShows, SessionsHealUnlessBothBusy}, laws.HealingPuts.{SessionsHaveArrived, PutsHealSessions}}
use Rattle.x25_line.specs.laws.SessionClaims.{IdleHasArrived}

-- ---- firings and deliveries hand nothing down

record HandNothingDown (w u : Sessions) : Type 0 where
  near : (n : ℕ) → u.near.down n ≡ w.near.down n
  far : (n : ℕ) → u.far.down n ≡ w.far.down n

then_hand : {w u x : Sessions} → HandNothingDown w u → HandNothingDown u x → HandNothingDown w x
then_hand h k = record { near = λ n. k.near n ∙ h.near n; far = λ n. k.far n ∙ h.far n }

hand_turned : (w : Sessions) {u : Sessions} → HandNothingDown (swapped w) u → HandNothingDown w (swapped u)
hand_turned w h = record { near = h.far; far = h.near }

step_hands : (c : LinkSettings) (w : Sessions) (es : List Entry) (met : List Meeting) (step : LinkStep) → HandNothingDown w (after_step c w es met [] step)
step_hands c w es met step = record { near = extended_nil w.near.down (begun_by step.notes.up w.near.begun); far = λ _. refl }

fire_hands : (c : LinkSettings) (w : Sessions) → HandNothingDown w (acts c T1 w)
fire_hands c w = unless_by (HandNothingDown w) (timer_refusal w.near.station) (record { near = λ _. refl; far = λ _. refl })
    (λ _. step_hands c w w.back w.met (timer_step c w.near.station))

deliver_hands : (c : LinkSettings) (w : Sessions) → HandNothingDown w (acts c Deliver w)
deliver_hands c w = by w.back
  where
    by : (es : List Entry) → HandNothingDown w (delivered c es w)
    by [] = record { near = λ _. refl; far = λ _. refl }
    by (e ∷ es) = step_hands c w es _ (take_step c e.octets w.near.station)

pub each_rest_shows : ReadsSpelled → HealingLaws → Throughout EachRestShows
each_rest_shows reads laws c d joined begin is events timely =
    let w : Sessions = run c d events begin in
    let orders = in_order_at reads laws c d joined w (record { begin = begin; start = is; events = events; timely = timely; is = refl }) in
    let arrived = idle_has_arrived reads laws.sessions c d joined begin is events timely in
    record {
      near = λ up stopped. (let rest = stopped_rests laws joined.near_low orders.0 up stopped in (rest, arrived.near rest.idle));
      far = λ up stopped. (let rest = stopped_rests laws joined.far_low orders.1 up stopped in (rest, arrived.far rest.idle));
    }

module _ (reads : ReadsSpelled) (laws : HealingLaws) (busy_laws : BusyLaws) where
  -- two ends that have come to rest in their sessions have handed up all
  arrive : (c d : LinkSettings) → AreJoined c d → (w v : Sessions) → HealsAt w.near.begun w.far.begun c d v → IsAtRest v.near.station × IsAtRest v.far.station
      → SessionsHaveArrived w v
  arrive c d joined w v (r, h) rest =
      let arrived = at_reached IdleHasArrived (idle_has_arrived reads laws.sessions) joined r in
      let near = h.near_begun in
      let far = h.far_begun in
      record {
        near_rest = rest.0;
        far_rest = rest.1;
        near_session = near;
        far_session = far;
        there = ap v.far.up (sym far) ∙ arrived.near rest.0.idle (inl h.far_on) ∙ ap v.near.down near;
        back = ap v.near.up (sym near) ∙ arrived.far rest.1.idle (inl h.near_on) ∙ ap v.far.down far;
      }

  -- whatever the ends are
  pub sessions_heal_unless_both_busy : SessionsHealUnlessBothBusy
  sessions_heal_unless_both_busy c d joined begin is events timely no_out no_back free es are out_after back_after =
      let w : Sessions = run c d events begin in
      let v : Sessions = run c d es (after_firings c d w) in
      let r : Reached c d w = record { begin = begin; start = is; events = events; timely = timely; is = refl } in
      let drained : IsDrained w = record { out = no_out; back = no_back } in
      let after : IsDrained v = record { out = out_after; back = back_after } in
      let n = w.near.begun in
      let m = w.far.begun in
      let orders = in_order_at reads laws c d joined w r in
      let heals = λ (near : _). λ (far : _). deliveries_heal reads laws busy_laws n m c d joined es (after_firings c d w) are
      (begins reads laws busy_laws joined r drained near far free) in
      let each = rest_or_out reads laws c d joined w orders.0 orders.1 drained es are after (λ near far.
      let rest = both_settle reads laws busy_laws joined (heals near far) after in
      (inl rest.0, inl rest.1)) in
      record {
        near = each.0;
        far = each.1;
        healed = λ near far.
            let k = heals near far in
            let h = arrive c d joined w v k (both_settle reads laws busy_laws joined k after) in
            let hands = (let x : Sessions = acts c T1 w in
            deliveries_keep (HandNothingDown w) c d (λ u h. then_hand h (deliver_hands c u))
            (λ u h. then_hand h (hand_turned u (deliver_hands d (swapped u)))) es (after_firings c d w) are
            (then_hand (fire_hands c w) (hand_turned x (fire_hands d (swapped x))))) in
            record {
              near_rest = h.near_rest;
              far_rest = h.far_rest;
              near_session = h.near_session;
              far_session = h.far_session;
              there = h.there
                  ∙ hands.near n;
              back = h.back ∙ hands.far m;
            };
      }

  -- packets are put while two ends heal
  pub puts_heal_sessions : PutsHealSessions
  puts_heal_sessions c d joined begin is events timely no_out no_back near_may far_may es are free out_after back_after =
      let w : Sessions = run c d events begin in
      let v : Sessions = run c d es (after_firings c d w) in
      let r : Reached c d w = record { begin = begin; start = is; events = events; timely = timely; is = refl } in
      let n = w.near.begun in
      let m = w.far.begun in
      let first = begins reads laws busy_laws joined r (record { out = no_out; back = no_back }) (record { up = near_may.up; tries = near_may.tries })
      (record { up = far_may.up; tries = far_may.tries }) (inl near_may.free) in
      let k = puts_run reads laws busy_laws joined es are first free in
      arrive c d joined w v k (both_settle reads laws busy_laws joined k (record { out = out_after; back = back_after }))
