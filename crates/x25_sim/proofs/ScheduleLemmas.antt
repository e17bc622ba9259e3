-- The line `heal` of a script does what the schedule of healing says.
use Rattle.x25_sim.proofs.Names.{◌≡◌, ◌∙◌, ℕ, zero, suc, List, [], ◌∷◌, ◌++◌, Option, Some, None, ap, sym, subst, arith, refl, Role, Dte, Dce, Cfg, World}
use Rattle.x25_sim.proofs.Names.{Event, WorldOutcome, Happened, Declined, happens, after, next_end, Turn, and_then, turn_of, event_turn, delivered_to, drained}
use Rattle.x25_console.specs.Commands.{command_asked}
use Rattle.x25_script.specs.ScriptLine.{pull}
use Rattle.x25_sim.{proofs.Names.{tried_of, tried, both_tried, fired, pulled, unless_empty, emptied, healed, line_turn, Shown}, specs.Stage.{most_times}}
use Rattle.x25_sim.specs.laws.RunLaw.{HealIsTheSchedule, HealRestShowsAll, HealBringsAll}
use Rattle.x25_world.specs.Healing.{receipt, all_received, arrivals_from, arrivals, deliveries, one_if, if_accepted, firing, pull_round, pull_rounds}
use Rattle.x25_world.specs.Healing.{fire_and_pull, healing, ArrivesByHealing, HealingBringsAll, RestShowsAll, HealingRestShowsAll}
use Rattle.x25_world.specs.{World.{Act, Commands, Fires, run}, laws.SessionClaims.{Throughout}, laws.WaitClaims.{pull_at}}
use Rattle.x25_world.specs.Healing as schedule

module _ (cfg : Cfg) (shown : Shown) where
  run_append : (xs ys : List Event) (w : World) → run cfg (xs ++ ys) w ≡ run cfg ys (run cfg xs w)
  run_append [] ys w = refl
  run_append (x ∷ xs) ys w = run_append xs ys (after w (happens cfg w x))

  -- a turn that goes by these events, and then one that goes by more
  behind_next : (w : World) (t : Turn) (rest : World → Turn) (xs : List Event) (more : World → List Event) → t.next ≡ run cfg xs w
      → ((v : World) → (rest v).next ≡ run cfg (more v) v)
      → (and_then rest t).next ≡ run cfg (xs ++ more (run cfg xs w)) w
  behind_next w t rest xs more here there = ap (λ (v : World). (rest v).next) here ∙ there (run cfg xs w) ∙ sym (run_append xs (more (run cfg xs w)) w)

  event_next : (e : Event) (w : World) → (event_turn cfg shown e w).next ≡ after w (happens cfg w e)
  unfolding event_turn
  event_next e w = by (happens cfg w e)
    where
      by : (o : WorldOutcome) → (turn_of shown w o).next ≡ after w o
      by (Happened next) = refl
      by (Declined x) = refl

  delivered_next : (rest : World → Turn) (more : World → List Role) → ((v : World) → (rest v).next ≡ run cfg (all_received (more v)) v)
      → (w : World) (at : Option Role)
      → (delivered_to cfg shown rest w at).next ≡ run cfg (all_received (arrivals_from cfg more w at)) w
  delivered_next rest more there w None = refl
  delivered_next rest more there w (Some at) = ap (λ (v : World). (rest v).next) (event_next (receipt at) w) ∙ there (after w (happens cfg w (receipt at)))

  drained_next : (n : ℕ) (w : World) → (drained cfg shown n w).next ≡ run cfg (all_received (arrivals cfg n w)) w
  unfolding drained arrivals
  drained_next zero w = refl
  drained_next (suc n) w = delivered_next (drained cfg shown n) (arrivals cfg n) (drained_next n) w (next_end w.out w.back)

  tried_next : (e : Event) (w : World) → (tried cfg shown e w).next ≡ run cfg (if_accepted cfg e w) w
  unfolding tried
  tried_next e w = by (happens cfg w e) refl
    where
      by : (o : WorldOutcome) → happens cfg w e ≡ o → (tried_of shown e w o).next ≡ run cfg (one_if e o) w
      by (Happened next) is = sym (ap (after w) is)
      by (Declined x) is = refl

  both_next : (act : Act) (w : World) → (both_tried cfg shown act w).next
      ≡ run cfg (schedule.both_tried cfg (record { at = Dte; act = act }) (record { at = Dce; act = act }) w) w
  unfolding both_tried
  both_next act w =
      let e : Event = record { at = Dte; act = act } in
      let f : Event = record { at = Dce; act = act } in
      behind_next w (tried cfg shown e w) (tried cfg shown f) (if_accepted cfg e w) (if_accepted cfg f) (tried_next e w) (tried_next f)

  pulled_next : (w : World) → (pulled cfg shown w).next ≡ run cfg (pull_round cfg most_times w) w
  unfolding pulled
  pulled_next w =
      behind_next w (drained cfg shown most_times w) (both_tried cfg shown (Commands (command_asked pull))) (deliveries cfg most_times w)
      (schedule.both_tried cfg (pull_at Dte) (pull_at Dce)) (drained_next most_times w)
      (both_next (Commands (command_asked pull)))

  unless_next : (rest : World → Turn) (more : World → List Event) → ((v : World) → (rest v).next ≡ run cfg (more v) v) → (w : World) (at : Option Role)
      → (unless_empty rest w at).next ≡ run cfg (schedule.unless_empty more w at) w
  unless_next rest more there w None = refl
  unless_next rest more there w (Some at) = there w

  emptied_next : (n : ℕ) (w : World) → (emptied cfg shown n w).next ≡ run cfg (pull_rounds cfg most_times n w) w
  unfolding emptied pull_rounds
  emptied_next zero w = refl
  emptied_next (suc n) w =
      behind_next w (pulled cfg shown w) (λ v. unless_empty (emptied cfg shown n) v (next_end v.out v.back)) (pull_round cfg most_times w)
      (λ v. schedule.unless_empty (pull_rounds cfg most_times n) v (next_end v.out v.back)) (pulled_next w)
      (λ v. unless_next (emptied cfg shown n) (pull_rounds cfg most_times n) (emptied_next n) v (next_end v.out v.back))

  healed_next : (w : World) → (healed cfg shown w).next ≡ run cfg (healing cfg most_times w) w
  unfolding healed fired
  healed_next w =
      let v = run cfg (deliveries cfg most_times w) w in
      let both = schedule.both_tried cfg (firing Dte) (firing Dce) v in
      ap (λ (x : World). (emptied cfg shown most_times (both_tried cfg shown Fires x).next).next) (drained_next most_times w)
      ∙ behind_next v (both_tried cfg shown Fires v) (emptied cfg shown most_times) both (pull_rounds cfg most_times most_times) (both_next Fires v)
      (emptied_next most_times)
      ∙ sym (run_append (deliveries cfg most_times w) (fire_and_pull cfg most_times v) w)

pub heal_is_the_schedule : HealIsTheSchedule
unfolding line_turn
heal_is_the_schedule cfg shown w = healed_next cfg shown w

pub heals_throughout : Throughout HealingBringsAll → Throughout HealBringsAll
heals_throughout brings cfg fine begin which events octets shown =
    let w = run cfg events begin in
    subst (ArrivesByHealing cfg most_times w) (sym (heal_is_the_schedule cfg shown w)) (brings cfg fine begin which events octets most_times (omega arith))

pub shows_throughout : Throughout HealingRestShowsAll → Throughout HealRestShowsAll
shows_throughout shows cfg fine begin which events octets shown =
    subst (RestShowsAll cfg) (sym (heal_is_the_schedule cfg shown (run cfg events begin))) (shows cfg fine begin which events octets most_times (omega arith))
