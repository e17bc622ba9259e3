-- What follows of each act of a station that was set up once, where it is known of a few kinds of steps.
use Rattle.x25_line.proofs.Names.{◌≡◌, ℕ, suc, ◌≤◌, List, [], ◌∷◌, inl, inr, length, Bool, true, false, if◌then◌else◌, Option, Some, None, Result, refl, sym}
use Rattle.x25_line.proofs.Names.{ap, ◌∙◌, subst, leb-true, nat_le, nat_lt, PlainFrame, sabm, disc, Local, frame_of, FrameError, Phase, Down, Waiting, Up, Closed, Retries}
use Rattle.x25_line.proofs.Names.{LinkSettings, LinkStation, is_up, with_nothing, LinkStep, other, take_step, put_step, put_refusal, timer_step, timer_refusal}
use Rattle.x25_line.proofs.Names.{timer_runs, connect_step, connect_refusal, disconnect_step, disconnect_refusal, abandon_step, Window, Is, TakesPart, Stays}
use Rattle.x25_line.proofs.Names.{Follows, IsOut, StaysOut, Stations, Act, Put, Deliver, T1, Connect, Disconnect, Abandon, Probe, Lose, Damage, is_visible}
use Rattle.x25_line.proofs.{Choices.{unless_by, if_by}, Losses.{removes, replaces}, Names.{IsSeen, sabm_of, said, Laws, LessAt, replaced}}
use Rattle.x25_link.specs.{Station.{disconnected}, declared.phase.Ending.TheVariants.{GivenUp}, laws.SetUp.{ended_by}}
use Rattle.x25_line.proofs.StationAway.{closed_takes, ended_phase_by, ended_lists_by, waits_on, waiting_parting, quiet_by, up_takes_part, connects_from, second_false}
use Rattle.x25_line.proofs.{StationHears.{sabm_or_not, sets_none_up}, StationLines.{AreParting}}
use Rattle.x25_line.proofs.StationSteps.{out_not_up, AsUp, IsAway, FitsEnd, up_of, not_both, stays_out, in_vain, Parts, ends_parts, declining_parting}
use Rattle.x25_line.specs.laws.{Stations.{after_step, unless, delivered, acts}, WholeNumbers.{place_taken}}
use Rattle.x25_link.specs.laws.WindowMachine.{nothing}

-- What is known of the near end of w, whose machine's end is e, and of each kind of step: of a station that is Up, as octets come
-- (`takes`), a packet is handed down (`puts`), or nothing is brought (`rests`); steps that part, with octets taken off the line
-- (`passes`) or none (`parts`); what happens to the line to it; and nothing (`still`, and `none_comes` where no octets are there). Q is of
-- the place at which octets are taken off that line, and of what comes of it.
pub record OfSteps (c : LinkSettings) (w : Stations) (e : Window) (Q : Option ℕ → Stations → Type 0) : Type 0 where
  pub fits : FitsEnd c w.near.station e
  pub still : Q None w
  pub none_comes : w.back ≡ [] → Q (Some 0) w
  pub takes : (o : List ℕ) (os : List (List ℕ)) → w.back ≡ o ∷ os → AsUp c w.near.station e → sabm_of (said (frame_of (other c.role) c.longest o)) ≡ 0
      → Q (Some 0) (after_step c w os [] (take_step c o w.near.station))
  pub puts : (packet : List ℕ) → AsUp c w.near.station e → length packet ≤ c.longest
      → Q None (after_step c w w.back (packet ∷ []) (put_step c packet w.near.station))
  pub rests : (step : LinkStep) → AsUp c w.near.station e → Stays c.window nothing w.near.station step → Q None (after_step c w w.back [] step)
  pub parts : (step : LinkStep) → Parts w.near.station step → Q None (after_step c w w.back [] step)
  pub passes : (o : List ℕ) (os : List (List ℕ)) → w.back ≡ o ∷ os → (step : LinkStep) → Parts w.near.station step → Q (Some 0) (after_step c w os [] step)
  pub loses : (i : ℕ) {os : List (List ℕ)} → LessAt IsSeen i w.back os → Q (Some i) (record w { back = os })

module _ {c : LinkSettings} (laws : Laws) {w : Stations} {e : Window} {Q : Option ℕ → Stations → Type 0} (k : OfSteps c w e Q) where
  abbrev s : LinkStation
  s = w.near.station

  deliver_step : (os : List (List ℕ)) → w.back ≡ os → (delivered c os w).near.came_up ≡ false → Q (Some 0) (delivered c os w)
  deliver_step [] is once = k.none_comes is
  deliver_step (o ∷ os) is once = go k.fits
    where
      r : Result PlainFrame FrameError
      r = frame_of (other c.role) c.longest o

      step : LinkStep
      step = take_step c o s

      not_up : step.notes.up ≡ false
      not_up = second_false w.near.came_up step.notes.up once

      -- it would set the link up anew
      no_sabm : TakesPart s.phase → sabm_of (said r) ≡ 0
      no_sabm part = elim (sabm_or_not r) [
        | inl sets ↦ not_both step.notes.up (laws.set_up.sets_up c o s part sets.0 sets.1).up not_up
        | inr none ↦ none
      ]

      stays : IsAway s → StaysOut step → Q (Some 0) (after_step c w os [] step)
      stays away out =
          k.passes o os is step
          (record {
            frames = declining_parting step.side.out out.frames;
            away = record { away = out_not_up step.side.near.phase out.out; empty = (laws.take_tells c o s).empty out.quiet away.away away.empty };
            packet = out.packet;
            noted = stays_out away.away out.quiet;
          })

      waits : IsAway s → s.phase ≡ Waiting → Q (Some 0) (after_step c w os [] step)
      waits away waiting =
          let i = laws.set_up.waits c o s waiting r refl in
          k.passes o os is step
          (record {
            frames = subst AreParting (sym i.out) (waiting_parting r);
            away = subst IsAway (sym (i.near ∙ waits_on r s (sym i.up ∙ not_up))) away;
            packet = i.packet;
            noted = stays_out (ap is_up waiting) (quiet_by step i.down not_up);
          })

      by_phase : (q : Phase) → s.phase ≡ q → IsAway s → is_up q ≡ false → Q (Some 0) (after_step c w os [] step)
      by_phase Down phase away may = stays away
          (laws.window.take_out c o s (subst IsOut (sym phase) tt) (sets_none_up r (no_sabm (subst TakesPart (sym phase) tt))))
      by_phase Waiting phase away may = waits away phase
      by_phase Up phase away may = not_both true refl may
      by_phase Closed phase away may = stays away (closed_takes c o s phase)

      go : FitsEnd c s e → Q (Some 0) (after_step c w os [] step)
      go (inl u) = k.takes o os is u (no_sabm (up_takes_part s.phase u.up))
      go (inr away) = by_phase s.phase refl away away.away

  put_by : (packet : List ℕ) → length packet ≤ c.longest → Q None (unless (put_refusal s) w (after_step c w w.back (packet ∷ []) (put_step c packet s)))
  put_by packet short = go k.fits
    where
      go : FitsEnd c s e → Q None (unless (put_refusal s) w (after_step c w w.back (packet ∷ []) (put_step c packet s)))
      go (inl u) = unless_by (Q None) (put_refusal s) k.still (λ _. k.puts packet u short)
      go (inr away) = rw away.away k.still

  -- a station that isn't Up sends SABM or DISC, and notes nothing
  asks_parts : {near : LinkStation} {frames : List PlainFrame} {step : LinkStep} → is_up s.phase ≡ false → Is near frames None false step
      → AreParting frames → IsAway near → Parts s step
  asks_parts {frames = frames} {step} off i parting away =
      record {
        frames = subst AreParting (sym i.out) parting;
        away = subst IsAway (sym i.near) away;
        packet = i.packet;
        noted = stays_out off (quiet_by step i.down i.up);
      }

  -- timer T1 runs out, in Up
  timer_up : AsUp c s e → Q None (after_step c w w.back [] (timer_step c s))
  timer_up u = by (nat_lt s.tries c.retries) (laws.window.timer c s (record { up = u.up; sound = u.sound }))
    where
      by : (b : Bool) → Follows (if b then None else Some Retries) c.window nothing s (timer_step c s) → Q None (after_step c w w.back [] (timer_step c s))
      by true stays = k.rests (timer_step c s) u stays
      by false ends = k.parts (timer_step c s) (ends_parts u.up tt (laws.timer_tells c s) ends)

  waiting_timer : IsAway s → s.phase ≡ Waiting → (b : Bool) {step : LinkStep}
      → Is (if b then record s { tries = suc s.tries } else with_nothing Down s.tries) (if b then sabm true ∷ [] else []) (if b then None else Some Retries)
      false step → Parts s step
  waiting_timer away phase true {step} i = asks_parts (ap is_up phase) i tt (record { away = away.away; empty = away.empty })
  waiting_timer away phase false i =
      record {
        frames = subst AreParting (sym i.out) tt;
        away = subst IsAway (sym i.near) (record { away = refl; empty = refl });
        packet = i.packet;
        noted = in_vain phase i.down i.up;
      }

  closed_timer : IsAway s → s.phase ≡ Closed → (b : Bool) {step : LinkStep}
      → Is (if b then record s { tries = suc s.tries } else ended_by GivenUp s.closing s) (if b then disc true ∷ [] else []) None false step → Parts s step
  closed_timer away phase true {step} i = asks_parts (ap is_up phase) i tt (record { away = away.away; empty = away.empty })
  closed_timer away phase false {step} i =
      asks_parts (ap is_up phase) i tt
      (record { away = ap is_up (ended_phase_by GivenUp s.closing s ∙ phase); empty = ended_lists_by GivenUp s.closing s ∙ away.empty })

  timer_by : Q None (unless (timer_refusal s) w (after_step c w w.back [] (timer_step c s)))
  timer_by = go k.fits
    where
      by_phase : (q : Phase) → s.phase ≡ q → IsAway s → is_up q ≡ false → Q None (unless (timer_refusal s) w (after_step c w w.back [] (timer_step c s)))
      by_phase Waiting phase away may =
          unless_by (Q None) (timer_refusal s) k.still
          (λ _. k.parts (timer_step c s) (waiting_timer away phase (nat_lt s.tries c.retries) (laws.set_up.timer c s phase)))
      by_phase Up phase away may = not_both true refl may
      by_phase Closed phase away may =
          unless_by (Q None) (timer_refusal s) k.still
          (λ _. k.parts (timer_step c s) (closed_timer away phase (nat_lt s.tries c.retries) (laws.set_up.timer_closes c s phase)))
      by_phase q phase away may = rw (ap (λ q. timer_runs q s) phase) k.still

      go : FitsEnd c s e → Q None (unless (timer_refusal s) w (after_step c w w.back [] (timer_step c s)))
      go (inl u) = unless_by (Q None) (timer_refusal s) k.still (λ _. timer_up u)
      go (inr away) = by_phase s.phase refl away away.away

  connect_by : s.phase ≡ Down → FitsEnd c s e → Q None (after_step c w w.back [] (connect_step c s))
  connect_by phase (inl u) = not_both (is_up s.phase) u.up (ap is_up phase)
  connect_by phase (inr away) =
      k.parts (connect_step c s)
      (asks_parts (ap is_up phase) (laws.set_up.connects c s phase) tt (record { away = refl; empty = away.empty }))

  disconnect_parts : FitsEnd c s e → Parts s (disconnect_step c s)
  disconnect_parts (inl u) = ends_parts u.up tt (laws.disconnect_tells c s) (laws.window.disconnect c s (record { up = u.up; sound = u.sound }))
  disconnect_parts (inr away) = by_phase s.phase refl away.away
    where
      closes : IsOut s.phase → Parts s (disconnect_step c s)
      closes out =
          let closed = laws.window.disconnect_out c s out in
          record {
            frames = subst AreParting (sym closed.frames) tt;
            away = record { away = ap is_up closed.phase; empty = (laws.disconnect_tells c s).empty closed.quiet away.away away.empty };
            packet = closed.packet;
            noted = stays_out away.away closed.quiet;
          }

      by_phase : (q : Phase) → s.phase ≡ q → is_up q ≡ false → Parts s (disconnect_step c s)
      by_phase Waiting phase may =
          asks_parts (ap is_up phase)
          (subst (λ b. Is (disconnected c.disc_again) (disc true ∷ []) (if b then Some Local else None) false (disconnect_step c s)) (ap is_up phase)
          (laws.set_up.disconnects c s)) tt (record { away = refl; empty = refl })
      by_phase Up phase may = not_both true refl may
      by_phase q phase may = closes (subst IsOut (sym phase) tt)

  abandon_by : is_up s.phase ≡ true → Q None (after_step c w w.back [] (abandon_step c s))
  abandon_by up =
      let u = up_of k.fits up in
      k.parts (abandon_step c s) (ends_parts up tt (laws.abandon_tells c s) (laws.window.abandon c s (record { up = u.up; sound = u.sound })))

  -- what holds after each step of a station holds after each act by which no LinkUp is noted
  pub of_act : (a : Act) → (acts c a w).near.came_up ≡ false → Q (place_taken a) (acts c a w)
  of_act (Put packet) once = if_by (Q None) (nat_le (length packet) c.longest) k.still (λ short. put_by packet (leb-true _ _ short))
  of_act Deliver once = deliver_step w.back refl once
  of_act T1 once = timer_by
  of_act Connect once = unless_by (Q None) (connect_refusal s.phase) k.still (λ accepted. connect_by (connects_from s.phase accepted) k.fits)
  of_act Disconnect once = unless_by (Q None) (disconnect_refusal s.phase) k.still (λ _. k.parts (disconnect_step c s) (disconnect_parts k.fits))
  of_act Abandon once = if_by (Q None) (is_up s.phase) k.still abandon_by
  of_act Probe once = if_by (Q None) (is_up s.phase) k.still (λ up. timer_up (up_of k.fits up))
  of_act (Lose i) once = k.loses i (removes w.back i)
  of_act (Damage i octets) once = by (is_visible octets) refl
    where
      by : (b : Bool) → is_visible octets ≡ b → Q (if b then Some i else None) (if b then record w { back = replaced w.back i (λ _. octets) } else w)
      by true visible = k.loses i (replaces (λ _. octets) (λ _. visible) w.back i)
      by false visible = k.still
