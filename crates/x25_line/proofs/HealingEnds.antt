-- Whatever the two ends are at a quiet moment, once both have fired and all has come each is at rest or not Up.
use Rattle.x25_line.proofs.Names.{◌≡◌, List, [], ◌∷◌, ◌⊎◌, inl, inr, length, Bool, true, false, if◌then◌else◌, ℕ, suc, ◌<◌, Some, None, refl, sym, ap, ◌∙◌}
use Rattle.x25_line.proofs.Names.{subst, arith, ltb-false, nat_lt, PlainFrame, sabm, disc, ReadsSpelled, Phase, Down, Waiting, Up, Closed, Retries, LinkSettings, LinkStation}
use Rattle.x25_line.proofs.Names.{is_up, is_busy, wanted, with_nothing, LinkStep, other, timer_step, timer_runs, Is, Follows, IsOut, IsAtRest, says, T1}
use Rattle.x25_line.proofs.Names.{LinkEvent, SessionEnd, Sessions, begun_by, acts, swapped, run, AreJoined, IsWhole, AreWhole, IsDelivery, HasTries, Each}
use Rattle.std.proofs.lemmas.Bool.{ltb-true}
use Rattle.x25_line.proofs.{DrainWeights.{below_eight}, HealingLines.{Reads}}
use Rattle.x25_line.proofs.HealingSetUp.{RestsOrOut, AreOfSetUp, Parts, asked, asked_polling, polled, rests, closes, closes_polled, Settles, settle}
use Rattle.x25_line.proofs.StationAway.{ended_out}
use Rattle.x25_link.specs.{declared.phase.Ending.TheVariants.{GivenUp}, laws.SetUp.{ended_by}}
use Rattle.x25_line.proofs.{HealingSteps.{IsDrained, IsInOrderIfUp, stopped_rests, refused, fires_is, reads_put}, Names.{HealingLaws}}
use Rattle.x25_line.proofs.{StationAway.{is_up_phase}, StationEvents.{timer_up}, StationRuns.{joined_swapped}, StationSteps.{not_both, out_not_up}}
use Rattle.x25_link.specs.laws.WindowMachine.{nothing}

poll_whole : (n1 : ℕ) (busy : Bool) (n : ℕ) → n < 8 → IsWhole n1 [] (says busy true n true)
poll_whole n1 true n small = record { in_range = small; carries = refl; within = tt; packet = tt }
poll_whole n1 false n small = record { in_range = small; carries = refl; within = tt; packet = tt }

-- ---- an end once it fired, and what it put on the empty line

-- it goes on: it polls, or has nothing to send
pub data GoesOn (s : LinkStation) : List PlainFrame → Type 0 where
  polls : is_up s.phase ≡ true → s.recovery ≡ true → s.said_busy ≡ is_busy s → GoesOn s (says (is_busy s) true (wanted s) true ∷ [])
  stays : IsAtRest s → GoesOn s []

-- it asks for set-up, is out, or disconnects
pub data IsOff (s : LinkStation) : List PlainFrame → Type 0 where
  asks : s.phase ≡ Waiting → IsOff s (sabm true ∷ [])
  out : IsOut s.phase → IsOff s []
  disconnects : IsOut s.phase → IsOff s (disc true ∷ [])

off_not_up : {s : LinkStation} {fs : List PlainFrame} → IsOff s fs → is_up s.phase ≡ false
off_not_up (asks waits) = ap is_up waits
off_not_up {s} (out gone) = out_not_up s.phase gone
off_not_up {s} (disconnects gone) = out_not_up s.phase gone

off_sets_up : {s : LinkStation} {fs : List PlainFrame} → IsOff s fs → AreOfSetUp fs
off_sets_up (asks waits) = (tt, tt)
off_sets_up (out gone) = tt
off_sets_up (disconnects gone) = (tt, tt)

-- it goes on where it had tries left, and is as busy
pub record WentOn (c : LinkSettings) (e : SessionEnd) (s : LinkStation) (fs : List PlainFrame) : Type 0 where
  pub tries : HasTries c.retries e.station
  pub busy : is_busy s ≡ is_busy e.station
  pub is : GoesOn s fs

pub record WentOff (c : LinkSettings) (e : SessionEnd) (s : LinkStation) (fs : List PlainFrame) : Type 0 where
  pub had_none : HasTries c.retries e.station → ⊥
  pub is : IsOff s fs

abbrev pub Fired : LinkSettings → SessionEnd → LinkStation → List PlainFrame → Type 0
Fired c e s fs = WentOn c e s fs ⊎ WentOff c e s fs

record HasFired (c d : LinkSettings) (w x : Sessions) : Type 0 where
  pub frames : List PlainFrame
  pub is : Fired c w.near x.near.station frames
  pub out : Reads (other d.role) d.longest x.out frames
  pub back : x.back ≡ w.back
  pub far : x.far ≡ w.far
  pub begun : x.near.begun ≡ w.near.begun

module _ (c d : LinkSettings) (joined : AreJoined c d) (reads : ReadsSpelled) (laws : HealingLaws) where
  module _ (w : Sessions) (empty : w.out ≡ []) where
    abbrev s : LinkStation
    s = w.near.station

    abbrev step : LinkStep
    step = timer_step c s

    none : Reads (other d.role) d.longest w.out []
    none = rw empty tt

    -- T1 doesn't run
    stands : timer_runs s.phase s ≡ false → Fired c w.near s [] → HasFired c d w (acts c T1 w)
    stands stopped is = subst (HasFired c d w) (sym (refused c w stopped)) (record { frames = []; is = is; out = none; back = refl; far = refl; begun = refl })

    -- the end becomes so and sends so
    fires : timer_runs s.phase s ≡ true → {t : LinkStation} {fs : List PlainFrame} → step.side.near ≡ t → step.side.out ≡ fs → AreWhole d.longest [] fs
        → Fired c w.near t fs
        → HasFired c d w (acts c T1 w)
    fires running {fs = fs} near sent whole is =
        subst (HasFired c d w) (sym (fires_is c w running)) (record {
          frames = fs;
          is = rw near is;
          out = rw sent (reads_put reads joined [] (begun_by step.notes.up w.near.begun) w.out [] fs whole none);
          back = refl;
          far = refl;
          begun = ap (λ b. begun_by b w.near.begun) (timer_up c s);
        })

    -- an end that awaits UA
    waiting : s.phase ≡ Waiting → (b : Bool) → nat_lt s.tries c.retries ≡ b → HasFired c d w (acts c T1 w)
    waiting waits b few = by b (rw (sym few) (laws.sessions.laws.set_up.timer c s waits))
      where
        After : Bool → Type 0
        After b = Is (if b then record s { tries = suc s.tries } else with_nothing Down s.tries) (if b then sabm true ∷ [] else [])
            (if b then None else Some Retries) false step

        running : timer_runs s.phase s ≡ true
        running = ap (λ p. timer_runs p s) waits

        not_up : HasTries c.retries w.near.station → ⊥
        not_up has = not_both (is_up s.phase) has.up (ap is_up waits)

        by : (b : Bool) → After b → HasFired c d w (acts c T1 w)
        by true a =
            fires running a.near a.out (record { in_range = tt; carries = refl; within = tt; packet = tt }, tt)
            (inr (record { had_none = not_up; is = asks waits }))
        by false a = fires running a.near a.out tt (inr (record { had_none = not_up; is = out tt }))

    -- an end that is Up
    up_runs : IsInOrderIfUp c w.near.station → is_up s.phase ≡ true → timer_runs s.phase s ≡ true → (b : Bool) → nat_lt s.tries c.retries ≡ b
        → HasFired c d w (acts c T1 w)
    up_runs h up running true few =
        let left = ltb-true _ _ few in
        let a = laws.answers.timer c s (is_up_phase s.phase up) left in
        fires running a.near a.out
        (poll_whole d.longest (is_busy s) (wanted s) (below_eight (length s.taken)), tt)
        (inl (record { tries = record { up = up; tries = λ _. left }; busy = refl; is = polls up refl refl }))
    up_runs h up running false over =
        let follows = subst (λ b. Follows (if b then None else Some Retries) c.window nothing s step) over
        (laws.sessions.laws.window.timer c s (record { up = up; sound = h.sound up })) in
        let none_left = ltb-false _ _ over in
        fires running refl follows.frames tt
        (inr (record { had_none = λ has. omega (arith, has.tries running, none_left); is = out (subst IsOut (sym follows.phase) tt) }))

    up_fires : IsInOrderIfUp c w.near.station → is_up s.phase ≡ true → (b : Bool) → timer_runs s.phase s ≡ b → HasFired c d w (acts c T1 w)
    up_fires h up true running = up_runs h up running (nat_lt s.tries c.retries) refl
    up_fires h up false stopped =
        stands stopped (inl (record {
          tries = record { up = up; tries = λ running. not_both (timer_runs s.phase s) running stopped };
          busy = refl;
          is = stays (stopped_rests laws joined.near_low h up stopped);
        }))

    -- an end that is Closed
    closed : s.phase ≡ Closed → timer_runs s.phase s ≡ true → (b : Bool) → nat_lt s.tries c.retries ≡ b → HasFired c d w (acts c T1 w)
    closed is running b few = by b (rw (sym few) (laws.sessions.laws.set_up.timer_closes c s is))
      where
        After : Bool → Type 0
        After b = Is (if b then record s { tries = suc s.tries } else ended_by GivenUp s.closing s) (if b then disc true ∷ [] else []) None false step

        not_up : HasTries c.retries w.near.station → ⊥
        not_up has = not_both (is_up s.phase) has.up (ap is_up is)

        by : (b : Bool) → After b → HasFired c d w (acts c T1 w)
        by true a =
            fires running a.near a.out (record { in_range = tt; carries = refl; within = tt; packet = tt }, tt)
            (inr (record { had_none = not_up; is = disconnects (subst IsOut (sym is) tt) }))
        by false a = fires running a.near a.out tt (inr (record { had_none = not_up; is = out (ended_out GivenUp s.closing s (subst IsOut (sym is) tt)) }))

    closed_fires : s.phase ≡ Closed → (b : Bool) → timer_runs s.phase s ≡ b → HasFired c d w (acts c T1 w)
    closed_fires is true running = closed is running (nat_lt s.tries c.retries) refl
    closed_fires is false stopped =
        stands stopped
        (inr (record { had_none = λ has. not_both (is_up s.phase) has.up (ap is_up is); is = out (subst IsOut (sym is) tt) }))

    has_fired : IsInOrderIfUp c w.near.station → HasFired c d w (acts c T1 w)
    has_fired h = by s.phase refl
      where
        by : (p : Phase) → s.phase ≡ p → HasFired c d w (acts c T1 w)
        by Up is = up_fires h (ap is_up is) (timer_runs s.phase s) refl
        by Waiting is = waiting is (nat_lt s.tries c.retries) refl
        by Closed is = closed_fires is (timer_runs s.phase s) refl
        by p is =
            stands (ap (λ q. timer_runs q s) is)
            (inr (record { had_none = λ has. not_both (is_up s.phase) has.up (ap is_up is); is = out (subst IsOut (sym is) tt) }))

-- both ends fire
abbrev pub after_firings : LinkSettings → LinkSettings → Sessions → Sessions
after_firings c d w = swapped (acts d T1 (swapped (acts c T1 w)))

abbrev pub RestOrOut : LinkSettings → LinkSettings → List LinkEvent → Sessions → Type 0
RestOrOut c d es v = (let u = run c d es v in RestsOrOut u.near.station × RestsOrOut u.far.station)

-- both ends, and the frames between them
pub record BothFired (c d : LinkSettings) (w v : Sessions) : Type 0 where
  pub there : List PlainFrame
  pub behind : List PlainFrame
  pub near : Fired c w.near v.near.station there
  pub far : Fired d w.far v.far.station behind
  pub out : Reads (other d.role) d.longest v.out there
  pub back : Reads (other c.role) c.longest v.back behind
  pub near_begun : v.near.begun ≡ w.near.begun
  pub far_begun : v.far.begun ≡ w.far.begun

module _ (reads : ReadsSpelled) (laws : HealingLaws) where
  pub both_fire : {c d : LinkSettings} → AreJoined c d → {w : Sessions} → IsInOrderIfUp c w.near.station → IsInOrderIfUp d w.far.station → IsDrained w
      → BothFired c d w (after_firings c d w)
  both_fire {c} {d} joined {w} near_in far_in was =
      let x : Sessions = acts c T1 w in
      let f = has_fired c d joined reads laws w was.out near_in in
      let g = has_fired d c (joined_swapped joined) reads laws (swapped x) (f.back ∙ was.back) (subst (λ e. IsInOrderIfUp d e.station) (sym f.far) far_in) in
      record {
        there = f.frames;
        behind = g.frames;
        near = rw g.far f.is;
        far = subst (λ e. Fired d e (acts d T1 (swapped x)).near.station g.frames) f.far g.is;
        out = rw g.back f.out;
        back = g.out;
        near_begun = ap (λ e. e.begun) g.far ∙ f.begun;
        far_begun = g.begun ∙ ap (λ e. e.begun) f.far;
      }

  -- one end goes on, and the other doesn't
  parts : {s t : LinkStation} {fs gs : List PlainFrame} → GoesOn s fs → IsOff t gs → Parts s t fs gs
  parts {s} (polls up recovery said) (asks waits) = asked_polling (is_busy s) (wanted s) (below_eight (length s.taken)) up waits
  parts {s} (polls up recovery said) (out gone) = polled (is_busy s) (wanted s) up gone
  parts {s} (stays rest) (asks waits) = asked (laws.rest.only_then s rest).0 waits
  parts (stays rest) (out gone) = rests rest gone
  parts {s} (polls up recovery said) (disconnects gone) = closes_polled (is_busy s) (wanted s) (below_eight (length s.taken)) up gone
  parts {s} (stays rest) (disconnects gone) = closes (laws.rest.only_then s rest).0 gone

  -- from any two ends, where two that are Up and have tries left come to rest
  pub rest_or_out : (c d : LinkSettings) → AreJoined c d → (w : Sessions) → IsInOrderIfUp c w.near.station → IsInOrderIfUp d w.far.station → IsDrained w
      → (es : List LinkEvent) → Each IsDelivery es
      → IsDrained (run c d es (after_firings c d w))
      → (HasTries c.retries w.near.station → HasTries d.retries w.far.station → RestOrOut c d es (after_firings c d w))
      → RestOrOut c d es (after_firings c d w)
  rest_or_out c d joined w near_in far_in was es are after heals = by b.near b.far
    where
      v : Sessions
      v = after_firings c d w

      b : BothFired c d w v
      b = both_fire joined near_in far_in was

      s : LinkStation
      s = v.near.station

      t : LinkStation
      t = v.far.station

      settles : Settles s t b.there b.behind → RestOrOut c d es v
      settles is = settle c d joined reads laws es are v (record { there = b.there; behind = b.behind; out = b.out; back = b.back; is = is }) after

      by : Fired c w.near s b.there → Fired d w.far t b.behind → RestOrOut c d es v
      by (inl h) (inl k) = heals h.tries k.tries
      by (inl h) (inr k) = settles (inl (parts h.is k.is))
      by (inr h) (inl k) = settles (inr (inl (parts k.is h.is)))
      by (inr h) (inr k) = settles (inr (inr (record {
        near = inr (off_not_up h.is);
        far = inr (off_not_up k.is);
        there = off_sets_up h.is;
        back = off_sets_up k.is;
      })))
