-- What is due at one moment is asked so often at most: each time one moment less is past.
use Rattle.x25_pipe.proofs.Names.{◌≡◌, ℕ, zero, suc, ◌+◌, ◌<◌, ◌≤◌, ◌==◌, List, [], ◌∷◌, length, map, Bool, true, false, if◌then◌else◌, nat_lt, Option, Some}
use Rattle.x25_pipe.proofs.Names.{None, refl, sym, ap, subst, ◌∙◌, arith, lt-leb, Settings, Due, Times, asked_of, event_for, Deadlines, Seen, heeded, due_of, after_due}
use Rattle.x25_pipe.proofs.Names.{Act, asked_act, event_act, event_in, nothing_act, Timed, TimedTurn, new_timed, insist_turn, told_due, due_first}
use Rattle.std.proofs.{Common.{◌^◌, is_some, not}, lemmas.Bool.{true≢false, eq-eqb, ltb-true}, lemmas.Option.{none-some, same_Some}}
use Rattle.x25_circuit.specs.declared.awaits.{Awaits.{Awaits}, Awaits.TheVariants.{Nothing, Acceptance, ResetConfirmation, ClearConfirmation}}
use Rattle.x25_circuit.specs.declared.awaits.Awaits.TheVariants.{InterruptConfirmation}
use Rattle.x25_circuit.specs.Awaits.{is_any}
use Rattle.x25_clock.specs.Clock.{is_same, rotated, since, unless_unmoved, unmoved_of}
use Rattle.x25_clock.specs.Clock.{most_due, nothing_awaited, channels_from, deadline, is_past, number_of, time_of, t1_after, running, wait_after, overdue_of}
use Rattle.x25_clock.specs.{Clock.{asked_for, begun as begun_at, due_on, seen_first, unless_on, renewed, renewed_on}, declared.wait.Wait.{Wait}}
use Rattle.x25_pipe.{proofs.Names.{Station, due_turns, answer_turn, moment_of, time_said, timed_turn, timed_turns}, specs.Timed.{seen_at, act_turn, pass_turn}}
use Rattle.x25_pipe.specs.laws.ClockedLaw.{NothingIsDue}
use Rattle.x25_station.specs.declared.timer.{Timer.{Timer}, Timer.TheVariants.{Off, Begins, GoesOn}}
use Rattle.x25_clock.specs.declared.due.Due.TheVariants as due

-- ---- how many moments are past

abbrev counted : Bool → ℕ
counted true = 1
counted false = 0

abbrev past : ℕ → Option ℕ → ℕ
past now until = counted (is_past now until)

-- of a channel
abbrev past_on : ℕ → Wait → ℕ
past_on now w = past now w.until + past now w.rotates

abbrev all_past : ℕ → List Wait → ℕ
all_past now [] = 0
all_past now (w ∷ ws) = past_on now w + all_past now ws

abbrev count : ℕ → Deadlines → ℕ
count now d = past now d.t1 + (past now d.idle + (past now d.restart + all_past now d.waits))

one_most : (b : Bool) → counted b ≤ 1
one_most true = omega arith
one_most false = omega arith

positive : (n : ℕ) → (n == 0) ≡ false → 0 < n
positive zero is = absurd (true≢false is)
positive (suc n) is = omega arith

-- one that begins isn't past
fresh : (now time : ℕ) → past now (deadline now time) ≡ 0
fresh now time = by (time == 0) refl
  where
    later : (time == 0) ≡ false → now < now + time
    later is = let some : 0 < time = positive time is in omega (arith, some)

    in_range : (b : Bool) → (time == 0) ≡ false → past now (if b then Some (now + time) else None) ≡ 0
    in_range true is = ap counted (lt-leb (now + time) now (later is))
    in_range false is = refl

    by : (b : Bool) → (time == 0) ≡ b → past now (if b then None else if nat_lt (now + time) (2 ^ 64) then Some (now + time) else None) ≡ 0
    by true is = refl
    by false is = in_range (nat_lt (now + time) (2 ^ 64)) is

begun : (now time n : ℕ) → past now (deadline now time) ≤ n
begun now time n = let none = fresh now time in omega (arith, none)

-- ---- behind a step no more are past

module _ (times : Times) (now : ℕ) where
  t1_lower : (timer : Timer) (old : Option ℕ) → past now (t1_after times now timer old) ≤ past now old
  t1_lower Off old = omega arith
  t1_lower GoesOn old = omega arith
  t1_lower Begins old = begun now times.t1 (past now old)

  running_lower : (so anew : Bool) (old : Option ℕ) (time : ℕ) → past now (running so anew old (deadline now time)) ≤ past now old
  running_lower false anew old time = omega arith
  running_lower true true old time = begun now time (past now old)
  running_lower true false None time = begun now time 0
  running_lower true false (Some moment) time = omega arith

  wait_lower : (a : Awaits) (o : Option ℕ) (w : Wait) → past_on now (wait_after times now a o w) ≤ past_on now w
  wait_lower a o w =
      let answer = running_lower (is_any a) (not (number_of w.awaits == number_of a)) w.until (time_of times a) in
      let rotates = running_lower (is_some o) (not (is_same w.unacknowledged o)) w.rotates times.t25 in
      omega (arith, answer, rotates)

  waits_lower : (f : ℕ → Awaits) (g : ℕ → Option ℕ) (ws : List Wait)
      → all_past now (map (λ w. wait_after times now (f w.channel) (g w.channel) w) ws) ≤ all_past now ws
  waits_lower f g [] = omega arith
  waits_lower f g (w ∷ ws) = let first = wait_lower (f w.channel) (g w.channel) w in let rest = waits_lower f g ws in omega (arith, first, rest)

  heeded_lower : (x : Seen) (d : Deadlines) → count now (heeded times now x d) ≤ count now d
  heeded_lower x d =
      let t1 = t1_lower x.timer d.t1 in
      let idle = running_lower x.at_rest x.heard d.idle times.t3 in
      let restart = running_lower x.restarting x.noted d.restart times.t20 in
      let waits = waits_lower x.awaited x.unacknowledged d.waits in
      omega (arith, t1, idle, restart, waits)

  -- ---- what is told as due is past no more

  since_none : (so : Bool) (time : ℕ) → past now (since so now time) ≡ 0
  since_none true time = fresh now time
  since_none false time = refl

  abbrev renewed_to : Wait → Wait
  renewed_to w = record {
    channel = w.channel;
    awaits = w.awaits;
    until = deadline now (time_of times w.awaits);
    unacknowledged = w.unacknowledged;
    rotates = w.rotates;
  }

  abbrev rotated_to : Wait → Wait
  rotated_to w = record {
    channel = w.channel;
    awaits = w.awaits;
    until = w.until;
    unacknowledged = w.unacknowledged;
    rotates = since (is_some w.unacknowledged) now times.t25;
  }

  renewed_lower : (h : ℕ) (w : Wait) → past_on now (renewed times now h w) ≤ past_on now w
  renewed_lower h w = by (not (w.channel == h))
    where
      by : (b : Bool) → past_on now (if b then w else renewed_to w) ≤ past_on now w
      by true = omega arith
      by false = let none = fresh now (time_of times w.awaits) in omega (arith, none)

  rotated_lower : (h : ℕ) (w : Wait) → past_on now (rotated times now h w) ≤ past_on now w
  rotated_lower h w = by (not (w.channel == h))
    where
      by : (b : Bool) → past_on now (if b then w else rotated_to w) ≤ past_on now w
      by true = omega arith
      by false = let none = since_none (is_some w.unacknowledged) times.t25 in omega (arith, none)

  renewed_own : (w : Wait) → past_on now (renewed times now w.channel w) ≡ past now w.rotates
  renewed_own w =
      let none = fresh now (time_of times w.awaits) in
      let own : past_on now (renewed_to w) ≡ past now w.rotates = omega (arith, none) in
      ap (λ (b : Bool). past_on now (if not b then w else renewed_to w)) (eq-eqb w.channel w.channel refl) ∙ own

  rotated_own : (w : Wait) → past_on now (rotated times now w.channel w) ≡ past now w.until
  rotated_own w =
      let none = since_none (is_some w.unacknowledged) times.t25 in
      let own : past_on now (rotated_to w) ≡ past now w.until = omega (arith, none) in
      ap (λ (b : Bool). past_on now (if not b then w else rotated_to w)) (eq-eqb w.channel w.channel refl) ∙ own

  all_lower : (f : Wait → Wait) → ((w : Wait) → past_on now (f w) ≤ past_on now w) → (ws : List Wait) → all_past now (map f ws) ≤ all_past now ws
  all_lower f lower [] = omega arith
  all_lower f lower (w ∷ ws) = let first = lower w in let rest = all_lower f lower ws in omega (arith, first, rest)

  one_less : (x : Wait) (ws : List Wait) → overdue_of now ws ≡ Some x → all_past now (map (renewed times now x.channel) ws) + 1 ≤ all_past now ws
  one_less x [] is = absurd (none-some x is)
  one_less x (w ∷ ws) is = by (is_past now w.until) refl is (one_less x ws)
    where
      by : (b : Bool) → is_past now w.until ≡ b → (if b then Some w else overdue_of now ws) ≡ Some x
          → (overdue_of now ws ≡ Some x → all_past now (map (renewed times now x.channel) ws) + 1 ≤ all_past now ws)
          → past_on now (renewed times now x.channel w) + all_past now (map (renewed times now x.channel) ws) + 1 ≤ past_on now w + all_past now ws
      by true late same less =
          let own : w ≡ x = same_Some w x same in
          let none : past_on now (renewed times now x.channel w) ≡ past now w.rotates =
          ap (λ (y : Wait). past_on now (renewed times now y.channel w)) (sym own) ∙ renewed_own w in
          let was : past now w.until ≡ 1 = ap counted late in
          let rest = all_lower (renewed times now x.channel) (renewed_lower x.channel) ws in
          omega (arith, none, was, rest)
      by false late same less =
          let first = renewed_lower x.channel w in
          let rest = less same in
          omega (arith, first, rest)

  one_rotated : (k : ℕ) (ws : List Wait) → unmoved_of now ws ≡ Some k → all_past now (map (rotated times now k) ws) + 1 ≤ all_past now ws
  one_rotated k [] is = absurd (none-some k is)
  one_rotated k (w ∷ ws) is = by (is_past now w.rotates) refl is (one_rotated k ws)
    where
      by : (b : Bool) → is_past now w.rotates ≡ b → (if b then Some w.channel else unmoved_of now ws) ≡ Some k
          → (unmoved_of now ws ≡ Some k → all_past now (map (rotated times now k) ws) + 1 ≤ all_past now ws)
          → past_on now (rotated times now k w) + all_past now (map (rotated times now k) ws) + 1 ≤ past_on now w + all_past now ws
      by true late same less =
          let own : w.channel ≡ k = same_Some w.channel k same in
          let none : past_on now (rotated times now k w) ≡ past now w.until =
          ap (λ (i : ℕ). past_on now (rotated times now i w)) (sym own) ∙ rotated_own w in
          let was : past now w.rotates ≡ 1 = ap counted late in
          let rest = all_lower (rotated times now k) (rotated_lower k) ws in
          omega (arith, none, was, rest)
      by false late same less =
          let first = rotated_lower k w in
          let rest = less same in
          omega (arith, first, rest)

  due_less : (d : Deadlines) (what : Due) → due_of now d ≡ Some what → count now (after_due times now d) + 1 ≤ count now d
  due_less d what is = by_t1 (is_past now d.t1) refl is
    where
      on_idle : (b : Bool) → is_past now d.idle ≡ b → (if b then Some due.Probe else None) ≡ Some what → count now (renewed_on times now None None b d) + 1
          ≤ count now d
      on_idle true late same = let was : past now d.idle ≡ 1 = ap counted late in let none = fresh now times.t3 in omega (arith, was, none)
      on_idle false late same = absurd (none-some what same)

      on_packet : (u : Option ℕ) → unmoved_of now d.waits ≡ u → unless_unmoved u (if is_past now d.idle then Some due.Probe else None) ≡ Some what
          → count now (renewed_on times now None u (is_past now d.idle) d) + 1 ≤ count now d
      on_packet None found same = on_idle (is_past now d.idle) refl same
      on_packet (Some k) found same = let less = one_rotated k d.waits found in omega (arith, less)

      on_channel : (o : Option Wait) → overdue_of now d.waits ≡ o
          → unless_on o (unless_unmoved (unmoved_of now d.waits) (if is_past now d.idle then Some due.Probe else None)) ≡ Some what
          → count now (renewed_on times now o (unmoved_of now d.waits) (is_past now d.idle) d) + 1 ≤ count now d
      on_channel None found same = on_packet (unmoved_of now d.waits) refl same
      on_channel (Some x) found same = let less = one_less x d.waits found in omega (arith, less)

      by_restart : (b : Bool) → is_past now d.restart ≡ b
          → (if b then Some due.Relink
          else unless_on (overdue_of now d.waits) (unless_unmoved (unmoved_of now d.waits) (if is_past now d.idle then Some due.Probe else None))) ≡ Some what
          → count now (if b then record d { restart = deadline now times.t20 } else renewed_on times now (overdue_of now d.waits) (unmoved_of now d.waits) (is_past now d.idle) d) + 1
          ≤ count now d
      by_restart true late same = let was : past now d.restart ≡ 1 = ap counted late in let none = fresh now times.t20 in omega (arith, was, none)
      by_restart false late same = on_channel (overdue_of now d.waits) refl same

      by_t1 : (b : Bool) → is_past now d.t1 ≡ b
          → (if b then Some due.T1 else if is_past now d.restart then Some due.Relink
          else unless_on (overdue_of now d.waits) (unless_unmoved (unmoved_of now d.waits) (if is_past now d.idle then Some due.Probe else None))) ≡ Some what
          → count now (if b then record d { t1 = deadline now times.t1 } else if is_past now d.restart then record d { restart = deadline now times.t20 }
          else renewed_on times now (overdue_of now d.waits) (unmoved_of now d.waits) (is_past now d.idle) d) + 1 ≤ count now d
      by_t1 true late same = let was : past now d.t1 ≡ 1 = ap counted late in let none = fresh now times.t1 in omega (arith, was, none)
      by_t1 false late same = by_restart (is_past now d.restart) refl same

-- ---- where none is past nothing is due

not_past : (now : ℕ) (until : Option ℕ) → past now until ≡ 0 → is_past now until ≡ false
not_past now until none = by (is_past now until) none
  where
    by : (b : Bool) → counted b ≡ 0 → b ≡ false
    by true is = absurd (omega (arith, is))
    by false is = refl

none_overdue : (now : ℕ) (ws : List Wait) → all_past now ws ≡ 0 → overdue_of now ws ≡ None
none_overdue now [] none = refl
none_overdue now (w ∷ ws) none =
    ap (λ (b : Bool). if b then Some w else overdue_of now ws) (not_past now w.until (omega (arith, none))) ∙ none_overdue now ws (omega (arith, none))

none_unmoved : (now : ℕ) (ws : List Wait) → all_past now ws ≡ 0 → unmoved_of now ws ≡ None
none_unmoved now [] none = refl
none_unmoved now (w ∷ ws) none =
    ap (λ (b : Bool). if b then Some w.channel else unmoved_of now ws) (not_past now w.rotates (omega (arith, none))) ∙ none_unmoved now ws (omega (arith, none))

none_due : (now : ℕ) (d : Deadlines) → count now d ≡ 0 → due_of now d ≡ None
none_due now d none =
    let channels : Option Due → Option Due = λ o. unless_on (overdue_of now d.waits) (unless_unmoved (unmoved_of now d.waits) o) in
    ap (λ (b : Bool). if b then Some due.T1 else if is_past now d.restart then Some due.Relink
    else channels (if is_past now d.idle then Some due.Probe else None)) (not_past now d.t1 (omega (arith, none)))
    ∙ ap (λ (b : Bool). if b then Some due.Relink else channels (if is_past now d.idle then Some due.Probe else None))
    (not_past now d.restart (omega (arith, none)))
    ∙ ap (λ (b : Bool). channels (if b then Some due.Probe else None)) (not_past now d.idle (omega (arith, none)))
    ∙ ap (λ (o : Option Wait). unless_on o (unless_unmoved (unmoved_of now d.waits) None)) (none_overdue now d.waits (omega (arith, none)))
    ∙ ap (λ (u : Option ℕ). unless_unmoved u None) (none_unmoved now d.waits (omega (arith, none)))

-- ---- nothing awaited has no deadline

abbrev Unawaited : List Wait → Type 0
Unawaited [] = Unit {0}
Unawaited (w ∷ ws) = (w.awaits ≡ Nothing → w.until ≡ None) × Unawaited ws

module _ (times : Times) (now : ℕ) where
  wait_none : (a : Awaits) (o : Option ℕ) (w : Wait) → (let x : Wait = wait_after times now a o w in x.awaits ≡ Nothing → x.until ≡ None)
  wait_none a o w is = ap (λ (b : Awaits). running (is_any b) (not (number_of w.awaits == number_of b)) w.until (deadline now (time_of times b))) is

  heeded_none : (f : ℕ → Awaits) (g : ℕ → Option ℕ) (ws : List Wait) → Unawaited (map (λ w. wait_after times now (f w.channel) (g w.channel) w) ws)
  heeded_none f g [] = tt
  heeded_none f g (w ∷ ws) = (wait_none (f w.channel) (g w.channel) w, heeded_none f g ws)

  renewed_still : (k : ℕ) (w : Wait) → (w.awaits ≡ Nothing → w.until ≡ None) → (let x : Wait = renewed times now k w in x.awaits ≡ Nothing → x.until ≡ None)
  renewed_still k w h = by (not (w.channel == k))
    where
      by : (b : Bool) → (let x : Wait = if b then w else renewed_to times now w in x.awaits ≡ Nothing → x.until ≡ None)
      by true = h
      by false = λ is. ap (λ (b : Awaits). deadline now (time_of times b)) is

  rotated_still : (k : ℕ) (w : Wait) → (w.awaits ≡ Nothing → w.until ≡ None) → (let x : Wait = rotated times now k w in x.awaits ≡ Nothing → x.until ≡ None)
  rotated_still k w h = by (not (w.channel == k))
    where
      by : (b : Bool) → (let x : Wait = if b then w else rotated_to times now w in x.awaits ≡ Nothing → x.until ≡ None)
      by true = h
      by false = h

  all_still : (f : Wait → Wait) → ((w : Wait) → (w.awaits ≡ Nothing → w.until ≡ None) → (let x : Wait = f w in x.awaits ≡ Nothing → x.until ≡ None))
      → (ws : List Wait) → Unawaited ws → Unawaited (map f ws)
  all_still f still [] h = tt
  all_still f still (w ∷ ws) h = (still w h.0, all_still f still ws h.1)

-- ---- what holds of the deadlines of a clock, whatever is seen

abbrev IsClock : Deadlines → Type 0
IsClock d = Unawaited d.waits

module _ (times : Times) (now : ℕ) where
  clock_heeds : (x : Seen) (d : Deadlines) → IsClock d → IsClock (heeded times now x d)
  clock_heeds x d h = heeded_none times now x.awaited x.unacknowledged d.waits

  clock_tells : (d : Deadlines) → IsClock d → IsClock (after_due times now d)
  clock_tells d h = by (is_past now d.t1) (is_past now d.restart)
    where
      on : (o : Option Wait) (u : Option ℕ) (idle : Bool) → IsClock (renewed_on times now o u idle d)
      on None None true = h
      on None None false = h
      on None (Some k) idle = all_still times now (rotated times now k) (rotated_still times now k) d.waits h
      on (Some x) u idle = all_still times now (renewed times now x.channel) (renewed_still times now x.channel) d.waits h

      by : (t1 restart : Bool) → IsClock (if t1 then record d { t1 = deadline now times.t1 } else if restart then record d { restart = deadline now times.t20 }
          else renewed_on times now (overdue_of now d.waits) (unmoved_of now d.waits) (is_past now d.idle) d)
      by true restart = h
      by false true = h
      by false false = on (overdue_of now d.waits) (unmoved_of now d.waits) (is_past now d.idle)

  -- where nothing is due nothing is told as due
  overdue_none : (ws : List Wait) (x : Wait) → Unawaited ws → overdue_of now ws ≡ Some x → due_on x ≡ None → ⊥
  overdue_none [] x h found none = none-some x found
  overdue_none (w ∷ ws) x h found none = by (is_past now w.until) refl found (λ same. overdue_none ws x h.1 same none)
    where
      at : (a : Awaits) → w.awaits ≡ a → asked_for w.channel a ≡ None → is_past now w.until ≡ true → ⊥
      at Nothing is none_asked late = true≢false (sym late ∙ ap (is_past now) (h.0 is))
      at Acceptance is none_asked late = none-some (due.Clear w.channel) (sym none_asked)
      at ResetConfirmation is none_asked late = none-some (due.Clear w.channel) (sym none_asked)
      at ClearConfirmation is none_asked late = none-some (due.Restart w.channel) (sym none_asked)
      at InterruptConfirmation is none_asked late = none-some (due.Reset w.channel) (sym none_asked)

      by : (b : Bool) → is_past now w.until ≡ b → (if b then Some w else overdue_of now ws) ≡ Some x → (overdue_of now ws ≡ Some x → ⊥) → ⊥
      by true late same rest = at w.awaits refl (ap due_on (same_Some w x same) ∙ none) late
      by false late same rest = rest same

  told_none : (d : Deadlines) → IsClock d → due_of now d ≡ None → due_of now (after_due times now d) ≡ None
  told_none d h none = by_t1 (is_past now d.t1) refl none
    where
      on_idle : (b : Bool) → (if b then Some due.Probe else None) ≡ None → due_of now (renewed_on times now None None b d) ≡ None
      on_idle true same = absurd (none-some due.Probe (sym same))
      on_idle false same = none

      on_packet : (u : Option ℕ) → unless_unmoved u (if is_past now d.idle then Some due.Probe else None) ≡ None
          → due_of now (renewed_on times now None u (is_past now d.idle) d) ≡ None
      on_packet None same = on_idle (is_past now d.idle) same
      on_packet (Some k) same = absurd (none-some (due.ResetUnacknowledged k) (sym same))

      on_channel : (o : Option Wait) → overdue_of now d.waits ≡ o
          → unless_on o (unless_unmoved (unmoved_of now d.waits) (if is_past now d.idle then Some due.Probe else None)) ≡ None
          → due_of now (renewed_on times now o (unmoved_of now d.waits) (is_past now d.idle) d) ≡ None
      on_channel None found same = on_packet (unmoved_of now d.waits) same
      on_channel (Some x) found same = absurd (overdue_none d.waits x h found same)

      by_restart : (b : Bool)
          → (if b then Some due.Relink
          else unless_on (overdue_of now d.waits) (unless_unmoved (unmoved_of now d.waits) (if is_past now d.idle then Some due.Probe else None))) ≡ None
          → due_of now (if b then record d { restart = deadline now times.t20 }
          else renewed_on times now (overdue_of now d.waits) (unmoved_of now d.waits) (is_past now d.idle) d) ≡ None
      by_restart true same = absurd (none-some due.Relink (sym same))
      by_restart false same = on_channel (overdue_of now d.waits) refl same

      by_t1 : (b : Bool) → is_past now d.t1 ≡ b
          → (if b then Some due.T1 else if is_past now d.restart then Some due.Relink
          else unless_on (overdue_of now d.waits) (unless_unmoved (unmoved_of now d.waits) (if is_past now d.idle then Some due.Probe else None))) ≡ None
          → due_of now (if b then record d { t1 = deadline now times.t1 } else if is_past now d.restart then record d { restart = deadline now times.t20 }
          else renewed_on times now (overdue_of now d.waits) (unmoved_of now d.waits) (is_past now d.idle) d) ≡ None
      by_t1 true late same = absurd (none-some due.T1 (sym same))
      by_t1 false late same = by_restart (is_past now d.restart) same

  most : (ws : List Wait) → all_past now ws ≤ length ws + length ws
  most [] = omega arith
  most (w ∷ ws) =
      let answer = one_most (is_past now w.until) in
      let rotates = one_most (is_past now w.rotates) in
      let rest = most ws in
      omega (arith, answer, rotates, rest)

  few_past : (d : Deadlines) → count now d ≤ most_due d
  few_past d =
      let t1 = one_most (is_past now d.t1) in
      let idle = one_most (is_past now d.idle) in
      let restart = one_most (is_past now d.restart) in
      let waits = most d.waits in
      omega (arith, t1, idle, restart, waits)

-- ---- of a clock that begins

first_clock : (channels : ℕ) → IsClock (nothing_awaited channels)
first_clock channels = all channels 1
  where
    all : (n first : ℕ) → Unawaited (channels_from first n)
    all zero first = tt
    all (suc n) first = ((λ is. refl), all n (first + 1))

none_first : (now channels : ℕ) → count now (nothing_awaited channels) ≡ 0
none_first now channels = let none = all channels 1 in omega (arith, none)
  where
    all : (n first : ℕ) → all_past now (channels_from first n) ≡ 0
    all zero first = refl
    all (suc n) first = let rest = all n (first + 1) in omega (arith, rest)

-- as it begins nothing is due
begun_none : (c : Settings) (times : Times) (now : ℕ) (s : Station) → due_of now (begun_at times now c.channels.count c s) ≡ None
begun_none c times now s =
    let channels : ℕ = c.channels.count in
    let lower = heeded_lower times now (seen_first c s) (nothing_awaited channels) in
    let none = none_first now channels in
    none_due now (begun_at times now channels c s) (omega (arith, lower, none))

-- ---- the turns of a line that says the time

module _ (c : Settings) (times : Times) where
  act_clock : (w : Timed) (a : Act) → IsClock w.deadlines → IsClock (act_turn c times w a).next.deadlines
  act_clock w a h = clock_heeds times (moment_of w.now) (seen_at c a) w.deadlines h

  insist_clock : (what : Due) (w : Timed) → IsClock w.deadlines → IsClock (insist_turn c times what w).next.deadlines
  insist_clock what w h = act_clock w (event_act c w.station (event_for (asked_of c w.station what))) h

  all_asked : (n : ℕ) (w : Timed) → IsClock w.deadlines → count (moment_of w.now) w.deadlines ≤ n
      → (let v : Timed = (due_turns c times n w).next in (due_of (moment_of w.now) v.deadlines ≡ None) × IsClock v.deadlines)
  unfolding due_turns
  all_asked zero w h low = (none_due (moment_of w.now) w.deadlines (omega (arith, low)), h)
  all_asked (suc n) w h low = by (due_of now w.deadlines) refl (all_asked n)
    where
      now : ℕ
      now = moment_of w.now

      v : Timed
      v = told_due times w

      by : (o : Option Due) → due_of now w.deadlines ≡ o
          → ((x : Timed) → IsClock x.deadlines → count (moment_of x.now) x.deadlines ≤ n
          → (let y : Timed = (due_turns c times n x).next in (due_of (moment_of x.now) y.deadlines ≡ None) × IsClock y.deadlines))
          → (let u : Timed = (due_first c times (due_turns c times n) w o).next in (due_of now u.deadlines ≡ None) × IsClock u.deadlines)
      by None is rest = (told_none times now w.deadlines h is, clock_tells times now w.deadlines h)
      by (Some what) is rest =
          let u : Timed = (insist_turn c times what v).next in
          let less = due_less times now w.deadlines what is in
          let lower = heeded_lower times now (seen_at c (event_act c v.station (event_for (asked_of c v.station what)))) v.deadlines in
          rest u (insist_clock what v (clock_tells times now w.deadlines h)) (omega (arith, low, less, lower))

  pass_clock : (now : ℕ) (w : Timed) (o : Option ℕ) → IsClock w.deadlines → IsClock (pass_turn c times now w o).next.deadlines
  pass_clock now w None h = clock_heeds times now (seen_first c w.station) (nothing_awaited c.channels.count) (first_clock c.channels.count)
  pass_clock now w (Some last) h = by (nat_lt now last)
    where
      at_now : Timed
      at_now = record w { now = Some now }

      by : (b : Bool) → IsClock (let t : TimedTurn = if b then act_turn c times w (nothing_act w.station)
          else due_turns c times (most_due w.deadlines) at_now in t.next.deadlines)
      by true = act_clock w (nothing_act w.station) h
      by false = (all_asked (most_due w.deadlines) at_now h (few_past times now w.deadlines)).1

  answer_clock : (line : List ℕ) (w : Timed) (o : Option ℕ) → IsClock w.deadlines → IsClock (answer_turn c times line w o).next.deadlines
  answer_clock line w None h = act_clock w (asked_act c w.station (event_in c.wide c.role line)) h
  answer_clock line w (Some now) h = pass_clock now w w.now h

  line_clock : (line : List ℕ) (w : Timed) → IsClock w.deadlines → IsClock (timed_turn c times line w).next.deadlines
  unfolding timed_turn
  line_clock line w h = answer_clock line w (time_said line) h

  lines_clock : (lines : List (List ℕ)) (w : Timed) → IsClock w.deadlines → IsClock (timed_turns c times lines w).next.deadlines
  unfolding timed_turns
  lines_clock [] w h = h
  lines_clock (line ∷ lines) w h = lines_clock lines (timed_turn c times line w).next (line_clock line w h)

pub nothing_is_due : NothingIsDue
unfolding timed_turn
nothing_is_due c times lines line now said later = by (time_said line) said
  where
    w : Timed
    w = (timed_turns c times lines (new_timed c)).next

    at_now : Timed
    at_now = record w { now = Some now }

    sound : IsClock w.deadlines
    sound = lines_clock c times lines (new_timed c) (first_clock c.channels.count)

    at_time : (last : ℕ) (b : Bool) → nat_lt now last ≡ b → last ≤ now
        → due_of now (let t : TimedTurn = if b then act_turn c times w (nothing_act w.station) else due_turns c times (most_due w.deadlines) at_now in
        t.next.deadlines) ≡ None
    at_time last true is low = absurd (omega (arith, ltb-true now last is, low))
    at_time last false is low = (all_asked c times (most_due w.deadlines) at_now sound (few_past times now w.deadlines)).0

    passed : (o : Option ℕ) → moment_of o ≤ now → due_of now (pass_turn c times now w o).next.deadlines ≡ None
    passed None low = begun_none c times now w.station
    passed (Some last) low = at_time last (nat_lt now last) refl low

    by : (o : Option ℕ) → o ≡ Some now → due_of now (answer_turn c times line w o).next.deadlines ≡ None
    by None is = absurd (none-some now is)
    by (Some n) is = subst (λ (m : ℕ). due_of now (answer_turn c times line w (Some m)).next.deadlines ≡ None) (sym (same_Some n now is))
        (passed w.now later)
