-- What is played follows from where a program stands: its stations, its channels, and that T1 is asked first.
use Rattle.std.proofs.Common.{◌≡◌, ◌≤◌, ◌<◌, ◌+◌, ◌==◌, ◌&&◌, ℕ, zero, suc, nat_lt, Bool, true, false, if◌then◌else◌, List, [], ◌∷◌, ◌++◌, map, Option, Some}
use Rattle.std.proofs.Common.{None, is_some}
use Rattle.std.proofs.Common.{refl, sym, subst, arith, ◌^◌, not}
use Rattle.std.proofs.lemmas.Bool.{lt-leb, true≢false}
use Rattle.x25_circuit.specs.declared.awaits.{Awaits.{Awaits}, Awaits.TheVariants.{Nothing, Acceptance, ResetConfirmation, ClearConfirmation}}
use Rattle.x25_circuit.specs.declared.awaits.Awaits.TheVariants.{InterruptConfirmation}
use Rattle.x25_clock.specs.Clock.{Deadlines, after_due, asked_for, channels_from, deadline, due_of, is_past, most_due, number_of, overdue_of}
use Rattle.x25_clock.specs.Clock.{rotated, since, unless_unmoved, unmoved_of}
use Rattle.x25_clock.specs.Clock.{nothing_awaited, renewed, renewed_on, seen_first, t1_after, time_of, unless_on, wait_after}
use Rattle.x25_clock.specs.{Due.{asked_of, event_for, is_packet, lacks_room}, declared.due.Due.{Due}, declared.times.Times.{Times}, declared.wait.Wait.{Wait}}
use Rattle.x25_clock.specs.declared.due.Due.TheVariants as due
use Rattle.x25_pipe.specs.Pipe.{Act, asked_act, event_act, event_in, nothing_act}
unfoldable use Rattle.x25_pipe.specs.Timed.{due_turns, timed_turn}
use Rattle.x25_pipe.specs.Timed.{Timed, TimedTurn, act_turn, answer_turn, channel_for, due_first, insist_turn, new_timed, seen_at, time_said}
use Rattle.x25_pipe.specs.Timed.{begins, moment_of, pass_turn, told_due}
use Rattle.x25_station.specs.{Config.{Settings}, Station.{Station}, laws.TimerLaw.{StationEvent, Comes, Fires}}
use Rattle.x25_station.specs.laws.TimerLaw as timer
use Rattle.x25_station.specs.declared.timer.{Timer.{Timer}, Timer.TheVariants.{Off, Begins, GoesOn}}
use Rattle.x25_joined.specs.laws.Played.{Insists, Marks, Passes, Play, Played, answer_plays, asked_by, due_plays, first_due, line_plays}
use Rattle.x25_joined.specs.laws.Played.{pass_plays, playing}

-- ---- stations

-- the station behind what is played
abbrev pub next_by : Settings → Played → Station
next_by c p = (asked_act c p.at.station (asked_by c p.play)).next

-- each is played where the one before it led
abbrev pub Linked : Settings → List Played → Station → Station → Type 0
Linked c [] s t = s ≡ t
Linked c (p ∷ ps) s t = (p.at.station ≡ s) × Linked c ps (next_by c p) t

pub linked_append : (c : Settings) (ps qs : List Played) (s t u : Station) → Linked c ps s t → Linked c qs t u → Linked c (ps ++ qs) s u
linked_append c [] qs s t u a b = subst (λ (x : Station). Linked c qs x u) (sym a) b
linked_append c (p ∷ ps) qs s t u a b = (a.0, linked_append c ps qs (next_by c p) t u a.1 b)

-- ---- channels

abbrev pub AreLow : List Wait → Type 0
AreLow [] = Unit {0}
AreLow (w ∷ ws) = (w.channel ≤ 4095) × AreLow ws

abbrev IsLow : Option Due → Type 0
IsLow None = Unit {0}
IsLow (Some due) = channel_for due ≤ 4095

-- what is asked for it is that, or that the link be set up
asked_for_it : (c : Settings) (s : Station) (P : Due → Type 0) (what : Due) → P what → P due.Relink → P (asked_of c s what)
asked_for_it c s P what own other = by (is_packet what && lacks_room (timer.outcome c s (event_for what)))
  where
    by : (b : Bool) → P (if b then due.Relink else what)
    by true = other
    by false = own

low_first : (n first : ℕ) → first + n ≤ 4096 → AreLow (channels_from first n)
low_first zero first few = tt
low_first (suc n) first few = (omega (arith, few), low_first n (first + 1) (omega (arith, few)))

module _ (times : Times) (now : ℕ) where
  heeded_low : (f : ℕ → Awaits) (g : ℕ → Option ℕ) (ws : List Wait) → AreLow ws
      → AreLow (map (λ w. wait_after times now (f w.channel) (g w.channel) w) ws)
  heeded_low f g [] low = tt
  heeded_low f g (w ∷ ws) low = (low.0, heeded_low f g ws low.1)

  -- waits that are changed on their channels
  changed_low : (f : Wait → Wait) → ((w : Wait) → (f w).channel ≡ w.channel) → (ws : List Wait) → AreLow ws → AreLow (map f ws)
  changed_low f keeps [] low = tt
  changed_low f keeps (w ∷ ws) low = (subst (λ (h : ℕ). h ≤ 4095) (sym (keeps w)) low.0, changed_low f keeps ws low.1)

  renewed_keeps : (k : ℕ) (w : Wait) → (renewed times now k w).channel ≡ w.channel
  renewed_keeps k w = by (not (w.channel == k))
    where
      by : (b : Bool) → (let x : Wait = if b then w else record {
        channel = w.channel;
        awaits = w.awaits;
        until = deadline now (time_of times w.awaits);
        unacknowledged = w.unacknowledged;
        rotates = w.rotates;
      } in x.channel) ≡ w.channel
      by true = refl
      by false = refl

  rotated_keeps : (k : ℕ) (w : Wait) → (rotated times now k w).channel ≡ w.channel
  rotated_keeps k w = by (not (w.channel == k))
    where
      by : (b : Bool) → (let x : Wait = if b then w else record {
        channel = w.channel;
        awaits = w.awaits;
        until = w.until;
        unacknowledged = w.unacknowledged;
        rotates = since (is_some w.unacknowledged) now times.t25;
      } in x.channel) ≡ w.channel
      by true = refl
      by false = refl

  renewed_on_low : (o : Option Wait) (u : Option ℕ) (idle : Bool) (d : Deadlines) → AreLow d.waits → AreLow (renewed_on times now o u idle d).waits
  renewed_on_low None None true d low = low
  renewed_on_low None None false d low = low
  renewed_on_low None (Some k) idle d low = changed_low (rotated times now k) (rotated_keeps k) d.waits low
  renewed_on_low (Some x) u idle d low = changed_low (renewed times now x.channel) (renewed_keeps x.channel) d.waits low

  due_low : (d : Deadlines) → AreLow d.waits → AreLow (after_due times now d).waits
  due_low d low = by_t1 (is_past now d.t1)
    where
      by_restart : (b : Bool) → (let x : Deadlines = if b then record d { restart = deadline now times.t20 }
          else renewed_on times now (overdue_of now d.waits) (unmoved_of now d.waits) (is_past now d.idle) d in AreLow x.waits)
      by_restart true = low
      by_restart false = renewed_on_low (overdue_of now d.waits) (unmoved_of now d.waits) (is_past now d.idle) d low

      by_t1 : (b : Bool) → (let x : Deadlines = if b then record d { t1 = deadline now times.t1 }
          else if is_past now d.restart then record d { restart = deadline now times.t20 }
          else renewed_on times now (overdue_of now d.waits) (unmoved_of now d.waits) (is_past now d.idle) d in AreLow x.waits)
      by_t1 true = low
      by_t1 false = by_restart (is_past now d.restart)

asked_low : (h : ℕ) (a : Awaits) → h ≤ 4095 → IsLow (asked_for h a)
asked_low h Nothing low = tt
asked_low h Acceptance low = low
asked_low h ResetConfirmation low = low
asked_low h ClearConfirmation low = low
asked_low h InterruptConfirmation low = low

overdue_low : (now : ℕ) (ws : List Wait) (other : Option Due) → AreLow ws → IsLow other → IsLow (unless_on (overdue_of now ws) other)
overdue_low now [] other low h = h
overdue_low now (w ∷ ws) other low h = by (is_past now w.until) (overdue_low now ws other low.1 h)
  where
    by : (b : Bool) → IsLow (unless_on (overdue_of now ws) other)
        → IsLow (unless_on (let o : Option Wait = if b then Some w else overdue_of now ws in o) other)
    by true rest = asked_low w.channel w.awaits low.0
    by false rest = rest

unmoved_low : (now : ℕ) (ws : List Wait) (other : Option Due) → AreLow ws → IsLow other → IsLow (unless_unmoved (unmoved_of now ws) other)
unmoved_low now [] other low h = h
unmoved_low now (w ∷ ws) other low h = by (is_past now w.rotates) (unmoved_low now ws other low.1 h)
  where
    by : (b : Bool) → IsLow (unless_unmoved (unmoved_of now ws) other)
        → IsLow (unless_unmoved (let o : Option ℕ = if b then Some w.channel else unmoved_of now ws in o) other)
    by true rest = low.0
    by false rest = rest

if_low : (b : Bool) (x y : Option Due) → IsLow x → IsLow y → IsLow (let o : Option Due = if b then x else y in o)
if_low true x y a b = a
if_low false x y a b = b

found_low : (now : ℕ) (d : Deadlines) → AreLow d.waits → IsLow (due_of now d)
found_low now d low =
    let idle : Option Due = if is_past now d.idle then Some due.Probe else None in
    let packets : Option Due = unless_unmoved (unmoved_of now d.waits) idle in
    let waits : Option Due = unless_on (overdue_of now d.waits) packets in
    let restart : Option Due = if is_past now d.restart then Some due.Relink else waits in
    if_low (is_past now d.t1) (Some due.T1) restart (omega arith)
    (if_low (is_past now d.restart) (Some due.Relink) waits (omega arith)
    (overdue_low now d.waits packets low (unmoved_low now d.waits idle low (if_low (is_past now d.idle) (Some due.Probe) None (omega arith) tt))))

-- ---- T1 is asked first

never : true ≡ false → ⊥
never e = true≢false e

-- one that begins isn't past
fresh : (now time : ℕ) → is_past now (deadline now time) ≡ false
fresh now time = by (time == 0) refl
  where
    positive : (n : ℕ) → (n == 0) ≡ false → 0 < n
    positive zero is = absurd (never is)
    positive (suc n) is = omega arith

    in_range : (b : Bool) → (time == 0) ≡ false → is_past now (let o : Option ℕ = if b then Some (now + time) else None in o) ≡ false
    in_range true is = lt-leb (now + time) now (let some = positive time is in omega (arith, some))
    in_range false is = refl

    by : (b : Bool) → (time == 0) ≡ b
        → is_past now (let o : Option ℕ = if b then None else if nat_lt (now + time) (2 ^ 64) then Some (now + time) else None in o) ≡ false
    by true is = refl
    by false is = in_range (nat_lt (now + time) (2 ^ 64)) is

module _ (times : Times) (now : ℕ) where
  -- behind what was told as due T1 isn't past
  told_quiet : (d : Deadlines) → is_past now (after_due times now d).t1 ≡ false
  told_quiet d = by_t1 (is_past now d.t1) refl
    where
      on : (o : Option Wait) (unmoved : Option ℕ) (idle : Bool) → is_past now d.t1 ≡ false → is_past now (renewed_on times now o unmoved idle d).t1 ≡ false
      on None None true is = is
      on None None false is = is
      on None (Some h) idle is = is
      on (Some x) unmoved idle is = is

      by_restart : (b : Bool) → is_past now d.t1 ≡ false → is_past now (let x : Deadlines = if b then record d { restart = deadline now times.t20 }
          else renewed_on times now (overdue_of now d.waits) (unmoved_of now d.waits) (is_past now d.idle) d in x.t1) ≡ false
      by_restart true is = is
      by_restart false is = on (overdue_of now d.waits) (unmoved_of now d.waits) (is_past now d.idle) is

      by_t1 : (b : Bool) → is_past now d.t1 ≡ b → is_past now (let x : Deadlines = if b then record d { t1 = deadline now times.t1 }
          else if is_past now d.restart then record d { restart = deadline now times.t20 }
          else renewed_on times now (overdue_of now d.waits) (unmoved_of now d.waits) (is_past now d.idle) d in x.t1) ≡ false
      by_t1 true is = fresh now times.t1
      by_t1 false is = by_restart (is_past now d.restart) is

  t1_quiet : (timer : Timer) (old : Option ℕ) → is_past now old ≡ false → is_past now (t1_after times now timer old) ≡ false
  t1_quiet Off old is = refl
  t1_quiet GoesOn old is = is
  t1_quiet Begins old is = fresh now times.t1

-- no firing of T1, and no frame
abbrev pub IsQuiet : Option StationEvent → Type 0
IsQuiet (Some (Comes octets)) = ⊥
IsQuiet (Some Fires) = ⊥
IsQuiet event = Unit {0}

abbrev pub AreQuiet : Settings → List Played → Type 0
AreQuiet c [] = Unit {0}
AreQuiet c (p ∷ ps) = IsQuiet (asked_by c p.play) × AreQuiet c ps

-- all but the first
abbrev pub RestQuiet : Settings → List Played → Type 0
RestQuiet c [] = Unit {0}
RestQuiet c (p ∷ ps) = AreQuiet c ps

-- ---- all of it

-- a play that is of a channel is of one that a line can name
abbrev pub IsLowPlay : Play → Type 0
IsLowPlay (Insists due asked) = channel_for asked ≤ 4095
IsLowPlay play = Unit {0}

abbrev pub AreLowPlays : List Played → Type 0
AreLowPlays [] = Unit {0}
AreLowPlays (p ∷ ps) = IsLowPlay p.play × AreLowPlays ps

pub low_append : (ps qs : List Played) → AreLowPlays ps → AreLowPlays qs → AreLowPlays (ps ++ qs)
low_append [] qs a b = b
low_append (p ∷ ps) qs a b = (a.0, low_append ps qs a.1 b)

quiet_append : (c : Settings) (ps qs : List Played) → AreQuiet c ps → AreQuiet c qs → AreQuiet c (ps ++ qs)
quiet_append c [] qs a b = b
quiet_append c (p ∷ ps) qs a b = (a.0, quiet_append c ps qs a.1 b)

-- waits are on no higher channel than 4,095, and so are those that a clock begins with
abbrev pub StayLow : Settings → List Wait → Type 0
StayLow c ws = AreLow ws × (c.channels.count ≤ 4095)

pub record Follows (c : Settings) (ps : List Played) (w v : Timed) : Type 0 where
  pub linked : Linked c ps w.station v.station
  pub low : AreLowPlays ps
  pub next : StayLow c v.deadlines.waits

module _ (c : Settings) (times : Times) where
  acted_low : (w : Timed) (a : Act) → StayLow c w.deadlines.waits → StayLow c (act_turn c times w a).next.deadlines.waits
  acted_low w a low = (heeded_low times (moment_of w.now) (seen_at c a).awaited (seen_at c a).unacknowledged w.deadlines.waits low.0, low.1)

  insisted_low : (due : Due) (w : Timed) → StayLow c w.deadlines.waits → StayLow c (insist_turn c times due (told_due times w)).next.deadlines.waits
  insisted_low due w low =
      let v : Timed = told_due times w in
      acted_low v (event_act c v.station (event_for (asked_of c v.station due))) (due_low times (moment_of w.now) w.deadlines low.0, low.1)

  begun_low : (now : ℕ) (w : Timed) → c.channels.count ≤ 4095 → StayLow c (begins c times now w).deadlines.waits
  begun_low now w few = (
    heeded_low times now (seen_first c w.station).awaited (seen_first c w.station).unacknowledged (nothing_awaited c.channels.count).waits
        (low_first c.channels.count 1 (omega (arith, few))),
    few,
  )

  first_follows : (n : ℕ) (w : Timed) (o : Option Due) → IsLow o → StayLow c w.deadlines.waits
      → ((u : Timed) → StayLow c u.deadlines.waits → Follows c (due_plays c times n u) u (due_turns c times n u).next)
      → Follows c (first_due c times (due_plays c times n) w o) w (due_first c times (due_turns c times n) w o).next
  first_follows n w None fine low rest = record { linked = refl; low = tt; next = (due_low times (moment_of w.now) w.deadlines low.0, low.1) }
  first_follows n w (Some due) fine low rest =
      let u : Timed = (insist_turn c times due (told_due times w)).next in
      let f = rest u (insisted_low due w low) in
      record {
        linked = (refl, f.linked);
        low = (asked_for_it c w.station (λ asked. channel_for asked ≤ 4095) due fine (omega arith), f.low);
        next = f.next;
      }

  due_follows : (n : ℕ) (w : Timed) → StayLow c w.deadlines.waits → Follows c (due_plays c times n w) w (due_turns c times n w).next
  unfolding due_turns
  due_follows zero w low = record { linked = refl; low = tt; next = low }
  due_follows (suc n) w low = first_follows n w (due_of (moment_of w.now) w.deadlines) (found_low (moment_of w.now) w.deadlines low.0) low (due_follows n)

  pass_follows : (now : ℕ) (w : Timed) (o : Option ℕ) → StayLow c w.deadlines.waits
      → Follows c (pass_plays c times now w o) w (pass_turn c times now w o).next
  pass_follows now w None low = record { linked = refl; low = tt; next = begun_low now w low.1 }
  pass_follows now w (Some last) low = by (nat_lt now last)
    where
      by : (b : Bool) → Follows c
          (let ps : List Played = if b then playing w Passes ∷ [] else due_plays c times (most_due w.deadlines) (record w { now = Some now }) in ps)
          w (let t : TimedTurn = if b then act_turn c times w (nothing_act w.station)
          else due_turns c times (most_due w.deadlines) (record w { now = Some now }) in t.next)
      by true = record { linked = (refl, refl); low = (tt, tt); next = acted_low w (nothing_act w.station) low }
      by false =
          let f = due_follows (most_due w.deadlines) (record w { now = Some now }) low in
          record { linked = f.linked; low = f.low; next = f.next }

  answer_follows : (line : List ℕ) (w : Timed) (o : Option ℕ) → StayLow c w.deadlines.waits
      → Follows c (answer_plays c times line w o) w (answer_turn c times line w o).next
  answer_follows line w None low = record {
    linked = (refl, refl);
    low = (tt, tt);
    next = acted_low w (asked_act c w.station (event_in c.wide c.role line)) low;
  }
  answer_follows line w (Some now) low = pass_follows now w w.now low

  pub line_follows : (line : List ℕ) (w : Timed) → StayLow c w.deadlines.waits → Follows c (line_plays c times line w) w (timed_turn c times line w).next
  unfolding timed_turn
  line_follows line w low =
      let ps : List Played = answer_plays c times line w (time_said line) in
      let v : Timed = (answer_turn c times line w (time_said line)).next in
      let f = answer_follows line w (time_said line) low in
      record {
        linked = linked_append c ps (playing v Marks ∷ []) w.station v.station v.station f.linked (refl, refl);
        low = low_append ps (playing v Marks ∷ []) f.low (tt, tt);
        next = f.next;
      }

  -- ---- T1

  abbrev NotT1 : Option Due → Type 0
  NotT1 None = Unit {0}
  NotT1 (Some due.T1) = ⊥
  NotT1 (Some due) = Unit {0}

  not_quiet : (due : Due) → NotT1 (Some due) → IsQuiet (Some (event_for due))
  not_quiet due.T1 other = other
  not_quiet due.Probe other = tt
  not_quiet due.Relink other = tt
  not_quiet (due.Reset h) other = tt
  not_quiet (due.ResetUnacknowledged h) other = tt
  not_quiet (due.Clear h) other = tt
  not_quiet (due.Restart h) other = tt

  asked_not : (h : ℕ) (a : Awaits) → NotT1 (asked_for h a)
  asked_not h Nothing = tt
  asked_not h Acceptance = tt
  asked_not h ResetConfirmation = tt
  asked_not h ClearConfirmation = tt
  asked_not h InterruptConfirmation = tt

  unless_not : (o : Option Wait) (other : Option Due) → NotT1 other → NotT1 (unless_on o other)
  unless_not None other h = h
  unless_not (Some x) other h = asked_not x.channel x.awaits

  unmoved_not : (u : Option ℕ) (other : Option Due) → NotT1 other → NotT1 (unless_unmoved u other)
  unmoved_not None other h = h
  unmoved_not (Some k) other h = tt

  if_not : (b : Bool) (x y : Option Due) → NotT1 x → NotT1 y → NotT1 (let o : Option Due = if b then x else y in o)
  if_not true x y a b = a
  if_not false x y a b = b

  found_not : (now : ℕ) (d : Deadlines) → is_past now d.t1 ≡ false → NotT1 (due_of now d)
  found_not now d is =
      let idle : Option Due = if is_past now d.idle then Some due.Probe else None in
      let packets : Option Due = unless_unmoved (unmoved_of now d.waits) idle in
      let waits : Option Due = unless_on (overdue_of now d.waits) packets in
      let restart : Option Due = if is_past now d.restart then Some due.Relink else waits in
      subst (λ (b : Bool). NotT1 (let o : Option Due = if b then Some due.T1 else restart in o)) (sym is)
      (if_not (is_past now d.restart) (Some due.Relink) waits tt
      (unless_not (overdue_of now d.waits) packets (unmoved_not (unmoved_of now d.waits) idle (if_not (is_past now d.idle) (Some due.Probe) None tt tt))))

  behind_quiet : (due : Due) (w : Timed) → (let u : Timed = (insist_turn c times due (told_due times w)).next in is_past (moment_of u.now) u.deadlines.t1 ≡ false)
  behind_quiet due w =
      let v : Timed = told_due times w in
      t1_quiet times (moment_of w.now) (event_act c v.station (event_for (asked_of c v.station due))).timer (after_due times (moment_of w.now) w.deadlines).t1
      (told_quiet times (moment_of w.now) w.deadlines)

  first_quiet : (n : ℕ) (w : Timed) (o : Option Due) → NotT1 o
      → ((u : Timed) → is_past (moment_of u.now) u.deadlines.t1 ≡ false → AreQuiet c (due_plays c times n u))
      → AreQuiet c (first_due c times (due_plays c times n) w o)
  first_quiet n w None fine rest = tt
  first_quiet n w (Some due) fine rest = (
    asked_for_it c w.station (λ asked. IsQuiet (Some (event_for asked))) due (not_quiet due fine) tt,
    rest (insist_turn c times due (told_due times w)).next (behind_quiet due w),
  )

  due_quiet : (n : ℕ) (w : Timed) → is_past (moment_of w.now) w.deadlines.t1 ≡ false → AreQuiet c (due_plays c times n w)
  due_quiet zero w is = tt
  due_quiet (suc n) w is = first_quiet n w (due_of (moment_of w.now) w.deadlines) (found_not (moment_of w.now) w.deadlines is) (due_quiet n)

  -- with the mark behind them
  marked_quiet : (n : ℕ) (w v : Timed) → RestQuiet c (due_plays c times n w ++ playing v Marks ∷ [])
  marked_quiet zero w v = tt
  marked_quiet (suc n) w v = by (due_of (moment_of w.now) w.deadlines)
    where
      by : (o : Option Due) → RestQuiet c (first_due c times (due_plays c times n) w o ++ playing v Marks ∷ [])
      by None = tt
      by (Some due) =
          let u : Timed = (insist_turn c times due (told_due times w)).next in
          quiet_append c (due_plays c times n u) (playing v Marks ∷ []) (due_quiet n u (behind_quiet due w)) (tt, tt)

  pass_quiet : (now : ℕ) (w v : Timed) (o : Option ℕ) → RestQuiet c (pass_plays c times now w o ++ playing v Marks ∷ [])
  pass_quiet now w v None = tt
  pass_quiet now w v (Some last) = by (nat_lt now last)
    where
      by : (b : Bool)
          → RestQuiet c ((let ps : List Played = if b then playing w Passes ∷ [] else due_plays c times (most_due w.deadlines) (record w { now = Some now }) in ps)
          ++ playing v Marks ∷ [])
      by true = (tt, tt)
      by false = marked_quiet (most_due w.deadlines) (record w { now = Some now }) v

  answer_quiet : (line : List ℕ) (w v : Timed) (o : Option ℕ) → RestQuiet c (answer_plays c times line w o ++ playing v Marks ∷ [])
  answer_quiet line w v None = (tt, tt)
  answer_quiet line w v (Some now) = pass_quiet now w v w.now

  pub line_quiet : (line : List ℕ) (w : Timed) → RestQuiet c (line_plays c times line w)
  line_quiet line w = answer_quiet line w (timed_turn c times line w).next (time_said line)

-- nothing is awaited at first
pub new_low : (c : Settings) → c.channels.count ≤ 4095 → StayLow c (new_timed c).deadlines.waits
new_low c few = (low_first c.channels.count 1 (omega (arith, few)), few)
