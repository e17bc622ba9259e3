-- A moment that isn't past of any deadline: it stays so as a step is heeded, and as what is due is told.
use Rattle.std.proofs.Common.{◌≡◌, ◌≤◌, ◌+◌, ◌^◌, ◌==◌, ℕ, zero, suc, nat_le, nat_lt, Bool, true, false, not, if◌then◌else◌, List, [], ◌∷◌, map, Option, Some}
use Rattle.std.proofs.Common.{None, is_some}
use Rattle.std.proofs.Common.{refl, sym, ap, ◌∙◌, arith}
use Rattle.std.proofs.lemmas.{Bool.{leb-false, leb-true, true≢false}, Option.{none-some}}
use Rattle.x25_circuit.specs.declared.awaits.{Awaits.{Awaits}, Awaits.TheVariants.{Nothing, Acceptance, ResetConfirmation, ClearConfirmation}}
use Rattle.x25_circuit.specs.declared.awaits.Awaits.TheVariants.{InterruptConfirmation}
use Rattle.x25_clock.specs.Clock.{Deadlines, Seen, after_due, asked_for, channels_from, deadline, due_of, first_of, heeded, is_past, next_of, nothing_awaited}
use Rattle.x25_circuit.specs.Awaits.{is_any}
use Rattle.x25_clock.specs.Clock.{is_same, number_of, overdue_of, rotated, since, unless_unmoved, unmoved_of}
use Rattle.x25_clock.specs.Clock.{renewed, renewed_on, running, sooner, t1_after, time_of, unless_on, wait_after}
use Rattle.x25_clock.specs.{declared.due.Due.{Due}, declared.times.Times.{Times}, declared.wait.Wait.{Wait}, laws.ClockLaw.{AreAwaited}}
use Rattle.x25_clock.specs.{laws.WaitLaw.{IsNotPast}}
use Rattle.x25_clock.specs.declared.due.Due.TheVariants as due
use Rattle.x25_station.specs.declared.timer.{Timer.{Timer}, Timer.TheVariants.{Off, Begins, GoesOn}}

abbrev pub WaitsStand : ℕ → List Wait → Type 0
WaitsStand now [] = Unit {0}
WaitsStand now (w ∷ ws) = IsNotPast now w.until × IsNotPast now w.rotates × WaitsStand now ws

pub record AreNotPast (now : ℕ) (d : Deadlines) : Type 0 where
  pub t1 : IsNotPast now d.t1
  pub idle : IsNotPast now d.idle
  pub restart : IsNotPast now d.restart
  pub waits : WaitsStand now d.waits

-- ---- the next moment is the soonest

module _ (now : ℕ) where
  sooner_stands : (a b : Option ℕ) → IsNotPast now a → IsNotPast now b → IsNotPast now (sooner a b)
  sooner_stands None b p q = q
  sooner_stands (Some m) None p q = p
  sooner_stands (Some m) (Some k) p q = by (nat_le m k)
    where
      by : (t : Bool) → IsNotPast now (let o : Option ℕ = if t then Some m else Some k in o)
      by true = p
      by false = q

  sooner_parts : (a b : Option ℕ) → IsNotPast now (sooner a b) → IsNotPast now a × IsNotPast now b
  sooner_parts None b h = (tt, h)
  sooner_parts (Some m) None h = (h, tt)
  sooner_parts (Some m) (Some k) h = by (nat_le m k) refl h
    where
      by : (t : Bool) → nat_le m k ≡ t → IsNotPast now (let o : Option ℕ = if t then Some m else Some k in o) → (now ≤ m) × (now ≤ k)
      by true is p = let less = leb-true m k is in (p, omega (arith, p, less))
      by false is p = let less = leb-false m k is in (omega (arith, p, less), p)

  first_stands : (o : Option ℕ) (ws : List Wait) → IsNotPast now o → WaitsStand now ws → IsNotPast now (first_of o ws)
  first_stands o [] p q = p
  first_stands o (w ∷ ws) p q = first_stands (sooner (sooner o w.until) w.rotates) ws
      (sooner_stands (sooner o w.until) w.rotates (sooner_stands o w.until p q.0) q.1) q.2

  first_parts : (o : Option ℕ) (ws : List Wait) → IsNotPast now (first_of o ws) → IsNotPast now o × WaitsStand now ws
  first_parts o [] h = (h, tt)
  first_parts o (w ∷ ws) h =
      let rest = first_parts (sooner (sooner o w.until) w.rotates) ws h in
      let packet = sooner_parts (sooner o w.until) w.rotates rest.0 in
      let both = sooner_parts o w.until packet.0 in
      (both.0, (both.1, packet.1, rest.1))

  pub next_stands : (d : Deadlines) → AreNotPast now d → IsNotPast now (next_of d)
  next_stands d h = first_stands (sooner (sooner d.t1 d.idle) d.restart) d.waits
      (sooner_stands (sooner d.t1 d.idle) d.restart (sooner_stands d.t1 d.idle h.t1 h.idle) h.restart) h.waits

  pub all_stand : (d : Deadlines) → IsNotPast now (next_of d) → AreNotPast now d
  all_stand d h =
      let all = first_parts (sooner (sooner d.t1 d.idle) d.restart) d.waits h in
      let most = sooner_parts (sooner d.t1 d.idle) d.restart all.0 in
      let link = sooner_parts d.t1 d.idle most.0 in
      record { t1 = link.0; idle = link.1; restart = most.1; waits = all.1 }

  -- ---- it stays so

  deadline_stands : (time : ℕ) → IsNotPast now (deadline now time)
  deadline_stands time = by (time == 0) (nat_lt (now + time) (2 ^ 64))
    where
      by : (none fits : Bool) → IsNotPast now (let o : Option ℕ = if none then None else if fits then Some (now + time) else None in o)
      by true fits = tt
      by false true = omega arith
      by false false = tt

  module _ (times : Times) where
    t1_stands : (timer : Timer) (old : Option ℕ) → IsNotPast now old → IsNotPast now (t1_after times now timer old)
    t1_stands Off old h = tt
    t1_stands GoesOn old h = h
    t1_stands Begins old h = deadline_stands times.t1

    running_stands : (so anew : Bool) (old : Option ℕ) (time : ℕ) → IsNotPast now old → IsNotPast now (running so anew old (deadline now time))
    running_stands false anew old time h = tt
    running_stands true true old time h = deadline_stands time
    running_stands true false None time h = deadline_stands time
    running_stands true false (Some moment) time h = h

    waits_stand : (f : ℕ → Awaits) (g : ℕ → Option ℕ) (ws : List Wait) → WaitsStand now ws
        → WaitsStand now (map (λ w. wait_after times now (f w.channel) (g w.channel) w) ws)
    waits_stand f g [] h = tt
    waits_stand f g (w ∷ ws) h = (
      running_stands (is_any (f w.channel)) (not (number_of w.awaits == number_of (f w.channel))) w.until (time_of times (f w.channel)) h.0,
      running_stands (is_some (g w.channel)) (not (is_same w.unacknowledged (g w.channel))) w.rotates times.t25 h.1,
      waits_stand f g ws h.2,
    )

    pub heeded_stands : (x : Seen) (d : Deadlines) → AreNotPast now d → AreNotPast now (heeded times now x d)
    heeded_stands x d h = record {
      t1 = t1_stands x.timer d.t1 h.t1;
      idle = running_stands x.at_rest x.heard d.idle times.t3 h.idle;
      restart = running_stands x.restarting x.noted d.restart times.t20 h.restart;
      waits = waits_stand x.awaited x.unacknowledged d.waits h.waits;
    }

    since_stands : (so : Bool) (time : ℕ) → IsNotPast now (since so now time)
    since_stands true time = deadline_stands time
    since_stands false time = tt

    all_renewed : (h : ℕ) (ws : List Wait) → WaitsStand now ws → WaitsStand now (map (renewed times now h) ws)
    all_renewed h [] stand = tt
    all_renewed h (w ∷ ws) stand = by (not (w.channel == h)) (all_renewed h ws stand.2)
      where
        by : (b : Bool) → WaitsStand now (map (renewed times now h) ws) → (let x : Wait = if b then w else record {
          channel = w.channel;
          awaits = w.awaits;
          until = deadline now (time_of times w.awaits);
          unacknowledged = w.unacknowledged;
          rotates = w.rotates;
        } in WaitsStand now (x ∷ map (renewed times now h) ws))
        by true rest = (stand.0, stand.1, rest)
        by false rest = (deadline_stands (time_of times w.awaits), stand.1, rest)

    all_rotated : (h : ℕ) (ws : List Wait) → WaitsStand now ws → WaitsStand now (map (rotated times now h) ws)
    all_rotated h [] stand = tt
    all_rotated h (w ∷ ws) stand = by (not (w.channel == h)) (all_rotated h ws stand.2)
      where
        by : (b : Bool) → WaitsStand now (map (rotated times now h) ws) → (let x : Wait = if b then w else record {
          channel = w.channel;
          awaits = w.awaits;
          until = w.until;
          unacknowledged = w.unacknowledged;
          rotates = since (is_some w.unacknowledged) now times.t25;
        } in WaitsStand now (x ∷ map (rotated times now h) ws))
        by true rest = (stand.0, stand.1, rest)
        by false rest = (stand.0, since_stands (is_some w.unacknowledged) times.t25, rest)

    renewed_stands : (o : Option Wait) (u : Option ℕ) (idle : Bool) (d : Deadlines) → AreNotPast now d → AreNotPast now (renewed_on times now o u idle d)
    renewed_stands None None true d h = record { t1 = h.t1; idle = deadline_stands times.t3; restart = h.restart; waits = h.waits }
    renewed_stands None None false d h = h
    renewed_stands None (Some k) idle d h = record { t1 = h.t1; idle = h.idle; restart = h.restart; waits = all_rotated k d.waits h.waits }
    renewed_stands (Some x) u idle d h = record { t1 = h.t1; idle = h.idle; restart = h.restart; waits = all_renewed x.channel d.waits h.waits }

    pub told_stands : (d : Deadlines) → AreNotPast now d → AreNotPast now (after_due times now d)
    told_stands d h = by (is_past now d.t1) (is_past now d.restart)
      where
        by : (t1 restart : Bool) → AreNotPast now (let x : Deadlines = if t1 then record d { t1 = deadline now times.t1 }
            else if restart then record d { restart = deadline now times.t20 }
            else renewed_on times now (overdue_of now d.waits) (unmoved_of now d.waits) (is_past now d.idle) d in x)
        by true restart = record { t1 = deadline_stands times.t1; idle = h.idle; restart = h.restart; waits = h.waits }
        by false true = record { t1 = h.t1; idle = h.idle; restart = deadline_stands times.t20; waits = h.waits }
        by false false = renewed_stands (overdue_of now d.waits) (unmoved_of now d.waits) (is_past now d.idle) d h

-- ---- nothing is awaited at first

pub none_awaited : (channels : ℕ) → AreNotPast 0 (nothing_awaited channels)
none_awaited channels = record { t1 = tt; idle = tt; restart = tt; waits = all channels 1 }
  where
    all : (n first : ℕ) → WaitsStand 0 (channels_from first n)
    all zero first = tt
    all (suc n) first = (tt, tt, all n (first + 1))

-- ---- where nothing is due

module _ (times : Times) (now : ℕ) where
  -- what is past is asked for, as where nothing is awaited there is no deadline
  past_asks : (since : ℕ) (w : Wait) → w.until ≡ deadline since (time_of times w.awaits) → is_past now w.until ≡ true → asked_for w.channel w.awaits ≡ None → ⊥
  past_asks since w is late none = by w.awaits refl none
    where
      by : (a : Awaits) → w.awaits ≡ a → asked_for w.channel a ≡ None → ⊥
      by Nothing same x = true≢false (sym late ∙ ap (is_past now) (is ∙ ap (λ (b : Awaits). deadline since (time_of times b)) same))
      by Acceptance same x = none-some (due.Clear w.channel) (sym x)
      by ResetConfirmation same x = none-some (due.Clear w.channel) (sym x)
      by ClearConfirmation same x = none-some (due.Restart w.channel) (sym x)
      by InterruptConfirmation same x = none-some (due.Reset w.channel) (sym x)

  ahead : (o : Option ℕ) → is_past now o ≡ false → IsNotPast now o
  ahead None is = tt
  ahead (Some m) is = let more = leb-false m now is in omega (arith, more)

  none_overdue : (at : ℕ) (f : ℕ → Awaits) (g : ℕ → Option ℕ) (ws : List Wait) (rest : Option Due) → AreAwaited times at f g ws
      → unless_on (overdue_of now ws) rest ≡ None → overdue_of now ws ≡ None
  none_overdue at f g [] rest h same = refl
  none_overdue at f g (w ∷ ws) rest h same = by (is_past now w.until) refl same (none_overdue at f g ws rest h.1)
    where
      by : (b : Bool) → is_past now w.until ≡ b → unless_on (let o : Option Wait = if b then Some w else overdue_of now ws in o) rest ≡ None
          → (unless_on (overdue_of now ws) rest ≡ None → overdue_of now ws ≡ None)
          → (let o : Option Wait = if b then Some w else overdue_of now ws in o) ≡ None
      by true late none others = absurd (past_asks h.0.until.since w h.0.until.is late none)
      by false is none others = others none

  none_unmoved : (u : Option ℕ) (rest : Option Due) → unless_unmoved u rest ≡ None → u ≡ None
  none_unmoved None rest same = refl
  none_unmoved (Some k) rest same = absurd (none-some (due.ResetUnacknowledged k) (sym same))

  overdue_stand : (ws : List Wait) → overdue_of now ws ≡ None → unmoved_of now ws ≡ None → WaitsStand now ws
  overdue_stand [] none unmoved = tt
  overdue_stand (w ∷ ws) none unmoved = by (is_past now w.until) (is_past now w.rotates) refl refl none unmoved (overdue_stand ws)
    where
      by : (b r : Bool) → is_past now w.until ≡ b → is_past now w.rotates ≡ r
          → (let o : Option Wait = if b then Some w else overdue_of now ws in o) ≡ None
          → (let u : Option ℕ = if r then Some w.channel else unmoved_of now ws in u) ≡ None
          → (overdue_of now ws ≡ None → unmoved_of now ws ≡ None → WaitsStand now ws) → IsNotPast now w.until × IsNotPast now w.rotates × WaitsStand now ws
      by true r is late same moved others = absurd (none-some w (sym same))
      by false true is late same moved others = absurd (none-some w.channel (sym moved))
      by false false is late same moved others = (ahead w.until is, ahead w.rotates late, others same moved)

  -- no moment is past, and none begins anew
  pub record StandsWhole (d : Deadlines) : Type 0 where
    pub stand : AreNotPast now d
    pub same : after_due times now d ≡ d

  pub none_due : (at : ℕ) (f : ℕ → Awaits) (g : ℕ → Option ℕ) (d : Deadlines) → AreAwaited times at f g d.waits → due_of now d ≡ None → StandsWhole d
  none_due at f g d h none = by_t1 (is_past now d.t1) refl none
    where
      by_idle : (b : Bool) → is_past now d.idle ≡ b → is_past now d.t1 ≡ false → is_past now d.restart ≡ false → overdue_of now d.waits ≡ None
          → unmoved_of now d.waits ≡ None → (if b then Some due.Probe else None) ≡ None
          → AreNotPast now d × (renewed_on times now None None b d ≡ d)
      by_idle true is t1 restart waits unmoved same = absurd (none-some due.Probe (sym same))
      by_idle false is t1 restart waits unmoved same = (
        record {
          t1 = ahead d.t1 t1;
          idle = ahead d.idle is;
          restart = ahead d.restart restart;
          waits = overdue_stand d.waits waits unmoved;
        },
        refl,
      )

      by_waits : is_past now d.t1 ≡ false → is_past now d.restart ≡ false
          → unless_on (overdue_of now d.waits) (unless_unmoved (unmoved_of now d.waits) (if is_past now d.idle then Some due.Probe else None)) ≡ None
          → AreNotPast now d × (renewed_on times now (overdue_of now d.waits) (unmoved_of now d.waits) (is_past now d.idle) d ≡ d)
      by_waits t1 restart same =
          let idle : Option Due = if is_past now d.idle then Some due.Probe else None in
          let packets : Option Due = unless_unmoved (unmoved_of now d.waits) idle in
          let waits = none_overdue at f g d.waits packets h same in
          let none_left : packets ≡ None = sym (ap (λ (o : Option Wait). unless_on o packets) waits) ∙ same in
          let unmoved = none_unmoved (unmoved_of now d.waits) idle none_left in
          let rest = by_idle (is_past now d.idle) refl t1 restart waits unmoved (sym (ap (λ (u : Option ℕ). unless_unmoved u idle) unmoved) ∙ none_left) in (
            rest.0,
            ap (λ (o : Option Wait). renewed_on times now o (unmoved_of now d.waits) (is_past now d.idle) d) waits
                ∙ ap (λ (u : Option ℕ). renewed_on times now None u (is_past now d.idle) d) unmoved ∙ rest.1,
          )

      by_restart : (b : Bool) → is_past now d.restart ≡ b → is_past now d.t1 ≡ false
          → (if b then Some due.Relink
          else unless_on (overdue_of now d.waits) (unless_unmoved (unmoved_of now d.waits) (if is_past now d.idle then Some due.Probe else None))) ≡ None
          → AreNotPast now d × ((if b then record d { restart = deadline now times.t20 }
          else renewed_on times now (overdue_of now d.waits) (unmoved_of now d.waits) (is_past now d.idle) d) ≡ d)
      by_restart true is t1 same = absurd (none-some due.Relink (sym same))
      by_restart false is t1 same = by_waits t1 is same

      by_t1 : (b : Bool) → is_past now d.t1 ≡ b
          → (if b then Some due.T1 else if is_past now d.restart then Some due.Relink
          else unless_on (overdue_of now d.waits) (unless_unmoved (unmoved_of now d.waits) (if is_past now d.idle then Some due.Probe else None))) ≡ None → StandsWhole d
      by_t1 true is same = absurd (none-some due.T1 (sym same))
      by_t1 false is same =
          let both = by_restart (is_past now d.restart) refl is same in
          record {
            stand = both.0;
            same = ap (λ (b : Bool). if b then record d { t1 = deadline now times.t1 }
                else if is_past now d.restart then record d { restart = deadline now times.t20 }
                else renewed_on times now (overdue_of now d.waits) (unmoved_of now d.waits) (is_past now d.idle) d) is ∙ both.1;
          }
