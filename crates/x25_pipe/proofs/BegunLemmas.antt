-- A clock that begins with the first time that is said stands as one for which all that came before happened at that time.
use Rattle.x25_pipe.proofs.Names.{◌≡◌, ◌+◌, ℕ, zero, suc, List, ◌∷◌, Bool, true, false, if◌then◌else◌, map, Option, Some, None, refl, sym, ap, ◌∙◌, arith, Settings}
use Rattle.x25_pipe.proofs.Names.{layer_settings, PullsAll, Station, Outcome, Did, Refused, StationEvent, Times, Deadlines, heeded}
use Rattle.std.{proofs.Common.{not, is_some, ◌==◌}, specs.Prelude.{◌||◌}}
use Rattle.x25_circuit.specs.Awaits.{is_any}
use Rattle.x25_circuit.specs.declared.awaits.{Awaits.{Awaits}, Awaits.TheVariants.{Nothing, Acceptance, ResetConfirmation, ClearConfirmation}}
use Rattle.x25_circuit.specs.declared.awaits.Awaits.TheVariants.{InterruptConfirmation}
use Rattle.x25_clock.specs.Clock.{Seen, begun, channels_from, deadline, is_same, nothing_on, number_of, running, t1_after, time_of, wait_after}
use Rattle.x25_clock.specs.declared.wait.Wait.{Wait}
use Rattle.x25_clock.specs.laws.{ClockLaw.{Watched, heeds as heeds_event, hears}, WaitLaw.{Happens, all_done, done}}
use Rattle.x25_layer.specs.code.FitsLayer.{awaited_at, unacknowledged_at}
use Rattle.x25_pipe.specs.laws.ClockedLaw.{with_pull}
use Rattle.x25_station.specs.{Command.{Requests}, Station.Told.{is_at_rest}, Timer.{is_acknowledged, runs, tells_link, timer_of}}
use Rattle.x25_station.specs.declared.timer.{Timer.{Timer}, Timer.TheVariants.{Off, Begins}}
use Rattle.x25_station.specs.laws.TimerLaw as timer

-- a clock that begins beside a station
abbrev pub begun_at : Settings → Times → ℕ → Station → Watched
begun_at c times now s = record { station = s; deadlines = begun times now c.channels.count c s; now = now }

-- ---- each deadline

abbrev first_t1 : Bool → Timer
first_t1 so = if so then Begins else Off

module _ (times : Times) (now : ℕ) where
  t1_begun : (was is other : Bool) → t1_after times now (timer_of is (not was || other)) (t1_after times now (first_t1 was) None)
      ≡ t1_after times now (first_t1 is) None
  t1_begun was false other = refl
  t1_begun false true other = refl
  t1_begun true true true = refl
  t1_begun true true false = refl

  t1_kept : (so : Bool) → t1_after times now (timer_of so false) (t1_after times now (first_t1 so) None) ≡ t1_after times now (first_t1 so) None
  t1_kept true = refl
  t1_kept false = refl

  running_begun : (was is anew : Bool) (until : Option ℕ) → running is anew (running was false None until) until ≡ running is false None until
  running_begun was false anew until = refl
  running_begun was true true until = refl
  running_begun false true false until = refl
  running_begun true true false None = refl
  running_begun true true false (Some moment) = refl

  running_itself : (until : Option ℕ) → running true false until until ≡ until
  running_itself None = refl
  running_itself (Some moment) = refl

  -- the deadline of an answer, and that of a data packet
  answer_begun : (a b : Awaits)
      → running (is_any b) (not (number_of a == number_of b)) (running (is_any a) (not (0 == number_of a)) None (deadline now (time_of times a)))
      (deadline now (time_of times b)) ≡ running (is_any b) (not (0 == number_of b)) None (deadline now (time_of times b))
  answer_begun Nothing b = refl
  answer_begun Acceptance Acceptance = running_itself (deadline now times.t21)
  answer_begun ResetConfirmation ResetConfirmation = running_itself (deadline now times.t22)
  answer_begun ClearConfirmation ClearConfirmation = running_itself (deadline now times.t23)
  answer_begun InterruptConfirmation InterruptConfirmation = running_itself (deadline now times.t26)
  answer_begun a b = refl

  first_begun : (a b until : Option ℕ) → running (is_some b) (not (is_same a b)) (running (is_some a) (not (is_same None a)) None until) until
      ≡ running (is_some b) (not (is_same None b)) None until
  first_begun a None until = refl
  first_begun None (Some n) until = refl
  first_begun (Some m) (Some n) until = by (m == n)
    where
      by : (b : Bool) → running true (not b) until until ≡ until
      by true = running_itself until
      by false = refl

  wait_begun : (h : ℕ) (a b : Awaits) (o p : Option ℕ) → wait_after times now b p (wait_after times now a o (nothing_on h)) ≡ wait_after times now b p (nothing_on h)
  wait_begun h a b o p =
      let both : Option ℕ → Option ℕ → Wait = λ until rotates.
      record { channel = h; awaits = b; until = until; unacknowledged = p; rotates = rotates } in
      ap (λ (x : Option ℕ). both x (running (is_some p) (not (is_same o p)) (running (is_some o) (not (is_same None o)) None (deadline now times.t25))
      (deadline now times.t25))) (answer_begun a b)
      ∙ ap (both (running (is_any b) (not (0 == number_of b)) None (deadline now (time_of times b)))) (first_begun o p (deadline now times.t25))

  waits_begun : (f g : ℕ → Awaits) (k l : ℕ → Option ℕ) (first n : ℕ)
      → map (λ w. wait_after times now (g w.channel) (l w.channel) w) (map (λ w. wait_after times now (f w.channel) (k w.channel) w) (channels_from first n))
      ≡ map (λ w. wait_after times now (g w.channel) (l w.channel) w) (channels_from first n)
  waits_begun f g k l first zero = refl
  waits_begun f g k l first (suc n) =
      let rest : List Wait = map (λ w. wait_after times now (g w.channel) (l w.channel) w)
      (map (λ w. wait_after times now (f w.channel) (k w.channel) w) (channels_from (first + 1) n)) in
      ap (λ (x : Wait). x ∷ rest) (wait_begun first (f first) (g first) (k first) (l first))
      ∙ ap (λ (ws : List Wait). wait_after times now (g first) (l first) (nothing_on first) ∷ ws) (waits_begun f g k l (first + 1) n)

-- ---- what happens to a station is heeded as by a clock that begins behind it

module _ (c : Settings) (times : Times) (now : ℕ) where
  deadlines_begun : (s next : Station) (t : Timer) (noted heard : Bool)
      → t1_after times now t (t1_after times now (first_t1 (runs s)) None) ≡ t1_after times now (first_t1 (runs next)) None
      → (let x : Seen = record {
        timer = t;
        at_rest = is_at_rest next;
        restarting = next.layer.restarting;
        noted = noted;
        heard = heard;
        awaited = λ h. awaited_at (layer_settings c) next.layer h;
        unacknowledged = λ h. unacknowledged_at (layer_settings c) next.layer h;
      } in heeded times now x (begun times now c.channels.count c s)) ≡ begun times now c.channels.count c next
  deadlines_begun s next t noted heard t1 =
      let only : Option ℕ → Option ℕ → Option ℕ → List Wait → Deadlines = λ t1 idle restart ws. record { t1 = t1; idle = idle; restart = restart; waits = ws } in
      let d : Deadlines = begun times now c.channels.count c s in
      let e : Deadlines = begun times now c.channels.count c next in
      let idle : Option ℕ = running (is_at_rest next) heard d.idle (deadline now times.t3) in
      let restart : Option ℕ = running next.layer.restarting noted d.restart (deadline now times.t20) in
      let waits : List Wait = map (λ w. wait_after times now (awaited_at (layer_settings c) next.layer w.channel)
      (unacknowledged_at (layer_settings c) next.layer w.channel) w) d.waits in
      ap (λ (o : Option ℕ). only o idle restart waits) t1
      ∙ ap (λ (o : Option ℕ). only e.t1 o restart waits) (running_begun times now (is_at_rest s) (is_at_rest next) heard (deadline now times.t3))
      ∙ ap (λ (o : Option ℕ). only e.t1 e.idle o waits) (running_begun times now s.layer.restarting next.layer.restarting noted (deadline now times.t20))
      ∙ ap (λ (ws : List Wait). only e.t1 e.idle e.restart ws)
      (waits_begun times now (λ h. awaited_at (layer_settings c) s.layer h) (λ h. awaited_at (layer_settings c) next.layer h)
      (λ h. unacknowledged_at (layer_settings c) s.layer h) (λ h. unacknowledged_at (layer_settings c) next.layer h) 1 c.channels.count)

  outcome_begun : (event : StationEvent) (s : Station) (o : Outcome)
      → heeds_event c times now event o (begun_at c times now s) ≡ begun_at c times now (timer.after s o)
  outcome_begun event s (Did step) =
      ap (λ (d : Deadlines). let x : Watched = record { station = step.near; deadlines = d; now = now } in x)
      (deadlines_begun s step.near (timer.timer s event (Did step)) (tells_link step.entries) (hears event (Did step))
      (t1_begun times now (runs s) (runs step.near) (timer.is_firing event || (tells_link step.entries || is_acknowledged s.link step.near.link))))
  outcome_begun event s (Refused e) =
      ap (λ (d : Deadlines). let x : Watched = record { station = s; deadlines = d; now = now } in x)
      (deadlines_begun s s (timer_of (runs s) false) false false (t1_kept times now (runs s)))

  -- where a clock that began stands
  pub record IsBegun (x : Watched) : Type 0 where
    pub near : Station
    pub is : x ≡ begun_at c times now near

  pub itself : (x : Watched) → IsBegun x → x ≡ begun_at c times now x.station
  itself x h = h.is ∙ ap (begun_at c times now) (sym (ap (λ (y : Watched). y.station) h.is))

  event_begun : (event : StationEvent) (x : Watched) → IsBegun x → IsBegun (done c times (Happens 0 event) x)
  event_begun event x h =
      let o : Outcome = timer.outcome c h.near event in
      let back : now + 0 ≡ now = omega arith in
      record {
        near = timer.after h.near o;
        is = ap (done c times (Happens 0 event)) h.is
            ∙ ap (λ (n : ℕ). heeds_event c times n event o (begun_at c times now h.near)) back ∙ outcome_begun event h.near o;
      }

  -- and so is the pull behind it
  pub both_begun : (event : StationEvent) (o : Outcome) (x : Watched) → IsBegun x → IsBegun (all_done c times (with_pull (Happens 0 event) o) x)
  both_begun event (Did step) x h = event_begun (timer.Asks (Requests PullsAll)) (done c times (Happens 0 event) x) (event_begun event x h)
  both_begun event (Refused e) x h = event_begun event x h
