-- Each step of a station says all that it may, and when a station is at rest.
use Rattle.x25_link.proofs.Names.{◌≡◌, ℕ, suc, zero, ◌+◌, ◌<◌, ◌≤◌, length, Bool, true, false, if◌then◌else◌, refl, sym, ap, ◌∙◌, subst, arith, ◌&&◌, ◌||◌}
use Rattle.x25_link.proofs.Names.{nat_lt, lt-ltb, le-ltb, ltb-false, eq-eqb, and_parts, frame_of, Phase, Up, Closed, Closing, Asked, GivenUp, Counts, waits, is_open, LinkStation, Side}
use Rattle.x25_link.proofs.Names.{is_up, is_busy, with_near, ready, send_next, may_send, pumped, owes_ready, ended, LinkStep, quiet, leaves, other, alone}
use Rattle.std.{proofs.lemmas.Bool.{eqb-true}, specs.Prelude.{◌==◌}}
use Rattle.x25_link.proofs.{EndLemmas.{true_false, closed_is, ended_settled, ended_calm}, FrameCount.{Few, hears_few}}
use Rattle.x25_link.proofs.{Names.{closed_by, hears, puts, fires, answered, asks_again, gives_up, connects, disconnects}, rows.WindowRows.{closed_stays, up_is}}
use Rattle.x25_link.specs.{Link.{timer_runs, is_idle}, laws.RestLaw.{AllHeardIsRest, RestIsAllHeard}}
use Rattle.x25_link.specs.laws.RestLaw.{HasSaidAll, TakeSaysAll, PutSaysAll, TimerSaysAll, ConnectSaysAll, DisconnectSaysAll, AbandonSaysAll, NoTimerIsIdle}

-- ---- V(S) is never below what is acknowledged

abbrev pub Low : Side → Type 0
Low t = t.near.outgoing.acked ≤ t.near.outgoing.place

L-if : (b : Bool) (u v : Side) → Low u → Low v → Low (if b then u else v)
L-if true u v f g = f
L-if false u v f g = g

L-ready : (command pf : Bool) (t : Side) → Low t → Low (ready command pf t)
L-ready command pf t h = L-if (is_busy t.near) _ _ h h

L-send_next : (t : Side) → Low t → Low (send_next t)
L-send_next t h = omega (arith, h)

L-pumped : (n k : ℕ) (t : Side) → Low t → Low (pumped n k t)
unfolding pumped
L-pumped zero k t h = h
L-pumped (suc n) k t h = L-if (may_send k (pumped n k t).near) (send_next (pumped n k t)) (pumped n k t) (L-send_next (pumped n k t) (L-pumped n k t h))
    (L-pumped n k t h)

L-ended : (k : ℕ) (t : Side) → Low t → Low (ended k t)
L-ended k t h = L-if (owes_ready (pumped 7 k t).near) (ready false false (pumped 7 k t)) (pumped 7 k t) (L-ready false false (pumped 7 k t) (L-pumped 7 k t h))
    (L-pumped 7 k t h)

low_step : (b : Bool) (x y : LinkStep) → Low x.side → Low y.side → (let z : LinkStep = if b then x else y in Low z.side)
low_step true x y f g = f
low_step false x y f g = g

none_low : 0 ≤ 0
none_low = omega arith

-- ---- after each step

says_all : (k : ℕ) (step : LinkStep) → k ≤ 7 → Low step.side → HasSaidAll k (closed_by k step).side.near
says_all k step small h = record { low = L-ended k step.side h; settled = ended_settled k step.side small h; calm = ended_calm k step.side }

-- nothing may go where the station isn't Up
off_says_all : (k : ℕ) (step : LinkStep) → is_up step.side.near.phase ≡ false → Low step.side → HasSaidAll k (closed_by k step).side.near
off_says_all k step off h =
    subst (λ (z : LinkStep). HasSaidAll k z.side.near) (sym (closed_stays k step (rw off refl) (rw off refl)))
    (record { low = h; settled = rw off refl; calm = rw off refl })

pub take_says_all : TakeSaysAll
take_says_all c octets s small h =
    let read = frame_of (other c.role) c.longest octets in
    let heard : Few (s.outgoing.acked ≤ s.outgoing.place) 1 (hears c octets read s.phase (alone s)).side =
    hears_few (s.outgoing.acked ≤ s.outgoing.place) c octets read s.phase (alone s) (record { few = omega arith; low = λ low. low }) in
    says_all c.window (hears c octets read s.phase (alone s)) small (heard.low h)

pub put_says_all : PutSaysAll
put_says_all c packet s small h = says_all c.window (puts packet (alone s)) small h

asks_low : (p : Phase) (t : Side) → Low t → Low (asks_again p t)
asks_low Up t h = L-ready true true (with_near t (record t.near { recovery = true })) h
asks_low p t h = h

ends_low : (closing : Closing) (t : Side) → Low t → Low (answered GivenUp closing t)
ends_low Asked t h = h
ends_low closing t h = h

gives_low : (p : Phase) (t : Side) → Low t → Low (gives_up p t).side
gives_low Closed t h = ends_low t.near.closing t h
gives_low p t h = none_low

pub timer_says_all : TimerSaysAll
timer_says_all c s small h =
    says_all c.window (fires c (alone s)) small
    (low_step (nat_lt s.tries c.retries) (quiet (asks_again s.phase (with_near (alone s) (record s { tries = s.tries + 1 })))) (gives_up s.phase (alone s))
    (asks_low s.phase (with_near (alone s) (record s { tries = s.tries + 1 })) h) (gives_low s.phase (alone s) h))

pub connect_says_all : ConnectSaysAll
connect_says_all c s h = off_says_all c.window (connects (alone s)) refl h

pub disconnect_says_all : DisconnectSaysAll
disconnect_says_all c s = off_says_all c.window (disconnects c.disc_again (alone s)) refl none_low

pub abandon_says_all : AbandonSaysAll
abandon_says_all c s = off_says_all c.window (leaves Counts (alone s)) refl none_low

-- ---- at rest

or_false : (a b d : Bool) → (a || (b || d)) ≡ false → (a ≡ false) × (b ≡ false) × (d ≡ false)
or_false false false false e = (refl, refl, refl)
or_false a b d e = true_false e

-- nothing waits behind V(S) where the window is open
all_sent : (k : ℕ) (s : LinkStation) → 1 ≤ k → may_send k s ≡ false → is_up s.phase ≡ true → s.recovery ≡ false → s.peer_busy ≡ false → s.outgoing.place
    ≤ s.outgoing.acked → length s.outgoing.given ≤ s.outgoing.place
all_sent k s some settled up recovery peer_busy heard =
    let shut : is_open k s.outgoing ≡ false = sym (closed_is k s up recovery peer_busy) ∙ settled in
    let room : s.outgoing.place < s.outgoing.acked + k = omega (arith, some, heard) in
    let test = rw (lt-ltb s.outgoing.place (s.outgoing.acked + k) room) at shut in
    ltb-false _ _ test

-- the tests of a station that is Up with nothing out
idle_from : (s : LinkStation) → is_up s.phase ≡ true → length s.outgoing.given ≤ s.outgoing.sent → s.outgoing.acked ≡ s.outgoing.sent → is_idle s ≡ true
idle_from s up none same =
    let zero_waits : waits s.outgoing ≡ 0 = omega (arith, none) in
    rw (up, zero_waits, same) (eq-eqb s.outgoing.sent s.outgoing.sent refl)

pub no_timer_is_idle : NoTimerIsIdle
no_timer_is_idle k s some sound said up stopped =
    let phase : s.phase ≡ Up = up_is s.phase up in
    let tests = or_false _ _ _ (sym (ap (λ (p : Phase). timer_runs p s) phase) ∙ stopped) in
    let high : s.outgoing.sent ≤ s.outgoing.acked = ltb-false _ _ tests.0 in
    let low = sound.place_low in
    let top = sound.place_high in
    let all = all_sent k s some said.settled up tests.1 tests.2 (omega (arith, high, top)) in
    idle_from s up (omega (arith, all, top)) (omega (arith, high, low, top))

pub all_heard_is_rest : AllHeardIsRest
all_heard_is_rest k s some sound said up recovery peer_busy heard =
    let phase : s.phase ≡ Up = up_is s.phase up in
    let low = sound.place_low in
    let top = sound.place_high in
    let high = sound.sent_high in
    let all = all_sent k s some said.settled up recovery peer_busy heard in
    let same : s.outgoing.acked ≡ s.outgoing.sent = omega (arith, all, top, heard, low, high) in
    let stopped : nat_lt s.outgoing.acked s.outgoing.sent ≡ false = le-ltb _ _ (omega (arith, same)) in
    record {
      idle = idle_from s up (omega (arith, all, top)) same;
      no_timer = ap (λ (p : Phase). timer_runs p s) phase ∙ (rw (stopped, recovery, peer_busy) refl);
    }

pub rest_is_all_heard : RestIsAllHeard
rest_is_all_heard s rest =
    let outer = and_parts (is_up s.phase) (waits s.outgoing == 0 && s.outgoing.acked == s.outgoing.sent) rest.idle in
    let inner = and_parts (waits s.outgoing == 0) (s.outgoing.acked == s.outgoing.sent) outer.1 in
    let phase : s.phase ≡ Up = up_is s.phase outer.0 in
    let tests = or_false _ _ _ (sym (ap (λ (p : Phase). timer_runs p s) phase) ∙ rest.no_timer) in
    (outer.0, tests.1, tests.2, eqb-true _ _ inner.1)
