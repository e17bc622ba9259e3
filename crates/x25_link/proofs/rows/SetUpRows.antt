-- What a station does in set-up, row by row.
use Rattle.x25_link.proofs.Names.{◌≡◌, ℕ, suc, ◌+◌, List, [], ◌∷◌, Bool, true, false, if◌then◌else◌, Some, None, Result, Ok, Err, refl, sym, ap, ◌∙◌, subst}
use Rattle.x25_link.proofs.Names.{arith, nat_lt, PlainFrame, sabm, disc, ua, FrameError, Phase, Down, Waiting, Up, Reason, Retries, Counts, no_packet}
use Rattle.x25_link.proofs.Names.{LinkSettings, LinkStation, is_up, may_send, owes_ready, fresh, with_nothing, LinkStep, quiet, leaves, row_of, alone}
use Rattle.x25_link.proofs.Names.{Closed, Closing, Asked, Ending, ByUa, ByDm, GivenUp, Side, sends, dm, ◌&&◌, is_command, poll_or_final, answered, gives_up}
use Rattle.std.proofs.Common.{Option}
use Rattle.x25_link.proofs.{EndLemmas.{none_open, ended_stays}, Names.{closed_by, hears, connects, fires, disconnects, asks_again, when_waiting, when_down}}
use Rattle.x25_link.{proofs.rows.WindowRows.{closed_stays}, specs.Link.{goes_up}, specs.laws.SetUp.{DisconnectCloses, TakeCloses, TimerCloses, ended_by, closed_after, closed_sends, RelinkIsTwoSteps}}
use Rattle.x25_link.specs.laws.SetUp.{Is, waiting_after, waiting_sends, waiting_up, TakesPart, reset_from, TakeWaits, TakeSetsUp, ConnectWaits, TimerWaits}

is_from : (k : ℕ) (near : LinkStation) (out : List PlainFrame) (down : Option Reason) (up : Bool) (step : LinkStep) → may_send k step.side.near ≡ false
    → owes_ready step.side.near ≡ false
    → Is near out down up step → Is near out down up (closed_by k step)
is_from k near out down up step settled calm h = subst (Is near out down up) (sym (closed_stays k step settled calm)) h

-- nothing may go where the station isn't Up
idle_from : (k : ℕ) (near : LinkStation) (out : List PlainFrame) (down : Option Reason) (up : Bool) (step : LinkStep) → is_up step.side.near.phase ≡ false
    → Is near out down up step
    → Is near out down up (closed_by k step)
idle_from k near out down up step low h = is_from k near out down up step (rw low refl) (rw low refl) h

fresh_from : (k : ℕ) (out : List PlainFrame) (down : Option Reason) (step : LinkStep) → Is fresh out down true step → Is fresh out down true (closed_by k step)
fresh_from k out down step h =
    is_from k fresh out down true step (ap (may_send k) h.near ∙ none_open k no_packet (omega arith)) (ap owes_ready h.near) h

-- ---- while UA is awaited

nothing_waits : (k : ℕ) (s : LinkStation) → s.phase ≡ Waiting → Is s [] None false (closed_by k (quiet (alone s)))
nothing_waits k s e = idle_from k _ _ _ _ (quiet (alone s)) (ap is_up e) (record { near = refl; out = refl; packet = refl; down = refl; up = refl })

waits_row : (c : LinkSettings) (octets : List ℕ) (s : LinkStation) → s.phase ≡ Waiting → (read : Result PlainFrame FrameError)
    → Is (waiting_after read s) (waiting_sends read) None (waiting_up read) (closed_by c.window (hears c octets read Waiting (alone s)))
waits_row c octets s e (Ok (sabm p)) =
    idle_from c.window _ _ _ _ (when_waiting (sabm p) (alone s)) (ap is_up e) (record { near = refl; out = refl; packet = refl; down = refl; up = refl })
waits_row c octets s e (Ok (disc p)) =
    idle_from c.window _ _ _ _ (when_waiting (disc p) (alone s)) (ap is_up e) (record { near = refl; out = refl; packet = refl; down = refl; up = refl })
waits_row c octets s e (Ok (ua true)) = fresh_from c.window _ _ (goes_up (alone s)) (record { near = refl; out = refl; packet = refl; down = refl; up = refl })
waits_row c octets s e read = nothing_waits c.window s e

pub take_waits : TakeWaits
take_waits c octets s e read is =
    rw (sym is) (subst (λ (p : Phase). Is (waiting_after read s) (waiting_sends read) None (waiting_up read)
    (closed_by c.window (hears c octets read p (alone s)))) (sym e) (waits_row c octets s e read))

-- ---- SABM in Down and in Up

sets_up_row : (c : LinkSettings) (octets : List ℕ) (s : LinkStation) (p : Bool) (phase : Phase) → TakesPart phase
    → Is fresh (ua p ∷ []) (reset_from phase) true (closed_by c.window (hears c octets (Ok (sabm p)) phase (alone s)))
sets_up_row c octets s p Down h = fresh_from c.window _ _ (when_down (sabm p) (alone s))
    (record { near = refl; out = refl; packet = refl; down = refl; up = refl })
sets_up_row c octets s p Up h = fresh_from c.window _ _ (row_of c octets (Ok (sabm p)) (alone s))
    (record { near = refl; out = refl; packet = refl; down = refl; up = refl })
sets_up_row c octets s p phase h = absurd h

pub take_sets_up : TakeSetsUp
take_sets_up c octets s h p is = rw is (sets_up_row c octets s p s.phase h)

-- ---- connect, timer T1 and disconnect

pub connect_waits : ConnectWaits
connect_waits c s e = idle_from c.window _ _ _ _ (connects (alone s)) refl (record { near = refl; out = refl; packet = refl; down = refl; up = refl })

timer_by : (b : Bool) (c : LinkSettings) (s : LinkStation) → s.phase ≡ Waiting → nat_lt s.tries c.retries ≡ b
    → Is (if b then record s { tries = suc s.tries } else with_nothing Down s.tries) (if b then sabm true ∷ [] else []) (if b then None else Some Retries)
    false (closed_by c.window (fires c (alone s)))
timer_by true c s e is =
    let u : LinkStation = record s { tries = s.tries + 1 } in
    let same : u ≡ record s { tries = suc s.tries } = ap (λ (n : ℕ). let z : LinkStation = record s { tries = n } in z) (omega arith) in
    rw is (subst (λ (p : Phase). Is (record s { tries = suc s.tries }) (sabm true ∷ []) None false (closed_by c.window (quiet (asks_again p (alone u)))))
    (sym e)
    (idle_from c.window _ _ _ _ (quiet (asks_again Waiting (alone u))) (ap is_up e)
    (record { near = same; out = refl; packet = refl; down = refl; up = refl })))
timer_by false c s e is =
    rw is (subst (λ (p : Phase). Is (with_nothing Down s.tries) [] (Some Retries) false (closed_by c.window (gives_up p (alone s)))) (sym e)
    (idle_from c.window _ _ _ _ (leaves Retries (alone s)) refl (record { near = refl; out = refl; packet = refl; down = refl; up = refl })))

pub timer_waits : TimerWaits
timer_waits c s e = timer_by _ c s e refl

-- ---- the end of a link that this end disconnects

pub disconnect_closes : DisconnectCloses
disconnect_closes c s = idle_from c.window _ _ _ _ (disconnects c.disc_again (alone s)) refl
    (record { near = refl; out = refl; packet = refl; down = refl; up = refl })

-- what a DISC awaits ends, if it does
ends_row : (k : ℕ) (s : LinkStation) → s.phase ≡ Closed → (ending : Ending) (closing : Closing) → s.closing ≡ closing
    → Is (ended_by ending closing s) [] None false (closed_by k (quiet (answered ending closing (alone s))))
ends_row k s e ending Asked is =
    idle_from k _ _ _ _ (quiet (answered ending Asked (alone s))) (ap is_up e) (record { near = refl; out = refl; packet = refl; down = refl; up = refl })
ends_row k s e ending closing is =
    idle_from k _ _ _ _ (quiet (alone s)) (ap is_up e) (record { near = refl; out = refl; packet = refl; down = refl; up = refl })

declines_row : (k : ℕ) (s : LinkStation) → s.phase ≡ Closed → (b : Bool)
    → Is s (if b then dm true ∷ [] else []) None false (closed_by k (quiet (let u : Side = if b then sends (dm true) (alone s) else alone s in u)))
declines_row k s e true =
    idle_from k _ _ _ _ (quiet (sends (dm true) (alone s))) (ap is_up e) (record { near = refl; out = refl; packet = refl; down = refl; up = refl })
declines_row k s e false =
    idle_from k _ _ _ _ (quiet (alone s)) (ap is_up e) (record { near = refl; out = refl; packet = refl; down = refl; up = refl })

closed_row : (c : LinkSettings) (octets : List ℕ) (s : LinkStation) → s.phase ≡ Closed → (read : Result PlainFrame FrameError)
    → Is (closed_after read s) (closed_sends read) None false (closed_by c.window (hears c octets read Closed (alone s)))
closed_row c octets s e (Ok (ua true)) = ends_row c.window s e ByUa s.closing refl
closed_row c octets s e (Ok (dm true)) = ends_row c.window s e ByDm s.closing refl
closed_row c octets s e (Ok frame) = declines_row c.window s e (is_command frame && poll_or_final frame)
closed_row c octets s e (Err x) =
    idle_from c.window _ _ _ _ (quiet (alone s)) (ap is_up e) (record { near = refl; out = refl; packet = refl; down = refl; up = refl })

pub take_closes : TakeCloses
take_closes c octets s e read is =
    rw (sym is) (subst (λ (p : Phase). Is (closed_after read s) (closed_sends read) None false (closed_by c.window (hears c octets read p (alone s)))) (sym e)
    (closed_row c octets s e read))

disc_by : (b : Bool) (c : LinkSettings) (s : LinkStation) → s.phase ≡ Closed → nat_lt s.tries c.retries ≡ b
    → Is (if b then record s { tries = suc s.tries } else ended_by GivenUp s.closing s) (if b then disc true ∷ [] else []) None false
    (closed_by c.window (fires c (alone s)))
disc_by true c s e is =
    let u : LinkStation = record s { tries = s.tries + 1 } in
    let same : u ≡ record s { tries = suc s.tries } = ap (λ (n : ℕ). let z : LinkStation = record s { tries = n } in z) (omega arith) in
    rw is (subst (λ (p : Phase). Is (record s { tries = suc s.tries }) (disc true ∷ []) None false (closed_by c.window (quiet (asks_again p (alone u)))))
    (sym e)
    (idle_from c.window _ _ _ _ (quiet (asks_again Closed (alone u))) (ap is_up e)
    (record { near = same; out = refl; packet = refl; down = refl; up = refl })))
disc_by false c s e is =
    rw is (subst (λ (p : Phase). Is (ended_by GivenUp s.closing s) [] None false (closed_by c.window (gives_up p (alone s)))) (sym e)
    (ends_row c.window s e GivenUp s.closing refl))

pub timer_closes : TimerCloses
timer_closes c s e = disc_by _ c s e refl

pub relink_is_two_steps : RelinkIsTwoSteps
relink_is_two_steps c s = record { abandoned = ended_stays c.window (leaves Counts (alone s)).side refl refl; connected = refl }
