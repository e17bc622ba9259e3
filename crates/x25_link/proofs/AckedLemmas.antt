-- What is acknowledged at a step is what the N(R) that was heard acknowledges: the rest of the step leaves it.
use Rattle.x25_link.proofs.Names.{◌≡◌, ℕ, zero, suc, ◌+◌, Bool, true, false, not, if◌then◌else◌, refl, sym, ap, ◌∙◌, arith, nat_lt, le-ltb, Phase, Up, Closed, Closing, Ending}
use Rattle.x25_link.proofs.Names.{LinkSettings, LinkStation, Side, is_busy, with_near, ready, may_send, pumped, owes_ready, ended, LinkStep, quiet, Asked, Ended, GivenUp, leaves, Retries}
use Rattle.x25_link.{proofs.EndLemmas.{true_false}, specs.Station.{is_asked, is_closed}}
use Rattle.x25_link.{proofs.Names.{answers, passes_over, polls, answered, asks_again, gives_up, fires, closed_by}, specs.Hearing.{acknowledges}}

abbrev acked : Side → ℕ
acked t = t.near.outgoing.acked

if_same : (b : Bool) (t u v : Side) → acked t ≡ acked v → acked u ≡ acked v → acked (if b then t else u) ≡ acked v
if_same true t u v is other = is
if_same false t u v is other = other

ready_same : (command pf : Bool) (t : Side) → acked (ready command pf t) ≡ acked t
ready_same command pf t = if_same (is_busy t.near) _ _ t refl refl

pumped_same : (n k : ℕ) (t : Side) → acked (pumped n k t) ≡ acked t
unfolding pumped
pumped_same zero k t = refl
pumped_same (suc n) k t = if_same (may_send k (pumped n k t).near) _ _ (pumped n k t) refl refl ∙ pumped_same n k t

ended_same : (k : ℕ) (t : Side) → acked (ended k t) ≡ acked t
ended_same k t = if_same (owes_ready (pumped 7 k t).near) _ _ (pumped 7 k t) (ready_same false false (pumped 7 k t)) refl ∙ pumped_same 7 k t

pub polls_same : (command pf : Bool) (t : Side) → acked (polls command pf t) ≡ acked t
polls_same true true t = ready_same false true t
polls_same true false t = refl
polls_same false true t = refl
polls_same false false t = refl

pub answers_same : (k : ℕ) (p : Bool) (t : Side) → acked (answers k p t) ≡ acked t
answers_same k true t = ready_same false true t
answers_same k false t = if_same (may_send k t.near) _ _ t refl (ready_same false false t)

pub passed_same : (p : Bool) (t : Side) → acked (passes_over p t) ≡ acked t
passed_same p t =
    if_same (is_busy t.near) _ _ t (ready_same false p t)
    (if_same (not t.near.rejecting) _ _ t refl (if_same p _ _ t (ready_same false true t) refl))

-- the end of a step leaves what it acknowledges
pub closed_same : (s : LinkStation) (k : ℕ) (step : LinkStep) → acknowledges s (closed_by k step) ≡ acknowledges s step
closed_same s k step = ap (λ (n : ℕ). nat_lt s.outgoing.acked n) (ended_same k step.side)

-- ---- where none are acknowledged

pub none_again : (t : Side) → false ≡ acknowledges t.near (quiet t)
none_again t = sym (le-ltb _ _ (omega arith))

pub none_left : (n : ℕ) → false ≡ nat_lt n 0
none_left n = sym (le-ltb n 0 (omega arith))

-- the last firing, by the phase
pub gives_closed : (p : Phase) (t : Side) → is_closed p ≡ true → gives_up p t ≡ quiet (answered GivenUp t.near.closing t)
gives_closed Closed t is = refl
gives_closed p t is = true_false (sym is)

pub gives_open : (p : Phase) (t : Side) → is_closed p ≡ false → gives_up p t ≡ leaves Retries t
gives_open Closed t is = true_false is
gives_open p t is = refl

-- what a DISC awaits ends, by whether it awaits it
pub answered_then : (ending : Ending) (closing : Closing) (t : Side) → is_asked closing ≡ true
    → answered ending closing t ≡ with_near t (record t.near { closing = Ended ending })
answered_then ending Asked t is = refl
answered_then ending closing t is = true_false (sym is)

pub answered_not : (ending : Ending) (closing : Closing) (t : Side) → is_asked closing ≡ false → answered ending closing t ≡ t
answered_not ending Asked t is = true_false is
answered_not ending closing t is = refl

-- what a DISC awaits ends
pub none_ended : (ending : Ending) (closing : Closing) (t : Side) → false ≡ acknowledges t.near (quiet (answered ending closing t))
none_ended ending Asked t = none_again t
none_ended ending closing t = none_again t

pub none_given_up : (p : Phase) (t : Side) → false ≡ acknowledges t.near (gives_up p t)
none_given_up Closed t = none_ended GivenUp t.near.closing t
none_given_up p t = none_left t.near.outgoing.acked

pub none_fired : (c : LinkSettings) (t : Side) → false ≡ acknowledges t.near (fires c t)
none_fired c t = by (nat_lt t.near.tries c.retries)
  where
    up : Side
    up = with_near t (record t.near { tries = t.near.tries + 1 })

    asked : (phase : Phase) → acked (asks_again phase up) ≡ acked t
    asked Up = ready_same true true (with_near up (record up.near { recovery = true }))
    asked phase = refl

    by : (b : Bool) → false ≡ acknowledges t.near (if b then quiet (asks_again t.near.phase up) else gives_up t.near.phase t)
    by true = none_again t ∙ ap (λ (n : ℕ). nat_lt t.near.outgoing.acked n) (sym (asked t.near.phase))
    by false = none_given_up t.near.phase t
