use Rattle.x25_circuit.proofs.Names.{◌≡◌, ◌∙◌, ℕ, Bool, ◌&&◌, ◌+◌, inl, inr, sym, ap, arith, lt-ltb, length, length-map, asks}
use Rattle.std.proofs.Common.{ap₂, nat_lt}
use Rattle.std.proofs.lemmas.Bool.{cases_lt, le-ltb}
use Rattle.x25_circuit.proofs.circuit.Circuit.is_unacknowledged.Goals as goal

out_is : (n r m : ℕ) → n + r ≡ m → nat_lt 0 r ≡ nat_lt n m
out_is n r m is = elim (cases_lt 0 r) [
  | inl some ↦ lt-ltb 0 r some ∙ sym (lt-ltb n m (omega (arith, is, some)))
  | inr none ↦ le-ltb 0 r none ∙ sym (le-ltb n m (omega (arith, is, none)))
]

pub returns : goal.returns
returns c = λ d x fits.
    let numbers = fits.talk.numbers in
    let unacked = c.unacked.ensures.state numbers.state numbers.fits in
    let acked = numbers.acked in
    let sent = ap length numbers.sent ∙ length-map x.talk.sent asks in
    ap₂ (λ (a b : Bool). a && b) (ap₂ (λ (a b : Bool). a && b) (c.is_open.ensures d x fits) fits.talk.peer_ready)
    (out_is x.talk.acked c.unacked.result (length x.talk.sent) (omega (arith, unacked, acked, sent)))
