use Rattle.std.proofs.Common.{ℕ, ◌≤◌, subst, sym}
use Rattle.x25_packet.proofs.DigitLemmas.{digit_shown}
use Rattle.x25_packet.proofs.digits.Digits.get.Goals as goal

pub returns-then-place-self-clause-digit : goal.returns-then-place-self-clause-digit
returns-then-place-self-clause-digit c =
    subst (λ (n : ℕ). n ≤ 9) (sym c.saturating_sub.ensures)
    (digit_shown c.self.inside.figures.now c.self.inside.halves c.args.place c.self.invariant.decimal c.if-place-self.true)
