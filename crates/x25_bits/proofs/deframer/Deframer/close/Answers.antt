use Rattle.std.proofs.Common.{◌≡◌, ◌∙◌, Bool, true, false, not, refl, sym}
use Rattle.x25_bits.proofs.LendingLemmas.{not_open, closes_none, closes_some}
use Rattle.x25_bits.proofs.deframer.Deframer.close.Goals as goal

shut : (b : Bool) → not b ≡ true → b ≡ false
shut true e = sym e
shut false e = refl

opened : (b : Bool) → not b ≡ false → b ≡ true
opened true e = refl
opened false e = sym e

pub returns-then-not-closed-clause-found : goal.returns-then-not-closed-clause-found
returns-then-not-closed-clause-found c = λ v fits. not_open c.args.self.now v fits (shut _ c.if-not-closed.true)

pub returns-then-is_some-clause-found : goal.returns-then-is_some-clause-found
returns-then-is_some-clause-found c = λ v fits.
    closes_some c.args.self.now v c.swap.new.self.last c.span_of.result c.swap.ensures.last fits (opened _ c.if-not-closed.false) c.span_of.ensures
    (sym c.is_some.ensures ∙ c.if-is_some.true)

pub returns-clause-found : goal.returns-clause-found
returns-clause-found c = λ v fits.
    closes_none c.args.self.now v c.swap.new.self.last c.span_of.result c.swap.ensures.last fits (opened _ c.if-not-closed.false) c.span_of.ensures
    (sym c.is_some.ensures ∙ c.if-is_some.false)
