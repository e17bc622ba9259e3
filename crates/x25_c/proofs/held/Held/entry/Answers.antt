use Rattle.std.proofs.Common.{◌∙◌, arith, sym}
use Rattle.x25_c.proofs.ItemLemmas.{in_first, in_second}
use Rattle.x25_c.proofs.held.Held.entry.Goals as goal

pub returns-then-i-before : goal.returns-then-i-before
returns-then-i-before c =
    let h = c.args.self.now in
    c.get.ensures ∙ sym (in_first h.earlier.entries h.step.entries.items c.args.i (omega (arith, c.if-i-before.true, c.len-before.ensures.value)))

pub returns : goal.returns
returns c =
    let h = c.args.self.now in
    c.entry_at.ensures
    ∙ sym (in_second h.earlier.entries h.step.entries.items c.args.i _ (omega (arith, c.if-i-before.false, c.len-before.ensures.value)))
