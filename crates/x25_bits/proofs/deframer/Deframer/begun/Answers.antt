use Rattle.std.proofs.Common.{◌∙◌, sym}
use Rattle.x25_bits.proofs.IdleLemmas.{none_kept}
use Rattle.x25_bits.proofs.deframer.Deframer.begun.Goals as goal

pub returns-then-len-eq0-clause-kept : goal.returns-then-len-eq0-clause-kept
returns-then-len-eq0-clause-kept c = none_kept c.none_begun.result c.args.self.now.kept c.none_begun.ensures.none (sym c.len-2.ensures ∙ c.if-len-eq0.true)
