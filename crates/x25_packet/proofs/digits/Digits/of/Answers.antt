use Rattle.std.proofs.Common.{◌∙◌, sym}
use Rattle.x25_packet.proofs.DigitLemmas.{figures_are_address}
use Rattle.x25_packet.proofs.digits.Digits.of.Goals as goal

pub invariant_of-result : goal.invariant_of-result
invariant_of-result c =
    figures_are_address c.as_bytes-figures.result.now c.of.result c.of.ensures c.if-figures-gt-MOST.false
    (sym c.are_figures.ensures ∙ c.if-not-are_figures.false)

pub returns-clause-address : goal.returns-clause-address
returns-clause-address c =
    figures_are_address c.as_bytes-figures.result.now c.of.result c.of.ensures c.if-figures-gt-MOST.false
    (sym c.are_figures.ensures ∙ c.if-not-are_figures.false)
