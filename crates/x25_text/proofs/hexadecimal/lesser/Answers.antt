use Rattle.std.proofs.Common.{◌∙◌, sym}
use Rattle.x25_text.proofs.TestedLemmas.{lesser_tested}
use Rattle.x25_text.proofs.hexadecimal.lesser.Goals as goal

pub returns : goal.returns
returns c = lesser_tested c.args.first c.args.second (c.fits-first.0 ∙ sym c.fits-second.0)
