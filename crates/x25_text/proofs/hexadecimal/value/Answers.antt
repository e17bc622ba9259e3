use Rattle.std.proofs.Common.{arith}
use Rattle.x25_text.proofs.DigitTable.{value_is}
use Rattle.x25_text.proofs.hexadecimal.value.Goals as goal

pub returns : goal.returns
returns c = value_is c.args.character (omega (arith, c.ranges.character))
