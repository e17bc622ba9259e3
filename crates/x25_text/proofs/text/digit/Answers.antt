use Rattle.std.proofs.lemmas.Fmt.{decimal_digit}
use Rattle.x25_text.proofs.text.digit.Goals as goal

pub returns : goal.returns
returns c = decimal_digit c.args.number c.requires
