use Rattle.x25_station.proofs.Names.{arith, ◌∙◌, take_min}
use Rattle.std.proofs.Common.{append-nil}
use Rattle.x25_station.proofs.lent.Lent.set_message.Goals as goal

pub returns : goal.returns
returns c = c.set.ensures ∙ append-nil _ ∙ grind (arith, take_min 65535 c.args.octets.now, c.min-count.ensures)
