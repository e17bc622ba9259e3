use Rattle.x25_station.proofs.Names.{arith, take_min}
use Rattle.x25_station.proofs.text.Text.set.Goals as goal

pub returns : goal.returns
returns c = grind (arith, take_min 128 c.args.octets.now, c.append_octets.ensures.items, c.clear.ensures.items, c.min-count.ensures)
