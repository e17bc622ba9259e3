use Rattle.std.proofs.Common.{◌≡◌, length, arith}
use Rattle.x25_clock.proofs.ListedLemmas.{spread_length}
use Rattle.x25_clock.specs.Clock.{spread}
use Rattle.x25_clock.proofs.clock.Clock.most_due.Goals as goal

pub returns : goal.returns
returns c =
    let v = c.args.self.now in
    let from = c.from.ensures in
    let all : length (spread v.channels 1 v.waits.items) ≡ v.channels = spread_length v.channels 1 v.waits.items in
    omega (arith, from, all)
