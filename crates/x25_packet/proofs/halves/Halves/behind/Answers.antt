use Rattle.std.proofs.Common.{◌≡◌, ◌∙◌, arith, ap, sym, drop, length}
use Rattle.x25_packet.proofs.AddressLaws.{length-halves_at}
use Rattle.x25_packet.proofs.HalfLemmas.{halves_behind}
use Rattle.x25_packet.proofs.halves.Halves.behind.Goals as goal

pub returns : goal.returns
returns c =
    let octets = c.self.inside.octets.now in
    let start = c.self.inside.start in
    let count = c.self.inside.count in
    let size : length c.args.self.now ≡ count = ap length (sym c.self.view_is) ∙ length-halves_at octets start count c.self.invariant.1 in
    rw (c.from.ensures, c.from-2.ensures)
    (halves_behind start c.args.count count octets (omega (arith, c.requires, size))
    ∙ ap (drop c.args.count) c.self.view_is)
