use Rattle.std.proofs.Common.{◌≡◌, ◌+◌, ◌-◌, ◌∙◌, true, ap, sym}
use Rattle.x25_packet.specs.Digits.{halves_at, hold_digits}
use Rattle.x25_packet.specs.Block.{plain_block}
use Rattle.x25_packet.proofs.HalfLemmas.{behind_in}
use Rattle.x25_packet.proofs.block.Block.digits_behind.Goals as goal

pub returns : goal.returns
returns c =
    let hold : hold_digits (c.args.self.now.called + c.args.self.now.calling) c.args.self.now.addresses.now ≡ true =
    rw (sym c.from.ensures, sym c.from-2.ensures) (sym c.hold_digits.ensures ∙ c.if-not-hold_digits.false) in
    c.of-2.ensures ∙ ap (λ n. halves_at c.args.self.now.addresses.now (n + 2) (c.args.count - 2)) c.from-3.ensures
    ∙ behind_in (plain_block c.args.self.now) c.args.start c.args.count hold c.if-count-lt2.false c.if-count-gt17.false
