use Rattle.std.proofs.Common.{arith, ◌≡◌, ◌++◌, ◌∙◌, List, ℕ, ap}
use Rattle.std.proofs.lemmas.List.{append_assoc}
use Rattle.x25_packet.specs.Packet.{plain}
use Rattle.x25_packet.specs.Spelling.{body_of, header_of}
use Rattle.x25_packet.proofs.NarrowLaws.{appended_again}
use Rattle.x25_packet.proofs.spelling.encode.Goals as goal

pub returns-clause-again : goal.returns-clause-again
returns-clause-again c = λ most fits without.
    let head : c.append_octets.new.octets.items ≡ c.args.octets.now.items ++ header_of (plain c.args.packet.now) =
    grind (
      arith,
      c.append_octets.ensures.items,
      c.reserve_exact.ensures.items,
      c.format.ensures.value,
      c.to_be_bytes.ensures,
      c.named-channel.ensures.channel,
      c.named-channel.ensures.kind,
      c.named-channel.type_inv,
    ) in
    appended_again most (plain c.args.packet.now) c.args.octets.now.items c.append_body.new.octets.items fits without
    (c.append_body.ensures.items ∙ ap (λ (o : List ℕ). o ++ body_of (plain c.args.packet.now)) head
    ∙ append_assoc c.args.octets.now.items (header_of (plain c.args.packet.now)) (body_of (plain c.args.packet.now)))
