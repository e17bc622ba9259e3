use Rattle.std.proofs.Common.{◌<◌, ◌≡◌, ◌∙◌, length, arith}
use Rattle.x25_bits.proofs.KeepingLemmas.{count_of}
use Rattle.x25_bits.proofs.kept.Kept.push.Goals as goal

pub set_bit-requires : goal.set_bit-requires
set_bit-requires c =
    let size : c.self.inside.count ≡ length c.args.self.now =
    count_of c.self.inside.count c.self.inside.octets.items c.args.self.now c.self.invariant.0 c.self.invariant.1 c.self.view_is in
    let room : length c.self.inside.octets.items ≡ 4104 = c.self.invariant.1 in
    let few : length c.args.self.now < 32832 = c.requires in
    omega arith

pub overflow_add-self : goal.overflow_add-self
overflow_add-self c =
    let size : c.self.inside.count ≡ length c.args.self.now =
    count_of c.self.inside.count c.self.inside.octets.items c.args.self.now c.self.invariant.0 c.self.invariant.1 c.self.view_is in
    let few : length c.args.self.now < 32832 = c.requires in
    omega arith

pub invariant_of-self : goal.invariant_of-self
invariant_of-self c =
    let size : c.self.inside.count ≡ length c.args.self.now =
    count_of c.self.inside.count c.self.inside.octets.items c.args.self.now c.self.invariant.0 c.self.invariant.1 c.self.view_is in
    let room : length c.self.inside.octets.items ≡ 4104 = c.self.invariant.1 in
    let few : length c.args.self.now < 32832 = c.requires in
    let same : length c.set_bit.new.octets.items ≡ length c.self.inside.octets.items = c.set_bit.ensures.len in
    (omega arith, omega arith, c.set_bit.ensures.capacity ∙ c.self.invariant.2)
