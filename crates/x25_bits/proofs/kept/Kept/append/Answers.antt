use Rattle.std.proofs.Common.{◌≤◌, ◌≡◌, ◌∙◌, length, arith}
use Rattle.x25_bits.proofs.KeepingLemmas.{count_of}
use Rattle.x25_bits.proofs.kept.Kept.append.Goals as goal

pub set_octet-requires : goal.set_octet-requires
set_octet-requires c =
    let size : c.self.inside.count ≡ length c.args.self.now =
    count_of c.self.inside.count c.self.inside.octets.items c.args.self.now c.self.invariant.0 c.self.invariant.1 c.self.view_is in
    let room : length c.self.inside.octets.items ≡ 4104 = c.self.invariant.1 in
    let few : length c.args.self.now ≤ 32823 = c.requires.few in
    omega arith

pub overflow_add-self : goal.overflow_add-self
overflow_add-self c =
    let size : c.self.inside.count ≡ length c.args.self.now =
    count_of c.self.inside.count c.self.inside.octets.items c.args.self.now c.self.invariant.0 c.self.invariant.1 c.self.view_is in
    let few : length c.args.self.now ≤ 32823 = c.requires.few in
    let small : c.args.size ≤ 8 = c.requires.size in
    omega arith

pub invariant_of-self : goal.invariant_of-self
invariant_of-self c =
    let size : c.self.inside.count ≡ length c.args.self.now =
    count_of c.self.inside.count c.self.inside.octets.items c.args.self.now c.self.invariant.0 c.self.invariant.1 c.self.view_is in
    let room : length c.self.inside.octets.items ≡ 4104 = c.self.invariant.1 in
    let few : length c.args.self.now ≤ 32823 = c.requires.few in
    let small : c.args.size ≤ 8 = c.requires.size in
    let same : length c.set_octet.new.octets.items ≡ length c.self.inside.octets.items = c.set_octet.ensures.len in
    (omega arith, omega arith, c.set_octet.ensures.capacity ∙ c.self.invariant.2)
