use Rattle.std.proofs.Common.{◌≤◌, ◌≡◌, ◌∙◌, ◌+◌, ◌-◌, ◌*◌, length, arith}
use Rattle.std.proofs.lemmas.List.{length-take}
use Rattle.x25_bits.specs.FrameCheck.{bits_of}
use Rattle.x25_bits.proofs.KeepingLemmas.{count_of}
use Rattle.x25_bits.proofs.kept.Kept.take_whole.Goals as goal

pub take_whole-taken-requires-clause-few : goal.take_whole-taken-requires-clause-few
take_whole-taken-requires-clause-few c =
    let size : c.self.inside.count ≡ length c.args.self.now =
    count_of c.self.inside.count c.self.inside.octets.items c.args.self.now c.self.invariant.0 c.self.invariant.1 c.self.view_is in
    let few : length c.args.self.now + 8 * (c.args.end - c.args.at) ≤ 32831 = c.requires.few in
    omega arith

pub take_whole-taken-requires-clause-room : goal.take_whole-taken-requires-clause-room
take_whole-taken-requires-clause-room c =
    let size : c.self.inside.count ≡ length c.args.self.now =
    count_of c.self.inside.count c.self.inside.octets.items c.args.self.now c.self.invariant.0 c.self.invariant.1 c.self.view_is in
    let room : length c.self.inside.octets.items ≡ 4104 = c.self.invariant.1 in
    let few : length c.args.self.now + 8 * (c.args.end - c.args.at) ≤ 32831 = c.requires.few in
    omega arith

pub invariant_of-self : goal.invariant_of-self
invariant_of-self c =
    let size : c.self.inside.count ≡ length c.args.self.now =
    count_of c.self.inside.count c.self.inside.octets.items c.args.self.now c.self.invariant.0 c.self.invariant.1 c.self.view_is in
    let room : length c.self.inside.octets.items ≡ 4104 = c.self.invariant.1 in
    let few : length c.args.self.now + 8 * (c.args.end - c.args.at) ≤ 32831 = c.requires.few in
    let more = c.take_whole-taken.ensures.few in
    let same : length c.take_whole-taken.new.memory.items ≡ length c.self.inside.octets.items = c.take_whole-taken.ensures.len in
    (omega arith, omega arith, c.take_whole-taken.ensures.capacity ∙ c.self.invariant.2)

pub returns-clause-few : goal.returns-clause-few
returns-clause-few c =
    let size : c.self.inside.count ≡ length c.args.self.now =
    count_of c.self.inside.count c.self.inside.octets.items c.args.self.now c.self.invariant.0 c.self.invariant.1 c.self.view_is in
    let few : length c.args.self.now + 8 * (c.args.end - c.args.at) ≤ 32831 = c.requires.few in
    let more = c.take_whole-taken.ensures.few in
    let all = length-take c.take_whole-taken.result.count (bits_of c.take_whole-taken.new.memory.items) in
    omega arith
