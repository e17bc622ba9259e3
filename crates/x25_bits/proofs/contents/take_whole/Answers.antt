use Rattle.std.proofs.Common.{◌∙◌, ◌++◌, ◌*◌, ◌<◌, ◌+◌, ◌-◌, ap, length, take, sym, arith}
use Rattle.x25_bits.specs.FrameCheck.{bits_of}
use Rattle.x25_bits.specs.Passing.{kept_from}
use Rattle.x25_bits.specs.code.Reading.{part}
use Rattle.x25_bits.proofs.OctetLemmas.{slice_written}
use Rattle.x25_bits.proofs.contents.take_whole.Goals as goal

pub take_into-requires-clause-room : goal.take_into-requires-clause-room
take_into-requires-clause-room c =
    let room : c.args.size + 8 * (c.args.end - c.args.at) < 8 * length c.args.memory.now.items = c.requires.room in
    let size = ap length c.as_mut_slice.ensures.value in
    omega arith

pub returns-clause-kept : goal.returns-clause-kept
returns-clause-kept c =
    let lent = c.as_mut_slice.ensures in
    let there = c.take_into.ensures in
    let same = slice_written _ c.take_into.new.memory _ (sym lent.len ∙ ap length lent.value) (there.len ∙ ap length lent.value) in
    ap (λ o. take c.take_into.result.count (bits_of o)) same ∙ there.kept
    ∙ ap (λ o. take c.args.size (bits_of o) ++ kept_from c.args.scan.run (part (8 * c.args.at) (8 * c.take_into.result.end) (bits_of c.args.octets.now)))
    lent.value

pub returns-clause-len : goal.returns-clause-len
returns-clause-len c =
    let lent = c.as_mut_slice.ensures in
    let there = c.take_into.ensures in
    ap length (slice_written _ c.take_into.new.memory _ (sym lent.len ∙ ap length lent.value) (there.len ∙ ap length lent.value)) ∙ there.len
    ∙ ap length lent.value
