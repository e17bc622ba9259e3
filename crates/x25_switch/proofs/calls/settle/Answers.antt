use Rattle.std.proofs.Common.{◌<◌, length, slice_set, sym, subst, arith}
use Rattle.x25_station.specs.Error.{number_of}
use Rattle.x25_switch.specs.code.Asked.{Makes, NotMade, channel_asked}
use Rattle.x25_switch.specs.code.Plain.{plain, plains}
use Rattle.x25_switch.proofs.CallLemmas.{made_there, made_apart, not_made_there, not_made_leaves_apart}
use Rattle.x25_switch.proofs.calls.settle.Goals as goal

pub returns-in-Ok-clause-made : goal.returns-in-Ok-clause-made
returns-in-Ok-clause-made c =
    let there = c.vacate.new.calls.items in
    let old = plains c.args.calls.now.items in
    let new = plains (slice_set there c.args.index c.called.new.self) in
    let low : c.args.index < length there = let a = c.requires in let b = c.vacate.ensures.count in omega (arith, a, b) in
    subst (λ a. Makes c.args.line c.args.index a c.args.step.now old new) (sym c.in-Ok.is)
    (made_there c.args.line c.channel_of-channel.result (channel_asked c.args.step.now.entries.items) c.args.index there old c.called.new.self
    c.index_mut.result.now c.channel_of-channel.ensures c.vacate.ensures.vacated low c.index_mut.ensures.value c.called.ensures)

pub returns-in-Ok-clause-apart : goal.returns-in-Ok-clause-apart
returns-in-Ok-clause-apart c = λ apart.
    let there = c.vacate.new.calls.items in
    let low : c.args.index < length there = let a = c.requires in let b = c.vacate.ensures.count in omega (arith, a, b) in
    made_apart c.args.line c.channel_of-channel.result c.args.index there c.called.new.self c.index_mut.result.now low c.index_mut.ensures.value
    c.called.ensures (c.vacate.ensures.none apart) (c.vacate.ensures.apart apart)

pub returns-in-Err-clause-made : goal.returns-in-Err-clause-made
returns-in-Err-clause-made c =
    let xs = c.args.calls.now.items in
    let y = c.not_called.new.self in
    let d = c.index_mut-in-Err.result.now in
    let low : c.args.index < length xs = let a = c.requires in omega (arith, a) in
    let not = subst (λ n. NotMade n (plain d) (plain y)) c.number.ensures c.not_called.ensures in
    subst (λ a. Makes c.args.line c.args.index a c.args.step.now (plains xs) (plains (slice_set xs c.args.index y))) (sym c.in-Err.is)
    (not_made_there (number_of c.in-Err.error) c.args.index xs y d low c.index_mut-in-Err.ensures.value not)

pub returns-in-Err-clause-apart : goal.returns-in-Err-clause-apart
returns-in-Err-clause-apart c = λ apart.
    let xs = c.args.calls.now.items in
    let low : c.args.index < length xs = let a = c.requires in omega (arith, a) in
    not_made_leaves_apart c.number.result c.args.index xs c.not_called.new.self c.index_mut-in-Err.result.now low c.index_mut-in-Err.ensures.value
    c.not_called.ensures apart
