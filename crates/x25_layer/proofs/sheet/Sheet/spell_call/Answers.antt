use Rattle.x25_layer.proofs.{LengthLemmas.{spelled_long}, Names.{arith, call}}
use Rattle.x25_layer.proofs.sheet.Sheet.spell_call.Goals as goal

pub unwrap-requires : goal.unwrap-requires
unwrap-requires c =
    let long = spelled_long (call c.args.channel c.args.called.now c.args.calling.now c.args.facilities.now c.args.user.now) c.requires in
    c.encode_call.ensures.room (omega (arith, long, c.clear.ensures.len, c.clear.ensures.capacity, c.self.invariant))

pub invariant_of-self : goal.invariant_of-self
invariant_of-self c =
    let long = spelled_long (call c.args.channel c.args.called.now c.args.calling.now c.args.facilities.now c.args.user.now) c.requires in
    omega (arith, long, c.clear.ensures.len, c.clear.ensures.capacity, c.self.invariant, c.encode_call.ensures.memory, c.encode_call.ensures.capacity)
