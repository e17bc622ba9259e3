use Rattle.std.proofs.Common.{◌*◌, ◌^◌, ◌%◌, refl, sym, ◌<◌, ◌≤◌, ◌≡◌, length, arith}
use Rattle.x25_bits.proofs.IdleLemmas.{low_none, low_kept, weight_some}
use Rattle.x25_bits.proofs.KeepingLemmas.{count_of}
use Rattle.x25_bits.proofs.kept.Kept.is_low_of.Goals as goal

pub returns-then-self-eq0 : goal.returns-then-self-eq0
returns-then-self-eq0 c = λ e.
    let size : c.self.inside.count ≡ length c.args.self.now =
    count_of c.self.inside.count c.self.inside.octets.items c.args.self.now c.self.invariant.0 c.self.invariant.1 c.self.view_is in
    low_none c.self.inside.count c.args.octet c.args.self.now size c.if-self-eq0.true

pub overflow_cast-weight : goal.overflow_cast-weight
overflow_cast-weight c =
    let size : c.self.inside.count ≡ length c.args.self.now =
    count_of c.self.inside.count c.self.inside.octets.items c.args.self.now c.self.invariant.0 c.self.invariant.1 c.self.view_is in
    let few : length c.args.self.now < 8 = c.requires in
    omega arith

pub overflow_shl-weight : goal.overflow_shl-weight
overflow_shl-weight c =
    let size : c.self.inside.count ≡ length c.args.self.now =
    count_of c.self.inside.count c.self.inside.octets.items c.args.self.now c.self.invariant.0 c.self.invariant.1 c.self.view_is in
    let few : length c.args.self.now < 8 = c.requires in
    omega arith

pub nonzero_rem-result : goal.nonzero_rem-result
nonzero_rem-result c =
    let size : c.self.inside.count ≡ length c.args.self.now =
    count_of c.self.inside.count c.self.inside.octets.items c.args.self.now c.self.invariant.0 c.self.invariant.1 c.self.view_is in
    let few : length c.args.self.now < 8 = c.requires in
    weight_some c.self.inside.count (omega arith)

pub nonzero_rem-result-2 : goal.nonzero_rem-result-2
nonzero_rem-result-2 c =
    let size : c.self.inside.count ≡ length c.args.self.now =
    count_of c.self.inside.count c.self.inside.octets.items c.args.self.now c.self.invariant.0 c.self.invariant.1 c.self.view_is in
    let few : length c.args.self.now < 8 = c.requires in
    weight_some c.self.inside.count (omega arith)

pub returns : goal.returns
returns c = λ e.
    let room : length c.self.inside.octets.items ≡ 4104 = c.self.invariant.1 in
    let some : c.self.inside.count ≤ 32832 = c.self.invariant.0 in
    let size : c.self.inside.count ≡ length c.args.self.now =
    count_of c.self.inside.count c.self.inside.octets.items c.args.self.now c.self.invariant.0 c.self.invariant.1 c.self.view_is in
    let few : length c.args.self.now < 8 = c.requires in
    low_kept c.self.inside.count (1 * 2 ^ c.self.inside.count % 256) c.args.octet c.self.inside.octets.items c.args.self.now (omega arith) (omega arith)
    c.self.view_is size refl
    (omega (arith, c.if-self-eq0.false)) c.index.result.now (sym c.index.ensures) e
