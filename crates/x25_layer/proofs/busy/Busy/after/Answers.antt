use Rattle.std.proofs.Common.{◌/◌}
use Rattle.x25_layer.proofs.BusyLemmas.{begins, begins_fits, goes_on, none_behind, empty_behind, empty_between, empty_to_end, is_higher, is_listed}
use Rattle.x25_layer.proofs.{BusyLemmas.{none_between, is_within}, Names.{rules, ◌+◌, ◌^◌, ◌<◌, length, w64, arith, trailing_zeros}}
use Rattle.x25_layer.proofs.busy.Busy.after.Goals as goal

pub loop-left-init : goal.loop-left-init
loop-left-init c =
    let places = c.args.self.now.places in
    let below = c.if-channel-self.false in
    let here = c.from-at.ensures in
    let by = c.from.ensures in
    let low : c.from-at.result < length c.args.self.now.words.items = omega (arith, places, below, here) in
    record {
      here = low;
      fits = begins_fits c.index.result.now c.from.result;
      left = begins c.args.self.now.words.items c.args.channel c.from-at.result c.from.result c.index.result.now (omega (arith, here)) (omega (arith, by)) low
          c.index.ensures;
    }

pub loop-left-preserved : goal.loop-left-preserved
loop-left-preserved c =
    let low : c.loop-left.at + (1 + trailing_zeros w64 (c.args.self.now.used / 2 ^ c.loop-left.at / 2)) < length c.args.self.now.words.items = omega arith in
    record {
      here = low;
      fits = search rules;
      left = goes_on c.args.self.now.words.items c.args.channel c.loop-left.at c.loop-left.left c.loop-left.invariant.left (omega arith) _ _ (omega arith)
          (empty_between c.args.self.now.words.items c.args.self.now.used c.loop-left.at c.args.self.now.unused (omega arith) (search rules)) low
          c.index-left.ensures;
    }

pub returns-then-further-eq0-clause-none : goal.returns-then-further-eq0-clause-none
returns-then-further-eq0-clause-none c = none_behind c.args.self.now.words.items c.args.channel c.loop-left.at c.loop-left.left c.loop-left.invariant.left
    (omega arith) (empty_behind c.args.self.now.words.items c.args.self.now.used c.loop-left.at c.args.self.now.unused (omega arith))

pub returns-then-at-len-clause-none : goal.returns-then-at-len-clause-none
returns-then-at-len-clause-none c = none_behind c.args.self.now.words.items c.args.channel c.loop-left.at c.loop-left.left c.loop-left.invariant.left
    (omega arith)
    (empty_to_end c.args.self.now.words.items c.args.self.now.used c.loop-left.at c.args.self.now.unused (omega arith) (search rules) (omega arith))

pub overflow_cast-result-2 : goal.overflow_cast-result-2
overflow_cast-result-2 c =
    let within = is_within c.args.self.now.words.items c.args.channel c.loop-left.at c.loop-left.left c.loop-left.invariant.left (omega arith)
    c.loop-left.invariant.fits c.args.self.now.count c.args.self.now.within in
    let fits : c.args.self.now.count < 65536 = search rules in
    omega (arith, within, fits)

pub returns-clause-listed : goal.returns-clause-listed
returns-clause-listed c = is_listed c.args.self.now.words.items c.args.channel c.loop-left.at c.loop-left.left c.loop-left.invariant.left (omega arith)
    c.loop-left.invariant.fits

pub returns-clause-higher : goal.returns-clause-higher
returns-clause-higher c = is_higher c.args.self.now.words.items c.args.channel c.loop-left.at c.loop-left.left c.loop-left.invariant.left (omega arith)
    c.loop-left.invariant.fits

pub returns-clause-within : goal.returns-clause-within
returns-clause-within c = is_within c.args.self.now.words.items c.args.channel c.loop-left.at c.loop-left.left c.loop-left.invariant.left (omega arith)
    c.loop-left.invariant.fits c.args.self.now.count c.args.self.now.within

pub returns-clause-between : goal.returns-clause-between
returns-clause-between c = none_between c.args.self.now.words.items c.args.channel c.loop-left.at c.loop-left.left c.loop-left.invariant.left (omega arith)
    c.loop-left.invariant.fits
