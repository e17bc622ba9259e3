use Rattle.std.proofs.Common.{◌∷◌, [], sym, subst, arith}
use Rattle.std.proofs.lemmas.List.{length-append}
use Rattle.x25_bits.specs.code.Prefix.{IsPrefix}
use Rattle.x25_bits.proofs.PrefixLemmas.{prefix_more}
use Rattle.x25_bits.proofs.bits.grow.Goals as goal

pub loop-preserved : goal.loop-preserved
loop-preserved c = record {
  begins = prefix_more _ _ _ c.loop.invariant.begins (0 ∷ [], c.in_ok-push.ensures.items);
  room = rw c.in_ok-push.ensures.items (rw length-append (omega (arith, c.loop.invariant.room)));
}

pub returns-in_err-push-clause-begins : goal.returns-in_err-push-clause-begins
returns-in_err-push-clause-begins c = subst (IsPrefix c.args.octets.now.items) (sym c.in_err-push.ensures.items) c.loop.invariant.begins

pub returns-clause-begins : goal.returns-clause-begins
returns-clause-begins c = c.loop.invariant.begins
