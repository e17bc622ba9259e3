use Rattle.std.proofs.Common.{◌≡◌}
use Rattle.x25_bits.specs.HarmlessBits.{first_content}
use Rattle.x25_bits.specs.code.Plain.{plains}
use Rattle.x25_bits.proofs.harmless_bits.content_in.Given as goal

-- none of those so far is a content
abbrev pub invariant-loop-found : goal.invariant-loop-found
invariant-loop-found l = record {
  can_next : (goal.iterator-loop-found).can_next l.found-iterator;
  is_finite : (goal.iterator-loop-found).is_finite l.found-iterator;
  first : first_content (plains l.found-iterator.rest.items) ≡ first_content (plains l.fn.all.items);
}
