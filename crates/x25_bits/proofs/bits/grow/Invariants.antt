use Rattle.std.proofs.Common.{◌≤◌, length}
use Rattle.x25_bits.specs.code.Prefix.{IsPrefix}
use Rattle.x25_bits.proofs.bits.grow.Given as goal

abbrev pub invariant-loop : goal.invariant-loop
invariant-loop l = record {
  begins : IsPrefix l.initial.octets.items l.octets.items;
  room : l.counter ≤ length l.octets.items;
}
