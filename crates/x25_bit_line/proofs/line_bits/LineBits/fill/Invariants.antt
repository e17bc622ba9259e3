use Rattle.std.proofs.Common.{◌≡◌, ◌++◌, true}
use Rattle.std.specs.Prelude.{replicate}
use Rattle.x25_bit_line.proofs.line_bits.LineBits.fill.Given as goal

abbrev pub invariant-loop : goal.invariant-loop
invariant-loop l = l.self.bits ≡ l.initial.self.bits ++ replicate l.counter true
