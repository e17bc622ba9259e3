use Rattle.std.proofs.Common.{◌∙◌, ◌++◌, ◌-◌, ◌%◌, true, ap, arith}
use Rattle.std.specs.Prelude.{replicate}
use Rattle.x25_bits.proofs.StuffingTable.{ones_low}
use Rattle.x25_bits.proofs.line_octets.fill.Goals as goal

pub returns : goal.returns
returns c = record {
  ok = c.in_ok-append.ensures.ok ∙ ap (λ l. c.args.bits.now ++ l) (ones_low _ (omega arith))
      ∙ ap (λ n. c.args.bits.now ++ replicate ((8 - n % 8) % 8) true) c.len.ensures;
}
