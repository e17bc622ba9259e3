use Rattle.std.proofs.{Common.{◌∙◌, ◌*◌, ◌+◌, ◌<◌, arith, length, slice_index}, lemmas.List.{length-set}}
use Rattle.x25_text.proofs.{DigitTable.{a_digit, no_digit}, PairLemmas.{at_end, fault_high, fault_low, next}}
use Rattle.x25_text.proofs.hexadecimal.read_pairs.Goals.{then-high-gt15-via-then-high-gt15, then-high-gt15-via-else-high-gt15+then-low-gt15}
use Rattle.x25_text.proofs.hexadecimal.read_pairs.Goals as goal

pub returns-then-high-gt15 : goal.returns-then-high-gt15
returns-then-high-gt15 c =
    let i = c.loop-i.i in
    let digits = c.args.digits.now in
    let size = length c.args.octets.now in
    let within : i < size = omega (arith, c.loop-i-test.true, c.loop-i.auto.i-end) in
    elim c.then-high-gt15.branch [
      | then-high-gt15-via-then-high-gt15 w ↦
          fault_high size i digits c.loop-i.octets c.loop-i.invariant within c.requires
          (no_digit (slice_index digits (2 * i)) c.value-high.result (omega (arith, c.type_inv.digits (2 * i))) c.value-high.ensures
          (omega (arith, w.if-high-gt15)))
      | then-high-gt15-via-else-high-gt15+then-low-gt15 w ↦
          fault_low size i digits c.loop-i.octets c.loop-i.invariant within c.requires
          (no_digit (slice_index digits (2 * i + 1)) c.value-low.result (omega (arith, c.type_inv.digits (2 * i + 1))) c.value-low.ensures
          (omega (arith, w.if-low-gt15)))
    ]

pub loop-i-preserved : goal.loop-i-preserved
loop-i-preserved c =
    let i = c.loop-i.i in
    let digits = c.args.digits.now in
    let size = length c.args.octets.now in
    record {
      long = length-set _ _ _ ∙ c.loop-i.invariant.long;
      same =
          next size i c.value-high.result c.value-low.result digits c.loop-i.octets c.loop-i.invariant (omega (arith, c.loop-i-test.true, c.loop-i.auto.i-end))
          c.requires
          (a_digit (slice_index digits (2 * i)) c.value-high.result c.value-high.ensures (omega (arith, c.if-high-gt15.false)))
          (a_digit (slice_index digits (2 * i + 1)) c.value-low.result c.value-low.ensures (omega (arith, c.if-low-gt15.false)));
    }

pub returns : goal.returns
returns c =
    at_end (length c.args.octets.now) c.loop-i.i c.args.digits.now c.loop-i.octets c.loop-i.invariant (omega (arith, c.loop-i-test.false, c.loop-i.auto.i-end))
    c.requires
