use Rattle.std.proofs.Common.{◌*◌, ◌-◌, ◌∙◌, refl, arith, length, drop}
use Rattle.std.proofs.lemmas.Nat.{xor_lt}
use Rattle.byteorder.specs.Numbers.{little_from-take}
use Rattle.x25_bits.proofs.FoldLemmas.{fed_next_word, fed_end}
use Rattle.x25_bits.proofs.frame_check.through_words.Goals as goal

pub loop-eight-init : goal.loop-eight-init
loop-eight-init c = record { fits = omega (arith, c.ranges.start); same = refl }

pub loop-eight-preserved : goal.loop-eight-preserved
loop-eight-preserved c =
    let at = 8 * c.loop-eight.eight in
    record {
      fits = xor_lt 64 c.folded.result c.read_u64.result (omega (arith, c.folded.type_inv)) (omega (arith, c.read_u64.type_inv));
      same =
          fed_next_word c.loop-eight.held c.folded.result c.read_u64.result c.loop-eight.eight c.args.octets.now
          (omega (arith, c.loop-eight-test.true, c.loop-eight.auto.eight-end))
          (λ j. omega (arith, c.type_inv.octets j)) c.folded.ensures
          (c.read_u64.ensures ∙ little_from-take 0 8 (length c.args.octets.now - at) (drop at c.args.octets.now)
          (omega (arith, c.loop-eight-test.true, c.loop-eight.auto.eight-end)))
          ∙ c.loop-eight.invariant.same;
    }

pub returns : goal.returns
returns c =
    fed_end _ (8 * c.loop-eight.eight) c.args.octets.now (omega (arith, c.requires, c.loop-eight-test.false, c.loop-eight.auto.eight-end))
    ∙ c.loop-eight.invariant.same
