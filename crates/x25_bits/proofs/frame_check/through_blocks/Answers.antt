use Rattle.std.proofs.Common.{◌*◌, ◌-◌, ◌∙◌, ap, arith, length, length-drop, drop}
use Rattle.std.proofs.lemmas.List.{take_all}
use Rattle.x25_bits.specs.FrameCheck.{bits_of}
use Rattle.x25_bits.specs.code.Register.{fed}
use Rattle.x25_bits.proofs.FoldLemmas.{fed_end}
use Rattle.x25_bits.proofs.BlockLemmas.{words_begin, on_by_block}
use Rattle.x25_bits.proofs.frame_check.through_blocks.Goals as goal

pub loop-block-init : goal.loop-block-init
loop-block-init c = record { same = ap (λ r. fed r (bits_of c.args.octets.now)) (words_begin c.args.start) }

pub loop-block-preserved : goal.loop-block-preserved
loop-block-preserved c =
    let at = 32 * c.loop-block.block in
    record {
      same =
          on_by_block _ _ c.loop-block.block _ c.args.octets.now
          (take_all (length c.args.octets.now - at) (drop at c.args.octets.now) (rw length-drop (omega arith)))
          c.with_block-held.ensures
          ∙ c.loop-block.invariant.same;
    }

pub returns : goal.returns
returns c =
    c.last_word.ensures
    ∙ fed_end _ (32 * c.loop-block.block) c.args.octets.now (omega (arith, c.requires, c.loop-block-test.false, c.loop-block.auto.block-end))
    ∙ c.loop-block.invariant.same
