use Rattle.std.proofs.Common.{◌∙◌, ap, arith, length, sym, take}
use Rattle.x25_bits.specs.FrameCheck.{bits_of}
use Rattle.x25_bits.specs.code.Register.{fed}
use Rattle.x25_bits.proofs.FoldLemmas.{begun_empty, begun_is, ones}
use Rattle.x25_bits.proofs.frame_check.begun.Goals.{then-octets-lt8, else-octets-lt8}
use Rattle.x25_bits.proofs.frame_check.begun.Goals as goal

pub returns-then-count-eq0 : goal.returns-then-count-eq0
returns-then-count-eq0 c = begun_empty c.args.octets.now ∙ ap (λ n. fed ones (bits_of (take n c.args.octets.now))) (sym c.if-count-eq0.true)

pub returns : goal.returns
returns c =
    elim c.if-octets-lt8.branch [
      | then-octets-lt8 w ↦
          begun_is c.args.octets.now c.args.count (length c.args.octets.now) c.if-octets-lt8.word c.requires.few c.requires.within (omega arith)
          (λ i. omega (arith, c.type_inv.octets i))
          (w.word-is ∙ w.short_word-word.ensures)
      | else-octets-lt8 w ↦
          begun_is c.args.octets.now c.args.count 8 c.if-octets-lt8.word c.requires.few (omega (arith, c.requires.few)) (omega (arith, w.if-octets-lt8))
          (λ i. omega (arith, c.type_inv.octets i))
          (w.word-is ∙ w.read_u64-word.ensures)
    ]
