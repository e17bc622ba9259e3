use Rattle.std.proofs.Common.{◌-◌, ◌*◌, ◌/◌, ◌≡◌, ◌∙◌, ◌<◌, get_or, length, ap, sym, subst, refl, arith}
use Rattle.x25_bits.specs.FrameCheck.{low_bits}
use Rattle.x25_bits.specs.Passing.{Passes}
use Rattle.x25_bits.proofs.StretchLemmas.{part_first, ones_pass, flag_pass}
use Rattle.x25_bits.proofs.stretches.up_to_flag.Goals as goal

pub returns-then-octet-run-clause-passes : goal.returns-then-octet-run-clause-passes
returns-then-octet-run-clause-passes c =
    let inside : c.args.place < 8 * length c.args.octets.now = c.requires.place in
    subst (Passes _ c.args.scan.run c.args.scan.is_inserted)
    (sym (part_first c.args.place (6 - c.args.scan.run) c.args.octets.now c.requires.first (omega arith) (omega arith)))
    (ones_pass c.args.scan.run (get_or c.args.octets.now (c.args.place / 8) 0) c.args.scan.is_inserted _ (omega arith) c.if-octet-run.true
    (refl, refl, refl, refl))

pub returns-clause-passes : goal.returns-clause-passes
returns-clause-passes c =
    let inside : c.args.place < 8 * length c.args.octets.now = c.requires.place in
    let flag : get_or c.args.octets.now (c.args.place / 8) 0 ≡ 126 = c.if-octet-ne-FLAG.false in
    subst (Passes _ c.args.scan.run c.args.scan.is_inserted)
    (sym (part_first c.args.place 7 c.args.octets.now c.requires.first (omega arith) (omega arith) ∙ ap (low_bits 7) flag))
    (flag_pass c.args.scan.run c.args.scan.is_inserted _ (omega arith) (refl, refl, refl, refl))
