use Rattle.std.proofs.Common.{refl, arith}
use Rattle.x25_bits.proofs.OctetTable.{entries, table_passes, table_few}
use Rattle.x25_bits.proofs.passing.pass_octet.Goals as goal

pub returns-clause-passes : goal.returns-clause-passes
unfolding entries
returns-clause-passes c = λ was. table_passes c.args.run c.args.octet was _ c.if-run-gt-MOST_ONES.false (omega arith) c.if-ones-eq-SPECIAL.false refl refl refl
    refl

pub returns-clause-few : goal.returns-clause-few
unfolding entries
returns-clause-few c = table_few c.args.run c.args.octet c.if-run-gt-MOST_ONES.false (omega arith) c.if-ones-eq-SPECIAL.false
