use Rattle.std.proofs.{Common.{◌∙◌, ◌+◌, None, Some, ap, sym}, lemmas.List.{take_rest}}
use Rattle.x25_records.specs.Records.{behind, up_to}
use Rattle.x25_records.proofs.record.split_after.Goals as goal

pub returns-in-Some-clause-before : goal.returns-in-Some-clause-before
returns-in-Some-clause-before c = ap (up_to c.args.text.now) (sym c.in-Some.is)

pub returns-in-Some-clause-after : goal.returns-in-Some-clause-after
returns-in-Some-clause-after c = take_rest c.args.text.now (c.in-Some.at + 1) ∙ ap (behind c.args.text.now) (sym c.in-Some.is)

pub returns-in-None-clause-before : goal.returns-in-None-clause-before
returns-in-None-clause-before c = ap (up_to c.args.text.now) (sym c.in-None.is)

pub returns-in-None-clause-after : goal.returns-in-None-clause-after
returns-in-None-clause-after c = ap (behind c.args.text.now) (sym c.in-None.is)
