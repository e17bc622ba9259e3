use Rattle.std.proofs.{Common.{◌∙◌, ap}, lemmas.List.{take_rest}}
use Rattle.x25_records.specs.Records.{from_place, up_to}
use Rattle.x25_records.proofs.record.split_said.Goals as goal

pub returns-in-Some-clause-plain : goal.returns-in-Some-clause-plain
returns-in-Some-clause-plain c = ap (up_to c.args.text.now) c.in-Some.ensures.place

pub returns-in-Some-clause-said : goal.returns-in-Some-clause-said
returns-in-Some-clause-said c = take_rest c.args.text.now c.in-Some.at ∙ ap (from_place c.args.text.now) c.in-Some.ensures.place

pub returns-in-None-clause-plain : goal.returns-in-None-clause-plain
returns-in-None-clause-plain c = ap (up_to c.args.text.now) c.in-None.ensures.place

pub returns-in-None-clause-said : goal.returns-in-None-clause-said
returns-in-None-clause-said c = ap (from_place c.args.text.now) c.in-None.ensures.place
