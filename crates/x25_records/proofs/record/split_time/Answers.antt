use Rattle.std.proofs.{Common.{◌∙◌, ◌+◌, ap}, lemmas.List.{take_rest}}
use Rattle.x25_records.specs.Records.{time_by, timed_by}
use Rattle.x25_records.proofs.record.split_time.Goals as goal

pub returns-in-Some-clause-time : goal.returns-in-Some-clause-time
returns-in-Some-clause-time c = ap (time_by c.args.line.now) c.in-Some.ensures.place

pub returns-in-Some-clause-rest : goal.returns-in-Some-clause-rest
returns-in-Some-clause-rest c = take_rest c.args.line.now (c.in-Some.at + 1) ∙ ap (timed_by c.args.line.now) c.in-Some.ensures.place

pub returns-in-None-clause-time : goal.returns-in-None-clause-time
returns-in-None-clause-time c = ap (time_by c.args.line.now) c.in-None.ensures.place

pub returns-in-None-clause-rest : goal.returns-in-None-clause-rest
returns-in-None-clause-rest c = ap (timed_by c.args.line.now) c.in-None.ensures.place
