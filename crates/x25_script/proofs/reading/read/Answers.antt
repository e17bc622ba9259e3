use Rattle.std.proofs.Common.{◌∙◌, codes, sym}
use Rattle.x25_script.proofs.{PartLemmas.{bytes_other, bytes_same}, WordLemmas.{heals, line_behind, no_line}}
use Rattle.x25_script.specs.Reading.{Damage, Deliver, Drain, End, Lose, T1}
use Rattle.x25_script.proofs.reading.read.Goals as goal

pub returns-in-Some : goal.returns-in-Some
returns-in-Some g c = rw (line_behind Deliver _ _ c.in-Some.ensures) c.read_deliver.ensures

pub returns-in-Some-split_end : goal.returns-in-Some-split_end
returns-in-Some-split_end g c = rw (line_behind (End c.in-Some-split_end.end) _ _ c.in-Some-split_end.ensures) c.read_command.ensures

pub returns-in-Some-behind : goal.returns-in-Some-behind
returns-in-Some-behind g c = rw (line_behind Drain _ _ c.in-Some-behind.ensures) c.read_drain.ensures

pub returns-in-Some-behind-2 : goal.returns-in-Some-behind-2
returns-in-Some-behind-2 g c = rw (line_behind T1 _ _ c.in-Some-behind-2.ensures) c.read_t1.ensures

pub returns-in-Some-behind-3 : goal.returns-in-Some-behind-3
returns-in-Some-behind-3 g c = rw (line_behind Lose _ _ c.in-Some-behind-3.ensures) c.read_lose.ensures

pub returns-in-Some-behind-4 : goal.returns-in-Some-behind-4
returns-in-Some-behind-4 g c = rw (line_behind Damage _ _ c.in-Some-behind-4.ensures) c.read_damage.ensures

pub returns-then-is : goal.returns-then-is
returns-then-is g c =
    rw (heals c.args.line.now (bytes_same c.args.line.now (codes "heal") (sym c.is.ensures ∙ c.if-is.true)))
    c.heal.ensures

pub returns : goal.returns
returns g c =
    rw (no_line c.args.line.now c.in_default.ensures c.in_default-split_end.ensures.0 c.in_default-split_end.ensures.1 c.in_default-behind.ensures
    c.in_default-behind-2.ensures c.in_default-behind-3.ensures c.in_default-behind-4.ensures
    (bytes_other c.args.line.now (codes "heal") (sym c.is.ensures ∙ c.if-is.false)))
    c.nothing.ensures
