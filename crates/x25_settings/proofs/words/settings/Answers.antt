use Rattle.std.proofs.Common.{◌∙◌, sym, map}
use Rattle.x25_settings.proofs.WordLemmas.{asked_command, asked_none, none_asked, range}
use Rattle.x25_settings.proofs.words.settings.Goals as goal

pub returns-in_default-clause-asked : goal.returns-in_default-clause-asked
returns-in_default-clause-asked g c = none_asked g.S.AsStr.text c.args.words.now c.in_default.ensures.parts

pub returns-in-Some-command_named-clause-asked : goal.returns-in-Some-command_named-clause-asked
returns-in-Some-command_named-clause-asked g c =
    asked_command g.S.AsStr.text c.args.words.now c.in-Some.word.now c.in-Some.behind.now c.asked_behind.result c.in-Some.ensures.parts
    c.in-Some-command_named.command (sym c.command_named.ensures ∙ c.in-Some-command_named.is) c.asked_behind.ensures

pub returns-in-Some-command_named-clause-range : goal.returns-in-Some-command_named-clause-range
returns-in-Some-command_named-clause-range g c =
    range c.in-Some-command_named.command _ (map g.S.AsStr.text c.in-Some.behind.now) c.asked_behind.result c.asked_behind.ensures

pub returns-in-None-clause-asked : goal.returns-in-None-clause-asked
returns-in-None-clause-asked g c =
    asked_none g.S.AsStr.text c.args.words.now c.in-Some.word.now c.in-Some.behind.now _ c.in-Some.ensures.parts (sym c.command_named.ensures ∙ c.in-None.is)
    c.front_refusal.ensures
