use Rattle.std.proofs.{Common.{subst}, lemmas.Iterator.Adapters.{option_map_id}}
use Rattle.x25_script.proofs.WordLemmas.{bare_alone, command_behind}
use Rattle.x25_script.specs.Reading.{Call, Clear, GivesCommand, Interrupt, NotReady, Ready, Reset, Restart, with_fields}
use Rattle.x25_script.proofs.command.other_command.Goals as goal

pub returns-in-Some : goal.returns-in-Some
unfolding with_fields
returns-in-Some c = λ no_send no_accept no_with. rw (command_behind Call _ _ c.in-Some.ensures) (subst (GivesCommand c.call.result) (option_map_id _) c.call.ensures)

pub returns-in-Some-behind : goal.returns-in-Some-behind
unfolding with_fields
returns-in-Some-behind c = λ no_send no_accept no_with. rw (command_behind Interrupt _ _ c.in-Some-behind.ensures) c.interrupt.ensures

pub returns-in-Some-behind-2 : goal.returns-in-Some-behind-2
unfolding with_fields
returns-in-Some-behind-2 c = λ no_send no_accept no_with. rw (command_behind Reset _ _ c.in-Some-behind-2.ensures) c.reset.ensures

pub returns-in-Some-behind-3 : goal.returns-in-Some-behind-3
unfolding with_fields
returns-in-Some-behind-3 c = λ no_send no_accept no_with. rw (command_behind Clear _ _ c.in-Some-behind-3.ensures)
    (subst (GivesCommand c.clear.result) (option_map_id _) c.clear.ensures)

pub returns-in-Some-behind-4 : goal.returns-in-Some-behind-4
returns-in-Some-behind-4 c = λ no_send no_accept no_with. rw (command_behind Ready _ _ c.in-Some-behind-4.ensures) c.ready.ensures

pub returns-in-Some-behind-5 : goal.returns-in-Some-behind-5
returns-in-Some-behind-5 c = λ no_send no_accept no_with. rw (command_behind NotReady _ _ c.in-Some-behind-5.ensures) c.not_ready.ensures

pub returns-in-Some-behind-6 : goal.returns-in-Some-behind-6
unfolding with_fields
returns-in-Some-behind-6 c = λ no_send no_accept no_with. rw (command_behind Restart _ _ c.in-Some-behind-6.ensures) c.restart.ensures

pub returns : goal.returns
returns c = λ no_send no_accept no_with.
    rw (bare_alone _ no_send no_accept c.in_default.ensures c.in_default-behind.ensures c.in_default-behind-2.ensures
    c.in_default-behind-3.ensures c.in_default-behind-4.ensures c.in_default-behind-5.ensures c.in_default-behind-6.ensures no_with)
    c.bare_command.ensures
