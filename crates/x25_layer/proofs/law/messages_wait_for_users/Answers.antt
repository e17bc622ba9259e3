use Rattle.x25_layer.proofs.{ApartLemmas.{always_apart}, LeftLemmas.{rounds_leave_none, still_pulls_none}}
use Rattle.x25_layer.proofs.{Names.{Bool, Ranges, Always, ClosedKeepNone, NoneOpenInRestart, WaitForUsersAlone}, Ends.{Known}}
use Rattle.x25_layer.proofs.WaitLemmas.{always_closed, always_shut, always_waits}
use Rattle.x25_layer.proofs.law.messages_wait_for_users.Goals as goal

-- what is known of packet sizes and windows
known : goal.After-apart_layers_keep_order → Known
known c = (let law = c.values_are_agreed.ensures in
    record {
      laws = record { said = law.said; no_field = law.no_field; proposal = law.proposal; answer = law.answer; terms = law.terms };
      field = law.field;
    })

wait : goal.After-apart_layers_keep_order → (long_data : Bool) (channels : Ranges) → Always (WaitForUsersAlone long_data channels) long_data channels
wait c = always_waits (known c)

pub returns-clause-left : goal.returns-clause-left
returns-clause-left c = rounds_leave_none

pub returns-clause-still : goal.returns-clause-still
returns-clause-still c = still_pulls_none

pub returns-clause-closed : goal.returns-clause-closed
returns-clause-closed c = λ long_data channels. always_apart ClosedKeepNone long_data channels (c.apart_layers_keep_order.ensures.runs long_data channels)
    (always_closed (known c) long_data channels)

pub returns-clause-restarting : goal.returns-clause-restarting
returns-clause-restarting c = λ long_data channels. always_apart NoneOpenInRestart long_data channels
    (c.apart_layers_keep_order.ensures.runs long_data channels) (always_shut (known c) long_data channels)

pub returns-clause-waits : goal.returns-clause-waits
returns-clause-waits c = wait c

pub returns-clause-apart : goal.returns-clause-apart
returns-clause-apart c = λ long_data channels. always_apart (WaitForUsersAlone long_data channels) long_data channels
    (c.apart_layers_keep_order.ensures.runs long_data channels) (wait c long_data channels)
