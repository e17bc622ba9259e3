use Rattle.std.proofs.Common.{◌≡◌}
use Rattle.x25_circuit.specs.Message.{carried}
use Rattle.x25_handshakes.specs.laws.Histories.{IsPrefix}
use Rattle.x25_line.specs.laws.Sessions.{Meeting}
use Rattle.x25_switched.specs.laws.SwitchClaims.{OfEachTwo, NoneIsLeft, there}
use Rattle.x25_switched.specs.laws.Switched.{Bond, Switched}
use Rattle.x25_switched.proofs.BookedLemmas.{of_followed}
use Rattle.x25_switched.proofs.law.calls_come_through.Goals as goal

pub returns : goal.returns
returns c =
    let next = c.next_goes_out.ensures.messages in
    let int_next = c.next_goes_out.ensures.interrupts in
    let through = c.messages_come_through_the_switch.ensures in
    record {
      through = of_followed next int_next (OfEachTwo (λ (b : Bond) (s : Switched) (m n : Meeting).
          IsPrefix (carried (there s.far b.far n).taken) (carried (there s.near b.near m).sent))) through.through;
      all = of_followed next int_next (OfEachTwo (λ (b : Bond) (s : Switched) (m n : Meeting). NoneIsLeft b s m n
          → carried (there s.far b.far n).taken ≡ carried (there s.near b.near m).sent)) through.all;
      interrupts = of_followed next int_next (OfEachTwo (λ (b : Bond) (s : Switched) (m n : Meeting).
          IsPrefix (there s.far b.far n).int_up (there s.near b.near m).int_down)) through.interrupts;
    }
