use Rattle.x25_crossing.proofs.HandingLemmas.{next_goes_out, next_interrupt_goes_out}
use Rattle.x25_crossing.proofs.law.next_goes_out.Goals as goal

pub returns : goal.returns
returns c = record { messages = next_goes_out; interrupts = next_interrupt_goes_out }
