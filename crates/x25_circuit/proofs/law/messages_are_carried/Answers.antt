use Rattle.x25_circuit.proofs.CarryLemmas.{cut_carries, cut_is_sound, send_adds, send_stays_whole, take_adds}
use Rattle.x25_circuit.proofs.law.messages_are_carried.Goals as goal

pub returns : goal.returns
returns c = record { cut = cut_carries; sound = cut_is_sound; sends = send_adds; whole = send_stays_whole; takes = take_adds }
