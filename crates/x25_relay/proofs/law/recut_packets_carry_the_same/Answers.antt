use Rattle.x25_relay.proofs.RecutLemmas.{recut_carries, recut_is_of_size, few_are_kept}
use Rattle.x25_relay.proofs.law.recut_packets_carry_the_same.Goals as goal

pub returns : goal.returns
returns c = record { carries = recut_carries; size = recut_is_of_size; few = few_are_kept }
