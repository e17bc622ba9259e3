use Rattle.x25_layer.proofs.Names.{◌≡◌, vec_len, vec_capacity, at_rest, two_way, FitsCircuits}
use Rattle.x25_layer.proofs.circuits.begun_circuits.Given as goal

abbrev pub invariant-loop : goal.invariant-loop
invariant-loop l = FitsCircuits (record { channels = two_way l.channels; circuit = record { role = l.role; long_data = l.long_data; longest = l.longest } })
    l.circuits.items at_rest.circuits
    × (vec_len l.circuits ≡ l.counter)
    × (vec_capacity l.circuits ≡ l.channels)
