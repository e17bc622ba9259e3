-- The data packet that is pulled, and what a circuit ends as, once the user data that it lends has been given back.
use Rattle.std.specs.Prelude.{◌≡◌, ℕ, ⊤, List, Option, Some, None}
use Rattle.std.specs.Borrow.{Fml, MutBor, follows_so}
use mathlib.Core.Option.{none}
use Rattle.x25_packet.specs.Packet.{PlainPacket, user_data}
use Rattle.x25_circuit.specs.declared.circuit.Circuit as code
use Rattle.x25_circuit.specs.declared.transfer.Header.{Header}
use Rattle.x25_circuit.specs.contracts.circuit.Circuit.{the_row}
use Rattle.x25_circuit.specs.Circuit.{CircuitSettings, Circuit}
use Rattle.x25_circuit.specs.Calling.{pulled}
use Rattle.x25_circuit.specs.code.FitsCircuit.{FitsCircuit, clears_of, resets_of}

-- what the header says, with this user data
abbrev pub packet_with : Option Header → List ℕ → Option PlainPacket
packet_with None user = None
packet_with (Some header) user = Some (user_data 1 header.marks header.m header.ps.number header.pr.number user)

-- for each state that it fitted, it fits the one after the pull; the counts are kept
abbrev pub EndsPulled : MutBor code.Circuit → Fml
EndsPulled s = follows_so the_row the_row s.ghost_name none (λ _ _. ⊤)
    (λ n. (clears_of n ≡ clears_of s.now)
    × (resets_of n ≡ resets_of s.now)
    × ((c : CircuitSettings) (x : Circuit) → FitsCircuit c s.now x → FitsCircuit c n (pulled c x).next))
