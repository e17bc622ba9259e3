-- What the layers put the other end reads again: each packet is in its ranges, and its octets are octets, fit in an I
-- frame, and read as the packet, with as much user data of a CALL as both ends may send. Who reads all forms so reads
-- whatever is put; who reads one, whatever is put where no confirmation is asked.
use Rattle.std.specs.Prelude.{◌≡◌, Bool, true, ℕ, ◌<◌, ◌≤◌, List, [], ◌∷◌, length, All, Ok}
use Rattle.x25_packet.specs.Packet.{PlainPacket}
use Rattle.x25_packet.specs.Spelling.{IsInRange, spelling_of, longest_user}
use Rattle.x25_packet.specs.Taking.{read_in}
use Rattle.x25_circuit.specs.Calling.{Request, Calls, Clears, Sends, Interrupts, Resets}
use Rattle.x25_layer.specs.declared.ranges.Ranges.{Ranges}
use Rattle.x25_layer.specs.Calls.{LayerRequest, Asks, Dials, Restarts, PullsAll}
use Rattle.x25_layer.specs.laws.TwoLayers.{TwoLayers, Move, Requests, EndMove, run, start}
use Rattle.x25_bits.specs.declared.role.Role.{Role}
use Rattle.x25_layer.specs.laws.PeerJoined.{PeerJoined, Happens, Ours, start as joined_start}
use Rattle.x25_station.specs.Command.{may_ask}
use Rattle.x25_station.specs.Config.{longest_packet}

abbrev pub AreOctets : List ℕ → Type 0
AreOctets xs = All (λ octet. octet < 256) xs

-- by who reads packets in all their forms, or not
pub record IsReadable (wide long_data : Bool) (packet : PlainPacket) : Type 0 where
  pub in_range : IsInRange (longest_user long_data) packet
  pub octets : AreOctets (spelling_of packet)
  pub short : length (spelling_of packet) ≤ longest_packet
  pub reads : read_in wide (longest_user long_data) (spelling_of packet) ≡ Ok packet
  pub reads_in_all : read_in true (longest_user long_data) (spelling_of packet) ≡ Ok packet

abbrev pub AreReadable : Bool → Bool → List PlainPacket → Type 0
AreReadable wide long_data [] = Unit {0}
AreReadable wide long_data (packet ∷ packets) = IsReadable wide long_data packet × AreReadable wide long_data packets

-- ---- what users hand down is octets

abbrev pub AsksOctets : Request → Type 0
AsksOctets (Calls called calling user proposal) = AreOctets user
AsksOctets (Clears cause diagnostic) = (cause < 256) × (diagnostic < 256)
AsksOctets (Sends marks user) = AreOctets user
AsksOctets (Interrupts user) = AreOctets user
AsksOctets (Resets cause diagnostic) = (cause < 256) × (diagnostic < 256)
AsksOctets request = Unit {0}

abbrev pub RequestsOctets : LayerRequest → Type 0
RequestsOctets (Asks h request) = AsksOctets request
RequestsOctets (Dials called calling user proposal) = AreOctets user
RequestsOctets (Restarts cause diagnostic) = (cause < 256) × (diagnostic < 256)
RequestsOctets PullsAll = Unit {0}

-- and confirmation is asked where packets are read in all their forms
abbrev pub MovesOctets : Bool → Move → Type 0
MovesOctets wide (Requests is_full request) = RequestsOctets request × (may_ask wide request ≡ true)
MovesOctets wide move = Unit {0}

abbrev pub BringOctets : Bool → List EndMove → Type 0
BringOctets wide [] = Unit {0}
BringOctets wide (e ∷ events) = MovesOctets wide e.what × BringOctets wide events

-- whatever happens to two layers of at most 4,095 channels
abbrev pub PutsAreReadable : Type 0
PutsAreReadable =
    (wide long_data : Bool) (channels : Ranges) → channels.count ≤ 4095 → (events : List EndMove)
    → BringOctets wide events →
    let w : TwoLayers = run long_data channels events (start long_data channels) in
    AreReadable wide long_data w.near.given × AreReadable wide long_data w.far.given

-- ---- a layer beside any peer

abbrev pub BringsOctets : {r : Role} {long_data : Bool} {channels : Ranges} {w v : PeerJoined} → Bool
    → Happens r long_data channels w v → Type 0
BringsOctets wide (Ours move stays) = MovesOctets wide move
BringsOctets wide other = Unit {0}

-- what is reached where the user hands down octets
pub data IsReachedByOctets (wide : Bool) (r : Role) (long_data : Bool) (channels : Ranges) : PeerJoined → Type 0 where
  at_start : IsReachedByOctets wide r long_data channels (joined_start r long_data channels)
  goes_on : (w v : PeerJoined) → IsReachedByOctets wide r long_data channels w → (h : Happens r long_data channels w v)
      → BringsOctets wide h → IsReachedByOctets wide r long_data channels v

abbrev pub PutsBesidePeersAreReadable : Type 0
PutsBesidePeersAreReadable =
    (wide : Bool) (r : Role) (long_data : Bool) (channels : Ranges) → channels.count ≤ 4095 → (w : PeerJoined)
    → IsReachedByOctets wide r long_data channels w → AreReadable wide long_data w.near.given
