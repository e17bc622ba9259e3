-- Each call of a layer is a run: the step of the call, and then pulls of configured channels.
use Rattle.std.specs.Prelude.{◌≡◌, ℕ, Bool, List, [], ◌∷◌, ◌++◌, Ok, true, false, ◌==◌}
use Rattle.x25_packet.specs.Packet.{PlainPacket}
use Rattle.x25_packet.specs.Spelling.{longest_user}
use Rattle.x25_packet.specs.Taking.{read_in}
use Rattle.x25_layer.specs.declared.ranges.Ranges.{Ranges}
use Rattle.x25_layer.specs.Layer.{LayerSettings, is_channel, goes_up}
use Rattle.x25_layer.specs.Calls.{LayerRequest}
use Rattle.x25_layer.specs.laws.Rounds.{LinkView, Putting, begin, round, whole_rounds, Went, calls, hears}
use Rattle.x25_layer.specs.laws.Rounds.{comes_up}
use Rattle.x25_layer.specs.laws.TwoLayers.{TwoLayers, Move, Requests, Pulls, HandsUp, moves}

-- moves of the near end, one after another
abbrev pub moves_all : LayerSettings → TwoLayers → List Move → TwoLayers
moves_all c w [] = w
moves_all c w (move ∷ rest) = moves_all c (moves c w move) rest

abbrev pub pulls_of : List ℕ → List Move
pulls_of [] = []
pulls_of (h ∷ channels) = Pulls h ∷ pulls_of channels

abbrev pub AreChannels : Ranges → List ℕ → Type 0
AreChannels n [] = Unit {0}
AreChannels n (h ∷ channels) = (is_channel n h ≡ true) × AreChannels n channels

-- after these moves, the near end has this layer and has put these packets more, and this is in flight to it; it has
-- told its user nothing since the world `first`, and the other end is as it was there
pub record IsRun (c : LayerSettings) (w : TwoLayers) (moved : List Move) (first : TwoLayers) (s : Putting)
    (behind : List PlainPacket) : Type 0 where
  pub layer : (moves_all c w moved).near.layer ≡ s.layer
  pub given : (moves_all c w moved).near.given ≡ w.near.given ++ s.put
  pub out : (moves_all c w moved).out ≡ w.out ++ s.put
  pub back : (moves_all c w moved).back ≡ behind
  pub up : (moves_all c w moved).near.is_out ≡ false
  pub taken : (moves_all c w moved).near.taken ≡ first.near.taken
  pub told : (moves_all c w moved).near.told ≡ first.near.told
  pub entries : (moves_all c w moved).near.entries ≡ first.near.entries
  pub far : (moves_all c w moved).far ≡ w.far

-- an accepted call is the request and then pulls
abbrev pub CallsRun : Type 0
CallsRun = (link : LinkView) (c : LayerSettings) (w : TwoLayers) (request : LayerRequest) (s : Putting)
    → w.near.is_out ≡ false → calls link c w.near.layer request ≡ Went s →
    let move : Move = Requests (link.waits [] == 256) request in
    (pulled : List ℕ) × AreChannels c.channels pulled × IsRun c w (move ∷ pulls_of pulled) (moves c w move) s w.back

-- a packet handed up is taken, however it is read, and then pulls
abbrev pub HearsRun : Type 0
HearsRun = (link : LinkView) (c : LayerSettings) (wide : Bool) (w : TwoLayers) (packet : PlainPacket)
    (back : List PlainPacket) (octets : List ℕ) → w.near.is_out ≡ false → w.back ≡ packet ∷ back →
    read_in wide (longest_user c.circuit.long_data) octets ≡ Ok packet →
    (pulled : List ℕ) × AreChannels c.channels pulled
    × IsRun c w (HandsUp ∷ pulls_of pulled) (moves c w HandsUp) (hears link c wide w.near.layer octets).step back

-- behind whole rounds, one round more gives nothing
abbrev pub RoundsSettle : Type 0
RoundsSettle = (link : LinkView) (c : LayerSettings) (s : Putting)
    → round link c 0 c.channels.count (whole_rounds link c s) ≡ whole_rounds link c s

-- a round leads to where all of them do
abbrev pub RoundsGoOn : Type 0
RoundsGoOn = (link : LinkView) (c : LayerSettings) (s : Putting)
    → whole_rounds link c (round link c 0 c.channels.count s) ≡ whole_rounds link c s

-- where a round gives nothing, the rounds end
abbrev pub RoundsEnd : Type 0
RoundsEnd = (link : LinkView) (c : LayerSettings) (s : Putting)
    → round link c 0 c.channels.count s ≡ s → whole_rounds link c s ≡ s

-- at LinkUp RESTART is put, and nothing else
abbrev pub ComesUpAlone : Type 0
ComesUpAlone = (link : LinkView) (c : LayerSettings) → (comes_up link c).step ≡ begin (goes_up c).next (goes_up c).owed
