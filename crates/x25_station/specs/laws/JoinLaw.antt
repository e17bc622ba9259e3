-- Each step of a station is a step of its link, and then packets that are handed down to the link, each accepted; and
-- these packets are those that the same moves of the packet layer put, alone over a link that keeps order.
use Rattle.std.specs.Prelude.{◌≡◌, ℕ, ◌≤◌, ◌==◌, true, false, List, [], ◌∷◌, ◌++◌, Some, None, Ok}
use Rattle.x25_packet.specs.Packet.{PlainPacket, restart}
use Rattle.x25_packet.specs.Taking.{read_in}
use Rattle.x25_link.specs.Outgoing.{waits}
use Rattle.x25_link.specs.Station.{LinkSettings, LinkStation, Side, fresh}
use Rattle.x25_link.specs.Hearing.{LinkStep}
use Rattle.x25_link.specs.laws.NoteLaw.{IsQuiet}
use Rattle.x25_link.specs.Link.{alone, put_refusal, take_step}
use Rattle.x25_link.specs.declared.phase.Reason.{Reason}
use Rattle.x25_layer.specs.Layer.{Layer, rested, goes_up, restart_cause}
use Rattle.x25_layer.specs.Calls.{LayerRequest}
use Rattle.x25_packet.specs.Spelling.{longest_user}
use Rattle.x25_layer.specs.laws.TwoLayers.{TwoLayers, Move, Requests, HandsUp}
use Rattle.x25_layer.specs.laws.RoundLaw.{moves_all, pulls_of, AreChannels}
use Rattle.x25_station.specs.Config.{Settings, link_settings, layer_settings}
use Rattle.x25_station.specs.Entry.{link_down, entries_noted, layer_entries, layer_notices}
use Rattle.x25_station.specs.Station.{Station, put_on, all_put}
use Rattle.x25_station.specs.Step.{Step, Did, follows, abandons, receives, requests}

-- ---- the link's half

-- each packet is put where the link is up and fewer than 256 packets wait, so that the link accepts it
abbrev pub AreAccepted : LinkSettings → List PlainPacket → Side → Type 0
AreAccepted c [] t = Unit {0}
AreAccepted c (packet ∷ packets) t = (put_refusal t.near ≡ None) × AreAccepted c packets (put_on c packet t)

-- behind this step of the link these packets are put, and all of the step's frames are those of the link
pub record PutsBehind (c : Settings) (t : Side) (packets : List PlainPacket) (step : Step) : Type 0 where
  pub accepted : AreAccepted (link_settings c) packets t
  pub link : step.near.link ≡ (all_put (link_settings c) packets t).near
  pub out : step.out ≡ (all_put (link_settings c) packets t).out

-- ---- the layer's half

-- Between these worlds of two layers the near end moves as the layer of the station: it puts these packets, and enters
-- and tells what the entries of the step say.
pub record MovesAs (w v : TwoLayers) (packets : List PlainPacket) (step : Step) : Type 0 where
  pub layer : v.near.layer ≡ step.near.layer
  pub given : v.near.given ≡ w.near.given ++ packets
  pub out : v.out ≡ w.out ++ packets
  pub entries : v.near.entries ≡ w.near.entries ++ layer_entries step.entries
  pub told : v.near.told ≡ w.near.told ++ layer_notices step.entries
  pub up : v.near.is_out ≡ false
  pub far : v.far ≡ w.far

-- both, with what is then in flight to the near end
pub record IsJoined (c : Settings) (w v : TwoLayers) (t : Side) (behind : List PlainPacket) (step : Step) : Type 0 where
  pub packets : List PlainPacket
  pub link : PutsBehind c t packets step
  pub layer : MovesAs w v packets step
  pub back : v.back ≡ behind

-- ---- the calls

abbrev pub station_with : LinkStation → Layer → ℕ → Station
station_with link layer turn = record { link = link; layer = layer; turn = turn }

-- an accepted command to the layer is its move, and then pulls; the link takes no step of its own
abbrev pub RequestIsJoined : Type 0
RequestIsJoined = (c : Settings) (link : LinkStation) (w : TwoLayers) (turn : ℕ) (request : LayerRequest)
    (step : Step)
    → w.near.is_out ≡ false → waits link.outgoing ≤ 256
    → requests c (station_with link w.near.layer turn) request ≡ Did step →
    let move : Move = Requests (waits link.outgoing == 256) request in
    (pulled : List ℕ) × AreChannels c.channels pulled
    × IsJoined c w (moves_all (layer_settings c) w (move ∷ pulls_of pulled)) (alone link) w.back step

-- octets that come, of which the link hands up a packet: the layer takes that packet, and then pulls
abbrev pub ReceiveIsJoined : Type 0
ReceiveIsJoined = (c : Settings) (link : LinkStation) (w : TwoLayers) (turn : ℕ) (octets packet_octets : List ℕ)
    (packet : PlainPacket) (back : List PlainPacket) → w.near.is_out ≡ false
    → w.back ≡ packet ∷ back → abandons c (station_with link w.near.layer turn) ≡ false
    → (take_step (link_settings c) octets link).packet ≡ Some packet_octets
    → read_in c.wide (longest_user c.long_data) packet_octets ≡ Ok packet →
    (pulled : List ℕ) × AreChannels c.channels pulled
    × IsJoined c w (moves_all (layer_settings c) w (HandsUp ∷ pulls_of pulled))
    (take_step (link_settings c) octets link).side back (receives c (station_with link w.near.layer turn) octets)

-- a step of the link that hands nothing up and notes nothing asks nothing of the layer
abbrev pub QuietIsJoined : Type 0
QuietIsJoined = (c : Settings) (s : Station) (k : LinkStep) → k.packet ≡ None → IsQuiet k
    → follows c s k ≡ record { near = station_with k.side.near s.layer s.turn; out = k.side.out; entries = [] }

-- LinkDown alone: the layer drops everything but its counts, and nothing is put
abbrev pub DownIsJoined : Type 0
DownIsJoined = (c : Settings) (s : Station) (k : LinkStep) (reason : Reason)
    → k.notes ≡ record { down = Some reason; up = false } →
    follows c s k ≡ record {
      near = station_with k.side.near (rested s.layer) s.turn;
      out = k.side.out;
      entries = link_down reason ∷ [];
    }

-- LinkUp: RESTART alone is put, and the link accepts it
pub record ComesUp (c : Settings) (k : LinkStep) (step : Step) : Type 0 where
  pub link : PutsBehind c k.side (restart (restart_cause c.role) 0 ∷ []) step
  pub layer : step.near.layer ≡ (goes_up (layer_settings c)).next
  pub entries : step.entries ≡ entries_noted k.notes

abbrev pub UpIsJoined : Type 0
UpIsJoined = (c : Settings) (s : Station) (k : LinkStep) → k.notes.up ≡ true → k.side.near ≡ fresh
    → ComesUp c k (follows c s k)
