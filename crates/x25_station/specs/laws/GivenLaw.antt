-- What is given beside a packet the user of the other end is told, where that station reads packets in all their forms.
-- It reads the packet as that without what is given.
use Rattle.std.specs.Prelude.{◌≡◌, ◌≢◌, ℕ, ◌≤◌, ◌==◌, Bool, List, [], ◌∷◌, ◌++◌, length, None, Some, Ok, true, false}
use Rattle.x25_packet.specs.Packet.{PlainPacket, call, accept, clear}
use Rattle.x25_packet.specs.Spelling.{IsInRange, longest_user, spelling_of}
use Rattle.x25_packet.specs.Taking.{read_in}
use Rattle.x25_given.specs.Given.{PlainGiven, may_give}
use Rattle.x25_given.specs.Writing.{fields, write, written}
use Rattle.x25_link.specs.Link.{alone, put_refusal, put_step}
use Rattle.x25_link.specs.Outgoing.{waits}
use Rattle.x25_link.specs.Station.{LinkSettings, LinkStation, Side}
use Rattle.x25_layer.specs.Layer.{Layer, LayerAnswer}
use Rattle.x25_layer.specs.Calls.{LayerRequest}
use Rattle.x25_layer.specs.laws.RoundLaw.{moves_all, pulls_of, AreChannels}
use Rattle.x25_layer.specs.laws.TwoLayers.{TwoLayers, Move, Requests}
use Rattle.x25_station.specs.Beside.{PlainBeside, nothing, of_fields, beside_in}
use Rattle.x25_station.specs.Config.{Settings, link_settings, layer_settings, longest_packet}
use Rattle.x25_station.specs.Giving.{all_given}
use Rattle.x25_station.specs.Station.{behind}
use Rattle.x25_station.specs.Entry.{bringing, entries_beside}
use Rattle.x25_station.specs.Step.{Step, Did, gives, layer_answer, entries_of_answer, entries_of_packet}
use Rattle.x25_station.specs.laws.JoinLaw.{AreAccepted, MovesAs, station_with}
use Rattle.x25_station.specs.laws.ReadLaw.{AreOctets, IsReadable}

-- the octets of a packet in its ranges are written as that packet is
abbrev pub GivenIsWritten : Type 0
GivenIsWritten = (g : PlainGiven) (v : PlainPacket) → IsInRange 128 v → AreOctets (spelling_of v)
    → write g (spelling_of v) ≡ written g v

-- what is given is octets
abbrev pub GivesOctets : PlainGiven → Type 0
GivesOctets g = AreOctets g.facilities × AreOctets g.user

-- octets that fit in an I frame, and that who reads packets in all their forms reads as this one
pub record IsReadInAll (long_data : Bool) (given : List ℕ) (packet : PlainPacket) : Type 0 where
  pub octets : AreOctets given
  pub short : length given ≤ longest_packet
  pub reads : read_in true (longest_user long_data) given ≡ Ok packet

-- the octets of a packet that is read are read as it with what is given too
abbrev pub GivenIsRead : Type 0
GivenIsRead = (wide long_data : Bool) (g : PlainGiven) (v : PlainPacket) → may_give g ≡ true → GivesOctets g
    → IsReadable wide long_data v → IsReadInAll long_data (write g (spelling_of v)) v

-- the facility field, in which the station's own facilities come first, and user data, but that of a CALL
abbrev pub told : PlainGiven → PlainPacket → PlainBeside
told g (call channel called calling field user) = of_fields (Some (fields (field ++ g.facilities) []))
told g (accept channel field) = of_fields (Some (fields (field ++ g.facilities) g.user))
told g (clear channel cause diagnostic) = of_fields (Some (fields g.facilities g.user))
told g v = nothing

-- where what is given makes other octets of it
abbrev pub GivenIsTold : Type 0
GivenIsTold = (g : PlainGiven) (v : PlainPacket) → may_give g ≡ true → IsInRange 128 v → AreOctets (written g v)
    → written g v ≢ spelling_of v → beside_in true (written g v) ≡ told g v

-- Octets that come with something given: the user is told what he is told of the packet without, and then what was
-- given.
abbrev pub GivenIsHeard : Type 0
GivenIsHeard = (c : Settings) (l : Layer) (g : PlainGiven) (v : PlainPacket) → c.wide ≡ true → may_give g ≡ true
    → GivesOctets g → IsReadable c.wide c.long_data v → write g (spelling_of v) ≢ spelling_of v →
    let answer : LayerAnswer = layer_answer (layer_settings c) c.wide l (spelling_of v) in
    entries_of_packet (layer_settings c) c.wide l (write g (spelling_of v))
    ≡ entries_of_answer answer ++ entries_beside (told g v) (bringing answer.notices)

-- ---- a call, an acceptance or a clearing with something given is one request of the layer, as without

-- each packet is put where the link is up and fewer than 256 packets wait, so that the link accepts it
abbrev pub AreTaken : LinkSettings → PlainGiven → List PlainPacket → Side → Type 0
AreTaken c g [] t = Unit {0}
AreTaken c g (packet ∷ packets) t = (put_refusal t.near ≡ None)
    × AreAccepted c packets (behind t (put_step c (write g (spelling_of packet)) t.near).side)

-- these packets are put, the first with what is given, and all of the step's frames are those of the link
pub record PutsGiven (c : Settings) (g : PlainGiven) (t : Side) (packets : List PlainPacket) (step : Step)
    : Type 0 where
  pub accepted : AreTaken (link_settings c) g packets t
  pub link : step.near.link ≡ (all_given (link_settings c) g packets t).near
  pub out : step.out ≡ (all_given (link_settings c) g packets t).out

pub record IsGivenJoined (c : Settings) (g : PlainGiven) (w v : TwoLayers) (t : Side) (behind : List PlainPacket)
    (step : Step) : Type 0 where
  pub packets : List PlainPacket
  pub link : PutsGiven c g t packets step
  pub layer : MovesAs w v packets step
  pub back : v.back ≡ behind

abbrev pub GivenIsJoined : Type 0
GivenIsJoined = (c : Settings) (g : PlainGiven) (link : LinkStation) (w : TwoLayers) (turn : ℕ)
    (request : LayerRequest) (step : Step) → w.near.is_out ≡ false → waits link.outgoing ≤ 256
    → gives c (station_with link w.near.layer turn) g request ≡ Did step →
    let move : Move = Requests (waits link.outgoing == 256) request in
    (pulled : List ℕ) × AreChannels c.channels pulled
    × IsGivenJoined c g w (moves_all (layer_settings c) w (move ∷ pulls_of pulled)) (alone link) w.back step
