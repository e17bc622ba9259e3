-- A station: its link and its packet layer, and packets that the one hands down to the other.
use Rattle.std.specs.Prelude.{ℕ, List, [], ◌∷◌, ◌++◌}
use Rattle.x25_packet.specs.Packet.{PlainPacket}
use Rattle.x25_packet.specs.Spelling.{spelling_of}
use Rattle.x25_link.specs.declared.phase.Phase.TheVariants.{Down}
use Rattle.x25_link.specs.Outgoing.{waits}
use Rattle.x25_link.specs.Station.{LinkSettings, LinkStation, Side, with_nothing, is_up}
use Rattle.x25_link.specs.Link.{alone, put_step}
use Rattle.x25_layer.specs.Layer.{Layer, at_rest}
use Rattle.x25_layer.specs.laws.Rounds.{LinkView}
pub mod Told

-- The turn is the channel behind which the rounds of pulls go on: the last of which a packet was put before 8 waited,
-- else 0.
pub record Station : Type 0 where
  pub link : LinkStation
  pub layer : Layer
  pub turn : ℕ

-- a station that never was up
abbrev pub new_station : Station
new_station = record { link = with_nothing Down 0; layer = at_rest; turn = 0 }

-- ---- packets that the layer puts

-- the packet's octets are handed down, and the frames of that go behind those that went before
abbrev pub behind : Side → Side → Side
behind t u = record { near = u.near; out = t.out ++ u.out }

abbrev pub put_on : LinkSettings → PlainPacket → Side → Side
put_on c packet t = behind t (put_step c (spelling_of packet) t.near).side

-- one after another
abbrev pub all_put : LinkSettings → List PlainPacket → Side → Side
all_put c [] t = t
all_put c (packet ∷ packets) t = all_put c packets (put_on c packet t)

-- ---- what the layer sees of the link, and whose turn it is

-- how many packets wait once these are put
abbrev pub waiting_after : LinkSettings → LinkStation → List PlainPacket → ℕ
waiting_after c s packets = waits (all_put c packets (alone s)).near.outgoing

abbrev pub view_of : LinkSettings → ℕ → LinkStation → LinkView
view_of c turn s = record { is_up = is_up s.phase; waits = waiting_after c s; turn = turn }
