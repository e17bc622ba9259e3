-- What may be given beside the packet of a call, and how it is put: what is put is written with it (sections 5.2.1 to
-- 5.2.3), and all else is as without (profile).
use Rattle.std.specs.Prelude.{ℕ, ◌==◌, Bool, true, false, not, ◌&&◌, List, [], ◌∷◌, length, Option, Some, None}
use Rattle.x25_packet.specs.Packet.{PlainPacket}
use Rattle.x25_packet.specs.Spelling.{spelling_of}
use Rattle.x25_link.specs.Outgoing.{waits}
use Rattle.x25_link.specs.Station.{LinkSettings, LinkStation, Side, is_up}
use Rattle.x25_link.specs.Link.{alone, put_step}
use Rattle.x25_circuit.specs.declared.error.CircuitError.TheVariants as circuit_error
use Rattle.x25_circuit.specs.Calling.{Accepts, Clears}
use Rattle.x25_layer.specs.declared.error.LayerError.TheVariants as layer_error
use Rattle.x25_layer.specs.Calls.{LayerRequest, Asks, Dials}
use Rattle.x25_layer.specs.laws.Rounds.{LinkView}
use Rattle.x25_given.specs.Given.{PlainGiven, may_give}
use Rattle.x25_given.specs.Writing.{write}
use Rattle.x25_station.specs.declared.error.StationError.{StationError}
use Rattle.x25_station.specs.declared.error.StationError.TheVariants as error
use Rattle.x25_station.specs.Command.{may_ask}
use Rattle.x25_station.specs.Config.{Settings}
use Rattle.x25_station.specs.Station.{behind, all_put}

-- the user data of a CALL stands in the command, and CLEAR has no D
abbrev pub suits : PlainGiven → LayerRequest → Bool
suits g (Dials called calling user proposal) = length g.user == 0
suits g (Asks h (Accepts answer)) = true
suits g (Asks h (Clears cause diagnostic)) = not g.d
suits g request = false

-- by a station that reads packets in all their forms
abbrev pub is_taken : Settings → PlainGiven → LayerRequest → Bool
is_taken c g request = c.wide && (may_give g && suits g request)

-- with or without something given
abbrev pub may_ask_with : Bool → Option PlainGiven → LayerRequest → Bool
may_ask_with wide None request = may_ask wide request
may_ask_with wide (Some g) request = wide && (may_give g && suits g request)

-- the first packet is put with what is given, and the others as they are
abbrev pub all_given : LinkSettings → PlainGiven → List PlainPacket → Side → Side
all_given c g [] t = t
all_given c g (packet ∷ packets) t =
    all_put c packets (behind t (put_step c (write g (spelling_of packet)) t.near).side)

-- what the layer sees of the link
abbrev pub view_given : LinkSettings → PlainGiven → ℕ → LinkStation → LinkView
view_given c g turn s = record {
  is_up = is_up s.phase;
  waits = λ packets. waits (all_given c g packets (alone s)).near.outgoing;
  turn = turn;
}

-- 34
abbrev pub not_taken : StationError
not_taken = error.Layer (layer_error.Circuit circuit_error.BadParameter)
