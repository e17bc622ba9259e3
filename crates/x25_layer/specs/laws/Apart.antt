-- Two layers, each end by itself: an event names the packet that the end's link hands up, and nothing is kept of what
-- is in flight. Events are in order where each packet that an end takes is the next of those that the other end gave.
use Rattle.std.specs.Prelude.{◌≡◌, ℕ, List, [], ◌∷◌, ◌++◌, length, drop, Bool, false, if◌then◌else◌}
use Rattle.x25_bits.specs.declared.role.Role.TheVariants.{Dte, Dce}
use Rattle.x25_packet.specs.Packet.{PlainPacket}
use Rattle.x25_handshakes.specs.laws.Histories.{IsPrefix}
use Rattle.x25_layer.specs.declared.ranges.Ranges.{Ranges}
use Rattle.x25_layer.specs.Layer.{LayerSettings}
use Rattle.x25_layer.specs.Calls.{LayerRequest}
use Rattle.x25_layer.specs.laws.TwoLayers as world
use Rattle.x25_layer.specs.laws.TwoLayers.{End, TwoLayers, Move, moves, settings_of, EndMove, start}

-- ---- one end

pub data OwnMove : Type 0 where
  -- a call of the user; the test says whether 256 packets wait
  Requests : (is_full : Bool) → (request : LayerRequest) → OwnMove
  -- the next data packet of a channel is put, where there is one
  Pulls : (channel : ℕ) → OwnMove
  -- the link hands this packet up
  Takes : (packet : PlainPacket) → OwnMove
  -- the link goes down
  GoesDown : OwnMove

-- the same as a move of two layers, and what is in flight to the end for it
abbrev pub as_move : OwnMove → Move
as_move (Requests is_full request) = world.Requests is_full request
as_move (Pulls h) = world.Pulls h
as_move (Takes packet) = world.HandsUp
as_move GoesDown = world.GoesDown

abbrev pub coming : OwnMove → List PlainPacket
coming (Takes packet) = packet ∷ []
coming what = []

-- no move looks at the far end
abbrev pub alone : End → List PlainPacket → TwoLayers
alone e back = record { near = e; far = e; out = []; back = back }

-- what two layers' move does to the end that moves; an end that is out does nothing more
abbrev pub own_moves : LayerSettings → End → OwnMove → End
own_moves c e what = (moves c (alone e (coming what)) (as_move what)).near

abbrev pub own_run : LayerSettings → List OwnMove → End → End
own_run c [] e = e
own_run c (what ∷ rest) e = own_run c rest (own_moves c e what)

-- ---- two ends

-- the near end is the DTE
pub record Ends : Type 0 where
  pub near : End
  pub far : End

-- whether it is one of the DTE, and what happens
pub record ApartEvent : Type 0 where
  pub first : Bool
  pub what : OwnMove

abbrev pub apart_happens : Bool → Ranges → Ends → ApartEvent → Ends
apart_happens long_data channels ends e =
    if e.first
    then record { near = own_moves (settings_of Dte long_data channels) ends.near e.what; far = ends.far }
    else record { near = ends.near; far = own_moves (settings_of Dce long_data channels) ends.far e.what }

abbrev pub apart_run : Bool → Ranges → List ApartEvent → Ends → Ends
apart_run long_data channels [] ends = ends
apart_run long_data channels (e ∷ events) ends = apart_run long_data channels events
    (apart_happens long_data channels ends e)

abbrev pub ends_of : TwoLayers → Ends
ends_of w = record { near = w.near; far = w.far }

-- both links have come up, and each end has sent its RESTART
abbrev pub apart_start : Bool → Ranges → Ends
apart_start long_data channels = ends_of (start long_data channels)

-- the events of either end
abbrev pub near_moves : List ApartEvent → List OwnMove
near_moves [] = []
near_moves (e ∷ events) = if e.first then e.what ∷ near_moves events else near_moves events

abbrev pub far_moves : List ApartEvent → List OwnMove
far_moves [] = []
far_moves (e ∷ events) = if e.first then far_moves events else e.what ∷ far_moves events

-- ---- order

-- the packet that an end takes is the next of those that the other gave; an end that is out takes none
abbrev pub IsNext : End → End → OwnMove → Type 0
IsNext taker giver (Takes packet) = taker.is_out ≡ false → IsPrefix (taker.taken ++ packet ∷ []) giver.given
IsNext taker giver what = Unit {0}

abbrev pub IsInOrder : Ends → ApartEvent → Type 0
IsInOrder ends e = IsNext (if e.first then ends.near else ends.far) (if e.first then ends.far else ends.near) e.what

abbrev pub AreInOrder : Bool → Ranges → List ApartEvent → Ends → Type 0
AreInOrder long_data channels [] ends = Unit {0}
AreInOrder long_data channels (e ∷ events) ends = IsInOrder ends e
    × AreInOrder long_data channels events (apart_happens long_data channels ends e)

-- ---- the same over links

-- what comes is then the packet in front of those in flight
abbrev pub over_links : ApartEvent → EndMove
over_links e = record { first = e.first; what = as_move e.what }

abbrev pub all_over_links : List ApartEvent → List EndMove
all_over_links [] = []
all_over_links (e ∷ events) = over_links e ∷ all_over_links events

-- two layers over links: in flight is what the one gave and the other didn't take
abbrev pub as_world : Ends → TwoLayers
as_world ends = record {
  near = ends.near;
  far = ends.far;
  out = drop (length ends.far.taken) ends.near.given;
  back = drop (length ends.near.taken) ends.far.given;
}

-- whatever happened to two ends in order
abbrev pub AlwaysApart : (TwoLayers → Type 0) → Bool → Ranges → Type 0
AlwaysApart P long_data channels =
    (events : List ApartEvent) → AreInOrder long_data channels events (apart_start long_data channels)
    → P (as_world (apart_run long_data channels events (apart_start long_data channels)))
