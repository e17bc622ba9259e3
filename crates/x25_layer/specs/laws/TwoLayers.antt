-- Two layers over links that keep order: each end, the packets in flight between them, and what may happen.
-- What a link hands up is a beginning of what was handed down at the other end, since it is in front of what is in
-- flight.
use Rattle.std.specs.Prelude.{ℕ, List, [], ◌∷◌, ◌++◌, option_to_list, Option, Some, None, Bool, true, false}
use Rattle.std.specs.Prelude.{if◌then◌else◌}
use Rattle.x25_bits.specs.declared.role.Role.{Role}
use Rattle.x25_bits.specs.declared.role.Role.TheVariants.{Dte, Dce}
use Rattle.x25_packet.specs.Packet.{PlainPacket}
use Rattle.x25_circuit.specs.Params.{in_brief}
use Rattle.x25_circuit.specs.Circuit.{Circuit}
use Rattle.x25_circuit.specs.Calling.{Request, Calls, Accepts}
use Rattle.x25_layer.specs.declared.ranges.Ranges.{Ranges}
use Rattle.x25_layer.specs.Layer.{LayerSettings, Layer, LayerNotice, on_channel, LayerAnswer, is_channel, layer_answers}
use Rattle.x25_layer.specs.Layer.{rested, goes_up}
use Rattle.x25_layer.specs.Calls.{LayerRequest, Asks, Dials, Restarts, PullsAll, LayerOutcome, Accepted, Declined}
use Rattle.x25_layer.specs.Calls.{free_channel, layer_outcome, LayerPulled, layer_pulled}
use Rattle.x25_layer.specs.laws.Transcript.{Entry, Asked, Told, name_of}

-- an end: its layer; whether its link went down, which is for good; the packets handed down to its link and those that
-- it handed up; what its user was told, and the entries of its transcript that name a channel
pub record End : Type 0 where
  pub layer : Layer
  pub is_out : Bool
  pub given : List PlainPacket
  pub taken : List PlainPacket
  pub told : List LayerNotice
  pub entries : List Entry

-- the end that moves, the other one, what is in flight from the one that moves, and what is in flight to it
pub record TwoLayers : Type 0 where
  pub near : End
  pub far : End
  pub out : List PlainPacket
  pub back : List PlainPacket

-- ---- entries: each stands under the name after the step

-- a call is entered with what it proposes, and an acceptance with the packet sizes and windows in force, by the circuit
-- after it
abbrev pub shown : Circuit → Request → Request
shown x (Calls called calling user proposal) = Calls called calling user (in_brief proposal.params)
shown x (Accepts answer) = Accepts (Some (in_brief x.params))
shown x request = request

abbrev pub entry_of_request : Layer → ℕ → Request → List Entry
entry_of_request l h request = record {
  channel = h;
  name = name_of l h;
  said = Asked
      (shown (l.circuits h) request);
} ∷ []

abbrev pub entry_of_dial : Layer → Option ℕ → Request → List Entry
entry_of_dial l None request = []
entry_of_dial l (Some h) request = entry_of_request l h request

-- of an accepted call, by the layer before and after it
abbrev pub entries_asked : LayerSettings → Layer → Layer → LayerRequest → List Entry
entries_asked c l next (Asks h request) = entry_of_request next h request
entries_asked c l next (Dials called calling user proposal) = entry_of_dial next
    (free_channel c.circuit.role l.circuits c.channels) (Calls called calling user proposal)
entries_asked c l next (Restarts cause diagnostic) = []
entries_asked c l next PullsAll = []

abbrev pub entries_told : Layer → List LayerNotice → List Entry
entries_told l [] = []
entries_told l (on_channel h notice ∷ notices) = record { channel = h; name = name_of l h; said = Told notice }
    ∷ entries_told l notices
entries_told l (other ∷ notices) = entries_told l notices

-- ---- events

pub data Move : Type 0 where
  -- a call of the user; the test says whether 256 packets wait
  Requests : (is_full : Bool) → (request : LayerRequest) → Move
  -- the next data packet of a channel is put, where there is one
  Pulls : (channel : ℕ) → Move
  -- the packet in front of those in flight to the end is handed up
  HandsUp : Move
  -- the link goes down
  GoesDown : Move

pub record EndMove : Type 0 where
  pub first : Bool
  pub what : Move

-- the end that moves has gone to this layer, has put these packets, and has entered these
abbrev pub puts : TwoLayers → Layer → List PlainPacket → List Entry → TwoLayers
puts w l packets entries = record {
  near = record {
    layer = l;
    is_out = false;
    given = w.near.given
        ++ packets;
    taken = w.near.taken;
    told = w.near.told;
    entries = w.near.entries ++ entries;
  };
  far = w.far;
  out = w.out ++ packets;
  back = w.back;
}

abbrev pub requested : LayerSettings → TwoLayers → LayerRequest → LayerOutcome → TwoLayers
requested c w request (Accepted next packet) = puts w next (option_to_list packet)
    (entries_asked c w.near.layer next request)
requested c w request (Declined error) = w

abbrev pub pulled_in : TwoLayers → LayerPulled → TwoLayers
pulled_in w p = puts w p.next (option_to_list p.packet) []

-- the packet was handed up, and this is in flight behind it
abbrev pub answered : TwoLayers → PlainPacket → List PlainPacket → LayerAnswer → TwoLayers
answered w packet back a = record {
  near = record {
    layer = a.next;
    is_out = false;
    given = w.near.given ++ option_to_list a.owed;
    taken = w.near.taken ++ packet ∷ [];
    told = w.near.told ++ a.notices;
    entries = w.near.entries ++ entries_told a.next a.notices;
  };
  far = w.far;
  out = w.out ++ option_to_list a.owed;
  back = back;
}

abbrev pub handed_up : LayerSettings → TwoLayers → List PlainPacket → TwoLayers
handed_up c w [] = w
handed_up c w (packet ∷ back) = answered w packet back (layer_answers c w.near.layer packet)

-- everything is dropped but the counts
abbrev pub goes_down : TwoLayers → TwoLayers
goes_down w = record {
  near = record {
    layer = rested w.near.layer;
    is_out = true;
    given = w.near.given;
    taken = w.near.taken;
    told = w.near.told;
    entries = w.near.entries;
  };
  far = w.far;
  out = w.out;
  back = w.back;
}

-- an end that is out does nothing more
abbrev pub moves_in : LayerSettings → TwoLayers → Bool → Move → TwoLayers
moves_in c w true move = w
moves_in c w false (Requests is_full request) = requested c w request (layer_outcome c is_full w.near.layer request)
moves_in c w false (Pulls h) = if is_channel c.channels h then pulled_in w (layer_pulled c w.near.layer h) else w
moves_in c w false HandsUp = handed_up c w w.back
moves_in c w false GoesDown = goes_down w

abbrev pub moves : LayerSettings → TwoLayers → Move → TwoLayers
moves c w move = moves_in c w w.near.is_out move

abbrev pub turned : TwoLayers → TwoLayers
turned w = record { near = w.far; far = w.near; out = w.back; back = w.out }

-- The settings of an end, by its role. Whether the user data of a CALL may be long, and the channels with the longest
-- message, are the same at both ends.
abbrev pub settings_of : Role → Bool → Ranges → LayerSettings
settings_of role long_data channels = record {
  channels = channels;
  circuit = record { role = role; long_data = long_data; longest = channels.message };
}

-- the first end is the DTE
abbrev pub happens : Bool → Ranges → TwoLayers → EndMove → TwoLayers
happens long_data channels w e =
    if e.first then moves (settings_of Dte long_data channels) w e.what
    else turned (moves (settings_of Dce long_data channels) (turned w) e.what)

abbrev pub run : Bool → Ranges → List EndMove → TwoLayers → TwoLayers
run long_data channels [] w = w
run long_data channels (e ∷ events) w = run long_data channels events (happens long_data channels w e)

-- both links have come up, and each end has sent its RESTART
abbrev pub started : LayerAnswer → End
started a = record {
  layer = a.next;
  is_out = false;
  given = option_to_list a.owed;
  taken = [];
  told = [];
  entries = [];
}

abbrev pub start : Bool → Ranges → TwoLayers
start long_data channels =
    let near = started (goes_up (settings_of Dte long_data channels)) in
    let far = started (goes_up (settings_of Dce long_data channels)) in
    record { near = near; far = far; out = near.given; back = far.given }
