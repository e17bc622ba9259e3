-- Worked rows: an end that acknowledges late, and two whole layers.
use Rattle.std.specs.Prelude.{◌≡◌, false, true, [], ◌∷◌, ◌++◌}
use Rattle.x25_bits.specs.declared.role.Role.{Role}
use Rattle.x25_bits.specs.declared.role.Role.TheVariants.{Dte, Dce}
use Rattle.x25_packet.specs.Marks.{with_q}
use Rattle.x25_circuit.specs.{Message.{Last}, Params.{default_params}, Notice.{CallRequest}}
use Rattle.x25_handshakes.specs.{laws.Handshake.{state_of, swapped}, laws.Stretch.{Packet, Data, Call, Accept}}
use Rattle.x25_handshakes.specs.{laws.PeerStretch.{Sends, Says}, laws.Layers.{LayerPacket, On, Restart, RestartConf}}
use Rattle.x25_handshakes.specs.laws.PeerTransfer.{InStretch, TransferDeed, does_transfer, transfer_packet_of}
use Rattle.x25_handshakes.specs.{laws.PeerTransfer.{transfer_taking}, laws.TwoPeers.{TwoEnds, start, IsReached}}
use Rattle.x25_handshakes.specs.{laws.PeerCalls.{PlacesCall, AcceptsCall, InTransfer}, laws.PeerChannel.{InCall}}
use Rattle.x25_handshakes.specs.laws.PeerLayer.{LayerDeed, InChannel, Restarts, does_layer, layer_packet_of}
use Rattle.x25_handshakes.specs.laws.PeerLayer.{layer_taking}
use Rattle.x25_handshakes.specs.{laws.PeerClaims.{peer_transfer_of}, laws.Terms.{Terms}}
use Rattle.x25_handshakes.specs.laws.TwoLayers as layers

abbrev pub terms : Terms
terms = record { window = 1; size = 128; longest = 1 }

-- the near end sends a packet, or takes the only one on the way to it
abbrev pub does : TwoEnds → TransferDeed → TwoEnds
does w deed = record w {
  near = does_transfer w.near.epoch w.near.side deed;
  out = w.out ++ transfer_packet_of w.near.side deed ∷ [];
}

abbrev pub hears : TwoEnds → Packet → TwoEnds
hears w p = record w {
  near = (transfer_taking w.near.epoch w.near.side p).next;
  out = w.out ++ (transfer_taking w.near.epoch w.near.side p).out;
  back = [];
}

-- an octet goes
abbrev pub sent : TwoEnds
sent = does start (InStretch (Sends (Last (with_q false) (5 ∷ [])) 0))

-- the far end takes it, says nothing, and sends one of its own, by which it acknowledges none
abbrev pub heard : TwoEnds
heard = swapped (hears (swapped sent) (Data 0 0 (Last (with_q false) (5 ∷ []))))

abbrev pub answered : TwoEnds
answered = swapped (does (swapped heard) (InStretch (Sends (Last (with_q false) (7 ∷ [])) 0)))

-- the near end takes it, and only then the far one acknowledges
abbrev pub taken : TwoEnds
taken = hears answered (Data 0 0 (Last (with_q false) (7 ∷ [])))

abbrev pub acknowledged : TwoEnds
acknowledged = swapped (does (swapped taken) (InStretch (Says true 1)))

pub record LatePeerMoves : Type 0 where
  pub reached : IsReached terms terms acknowledged
  pub up : (state_of acknowledged.near.side).taken ≡ Last (with_q false) (7 ∷ []) ∷ []
  pub there : (state_of acknowledged.far.side).taken ≡ Last (with_q false) (5 ∷ []) ∷ []
  pub before : (state_of taken.far.side).told ≡ 0

-- ---- two layers: the near one, a DTE, restarts, the far one confirms and calls, the near one accepts, a message comes

abbrev pub proposal : CallRequest
proposal = record { called = 1 ∷ []; calling = 2 ∷ []; user = []; params = default_params }

abbrev pub layer_does : layers.TwoEnds → LayerDeed → layers.TwoEnds
layer_does w deed = record w {
  near = does_layer w.near.epoch w.near.side deed;
  out = w.out ++ layer_packet_of w.near.side deed ∷ [];
}

abbrev pub layer_hears : Role → layers.TwoEnds → LayerPacket → layers.TwoEnds
layer_hears r w p = record w {
  near = (layer_taking r w.near.epoch w.near.side p).next;
  out = w.out ++ (layer_taking r w.near.epoch w.near.side p).out;
  back = [];
}

abbrev pub far_does : layers.TwoEnds → LayerDeed → layers.TwoEnds
far_does w deed = swapped (layer_does (swapped w) deed)

abbrev pub far_hears : layers.TwoEnds → LayerPacket → layers.TwoEnds
far_hears w p = swapped (layer_hears Dce (swapped w) p)

abbrev pub restarted : layers.TwoEnds
restarted = layer_hears Dte (far_hears (layer_does layers.start Restarts) Restart) RestartConf

abbrev pub called : layers.TwoEnds
called = layer_hears Dte (far_does restarted (InChannel 1 (InCall (PlacesCall proposal)))) (On 1 (Call proposal))

abbrev pub accepted : layers.TwoEnds
accepted = far_hears (layer_does called (InChannel 1 (InCall (AcceptsCall [] 1)))) (On 1 (Accept [] 1))

abbrev pub message : LayerDeed
message = InChannel 1 (InCall (InTransfer (InStretch (Sends (Last (with_q false) (7 ∷ [])) 0))))

abbrev pub came : layers.TwoEnds
came = layer_hears Dte (far_does accepted message) (On 1 (Data 0 0 (Last (with_q false) (7 ∷ []))))

pub record PeerLayerMoves : Type 0 where
  pub reached : layers.IsReached Dte came
  pub calls : (state_of (state_of came.near.side 1).side).indicated ≡ proposal ∷ []
  pub up : (state_of (peer_transfer_of (state_of (state_of came.near.side 1).side).stage).side).taken
      ≡ Last (with_q false) (7 ∷ []) ∷ []
