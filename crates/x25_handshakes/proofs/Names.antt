-- The names that many of these proofs cite, passed on from one place.
pub use Rattle.std.proofs.Common.{List, ◌≡◌, [], ℕ, refl, ◌∷◌, ◌++◌, sym, subst, true, None, ap, ◌∙◌, false, Bool, arith, Some, Option, ◌≤◌, if◌then◌else◌}
pub use Rattle.std.proofs.Common.{length, inl, inr, ◌+◌, ◌%◌, append_assoc, ◌==◌, suc, nat_le, nat_lt, ◌<◌, ◌⊎◌, eq-eqb, length-append}
pub use Rattle.std.proofs.lemmas.{Bool.{cond_both, eqb-true, true≢false}, List.{append-nil, length_push}, Option.{none-some}}
pub use Rattle.x25_bits.specs.declared.role.{Role.{Role}, Role.TheVariants.{Dte, Dce}}
pub use Rattle.x25_circuit.specs.Message.{no_part, Piece, joining, carried, AreSound, carried_from, wholes, Message, cut, Last, piece_ground}
pub use Rattle.x25_circuit.specs.{Notice.{CallRequest}, Params.{may_propose, may_answer, said_in, Proposal, field_for}, declared.params.Params.{Params}}
pub use Rattle.x25_handshakes.specs.laws.Calls.{Stage}
pub use Rattle.x25_handshakes.specs.laws.Calls.{Talking, Waiting, Crossed, Unused, Offered}
pub use Rattle.x25_handshakes.specs.laws.Handshake.{At, Live, Side, Left, Inner, live, state_of, Confirm, Mark, Request, PeerStep}
pub use Rattle.x25_handshakes.specs.laws.Layers.{LayerPacket, On, Restart, RestartConf, addressed}
pub use Rattle.x25_handshakes.specs.laws.PeerCalls.{PeerCall, call_packet_of, call_taking, does_call, fresh_peer_call}
pub use Rattle.x25_handshakes.specs.laws.PeerTransfer.{transfer_taking, InStretch, MayDoTransfer, TransferDeed, does_transfer, fresh_peer_transfer}
pub use Rattle.x25_handshakes.specs.laws.Stretch.{Packet, Accept, Call, Clear, ClearConf, Data, IntConf, Int, Rnr, Rr}
pub use Rattle.x25_handshakes.specs.laws.Stretch.{Reset, ResetConf}
pub use Rattle.x25_handshakes.specs.laws.{Histories.{IsPrefix}, LawsBelow.{Laws}}
pub use Rattle.x25_handshakes.specs.laws.{PeerChannel.{channel_packet_of, channel_taking, does_channel, InCall}, PeerLayer.{InChannel}, PeerLayers.{other_role}}
pub use Rattle.x25_handshakes.specs.laws.{PeerStretch.{PeerStretch, Says, Sends, Deed, does, fresh_peer, packet_of, taking}, PeerTransfer.{transfer_packet_of}}
pub use Rattle.x25_handshakes.specs.laws.{Terms.{Terms, calling_terms, called_terms}}
pub use Rattle.x25_packet.specs.declared.marks.Marks.{Marks}
pub use Rattle.x25_window.specs.code.Modulo.{resolved}
