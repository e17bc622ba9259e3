-- The names that many of these proofs cite, passed on from one place.
pub use Rattle.std.proofs.Common.{Option, nat_le, nat_lt, not, ◌%◌, ◌&&◌, ◌+◌, ◌||◌, arith, inr, length, ap₂}
pub use Rattle.std.proofs.Common.{ap, refl, sym, ℕ, ◌≡◌, [], ◌∙◌, ◌∷◌, Bool, List, Some, false, subst, true, ◌==◌, if◌then◌else◌, inl, ◌++◌, ◌-◌, ◌≤◌, None}
pub use Rattle.std.proofs.lemmas.{Bool.{eqb-true, eq-eqb, le-leb, and_from, leb-true}, List.{append-nil, length_push}, Option.{cond_some, none-some}}
pub use Rattle.x25_bits.specs.declared.role.{Role.{Role}, Role.TheVariants.{Dce, Dte}}
pub use Rattle.x25_circuit.specs.{Message.{Last, More, Piece}, Notice.{CallRequest}}
pub use Rattle.x25_handshakes.specs.laws.PeerCalls.{PeerCall, AcceptsCall, CallDeed, InTransfer, PlacesCall, call_taking, does_call}
pub use Rattle.x25_handshakes.specs.laws.PeerChannel.{Clears, InCall, channel_packet_of, channel_taking, does_channel}
pub use Rattle.x25_handshakes.specs.laws.PeerStretch.{PeerStretch, Confirms, Deed, Interrupts, Says}
pub use Rattle.x25_handshakes.specs.laws.{Calls.{Crossed, Offered, Stage, Talking, Unused, Waiting}, Handshake.{At, Left, Live, Side}}
pub use Rattle.x25_line.specs.laws.{Ends.{Ends, Letter, near_now}, Peer.{Peer}, Said.{Carried, Said}}
pub use Rattle.x25_possible.specs.{Channel.{sends_as, takes}, declared.phase.Limits.{Limits}, declared.phase.Phase.{Phase}, laws.Possible.{IsIn, Item, Stands}}
pub use Rattle.x25_possible_links.specs.declared.{frame.Frame.{Frame}, stand.Stand.{Stand}, stand.Stand.TheVariants.{Up}}
pub use Rattle.x25_possible_links.specs.laws.Link.{Owes, may_acknowledge, may_number}
pub use Rattle.x25_possible_peers.specs.laws.LinkPeers.{AreShown, differs, frames_of, numbers_of, stand_of}
pub use Rattle.x25_possible_peers.specs.laws.Peers.{item_of, IsOfRole, IsTakenSo, limits, phase_of, stage_phase, talk_of, transfer_phase}
