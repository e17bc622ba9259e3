-- The names that many of these proofs cite, passed on from one place.
pub use Rattle.std.proofs.Common.{true, ◌≡◌, List, ap, refl, subst, ℕ, ◌∙◌, [], sym, Bool, false, ◌++◌, if◌then◌else◌, ◌∷◌, ◌≤◌, arith, length, ◌==◌, None}
pub use Rattle.std.proofs.{Common.{Some, append-nil, append_assoc, drop, inl, inr, Ok, Option, suc, ap₂, eq-eqb, ◌⊎◌}, lemmas.Bool.{eqb-true}}
pub use Rattle.std.specs.Prelude.{remove}
pub use Rattle.x25_frame.specs.Frame.{PlainFrame}
pub use Rattle.x25_given.specs.Given.{PlainGiven}
pub use Rattle.x25_handshakes.specs.laws.{Handshake.{At}, PeerLayer.{PeerChannels}}
pub use Rattle.x25_layer.specs.{Calls.{LayerRequest}, laws.TwoLayers.{End, TwoLayers}}
pub use Rattle.x25_line.proofs.ends.Meetings.{all_some}
pub use Rattle.x25_line.specs.laws.{Peer.{Peer}, PeerSessions.{both_ends, PeerEnd, PeerSessions, ReachedInSessions, now, with_peer}, Said.{Said, Tells}}
pub use Rattle.x25_line.specs.laws.{SessionClaims.{SomeMet}, Sessions.{Meeting, Entry, Sessions, extended, acts, begun_by, meets}}
pub use Rattle.x25_link.specs.declared.error.LinkError.{LinkError}
pub use Rattle.x25_link.specs.{Hearing.{LinkStep}, Link.{timer_step, connect_step}, Station.{LinkSettings, is_up, LinkStation}}
pub use Rattle.x25_packet.specs.Packet.{PlainPacket}
pub use Rattle.x25_peer.specs.laws.BesideSessions.{BesideSessions, links, ReadAs, Own, Theirs, in_session}
pub use Rattle.x25_station.specs.{Config.{Settings, link_settings, layer_settings}, Entry.{StationEntry, layer_entries, layer_notices}, Station.{Station}}
pub use Rattle.x25_station.specs.{Step.{Step, follows, led_by}, laws.KeepLaw.{IsKept}, laws.ReadLaw.{IsReachedByOctets, AreReadable}}
