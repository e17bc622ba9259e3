-- What holds of two stations and the line between them after every list of events, up to the moment at which an end
-- goes up a second time.
use Rattle.std.specs.Prelude.{◌≡◌, ◌≤◌, ◌⊎◌, ℕ, suc, true, List, [], ◌∷◌, ◌++◌, Option, Some, None, Result, Ok, Err}
use Rattle.x25_bits.specs.{declared.role.Role.{Role}, declared.role.Role.TheVariants.{Dte, Dce}}
use Rattle.x25_packet.specs.{Packet.{PlainPacket}, Taking.{read_in}, declared.error.PacketError.{PacketError}}
use Rattle.x25_packet.specs.Spelling.{longest_user}
use Rattle.x25_frame.specs.{Frame.{PlainFrame, info, frmr}, Reading.{frame_of}, declared.error.FrameError.{FrameError}}
use Rattle.x25_handshakes.specs.laws.Names.{Name}
use Rattle.x25_layer.specs.{declared.ranges.Ranges.{Ranges}, laws.Transcript.{Entry, name_of}}
use Rattle.x25_layer.specs.{laws.NameLaw.{first_name, counted}, laws.Quiet.{IsQuietAt, AreNoFaults}}
use Rattle.x25_layer.specs.laws.Law.{HandsUpLawfully, HasAllOf}
use Rattle.x25_station.specs.declared.config.Cfg.{Cfg}
use Rattle.x25_station.specs.Config.{settings_from, config_refusal, longest_packet, link_settings}
use Rattle.x25_station.specs.Command.{Command, Requests, RequestsWith, Connects, Disconnects, Probes, Relinks}
use Rattle.x25_station.specs.{Entry.{StationEntry, link_up, layer_entries, layer_notices}, laws.GivenLaw.{GivesOctets}}
use Rattle.x25_station.specs.{laws.ReadLaw.{RequestsOctets}, Station.{Station}, Station.Told.{is_idle, stretch}}
use Rattle.x25_world.specs.declared.error.WorldError.{WorldError}
use Rattle.x25_world.specs.World.{OnTap, AtEnd, World, Act, Commands, Receives, Event, happens, refusal_of, after, run}
use Rattle.x25_world.specs.World.{AreAccepted, start, connected, established}
use Rattle.x25_line.specs.laws.SessionClaims.{Each}
use Rattle.x25_link.specs.{Station.{LinkSettings, is_up}, Hearing.{other}}

-- ---- an end and its transcript

abbrev pub station_at : Role → World → Station
station_at Dte w = w.near
station_at Dce w = w.far

abbrev pub entry_of_end : Role → Role → StationEntry → List StationEntry
entry_of_end Dte Dte entry = entry ∷ []
entry_of_end Dce Dce entry = entry ∷ []
entry_of_end end at entry = []

abbrev pub entries_at : Role → List AtEnd → List StationEntry
entries_at end [] = []
entries_at end (e ∷ transcript) = entry_of_end end e.at e.entry ++ entries_at end transcript

-- ---- the link is set up once

abbrev pub ups_in : List StationEntry → ℕ
ups_in [] = 0
ups_in (link_up ∷ entries) = suc (ups_in entries)
ups_in (entry ∷ entries) = ups_in entries

-- each end told of LinkUp once
abbrev pub IsUpOnce : Cfg → World → Type 0
IsUpOnce cfg w = (end : Role) → ups_in (entries_at end w.transcript) ≡ 1

-- neither end told of LinkUp a second time
abbrev pub IsUpAtMostOnce : Cfg → World → Type 0
IsUpAtMostOnce cfg w = (end : Role) → ups_in (entries_at end w.transcript) ≤ 1

-- ---- every list of events

-- what users hand down is octets
abbrev pub CommandsOctets : Command → Type 0
CommandsOctets (Requests request) = RequestsOctets request
CommandsOctets (RequestsWith given request) = GivesOctets given × RequestsOctets request
CommandsOctets Connects = Unit {0}
CommandsOctets Disconnects = Unit {0}
CommandsOctets Probes = Unit {0}
CommandsOctets Relinks = Unit {0}

abbrev pub ActsInOctets : Act → Type 0
ActsInOctets (Commands command) = CommandsOctets command
ActsInOctets act = Unit {0}

abbrev pub AreInOctets : List Event → Type 0
AreInOctets events = Each (λ (e : Event). ActsInOctets e.act) events

-- The link, just set up, isn't set up anew: neither end tells of LinkUp again. What is told stays, so that this is so
-- of the beginnings of the list too.
abbrev pub SetsUpOnce : Cfg → List Event → Type 0
SetsUpOnce cfg events = IsUpOnce cfg (run cfg events (established cfg))

-- what holds of each list of events, of commands, deliveries, losses, damage and timer T1, from a link just set up,
-- which isn't set up anew, and of the world that they lead to
abbrev pub Always : (Cfg → List Event → World → Type 0) → Type 0
Always Holds = (cfg : Cfg) → config_refusal cfg ≡ None → (events : List Event) → AreInOctets events
    → SetsUpOnce cfg events → Holds cfg events (run cfg events (established cfg))

-- from where a run begins: both links are down, the DTE has asked that the link be set up, or it was just set up
abbrev pub IsBeginning : Cfg → World → Type 0
IsBeginning cfg begin = (begin ≡ start) ⊎ ((begin ≡ connected cfg) ⊎ (begin ≡ established cfg))

-- what holds after each list of events from there, up to the moment at which an end goes up a second time
abbrev pub UntilSecondUp : (Cfg → World → Type 0) → Type 0
UntilSecondUp Holds = (cfg : Cfg) → config_refusal cfg ≡ None → (begin : World) → IsBeginning cfg begin
    → (events : List Event) → AreInOctets events → IsUpAtMostOnce cfg (run cfg events begin)
    → Holds cfg (run cfg events begin)

-- not a `connect` or `relink` that is accepted
abbrev pub IsNoConnect : Act → Option WorldError → Type 0
IsNoConnect (Commands Connects) None = ⊥
IsNoConnect (Commands Relinks) None = ⊥
IsNoConnect act refusal = Unit {0}

-- no such command of the events is accepted
abbrev pub NoneConnects : Cfg → List Event → World → Type 0
NoneConnects cfg [] w = Unit {0}
NoneConnects cfg (e ∷ events) w = IsNoConnect e.act (refusal_of (happens cfg w e))
    × NoneConnects cfg events (after w (happens cfg w e))

-- by such a list the link isn't set up anew
abbrev pub UpOnceUnlessConnected : Type 0
UpOnceUnlessConnected =
    (cfg : Cfg) → config_refusal cfg ≡ None → (events : List Event) → AreInOctets events
    → NoneConnects cfg events (established cfg) → SetsUpOnce cfg events

-- SABM is there to be delivered to the DCE, and then UA to the DTE
abbrev pub IsSetUp : Type 0
IsSetUp = (cfg : Cfg)
    → AreAccepted cfg (record { at = Dce; act = Receives } ∷ record { at = Dte; act = Receives } ∷ []) (connected cfg)

-- what the users of its channels asked and were told
abbrev pub handed_at : Role → World → List Entry
handed_at end w = layer_entries (entries_at end w.transcript)

-- ---- a beginning, in order, whole

-- On each channel and under each name of a stretch, the messages, the interrupts and the calls that an end hands up are
-- a beginning of those that the other end handed down.
abbrev pub IsLawful : Cfg → World → Type 0
IsLawful cfg w = (end : Role) → HandsUpLawfully (handed_at end w) (handed_at (other end) w)

-- The name of the stretch on a channel of an end whose link is up is the restarts, clears and resets that the
-- transcript tells of. (So no CLEAR ever comes in p1, which would count and tell nothing.)
abbrev pub IsNamed : Cfg → World → Type 0
IsNamed cfg w = (end : Role) (channel : ℕ) → is_up (station_at end w).link.phase ≡ true →
    name_of (station_at end w).layer channel ≡ counted channel first_name (layer_notices (entries_at end w.transcript))

-- ---- .. and all of them

-- Where an end is idle, and the same stretch of a channel is open at both ends, all messages and interrupts of that
-- stretch arrived.
abbrev pub ArrivesAll : Cfg → World → Type 0
ArrivesAll cfg w =
    (end : Role) (channel : ℕ) (name : Name) → is_idle (settings_from end cfg) (station_at end w) ≡ true
    → stretch (settings_from end cfg) (station_at end w) channel ≡ Some name
    → stretch (settings_from (other end) cfg) (station_at (other end) w) channel ≡ Some name
    → HasAllOf channel name (handed_at end w) (handed_at (other end) w)

-- ---- no error of procedure

-- the packet of an I frame is one, and tells of none
abbrev pub IsQuietRead : Ranges → Result PlainPacket PacketError → Type 0
IsQuietRead channels (Ok packet) = IsQuietAt channels packet
IsQuietRead channels (Err e) = ⊥

-- octets on the line are a frame, and no FRMR
abbrev pub IsQuietFrame : Cfg → Result PlainFrame FrameError → Type 0
IsQuietFrame cfg (Ok (frmr f why)) = ⊥
IsQuietFrame cfg (Ok (info ns nr p octets)) = IsQuietRead cfg.channels
    (read_in cfg.wide (longest_user cfg.long_data) octets)
IsQuietFrame cfg (Ok frame) = Unit {0}
IsQuietFrame cfg (Err e) = ⊥

abbrev pub IsQuietTap : Cfg → List OnTap → Type 0
IsQuietTap cfg tap = Each (λ (t : OnTap). IsQuietFrame cfg (frame_of t.from longest_packet t.octets)) tap

-- All that was ever put on the line is frames, and no FRMR; and of their packets no CLEAR and no RESET has another
-- cause than the user's, and no RESTART one that tells of an error. No user was told of a fault.
pub record HasNoProcedureError (cfg : Cfg) (w : World) : Type 0 where
  pub tap : IsQuietTap cfg w.tap
  pub told : (end : Role) → AreNoFaults (layer_notices (entries_at end w.transcript))

-- ---- the settings of a link

abbrev pub link_of : Cfg → Role → LinkSettings
link_of cfg end = link_settings (settings_from end cfg)
