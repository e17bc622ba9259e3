-- What holds of what a program with a clock wrote that is joined to any peer, after all that happens.
use Rattle.std.specs.Prelude.{◌≡◌, ℕ, None}
use Rattle.x25_bits.specs.declared.role.Role.{Role}
use Rattle.x25_clock.specs.declared.times.Times.{Times}
use Rattle.x25_station.specs.declared.config.Cfg.{Cfg}
use Rattle.x25_station.specs.Config.{Settings, settings_from, config_refusal}
use Rattle.x25_peer.specs.laws.BesideSessions as beside
use Rattle.x25_peer.specs.laws.BesideSessions.{Own, BesideSessions}
use Rattle.x25_joined.specs.laws.BesidePeer.{Program}
use Rattle.x25_joined.specs.laws.BesidePeerClaims.{entries_to}
use Rattle.x25_joined.specs.laws.Played.{timed_written, timed_entries}
use Rattle.x25_joined.specs.laws.TimedPeer.{begun_in, seen, ReachedTimed}

-- A station beside the peer, of whose sessions this is known: it is the one behind the program, the frames on the line
-- are those, and the entries that the program wrote are those of its sessions.
pub record TellsTimed (c : Settings) (times : Times) (p : Program) (own : ℕ → Own) : Type 0 where
  pub reached : beside.ReachedBeside c (seen c times own p)
  pub entries : entries_to (begun_in c times p.read) own ≡ timed_entries (timed_written c times p.read)

-- what holds of the station that the program tells of, after all that happens
abbrev pub OfTimedProgram : (BesideSessions → Type 0) → Type 0
OfTimedProgram Holds = (end : Role) (cfg : Cfg) (times : Times) → config_refusal cfg ≡ None → (p : Program)
    → ReachedTimed (settings_from end cfg) times p
    → (own : ℕ → Own) × TellsTimed (settings_from end cfg) times p own
    × Holds (seen (settings_from end cfg) times own p)
