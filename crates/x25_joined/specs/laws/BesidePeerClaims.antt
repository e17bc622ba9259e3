-- What holds of what a program wrote that is joined to any peer, after all that happens.
use Rattle.std.specs.Prelude.{◌≡◌, ℕ, zero, suc, List, ◌++◌, None}
use Rattle.x25_bits.specs.declared.role.Role.{Role}
use Rattle.x25_station.specs.declared.config.Cfg.{Cfg}
use Rattle.x25_station.specs.Config.{Settings, settings_from, config_refusal}
use Rattle.x25_station.specs.Entry.{StationEntry}
use Rattle.x25_peer.specs.laws.BesideSessions as beside
use Rattle.x25_peer.specs.laws.BesideSessions.{Own, BesideSessions}
use Rattle.x25_peer.specs.laws.BesideSessionClaims.{MeetInStep, MetAreInOrder, IdleHasArrived, UnmetAreToldNothing}
use Rattle.x25_peer.specs.laws.BesideSessionClaims.{EachMeetsLatest, UpIsLatest, FindsNoError}
use Rattle.x25_joined.specs.laws.Joined.{written, entries_in}
use Rattle.x25_joined.specs.laws.BesidePeer.{Program, begun_in, seen, ReachedProgram}

-- the entries of the sessions up to this one, one after another
abbrev pub entries_to : ℕ → (ℕ → Own) → List StationEntry
entries_to zero own = (own 0).entries
entries_to (suc n) own = entries_to n own ++ (own (suc n)).entries

-- A station beside the peer, of whose sessions this is known: it is the one behind the program, the frames on the line
-- are those, and the entries that the program wrote are those of its sessions.
pub record Tells (c : Settings) (p : Program) (own : ℕ → Own) : Type 0 where
  pub reached : beside.ReachedBeside c (seen c own p)
  pub entries : entries_to (begun_in c p.read) own ≡ entries_in (written c p.read)

-- all that `any_peer_keeps_stations_over_sessions` says of a station
pub record KeepsSessions (w : BesideSessions) : Type 0 where
  pub step : MeetInStep w
  pub order : MetAreInOrder w
  pub idle : IdleHasArrived w
  pub unmet : UnmetAreToldNothing w
  pub agree : EachMeetsLatest w
  pub latest : UpIsLatest w
  pub quiet : FindsNoError w

-- what holds of the station that the program tells of, after all that happens
abbrev pub OfProgram : (BesideSessions → Type 0) → Type 0
OfProgram Holds = (end : Role) (cfg : Cfg) → config_refusal cfg ≡ None → (p : Program)
    → ReachedProgram (settings_from end cfg) p
    → (own : ℕ → Own) × Tells (settings_from end cfg) p own × Holds (seen (settings_from end cfg) own p)
