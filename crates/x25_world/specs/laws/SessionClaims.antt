-- What holds of two stations and the line between them after every list of events, over set-up and re-set-up at any
-- moment.
use Rattle.std.specs.Prelude.{◌≡◌, ◌≤◌, ◌<◌, ℕ, true, List, [], Some, None}
use Rattle.x25_link.specs.{Hearing.{other}, Station.{is_up}}
use Rattle.x25_bits.specs.declared.role.Role.{Role}
use Rattle.x25_handshakes.specs.laws.Names.{Name}
use Rattle.x25_layer.specs.{laws.Law.{HandsUpLawfully, HasAllOf}, laws.NameLaw.{first_name, counted}}
use Rattle.x25_layer.specs.laws.Transcript.{name_of}
use Rattle.x25_station.specs.{declared.config.Cfg.{Cfg}, Config.{settings_from, config_refusal}, Entry.{layer_notices}}
use Rattle.x25_station.specs.Station.Told.{is_idle, stretch}
use Rattle.x25_world.specs.World.{World, Event, run}
use Rattle.x25_world.specs.laws.Claims.{AreInOctets, IsBeginning, HasNoProcedureError, station_at}
use Rattle.x25_world.specs.laws.Sessions.{session_at, last_session, handed_in, meets}
use Rattle.x25_world.specs.laws.SessionWindow.{UpIsInWindow}

-- what holds after each list of events, of commands with `connect` at any moment, deliveries, losses, damage and timer
-- T1, from where a run begins
abbrev pub Throughout : (Cfg → World → Type 0) → Type 0
Throughout Holds =
    (cfg : Cfg) → config_refusal cfg ≡ None → (begin : World) → IsBeginning cfg begin → (events : List Event)
    → AreInOctets events → Holds cfg (run cfg events begin)

-- after each such list, of that list too and of where it begins
abbrev pub ThroughoutAlong : (Cfg → World → List Event → World → Type 0) → Type 0
ThroughoutAlong Holds =
    (cfg : Cfg) → config_refusal cfg ≡ None → (begin : World) → IsBeginning cfg begin → (events : List Event)
    → AreInOctets events → Holds cfg begin events (run cfg events begin)

-- Sessions that meet were begun. Of two sessions of an end that each meet one, the later meets the later one. Where a
-- session meets one that meets any, that one meets it.
pub record MeetInStep (cfg : Cfg) (w : World) : Type 0 where
  pub begun : (end : Role) (n m : ℕ) → meets end n w.transcript ≡ Some m → (1 ≤ n) × (n ≤ last_session end w) × (1 ≤ m)
      × (m ≤ last_session (other end) w)
  pub later : (end : Role) (n p m q : ℕ) → meets end n w.transcript ≡ Some m → meets end p w.transcript ≡ Some q → n < p
      → m < q
  pub returned : (end : Role) (n m p : ℕ) → meets end n w.transcript ≡ Some m
      → meets (other end) m w.transcript ≡ Some p → p ≡ n

-- On each channel and under each name of a stretch, the messages, the interrupts and the calls that an end hands up in
-- a session are a beginning of those that the other end handed down in the session that it meets.
abbrev pub AreLawfulWhereMet : Cfg → World → Type 0
AreLawfulWhereMet cfg w = (end : Role) (n m : ℕ) → meets end n w.transcript ≡ Some m
    → HandsUpLawfully (handed_in end n w) (handed_in (other end) m w)

-- in a session that meets none the layer tells its user nothing: no message, no interrupt and no call
abbrev pub UnmetAreToldNothing : Cfg → World → Type 0
UnmetAreToldNothing cfg w = (end : Role) (n : ℕ) → meets end n w.transcript ≡ None
    → layer_notices (session_at end n w.transcript) ≡ []

-- where a stretch is open at both ends, on whichever channels, the two sessions that stand meet each other
abbrev pub OpenStretchesMeet : Cfg → World → Type 0
OpenStretchesMeet cfg w =
    (end : Role) (channel there : ℕ) (name name_there : Name)
    → stretch (settings_from end cfg) (station_at end w) channel ≡ Some name
    → stretch (settings_from (other end) cfg) (station_at (other end) w) there ≡ Some name_there
    → meets end (last_session end w) w.transcript ≡ Some (last_session (other end) w)

-- Where an end is idle, and the same stretch of a channel is open at both ends, all messages and interrupts of that
-- stretch arrived, from the one session that stands to the other.
abbrev pub AllArrive : Cfg → World → Type 0
AllArrive cfg w =
    (end : Role) (channel : ℕ) (name : Name) → is_idle (settings_from end cfg) (station_at end w) ≡ true
    → stretch (settings_from end cfg) (station_at end w) channel ≡ Some name
    → stretch (settings_from (other end) cfg) (station_at (other end) w) channel ≡ Some name
    → HasAllOf channel name (handed_in end (last_session end w) w)
    (handed_in (other end) (last_session (other end) w) w)

-- The name of the stretch on a channel of an end whose link is up is the restarts, clears and resets that the
-- transcript of the session that stands tells of. (So no CLEAR ever comes in p1, which would count and tell nothing.)
abbrev pub AreNamedInSessions : Cfg → World → Type 0
AreNamedInSessions cfg w = (end : Role) (channel : ℕ) → is_up (station_at end w).link.phase ≡ true →
    name_of (station_at end w).layer channel
    ≡ counted channel first_name (layer_notices (session_at end (last_session end w) w.transcript))

-- all of these, no error of procedure, and the window
pub record SessionsKeepOrder (cfg : Cfg) (w : World) : Type 0 where
  pub step : MeetInStep cfg w
  pub lawful : AreLawfulWhereMet cfg w
  pub named : AreNamedInSessions cfg w
  pub arrives : AllArrive cfg w
  pub unmet : UnmetAreToldNothing cfg w
  pub stand : OpenStretchesMeet cfg w
  pub quiet : HasNoProcedureError cfg w
  pub window : UpIsInWindow cfg w
