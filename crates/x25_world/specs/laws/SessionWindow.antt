-- The window of the links along a run: one window machine behind two links, which goes on from event to event. From a
-- link just set up, which isn't set up anew, they are two stations; over set-up and re-set-up the two sessions that
-- stand.
use Rattle.std.specs.Prelude.{◌≡◌, ℕ, List, [], ◌∷◌, ◌++◌}
use Rattle.x25_bits.specs.{declared.role.Role.{Role}, declared.role.Role.TheVariants.{Dte, Dce}}
use Rattle.x25_packet.specs.Packet.{restart}
use Rattle.x25_line.specs.{laws.Line.{Line}, laws.StationClaims.{IsBehind}, laws.Sessions.{Sessions, from_nothing}}
use Rattle.x25_line.specs.{laws.Sessions.{AreTimely}, laws.SessionClaims.{Each, octets_of}}
use Rattle.x25_line.specs.laws.WholeNumbers.{machine_run, machine_at_start}
use Rattle.x25_line.specs.laws.SessionNumbers.{Standing, standing_run, standing_at, EachUpStandsWith}
use Rattle.x25_layer.specs.Layer.{restart_cause}
use Rattle.x25_station.specs.declared.config.Cfg.{Cfg}
use Rattle.x25_station.specs.Command.{Requests, RequestsWith, Connects, Disconnects, Probes, Relinks}
use Rattle.x25_world.specs.World.{World, Act, Commands, Receives, Fires, Loses, Damages, Event, happens, after, run}
use Rattle.x25_world.specs.{World.{established}, laws.Claims.{IsBeginning, link_of}}
use Rattle.x25_packet.specs.Spelling as packet
use Rattle.x25_line.specs.laws.Stations as line
use Rattle.x25_line.specs.laws.Sessions as links

-- ---- what an event does to the two links

-- What the links may be asked for in an act of their end: what comes is taken off the line, and packets are put as the
-- layer answers; where a count of the layer is full, the link is abandoned, and what comes is lost. A request may put
-- packets. To relink is to abandon and then to connect. All else is asked for as it is.
abbrev pub Asks : Act → line.Act → Type 0
Asks Receives line.Deliver = Unit {0}
Asks Receives (line.Put octets) = Unit {0}
Asks Receives line.Abandon = Unit {0}
Asks Receives (line.Lose place) = place ≡ 0
Asks (Commands (Requests request)) (line.Put octets) = Unit {0}
Asks (Commands (RequestsWith given request)) (line.Put octets) = Unit {0}
Asks (Commands Connects) line.Connect = Unit {0}
Asks (Commands Disconnects) line.Disconnect = Unit {0}
Asks (Commands Probes) line.Probe = Unit {0}
Asks (Commands Relinks) line.Abandon = Unit {0}
Asks (Commands Relinks) line.Connect = Unit {0}
Asks Fires line.T1 = Unit {0}
Asks (Loses place) (line.Lose same) = same ≡ place
Asks (Damages place octets) (line.Damage same others) = (same ≡ place) × (others ≡ octets)
Asks act asked = ⊥

-- each at the end of the event
abbrev pub at_end : Role → line.Act → line.LinkEvent
at_end Dte act = line.Near act
at_end Dce act = line.Far act

abbrev pub all_at : Role → List line.Act → List line.LinkEvent
all_at end [] = []
all_at end (act ∷ acts) = at_end end act ∷ all_at end acts

-- ---- along a run

-- Two links and their numbers are behind a world. At each event they go on as its end asks, so that a frame keeps the
-- whole numbers that it was given as it was put, and they are behind the world after it, to the last, which is `here`.
abbrev pub GoesOn : {V S : Type 0} → (World → V → S → Type 0) → (List line.LinkEvent → V → V)
    → (List line.LinkEvent → V → S → S) → Cfg → World → List Event → World → V → S → Type 0
GoesOn IsBehindIt runs counts cfg here [] w v s = IsBehindIt here v s
GoesOn IsBehindIt runs counts cfg here (e ∷ events) w v s =
    IsBehindIt w v s × (asked : List line.Act) × Each (Asks e.act) asked
    × GoesOn IsBehindIt runs counts cfg here events (after w (happens cfg w e)) (runs (all_at e.at asked) v)
    (counts (all_at e.at asked) v s)

-- ---- from a link just set up, which isn't set up anew

-- two links and the window machine behind them, with the links and the lines of this world
pub record IsBehindWorld (cfg : Cfg) (w : World) (links : line.Stations) (machine : Line (List ℕ)) : Type 0 where
  pub near : links.near.station ≡ w.near.link
  pub far : links.far.station ≡ w.far.link
  pub out : links.out ≡ w.out
  pub back : links.back ≡ w.back
  pub behind : IsBehind (link_of cfg Dte) (link_of cfg Dce) links machine

abbrev pub GoesAlong : Cfg → World → List Event → World → line.Stations → Line (List ℕ) → Type 0
GoesAlong cfg = GoesOn (IsBehindWorld cfg) (line.run (link_of cfg Dte) (link_of cfg Dce))
    (machine_run (link_of cfg Dte) (link_of cfg Dce)) cfg

-- as the link comes up, each end is handed down RESTART, which is its I frame 0
abbrev pub restart_of : Role → List ℕ
restart_of end = packet.spelling_of (restart (restart_cause end) 0)

abbrev pub both_put : List line.LinkEvent
both_put = line.Far (line.Put (restart_of Dce)) ∷ line.Near (line.Put (restart_of Dte)) ∷ []

abbrev pub links_by : Cfg → List line.LinkEvent → line.Stations
links_by cfg past = line.run (link_of cfg Dte) (link_of cfg Dce) past line.start

abbrev pub machine_by : Cfg → List line.LinkEvent → Line (List ℕ)
machine_by cfg past = machine_run (link_of cfg Dte) (link_of cfg Dce) past line.start
    (machine_at_start (link_of cfg Dte) (link_of cfg Dce))

-- Along these events from a link just set up, to here: the unbounded numbers behind the N(S)s and N(R)s on the line,
-- and the window.
abbrev pub StaysInWindow : Cfg → List Event → World → Type 0
StaysInWindow cfg events here = GoesAlong cfg here events (established cfg) (links_by cfg both_put)
    (machine_by cfg both_put)

-- ---- over set-up and re-set-up

-- A run of two links from both down, with the links and lines of this world, and the sessions that stand by it, with
-- their window machine.
pub record IsRunOfSessions (cfg : Cfg) (w : World) (v : Sessions) (s : Standing) : Type 0 where
  pub events : List line.LinkEvent
  pub timely : AreTimely (link_of cfg Dte) (link_of cfg Dce) events from_nothing
  pub run : links.run (link_of cfg Dte) (link_of cfg Dce) events from_nothing ≡ v
  pub standing : standing_run (link_of cfg Dte) (link_of cfg Dce) events from_nothing
      (standing_at (link_of cfg Dte) (link_of cfg Dce) from_nothing) ≡ s
  pub near : v.near.station ≡ w.near.link
  pub far : v.far.station ≡ w.far.link
  pub out : octets_of v.out ≡ w.out
  pub back : octets_of v.back ≡ w.back

-- At an end whose link is up, the session that stands, and the one of the other end that it meets or is to meet, are
-- two stations of a link that was set up once, and the machine is behind them: the unbounded numbers behind the N(S)s
-- and N(R)s on the line to that end, and the window. Where both ends are up they are those on both lines.
abbrev pub StandsInWindow : Cfg → World → Sessions → Standing → Type 0
StandsInWindow cfg w v s = IsRunOfSessions cfg w v s × EachUpStandsWith (link_of cfg Dte) (link_of cfg Dce) v s

abbrev pub SessionsGoAlong : Cfg → World → List Event → World → Sessions → Standing → Type 0
SessionsGoAlong cfg = GoesOn (StandsInWindow cfg) (links.run (link_of cfg Dte) (link_of cfg Dce))
    (standing_run (link_of cfg Dte) (link_of cfg Dce)) cfg

-- Along these events from there, to here: two links are behind the world where it begins. Whichever are behind a world
-- of the run, with their machine, go on from there to here.
pub record SessionsStayInWindow (cfg : Cfg) (begin : World) (events : List Event) (here : World) : Type 0 where
  pub begins : (v : Sessions) × (s : Standing) × StandsInWindow cfg begin v s
  pub goes_on : (past more : List Event) → past ++ more ≡ events → (v : Sessions) (s : Standing)
      → StandsInWindow cfg (run cfg past begin) v s
      → SessionsGoAlong cfg here more (run cfg past begin) v s

-- it is so along some events that lead here, from where a run begins
abbrev pub UpIsInWindow : Cfg → World → Type 0
UpIsInWindow cfg w = (begin : World) × IsBeginning cfg begin × (events : List Event) × (run cfg events begin ≡ w)
    × SessionsStayInWindow cfg begin events w
