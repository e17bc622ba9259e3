-- A program `x25 station`, joined by a line to any peer, link and packet layer, that keeps the rules of docs/PEER.md,
-- set up and set up again by either end at any moment (profile). What the program writes is told by `piped`, of all
-- that it read; what may happen at the peer and on the line is that of `BesideSessions` of `x25_peer`.
use Rattle.std.specs.Prelude.{◌≡◌, ℕ, List, [], ◌∷◌, ◌++◌, Option, Some, codes}
use Rattle.x25_bits.specs.Role.{other}
use Rattle.x25_link.specs.declared.phase.Phase.TheVariants.{Waiting}
use Rattle.x25_line.specs.laws.Peer.{fresh_peer}
use Rattle.x25_line.specs.laws.Sessions.{Entry, Meeting}
use Rattle.x25_line.specs.laws.PeerSessions.{PeerEnd, Out, IsDue}
use Rattle.x25_station.specs.Config.{Settings, link_settings}
use Rattle.x25_station.specs.laws.TimerLaw.{StationEvent, Fires}
use Rattle.x25_io.specs.Lines.{IsOpen}
use Rattle.x25_pipe.specs.Pipe.{sends, saying_line, event_in}
use Rattle.x25_world.specs.laws.Claims.{ups_in}
use Rattle.x25_world.specs.laws.TapOctets.{AreOfFrame}
use Rattle.x25_peer.specs.laws.BesideSessions as beside
use Rattle.x25_peer.specs.laws.BesideSessions.{Own, Theirs, BesideSessions, own_anew, theirs_anew, links, met_by}
use Rattle.x25_joined.specs.laws.Joined.{written, written_more, station_of, entries_in, frames_in, IsNoFrame}

-- All that the program read; the peer; the frames on the line from the program and on the line to it, front first; and
-- who heard whom, the latest first.
pub record Program : Type 0 where
  pub read : List ℕ
  pub peer : PeerEnd
  pub theirs : ℕ → Theirs
  pub out : List Entry
  pub back : List Entry
  pub met : List Meeting

-- nothing was read yet, and nothing was set up
abbrev pub nothing_read : Program
nothing_read = record {
  read = [];
  peer = record { stand = Out; begun = 0; of_session = λ n. fresh_peer };
  theirs = λ n. theirs_anew;
  out = [];
  back = [];
  met = [];
}

-- how many sessions its station began: how often it wrote `linkup`
abbrev pub begun_in : Settings → List ℕ → ℕ
begun_in c read = ups_in (entries_in (written c read))

-- the station behind the program, the peer and the line, where this is known of each session of the station
abbrev pub seen : Settings → (ℕ → Own) → Program → BesideSessions
seen c own p = record {
  near = station_of c p.read;
  begun = begun_in c p.read;
  own = own;
  peer = p.peer;
  theirs = p.theirs;
  out = p.out;
  back = p.back;
  met = p.met;
}

-- with nothing known of them, for what looks at none
abbrev pub bare : Settings → Program → BesideSessions
bare c p = seen c (λ n. own_anew c) p

abbrev pub sent_then : ℕ → List (List ℕ) → List Entry
sent_then session [] = []
sent_then session (octets ∷ frames) = record { session = session; octets = octets } ∷ sent_then session frames

-- it reads more, and the frames that it then writes go on the line
abbrev pub reads : Settings → Program → List ℕ → List Entry → List Meeting → Program
reads c p more back met = record p {
  read = p.read ++ more;
  out = p.out ++ sent_then (begun_in c (p.read ++ more)) (frames_in (written_more c p.read more));
  back = back;
  met = met;
}

-- ---- what may happen

-- timer T1 of a station that awaits UA runs out where it is due
abbrev pub IsInTime : Settings → Program → Option StationEvent → Type 0
IsInTime c p (Some Fires) =
    (station_of c p.read).link.phase ≡ Waiting → IsDue (link_settings c) (links (bare c p))
IsInTime c p event = Unit {0}

pub record IsOfUser (c : Settings) (p : Program) (line : List ℕ) : Type 0 where
  pub is_line : IsOpen line
  pub is_no_frame : IsNoFrame (event_in c.wide c.role line)
  pub in_time : IsInTime c p (event_in c.wide c.role line)

pub data HappensToProgram (c : Settings) (p : Program) : Program → Type 0 where
  -- a line comes of the user, or of one who has a clock
  Reads : (line : List ℕ) → IsOfUser c p line → HappensToProgram c p (reads c p (line ++ codes "\n") p.back p.met)
  -- the front frame comes, as a line of a trace
  Takes : (e : Entry) (rest : List Entry) → p.back ≡ e ∷ rest → AreOfFrame e.octets
      → HappensToProgram c p (reads c p (saying_line (other c.role) (sends e.octets)) rest (met_by c (bare c p) e))
  -- the peer does something, or the line loses or damages a frame
  Elsewhere : (v : BesideSessions) → beside.Elsewhere c (bare c p) v
      → HappensToProgram c p (record p { peer = v.peer; theirs = v.theirs; out = v.out; back = v.back; met = v.met })

-- what is reached, event by event
pub data ReachedProgram (c : Settings) : Program → Type 0 where
  at_start : ReachedProgram c nothing_read
  goes_on : (p q : Program) → ReachedProgram c p → HappensToProgram c p q → ReachedProgram c q
