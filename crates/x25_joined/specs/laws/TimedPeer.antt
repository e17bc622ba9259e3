-- A program `x25 station` with a clock, joined by a line to any peer, link and packet layer, that keeps the rules of
-- docs/PEER.md (profile), as `BesidePeer` of `x25_joined` has one without a clock.
use Rattle.std.specs.Prelude.{◌≡◌, ℕ, List, ◌∷◌, ◌++◌, length, drop, Option, Some, codes}
use Rattle.x25_bits.specs.Role.{other}
use Rattle.x25_link.specs.declared.phase.Phase.TheVariants.{Waiting}
use Rattle.x25_line.specs.laws.Sessions.{Entry, Meeting}
use Rattle.x25_line.specs.laws.PeerSessions.{IsDue}
use Rattle.x25_station.specs.Config.{Settings, link_settings}
use Rattle.x25_station.specs.laws.TimerLaw.{StationEvent, Fires}
use Rattle.x25_clock.specs.declared.times.Times.{Times}
use Rattle.x25_io.specs.Lines.{IsOpen}
use Rattle.x25_pipe.specs.Pipe.{sends, saying_line}
use Rattle.x25_pipe.specs.Timed.{timed}
use Rattle.x25_world.specs.laws.Claims.{ups_in}
use Rattle.x25_world.specs.laws.TapOctets.{AreOfFrame}
use Rattle.x25_peer.specs.laws.BesideSessions as beside
use Rattle.x25_peer.specs.laws.BesideSessions.{Own, BesideSessions, own_anew, links, met_by}
use Rattle.x25_joined.specs.laws.BesidePeer.{Program, nothing_read, sent_then}
use Rattle.x25_joined.specs.laws.Joined.{IsNoFrame}
use Rattle.x25_joined.specs.laws.Played.{AreSaid, TimedSaying, line_plays, first_asked, timed_written, timed_station}
use Rattle.x25_joined.specs.laws.Played.{timed_entries, timed_frames}

-- what it says when it reads more
abbrev pub timed_more : Settings → Times → List ℕ → List ℕ → List TimedSaying
timed_more c times input more = drop (length (timed_written c times input)) (timed_written c times (input ++ more))

-- how often it wrote `linkup`
abbrev pub begun_in : Settings → Times → List ℕ → ℕ
begun_in c times read = ups_in (timed_entries (timed_written c times read))

abbrev pub seen : Settings → Times → (ℕ → Own) → Program → BesideSessions
seen c times own p = record {
  near = timed_station c times p.read;
  begun = begun_in c times p.read;
  own = own;
  peer = p.peer;
  theirs = p.theirs;
  out = p.out;
  back = p.back;
  met = p.met;
}

abbrev pub bare : Settings → Times → Program → BesideSessions
bare c times p = seen c times (λ n. own_anew c) p

-- it reads more, and the frames that it then writes go on the line
abbrev pub reads : Settings → Times → Program → List ℕ → List Entry → List Meeting → Program
reads c times p more back met = record p {
  read = p.read ++ more;
  out = p.out ++ sent_then (begun_in c times (p.read ++ more)) (timed_frames (timed_more c times p.read more));
  back = back;
  met = met;
}

-- the first event that a line of the user, or a time, has happen: of what is due T1 is the first
abbrev pub first_of : Settings → Times → Program → List ℕ → Option StationEvent
first_of c times p line = first_asked c (line_plays c times line (timed c times p.read).next)

-- timer T1 of a station that awaits UA runs out where it is due
abbrev pub IsInTime : Settings → Times → Program → Option StationEvent → Type 0
IsInTime c times p (Some Fires) =
    (timed_station c times p.read).link.phase ≡ Waiting → IsDue (link_settings c) (links (bare c times p))
IsInTime c times p event = Unit {0}

pub record IsOfUser (c : Settings) (times : Times) (p : Program) (line : List ℕ) : Type 0 where
  pub is_line : IsOpen line
  pub is_no_frame : IsNoFrame (first_of c times p line)
  pub in_time : IsInTime c times p (first_of c times p line)
  pub said : AreSaid c (line_plays c times line (timed c times p.read).next)

pub data HappensToTimed (c : Settings) (times : Times) (p : Program) : Program → Type 0 where
  -- a line comes of the user, or says the time
  Reads : (line : List ℕ) → IsOfUser c times p line
      → HappensToTimed c times p (reads c times p (line ++ codes "\n") p.back p.met)
  -- the front frame comes, as a line of a trace
  Takes : (e : Entry) (rest : List Entry) → p.back ≡ e ∷ rest → AreOfFrame e.octets
      → HappensToTimed c times p
      (reads c times p (saying_line (other c.role) (sends e.octets)) rest (met_by c (bare c times p) e))
  -- the peer does something, or the line loses or damages a frame
  Elsewhere : (v : BesideSessions) → beside.Elsewhere c (bare c times p) v
      → HappensToTimed c times p
      (record p { peer = v.peer; theirs = v.theirs; out = v.out; back = v.back; met = v.met })

-- what is reached, event by event
pub data ReachedTimed (c : Settings) (times : Times) : Program → Type 0 where
  at_start : ReachedTimed c times nothing_read
  goes_on : (p q : Program) → ReachedTimed c times p → HappensToTimed c times p q → ReachedTimed c times q
