-- Two programs `x25 station`, one at each end, joined by a line that keeps order and may lose or visibly damage any
-- frame (profile). What a program writes is told by `piped`, of all that it read. Each act is of the near end, or of
-- the line to it. The far end's acts are those of the two ends swapped.
use Rattle.std.specs.Prelude.{◌≡◌, ℕ, Bool, true, false, ◌&&◌, ◌||◌, List, [], ◌∷◌, ◌++◌, length, drop}
use Rattle.std.specs.Prelude.{Option, Some, codes}
use Rattle.x25_bits.specs.Role.{other}
use Rattle.x25_bits.specs.declared.role.Role.{Role}
use Rattle.x25_bits.specs.declared.role.Role.TheVariants.{Dte, Dce}
use Rattle.x25_link.specs.Station.{awaits_ua}
use Rattle.x25_line.specs.{laws.Stations.{is_visible}, laws.Loss.{remove, replaced}}
use Rattle.x25_station.specs.declared.config.Cfg.{Cfg}
use Rattle.x25_station.specs.Entry.{StationEntry}
use Rattle.x25_station.specs.Config.{Settings, settings_from}
use Rattle.x25_station.specs.Station.{Station}
use Rattle.x25_station.specs.laws.TimerLaw.{StationEvent, Comes, Fires}
use Rattle.x25_io.specs.Lines.{IsOpen}
use Rattle.x25_pipe.specs.Pipe.{Saying, enters, sends, reads_nothing, refuses, marks, saying_line, event_in, piped}
use Rattle.x25_world.specs.SetUp.{carries}
use Rattle.x25_world.specs.declared.set_up.SetUpFrame.TheVariants.{Sabm, Ua}
use Rattle.x25_world.specs.laws.TapOctets.{AreOfFrame}

-- ---- what a program writes

-- of all that it read; as text it is `text_of`
abbrev pub written : Settings → List ℕ → List Saying
written c input = (piped c input).sayings

-- when it reads more
abbrev pub written_more : Settings → List ℕ → List ℕ → List Saying
written_more c input more = drop (length (written c input)) (written c (input ++ more))

-- the station behind it
abbrev pub station_of : Settings → List ℕ → Station
station_of c input = (piped c input).next

-- the entries among what is written
abbrev pub entries_in : List Saying → List StationEntry
entries_in [] = []
entries_in (enters entry ∷ sayings) = entry ∷ entries_in sayings
entries_in (sends octets ∷ sayings) = entries_in sayings
entries_in (reads_nothing ∷ sayings) = entries_in sayings
entries_in (refuses error ∷ sayings) = entries_in sayings
entries_in (marks mark is_idle is_due ∷ sayings) = entries_in sayings

-- the octets of the frames among it
abbrev pub frames_in : List Saying → List (List ℕ)
frames_in [] = []
frames_in (enters entry ∷ sayings) = frames_in sayings
frames_in (sends octets ∷ sayings) = octets ∷ frames_in sayings
frames_in (reads_nothing ∷ sayings) = frames_in sayings
frames_in (refuses error ∷ sayings) = frames_in sayings
frames_in (marks mark is_idle is_due ∷ sayings) = frames_in sayings

-- ---- two of them, and the line

-- All that the program of the near end and that of the far end read; and the frames on the line from the near end and
-- on the line to it, front first.
pub record Joined : Type 0 where
  pub near : List ℕ
  pub far : List ℕ
  pub out : List (List ℕ)
  pub back : List (List ℕ)

abbrev pub exchanged : Joined → Joined
exchanged j = record { near = j.far; far = j.near; out = j.back; back = j.out }

-- nothing was read yet, and nothing is on the line
abbrev pub nothing_read : Joined
nothing_read = record { near = []; far = []; out = []; back = [] }

-- The near end's program reads more, and the frames that it then writes go on the line; `back` is what is left on the
-- line to it.
abbrev pub reads : Settings → Joined → List (List ℕ) → List ℕ → Joined
reads c j back more = record {
  near = j.near ++ more;
  far = j.far;
  out = j.out ++ frames_in (written_more c j.near more);
  back = back;
}

-- it reads the front frame, as the other program wrote it
abbrev pub takes : Settings → Joined → List (List ℕ) → Joined
takes c j [] = j
takes c j (octets ∷ back) = reads c j back (saying_line (other c.role) (sends octets))

abbrev pub on_line : Joined → List (List ℕ) → Joined
on_line j back = record { near = j.near; far = j.far; out = j.out; back = back }

-- ---- acts

pub data Act : Type 0 where
  -- a line comes of the user, or of one who has a clock
  Reads : (line : List ℕ) → Act
  -- the front frame comes
  Takes : Act
  -- the frame at this place of the line is lost, or other octets come in its place
  Loses : (place : ℕ) → Act
  Damages : (place : ℕ) → (octets : List ℕ) → Act

-- past the end of the line nothing is lost or damaged
abbrev pub acts : Settings → Joined → Act → Joined
acts c j (Reads line) = reads c j j.back (line ++ codes "\n")
acts c j Takes = takes c j j.back
acts c j (Loses place) = on_line j (remove j.back place)
acts c j (Damages place octets) = on_line j (replaced j.back place (λ _. octets))

-- ---- what may happen

-- a line that comes of the user is no frame of the other end
abbrev pub IsNoFrame : Option StationEvent → Type 0
IsNoFrame (Some (Comes octets)) = ⊥
IsNoFrame event = Unit {0}

-- the SABM of the near end is on the line, or a UA to it
abbrev pub is_on_line : Settings → Joined → Bool
is_on_line c j = carries Sabm c.role j.out || carries Ua (other c.role) j.back

-- timer T1 of an end that awaits UA doesn't run out while SABM or UA can still arrive
abbrev pub IsInTime : Settings → Joined → Option StationEvent → Type 0
IsInTime c j (Some Fires) = (awaits_ua (station_of c j.near).link.phase && is_on_line c j) ≡ false
IsInTime c j event = Unit {0}

pub record IsOfUser (c : Settings) (j : Joined) (line : List ℕ) : Type 0 where
  pub is_line : IsOpen line
  pub is_no_frame : IsNoFrame (event_in c.wide c.role line)
  pub in_time : IsInTime c j (event_in c.wide c.role line)

-- what comes in the place of a frame fails its frame check sequence
pub record IsDamage (octets : List ℕ) : Type 0 where
  pub is_seen : is_visible octets ≡ true
  pub fits : AreOfFrame octets

abbrev pub IsPossible : Settings → Joined → Act → Type 0
IsPossible c j (Reads line) = IsOfUser c j line
IsPossible c j Takes = Unit {0}
IsPossible c j (Loses place) = Unit {0}
IsPossible c j (Damages place octets) = IsDamage octets

-- ---- histories

-- an act of an end, or of the line to it
pub record Happening : Type 0 where
  pub at : Role
  pub act : Act

-- at first the near end is the DTE
abbrev pub acts_at : Cfg → Joined → Role → Act → Joined
acts_at cfg j Dte act = acts (settings_from Dte cfg) j act
acts_at cfg j Dce act = exchanged (acts (settings_from Dce cfg) (exchanged j) act)

abbrev pub IsPossibleAt : Cfg → Joined → Role → Act → Type 0
IsPossibleAt cfg j Dte act = IsPossible (settings_from Dte cfg) j act
IsPossibleAt cfg j Dce act = IsPossible (settings_from Dce cfg) (exchanged j) act

abbrev pub run : Cfg → List Happening → Joined → Joined
run cfg [] j = j
run cfg (h ∷ history) j = run cfg history (acts_at cfg j h.at h.act)

-- each may happen where it comes
abbrev pub ArePossible : Cfg → List Happening → Joined → Type 0
ArePossible cfg [] j = Unit {0}
ArePossible cfg (h ∷ history) j = IsPossibleAt cfg j h.at h.act × ArePossible cfg history (acts_at cfg j h.at h.act)
