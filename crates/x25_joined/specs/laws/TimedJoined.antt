-- Two programs `x25 station` with clocks, one at each end, joined by a line that keeps order and may lose or visibly
-- damage any frame (profile), as `Joined` has two without. Each act is of the near end, or of the line to
-- it. The far end's acts are those of the two ends swapped.
use Rattle.std.specs.Prelude.{◌≡◌, ℕ, false, ◌&&◌, List, [], ◌∷◌, ◌++◌, Option, Some, codes}
use Rattle.x25_bits.specs.Role.{other}
use Rattle.x25_bits.specs.declared.role.Role.{Role}
use Rattle.x25_bits.specs.declared.role.Role.TheVariants.{Dte, Dce}
use Rattle.x25_link.specs.Station.{awaits_ua}
use Rattle.x25_line.specs.laws.Loss.{remove, replaced}
use Rattle.x25_station.specs.declared.config.Cfg.{Cfg}
use Rattle.x25_station.specs.Config.{Settings, settings_from}
use Rattle.x25_station.specs.laws.TimerLaw.{StationEvent, Fires}
use Rattle.x25_clock.specs.declared.times.Times.{Times}
use Rattle.x25_io.specs.Lines.{IsOpen}
use Rattle.x25_pipe.specs.Pipe.{sends, saying_line}
use Rattle.x25_pipe.specs.Timed.{timed}
use Rattle.x25_joined.specs.laws.Joined.{Joined, Act, Reads, Takes, Loses, Damages, Happening, IsDamage, IsNoFrame}
use Rattle.x25_joined.specs.laws.Joined.{exchanged, is_on_line, on_line}
use Rattle.x25_joined.specs.laws.Played.{AreSaid, line_plays, first_asked, timed_station}
use Rattle.x25_joined.specs.laws.Played.{timed_frames}
use Rattle.x25_joined.specs.laws.TimedPeer.{timed_more}

-- how long the timers of each end are
abbrev pub Clocks : Type 0
Clocks = Role → Times

-- ---- acts

abbrev pub reads : Settings → Times → Joined → List (List ℕ) → List ℕ → Joined
reads c times j back more = record {
  near = j.near ++ more;
  far = j.far;
  out = j.out ++ timed_frames (timed_more c times j.near more);
  back = back;
}

abbrev pub takes : Settings → Times → Joined → List (List ℕ) → Joined
takes c times j [] = j
takes c times j (octets ∷ back) = reads c times j back (saying_line (other c.role) (sends octets))

abbrev pub acts : Settings → Times → Joined → Act → Joined
acts c times j (Reads line) = reads c times j j.back (line ++ codes "\n")
acts c times j Takes = takes c times j j.back
acts c times j (Loses place) = on_line j (remove j.back place)
acts c times j (Damages place octets) = on_line j (replaced j.back place (λ _. octets))

-- ---- what may happen

-- the first event that a line of the user, or a time, has happen: of what is due T1 is the first
abbrev pub first_of : Settings → Times → Joined → List ℕ → Option StationEvent
first_of c times j line = first_asked c (line_plays c times line (timed c times j.near).next)

-- timer T1 of an end that awaits UA doesn't run out while SABM or UA can still arrive
abbrev pub IsInTime : Settings → Times → Joined → Option StationEvent → Type 0
IsInTime c times j (Some Fires) = (awaits_ua (timed_station c times j.near).link.phase && is_on_line c j) ≡ false
IsInTime c times j event = Unit {0}

pub record IsOfUser (c : Settings) (times : Times) (j : Joined) (line : List ℕ) : Type 0 where
  pub is_line : IsOpen line
  pub is_no_frame : IsNoFrame (first_of c times j line)
  pub in_time : IsInTime c times j (first_of c times j line)
  pub said : AreSaid c (line_plays c times line (timed c times j.near).next)

abbrev pub IsPossible : Settings → Times → Joined → Act → Type 0
IsPossible c times j (Reads line) = IsOfUser c times j line
IsPossible c times j Takes = Unit {0}
IsPossible c times j (Loses place) = Unit {0}
IsPossible c times j (Damages place octets) = IsDamage octets

-- ---- histories

abbrev pub acts_at : Cfg → Clocks → Joined → Role → Act → Joined
acts_at cfg clocks j Dte act = acts (settings_from Dte cfg) (clocks Dte) j act
acts_at cfg clocks j Dce act = exchanged (acts (settings_from Dce cfg) (clocks Dce) (exchanged j) act)

abbrev pub IsPossibleAt : Cfg → Clocks → Joined → Role → Act → Type 0
IsPossibleAt cfg clocks j Dte act = IsPossible (settings_from Dte cfg) (clocks Dte) j act
IsPossibleAt cfg clocks j Dce act = IsPossible (settings_from Dce cfg) (clocks Dce) (exchanged j) act

abbrev pub run : Cfg → Clocks → List Happening → Joined → Joined
run cfg clocks [] j = j
run cfg clocks (h ∷ history) j = run cfg clocks history (acts_at cfg clocks j h.at h.act)

-- each may happen where it comes
abbrev pub ArePossible : Cfg → Clocks → List Happening → Joined → Type 0
ArePossible cfg clocks [] j = Unit {0}
ArePossible cfg clocks (h ∷ history) j =
    IsPossibleAt cfg clocks j h.at h.act × ArePossible cfg clocks history (acts_at cfg clocks j h.at h.act)
