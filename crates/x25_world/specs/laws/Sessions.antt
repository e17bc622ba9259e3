-- The sessions of an end, by the transcript: each lasts from a `linkup` to the next `linkup` or `linkdown` there
-- (profile). They count from 1.
use Rattle.std.specs.Prelude.{ℕ, suc, ◌==◌, ◌&&◌, Bool, true, false, if◌then◌else◌, List, [], ◌∷◌, ◌++◌, Option, Some}
use Rattle.std.specs.Prelude.{None}
use Rattle.x25_link.specs.Hearing.{other}
use Rattle.x25_bits.specs.declared.role.Role.{Role}
use Rattle.x25_layer.specs.laws.Transcript.{Entry}
use Rattle.x25_station.specs.Entry.{StationEntry, link_up, link_down, was_restarted, layer_entries}
use Rattle.x25_world.specs.{World.{AtEnd, World}, laws.Claims.{entry_of_end, entries_at}}

-- how many sessions an end began, and whether the last of them stands
pub record Progress : Type 0 where
  pub begun : ℕ
  pub stands : Bool

abbrev pub none_begun : Progress
none_begun = record { begun = 0; stands = false }

abbrev pub after_entry : Progress → StationEntry → Progress
after_entry p link_up = record { begun = suc p.begun; stands = true }
after_entry p (link_down reason) = record { begun = p.begun; stands = false }
after_entry p entry = p

abbrev pub after_entries : Progress → List StationEntry → Progress
after_entries p [] = p
after_entries p (entry ∷ entries) = after_entries (after_entry p entry) entries

-- session n stands
abbrev pub is_in : ℕ → Progress → Bool
is_in n p = p.stands && n == p.begun

-- ---- the entries of a session

abbrev pub entry_if : Bool → StationEntry → List StationEntry
entry_if b entry = if b then entry ∷ [] else []

-- of session n, behind an end's progress
abbrev pub session_from : ℕ → Progress → List StationEntry → List StationEntry
session_from n p [] = []
session_from n p (entry ∷ entries) = entry_if (is_in n (after_entry p entry)) entry
    ++ session_from n (after_entry p entry) entries

abbrev pub progress_at : Role → List AtEnd → Progress
progress_at end transcript = after_entries none_begun (entries_at end transcript)

abbrev pub session_at : Role → ℕ → List AtEnd → List StationEntry
session_at end n transcript = session_from n none_begun (entries_at end transcript)

-- the session that an end began last
abbrev pub last_session : Role → World → ℕ
last_session end w = (progress_at end w.transcript).begun

-- what the users of an end's channels asked and were told in a session
abbrev pub handed_in : Role → ℕ → World → List Entry
handed_in end n w = layer_entries (session_at end n w.transcript)

-- ---- who meets whom

abbrev pub first_of : Option ℕ → Option ℕ → Option ℕ
first_of None later = later
first_of (Some m) later = Some m

-- where session n is restarted, the latest session that the other end began so far
abbrev pub met_at : ℕ → Progress → Progress → StationEntry → Option ℕ
met_at n here there (was_restarted cause diagnostic) = if is_in n here then Some there.begun else None
met_at n here there entry = None

abbrev pub met_by : ℕ → Progress → Progress → List StationEntry → Option ℕ
met_by n here there [] = None
met_by n here there (entry ∷ entries) = first_of (met_at n here there entry)
    (met_by n (after_entry here entry) there entries)

abbrev pub meets_from : Role → ℕ → Progress → Progress → List AtEnd → Option ℕ
meets_from end n here there [] = None
meets_from end n here there (e ∷ transcript) =
    let own = entry_of_end end e.at e.entry in
    first_of (met_by n here there own) (meets_from end n (after_entries here own)
    (after_entries there (entry_of_end (other end) e.at e.entry)) transcript)

-- The session of the other end that session n of an end meets: the latest that began there before the first `restarted`
-- of session n. By what always holds (`MeetInStep`) one had begun by then.
abbrev pub meets : Role → ℕ → List AtEnd → Option ℕ
meets end n transcript = meets_from end n none_begun none_begun transcript
