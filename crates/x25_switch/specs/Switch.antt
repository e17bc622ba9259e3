-- What the calls of a switch are after a step of the station of a line, entry by entry.
use Rattle.std.specs.Prelude.{◌≡◌, ◌⊎◌, ℕ, Bool, true, false, List, [], ◌∷◌, ◌++◌, map, Option, Some, None}
use Rattle.x25_circuit.specs.declared.awaits.Awaits.{Awaits}
use Rattle.x25_circuit.specs.declared.awaits.Awaits.TheVariants.{ClearConfirmation}
use Rattle.x25_circuit.specs.Notice.{PlainNotice, incoming}
use Rattle.x25_layer.specs.laws.Transcript.{Said, Asked, Told}
use Rattle.x25_station.specs.Entry.{StationEntry, of_channel, restart_asked, link_up, link_down, was_restarted}
use Rattle.x25_station.specs.Entry.{restart_confirmed}
use Rattle.x25_crossing.specs.Cause.{restart_goes_on}
use Rattle.x25_crossing.specs.Crossing.{new_crossing}
use Rattle.x25_crossing.specs.Told.{PlainTold, ended, may_lack}
use Rattle.x25_switch.specs.Calls.{PlainCall, told_in, lacks_in, lost_call, vacated}
use Rattle.x25_switch.specs.Leg.{told_of}

-- a call that came on a channel of a line; it has no far leg yet
abbrev pub new_call : ℕ → ℕ → ℕ → PlainCall
new_call octets line channel = record {
  near = record { line = line; channel = channel };
  far = record { line = 0; channel = 0 };
  crossing = new_crossing octets;
  lingers = false;
}

-- what is told at a leg, or memory is refused for it
abbrev pub Hears : ℕ → ℕ → Option PlainTold → List PlainCall → List PlainCall → Type 0
Hears line channel None old new = new ≡ old
Hears line channel (Some told) old new =
    (new ≡ told_in line channel told old) ⊎ ((may_lack told ≡ true) × (new ≡ lacks_in line channel old))

-- whether the station clears the channel on which it tells of an error of procedure
abbrev pub is_clearing : Awaits → Bool
is_clearing ClearConfirmation = true
is_clearing awaits = false

-- a call that comes is taken, or not
abbrev pub HeedsNotice : ℕ → ℕ → ℕ → Bool → PlainNotice → List PlainCall → List PlainCall → Type 0
HeedsNotice octets line channel clears (incoming request) old new =
    (new ≡ vacated line channel old) ⊎ (new ≡ vacated line channel old ++ new_call octets line channel ∷ [])
HeedsNotice octets line channel clears notice old new = Hears line channel (told_of clears notice) old new

abbrev pub HeedsSaid : ℕ → ℕ → ℕ → Bool → Said → List PlainCall → List PlainCall → Type 0
HeedsSaid octets line channel clears (Asked request) old new = new ≡ old
HeedsSaid octets line channel clears (Told notice) old new = HeedsNotice octets line channel clears notice old new

abbrev pub HeedsEntry : ℕ → ℕ → (ℕ → Awaits) → StationEntry → List PlainCall → List PlainCall → Type 0
HeedsEntry octets line awaited (of_channel e) old new =
    HeedsSaid octets line e.channel (is_clearing (awaited e.channel)) e.said old new
HeedsEntry octets line awaited (was_restarted cause diagnostic) old new =
    new ≡ map (lost_call (ended (restart_goes_on cause) diagnostic) line) old
HeedsEntry octets line awaited link_up old new = new ≡ map (lost_call (ended 9 0) line) old
HeedsEntry octets line awaited (link_down reason) old new = new ≡ map (lost_call (ended 9 0) line) old
HeedsEntry octets line awaited (restart_asked cause diagnostic) old new = new ≡ map (lost_call (ended 9 0) line) old
HeedsEntry octets line awaited restart_confirmed old new = new ≡ map (lost_call (ended 9 0) line) old
HeedsEntry octets line awaited entry old new = new ≡ old

abbrev pub Heeds : ℕ → ℕ → (ℕ → Awaits) → List StationEntry → List PlainCall → List PlainCall → Type 0
Heeds octets line awaited [] old new = new ≡ old
Heeds octets line awaited (e ∷ es) old new =
    (mid : List PlainCall) × HeedsEntry octets line awaited e old mid × Heeds octets line awaited es mid new
