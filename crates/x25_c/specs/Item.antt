-- The items of what a station that is held last answered (profile): the frames, a timer that passed, the entries, each
-- in order, and what becomes of timer T1.
use Rattle.std.specs.Prelude.{◌≡◌, ◌⊎◌, ℕ, ◌+◌, ◌^◌, ◌<◌, ◌≤◌, Bool, true, false, List, [], ◌∷◌, ◌++◌, map, length}
use Rattle.std.specs.Prelude.{take, drop, Option, Some, None}
use Rattle.std.specs.List.{flat_map}
use Rattle.x25_station.specs.declared.timer.Timer.{Timer}
use Rattle.x25_station.specs.code.PlainEntry.{plain_entry}
use Rattle.x25_station.specs.Entry.{StationEntry}
use Rattle.x25_c.specs.declared.clocked.Passed.{Passed}
use Rattle.x25_c.specs.declared.event.Event.{Event}
use Rattle.x25_c.specs.declared.held.Held.{Held}
use Rattle.x25_c.specs.declared.item.Item.{Item}
use Rattle.x25_c.specs.declared.item.Item.TheVariants as code
use Rattle.x25_c.specs.Copying.{Copies}
use Rattle.x25_c.specs.Event.{kind_alone, entry_event, entry_user, entry_facilities, entry_called, entry_calling}
use Rattle.x25_c.specs.Held.{entries_of, frames_of, timer_of}
use Rattle.x25_c.specs.Slot.{number_of_timer}

pub data PlainItem : Type 0 where
  a_frame : (octets : List ℕ) → PlainItem
  has_passed : (passed : Passed) → PlainItem
  an_entry : (entry : StationEntry) → PlainItem
  the_timer : (timer : Timer) → PlainItem

abbrev pub plain_item : Item → PlainItem
plain_item (code.Frame octets) = a_frame octets.now
plain_item (code.Passed passed) = has_passed passed
plain_item (code.Entry entry lent) = an_entry (plain_entry lent.now entry.now)
plain_item (code.Timer timer) = the_timer timer

-- behind the frames and a timer that passed
abbrev pub last_items : Held → List PlainItem
last_items h = map an_entry (entries_of h) ++ the_timer (timer_of h) ∷ []

abbrev pub behind_passed : Option Passed → List PlainItem → List PlainItem
behind_passed None items = items
behind_passed (Some passed) items = has_passed passed ∷ items

abbrev pub later_items : Held → List PlainItem
later_items h = behind_passed h.passed (last_items h)

abbrev pub items_of : Held → List PlainItem
items_of h = map a_frame (frames_of h) ++ later_items h

-- ---- what C is told of one

abbrev pub event_at : PlainItem → Event
event_at (a_frame octets) = record (kind_alone 1) { count = length octets }
event_at (has_passed passed) = record (kind_alone 32) { reason = passed.timer; channel = passed.channel }
event_at (an_entry entry) = entry_event entry
event_at (the_timer timer) = record (kind_alone 2) { timer = number_of_timer timer }

-- the octets of a frame, or user data
abbrev pub octets_at : PlainItem → List ℕ
octets_at (a_frame octets) = octets
octets_at (has_passed passed) = []
octets_at (an_entry entry) = entry_user entry
octets_at (the_timer timer) = []

-- a part that entries alone have
abbrev pub part_at : (StationEntry → List ℕ) → PlainItem → List ℕ
part_at part (an_entry entry) = part entry
part_at part _ = []

abbrev pub called_at : PlainItem → List ℕ
called_at item = part_at entry_called item

abbrev pub calling_at : PlainItem → List ℕ
calling_at item = part_at entry_calling item

abbrev pub facilities_at : PlainItem → List ℕ
facilities_at item = part_at entry_facilities item

-- of the item in a place; nothing where there is none
abbrev pub of_item : (PlainItem → List ℕ) → Option PlainItem → List ℕ
of_item part None = []
of_item part (Some item) = part item

-- an item is taken, with its octets where they fit; where there is none all is as before
abbrev pub Takes : Option PlainItem → Bool → Event → Event → List ℕ → List ℕ → Type 0
Takes None is_there old new before after = (is_there ≡ false) × (new ≡ old) × (after ≡ before)
Takes (Some item) is_there old new before after = (is_there ≡ true) × (new ≡ event_at item)
    × Copies (octets_at item) before after

-- ---- items that are taken at once

-- their octets, one behind another
abbrev pub octets_of : List PlainItem → List ℕ
octets_of items = flat_map octets_at items

-- Of these items so many are taken, from this place on: as many as there are, or as fit, or have a place of 64 bits.
pub record TakesAll (first : ℕ) (items : List PlainItem) (n : ℕ) (old new : List Event)
    (before after : List ℕ) : Type 0 where
  pub there : n ≤ length items
  pub events : new ≡ map event_at (take n items) ++ drop n old
  pub octets : after ≡ octets_of (take n items) ++ drop (length (octets_of (take n items))) before
  pub most : (n ≡ length items) ⊎ ((n ≡ length old) ⊎ ((length before < length (octets_of (take (n + 1) items)))
      ⊎ (2 ^ 64 ≤ first + n)))
