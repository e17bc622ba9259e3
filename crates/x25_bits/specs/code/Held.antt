-- What the bits so far leave to be held, so that the spans still to be closed can be classed. Profile.
use Rattle.std.specs.Prelude.{ℕ, ◌+◌, ◌-◌, ◌==◌, ◌&&◌, ◌||◌, not, nat_lt, Bool, true, false, if◌then◌else◌, List, []}
use Rattle.std.specs.Prelude.{◌∷◌, ◌++◌, length, take}
use Rattle.x25_bits.specs.Found.{Class, Abort, Ragged, class_by}

-- the 1 bits at the end (seven stand for more, or for no 0 so far), whether seven have come in a row, whether the
-- last 0 was an inserted one, and the unstuffed bits
pub record Held : Type 0 where
  pub run : ℕ
  pub is_aborted : Bool
  pub is_inserted : Bool
  pub kept : List Bool

abbrev pub none_held : Held
none_held = record { run = 7; is_aborted = false; is_inserted = false; kept = [] }

-- behind a flag
abbrev pub fresh : Held
fresh = record { run = 0; is_aborted = false; is_inserted = false; kept = [] }

-- the 1 bits at the end after one more bit
abbrev pub up : ℕ → Bool → ℕ
up run false = 0
up run true = if nat_lt run 7 then run + 1 else run

-- whether the bit is kept: it is no inserted 0, no sixth 1 and nothing behind seven
abbrev pub keeps : ℕ → Bool → Bool
keeps run true = nat_lt run 5
keeps run false = not (run == 5) && not (run == 7)

abbrev pub held_next : Held → Bool → Held
held_next h b = record {
  run = up h.run b;
  is_aborted = h.is_aborted || (b && h.run == 6);
  is_inserted = if b then h.is_inserted else h.run == 5;
  kept = if keeps h.run b then h.kept ++ b ∷ [] else h.kept;
}

unfoldable pub held_from : Held → List Bool → Held
held_from h [] = h
held_from h (b ∷ bits) = held_from (held_next h b) bits

abbrev pub held_of : List Bool → Held
held_of text = held_from none_held text

-- what a flag finds whose first six bits are the last of the kept ones
unfoldable pub kept_found : List Bool → List Class
kept_found kept = if nat_lt 6 (length kept) then class_by (take (length kept - 6) kept) ∷ [] else []

-- what the closing flag finds, once all its bits but the last came
unfoldable pub closing : Held → List Class
closing h = if h.is_aborted then Abort ∷ [] else (if h.is_inserted then Ragged ∷ [] else kept_found h.kept)

-- whether a flag has come, and what the bits behind the last one leave
pub record Seen : Type 0 where
  pub is_open : Bool
  pub held : Held

abbrev pub none_seen : Seen
none_seen = record { is_open = false; held = none_held }

-- whether this bit ends a flag
abbrev pub ends : Seen → Bool → Bool
ends v b = not b && v.held.run == 6

abbrev pub seen_next : Seen → Bool → Seen
seen_next v b = if ends v b then record { is_open = true; held = fresh } else record v { held = held_next v.held b }

-- what this bit finds
abbrev pub seen_found : Seen → Bool → List Class
seen_found v b = if ends v b then (if v.is_open then closing v.held else []) else []

unfoldable pub seen_from : Seen → List Bool → Seen
seen_from v [] = v
seen_from v (b ∷ bits) = seen_from (seen_next v b) bits

-- what these bits find
unfoldable pub found_from : Seen → List Bool → List Class
found_from v [] = []
found_from v (b ∷ bits) = seen_found v b ++ found_from (seen_next v b) bits

abbrev pub seen_of : List Bool → Seen
seen_of bits = seen_from none_seen bits

-- the same with the bit kept, where it is
abbrev pub kept_next : Seen → Bool → Seen
kept_next v b = record {
  is_open = v.is_open;
  held = record {
    run = v.held.run;
    is_aborted = v.held.is_aborted;
    is_inserted = v.held.is_inserted;
    kept = if keeps v.held.run b then v.held.kept ++ b ∷ [] else v.held.kept;
  };
}
