-- The entries of steps, one behind another.
use Rattle.std.specs.Prelude.{List}
use Rattle.std.specs.Borrow.{Bor}
use Rattle.std.specs.List.{flat_map}
use Rattle.x25_station.specs.Entry.{StationEntry}
use Rattle.x25_station.specs.code.Entries.{ShownEntries}
use Rattle.x25_station.specs.code.PlainEntry.{plain_entry}
use Rattle.x25_station.specs.declared.entry.Entry.{Entry}
use Rattle.x25_station.specs.declared.lent.Lent.{Lent}

abbrev pub entries_in : List ShownEntries → List StationEntry
entries_in steps = flat_map (λ step. step.items) steps

-- an entry, with what its step lends
abbrev pub plain_pair : Bor Entry × Bor Lent → StationEntry
plain_pair pair = plain_entry pair.1.now pair.0.now
