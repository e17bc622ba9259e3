use Rattle.std.{proofs.Common.{◌≡◌, drop}, specs.Prelude.{slice_get}}
use Rattle.x25_c.specs.code.EarlierEntries.{entries_in}
use Rattle.x25_c.proofs.earlier_entries.entry_in.Given as goal

-- the entry is in this place of the steps that are left
abbrev pub invariant-loop-entries : goal.invariant-loop-entries
invariant-loop-entries l = slice_get (entries_in (drop l.entries-index l.steps)) l.left ≡ slice_get (entries_in l.steps) l.i
