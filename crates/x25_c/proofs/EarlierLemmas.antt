-- Entries in the places of steps, one behind another.
use Rattle.std.proofs.{Common.{drop}, lemmas.List.{at_drop_more}, lemmas.List.Concat.{flat_map-cons}}
use Rattle.x25_c.proofs.{ItemLemmas.{in_first, in_second}, Names.{◌≡◌, ◌∙◌, ℕ, ◌<◌, ◌+◌, List, ◌++◌, length, get_or, ap, sym, slice_get}}
use Rattle.x25_c.specs.code.EarlierEntries.{entries_in}
use Rattle.x25_station.specs.{Entry.{StationEntry}, code.Entries.{ShownEntries}}

module _ (steps : List ShownEntries) (index : ℕ) (x : ShownEntries) (left : ℕ) (inside : index < length steps) (is : x ≡ get_or steps index x) where
  in_both : slice_get (entries_in (drop index steps)) left ≡ slice_get (x.items ++ entries_in (drop (index + 1) steps)) left
  in_both =
      at_drop_more (λ (xs : List ShownEntries). slice_get (entries_in xs) left) steps index x inside
      ∙ ap (λ (es : List StationEntry). slice_get es left) (flat_map-cons (λ (s : ShownEntries). s.items) (get_or steps index x) (drop (index + 1) steps))
      ∙ ap (λ (y : ShownEntries). slice_get (y.items ++ entries_in (drop (index + 1) steps)) left) (sym is)

  -- an entry of the first of those that are left
  pub found_here : left < length x.items → slice_get x.items left ≡ slice_get (entries_in (drop index steps)) left
  found_here lt = sym (in_both ∙ in_first x.items (entries_in (drop (index + 1) steps)) left lt)

  -- and of the others
  pub found_behind : (n : ℕ) → left ≡ length x.items + n
      → slice_get (entries_in (drop (index + 1) steps)) n ≡ slice_get (entries_in (drop index steps)) left
  found_behind n at = sym (in_both ∙ in_second x.items (entries_in (drop (index + 1) steps)) left n at)
