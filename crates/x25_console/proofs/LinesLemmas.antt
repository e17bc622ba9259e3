-- The lines of entries, one after another.
use Rattle.std.proofs.Common.{◌≡◌, ◌∙◌, ◌+◌, ◌<◌, ℕ, List, [], ◌∷◌, ◌++◌, length, take, drop, map, get_or, ap, sym}
use Rattle.std.proofs.lemmas.Grind.{flat_map-append}
use Rattle.std.proofs.lemmas.List.{append-nil, map-append, take_more, take-append-drop}
use Rattle.x25_bits.specs.declared.role.Role.{Role}
use Rattle.x25_station.specs.declared.entry.Entry.{Entry}
use Rattle.x25_station.specs.declared.lent.Lent.{Lent}
use Rattle.x25_station.specs.code.PlainEntry.{plain_entry}
use Rattle.x25_transcript.specs.EntryText.{entry_line}
use Rattle.x25_console.specs.Telling.{entries_text}

module _ (at : Role) (lent : Lent) where
  abbrev pub lines_of_all : List Entry → List ℕ
  lines_of_all entries = entries_text at (map (plain_entry lent) entries)

  all-append : (xs ys : List Entry) → lines_of_all (xs ++ ys) ≡ lines_of_all xs ++ lines_of_all ys
  all-append xs ys = ap (entries_text at) (map-append (plain_entry lent) xs ys) ∙ flat_map-append (entry_line at) (map (plain_entry lent) xs) (map (plain_entry lent) ys)

  -- of one more
  pub all_more : (xs : List Entry) (i : ℕ) (d : Entry) → i < length xs
      → lines_of_all (take (i + 1) xs) ≡ lines_of_all (take i xs) ++ entry_line at (plain_entry lent (get_or xs i d))
  all_more xs i d inside =
      ap lines_of_all (take_more xs i d inside) ∙ all-append (take i xs) (get_or xs i d ∷ [])
      ∙ ap (λ t. lines_of_all (take i xs) ++ t) (append-nil (entry_line at (plain_entry lent (get_or xs i d))))

  -- of those before a place, of the one there, and of the rest
  pub all_parts : (xs : List Entry) (i : ℕ) (d : Entry) → i < length xs
      → lines_of_all xs ≡ (lines_of_all (take i xs) ++ entry_line at (plain_entry lent (get_or xs i d))) ++ lines_of_all (drop (i + 1) xs)
  all_parts xs i d inside =
      ap lines_of_all (sym (take-append-drop (i + 1) xs)) ∙ all-append (take (i + 1) xs) (drop (i + 1) xs)
      ∙ ap (λ t. t ++ lines_of_all (drop (i + 1) xs)) (all_more xs i d inside)
