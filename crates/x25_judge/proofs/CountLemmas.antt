-- The lines on the packets of each channel, one after another.
use Rattle.std.proofs.Common.{◌≡◌, ◌∙◌, ◌+◌, ◌<◌, ℕ, List, [], ◌∷◌, ◌++◌, length, take, drop, get_or, ap, sym}
use Rattle.std.proofs.lemmas.{Grind.{flat_map-append}, List.{append-nil, take_more, take-append-drop}}
use Rattle.std.specs.List.{flat_map}
use Rattle.x25_bits.specs.declared.role.Role.{Role}
use Rattle.x25_judge.specs.Counts.{packets_line}
use Rattle.x25_judge.specs.declared.counts.Count.{Count}

module _ (from : Role) where
  abbrev pub lines_of_all : List Count → List ℕ
  lines_of_all counts = flat_map (packets_line from) counts

  -- of one more
  pub all_more : (xs : List Count) (i : ℕ) (d : Count) → i < length xs
      → lines_of_all (take (i + 1) xs) ≡ lines_of_all (take i xs) ++ packets_line from (get_or xs i d)
  all_more xs i d inside =
      ap lines_of_all (take_more xs i d inside) ∙ flat_map-append (packets_line from) (take i xs) (get_or xs i d ∷ [])
      ∙ ap (λ t. lines_of_all (take i xs) ++ t) (append-nil (packets_line from (get_or xs i d)))

  -- of those before a place, of the one there, and of the rest
  pub all_parts : (xs : List Count) (i : ℕ) (d : Count) → i < length xs
      → lines_of_all xs ≡ (lines_of_all (take i xs) ++ packets_line from (get_or xs i d)) ++ lines_of_all (drop (i + 1) xs)
  all_parts xs i d inside =
      ap lines_of_all (sym (take-append-drop (i + 1) xs)) ∙ flat_map-append (packets_line from) (take (i + 1) xs) (drop (i + 1) xs)
      ∙ ap (λ t. t ++ lines_of_all (drop (i + 1) xs)) (all_more xs i d inside)
