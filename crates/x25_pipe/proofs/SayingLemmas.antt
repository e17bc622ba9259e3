-- The text of what is said, one saying after another.
use Rattle.x25_pipe.proofs.Names.{◌≡◌, ◌∙◌, ◌+◌, ◌<◌, ℕ, Bool, List, [], ◌∷◌, ◌++◌, length, map, append_assoc, ap, refl, sym, ◌||◌, append-nil, Role}
use Rattle.std.proofs.{Common.{take, drop, get_or}, Math.Bool.{or_assoc}, lemmas.Grind.{flat_map-append}, lemmas.List.{map-append, take_more, take-append-drop}}
use Rattle.std.proofs.lemmas.List.Folds.{list_any-append}
use Rattle.x25_console.specs.Telling.{entries_text}
use Rattle.x25_pipe.{proofs.Names.{StationEntry, saying_line, sayings_text, has_refusal}, specs.Pipe.{Saying, enters, is_refusal}}
use Rattle.x25_transcript.specs.EntryText.{entry_line}

pub text-append : (end : Role) (xs ys : List Saying) → sayings_text end (xs ++ ys) ≡ sayings_text end xs ++ sayings_text end ys
text-append end xs ys = flat_map-append (saying_line end) xs ys

-- the lines of entries
pub entries_said : (end : Role) (entries : List StationEntry) → entries_text end entries ≡ sayings_text end (map enters entries)
unfolding saying_line
entries_said end [] = refl
entries_said end (e ∷ entries) = ap (λ text. entry_line end e ++ text) (entries_said end entries)

-- what is said in two parts
pub parts_text : (end : Role) (told : List ℕ) (first second : List Saying) → (told ++ sayings_text end first) ++ sayings_text end second ≡ told
    ++ sayings_text end (first ++ second)
parts_text end told first second = append_assoc told (sayings_text end first) (sayings_text end second)
    ∙ ap (λ t. told ++ t) (sym (text-append end first second))

pub parts_refused : (refused : Bool) (first second : List Saying) → ((refused || has_refusal first) || has_refusal second)
    ≡ (refused || has_refusal (first ++ second))
parts_refused refused first second = or_assoc refused (has_refusal first) (has_refusal second)
    ∙ ap (λ b. refused || b) (sym (list_any-append is_refusal first second))

module _ {X Y : Type 0} (end : Role) (plain : X → Y) (says : Y → Saying) where
  -- what is said of some
  abbrev pub text_of_all : List X → List ℕ
  text_of_all xs = sayings_text end (map says (map plain xs))

  all-append : (xs ys : List X) → text_of_all (xs ++ ys) ≡ text_of_all xs ++ text_of_all ys
  all-append xs ys = ap (λ zs. sayings_text end (map says zs)) (map-append plain xs ys) ∙ ap (sayings_text end) (map-append says (map plain xs) (map plain ys))
      ∙ text-append end (map says (map plain xs)) (map says (map plain ys))

  one : (x : X) → text_of_all (x ∷ []) ≡ saying_line end (says (plain x))
  one x = append-nil (saying_line end (says (plain x)))

  -- of one more
  pub all_more : (xs : List X) (i : ℕ) (x : X) → i < length xs → x ≡ get_or xs i x → text_of_all (take (i + 1) xs) ≡ text_of_all (take i xs)
      ++ saying_line end (says (plain x))
  all_more xs i x inside is =
      ap text_of_all (take_more xs i x inside) ∙ all-append (take i xs) (get_or xs i x ∷ [])
      ∙ ap (λ t. text_of_all (take i xs) ++ t) (one (get_or xs i x) ∙ ap (λ y. saying_line end (says (plain y))) (sym is))

  -- of those before a place, of the one there, and of the rest
  pub all_parts : (xs : List X) (i : ℕ) (x : X) → i < length xs → x ≡ get_or xs i x
      → text_of_all xs ≡ (text_of_all (take i xs) ++ saying_line end (says (plain x))) ++ text_of_all (drop (i + 1) xs)
  all_parts xs i x inside is =
      ap text_of_all (sym (take-append-drop (i + 1) xs)) ∙ all-append (take (i + 1) xs) (drop (i + 1) xs)
      ∙ ap (λ t. t ++ text_of_all (drop (i + 1) xs)) (all_more xs i x inside is)
