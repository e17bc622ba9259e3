-- The numbers of options are in their ranges.
use Rattle.std.proofs.Common.{◌≡◌, ◌∙◌, ◌≤◌, ◌<◌, ℕ, Bool, true, false, List, [], ◌∷◌, Option, Some, None, ap, refl, sym, subst, arith}
use Rattle.std.{proofs.lemmas.List.{at_drop_more}, proofs.lemmas.Option.{same_Some}, proofs.lemmas.Slice.Eq.{bytes_eq-Decides}, specs.List.{find}}
use Rattle.std.specs.{Prelude.{cond, ◌&&◌, ◌+◌, ⊤, unwrap_or, not, length, codes, drop, get_or}, Str.{bytes_eq}}
use Rattle.x25_settings.proofs.NumberLemmas.{number_found}
use Rattle.x25_settings.specs.Items.{asks_help, asks_version, chosen, dashed, ends, is_dashed, is_of, item_at, item_of, items, located, name_in, numbered, or_next}
use Rattle.x25_settings.specs.{Items.{plain, read_value, takes_next, value_in, valued}, Options.{at_in, choice_in, has, least_of, most_of, number_in, usual_of}}
use Rattle.x25_settings.specs.{Options.{wants_value, word_of}, Words.{IsInRange, number_of, value_of}}
use Rattle.x25_settings.specs.declared.items.{Item.{Item}, Item.TheVariants.{Number}}
use Rattle.x25_settings.specs.declared.options.{At.{At}, Choice.{Choice}, Command.{Command}, Command.TheVariants.{Decode, Station}}
use Rattle.x25_settings.specs.declared.options.Choice.TheVariants as choice

-- what isn't the first of those left is sought among the rest
pub find_on : {X : Type 0} (p : X → Bool) (xs : List X) (i : ℕ) (d : X) → i < length xs → p (get_or xs i d) ≡ false
    → find p (drop (i + 1) xs) ≡ find p (drop i xs)
find_on {X} p xs i d few fails = sym (at_drop_more (find p) xs i d few ∙ ap (λ (b : Bool). cond b (Some (get_or xs i d)) (find p (drop (i + 1) xs))) fails)

is_choice : (x : Choice) → choice_in (word_of x) ≡ Some x
is_choice choice.Clock = refl
is_choice x = refl

same_choice : (x y : Choice) → bytes_eq (word_of x) (word_of y) ≡ true → x ≡ y
same_choice x y e = same_Some x y (sym (is_choice x) ∙ ap choice_in ((bytes_eq-Decides (word_of x) (word_of y)).0 e) ∙ is_choice y)

usual_range : (command : Command) (x : Choice) → IsInRange command x (usual_of x)
usual_range Decode choice.Channels = (omega arith, omega arith)
usual_range command choice.Channels = (omega arith, omega arith)
usual_range command x = (omega arith, omega arith)

module _ (command : Command) where
  -- an item with a number has one in its range
  abbrev IsFine : Item → Type 0
  IsFine (Number x n) = IsInRange command x n
  IsFine item = ⊤

  fine_if : (b : Bool) (u v : Item) → IsFine u → IsFine v → IsFine (cond b u v)
  fine_if true u v fine other = fine
  fine_if false u v fine other = other

  fine_number : (x : Choice) (text : List ℕ) (o : Option ℕ) → number_in (least_of x) (most_of command x) text ≡ o → IsFine (numbered command x o)
  fine_number x text None e = tt
  fine_number x text (Some n) e = let found = number_found (least_of x) (most_of command x) text n e in (found.0, found.1)

  fine_place : (o : Option At) → IsFine (located o)
  fine_place None = tt
  fine_place (Some at) = tt

  fine_value : (x : Choice) (text : List ℕ) → IsFine (read_value command x text)
  fine_value choice.At text = fine_place (at_in text)
  fine_value x text = fine_number x text (number_in (least_of x) (most_of command x) text) refl

  fine_valued : (x : Choice) (o : Option (List ℕ)) → IsFine (valued command x o)
  fine_valued x None = tt
  fine_valued x (Some text) = fine_value x text

  fine_plain : (x : Choice) (o : Option (List ℕ)) → IsFine (plain x o)
  fine_plain x None = tt
  fine_plain x (Some text) = tt

  fine_chosen : (own next : Option (List ℕ)) (o : Option Choice) → IsFine (chosen command own next o)
  fine_chosen own next None = tt
  fine_chosen own next (Some x) =
      fine_if (has command x) _ _ (fine_if (wants_value x) _ _ (fine_valued x (or_next own next)) (fine_plain x own)) tt

  fine_dashed : (word : List ℕ) (next : Option (List ℕ)) → IsFine (dashed command word next)
  fine_dashed word next =
      fine_if (bytes_eq word (codes "--")) _ _ tt (fine_if (asks_help word) _ _ tt (fine_if (asks_version word) _ _ tt
      (fine_chosen (value_in word) next (choice_in (name_in word)))))

  fine_item : (ended : Bool) (word : List ℕ) (next : Option (List ℕ)) → IsFine (item_at command ended word next)
  fine_item ended word next = fine_if (not ended && is_dashed word) _ _ (fine_dashed word next) tt

  -- the item that is found of an option is one of it, and has a number in its range
  abbrev Finds : Choice → List (ℕ × Item) → Type 0
  Finds x list = (item : Item) → item_of x list ≡ Some item → IsFine item × (is_of x item ≡ true)

  finds_first : (x : Choice) (placed : ℕ × Item) (rest : List (ℕ × Item)) → IsFine placed.1 → Finds x rest → Finds x (placed ∷ rest)
  finds_first x placed rest fine later item e = go (is_of x placed.1) refl e
    where
      go : (b : Bool) → is_of x placed.1 ≡ b → cond b (Some placed.1) (item_of x rest) ≡ Some item → IsFine item × (is_of x item ≡ true)
      go true is e = subst (λ (i : Item). IsFine i × (is_of x i ≡ true)) (same_Some _ _ e) (fine, is)
      go false is e = later item e

  finds : (x : Choice) (ended : Bool) (words : List (List ℕ)) → Finds x (items command ended words)
  unfolding items
  finds x ended [] item e = absurd (cc)
  finds x ended (word ∷ []) item e = finds_first x (1, item_at command ended word None) [] (fine_item ended word None) (λ i none. absurd (cc)) item e
  finds x ended (word ∷ next ∷ rest) item e =
      let one = items command (ends ended word) rest in
      let other = items command (ends ended word) (next ∷ rest) in
      finds_first x (length (word ∷ next ∷ rest), item_at command ended word (Some next)) (cond (takes_next ended word) one other)
      (fine_item ended word (Some next))
      (either (takes_next ended word) one other (finds x (ends ended word) rest) (finds x (ends ended word) (next ∷ rest))) item e
    where
      either : (b : Bool) (us vs : List (ℕ × Item)) → Finds x us → Finds x vs → Finds x (cond b us vs)
      either true us vs one other = one
      either false us vs one other = other

  pub given_range : (x y : Choice) (n : ℕ) (ended : Bool) (words : List (List ℕ)) → item_of x (items command ended words) ≡ Some (Number y n)
      → IsInRange command x n
  given_range x y n ended words e =
      let found = finds x ended words (Number y n) e in
      subst (λ (z : Choice). IsInRange command z n) (sym (same_choice x y found.1)) found.0

  pub number_range : (x : Choice) (ended : Bool) (words : List (List ℕ)) → IsInRange command x (number_of x (items command ended words))
  number_range x ended words = go (item_of x (items command ended words)) refl
    where
      go : (o : Option Item) → item_of x (items command ended words) ≡ o → IsInRange command x (unwrap_or (value_of o) (usual_of x))
      go (Some (Number y n)) e = given_range x y n ended words e
      go (Some item) e = usual_range command x
      go None e = usual_range command x

-- a station may have as much as any command
pub most_within : (command : Command) (x : Choice) → most_of command x ≤ most_of Station x
most_within Decode choice.Channels = omega arith
most_within command choice.Channels = omega arith
most_within command x = omega arith
