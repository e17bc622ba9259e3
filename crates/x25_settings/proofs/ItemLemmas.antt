-- One item at the front of words.
use Rattle.std.proofs.Common.{◌≡◌, ◌∙◌, ℕ, Bool, true, false, List, [], ◌∷◌, Some, None, ap, refl, sym, length, map}
use Rattle.std.proofs.lemmas.List.{length-map}
use Rattle.std.specs.Prelude.{cond}
use Rattle.x25_settings.specs.Items.{ends, item_at, items, takes_next}
use Rattle.x25_settings.specs.declared.{items.Item.{Item}, options.Command.{Command}}

module _ {S : Type 0} (text : S → List ℕ) (command : Command) (ended : Bool) where
  pub none : (words : List S) → words ≡ [] → items command ended (map text words) ≡ []
  unfolding items
  none words e = ap (λ ws. items command ended (map text ws)) e

  module _ (words : List S) (word : List ℕ) (item : Item) (now : Bool) (is_ended : now ≡ ends ended word) where
    counted : (spelled : List (List ℕ)) → map text words ≡ spelled → length spelled ≡ length words
    counted spelled e = ap length (sym e) ∙ length-map words text

    -- the last word
    pub alone : (behind : List S) → map text words ≡ word ∷ map text behind → behind ≡ [] → item ≡ item_at command ended word None
        → items command ended (map text words) ≡ (length words, item) ∷ items command now (map text behind)
    unfolding items
    alone behind split none is =
        let last : map text words ≡ word ∷ [] = split ∙ ap (λ ws. word ∷ map text ws) none in
        ap (items command ended) last ∙ ap (λ n. (n, item_at command ended word None) ∷ []) (counted (word ∷ []) last)
        ∙ ap (λ i. (length words, i) ∷ []) (sym is) ∙ ap (λ ws. (length words, item) ∷ items command now (map text ws)) (sym none)

    -- a word with its value, or before another item
    pub before : (behind rest : List S) (next : List ℕ) (takes : Bool) → map text words ≡ word ∷ map text behind → map text behind ≡ next ∷ map text rest
        → item ≡ item_at command ended word (Some next) → takes ≡ takes_next ended word
        → items command ended (map text words) ≡ (length words, item) ∷ items command now (map text (cond takes rest behind))
    unfolding items
    before behind rest next takes split more is test =
        let front : map text words ≡ word ∷ next ∷ map text rest = split ∙ ap (λ ws. word ∷ ws) more in
        ap (items command ended) front
        ∙ ap (λ n. (n, item_at command ended word (Some next)) ∷ cond (takes_next ended word) (items command (ends ended word) (map text rest))
        (items command (ends ended word) (next ∷ map text rest))) (counted (word ∷ next ∷ map text rest) front)
        ∙ ap (λ i. (length words, i) ∷ cond (takes_next ended word) (items command (ends ended word) (map text rest))
        (items command (ends ended word) (next ∷ map text rest))) (sym is)
        ∙ ap (λ e. (length words, item) ∷ cond (takes_next ended word) (items command e (map text rest)) (items command e (next ∷ map text rest))) (sym is_ended)
        ∙ ap (λ b. (length words, item) ∷ cond b (items command now (map text rest)) (items command now (next ∷ map text rest))) (sym test)
        ∙ ap (λ ws. (length words, item) ∷ cond takes (items command now (map text rest)) (items command now ws)) (sym more)
        ∙ either takes
      where
        either : (b : Bool) → (length words, item) ∷ cond b (items command now (map text rest)) (items command now (map text behind))
            ≡ (length words, item) ∷ items command now (map text (cond b rest behind))
        either true = refl
        either false = refl
