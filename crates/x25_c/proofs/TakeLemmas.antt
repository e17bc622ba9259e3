-- Items that are taken one by one, from the first on.
use Rattle.x25_c.proofs.Names.{◌≡◌, ◌∙◌, ℕ, ◌+◌, ◌<◌, ◌≤◌, List, [], ◌∷◌, ◌++◌, length, map, get_or, Some, None, ap, sym, refl, arith, inl, inr, true≢false}
use Rattle.x25_c.proofs.Names.{slice_get}
use Rattle.std.proofs.{Common.{◌-◌, take, drop, ◌⊎◌, set}, lemmas.Grind.{flat_map-append, drop_more_same}, lemmas.List.{take-append-drop, append-nil}}
use Rattle.std.proofs.lemmas.List.{take_more, take_more_set, map_more, drop-set-lt, drop-drop, length-set, length-append, length-take-le, length-drop}
use Rattle.std.proofs.lemmas.{Option.{slice_get_within, get_or_from_slice_get, slice_get_cases}, Slice.{take-put_mid, drop-put_mid}}
use Rattle.std.specs.{List.{flat_map}, Prelude.{is_some}}
use borrow.Rule.Slice.PartMut.{put_mid}

module _ {I E : Type 0} (event : I → E) (user : I → List ℕ) (items : List I) where
  abbrev pub octets : ℕ → List ℕ
  octets k = flat_map user (take k items)

  -- the first k stand in the places of a list, and their octets at the front of a room
  pub record AreTaken (k at : ℕ) (old now : List E) (before room : List ℕ) : Type 0 where
    pub there : k ≤ length items
    pub events : take k now ≡ map event (take k items)
    pub rest : drop k now ≡ drop k old
    pub filled : at ≡ length (octets k)
    pub fits : at ≤ length before
    pub front : take at room ≡ octets k
    pub back : drop at room ≡ drop at before
    pub as_many : length now ≡ length old
    pub as_long : length room ≡ length before

  pub none : (old : List E) (before : List ℕ) → AreTaken 0 0 old old before before
  none old before = record {
    there = omega arith;
    events = refl;
    rest = refl;
    filled = refl;
    fits = omega arith;
    front = refl;
    back = refl;
    as_many = refl;
    as_long = refl;
  }

  more : (k : ℕ) (x : I) → slice_get items k ≡ Some x → octets (k + 1) ≡ octets k ++ user x
  more k x at =
      ap (flat_map user) (take_more items k x (slice_get_within items k x at))
      ∙ flat_map-append user (take k items) (get_or items k x ∷ [])
      ∙ ap (λ y. octets k ++ (user y ++ [])) (get_or_from_slice_get items k x x at) ∙ ap (λ os. octets k ++ os) (append-nil (user x))

  pub one_more : (k at n : ℕ) (x : I) (e : E) (os : List ℕ) (old now : List E) (before room : List ℕ) → AreTaken k at old now before room → slice_get items k
      ≡ Some x → e ≡ event x → os ≡ user x
      → k < length now → n ≡ length os → length os ≤ length room - at → AreTaken (k + 1) (at + length os) old (set now k e) before (put_mid at n room os)
  one_more k at n x e os old now before room t found same octets_same within long fits =
      let there = slice_get_within items k x found in
      let inside : at ≤ length room = omega (arith, t.fits, t.as_long) in record {
        there = omega arith;
        events = take_more_set now k e within ∙ ap (λ es. es ++ e ∷ []) t.events
            ∙ ap (λ y. map event (take k items) ++ y ∷ []) (same ∙ ap event (sym (get_or_from_slice_get items k x x found)))
            ∙ sym (map_more event items k x there);
        rest = drop-set-lt (k + 1) now k e (omega arith) ∙ drop_more_same now old k t.rest;
        filled = ap (λ i. i + length os) t.filled ∙ sym (length-append (octets k) os) ∙ ap (λ o. length (octets k ++ o)) octets_same
            ∙ ap length (sym (more k x found));
        fits = omega (arith, t.as_long);
        front = take-put_mid at n room os (at + length os) refl inside ∙ ap (λ o. o ++ os) t.front ∙ ap (λ o. octets k ++ o) octets_same ∙ sym (more k x found);
        back = drop-put_mid at n room os (at + length os) (omega (arith, long)) inside (sym long) ∙ sym (drop-drop (length os) at room)
            ∙ ap (drop (length os)) t.back ∙ drop-drop (length os) at before;
        as_many = length-set now k e ∙ t.as_many;
        as_long = omega (
          arith,
          t.as_long,
          long,
          length-append (take at room) (os ++ drop n (drop at room)),
          length-append os (drop n (drop at room)),
          length-take-le at room inside,
          length-drop n (drop at room),
          length-drop at room,
        );
      }

  pub events_are : (k at : ℕ) (old now : List E) (before room : List ℕ) → AreTaken k at old now before room → now ≡ map event (take k items) ++ drop k old
  events_are k at old now before room t = sym (take-append-drop k now) ∙ ap (λ es. es ++ drop k now) t.events ∙ ap (λ es. map event (take k items) ++ es) t.rest

  pub octets_are : (k at : ℕ) (old now : List E) (before room : List ℕ) → AreTaken k at old now before room → room ≡ octets k ++ drop (length (octets k)) before
  octets_are k at old now before room t =
      sym (take-append-drop at room) ∙ ap (λ os. os ++ drop at room) t.front ∙ ap (λ os. octets k ++ os) (t.back ∙ ap (λ i. drop i before) t.filled)

  gone : (k : ℕ) → k ≤ length items → slice_get items k ≡ None → ((x : I) × (k < length items) × (slice_get items k ≡ Some x) × (get_or items k x ≡ x))
      ⊎ ((length items ≤ k) × (slice_get items k ≡ None)) → k ≡ length items
  gone k few missing (inl found) = absurd (true≢false (sym (ap is_some found.2) ∙ ap is_some missing))
  gone k few missing (inr past) = omega (arith, past.0)

  pub all_gone : (k : ℕ) → k ≤ length items → slice_get items k ≡ None → k ≡ length items
  all_gone k few missing = gone k few missing (slice_get_cases items k).1

  pub too_long : (k at : ℕ) (x : I) (old now : List E) (before room : List ℕ) → AreTaken k at old now before room → slice_get items k ≡ Some x
      → length room - at < length (user x) → length before < length (octets (k + 1))
  too_long k at x old now before room t found over = omega (arith, t.as_long, t.fits, t.filled, length-append (octets k) (user x), ap length (more k x found))
