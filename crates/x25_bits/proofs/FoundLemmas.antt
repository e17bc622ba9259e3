-- What is found in more bits.
use Rattle.std.proofs.Common.{◌≡◌, ◌∙◌, Bool, true, false, not, ◌&&◌, ◌==◌, List, [], ◌∷◌, ◌++◌, refl, ap, sym, subst, append_assoc}
use Rattle.std.proofs.lemmas.List.{append-nil}
use Rattle.std.specs.List.{flat_map}
use Rattle.x25_bits.specs.Deframer.{flag_places, spans_of, places_below}
use Rattle.x25_bits.proofs.SpanSteps.{State, start, FitsAt, stepped, found, closed, ends_flag}
use Rattle.x25_bits.proofs.SpanLemmas.{law_fits, law_spans}
use Rattle.x25_bits.specs.Found.{reported, found_of}
use Rattle.x25_bits.specs.code.Held.{none_held, fresh, held_next, held_from, held_of, closing, Seen, none_seen, ends, seen_next, seen_found, seen_from}
use Rattle.x25_bits.specs.code.Held.{found_from, seen_of}
use Rattle.x25_bits.proofs.RunLemmas.{flags_held, held-append}
use Rattle.x25_bits.proofs.ClosingLemmas.{closes_held}

-- behind a flag the text begins with the flag's last 0
abbrev pub BehindFlag : State → Type 0
BehindFlag s = s.is_open ≡ true → (rest : List Bool) × (s.text ≡ false ∷ rest)

-- what is seen bit by bit is what is held of the text
pub record Matches (s : State) (v : Seen) : Type 0 where
  pub same : v ≡ record { is_open = s.is_open; held = held_of s.text }
  pub begins : BehindFlag s

held_snoc : (text : List Bool) (b : Bool) → held_of (text ++ b ∷ []) ≡ held_next (held_of text) b
unfolding held_from
held_snoc text b = held-append none_held text (b ∷ [])

held_fresh : fresh ≡ held_of (false ∷ [])
unfolding held_from
held_fresh = refl

begins_more : (s : State) (b : Bool) → BehindFlag s → BehindFlag (record s { text = s.text ++ b ∷ [] })
begins_more s b h o = let r = h o in (r.0 ++ b ∷ [], ap (λ l. l ++ b ∷ []) r.1)

next_so : (s : State) (v : Seen) (b t : Bool) → ends_flag (s.text ++ b ∷ []) ≡ t → ends v b ≡ t → Matches s v → Matches (stepped s b) (seen_next v b)
next_so s v b true e f m = rw (e, f) (record { same = ap (λ h. record { is_open = true; held = h }) held_fresh; begins = λ o. ([], refl) })
next_so s v b false e f m = rw (e, f)
    (record {
      same = ap (λ (w : Seen). record w { held = held_next w.held b }) m.same
          ∙ ap (λ h. record { is_open = s.is_open; held = h }) (sym (held_snoc s.text b));
      begins = begins_more s b m.begins;
    })

same_ends : (s : State) (v : Seen) (b : Bool) → Matches s v → ends_flag (s.text ++ b ∷ []) ≡ ends v b
same_ends s v b m = flags_held s.text b ∙ ap (λ (w : Seen). ends w b) (sym m.same)

matches_next : (s : State) (v : Seen) (b : Bool) → Matches s v → Matches (stepped s b) (seen_next v b)
matches_next s v b m = next_so s v b (ends v b) (same_ends s v b m) refl m

pub right_true : (a b : Bool) → (a && b) ≡ true → b ≡ true
right_true true b e = e
right_true false b e = let bad : false ≡ true = e in cc

one_reported : (span : List Bool) → flat_map reported (span ∷ []) ≡ reported span
one_reported span = append-nil (reported span)

closes_so : (text : List Bool) (b : Bool) → (rest : List Bool) × (text ≡ false ∷ rest) → ((held_of text).run == 6) ≡ true
    → reported (closed (text ++ b ∷ [])) ≡ closing (held_of text)
closes_so text b r e = rw r.1 (closes_held r.0 b (rw r.1 at e))

found_so : (s : State) (v : Seen) (b t o : Bool) → ends_flag (s.text ++ b ∷ []) ≡ t → ends v b ≡ t → s.is_open ≡ o → v.is_open ≡ o → Matches s v
    → flat_map reported (found s b) ≡ seen_found v b
found_so s v b false o e f p q m = rw (e, f) refl
found_so s v b true false e f p q m = rw (e, f, p, q) refl
found_so s v b true true e f p q m =
    let run : (v.held.run == 6) ≡ true = right_true (not b) (v.held.run == 6) f in
    let held : v.held ≡ held_of s.text = ap (λ (w : Seen). w.held) m.same in
    rw (e, f, p, q) (one_reported (closed (s.text ++ b ∷ [])) ∙ closes_so s.text b (m.begins p) (rw held at run) ∙ ap closing (sym held))

found_next : (s : State) (v : Seen) (b : Bool) → Matches s v → flat_map reported (found s b) ≡ seen_found v b
found_next s v b m = found_so s v b (ends v b) s.is_open (same_ends s v b m) refl refl (ap (λ (w : Seen). w.is_open) m.same) m

flat_append : (xs ys : List (List Bool)) → flat_map reported (xs ++ ys) ≡ flat_map reported xs ++ flat_map reported ys
flat_append [] ys = refl
flat_append (x ∷ xs) ys = ap (λ l. reported x ++ l) (flat_append xs ys) ∙ sym (append_assoc (reported x) (flat_map reported xs) (flat_map reported ys))

found_one : (s : State) (v : Seen) (bits : List Bool) (b : Bool) → FitsAt s bits (flag_places bits) → Matches s v
    → found_of (bits ++ b ∷ []) ≡ found_of bits ++ seen_found v b
found_one s v bits b fits m =
    ap (flat_map reported) (law_spans s bits b fits) ∙ flat_append (spans_of bits) (found s b) ∙ ap (λ l. found_of bits ++ l) (found_next s v b m)

grown : (s : State) (v : Seen) (bits more : List Bool) → FitsAt s bits (flag_places bits) → Matches s v
    → found_of (bits ++ more) ≡ found_of bits ++ found_from v more
unfolding found_from
grown s v bits [] fits m = ap found_of (append-nil bits) ∙ sym (append-nil (found_of bits))
grown s v bits (b ∷ more) fits m =
    ap found_of (sym (append_assoc bits (b ∷ []) more))
    ∙ grown (stepped s b) (seen_next v b) (bits ++ b ∷ []) more (law_fits s bits b fits) (matches_next s v b m)
    ∙ ap (λ l. l ++ found_from (seen_next v b) more) (found_one s v bits b fits m)
    ∙ append_assoc (found_of bits) (seen_found v b) (found_from (seen_next v b) more)

-- a state for all bits
reaches : (s : State) (v : Seen) (bits more : List Bool) → FitsAt s bits (flag_places bits) → Matches s v
    → (t : State) × (FitsAt t (bits ++ more) (flag_places (bits ++ more)) × Matches t (seen_from v more))
unfolding seen_from
reaches s v bits [] fits m = let P : List Bool → Type 0 = λ l. FitsAt s l (flag_places l) in (s, (subst P (sym (append-nil bits)) fits, m))
reaches s v bits (b ∷ more) fits m =
    let P : List Bool → Type 0 = λ l. (t : State) × (FitsAt t l (flag_places l) × Matches t (seen_from (seen_next v b) more)) in
    subst P (append_assoc bits (b ∷ []) more)
    (reaches (stepped s b) (seen_next v b) (bits ++ b ∷ []) more (law_fits s bits b fits) (matches_next s v b m))

start_matches : Matches start none_seen
unfolding held_from
start_matches = record { same = refl; begins = λ o. let bad : false ≡ true = o in cc }

start_fits : FitsAt start [] (flag_places [])
unfolding places_below
start_fits = refl

-- what is seen of all bits
pub seen_state : (bits : List Bool) → (t : State) × (FitsAt t bits (flag_places bits) × Matches t (seen_of bits))
seen_state bits = reaches start none_seen [] bits start_fits start_matches

pub found_more : (bits more : List Bool) → found_of (bits ++ more) ≡ found_of bits ++ found_from (seen_of bits) more
found_more bits more = let t = seen_state bits in grown t.0 (seen_of bits) bits more t.1.0 t.1.1

pub seen-append : (v : Seen) (a b : List Bool) → seen_from v (a ++ b) ≡ seen_from (seen_from v a) b
unfolding seen_from
seen-append v [] b = refl
seen-append v (x ∷ a) b = seen-append (seen_next v x) a b
