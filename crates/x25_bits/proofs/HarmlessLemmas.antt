-- What is found in bits between two flags, and of several such one after another.
use Rattle.std.proofs.Common.{ℕ, suc, ◌≡◌, ◌∙◌, Bool, true, false, not, ◌&&◌, List, [], ◌∷◌, ◌++◌, length, map, drop, refl, ap, sym, arith, append_assoc}
use Rattle.std.proofs.Common.{length-append}
use Rattle.std.proofs.lemmas.Bool.{and_parts}
use Rattle.std.specs.Prelude.{All}
use Rattle.std.specs.List.{flat_map, list_all}
use Rattle.std.proofs.lemmas.List.{append-nil}
use Rattle.std.proofs.lemmas.List.Elements.{All-cons, All-nil}
use Rattle.std.proofs.lemmas.Grind.{flat_map-append}
use Rattle.x25_bits.specs.FrameCheck.{bits_of}
use Rattle.x25_bits.specs.Deframer.{flag, places_below, between, is_flag_at, begins_with_flag, spans_of}
use Rattle.x25_bits.specs.Stuffing.{stuff, unstuffed_from, framed}
use Rattle.x25_bits.specs.Found.{Class, Content, Abort, Short, Long, Ragged, seven_from, run_from, class_by, class_of, reported, found_of}
use Rattle.x25_bits.specs.FrameCheck.Sealed.{is_sealed}
use Rattle.x25_bits.specs.code.Plain.{plain, plains}
use Rattle.x25_bits.specs.HarmlessBits.{between_flags, IsHarmless, IsFrame, is_sealed_content, sealed_octets, sealed_contents, first_content}
use Rattle.x25_bits.specs.declared.found.Found.{Found}
use Rattle.x25_bits.proofs.FoundLemmas.{found_more}
use Rattle.x25_bits.proofs.FeedLemmas.{found_all}
use Rattle.x25_bits.proofs.PutLemmas.{put_found}
use Rattle.x25_bits.proofs.LawLemmas.{flag_cuts, each_small}

-- ---- none passes

abbrev Unsealed : Class → Type 0
Unsealed c = (octets : List ℕ) → c ≡ Content octets → is_sealed octets ≡ false

abbrev UnsealedSpan : List Bool → Type 0
UnsealedSpan span = Unsealed (class_of span)

-- the test of one
abbrev fails : Class → Bool
fails c = not (is_sealed_content c)

unsealed_when : (c : Class) → fails c ≡ true → Unsealed c
unsealed_when (Content o) h = λ octets e. go (is_sealed o) refl octets e
  where
    go : (t : Bool) → is_sealed o ≡ t → (octets : List ℕ) → Content o ≡ Content octets → is_sealed octets ≡ false
    go true f octets e = let bad : false ≡ true = rw f at h in cc
    go false f octets e = cc
unsealed_when Abort h = λ octets e. cc
unsealed_when Short h = λ octets e. cc
unsealed_when Long h = λ octets e. cc
unsealed_when Ragged h = λ octets e. cc

when_unsealed : (c : Class) → Unsealed c → fails c ≡ true
when_unsealed (Content o) u = rw (u o refl) refl
when_unsealed Abort u = refl
when_unsealed Short u = refl
when_unsealed Long u = refl
when_unsealed Ragged u = refl

no_octets : (c : Class) → Unsealed c → sealed_octets c ≡ []
no_octets (Content o) u = rw (u o refl) refl
no_octets Abort u = refl
no_octets Short u = refl
no_octets Long u = refl
no_octets Ragged u = refl

all_head : {X : Type 0} (P : X → Type 0) (x : X) (xs : List X) → All P (x ∷ xs) → P x
all_head P x xs h = h 0 x (omega arith)

all_tail : {X : Type 0} (P : X → Type 0) (x : X) (xs : List X) → All P (x ∷ xs) → All P xs
all_tail P x xs h = λ k d i. h (suc k) d (omega (arith, i))

empty_unsealed : UnsealedSpan []
unfolding class_of seven_from run_from unstuffed_from class_by
empty_unsealed = λ octets e. let bad : Short ≡ Content octets = e in cc

all_when : (spans : List (List Bool)) → list_all fails (flat_map reported spans) ≡ true → All UnsealedSpan spans
all_when [] h = All-nil UnsealedSpan
all_when ([] ∷ spans) h = All-cons UnsealedSpan [] spans empty_unsealed (all_when spans h)
all_when ((b ∷ span) ∷ spans) h =
    let parts = and_parts (fails (class_of (b ∷ span))) (list_all fails (flat_map reported spans)) h in
    All-cons UnsealedSpan (b ∷ span) spans (unsealed_when (class_of (b ∷ span)) parts.0) (all_when spans parts.1)

when_all : (spans : List (List Bool)) → All UnsealedSpan spans → list_all fails (flat_map reported spans) ≡ true
when_all [] h = refl
when_all ([] ∷ spans) h = when_all spans (all_tail UnsealedSpan [] spans h)
when_all ((b ∷ span) ∷ spans) h =
    rw (when_unsealed (class_of (b ∷ span)) (all_head UnsealedSpan (b ∷ span) spans h), when_all spans (all_tail UnsealedSpan (b ∷ span) spans h)) refl

all_plain : (found : List Found) → list_all (λ one. not (is_sealed_content (plain one))) found ≡ list_all fails (plains found)
all_plain [] = refl
all_plain (one ∷ found) = ap (λ b. not (is_sealed_content (plain one)) && b) (all_plain found)

pub tested_harmless : (bits : List Bool) (found : List Found) → plains found ≡ found_of (between_flags bits)
    → list_all (λ one. not (is_sealed_content (plain one))) found ≡ true → IsHarmless bits
tested_harmless bits found e h = all_when (spans_of (between_flags bits)) (ap (list_all fails) (sym e) ∙ sym (all_plain found) ∙ h)

pub harmless_tested : (bits : List Bool) (found : List Found) → plains found ≡ found_of (between_flags bits)
    → IsHarmless bits → list_all (λ one. not (is_sealed_content (plain one))) found ≡ true
harmless_tested bits found e h = all_plain found ∙ ap (list_all fails) e ∙ when_all (spans_of (between_flags bits)) h

-- ---- a flag, bits and a flag fed one after another

found_step : (before more : List Bool) → found_of before ++ drop (length (found_of before)) (found_of (before ++ more)) ≡ found_of (before ++ more)
found_step before more = ap (λ l. found_of before ++ l) (sym (found_all before more)) ∙ sym (found_more before more)

found_nothing : found_of [] ≡ []
unfolding places_below between
found_nothing = refl

pub found_thrice : (ends bits : List Bool) (none one two three : List Class) → ends ≡ flag → none ≡ []
    → one ≡ none ++ drop (length (found_of [])) (found_of ends)
    → two ≡ one ++ drop (length (found_of ends)) (found_of (ends ++ bits))
    → three ≡ two ++ drop (length (found_of (ends ++ bits))) (found_of (ends ++ bits ++ ends))
    → three ≡ found_of (between_flags bits)
found_thrice ends bits none one two three e n f g h =
    let first : one ≡ found_of ends = f ∙ ap (λ l. l ++ drop (length (found_of [])) (found_of ends)) n
    ∙ ap (λ (l : List Class). drop (length l) (found_of ends)) found_nothing in
    let second : two ≡ found_of (ends ++ bits) = g ∙ ap (λ l. l ++ drop (length (found_of ends)) (found_of (ends ++ bits))) first ∙ found_step ends bits in
    let third : three ≡ found_of (ends ++ bits ++ ends) =
    h ∙ ap (λ l. l ++ drop (length (found_of (ends ++ bits))) (found_of (ends ++ bits ++ ends))) second ∙ found_step (ends ++ bits) ends in
    third ∙ ap (λ l. found_of (l ++ bits ++ l)) e

-- ---- one after another

two_flags : found_of (flag ++ flag) ≡ []
unfolding places_below between is_flag_at begins_with_flag
two_flags = refl

found_next : (bits more : List Bool) → found_of (between_flags bits ++ (flag ++ more)) ≡ found_of (between_flags bits) ++ found_of (flag ++ more)
found_next bits more =
    flag_cuts (flag ++ bits) (flag ++ more)
    ∙ ap (λ l. found_of (between_flags bits) ++ l) (flag_cuts flag more ∙ ap (λ l. l ++ found_of (flag ++ more)) two_flags)

pub contents_parted : (pieces : List (List Bool)) → sealed_contents (flat_map between_flags pieces)
    ≡ flat_map (λ bits. sealed_contents (between_flags bits)) pieces
contents_parted [] = ap (flat_map sealed_octets) found_nothing
contents_parted (bits ∷ []) = ap sealed_contents (append-nil (between_flags bits)) ∙ sym (append-nil (sealed_contents (between_flags bits)))
contents_parted (bits ∷ next ∷ pieces) =
    let more = (next ++ flag) ++ flat_map between_flags pieces in
    ap (flat_map sealed_octets) (found_next bits more)
    ∙ flat_map-append sealed_octets (found_of (between_flags bits)) (found_of (flag ++ more))
    ∙ ap (λ l. sealed_contents (between_flags bits) ++ l) (contents_parted (next ∷ pieces))

pub content_of_frame : (octets : List ℕ) → IsFrame octets → sealed_contents (framed octets) ≡ octets ∷ []
content_of_frame octets f =
    ap (flat_map sealed_octets) (put_found octets (each_small octets f.small) f.fewest f.most) ∙ rw f.sealed refl

none_found : (spans : List (List Bool)) → All UnsealedSpan spans → flat_map sealed_octets (flat_map reported spans) ≡ []
none_found [] h = refl
none_found ([] ∷ spans) h = none_found spans (all_tail UnsealedSpan [] spans h)
none_found ((b ∷ span) ∷ spans) h =
    ap (λ l. l ++ flat_map sealed_octets (flat_map reported spans)) (no_octets (class_of (b ∷ span)) (all_head UnsealedSpan (b ∷ span) spans h))
    ∙ none_found spans (all_tail UnsealedSpan (b ∷ span) spans h)

pub harmless_has_none : (bits : List Bool) → IsHarmless bits → sealed_contents (between_flags bits) ≡ []
harmless_has_none bits h = none_found (spans_of (between_flags bits)) h

-- the bits between the flags of frames
abbrev insides : List (List ℕ) → List (List Bool)
insides frames = map (λ octets. stuff (bits_of octets)) frames

all_framed : (frames : List (List ℕ)) → flat_map framed frames ≡ flat_map between_flags (insides frames)
all_framed [] = refl
all_framed (octets ∷ frames) = ap (λ l. framed octets ++ l) (all_framed frames)

contents_of_frames : (frames : List (List ℕ)) → All IsFrame frames → flat_map (λ bits. sealed_contents (between_flags bits)) (insides frames) ≡ frames
contents_of_frames [] h = refl
contents_of_frames (octets ∷ frames) h =
    ap (λ l. l ++ flat_map (λ bits. sealed_contents (between_flags bits)) (insides frames)) (content_of_frame octets (all_head IsFrame octets frames h))
    ∙ ap (λ l. octets ∷ l) (contents_of_frames frames (all_tail IsFrame octets frames h))

pub contents_with : (before after : List (List ℕ)) (bits : List Bool) → All IsFrame before → All IsFrame after
    → sealed_contents (flat_map framed before ++ between_flags bits ++ flat_map framed after) ≡ before ++ sealed_contents (between_flags bits) ++ after
contents_with before after bits f g =
    let contents : List Bool → List (List ℕ) = λ bits. sealed_contents (between_flags bits) in
    let whole : flat_map framed before ++ between_flags bits ++ flat_map framed after ≡ flat_map between_flags (insides before ++ bits ∷ insides after) =
    append_assoc (flat_map framed before) (between_flags bits) (flat_map framed after)
    ∙ ap (λ l. l ++ (between_flags bits ++ flat_map framed after)) (all_framed before)
    ∙ ap (λ l. flat_map between_flags (insides before) ++ (between_flags bits ++ l)) (all_framed after)
    ∙ sym (flat_map-append between_flags (insides before) (bits ∷ insides after)) in
    ap sealed_contents whole
    ∙ contents_parted (insides before ++ bits ∷ insides after)
    ∙ flat_map-append contents (insides before) (bits ∷ insides after)
    ∙ ap (λ l. l ++ (contents bits ++ flat_map contents (insides after))) (contents_of_frames before f)
    ∙ ap (λ l. before ++ (contents bits ++ l)) (contents_of_frames after g)
    ∙ sym (append_assoc before (contents bits) after)

-- ---- harmless bits alone

both_empty : {X : Type 0} (a b : List X) → a ++ b ≡ [] → (a ≡ []) × (b ≡ [])
both_empty [] b h = (refl, h)
both_empty (x ∷ a) b h = cc

when_no_octets : (c : Class) → sealed_octets c ≡ [] → Unsealed c
when_no_octets (Content o) h = go (is_sealed o) refl
  where
    go : (t : Bool) → is_sealed o ≡ t → Unsealed (Content o)
    go true f = let bad : o ∷ [] ≡ [] = rw f at h in cc
    go false f = λ octets e. cc
when_no_octets Abort h = λ octets e. cc
when_no_octets Short h = λ octets e. cc
when_no_octets Long h = λ octets e. cc
when_no_octets Ragged h = λ octets e. cc

all_unsealed : (spans : List (List Bool)) → flat_map sealed_octets (flat_map reported spans) ≡ [] → All UnsealedSpan spans
all_unsealed [] h = All-nil UnsealedSpan
all_unsealed ([] ∷ spans) h = All-cons UnsealedSpan [] spans empty_unsealed (all_unsealed spans h)
all_unsealed ((b ∷ span) ∷ spans) h =
    let parts = both_empty (sealed_octets (class_of (b ∷ span))) (flat_map sealed_octets (flat_map reported spans)) h in
    All-cons UnsealedSpan (b ∷ span) spans (when_no_octets (class_of (b ∷ span)) parts.0) (all_unsealed spans parts.1)

nothing_between : (before between after : List (List ℕ)) → before ++ between ++ after ≡ before ++ after → between ≡ []
nothing_between before [] after h = refl
nothing_between before (x ∷ between) after h =
    let whole = ap length h in
    let left = length-append (before ++ x ∷ between) after in
    let inner = length-append before (x ∷ between) in
    let right = length-append before after in
    absurd (omega arith)

pub lost_one : (before after : List (List ℕ)) (bits : List Bool) → All IsFrame before → All IsFrame after → IsHarmless bits
    → sealed_contents (flat_map framed before ++ between_flags bits ++ flat_map framed after) ≡ before ++ after
lost_one before after bits f g h =
    contents_with before after bits f g ∙ ap (λ l. before ++ l ++ after) (harmless_has_none bits h) ∙ ap (λ l. l ++ after) (append-nil before)

pub lost_by_harmless : (before after : List (List ℕ)) (bits : List Bool) → All IsFrame before → All IsFrame after
    → sealed_contents (flat_map framed before ++ between_flags bits ++ flat_map framed after) ≡ before ++ after → IsHarmless bits
lost_by_harmless before after bits f g h =
    all_unsealed (spans_of (between_flags bits))
    (nothing_between before (sealed_contents (between_flags bits)) after (sym (contents_with before after bits f g) ∙ h))

first_of_one : (c : Class) (found : List Class) → Unsealed c → is_sealed (first_content found) ≡ false → is_sealed (first_content (c ∷ found)) ≡ false
unfolding first_content
first_of_one (Content o) found u h = u o refl
first_of_one Abort found u h = h
first_of_one Short found u h = h
first_of_one Long found u h = h
first_of_one Ragged found u h = h

first_unsealed : (spans : List (List Bool)) → All UnsealedSpan spans → is_sealed (first_content (flat_map reported spans)) ≡ false
unfolding first_content is_sealed
first_unsealed [] h = refl
first_unsealed ([] ∷ spans) h = first_unsealed spans (all_tail UnsealedSpan [] spans h)
first_unsealed ((b ∷ span) ∷ spans) h =
    first_of_one (class_of (b ∷ span)) (flat_map reported spans) (all_head UnsealedSpan (b ∷ span) spans h)
    (first_unsealed spans (all_tail UnsealedSpan (b ∷ span) spans h))

pub first_of_harmless : (bits : List Bool) → IsHarmless bits → is_sealed (first_content (found_of (between_flags bits))) ≡ false
first_of_harmless bits h = first_unsealed (spans_of (between_flags bits)) h
