-- Bits that are read, and the lines for what is found in them.
use Rattle.x25_bit_line.proofs.Names.{◌≡◌, ◌∙◌, ◌+◌, ◌-◌, ◌*◌, ◌/◌, ◌≤◌, ℕ, zero, suc, Bool, List, [], ◌∷◌, ◌++◌, length, take, drop, Option, append_assoc, ap}
use Rattle.x25_bit_line.proofs.Names.{sym, subst, refl, arith, length-append, append-nil, take-append-drop, Role, AppendsPrefix, Tells, prefix_more}
use Rattle.std.proofs.{Math.Seq.{take-add}, lemmas.Grind.{flat_map-append}, lemmas.List.{take_all, drop_at}}
use Rattle.x25_bit_line.specs.{Deframing.{class_line, class_lines}, code.Reads.{Reads, ReadsOn}, declared.finder.Finder.{Finder}}
use Rattle.x25_bits.specs.{Deframer.{between, places_below}, Found.{Class, found_of}, FrameCheck.{bits_of, low_bits}, code.Fits.{Fits}, code.Prefix.{IsPrefix}}
use Rattle.x25_bits.specs.{code.Reading.{part}, declared.deframer.Deframer.{Deframer}, laws.Cuts.{found_more}}
use Rattle.x25_io.proofs.ToldLemmas.{none_told}

length-low_bits : (k n : ℕ) → length (low_bits k n) ≡ k
unfolding low_bits
length-low_bits zero n = refl
length-low_bits (suc k) n = ap suc (length-low_bits k (n / 2))

pub length-bits_of : (octets : List ℕ) → length (bits_of octets) ≡ 8 * length octets
length-bits_of [] = refl
length-bits_of (o ∷ octets) = length-append (low_bits 8 o) (bits_of octets) ∙ (let a = length-low_bits 8 o in let b = length-bits_of octets in omega arith)

pub bits_of-append : (a b : List ℕ) → bits_of (a ++ b) ≡ bits_of a ++ bits_of b
bits_of-append a b = flat_map-append (low_bits 8) a b

-- what is found stays found
abbrev pub Stays : Type 0
Stays = (before more : List Bool) → IsPrefix (found_of before) (found_of (before ++ more))

found_grows : Stays → (before cut : List Bool) → found_of (before ++ cut) ≡ found_of before ++ found_more before cut
found_grows stays before cut =
    let b = stays before cut in
    b.1 ∙ ap (λ l. found_of before ++ l) (sym (ap (drop (length (found_of before))) b.1 ∙ drop_at (found_of before) b.0 (length (found_of before)) refl))

-- the lines for what one more cut finds
pub lines_grow : Stays → (from : Role) (before cut : List Bool) (classes : List Class) → classes ≡ found_more before cut
    → class_lines from (found_of before) ++ class_lines from classes ≡ class_lines from (found_of (before ++ cut))
lines_grow stays from before cut classes e =
    ap (λ l. class_lines from (found_of before) ++ class_lines from l) e
    ∙ sym (flat_map-append (class_line from) (found_of before) (found_more before cut))
    ∙ ap (class_lines from) (sym (found_grows stays before cut))

-- a beginning of the lines so far is one of all
pub begins_all : Stays → (from : Role) (old now : Option (List ℕ)) (before more : List Bool)
    → AppendsPrefix old now (class_lines from (found_of before)) → AppendsPrefix old now (class_lines from (found_of (before ++ more)))
begins_all stays from old now before more b =
    subst (AppendsPrefix old now) (lines_grow stays from before more (found_more before more) refl)
    (prefix_more old now (class_lines from (found_of before)) (class_lines from (found_more before more)) b)

module _ (stays : Stays) (from : Role) (old now : Option (List ℕ)) (before : List Bool) where
  -- a span is told
  pub told_more : (d : Deframer) (text : List ℕ) (cut : List Bool) (classes : List Class) → classes ≡ found_more before cut → Fits d (before ++ cut)
      → Tells old now text (class_lines from (found_of before) ++ class_lines from classes) → Reads from old now d text (before ++ cut)
  told_more d text cut classes e fits tells = record { fits = fits; tells = subst (Tells old now text) (lines_grow stays from before cut classes e) tells }

  -- a span wasn't told whole
  pub told_part : (at place : ℕ) (bits : List Bool) (classes : List Class) → classes ≡ found_more before (part at place bits)
      → AppendsPrefix old now (class_lines from (found_of before) ++ class_lines from classes)
      → AppendsPrefix old now (class_lines from (found_of (before ++ drop at bits)))
  told_part at place bits classes e b =
      let cut = part at place bits in
      let whole : (before ++ cut) ++ drop (place - at) (drop at bits) ≡ before ++ drop at bits =
      append_assoc before cut (drop (place - at) (drop at bits)) ∙ ap (λ l. before ++ l) (take-append-drop (place - at) (drop at bits)) in
      subst (λ l. AppendsPrefix old now (class_lines from (found_of l))) whole
      (begins_all stays from old now (before ++ cut) (drop (place - at) (drop at bits))
      (subst (AppendsPrefix old now) (lines_grow stays from before cut classes e) b))

-- one cut behind another
next_place : (before bits : List Bool) (at place : ℕ) → at ≤ place → (before ++ take at bits) ++ part at place bits ≡ before ++ take place bits
next_place before bits at place h =
    let there : at + (place - at) ≡ place = omega arith in
    append_assoc before (take at bits) (part at place bits) ∙ ap (λ l. before ++ l) (sym (take-add at (place - at) bits) ∙ ap (λ n. take n bits) there)

pub reads_next : (from other : Role) (old now : Option (List ℕ)) (d : Deframer) (text : List ℕ) (before bits : List Bool) (at place : ℕ) → other ≡ from → at
    ≤ place
    → Reads other old now d text ((before ++ take at bits) ++ part at place bits) → Reads from old now d text (before ++ take place bits)
reads_next from other old now d text before bits at place e h r =
    subst (Reads from old now d text) (next_place before bits at place h)
    (subst (λ (f : Role). Reads f old now d text ((before ++ take at bits) ++ part at place bits)) e r)

pub rest_of_bits : (before bits : List Bool) (at : ℕ) → (before ++ take at bits) ++ drop at bits ≡ before ++ bits
rest_of_bits before bits at = append_assoc before (take at bits) (drop at bits) ∙ ap (λ l. before ++ l) (take-append-drop at bits)

pub all_bits : (before : List Bool) (octets : List ℕ) (at : ℕ) → 8 * length octets ≤ at → before ++ take at (bits_of octets) ≡ before ++ bits_of octets
all_bits before octets at h = let size = length-bits_of octets in ap (λ l. before ++ l) (take_all at (bits_of octets) (omega (arith, size)))

-- ---- octets that were read

pub read_begun : Stays → (from : Role) (old now : Option (List ℕ)) (done rest input : List ℕ) → done ++ rest ≡ input
    → AppendsPrefix old now (class_lines from (found_of (bits_of done))) → AppendsPrefix old now (class_lines from (found_of (bits_of input)))
read_begun stays from old now done rest input e b =
    subst (λ bits. AppendsPrefix old now (class_lines from (found_of bits))) (sym (bits_of-append done rest) ∙ ap bits_of e)
    (begins_all stays from old now (bits_of done) (bits_of rest) b)

-- more octets of a piece
pub octets_more : (before : List Bool) (part more : List ℕ) → (before ++ bits_of part) ++ bits_of more ≡ before ++ bits_of (part ++ more)
octets_more before part more = append_assoc before (bits_of part) (bits_of more) ∙ ap (λ l. before ++ l) (sym (bits_of-append part more))

pub piece_split : (done part front left rest piece later input : List ℕ) → done ++ (piece ++ later) ≡ input → piece ≡ part ++ left → left ≡ front ++ rest
    → ((done ++ part) ++ front) ++ (rest ++ later) ≡ input
piece_split done part front left rest piece later input e f h =
    append_assoc (done ++ part) front (rest ++ later)
    ∙ append_assoc done part (front ++ (rest ++ later))
    ∙ ap (λ l. done ++ (part ++ l)) (sym (append_assoc front rest later))
    ∙ ap (λ l. done ++ (part ++ (l ++ later))) (sym h)
    ∙ ap (λ l. done ++ l) (sym (append_assoc part left later))
    ∙ ap (λ l. done ++ (l ++ later)) (sym f) ∙ e

pub piece_read : (done part left piece later input : List ℕ) → done ++ (piece ++ later) ≡ input → piece ≡ part ++ left → left ≡ [] → (done ++ piece) ++ later
    ≡ input
piece_read done part left piece later input e f h = append_assoc done piece later ∙ e

-- all of a piece was read
pub reads_piece : (from : Role) (old now : Option (List ℕ)) (d : Deframer) (text done part left piece : List ℕ) → piece ≡ part ++ left → left ≡ []
    → Reads from old now d text (bits_of done ++ bits_of part) → Reads from old now d text (bits_of (done ++ piece))
reads_piece from old now d text done part left piece f h r =
    subst (Reads from old now d text) (sym (bits_of-append done part)
    ∙ ap (λ l. bits_of (done ++ l)) (sym (append-nil part) ∙ ap (λ l. part ++ l) (sym h) ∙ sym f)) r

-- before anything is read
pub reads_start : (from : Role) (old : Option (List ℕ)) (f : Finder) (input : List ℕ) → f.lines.from ≡ from → Fits f.deframer [] → f.lines.output ≡ []
    → ReadsOn from f old old input input
unfolding places_below between
reads_start from old f input same fits empty = record {
  role = same;
  done = [];
  split = refl;
  reads = record { fits = fits; tells = none_told old f.lines.output empty };
}
