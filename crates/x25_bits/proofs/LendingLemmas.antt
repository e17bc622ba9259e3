-- What is lent at a flag, and of bits that are read.
use Rattle.std.proofs.Common.{ℕ, ◌+◌, ◌<◌, ◌≤◌, ◌≡◌, ◌∙◌, Bool, true, false, Option, Some, None, List, [], ◌++◌, length, refl, ap, sym, subst, arith, get_or}
use Rattle.std.proofs.Common.{◌==◌, ◌&&◌, not}
use Rattle.std.specs.Prelude.{if◌then◌else◌, is_some}
use Rattle.x25_bits.specs.laws.Cuts.{found_more as found_more_of}
use Rattle.x25_bits.specs.code.Fits.{Fits}
use Rattle.x25_bits.specs.code.FitsSeen.{FitsSeen}
use Rattle.x25_bits.specs.code.Held.{Held, Seen, seen_of, ends, seen_next, seen_found, seen_from, found_from, closing}
use Rattle.x25_bits.specs.code.Plain.{listed_span}
use Rattle.x25_bits.specs.code.Reading.{part, Closes, Lends}
use Rattle.x25_bits.specs.code.Shows.{Shows}
use Rattle.x25_bits.specs.Found.{Class}
use Rattle.x25_bits.specs.declared.deframer.Deframer.{Deframer}
use Rattle.x25_bits.specs.declared.found.Span.{Span}
use Rattle.x25_bits.specs.declared.scan.Scan.{Scan}
use Rattle.x25_bits.proofs.FeedLemmas.{seen_all, found_all, found-append}
use Rattle.x25_bits.proofs.FitsLemmas.{seen_fits, fits_seen}
use Rattle.x25_bits.proofs.FoundLemmas.{seen-append}
use Rattle.x25_bits.proofs.ReadingLemmas.{part_join, part_none, read_seen, read_found, found_before}

if_true : (b : Bool) (x y : List Class) → b ≡ true → (if b then x else y) ≡ x
if_true b x y e = rw e refl

if_false : (b : Bool) (x y : List Class) → b ≡ false → (if b then x else y) ≡ y
if_false b x y e = rw e refl

shows_seen : (d : Deframer) (v : Seen) (k : List Bool) → k ≡ d.kept → FitsSeen d v → v.is_open ≡ true → Shows d.scan k v.held
shows_seen d v k same fits o = record { aborted = fits.aborted o; inserted = fits.inserted o; kept = λ going. same ∙ fits.kept o going }

-- what the span is that a flag closes
abbrev pub closed_by : Seen → List Class
closed_by v = if v.is_open then closing v.held else []

pub not_open : (d : Deframer) (v : Seen) → FitsSeen d v → d.scan.is_open ≡ false → closed_by v ≡ []
not_open d v fits e = let shut : v.is_open ≡ false = sym fits.is_open ∙ e in rw shut refl

listed_none : (r : Option Span) → is_some r ≡ false → listed_span r ≡ []
listed_none None e = refl
listed_none (Some span) e = let bad : true ≡ false = e in cc

listed_some : (r : Option Span) → is_some r ≡ true → 0 < length (listed_span r)
listed_some None e = let bad : false ≡ true = e in cc
listed_some (Some span) e = omega arith

pub closes_none : (d : Deframer) (v : Seen) (k : List Bool) (r : Option Span) → k ≡ d.kept → FitsSeen d v → d.scan.is_open ≡ true
    → ((h : Held) → Shows d.scan k h → listed_span r ≡ closing h) → is_some r ≡ false → closed_by v ≡ []
closes_none d v k r same fits o is e =
    let open_now : v.is_open ≡ true = sym fits.is_open ∙ o in
    rw open_now (sym (is v.held (shows_seen d v k same fits open_now)) ∙ listed_none r e)

pub closes_some : (d : Deframer) (v : Seen) (k : List Bool) (r : Option Span) → k ≡ d.kept → FitsSeen d v → d.scan.is_open ≡ true
    → ((h : Held) → Shows d.scan k h → listed_span r ≡ closing h) → is_some r ≡ true → Closes d.scan k (closed_by v)
closes_some d v k r same fits o is e =
    let open_now : v.is_open ≡ true = sym fits.is_open ∙ o in
    let shows : Shows d.scan k v.held = shows_seen d v k same fits open_now in
    record { held = v.held; shows = shows; found = rw open_now refl; some = rw open_now (subst (λ l. 0 < length l) (is v.held shows) (listed_some r e)) }

-- whether the bit ends a flag, as the code has it
ends_so : (d : Deframer) (v : Seen) (b t : Bool) → FitsSeen d v → (not b && d.scan.run == 6) ≡ t → ends v b ≡ t
ends_so d v b t fits e = ap (λ n. not b && n == 6) (sym fits.run) ∙ e

pub step_closes : (d : Deframer) (v : Seen) (b : Bool) (r : Option Scan) (kept : List Bool) → FitsSeen d v → (not b && d.scan.run == 6) ≡ true
    → Lends r kept (closed_by v) → Lends r kept (seen_found v b)
step_closes d v b r kept fits e lends = let at : ends v b ≡ true = ends_so d v b true fits e in
    subst (Lends r kept) (sym (if_true (ends v b) (closed_by v) [] at)) lends

pub step_passes : (d : Deframer) (v : Seen) (b : Bool) → FitsSeen d v → (not b && d.scan.run == 6) ≡ false → seen_found v b ≡ []
step_passes d v b fits e = if_false (ends v b) (closed_by v) [] (ends_so d v b false fits e)

-- what a place that was read to says: the deframer fits, and nothing was found before the last bit
pub record Reads (d : Deframer) (at place : ℕ) (bits : List Bool) (e : Deframer) : Type 0 where
  pub fits : (v : Seen) → FitsSeen d v → FitsSeen e (seen_from v (part at place bits))
  pub none : (v : Seen) → FitsSeen d v → found_from v (part at place bits) ≡ []

pub reads_none : (d : Deframer) (at : ℕ) (bits : List Bool) → Reads d at at bits d
unfolding seen_from found_from
reads_none d at bits = record {
  fits = λ v h. subst (λ l. FitsSeen d (seen_from v l)) (sym (part_none at bits)) h;
  none = λ v h. ap (found_from v) (part_none at bits);
}

-- one bit more
pub bit_fits : (d e f : Deframer) (at place : ℕ) (bits : List Bool) (b : Bool) → Reads d at place bits e → at ≤ place → place < length bits → b
    ≡ get_or bits place false
    → ((v : Seen) → FitsSeen e v → FitsSeen f (seen_next v b))
    → (v : Seen) → FitsSeen d v → FitsSeen f (seen_from v (part at (place + 1) bits))
bit_fits d e f at place bits b reads low high is fits v h =
    subst (FitsSeen f) (sym (read_seen v at place bits b low high is)) (fits (seen_from v (part at place bits)) (reads.fits v h))

bit_found : (d e : Deframer) (at place : ℕ) (bits : List Bool) (b : Bool) → Reads d at place bits e → at ≤ place → place < length bits → b
    ≡ get_or bits place false
    → (v : Seen) → FitsSeen d v → seen_found (seen_from v (part at place bits)) b ≡ found_from v (part at (place + 1) bits)
bit_found d e at place bits b reads low high is v h =
    sym (read_found v at place bits b low high is ∙ ap (λ l. l ++ seen_found (seen_from v (part at place bits)) b) (reads.none v h))

pub bit_lends : (d e : Deframer) (r : Option Scan) (at place : ℕ) (bits kept : List Bool) (b : Bool) → Reads d at place bits e → at ≤ place
    → place < length bits → b ≡ get_or bits place false
    → ((v : Seen) → FitsSeen e v → Lends r kept (seen_found v b))
    → (v : Seen) → FitsSeen d v → Lends r kept (found_from v (part at (place + 1) bits))
bit_lends d e r at place bits kept b reads low high is lends v h =
    subst (Lends r kept) (bit_found d e at place bits b reads low high is v h) (lends (seen_from v (part at place bits)) (reads.fits v h))

is_nothing : (r : Option Scan) → is_some r ≡ false → r ≡ None
is_nothing None e = refl
is_nothing (Some s) e = let bad : true ≡ false = e in cc

pub reads_more : (d e f : Deframer) (r : Option Scan) (at place : ℕ) (bits kept : List Bool) (b : Bool) → Reads d at place bits e → at ≤ place
    → place < length bits → b ≡ get_or bits place false
    → ((v : Seen) → FitsSeen e v → FitsSeen f (seen_next v b))
    → ((v : Seen) → FitsSeen e v → Lends r kept (seen_found v b))
    → is_some r ≡ false → Reads d at (place + 1) bits f
reads_more d e f r at place bits kept b reads low high is fits lends nothing = record {
  fits = bit_fits d e f at place bits b reads low high is fits;
  none = λ v h. subst (λ o. Lends o kept (found_from v (part at (place + 1) bits))) (is_nothing r nothing)
      (bit_lends d e r at place bits kept b reads low high is lends v h);
}

-- more bits, in which nothing is found
pub reads_part : (d e f : Deframer) (at place next : ℕ) (bits : List Bool) → Reads d at place bits e → at ≤ place → place ≤ next
    → ((v : Seen) → FitsSeen e v → FitsSeen f (seen_from v (part place next bits)))
    → ((v : Seen) → FitsSeen e v → found_from v (part place next bits) ≡ [])
    → Reads d at next bits f
reads_part d e f at place next bits reads low high fits none = record {
  fits = λ v h. subst (FitsSeen f) (sym (ap (seen_from v) (part_join at place next bits low high) ∙ seen-append v (part at place bits) (part place next bits)))
      (fits (seen_from v (part at place bits)) (reads.fits v h));
  none = λ v h. ap (found_from v) (part_join at place next bits low high) ∙ found-append v (part at place bits) (part place next bits)
      ∙ ap (λ l. l ++ found_from (seen_from v (part at place bits)) (part place next bits)) (reads.none v h)
      ∙ none (seen_from v (part at place bits)) (reads.fits v h);
}

-- by whole lists of bits
pub all_fit : (d f : Deframer) (at place : ℕ) (bits before : List Bool) → ((v : Seen) → FitsSeen d v → FitsSeen f (seen_from v (part at place bits)))
    → Fits d before → Fits f (before ++ part at place bits)
all_fit d f at place bits before fits h =
    fits_seen f (before ++ part at place bits) (subst (FitsSeen f) (seen_all before (part at place bits)) (fits (seen_of before) (seen_fits d before h)))

pub all_lend : (d : Deframer) (r : Option Scan) (at place : ℕ) (bits kept before : List Bool)
    → ((v : Seen) → FitsSeen d v → Lends r kept (found_from v (part at place bits)))
    → Fits d before → Lends r kept (found_more_of before (part at place bits))
all_lend d r at place bits kept before lends h =
    subst (Lends r kept) (found_all before (part at place bits)) (lends (seen_of before) (seen_fits d before h))

-- nothing is found up to a place that is no later
pub none_first : (d e : Deframer) (at n place : ℕ) (bits before : List Bool) → Reads d at place bits e → n ≤ place → Fits d before
    → found_more_of before (part at n bits) ≡ []
none_first d e at n place bits before reads h fits =
    sym (found_all before (part at n bits)) ∙ found_before (seen_of before) at n place bits h (reads.none (seen_of before) (seen_fits d before fits))
