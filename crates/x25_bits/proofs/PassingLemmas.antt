-- Bits in which no flag ends and no seventh 1 bit comes.
use Rattle.std.proofs.Common.{ℕ, ◌+◌, ◌-◌, ◌*◌, ◌<◌, ◌≤◌, ◌≡◌, ◌∙◌, Bool, true, false, not, ◌==◌, ◌&&◌, List, [], ◌∷◌, ◌++◌, length, take, drop, get_or, refl}
use Rattle.std.proofs.Common.{ap, sym, subst, arith, append_assoc, length-append}
use Rattle.std.specs.Prelude.{if◌then◌else◌, ◌||◌}
use Rattle.std.proofs.lemmas.List.{append-nil, take_all}
use Rattle.x25_bits.specs.FrameCheck.{bits_of, low_bits}
use Rattle.x25_bits.specs.code.Fits.{ones_from}
use Rattle.x25_bits.specs.code.FitsSeen.{FitsSeen}
use Rattle.x25_bits.specs.code.Reading.{part}
use Rattle.x25_bits.specs.code.Held.{Seen, up, keeps, ends, seen_next, seen_found, seen_from, found_from, closing}
use Rattle.x25_bits.specs.Passing.{passes, kept_from, inserted_after, Passes, PassesOn}
use Rattle.x25_bits.specs.Found.{Class}
use Rattle.x25_bits.specs.declared.deframer.Deframer.{Deframer}
use Rattle.x25_bits.specs.declared.passing.Passed.{Passed}
use Rattle.x25_bits.proofs.FcsLemmas.{length-low_bits}
use Rattle.x25_bits.proofs.KeptLemmas.{take_short}
use Rattle.x25_bits.proofs.OctetLemmas.{octet_at}
use Rattle.x25_bits.proofs.ReadingLemmas.{part_join}

-- ---- eight bits are four and four

step_so : (t u : Bool) → (if t then false else u) ≡ true → (t ≡ false) × (u ≡ true)
step_so true u h = let bad : false ≡ true = h in cc
step_so false u h = (refl, h)

passes_step : (run : ℕ) (b : Bool) (bits : List Bool) → passes run (b ∷ bits) ≡ true → ((run == 6) ≡ false) × (passes (up run b) bits ≡ true)
unfolding passes
passes_step run b bits h = step_so (run == 6) (passes (up run b) bits) h

passes-append : (run : ℕ) (a b : List Bool) → passes run a ≡ true → passes (ones_from run a) b ≡ true → passes run (a ++ b) ≡ true
unfolding passes ones_from
passes-append run [] b h k = k
passes-append run (x ∷ a) b h k =
    let s = passes_step run x a h in
    ap (λ t. if t then false else passes (up run x) (a ++ b)) s.0 ∙ passes-append (up run x) a b s.1 k

ones_from-append : (run : ℕ) (a b : List Bool) → ones_from run (a ++ b) ≡ ones_from (ones_from run a) b
unfolding ones_from
ones_from-append run [] b = refl
ones_from-append run (x ∷ a) b = ones_from-append (up run x) a b

inserted_after-append : (run : ℕ) (last : Bool) (a b : List Bool) → inserted_after run last (a ++ b)
    ≡ inserted_after (ones_from run a) (inserted_after run last a) b
unfolding ones_from inserted_after
inserted_after-append run last [] b = refl
inserted_after-append run last (x ∷ a) b = inserted_after-append (up run x) (if x then last else run == 5) a b

if_more : (t : Bool) (x : Bool) (l m n : List Bool) → l ≡ m ++ n → (if t then x ∷ l else l) ≡ (if t then x ∷ m else m) ++ n
if_more true x l m n e = ap (λ (k : List Bool). x ∷ k) e
if_more false x l m n e = e

kept_from-append : (run : ℕ) (a b : List Bool) → kept_from run (a ++ b) ≡ kept_from run a ++ kept_from (ones_from run a) b
unfolding ones_from kept_from
kept_from-append run [] b = refl
kept_from-append run (x ∷ a) b = if_more (keeps run x) x (kept_from (up run x) (a ++ b)) (kept_from (up run x) a) (kept_from (ones_from (up run x) a) b)
    (kept_from-append (up run x) a b)

-- ---- what is seen

abbrev seen : Bool → ℕ → Bool → Bool → List Bool → Seen
seen o r a i k = record { is_open = o; held = record { run = r; is_aborted = a; is_inserted = i; kept = k } }

keep_if : (t : Bool) (k : List Bool) (b : Bool) (rest : List Bool) → (if t then k ++ b ∷ [] else k) ++ rest ≡ k ++ (if t then b ∷ rest else rest)
keep_if true k b rest = append_assoc k (b ∷ []) rest
keep_if false k b rest = refl

no_end : (b s : Bool) → s ≡ false → (not b && s) ≡ false
no_end true s e = refl
no_end false s e = e

no_abort : (a b s : Bool) → s ≡ false → (a || (b && s)) ≡ a
no_abort true b s e = refl
no_abort false true s e = e
no_abort false false s e = refl

next_passes : (o : Bool) (r : ℕ) (a i : Bool) (k : List Bool) (b : Bool) → (r == 6) ≡ false
    → seen_next (seen o r a i k) b ≡ seen o (up r b) a (if b then i else r == 5) (if keeps r b then k ++ b ∷ [] else k)
next_passes o r a i k b e =
    ap (λ t. if t then record { is_open = true; held = record { run = 0; is_aborted = false; is_inserted = false; kept = [] } }
    else seen o (up r b) (a || (b && r == 6)) (if b then i else r == 5) (if keeps r b then k ++ b ∷ [] else k)) (no_end b (r == 6) e)
    ∙ ap (λ t. seen o (up r b) t (if b then i else r == 5) (if keeps r b then k ++ b ∷ [] else k)) (no_abort a b (r == 6) e)

found_passes_one : (v : Seen) (b : Bool) → (v.held.run == 6) ≡ false → seen_found v b ≡ []
found_passes_one v b e = go (ends v b) (if v.is_open then closing v.held else []) (no_end b (v.held.run == 6) e)
  where
    go : (t : Bool) (l : List Class) → t ≡ false → (if t then l else []) ≡ []
    go true l d = let bad : true ≡ false = d in cc
    go false l d = refl

seen_passes : (o : Bool) (r : ℕ) (a i : Bool) (k bits : List Bool) → passes r bits ≡ true
    → seen_from (seen o r a i k) bits ≡ seen o (ones_from r bits) a (inserted_after r i bits) (k ++ kept_from r bits)
unfolding seen_from ones_from inserted_after kept_from
seen_passes o r a i k [] h = ap (seen o r a i) (sym (append-nil k))
seen_passes o r a i k (b ∷ bits) h =
    let s = passes_step r b bits h in
    ap (λ v. seen_from v bits) (next_passes o r a i k b s.0)
    ∙ seen_passes o (up r b) a (if b then i else r == 5) (if keeps r b then k ++ b ∷ [] else k) bits s.1
    ∙ ap (seen o (ones_from (up r b) bits) a (inserted_after (up r b) (if b then i else r == 5) bits)) (keep_if (keeps r b) k b (kept_from (up r b) bits))

found_passes : (o : Bool) (r : ℕ) (a i : Bool) (k bits : List Bool) → passes r bits ≡ true → found_from (seen o r a i k) bits ≡ []
unfolding found_from
found_passes o r a i k [] h = refl
found_passes o r a i k (b ∷ bits) h =
    let s = passes_step r b bits h in
    ap (λ l. l ++ found_from (seen_next (seen o r a i k) b) bits) (found_passes_one (seen o r a i k) b s.0)
    ∙ ap (λ v. found_from v bits) (next_passes o r a i k b s.0)
    ∙ found_passes o (up r b) a (if b then i else r == 5) (if keeps r b then k ++ b ∷ [] else k) bits s.1

-- ---- of the code

kept_so : (n : ℕ) (kept after all more : List Bool) → kept ≡ take n all → length kept < n → length kept + length more ≤ n → after ≡ kept ++ more → after
    ≡ take n (all ++ more)
kept_so n kept after all more e h k a =
    let whole : kept ≡ all = e ∙ take_short n all (rw e at h) in
    let size = length-append all more in
    let short : length all + length more ≤ n = rw whole at k in
    a ∙ ap (λ l. l ++ more) whole ∙ sym (take_all n (all ++ more) (omega arith))

pub content_found : (d : Deframer) (bits : List Bool) → passes d.scan.run bits ≡ true → (v : Seen) → FitsSeen d v → found_from v bits ≡ []
content_found d bits quiet v f =
    found_passes v.is_open v.held.run v.held.is_aborted v.held.is_inserted v.held.kept bits (ap (λ r. passes r bits) (sym f.run) ∙ quiet)

pub content_fits : (d e : Deframer) (n : ℕ) (is_inserted : Bool) (bits : List Bool) → d.scan.is_open ≡ true → d.scan.is_aborted ≡ false → length d.kept < 32831
    → length e.kept ≤ 32831
    → PassesOn n is_inserted d.scan.run d.scan.is_inserted bits
    → e.scan.run ≡ n → e.scan.is_open ≡ d.scan.is_open → e.scan.is_aborted ≡ d.scan.is_aborted → e.scan.is_inserted ≡ is_inserted
    → e.kept ≡ d.kept ++ kept_from d.scan.run bits
    → (v : Seen) → FitsSeen d v → FitsSeen e (seen_from v bits)
content_fits d e n is_inserted bits opens going less few h run is_open aborted inserted kept v f =
    let quiet : passes v.held.run bits ≡ true = ap (λ r. passes r bits) (sym f.run) ∙ h.quiet in
    let opened : v.is_open ≡ true = sym f.is_open ∙ opens in
    let on : v.held.is_aborted ≡ false = sym (f.aborted opened) ∙ going in
    let behind : e.kept ≡ d.kept ++ kept_from v.held.run bits = kept ∙ ap (λ r. d.kept ++ kept_from r bits) f.run in
    let size : length e.kept ≡ length d.kept + length (kept_from v.held.run bits) = ap length behind ∙ length-append d.kept (kept_from v.held.run bits) in
    let room : length d.kept + length (kept_from v.held.run bits) ≤ 32831 = omega arith in
    subst (FitsSeen e) (sym (seen_passes v.is_open v.held.run v.held.is_aborted v.held.is_inserted v.held.kept bits quiet)) (record {
      is_open = is_open ∙ f.is_open;
      run = run ∙ h.ones ∙ ap (λ r. ones_from r bits) f.run;
      aborted = λ a. aborted ∙ f.aborted a;
      inserted = λ a b. inserted ∙ h.inserted ∙ ap (λ r. inserted_after r d.scan.is_inserted bits) f.run
          ∙ ap (λ i. inserted_after v.held.run i bits) (f.inserted opened on);
      kept = λ a b. kept_so 32831 d.kept e.kept v.held.kept (kept_from v.held.run bits) (f.kept opened on) less room behind;
    })

pub passed_found : (d : Deframer) (p : Passed) (bits : List Bool) → Passes p d.scan.run d.scan.is_inserted bits → (v : Seen) → FitsSeen d v → found_from v bits
    ≡ []
passed_found d p bits h v f =
    found_passes v.is_open v.held.run v.held.is_aborted v.held.is_inserted v.held.kept bits (ap (λ r. passes r bits) (sym f.run) ∙ h.quiet)

pub passed_fits : (d e : Deframer) (p : Passed) (bits : List Bool) → d.scan.is_open ≡ true → d.scan.is_aborted ≡ false → length d.kept ≤ 32823 → p.count ≤ 8
    → Passes p d.scan.run d.scan.is_inserted bits
    → e.scan.run ≡ p.run → e.scan.is_open ≡ d.scan.is_open → e.scan.is_aborted ≡ d.scan.is_aborted → e.scan.is_inserted ≡ p.is_inserted
    → e.kept ≡ d.kept ++ low_bits p.count p.kept
    → (v : Seen) → FitsSeen d v → FitsSeen e (seen_from v bits)
passed_fits d e p bits opens going few count h run is_open aborted inserted kept v f =
    let quiet : passes v.held.run bits ≡ true = ap (λ r. passes r bits) (sym f.run) ∙ h.quiet in
    let opened : v.is_open ≡ true = sym f.is_open ∙ opens in
    let on : v.held.is_aborted ≡ false = sym (f.aborted opened) ∙ going in
    let more : low_bits p.count p.kept ≡ kept_from v.held.run bits = h.kept ∙ ap (λ r. kept_from r bits) f.run in
    let size : length (kept_from v.held.run bits) ≡ p.count = ap length (sym more) ∙ length-low_bits p.count p.kept in
    let room : length d.kept + length (kept_from v.held.run bits) ≤ 32831 = omega arith in
    let less : length d.kept < 32831 = omega arith in
    subst (FitsSeen e) (sym (seen_passes v.is_open v.held.run v.held.is_aborted v.held.is_inserted v.held.kept bits quiet)) (record {
      is_open = is_open ∙ f.is_open;
      run = run ∙ h.ones ∙ ap (λ r. ones_from r bits) f.run;
      aborted = λ a. aborted ∙ f.aborted a;
      inserted = λ a b. inserted ∙ h.inserted ∙ ap (λ r. inserted_after r d.scan.is_inserted bits) f.run
          ∙ ap (λ i. inserted_after v.held.run i bits) (f.inserted opened on);
      kept = λ a b. kept_so 32831 d.kept e.kept v.held.kept (kept_from v.held.run bits) (f.kept opened on) less room
          (kept ∙ ap (λ l. d.kept ++ l) more);
    })

-- ---- octet behind octet

pub passes_none : (run : ℕ) (last : Bool) → PassesOn run last run last []
unfolding passes ones_from inserted_after
passes_none run last = record { quiet = refl; ones = refl; inserted = refl }

pub passes_more : (n : ℕ) (b : Bool) (run : ℕ) (last : Bool) (bits more : List Bool) (p : Passed) → PassesOn n b run last bits → Passes p n b more
    → PassesOn p.run p.is_inserted run last (bits ++ more)
passes_more n b run last bits more p h k = record {
  quiet = passes-append run bits more h.quiet (ap (λ r. passes r more) (sym h.ones) ∙ k.quiet);
  ones = k.ones ∙ ap (λ r. ones_from r more) h.ones ∙ sym (ones_from-append run bits more);
  inserted = k.inserted ∙ ap (λ r. inserted_after r b more) h.ones ∙ ap (λ l. inserted_after (ones_from run bits) l more) h.inserted
      ∙ sym (inserted_after-append run last bits more);
}

pub kept_more : (n : ℕ) (b : Bool) (run : ℕ) (last : Bool) (bits more before after next : List Bool) (p : Passed) → PassesOn n b run last bits
    → Passes p n b more
    → after ≡ before ++ kept_from run bits → next ≡ after ++ low_bits p.count p.kept → next ≡ before ++ kept_from run (bits ++ more)
kept_more n b run last bits more before after next p h k e f =
    f ∙ ap (λ l. l ++ low_bits p.count p.kept) e ∙ append_assoc before (kept_from run bits) (low_bits p.count p.kept)
    ∙ ap (λ l. before ++ (kept_from run bits ++ l)) (k.kept ∙ ap (λ r. kept_from r more) h.ones)
    ∙ ap (λ l. before ++ l) (sym (kept_from-append run bits more))

pub kept_none : (run : ℕ) (before : List Bool) → before ≡ before ++ kept_from run []
unfolding kept_from
kept_none run before = sym (append-nil before)

-- of whole octets, one more
pub octet_more : (at i : ℕ) (octets : List ℕ) → at ≤ i → i < length octets → part (8 * at) (8 * (i + 1)) (bits_of octets)
    ≡ part (8 * at) (8 * i) (bits_of octets) ++ low_bits 8 (get_or octets i 0)
octet_more at i octets low high =
    let eight : 8 * (i + 1) - 8 * i ≡ 8 = omega arith in
    part_join (8 * at) (8 * i) (8 * (i + 1)) (bits_of octets) (omega arith) (omega arith)
    ∙ ap (λ l. part (8 * at) (8 * i) (bits_of octets) ++ l) (ap (λ n. take n (drop (8 * i) (bits_of octets))) eight ∙ octet_at i octets high)

-- from a place that is an octet's
pub whole_part : (d e : Deframer) (place at end : ℕ) (octets : List ℕ) → place ≡ 8 * at
    → ((v : Seen) → FitsSeen d v → FitsSeen e (seen_from v (part (8 * at) (8 * end) (bits_of octets))))
    → (v : Seen) → FitsSeen d v → FitsSeen e (seen_from v (part place (8 * end) (bits_of octets)))
whole_part d e place at end octets same h v f = subst (λ n. FitsSeen e (seen_from v (part n (8 * end) (bits_of octets)))) (sym same) (h v f)

pub whole_quiet : (run place at end : ℕ) (octets : List ℕ) → place ≡ 8 * at → passes run (part (8 * at) (8 * end) (bits_of octets)) ≡ true
    → passes run (part place (8 * end) (bits_of octets)) ≡ true
whole_quiet run place at end octets same h = ap (λ n. passes run (part n (8 * end) (bits_of octets))) same ∙ h
