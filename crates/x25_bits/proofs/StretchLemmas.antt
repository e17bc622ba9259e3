-- Some bits of one octet that pass: from behind a flag to the octet's end, or up to a flag's last 0.
use Rattle.std.proofs.Common.{ℕ, zero, suc, ◌+◌, ◌-◌, ◌*◌, ◌/◌, ◌%◌, ◌^◌, ◌<◌, ◌≤◌, ◌≡◌, ◌∙◌, Bool, true, false, List, ◌∷◌, ◌++◌, length, take, drop, get_or}
use Rattle.std.proofs.Common.{refl, ap, sym, subst, arith, length-append}
use Rattle.std.specs.Prelude.{replicate}
use Rattle.std.proofs.Math.Nat.{div-one}
use Rattle.x25_bits.specs.FrameCheck.{bits_of, low_bits}
use Rattle.x25_bits.specs.code.Fits.{ones_from}
use Rattle.x25_bits.specs.Passing.{passes, kept_from, inserted_after, Passes}
use Rattle.x25_bits.specs.declared.passing.Passed.{Passed}
use Rattle.x25_bits.proofs.FcsLemmas.{length-low_bits, low_bits-mod}
use Rattle.x25_bits.proofs.LinearLemmas.{low_bits-left}
use Rattle.x25_bits.proofs.OctetLemmas.{drop_low, part_low}

-- ---- 0 bits that come first

zeros_quiet : (j : ℕ) (bits : List Bool) → passes 0 (replicate j false ++ bits) ≡ true → passes 0 bits ≡ true
unfolding passes
zeros_quiet zero bits h = h
zeros_quiet (suc j) bits h = zeros_quiet j bits h

zeros_kept : (j : ℕ) (bits : List Bool) → kept_from 0 (replicate j false ++ bits) ≡ replicate j false ++ kept_from 0 bits
unfolding kept_from
zeros_kept zero bits = refl
zeros_kept (suc j) bits = ap (λ (l : List Bool). false ∷ l) (zeros_kept j bits)

zeros_ones : (j : ℕ) (bits : List Bool) → ones_from 0 (replicate j false ++ bits) ≡ ones_from 0 bits
unfolding ones_from
zeros_ones zero bits = refl
zeros_ones (suc j) bits = zeros_ones j bits

zeros_inserted : (j : ℕ) (bits : List Bool) → inserted_after 0 false (replicate j false ++ bits) ≡ inserted_after 0 false bits
unfolding inserted_after
zeros_inserted zero bits = refl
zeros_inserted (suc j) bits = zeros_inserted j bits

zeros_count : (j : ℕ) → length (replicate j false) ≡ j
zeros_count zero = refl
zeros_count (suc j) = ap suc (zeros_count j)

zeros_dropped : (j : ℕ) (bits : List Bool) → drop j (replicate j false ++ bits) ≡ bits
zeros_dropped zero bits = refl
zeros_dropped (suc j) bits = zeros_dropped j bits

-- an octet's bits with the first `j` set to 0
zeros_first : (j o : ℕ) → j ≤ 8 → low_bits 8 (o / 2 ^ j * 2 ^ j % 256) ≡ replicate j false ++ low_bits (8 - j) (o / 2 ^ j)
zeros_first j o h =
    let whole : 8 ≡ j + (8 - j) = omega (h, arith) in
    low_bits-mod 8 (o / 2 ^ j * 2 ^ j) ∙ ap (λ n. low_bits n (o / 2 ^ j * 2 ^ j)) whole ∙ low_bits-left j (8 - j) (o / 2 ^ j)

-- of what they leave, the part behind these 0 bits
kept_split : (j c n : ℕ) (bits : List Bool) → low_bits c n ≡ replicate j false ++ bits → (j ≤ c) × (low_bits (c - j) (n / 2 ^ j) ≡ bits)
kept_split j c n bits h =
    let all : c ≡ length (replicate j false ++ bits) = sym (length-low_bits c n) ∙ ap length h in
    let parts : length (replicate j false ++ bits) ≡ length (replicate j false) + length bits = length-append (replicate j false) bits in
    let first = zeros_count j in
    let more : j ≤ c = omega (all, parts, first, arith) in
    let size : c ≡ j + (c - j) = omega (more, arith) in
    (more, sym (drop_low j (c - j) n) ∙ ap (λ m. drop j (low_bits m n)) (sym size) ∙ ap (drop j) h ∙ zeros_dropped j bits)

kept_behind : (j o : ℕ) (q : Passed) → j ≤ 8 → Passes q 0 false (low_bits 8 (o / 2 ^ j * 2 ^ j % 256)) → low_bits q.count q.kept ≡ replicate j false
    ++ kept_from 0 (low_bits (8 - j) (o / 2 ^ j))
kept_behind j o q h pass = pass.kept ∙ ap (kept_from 0) (zeros_first j o h) ∙ zeros_kept j (low_bits (8 - j) (o / 2 ^ j))

pub rest_few : (j o : ℕ) (q : Passed) → j ≤ 8 → Passes q 0 false (low_bits 8 (o / 2 ^ j * 2 ^ j % 256)) → j ≤ q.count
rest_few j o q h pass = (kept_split j q.count q.kept (kept_from 0 (low_bits (8 - j) (o / 2 ^ j))) (kept_behind j o q h pass)).0

pub rest_passes : (j o : ℕ) (q p : Passed) → j ≤ 8 → Passes q 0 false (low_bits 8 (o / 2 ^ j * 2 ^ j % 256))
    → p.kept ≡ q.kept / 2 ^ j → p.count ≡ q.count - j → p.run ≡ q.run → p.is_inserted ≡ q.is_inserted → Passes p 0 false (low_bits (8 - j) (o / 2 ^ j))
rest_passes j o q p h pass kept count run inserted =
    let bits = low_bits (8 - j) (o / 2 ^ j) in
    let first = zeros_first j o h in
    record {
      quiet = zeros_quiet j bits (ap (passes 0) (sym first) ∙ pass.quiet);
      kept = ap (λ x. low_bits p.count x) kept ∙ ap (λ x. low_bits x (q.kept / 2 ^ j)) count
          ∙ (kept_split j q.count q.kept (kept_from 0 bits) (kept_behind j o q h pass)).1;
      ones = run ∙ pass.ones ∙ ap (ones_from 0) first ∙ zeros_ones j bits;
      inserted = inserted ∙ pass.inserted ∙ ap (inserted_after 0 false) first ∙ zeros_inserted j bits;
    }

-- ---- up to a flag's last 0

-- these fields of what 1 bits leave up to the sixth, or a 0 and six 1 bits
abbrev pub Leaves : Passed → ℕ → ℕ → Bool → Type 0
Leaves p kept count inserted = (p.kept ≡ kept) × (p.count ≡ count) × (p.run ≡ 6) × (p.is_inserted ≡ inserted)

leaves_so : (p : Passed) (kept count : ℕ) (inserted : Bool) (run : ℕ) (was : Bool) (bits : List Bool) → Leaves p kept count inserted
    → passes run bits ≡ true → low_bits count kept ≡ kept_from run bits → 6 ≡ ones_from run bits → inserted ≡ inserted_after run was bits
    → Passes p run was bits
leaves_so p kept count inserted run was bits l a b c d = record {
  quiet = a;
  kept = ap (λ x. low_bits p.count x) l.0 ∙ ap (λ x. low_bits x kept) l.1 ∙ b;
  ones = l.2 ∙ c;
  inserted = l.3 ∙ d;
}

-- the lowest bits, where they are all 1
full : (t o n : ℕ) → o % 2 ^ t ≡ n → low_bits t n ≡ low_bits t o
full t o n e = ap (low_bits t) (sym e) ∙ low_bits-mod t o

-- the lowest bits up to a flag's last 0 are all 1, told by shifts
abbrev pub AllOnes : ℕ → ℕ → Type 0
AllOnes r o = o * 2 ^ (r + 2) % 256 ≡ 252 * 2 ^ r % 256

pub ones_pass : (r o : ℕ) (was : Bool) (p : Passed) → r ≤ 5 → AllOnes r o → Leaves p (31 / 2 ^ r) (5 - r) was → Passes p r was (low_bits (6 - r) o)
unfolding passes kept_from ones_from inserted_after low_bits
ones_pass zero o was p h e l = let d : o % 64 ≡ 63 = omega (e, arith) in
    subst (Passes p 0 was) (full 6 o 63 d) (leaves_so p 31 5 was 0 was (low_bits 6 63) l refl refl refl refl)
ones_pass (suc zero) o was p h e l = let d : o % 32 ≡ 31 = omega (e, arith) in
    subst (Passes p 1 was) (full 5 o 31 d) (leaves_so p 15 4 was 1 was (low_bits 5 31) l refl refl refl refl)
ones_pass (suc (suc zero)) o was p h e l = let d : o % 16 ≡ 15 = omega (e, arith) in
    subst (Passes p 2 was) (full 4 o 15 d) (leaves_so p 7 3 was 2 was (low_bits 4 15) l refl refl refl refl)
ones_pass (suc (suc (suc zero))) o was p h e l = let d : o % 8 ≡ 7 = omega (e, arith) in
    subst (Passes p 3 was) (full 3 o 7 d) (leaves_so p 3 2 was 3 was (low_bits 3 7) l refl refl refl refl)
ones_pass (suc (suc (suc (suc zero)))) o was p h e l = let d : o % 4 ≡ 3 = omega (e, arith) in
    subst (Passes p 4 was) (full 2 o 3 d) (leaves_so p 1 1 was 4 was (low_bits 2 3) l refl refl refl refl)
ones_pass (suc (suc (suc (suc (suc zero))))) o was p h e l =
    let d : o % 2 ≡ 1 = omega (e, arith) in subst (Passes p 5 was) (full 1 o 1 d) (leaves_so p 0 0 was 5 was (low_bits 1 1) l refl refl refl refl)
ones_pass (suc (suc (suc (suc (suc (suc r)))))) o was p h e l = absurd (omega arith)

pub flag_pass : (r : ℕ) (was : Bool) (p : Passed) → r ≤ 4 → Leaves p 62 6 false → Passes p r was (low_bits 7 126)
unfolding passes kept_from ones_from inserted_after low_bits
flag_pass zero was p h l = leaves_so p 62 6 false 0 was (low_bits 7 126) l refl refl refl refl
flag_pass (suc zero) was p h l = leaves_so p 62 6 false 1 was (low_bits 7 126) l refl refl refl refl
flag_pass (suc (suc zero)) was p h l = leaves_so p 62 6 false 2 was (low_bits 7 126) l refl refl refl refl
flag_pass (suc (suc (suc zero))) was p h l = leaves_so p 62 6 false 3 was (low_bits 7 126) l refl refl refl refl
flag_pass (suc (suc (suc (suc zero)))) was p h l = leaves_so p 62 6 false 4 was (low_bits 7 126) l refl refl refl refl
flag_pass (suc (suc (suc (suc (suc r))))) was p h l = absurd (omega arith)

-- a part of a line that lies in one octet
pub part_first : (place k : ℕ) (octets : List ℕ) → place % 8 ≡ 0 → k ≤ 8 → place / 8 < length octets → take (place + k - place) (drop place (bits_of octets))
    ≡ low_bits k (get_or octets (place / 8) 0)
part_first place k octets e few inside =
    let o = get_or octets (place / 8) 0 in
    let one : o / 2 ^ (place % 8) ≡ o = ap (λ n. o / 2 ^ n) e ∙ div-one o in
    part_low place k octets (omega arith) inside ∙ ap (low_bits k) one
