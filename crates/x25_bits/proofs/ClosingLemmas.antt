-- The class of a span is told by what is held when its flag closes.
use Rattle.std.proofs.Common.{ℕ, zero, suc, ◌+◌, ◌-◌, ◌≤◌, ◌≡◌, ◌∙◌, ◌⊎◌, inl, inr, Bool, true, false, not, ◌&&◌, ◌==◌, List, [], ◌∷◌, ◌++◌, length, take, drop}
use Rattle.std.proofs.Common.{refl, ap, sym, subst, arith, length-append, length-drop, append_assoc}
use Rattle.std.specs.Prelude.{nat_lt, if◌then◌else◌}
use Rattle.std.proofs.lemmas.Bool.{cases_lt}
use Rattle.std.proofs.Math.Seq.{take-append_seam}
use Rattle.std.proofs.lemmas.List.{take-append-drop, append-nil}
use Rattle.x25_bits.proofs.SpanSteps.{closed}
use Rattle.x25_bits.specs.Found.{Class, Abort, Ragged, run_from, seven_from, class_by, class_of, reported}
use Rattle.x25_bits.specs.Stuffing.{unstuffed_from}
use Rattle.x25_bits.specs.code.Held.{kept_found, Held, none_held, fresh, held_next, held_from, held_of, closing}
use Rattle.x25_bits.proofs.RunLemmas.{ups, ups_small, ups-append, ups_bound, not_six, held-append, run_ups}

abbrev pub flag_start : List Bool
flag_start = false ∷ true ∷ true ∷ true ∷ true ∷ true ∷ true ∷ []

-- what a run counts for the bits that are left out
abbrev pub u : ℕ → ℕ
u r = if r == 6 then 0 else r

abbrev pub holding : ℕ → Bool → List Bool → Held
holding r i k = record { run = r; is_aborted = false; is_inserted = i; kept = k }

abbrev pub Sync : Held → Bool → List Bool → ℕ → Type 0
Sync h seven kept run = ((h.is_aborted ≡ true) × (seven ≡ true))
    ⊎ ((h.is_aborted ≡ false) × (seven ≡ false) × (h.run ≤ 6) × (h.kept ≡ kept) × (run ≡ u h.run))

next_aborted : (h : Held) (b : Bool) → h.is_aborted ≡ true → (held_next h b).is_aborted ≡ true
next_aborted h b e = rw e refl

pub from_aborted : (h : Held) (bits : List Bool) → h.is_aborted ≡ true → (held_from h bits).is_aborted ≡ true
unfolding held_from
from_aborted h [] e = e
from_aborted h (b ∷ bits) e = from_aborted (held_next h b) bits (next_aborted h b e)

moved : (h : Held) (s : Bool) (k : List Bool) (b : Bool) (x : List Bool) (n : ℕ) → Sync h s ((k ++ b ∷ []) ++ x) n → Sync h s (k ++ b ∷ x) n
moved h s k b x n y = let P : List Bool → Type 0 = λ l. Sync h s l n in subst P (append_assoc k (b ∷ []) x) y

on : (r : ℕ) (i : Bool) (k : List Bool) (b : Bool) (span : List Bool)
    → Sync (held_from (holding r i (k ++ b ∷ [])) span) (seven_from r span) ((k ++ b ∷ []) ++ unstuffed_from (u r) span) (run_from (u r) span)
    → Sync (held_from (holding r i (k ++ b ∷ [])) span) (seven_from r span) (k ++ b ∷ unstuffed_from (u r) span) (run_from (u r) span)
on r i k b span y = moved (held_from (holding r i (k ++ b ∷ [])) span) (seven_from r span) k b (unstuffed_from (u r) span) (run_from (u r) span) y

pub sync : (r : ℕ) (i : Bool) (k span : List Bool) → r ≤ 6
    → Sync (held_from (holding r i k) span) (seven_from r span) (k ++ unstuffed_from (u r) span) (run_from (u r) span)
unfolding held_from seven_from unstuffed_from run_from
sync r i k [] h = inr (refl, refl, h, sym (append-nil k), refl)
sync zero i k (true ∷ span) h = on 1 i k true span (sync 1 i (k ++ true ∷ []) span (omega arith))
sync (suc zero) i k (true ∷ span) h = on 2 i k true span (sync 2 i (k ++ true ∷ []) span (omega arith))
sync (suc (suc zero)) i k (true ∷ span) h = on 3 i k true span (sync 3 i (k ++ true ∷ []) span (omega arith))
sync (suc (suc (suc zero))) i k (true ∷ span) h = on 4 i k true span (sync 4 i (k ++ true ∷ []) span (omega arith))
sync (suc (suc (suc (suc zero)))) i k (true ∷ span) h = on 5 i k true span (sync 5 i (k ++ true ∷ []) span (omega arith))
sync (suc (suc (suc (suc (suc zero))))) i k (true ∷ span) h = sync 6 i k span (omega arith)
sync (suc (suc (suc (suc (suc (suc zero)))))) i k (true ∷ span) h = inl (from_aborted _ span refl, refl)
sync (suc (suc (suc (suc (suc (suc (suc n))))))) i k (true ∷ span) h = absurd (omega arith)
sync zero i k (false ∷ span) h = on 0 false k false span (sync 0 false (k ++ false ∷ []) span (omega arith))
sync (suc zero) i k (false ∷ span) h = on 0 false k false span (sync 0 false (k ++ false ∷ []) span (omega arith))
sync (suc (suc zero)) i k (false ∷ span) h = on 0 false k false span (sync 0 false (k ++ false ∷ []) span (omega arith))
sync (suc (suc (suc zero))) i k (false ∷ span) h = on 0 false k false span (sync 0 false (k ++ false ∷ []) span (omega arith))
sync (suc (suc (suc (suc zero)))) i k (false ∷ span) h = on 0 false k false span (sync 0 false (k ++ false ∷ []) span (omega arith))
sync (suc (suc (suc (suc (suc zero))))) i k (false ∷ span) h = sync 0 true k span (omega arith)
sync (suc (suc (suc (suc (suc (suc zero)))))) i k (false ∷ span) h = on 0 false k false span (sync 0 false (k ++ false ∷ []) span (omega arith))
sync (suc (suc (suc (suc (suc (suc (suc n))))))) i k (false ∷ span) h = absurd (omega arith)

-- the flag's first bits, behind what was held
abbrev pub six : List Bool → List Bool
six k = (((((k ++ false ∷ []) ++ true ∷ []) ++ true ∷ []) ++ true ∷ []) ++ true ∷ []) ++ true ∷ []

six_is : (k : List Bool) → six k ≡ k ++ (false ∷ true ∷ true ∷ true ∷ true ∷ true ∷ [])
six_is k = simp append_assoc

abbrev pub by_kept : List Bool → List Class
by_kept k = if nat_lt 0 (length k) then class_by k ∷ [] else []

pub kept_six : (k : List Bool) → (if nat_lt 6 (length (six k)) then class_by (take (length (six k) - 6) (six k)) ∷ [] else []) ≡ by_kept k
kept_six k =
    let size : length (k ++ (false ∷ true ∷ true ∷ true ∷ true ∷ true ∷ [])) ≡ length k + 6 = length-append k _ in
    let less : length k + 6 - 6 ≡ length k = omega arith in
    let test : nat_lt 6 (length k + 6) ≡ nat_lt 0 (length k) = grind arith in
    rw (six_is k, size, less, test, take-append_seam k (false ∷ true ∷ true ∷ true ∷ true ∷ true ∷ [])) refl

ending : (r : ℕ) (i : Bool) (k : List Bool) → r ≤ 6
    → closing (held_from (holding r i k) flag_start) ≡ (if u r == 5 then Ragged ∷ [] else by_kept k)
unfolding closing held_from kept_found
ending zero i k h = kept_six k
ending (suc zero) i k h = kept_six k
ending (suc (suc zero)) i k h = kept_six k
ending (suc (suc (suc zero))) i k h = kept_six k
ending (suc (suc (suc (suc zero)))) i k h = kept_six k
ending (suc (suc (suc (suc (suc zero))))) i k h = refl
ending (suc (suc (suc (suc (suc (suc zero)))))) i k h = kept_six k
ending (suc (suc (suc (suc (suc (suc (suc n))))))) i k h = absurd (omega arith)

holding_is : (h : Held) → h.is_aborted ≡ false → h ≡ holding h.run h.is_inserted h.kept
holding_is h e = ap (λ a. record { run = h.run; is_aborted = a; is_inserted = h.is_inserted; kept = h.kept }) e

closing_aborted : (h : Held) → h.is_aborted ≡ true → closing h ≡ Abort ∷ []
unfolding closing
closing_aborted h e = rw e refl

if_list : (t : Bool) (x y : Class) → (if t then x ∷ [] else y ∷ []) ≡ (if t then x else y) ∷ []
if_list true x y = refl
if_list false x y = refl

class_aborted : (span : List Bool) → seven_from 0 span ≡ true → reported span ≡ Abort ∷ []
unfolding class_of seven_from
class_aborted [] e = let bad : false ≡ true = e in cc
class_aborted (b ∷ span) e = rw e refl

positive : (n : ℕ) → nat_lt 0 (suc n) ≡ true
positive n = grind arith

some_kept : (b : Bool) (span : List Bool) → by_kept (unstuffed_from 0 (b ∷ span)) ≡ class_by (unstuffed_from 0 (b ∷ span)) ∷ []
unfolding unstuffed_from
some_kept b span = let test = positive (length (unstuffed_from (if b then 1 else 0) span)) in rw test refl

class_other : (span : List Bool) (r : ℕ) → seven_from 0 span ≡ false → run_from 0 span ≡ u r
    → reported span ≡ (if u r == 5 then Ragged ∷ [] else by_kept (unstuffed_from 0 span))
unfolding class_of run_from unstuffed_from
class_other [] r e f = ap (λ n. if n == 5 then Ragged ∷ [] else []) f
class_other (b ∷ span) r e f = rw (e, f, some_kept b span) (sym (if_list (u r == 5) Ragged _))

by_sync : (span : List Bool) (h : Held) → Sync h (seven_from 0 span) (unstuffed_from 0 span) (run_from 0 span)
    → reported span ≡ closing (held_from h flag_start)
by_sync span h (inl a) = class_aborted span a.1 ∙ sym (closing_aborted (held_from h flag_start) (from_aborted h flag_start a.0))
by_sync span h (inr s) =
    class_other span h.run s.1 s.4
    ∙ ap (λ k. if u h.run == 5 then Ragged ∷ [] else by_kept k) (sym s.3)
    ∙ sym (ending h.run h.is_inserted h.kept s.2)
    ∙ ap (λ x. closing (held_from x flag_start)) (sym (holding_is h s.0))

whole_span : (span : List Bool) → reported span ≡ closing (held_from fresh (span ++ flag_start))
whole_span span = by_sync span (held_from fresh span) (sync 0 false [] span (omega arith)) ∙ ap closing (sym (held-append fresh span flag_start))

shared_span : reported [] ≡ closing (held_from fresh (true ∷ true ∷ true ∷ true ∷ true ∷ true ∷ []))
unfolding closing held_from kept_found
shared_span = refl

-- six 1 bits at the end
tail_is : (r : ℕ) (tail : List Bool) → r ≤ 7 → length tail ≡ 7 → (ups r tail == 6) ≡ true → tail ≡ flag_start
tail_is r (a ∷ b ∷ c ∷ d ∷ e ∷ f ∷ false ∷ []) h k x = cc
tail_is r (a ∷ b ∷ c ∷ d ∷ e ∷ false ∷ true ∷ []) h k x = cc
tail_is r (a ∷ b ∷ c ∷ d ∷ false ∷ true ∷ true ∷ []) h k x = cc
tail_is r (a ∷ b ∷ c ∷ false ∷ true ∷ true ∷ true ∷ []) h k x = cc
tail_is r (a ∷ b ∷ false ∷ true ∷ true ∷ true ∷ true ∷ []) h k x = cc
tail_is r (a ∷ false ∷ true ∷ true ∷ true ∷ true ∷ true ∷ []) h k x = cc
tail_is r (false ∷ true ∷ true ∷ true ∷ true ∷ true ∷ true ∷ []) h k x = refl
tail_is zero (true ∷ true ∷ true ∷ true ∷ true ∷ true ∷ true ∷ []) h k x = cc
tail_is (suc zero) (true ∷ true ∷ true ∷ true ∷ true ∷ true ∷ true ∷ []) h k x = cc
tail_is (suc (suc zero)) (true ∷ true ∷ true ∷ true ∷ true ∷ true ∷ true ∷ []) h k x = cc
tail_is (suc (suc (suc zero))) (true ∷ true ∷ true ∷ true ∷ true ∷ true ∷ true ∷ []) h k x = cc
tail_is (suc (suc (suc (suc zero)))) (true ∷ true ∷ true ∷ true ∷ true ∷ true ∷ true ∷ []) h k x = cc
tail_is (suc (suc (suc (suc (suc zero))))) (true ∷ true ∷ true ∷ true ∷ true ∷ true ∷ true ∷ []) h k x = cc
tail_is (suc (suc (suc (suc (suc (suc zero)))))) (true ∷ true ∷ true ∷ true ∷ true ∷ true ∷ true ∷ []) h k x = cc
tail_is (suc (suc (suc (suc (suc (suc (suc zero))))))) (true ∷ true ∷ true ∷ true ∷ true ∷ true ∷ true ∷ []) h k x = cc
tail_is (suc (suc (suc (suc (suc (suc (suc (suc n)))))))) (true ∷ true ∷ true ∷ true ∷ true ∷ true ∷ true ∷ []) h k x = absurd (omega arith)
tail_is r [] h k x = absurd (omega arith)
tail_is r (a ∷ []) h k x = absurd (omega arith)
tail_is r (a ∷ b ∷ []) h k x = absurd (omega arith)
tail_is r (a ∷ b ∷ c ∷ []) h k x = absurd (omega arith)
tail_is r (a ∷ b ∷ c ∷ d ∷ []) h k x = absurd (omega arith)
tail_is r (a ∷ b ∷ c ∷ d ∷ e ∷ []) h k x = absurd (omega arith)
tail_is r (a ∷ b ∷ c ∷ d ∷ e ∷ f ∷ []) h k x = absurd (omega arith)
tail_is r (a ∷ b ∷ c ∷ d ∷ e ∷ f ∷ g ∷ y ∷ tail) h k x = absurd (omega arith)

pub ends_so : (text : List Bool) → (ups 7 text == 6) ≡ true → (pre : List Bool) × (text ≡ pre ++ flag_start)
ends_so text x = elim (cases_lt (length text) 7) [
  | inl low ↦ let no : (not false && ups 7 text == 6) ≡ false =
      not_six 0 false text low (ups_bound 7 0 text (omega arith) (inl refl)) in let bad : true ≡ false = sym x ∙ no in cc
  | inr high ↦
      let cut : take (length text - 7) text ++ drop (length text - 7) text ≡ text = take-append-drop (length text - 7) text in
      let size : length (drop (length text - 7) text) ≡ 7 = rw length-drop (omega arith) in
      let same : ups 7 text ≡ ups (ups 7 (take (length text - 7) text)) (drop (length text - 7) text) =
      ap (ups 7) (sym cut) ∙ ups-append 7 (take (length text - 7) text) (drop (length text - 7) text) in
      let tail : drop (length text - 7) text ≡ flag_start =
      tail_is (ups 7 (take (length text - 7) text)) (drop (length text - 7) text) (ups_small 7 (take (length text - 7) text) (omega arith)) size
      (ap (λ n. n == 6) (sym same) ∙ x) in
      (take (length text - 7) text, sym cut ∙ ap (λ l. take (length text - 7) text ++ l) tail)
]

pub closed_span : (span : List Bool) (b : Bool) → closed ((false ∷ span ++ flag_start) ++ b ∷ []) ≡ span
closed_span span b =
    let size : length ((span ++ flag_start) ++ b ∷ []) ≡ length span + 8 = rw (length-append, length-append) (omega arith) in
    let count : suc (length ((span ++ flag_start) ++ b ∷ [])) - 9 ≡ length span = omega arith in
    rw (count, append_assoc span flag_start (b ∷ [])) (take-append_seam span (flag_start ++ b ∷ []))

from_pre : (rest : List Bool) (b : Bool) (pre : List Bool) → false ∷ rest ≡ pre ++ flag_start
    → reported (closed ((false ∷ rest) ++ b ∷ [])) ≡ closing (held_from fresh rest)
from_pre rest b [] e =
    let is : rest ≡ true ∷ true ∷ true ∷ true ∷ true ∷ true ∷ [] = cc in
    rw is shared_span
from_pre rest b (p ∷ span) e =
    let is : rest ≡ span ++ flag_start = cc in
    rw (is, closed_span span b) (whole_span span)

-- the span that closes here
pub closes : (rest : List Bool) (b : Bool) → (ups 7 (false ∷ rest) == 6) ≡ true
    → reported (closed ((false ∷ rest) ++ b ∷ [])) ≡ closing (held_of (false ∷ rest))
unfolding held_from
closes rest b x = let pre = ends_so (false ∷ rest) x in from_pre rest b pre.0 pre.1

pub closes_held : (rest : List Bool) (b : Bool) → ((held_of (false ∷ rest)).run == 6) ≡ true
    → reported (closed ((false ∷ rest) ++ b ∷ [])) ≡ closing (held_of (false ∷ rest))
closes_held rest b x = closes rest b (ap (λ r. r == 6) (sym (run_ups none_held (false ∷ rest))) ∙ x)
