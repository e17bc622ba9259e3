-- A flag ends where a 0 follows six 1 bits.
use Rattle.std.proofs.Common.{ℕ, zero, suc, ◌+◌, ◌-◌, ◌<◌, ◌≤◌, ◌≡◌, ◌∙◌, ◌⊎◌, inl, inr, Bool, true, false, not, ◌&&◌, ◌==◌, List, [], ◌∷◌, ◌++◌, length, take}
use Rattle.std.proofs.Common.{drop, refl, ap, sym, arith, length-append, length-drop, append_assoc}
use Rattle.std.proofs.lemmas.Bool.{cases_lt}
use Rattle.std.proofs.Math.Seq.{drop-append_seam}
use Rattle.std.proofs.lemmas.List.{take-append-drop}
use Rattle.x25_bits.specs.Deframer.{is_flag_at}
use Rattle.x25_bits.proofs.SpanSteps.{ends_flag}
use Rattle.x25_bits.proofs.SpanLemmas.{begins_by, flag_behind, flag_short}
use Rattle.x25_bits.specs.code.Held.{Held, none_held, up, held_next, held_from, held_of}

abbrev pub ups : ℕ → List Bool → ℕ
ups r [] = r
ups r (b ∷ bits) = ups (up r b) bits

pub run_ups : (h : Held) (bits : List Bool) → (held_from h bits).run ≡ ups h.run bits
unfolding held_from
run_ups h [] = refl
run_ups h (b ∷ bits) = run_ups (held_next h b) bits

pub held-append : (h : Held) (a b : List Bool) → held_from h (a ++ b) ≡ held_from (held_from h a) b
unfolding held_from
held-append h [] b = refl
held-append h (x ∷ a) b = held-append (held_next h x) a b

pub ups-append : (r : ℕ) (a b : List Bool) → ups r (a ++ b) ≡ ups (ups r a) b
ups-append r [] b = refl
ups-append r (x ∷ a) b = ups-append (up r x) a b

up_small : (r : ℕ) (b : Bool) → r ≤ 7 → up r b ≤ 7
up_small r false h = omega arith
up_small zero true h = omega arith
up_small (suc zero) true h = omega arith
up_small (suc (suc zero)) true h = omega arith
up_small (suc (suc (suc zero))) true h = omega arith
up_small (suc (suc (suc (suc zero)))) true h = omega arith
up_small (suc (suc (suc (suc (suc zero))))) true h = omega arith
up_small (suc (suc (suc (suc (suc (suc zero)))))) true h = omega arith
up_small (suc (suc (suc (suc (suc (suc (suc zero))))))) true h = omega arith
up_small (suc (suc (suc (suc (suc (suc (suc (suc n)))))))) true h = absurd (omega arith)

pub ups_small : (r : ℕ) (bits : List Bool) → r ≤ 7 → ups r bits ≤ 7
ups_small r [] h = h
ups_small r (b ∷ bits) h = ups_small (up r b) bits (up_small r b h)

-- as many bits as the run, and a 0 before
up_bound : (r n : ℕ) (b : Bool) → r ≤ 7 → (r ≡ 7) ⊎ (r < n) → (up r b ≡ 7) ⊎ (up r b < suc n)
up_bound r n false h k = inr (omega arith)
up_bound zero n true h (inr k) = inr (omega arith)
up_bound (suc zero) n true h (inr k) = inr (omega arith)
up_bound (suc (suc zero)) n true h (inr k) = inr (omega arith)
up_bound (suc (suc (suc zero))) n true h (inr k) = inr (omega arith)
up_bound (suc (suc (suc (suc zero)))) n true h (inr k) = inr (omega arith)
up_bound (suc (suc (suc (suc (suc zero))))) n true h (inr k) = inr (omega arith)
up_bound (suc (suc (suc (suc (suc (suc zero)))))) n true h (inr k) = inl refl
up_bound (suc (suc (suc (suc (suc (suc (suc zero))))))) n true h k = inl refl
up_bound zero n true h (inl k) = absurd (omega arith)
up_bound (suc zero) n true h (inl k) = absurd (omega arith)
up_bound (suc (suc zero)) n true h (inl k) = absurd (omega arith)
up_bound (suc (suc (suc zero))) n true h (inl k) = absurd (omega arith)
up_bound (suc (suc (suc (suc zero)))) n true h (inl k) = absurd (omega arith)
up_bound (suc (suc (suc (suc (suc zero))))) n true h (inl k) = absurd (omega arith)
up_bound (suc (suc (suc (suc (suc (suc zero)))))) n true h (inl k) = absurd (omega arith)
up_bound (suc (suc (suc (suc (suc (suc (suc (suc m)))))))) n true h k = absurd (omega arith)

pub ups_bound : (r n : ℕ) (bits : List Bool) → r ≤ 7 → (r ≡ 7) ⊎ (r < n) → (ups r bits ≡ 7) ⊎ (ups r bits < n + length bits)
ups_bound r n [] h k = elim k [ inl e ↦ inl e | inr l ↦ inr (omega arith) ]
ups_bound r n (b ∷ bits) h k = elim (ups_bound (up r b) (suc n) bits (up_small r b h) (up_bound r n b h k)) [ inl e ↦ inl e | inr l ↦ inr (omega arith) ]

pub no_and : (a : Bool) → (a && false) ≡ false
no_and true = refl
no_and false = refl

-- the last seven bits tell
seven_last : (r : ℕ) (a b c d e f g x : Bool) → r ≤ 7
    → (not a && (b && (c && (d && (e && (f && (g && not x))))))) ≡ (not x && ups r (a ∷ b ∷ c ∷ d ∷ e ∷ f ∷ g ∷ []) == 6)
seven_last r a b c d e f false x h = simp no_and
seven_last r a b c d e false true x h = simp no_and
seven_last r a b c d false true true x h = simp no_and
seven_last r a b c false true true true x h = simp no_and
seven_last r a b false true true true true x h = simp no_and
seven_last r a false true true true true true x h = simp no_and
seven_last r false true true true true true true true h = refl
seven_last r false true true true true true true false h = refl
seven_last zero true true true true true true true x h = sym (no_and (not x))
seven_last (suc zero) true true true true true true true x h = sym (no_and (not x))
seven_last (suc (suc zero)) true true true true true true true x h = sym (no_and (not x))
seven_last (suc (suc (suc zero))) true true true true true true true x h = sym (no_and (not x))
seven_last (suc (suc (suc (suc zero)))) true true true true true true true x h = sym (no_and (not x))
seven_last (suc (suc (suc (suc (suc zero))))) true true true true true true true x h = sym (no_and (not x))
seven_last (suc (suc (suc (suc (suc (suc zero)))))) true true true true true true true x h = sym (no_and (not x))
seven_last (suc (suc (suc (suc (suc (suc (suc zero))))))) true true true true true true true x h = sym (no_and (not x))
seven_last (suc (suc (suc (suc (suc (suc (suc (suc n)))))))) true true true true true true true x h = absurd (omega arith)

tail_tells : (r : ℕ) (tail : List Bool) (x : Bool) → r ≤ 7 → length tail ≡ 7 → is_flag_at (tail ++ x ∷ []) 0 ≡ (not x && ups r tail == 6)
unfolding is_flag_at
tail_tells r (a ∷ b ∷ c ∷ d ∷ e ∷ f ∷ g ∷ []) x h k = begins_by a b c d e f g x [] ∙ seven_last r a b c d e f g x h
tail_tells r [] x h k = absurd (omega arith)
tail_tells r (a ∷ []) x h k = absurd (omega arith)
tail_tells r (a ∷ b ∷ []) x h k = absurd (omega arith)
tail_tells r (a ∷ b ∷ c ∷ []) x h k = absurd (omega arith)
tail_tells r (a ∷ b ∷ c ∷ d ∷ []) x h k = absurd (omega arith)
tail_tells r (a ∷ b ∷ c ∷ d ∷ e ∷ []) x h k = absurd (omega arith)
tail_tells r (a ∷ b ∷ c ∷ d ∷ e ∷ f ∷ []) x h k = absurd (omega arith)
tail_tells r (a ∷ b ∷ c ∷ d ∷ e ∷ f ∷ g ∷ y ∷ tail) x h k = absurd (omega arith)

-- what stands before the last seven bits and the next one says nothing
split_tells : (pre tail : List Bool) (x : Bool) → length tail ≡ 7 → ends_flag ((pre ++ tail) ++ x ∷ []) ≡ (not x && ups 7 (pre ++ tail) == 6)
split_tells pre tail x k =
    let size : length ((pre ++ tail) ++ x ∷ []) ≡ length pre + 8 = rw (length-append, length-append) (omega arith) in
    let place : length ((pre ++ tail) ++ x ∷ []) - 8 ≡ length pre + 0 = omega arith in
    let behind : drop (length pre) ((pre ++ tail) ++ x ∷ []) ≡ tail ++ x ∷ [] = rw append_assoc (drop-append_seam pre (tail ++ x ∷ [])) in
    ap (is_flag_at ((pre ++ tail) ++ x ∷ [])) place
    ∙ sym (flag_behind ((pre ++ tail) ++ x ∷ []) (length pre) 0)
    ∙ ap (λ l. is_flag_at l 0) behind
    ∙ tail_tells (ups 7 pre) tail x (ups_small 7 pre (omega arith)) k
    ∙ ap (λ r. not x && r == 6) (sym (ups-append 7 pre tail))

pub not_six : (n : ℕ) (x : Bool) (bits : List Bool) → length bits < 7 → (ups 7 bits ≡ 7) ⊎ (ups 7 bits < 0 + length bits) → (not x && ups 7 bits == 6) ≡ false
not_six n x bits h (inl e) = rw e (no_and (not x))
not_six n x bits h (inr l) = let other : (ups 7 bits == 6) ≡ false = grind arith in rw other (no_and (not x))

pub flags_by : (text : List Bool) (b : Bool) → ends_flag (text ++ b ∷ []) ≡ (not b && ups 7 text == 6)
flags_by text b = elim (cases_lt (length text) 7) [
  | inl low ↦
      let size : length (text ++ b ∷ []) ≡ length text + 1 = length-append text (b ∷ []) in
      flag_short (text ++ b ∷ []) (length (text ++ b ∷ []) - 8) (omega arith) ∙ sym (not_six 0 b text low (ups_bound 7 0 text (omega arith) (inl refl)))
  | inr high ↦
      let cut : take (length text - 7) text ++ drop (length text - 7) text ≡ text = take-append-drop (length text - 7) text in
      let size : length (drop (length text - 7) text) ≡ 7 = rw length-drop (omega arith) in
      rw cut at (split_tells (take (length text - 7) text) (drop (length text - 7) text) b size)
]

pub flags_held : (text : List Bool) (b : Bool) → ends_flag (text ++ b ∷ []) ≡ (not b && (held_of text).run == 6)
flags_held text b = flags_by text b ∙ ap (λ r. not b && r == 6) (sym (run_ups none_held text))
