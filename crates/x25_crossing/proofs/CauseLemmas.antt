-- Causes that go on are ones that the user of a station may give: of each of 256, at both ends.
use Rattle.std.proofs.Common.{◌≡◌, ℕ, zero, suc, ◌<◌, Bool, true, false, ◌&&◌, refl, sym, subst, arith}
use Rattle.std.specs.Prelude.{◌==◌}
use Rattle.std.proofs.lemmas.Bool.{and_parts, eqb-true, eqb-false}
use Rattle.x25_bits.specs.declared.role.Role.TheVariants.{Dte, Dce}
use Rattle.x25_circuit.specs.Cause.{may_clear_for, may_reset_for}
use Rattle.x25_crossing.specs.Cause.{clear_goes_on, reset_goes_on}
use Rattle.x25_crossing.specs.laws.CauseLaw.{ClearsAreGiven, ResetsAreGiven}

abbrev each : ℕ → (ℕ → Bool) → Bool
each zero f = true
each (suc n) f = f n && each n f

step : (b : Bool) (n : ℕ) (f : ℕ → Bool) → each (suc n) f ≡ true → ((k : ℕ) → k < n → f k ≡ true) → (k : ℕ) → k < suc n
    → (k == n) ≡ b → f k ≡ true
step true n f h before k small e = subst (λ (j : ℕ). f j ≡ true) (sym (eqb-true k n e)) (and_parts (f n) (each n f) h).0
step false n f h before k small e = before k (let other = eqb-false k n e in omega (arith, small, other))

each_is : (n : ℕ) (f : ℕ → Bool) → each n f ≡ true → (k : ℕ) → k < n → f k ≡ true
each_is zero f h k small = absurd (omega (arith, small))
each_is (suc n) f h k small =
    step (k == n) n f h (each_is n f (and_parts (f n) (each n f) h).1) k small refl

pub clears_are_given : ClearsAreGiven
clears_are_given Dte cause small = each_is 256 (λ c. may_clear_for Dte (clear_goes_on Dte c)) refl cause small
clears_are_given Dce cause small = each_is 256 (λ c. may_clear_for Dce (clear_goes_on Dce c)) refl cause small

pub resets_are_given : ResetsAreGiven
resets_are_given Dte cause small = each_is 256 (λ c. may_reset_for Dte (reset_goes_on Dte c)) refl cause small
resets_are_given Dce cause small = each_is 256 (λ c. may_reset_for Dce (reset_goes_on Dce c)) refl cause small
