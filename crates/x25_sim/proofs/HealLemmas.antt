-- Rounds of pulls, one after another.
use Rattle.x25_sim.proofs.Names.{◌≡◌, ℕ, suc, ◌<◌, Bool, true, false, Option, Some, None, ap, arith, refl, Role, Cfg, World, next_end, Shown, Turn, quiet}
use Rattle.x25_sim.proofs.Names.{and_then, pulled, unless_empty, emptied}
use Rattle.std.{proofs.Common.{◌+◌, ◌-◌}, specs.Prelude.{is_none, is_some, not, option_map}}

-- whether there is none, by whether there is some
pub none_by_some : {A B : Type 0} (f : A → B) (o : Option A) (b : Bool) → is_some o ≡ not b → b ≡ is_none (option_map f o)
none_by_some f None false e = absurd (cc)
none_by_some f (Some x) true e = absurd (cc)
none_by_some f o b e = refl

-- one less is left
pub one_less : (all done : ℕ) → done < all → all - done ≡ suc (all - (done + 1))
one_less all done h = omega (arith, h)

-- what is left behind a round
abbrev pub left_behind : Cfg → Shown → ℕ → World → Turn
left_behind cfg shown n w = unless_empty (emptied cfg shown n) w (next_end w.out w.back)

module _ (cfg : Cfg) (shown : Shown) where
  pub emptied_all : (n : ℕ) (w : World) → n ≡ 0 → emptied cfg shown n w ≡ quiet w
  unfolding emptied
  emptied_all n w e = ap (λ m. emptied cfg shown m w) e

  pub emptied_more : (n m : ℕ) (w : World) → n ≡ suc m → emptied cfg shown n w ≡ and_then (left_behind cfg shown m) (pulled cfg shown w)
  unfolding emptied
  emptied_more n m w e = ap (λ n. emptied cfg shown n w) e

  by_line : (rest : World → Turn) (w : World) (at : Option Role) → is_none at ≡ true → unless_empty rest w at ≡ quiet w
  by_line rest w None e = refl
  by_line rest w (Some at) e = absurd (cc)

  pub line_empty : (n : ℕ) (w : World) → is_none (next_end w.out w.back) ≡ true → left_behind cfg shown n w ≡ quiet w
  line_empty n w e = by_line (emptied cfg shown n) w (next_end w.out w.back) e

  by_frames : (rest : World → Turn) (w : World) (at : Option Role) → is_none at ≡ false → unless_empty rest w at ≡ rest w
  by_frames rest w None e = absurd (cc)
  by_frames rest w (Some at) e = refl

  pub line_filled : (n : ℕ) (w : World) → is_none (next_end w.out w.back) ≡ false → left_behind cfg shown n w ≡ emptied cfg shown n w
  line_filled n w e = by_frames (emptied cfg shown n) w (next_end w.out w.back) e
