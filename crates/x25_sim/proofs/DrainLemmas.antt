-- Deliveries, one after another.
use Rattle.x25_sim.proofs.Names.{◌≡◌, ◌∙◌, ℕ, zero, suc, Some, None, ap, refl, Role, Cfg, World, Receives, FitsWorld, next_end, Shown, quiet, and_then}
use Rattle.x25_sim.proofs.Names.{event_turn, delivered_to, drained}
use Rattle.x25_world.specs.code.ShownWorld.{ShownWorld}

module _ (cfg : Cfg) (shown : Shown) where
  pub drained_all : (n : ℕ) (w : World) → n ≡ 0 → drained cfg shown n w ≡ quiet w
  unfolding drained
  drained_all n w e = ap (λ m. drained cfg shown m w) e

  pub drained_empty : (n : ℕ) (w : World) → next_end w.out w.back ≡ None → drained cfg shown n w ≡ quiet w
  unfolding drained
  drained_empty zero w e = refl
  drained_empty (suc n) w e = ap (delivered_to cfg shown (drained cfg shown n) w) e

  pub drained_more : (n m : ℕ) (w : World) (at : Role) → n ≡ suc m → next_end w.out w.back ≡ Some at
      → drained cfg shown n w ≡ and_then (drained cfg shown m) (event_turn cfg shown (record { at = at; act = Receives }) w)
  unfolding drained
  drained_more n m w at e here = ap (λ n. drained cfg shown n w) e ∙ ap (delivered_to cfg shown (drained cfg shown m) w) here

-- what the world tells of its line
pub line_is : (cfg : Cfg) (v : ShownWorld) (w : World) → FitsWorld cfg v w → next_end v.to_dce v.to_dte ≡ next_end w.out w.back
line_is cfg v w f = ap (λ front. next_end front v.to_dte) f.to_dce ∙ ap (next_end w.out) f.to_dte
