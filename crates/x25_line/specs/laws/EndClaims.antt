-- What holds of any two ends that keep the rules, over set-up and re-set-up at any moment.
use Rattle.std.specs.Prelude.{◌≡◌, ◌≤◌, ◌⊎◌, ℕ, List, [], ◌∷◌, length, Option}
use Rattle.x25_window.specs.code.Modulo.{resolved}
use Rattle.x25_line.specs.{laws.InWindow.{IsPrefix}, laws.Said.{Carried, Tells}, laws.Sessions.{Meeting}}
use Rattle.x25_line.specs.{laws.SessionClaims.{Each, SomeMet, InStep}, laws.Peer.{Peer}}
use Rattle.x25_line.specs.laws.Ends.{In, Letter, Ends, near_now, EndsReached}

abbrev pub OfAnyTwoEnds : (Ends → Type 0) → Type 0
OfAnyTwoEnds Holds = (w : Ends) → EndsReached w → Holds w

-- What was taken is a beginning of what was handed down; what is acknowledged was taken; so all was where all is.
pub record InOrder (giver taker : Peer) : Type 0 where
  pub begins : IsPrefix taker.taken giver.given
  pub acked : giver.acked ≤ length taker.taken
  pub all : giver.acked ≡ length giver.given → taker.taken ≡ giver.given

-- of two sessions that meet
abbrev pub MetInOrder : (ℕ → Peer) → (ℕ → Peer) → Meeting → Type 0
MetInOrder near_of far_of m = InOrder (near_of m.near) (far_of m.far) × InOrder (far_of m.far) (near_of m.near)

-- Sessions meet one to one, and in order at both ends (`step`); of two that meet what is taken is in order (`order`);
-- a session that meets none takes nothing (`near_unmet`, `far_unmet`); the session of an end that is in one meets no
-- other than the latest of the other end (`latest`); and an N(R) that comes to it is valid (`valid`).
pub record KeepSessions (w : Ends) : Type 0 where
  pub step : InStep w.two.met
  pub order : Each (MetInOrder w.near_of w.far_of) w.two.met
  pub near_unmet : (n : ℕ) → ((w.near_of n).taken ≡ []) ⊎ SomeMet (λ (m : Meeting). m.near ≡ n) w.two.met
  pub far_unmet : (n : ℕ) → ((w.far_of n).taken ≡ []) ⊎ SomeMet (λ (m : Meeting). m.far ≡ n) w.two.met
  pub latest : w.two.near.stand ≡ In
      → Each (λ (m : Meeting). m.near ≡ w.two.near.begun → m.far ≡ w.two.far.begun) w.two.met
  pub valid : w.two.near.stand ≡ In → (e : Letter) (rest : List Letter) (carried : Option Carried) (nr : ℕ)
      → w.two.back ≡ e ∷ rest → e.said ≡ Tells carried nr → resolved (near_now w).acked nr ≤ (near_now w).sent
