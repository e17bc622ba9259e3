-- What a handshake keeps of two ends and the two lines between them, over any relation of the states within an epoch. The two ends may be of two
-- kinds: ours, and any peer.
use Rattle.x25_handshakes.proofs.Names.{◌≡◌, ◌⊎◌, ℕ, suc, List, [], ◌∷◌, Bool, true, false, Mark, Inner, Request, Confirm, Side, Live, Left}
use Rattle.x25_handshakes.{proofs.Names.{At}, specs.laws.Handshake.{has_left}}

abbrev pub kept_before : {P : Type 0} → Mark → P → List P → List P
kept_before Inner p rest = p ∷ rest
kept_before Request p rest = []
kept_before Confirm p rest = []

-- what stands before the first marker
abbrev pub before : {P : Type 0} → (P → Mark) → List P → List P
before mark [] = []
before mark (p ∷ ps) = kept_before (mark p) p (before mark ps)

abbrev pub kept_past : {P : Type 0} → Mark → List P → List P → List P
kept_past Inner rest later = later
kept_past Request rest later = rest
kept_past Confirm rest later = rest

-- what stands behind it
abbrev pub past : {P : Type 0} → (P → Mark) → List P → List P
past mark [] = []
past mark (p ∷ ps) = kept_past (mark p) ps (past mark ps)

abbrev pub ends_at : {P : Type 0} → Mark → Bool → List P → Type 0 → Type 0
ends_at Inner left rest later = later
ends_at Request left rest later = (left ≡ true) × (rest ≡ [])
ends_at Confirm left rest later = ⊥

-- no marker is on the line but, where its sender has left, its request, the last of all
abbrev pub Ends : {P : Type 0} → (P → Mark) → Bool → List P → Type 0
Ends mark left [] = left ≡ false
Ends mark left (p ∷ ps) = ends_at (mark p) left ps (Ends mark left ps)

abbrev pub behind_at : Mark → Type 0 → Type 0 → Type 0
behind_at Inner here later = later
behind_at Request here later = here
behind_at Confirm here later = here

-- a marker is on the line, and behind it what Ends says
abbrev pub Behind : {P : Type 0} → (P → Mark) → Bool → List P → Type 0
Behind mark left [] = ⊥
Behind mark left (p ∷ ps) = behind_at (mark p) (Ends mark left ps) (Behind mark left ps)

-- an end that has left is one that has stopped
abbrev pub Extended : {S T P : Type 0} → (S → Type 0) → (T → Type 0) → (S → List P → List P → T → Type 0) → Side S → List P → List P → Side T → Type 0
Extended {S} {T} {P} gone gone_there R (Live x) u v (Live y) = R x u v y
Extended {S} {T} {P} gone gone_there R (Left x) u v (Live y) = (w : List P) × gone x × R x u w y
Extended {S} {T} {P} gone gone_there R (Live x) u v (Left y) = (w : List P) × gone_there y × R x w v y
Extended {S} {T} {P} gone gone_there R (Left x) u v (Left y) = (w : List P) × (z : List P) × R x w z y

pub record Level (S T P : Type 0) : Type 1 where
  pub mark : P → Mark
  pub fresh : S
  pub fresh_there : T
  pub gone : S → Type 0
  pub gone_there : T → Type 0
  pub related : S → List P → List P → T → Type 0

-- both in one epoch
pub record Same {S T P : Type 0} (l : Level S T P) (ex ey : ℕ) (x : Side S) (y : Side T) (L K : List P) : Type 0 where
  pub epochs : ex ≡ ey
  pub there : Ends l.mark (has_left x) L
  pub back : Ends l.mark (has_left y) K
  pub inner : Extended l.gone l.gone_there l.related x (before l.mark L) (before l.mark K) y

-- the first is one epoch ahead
pub record Ahead {S T P : Type 0} (l : Level S T P) (ex ey : ℕ) (x : Side S) (y : Side T) (L K : List P) : Type 0 where
  pub epochs : ex ≡ suc ey
  pub waits : has_left y ≡ true
  pub back : K ≡ []
  pub there : Behind l.mark (has_left x) L
  pub inner : Extended l.gone l.gone_there l.related x (before l.mark (past l.mark L)) [] (Live l.fresh_there)

-- the second is one epoch ahead
pub record Later {S T P : Type 0} (l : Level S T P) (ex ey : ℕ) (x : Side S) (y : Side T) (L K : List P) : Type 0 where
  pub epochs : ey ≡ suc ex
  pub waits : has_left x ≡ true
  pub there : L ≡ []
  pub back : Behind l.mark (has_left y) K
  pub inner : Extended l.gone l.gone_there l.related (Live l.fresh) [] (before l.mark (past l.mark K)) y

-- the two ends are in one epoch, or one of them is one ahead
abbrev pub Handshake : {S T P : Type 0} → Level S T P → ℕ → ℕ → Side S → Side T → List P → List P → Type 0
Handshake l ex ey x y L K = Same l ex ey x y L K ⊎ Ahead l ex ey x y L K ⊎ Later l ex ey x y L K

-- of two ends, each in its epoch
pub record Handshaken {S T P : Type 0} (l : Level S T P) (x : At S) (L K : List P) (y : At T) : Type 0 where
  pub hand : Handshake l x.epoch y.epoch x.side y.side L K

-- each of these packets
abbrev pub Each : {P : Type 0} → (P → Type 0) → List P → Type 0
Each A [] = Unit {0}
Each A (p ∷ ps) = A p × Each A ps

-- no packet of these is a marker
abbrev pub AllInner : {P : Type 0} → (P → Mark) → List P → Type 0
AllInner mark ps = Each (λ p. mark p ≡ Inner) ps
