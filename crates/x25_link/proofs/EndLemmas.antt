-- The end of a step comes to rest: nothing is left that may be sent, and no RR is owed.
use Rattle.x25_link.proofs.Names.{◌≡◌, ℕ, ◌+◌, ◌<◌, ◌≤◌, zero, suc, List, [], ◌∷◌, length, Bool, true, false, not, if◌then◌else◌, refl, sym, ap, ◌∙◌, arith}
use Rattle.x25_link.proofs.Names.{length-append, ◌&&◌, nat_lt, lt-ltb, le-ltb, ltb-false, not-true, and_parts, and_right, Outgoing, waits, is_open, added}
use Rattle.x25_link.proofs.Names.{moved_on, LinkStation, Side, is_up, is_busy, ready, send_next, may_send, pumped, owes_ready, finished, ended}
use Rattle.std.proofs.{Common.{◌⊎◌, inl, inr}, lemmas.Bool.{ltb-true, and_left}}
use Rattle.x25_link.specs.Station.{pumped_once}

-- ---- tests

pub true_false : {A : Type 0} → true ≡ false → A
true_false e = absurd (never e)
  where
    never : true ≡ false → ⊥
    never e = cc

-- ---- what an open window is

pub record Open (k : ℕ) (s : LinkStation) : Type 0 where
  pub up : is_up s.phase ≡ true
  pub recovery : s.recovery ≡ false
  pub peer_busy : s.peer_busy ≡ false
  pub room : s.outgoing.place < s.outgoing.acked + k
  pub packet : s.outgoing.place < length s.outgoing.given

pub open_is : (k : ℕ) (s : LinkStation) → may_send k s ≡ true → Open k s
open_is k s e =
    let a = and_parts (is_up s.phase) _ e in
    let b = and_parts (not s.recovery) _ a.1 in
    let d = and_parts (not s.peer_busy) _ b.1 in
    let f = and_parts (nat_lt s.outgoing.place (s.outgoing.acked + k)) _ d.1 in
    record { up = a.0; recovery = not-true _ b.0; peer_busy = not-true _ d.0; room = ltb-true _ _ f.0; packet = ltb-true _ _ f.1 }

pub closed_is : (k : ℕ) (s : LinkStation) → is_up s.phase ≡ true → s.recovery ≡ false → s.peer_busy ≡ false → may_send k s ≡ is_open k s.outgoing
closed_is k s up recovery peer_busy = rw (up, recovery, peer_busy) refl

pub none_open : (k : ℕ) (o : Outgoing) → length o.given ≤ o.place → is_open k o ≡ false
none_open k o none = and_right _ _ (le-ltb o.place (length o.given) none)

pub full_closed : (k : ℕ) (o : Outgoing) → o.acked + k ≤ o.place → is_open k o ≡ false
full_closed k o full = and_left _ _ (le-ltb o.place (o.acked + k) full)

pub not_open : (k : ℕ) (s : LinkStation) → is_open k s.outgoing ≡ false → may_send k s ≡ false
not_open k s e = and_right (is_up s.phase) _ (and_right (not s.recovery) _ (and_right (not s.peer_busy) _ e))

-- ---- the sending rule comes to rest

once_by : (b : Bool) (k : ℕ) (t : Side) → may_send k t.near ≡ b
    → (let u : Side = if b then send_next t else t in (may_send k u.near ≡ false)
    ⊎ ((u.near.outgoing.place ≡ t.near.outgoing.place + 1) × (u.near.outgoing.acked ≡ t.near.outgoing.acked)))
once_by true k t h = inr (refl, refl)
once_by false k t h = inl h

-- it has come to rest, or has sent a frame each time
pub pumped_or : (n k : ℕ) (t : Side) → (may_send k (pumped n k t).near ≡ false)
    ⊎ (((pumped n k t).near.outgoing.place ≡ t.near.outgoing.place + n) × ((pumped n k t).near.outgoing.acked ≡ t.near.outgoing.acked))
unfolding pumped
pumped_or zero k t = inr (omega arith, refl)
pumped_or (suc n) k t = elim (pumped_or n k t) [
  | inl settled ↦ inl (rw settled settled)
  | inr more ↦ elim (once_by (may_send k (pumped n k t).near) k (pumped n k t) refl)
      [ inl settled ↦ inl settled | inr one ↦ inr (one.0 ∙ (omega (arith, more.0)), one.1 ∙ more.1) ]
]

pub pumped_rests : (k : ℕ) (t : Side) → k ≤ 7 → t.near.outgoing.acked ≤ t.near.outgoing.place → may_send k (pumped 7 k t).near ≡ false
pumped_rests k t small low = elim (pumped_or 7 k t) [
  | inl settled ↦ settled
  | inr more ↦ not_open k (pumped 7 k t).near (full_closed k (pumped 7 k t).near.outgoing (omega (arith, more.0, more.1)))
]

pub once_stays : (n k : ℕ) (t : Side) → may_send k (pumped_once k t).near ≡ false → pumped (suc n) k t ≡ pumped_once k t
unfolding pumped
once_stays zero k t h = refl
once_stays (suc n) k t h = ap (pumped_once k) (once_stays n k t h) ∙ (rw h refl)

pub pumped_stays : (n k : ℕ) (t : Side) → may_send k t.near ≡ false → pumped n k t ≡ t
unfolding pumped
pumped_stays zero k t h = refl
pumped_stays (suc n) k t h = ap (pumped_once k) (pumped_stays n k t h) ∙ (rw h refl)

-- the first step apart from those behind it
pub pumped_first : (n k : ℕ) (t : Side) → pumped (suc n) k t ≡ pumped n k (pumped_once k t)
unfolding pumped
pumped_first zero k t = refl
pumped_first (suc n) k t = ap (pumped_once k) (pumped_first n k t)

-- where nothing may be sent any more, the others send nothing
pub pumped_settled : (d i k : ℕ) (t : Side) → may_send k (pumped i k t).near ≡ false → pumped (d + i) k t ≡ pumped i k t
unfolding pumped
pumped_settled zero i k t h = let same : zero + i ≡ i = omega arith in rw same refl
pumped_settled (suc d) i k t h = let next : suc d + i ≡ suc (d + i) = omega arith in rw next (ap (pumped_once k) (pumped_settled d i k t h) ∙ (rw h refl))

pub once_none : (k : ℕ) (t : Side) → may_send k t.near ≡ false → pumped_once k t ≡ t
once_none k t h = rw h refl

-- ---- the RR that ends an RNR

pub ready_sends : (k : ℕ) (b : Bool) (command pf : Bool) (t : Side) → is_busy t.near ≡ b → may_send k (ready command pf t).near ≡ may_send k t.near
ready_sends k true command pf t e = rw e refl
ready_sends k false command pf t e = rw e refl

finished_by : (k : ℕ) (b : Bool) (t : Side) → owes_ready t.near ≡ b → (may_send k (finished t).near ≡ may_send k t.near)
finished_by k true t e = rw e (ready_sends k _ false false t refl)
finished_by k false t e = rw e refl

calm_by : (b : Bool) (t : Side) → owes_ready t.near ≡ b → owes_ready (finished t).near ≡ false
calm_by true t e =
    let a = and_parts (is_up t.near.phase) _ e in
    let d = and_parts t.near.said_busy _ a.1 in
    let busy : is_busy t.near ≡ false = not-true _ d.1 in
    rw (e, busy) (and_right _ _ refl)
calm_by false t e = rw e e

pub ended_settled : (k : ℕ) (t : Side) → k ≤ 7 → t.near.outgoing.acked ≤ t.near.outgoing.place → may_send k (ended k t).near ≡ false
ended_settled k t small low = finished_by k _ (pumped 7 k t) refl ∙ pumped_rests k t small low

pub ended_calm : (k : ℕ) (t : Side) → owes_ready (ended k t).near ≡ false
ended_calm k t = calm_by _ (pumped 7 k t) refl

pub ended_stays : (k : ℕ) (t : Side) → may_send k t.near ≡ false → owes_ready t.near ≡ false → ended k t ≡ t
ended_stays k t settled calm = ap finished (pumped_stays 7 k t settled) ∙ rw calm refl

-- ---- one packet more

owes_by : (up said busy : Bool) → (up && (said && not busy)) ≡ false → up ≡ true → said ≡ true → busy ≡ true
owes_by true true true e u v = refl
owes_by true true false e u v = sym e
owes_by true false busy e u v = true_false (sym v)
owes_by false said busy e u v = true_false (sym u)

pub busy_is : (s : LinkStation) → owes_ready s ≡ false → is_up s.phase ≡ true → s.said_busy ≡ true → is_busy s ≡ true
busy_is s = owes_by (is_up s.phase) s.said_busy (is_busy s)

calm_from : (up said busy : Bool) → (up ≡ true → said ≡ true → busy ≡ true) → (up && (said && not busy)) ≡ false
calm_from true true false f = sym (f refl refl)
calm_from up said busy f = refl

pub calm_is : (s : LinkStation) → (is_up s.phase ≡ true → s.said_busy ≡ true → is_busy s ≡ true) → owes_ready s ≡ false
calm_is s = calm_from (is_up s.phase) s.said_busy (is_busy s)

abbrev pub with_packet : List ℕ → LinkStation → Side
with_packet packet s = record { near = record s { outgoing = added packet s.outgoing }; out = [] }

-- nothing waited where the window is open now
all_sent : (k : ℕ) (s : LinkStation) (packet : List ℕ) → may_send k s ≡ false → may_send k (with_packet packet s).near ≡ true → length s.outgoing.given
    ≤ s.outgoing.place
all_sent k s packet settled may =
    let o = open_is k (with_packet packet s).near may in
    let shut : is_open k s.outgoing ≡ false = sym (closed_is k s o.up o.recovery o.peer_busy) ∙ settled in
    let test = rw (lt-ltb s.outgoing.place (s.outgoing.acked + k) o.room) at shut in
    ltb-false _ _ test

rests_by : (b : Bool) (k : ℕ) (s : LinkStation) (packet : List ℕ) → may_send k s ≡ false → may_send k (with_packet packet s).near ≡ b
    → may_send k (pumped_once k (with_packet packet s)).near ≡ false
rests_by true k s packet settled may =
    let all = all_sent k s packet settled may in
    rw may (not_open k (send_next (with_packet packet s)).near
    (none_open k (moved_on (added packet s.outgoing)) (omega (arith, length-append s.outgoing.given (packet ∷ [])))))
rests_by false k s packet settled may = rw may may

pub put_rests : (k : ℕ) (s : LinkStation) (packet : List ℕ) → may_send k s ≡ false → may_send k (pumped_once k (with_packet packet s)).near ≡ false
put_rests k s packet settled = rests_by _ k s packet settled refl

put_calm_by : (b : Bool) (k : ℕ) (s : LinkStation) (packet : List ℕ) → s.outgoing.place ≤ s.outgoing.sent → may_send k s ≡ false → owes_ready s ≡ false
    → may_send k (with_packet packet s).near ≡ b → owes_ready (pumped_once k (with_packet packet s)).near ≡ false
put_calm_by true k s packet low settled calm may =
    let all = all_sent k s packet settled may in
    rw may (calm_is (send_next (with_packet packet s)).near (λ up said.
    let busy : is_busy s ≡ true = busy_is s calm up said in
    absurd (omega (arith, ltb-true _ _ busy))))
put_calm_by false k s packet low settled calm may =
    rw may (calm_is (with_packet packet s).near (λ up said.
    let busy : is_busy s ≡ true = busy_is s calm up said in
    let more : 254 < waits (added packet s.outgoing) = omega (arith, ltb-true _ _ busy, length-append s.outgoing.given (packet ∷ [])) in
    lt-ltb _ _ more))

pub put_calm : (k : ℕ) (s : LinkStation) (packet : List ℕ) → s.outgoing.place ≤ s.outgoing.sent → may_send k s ≡ false → owes_ready s ≡ false
    → owes_ready (pumped_once k (with_packet packet s)).near ≡ false
put_calm k s packet low settled calm = put_calm_by _ k s packet low settled calm refl

-- where nothing waits that may be sent, one packet more sends one frame at most, and no RR
pub put_once : (k : ℕ) (s : LinkStation) (packet : List ℕ) → s.outgoing.place ≤ s.outgoing.sent → may_send k s ≡ false → owes_ready s ≡ false
    → ended k (with_packet packet s) ≡ pumped_once k (with_packet packet s)
put_once k s packet low settled calm =
    ap finished (once_stays 6 k (with_packet packet s) (put_rests k s packet settled)) ∙ rw (put_calm k s packet low settled calm) refl
