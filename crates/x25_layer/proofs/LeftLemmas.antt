-- Where the link has room behind the rounds, a pull of any channel gives nothing.
use Rattle.x25_layer.proofs.Names.{◌≡◌, ◌⊎◌, inl, inr, ℕ, zero, suc, ◌+◌, ◌-◌, ◌<◌, ◌≤◌, [], ◌∷◌, ◌++◌, length, Option, Some, None, Bool, true, false, nat_le, ◌==◌}
use Rattle.x25_layer.proofs.Names.{if◌then◌else◌, refl, sym, ap, subst, ◌∙◌, arith, and_parts, PlainPacket, LayerError, LayerSettings, Layer, is_ready}
use Rattle.x25_layer.proofs.Names.{PullsAll, outcome_in, layer_outcome, layer_pulled, LinkView, Putting, begin, with_pulled, pull_one, round, rounds_of, rounds}
use Rattle.x25_layer.proofs.Names.{leb-true, backlog, Went, Refuses, went}
use Rattle.std.proofs.lemmas.{Bool.{lt-ltb}, List.{length_push}}
use Rattle.x25_layer.proofs.SettleLemmas.{left, Lessens, one_lessens, lessens_then, round_lessens, split, rounds_settle}
use Rattle.x25_layer.specs.laws.Rounds.{at_turn, rest_of_round, whole_rounds}
use Rattle.x25_layer.specs.laws.WaitLaw.{PullsNone, RoundsLeaveNone, StillPullsNone}
use Rattle.x25_layer.specs.declared.error.LayerError.TheVariants as error

-- a pull that leaves all as it was gives nothing
one_none : (link : LinkView) (c : LayerSettings) (h : ℕ) (s : Putting) → link.waits s.put < 8 → pull_one link c h s ≡ s → (layer_pulled c s.layer h).packet
    ≡ None
one_none link c h s room still = by (layer_pulled c s.layer h).packet refl
    (subst (λ (b : Bool). (if b then with_pulled h s (layer_pulled c s.layer h) (layer_pulled c s.layer h).packet else s) ≡ s) (lt-ltb (link.waits s.put) 8 room)
    still)
  where
    by : (o : Option PlainPacket) → (layer_pulled c s.layer h).packet ≡ o → with_pulled h s (layer_pulled c s.layer h) o ≡ s → (layer_pulled c s.layer h).packet
        ≡ None
    by None is same = is
    by (Some packet) is same =
        let more : length (s.put ++ packet ∷ []) ≡ length s.put = ap (λ (t : Putting). length t.put) same in
        absurd (omega (arith, more, length_push s.put packet))

-- of a round that leaves all as it was, so does each pull
pulls_none : (link : LinkView) (c : LayerSettings) (b n : ℕ) → n ≤ c.channels.count - b → (s : Putting) → link.waits s.put < 8 → round link c b n s ≡ s
    → (h : ℕ) → b < h → h ≤ b + n → (layer_pulled c s.layer h).packet ≡ None
pulls_none link c b zero few s room still h low high = absurd (omega (arith, low, high))
pulls_none link c b (suc n) few s room still h low high = by (round_lessens link c b n (let e : n ≤ c.channels.count - b = omega (arith, few) in e) s)
    (λ r. λ lower. pulls_none link c b n (let e : n ≤ c.channels.count - b = omega (arith, few) in e) s room r h low lower)
  where
    by : Lessens c s (round link c b n s) → (round link c b n s ≡ s → h ≤ b + n → (layer_pulled c s.layer h).packet ≡ None)
        → (layer_pulled c s.layer h).packet ≡ None
    by (inr less) below = absurd (fewer (one_lessens link c (b + suc n) (let e : 1 ≤ b + suc n = omega arith in e)
        (let e : b + suc n ≤ c.channels.count = omega (arith, few) in e) (round link c b n s)))
      where
        fewer : Lessens c (round link c b n s) (pull_one link c (b + suc n) (round link c b n s)) → ⊥
        fewer (inl same) = let e : left c s ≡ left c (round link c b n s) = ap (λ (t : Putting). left c t) (sym still ∙ same) in omega (arith, less, e)
        fewer (inr more) = let e : left c s ≡ left c (pull_one link c (b + suc n) (round link c b n s)) = ap (λ (t : Putting). left c t) (sym still) in
            omega (arith, less, more, e)
    by (inl same) below = either (split h (b + n) (let e : h ≤ suc (b + n) = omega (arith, high) in e))
      where
        either : (h ≤ b + n) ⊎ (h ≡ suc (b + n)) → (layer_pulled c s.layer h).packet ≡ None
        either (inl lower) = below same lower
        either (inr top) = subst (λ (k : ℕ). (layer_pulled c s.layer k).packet ≡ None) (let e : b + suc n ≡ h = omega (arith, top) in e)
            (one_none link c (b + suc n) s room (sym (ap (λ (t : Putting). pull_one link c (b + suc n) t) same) ∙ still))

-- behind whole rounds
whole_leave_none : (link : LinkView) (c : LayerSettings) (s : Putting) → link.waits (whole_rounds link c s).put < 8 → PullsNone c (whole_rounds link c s).layer
whole_leave_none link c s room h is =
    let both = and_parts (nat_le 1 h) (nat_le h c.channels.count) is in
    pulls_none link c 0 c.channels.count (let e : c.channels.count ≤ c.channels.count - 0 = omega arith in e) (whole_rounds link c s) room (rounds_settle link c s) h
    (let low = leb-true 1 h both.0 in let e : 0 < h = omega (arith, low) in e)
    (let high = leb-true h c.channels.count both.1 in let e : h ≤ 0 + c.channels.count = omega (arith, high) in e)

pub rounds_leave_none : RoundsLeaveNone
rounds_leave_none link c s room = whole_leave_none link c (rest_of_round link c s) room

-- ---- a pull of all

-- as many are left in layers that are the same
rounds_lessen : (n : ℕ) (link : LinkView) (c : LayerSettings) (s : Putting) → Lessens c s (rounds_of n link c s)
rounds_lessen zero link c s = inl refl
rounds_lessen (suc n) link c s =
    lessens_then c s (round link c 0 c.channels.count s) (rounds_of n link c (round link c 0 c.channels.count s))
    (round_lessens link c 0 c.channels.count (let e : c.channels.count ≤ c.channels.count - 0 = omega arith in e) s)
    (rounds_lessen n link c (round link c 0 c.channels.count s))

-- rounds that leave the layer as it was give nothing
rounds_still : (link : LinkView) (c : LayerSettings) (s : Putting) → (rounds link c s).layer ≡ s.layer
    → whole_rounds link c (rest_of_round link c s) ≡ at_turn link.turn s
rounds_still link c s same =
    let rest : Putting = rest_of_round link c s in
    by (lessens_then c (at_turn link.turn s) rest (whole_rounds link c rest)
    (round_lessens link c link.turn (c.channels.count - link.turn) (let e : c.channels.count - link.turn ≤ c.channels.count - link.turn = omega arith in e)
    (at_turn link.turn s)) (rounds_lessen (left c rest) link c rest))
  where
    by : Lessens c (at_turn link.turn s) (whole_rounds link c (rest_of_round link c s)) → whole_rounds link c (rest_of_round link c s) ≡ at_turn link.turn s
    by (inl is) = is
    by (inr less) = let e : left c (rounds link c s) ≡ left c s = ap (λ (l : Layer). backlog l.circuits c.channels.count) same in
        absurd (omega (arith, less, e))

went_is : (s t : Putting) → Went s ≡ Went t → s ≡ t
went_is s t e = cc

refuses_not : (e : LayerError) (s : Putting) → Refuses e ≡ Went s → ⊥
refuses_not e s is = cc

pub still_pulls_none : StillPullsNone
still_pulls_none link c l s is same few = by_up link.is_up is
  where
    begun : Putting
    begun = begin (is_ready l.restarts l.circuits) None

    done : l.restarting ≡ false → rounds link c begun ≡ s → PullsNone c l
    done ready all =
        let at : is_ready l.restarts l.circuits ≡ l = ap (λ (b : Bool). record { restarting = b; restarts = l.restarts; circuits = l.circuits }) (sym ready) in
        let settled : whole_rounds link c (rest_of_round link c begun) ≡ at_turn link.turn begun = rounds_still link c begun (ap (λ (t : Putting). t.layer) all ∙ same ∙ sym at) in
        subst (λ (m : Layer). PullsNone c m) (ap (λ (t : Putting). t.layer) settled ∙ at)
        (rounds_leave_none link c begun (subst (λ (t : Putting). link.waits t.put < 8) (sym settled) few))

    by_ready : (b : Bool) → l.restarting ≡ b → went link c (outcome_in c (link.waits [] == 256) b l.restarts l.circuits PullsAll) ≡ Went s → PullsNone c l
    by_ready true restarting gone = absurd (refuses_not _ s gone)
    by_ready false ready gone = done ready (went_is (rounds link c begun) s gone)

    by_up : (b : Bool) → (if b then went link c (layer_outcome c (link.waits [] == 256) l PullsAll) else Refuses error.NotUp) ≡ Went s → PullsNone c l
    by_up true gone = by_ready l.restarting refl gone
    by_up false gone = absurd (refuses_not _ s gone)
