-- What the layer puts in a step the link accepts.
use Rattle.x25_station.proofs.Names.{◌+◌, ◌-◌}
use Rattle.x25_layer.specs.laws.Rounds.{at_turn, rest_of_round}
use Rattle.x25_station.proofs.Names.{◌≡◌, ℕ, zero, suc, ◌<◌, List, [], ◌∷◌, ◌++◌, Option, Some, None, Bool, true, false, not, nat_lt, ◌==◌, if◌then◌else◌}
use Rattle.x25_station.proofs.Names.{option_to_list, refl, sym, ap, subst, ◌∙◌, arith, eqb-true, ltb-true, layer_pulled, LayerSettings, Putting, with_pulled}
use Rattle.x25_station.proofs.Names.{pull_one, round, rounds_of, rounds, backlog, alone, put_refusal, waits, LinkSettings, LinkStation, Side, is_up, PutTells}
use Rattle.x25_station.proofs.{LinkLemmas.{near_alone}, Names.{PlainPacket, spelling_of, put_on, all_put, view_of, waiting_after, AreAccepted}}
use Rattle.x25_link.specs.declared.error.LinkError.TheVariants as error

-- ---- put after put

pub accepted_append : (c : LinkSettings) (a b : List PlainPacket) (t : Side) → AreAccepted c a t → AreAccepted c b (all_put c a t) → AreAccepted c (a ++ b) t
accepted_append c [] b t first second = second
accepted_append c (p ∷ a) b t first second = (first.0, accepted_append c a b (put_on c p t) first.1 second)

put_up : PutTells → (c : LinkSettings) (p : PlainPacket) (t : Side) → is_up t.near.phase ≡ true → is_up (put_on c p t).near.phase ≡ true
put_up tells c p t up = (tells c (spelling_of p) t.near up).stays refl ∙ up

pub all_up : PutTells → (c : LinkSettings) (packets : List PlainPacket) (t : Side) → is_up t.near.phase ≡ true → is_up (all_put c packets t).near.phase ≡ true
all_up tells c [] t up = up
all_up tells c (p ∷ packets) t up = all_up tells c packets (put_on c p t) (put_up tells c p t up)

-- ---- the link accepts

not_full : (n : ℕ) → n < 256 → (n == 256) ≡ false
not_full n low = test (n == 256) refl
  where
    test : (b : Bool) → (n == 256) ≡ b → b ≡ false
    test true is = let e : n ≡ 256 = eqb-true n 256 is in absurd (omega (arith, e, low))
    test false is = refl

pub accepts : (s : LinkStation) → is_up s.phase ≡ true → waits s.outgoing < 256 → put_refusal s ≡ None
accepts s up low =
    ap (λ (b : Bool). if not b then Some error.NotUp else if waits s.outgoing == 256 then Some error.QueueFull else None) up
    ∙ ap (λ (b : Bool). if b then Some error.QueueFull else None) (not_full (waits s.outgoing) low)

-- ---- the rounds

pull_accepted : PutTells → (turn : ℕ) (c : LinkSettings) (t : Side) (lc : LayerSettings) (h : ℕ) (s : Putting) → is_up t.near.phase ≡ true → AreAccepted c s.put t
    → AreAccepted c (pull_one (view_of c turn t.near) lc h s).put t
pull_accepted tells turn c t lc h s up all = test (nat_lt (waiting_after c t.near s.put) 8) refl
  where
    given : (o : Option PlainPacket) → waiting_after c t.near s.put < 8 → AreAccepted c (with_pulled h s (layer_pulled lc s.layer h) o).put t
    given None low = all
    given (Some p) low =
        let same : (all_put c s.put t).near ≡ (all_put c s.put (alone t.near)).near = near_alone c s.put t (alone t.near) refl in
        let fewer : waits (all_put c s.put t).near.outgoing < 8 = subst (λ (x : LinkStation). waits x.outgoing < 8) (sym same) low in
        accepted_append c s.put (p ∷ []) t all (accepts (all_put c s.put t).near (all_up tells c s.put t up) (omega (arith, fewer)), tt)

    test : (b : Bool) → nat_lt (waiting_after c t.near s.put) 8 ≡ b
        → AreAccepted c (let n : Putting = if b then with_pulled h s (layer_pulled lc s.layer h) (layer_pulled lc s.layer h).packet else s in n.put) t
    test true is = given (layer_pulled lc s.layer h).packet (ltb-true _ _ is)
    test false is = all

round_accepted : PutTells → (turn : ℕ) (c : LinkSettings) (t : Side) (lc : LayerSettings) (b n : ℕ) (s : Putting) → is_up t.near.phase ≡ true → AreAccepted c s.put t
    → AreAccepted c (round (view_of c turn t.near) lc b n s).put t
round_accepted tells turn c t lc b zero s up all = all
round_accepted tells turn c t lc b (suc n) s up all =
    pull_accepted tells turn c t lc (b + suc n) (round (view_of c turn t.near) lc b n s) up
    (round_accepted tells turn c t lc b n s up all)

rounds_of_accepted : PutTells → (turn k : ℕ) (c : LinkSettings) (t : Side) (lc : LayerSettings) (s : Putting) → is_up t.near.phase ≡ true → AreAccepted c s.put t
    → AreAccepted c (rounds_of k (view_of c turn t.near) lc s).put t
rounds_of_accepted tells turn zero c t lc s up all = all
rounds_of_accepted tells turn (suc k) c t lc s up all = rounds_of_accepted tells turn k c t lc (round (view_of c turn t.near) lc 0 lc.channels.count s) up
    (round_accepted tells turn c t lc 0 lc.channels.count s up all)

pub rounds_accepted : PutTells → (turn : ℕ) (c : LinkSettings) (t : Side) (lc : LayerSettings) (s : Putting) → is_up t.near.phase ≡ true → AreAccepted c s.put t
    → AreAccepted c (rounds (view_of c turn t.near) lc s).put t
rounds_accepted tells turn c t lc s up all =
    let view = view_of c turn t.near in
    let rest : Putting = rest_of_round view lc s in
    rounds_of_accepted tells turn (backlog rest.layer.circuits lc.channels.count) c t lc rest up
    (round_accepted tells turn c t lc turn (lc.channels.count - turn) (at_turn turn s) up all)

-- what is owed, and the rounds behind it
pub begin_accepted : (c : LinkSettings) (t : Side) (owed : Option PlainPacket) → is_up t.near.phase ≡ true → waits t.near.outgoing < 256
    → AreAccepted c (option_to_list owed) t
begin_accepted c t None up low = tt
begin_accepted c t (Some p) up low = (accepts t.near up low, tt)
