-- A channel that may send a data packet sends one in the rounds of a step, or they bring its turn nearer.
use Rattle.x25_layer.proofs.Names.{◌≡◌, ◌⊎◌, inl, inr, ℕ, zero, suc, ◌+◌, ◌-◌, ◌<◌, ◌≤◌, List, [], ◌∷◌, ◌++◌, length, Option, Some, None, Bool, true, false}
use Rattle.x25_layer.proofs.Names.{nat_lt, nat_le, ◌==◌, if◌then◌else◌, refl, sym, ap, subst, ◌∙◌, arith, eq-eqb, eqb-true, and_parts, none-some, leb-true}
use Rattle.x25_layer.proofs.Names.{append_assoc, PlainPacket, Circuit, pulled, LayerSettings, packet_on, layer_pulled, LinkView, Putting, with_pulled}
use Rattle.x25_layer.proofs.Names.{pull_one, round, rounds_of, rounds, backlog}
use Rattle.std.{specs.Prelude.{IsSome}, proofs.lemmas.{Bool.{lt-ltb, ltb-true, ltb-false}, List.{length_push}}}
use Rattle.x25_layer.proofs.{RowLemmas.{append_nil}, SettleLemmas.{shorter, put_other, not_same, split}}
use Rattle.x25_layer.specs.laws.{FairLaw.{turns_to, left_on, ComesNearer, EachHasItsTurn}, Rounds.{at_turn, rest_of_round, whole_rounds}}

-- ---- how many turns it is

before_it : (n k h : ℕ) → k < h → turns_to n k h ≡ h - k
before_it n k h low = ap (λ (b : Bool). if b then h - k else (n - k) + h) (lt-ltb k h low)

behind_it : (n k h : ℕ) → h ≤ k → turns_to n k h ≡ (n - k) + h
behind_it n k h high = test (nat_lt k h) refl
  where
    test : (b : Bool) → nat_lt k h ≡ b → (if b then h - k else (n - k) + h) ≡ (n - k) + h
    test true is = let low = ltb-true k h is in absurd (omega (arith, low, high))
    test false is = refl

-- a channel with something to send
backlog_has : (f : ℕ → Circuit) (h n : ℕ) → 1 ≤ h → h ≤ n → length (f h).talk.rest ≤ backlog f n
backlog_has f h zero low high = absurd (omega (arith, low, high))
backlog_has f h (suc n) low high = either (backlog_has f h n low) (split h n high)
  where
    either : (h ≤ n → length (f h).talk.rest ≤ backlog f n) → (h ≤ n) ⊎ (h ≡ suc n) → length (f h).talk.rest ≤ backlog f n + length (f (suc n)).talk.rest
    either below (inl small) = let e = below small in omega (arith, e)
    either below (inr top) = let e : length (f h).talk.rest ≡ length (f (suc n)).talk.rest = ap (λ (k : ℕ). length (f k).talk.rest) top in omega (arith, e)

module _ (link : LinkView) (c : LayerSettings) (s : Putting) (h : ℕ) where
  abbrev n : ℕ
  n = c.channels.count

  -- the channel has given none; its turn is so far at least, and each packet brought it nearer
  record Nearer (far : ℕ) (u : Putting) : Type 0 where
    same : u.layer.circuits h ≡ s.layer.circuits h
    more : List PlainPacket
    put : u.put ≡ s.put ++ more
    near : turns_to n u.turn h + length more ≤ turns_to n link.turn h
    far_yet : far ≤ turns_to n u.turn h

  -- it has given one, or has none given and 8 packets wait, or has its turn yet
  data Stands (far : ℕ) (u : Putting) : Type 0 where
    Gave : left_on h u < left_on h s → Stands far u
    Shut : (least : ℕ) → Nearer least u → nat_lt (link.waits u.put) 8 ≡ false → Stands far u
    Comes : Nearer far u → Stands far u

  -- one that has no turn to come any more
  data Done (u : Putting) : Type 0 where
    GaveIt : left_on h u < left_on h s → Done u
    ShutIt : (least : ℕ) → Nearer least u → nat_lt (link.waits u.put) 8 ≡ false → Done u

  -- ---- a pull

  one_shut : (k : ℕ) (u : Putting) → nat_lt (link.waits u.put) 8 ≡ false → pull_one link c k u ≡ u
  one_shut k u shut = ap (λ (b : Bool). if b then with_pulled k u (layer_pulled c u.layer k) (layer_pulled c u.layer k).packet else u) shut

  -- another channel's circuit is as it was
  beside : (k : ℕ) (u : Putting) → (h == k) ≡ false → (layer_pulled c u.layer k).next.circuits h ≡ u.layer.circuits h
  beside k u other = put_other (h == k) (pulled c.circuit (u.layer.circuits k)).next (u.layer.circuits h) other

  -- its own has fewer to send
  own_less : (u : Putting) (o : Option PlainPacket) (p : PlainPacket) → (pulled c.circuit (u.layer.circuits h)).packet ≡ o → packet_on h o ≡ Some p
      → length ((layer_pulled c u.layer h).next.circuits h).talk.rest < left_on h u
  own_less u None p found is = absurd (none-some p is)
  own_less u (Some q) p found is =
      let less = shorter c.circuit (u.layer.circuits h) q found in
      let here : length ((layer_pulled c u.layer h).next.circuits h).talk.rest ≡ length (pulled c.circuit (u.layer.circuits h)).next.talk.rest =
      ap (λ (b : Bool). length (if b then (pulled c.circuit (u.layer.circuits h)).next else u.layer.circuits h).talk.rest) (eq-eqb h h refl) in
      omega (arith, less, here)

  pull_other : (k far : ℕ) (u : Putting) → (h == k) ≡ false → turns_to n k h + 1 ≤ far → Nearer far u → Nearer (turns_to n k h) (pull_one link c k u)
  pull_other k far u other low w = room (nat_lt (link.waits u.put) 8)
    where
      stays : Nearer (turns_to n k h) u
      stays = record { same = w.same; more = w.more; put = w.put; near = w.near; far_yet = let yet = w.far_yet in omega (arith, low, yet) }

      given : (o : Option PlainPacket) → Nearer (turns_to n k h) (with_pulled k u (layer_pulled c u.layer k) o)
      given None = stays
      given (Some packet) = record {
        same = beside k u other ∙ w.same;
        more = w.more ++ packet ∷ [];
        put = ap (λ l. l ++ packet ∷ []) w.put ∙ append_assoc s.put w.more (packet ∷ []);
        near = let near = w.near in let yet = w.far_yet in omega (arith, near, yet, low, length_push w.more packet);
        far_yet = omega arith;
      }

      room : (b : Bool)
          → Nearer (turns_to n k h) (if b then with_pulled k u (layer_pulled c u.layer k) (layer_pulled c u.layer k).packet else u)
      room true = given (layer_pulled c u.layer k).packet
      room false = stays

  pull_less : (k : ℕ) (u : Putting) → left_on h (pull_one link c k u) ≤ left_on h u
  pull_less k u = room (nat_lt (link.waits u.put) 8)
    where
      of_other : (o : Option PlainPacket) → (h == k) ≡ false → left_on h (with_pulled k u (layer_pulled c u.layer k) o) ≤ left_on h u
      of_other None other = omega arith
      of_other (Some packet) other = let e : length ((layer_pulled c u.layer k).next.circuits h).talk.rest ≡ left_on h u =
          ap (λ (x : Circuit). length x.talk.rest) (beside k u other) in omega (arith, e)

      of_own : (o : Option PlainPacket) → (layer_pulled c u.layer h).packet ≡ o → left_on h (with_pulled h u (layer_pulled c u.layer h) o) ≤ left_on h u
      of_own None is = omega arith
      of_own (Some packet) is = let less = own_less u (pulled c.circuit (u.layer.circuits h)).packet packet refl is in omega (arith, less)

      given : (b : Bool) → (h == k) ≡ b → left_on h (with_pulled k u (layer_pulled c u.layer k) (layer_pulled c u.layer k).packet) ≤ left_on h u
      given true is = subst (λ (i : ℕ). left_on h (with_pulled i u (layer_pulled c u.layer i) (layer_pulled c u.layer i).packet) ≤ left_on h u)
          (eqb-true h k is) (of_own (layer_pulled c u.layer h).packet refl)
      given false is = of_other (layer_pulled c u.layer k).packet is

      room : (b : Bool) → left_on h (if b then with_pulled k u (layer_pulled c u.layer k) (layer_pulled c u.layer k).packet else u) ≤ left_on h u
      room true = given (h == k) refl
      room false = omega arith

  pull_done : (k : ℕ) (u : Putting) → Done u → Done (pull_one link c k u)
  pull_done k u (GaveIt gave) = GaveIt (let less = pull_less k u in omega (arith, gave, less))
  pull_done k u (ShutIt least w shut) = subst (λ (t : Putting). Done t) (sym (one_shut k u shut)) (ShutIt least w shut)

  pull_stands : (k far : ℕ) (u : Putting) → (h == k) ≡ false → turns_to n k h + 1 ≤ far → Stands far u → Stands (turns_to n k h) (pull_one link c k u)
  pull_stands k far u other low (Gave gave) = Gave (let less = pull_less k u in omega (arith, gave, less))
  pull_stands k far u other low (Shut least w shut) = subst (λ (t : Putting). Stands (turns_to n k h) t) (sym (one_shut k u shut)) (Shut least w shut)
  pull_stands k far u other low (Comes w) = Comes (pull_other k far u other low w)

  module _ (may : IsSome (layer_pulled c s.layer h).packet) where
    -- its own turn
    pull_own : (far : ℕ) (u : Putting) → Nearer far u → Done (pull_one link c h u)
    pull_own far u w = room (nat_lt (link.waits u.put) 8) refl
      where
        may_here : IsSome (packet_on h (pulled c.circuit (u.layer.circuits h)).packet)
        may_here = subst (λ (x : Circuit). IsSome (packet_on h (pulled c.circuit x).packet)) (sym w.same) may

        given : (o : Option PlainPacket) → (layer_pulled c u.layer h).packet ≡ o → IsSome o → Done (with_pulled h u (layer_pulled c u.layer h) o)
        given None is some = absurd (cc)
        given (Some packet) is some = GaveIt (
            let less = own_less u (pulled c.circuit (u.layer.circuits h)).packet packet refl is in
            let same : left_on h u ≡ left_on h s = ap (λ (x : Circuit). length x.talk.rest) w.same in
            omega (arith, less, same))

        room : (b : Bool) → nat_lt (link.waits u.put) 8 ≡ b
            → Done (if b then with_pulled h u (layer_pulled c u.layer h) (layer_pulled c u.layer h).packet else u)
        room true is = given (layer_pulled c u.layer h).packet refl may_here
        room false is = ShutIt far w is

    own_done : (far : ℕ) (u : Putting) → Stands far u → Done (pull_one link c h u)
    own_done far u (Gave gave) = GaveIt (let less = pull_less h u in omega (arith, gave, less))
    own_done far u (Shut least w shut) = pull_done h u (ShutIt least w shut)
    own_done far u (Comes w) = pull_own far u w

    -- ---- a round

    -- up to it
    round_before : (b m : ℕ) (u : Putting) → b + m < h → Stands (turns_to n b h) u → Stands (turns_to n (b + m) h) (round link c b m u)
    round_before b zero u low w = let same : b ≡ b + zero = omega arith in subst (λ (i : ℕ). Stands (turns_to n i h) u) same w
    round_before b (suc m) u low w =
        pull_stands (b + suc m) (turns_to n (b + m) h) (round link c b m u) (not_same h (b + suc m) (λ e. omega (arith, e, low)))
        (let here = before_it n (b + suc m) h low in let there = before_it n (b + m) h (let e : b + m < h = omega (arith, low) in e) in
        let e : turns_to n (b + suc m) h + 1 ≤ turns_to n (b + m) h = omega (arith, here, there, low) in e)
        (round_before b m u (let e : b + m < h = omega (arith, low) in e) w)

    -- past it
    round_past : (b m : ℕ) (u : Putting) → b < h → h ≤ b + m → Stands (turns_to n b h) u → Done (round link c b m u)
    round_past b zero u low high w = absurd (omega (arith, low, high))
    round_past b (suc m) u low high w = either (λ small. round_past b m u low small w) (split h (b + m) (let e : h ≤ suc (b + m) = omega (arith, high) in e))
      where
        either : (h ≤ b + m → Done (round link c b m u)) → (h ≤ b + m) ⊎ (h ≡ suc (b + m)) → Done (round link c b (suc m) u)
        either below (inl small) = pull_done (b + suc m) (round link c b m u) (below small)
        either below (inr top) = subst (λ (i : ℕ). Done (pull_one link c i (round link c b m u))) (let e : h ≡ b + suc m = omega (arith, top) in e)
            (own_done (turns_to n (b + m) h) (round link c b m u) (round_before b m u (let e : b + m < h = omega (arith, top) in e) w))

    -- of the channels behind it
    round_behind : (b m : ℕ) (u : Putting) → h ≤ b → m ≤ n - b → Stands (turns_to n b h) u → Stands (turns_to n (b + m) h) (round link c b m u)
    round_behind b zero u high low w = let same : b ≡ b + zero = omega arith in subst (λ (i : ℕ). Stands (turns_to n i h) u) same w
    round_behind b (suc m) u high low w =
        pull_stands (b + suc m) (turns_to n (b + m) h) (round link c b m u) (not_same h (b + suc m) (λ e. omega (arith, e, high)))
        (let here = behind_it n (b + suc m) h (let e : h ≤ b + suc m = omega (arith, high) in e) in
        let there = behind_it n (b + m) h (let e : h ≤ b + m = omega (arith, high) in e) in
        let e : turns_to n (b + suc m) h + 1 ≤ turns_to n (b + m) h = omega (arith, here, there, low) in e)
        (round_behind b m u high (let e : m ≤ n - b = omega (arith, low) in e) w)

    round_done : (b m : ℕ) (u : Putting) → Done u → Done (round link c b m u)
    round_done b zero u w = w
    round_done b (suc m) u w = pull_done (b + suc m) (round link c b m u) (round_done b m u w)

    rounds_done : (k : ℕ) (u : Putting) → Done u → Done (rounds_of k link c u)
    rounds_done zero u w = w
    rounds_done (suc k) u w = rounds_done k (round link c 0 n u) (round_done 0 n u w)

    -- ---- the step

    module _ (low : 1 ≤ h) (high : h ≤ n) (turn : link.turn ≤ n) where
      start : Nearer (turns_to n link.turn h) (at_turn link.turn s)
      start = record { same = refl; more = []; put = sym (append_nil s.put); near = omega arith; far_yet = omega arith }

      abbrev rest : Putting
      rest = rest_of_round link c s

      -- a whole round comes, since it has something to send
      whole_done : (u : Putting) → Stands (turns_to n 0 h) u → Done (whole_rounds link c u)
      whole_done u (Gave gave) = rounds_done (backlog u.layer.circuits n) u (GaveIt gave)
      whole_done u (Shut least w shut) = rounds_done (backlog u.layer.circuits n) u (ShutIt least w shut)
      whole_done u (Comes w) = by (backlog u.layer.circuits n) refl
        where
          some : 1 ≤ left_on h s
          some = at (pulled c.circuit (s.layer.circuits h)).packet refl may
            where
              at : (o : Option PlainPacket) → (pulled c.circuit (s.layer.circuits h)).packet ≡ o → IsSome (packet_on h o) → 1 ≤ left_on h s
              at None is none = absurd (cc)
              at (Some p) is none = let less = shorter c.circuit (s.layer.circuits h) p is in omega (arith, less)

          by : (k : ℕ) → backlog u.layer.circuits n ≡ k → Done (rounds_of k link c u)
          by zero is =
              let has = backlog_has u.layer.circuits h n low high in
              let same : left_on h u ≡ left_on h s = ap (λ (x : Circuit). length x.talk.rest) w.same in
              absurd (omega (arith, has, same, some, is))
          by (suc k) is = rounds_done k (round link c 0 n u) (round_past 0 n u (omega (arith, low)) (omega (arith, high)) (Comes w))

      all_done : Done (whole_rounds link c rest)
      all_done = test (nat_lt link.turn h) refl
        where
          test : (b : Bool) → nat_lt link.turn h ≡ b → Done (whole_rounds link c rest)
          test true is =
              let less = ltb-true link.turn h is in
              rounds_done (backlog rest.layer.circuits n) rest
              (round_past link.turn (n - link.turn) (at_turn link.turn s) less (omega (arith, high, turn)) (Comes start))
          test false is =
              let more : h ≤ link.turn = ltb-false link.turn h is in
              let top : link.turn + (n - link.turn) ≡ n = omega (arith, turn) in
              let behind : turns_to n (link.turn + (n - link.turn)) h ≡ turns_to n 0 h =
              ap (λ (i : ℕ). turns_to n i h) top ∙ (let here = behind_it n n h high in let there = before_it n 0 h (let e : 0 < h = omega (arith, low) in e) in
              let e : turns_to n n h ≡ turns_to n 0 h = omega (arith, here, there) in e) in
              whole_done rest (subst (λ (far : ℕ). Stands far rest) behind
              (round_behind link.turn (n - link.turn) (at_turn link.turn s) more (let e : n - link.turn ≤ n - link.turn = omega arith in e) (Comes start)))

      has_turn : (left_on h (rounds link c s) < left_on h s) ⊎ ComesNearer link c s h
      has_turn = by all_done
        where
          by : Done (whole_rounds link c rest) → (left_on h (rounds link c s) < left_on h s) ⊎ ComesNearer link c s h
          by (GaveIt gave) = inl gave
          by (ShutIt least w shut) =
              let stays : (rounds link c s).turn ≡ (whole_rounds link c rest).turn =
              ap (λ (b : Bool). if b then 0 else (whole_rounds link c rest).turn) shut in
              inr (record {
                same = w.same;
                more = w.more;
                put = w.put;
                nearer = let near = w.near in subst (λ (i : ℕ). turns_to n i h + length w.more ≤ turns_to n link.turn h) (sym stays) near;
                full = ltb-false (link.waits (whole_rounds link c rest).put) 8 shut;
              })

pub each_has_its_turn : EachHasItsTurn
each_has_its_turn link c s h is turn may =
    let both = and_parts (nat_le 1 h) (nat_le h c.channels.count) is in
    has_turn link c s h may (leb-true 1 h both.0) (leb-true h c.channels.count both.1) turn
