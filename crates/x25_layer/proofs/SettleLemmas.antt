-- Behind the rounds of a step, one round more gives nothing.
use Rattle.x25_layer.proofs.Names.{◌≡◌, ◌⊎◌, inl, inr, ℕ, zero, suc, ◌+◌, ◌-◌, ◌<◌, ◌≤◌, ◌%◌, List, [], ◌∷◌, ◌++◌, length, Option, Some, None, Bool, true, false}
use Rattle.x25_layer.proofs.Names.{nat_lt, ◌==◌, ◌&&◌, if◌then◌else◌, refl, sym, ap, ◌∙◌, eq-eqb, arith, none-some, eqb-true, PlainPacket, State, Open, Piece}
use Rattle.x25_layer.proofs.Names.{CircuitSettings, Talk, Circuit, outgoing, Pulled, pulls_nothing, pull_open, pull_in, pulled, LayerSettings, put_at}
use Rattle.x25_layer.proofs.Names.{packet_on, layer_pulled, LinkView, Putting, with_pulled, pull_one, data_packet, round, rounds_of, whole_rounds}
use Rattle.x25_circuit.specs.Circuit.{talking}
use Rattle.x25_layer.{proofs.Names.{backlog}, specs.laws.RoundLaw.{RoundsSettle, ComesUpAlone}}

-- a pull that gives a packet leaves one fewer

shorter_open : (c : CircuitSettings) (x : Circuit) (t : Talk) (rest : List Piece) (p : PlainPacket) → x.talk.rest ≡ rest → (pull_open c x t rest).packet
    ≡ Some p → suc (length (pull_open c x t rest).next.talk.rest) ≡ length x.talk.rest
shorter_open c x t [] p same found = absurd (none-some p found)
shorter_open c x t (piece ∷ rest) p same found = test (t.peer_ready && nat_lt (length t.sent) (t.acked + (outgoing x).window)) found
  where
    next : Pulled
    next = record {
      next = talking x (record {
        sent = t.sent ++ piece ∷ [];
        taken = t.taken;
        acked = t.acked;
        rest = rest;
        int_out = t.int_out;
        peer_ready = t.peer_ready;
        own_ready = t.own_ready;
      });
      packet = Some (data_packet (length t.sent % 8) (length t.taken % 8) piece);
    }

    test : (b : Bool) → (if b then next else pulls_nothing x).packet ≡ Some p → suc (length (if b then next else pulls_nothing x).next.talk.rest)
        ≡ length x.talk.rest
    test true is = let l : length x.talk.rest ≡ length (piece ∷ rest) = ap length same in omega (arith, l)
    test false is = absurd (none-some p is)

pub shorter : (c : CircuitSettings) (x : Circuit) (p : PlainPacket) → (pulled c x).packet ≡ Some p → suc (length (pulled c x).next.talk.rest) ≡ length x.talk.rest
shorter c x p found = at x.state found
  where
    at : (s : State) → (pull_in c x s).packet ≡ Some p → suc (length (pull_in c x s).next.talk.rest) ≡ length x.talk.rest
    at Open is = shorter_open c x x.talk x.talk.rest p refl is
    at s is = absurd (none-some p is)

-- what is still to be sent, with another circuit on one channel

pub put_other : (b : Bool) (y z : Circuit) → b ≡ false → (if b then y else z) ≡ z
put_other b y z is = ap (λ (a : Bool). if a then y else z) is

-- two numbers that differ
pub not_same : (k h : ℕ) → (k ≡ h → ⊥) → (k == h) ≡ false
not_same k h differ = test (k == h) refl
  where
    test : (b : Bool) → (k == h) ≡ b → b ≡ false
    test true is = absurd (differ (eqb-true k h is))
    test false is = refl

backlog_below : (f : ℕ → Circuit) (h : ℕ) (y : Circuit) (n : ℕ) → n < h → backlog (put_at f h y) n ≡ backlog f n
backlog_below f h y zero low = refl
backlog_below f h y (suc n) low =
    let here : (if suc n == h then y else f (suc n)) ≡ f (suc n) = put_other (suc n == h) y (f (suc n)) (not_same (suc n) h (λ e. omega (arith, e, low))) in
    let less : backlog (put_at f h y) n ≡ backlog f n = backlog_below f h y n (let e : n < h = omega (arith, low) in e) in
    ap (λ (m : ℕ). m + length (if suc n == h then y else f (suc n)).talk.rest) less ∙ ap (λ (x : Circuit). backlog f n + length x.talk.rest) here

true_false : true ≡ false → ⊥
true_false e = cc

-- up to a number, or the next
pub split : (k m : ℕ) → k ≤ suc m → (k ≤ m) ⊎ (k ≡ suc m)
split zero m low = inl (omega arith)
split (suc k) zero low = inr (omega (arith, low))
split (suc k) (suc m) low = next (split k m (let e : k ≤ suc m = omega (arith, low) in e))
  where
    next : (k ≤ m) ⊎ (k ≡ suc m) → (suc k ≤ suc m) ⊎ (suc k ≡ suc (suc m))
    next (inl small) = inl (omega (arith, small))
    next (inr same) = inr (ap suc same)

backlog_put : (f : ℕ → Circuit) (h : ℕ) (y : Circuit) (n : ℕ) → 1 ≤ h → h ≤ n → backlog (put_at f h y) n + length (f h).talk.rest ≡ backlog f n
    + length y.talk.rest
backlog_put f h y zero low high = absurd (omega (arith, low, high))
backlog_put f h y (suc n) low high = test (λ small. backlog_put f h y n low small) (suc n == h) refl
  where
    test : (h ≤ n → backlog (put_at f h y) n + length (f h).talk.rest ≡ backlog f n + length y.talk.rest) → (b : Bool) → (suc n == h) ≡ b
        → (backlog (put_at f h y) n + length (if b then y else f (suc n)).talk.rest) + length (f h).talk.rest ≡ (backlog f n + length (f (suc n)).talk.rest)
        + length y.talk.rest
    test below true is =
        let same : suc n ≡ h = eqb-true (suc n) h is in
        let before : backlog (put_at f h y) n ≡ backlog f n = backlog_below f h y n (let e : n < h = omega (arith, same) in e) in
        let here : length (f h).talk.rest ≡ length (f (suc n)).talk.rest = ap (λ (k : ℕ). length (f k).talk.rest) (sym same) in
        omega (arith, before, here)
    test below false is = either (split h n high)
      where
        either : (h ≤ n) ⊎ (h ≡ suc n) → (backlog (put_at f h y) n + length (f (suc n)).talk.rest) + length (f h).talk.rest
            ≡ (backlog f n + length (f (suc n)).talk.rest) + length y.talk.rest
        either (inl small) = let less = below small in omega (arith, less)
        either (inr top) = absurd (true_false (sym (eq-eqb (suc n) h (sym top)) ∙ is))

-- ---- a step gives nothing, or leaves fewer to be sent

abbrev pub left : LayerSettings → Putting → ℕ
left c s = backlog s.layer.circuits c.channels.count

abbrev pub Lessens : LayerSettings → Putting → Putting → Type 0
Lessens c s s₂ = (s₂ ≡ s) ⊎ (left c s₂ < left c s)

pub one_lessens : (link : LinkView) (c : LayerSettings) (h : ℕ) → 1 ≤ h → h ≤ c.channels.count → (s : Putting) → Lessens c s (pull_one link c h s)
one_lessens link c h low high s = room (nat_lt (link.waits s.put) 8)
  where
    y : Circuit
    y = (pulled c.circuit (s.layer.circuits h)).next

    given : (o : Option PlainPacket) → (pulled c.circuit (s.layer.circuits h)).packet ≡ o
        → Lessens c s (with_pulled h s (layer_pulled c s.layer h) (packet_on h o))
    given None found = inl refl
    given (Some packet) found =
        let less : suc (length y.talk.rest) ≡ length (s.layer.circuits h).talk.rest = shorter c.circuit (s.layer.circuits h) packet found in
        let sum = backlog_put s.layer.circuits h y c.channels.count low high in
        inr (let e : backlog (put_at s.layer.circuits h y) c.channels.count < backlog s.layer.circuits c.channels.count = omega (arith, less, sum) in e)

    room : (b : Bool) → Lessens c s (if b then with_pulled h s (layer_pulled c s.layer h) (layer_pulled c s.layer h).packet else s)
    room true = given (pulled c.circuit (s.layer.circuits h)).packet refl
    room false = inl refl

pub lessens_then : (c : LayerSettings) (s s₂ s₃ : Putting) → Lessens c s s₂ → Lessens c s₂ s₃ → Lessens c s s₃
lessens_then c s s₂ s₃ (inl p) (inl q) = inl (q ∙ p)
lessens_then c s s₂ s₃ (inl p) (inr q) = inr (let l = ap (λ (t : Putting). left c t) p in omega (arith, q, l))
lessens_then c s s₂ s₃ (inr p) (inl q) = inr (let l = ap (λ (t : Putting). left c t) q in omega (arith, p, l))
lessens_then c s s₂ s₃ (inr p) (inr q) = inr (omega (arith, p, q))

pub round_lessens : (link : LinkView) (c : LayerSettings) (b n : ℕ) → n ≤ c.channels.count - b → (s : Putting) → Lessens c s (round link c b n s)
round_lessens link c b zero low s = inl refl
round_lessens link c b (suc n) low s =
    lessens_then c s (round link c b n s) (round link c b (suc n) s)
    (round_lessens link c b n (let e : n ≤ c.channels.count - b = omega (arith, low) in e) s)
    (one_lessens link c (b + suc n) (let e : 1 ≤ b + suc n = omega arith in e) (let e : b + suc n ≤ c.channels.count = omega (arith, low) in e)
    (round link c b n s))

-- where a round gives nothing, no more rounds do
stays : (k : ℕ) (link : LinkView) (c : LayerSettings) (s : Putting) → round link c 0 c.channels.count s ≡ s → rounds_of k link c s ≡ s
stays zero link c s is = refl
stays (suc k) link c s is = ap (λ (t : Putting). rounds_of k link c t) is ∙ stays k link c s is

settled : (k : ℕ) (link : LinkView) (c : LayerSettings) (s : Putting) → left c s ≤ k → round link c 0 c.channels.count (rounds_of k link c s)
    ≡ rounds_of k link c s
settled zero link c s enough = by (round_lessens link c 0 c.channels.count (let e : c.channels.count ≤ c.channels.count - 0 = omega arith in e) s)
  where
    by : Lessens c s (round link c 0 c.channels.count s) → round link c 0 c.channels.count s ≡ s
    by (inl is) = is
    by (inr less) = absurd (omega (arith, enough, less))
settled (suc j) link c s enough = by (round_lessens link c 0 c.channels.count (let e : c.channels.count ≤ c.channels.count - 0 = omega arith in e) s)
    (λ small. settled j link c (round link c 0 c.channels.count s) small)
  where
    by : Lessens c s (round link c 0 c.channels.count s)
        → (left c (round link c 0 c.channels.count s) ≤ j → round link c 0 c.channels.count (rounds_of j link c (round link c 0 c.channels.count s))
        ≡ rounds_of j link c (round link c 0 c.channels.count s))
        → round link c 0 c.channels.count (rounds_of j link c (round link c 0 c.channels.count s)) ≡ rounds_of j link c (round link c 0 c.channels.count s)
    by (inl is) again =
        let end : rounds_of j link c (round link c 0 c.channels.count s) ≡ s = stays (suc j) link c s is in
        ap (λ (t : Putting). round link c 0 c.channels.count t) end ∙ is ∙ sym end
    by (inr less) again = again (let e : left c (round link c 0 c.channels.count s) ≤ j = omega (arith, enough, less) in e)

-- rounds behind one that gives nothing
stays_on : (n k : ℕ) (link : LinkView) (c : LayerSettings) (s : Putting) → n ≤ k → round link c 0 c.channels.count (rounds_of n link c s) ≡ rounds_of n link c s
    → rounds_of k link c s ≡ rounds_of n link c s
stays_on zero k link c s low is = stays k link c s is
stays_on (suc n) zero link c s low is = absurd (omega (arith, low))
stays_on (suc n) (suc k) link c s low is = stays_on n k link c (round link c 0 c.channels.count s) (let e : n ≤ k = omega (arith, low) in e) is

-- more rounds than there are packets to be sent do no more
more_rounds : (k : ℕ) (link : LinkView) (c : LayerSettings) (s : Putting) → left c s ≤ k → rounds_of k link c s ≡ whole_rounds link c s
more_rounds k link c s enough = stays_on (left c s) k link c s enough (settled (left c s) link c s (let e : left c s ≤ left c s = omega arith in e))

-- a round leads to where all of them do
pub rounds_behind : (link : LinkView) (c : LayerSettings) (s : Putting) → whole_rounds link c (round link c 0 c.channels.count s) ≡ whole_rounds link c s
rounds_behind link c s = by (round_lessens link c 0 c.channels.count (let e : c.channels.count ≤ c.channels.count - 0 = omega arith in e) s)
  where
    by : Lessens c s (round link c 0 c.channels.count s) → whole_rounds link c (round link c 0 c.channels.count s) ≡ whole_rounds link c s
    by (inl is) = ap (λ (t : Putting). whole_rounds link c t) is
    by (inr less) =
        sym (more_rounds (left c s) link c (round link c 0 c.channels.count s)
        (let e : left c (round link c 0 c.channels.count s) ≤ left c s = omega (arith, less) in e))
        ∙ more_rounds (suc (left c s)) link c s (let e : left c s ≤ suc (left c s) = omega arith in e)

-- where a round gives nothing, that is where all of them lead
pub rounds_at_end : (link : LinkView) (c : LayerSettings) (s : Putting) → round link c 0 c.channels.count s ≡ s → whole_rounds link c s ≡ s
rounds_at_end link c s is = stays (left c s) link c s is

-- one round more gives nothing
pub rounds_settle : RoundsSettle
rounds_settle link c s = settled (left c s) link c s (let e : left c s ≤ left c s = omega arith in e)

pub comes_up_alone : ComesUpAlone
comes_up_alone link c = refl
