use Rattle.x25_layer.proofs.Names.{rules, ◌≡◌, ℕ, suc, ◌+◌, ◌-◌, ◌<◌, ◌≤◌, ◌∙◌, None, Some, length, set, length-set, sym, subst, arith, pulled, HasCountsLeft}
use Rattle.x25_layer.proofs.Names.{put_at, packet_on, FitsCircuits, IsOutside, IsIdle, IsPut, next_packet}
use Rattle.x25_layer.proofs.FitLemmas.{counts_left, all_changed, rest_changed, read_at}
use Rattle.x25_layer.proofs.{NextLemmas.{pulls_next, kept_one, none_put, some_put, none_before, none_to}, PullLemmas.{fits_put, fits_same}}
use Rattle.x25_circuit.specs.declared.circuit.Circuit as circuit_code
use Rattle.x25_layer.proofs.layer.Layer.pull.Goals as goal

pub loop-next-preserved : goal.loop-next-preserved
loop-next-preserved c =
    let i : ℕ = c.from.result - 1 in
    let same = c.from.ensures in
    let higher = c.in-Some.ensures.higher in
    let up : suc i ≡ c.in-Some.next = omega (arith, same, higher) in
    let low : i < length c.loop-next.self.circuits.items =
    (let within = c.in-Some.ensures.within in let places = c.loop-next.self.places in omega (arith, up, within, places)) in
    let p = c.pull_one-is_put.ensures.pulls in
    let not_put = c.if-is_put.false in
    let read = read_at c.loop-next.self.circuits.items i c.index_mut-circuit.result.now low c.index_mut-circuit.ensures.value in
    record {
      like = let like = c.loop-next.invariant.like in record { role = like.role; long_data = like.long_data; ranges = like.ranges; restarting = like.restarting; restarts = like.restarts };
      count = length-set c.loop-next.self.circuits.items i c.pull_one-is_put.new.circuit ∙ c.loop-next.invariant.count;
      stands = λ s f before.
          let found = c.loop-next.invariant.stands s f before i _ read in
          fits_same s c.loop-next.self.circuits.items f i c.pull_one-is_put.new.circuit (c.loop-next.invariant.stands s f before)
          (kept_one c.pull_one-is_put.result c.pull_one-is_put.new.sheet s.circuit c.in-Some.next c.pull_one-is_put.new.circuit (f (suc i)) not_put
          (p.put s.circuit (f (suc i)) found) (p.next s.circuit (f (suc i)) found));
      none = λ s f before.
          let stands = c.loop-next.invariant.stands s f before in
          let here = none_put c.pull_one-is_put.result c.pull_one-is_put.new.sheet _ not_put (p.put s.circuit (f (suc i)) (stands i _ read)) in
          none_to s f c.args.behind c.in-Some.next
          (none_before c.what_waits_is_pulled.ensures s c.loop-next.self.circuits.items c.loop-next.self.busy.words.items f stands c.loop-next.self.still
          c.args.behind c.loop-next.channel c.in-Some.next (omega (arith, low, up))
          (c.loop-next.invariant.none s f before) c.in-Some.ensures.between)
          (subst (λ (h : ℕ). packet_on c.in-Some.next (pulled s.circuit (f h)).packet ≡ None) up here);
      low = (let low = c.loop-next.invariant.low in omega (arith, low, higher));
    }

pub returns-then-is_put : goal.returns-then-is_put
returns-then-is_put c =
    let i : ℕ = c.from.result - 1 in
    let same = c.from.ensures in
    let higher = c.in-Some.ensures.higher in
    let up : suc i ≡ c.in-Some.next = omega (arith, same, higher) in
    let low : i < length c.loop-next.self.circuits.items =
    (let within = c.in-Some.ensures.within in let places = c.loop-next.self.places in omega (arith, up, within, places)) in
    let p = c.pull_one-is_put.ensures.pulls in
    let is_put = c.if-is_put.true in
    let count = length-set c.loop-next.self.circuits.items i c.pull_one-is_put.new.circuit in
    let read = read_at c.loop-next.self.circuits.items i c.index_mut-circuit.result.now low c.index_mut-circuit.ensures.value in
    record {
      next = λ s l fits.
          let stands = c.loop-next.invariant.stands s l.circuits fits.circuits in
          let found = stands i _ read in
          pulls_next s c.args.self.now _ l c.args.behind (Some c.in-Some.next) fits
          (let like = c.loop-next.invariant.like in record { role = like.role; long_data = like.long_data; ranges = like.ranges; restarting = like.restarting; restarts = like.restarts }) (count ∙ c.loop-next.invariant.count)
          (omega (arith, low, up, count)) (record {
            between = none_before c.what_waits_is_pulled.ensures s c.loop-next.self.circuits.items c.loop-next.self.busy.words.items l.circuits stands
                c.loop-next.self.still c.args.behind c.loop-next.channel c.in-Some.next (omega (arith, low, up))
                (c.loop-next.invariant.none s l.circuits fits.circuits) c.in-Some.ensures.between;
            circuits = subst (λ (h : ℕ). FitsCircuits s (set c.loop-next.self.circuits.items i c.pull_one-is_put.new.circuit)
                (put_at l.circuits h (pulled s.circuit (l.circuits h)).next)) up
                (fits_put s c.loop-next.self.circuits.items l.circuits i c.pull_one-is_put.new.circuit (pulled s.circuit (l.circuits (suc i))).next stands
                (p.next s.circuit (l.circuits (suc i)) found));
            put = some_put c.pull_one-is_put.result c.pull_one-is_put.new.sheet (next_packet s l.circuits c.in-Some.next) is_put
                (subst (λ (h : ℕ). IsPut c.pull_one-is_put.result c.pull_one-is_put.new.sheet (packet_on c.in-Some.next (pulled s.circuit (l.circuits h)).packet)) up
                (p.put s.circuit (l.circuits (suc i)) found));
          });
      higher = (let low = c.loop-next.invariant.low in omega (arith, low, higher));
      within = (let few = c.loop-next.self.few in omega (arith, low, up, few));
      long = p.long is_put;
    }

pub returns : goal.returns
returns c = record {
  next = λ s l fits.
      let stands = c.loop-next.invariant.stands s l.circuits fits.circuits in
      let none = none_before c.what_waits_is_pulled.ensures s c.loop-next.self.circuits.items c.loop-next.self.busy.words.items l.circuits stands
      c.loop-next.self.still c.args.behind c.loop-next.channel (length c.loop-next.self.circuits.items + 1) (omega arith)
      (c.loop-next.invariant.none s l.circuits fits.circuits) (λ k more less. c.in_default.ensures.none k more) in
      pulls_next s c.args.self.now _ l c.args.behind None fits
      (let like = c.loop-next.invariant.like in record { role = like.role; long_data = like.long_data; ranges = like.ranges; restarting = like.restarting; restarts = like.restarts }) c.loop-next.invariant.count tt
      (record { between = λ k more high. none k more (omega (arith, high)); circuits = stands });
  higher = search rules;
  within = search rules;
  long = search rules;
}

pub invariant_of-self-clause-places : goal.invariant_of-self-clause-places
invariant_of-self-clause-places c =
    let i : ℕ = c.from.result - 1 in
    let same = c.from.ensures in
    let higher = c.in-Some.ensures.higher in
    let up : suc i ≡ c.in-Some.next = omega (arith, same, higher) in
    let low : i < length c.loop-next.self.circuits.items =
    (let within = c.in-Some.ensures.within in let places = c.loop-next.self.places in omega (arith, up, within, places)) in
    let p = c.pull_one-is_put.ensures.pulls in
    let read = read_at c.loop-next.self.circuits.items i c.index_mut-circuit.result.now low c.index_mut-circuit.ensures.value in
    c.leave_idle.ensures.places ∙ c.loop-next.self.places ∙ sym (length-set c.loop-next.self.circuits.items i c.pull_one-is_put.new.circuit)

pub invariant_of-self-clause-still : goal.invariant_of-self-clause-still
invariant_of-self-clause-still c =
    let i : ℕ = c.from.result - 1 in
    let same = c.from.ensures in
    let higher = c.in-Some.ensures.higher in
    let up : suc i ≡ c.in-Some.next = omega (arith, same, higher) in
    let low : i < length c.loop-next.self.circuits.items =
    (let within = c.in-Some.ensures.within in let places = c.loop-next.self.places in omega (arith, up, within, places)) in
    let p = c.pull_one-is_put.ensures.pulls in
    let read = read_at c.loop-next.self.circuits.items i c.index_mut-circuit.result.now low c.index_mut-circuit.ensures.value in
    rest_changed (λ (k : ℕ) (v : circuit_code.Circuit). IsOutside c.leave_idle.new.self.words.items (suc k) → IsIdle v) c.loop-next.self.circuits.items
    i c.pull_one-is_put.new.circuit
    (λ k v differs at out. c.loop-next.self.still k v at
    (c.leave_idle.ensures.others (suc k) (λ on. differs (let e : k ≡ i = omega (arith, on, up) in e)) out))
    (λ out. c.leave_idle.ensures.this (subst (λ (h : ℕ). IsOutside c.leave_idle.new.self.words.items h) up out))

pub invariant_of-self-clause-circuits_left : goal.invariant_of-self-clause-circuits_left
invariant_of-self-clause-circuits_left c =
    let i : ℕ = c.from.result - 1 in
    let same = c.from.ensures in
    let higher = c.in-Some.ensures.higher in
    let up : suc i ≡ c.in-Some.next = omega (arith, same, higher) in
    let low : i < length c.loop-next.self.circuits.items =
    (let within = c.in-Some.ensures.within in let places = c.loop-next.self.places in omega (arith, up, within, places)) in
    let p = c.pull_one-is_put.ensures.pulls in
    let read = read_at c.loop-next.self.circuits.items i c.index_mut-circuit.result.now low c.index_mut-circuit.ensures.value in
    λ all. all_changed (λ (k : ℕ) (v : circuit_code.Circuit). HasCountsLeft v) c.loop-next.self.circuits.items i c.pull_one-is_put.new.circuit
    (c.loop-next.self.circuits_left all)
    (counts_left _ c.pull_one-is_put.new.circuit p.clears p.resets (c.loop-next.self.circuits_left all i _ read))

pub invariant_of-self-clause-few : goal.invariant_of-self-clause-few
invariant_of-self-clause-few c = subst (λ (n : ℕ). n ≤ 4095) (sym (length-set c.loop-next.self.circuits.items (c.from.result - 1) c.pull_one-is_put.new.circuit))
    c.loop-next.self.few
