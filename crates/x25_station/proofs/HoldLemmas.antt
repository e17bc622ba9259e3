-- What a station holds at most: as many messages wait in a circuit as its queue has.
use Rattle.x25_station.proofs.Names.{◌≡◌, ℕ, zero, suc, ◌+◌, ◌<◌, ◌≤◌, nat_le, List, [], ◌∷◌, ◌++◌, length, take, drop, Some, Bool, true, false, if◌then◌else◌}
use Rattle.x25_station.proofs.Names.{refl, subst, ap, arith, and_parts, leb-true, Piece, no_part, joining, Message, More, Last, cut_from, Partial, is_channel}
use Rattle.x25_station.proofs.Names.{WindowIsSmall, with_q, Marks, Settings, link_settings, layer_settings, Station, FitsStation}
use Rattle.std.{proofs.lemmas.List.{length-append}, specs.List.{slice_get}}
use Rattle.x25_circuit.specs.{Message.{cut_all, wholes}, code.FitsCircuit.{FitsCircuit}}
use Rattle.x25_link.specs.code.Bounds.{FewStand as LinkStands}
use Rattle.x25_circuit.specs.declared.circuit.Circuit as circuit_code
use Rattle.x25_circuit.specs.Circuit as circuit
use Rattle.x25_station.specs.declared.station.Station as code
use Rattle.x25_station.specs.laws.HoldLaw as law

wholes_append : (a b : List Piece) → wholes (a ++ b) ≡ wholes a + wholes b
wholes_append [] b = omega arith
wholes_append (p ∷ a) b = let e : wholes (a ++ b) ≡ wholes a + wholes b = wholes_append a b in omega (arith, e)

-- a message ends once
cut_whole : (n size : ℕ) (q : Marks) (user : List ℕ) → wholes (cut_from n size q user) ≡ 1
cut_whole zero size q user = refl
cut_whole (suc n) size q user = test (nat_le (length user) size) (cut_whole n size q (drop size user))
  where
    test : (b : Bool) → wholes (cut_from n size q (drop size user)) ≡ 1
        → wholes (if b then Last q user ∷ [] else More (with_q q.q) (take size user) ∷ cut_from n size q (drop size user)) ≡ 1
    test true rest = refl
    test false rest = omega (arith, rest)

all_whole : (size : ℕ) (messages : List Message) → wholes (cut_all size messages) ≡ length messages
all_whole size [] = refl
all_whole size (m ∷ messages) =
    let one : wholes (cut_from (length m.user) size m.marks m.user) ≡ 1 = cut_whole (length m.user) size m.marks m.user in
    let rest : wholes (cut_all size messages) ≡ length messages = all_whole size messages in
    let both = wholes_append (cut_from (length m.user) size m.marks m.user) (cut_all size messages) in
    omega (arith, one, rest, both)

record Found {T : Type 0} (xs : List T) (k : ℕ) : Type 0 where
  item : T
  is : slice_get xs k ≡ Some item

found : {T : Type 0} (xs : List T) (k : ℕ) → k < length xs → Found xs k
found [] k low = absurd (below_none k low)
  where
    below_none : (n : ℕ) → n < 0 → ⊥
    below_none n low = omega (arith, low)
found (x ∷ xs) zero low = record { item = x; is = refl }
found (x ∷ xs) (suc k) low = let f = found xs k (omega (arith, low)) in record { item = f.item; is = f.is }

of_circuit : (c : Settings) (v : circuit_code.Circuit) (x : circuit.Circuit) → FitsCircuit (layer_settings c).circuit v x → circuit.waits x ≤ 8
of_circuit c v x fits =
    let q = v.transfer.queue in
    let same : wholes x.talk.rest ≡ wholes (cut_all (circuit.outgoing x).size (q.cutter.left ++ q.ring.items)) = ap wholes fits.talk.rest in
    let all = all_whole (circuit.outgoing x).size (q.cutter.left ++ q.ring.items) in
    let size : length (q.cutter.left ++ q.ring.items) ≡ length q.cutter.left + length q.ring.items = length-append q.cutter.left q.ring.items in
    omega (arith, same, all, size, q.few)

zero_true : false ≡ true → ⊥
zero_true e = cc

-- the code's circuit of a configured channel
circuit_on : (c : Settings) (v : code.Station) (s : Station) (h : ℕ) → FitsStation c v s → is_channel c.channels h ≡ true → (u : circuit_code.Circuit)
    × FitsCircuit (layer_settings c).circuit u (s.layer.circuits h)
circuit_on c v s zero fits is = absurd (zero_true is)
circuit_on c v s (suc k) fits is =
    let high : suc k ≤ c.channels.count = leb-true (suc k) c.channels.count (and_parts (nat_le 1 (suc k)) (nat_le (suc k) c.channels.count) is).1 in
    let n = fits.layer.channels in
    let f = found v.layer.circuits.items k (omega (arith, high, n)) in
    (f.item, fits.layer.circuits k f.item f.is)

pub few_messages : law.FewMessages
few_messages c v s h fits is = let u = circuit_on c v s h fits is in of_circuit c u.0 (s.layer.circuits h) u.1

pub few_joined : law.FewJoined
few_joined c v s h fits is =
    let u = circuit_on c v s h fits is in
    subst (λ (n : ℕ). length (joining no_part (s.layer.circuits h).talk.taken).user ≤ n) u.1.longest
    (subst (λ (j : Partial). length j.user ≤ u.0.transfer.partial.longest) u.1.talk.part u.1.talk.short)

pub few_held : law.FewHeld
few_held v k u is = let few = u.transfer.queue.few in omega (arith, few)

pub few_stand : LinkStands → WindowIsSmall → law.FewStand
few_stand stands small c v s fits =
    let room = (stands (link_settings c) v.link s.link fits.link).room in
    let low = small (link_settings c) v.link s.link fits.link in
    omega (arith, room, low)

pub few_wait : law.FewWait
few_wait c v s fits = fits.kept.few
