-- How many octets a station holds at most: a sum of what its parts hold.
use Rattle.x25_station.proofs.Names.{◌≡◌, ℕ, suc, ◌+◌, ◌*◌, ◌≤◌, List, [], ◌∷◌, length, Some, refl, sym, ap₂, subst, ◌∙◌, arith, sum_by-cons, sum_by}
use Rattle.std.proofs.{Common.{slice_get}, Math.Nat.{add-mul, add_comm, mul-suc, mul-zero}}
use Rattle.x25_station.specs.laws.OctetLaw.{circuit_octets, part_octets, octets_held}
use Rattle.x25_circuit.specs.declared.circuit.Circuit as circuit_code
use Rattle.x25_station.specs.laws.OctetLaw as law

of_circuit : (u : circuit_code.Circuit) → circuit_octets u ≤ 589815 + part_octets u
of_circuit u = let few = u.transfer.queue.few in omega (arith, few)

of_circuits : (us : List circuit_code.Circuit) → sum_by circuit_octets us ≤ 589815 * length us + sum_by part_octets us
of_circuits [] = omega arith
of_circuits (u ∷ us) =
    let one = of_circuit u in
    let rest = of_circuits us in
    rw (sum_by-cons circuit_octets u us, sum_by-cons part_octets u us) (omega (arith, one, rest))

-- where each makes memory for so many
of_parts : (n : ℕ) (us : List circuit_code.Circuit) → ((k : ℕ) (u : circuit_code.Circuit) → slice_get us k ≡ Some u → part_octets u ≡ n)
    → sum_by part_octets us ≡ n * length us
of_parts n [] each = sym (mul-zero n)
of_parts n (u ∷ us) each =
    let one : part_octets u ≡ n = each 0 u refl in
    let rest : sum_by part_octets us ≡ n * length us = of_parts n us (λ k v is. each (suc k) v is) in
    sum_by-cons part_octets u us ∙ ap₂ ◌+◌ one rest ∙ add_comm n (n * length us) ∙ sym (mul-suc n (length us))

pub few_octets : law.FewOctets
few_octets v =
    let o = v.link.station.outgoing in
    let circuits = of_circuits v.layer.circuits.items in
    omega (arith, o.places.short_ones, o.long_ones, circuits, v.writing.room)

pub few_in_all : law.FewOctetsInAll
few_in_all c v s fits =
    let n : ℕ = length v.layer.circuits.items in
    let all : octets_held v ≤ 236796 + (589815 + c.channels.message) * n =
    rw (add-mul 589815 c.channels.message n)
    (subst (λ (m : ℕ). octets_held v ≤ 236796 + (589815 * n + m))
    (of_parts c.channels.message v.layer.circuits.items (λ k u is. (fits.layer.circuits k u is).longest))
    (few_octets v)) in
    subst (λ (m : ℕ). octets_held v ≤ 236796 + (589815 + c.channels.message) * m) fits.layer.channels all
