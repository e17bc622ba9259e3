-- The entries of a step, one after another.
use Rattle.std.proofs.Common.{◌≡◌, ℕ, ◌+◌, ◌<◌, ◌≤◌, List, length, map, drop, refl, sym, subst}
use Rattle.std.specs.Prelude.{slice_index_or}
use Rattle.x25_circuit.specs.declared.awaits.Awaits.{Awaits}
use Rattle.x25_station.specs.code.PlainEntry.{plain_entry}
use Rattle.x25_station.specs.declared.entry.Entry.{Entry}
use Rattle.x25_station.specs.declared.lent.Lent.{Lent}
use Rattle.x25_switch.specs.Calls.{PlainCall}
use Rattle.x25_switch.specs.Switch.{Heeds, HeedsEntry}
use Rattle.x25_switch.proofs.CallLemmas.{drop_one, drop_past}

pub one_heeded : (octets before line : ℕ) (awaited : ℕ → Awaits) (lent : Lent) (entries : List Entry) (n : ℕ) (d : Entry)
    (old mid end : List PlainCall) → n < length entries → before ≡ octets
    → HeedsEntry before line awaited (plain_entry lent (slice_index_or entries n d)) old mid
    → Heeds octets line awaited (map (plain_entry lent) (drop (n + 1) entries)) mid end
    → Heeds octets line awaited (map (plain_entry lent) (drop n entries)) old end
one_heeded octets before line awaited lent entries n d old mid end low same first rest =
    let one : HeedsEntry octets line awaited (plain_entry lent (slice_index_or entries n d)) old mid =
    subst (λ (o : ℕ). HeedsEntry o line awaited (plain_entry lent (slice_index_or entries n d)) old mid) same first in
    subst (λ (es : List Entry). Heeds octets line awaited (map (plain_entry lent) es) old end) (sym (drop_one n entries d low)) (mid, one, rest)

pub none_left : (octets line : ℕ) (awaited : ℕ → Awaits) (lent : Lent) (entries : List Entry) (n : ℕ) (cs : List PlainCall)
    → length entries ≤ n → Heeds octets line awaited (map (plain_entry lent) (drop n entries)) cs cs
none_left octets line awaited lent entries n cs few =
    subst (λ (es : List Entry). Heeds octets line awaited (map (plain_entry lent) es) cs cs) (sym (drop_past n entries few)) refl
