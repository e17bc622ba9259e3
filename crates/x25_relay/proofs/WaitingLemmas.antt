-- How many octets wait.
use Rattle.std.proofs.Common.{◌≡◌, ℕ, ◌+◌, ◌-◌, ◌<◌, ◌≤◌, List, [], ◌∷◌, ◌++◌, length, ap, arith}
use Rattle.std.proofs.lemmas.List.{length-append}
use Rattle.x25_packet.specs.declared.marks.Marks.{Marks}
use Rattle.x25_circuit.specs.Message.{Message}
use Rattle.x25_relay.specs.Relay.{octets_of}

pub octets_push : (ms : List Message) (m : Message) → octets_of (ms ++ m ∷ []) ≡ octets_of ms + length m.user
octets_push [] m = omega arith
octets_push (n ∷ ms) m = let h = octets_push ms m in omega (arith, h)

pub few_after : (xs ys : List Message) (m : Message) → ys ≡ xs ++ m ∷ [] → length xs < 16 → length ys ≤ 16
few_after xs ys m e few = rw e (let h = length-append xs (m ∷ []) in omega (arith, h, few))

pub counted_after : (o : ℕ) (xs ys : List Message) (m : Message) (marks : Marks) (user : List ℕ) → ys ≡ xs ++ m ∷ []
    → m ≡ record { marks = marks; user = user } → o ≡ octets_of xs → o + length user ≡ octets_of ys
counted_after o xs ys m marks user e is old =
    rw e (let h = octets_push xs m in let n = ap (λ (k : Message). length k.user) is in omega (arith, h, n, old))

pub bounded_after : (o most n : ℕ) → n ≤ most - o → o ≤ most → o + n ≤ most
bounded_after o most n room bounded = omega (arith, room, bounded)
