-- The octets that are written are those of the definition.
use Rattle.std.proofs.Common.{ℕ, suc, ◌+◌, ◌*◌, ◌/◌, ◌≤◌, ◌≡◌, ◌∙◌, List, ◌∷◌, ◌++◌, length, take, drop, Some, Ok, ap, ap₂, sym, arith, length-append, ◌%◌}
use Rattle.x25_packet.proofs.AddressLaws.{length-pairs, take_first}
use Rattle.x25_packet.specs.Digits.{packed}
use Rattle.x25_packet.specs.Packet.{call}
use Rattle.x25_packet.specs.Reading.{packet_of}
use Rattle.x25_packet.specs.Spelling.{spelling_of, addresses}
use Rattle.x25_packet.specs.Block.{fields_octets}
use Rattle.x25_given.specs.Given.{PlainGiven}
use Rattle.x25_given.specs.Writing.{fields, head_of, write, written_read}

-- how many octets the digits have
pairs : (n m : ℕ) (called calling : List ℕ) → n ≡ length called → m ≡ length calling → (n + m + 1) / 2 ≡ length (packed (called ++ calling))
pairs n m called calling a b = ap₂ (λ x y. (x + y + 1) / 2) a b ∙ sym (length-pairs called calling)

-- a CALL is as long as its addresses
pub long_enough : (channel n m : ℕ) (called calling field user octets : List ℕ) → octets ≡ spelling_of (call channel called calling field user) → n
    ≡ length called → m ≡ length calling → 4 + (n + m + 1) / 2 ≤ length octets
long_enough channel n m called calling field user octets is a b =
    let size : length octets ≡ 4 + length (packed (called ++ calling) ++ (length field ∷ field ++ user)) = ap length is ∙ omega arith in
    let more : length (packed (called ++ calling) ++ (length field ∷ field ++ user)) ≡ length (packed (called ++ calling)) + length (length field ∷ field ++ user) = length-append (packed (called ++ calling)) (length field ∷ field ++ user) in
    let same : (n + m + 1) / 2 ≡ length (packed (called ++ calling)) = pairs n m called calling a b in
    omega (arith, size, more, same)

front_of : (k a b t l : ℕ) (ps rest : List ℕ) → k ≡ length ps → take (1 + k) (drop 3 (a ∷ b ∷ t ∷ l ∷ (ps ++ rest))) ≡ l ∷ ps
front_of k a b t l ps rest size =
    let e : 1 + k ≡ suc k = omega arith in
    rw e (ap (λ (xs : List ℕ). l ∷ xs) (ap (λ (n : ℕ). take n (ps ++ rest)) size ∙ take_first ps rest))

-- its addresses
addresses_in : (channel n m : ℕ) (called calling field user octets : List ℕ) → octets ≡ spelling_of (call channel called calling field user) → n
    ≡ length called → m ≡ length calling
    → take (1 + (n + m + 1) / 2) (drop 3 octets) ≡ addresses called calling
addresses_in channel n m called calling field user octets is a b =
    ap (λ (xs : List ℕ). take (1 + (n + m + 1) / 2) (drop 3 xs)) is
    ∙ front_of ((n + m + 1) / 2) (16 * 1 + channel / 256) (channel % 256) 11 (16 * length calling + length called) (packed (called ++ calling))
    (length field ∷ field ++ user) (pairs n m called calling a b)

pub call_written : (g : PlainGiven) (channel n m : ℕ) (called calling field user octets head front own : List ℕ) → octets
    ≡ spelling_of (call channel called calling field user)
    → packet_of 128 octets ≡ Ok (call channel called calling field user) → n ≡ length called → m ≡ length calling
    → head ≡ head_of g.d channel 11 → front ≡ take (1 + (n + m + 1) / 2) (drop 3 octets) → own ≡ field
    → head ++ (front ++ fields_octets (Some (fields (own ++ g.facilities) user))) ≡ write g octets
call_written g channel n m called calling field user octets head front own is read a b head_is front_is own_is =
    ap (λ (xs : List ℕ). xs ++ (front ++ fields_octets (Some (fields (own ++ g.facilities) user)))) head_is
    ∙ ap (λ (xs : List ℕ). head_of g.d channel 11 ++ (xs ++ fields_octets (Some (fields (own ++ g.facilities) user))))
    (front_is ∙ addresses_in channel n m called calling field user octets is a b)
    ∙ ap (λ (xs : List ℕ). head_of g.d channel 11 ++ (addresses called calling ++ fields_octets (Some (fields (xs ++ g.facilities) user)))) own_is
    ∙ sym (ap (written_read g octets) read)
