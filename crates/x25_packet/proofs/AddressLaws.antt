-- Digits packed into octets, and read from them again.
use Rattle.x25_packet.proofs.Names.{ℕ, zero, suc, ◌+◌, ◌*◌, ◌/◌, ◌%◌, ◌<◌, ◌≤◌, ◌≡◌, ◌∙◌, true, List, [], ◌∷◌, ◌++◌, length, get_or, take, drop, refl, ap, sym}
use Rattle.x25_packet.proofs.Names.{arith, nat_eq, length-drop, length-append, ◌&&◌, list_all, length-take-le, list_all-append, and_parts, leb-true, and_from}
use Rattle.std.proofs.lemmas.List.{append_assoc, take_more}
use Rattle.x25_packet.proofs.DigitLemmas.{length-halves_of, list_all-take, list_all-drop}
use Rattle.x25_packet.{proofs.Names.{eqb-true, halves_of, halves_at, packed, is_digit, hold_digits, IsAddress}, specs.Spelling.{addresses, call_body}}

-- 0 in the half octet that is left over, where the number is odd
filler : List ℕ → List ℕ
filler [] = []
filler (high ∷ []) = 0 ∷ []
filler (high ∷ low ∷ digits) = filler digits

pub length-packed : (digits : List ℕ) → length (packed digits) ≡ (length digits + 1) / 2
unfolding packed
length-packed [] = refl
length-packed (high ∷ []) = refl
length-packed (high ∷ low ∷ digits) = let rest = length-packed digits in omega arith

-- the octets are what their digits pack into
pub packed_back : (count : ℕ) (octets : List ℕ) → length octets ≡ (count + 1) / 2 → list_all (λ half. nat_eq half 0) (drop count (halves_of octets)) ≡ true
    → packed (take count (halves_of octets)) ≡ octets
unfolding packed halves_of
packed_back zero [] size zeros = refl
packed_back zero (b ∷ octets) size zeros = absurd (omega arith)
packed_back (suc zero) [] size zeros = absurd (omega arith)
packed_back (suc zero) (b ∷ []) size zeros =
    let low : b % 16 ≡ 0 = eqb-true _ _ (and_parts (nat_eq (b % 16) 0) true zeros).0 in
    let whole : 16 * (b / 16) ≡ b = omega arith in
    ap (λ n. n ∷ []) whole
packed_back (suc zero) (b ∷ c ∷ octets) size zeros = absurd (omega arith)
packed_back (suc (suc count)) [] size zeros = absurd (omega arith)
packed_back (suc (suc count)) (b ∷ octets) size zeros =
    let whole : 16 * (b / 16) + b % 16 ≡ b = omega arith in
    let rest : length octets ≡ (count + 1) / 2 = omega arith in
    rw (whole, packed_back count octets rest zeros) refl

halves_of-packed : (digits : List ℕ) → list_all is_digit digits ≡ true → halves_of (packed digits) ≡ digits ++ filler digits
unfolding packed halves_of filler
halves_of-packed [] h = refl
halves_of-packed (high ∷ []) h =
    let small : high ≤ 9 = leb-true high 9 (and_parts (is_digit high) true h).0 in
    let first : (16 * high) / 16 ≡ high = omega arith in
    let second : (16 * high) % 16 ≡ 0 = omega arith in
    rw (first, second) refl
halves_of-packed (high ∷ low ∷ digits) h =
    let parts = and_parts (is_digit high) (is_digit low && list_all is_digit digits) h in
    let more = and_parts (is_digit low) (list_all is_digit digits) parts.1 in
    let small : low ≤ 9 = leb-true low 9 more.0 in
    let first : (16 * high + low) / 16 ≡ high = omega arith in
    let second : (16 * high + low) % 16 ≡ low = omega arith in
    rw (first, second, halves_of-packed digits more.1) refl

filler_zero : (digits : List ℕ) → list_all (λ half. nat_eq half 0) (filler digits) ≡ true
unfolding filler
filler_zero [] = refl
filler_zero (high ∷ []) = refl
filler_zero (high ∷ low ∷ digits) = filler_zero digits

filler_digits : (digits : List ℕ) → list_all is_digit (filler digits) ≡ true
unfolding filler
filler_digits [] = refl
filler_digits (high ∷ []) = refl
filler_digits (high ∷ low ∷ digits) = filler_digits digits

-- the parts of two lists joined
pub take_first : (xs ys : List ℕ) → take (length xs) (xs ++ ys) ≡ xs
take_first [] ys = refl
take_first (x ∷ xs) ys = ap (λ (zs : List ℕ). x ∷ zs) (take_first xs ys)

pub drop_first : (xs ys : List ℕ) → drop (length xs) (xs ++ ys) ≡ ys
drop_first [] ys = refl
drop_first (x ∷ xs) ys = drop_first xs ys

take_none : (n : ℕ) → (let none : List ℕ = [] in take n none ≡ none)
take_none zero = refl
take_none (suc n) = refl

pub take_sum : (n m : ℕ) (xs : List ℕ) → take n xs ++ take m (drop n xs) ≡ take (n + m) xs
take_sum zero m xs = let at : 0 + m ≡ m = omega arith in rw at refl
take_sum (suc n) m [] = take_none m ∙ sym (take_none (suc n + m))
take_sum (suc n) m (x ∷ xs) = let at : suc n + m ≡ suc (n + m) = omega arith in rw at (ap (λ (zs : List ℕ). x ∷ zs) (take_sum n m xs))

-- ---- an address block

-- the digits that a block is read as
pub record Block (count : ℕ) (octets : List ℕ) : Type 0 where
  pub digits : list_all is_digit (halves_of octets) ≡ true
  pub zeros : list_all (λ half. nat_eq half 0) (drop count (halves_of octets)) ≡ true

pub block_when : (count : ℕ) (octets : List ℕ) → hold_digits count octets ≡ true → Block count octets
block_when count octets h = let parts = and_parts (list_all is_digit (halves_of octets)) (list_all (λ half. nat_eq half 0) (drop count (halves_of octets))) h in
    record { digits = parts.0; zeros = parts.1 }

pub length-halves_at : (octets : List ℕ) (start len : ℕ) → start + len ≤ 2 * length octets → length (halves_at octets start len) ≡ len
length-halves_at octets start len h = length-take-le len (drop start (halves_of octets)) (rw (length-drop, length-halves_of) (omega arith))

pub address_at : (count start len : ℕ) (octets : List ℕ) → Block count octets → len ≤ 15 → start + len ≤ 2 * length octets
    → IsAddress (halves_at octets start len)
address_at count start len octets block few room = record {
  short = let size = length-halves_at octets start len room in omega arith;
  decimal = list_all-take is_digit len (drop start (halves_of octets)) (list_all-drop is_digit start (halves_of octets) block.digits);
}

pub block_packed : (called calling : ℕ) (octets : List ℕ) → length octets ≡ (called + calling + 1) / 2 → Block (called + calling) octets
    → packed (halves_at octets 0 called ++ halves_at octets called calling) ≡ octets
block_packed called calling octets size block =
    ap packed (take_sum called calling (halves_of octets)) ∙ packed_back (called + calling) octets size block.zeros

pub packed_block : (digits : List ℕ) → list_all is_digit digits ≡ true → hold_digits (length digits) (packed digits) ≡ true
packed_block digits h =
    let whole = halves_of-packed digits h in
    let all : list_all is_digit (digits ++ filler digits) ≡ true = rw list_all-append (and_from _ _ h (filler_digits digits)) in
    let rest : drop (length digits) (digits ++ filler digits) ≡ filler digits = drop_first digits (filler digits) in
    rw (whole, all, rest) (filler_zero digits)

joined_digits : (called calling : List ℕ) → IsAddress called → IsAddress calling → list_all is_digit (called ++ calling) ≡ true
joined_digits called calling a b = rw list_all-append (and_from _ _ a.decimal b.decimal)

pub packed_holds : (called calling : List ℕ) → IsAddress called → IsAddress calling → hold_digits (length called + length calling) (packed (called ++ calling))
    ≡ true
packed_holds called calling a b =
    let size : length (called ++ calling) ≡ length called + length calling = length-append called calling in
    rw (← size) (packed_block (called ++ calling) (joined_digits called calling a b))

pub called_again : (called calling : List ℕ) → IsAddress called → IsAddress calling → halves_at (packed (called ++ calling)) 0 (length called) ≡ called
called_again called calling a b =
    let whole = halves_of-packed (called ++ calling) (joined_digits called calling a b) in
    ap (take (length called)) whole ∙ ap (take (length called)) (assoc called calling (filler (called ++ calling)))
    ∙ take_first called (calling ++ filler (called ++ calling))
  where
    assoc : (x y z : List ℕ) → (x ++ y) ++ z ≡ x ++ (y ++ z)
    assoc [] y z = refl
    assoc (a ∷ x) y z = ap (λ (zs : List ℕ). a ∷ zs) (assoc x y z)

pub calling_again : (called calling : List ℕ) → IsAddress called → IsAddress calling → halves_at (packed (called ++ calling)) (length called) (length calling)
    ≡ calling
calling_again called calling a b =
    let whole = halves_of-packed (called ++ calling) (joined_digits called calling a b) in
    let rest : drop (length called) (halves_of (packed (called ++ calling))) ≡ calling ++ filler (called ++ calling) =
    ap (drop (length called)) whole ∙ ap (drop (length called)) (assoc called calling (filler (called ++ calling)))
    ∙ drop_first called (calling ++ filler (called ++ calling)) in
    ap (take (length calling)) rest ∙ take_first calling (filler (called ++ calling))
  where
    assoc : (x y z : List ℕ) → (x ++ y) ++ z ≡ x ++ (y ++ z)
    assoc [] y z = refl
    assoc (a ∷ x) y z = ap (λ (zs : List ℕ). a ∷ zs) (assoc x y z)

-- ---- digits written two at a time

pub get_packed : (digits : List ℕ) (pair : ℕ) → get_or (packed digits) pair 0 ≡ 16 * get_or digits (2 * pair) 0 + get_or digits (2 * pair + 1) 0
unfolding packed
get_packed [] pair = refl
get_packed (high ∷ []) zero = let none : 16 * high ≡ 16 * high + 0 = omega arith in none
get_packed (high ∷ []) (suc pair) =
    let first : 2 * suc pair ≡ suc (suc (2 * pair)) = omega arith in
    let second : 2 * suc pair + 1 ≡ suc (suc (2 * pair + 1)) = omega arith in
    rw (second, first) refl
get_packed (high ∷ low ∷ digits) zero = refl
get_packed (high ∷ low ∷ digits) (suc pair) =
    let first : 2 * suc pair ≡ suc (suc (2 * pair)) = omega arith in
    let second : 2 * suc pair + 1 ≡ suc (suc (2 * pair + 1)) = omega arith in
    rw (second, first) (get_packed digits pair)

pub one_pair : (digits written octets : List ℕ) (pair high low : ℕ) → pair < length (packed digits) → octets ≡ written ++ take pair (packed digits)
    → high ≡ get_or digits (2 * pair) 0 → low ≡ get_or digits (2 * pair + 1) 0
    → octets ++ (16 * high + low) ∷ [] ≡ written ++ take (pair + 1) (packed digits)
one_pair digits written octets pair high low inside before first second =
    let octet : 16 * high + low ≡ get_or (packed digits) pair 0 = rw (first, second) (sym (get_packed digits pair)) in
    ap (λ (o : List ℕ). o ++ (16 * high + low) ∷ []) before ∙ append_assoc written (take pair (packed digits)) ((16 * high + low) ∷ [])
    ∙ ap (λ n. written ++ (take pair (packed digits) ++ n ∷ [])) octet ∙ ap (λ (o : List ℕ). written ++ o) (sym (take_more (packed digits) pair 0 inside))

pub length-pairs : (called calling : List ℕ) → length (packed (called ++ calling)) ≡ (length called + length calling + 1) / 2
length-pairs called calling = let count : length (called ++ calling) ≡ length called + length calling = length-append called calling in
    rw length-packed (rw count refl)

pub length-call : (called calling facilities user : List ℕ)
    → 2 + (length called + length calling + 1) / 2 + length facilities + length user ≡ length (call_body called calling facilities user)
length-call called calling facilities user =
    let whole = length-append (addresses called calling) (length facilities ∷ facilities ++ user) in
    let behind = length-append facilities user in
    let pairs = length-pairs called calling in
    omega arith
