-- The octets that spell a frame are octets, at most as many as the longest frame has.
use Rattle.x25_world.proofs.Names.{◌≡◌, ◌∙◌, ℕ, zero, suc, ◌+◌, ◌-◌, ◌*◌, ◌≤◌, ◌<◌, Bool, true, false, not, List, [], ◌∷◌, ◌++◌, length, map, take, drop, subst}
use Rattle.x25_world.proofs.Names.{arith, refl, length-map, All-nil, number_of, add, divisor, divided, fcs_of, Role, Dte, Dce, PlainFrame, info, sabm, ua, frmr}
use Rattle.x25_world.proofs.Names.{information_of, spelling_of, longest_packet, AreOctets, AreOfFrame}
use Rattle.std.proofs.{Common.{◌/◌, ◌%◌, replicate}, lemmas.List.{length-append, length-replicate}, lemmas.List.Elements.{All-cons, All-append}}
use Rattle.x25_bits.specs.{Bits.{bit}, FrameCheck.{bits_of, remainder, inverted}, FrameCheck.Sealed.{seal_of}}
use Rattle.x25_frame.specs.{Frame.{rr, rnr, rej, disc, dm}, Spelling.{is_command, address_of, control_of, IsInRange, MayCarry, IsWithin, body_of}}

-- ---- the frame check sequence has sixteen bits

abbrev bound : ℕ → ℕ
bound zero = 1
bound (suc n) = 2 * bound n

number_below : (bits : List Bool) → number_of bits < bound (length bits)
unfolding number_of
number_below [] = omega arith
number_below (true ∷ bits) = omega (arith, number_below bits)
number_below (false ∷ bits) = omega (arith, number_below bits)

length_add : (p q : List Bool) → length p ≤ length q → length (add p q) ≡ length q
unfolding add
length_add [] q few = refl
length_add (a ∷ p) [] few = absurd (omega (arith, few))
length_add (a ∷ p) (b ∷ q) few = omega (arith, length_add p q (omega (arith, few)))

length_divisor : length divisor ≡ 16
unfolding divisor
length_divisor = refl

length_divided : (n : ℕ) (p : List Bool) → length p ≡ n + 16 → length (divided n p) ≡ 16
unfolding divided
length_divided zero p e = omega (arith, e)
length_divided (suc n) [] e = absurd (omega (arith, e))
length_divided (suc n) (true ∷ p) e =
    length_divided n (add divisor p) (omega (arith, length_add divisor p (omega (arith, length_divisor, e)), e))
length_divided (suc n) (false ∷ p) e = length_divided n p (omega (arith, e))

length_parts : (n : ℕ) (q : List Bool) → length (take n q) + length (drop n q) ≡ length q
length_parts zero q = omega arith
length_parts (suc n) [] = omega arith
length_parts (suc n) (b ∷ q) = omega (arith, length_parts n q)

fcs_below : (octets : List ℕ) → fcs_of octets < 65536
unfolding fcs_of
fcs_below octets =
    let q = bits_of octets ++ replicate 16 false in
    let p = inverted q in
    let few = length_divided (length p - 16) p
    (omega (
      arith,
      length-append (bits_of octets) (replicate 16 false),
      length-replicate 16 false,
      length-append (map not (take 16 q)) (drop 16 q),
      length-map (take 16 q) not,
      length_parts 16 q,
    )) in
    subst (λ n. number_of (map not (remainder p)) < bound n) (length-map (remainder p) not ∙ few) (number_below (map not (remainder p)))

-- ---- frames

bit_low : (b : Bool) → bit b ≤ 1
bit_low true = omega arith
bit_low false = omega arith

control_below : (v : PlainFrame) → IsInRange v → control_of v < 256
control_below (info ns nr p x) h = omega (arith, bit_low p, h.0, h.1)
control_below (rr command nr pf) h = omega (arith, bit_low pf, h)
control_below (rnr command nr pf) h = omega (arith, bit_low pf, h)
control_below (rej command nr pf) h = omega (arith, bit_low pf, h)
control_below (sabm p) h = omega (arith, bit_low p)
control_below (disc p) h = omega (arith, bit_low p)
control_below (ua f) h = omega (arith, bit_low f)
control_below (dm f) h = omega (arith, bit_low f)
control_below (frmr f why) h = omega (arith, bit_low f)

address_below : (from : Role) (command : Bool) → address_of from command < 256
address_below Dte true = omega arith
address_below Dte false = omega arith
address_below Dce true = omega arith
address_below Dce false = omega arith

information_short : (v : PlainFrame) → MayCarry v (information_of v) → IsWithin longest_packet v (information_of v) → length (information_of v) ≤ 4099
information_short (info ns nr p x) carries within = within
information_short (frmr f why) carries within = omega (arith, carries)
information_short v carries within = omega arith

abbrev IsOctet : ℕ → Type 0
IsOctet octet = octet < 256

sealed_octets : (body : List ℕ) → AreOctets body → AreOctets (body ++ seal_of body)
sealed_octets body h =
    All-append IsOctet body (seal_of body) h
    (All-cons IsOctet (fcs_of body % 256) (fcs_of body / 256 ∷ []) (omega arith)
    (All-cons IsOctet (fcs_of body / 256) [] (omega (arith, fcs_below body)) (All-nil IsOctet)))

pub spelled_of_frame : (from : Role) (v : PlainFrame) → IsInRange v → MayCarry v (information_of v) → IsWithin longest_packet v (information_of v)
    → AreOctets (information_of v) → AreOfFrame (spelling_of from v)
spelled_of_frame from v in_range carries within h = record {
  each = sealed_octets (body_of from v)
      (All-cons IsOctet (address_of from (is_command v)) (control_of v ∷ information_of v) (address_below from (is_command v))
      (All-cons IsOctet (control_of v) (information_of v) (control_below v in_range) h));
  short = by;
}
  where
    by : length (spelling_of from v) ≤ 4103
    by = omega (arith, information_short v carries within, length-append (body_of from v) (seal_of (body_of from v)))
