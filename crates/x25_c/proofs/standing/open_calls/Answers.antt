use Rattle.std.proofs.Common.{◌≡◌, ◌≤◌, ◌∙◌, ◌+◌, ℕ, suc, Bool, true, false, if◌then◌else◌, refl, ap, ap₂, sym, arith}
use mir.Val.{bool_byte}
use Rattle.x25_c.specs.Standing.{count_up_to, has_call}
use Rattle.x25_c.proofs.standing.open_calls.Goals as goal

one_more : (has : ℕ → Bool) (n m : ℕ) → m ≡ n + 1 → count_up_to has m ≡ count_up_to has n + (if has m then 1 else 0)
one_more has n m is =
    let next : m ≡ suc n = omega (arith, is) in
    ap (count_up_to has) next ∙ ap (λ (k : ℕ). count_up_to has n + (if has k then 1 else 0)) (sym next)

byte_is : (b : Bool) → bool_byte b ≡ (if b then 1 else 0)
byte_is true = refl
byte_is false = refl

byte_low : (b : Bool) → bool_byte b ≤ 1
byte_low true = omega arith
byte_low false = omega arith

pub overflow_add-count : goal.overflow_add-count
overflow_add-count c =
    let one = c.from-count.ensures in
    let low = byte_low c.has_call.result in
    let few = c.loop-channel.invariant.0 in
    let next = c.loop-channel-test.true in
    let most = c.channels-channel-end.type_inv in
    omega (arith, one, low, few, next, most)

pub loop-channel-preserved : goal.loop-channel-preserved
loop-channel-preserved c =
    let b : Bool = c.has_call.result in
    let one : c.from-count.result ≡ bool_byte b = c.from-count.ensures in
    let low : bool_byte b ≤ 1 = byte_low b in
    let few = c.loop-channel.invariant.0 in (
      omega (arith, one, low, few),
      λ k s fits. ap₂ (λ (m n : ℕ). m + n) (c.loop-channel.invariant.1 k s fits)
          (one ∙ byte_is b ∙ ap (λ (x : Bool). if x then 1 else 0) (c.has_call.ensures k s fits)) ∙ sym (one_more (has_call k s) _ _ (omega arith)),
    )
