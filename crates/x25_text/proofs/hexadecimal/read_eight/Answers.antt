use Rattle.std.proofs.{Common.{◌≡◌, ◌∙◌, ◌*◌, Some, ap, arith, drop, length, nat_lt, sym, take, true, w8}, lemmas.List.{length-map, take_all}}
use Rattle.std.{proofs.lemmas.Simd.{chunk-fits, length-chunk}, specs.List.{list_all}}
use Rattle.x25_text.proofs.{BlockLemmas.{before_block, stored_block}, LaneLemmas.{block_fault, block_read, fits_each}}
use Rattle.x25_text.specs.Hexadecimal.{paired, value_of}
use Rattle.x25_text.proofs.hexadecimal.read_eight.Goals as goal

pub returns-then-are_digits-clause-octets : goal.returns-then-are_digits-clause-octets
returns-then-are_digits-clause-octets c =
    let v = take 16 (drop (2 * c.args.place) c.args.digits.now) in
    let long : length v ≡ 16 = length-chunk (2 * c.args.place) 16 c.args.digits.now (omega (arith, c.requires.digits, c.requires.room)) in
    let all : list_all (λ x. nat_lt x 16) c.values-values.result ≡ true = sym c.are_digits.ensures ∙ c.if-are_digits.true in
    let size : length c.values-values.result ≡ 16 = ap length c.values-values.ensures ∙ length-map v value_of ∙ long in
    let whole : take 16 c.values-values.result ≡ c.values-values.result = take_all 16 c.values-values.result (omega (arith, size)) in
    let joined : c.joined.result ≡ paired c.values-values.result =
    sym (take_all 8 c.joined.result (omega (arith, c.joined.ensures.size)))
    ∙ c.joined.ensures.front 8 (omega arith) (ap (list_all (λ x. nat_lt x 16)) whole ∙ all) ∙ ap paired whole in
    block_read 8 v long (fits_each v (chunk-fits w8 (2 * c.args.place) 16 c.args.digits.now c.type_inv.digits))
    (ap (list_all (λ x. nat_lt x 16)) (sym c.values-values.ensures) ∙ sym c.are_digits.ensures ∙ c.if-are_digits.true)
    ∙ ap (λ l. Some l) (ap paired (sym c.values-values.ensures) ∙ sym joined
    ∙ sym (stored_block c.args.place 8 c.args.octets.now c.joined.result c.joined.ensures.size c.requires.room))

pub returns-then-are_digits-clause-before : goal.returns-then-are_digits-clause-before
returns-then-are_digits-clause-before c =
    before_block c.args.place c.args.octets.now c.joined.result (omega (arith, c.joined.ensures.size, c.requires.room))

pub returns-else-are_digits-clause-octets : goal.returns-else-are_digits-clause-octets
returns-else-are_digits-clause-octets c =
    let v = take 16 (drop (2 * c.args.place) c.args.digits.now) in
    let long : length v ≡ 16 = length-chunk (2 * c.args.place) 16 c.args.digits.now (omega (arith, c.requires.digits, c.requires.room)) in
    block_fault 8 v long (fits_each v (chunk-fits w8 (2 * c.args.place) 16 c.args.digits.now c.type_inv.digits))
    (ap (list_all (λ x. nat_lt x 16)) (sym c.values-values.ensures) ∙ sym c.are_digits.ensures ∙ c.if-are_digits.false)
