use Rattle.std.proofs.{Common.{◌≡◌, ◌∙◌, ◌*◌, Some, ap, arith, drop, length, map, nat_lt, sym, take, true, w8}, lemmas.List.{length-map, take_all}}
use Rattle.std.{proofs.lemmas.Simd.{chunk-fits, length-chunk}, specs.Char.{is_ascii_hexdigit}, specs.List.{list_all}}
use Rattle.x25_text.proofs.{BlockLemmas.{before_block, stored_block}, LaneLemmas.{block_read, fits_each}, TestedLemmas.{all_part, digits_tested}}
use Rattle.x25_text.specs.Hexadecimal.{paired, value_of}
use Rattle.x25_text.proofs.hexadecimal.read_eight_digits.Goals as goal

pub returns-clause-octets : goal.returns-clause-octets
returns-clause-octets c =
    let v = take 16 (drop (2 * c.args.place) c.args.digits.now) in
    let long : length v ≡ 16 = length-chunk (2 * c.args.place) 16 c.args.digits.now (omega (arith, c.requires.length, c.requires.room)) in
    let fits = fits_each v (chunk-fits w8 (2 * c.args.place) 16 c.args.digits.now c.type_inv.digits) in
    let digits : list_all is_ascii_hexdigit v ≡ true = all_part is_ascii_hexdigit (2 * c.args.place) 16 c.args.digits.now c.requires.digits in
    let values : c.values_of_digits-values.result ≡ map value_of v = c.values_of_digits-values.ensures digits in
    let small : list_all (λ x. nat_lt x 16) (map value_of v) ≡ true = digits_tested v fits ∙ digits in
    let all : list_all (λ x. nat_lt x 16) c.values_of_digits-values.result ≡ true = ap (list_all (λ x. nat_lt x 16)) values ∙ small in
    let size : length c.values_of_digits-values.result ≡ 16 = ap length values ∙ length-map v value_of ∙ long in
    let whole : take 16 c.values_of_digits-values.result ≡ c.values_of_digits-values.result =
    take_all 16 c.values_of_digits-values.result (omega (arith, size)) in
    let joined : c.joined.result ≡ paired c.values_of_digits-values.result =
    sym (take_all 8 c.joined.result (omega (arith, c.joined.ensures.size)))
    ∙ c.joined.ensures.front 8 (omega arith) (ap (list_all (λ x. nat_lt x 16)) whole ∙ all) ∙ ap paired whole in
    block_read 8 v long fits small
    ∙ ap (λ l. Some l) (ap paired (sym values) ∙ sym joined
    ∙ sym (stored_block c.args.place 8 c.args.octets.now c.joined.result c.joined.ensures.size c.requires.room))

pub returns-clause-before : goal.returns-clause-before
returns-clause-before c =
    before_block c.args.place c.args.octets.now c.joined.result (omega (arith, c.joined.ensures.size, c.requires.room))
