use Rattle.std.proofs.{Common.{◌≡◌, ◌∙◌, ◌*◌, ◌≤◌, Some, ap, arith, drop, length, sym, take, w8}, lemmas.List.{length-map, take-take}}
use Rattle.std.{proofs.lemmas.List.Sums.{prefix_len-le-length}, proofs.lemmas.Simd.{chunk-fits, length-chunk}, specs.List.{prefix_len}, specs.Prelude.{nat_lt}}
use Rattle.x25_text.proofs.{BlockLemmas.{before_block}, LaneLemmas.{fits_each}, LineLemmas.{front_all, front_read, stored_front}, TestedLemmas.{digits_leading}}
use Rattle.x25_text.specs.Hexadecimal.{octets_of, value_of}
use Rattle.x25_text.proofs.hexadecimal.read_leading.Goals as goal

pub returns-clause-digits : goal.returns-clause-digits
returns-clause-digits c =
    let fits = fits_each (take 16 (drop (2 * c.args.place) c.args.text.now)) (chunk-fits w8 (2 * c.args.place) 16 c.args.text.now c.type_inv.text) in
    c.leading.ensures ∙ ap (prefix_len (λ x. nat_lt x 16)) c.values-values.ensures ∙ digits_leading _ fits

pub returns-clause-octets : goal.returns-clause-octets
returns-clause-octets c = λ count le.
    let v = take 16 (drop (2 * c.args.place) c.args.text.now) in
    let long : length v ≡ 16 = length-chunk (2 * c.args.place) 16 c.args.text.now c.requires.text in
    let size : length c.values-values.result ≡ 16 = ap length c.values-values.ensures ∙ length-map v value_of ∙ long in
    let most = prefix_len-le-length (λ x. nat_lt x 16) c.values-values.result in
    let few : 2 * count ≤ 16 = omega (arith, le, c.leading.ensures, most, size) in
    let fits = fits_each v (chunk-fits w8 (2 * c.args.place) 16 c.args.text.now c.type_inv.text) in
    let all = front_all (λ x. nat_lt x 16) (2 * count) c.values-values.result (omega (arith, le, c.leading.ensures)) in
    ap octets_of (sym (take-take (2 * count) 16 (drop (2 * c.args.place) c.args.text.now) few))
    ∙ front_read count c.leading.result v c.values-values.result long fits c.values-values.ensures c.leading.ensures le few
    ∙ ap (λ l. Some l) (sym (stored_front c.args.place count c.args.octets.now c.joined.result c.joined.ensures.size c.requires.room (omega (arith, few))
    ∙ c.joined.ensures.front count (omega (arith, few)) all))

pub returns-clause-before : goal.returns-clause-before
returns-clause-before c = before_block c.args.place c.args.octets.now c.joined.result (omega (arith, c.joined.ensures.size, c.requires.room))
