use Rattle.std.proofs.{Common.{◌≡◌, ◌∙◌, ◌+◌, ◌*◌, ◌++◌, Some, ap, arith, drop, length, map, nat_lt, sym, take, true, w8}, Math.Seq.{take-add}}
use Rattle.std.{proofs.lemmas.List.{drop-drop}, proofs.lemmas.Simd.{chunk-fits, length-chunk}, specs.Char.{is_ascii_hexdigit}, specs.List.{list_all}}
use Rattle.x25_text.proofs.{BlockLemmas.{before_block, both_of, octets_of-append, stored_block}, LaneLemmas.{block_read, fits_each}}
use Rattle.x25_text.{proofs.TestedLemmas.{all_part, digits_tested}, specs.Hexadecimal.{octets_of, paired, value_of}}
use Rattle.x25_text.proofs.hexadecimal.read_sixteen_digits.Goals as goal

pub returns-clause-octets : goal.returns-clause-octets
returns-clause-octets c =
    let from = 2 * c.args.place in
    let text = c.args.digits.now in
    let front = take 16 (drop from text) in
    let back = take 16 (drop (from + 16) text) in
    let apart : take 32 (drop from text) ≡ front ++ back = take-add 16 16 (drop from text) ∙ ap (λ l. front ++ take 16 l) (drop-drop 16 from text) in
    let long : length front ≡ 16 = length-chunk from 16 text (omega (arith, c.requires.length, c.requires.room)) in
    let long_back : length back ≡ 16 = length-chunk (from + 16) 16 text (omega (arith, c.requires.length, c.requires.room)) in
    let fits = fits_each front (chunk-fits w8 from 16 text c.type_inv.digits) in
    let fits_back = fits_each back (chunk-fits w8 (from + 16) 16 text c.type_inv.digits) in
    let digits : list_all is_ascii_hexdigit front ≡ true = all_part is_ascii_hexdigit from 16 text c.requires.digits in
    let digits_back : list_all is_ascii_hexdigit back ≡ true = all_part is_ascii_hexdigit (from + 16) 16 text c.requires.digits in
    let values : c.values_of_digits-first.result ≡ map value_of front = c.values_of_digits-first.ensures digits in
    let values_back : c.values_of_digits-second.result ≡ map value_of back = c.values_of_digits-second.ensures digits_back in
    let small : list_all (λ x. nat_lt x 16) (map value_of front) ≡ true = digits_tested front fits ∙ digits in
    let small_back : list_all (λ x. nat_lt x 16) (map value_of back) ≡ true = digits_tested back fits_back ∙ digits_back in
    let joined : c.joined_sixteen.result ≡ paired (map value_of front) ++ paired (map value_of back) =
    c.joined_sixteen.ensures.octets (ap (list_all (λ x. nat_lt x 16)) values ∙ small) (ap (list_all (λ x. nat_lt x 16)) values_back ∙ small_back)
    ∙ (λ i. paired (values i) ++ paired (values_back i)) in
    ap octets_of apart ∙ octets_of-append 8 front back long
    ∙ (λ i. both_of (block_read 8 front long fits small i) (block_read 8 back long_back fits_back small_back i))
    ∙ ap (λ l. Some l) (sym joined ∙ sym (stored_block c.args.place 16 c.args.octets.now c.joined_sixteen.result c.joined_sixteen.ensures.size c.requires.room))

pub returns-clause-before : goal.returns-clause-before
returns-clause-before c =
    before_block c.args.place c.args.octets.now c.joined_sixteen.result (omega (arith, c.joined_sixteen.ensures.size, c.requires.room))
