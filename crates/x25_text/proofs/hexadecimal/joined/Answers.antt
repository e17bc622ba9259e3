use Rattle.std.proofs.{Common.{◌≡◌, ◌∙◌, ◌+◌, ◌*◌, ◌++◌, ap, arith, get_or, length, sym, take}, lemmas.List.{get_or-take, get_or_append_left, length-take-le}}
use Rattle.x25_text.proofs.LaneLemmas.{joined_is, octet_at, octets_from, take_octets_from}
use Rattle.x25_text.proofs.hexadecimal.joined.Goals as goal

pub returns-clause-front : goal.returns-clause-front
unfolding octets_from octet_at
returns-clause-front c = λ count few all.
    let v = c.args.values in
    let long : length (take (2 * count) v) ≡ 2 * count = length-take-le (2 * count) v (omega (arith, c.fits-values.0, few)) in
    take_octets_from count 0 8 (v ++ v) few
    ∙ joined_is count 0 (take (2 * count) v) (v ++ v) long all (λ j h.
    let place : 2 * 0 + j ≡ j = omega arith in
    ap (λ m. get_or (v ++ v) m 0) place ∙ get_or_append_left v v 0 j (omega (arith, c.fits-values.0, h, few)) ∙ sym (get_or-take (2 * count) v j 0 h))
