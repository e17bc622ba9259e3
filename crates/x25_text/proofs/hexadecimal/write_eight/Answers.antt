use Rattle.std.proofs.{Common.{◌≡◌, ◌∙◌, ◌++◌, ◌*◌, ◌+◌, ap, arith, drop, length, take}, lemmas.Simd.{length-chunk, take_more_put_chunk}}
use Rattle.x25_text.proofs.ShownLemmas.{length_shown}
use Rattle.x25_text.proofs.hexadecimal.write_eight.Goals as goal

pub returns : goal.returns
returns c =
    let v = take 8 (drop c.args.place c.args.octets.now) in
    let long : length v ≡ 8 = length-chunk c.args.place 8 c.args.octets.now c.requires.room in
    let size : length c.digits_of.result ≡ 16 = ap length c.digits_of.ensures ∙ length_shown v ∙ ap (λ n. 2 * n) long in
    take_more_put_chunk (2 * c.args.place) c.args.digits.now c.digits_of.result (2 * (c.args.place + 8)) (omega (arith, size))
    (omega (arith, c.requires.digits, c.requires.room))
    ∙ ap (λ digits. take (2 * c.args.place) c.args.digits.now ++ digits) c.digits_of.ensures
