use Rattle.std.{proofs.Common.{◌∙◌, ◌-◌, Result, Ok, Err, arith, length}, specs.Prelude.{IsOk, OnOk}}
use Rattle.x25_text.proofs.{DigitLemmas.{encode_lower_is}, ShownLemmas.{shows_last, shows_more, shows_none}}
use Rattle.x25_text.proofs.hexadecimal.write_few.Goals as goal

from_ok : {X E : Type 0} (r : Result X E) (P : Type 0) → OnOk r P → IsOk r → P
from_ok (Ok x) P h ok = h
from_ok (Err e) P h ok = cc ok

pub returns-then-count-lt4 : goal.returns-then-count-lt4
returns-then-count-lt4 c =
    from_ok _ _ c.encode_to_slice.ensures.written (c.encode_to_slice.ensures.fits.1 c.requires.length)
    ∙ encode_lower_is c.args.octets.now (λ i. omega (arith, c.type_inv.octets i))

pub returns : goal.returns
returns c =
    let size = length c.args.octets.now in
    let first = shows_more 0 4 c.args.octets.now c.args.digits.now c.write_four.new.digits (shows_none c.args.octets.now c.args.digits.now c.requires.length)
    c.write_four.ensures c.write_four.auto.digits in
    shows_last (size - 4) 4 4 c.args.octets.now c.write_four.new.digits c.write_four-2.new.digits first
    (omega (arith, c.requires.few)) (omega (arith, c.if-count-lt4.false)) (omega (arith, c.if-count-lt4.false)) c.write_four-2.ensures
    c.write_four-2.auto.digits
