use Rattle.std.proofs.Common.{◌≡◌, ◌/◌, ◌∙◌, ap, get_or, rules, sym}
use Rattle.std.specs.Prelude.{◌&&◌}
use Rattle.std.specs.List.{list_all}
use Rattle.std.proofs.lemmas.List.{take_all}
use Rattle.std.proofs.lemmas.List.Folds.{list_all_more}
use Rattle.x25_packet.specs.Digits.{is_pair}
use Rattle.x25_packet.proofs.DigitLemmas.{digits_held, none_held}
use Rattle.x25_packet.proofs.digits.hold_digits.Goals as goal

pub loop-octet-preserved : goal.loop-octet-preserved
loop-octet-preserved c =
    let octets = c.args.octets.now in
    let place = c.loop-octet.octet-index in
    ap (λ so_far. so_far && is_pair (get_or octets place 0)) c.loop-octet.invariant
    ∙ sym (list_all_more is_pair octets place 0 c.loop-octet-test.true)

pub returns-then-not-are_digits : goal.returns-then-not-are_digits
returns-then-not-are_digits c =
    let octets = c.args.octets.now in
    none_held c.args.count octets c.loop-octet.are_digits
    (c.loop-octet.invariant ∙ ap (list_all is_pair) (take_all c.loop-octet.octet-index octets c.loop-octet-test.false))
    c.if-not-are_digits.true

pub returns : goal.returns
returns c =
    let octets = c.args.octets.now in
    let last : c.unwrap_or.result ≡ get_or octets (c.args.count / 2) 0 = search rules in
    digits_held c.args.count octets c.loop-octet.are_digits c.unwrap_or.result
    (c.loop-octet.invariant ∙ ap (list_all is_pair) (take_all c.loop-octet.octet-index octets c.loop-octet-test.false))
    c.if-not-are_digits.false c.requires last
