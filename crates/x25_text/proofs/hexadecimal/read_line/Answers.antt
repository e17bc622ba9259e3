use Rattle.std.proofs.Common.{◌≡◌, ◌≤◌, ◌∙◌, ◌+◌, ◌-◌, ◌*◌, ◌/◌, Some, ap, arith, drop, length, slice_index, subst, take}
use Rattle.std.proofs.lemmas.{List.{length-drop, length-take-le}, List.Sums.{prefix_len-le-length}, Option.{IfSome_then}}
use Rattle.std.specs.{Char.{is_ascii_hexdigit}, List.{prefix_len}}
use Rattle.x25_text.proofs.{BlockLemmas.{Reads, reads_none}, LineLemmas.{IfSome_both, digits_on, reads_on}, PairLemmas.{decode_read}}
use Rattle.x25_text.specs.Hexadecimal.{octets_of}
use Rattle.x25_text.proofs.hexadecimal.read_line.Goals as goal

pub loop-eight-init : goal.loop-eight-init
loop-eight-init c = (reads_none c.args.text.now c.args.octets.now, omega arith)

pub loop-eight-preserved : goal.loop-eight-preserved
loop-eight-preserved c =
    let size = length c.args.octets.now in
    let on : 8 * c.loop-eight.eight + 8 ≡ 8 * (c.loop-eight.eight + 1) = omega arith in
    let within : 2 * (8 * c.loop-eight.eight + 8) ≤ length c.args.text.now =
    omega (arith, c.loop-eight-test.true, c.loop-eight.auto.eight-end, c.blocks-eight-end.ensures.characters) in
    let all : 2 * 8 ≤ c.read_leading-more.result = omega (arith, c.if-more-lt16.false) in
    let block = take 16 (drop (2 * (8 * c.loop-eight.eight)) c.args.text.now) in
    let full : prefix_len is_ascii_hexdigit block ≡ 16 = omega (
      arith,
      all,
      c.read_leading-more.ensures.digits,
      prefix_len-le-length is_ascii_hexdigit block,
      length-take-le 16 (drop (2 * (8 * c.loop-eight.eight)) c.args.text.now)
          (omega (arith, within, length-drop (2 * (8 * c.loop-eight.eight)) c.args.text.now)),
    ) in (
      subst (λ n. Reads size n c.args.text.now c.read_leading-more.new.octets) on
          (reads_on size (8 * c.loop-eight.eight) 8 c.args.text.now c.loop-eight.octets c.read_leading-more.new.octets c.loop-eight.invariant.0 within
          (c.read_leading-more.ensures.octets 8 all) c.read_leading-more.ensures.before
          (omega (arith, c.read_leading-more.auto.octets, c.loop-eight.invariant.0.long))),
      omega (
        arith,
        (digits_on is_ascii_hexdigit (2 * (8 * c.loop-eight.eight)) 16 c.args.text.now (omega (arith, c.loop-eight.invariant.1))
            (omega (arith, within))).0 full,
      ),
    )

pub returns-then-more-lt16-clause-room : goal.returns-then-more-lt16-clause-room
returns-then-more-lt16-clause-room c = IfSome_then c.octets_before.result c.octets_before.ensures.count (λ n h.
    let long = c.read_leading-more.auto.octets in
    omega (
      arith,
      h,
      c.if-more-lt16.true,
      c.loop-eight-test.true,
      c.loop-eight.auto.eight-end,
      c.blocks-eight-end.ensures.room,
      long,
      c.loop-eight.invariant.0.long,
    ))

pub returns-then-more-lt16-clause-end : goal.returns-then-more-lt16-clause-end
returns-then-more-lt16-clause-end c = IfSome_both c.octets_before.result c.octets_before.ensures.count c.octets_before.ensures.end (λ n h feed. (
  omega (arith, h, c.if-more-lt16.true, c.loop-eight-test.true, c.loop-eight.auto.eight-end, c.blocks-eight-end.ensures.characters),
  ap (slice_index c.args.text.now) h ∙ feed,
))

pub returns-then-more-lt16-clause-octets : goal.returns-then-more-lt16-clause-octets
returns-then-more-lt16-clause-octets c = IfSome_then c.octets_before.result c.octets_before.ensures.count (λ n h.
    let size = length c.args.octets.now in
    let place = 8 * c.loop-eight.eight in
    let text = c.args.text.now in
    let next = c.read_leading-more.new.octets in
    let within : 2 * (place + (n - place)) ≤ length text =
    omega (arith, h, c.if-more-lt16.true, c.loop-eight-test.true, c.loop-eight.auto.eight-end, c.blocks-eight-end.ensures.characters) in
    let sum : place + (n - place) ≡ n = omega (arith, h) in
    let some : 2 * (n - place) ≤ c.read_leading-more.result = omega (arith, h) in
    decode_read (take (2 * n) text) n (length-take-le (2 * n) text (omega (arith, within, sum)))
    ∙ subst (λ m. octets_of (take (2 * m) text) ≡ Some (take m next)) sum
    (reads_on size place (n - place) text c.loop-eight.octets next c.loop-eight.invariant.0 within
    (c.read_leading-more.ensures.octets (n - place) some) c.read_leading-more.ensures.before
    (omega (arith, c.read_leading-more.auto.octets, c.loop-eight.invariant.0.long))).same)

pub returns-then-more-lt16-clause-found : goal.returns-then-more-lt16-clause-found
returns-then-more-lt16-clause-found c = λ count digits feed characters room.
    let text = c.args.text.now in
    let place = 2 * (8 * c.loop-eight.eight) in
    let within : place + 16 ≤ length text = omega (arith, c.loop-eight-test.true, c.loop-eight.auto.eight-end, c.blocks-eight-end.ensures.characters) in
    let ends = (digits_on is_ascii_hexdigit place 16 text (omega (arith, c.loop-eight.invariant.1)) within).1
    (omega (arith, c.if-more-lt16.true, c.read_leading-more.ensures.digits)) in
    c.octets_before.ensures.found count (omega (arith, ends, digits, c.read_leading-more.ensures.digits)) feed

-- behind all blocks that can be read there is no such line
pub returns-clause-found : goal.returns-clause-found
returns-clause-found c = λ count digits feed characters room.
    let few = c.blocks-eight-end.ensures.most (count / 8 + 1) (omega (arith, characters)) (omega (arith, room)) in
    absurd (omega (arith, few, digits, c.loop-eight.invariant.1, c.loop-eight-test.false, c.loop-eight.auto.eight-end))
