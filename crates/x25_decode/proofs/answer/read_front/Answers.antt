use Rattle.std.proofs.{Common.{◌≡◌, ◌≤◌, ◌-◌, Some, arith, drop, length, length-drop, rules, slice_index, take}, lemmas.List.{take_all}}
use Rattle.x25_decode.{proofs.FrontLemmas.{line_left}, specs.Decoding.{sender_of}}
use Rattle.x25_decode.proofs.answer.read_front.Goals as goal

pub returns-in-Some-read_line-clause-line : goal.returns-in-Some-read_line-clause-line
returns-in-Some-read_line-clause-line c =
    let left = c.args.left.now in
    let count = c.in-Some-read_line.count in
    let digits : take (length left - 2) (drop 2 left) ≡ drop 2 left = take_all (length left - 2) (drop 2 left) (omega (arith, length-drop 2 left)) in
    let long : 2 ≤ length left = search rules in
    let space : slice_index left 1 ≡ 32 = search rules in
    let marked : sender_of (slice_index left 0) ≡ Some c.in-Some.from = search rules in
    let few : count ≤ 4103 = search rules in
    (line_left left _ count _ c.in-Some.from digits long space marked few c.in-Some-read_line.ensures.end c.in-Some-read_line.ensures.octets).0

pub returns-in-Some-read_line-clause-sent : goal.returns-in-Some-read_line-clause-sent
returns-in-Some-read_line-clause-sent c =
    let left = c.args.left.now in
    let count = c.in-Some-read_line.count in
    let digits : take (length left - 2) (drop 2 left) ≡ drop 2 left = take_all (length left - 2) (drop 2 left) (omega (arith, length-drop 2 left)) in
    let long : 2 ≤ length left = search rules in
    let space : slice_index left 1 ≡ 32 = search rules in
    let marked : sender_of (slice_index left 0) ≡ Some c.in-Some.from = search rules in
    let few : count ≤ 4103 = search rules in
    (line_left left _ count _ c.in-Some.from digits long space marked few c.in-Some-read_line.ensures.end c.in-Some-read_line.ensures.octets).1
