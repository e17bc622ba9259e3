use Rattle.std.{proofs.Common.{ℕ, ◌≡◌, ◌∙◌, ◌<◌, ◌-◌, Bool, true, false, List, Option, Some, None, arith, get_or, length, sym}, specs.Prelude.{if◌then◌else◌}}
use Rattle.x25_text.proofs.{BlockLemmas.{reads_last, reads_more, reads_none}, LaneLemmas.{block_read}, TestedLemmas.{digits_tested}}
use Rattle.x25_text.specs.Hexadecimal.{octets_of}
use Rattle.x25_text.proofs.hexadecimal.read_few_digits.Goals as goal

all_read : (read : Option (List ℕ)) (all : Bool) (octets there : List ℕ) → read ≡ (if all then Some octets else None) → read ≡ Some there → read ≡ Some octets
all_read read true octets there e some = e
all_read read false octets there e some = let lost : Some there ≡ None = sym some ∙ e in absurd (cc)

pub returns-then-count-lt8 : goal.returns-then-count-lt8
returns-then-count-lt8 c =
    let size = length c.args.octets.now in
    let digits = c.args.digits.now in
    let fits : (i : ℕ) → get_or digits i 0 < 256 = λ i. omega (arith, c.type_inv.digits i) in
    all_read (octets_of digits) c.read_pairs.result c.read_pairs.new.octets _ c.read_pairs.ensures
    (block_read size digits c.requires.length fits (digits_tested digits fits ∙ c.requires.digits))

pub returns : goal.returns
returns c =
    let size = length c.args.octets.now in
    let digits = c.args.digits.now in
    let first = reads_more size 0 8 digits c.args.octets.now c.read_eight_digits.new.octets (reads_none digits c.args.octets.now) c.requires.length
    (omega (arith, c.if-count-lt8.false)) c.read_eight_digits.ensures.octets c.read_eight_digits.ensures.before c.read_eight_digits.auto.octets in
    reads_last size 8 (size - 8) 8 digits c.read_eight_digits.new.octets c.read_eight_digits-2.new.octets true first c.requires.length
    (omega (arith, c.requires.few)) (omega (arith, c.if-count-lt8.false)) (omega (arith, c.if-count-lt8.false))
    c.read_eight_digits-2.ensures.octets c.read_eight_digits-2.ensures.before
    (omega (arith, c.read_eight_digits-2.auto.octets, c.read_eight_digits.auto.octets))
