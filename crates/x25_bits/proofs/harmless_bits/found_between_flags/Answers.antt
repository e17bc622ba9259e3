use Rattle.std.proofs.Common.{◌∙◌, ap, Bool, List, ◌++◌, []}
use Rattle.x25_bits.specs.Deframer.{flag}
use Rattle.x25_bits.specs.code.Plain.{plains}
use Rattle.x25_bits.proofs.HarmlessLemmas.{found_thrice}
use Rattle.x25_bits.proofs.harmless_bits.found_between_flags.Goals as goal

pub returns : goal.returns
returns c =
    let ends = c.put_flag.new.bits in
    let bits = c.args.bits.now in
    let begun = c.in_ok-find.ensures.fits [] c.in_ok-deframer.ensures in
    let grown = c.in_ok-find-2.ensures.fits ends begun in
    found_thrice ends bits (plains c.new-found.result.items) (plains c.find.new.found.items) (plains c.find-2.new.found.items)
    (plains c.find-3.new.found.items) (c.in_ok-put_flag.ensures.ok ∙ ap (λ (l : List Bool). l ++ flag) c.new-ends.ensures)
    (ap plains c.new-found.ensures.items)
    (c.in_ok-find.ensures.found [] c.in_ok-deframer.ensures)
    (c.in_ok-find-2.ensures.found ends begun)
    (c.in_ok-find-3.ensures.found (ends ++ bits) grown)
