use Rattle.std.proofs.Common.{◌≡◌, ◌∙◌, ◌++◌, ◌≤◌, ap, sym, subst, take, append_assoc, arith}
use Rattle.x25_bits.specs.code.Fits.{Fits}
use Rattle.x25_bits.specs.code.Plain.{plains}
use Rattle.x25_bits.specs.code.Reading.{part}
use Rattle.x25_bits.specs.laws.Cuts.{found_more}
use Rattle.x25_bits.proofs.CallsLemmas.{more_of_both, taken_on}
use Rattle.x25_bits.proofs.harmless_bits.find.Goals as goal

pub loop-at-preserved : goal.loop-at-preserved
loop-at-preserved c =
    let bits = c.args.bits.now in
    let at = c.loop-at.at in
    let to = c.in_ok-at.at in
    let was = c.loop-at.invariant in
    let there = c.in_ok-at.ensures in
    let on : at ≤ to = omega (arith, there.moves) in
    let whole : take to bits ≡ take at bits ++ part at to bits = taken_on at to bits on in
    record {
      high = there.high;
      fits = λ before h.
          subst (Fits c.find_next.new.deframer) (append_assoc before (take at bits) (part at to bits) ∙ ap (λ l. before ++ l) (sym whole))
          (there.fits (before ++ take at bits) (was.fits before h));
      found = λ before h.
          there.found (before ++ take at bits) (was.fits before h)
          ∙ ap (λ l. l ++ found_more (before ++ take at bits) (part at to bits)) (was.found before h)
          ∙ append_assoc (plains c.args.found.now.items) (found_more before (take at bits)) (found_more (before ++ take at bits) (part at to bits))
          ∙ ap (λ l. plains c.args.found.now.items ++ l) (sym (more_of_both before (take at bits) (part at to bits)) ∙ ap (found_more before) (sym whole));
    }
