use Rattle.std.proofs.Common.{◌∙◌, ◌++◌, ◌∷◌, ap, append_assoc, subst}
use Rattle.x25_decode.specs.code.Stream.{LeadsFrom}
use Rattle.x25_decode.proofs.decoder.Decoder.take_found_line.Goals as goal

pub returns-clause-leads : goal.returns-clause-leads
returns-clause-leads c = λ old now rest all any h.
    let split = ap (λ l. l ++ rest) c.in-Some.ensures.parts.1 ∙ append_assoc c.in-Some.tail.now (10 ∷ c.in-Some.after.now) rest in
    c.close.ensures.leads old now (c.in-Some.after.now ++ rest) all any
    (subst (λ left. LeadsFrom old now c.args.self.now left all any) split h)
