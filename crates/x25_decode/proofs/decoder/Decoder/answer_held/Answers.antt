use Rattle.std.proofs.Common.{◌∙◌, ◌++◌, ap, sym, codes}
use Rattle.x25_decode.proofs.HeldLemmas.{long_answer, long_refused}
use Rattle.x25_decode.proofs.decoder.Decoder.answer_held.Goals as goal

pub returns-in-None-clause-text : goal.returns-in-None-clause-text
returns-in-None-clause-text c = λ begun h. c.push.ensures.text ∙ ap (λ t. t ++ codes "? 60\n") c.text-in-None.ensures.value
    ∙ ap (λ t. c.args.self.now.output ++ t) (sym (long_answer c.args.self.now.reading begun (c.in-None.ensures begun h)))

pub returns-in-None-clause-refused : goal.returns-in-None-clause-refused
returns-in-None-clause-refused c = λ begun h. sym (long_refused begun (c.in-None.ensures begun h))
