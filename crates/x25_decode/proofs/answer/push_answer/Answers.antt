use Rattle.std.proofs.Common.{◌∙◌, ◌++◌, ap, append_assoc, codes}
use Rattle.x25_decode.specs.Decoding.{mark_of, line_text}
use Rattle.x25_decode.proofs.answer.push_answer.Goals as goal

pub returns : goal.returns
returns c =
    let old = c.args.text.now in
    let from = c.args.from in
    let line = line_text c.args.reading from c.args.octets.now in
    c.push-2.ensures.text
    ∙ ap (λ t. t ++ codes "\n") (c.push_line.ensures.text ∙ ap (λ t. t ++ line) (c.push.ensures.text ∙ ap (λ m. old ++ m) c.mark.ensures.mark))
    ∙ ap (λ t. t ++ codes "\n") (append_assoc old (mark_of from) line)
    ∙ append_assoc old (mark_of from ++ line) (codes "\n")
