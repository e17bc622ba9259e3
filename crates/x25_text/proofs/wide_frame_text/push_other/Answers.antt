use Rattle.std.{proofs.Common.{◌∙◌, ◌++◌, [], ap, append_assoc, codes, sym}, specs.Prelude.{unwrap_or}}
use Rattle.x25_text.{proofs.HeadLemmas.{headed}, specs.WideFrameText.{other_head, other_information_text}}
use Rattle.x25_text.proofs.wide_frame_text.push_other.Goals as goal

pub returns-then-push_other_head-clause-text : goal.returns-then-push_other_head-clause-text
returns-then-push_other_head-clause-text c =
    let old = c.args.text.now in
    let head = other_head c.args.command c.args.control in
    let front = unwrap_or head [] in
    let behind = other_information_text c.args.information.now in
    c.push.ensures.text
    ∙ ap (λ t. t ++ codes " ~ wide") (c.push_other_information.ensures.text ∙ ap (λ t. t ++ behind) c.push_other_head.ensures.text
    ∙ append_assoc old front behind)
    ∙ append_assoc old (front ++ behind) (codes " ~ wide")
    ∙ ap (λ t. old ++ t) (headed c.args.control c.args.information.now head (sym c.push_other_head.ensures.is ∙ c.if-push_other_head.true))
