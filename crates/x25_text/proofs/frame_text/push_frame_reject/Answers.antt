use Rattle.std.proofs.Common.{◌∙◌, ◌++◌, ap, append_assoc, codes, decimal}
use Rattle.x25_frame.specs.Spelling.{bit}
use Rattle.x25_text.specs.FrameText.{why_text}
use Rattle.x25_text.proofs.frame_text.push_frame_reject.Goals as goal

pub returns-clause-text : goal.returns-clause-text
returns-clause-text c =
    c.push_labelled.ensures.text
    ∙ ap (λ t. t ++ (codes " why=" ++ why_text c.args.why)) c.push_bit.ensures.text
    ∙ append_assoc c.args.text.now (codes "FRMR rsp F=" ++ decimal (bit c.args.f)) (codes " why=" ++ why_text c.args.why)
