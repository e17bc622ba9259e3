use Rattle.std.proofs.Common.{◌∙◌, ◌++◌, ap, sym}
use Rattle.x25_text.proofs.text.Text.push_digit.Goals as goal

pub returns-clause-text : goal.returns-clause-text
returns-clause-text c = c.push.ensures.text ∙ ap (λ t. c.args.self.now ++ t) (sym c.digit.ensures)
