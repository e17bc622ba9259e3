use Rattle.std.proofs.{Common.{◌∙◌, ◌+◌, sym, ap, take, Some}, lemmas.List.{take_rest}}
use Rattle.x25_script.proofs.FieldLemmas.{parts_found, no_parts}
use Rattle.x25_script.proofs.fields.split_blank.Goals as goal

pub returns-in-Some : goal.returns-in-Some
returns-in-Some c =
    let text = c.args.text.now in
    let at = c.in-Some.at in
    parts_found at text (sym c.in-Some.ensures) ∙ ap (λ rest. Some (take at text, rest)) (sym (take_rest text (at + 1)))

pub returns-in-None : goal.returns-in-None
returns-in-None c = no_parts c.args.text.now (sym c.in-None.ensures)
