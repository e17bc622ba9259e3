use Rattle.std.proofs.{Common.{◌∙◌, ◌++◌, ap, length, sym}, lemmas.List.{take_rest}}
use Rattle.x25_script.proofs.PartLemmas.{begun, not_begun}
use Rattle.x25_script.proofs.fields.behind.Goals as goal

pub returns-then-begins_with : goal.returns-then-begins_with
returns-then-begins_with c =
    let text = c.args.text.now in
    let word = c.args.word.now in
    begun text word (sym c.begins_with.ensures.value ∙ c.if-begins_with.true)
    ∙ ap (λ rest. word ++ rest) (sym (take_rest text (length word)))

pub returns-else-begins_with : goal.returns-else-begins_with
returns-else-begins_with c =
    not_begun c.args.text.now c.args.word.now (sym c.begins_with.ensures.value ∙ c.if-begins_with.false)
