use Rattle.std.proofs.{Common.{◌≡◌, ◌≤◌, ◌∙◌, sym, length, get_or}, lemmas.Bool.{eqb-true}}
use Rattle.x25_script.proofs.NumberLemmas.{no_number_behind_zero, no_number_of_more, no_number_of_none, no_number_of_others, number_valued, some_characters}
use Rattle.x25_script.proofs.fields.number.Goals.{else-text-gt1-via-then-text-gt1+else-text-eq48, else-text-gt1-via-else-text-gt1}
use Rattle.x25_script.proofs.fields.number.Goals as goal

pub returns-then-is_empty : goal.returns-then-is_empty
returns-then-is_empty c = sym (no_number_of_none c.args.text.now (eqb-true (length c.args.text.now) 0 (sym c.is_empty.ensures ∙ c.if-is_empty.true)))

pub returns-then-text-gt5 : goal.returns-then-text-gt5
returns-then-text-gt5 c = sym (no_number_of_more c.args.text.now c.if-text-gt5.true)

pub returns-then-text-eq48 : goal.returns-then-text-eq48
returns-then-text-eq48 c = sym (no_number_behind_zero c.args.text.now c.if-text-gt1.true c.if-text-eq48.true)

pub returns-in-None : goal.returns-in-None
returns-in-None c = sym (no_number_of_others c.args.text.now c.in-None.ensures)

pub returns-in-Some : goal.returns-in-Some
returns-in-Some c =
    let text = c.args.text.now in
    let first : get_or text 0 0 ≡ 48 → length text ≤ 1 = elim c.else-text-gt1.branch [
      | else-text-gt1-via-then-text-gt1+else-text-eq48 w ↦ λ e. absurd (w.if-text-eq48.false e)
      | else-text-gt1-via-else-text-gt1 w ↦ λ e. w.if-text-gt1.false
    ] in
    c.sixteen_bits.ensures
    ∙ number_valued text c.in-Some.value (some_characters (length text) (sym c.is_empty.ensures ∙ c.if-is_empty.false)) first c.in-Some.ensures.0
    c.in-Some.ensures.1
