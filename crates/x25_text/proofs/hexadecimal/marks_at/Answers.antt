use Rattle.x25_text.proofs.hexadecimal.marks_at.Goals as goal

pub returns : goal.returns
returns c = c.marks.ensures
