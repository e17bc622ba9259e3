use Rattle.std.proofs.Common.{◌≡◌, refl, subst, IfSome, Option, Some, None}
use Rattle.x25_script.{proofs.AgainLemmas.{line_again}, proofs.GrammarLemmas.{line_found}, specs.Reading.{line_in}, specs.Reading.Spelling.{Spells}}
use Rattle.x25_script.specs.ScriptLine.{PlainLine}
use Rattle.x25_script.proofs.reading.read_line.Goals as goal

pub returns-clause-found : goal.returns-clause-found
returns-clause-found g c =
    let line = c.args.line.now in
    let spelled : IfSome (line_in line) (λ v. Spells v line) = go (line_in line) refl in
    (line_in line, c.read.ensures, spelled)
  where
    go : (asked : Option PlainLine) → line_in c.args.line.now ≡ asked → IfSome asked (λ v. Spells v c.args.line.now)
    go (Some v) e = line_found c.args.line.now v e
    go None e = tt

pub returns-clause-only : goal.returns-clause-only
returns-clause-only g c = λ v spells.
    subst (g.T.ScriptTaker.gives c.args.taker.now c.args.with.now c.read.new.taker c.read.new.with c.read.result) (line_again v c.args.line.now spells)
    c.read.ensures
