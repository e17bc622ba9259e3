use Rattle.std.proofs.Common.{◌≡◌, ◌∙◌, ◌<◌, ◌≤◌, length, ap, subst}
use Rattle.std.specs.Prelude.{MatchOption}
use Rattle.x25_io.specs.HeldLine.{most_line}
use Rattle.x25_pipe.specs.Timed.{time_in}
use Rattle.x25_pipe.proofs.MomentLemmas.{time_held, time_long}
use Rattle.x25_pipe.proofs.timed.time_said_in.Goals as goal

pub returns-in-Some : goal.returns-in-Some
returns-in-Some c = λ text line.
    let is = subst (λ o. MatchOption o (most_line < length text) (λ held. (held.now ≡ text) × (length text ≤ most_line))) c.in-Some.is line in
    c.time_of.ensures ∙ ap time_in is.0 ∙ time_held text is.1

pub returns-in-None : goal.returns-in-None
returns-in-None c = λ text line.
    time_long text (subst (λ o. MatchOption o (most_line < length text) (λ held. (held.now ≡ text) × (length text ≤ most_line))) c.in-None.is line)
