use Rattle.std.{proofs.Common.{◌≡◌, ◌<◌, ◌≤◌, List, ℕ, length, subst}, proofs.lemmas.Result.{MatchResult-weaker}, specs.Prelude.{MatchOption}}
use Rattle.x25_io.{proofs.LooseLemmas.{long_asked, one_asked}, specs.HeldLine.{most_line}, specs.Loose.{asked_lines, asked_text}}
use Rattle.x25_io.proofs.loose.LooselyLineTaker.take_line.Goals as goal

-- a line that is too long is handed on
pub returns-in_default-clause-on : goal.returns-in_default-clause-on
returns-in_default-clause-on g c = λ setting old first lines text line h.
    let long = subst (λ o. MatchOption o (most_line < length first) (λ held. (held.now ≡ first) × (length first ≤ most_line))) c.in_default.is line in
    let read = asked_text setting.0 text in
    let begun = subst (λ (ls : List (List ℕ)). g.T.LineTaker.stands setting.1 c.args.self.now.taker old (g.W.Sink.contents c.args.writer.now) ls read)
    (one_asked setting.0 first first lines (long_asked setting.0 first long)) h.1 in
    MatchResult-weaker c.take_line.result (c.take_line.ensures.on setting.1 old first (asked_lines setting.0 lines) read long begun)
    (λ _ stands. (h.0, stands))
    (λ _ begins. begins)
