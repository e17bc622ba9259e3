use Rattle.std.proofs.{Common.{[], refl}, lemmas.Result.{err_from_is_err_and, MatchResult-weaker}}
use Rattle.x25_decode.proofs.StreamLemmas.{answered, ended, part_written, written}
use Rattle.x25_io.proofs.{LineLemmas.{ends_text}, ToldLemmas.{more_waits, with_ok}}
use Rattle.x25_decode.proofs.decoder.Decoder.finish.Goals as goal

pub returns-then-is_empty-clause-text : goal.returns-then-is_empty-clause-text
returns-then-is_empty-clause-text g c = λ old all any h.
    MatchResult-weaker c.flush.result (with_ok c.flush.result _ _ _ (c.flush.ensures.tells old h.told h.tells) c.flush.ensures.empty)
    (λ _ done. ended _ old _ _ _ _ all any (written _ old _ _ _ _ _ [] all any _ h done.0) ((c.is_empty.ensures h.begun h.holds).0 c.if-is_empty.true) done.1)
    (λ _ begins. part_written _ old _ _ _ _ _ [] all any h begins)

pub returns-in_err-make_room-clause-text : goal.returns-in_err-make_room-clause-text
returns-in_err-make_room-clause-text g c = λ old all any h.
    let p = err_from_is_err_and c.from_residual.result c.from_residual.ensures.1 in
    rw p.1 (part_written _ old _ _ _ _ _ [] all any h (c.in_err-make_room.ensures.tells old h.told h.tells))

pub returns-clause-text : goal.returns-clause-text
returns-clause-text g c = λ old all any h.
    let now = g.W.Sink.contents c.make_room.new.writer in
    let room = written _ old _ now _ _ _ [] all any _ h (c.in_ok-make_room.ensures.tells old h.told h.tells) in
    let last = answered _ old now now _ _ _ [] all any c.end_line.new.self.held _ _ h.begun [] room
    (ends_text h.begun h.is_open (λ none. let yes = (c.is_empty.ensures h.begun h.holds).1 none in let no_line = c.if-is_empty.false in cc))
    (more_waits old now _ _ room.told _ room.tells (c.end_line.ensures.text h.begun h.holds))
    (c.end_line.ensures.refused h.begun h.holds)
    c.end_line.ensures.cleared in
    MatchResult-weaker c.flush-2.result (with_ok c.flush-2.result _ _ _ (c.flush-2.ensures.tells old last.told last.tells) c.flush-2.ensures.empty)
    (λ _ done. ended _ old _ _ _ _ all any (written _ old _ _ _ _ _ [] all any _ last done.0) refl done.1)
    (λ _ begins. part_written _ old _ _ _ _ _ [] all any last begins)
