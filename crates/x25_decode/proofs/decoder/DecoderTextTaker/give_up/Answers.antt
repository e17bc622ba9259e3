use Rattle.std.proofs.Common.{subst}
use Rattle.x25_decode.{proofs.StreamLemmas.{ended_written, part_written, written}, specs.Decoding.{output_of}, specs.code.Stream.{WritesEnded}}
use Rattle.x25_io.proofs.ToldLemmas.{told_prefix}
use Rattle.x25_decode.proofs.decoder.DecoderTextTaker.give_up.Goals as goal

pub returns-in-Err-clause-part : goal.returns-in-Err-clause-part
returns-in-Err-clause-part g c = λ long old rest input h. part_written _ old _ _ _ _ _ rest _ _ h.1 (c.in-Err.ensures.tells old h.1.told h.1.tells)

pub returns-clause-part : goal.returns-clause-part
returns-clause-part g c = λ long old rest input h.
    part_written _ old _ _ _ _ _ rest _ _ h.1 (told_prefix old _ _ h.1.told (c.in_default.ensures.tells old h.1.told h.1.tells))

pub returns-clause-lines : goal.returns-clause-lines
returns-clause-lines g c = λ long old rest input h read.
    let all = written _ old _ _ _ _ _ rest _ _ _ h.1 (c.in_default.ensures.tells old h.1.told h.1.tells) in
    subst (λ l. WritesEnded l old (g.W.Sink.contents c.flush.new.writer) rest (output_of long input)) h.0
    (ended_written _ old _ old _ _ _ rest _ _ all c.in_default.ensures.empty)
