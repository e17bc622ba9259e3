use Rattle.std.proofs.lemmas.Result.{MatchResult-weaker}
use Rattle.x25_io.proofs.ToldLemmas.{with_ok}
use Rattle.x25_bit_line.proofs.FramesLemmas.{all_written, part_written}
use Rattle.x25_bit_line.proofs.frame_sender.FrameSenderLineTaker.write_out.Goals as goal

pub returns-clause-on : goal.returns-clause-on
returns-clause-on g c = λ setting old lines input h.
    MatchResult-weaker c.flush.result (with_ok c.flush.result _ _ _ (c.flush.ensures.tells old h.sends.told h.sends.tells) c.flush.ensures.empty)
    (λ _ t. all_written old _ _ input c.args.self.now c.flush.new.self lines h c.flush.ensures.bits c.flush.ensures.wrong t.0 t.1)
    (λ _ b. part_written old _ _ input c.args.self.now lines h b)
