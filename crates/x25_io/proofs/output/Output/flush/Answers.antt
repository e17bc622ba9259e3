use Rattle.std.{proofs.Common.{◌∙◌, subst}, proofs.lemmas.Result.{err_from_is_err_and}, specs.Io.KnownBytes.{Appends}}
use Rattle.x25_io.{proofs.ToldLemmas.{all_written, part_written}, specs.code.Written.{AppendsPrefix}}
use Rattle.x25_io.proofs.output.Output.flush.Goals as goal

pub returns-in_err-write_all-clause-tells : goal.returns-in_err-write_all-clause-tells
returns-in_err-write_all-clause-tells g c = λ old told h.
    let p = err_from_is_err_and c.from_residual.result c.from_residual.ensures.1 in
    rw p.1
    (part_written old _ _ _ told h
    (subst (AppendsPrefix (g.W.Sink.contents c.args.writer.now) (g.W.Sink.contents c.write_all.new.writer)) (c.as_slice.ensures ∙ c.self.view_is)
    c.in_err-write_all.ensures.err))

pub returns-clause-tells : goal.returns-clause-tells
returns-clause-tells g c = λ old told h.
    all_written old _ _ _ _ told h
    (subst (Appends (g.W.Sink.contents c.args.writer.now) (g.W.Sink.contents c.write_all.new.writer)) (c.as_slice.ensures ∙ c.self.view_is)
    c.in_ok-write_all.ensures.ok) c.clear.ensures
