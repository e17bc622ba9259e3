use Rattle.std.proofs.Common.{◌∙◌, Err, ap, refl}
use Rattle.std.proofs.lemmas.Result.{err_from_is_err_and}
use Rattle.x25_io.proofs.RunLemmas.{none_ran, ran_on, stopped}
use Rattle.x25_io.proofs.ToldLemmas.{none_told}
use Rattle.x25_io.specs.Loose.{asked_text}
use Rattle.x25_sim.specs.code.Stream.{program}
use Rattle.x25_sim.proofs.SimLemmas.{opening_failed, script_begins}
use Rattle.x25_sim.proofs.running.play.Goals as goal

pub returns-in_err-piece : goal.returns-in_err-piece
returns-in_err-piece g c =
    let p = err_from_is_err_and c.from_residual.result c.from_residual.ensures.1 in
    rw p.1 (none_ran g.R.Source g.W.Sink (program c.args.cfg c.args.down c.args.shown c.args.loose) c.args.reader.now c.args.writer.now (Err p.0)
    (p.2 ∙ c.in_err-piece.ensures.memory))

pub returns-in-Err : goal.returns-in-Err
returns-in-Err g c =
    let first = c.in_ok-piece.ensures in
    let stage = c.in_ok-piece.stage in
    let written = g.W.Sink.contents c.args.writer.now in
    stopped g.R.Source g.W.Sink (program c.args.cfg c.args.down c.args.shown c.args.loose) c.args.reader.now c.args.writer.now c.open.new.writer c.in-Err.fault
    (Err c.in-Err.fault) refl c.in-Err.ensures.faults
    (λ script. opening_failed c.args.cfg c.args.down c.args.shown stage.shown first.shown written (g.W.Sink.contents c.open.new.writer) c.open.new.self
    (asked_text c.args.loose script)
    (c.in-Err.ensures.stood c.args.cfg c.args.down written first.opening first.is_refused (none_told written stage.output first.empty)))

pub returns : goal.returns
returns g c =
    let first = c.in_ok-piece.ensures in
    let stage = c.in_ok-piece.stage in
    let written = g.W.Sink.contents c.args.writer.now in
    ran_on g.R.Source g.W.Sink (program c.args.cfg c.args.down c.args.shown c.args.loose) c.args.reader.now c.args.writer.now c.take_text.new.writer
    c.take_text.new.reader c.open.new.writer c.take_text.result
    c.in_default.ensures.faults.kept c.take_text.ensures.zero_or_one
    (c.take_text.ensures.answers (c.args.loose, record { cfg = c.args.cfg; down = c.args.down; shown = c.args.shown }) written
    (λ script. script_begins c.args.cfg c.args.down c.args.shown stage.shown first.shown written (g.W.Sink.contents c.open.new.writer) c.open.new.self
    c.args.loose script
    c.new-lines.result.taker.loose c.new-lines.result.taker.taker c.new-simulator.result c.new-lines.result.held c.in_ok-piece.held
    c.new-lines.ensures.held (ap (λ l. l.loose) c.new-lines.ensures.taker ∙ c.new-read.ensures.loose)
    (ap (λ l. l.taker) c.new-lines.ensures.taker ∙ c.new-read.ensures.taker)
    c.new-simulator.ensures first.held
    (c.in_default.ensures.stood c.args.cfg c.args.down written first.opening first.is_refused (none_told written stage.output first.empty))))
    c.take_text.ensures.marks
