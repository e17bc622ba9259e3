use Rattle.std.proofs.Common.{◌∙◌, [], false, Err, ap, refl}
use Rattle.std.proofs.lemmas.Result.{err_from_is_err_and}
use Rattle.x25_io.proofs.RunLemmas.{none_ran, ran_on, stopped}
use Rattle.x25_io.specs.Loose.{asked_text}
use Rattle.x25_station.specs.Config.{settings_from}
use Rattle.x25_pipe.specs.Timed.{new_timed}
use Rattle.x25_pipe.specs.code.TimedStream.{timed_program}
use Rattle.x25_pipe.proofs.TimedLemmas.{input_begins, mark_failed, stands_first_timed}
use Rattle.x25_pipe.proofs.running.timed_station.Goals as goal

pub returns-in_err-piece : goal.returns-in_err-piece
returns-in_err-piece g c =
    none_ran g.R.Source g.W.Sink (timed_program (settings_from c.args.end c.args.cfg) c.args.times c.args.loose) c.args.reader.now c.args.writer.now c.from_residual.result
    c.from_residual.ensures.1

pub returns-in_err-held : goal.returns-in_err-held
returns-in_err-held g c =
    none_ran g.R.Source g.W.Sink (timed_program (settings_from c.args.end c.args.cfg) c.args.times c.args.loose) c.args.reader.now c.args.writer.now
    c.from_residual-in_err-held.result c.from_residual-in_err-held.ensures.1

pub returns-in_err-pipe : goal.returns-in_err-pipe
returns-in_err-pipe g c =
    let p = err_from_is_err_and c.from_residual-in_err-pipe.result c.from_residual-in_err-pipe.ensures.1 in
    rw p.1 (none_ran g.R.Source g.W.Sink (timed_program (settings_from c.args.end c.args.cfg) c.args.times c.args.loose) c.args.reader.now c.args.writer.now (Err p.0)
    (p.2 ∙ c.in_err-pipe.ensures.memory))

pub returns-in-Err : goal.returns-in-Err
returns-in-Err g c =
    let k = settings_from c.args.end c.args.cfg in
    let times = c.args.times in
    let written = g.W.Sink.contents c.args.writer.now in
    let first = c.in_ok-pipe.ensures in
    let q = c.in_ok-pipe.pipe in
    stopped g.R.Source g.W.Sink (timed_program k times c.args.loose) c.args.reader.now c.args.writer.now c.mark.new.writer c.in-Err.fault (Err c.in-Err.fault) refl
    c.in-Err.ensures.faults
    (λ input. mark_failed k times written (g.W.Sink.contents c.mark.new.writer) c.mark.new.self (asked_text c.args.loose input)
    (c.in-Err.ensures.turns k times written (new_timed k) [] false
    (stands_first_timed k times written q first.fits first.role first.empty first.is_refused first.clock first.times first.channels first.now)))

pub returns : goal.returns
returns g c =
    let k = settings_from c.args.end c.args.cfg in
    let times = c.args.times in
    let written = g.W.Sink.contents c.args.writer.now in
    let first = c.in_ok-pipe.ensures in
    let q = c.in_ok-pipe.pipe in
    ran_on g.R.Source g.W.Sink (timed_program k times c.args.loose) c.args.reader.now c.args.writer.now c.take_text.new.writer c.take_text.new.reader c.mark.new.writer
    c.take_text.result
    c.in_default.ensures.faults.kept c.take_text.ensures.zero_or_one
    (c.take_text.ensures.answers (c.args.loose, (k, times)) written
    (λ input. input_begins k times written (g.W.Sink.contents c.mark.new.writer) c.mark.new.self c.new-lines.result.taker.taker.timed
    c.args.loose c.new-lines.result.taker.loose input c.new-lines.result.held c.in_ok-held.held c.new-lines.ensures.held
    (ap (λ l. l.loose) c.new-lines.ensures.taker ∙ c.new-read.ensures.loose)
    (ap (λ l. l.taker.timed) c.new-lines.ensures.taker ∙ ap (λ a. a.timed) c.new-read.ensures.taker ∙ c.new-answerer.ensures) c.in_ok-held.ensures
    (c.in_default.ensures.turns k times written (new_timed k) [] false
    (stands_first_timed k times written q first.fits first.role first.empty first.is_refused first.clock first.times first.channels first.now))))
    c.take_text.ensures.marks
