use Rattle.std.proofs.Common.{◌∙◌, [], false, Err, ap, refl}
use Rattle.std.proofs.lemmas.Result.{err_from_is_err_and}
use Rattle.x25_io.proofs.RunLemmas.{none_ran, ran_on, stopped}
use Rattle.x25_io.specs.Loose.{asked_text}
use Rattle.x25_station.specs.Config.{settings_from}
use Rattle.x25_station.specs.Station.{new_station}
use Rattle.x25_pipe.specs.code.Stream.{program}
use Rattle.x25_pipe.proofs.PipeLemmas.{input_begins, mark_failed, stands_first}
use Rattle.x25_pipe.proofs.running.station.Goals as goal

pub returns-in_err-piece : goal.returns-in_err-piece
returns-in_err-piece g c =
    none_ran g.R.Source g.W.Sink (program (settings_from c.args.end c.args.cfg) c.args.loose) c.args.reader.now c.args.writer.now c.from_residual.result
    c.from_residual.ensures.1

pub returns-in_err-held : goal.returns-in_err-held
returns-in_err-held g c =
    none_ran g.R.Source g.W.Sink (program (settings_from c.args.end c.args.cfg) c.args.loose) c.args.reader.now c.args.writer.now c.from_residual-in_err-held.result
    c.from_residual-in_err-held.ensures.1

pub returns-in_err-pipe : goal.returns-in_err-pipe
returns-in_err-pipe g c =
    let p = err_from_is_err_and c.from_residual-in_err-pipe.result c.from_residual-in_err-pipe.ensures.1 in
    rw p.1 (none_ran g.R.Source g.W.Sink (program (settings_from c.args.end c.args.cfg) c.args.loose) c.args.reader.now c.args.writer.now (Err p.0)
    (p.2 ∙ c.in_err-pipe.ensures.memory))

pub returns-in-Err : goal.returns-in-Err
returns-in-Err g c =
    let k = settings_from c.args.end c.args.cfg in
    let written = g.W.Sink.contents c.args.writer.now in
    let first = c.in_ok-pipe.ensures in
    stopped g.R.Source g.W.Sink (program k c.args.loose) c.args.reader.now c.args.writer.now c.mark_standing.new.writer c.in-Err.fault (Err c.in-Err.fault) refl
    c.in-Err.ensures.faults
    (λ input. mark_failed k written (g.W.Sink.contents c.mark_standing.new.writer) c.mark_standing.new.self (asked_text c.args.loose input)
    (c.in-Err.ensures.turns k written new_station [] false (stands_first k written c.in_ok-pipe.pipe first.fits first.role first.empty first.is_refused)))

pub returns : goal.returns
returns g c =
    let k = settings_from c.args.end c.args.cfg in
    let written = g.W.Sink.contents c.args.writer.now in
    let first = c.in_ok-pipe.ensures in
    ran_on g.R.Source g.W.Sink (program k c.args.loose) c.args.reader.now c.args.writer.now c.take_text.new.writer c.take_text.new.reader c.mark_standing.new.writer
    c.take_text.result
    c.in_default.ensures.faults.kept c.take_text.ensures.zero_or_one
    (c.take_text.ensures.answers (c.args.loose, k) written
    (λ input. input_begins k written (g.W.Sink.contents c.mark_standing.new.writer) c.mark_standing.new.self c.new-lines.result.taker.taker.pipe
    c.args.loose c.new-lines.result.taker.loose input c.new-lines.result.held c.in_ok-held.held c.new-lines.ensures.held
    (ap (λ l. l.loose) c.new-lines.ensures.taker ∙ c.new-read.ensures.loose)
    (ap (λ l. l.taker.pipe) c.new-lines.ensures.taker ∙ ap (λ a. a.pipe) c.new-read.ensures.taker ∙ c.new-answerer.ensures) c.in_ok-held.ensures
    (c.in_default.ensures.turns k written new_station [] false (stands_first k written c.in_ok-pipe.pipe first.fits first.role first.empty first.is_refused))))
    c.take_text.ensures.marks
