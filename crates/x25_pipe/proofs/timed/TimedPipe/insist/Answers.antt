use Rattle.std.proofs.Common.{◌≡◌, ◌∙◌, ◌++◌, ℕ, false, ap, ap₂, sym, subst}
use Rattle.std.specs.Prelude.{◌||◌}
use Rattle.std.proofs.Math.Bool.{or-false}
use Rattle.std.proofs.lemmas.Result.{err_from_is_err_and}
use Rattle.x25_bits.specs.declared.role.Role.{Role}
use Rattle.x25_circuit.specs.declared.awaits.Awaits.{Awaits}
use Rattle.x25_clock.specs.declared.due.Due.{Due}
use Rattle.x25_clock.specs.Due.{asked_of, event_for}
use Rattle.x25_io.specs.code.Written.{AppendsPrefix, Tells}
use Rattle.x25_layer.specs.code.FitsLayer.{awaited_at}
use Rattle.x25_station.specs.Config.{Settings, layer_settings}
use Rattle.x25_station.specs.Station.{Station}
use Rattle.x25_pipe.specs.Pipe.{event_act}
use Rattle.x25_pipe.specs.Timed.{Timed, act_turn, awaited_for, channel_for, timeout_line, writes}
use Rattle.x25_pipe.proofs.TimedLemmas.{begins_before, begins_behind, stands_behind}
use Rattle.x25_pipe.proofs.timed.TimedPipe.insist.Goals as goal

-- the line that is told is that of the definition
line_is : (k : Settings) (s : Station) (end : Role) (awaits : Awaits) (h : ℕ) (due : Due) → end ≡ k.role → awaits ≡ awaited_at (layer_settings k) s.layer h → h
    ≡ channel_for due
    → timeout_line end awaits due ≡ timeout_line k.role (awaited_for k s due) due
line_is k s end awaits h due role is channel =
    ap₂ (λ (e : Role) (a : Awaits). timeout_line e a due) role (is ∙ ap (λ (n : ℕ). awaited_at (layer_settings k) s.layer n) channel)

pub returns-in_err-tell_timeout-clause-turns : goal.returns-in_err-tell_timeout-clause-turns
returns-in_err-tell_timeout-clause-turns g c = λ k times old w told refused h.
    let p = err_from_is_err_and c.from_residual.result c.from_residual.ensures.1 in
    let due = c.args.due in
    let line = line_is k w.station _ c.channel-awaits.result.awaits _ due h.pipe.role (c.channel-awaits.ensures.awaits k w.station h.pipe.fits)
    c.channel_of.ensures in
    rw p.1 (begins_before k times old _ told refused (λ (v : Timed). act_turn k times v (event_act k v.station (event_for (asked_of k v.station due))))
    (writes w (timeout_line k.role (awaited_for k w.station due) due))
    (subst (λ t. AppendsPrefix old (g.W.Sink.contents c.tell_timeout.new.writer) (told ++ t)) line (c.in_err-tell_timeout.ensures.tells old told h.pipe.tells)))

pub returns-in_err-insist-clause-turns : goal.returns-in_err-insist-clause-turns
returns-in_err-insist-clause-turns g c = λ k times old w told refused h.
    let p = err_from_is_err_and c.from_residual-in_err-insist.result c.from_residual-in_err-insist.ensures.1 in
    let due = c.args.due in
    let line = line_is k w.station _ c.channel-awaits.result.awaits _ due h.pipe.role (c.channel-awaits.ensures.awaits k w.station h.pipe.fits)
    c.channel_of.ensures in
    let text = timeout_line k.role (awaited_for k w.station due) due in
    rw p.1 (begins_behind k times old _ told refused (λ (v : Timed). act_turn k times v (event_act k v.station (event_for (asked_of k v.station due)))) (writes w text)
    (c.in_err-insist.ensures.acts k old w.station (told ++ text) (refused || false)
    (record {
      fits = h.pipe.fits;
      role = h.pipe.role;
      tells = subst (λ t. Tells old (g.W.Sink.contents c.tell_timeout.new.writer) c.tell_timeout.new.output (told ++ t)) line
          (c.in_ok-tell_timeout.ensures.tells old told h.pipe.tells);
      status = h.pipe.status ∙ sym (or-false refused);
    })))

pub returns-clause-turns : goal.returns-clause-turns
returns-clause-turns g c = λ k times old w told refused h.
    let due = c.args.due in
    let line = line_is k w.station _ c.channel-awaits.result.awaits _ due h.pipe.role (c.channel-awaits.ensures.awaits k w.station h.pipe.fits)
    c.channel_of.ensures in
    let text = timeout_line k.role (awaited_for k w.station due) due in
    stands_behind k times old _ told refused (λ (v : Timed). act_turn k times v (event_act k v.station (event_for (asked_of k v.station due)))) (writes w text) _
    (c.heed.ensures k times old _ w (told ++ text) (refused || false) (event_act k w.station (event_for (asked_of k w.station due)))
    (c.in_ok-insist.ensures.acts k old w.station (told ++ text) (refused || false)
    (record {
      fits = h.pipe.fits;
      role = h.pipe.role;
      tells = subst (λ t. Tells old (g.W.Sink.contents c.tell_timeout.new.writer) c.tell_timeout.new.output (told ++ t)) line
          (c.in_ok-tell_timeout.ensures.tells old told h.pipe.tells);
      status = h.pipe.status ∙ sym (or-false refused);
    }))
    h.deadlines h.timers h.channels h.time)
