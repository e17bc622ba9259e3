use Rattle.std.proofs.Common.{◌++◌, ◌<◌, ◌∙◌, append_assoc, take, drop, ap, sym, subst, arith}
use Rattle.std.proofs.lemmas.Result.{err_from_is_err_and}
use Rattle.x25_io.specs.code.Written.{AppendsPrefix, Tells}
use Rattle.x25_world.specs.code.ShownWorld.{line_of}
use Rattle.x25_sim.specs.Telling.{taps, saying_line}
use Rattle.x25_io.proofs.ToldLemmas.{part_of_all}
use Rattle.x25_sim.proofs.SayingLemmas.{frames_text, none_there, frame_more, frame_parts}
use Rattle.x25_sim.proofs.telling.tell_frames.Goals as goal
use Rattle.x25_sim.proofs.telling.tell_frames.Goals.{in-Some+in_ok-tell_frame, in_default}

pub returns-in_err-tell_frame-clause-tells : goal.returns-in_err-tell_frame-clause-tells
unfolding saying_line
returns-in_err-tell_frame-clause-tells g c = λ old told h.
    let p = err_from_is_err_and c.from_residual.result c.from_residual.ensures.1 in
    let frames = line_of c.args.world.now c.args.direction in
    let within = subst (λ n. c.loop-place.place < n) c.on_line-place-end.ensures c.loop-place-test.true in
    let first = frames_text c.args.from (drop c.args.before (take c.loop-place.place frames)) in
    rw p.1 (part_of_all old _ told (first ++ saying_line (taps (record { from = c.args.from; octets = c.in-Some.octets.now }))) _ _
    (frame_parts c.args.from frames c.args.before c.loop-place.place c.in-Some.octets.now c.loop-place.invariant.0 within c.in-Some.ensures)
    (subst (AppendsPrefix old (g.W.Sink.contents c.tell_frame.new.writer)) (append_assoc told first _)
    (c.in_err-tell_frame.ensures.tells old (told ++ first) (c.loop-place.invariant.2 old told h))))

pub loop-place-preserved : goal.loop-place-preserved
unfolding saying_line
loop-place-preserved g c =
    let frames = line_of c.args.world.now c.args.direction in
    let within = subst (λ n. c.loop-place.place < n) c.on_line-place-end.ensures c.loop-place-test.true in
    let first = frames_text c.args.from (drop c.args.before (take c.loop-place.place frames)) in
    elim c.match-frame.branch [
      | in-Some+in_ok-tell_frame w ↦ rw (w.writer-is, w.output-is) (
        omega (arith, c.loop-place.invariant.0),
        w.in_ok-tell_frame.ensures.faults.kept ∙ c.loop-place.invariant.1,
        λ old told h.
            subst (Tells old (g.W.Sink.contents w.tell_frame.new.writer) w.tell_frame.new.output)
            (append_assoc told first _ ∙ ap (λ t. told ++ t)
            (sym (frame_more c.args.from frames c.args.before c.loop-place.place w.in-Some.octets.now c.loop-place.invariant.0 within w.in-Some.ensures)))
            (w.in_ok-tell_frame.ensures.tells old (told ++ first) (c.loop-place.invariant.2 old told h)),
      )
      | in_default w ↦ none_there frames c.loop-place.place within w.in_default.ensures
    ]
