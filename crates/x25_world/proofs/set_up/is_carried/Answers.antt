use Rattle.x25_bits.specs.Role.{other}
use Rattle.x25_world.proofs.{Names.{sym, ap, subst, ◌<◌, ◌∙◌, reads_as, line_to}, SetUpLemmas.{found_at, not_found_yet, none_there}}
use Rattle.x25_world.proofs.set_up.is_carried.Goals.{in-Some+else-reads_as, in_default}
use Rattle.x25_world.proofs.set_up.is_carried.Goals as goal

pub returns-then-reads_as : goal.returns-then-reads_as
returns-then-reads_as c =
    sym (found_at (reads_as c.args.frame (other c.args.to)) (line_to c.args.line.now c.args.to) c.loop-place.place c.in-Some.octets.now
    (subst (λ n. c.loop-place.place < n) c.len-place-end.ensures c.loop-place-test.true) c.in-Some.ensures
    (sym (c.reads_as.ensures ∙ ap (λ from. reads_as c.args.frame from c.in-Some.octets.now) c.other.ensures) ∙ c.if-reads_as.true))

pub loop-place-preserved : goal.loop-place-preserved
loop-place-preserved c =
    let within = subst (λ n. c.loop-place.place < n) c.len-place-end.ensures c.loop-place-test.true in
    let frames = line_to c.args.line.now c.args.to in
    elim c.match-get.branch [
      | in-Some+else-reads_as w ↦ not_found_yet (reads_as c.args.frame (other c.args.to)) frames c.loop-place.place w.in-Some.octets.now within
          w.in-Some.ensures c.loop-place.invariant
          (sym (w.reads_as.ensures ∙ ap (λ from. reads_as c.args.frame from w.in-Some.octets.now) w.other.ensures) ∙ w.if-reads_as.false)
      | in_default w ↦ none_there frames c.loop-place.place within w.in_default.ensures
    ]
