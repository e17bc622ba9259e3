use Rattle.std.proofs.Common.{◌++◌, ap, sym, refl}
use Rattle.std.specs.List.{flat_map}
use Rattle.std.proofs.lemmas.Result.{err_from_is_err_and}
use Rattle.x25_io.proofs.ToldLemmas.{part_of_all}
use Rattle.x25_judge.specs.Counts.{frames_line, packets_line}
use Rattle.x25_judge.proofs.LineLemmas.{told_behind}
use Rattle.x25_judge.proofs.counts.tell_end.Goals as goal

pub returns-in_err-tell_line-clause-tells : goal.returns-in_err-tell_line-clause-tells
returns-in_err-tell_line-clause-tells g c = λ old told h.
    let p = err_from_is_err_and c.from_residual.result c.from_residual.ensures.1 in
    rw p.1 (part_of_all old _ told (frames_line c.args.from c.args.frames) (flat_map (packets_line c.args.from) c.args.packets.now) _ refl
    (c.in_err-tell_line.ensures.tells old told h))

pub returns-clause-tells : goal.returns-clause-tells
returns-clause-tells g c = λ old told h.
    let first = frames_line c.args.from c.args.frames in
    let lines = flat_map (packets_line c.args.from) in
    told_behind c.tell_packets.result old _ _ told first (lines c.as_slice.result.now) _ (ap (λ packets. first ++ lines packets) (sym c.as_slice.ensures))
    (c.tell_packets.ensures.tells old (told ++ first) (c.in_ok-tell_line.ensures.tells old told h))
