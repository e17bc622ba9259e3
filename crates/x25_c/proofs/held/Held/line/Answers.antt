use Rattle.std.proofs.{Common.{arith, sym}, lemmas.List.{get_or_past, length-map}}
use Rattle.x25_c.{proofs.ItemLemmas.{past_from}, specs.Held.{entries_of, lines_of}}
use Rattle.x25_transcript.specs.EntryText.{entry_line}
use Rattle.x25_c.proofs.held.Held.line.Goals as goal

pub returns-in-None : goal.returns-in-None
returns-in-None c =
    let h = c.args.self.now in
    sym (get_or_past (lines_of h) c.args.i
    _ (omega (arith, length-map (entries_of h) (entry_line h.end), past_from (entries_of h) c.args.i (sym c.in-None.ensures))))
