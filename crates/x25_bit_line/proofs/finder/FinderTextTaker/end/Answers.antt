use Rattle.std.proofs.Common.{◌∙◌, sym, subst, refl}
use Rattle.std.specs.Io.KnownBytes.{Appends}
use Rattle.std.proofs.lemmas.List.{append-nil}
use Rattle.x25_bit_line.specs.Deframing.{deframed}
use Rattle.x25_bit_line.proofs.TellingLemmas.{told_all}
use Rattle.x25_bit_line.proofs.finder.FinderTextTaker.end.Goals as goal

pub returns-clause-all : goal.returns-clause-all
returns-clause-all g c = λ from old input h.
    let all = sym (append-nil h.done) ∙ h.split in (
      subst (λ done. Appends old (g.W.Sink.contents c.flush.new.writer) (deframed from done)) all
          (told_all old _ _ _ (c.in_ok-flush.ensures.tells old _ h.reads.tells) c.in_ok-flush.ensures.empty),
      refl,
    )
