use Rattle.x25_link.proofs.{AckedLemmas.{answered_then, answered_not, none_again}, FitsLemmas.{closing_fits}, Names.{sym, ap, refl, ◌∙◌, Ended}}
use Rattle.x25_link.specs.Station.{is_asked}
use Rattle.x25_link.proofs.station.LinkStation.end_closing.Goals as goal

pub returns-then-not-is_asked : goal.returns-then-not-is_asked
returns-then-not-is_asked c = record {
  step = λ d before made t fits.
      rw (answered_not c.args.ending t.near.closing t (sym (ap is_asked fits.near.closing) ∙ sym c.if-not-is_asked.ensures)) (record {
        side = fits;
        packet = rw c.quiet.ensures.packet refl;
        notes = c.quiet.ensures.notes;
        acknowledged = c.quiet.ensures.acknowledged ∙ none_again t;
      });
}

pub returns : goal.returns
returns c = record {
  step = λ d before made t fits.
      rw (answered_then c.args.ending t.near.closing t (sym (ap is_asked fits.near.closing) ∙ sym c.if-not-is_asked.ensures)) (record {
        side = record { near = closing_fits d _ t.near (Ended c.args.ending) fits.near; out = fits.out };
        packet = rw c.quiet-2.ensures.packet refl;
        notes = c.quiet-2.ensures.notes;
        acknowledged = c.quiet-2.ensures.acknowledged ∙ none_again t;
      });
}
