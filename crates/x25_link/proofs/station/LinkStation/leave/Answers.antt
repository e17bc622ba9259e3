use Rattle.x25_link.proofs.{AckedLemmas.{none_left}, Names.{refl, ◌∙◌}}
use Rattle.x25_link.proofs.station.LinkStation.leave.Goals as goal

pub returns : goal.returns
returns c = record {
  step = λ d before made t fits.
      record {
        side = c.clear.ensures.step d before made t fits;
        packet = rw c.down.ensures.packet refl;
        notes = c.down.ensures.notes;
        acknowledged = c.down.ensures.acknowledged ∙ none_left t.near.outgoing.acked;
      };
}
