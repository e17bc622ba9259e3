use Rattle.x25_link.proofs.{AckedLemmas.{gives_closed, gives_open}, Names.{sym, ap, ◌∙◌}}
use Rattle.x25_link.specs.Station.{is_closed}
use Rattle.x25_link.proofs.station.LinkStation.give_up.Goals as goal

pub returns-then-not-is_closed : goal.returns-then-not-is_closed
returns-then-not-is_closed c = record {
  step = λ d before made t fits.
      rw (gives_open t.near.phase t (sym (ap is_closed fits.near.phase) ∙ sym c.if-not-is_closed.ensures)) (c.leave.ensures.step d before made t fits);
}

pub returns : goal.returns
returns c = record {
  step = λ d before made t fits.
      rw (gives_closed t.near.phase t (sym (ap is_closed fits.near.phase) ∙ sym c.if-not-is_closed.ensures)) (c.end_closing.ensures.step d before made t fits);
}
