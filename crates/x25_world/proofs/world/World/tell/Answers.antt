use Rattle.x25_world.proofs.{Names.{sym, subst, FitsWorld}, WorldLemmas.{told_behind}}
use Rattle.x25_world.proofs.world.World.tell.Goals as goal

pub returns-clause-step : goal.returns-clause-step
returns-clause-step c = λ cfg w before tells.
    let acted = c.in_ok-act_at_end.ensures.acted cfg w (subst (λ v. FitsWorld cfg v w) (sym c.self.view_is) tells.fits) in
    record {
      fits = acted.happened;
      told = rw (
        c.enter.ensures.entries,
        c.reserve_entries.ensures.items,
        c.at.ensures,
      ) (told_behind w.transcript before _ _ _ tells.told acted.tells);
    }
