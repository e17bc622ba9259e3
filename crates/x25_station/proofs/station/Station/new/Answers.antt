use Rattle.x25_station.{proofs.Names.{refl, arith}, specs.Config.{settings_from}, specs.Station.{new_station}}
use Rattle.x25_station.proofs.station.Station.new.Goals as goal

pub invariant_of-result : goal.invariant_of-result
invariant_of-result c = record {
  meant = ∣ (
    settings_from c.args.role c.args.cfg,
    new_station,
    record {
      link = c.in-Ok.ensures.state;
      layer = c.in-Ok-with.ensures.fits;
      turned = refl;
      kept = record { few = omega arith; rests = λ is. refl };
      sent = c.in-Ok.ensures.no_frames;
      same = refl;
    },
  ) ∣₁;
}
