-- The worked rows, by computing.
use Rattle.x25_clock.{proofs.Names.{refl, arith}, specs.rows.SilentRows.{SilentPeerIsLeft}}
use Rattle.x25_link.specs.Station.{pumped}

pub silent_peer_is_left : SilentPeerIsLeft
unfolding pumped
silent_peer_is_left = record {
  call = record {
    obeys = (
      refl,
      omega arith,
      (refl, omega arith, (refl, omega arith, tt)),
    );
    awaits = (omega arith, refl, (omega arith, refl, omega arith));
    now = refl;
    phase = refl;
  };
  interrupt = record {
    obeys = (
      refl,
      omega arith,
      (refl, omega arith, (refl, omega arith, (refl, omega arith, tt))),
    );
    awaits = (omega arith, refl, (omega arith, refl, (omega arith, refl, omega arith)));
    now = refl;
    phase = refl;
  };
}
