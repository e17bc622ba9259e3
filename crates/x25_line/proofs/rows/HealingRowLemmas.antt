-- Worked moments of healing, by computing.
use Rattle.x25_line.{proofs.Names.{refl, pumped}, specs.rows.HealingRows.{OneBusyIsReached}}

pub one_busy_is_reached : OneBusyIsReached
unfolding pumped
one_busy_is_reached = (
  record { once = record { near = refl; far = refl }; drained = (refl, refl); up = refl; busy = refl; made = refl; far = refl },
  record { once = record { near = refl; far = refl }; drained = (refl, refl); up = refl; busy = refl; made = refl; far = refl },
  record { once = record { near = refl; far = refl }; drained = (refl, refl); up = refl; busy = refl; made = refl; far = refl },
)
