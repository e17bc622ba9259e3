use Rattle.std.proofs.Common.{◌≡◌, ℕ, ◌<◌, get_or, length}
use Rattle.x25_c.specs.Event.{figure}
use Rattle.x25_c.proofs.copying.write_figures.Given as goal

abbrev pub invariant-loop-place : goal.invariant-loop-place
invariant-loop-place l = (length l.places ≡ length l.digits) × ((k : ℕ) → k < l.place → get_or l.places k 0 ≡ figure (get_or l.digits k 0))
