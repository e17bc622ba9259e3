use Rattle.x25_link.proofs.Names.{ℕ, ◌+◌, ◌≤◌, List, length, LinkSettings, Side, pumped, FitsSide}
use Rattle.x25_link.proofs.station.LinkStation.end.Given as goal

abbrev pub invariant-loop-frame : goal.invariant-loop-frame
invariant-loop-frame l = record {
  step : (c : LinkSettings) (before : List (List ℕ)) (t : Side) → FitsSide c l.initial.self before l.initial.out t
      → FitsSide c l.self before l.out (pumped l._frame c.window t);
  few : length l.out ≤ length l.initial.out + l._frame;
}
