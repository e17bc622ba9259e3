use Rattle.x25_world.proofs.Names.{◌≡◌, false, take, list_any, reads_as, line_to}
use Rattle.x25_bits.specs.Role.{other}
use Rattle.x25_world.proofs.set_up.is_carried.Given as goal

-- no such frame stands before this place
abbrev pub invariant-loop-place : goal.invariant-loop-place
invariant-loop-place l = list_any (reads_as l.frame (other l.to)) (take l.place (line_to l.line l.to)) ≡ false
