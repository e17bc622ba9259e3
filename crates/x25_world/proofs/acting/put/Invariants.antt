use Rattle.x25_world.proofs.Names.{◌≡◌, ◌+◌, ◌≤◌, drop, length, put_by}
use Rattle.x25_world.proofs.acting.put.Given as goal

-- the frames that are left come on the line as all do
abbrev pub invariant-loop-place : goal.invariant-loop-place
invariant-loop-place l = record {
  room : length l.frames ≤ l.place + l.line.room;
  count : length l.frames ≡ length l.initial.frames;
  put : put_by l.line l.at (drop l.place l.frames) ≡ put_by l.initial.line l.at l.initial.frames;
}
