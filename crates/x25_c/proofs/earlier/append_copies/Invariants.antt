use Rattle.std.proofs.Common.{◌≡◌, ◌≤◌, length, map, take, vec_len, vec_capacity}
use Rattle.x25_c.proofs.earlier.append_copies.Given as goal

-- the frames so far are copied
abbrev pub invariant-loop-frame : goal.invariant-loop-frame
invariant-loop-frame l = record {
  items : map (λ frame. frame.items) l.copies.items ≡ map (λ frame. frame.items) (take l.frame-index l.frames);
  len : vec_len l.copies ≡ l.frame-index;
  room : length l.frames ≤ vec_capacity l.copies;
}
