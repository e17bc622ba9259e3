use Rattle.std.proofs.Common.{◌≡◌, ◌+◌, ◌++◌, take, vec_len, vec_capacity}
use Rattle.x25_io.proofs.held_line.with_part.Given as goal

-- the characters so far are appended
abbrev pub invariant-loop-character : goal.invariant-loop-character
invariant-loop-character l = record {
  items : l.all.items ≡ l.initial.all.items ++ take l.character-index l.part;
  len : vec_len l.all ≡ vec_len l.initial.all + l.character-index;
  capacity : vec_capacity l.all ≡ vec_capacity l.initial.all;
}
