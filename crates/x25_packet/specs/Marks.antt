-- The marks of a data packet that are its message's. ITU-T X.25 (10/96), sections 4.3.3 and 4.3.6.
use Rattle.std.specs.Prelude.{Bool, false}
use Rattle.x25_packet.specs.declared.marks.Marks.{Marks}

-- no confirmation is asked
abbrev pub with_q : Bool → Marks
with_q q = record { q = q; d = false }
