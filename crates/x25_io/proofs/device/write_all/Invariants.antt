use Rattle.std.{proofs.Common.{◌≡◌, ◌++◌, ℕ, Bool, List, Option, length}, specs.Io.KnownBytes.{Appends}}
use Rattle.x25_io.proofs.device.write_all.Given as goal

-- what was written so far, and what is left
pub record Writes (old now : Option (List ℕ)) (octets rest : List ℕ) (mark before : Bool) : Type 0 where
  pub part : List ℕ
  pub split : octets ≡ part ++ rest
  pub written : Appends old now part
  pub kept : mark ≡ before

abbrev pub invariant-loop-rest : goal.invariant-loop-rest
invariant-loop-rest g l = Writes (g.W.Sink.contents l.fn.writer) (g.W.Sink.contents l.writer) l.fn.octets l.rest (g.W.Sink.is_marked l.writer)
    (g.W.Sink.is_marked l.fn.writer)

abbrev pub decreases-loop-rest : goal.decreases-loop-rest
decreases-loop-rest g l = length l.rest
