use Rattle.std.{proofs.Common.{◌≡◌, ◌≤◌, length, take, drop}, specs.Str.{bytes_eq}}
use Rattle.x25_script.proofs.fields.begins_with.Given as goal

abbrev pub invariant-loop-left : goal.invariant-loop-left
invariant-loop-left l =
    (l.is_same ≡ bytes_eq (drop l.left l.word) (drop l.left (take (length l.word) l.text))) × (l.left ≤ length l.word)

abbrev pub decreases-loop-left : goal.decreases-loop-left
decreases-loop-left l = l.left
