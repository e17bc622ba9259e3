use Rattle.std.{proofs.Common.{◌≡◌, ◌++◌, take, decimal}, specs.List.{flat_map}}
use Rattle.x25_transcript.proofs.entry_text.push_digits.Given as goal

-- the first digits are appended
abbrev pub invariant-loop-digit : goal.invariant-loop-digit
invariant-loop-digit l = l.text ≡ l.initial.text ++ flat_map decimal (take l.digit-index l.digits)
