use Rattle.std.{proofs.Common.{◌≡◌, ◌+◌, ℕ, List, ◌++◌, false, length, map, take}, specs.Fmt.{digit_glyph}}
use Rattle.x25_text.proofs.wide_packet_text.push_each_half.Given as goal

-- the first half octets are appended
pub record Appended (old text halves : List ℕ) (count : ℕ) : Type 0 where
  pub text_is : text ≡ old ++ map (λ h. digit_glyph false h) (take count halves)
  pub size : length text ≡ length old + count

abbrev pub invariant-loop-place : goal.invariant-loop-place
invariant-loop-place l = Appended l.initial.text l.text l.halves l.place
