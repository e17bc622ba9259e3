-- The terms of data transfer in one direction: packet size and window, which the two ends agree on in a call (ITU-T
-- X.25 (10/96), section 6.12), and the most octets of a message, which they hold to (profile).
use Rattle.std.specs.Prelude.{ℕ}
use Rattle.x25_circuit.specs.declared.params.Params.{Params}
use Rattle.x25_circuit.specs.Params as agreed

pub record Terms : Type 0 where
  pub window : ℕ
  pub size : ℕ
  pub longest : ℕ

abbrev pub with_longest : ℕ → agreed.Terms → Terms
with_longest longest t = record { window = t.window; size = t.size; longest = longest }

-- of what the called end sends, and of what the calling one does
abbrev pub called_terms : ℕ → Params → Terms
called_terms longest q = with_longest longest (agreed.called_terms q)

abbrev pub calling_terms : ℕ → Params → Terms
calling_terms longest q = with_longest longest (agreed.calling_terms q)
