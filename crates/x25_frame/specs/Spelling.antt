-- The octets that spell a frame. ITU-T X.25 (10/96), sections 2.2.3 to 2.2.7 and 2.3.2.
use Rattle.std.specs.Prelude.{ℕ, ◌+◌, ◌*◌, ◌<◌, ◌≤◌, ◌≡◌, Bool, true, false, List, [], ◌∷◌, ◌++◌, length}
use Rattle.x25_bits.specs.FrameCheck.Sealed.{seal_of}
use Rattle.x25_bits.specs.declared.role.Role.{Role}
use Rattle.x25_bits.specs.declared.role.Role.TheVariants.{Dte, Dce}
pub use Rattle.x25_bits.specs.Bits.{bit}
use Rattle.x25_frame.specs.Frame.{PlainFrame, info, rr, rnr, rej, sabm, disc, ua, dm, frmr}

abbrev pub is_command : PlainFrame → Bool
is_command (info ns nr p octets) = true
is_command (rr command nr pf) = command
is_command (rnr command nr pf) = command
is_command (rej command nr pf) = command
is_command (sabm p) = true
is_command (disc p) = true
is_command (ua f) = false
is_command (dm f) = false
is_command (frmr f why) = false

-- the poll bit of a command, the final bit of a response
abbrev pub poll_or_final : PlainFrame → Bool
poll_or_final (info ns nr p octets) = p
poll_or_final (rr command nr pf) = pf
poll_or_final (rnr command nr pf) = pf
poll_or_final (rej command nr pf) = pf
poll_or_final (sabm p) = p
poll_or_final (disc p) = p
poll_or_final (ua f) = f
poll_or_final (dm f) = f
poll_or_final (frmr f why) = f

-- Section 2.4.2: commands to the DTE and responses from it carry the address A, 3; commands to the DCE and responses
-- from it carry B, 1.
abbrev pub address_of : Role → Bool → ℕ
address_of Dte true = 1
address_of Dte false = 3
address_of Dce true = 3
address_of Dce false = 1

-- Table 2-7: N(S) in bits 2 to 4, the poll or final bit in bit 5, N(R) in bits 6 to 8
abbrev pub control_of : PlainFrame → ℕ
control_of (info ns nr p octets) = 2 * ns + 16 * bit p + 32 * nr
control_of (rr command nr pf) = 1 + 16 * bit pf + 32 * nr
control_of (rnr command nr pf) = 5 + 16 * bit pf + 32 * nr
control_of (rej command nr pf) = 9 + 16 * bit pf + 32 * nr
control_of (sabm p) = 47 + 16 * bit p
control_of (disc p) = 67 + 16 * bit p
control_of (ua f) = 99 + 16 * bit f
control_of (dm f) = 15 + 16 * bit f
control_of (frmr f why) = 135 + 16 * bit f

abbrev pub information_of : PlainFrame → List ℕ
information_of (info ns nr p octets) = octets
information_of (frmr f why) = why
information_of _ = []

-- the numbers are sequence numbers
abbrev pub IsInRange : PlainFrame → Type 0
IsInRange (info ns nr p octets) = (ns < 8) × (nr < 8)
IsInRange (rr command nr pf) = nr < 8
IsInRange (rnr command nr pf) = nr < 8
IsInRange (rej command nr pf) = nr < 8
IsInRange _ = Unit {0}

-- a frame of this kind may have such information: an I frame any, FRMR three octets, the others none
abbrev pub MayCarry : PlainFrame → List ℕ → Type 0
MayCarry (info ns nr p octets) information = Unit {0}
MayCarry (frmr f why) information = length information ≡ 3
MayCarry _ information = information ≡ []

-- N1 bounds the information of I frames alone, in octets (profile)
abbrev pub IsWithin : ℕ → PlainFrame → List ℕ → Type 0
IsWithin n1 (info ns nr p octets) information = length information ≤ n1
IsWithin n1 _ information = Unit {0}

-- address, control and information
abbrev pub body_of : Role → PlainFrame → List ℕ
body_of from v = address_of from (is_command v) ∷ control_of v ∷ information_of v

-- all octets of the frame, sent by this end
abbrev pub spelling_of : Role → PlainFrame → List ℕ
spelling_of from v = body_of from v ++ seal_of (body_of from v)

-- the octets spell the frame, sent by this end
pub record Spells (from : Role) (n1 : ℕ) (v : PlainFrame) (octets : List ℕ) : Type 0 where
  pub in_range : IsInRange v
  pub carries : MayCarry v (information_of v)
  pub within : IsWithin n1 v (information_of v)
  pub spelling : octets ≡ spelling_of from v
