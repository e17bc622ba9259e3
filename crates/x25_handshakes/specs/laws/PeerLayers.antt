-- The other role, and packets of other channels.
use Rattle.std.specs.Prelude.{◌≡◌, ℕ, List, [], ◌∷◌, false, ◌==◌}
use Rattle.x25_handshakes.specs.laws.Layers.{LayerPacket, On}
use Rattle.x25_bits.specs.{declared.role.Role.{Role}, declared.role.Role.TheVariants.{Dte, Dce}}

abbrev pub other_role : Role → Role
other_role Dte = Dce
other_role Dce = Dte

-- no RESTART, no confirmation of one, and no packet of this channel
abbrev pub IsElsewhere : ℕ → LayerPacket → Type 0
IsElsewhere h (On k p) = (h == k) ≡ false
IsElsewhere h other = ⊥

abbrev pub AreElsewhere : ℕ → List LayerPacket → Type 0
AreElsewhere h [] = Unit {0}
AreElsewhere h (p ∷ ps) = IsElsewhere h p × AreElsewhere h ps
