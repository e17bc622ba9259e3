-- The name of a stretch is what the user was told: the restarts, clears and resets that the notices tell of. And no
-- CLEAR comes in p1, which would count and tell nothing.
use Rattle.std.specs.Prelude.{◌≡◌, ℕ, suc, List, [], ◌∷◌, ◌==◌, false, if◌then◌else◌}
use Rattle.x25_packet.specs.Packet.{PlainPacket, clear}
use Rattle.x25_circuit.specs.Circuit.{is_free}
use Rattle.x25_circuit.specs.Notice.{PlainNotice, cleared, clear_done, was_reset, reset_done}
use Rattle.x25_handshakes.specs.laws.Names.{Name}
use Rattle.x25_layer.specs.Layer.{LayerNotice, on_channel, restarted, restart_done}
use Rattle.x25_layer.specs.laws.Transcript.{name_of}
use Rattle.x25_layer.specs.laws.TwoLayers.{End, TwoLayers}

-- ---- names

-- nothing was done yet
abbrev pub first_name : Name
first_name = record { restarts = 0; clears = 0; resets = 0 }

abbrev pub restarted_once : Name → Name
restarted_once n = record { restarts = suc n.restarts; clears = 0; resets = 0 }

abbrev pub cleared_once : Name → Name
cleared_once n = record { restarts = n.restarts; clears = suc n.clears; resets = 0 }

abbrev pub reset_once : Name → Name
reset_once n = record { restarts = n.restarts; clears = n.clears; resets = suc n.resets }

abbrev pub named_by : Name → PlainNotice → Name
named_by n (cleared cause diagnostic) = cleared_once n
named_by n clear_done = cleared_once n
named_by n (was_reset cause diagnostic) = reset_once n
named_by n reset_done = reset_once n
named_by n notice = n

-- on channel k
abbrev pub named_after : ℕ → Name → LayerNotice → Name
named_after k n (on_channel h notice) = if k == h then named_by n notice else n
named_after k n (restarted cause diagnostic) = restarted_once n
named_after k n restart_done = restarted_once n
named_after k n notice = n

abbrev pub counted : ℕ → Name → List LayerNotice → Name
counted k n [] = n
counted k n (notice ∷ notices) = counted k (named_after k n notice) notices

-- an end whose link is up
abbrev pub IsCounted : End → Type 0
IsCounted e = (k : ℕ) → e.is_out ≡ false → name_of e.layer k ≡ counted k first_name e.told

pub record NamesAreCounted (w : TwoLayers) : Type 0 where
  pub near : IsCounted w.near
  pub far : IsCounted w.far

-- ---- p1

-- the packet is no CLEAR in p1, where the layer is ready
abbrev pub IsNoClearInP1 : End → PlainPacket → Type 0
IsNoClearInP1 e (clear channel cause diagnostic) = e.is_out ≡ false → e.layer.restarting ≡ false
    → is_free (e.layer.circuits channel) ≡ false
IsNoClearInP1 e packet = Unit {0}

-- the one in front of those in flight to the end
abbrev pub FrontIsNoClearInP1 : End → List PlainPacket → Type 0
FrontIsNoClearInP1 e [] = Unit {0}
FrontIsNoClearInP1 e (packet ∷ packets) = IsNoClearInP1 e packet

pub record NoClearComesInP1 (w : TwoLayers) : Type 0 where
  pub near : FrontIsNoClearInP1 w.near w.back
  pub far : FrontIsNoClearInP1 w.far w.out
