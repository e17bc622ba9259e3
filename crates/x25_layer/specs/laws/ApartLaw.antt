-- What holds of two layers of which each end is by itself, and of one such end whatever its link hands up.
use Rattle.std.specs.Prelude.{◌≡◌, ℕ, List, [], ◌∷◌, ◌++◌, Bool, true, option_to_list}
use Rattle.x25_bits.specs.declared.role.Role.TheVariants.{Dte, Dce}
use Rattle.x25_packet.specs.Packet.{PlainPacket}
use Rattle.x25_circuit.specs.Circuit.{is_free}
use Rattle.x25_layer.specs.declared.ranges.Ranges.{Ranges}
use Rattle.x25_layer.specs.Layer.{LayerSettings, LayerNotice, restarted, goes_up}
use Rattle.x25_layer.specs.laws.Law.{IsQuietEnd}
use Rattle.x25_layer.specs.laws.TwoLayers.{End, TwoLayers, settings_of, run, start, started}
use Rattle.x25_layer.specs.laws.Apart.{OwnMove, GoesDown, own_moves, own_run, Ends, ApartEvent, apart_run, apart_start}
use Rattle.x25_layer.specs.laws.Apart.{near_moves, far_moves, AreInOrder, all_over_links, as_world}

-- events in order lead where the same events lead two layers over links
abbrev pub IsOverLinks : Bool → Ranges → Type 0
IsOverLinks long_data channels = (events : List ApartEvent)
    → AreInOrder long_data channels events (apart_start long_data channels)
    → as_world (apart_run long_data channels events (apart_start long_data channels))
    ≡ run long_data channels (all_over_links events) (start long_data channels)

-- ---- the first packet

abbrev pub BeginsRestarted : List LayerNotice → Type 0
BeginsRestarted (restarted cause diagnostic ∷ notices) = Unit {0}
BeginsRestarted notices = ⊥

-- of what an end took, and what its user was told: nothing before the first packet, which is told as a restart by the
-- other end
abbrev pub IsToldFirst : List PlainPacket → List LayerNotice → Type 0
IsToldFirst [] told = told ≡ []
IsToldFirst (packet ∷ packets) told = BeginsRestarted told

pub record RestartsFirst (w : TwoLayers) : Type 0 where
  pub near : IsToldFirst w.near.taken w.near.told
  pub far : IsToldFirst w.far.taken w.far.told

-- an end that has done no more than its link's coming up does: it gave its RESTART, asked and told nothing, and all its
-- channels are in p1
pub record HasOnlyBegun (c : LayerSettings) (e : End) : Type 0 where
  pub given : e.given ≡ option_to_list (goes_up c).owed
  pub told : e.told ≡ []
  pub entries : e.entries ≡ []
  pub free : (k : ℕ) → is_free (e.layer.circuits k) ≡ true
  pub quiet : IsQuietEnd c.channels e

-- whatever happens to an end to which no packet comes
abbrev pub BeginsAlone : Type 0
BeginsAlone = (c : LayerSettings) (own : List OwnMove) → let e = own_run c own (started (goes_up c)) in e.taken ≡ []
    → HasOnlyBegun c e

-- ---- own moves alone decide

-- these two ends are what each end's own moves led to
pub record AreByThemselves (long_data : Bool) (channels : Ranges) (events : List ApartEvent)
    (ends : Ends) : Type 0 where
  pub near : (apart_run long_data channels events ends).near
      ≡ own_run (settings_of Dte long_data channels) (near_moves events) ends.near
  pub far : (apart_run long_data channels events ends).far
      ≡ own_run (settings_of Dce long_data channels) (far_moves events) ends.far

abbrev pub OwnMovesDecide : Type 0
OwnMovesDecide = (long_data : Bool) (channels : Ranges) (events : List ApartEvent) (ends : Ends)
    → AreByThemselves long_data channels events ends

-- an end whose link went down stays as it was then
abbrev pub StaysDown : Type 0
StaysDown = (c : LayerSettings) (e : End) (own : List OwnMove)
    → own_run c own (own_moves c e GoesDown) ≡ own_moves c e GoesDown

-- ---- events one behind the other

-- events behind others run on from where those led, and are in order where both are
pub record RunOn (long_data : Bool) (channels : Ranges) (done events : List ApartEvent) (ends : Ends) : Type 0 where
  pub run : apart_run long_data channels (done
      ++ events) ends ≡ apart_run long_data channels events (apart_run long_data channels done ends)
  pub order : AreInOrder long_data channels done ends
      → AreInOrder long_data channels events (apart_run long_data channels done ends)
      → AreInOrder long_data channels (done ++ events) ends

abbrev pub EventsRunOn : Type 0
EventsRunOn = (long_data : Bool) (channels : Ranges) (done events : List ApartEvent) (ends : Ends)
    → RunOn long_data channels done events ends
