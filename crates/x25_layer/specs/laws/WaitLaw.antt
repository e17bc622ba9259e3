-- What still waits in the circuits of two layers, where nothing is in flight between them and a pull gives nothing.
use Rattle.std.specs.Prelude.{◌≡◌, ◌<◌, Bool, ℕ, [], None, true, false}
use Rattle.x25_bits.specs.declared.role.Role.TheVariants.{Dte, Dce}
use Rattle.x25_circuit.specs.Circuit.{is_open, waits}
use Rattle.x25_layer.specs.declared.ranges.Ranges.{Ranges}
use Rattle.x25_layer.specs.Layer.{LayerSettings, Layer, is_channel}
use Rattle.x25_layer.specs.Calls.{PullsAll, layer_pulled}
use Rattle.x25_layer.specs.laws.Rounds.{LinkView, Putting, rounds, Went, calls}
use Rattle.x25_layer.specs.laws.Transcript.{name_of}
use Rattle.x25_layer.specs.laws.TwoLayers.{End, TwoLayers, settings_of}
use Rattle.x25_layer.specs.laws.Law.{HasAllOf}

-- a pull of any channel gives no packet
abbrev pub PullsNone : LayerSettings → Layer → Type 0
PullsNone c l = (k : ℕ) → is_channel c.channels k ≡ true → (layer_pulled c l k).packet ≡ None

-- behind the rounds, where the link has room
abbrev pub RoundsLeaveNone : Type 0
RoundsLeaveNone = (link : LinkView) (c : LayerSettings) (s : Putting) → link.waits (rounds link c s).put < 8
    → PullsNone c (rounds link c s).layer

-- the same where the pull of all leaves the layer as it was, in a link that has room
abbrev pub StillPullsNone : Type 0
StillPullsNone = (link : LinkView) (c : LayerSettings) (l : Layer) (s : Putting) → calls link c l PullsAll ≡ Went s
    → s.layer ≡ l → link.waits [] < 8 → PullsNone c l

-- a circuit that isn't open keeps no message
abbrev pub KeepsNoneClosed : End → Type 0
KeepsNoneClosed e = (k : ℕ) → is_open (e.layer.circuits k) ≡ false → waits (e.layer.circuits k) ≡ 0

pub record ClosedKeepNone (w : TwoLayers) : Type 0 where
  pub near : KeepsNoneClosed w.near
  pub far : KeepsNoneClosed w.far

-- while a restart is under way no circuit is open
abbrev pub OpensNoneInRestart : End → Type 0
OpensNoneInRestart e = e.layer.restarting ≡ true → (k : ℕ) → is_open (e.layer.circuits k) ≡ false

pub record NoneOpenInRestart (w : TwoLayers) : Type 0 where
  pub near : OpensNoneInRestart w.near
  pub far : OpensNoneInRestart w.far

-- both links are up, and nothing is in flight
pub record IsDrained (w : TwoLayers) : Type 0 where
  pub near_up : w.near.is_out ≡ false
  pub far_up : w.far.is_out ≡ false
  pub out : w.out ≡ []
  pub back : w.back ≡ []

-- one stretch of channel k is open at both ends
pub record IsOpenAtBoth (k : ℕ) (giver taker : End) : Type 0 where
  pub opened : is_open (giver.layer.circuits k) ≡ true
  pub opened_there : is_open (taker.layer.circuits k) ≡ true
  pub same_name : name_of giver.layer k ≡ name_of taker.layer k

-- What waits at the giver on channel k: nothing, as its circuit isn't open; nothing, as all that was handed down in the
-- stretch was handed up at the other end; or messages for a user who isn't ready there (section 4.4.1.5).
pub data WaitsForUser (k : ℕ) (giver taker : End) : Type 0 where
  NotOpen : is_open (giver.layer.circuits k) ≡ false → waits (giver.layer.circuits k) ≡ 0 → WaitsForUser k giver taker
  Arrived : IsOpenAtBoth k giver taker → waits (giver.layer.circuits k) ≡ 0
      → HasAllOf k (name_of giver.layer k) giver.entries taker.entries → WaitsForUser k giver taker
  NotReady : IsOpenAtBoth k giver taker → (taker.layer.circuits k).talk.own_ready ≡ false → WaitsForUser k giver taker

-- of each end for which a pull gives nothing
pub record WaitForUsersAlone (long_data : Bool) (channels : Ranges) (w : TwoLayers) : Type 0 where
  pub near : IsDrained w → PullsNone (settings_of Dte long_data channels) w.near.layer → (k : ℕ)
      → is_channel channels k ≡ true → WaitsForUser k w.near w.far
  pub far : IsDrained w → PullsNone (settings_of Dce long_data channels) w.far.layer → (k : ℕ)
      → is_channel channels k ≡ true → WaitsForUser k w.far w.near
