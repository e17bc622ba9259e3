-- What holds of two layers over links that keep order, after any events.
use Rattle.std.specs.Prelude.{◌≡◌, Bool, ℕ, ◌≤◌, List, ◌++◌, length, true}
use Rattle.x25_circuit.specs.Circuit.{is_open, waits}
use Rattle.x25_handshakes.specs.laws.Names.{Name}
use Rattle.x25_handshakes.specs.laws.Histories.{IsPrefix}
use Rattle.x25_layer.specs.declared.ranges.Ranges.{Ranges}
use Rattle.x25_layer.specs.laws.Quiet.{AreQuiet, AreNoFaults}
use Rattle.x25_layer.specs.laws.Transcript.{Entry, under, calls_in, messages_in, interrupts_in, name_of}
use Rattle.x25_layer.specs.laws.TwoLayers.{End, TwoLayers, EndMove, run, start}

-- whatever happened to two ends
abbrev pub Always : (TwoLayers → Type 0) → Bool → Ranges → Type 0
Always P long_data channels = (events : List EndMove) → P (run long_data channels events (start long_data channels))

-- no end told the other or its user of an error of procedure
pub record IsQuietEnd (channels : Ranges) (e : End) : Type 0 where
  pub given : AreQuiet channels e.given
  pub told : AreNoFaults e.told

pub record IsQuietWorld (channels : Ranges) (w : TwoLayers) : Type 0 where
  pub near : IsQuietEnd channels w.near
  pub far : IsQuietEnd channels w.far

-- under each channel and name, what the one end handed up is a beginning of what the other handed down
pub record HandsUpLawfully (e f : List Entry) : Type 0 where
  pub messages : (k : ℕ) (name : Name) → IsPrefix (messages_in (under k name e)).up (messages_in (under k name f)).down
  pub interrupts : (k : ℕ) (name : Name)
      → IsPrefix (interrupts_in (under k name e)).up (interrupts_in (under k name f)).down
  pub calls : (k : ℕ) (name : Name) → IsPrefix (calls_in (under k name e)).up (calls_in (under k name f)).down

pub record IsLawfulWorld (w : TwoLayers) : Type 0 where
  pub near : HandsUpLawfully w.near.entries w.far.entries
  pub far : HandsUpLawfully w.far.entries w.near.entries

-- all that the giver handed down under this name the taker handed up
pub record HasAllOf (k : ℕ) (name : Name) (giver taker : List Entry) : Type 0 where
  pub messages : (messages_in (under k name taker)).up ≡ (messages_in (under k name giver)).down
  pub interrupts : (interrupts_in (under k name taker)).up ≡ (interrupts_in (under k name giver)).down

-- Where all that the giver handed down to its link is acknowledged, and what is acknowledged the taker's link handed
-- up; where no message waits in the giver's circuit; and where one stretch is open at both ends.
pub record IsIdleTo (k : ℕ) (giver taker : End) (acked : ℕ) : Type 0 where
  pub all_acked : acked ≡ length giver.given
  pub acked_taken : acked ≤ length taker.taken
  pub no_message : waits (giver.layer.circuits k) ≡ 0
  pub opened : is_open (giver.layer.circuits k) ≡ true
  pub opened_there : is_open (taker.layer.circuits k) ≡ true
  pub same_name : name_of giver.layer k ≡ name_of taker.layer k

pub record ArrivesAll (w : TwoLayers) : Type 0 where
  pub near : (k acked : ℕ) → IsIdleTo k w.near w.far acked
      → HasAllOf k (name_of w.near.layer k) w.near.entries w.far.entries
  pub far : (k acked : ℕ) → IsIdleTo k w.far w.near acked
      → HasAllOf k (name_of w.far.layer k) w.far.entries w.near.entries

-- what each link handed down is what the other handed up, and then what is in flight
pub record KeepsOrder (w : TwoLayers) : Type 0 where
  pub near : w.near.given ≡ w.far.taken ++ w.out
  pub far : w.far.given ≡ w.near.taken ++ w.back
