-- What is acknowledged to an end, the other end has handed up. ITU-T X.25 (10/96), section 4.4.1.4.
use Rattle.std.specs.Prelude.{◌≡◌, ℕ, ◌≤◌, ◌++◌, length, take, true}
use Rattle.x25_circuit.specs.Circuit.{Talk, is_open}
use Rattle.x25_circuit.specs.Message.{carried}
use Rattle.x25_handshakes.specs.laws.Names.{Name}
use Rattle.x25_handshakes.specs.laws.Histories.{IsPrefix}
use Rattle.x25_layer.specs.laws.Transcript.{under, messages_in, name_of}
use Rattle.x25_layer.specs.laws.TwoLayers.{End, TwoLayers}

-- Of a stretch that is open on a channel, and the transcripts under its name: no more is acknowledged than was sent;
-- the messages that were handed down are those that its packets carry, sent or waiting; and of those that the other end
-- handed up, those that end in acknowledged packets are the first.
pub record AcknowledgedAreUp (k : ℕ) (name : Name) (t : Talk) (giver taker : End) : Type 0 where
  pub sent : t.acked ≤ length t.sent
  pub down : (messages_in (under k name giver.entries)).down ≡ carried (t.sent ++ t.rest)
  pub first : IsPrefix (carried (take t.acked t.sent)) (messages_in (under k name taker.entries)).up

pub record AcknowledgedAreHandedUp (w : TwoLayers) : Type 0 where
  pub near : (k : ℕ) → is_open (w.near.layer.circuits k) ≡ true
      → AcknowledgedAreUp k (name_of w.near.layer k) (w.near.layer.circuits k).talk w.near w.far
  pub far : (k : ℕ) → is_open (w.far.layer.circuits k) ≡ true
      → AcknowledgedAreUp k (name_of w.far.layer k) (w.far.layer.circuits k).talk w.far w.near
