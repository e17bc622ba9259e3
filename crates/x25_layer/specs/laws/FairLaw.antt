-- No channel that may send a data packet waits for ever: each packet that another gives brings its turn nearer.
use Rattle.std.specs.Prelude.{◌≡◌, ◌⊎◌, ◌≤◌, ◌<◌, ℕ, ◌+◌, ◌-◌, List, ◌++◌, length, nat_lt, if◌then◌else◌, true, IsSome}
use Rattle.x25_packet.specs.Packet.{PlainPacket}
use Rattle.x25_layer.specs.Layer.{LayerSettings, is_channel}
use Rattle.x25_layer.specs.Calls.{layer_pulled}
use Rattle.x25_layer.specs.laws.Rounds.{LinkView, Putting, rounds}

-- how many turns it is to a channel: of those behind the turn in rising order, and then of those from the first
abbrev pub turns_to : ℕ → ℕ → ℕ → ℕ
turns_to count turn h = if nat_lt turn h then h - turn else (count - turn) + h

-- how many data packets of a channel are still to be sent
abbrev pub left_on : ℕ → Putting → ℕ
left_on h s = length (s.layer.circuits h).talk.rest

-- Rounds in which a channel gives none: its circuit is as it was, 8 packets wait, and each packet that was given
-- brought its turn nearer by one channel at least.
pub record ComesNearer (link : LinkView) (c : LayerSettings) (s : Putting) (h : ℕ) : Type 0 where
  pub same : (rounds link c s).layer.circuits h ≡ s.layer.circuits h
  pub more : List PlainPacket
  pub put : (rounds link c s).put ≡ s.put ++ more
  pub nearer : turns_to c.channels.count (rounds link c s).turn h + length more ≤ turns_to c.channels.count link.turn h
  pub full : 8 ≤ link.waits (rounds link c s).put

-- A channel that may send a packet sends one in the rounds of this step, or they bring its turn nearer. So before its
-- next one at most n - 1 packets of the n - 1 others go, and it goes in one of the next n steps that find room: where
-- the link has room (fewer than 8 wait) and one channel may send, `full` makes `more` not empty.
abbrev pub EachHasItsTurn : Type 0
EachHasItsTurn = (link : LinkView) (c : LayerSettings) (s : Putting) (h : ℕ) → is_channel c.channels h ≡ true
    → link.turn ≤ c.channels.count → IsSome (layer_pulled c s.layer h).packet →
    (left_on h (rounds link c s) < left_on h s) ⊎ ComesNearer link c s h
