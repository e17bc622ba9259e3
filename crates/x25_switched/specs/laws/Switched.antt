-- A switch between two lines, one way: each line is a station of the switch beside any peer, as `BesideSessions` has
-- it. What the switch asks of its stations is free, but for what it hands down in the one stretch of the far line that
-- is bound to a stretch of the near line: there it hands on what was reported, in order.
use Rattle.std.specs.Prelude.{◌≡◌, ℕ, List, [], ◌∷◌, ◌++◌, length, drop}
use Rattle.x25_circuit.specs.Message.{Message}
use Rattle.x25_handshakes.specs.laws.{Names.{Name}}
use Rattle.x25_layer.specs.laws.Transcript.{Handed, under}
use Rattle.x25_station.specs.{Config.{Settings}, Entry.{layer_entries}}
use Rattle.x25_peer.specs.laws.BesideSessions.{BesideSessions, start, StationDoes, Elsewhere}

-- a stretch at a station of the switch: the session, the channel and the name
pub record Leg : Type 0 where
  pub session : ℕ
  pub channel : ℕ
  pub name : Name

-- what comes by the one goes on by the other
pub record Bond : Type 0 where
  pub near : Leg
  pub far : Leg

pub record Switched : Type 0 where
  pub near : BesideSessions
  pub far : BesideSessions

-- what was asked and reported in a stretch
abbrev pub handed_in : BesideSessions → Leg → Handed
handed_in w leg = under leg.channel leg.name (layer_entries (w.own leg.session).entries)

-- reported to the switch, and handed down by it
abbrev pub messages_up : BesideSessions → Leg → List Message
messages_up w leg = (handed_in w leg).up

abbrev pub messages_down : BesideSessions → Leg → List Message
messages_down w leg = (handed_in w leg).down

abbrev pub interrupts_up : BesideSessions → Leg → List (List ℕ)
interrupts_up w leg = (handed_in w leg).int_up

abbrev pub interrupts_down : BesideSessions → Leg → List (List ℕ)
interrupts_down w leg = (handed_in w leg).int_down

-- the messages that wait in the switch
abbrev pub waiting : Bond → Switched → List Message
waiting b s = drop (length (messages_down s.far b.far)) (messages_up s.near b.near)

-- anything may happen at a line
pub data Goes (c : Settings) (w v : BesideSessions) : Type 0 where
  Here : StationDoes c w v → Goes c w v
  There : Elsewhere c w v → Goes c w v

-- what is handed down is as it was, or one more: the next of these
pub data HandsOn {T : Type 0} (up down next : List T) : Type 0 where
  Nothing : next ≡ down → HandsOn up down next
  Next : (x : T) (rest : List T) → drop (length down) up ≡ x ∷ rest → next ≡ down ++ x ∷ [] → HandsOn up down next

-- What may happen: something at the near line; or something at the far line by which nothing is handed down in the
-- bound stretch but what waits, its first one first.
pub data Happens (c d : Settings) (b : Bond) (s : Switched) : Switched → Type 0 where
  Near : (v : BesideSessions) → Goes c s.near v → Happens c d b s (record s { near = v })
  Far : (v : BesideSessions) → Goes d s.far v
      → HandsOn (messages_up s.near b.near) (messages_down s.far b.far) (messages_down v b.far)
      → HandsOn (interrupts_up s.near b.near) (interrupts_down s.far b.far) (interrupts_down v b.far)
      → Happens c d b s (record s { far = v })

pub data ReachedThrough (c d : Settings) (b : Bond) : Switched → Type 0 where
  at_start : ReachedThrough c d b (record { near = start c; far = start d })
  goes_on : (s t : Switched) → ReachedThrough c d b s → Happens c d b s t → ReachedThrough c d b t
