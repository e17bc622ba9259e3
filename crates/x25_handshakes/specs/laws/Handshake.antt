-- Two ends that end their epochs by a request and its confirmation: what a packet is in that, and what an end is.
use Rattle.std.specs.Prelude.{ℕ, List, Bool, true, false}

-- what a packet is at this level
pub data Mark : Type 0 where
  Inner : Mark
  Request : Mark
  Confirm : Mark

-- an end: it is in its epoch, in this state, or has left it, in that state (which is kept as a ghost)
pub data Side (S : Type 0) : Type 0 where
  Live : S → Side S
  Left : S → Side S

abbrev pub has_left : {S : Type 0} → Side S → Bool
has_left (Live x) = false
has_left (Left x) = true

-- an end of a level: its epoch, and its state there
pub record At (S : Type 0) : Type 0 where
  pub epoch : ℕ
  pub side : Side S

abbrev pub live : {S : Type 0} → ℕ → S → At S
live e x = record { epoch = e; side = Live x }

abbrev pub left : {S : Type 0} → ℕ → S → At S
left e x = record { epoch = e; side = Left x }

-- what a step leaves, and the packets that it sends
pub record PeerStep (S P : Type 0) : Type 0 where
  pub next : S
  pub out : List P

-- two ends that keep the rules, and the packets on the way from the near one and to it, front first
pub record Two (S P : Type 0) : Type 0 where
  pub near : At S
  pub far : At S
  pub out : List P
  pub back : List P

-- seen from the far end
abbrev pub swapped : {S P : Type 0} → Two S P → Two S P
swapped w = record { near = w.far; far = w.near; out = w.back; back = w.out }

-- the state of an end, or the one in which it left
abbrev pub state_of : {S : Type 0} → Side S → S
state_of (Live x) = x
state_of (Left x) = x
