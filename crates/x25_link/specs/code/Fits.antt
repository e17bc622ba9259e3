-- Which states of the definition the code's variables stand for.
use Rattle.std.specs.Prelude.{◌≡◌, ℕ, List, ◌++◌, length, map, option_copied}
use Rattle.x25_frame.specs.Frame.{PlainFrame}
use Rattle.x25_frame.specs.Spelling.{spelling_of}
use Rattle.x25_window.specs.Receiver.{FitsTaken}
use Rattle.x25_link.specs.declared.station.LinkStation.{LinkStation as StationCode}
use Rattle.x25_link.specs.declared.heard.Heard.{Heard}
use Rattle.x25_link.specs.Hearing.{LinkStep, acknowledges}
use Rattle.x25_link.specs.code.OutgoingHeld.{FitsOutgoing}
use Rattle.x25_link.specs.Station.{LinkSettings, LinkStation, Side}

pub record FitsStation (c : LinkSettings) (v : StationCode) (s : LinkStation) : Type 0 where
  pub role : v.role ≡ c.role
  pub longest : v.parameters.n1 ≡ c.longest
  pub retries : v.parameters.n2 ≡ c.retries
  pub again : v.parameters.disc_again ≡ c.disc_again
  pub outgoing : FitsOutgoing c.window v.outgoing s.outgoing
  pub taken : FitsTaken v.receiver (length s.taken)
  pub phase : v.phase ≡ s.phase
  pub tries : v.tries ≡ s.tries
  pub recovery : v.recovery ≡ s.recovery
  pub peer_busy : v.peer_busy ≡ s.peer_busy
  pub rejecting : v.rejecting ≡ s.rejecting
  pub said_busy : v.said_busy ≡ s.said_busy
  pub closing : v.closing ≡ s.closing

-- the frames made are those that were there before the step, and then those sent, as the octets that spell them
abbrev pub Made : LinkSettings → List (List ℕ) → List (List ℕ) → List PlainFrame → Type 0
Made c before made frames = made ≡ before ++ map (spelling_of c.role) frames

pub record FitsSide (c : LinkSettings) (v : StationCode) (before made : List (List ℕ)) (t : Side) : Type 0 where
  pub near : FitsStation c v t.near
  pub out : Made c before made t.out

-- what was heard is that step's, from this state: the state and the frames, the packet handed up, what is noted, and
-- whether frames are acknowledged
pub record FitsHeard (c : LinkSettings) (v : StationCode) (s : LinkStation) (before made : List (List ℕ))
    (heard : Heard)
    (step : LinkStep) : Type 0 where
  pub side : FitsSide c v before made step.side
  pub packet : option_copied heard.packet ≡ step.packet
  pub notes : heard.notes ≡ step.notes
  pub acknowledged : heard.acknowledged ≡ acknowledges s step

-- ---- what a function of the station does, from each side that the code stands for

-- it leads to this side; the frames go behind those that were made
abbrev pub Leads : StationCode → StationCode → List (List ℕ) → List (List ℕ) → (LinkSettings → Side → Side) → Type 0
Leads v w had has f = (c : LinkSettings) (before : List (List ℕ)) (t : Side) → FitsSide c v before had t
    → FitsSide c w before has (f c t)

-- it leads to this step's side, and what is heard is that step's
abbrev pub Hears : StationCode → StationCode → List (List ℕ) → List (List ℕ) → Heard → (LinkSettings → Side → LinkStep)
    → Type 0
Hears v w had has heard f = (c : LinkSettings) (before : List (List ℕ)) (t : Side) → FitsSide c v before had t
    → FitsHeard c w t.near before has heard (f c t)

-- it leads to this side, and makes no frame
abbrev pub Turns : StationCode → StationCode → (LinkSettings → Side → Side) → Type 0
Turns v w f = (c : LinkSettings) (before made : List (List ℕ)) (t : Side) → FitsSide c v before made t
    → FitsSide c w before made (f c t)
