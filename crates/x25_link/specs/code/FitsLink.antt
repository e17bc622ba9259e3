-- What contracts see of a link, and the states of the definition that it fits.
use Rattle.std.specs.Prelude.{◌≡◌, ℕ, ◌≤◌, Bool, List, Option, Result, ◌++◌, length, map, false}
use Rattle.std.specs.Prelude.{option_copied, IfOk, OnOk, OnErr}
use Rattle.x25_frame.specs.Spelling.{spelling_of}
use Rattle.x25_link.specs.declared.error.LinkError.{LinkError}
use Rattle.x25_link.specs.declared.heard.Heard.{Heard}
use Rattle.x25_link.specs.declared.station.LinkStation.{LinkStation as StationCode}
use Rattle.x25_link.specs.Outgoing.{waits}
use Rattle.x25_link.specs.Station.{LinkSettings, LinkStation, Lists, lists_of, is_up, may_send, owes_ready}
use Rattle.x25_link.specs.Hearing.{LinkStep, acknowledges}
use Rattle.x25_link.specs.Link.{RefusesOnly, put_step}
use Rattle.x25_link.specs.code.Fits.{FitsStation}

-- the variables of the station, and the frames that `swap_frames` will hand out
pub record ShownLink : Type 0 where
  pub station : StationCode
  pub frames : List (List ℕ)

-- the most octets of a packet, whether the link is up, and how many packets wait
abbrev pub limit_of : ShownLink → ℕ
limit_of v = v.station.parameters.n1

abbrev pub up_of : ShownLink → Bool
up_of v = is_up v.station.phase

abbrev pub waiting_of : ShownLink → ℕ
waiting_of v = length v.station.outgoing.queue.items

-- between calls nothing is left to be sent
pub record FitsLink (c : LinkSettings) (v : ShownLink) (s : LinkStation) : Type 0 where
  pub near : FitsStation c v.station s
  pub settled : may_send c.window s ≡ false
  pub calm : owes_ready s ≡ false

-- what is heard is that step's: the packet handed up, what is noted, and whether frames are acknowledged
pub record IsHeard (s : LinkStation) (heard : Heard) (step : LinkStep) : Type 0 where
  pub packet : option_copied heard.packet ≡ step.packet
  pub notes : heard.notes ≡ step.notes
  pub acknowledged : heard.acknowledged ≡ acknowledges s step

-- A call is refused as the definition says, or does its step. Of each state that the link stood for it leaves that
-- step's, and what is heard is that step's; its frames, nine at most, are those that `swap_frames` will hand out. Where
-- it is refused the link is as before.
pub record Does (old new : ShownLink) (result : Result Heard LinkError) (refusal : LinkStation → Option LinkError)
    (step : LinkSettings → LinkStation → LinkStep) : Type 0 where
  pub state : (c : LinkSettings) (s : LinkStation) → FitsLink c old s
      → OnOk result (FitsLink c new (step c s).side.near)
  pub frames : (c : LinkSettings) (s : LinkStation) → FitsLink c old s →
      OnOk result (new.frames ≡ map (spelling_of c.role) (step c s).side.out)
  pub heard : (c : LinkSettings) (s : LinkStation) → FitsLink c old s
      → IfOk result (λ heard. IsHeard s heard (step c s))
  pub few : OnOk result (length new.frames ≤ 9)
  pub refused : (c : LinkSettings) (s : LinkStation) → FitsLink c old s → RefusesOnly (refusal s) result
  pub err : OnErr result (new ≡ old)

-- ---- a link in one value

-- what it stands for: its settings, the station, and the frames that `swap_frames` will hand out
pub record LinkState : Type 0 where
  pub settings : LinkSettings
  pub station : LinkStation
  pub kept : List (List ℕ)

pub record FitsWhole (v : ShownLink) (x : LinkState) : Type 0 where
  pub link : FitsLink x.settings v x.station
  pub kept : v.frames ≡ x.kept

abbrev pub lists_in : LinkState → Lists
lists_in x = lists_of x.station

abbrev pub waits_of : LinkState → ℕ
waits_of x = waits x.station.outgoing

abbrev pub up_at : LinkState → Bool
up_at x = is_up x.station.phase

-- the packet is handed down, and the frames that go are kept
abbrev pub after_put_to : LinkState → List ℕ → LinkState
after_put_to x packet =
    let step = put_step x.settings packet x.station in
    record {
      settings = x.settings;
      station = step.side.near;
      kept = x.kept ++ map (spelling_of x.settings.role) step.side.out;
    }
