-- What the calls of a layer leave of it, and leave to be put.
use Rattle.std.specs.Prelude.{◌≡◌, ◌⊎◌, ℕ, ◌<◌, ◌≤◌, List, [], length, Option, Some, None, Result, Err, Bool, true}
use Rattle.std.specs.Prelude.{false, IfSome, OnOk}
use Rattle.std.specs.Prelude.{OnErr, IsErrOf, MatchOption, MatchResult}
use Rattle.x25_packet.specs.Packet.{PlainPacket}
use Rattle.x25_packet.specs.Spelling.{spelling_of}
use Rattle.x25_layer.specs.declared.error.LayerError.{LayerError}
use Rattle.x25_layer.specs.declared.error.LayerError.TheVariants as error
use Rattle.x25_layer.specs.declared.layer.Layer as code
use Rattle.x25_layer.specs.declared.link_state.LinkState.{LinkState}
use Rattle.x25_layer.specs.declared.report.Report.{Report}
use Rattle.x25_layer.specs.declared.report.Report.TheVariants as tells
use Rattle.x25_layer.specs.Layer.{LayerSettings, Layer, LayerAnswer}
use Rattle.x25_layer.specs.Calls.{LayerRequest, LayerOutcome, Accepted, Declined, asks_memory, asked_where}
use Rattle.x25_layer.specs.Calls.{layer_pulled}
use Rattle.x25_layer.specs.Report.{plain_report, has_message}
use Rattle.x25_layer.specs.code.FitsLayer.{FitsLayer}
use Rattle.x25_layer.specs.code.Pulling.{IsPut}

-- the octets of the packet that is to be put, and none where there is none
abbrev pub spelled : Option PlainPacket → List ℕ
spelled None = []
spelled (Some packet) = spelling_of packet

-- ---- what came

-- What came is heard as the answer says, and the packet owed for it is to be put. The octets of a message were these
-- and are those behind them: where none is told they are as they were.
pub record Hears (old new : code.Layer) (t : Report) (before after : List ℕ)
    (answer : LayerSettings → Layer → LayerAnswer) : Type 0 where
  pub layer : (c : LayerSettings) (l : Layer) → FitsLayer c old l → FitsLayer c new (answer c l).next
  pub put : (c : LayerSettings) (l : Layer) → FitsLayer c old l → new.sheet ≡ spelled (answer c l).owed
  pub told : (c : LayerSettings) (l : Layer) → FitsLayer c old l → plain_report after t ≡ (answer c l).notices
  pub nothing : plain_report [] t ≡ [] → t ≡ tells.Nothing
  pub short : length new.sheet ≤ 260
  pub kept : has_message t ≡ false → after ≡ before

-- ---- what a call of the user leaves and answers

-- The layer and what is to be put are those of the outcome, or 70 is answered; or the call is refused so.
abbrev pub Gives : {T : Type 0} → LayerSettings → code.Layer → Result T LayerError → LayerOutcome → Type 0
Gives c v result (Accepted next packet) =
    MatchResult result (λ _. FitsLayer c v next × (v.sheet ≡ spelled packet)) (λ e. e ≡ error.NoMemory)
Gives c v result (Declined e) = result ≡ Err e

-- A call of the user does to a layer what the definition says of it, or it is refused and the layer is as before. 70
-- comes only where a circuit may ask for memory.
pub record Does {T : Type 0} (old new : code.Layer) (result : Result T LayerError) (asks : Bool)
    (said : LayerSettings → Layer → LayerOutcome) : Type 0 where
  pub gives : (c : LayerSettings) (l : Layer) → FitsLayer c old l → Gives c new result (said c l)
  pub stays : (c : LayerSettings) (l : Layer) → FitsLayer c old l → OnErr result (FitsLayer c new l)
  pub short : OnOk result (length new.sheet ≤ 260)
  pub missing : IsErrOf result error.NoMemory → asks ≡ true

-- A call does what the definition says of this request. Where it is accepted the link is up, and not full where a
-- packet is to be put.
pub record Answers {T : Type 0} (old new : code.Layer) (result : Result T LayerError) (link : LinkState)
    (request : LayerRequest) : Type 0 where
  pub does : Does old new result (asks_memory request) (λ c l. asked_where c link.is_up link.is_full l request)
  pub up : OnOk result (link.is_up ≡ true)
  pub free : OnOk result ((new.sheet ≡ []) ⊎ (link.is_full ≡ false))

-- ---- what is pulled

-- the packet of this channel is the next, and is to be put
pub record GivesNext (c : LayerSettings) (l : Layer) (v : code.Layer) (behind channel : ℕ) : Type 0 where
  pub configured : channel ≤ c.channels.count
  pub between : (k : ℕ) → behind < k → k < channel → (layer_pulled c l k).packet ≡ None
  pub layer : FitsLayer c v (layer_pulled c l channel).next
  pub put : IsPut true v.sheet (layer_pulled c l channel).packet

-- no channel has one
pub record GivesNone (c : LayerSettings) (l : Layer) (v : code.Layer) (behind : ℕ) : Type 0 where
  pub between : (k : ℕ) → behind < k → k ≤ c.channels.count → (layer_pulled c l k).packet ≡ None
  pub layer : FitsLayer c v l

-- The next data packet of the channels behind one is to be put, where one of them may send one.
pub record PullsNext (old new : code.Layer) (behind : ℕ) (result : Option ℕ) : Type 0 where
  pub next : (c : LayerSettings) (l : Layer) → FitsLayer c old l
      → MatchOption result (GivesNone c l new behind) (λ channel. GivesNext c l new behind channel)
  pub higher : IfSome result (λ channel. behind < channel)
  pub within : IfSome result (λ channel. channel ≤ 4095)
  pub long : IfSome result (λ _. length new.sheet ≤ 4099)
