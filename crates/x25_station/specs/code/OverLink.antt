-- The packet layer over the link: the link's state after packets were put, what the layer sees of it, and what the
-- calls of the layer leave where what they have to put is put, and then what is pulled.
use Rattle.std.specs.Prelude.{◌≡◌, ℕ, List, [], ◌∷◌, true, Option, Some, None, Result, Err, OnOk, OnErr, IsErrOf}
use Rattle.std.specs.Prelude.{MatchResult}
use Rattle.x25_packet.specs.Packet.{PlainPacket}
use Rattle.x25_packet.specs.Spelling.{spelling_of}
use Rattle.x25_link.specs.code.FitsLink.{ShownLink, LinkState, FitsWhole, up_at, waits_of, after_put_to}
use Rattle.x25_layer.specs.declared.error.LayerError.{LayerError}
use Rattle.x25_layer.specs.declared.error.LayerError.TheVariants as error
use Rattle.x25_layer.specs.declared.layer.Layer as code
use Rattle.x25_layer.specs.Layer.{LayerSettings, Layer}
use Rattle.x25_layer.specs.Calls.{LayerRequest, asks_memory}
use Rattle.x25_layer.specs.laws.Rounds.{LinkView, Answered, Went, Refuses, calls}
use Rattle.x25_layer.specs.code.FitsLayer.{FitsLayer}
use Rattle.x25_given.specs.Given.{PlainGiven}
use Rattle.x25_given.specs.Writing.{write}

-- the state of the link after these packets were put
abbrev pub after_all : LinkState → List PlainPacket → LinkState
after_all x [] = x
after_all x (packet ∷ packets) = after_all (after_put_to x (spelling_of packet)) packets

-- what the layer sees of a link in this state, and whose turn it is
abbrev pub seen_at : ℕ → LinkState → LinkView
seen_at turn x = record { is_up = up_at x; waits = λ packets. waits_of (after_all x packets); turn = turn }

-- the state after octets were put, where there are any
abbrev pub after_octets : LinkState → List ℕ → LinkState
after_octets x [] = x
after_octets x (octet ∷ octets) = after_put_to x (octet ∷ octets)

-- ---- what a call of the user leaves and answers

-- where the call is accepted, the turn is that of the step
abbrev pub TurnGives : {T : Type 0} → ℕ → Result T LayerError → Answered → Type 0
TurnGives turn result (Went s) = OnOk result (turn ≡ s.turn)
TurnGives turn result (Refuses e) = Unit {0}

-- The layer is that of the step, or 70 is answered; or the call is refused so.
abbrev pub LayerGives : {T : Type 0} → LayerSettings → code.Layer → Result T LayerError → Answered → Type 0
LayerGives c v result (Went s) = MatchResult result (λ _. FitsLayer c v s.layer) (λ e. e ≡ error.NoMemory)
LayerGives c v result (Refuses e) = result ≡ Err e

-- An accepted call leaves a link that fits the state after the packets of the step.
abbrev pub LinkGives : {T : Type 0} → ShownLink → LinkState → Result T LayerError → Answered → Type 0
LinkGives m x result (Went s) = OnOk result (FitsWhole m (after_all x s.put))
LinkGives m x result (Refuses e) = result ≡ Err e

-- A call of the user does to the layer and the link what the definition says of it, or it is refused and both are as
-- before. 70 comes only where a circuit may ask for memory.
pub record Drives {T : Type 0} (old : code.Layer) (below : ShownLink) (turn : ℕ) (new : code.Layer)
    (below₂ : ShownLink) (turn₂ : ℕ) (result : Result T LayerError) (request : LayerRequest) : Type 0 where
  pub layer : (c : LayerSettings) (l : Layer) (x : LinkState) → FitsLayer c old l → FitsWhole below x
      → LayerGives c new result (calls (seen_at turn x) c l request)
  pub link : (c : LayerSettings) (l : Layer) (x : LinkState) → FitsLayer c old l → FitsWhole below x
      → LinkGives below₂ x result (calls (seen_at turn x) c l request)
  pub turns : (c : LayerSettings) (l : Layer) (x : LinkState) → FitsLayer c old l → FitsWhole below x
      → TurnGives turn₂ result (calls (seen_at turn x) c l request)
  pub layer_stays : (c : LayerSettings) (l : Layer) → FitsLayer c old l → OnErr result (FitsLayer c new l)
  pub link_stays : (x : LinkState) → FitsWhole below x → OnErr result (FitsWhole below₂ x)
  pub turn_stays : OnErr result (turn₂ ≡ turn)
  pub missing : IsErrOf result error.NoMemory → asks_memory request ≡ true

-- ---- with something given beside the packet

-- the first packet is put with what is given
abbrev pub all_with : PlainGiven → LinkState → List PlainPacket → LinkState
all_with g x [] = x
all_with g x (packet ∷ packets) = after_all (after_put_to x (write g (spelling_of packet))) packets

abbrev pub seen_with : PlainGiven → ℕ → LinkState → LinkView
seen_with g turn x = record { is_up = up_at x; waits = λ packets. waits_of (all_with g x packets); turn = turn }

abbrev pub GoesWith : {T : Type 0} → ShownLink → PlainGiven → LinkState → Result T LayerError → Answered → Type 0
GoesWith m g x result (Went s) = OnOk result (FitsWhole m (all_with g x s.put))
GoesWith m g x result (Refuses e) = Unit {0}

pub record DrivesWith {T : Type 0} (g : PlainGiven) (old : code.Layer) (below : ShownLink) (turn : ℕ) (new : code.Layer)
    (below₂ : ShownLink) (turn₂ : ℕ) (result : Result T LayerError) (request : LayerRequest) : Type 0 where
  pub layer : (c : LayerSettings) (l : Layer) (x : LinkState) → FitsLayer c old l → FitsWhole below x
      → LayerGives c new result (calls (seen_with g turn x) c l request)
  pub link : (c : LayerSettings) (l : Layer) (x : LinkState) → FitsLayer c old l → FitsWhole below x
      → GoesWith below₂ g x result (calls (seen_with g turn x) c l request)
  pub turns : (c : LayerSettings) (l : Layer) (x : LinkState) → FitsLayer c old l → FitsWhole below x
      → TurnGives turn₂ result (calls (seen_with g turn x) c l request)
  pub layer_stays : (c : LayerSettings) (l : Layer) → FitsLayer c old l → OnErr result (FitsLayer c new l)
  pub link_stays : (x : LinkState) → FitsWhole below x → OnErr result (FitsWhole below₂ x)
  pub turn_stays : OnErr result (turn₂ ≡ turn)
  pub missing : IsErrOf result error.NoMemory → asks_memory request ≡ true

-- ---- with or without it

abbrev pub all_asked : Option PlainGiven → LinkState → List PlainPacket → LinkState
all_asked None = after_all
all_asked (Some g) = all_with g

abbrev pub seen_asked : Option PlainGiven → ℕ → LinkState → LinkView
seen_asked None = seen_at
seen_asked (Some g) = seen_with g

abbrev pub DrivesAsked : {T : Type 0} → Option PlainGiven → code.Layer → ShownLink → ℕ → code.Layer → ShownLink → ℕ
    → Result T LayerError → LayerRequest → Type 0
DrivesAsked None = Drives
DrivesAsked (Some g) = DrivesWith g
