-- Our end as one that keeps the rules: what a circuit of the table is of a channel of such an end, with the data packets that wait in it; what a layer is
-- of its channels; and what a step of either is.
use Rattle.x25_layer.proofs.Names.{◌≡◌, ◌⊎◌, ℕ, ◌<◌, List, [], ◌∷◌, ◌++◌, length, Option, Some, None, Bool, true, false, if◌then◌else◌, option_to_list}
use Rattle.x25_layer.proofs.Names.{◌==◌, PlainPacket, HasChannel, State, Free, Calling, Arriving, Collision, Open, Resetting, Clearing, Params, default_params}
use Rattle.x25_layer.proofs.Names.{may_propose, Talk, silent, Circuit, forgotten, CallRequest, PlainNotice, Piece, carried, Side, Live, Left, At, state_of, has_left}
use Rattle.x25_layer.proofs.Names.{Packet, LayerPacket, Terms, Unused, Waiting, Offered, Crossed, Talking, bare, bare_layers, Handed, nothing_handed, added, IsQuiet}
use Rattle.x25_layer.proofs.Names.{AreQuiet, AreNoFaults, Name, same_name, Ranges, Layer, LayerNotice, Entry, under}
use Rattle.x25_circuit.specs.{Params.{called_terms, calling_terms}, laws.ParamsLaws.{FieldIsAllowed}}
use Rattle.x25_handshakes.proofs.{DeedLemmas.{Heard}, EndDeeds.{channel_deeds, layer_deeds}, StretchRelation.{Text}, TermsLemmas.{IsSound}}
use Rattle.x25_handshakes.specs.laws.{Calls.{Stage}, LawsBelow.{Laws}, PeerCalls.{PeerCall}, PeerClaims.{peer_transfer_of}, PeerLayer.{PeerChannels}}
use Rattle.x25_handshakes.specs.laws.{PeerStretch.{PeerStretch}, Terms.{with_longest}}
use Rattle.x25_layer.specs.laws.{PeerClaims.{peer_name}, Quiet.{IsNoFault}}

-- ---- a circuit

-- a stretch as the table has it, where these data packets wait
abbrev pub talk_of : PeerStretch → List Piece → Talk
talk_of y rest = record { sent = y.sent; taken = y.taken; acked = y.acked; rest = rest; int_out = y.int_out; peer_ready = y.peer_ready; own_ready = y.own_ready }

abbrev pub state_in_transfer : Side PeerStretch → State
state_in_transfer (Live y) = Open
state_in_transfer (Left y) = Resetting

abbrev pub state_in : Stage (At PeerStretch) → State
state_in Unused = Free
state_in (Waiting mine) = Calling
state_in (Offered theirs) = Arriving
state_in (Crossed mine) = Collision
state_in (Talking t b at) = state_in_transfer at.side

abbrev pub state_at : Side PeerCall → State
state_at (Live n) = state_in n.stage
state_at (Left n) = Clearing

abbrev pub talk_in_transfer : List Piece → Side PeerStretch → Talk
talk_in_transfer rest (Live y) = talk_of y rest
talk_in_transfer rest (Left y) = silent

abbrev pub talk_in : List Piece → Stage (At PeerStretch) → Talk
talk_in rest (Talking t b at) = talk_in_transfer rest at.side
talk_in rest other = silent

abbrev pub talk_at : List Piece → Side PeerCall → Talk
talk_at rest (Live n) = talk_in rest n.stage
talk_at rest (Left n) = silent

-- packet sizes and windows, and whether this end called
pub record Agreed : Type 0 where
  pub params : Params
  pub calls : Bool

-- where there is no call
abbrev pub unagreed : Agreed
unagreed = record { params = default_params; calls = false }

-- the terms of what an end sends, and of what it takes
abbrev pub sent_on : ℕ → Agreed → Terms
sent_on most g = with_longest most (if g.calls then calling_terms g.params else called_terms g.params)

abbrev pub taken_on : ℕ → Agreed → Terms
taken_on most g = with_longest most (if g.calls then called_terms g.params else calling_terms g.params)

-- those in force are told; others stand in the stage
abbrev pub agreed_in : Agreed → Stage (At PeerStretch) → Agreed
agreed_in g Unused = unagreed
agreed_in g (Waiting mine) = record { params = mine; calls = true }
agreed_in g (Offered theirs) = record { params = theirs; calls = false }
agreed_in g (Crossed mine) = record { params = mine; calls = true }
agreed_in g (Talking t b at) = g

abbrev pub agreed_at : Agreed → Side PeerCall → Agreed
agreed_at g (Live n) = agreed_in g n.stage
agreed_at g (Left n) = unagreed

-- how many resets a channel counts
abbrev pub resets_of : At PeerCall → ℕ
resets_of n = (peer_transfer_of (state_of n.side).stage).epoch

-- a channel of an end as a circuit of the table
abbrev pub view : Agreed → List Piece → At PeerCall → Circuit
view g rest n = record {
  state = state_at n.side;
  clears = n.epoch;
  resets = resets_of n;
  params = (agreed_at g n.side).params;
  calls = (agreed_at g n.side).calls;
  talk = talk_at rest n.side;
}

-- In d1 ours acknowledges and confirms at once, and what it sent with what waits is whole messages.
pub record Own (t : Terms) (y : PeerStretch) (rest : List Piece) : Type 0 where
  pub told : y.told ≡ length y.taken
  pub owed : y.owed ≡ 0
  pub text : Text t.longest t.size y.sent rest (carried (y.sent ++ rest))

abbrev pub OwnIn : Terms → List Piece → Side PeerStretch → Type 0
OwnIn t rest (Live y) = Own t y rest
OwnIn t rest (Left y) = Unit {0}

-- in p4 it goes by the terms that are agreed
pub record FitsTalk (most : ℕ) (g : Agreed) (rest : List Piece) (t b : Terms) (side : Side PeerStretch) : Type 0 where
  pub sends : t ≡ sent_on most g
  pub takes : b ≡ taken_on most g
  pub sound : IsSound t
  pub own : OwnIn t rest side

-- what is proposed may be
abbrev pub FitsIn : ℕ → Agreed → List Piece → Stage (At PeerStretch) → Type 0
FitsIn most g rest Unused = Unit {0}
FitsIn most g rest (Waiting mine) = may_propose mine ≡ true
FitsIn most g rest (Offered theirs) = may_propose theirs ≡ true
FitsIn most g rest (Crossed mine) = may_propose mine ≡ true
FitsIn most g rest (Talking t b at) = FitsTalk most g rest t b at.side

abbrev pub Fits : ℕ → Agreed → List Piece → Side PeerCall → Type 0
Fits most g rest (Live n) = FitsIn most g rest n.stage
Fits most g rest (Left n) = Unit {0}

-- the circuit is this channel, and these data packets wait in it
pub record Shows (most : ℕ) (c : Circuit) (n : At PeerCall) (rest : List Piece) : Type 0 where
  pub agreed : Agreed
  pub is : c ≡ view agreed rest n
  pub fits : Fits most agreed rest n.side

-- what is known of packet sizes and windows
pub record Known : Type 0 where
  pub laws : Laws
  pub field : FieldIsAllowed

-- what is put, if anything, by its kind
abbrev pub bare_if : ℕ → Option PlainPacket → List Packet
bare_if most None = []
bare_if most (Some packet) = bare most packet ∷ []

-- what is put, if anything, tells of no error and has a channel
abbrev pub IsQuietIf : Option PlainPacket → Type 0
IsQuietIf None = Unit {0}
IsQuietIf (Some packet) = IsQuiet packet × HasChannel packet

-- no notice tells of a fault
abbrev pub TellNoFault : List PlainNotice → Type 0
TellNoFault [] = Unit {0}
TellNoFault (notice ∷ notices) = IsNoFault notice × TellNoFault notices

-- ---- what a channel handed down and up under its present name

abbrev pub held_stage : List CallRequest → List CallRequest → List Piece → Stage (At PeerStretch) → Handed
held_stage made indicated rest (Talking t b at) = record {
  made = made;
  indicated = indicated;
  down = carried ((state_of at.side).sent ++ rest);
  up = carried (state_of at.side).taken;
  int_down = (state_of at.side).int_down;
  int_up = (state_of at.side).int_up;
}
held_stage made indicated rest other = record { made = made; indicated = indicated; down = []; up = []; int_down = []; int_up = [] }

abbrev pub held_of : At PeerCall → List Piece → Handed
held_of n rest = held_stage (state_of n.side).made (state_of n.side).indicated rest (state_of n.side).stage

-- no call is among these
abbrev pub HasNoCall : Handed → Type 0
HasNoCall h = (h.made ≡ []) × (h.indicated ≡ [])

-- an end that hands something up is in the clear epoch, or in the stretch, in which that came
pub record Tells (n : At PeerCall) (h : Handed) : Type 0 where
  pub calls : (h.indicated ≡ []) ⊎ (has_left n.side ≡ false)
  pub stretch : ((h.up ≡ []) × (h.int_up ≡ [])) ⊎ ((has_left n.side ≡ false) × (has_left (peer_transfer_of (state_of n.side).stage).side ≡ false))

-- The name stays, and these are added, of calls only before the first reset; or the name grows, and nothing is said.
pub data Notes (x : At PeerCall) (rest : List Piece) (y : At PeerCall) (waiting : List Piece) (h : Handed) : Type 0 where
  Adds : y.epoch ≡ x.epoch → resets_of y ≡ resets_of x → held_of y waiting ≡ added (held_of x rest) h → HasNoCall h ⊎ (resets_of y ≡ 0) → Tells y h
      → Notes x rest y waiting h
  AfterReset : y.epoch ≡ x.epoch → resets_of x < resets_of y → h ≡ nothing_handed
      → held_of y waiting ≡ held_stage (held_of x rest).made (held_of x rest).indicated [] Unused → Notes x rest y waiting h
  AfterClear : x.epoch < y.epoch → h ≡ nothing_handed → held_of y waiting ≡ nothing_handed → Notes x rest y waiting h

-- A row of the table is what an end does that stood at x: it is y once it took what came, by which it sent the first packets, and then it did nothing or
-- one thing. The row tells of no error of procedure.
pub record Goes (most : ℕ) (x : At PeerCall) (rest : List Piece) (y : At PeerCall) (first : List Packet) (next : Circuit) (owed : Option PlainPacket)
    (notices : List PlainNotice) (h : Handed) : Type 0 where
  pub end : At PeerCall
  pub waiting : List Piece
  pub shows : Shows most next end waiting
  pub heard : Heard channel_deeds y first end (bare_if most owed)
  pub quiet : IsQuietIf owed
  pub no_fault : TellNoFault notices
  pub notes : Notes x rest end waiting h

-- ---- a layer

abbrev pub circuit_at : At PeerChannels → ℕ → At PeerCall
circuit_at y k = state_of y.side k

-- of a channel in a layer that restarts nothing but its counts is kept
abbrev pub ShowsAt : ℕ → Side PeerChannels → (ℕ → List Piece) → ℕ → Circuit → Type 0
ShowsAt most (Live x) rest k c = Shows most c (x k) (rest k)
ShowsAt most (Left x) rest k c = c ≡ forgotten (view unagreed [] (x k))

pub record SeesLayer (most : ℕ) (l : Layer) (y : At PeerChannels) (rest : ℕ → List Piece) : Type 0 where
  pub restarting : l.restarting ≡ has_left y.side
  pub restarts : l.restarts ≡ y.epoch
  pub circuits : (k : ℕ) → ShowsAt most y.side rest k (l.circuits k)

abbrev pub put_rest : (ℕ → List Piece) → ℕ → List Piece → ℕ → List Piece
put_rest rest h w k = if k == h then w else rest k

-- what is said on channel k in a step: within a restart, or nothing at a new one
pub data TurnOf (k : ℕ) (x : At PeerChannels) (rest : ℕ → List Piece) (y : At PeerChannels) (waiting : ℕ → List Piece) (h : Handed) : Type 0 where
  Here : y.epoch ≡ x.epoch → Notes (circuit_at x k) (rest k) (circuit_at y k) (waiting k) h → (h ≡ nothing_handed) ⊎ (has_left y.side ≡ false)
      → TurnOf k x rest y waiting h
  Afresh : x.epoch < y.epoch → held_of (circuit_at y k) (waiting k) ≡ nothing_handed → h ≡ nothing_handed → TurnOf k x rest y waiting h

-- the same on each channel, and all of it stands under the name after the step
abbrev pub StepOf : At PeerChannels → (ℕ → List Piece) → At PeerChannels → (ℕ → List Piece) → List Entry → Type 0
StepOf x rest y waiting es =
    (k : ℕ) → (h : Handed) × TurnOf k x rest y waiting h × ((m : Name) → under k m es ≡ (if same_name m (peer_name y k) then h else nothing_handed))

-- what a layer does is what an end does, tells of no error, and says what that gains
pub record LayerGoes (most : ℕ) (channels : Ranges) (x : At PeerChannels) (rest : ℕ → List Piece) (y : At PeerChannels) (first : List LayerPacket)
    (next : Layer) (owed : Option PlainPacket) (notices : List LayerNotice) (es : List Entry) : Type 0 where
  pub end : At PeerChannels
  pub waiting : ℕ → List Piece
  pub sees : SeesLayer most next end waiting
  pub heard : Heard layer_deeds y first end (bare_layers most (option_to_list owed))
  pub quiet : AreQuiet channels (option_to_list owed)
  pub no_fault : AreNoFaults notices
  pub step : StepOf x rest end waiting es
