-- A layer over a link: each call's own packet is put, and then the data packets of all channels, in rounds. The
-- refusals and the rounds are of the profile.
use Rattle.std.specs.Prelude.{ℕ, zero, suc, ◌+◌, ◌-◌, List, [], ◌∷◌, ◌++◌, length, option_to_list, Option, Some, None}
use Rattle.std.specs.Prelude.{Bool, nat_lt, ◌==◌, if◌then◌else◌}
use Rattle.x25_packet.specs.Packet.{PlainPacket}
use Rattle.x25_circuit.specs.Circuit.{Circuit}
use Rattle.x25_layer.specs.declared.error.LayerError.{LayerError}
use Rattle.x25_layer.specs.declared.error.LayerError.TheVariants as error
use Rattle.x25_layer.specs.Layer.{LayerSettings, Layer, LayerNotice, LayerAnswer, goes_up}
use Rattle.x25_layer.specs.Calls.{LayerRequest, LayerOutcome, Accepted, Declined, layer_outcome, LayerPulled}
use Rattle.x25_layer.specs.Calls.{layer_pulled}
use Rattle.x25_layer.specs.Receiving.{layer_hears}

-- What a layer sees at the start of a step: whether its link is up, how many packets wait once these were put, and the
-- turn, the channel behind which the rounds go on.
pub record LinkView : Type 0 where
  pub is_up : Bool
  pub waits : List PlainPacket → ℕ
  pub turn : ℕ

-- a layer within a step, the packets put in it so far, in order, and the turn
pub record Putting : Type 0 where
  pub layer : Layer
  pub put : List PlainPacket
  pub turn : ℕ

-- a step that puts a packet at once, or none, and whose turn is the first channel's
abbrev pub begin : Layer → Option PlainPacket → Putting
begin layer packet = record { layer = layer; put = option_to_list packet; turn = 0 }

-- ---- rounds

abbrev pub with_pulled : ℕ → Putting → LayerPulled → Option PlainPacket → Putting
with_pulled h s p None = s
with_pulled h s p (Some packet) = record { layer = p.next; put = s.put ++ packet ∷ []; turn = h }

-- one packet of a channel, where fewer than 8 packets wait in the link; its turn is over then
abbrev pub pull_one : LinkView → LayerSettings → ℕ → Putting → Putting
pull_one link c h s = if nat_lt (link.waits s.put) 8
    then with_pulled h s (layer_pulled c s.layer h) (layer_pulled c s.layer h).packet else s

-- one packet of each of so many channels behind one, in rising order
abbrev pub round : LinkView → LayerSettings → ℕ → ℕ → Putting → Putting
round link c behind zero s = s
round link c behind (suc n) s = pull_one link c (behind + suc n) (round link c behind n s)

-- how many data packets of the channels up to a number are still to be sent
abbrev pub backlog : (ℕ → Circuit) → ℕ → ℕ
backlog circuits zero = 0
backlog circuits (suc n) = backlog circuits n + length (circuits (suc n)).talk.rest

abbrev pub rounds_of : ℕ → LinkView → LayerSettings → Putting → Putting
rounds_of zero link c s = s
rounds_of (suc n) link c s = rounds_of n link c (round link c 0 c.channels.count s)

-- Rounds until one gives none: each that gives one leaves fewer to be sent, and behind one that gives none the others
-- give none.
abbrev pub whole_rounds : LinkView → LayerSettings → Putting → Putting
whole_rounds link c s = rounds_of (backlog s.layer.circuits c.channels.count) link c s

abbrev pub at_turn : ℕ → Putting → Putting
at_turn turn s = record { layer = s.layer; put = s.put; turn = turn }

-- the round that 8 packets cut is ended
abbrev pub rest_of_round : LinkView → LayerSettings → Putting → Putting
rest_of_round link c s = round link c link.turn (c.channels.count - link.turn) (at_turn link.turn s)

-- where nothing more is to be given the turn is the first channel's, and where 8 packets wait it is as it stands
abbrev pub turn_behind : LinkView → Putting → ℕ
turn_behind link s = if nat_lt (link.waits s.put) 8 then 0 else s.turn

abbrev pub ended : LinkView → Putting → Putting
ended link s = at_turn (turn_behind link s) s

-- The rest of the round that was cut, and then whole rounds. So the channels have their turns whatever comes between:
-- behind one that gives a packet each other that may give one gives it before that one gives the next.
abbrev pub rounds : LinkView → LayerSettings → Putting → Putting
rounds link c s = ended link (whole_rounds link c (rest_of_round link c s))

-- ---- calls of the user

pub data Answered : Type 0 where
  Went : (step : Putting) → Answered
  Refuses : (error : LayerError) → Answered

abbrev pub went : LinkView → LayerSettings → LayerOutcome → Answered
went link c (Accepted next packet) = Went (rounds link c (begin next packet))
went link c (Declined e) = Refuses e

-- refused with 9 where the link isn't up; 256 packets are a full queue
abbrev pub calls : LinkView → LayerSettings → Layer → LayerRequest → Answered
calls link c l request = if link.is_up then went link c (layer_outcome c (link.waits [] == 256) l request)
    else Refuses error.NotUp

-- why it is refused, if it is
abbrev pub refusal_of : Answered → Option LayerError
refusal_of (Went step) = None
refusal_of (Refuses e) = Some e

-- ---- what the link hands up or notes

pub record Heard : Type 0 where
  pub step : Putting
  pub notices : List LayerNotice

abbrev pub heard : LinkView → LayerSettings → LayerAnswer → Heard
heard link c a = record { step = rounds link c (begin a.next a.owed); notices = a.notices }

abbrev pub hears : LinkView → LayerSettings → Bool → Layer → List ℕ → Heard
hears link c wide l octets = heard link c (layer_hears c wide l octets)

-- the link came up: RESTART is put, and nothing else, since no circuit has anything to send
abbrev pub comes_up : LinkView → LayerSettings → Heard
comes_up link c = record { step = begin (goes_up c).next (goes_up c).owed; notices = (goes_up c).notices }
