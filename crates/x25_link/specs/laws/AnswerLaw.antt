-- What a station asks when timer T1 runs out, and how each numbered frame is answered: a poll by F=1 first, F=1 by what
-- isn't acknowledged from the first on, and the I frame that is wanted by a frame with the new N(R). ITU-T X.25
-- (10/96), sections 2.4.5 and 2.4.6.
use Rattle.std.specs.Prelude.{◌≡◌, ℕ, ◌+◌, ◌-◌, ◌*◌, ◌%◌, ◌<◌, ◌≤◌, max, ◌==◌, Bool, true, false, not, if◌then◌else◌}
use Rattle.std.specs.Prelude.{List, [], ◌∷◌, ◌++◌, length, Some, None, Ok}
use Rattle.x25_frame.specs.Frame.{PlainFrame, info, rr, rnr, rej, dm}
use Rattle.x25_frame.specs.Reading.{frame_of}
use Rattle.x25_window.specs.code.Modulo.{resolved}
use Rattle.x25_link.specs.declared.phase.Phase.TheVariants.{Down, Up}
use Rattle.x25_link.specs.Station.{LinkSettings, LinkStation, with_nothing, is_up, is_busy, wanted}
use Rattle.x25_link.specs.Hearing.{LinkStep, other, is_valid, is_taken}
use Rattle.x25_link.specs.Link.{take_step, timer_step}
use Rattle.x25_link.specs.laws.WindowLaw.{IsOut}

-- RNR where the sender is busy, else RR
abbrev pub says : Bool → Bool → ℕ → Bool → PlainFrame
says false command nr pf = rr command nr pf
says true command nr pf = rnr command nr pf

-- what the sending rule sends: the I frames of the numbers from n up to m, with P=0, and RR responses with F=0, each
-- with N(R) r
abbrev pub AreNext : ℕ → ℕ → List PlainFrame → ℕ → Type 0
AreNext r n [] m = n ≡ m
AreNext r n (info ns nr p packet ∷ frames) m = (ns ≡ n % 8) × (nr ≡ r % 8) × (p ≡ false) × AreNext r (n + 1) frames m
AreNext r n (rr command nr pf ∷ frames) m = (command ≡ false) × (nr ≡ r % 8) × (pf ≡ false) × AreNext r n frames m
AreNext r n (frame ∷ frames) m = ⊥

-- What such frames weigh, an I frame 3 and any other 1, so that a packet that is still to be sent, at 4, outweighs its
-- frame; and an RNR that is still to be ended.
abbrev pub weight_of : List PlainFrame → ℕ
weight_of [] = 0
weight_of (info ns nr p packet ∷ frames) = 3 + weight_of frames
weight_of (frame ∷ frames) = 1 + weight_of frames

abbrev pub weight_if : Bool → ℕ
weight_if true = 1
weight_if false = 0

-- What a step makes of a station: `recovery`, `peer_busy` and the tries; the packets handed up; all below `acked` are
-- acknowledged; `first` is sent, by which RNR was said last or not (`said_busy`), and then the I frames from `place`
-- on, none in recovery, and RR only to end an RNR.
pub record Outcome : Type 0 where
  pub recovery : Bool
  pub peer_busy : Bool
  pub said_busy : Bool
  pub tries : ℕ
  pub taken : List (List ℕ)
  pub acked : ℕ
  pub place : ℕ
  pub first : List PlainFrame

pub record Answers (s : LinkStation) (o : Outcome) (step : LinkStep) : Type 0 where
  pub up : is_up step.side.near.phase ≡ true
  pub recovery : step.side.near.recovery ≡ o.recovery
  pub peer_busy : step.side.near.peer_busy ≡ o.peer_busy
  pub tries : step.side.near.tries ≡ o.tries
  pub taken : step.side.near.taken ≡ o.taken
  pub given : step.side.near.outgoing.given ≡ s.outgoing.given
  pub acked : step.side.near.outgoing.acked ≡ o.acked
  pub next : List PlainFrame
  pub out : step.side.out ≡ o.first ++ next
  pub sends : AreNext (length o.taken) o.place next step.side.near.outgoing.place
  pub held : o.recovery ≡ true → step.side.near.outgoing.place ≡ o.place
  pub light : weight_of next + 4 * (length s.outgoing.given - step.side.near.outgoing.place)
      + weight_if step.side.near.said_busy ≤ 4 * (length s.outgoing.given - o.place) + weight_if o.said_busy
  pub quiet : step.notes ≡ record { down = None; up = false }

-- ---- timer T1 (section 2.4.5.9)

-- Below N2 tries, one poll is sent, RR or RNR with V(R), and recovery begins. No number moves.
pub record Asks (s : LinkStation) (step : LinkStep) : Type 0 where
  pub near : step.side.near ≡ record s { tries = s.tries + 1; recovery = true; said_busy = is_busy s }
  pub out : step.side.out ≡ says (is_busy s) true (wanted s) true ∷ []
  pub packet : step.packet ≡ None
  pub quiet : step.notes ≡ record { down = None; up = false }

abbrev pub TimerAsks : Type 0
TimerAsks = (c : LinkSettings) (s : LinkStation) → s.phase ≡ Up → s.tries < c.retries → Asks s (timer_step c s)

-- ---- numbered frames

-- the number that an N(R) stands for, and the tries once it is heard
abbrev pub heard : ℕ → LinkStation → ℕ
heard nr s = resolved s.outgoing.acked nr

abbrev pub heard_tries : ℕ → LinkStation → ℕ
heard_tries nr s = if heard nr s == s.outgoing.acked then s.tries else 0

-- once an N(R) is heard, from V(S) on
abbrev pub goes_on_from : ℕ → LinkStation → Outcome
goes_on_from nr s = record {
  recovery = s.recovery;
  peer_busy = s.peer_busy;
  said_busy = s.said_busy;
  tries = heard_tries nr s;
  taken = s.taken;
  acked = heard nr s;
  place = max s.outgoing.place (heard nr s);
  first = [];
}

-- octets that spell this frame, with a valid N(R), come while the station is Up
abbrev pub Hears : ℕ → PlainFrame → (LinkStation → LinkStep → Type 0) → Type 0
Hears nr frame Then = (c : LinkSettings) (octets : List ℕ) (s : LinkStation) → s.phase ≡ Up
    → frame_of (other c.role) c.longest octets ≡ Ok frame → is_valid nr s ≡ true → Then s (take_step c octets s)

-- A poll: the first answer is RR or RNR with F=1 and V(R) (section 2.4.5.9).
abbrev pub PollIsAnswered : Type 0
PollIsAnswered = (busy : Bool) (nr : ℕ) → Hears nr (says busy true nr true)
    (λ s step. Answers s (record (goes_on_from nr s) {
      peer_busy = busy;
      said_busy = is_busy s;
      first = says (is_busy s) false (wanted s) true ∷ [];
    }) step)

-- F=1 ends recovery, and what isn't acknowledged goes again, from the first on (section 2.4.5.9).
abbrev pub FinalEndsRecovery : Type 0
FinalEndsRecovery = (busy : Bool) (nr : ℕ) → Hears nr (says busy false nr true)
    (λ s step. Answers s
    (record (goes_on_from nr s) { recovery = false; peer_busy = busy; tries = 0; place = heard nr s }) step)

-- RR or RNR that neither asks nor answers tells the peer's condition (sections 2.4.5.5 and 2.4.5.7)
abbrev pub ReadyIsHeard : Type 0
ReadyIsHeard = (busy command : Bool) (nr : ℕ)
    → Hears nr (says busy command nr false) (λ s step. Answers s (record (goes_on_from nr s) { peer_busy = busy }) step)

-- REJ: what isn't acknowledged goes again, from the first on (section 2.4.5.6)
abbrev pub RejGoesBack : Type 0
RejGoesBack = (command : Bool) (nr : ℕ) → Hears nr (rej command nr false)
    (λ s step. Answers s (record (goes_on_from nr s) { peer_busy = false; place = heard nr s }) step)

-- ---- I frames

-- It is taken and handed up, no REJ condition stands, and at least one frame with the new V(R) goes.
pub record IsTakenUp (s : LinkStation) (x : List ℕ) (o : Outcome) (step : LinkStep) : Type 0 where
  pub answers : Answers s o step
  pub packet : step.packet ≡ Some x
  pub rejecting : step.side.near.rejecting ≡ false
  pub speaks : step.side.out ≡ [] → ⊥

-- with P=1 it is answered by RR with F=1, with P=0 by an I frame that goes, or by RR where none may
abbrev pub confirms : Bool → Bool → ℕ → List PlainFrame
confirms goes true r = rr false (r % 8) true ∷ []
confirms true false r = []
confirms false false r = rr false (r % 8) false ∷ []

abbrev pub once_taken : Bool → ℕ → Bool → List ℕ → LinkStation → Outcome
once_taken goes nr p packet s = record (goes_on_from nr s) {
  said_busy = if p then false else if goes then s.said_busy else false;
  taken = s.taken ++ packet ∷ [];
  first = confirms goes p (length (s.taken ++ packet ∷ []));
}

-- the I frame that is wanted, while the station isn't busy (section 2.4.5.2)
abbrev pub WantedIsTaken : Type 0
WantedIsTaken = (ns nr : ℕ) (p : Bool) (packet : List ℕ) → Hears nr (info ns nr p packet)
    (λ s step. is_taken ns s ≡ true → (goes : Bool) × IsTakenUp s packet (once_taken goes nr p packet s) step)

-- how any other is answered (sections 2.4.5.4 and 2.4.5.8)
abbrev pub passed_over : Bool → LinkStation → List PlainFrame
passed_over p s =
    if is_busy s then rnr false (wanted s) p ∷ []
    else if not s.rejecting then rej false (wanted s) p ∷ []
    else if p then rr false (wanted s) true ∷ []
    else []

abbrev pub busy_after : Bool → LinkStation → Bool
busy_after p s = if is_busy s then true else if not s.rejecting then s.said_busy else if p then false else s.said_busy

abbrev pub OtherIsPassedOver : Type 0
OtherIsPassedOver = (ns nr : ℕ) (p : Bool) (packet : List ℕ) → Hears nr (info ns nr p packet)
    (λ s step. is_taken ns s ≡ false
    → Answers s (record (goes_on_from nr s) { said_busy = busy_after p s; first = passed_over p s }) step)

-- ---- stations that are out

-- a command with P=1, other than SABM and DISC, is answered by DM, and changes nothing (section 2.4.4.4)
abbrev pub asks : PlainFrame → Bool
asks (info ns nr p packet) = p
asks (rr command nr pf) = if command then pf else false
asks (rnr command nr pf) = if command then pf else false
asks (rej command nr pf) = if command then pf else false
asks frame = false

pub record Declines (s : LinkStation) (step : LinkStep) : Type 0 where
  pub near : step.side.near ≡ s
  pub out : step.side.out ≡ dm true ∷ []
  pub packet : step.packet ≡ None
  pub quiet : step.notes ≡ record { down = None; up = false }

abbrev pub OutDeclines : Type 0
OutDeclines = (c : LinkSettings) (octets : List ℕ) (s : LinkStation) → IsOut s.phase → (frame : PlainFrame)
    → frame_of (other c.role) c.longest octets ≡ Ok frame → asks frame ≡ true
    → Declines s (take_step c octets s)

-- DM takes Up away, and nothing is sent
abbrev pub DmLeavesUp : Type 0
DmLeavesUp = (c : LinkSettings) (octets : List ℕ) (s : LinkStation) → s.phase ≡ Up → (f : Bool)
    → frame_of (other c.role) c.longest octets ≡ Ok (dm f)
    → (let step : LinkStep = take_step c octets s in (step.side.near ≡ with_nothing Down s.tries)
    × (step.side.out ≡ []))

-- the laws together
pub record AnswerLaws : Type 0 where
  pub timer : TimerAsks
  pub poll : PollIsAnswered
  pub recovery : FinalEndsRecovery
  pub ready : ReadyIsHeard
  pub rej : RejGoesBack
  pub wanted : WantedIsTaken
  pub other : OtherIsPassedOver
  pub out : OutDeclines
  pub dm : DmLeavesUp
