-- A call of a switch beside its two lines: the books of its crossing have what the transcripts of the stations have
-- under the names of a bond.
use Rattle.std.specs.Prelude.{◌≡◌, ℕ, List, [], ◌∷◌}
use Rattle.x25_circuit.specs.Message.{Message, carried}
use Rattle.x25_handshakes.specs.laws.Histories.{IsPrefix}
use Rattle.x25_line.specs.laws.Sessions.{Meeting}
use Rattle.x25_station.specs.Config.{Settings}
use Rattle.x25_peer.specs.laws.BesideSessions.{BesideSessions, ReachedBeside}
use Rattle.x25_crossing.specs.laws.HandingLaw.{Event, Run, after}
use Rattle.x25_switched.specs.laws.SwitchClaims.{AreAllowed, OfEachTwo, NoneIsLeft, there}
use Rattle.x25_switched.specs.laws.Switched.{Bond, Switched, Goes, messages_up, messages_down, interrupts_up}
use Rattle.x25_switched.specs.laws.Switched.{interrupts_down}

-- interrupts are booked as messages without marks
abbrev pub texts : List Message → List (List ℕ)
texts [] = []
texts (m ∷ ms) = m.user ∷ texts ms

-- one way: what was told at the near leg, and what went out by the far one
pub record IsBooked (b : Bond) (s : Switched) (r : Run) : Type 0 where
  pub up : messages_up s.near b.near ≡ r.near.up
  pub down : messages_down s.far b.far ≡ r.far.down
  pub int_up : interrupts_up s.near b.near ≡ texts r.near.int_up
  pub int_down : interrupts_down s.far b.far ≡ texts r.far.int_down

-- A call with room for so many octets, after these events, the last one first. It is followed from a moment at which
-- nothing went out in the stretch of the far line. From there on something happens at a line, or at neither, and of the
-- call some events, one at most with what happens at the far line; and then it is booked.
pub data Follows (c d : Settings) (b : Bond) (most : ℕ) : Switched → List Event → Type 0 where
  begins : (s : Switched) (es : List Event) → ReachedBeside c s.near → ReachedBeside d s.far
      → messages_down s.far b.far ≡ [] → interrupts_down s.far b.far ≡ [] → IsBooked b s (after most es)
      → Follows c d b most s es
  at_near : (s : Switched) (v : BesideSessions) (es fs : List Event) → Follows c d b most s es → Goes c s.near v
      → IsBooked b (record s { near = v }) (after most fs) → Follows c d b most (record s { near = v }) fs
  at_far : (s : Switched) (v : BesideSessions) (es : List Event) (e : Event) → Follows c d b most s es → Goes d s.far v
      → IsBooked b (record s { far = v }) (after most (e ∷ es)) → Follows c d b most (record s { far = v }) (e ∷ es)
  unseen_at_far : (s : Switched) (v : BesideSessions) (es : List Event) → Follows c d b most s es → Goes d s.far v
      → IsBooked b (record s { far = v }) (after most es) → Follows c d b most (record s { far = v }) es
  elsewhere : (s : Switched) (es fs : List Event) → Follows c d b most s es → IsBooked b s (after most fs)
      → Follows c d b most s fs

abbrev pub OfFollowedCalls : (Bond → Switched → Type 0) → Type 0
OfFollowedCalls Holds =
    (c d : Settings) → AreAllowed c → AreAllowed d → (b : Bond) (most : ℕ) (s : Switched) (es : List Event)
    → Follows c d b most s es → Holds b s

-- what the far peer took is a beginning of what the near peer's packets carry
abbrev pub CallComesThrough : Type 0
CallComesThrough =
    OfFollowedCalls (OfEachTwo (λ (b : Bond) (s : Switched) (m n : Meeting).
    IsPrefix (carried (there s.far b.far n).taken) (carried (there s.near b.near m).sent)))

abbrev pub CallInterruptsComeThrough : Type 0
CallInterruptsComeThrough =
    OfFollowedCalls (OfEachTwo (λ (b : Bond) (s : Switched) (m n : Meeting).
    IsPrefix (there s.far b.far n).int_up (there s.near b.near m).int_down))

abbrev pub AllOfCallCameThrough : Type 0
AllOfCallCameThrough =
    OfFollowedCalls (OfEachTwo (λ (b : Bond) (s : Switched) (m n : Meeting). NoneIsLeft b s m n
    → carried (there s.far b.far n).taken ≡ carried (there s.near b.near m).sent))
