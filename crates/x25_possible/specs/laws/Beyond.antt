-- What holds beyond the first fault, and of requests that go again.
use Rattle.std.specs.Prelude.{◌≡◌, ℕ, ◌+◌, ◌%◌, ◌<◌, ◌≤◌, Bool, true, false, ◌&&◌, Some, is_some}
use Rattle.x25_possible.specs.Channel.{far, fits, goes_on, may_ack, may_number, nth, sends}
use Rattle.x25_possible.specs.laws.Possible.{IsIn}
use Rattle.x25_possible.specs.code.Steps.{is_known, repeats}
use Rattle.x25_possible.specs.declared.packet.Packet.{Packet}
use Rattle.x25_possible.specs.declared.packet.Packet.TheVariants.{Clear, Data, Reset, Restart}
use Rattle.x25_possible.specs.declared.phase.Phase.{Phase}
use Rattle.x25_possible.specs.declared.phase.Phase.TheVariants.{Talks}
use Rattle.x25_possible.specs.declared.phase.Talk.{Talk}
use Rattle.x25_possible.specs.declared.set.Set.{Set}
use Rattle.x25_possible.specs.declared.spots.Spot.{Spot}

-- After a data packet that breaks a rule of numbers, the one with the next P(S) breaks none: in the same message or
-- after its end, of a size that the call has, with any P(R).
abbrev pub NumbersGoOn : Type 0
NumbersGoOn =
    (k : Talk) (q m n : Bool) (ps pr next size longer : ℕ) (s : Phase) → k.sent < far → k.told + 8 ≤ far
    → (may_ack (nth k.told pr) k pr && may_number k ps) ≡ false
    → goes_on (Talks k) (Data q m ps pr size) ≡ Some s → ps < 8 → next < 8 → fits k.most longer ≡ true
    → is_some (sends s (Data q n ((ps + 1) % 8) next longer)) ≡ true

abbrev pub is_request : Packet → Bool
is_request Clear = true
is_request Reset = true
is_request Restart = true
is_request x = false

-- A request is one that goes again exactly where the set is known and the request leaves each of its states as it is.
pub record RequestsGoAgain : Type 0 where
  pub noted : (x : Packet) (s : Set) → is_request x ≡ true → is_known s ≡ true
      → ((q : Spot) → IsIn q s.spots.items → sends q.phase x ≡ Some q.phase) → repeats x s ≡ true
  pub known : (x : Packet) (s : Set) → repeats x s ≡ true → is_known s ≡ true
  pub same : (x : Packet) (s : Set) (q : Spot) → repeats x s ≡ true → IsIn q s.spots.items
      → sends q.phase x ≡ Some q.phase
