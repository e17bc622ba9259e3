-- What a set of states means, and what is told of an end by it.
use Rattle.std.specs.Prelude.{◌≡◌, ℕ, ◌↔◌, ◌<◌, ◌≤◌, true, false, List, [], ◌∷◌, length, map, drop, Option, Some}
use Rattle.std.specs.Prelude.{None}
use Rattle.x25_bits.specs.declared.role.Role.{Role}
use Rattle.x25_possible.specs.Channel.{at_once, channel_choices, channel_rules, is_polite, sends, sends_as, takes}
use Rattle.x25_possible.specs.laws.Possible.{Item, Own, Other, IsIn, IsUnexplained, Place, Stands, after, at, possible}
use Rattle.x25_possible.specs.code.Steps.{behind, is_blind, is_known, is_large, may_send, played}
use Rattle.x25_possible.specs.code.Steps.{sends_to, shows_to}
use Rattle.x25_possible.specs.declared.packet.Packet.{Packet}
use Rattle.x25_possible.specs.declared.phase.Phase.{Phase}
use Rattle.x25_possible.specs.declared.phase.Phase.TheVariants.{Idle}
use Rattle.x25_possible.specs.declared.set.Set.{Set}
use Rattle.x25_possible.specs.declared.set.Told.{Told}
use Rattle.x25_possible.specs.declared.set.Told.TheVariants.{Nothing, Rude, Broken}
use Rattle.x25_possible.specs.declared.spots.Spot.{Spot}

-- the place that a state stands for, with such packets on the way
abbrev pub placed : List Packet → Spot → Place Phase Packet
placed way q = at q.phase (drop q.at way)

abbrev pub AreSame : {X : Type 0} → List X → List X → Type 0
AreSame {X} xs ys = (x : X) → IsIn x xs ↔ IsIn x ys

-- its states are listed, and its places are those that are possible behind the tape, latest first, that begins in one
-- of these states
abbrev pub Fits : List Phase → List (Item Packet) → Set → Type 0
Fits begun tape s =
    (is_blind s ≡ false)
    × AreSame (map (placed s.way.items) s.spots.items) (possible (channel_choices s.role) begun tape)

abbrev pub IsBroken : Told → Type 0
IsBroken (Broken phase) = Unit {0}
IsBroken told = ⊥

abbrev pub IsRude : Told → Type 0
IsRude (Rude phase) = Unit {0}
IsRude told = ⊥

abbrev pub IsUntold : Told → Type 0
IsUntold (Broken phase) = ⊥
IsUntold told = Unit {0}

-- As the end sends a packet, where the set fits a tape: a rule is told only where no run of an end that keeps the rules
-- explains the tape with it; where none is told, and the set is known then, some run does. It fits then, or nothing is
-- listed. Where manners are told, no state that may send the packet is polite. Where the set wasn't known nothing is.
pub record SendsExactly : Type 0 where
  pub told : (s : Set) (begun : List Phase) (tape : List (Item Packet)) (x : Packet) → Fits begun tape s
      → IsBroken (sends_to x s).told → IsUnexplained (channel_rules s.role begun) (Own x ∷ tape)
  pub untold : (s : Set) (begun : List Phase) (tape : List (Item Packet)) (x : Packet) → Fits begun tape s
      → IsUntold (sends_to x s).told → is_known (sends_to x s).set ≡ true
      → IsUnexplained (channel_rules s.role begun) (Own x ∷ tape) → ⊥
  pub fits : (s : Set) (begun : List Phase) (tape : List (Item Packet)) (x : Packet) → Fits begun tape s
      → IsUntold (sends_to x s).told → is_blind (sends_to x s).set ≡ false
      → Fits begun (Own x ∷ tape) (sends_to x s).set
  pub rude : (s : Set) (x : Packet) (q : Spot) → IsRude (sends_to x s).told → IsIn q s.spots.items
      → may_send q.phase x ≡ true → is_polite q.phase x ≡ false
  pub unknown : (s : Set) (x : Packet) → is_known s ≡ false → (sends_to x s).told ≡ Nothing

-- as the other end sends one
abbrev pub ShowsExactly : Type 0
ShowsExactly =
    (s : Set) (begun : List Phase) (tape : List (Item Packet)) (x : Packet) → Fits begun tape s
    → is_blind (shows_to x s) ≡ false → Fits begun (Other x ∷ tape) (shows_to x s)

-- ---- where there is room

-- its numbers, and those behind what comes, aren't too large to be counted
abbrev pub OfSome : Option Phase → (Phase → Type 0) → Type 0
OfSome None P = Unit {0}
OfSome (Some s) P = P s

abbrev pub IsCounted : List Packet → Role → Phase → Type 0
IsCounted [] role s = is_large s ≡ false
IsCounted (x ∷ way) role s =
    (is_large s ≡ false) × OfSome (at_once s x) (IsCounted way role) × IsCounted way role (takes role s x)

abbrev pub AreCounted : List Spot → Type 0
AreCounted qs = (q : Spot) → IsIn q qs → is_large q.phase ≡ false

-- behind the packet there are at most 16 places, and it isn't the 17th on the way
pub record HasRoomToSend (x : Packet) (s : Set) : Type 0 where
  pub counted : (q : Spot) → IsIn q s.spots.items → OfSome (sends q.phase x) (IsCounted (drop q.at s.way.items) s.role)
  pub few : length (after (channel_choices s.role) (Own x) (map (placed s.way.items) s.spots.items)) ≤ 16

pub record HasRoomToShow (x : Packet) (s : Set) : Type 0 where
  pub counted : (q : Spot) → IsIn q s.spots.items → IsCounted (x ∷ []) s.role q.phase
  pub few : length (after (channel_choices s.role) (Other x) (map (placed s.way.items) s.spots.items)) ≤ 16
  pub short : length s.way.items < 16

-- A set stays known where there is room; and whatever room there is, a rule is told where no run explains the packet.
pub record StaysKnown : Type 0 where
  pub counted_sent : (s : Set) (x : Packet) → AreCounted s.spots.items → AreCounted (sends_to x s).set.spots.items
  pub counted_shown : (s : Set) (x : Packet) → AreCounted s.spots.items → AreCounted (shows_to x s).spots.items
  pub told : (s : Set) (begun : List Phase) (tape : List (Item Packet)) (x : Packet) → is_known s ≡ true
      → AreCounted s.spots.items → Fits begun tape s → IsUnexplained (channel_rules s.role begun) (Own x ∷ tape)
      → IsBroken (sends_to x s).told
  pub sent : (s : Set) (x : Packet) → is_known s ≡ true → AreCounted s.spots.items → HasRoomToSend x s
      → IsUntold (sends_to x s).told → is_known (sends_to x s).set ≡ true
  pub shown : (s : Set) (x : Packet) → is_known s ≡ true → HasRoomToShow x s → is_known (shows_to x s) ≡ true

-- ---- over a whole tape, from a restart on

-- No rule is told of an end that keeps the rules, whatever the other end sends, and however late that comes.
abbrev pub InnocentsStayUntold : Type 0
InnocentsStayUntold =
    (role : Role) (tape : List (Item Packet)) (x : Packet) (s : Phase) (way : List Packet)
    → Stands (channel_rules role (Idle ∷ [])) (Own x ∷ tape) s way → IsUntold (sends_to x (behind role tape)).told

-- Nor is one, wherever states are listed and nothing is on the way, of an end that was in one of these and keeps the
-- rules from there on: as where a set became known that wasn't.
abbrev pub FoundStayUntold : Type 0
FoundStayUntold =
    (s : Set) (tape : List (Item Packet)) (x : Packet) (p : Phase) (way : List Packet) → is_blind s ≡ false
    → s.way.items ≡ []
    → Stands (channel_rules s.role (map (λ (q : Spot). q.phase) s.spots.items)) (Own x ∷ tape) p way
    → IsUntold (sends_to x (played s tape)).told

-- Where the set is known behind what an end sent by the rules, the first packet that breaks one is told.
abbrev pub GuiltyAreTold : Type 0
GuiltyAreTold =
    (role : Role) (tape : List (Item Packet)) (x : Packet) (s : Phase) (way : List Packet)
    → Stands (channel_rules role (Idle ∷ [])) tape s way → is_known (behind role tape) ≡ true
    → IsUnexplained (channel_rules role (Idle ∷ [])) (Own x ∷ tape) → IsBroken (sends_to x (behind role tape)).told

-- No manners are told of an end that has kept the rules, where it sends the packet politely: within the window of the
-- call, and M=1 in a full packet alone.
abbrev pub PoliteStayUntold : Type 0
PoliteStayUntold =
    (role : Role) (tape : List (Item Packet)) (x : Packet) (s r : Phase) (way : List Packet) (t : ℕ)
    → Stands (channel_rules role (Idle ∷ [])) tape s way → sends_as t s x ≡ Some r → is_polite s x ≡ true
    → IsRude (sends_to x (behind role tape)).told → ⊥
