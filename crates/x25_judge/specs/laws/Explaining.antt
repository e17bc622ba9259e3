-- Lines of a trace behind a set-up of which nothing is told, and the lines of an end that keeps the rules of
-- docs/PEER.md, which hears and takes what comes as the trace shows it.
use Rattle.std.specs.Prelude.{◌≡◌, ℕ, ◌+◌, ◌%◌, ◌≤◌, Bool, false, List, [], ◌∷◌, ◌++◌, length, slice_get, Some, Ok}
use Rattle.x25_bits.specs.declared.role.Role.{Role}
use Rattle.x25_decode.specs.Decoding.{sent_in}
use Rattle.x25_frame.specs.Frame.{PlainFrame, info}
use Rattle.x25_judge.specs.Judge.{answer_to}
use Rattle.x25_judge.specs.declared.judge.Judge.{Judge}
use Rattle.x25_line.specs.laws.Peer.{Peer, fresh_peer, MayHear}
use Rattle.x25_link.specs.Hearing.{other}
use Rattle.x25_judge.specs.laws.{Sessions.{MaySend}, Session.{IsSetUp, Shows, IsDamaged, IsNumbered, IsSupervisory}}

-- The judge behind frames with numbers of both ends, where no rule and no manners are told of the end `from`. Where
-- `Damage` holds octets of the other end may be damaged.
pub data IsUntold (Damage : Type 0) (from : Role) : Judge → List (List ℕ) → Type 0 where
  -- the trace has shown a set-up
  Begins : (j : Judge) → IsSetUp j → IsUntold Damage from j []
  -- it sends
  Says : (j : Judge) (lines : List (List ℕ)) (line octets : List ℕ) (frame : PlainFrame)
      → Shows line from octets frame → IsNumbered frame → (answer_to j line).is_faulty ≡ false
      → IsUntold Damage from j lines → IsUntold Damage from (answer_to j line).next (lines ++ line ∷ [])
  -- the other end does, whatever is told of it
  Comes : (j : Judge) (lines : List (List ℕ)) (line octets : List ℕ) (frame : PlainFrame)
      → Shows line (other from) octets frame → IsNumbered frame → IsUntold Damage from j lines
      → IsUntold Damage from (answer_to j line).next (lines ++ line ∷ [])
  -- octets of it are damaged
  Fails : (j : Judge) (lines : List (List ℕ)) (line octets : List ℕ) → Damage → IsDamaged line (other from) octets
      → IsUntold Damage from j lines → IsUntold Damage from (answer_to j line).next (lines ++ line ∷ [])

-- what the end `from` may be behind such lines, each of its own being one that it may send
pub data IsKept (from : Role) : List (List ℕ) → Peer → Type 0 where
  Fresh : IsKept from [] fresh_peer
  -- it is handed down a packet
  HandsDown : (lines : List (List ℕ)) (p : Peer) (packet : List ℕ) → IsKept from lines p
      → IsKept from lines (record p { given = p.given ++ packet ∷ [] })
  -- it sends
  Sends : (lines : List (List ℕ)) (p q : Peer) (line octets : List ℕ) (frame : PlainFrame)
      → Shows line from octets frame → MaySend p frame q → IsKept from lines p → IsKept from (lines ++ line ∷ []) q
  -- the other end does
  Hears : (lines : List (List ℕ)) (p q : Peer) (line octets : List ℕ) (frame : PlainFrame)
      → Shows line (other from) octets frame → MayHear p (Ok frame) q → IsKept from lines p
      → IsKept from (lines ++ line ∷ []) q

-- The I frames of an end in such lines carry these packets, number by number from 0 on: each for the first time in its
-- turn, and the same one each time that its number goes again, which it does not eight behind (sections 2.3.2 and
-- 2.4.5.1).
pub data Carries (from : Role) : List (List ℕ) → List (List ℕ) → Type 0 where
  Nothing : Carries from [] []
  -- the next number
  Next : (lines given : List (List ℕ)) (line octets : List ℕ) (ns nr : ℕ) (pf : Bool) (packet : List ℕ)
      → Shows line from octets (info ns nr pf packet) → ns ≡ length given % 8 → Carries from lines given
      → Carries from (lines ++ line ∷ []) (given ++ packet ∷ [])
  -- one before it
  Again : (lines given : List (List ℕ)) (line octets : List ℕ) (ns nr n : ℕ) (pf : Bool) (packet : List ℕ)
      → Shows line from octets (info ns nr pf packet) → ns ≡ n % 8 → length given ≤ n + 7
      → slice_get given n ≡ Some packet → Carries from lines given → Carries from (lines ++ line ∷ []) given
  -- a frame without N(S)
  Beside : (lines given : List (List ℕ)) (line octets : List ℕ) (frame : PlainFrame) → Shows line from octets frame
      → IsSupervisory frame → Carries from lines given → Carries from (lines ++ line ∷ []) given
  -- a line of the other end
  Passes : (lines given : List (List ℕ)) (line octets : List ℕ) → sent_in line ≡ Some (other from, octets)
      → Carries from lines given → Carries from (lines ++ line ∷ []) given
