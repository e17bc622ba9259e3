-- What a trace is to an end: what it sent itself, and what the other end did.
use Rattle.std.specs.Prelude.{◌≡◌, ℕ, Bool, true, false, List, [], ◌∷◌}
use Rattle.x25_bits.specs.declared.{role.Role.{Role}, role.Role.TheVariants.{Dte, Dce}}
use Rattle.x25_decode.specs.declared.answer.Reading.{Reading}
use Rattle.x25_frame.specs.Frame.{PlainFrame}
use Rattle.x25_judge.specs.{Held.{differs}, Judge.{answer_to, begins, other_of, own_of}, Links.{shown}}
use Rattle.x25_judge.specs.Midst.{are_known, numbers, sends}
use Rattle.x25_judge.specs.declared.{judge.Judge.{Judge}, judge.Strictness.{Strictness}}
use Rattle.x25_judge.specs.laws.Session.{IsDamaged, Shows}
use Rattle.x25_possible.specs.laws.Possible.{Item, Own, Other}
use Rattle.x25_possible_links.specs.declared.{frame.Frame.{Frame}, frame.Frame.TheVariants.{Before, Unread}}
use Rattle.x25_possible_links.specs.declared.{stand.Numbers.{Numbers}, stand.Stand.{Stand}}
use Rattle.x25_possible_links.specs.declared.stand.Stand.TheVariants.{Free, Up}
use Rattle.x25_possible.specs.declared.packet.Defaults.{Defaults}

abbrev pub item_by : Role → Role → Frame → Item Frame
item_by Dte Dte x = Own x
item_by Dte Dce x = Other x
item_by Dce Dte x = Other x
item_by Dce Dce x = Own x

-- as it is shown
abbrev pub seen_as : Judge → Role → PlainFrame → Frame
seen_as j from frame = shown frame (differs (own_of from j).held frame)

-- ---- behind a frame by which both ends are known

-- the link is taken up by it
abbrev pub takes_up : Judge → Role → PlainFrame → Bool
takes_up j from frame = are_known (sends (seen_as j from frame) (own_of from j).watch) (other_of from j).watch

-- and so the end `of` stands then
abbrev pub found : Role → Role → Judge → Frame → Numbers
found Dte Dte j x = numbers (sends x j.dte.watch) j.dce.watch
found Dce Dce j x = numbers (sends x j.dce.watch) j.dte.watch
found Dte Dce j x = numbers j.dte.watch (sends x j.dce.watch)
found Dce Dte j x = numbers j.dce.watch (sends x j.dte.watch)

abbrev pub found_by : Role → Role → Judge → PlainFrame → Stand
found_by of from j frame = Up (found of from j (seen_as j from frame))

-- The tape of the end `of` behind lines, latest first; an I frame with whether its number is known to have other
-- octets. The end stands in one of these at its beginning: anywhere, with what was sent before the first line; or where
-- it is taken up.
pub data IsTape (of : Role) : Judge → List Stand → List (Item Frame) → Type 0 where
  Begins : (window : ℕ) (defaults : Defaults) (reading : Reading) (strictness : Strictness)
      → IsTape of (begins window defaults reading strictness) (Free ∷ []) (Other Before ∷ [])
  Sees : (j : Judge) (begun : List Stand) (tape : List (Item Frame)) (from : Role) (line octets : List ℕ)
      (frame : PlainFrame) → Shows line from octets frame → takes_up j from frame ≡ false → IsTape of j begun tape
      → IsTape of (answer_to j line).next begun (item_by of from (seen_as j from frame) ∷ tape)
  TakesUp : (j : Judge) (begun : List Stand) (tape : List (Item Frame)) (from : Role) (line octets : List ℕ)
      (frame : PlainFrame) → Shows line from octets frame → takes_up j from frame ≡ true → IsTape of j begun tape
      → IsTape of (answer_to j line).next (found_by of from j frame ∷ []) []
  Misses : (j : Judge) (begun : List Stand) (tape : List (Item Frame)) (from : Role) (line octets : List ℕ)
      → IsDamaged line from octets → IsTape of j begun tape
      → IsTape of (answer_to j line).next begun (item_by of from Unread ∷ tape)
