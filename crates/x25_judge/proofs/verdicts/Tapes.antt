-- What a trace is to an end, and the frames that no run of an end explains.
use Rattle.x25_judge.proofs.verdicts.Names.{◌≡◌, ℕ, Bool, true, false, if◌then◌else◌, List, [], ◌∷◌, refl, ap, ◌∙◌, Role, Dte, Dce, Reading, PlainFrame}
use Rattle.x25_judge.proofs.verdicts.Names.{answer_to, begins, own_of, End}
use Rattle.x25_judge.proofs.verdicts.Lines.{goes}
use Rattle.x25_judge.proofs.verdicts.Names.{Judge, Strictness, IsDamaged, Shows, Item, Other, begun_as, played, sends_to, shows_to, Frame, Before}
use Rattle.x25_judge.proofs.{verdicts.Names.{Unread, LinkSet, Stand, Free}, verdicts.Innocents.{lost_end, missed_end, sent_end, shown_end}}
use Rattle.x25_judge.specs.laws.Tapes.{IsTape, Begins, Sees, Misses, TakesUp, found_by, item_by, seen_as, takes_up}
use Rattle.x25_possible.specs.declared.packet.Defaults.{Defaults}

-- the set of an end is what its tape makes of one that stands where the tape begins
abbrev pub IsPlayed : Role → Judge → List Stand → List (Item Frame) → Type 0
IsPlayed of j begun tape = (own_of of j).set ≡ played (begun_as begun) tape

by_up : (e f : End) (b : Bool) (up set : LinkSet) → e ≡ f → f.set ≡ (if b then up else set) → b ≡ true → e.set ≡ up
by_up e f b up set is at known = ap (λ (e : End). e.set) is ∙ (at ∙ ap (λ c. if c then up else set) known)

after_own : (x : Frame) {set now was : LinkSet} → now ≡ (sends_to x set).set → set ≡ was → now ≡ (sends_to x was).set
after_own x e same = e ∙ ap (λ s. (sends_to x s).set) same

after_other : (x : Frame) {set now was : LinkSet} → now ≡ shows_to x set → set ≡ was → now ≡ shows_to x was
after_other x e same = e ∙ ap (λ s. shows_to x s) same

module _ (j : Judge) (begun : List Stand) (tape : List (Item Frame)) (line octets : List ℕ) where
  sees_on : (of from : Role) (frame : PlainFrame) → Shows line from octets frame → takes_up j from frame ≡ false → IsPlayed of j begun tape
      → (own_of of (answer_to j line).next).set ≡ played (begun_as begun) (item_by of from (seen_as j from frame) ∷ tape)
  sees_on Dte Dte frame shows down h = after_own _ (sent_end Dte j line octets frame shows down).places h
  sees_on Dce Dce frame shows down h = after_own _ (sent_end Dce j line octets frame shows down).places h
  sees_on Dte Dce frame shows down h = after_other _ (shown_end Dte j line octets frame shows down).places h
  sees_on Dce Dte frame shows down h = after_other _ (shown_end Dce j line octets frame shows down).places h

  misses_on : (of from : Role) → IsDamaged line from octets → IsPlayed of j begun tape → (own_of of (answer_to j line).next).set
      ≡ played (begun_as begun) (item_by of from Unread ∷ tape)
  misses_on Dte Dte broken h = after_own Unread (missed_end Dte j line octets broken).places h
  misses_on Dce Dce broken h = after_own Unread (missed_end Dce j line octets broken).places h
  misses_on Dte Dce broken h = after_other Unread (lost_end Dte j line octets broken).places h
  misses_on Dce Dte broken h = after_other Unread (lost_end Dce j line octets broken).places h

-- the link is taken up
pub found_on : (j : Judge) (line octets : List ℕ) (of from : Role) (frame : PlainFrame) → Shows line from octets frame → takes_up j from frame ≡ true
    → (own_of of (answer_to j line).next).set ≡ begun_as (found_by of from j frame ∷ [])
found_on j line octets Dte Dte frame shows up = by_up _ _ (takes_up j Dte frame) _ _ (goes j line Dte octets frame shows).own refl up
found_on j line octets Dce Dce frame shows up = by_up _ _ (takes_up j Dce frame) _ _ (goes j line Dce octets frame shows).own refl up
found_on j line octets Dte Dce frame shows up = by_up _ _ (takes_up j Dce frame) _ _ (goes j line Dce octets frame shows).opposite refl up
found_on j line octets Dce Dte frame shows up = by_up _ _ (takes_up j Dte frame) _ _ (goes j line Dte octets frame shows).opposite refl up

at_first : (of : Role) (window : ℕ) (defaults : Defaults) (reading : Reading) (strictness : Strictness)
    → IsPlayed of (begins window defaults reading strictness) (Free ∷ []) (Other Before ∷ [])
at_first Dte window defaults reading strictness = refl
at_first Dce window defaults reading strictness = refl

pub is_played : (of : Role) (j : Judge) (begun : List Stand) (tape : List (Item Frame)) → IsTape of j begun tape → IsPlayed of j begun tape
is_played of _ _ _ (Begins window defaults reading strictness) = at_first of window defaults reading strictness
is_played of _ begun _ (Sees j _ tape from line octets frame shows down h) =
    sees_on j begun tape line octets of from frame shows down (is_played of j begun tape h)
is_played of _ _ _ (TakesUp j begun tape from line octets frame shows up h) = found_on j line octets of from frame shows up
is_played of _ begun _ (Misses j _ tape from line octets broken h) =
    misses_on j begun tape line octets of from broken (is_played of j begun tape h)

-- what is told of a frame
pub told_is : (of : Role) (j : Judge) (begun : List Stand) (tape : List (Item Frame)) (x : Frame) → IsTape of j begun tape
    → sends_to x (own_of of j).set ≡ sends_to x (played (begun_as begun) tape)
told_is of j begun tape x h = ap (λ s. sends_to x s) (is_played of j begun tape h)
