-- The link isn't taken up where an end isn't watched.
use Rattle.std.proofs.Common.{◌≡◌, Bool, true, false, refl, sym, ap}
use Rattle.std.proofs.lemmas.Bool.{both_ways}
use Rattle.x25_judge.specs.Midst.{are_known, is_over, sends}
use Rattle.x25_judge.specs.declared.{midst.Watch.{Watch}, midst.Watch.TheVariants.{Unseen, Numbers, Over}}
use Rattle.x25_possible_links.specs.declared.{frame.Frame.{Frame}, frame.Frame.TheVariants.{Info, Ready, Unread}}

abbrev pub IsOff : Watch → Type 0
IsOff (Numbers run next told) = ⊥
IsOff w = Unit {0}

pub off_first : (w v : Watch) → IsOff w → are_known w v ≡ false
off_first Unseen v h = refl
off_first Over v h = refl
off_first (Numbers run next told) v h = absurd h

pub off_second : (w v : Watch) → IsOff v → are_known w v ≡ false
off_second Unseen v h = refl
off_second Over v h = refl
off_second (Numbers run next told) Unseen h = refl
off_second (Numbers run next told) Over h = refl
off_second (Numbers run next told) (Numbers there due heard) h = absurd h

pub sent_over : (x : Frame) → sends x Over ≡ Over
sent_over (Info ns nr d) = refl
sent_over (Ready nr) = refl
sent_over x = refl

pub over_is_off : (w : Watch) → w ≡ Over → IsOff w
over_is_off Over e = tt
over_is_off Unseen e = tt
over_is_off (Numbers run next told) e = absurd (both_ways false refl (sym (ap is_row e)))
  where
    is_row : Watch → Bool
    is_row (Numbers run next told) = true
    is_row w = false

pub over_is : (w : Watch) → is_over w ≡ true → w ≡ Over
over_is Over e = refl
over_is Unseen e = absurd (both_ways false refl e)
over_is (Numbers run next told) e = absurd (both_ways false refl e)
