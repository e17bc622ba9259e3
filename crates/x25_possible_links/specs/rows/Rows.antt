-- Tapes that an end of a link that was never set up can't, or can, have sent, latest first: worked out by the
-- definition.
use Rattle.std.specs.Prelude.{◌≡◌, Bool, true, false, List, [], ◌∷◌}
use Rattle.x25_possible.specs.laws.Possible.{Item, Own, Other, Place}
use Rattle.x25_possible_links.specs.code.Steps.{begun_as, played, sends_to, shows_to, Stepped, unknown}
use Rattle.x25_possible_links.specs.laws.Link.{fresh}
use Rattle.x25_possible_links.specs.laws.Places.{places}
use Rattle.x25_possible_links.specs.declared.frame.Frame.{Frame}
use Rattle.x25_possible_links.specs.declared.frame.Frame.TheVariants.{Info, Ready, Sabm, Disc, Ua, Unread, Before}
use Rattle.x25_possible_links.specs.declared.set.Told.TheVariants.{Nothing, Skips, Broken}
use Rattle.x25_possible_links.specs.declared.stand.Stand.{Stand}
use Rattle.x25_possible_links.specs.declared.stand.Stand.TheVariants.{Out, Free}

abbrev pub is_nothing : List (Place Stand Frame) → Bool
is_nothing [] = true
is_nothing (q ∷ qs) = false

abbrev pub is_told : List (Item Frame) → Bool
is_told tape = is_nothing (places (Out ∷ []) tape)

-- it was set up
abbrev pub up : List (Item Frame)
up = Other Ua ∷ Own Sabm ∷ []

-- and sent I frames 0 to 6
abbrev pub seven : List (Item Frame)
seven =
    Own (Info 6 0 false) ∷ Own (Info 5 0 false) ∷ Own (Info 4 0 false) ∷ Own (Info 3 0 false) ∷ Own (Info 2 0 false)
    ∷ Own (Info 1 0 false) ∷ Own (Info 0 0 false) ∷ up

pub record RowsAreTold : Type 0 where
  -- UA to nothing, and a second one to one SABM
  pub ua_unasked : is_told (Own Ua ∷ []) ≡ true
  pub ua_again : is_told (Own Ua ∷ Own Ua ∷ Other Sabm ∷ []) ≡ true
  -- a number before UA, and behind DISC, also where a UA passed it
  pub before_ua : is_told (Own (Ready 0) ∷ Own Sabm ∷ []) ≡ true
  pub behind_disc : is_told (Own (Ready 0) ∷ Other Ua ∷ Own Disc ∷ up) ≡ true
  -- N(R) of what was never sent, of what came before the set-up, and one that falls
  pub never_sent : is_told (Own (Ready 1) ∷ up) ≡ true
  pub sent_before : is_told (Own (Ready 1) ∷ Other Ua ∷ Own Sabm ∷ Other (Info 0 0 false) ∷ Own (Ready 0) ∷ up) ≡ true
  pub falls : is_told (Own (Ready 0) ∷ Own (Ready 1) ∷ Other (Info 0 0 false) ∷ up) ≡ true
  -- other octets in an I frame that goes again, one that is left out, and an eighth that is unacknowledged
  pub differs : is_told (Own (Info 0 0 true) ∷ Own (Info 0 0 false) ∷ up) ≡ true
  pub left_out : is_told (Own (Info 1 0 false) ∷ up) ≡ true
  pub eighth : is_told (Own (Info 7 0 false) ∷ seven) ≡ true

pub record RowsAreUntold : Type 0 where
  -- SABM again before UA came, and the first UA or the second is taken
  pub first_ua : is_told (Own (Ready 1) ∷ Other Ua ∷ Other (Info 0 0 false) ∷ Other Ua ∷ Own Sabm ∷ Own Sabm ∷ [])
      ≡ false
  pub second_ua : is_told (Own (Ready 0) ∷ Other Ua ∷ Other (Info 0 0 false) ∷ Other Ua ∷ Own Sabm ∷ Own Sabm ∷ [])
      ≡ false
  -- SABMs cross: it begins as it answers, or as it is answered
  pub crosses : is_told (Own (Info 0 0 false) ∷ Own Ua ∷ Other Sabm ∷ Own Sabm ∷ []) ≡ false
  pub waits_on : is_told (Own (Info 0 0 false) ∷ Other Ua ∷ Own Ua ∷ Other Sabm ∷ Own Sabm ∷ []) ≡ false
  -- a SABM and a DISC that may be lost, and numbers of before
  pub lost : is_told (Own (Info 0 0 false) ∷ Other Disc ∷ Other Sabm ∷ up) ≡ false
  -- an I frame may be lost, and its acknowledgement too
  pub again : is_told (Own (Info 0 0 false) ∷ Own (Info 0 0 false) ∷ Other (Ready 1) ∷ up) ≡ false
  pub eighth : is_told (Own (Info 7 0 false) ∷ Other (Ready 1) ∷ seven) ≡ false
  -- what can't be read may have been UA, SABM, or an I frame, of either end
  pub unread_ua : is_told (Own (Ready 0) ∷ Other Unread ∷ Own Sabm ∷ []) ≡ false
  pub unread_sabm : is_told (Own Ua ∷ Other Unread ∷ []) ≡ false
  pub unread_info : is_told (Own (Ready 1) ∷ Other Unread ∷ up) ≡ false
  pub unread_number : is_told (Own (Info 1 0 false) ∷ Own Unread ∷ up) ≡ false
  -- where nothing is known; and UA to what was sent before, and then the numbers that follow
  pub unknown : is_nothing (places (Free ∷ []) (Own (Info 5 3 false) ∷ Other Before ∷ [])) ≡ false
  pub before : is_nothing (places (Free ∷ []) (Own (Info 0 1 false) ∷ Other (Info 0 0 false) ∷ Own Ua ∷ Other Before
      ∷ [])) ≡ false

-- a set of which nothing is known is that of an end that may stand anywhere, to which all was sent before
abbrev pub NewIsFree : Type 0
NewIsFree = shows_to Before (begun_as (Free ∷ [])) ≡ unknown

pub record RowsAreToldLater : Type 0 where
  -- behind its UA its numbers are known
  pub numbers : is_nothing (places (Free ∷ []) (Own (Info 5 0 false) ∷ Own Ua ∷ Other Before ∷ [])) ≡ true

-- what a set of an end that was never set up tells of a frame behind a tape
abbrev pub sent_behind : Frame → List (Item Frame) → Stepped
sent_behind x tape = sends_to x (played (begun_as (Out ∷ [])) tape)

pub record RowsAreToldSo : Type 0 where
  -- that a number is left out, and then it goes on from there
  pub skips : (sent_behind (Info 1 0 false) up).told ≡ Skips fresh
  pub skipped : (sent_behind (Info 2 0 false) (Own (Info 1 0 false) ∷ up)).told ≡ Nothing
  -- a rule, and then numbers go on from the wrong one
  pub breaks : (sent_behind (Ready 1) up).told ≡ Broken fresh
  pub goes_on : (sent_behind (Ready 1) (Own (Ready 1) ∷ up)).told ≡ Nothing
