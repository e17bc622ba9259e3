-- The line between two stations, with the sessions of its frames: the numbers on it, how many there are of a kind, and what
-- sending, loss and damage change of these.
use Rattle.x25_line.proofs.Names.{◌≡◌, ◌≤◌, ℕ, zero, suc, ◌+◌, List, [], ◌∷◌, ◌++◌, inl, inr, map, Option, Some, None, Result, Ok, Err, refl, sym, ap, ◌∙◌}
use Rattle.x25_line.proofs.Names.{subst, arith, Role, PlainFrame, info, rr, rnr, rej, frmr, spelling_of, frame_of, ReadsSpelled, FrameError, Frame, ShowAll}
use Rattle.x25_line.proofs.Names.{number_in, numbered_on, AreWhole, Said, said, sabm_of, ua_of, disc_of, how_many, Entry, letters, sent_in, octets_of, AllOf}
use Rattle.std.proofs.lemmas.Option.{none-some}
use Rattle.x25_line.proofs.{Losses.{each_less, octets_less}, Names.{place_of, taken_out, LessAt, nothing, gone, hurt, deeper, IsSeenIn}}
use Rattle.x25_line.proofs.StationLines.{IsOrderly, AreOrderly, consed, numbered_append, shows_less, visible_is}
use Rattle.x25_line.specs.laws.{SessionNumbers.{by_answers, place_behind_ua}, StationClaims.{Each}}

-- what octets are read as
abbrev pub Read : Type 0
Read = Result PlainFrame FrameError

-- ---- lists of entries

-- the octets of both parts of a line
pub octets_append : (xs ys : List Entry) → octets_of (xs ++ ys) ≡ octets_of xs ++ octets_of ys
octets_append [] ys = refl
octets_append (e ∷ xs) ys = ap (λ os. e.octets ∷ os) (octets_append xs ys)

-- the octets of frames that are sent are their spellings
pub octets_sent : (s : ℕ) (from : Role) (fs : List PlainFrame) → octets_of (sent_in s from fs) ≡ map (spelling_of from) fs
octets_sent s from [] = refl
octets_sent s from (f ∷ fs) = ap (λ os. spelling_of from f ∷ os) (octets_sent s from fs)

-- ---- kinds

-- a number that is none and is one
pub none_is_some : {A : Type 0} (f : PlainFrame) → None ≡ Some f → A
none_is_some f e = absurd (none-some f e)

-- a frame with a number is no SABM, no UA and no DISC
pub number_kinds : (r : Read) (g : PlainFrame) → number_in r ≡ Some g → (sabm_of (said r) ≡ 0) × (ua_of (said r) ≡ 0) × (disc_of (said r) ≡ 0)
number_kinds (Ok (info ns nr p x)) g e = (refl, refl, refl)
number_kinds (Ok (rr command nr pf)) g e = (refl, refl, refl)
number_kinds (Ok (rnr command nr pf)) g e = (refl, refl, refl)
number_kinds (Ok (rej command nr pf)) g e = (refl, refl, refl)
number_kinds r g e = none_is_some g e

-- how many frames of a kind are sent
abbrev pub count : (Said → ℕ) → List PlainFrame → ℕ
count kind [] = 0
count kind (f ∷ fs) = kind (said (Ok f)) + count kind fs

abbrev pub AllNumbered : List PlainFrame → Type 0
AllNumbered fs = Each (λ f. number_in (Ok f) ≡ Some f) fs

pub numbered_no_ua : (fs : List PlainFrame) → AllNumbered fs → count ua_of fs ≡ 0
numbered_no_ua [] h = refl
numbered_no_ua (f ∷ fs) h = omega (arith, (number_kinds (Ok f) f h.0).1, numbered_no_ua fs h.1)

quiet_rest : (m : Option PlainFrame) (fs : List PlainFrame) → consed m fs ≡ [] → (m ≡ None) × (fs ≡ [])
quiet_rest None fs e = (refl, e)
quiet_rest (Some f) fs e = absurd (cc)

-- those before a UA, or those behind it
abbrev pub by_first : ℕ → List Entry → List Entry → List Entry
by_first zero before behind = before
by_first (suc n) before behind = behind

module _ (from : Role) (n1 : ℕ) where
  -- the frames with an N(R) on a line
  abbrev pub numbers : List Entry → List PlainFrame
  numbers es = numbered_on from n1 (octets_of es)

  pub numbers_append : (xs ys : List Entry) → numbers (xs ++ ys) ≡ numbers xs ++ numbers ys
  numbers_append xs ys = ap (numbered_on from n1) (octets_append xs ys) ∙ numbered_append from n1 (octets_of xs) (octets_of ys)

  pub quiet_tail : (e : Entry) (es : List Entry) → numbers (e ∷ es) ≡ [] → numbers es ≡ []
  quiet_tail e es h = (quiet_rest (number_in (frame_of from n1 e.octets)) (numbers es) h).1

  -- entries without an N(R) are of any session
  pub quiet_of : (s : ℕ) (es : List Entry) → numbers es ≡ [] → AllOf from n1 s es
  quiet_of s [] h = tt
  quiet_of s (e ∷ es) h = (inl (quiet_rest (number_in (frame_of from n1 e.octets)) (numbers es) h).0, quiet_of s es (quiet_tail e es h))

  pub of_sent : (role : Role) (s : ℕ) (fs : List PlainFrame) → AllOf from n1 s (sent_in s role fs)
  of_sent role s [] = tt
  of_sent role s (f ∷ fs) = (inr refl, of_sent role s fs)

  -- frames of a kind on both parts of a line
  pub many_append : (kind : Said → ℕ) (xs ys : List Entry) → how_many kind (letters from n1 (xs ++ ys))
      ≡ how_many kind (letters from n1 xs) + how_many kind (letters from n1 ys)
  many_append kind [] ys = omega arith
  many_append kind (e ∷ xs) ys = omega (arith, many_append kind xs ys)

  -- ---- the octets that carry a number

  abbrev kept : Option PlainFrame → List ℕ → List (List ℕ) → List (List ℕ)
  kept None o os = os
  kept (Some f) o os = o ∷ os

  -- of the octets on a line those that read as a frame with an N(R)
  abbrev pub carried : List Entry → List (List ℕ)
  carried [] = []
  carried (e ∷ es) = kept (number_in (frame_of from n1 e.octets)) e.octets (carried es)

  kept_numbers : (m : Option PlainFrame) (o : List ℕ) (os : List (List ℕ)) → number_in (frame_of from n1 o) ≡ m → numbered_on from n1 (kept m o os)
      ≡ consed m (numbered_on from n1 os)
  kept_numbers None o os e = refl
  kept_numbers (Some f) o os e = ap (λ m. consed m (numbered_on from n1 os)) e

  -- octets that carry a number are read as the frames with a number
  pub carried_numbers : (es : List Entry) → numbered_on from n1 (carried es) ≡ numbers es
  carried_numbers [] = refl
  carried_numbers (e ∷ es) =
      kept_numbers (number_in (frame_of from n1 e.octets)) e.octets (carried es) refl
      ∙ ap (λ fs. consed (number_in (frame_of from n1 e.octets)) fs) (carried_numbers es)

  some_orderly : (r : Read) (f : PlainFrame) → number_in r ≡ Some f → IsOrderly r
  some_orderly (Ok (frmr g why)) f e = none_is_some f e
  some_orderly (Err x) f e = none_is_some f e
  some_orderly (Ok frame) f e = tt

  kept_orderly : (m : Option PlainFrame) (o : List ℕ) (os : List (List ℕ)) → number_in (frame_of from n1 o) ≡ m → AreOrderly from n1 os
      → AreOrderly from n1 (kept m o os)
  kept_orderly None o os e h = h
  kept_orderly (Some f) o os e h = (some_orderly (frame_of from n1 o) f e, h)

  -- a frame with an N(R) is read, and is no FRMR
  pub carried_orderly : (es : List Entry) → AreOrderly from n1 (carried es)
  carried_orderly [] = tt
  carried_orderly (e ∷ es) = kept_orderly (number_in (frame_of from n1 e.octets)) e.octets (carried es) refl (carried_orderly es)

  -- ---- a frame is lost, or damaged

  -- those that come by an end that is Up, of which the frame at this place of the line goes
  abbrev pub Come : List (Frame (List ℕ)) → ℕ → List Entry → Type 0
  Come gs s es = ShowAll (numbers es) gs × AllOf from n1 s es

  pub come_less : (s : ℕ) {i : ℕ} {es fs : List Entry} → LessAt IsSeenIn i es fs → (gs : List (Frame (List ℕ))) → Come gs s es
      → Come (taken_out (place_of from n1 (octets_of es) i) gs) s fs
  come_less s l gs h = (
    shows_less from n1 (octets_less l) gs h.0,
    each_less _ (λ e f seen _. inl (visible_is (λ r. number_in r ≡ None) from n1 f.octets seen.1 refl refl)) l h.1,
  )

  -- ---- behind the first UA

  -- the entries behind the first UA
  abbrev pub behind_ua : List Entry → List Entry
  behind_ua [] = []
  behind_ua (e ∷ es) = by_first (ua_of (said (frame_of from n1 e.octets))) (behind_ua es) es

  pub behind_append : (es more : List Entry) → 1 ≤ how_many ua_of (letters from n1 es) → behind_ua (es ++ more) ≡ behind_ua es ++ more
  behind_append [] more some = absurd (omega (arith, some))
  behind_append (e ∷ es) more some = go (ua_of (said (frame_of from n1 e.octets))) refl (λ k. behind_append es more k)
    where
      go : (n : ℕ) → ua_of (said (frame_of from n1 e.octets)) ≡ n → (1 ≤ how_many ua_of (letters from n1 es) → behind_ua (es ++ more) ≡ behind_ua es ++ more)
          → by_first n (behind_ua (es ++ more)) (es ++ more) ≡ by_first n (behind_ua es) es ++ more
      go zero is next = next (omega (arith, some, is))
      go (suc n) is next = refl

  -- the UA is the last
  pub behind_last : (es : List Entry) (e : Entry) → how_many ua_of (letters from n1 es) ≡ 0 → ua_of (said (frame_of from n1 e.octets)) ≡ 1
      → behind_ua (es ++ e ∷ []) ≡ []
  behind_last [] e none one = ap (λ n. by_first n [] []) one
  behind_last (x ∷ es) e none one =
      let here : ua_of (said (frame_of from n1 x.octets)) ≡ 0 = omega (arith, none) in
      ap (λ n. by_first n (behind_ua (es ++ e ∷ [])) (es ++ e ∷ [])) here ∙ behind_last es e (omega (arith, none)) one

  pub behind_quiet : (es : List Entry) → numbers es ≡ [] → numbers (behind_ua es) ≡ []
  behind_quiet [] none = refl
  behind_quiet (e ∷ es) none = go (ua_of (said (frame_of from n1 e.octets))) (behind_quiet es (quiet_tail e es none))
    where
      go : (n : ℕ) → numbers (behind_ua es) ≡ [] → numbers (by_first n (behind_ua es) es) ≡ []
      go zero rest = rest
      go (suc n) rest = quiet_tail e es none

  -- and the frame that goes is one of these, or none where the UA goes
  pub behind_less : (s : ℕ) {i : ℕ} {es fs : List Entry} → LessAt IsSeenIn i es fs → how_many ua_of (letters from n1 es) ≤ 1
      → 1 ≤ how_many ua_of (letters from n1 fs) → (gs : List (Frame (List ℕ))) → Come gs s (behind_ua es)
      → Come (taken_out (place_behind_ua from n1 (octets_of es) i) gs) s (behind_ua fs)
  behind_less s (nothing j) few some gs h = h
  behind_less s (gone e xs) few some gs h =
      (let none : ua_of (said (frame_of from n1 e.octets)) ≡ 0 = omega (arith, few, some) in subst (λ n. Come gs s (by_first n (behind_ua xs) xs)) none h)
  behind_less s (hurt e f xs seen) few some gs h =
      let new = (visible_is (λ r. ua_of (said r) ≡ 0) from n1 f.octets seen.1 refl refl) in
      let none : ua_of (said (frame_of from n1 e.octets)) ≡ 0 = omega (arith, few, some, new) in
      subst (λ n. Come gs s (by_first n (behind_ua xs) xs)) (none ∙ sym new) h
  behind_less s (deeper j e xs ys l) few some gs h = go (ua_of (said (frame_of from n1 e.octets))) refl (λ fewer more k. behind_less s l fewer more gs k) h
    where
      go : (n : ℕ) → ua_of (said (frame_of from n1 e.octets)) ≡ n
          → (how_many ua_of (letters from n1 xs) ≤ 1 → 1 ≤ how_many ua_of (letters from n1 ys) → Come gs s (behind_ua xs)
          → Come (taken_out (place_behind_ua from n1 (octets_of xs) j) gs) s (behind_ua ys))
          → Come gs s (by_first n (behind_ua xs) xs)
          → Come (taken_out (by_answers n (place_behind_ua from n1 (octets_of xs) j) (place_of from n1 (octets_of xs) j)) gs) s (by_first n (behind_ua ys) ys)
      go zero is next k = next (omega (arith, few, is)) (omega (arith, some, is)) k
      go (suc n) is next k = come_less s l gs k

  pub behind_none : {i : ℕ} {es fs : List Entry} → LessAt IsSeenIn i es fs → how_many ua_of (letters from n1 fs) ≡ 0
      → place_behind_ua from n1 (octets_of es) i ≡ None
  behind_none (deeper j e xs ys l) none =
      let here : ua_of (said (frame_of from n1 e.octets)) ≡ 0 = omega (arith, none) in
      ap (λ n. by_answers n (place_behind_ua from n1 (octets_of xs) j) (place_of from n1 (octets_of xs) j)) here ∙ behind_none l (omega (arith, none))
  behind_none l none = refl

-- ---- what is sent reads as it was spelled

module _ (reads : ReadsSpelled) (from : Role) (n1 : ℕ) where
  pub many_sent : (kind : Said → ℕ) (s : ℕ) (given : List (List ℕ)) (fs : List PlainFrame) → AreWhole n1 given fs
      → how_many kind (letters from n1 (sent_in s from fs)) ≡ count kind fs
  many_sent kind s given [] h = refl
  many_sent kind s given (f ∷ fs) h =
      let read = reads from n1 f (spelling_of from f) (record { in_range = h.0.in_range; carries = h.0.carries; within = h.0.within; spelling = refl }) in
      let here = ap (λ r. kind (said r)) read in
      omega (arith, here, many_sent kind s given fs h.1)
