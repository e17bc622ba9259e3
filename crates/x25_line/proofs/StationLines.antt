-- The octets on a line, and the frames of the window machine that they show.
use Rattle.x25_line.proofs.Names.{◌≡◌, ℕ, ◌%◌, List, [], ◌∷◌, ◌++◌, ◌⊎◌, inl, inr, length, map, Bool, true, false, not, if◌then◌else◌, Option, Some, None}
use Rattle.x25_line.proofs.Names.{Result, Ok, Err, refl, sym, ap, ◌∙◌, subst, Contains-append_cases, ◌||◌, nat_lt, option_to_list, Contains, Role, PlainFrame}
use Rattle.x25_line.proofs.Names.{info, sabm, disc, ua, dm, frmr, spelling_of, frame_of, FrameError, Short, BadFcs, Undefined, NoInfoAllowed, TooLong}
use Rattle.x25_line.proofs.Names.{ReadsSpelled, Numbered, Frame, ShowsItem, Shows, ShowAll, LessAt, nothing, gone, hurt, deeper, is_visible, IsSeen, number_in}
use Rattle.std.proofs.lemmas.List.Elements.{Contains-append_left, Contains-append_right}
use Rattle.x25_bits.specs.FrameCheck.Sealed.{is_sealed}
use Rattle.x25_frame.specs.{Reading.{addressed_frame}, Spelling.{information_of, IsInRange, MayCarry, IsWithin}}
use Rattle.x25_line.proofs.{Lists.{each_map, each_over}, Names.{numbered_on, NoFrmr, IsWhole, AreWhole, first_of, place_of, taken_out}}
use Rattle.x25_line.specs.laws.{StationClaims.{Each, IsHandedDown}, WholeNumbers.{one_more, behind}}

-- ---- frames by frames

-- frames of both parts are shown
pub shows_append : (fs es : List PlainFrame) (gs hs : List (Frame (List ℕ))) → ShowAll fs gs → ShowAll es hs → ShowAll (fs ++ es) (gs ++ hs)
shows_append [] es [] hs f e = e
shows_append (x ∷ fs) es (g ∷ gs) hs f e = (f.0, shows_append fs es gs hs f.1 e)
shows_append fs es gs hs f e = absurd f

-- what stands for the first frame
pub record Front (f : PlainFrame) (rest : List PlainFrame) (bs : List (Frame (List ℕ))) : Type 0 where
  pub frame : Frame (List ℕ)
  pub others : List (Frame (List ℕ))
  pub is : bs ≡ frame ∷ others
  pub shows : Shows f frame
  pub rest_shows : ShowAll rest others

-- the frame in front, and what it shows in the window machine
pub front_of : (f : PlainFrame) (rest : List PlainFrame) (bs : List (Frame (List ℕ))) → ShowAll (f ∷ rest) bs → Front f rest bs
front_of f rest [] h = absurd h
front_of f rest (g ∷ gs) h = record { frame = g; others = gs; is = refl; shows = h.0; rest_shows = h.1 }

pub record Carried (ns : ℕ) (x : List ℕ) (o : Option (Numbered (List ℕ))) : Type 0 where
  pub item : Numbered (List ℕ)
  pub is : o ≡ Some item
  pub number : ns ≡ item.number % 8
  pub same : x ≡ item.item

pub carried_of : {ns : ℕ} {x : List ℕ} (o : Option (Numbered (List ℕ))) → ShowsItem o ns x → Carried ns x o
carried_of None h = absurd h
carried_of (Some q) h = record { item = q; is = refl; number = h.0; same = h.1 }

-- ---- what is on a line

-- no FRMR, SABM only where an end may ask for set-up, and what doesn't read as a frame was visibly damaged
abbrev pub IsOrderly : Result PlainFrame FrameError → Type 0
IsOrderly (Ok (frmr f why)) = ⊥
IsOrderly (Err (Undefined control)) = ⊥
IsOrderly (Err (NoInfoAllowed control)) = ⊥
IsOrderly (Err TooLong) = ⊥
IsOrderly read = Unit {0}

-- no FRMR is among them, and nothing that is answered by one
abbrev pub AreOrderly : Role → ℕ → List (List ℕ) → Type 0
AreOrderly from n1 os = Each (λ o. IsOrderly (frame_of from n1 o)) os

-- the frames, with the first, where that has a number
abbrev pub consed : Option PlainFrame → List PlainFrame → List PlainFrame
consed first frames = option_to_list first ++ frames

consed_append : (m : Option PlainFrame) (xs ys : List PlainFrame) → consed m (xs ++ ys) ≡ consed m xs ++ ys
consed_append None xs ys = refl
consed_append (Some f) xs ys = refl

-- the frames with a number, of both parts of a line
pub numbered_append : (from : Role) (n1 : ℕ) (xs ys : List (List ℕ)) → numbered_on from n1 (xs ++ ys) ≡ numbered_on from n1 xs ++ numbered_on from n1 ys
numbered_append from n1 [] ys = refl
numbered_append from n1 (o ∷ xs) ys =
    ap (consed (number_in (frame_of from n1 o))) (numbered_append from n1 xs ys)
    ∙ consed_append (number_in (frame_of from n1 o)) (numbered_on from n1 xs) (numbered_on from n1 ys)

-- ---- what is put on a line

-- it may be spelled, is numbered, and is no FRMR
pub record IsGood (n1 : ℕ) (f : PlainFrame) : Type 0 where
  pub in_range : IsInRange f
  pub carries : MayCarry f (information_of f)
  pub within : IsWithin n1 f (information_of f)
  pub number : number_in (Ok f) ≡ Some f
  pub orderly : IsOrderly (Ok f)

abbrev pub AllGood : ℕ → List PlainFrame → Type 0
AllGood n1 fs = Each (IsGood n1) fs

-- frames that carry no number: UA, DM, DISC, and SABM where an end may ask for set-up
abbrev pub AreParting : List PlainFrame → Type 0
AreParting [] = Unit {0}
AreParting (sabm p ∷ fs) = AreParting fs
AreParting (disc p ∷ fs) = AreParting fs
AreParting (ua f ∷ fs) = AreParting fs
AreParting (dm f ∷ fs) = AreParting fs
AreParting (f ∷ fs) = ⊥

-- each of them may be spelled, and is no FRMR
pub record IsPart (f : PlainFrame) : Type 0 where
  pub in_range : IsInRange f
  pub carries : MayCarry f (information_of f)
  pub within : (n1 : ℕ) → IsWithin n1 f (information_of f)
  pub none : number_in (Ok f) ≡ None
  pub orderly : IsOrderly (Ok f)
  pub packet : (given : List (List ℕ)) → IsHandedDown given f

-- what an end that isn't Up sends: each frame by itself
pub parts_of : (fs : List PlainFrame) → AreParting fs → Each IsPart fs
parts_of [] h = tt
parts_of (sabm p ∷ fs) h = (record { in_range = tt; carries = refl; within = λ n1. tt; none = refl; orderly = tt; packet = λ given. tt }, parts_of fs h)
parts_of (disc p ∷ fs) h = (record { in_range = tt; carries = refl; within = λ n1. tt; none = refl; orderly = tt; packet = λ given. tt }, parts_of fs h)
parts_of (ua f ∷ fs) h = (record { in_range = tt; carries = refl; within = λ n1. tt; none = refl; orderly = tt; packet = λ given. tt }, parts_of fs h)
parts_of (dm f ∷ fs) h = (record { in_range = tt; carries = refl; within = λ n1. tt; none = refl; orderly = tt; packet = λ given. tt }, parts_of fs h)
parts_of (frame ∷ fs) h = absurd h

-- no FRMR in either part
pub no_frmr_append : (fs es : List PlainFrame) → NoFrmr fs → NoFrmr es → NoFrmr (fs ++ es)
no_frmr_append [] es f e = e
no_frmr_append (frmr g why ∷ fs) es f e = absurd f
no_frmr_append (frame ∷ fs) es f e = no_frmr_append fs es f e

-- where none is out of order
orderly_no_frmr : (f : PlainFrame) (fs : List PlainFrame) → IsOrderly (Ok f) → NoFrmr fs → NoFrmr (f ∷ fs)
orderly_no_frmr (frmr f why) fs o h = absurd o
orderly_no_frmr f fs o h = h

pub good_no_frmr : (n1 : ℕ) (fs : List PlainFrame) → AllGood n1 fs → NoFrmr fs
good_no_frmr n1 [] h = tt
good_no_frmr n1 (f ∷ fs) h = orderly_no_frmr f fs h.0.orderly (good_no_frmr n1 fs h.1)

-- ---- whole frames

abbrev pub AllHandedDown : List (List ℕ) → List PlainFrame → Type 0
AllHandedDown given fs = Each (IsHandedDown given) fs

handed_more : (xs ys : List (List ℕ)) → ((x : List ℕ) → Contains xs x → Contains ys x) → (f : PlainFrame) → IsHandedDown xs f → IsHandedDown ys f
handed_more xs ys more (info ns nr p x) h = more x h
handed_more xs ys more f h = tt

-- where more was handed down
pub whole_more : (n1 : ℕ) (xs ys : List (List ℕ)) → ((x : List ℕ) → Contains xs x → Contains ys x) → (fs : List PlainFrame) → AreWhole n1 xs fs
    → AreWhole n1 ys fs
whole_more n1 xs ys more = each_map (IsWhole n1 xs) (IsWhole n1 ys)
    (λ f h. record { in_range = h.in_range; carries = h.carries; within = h.within; packet = handed_more xs ys more f h.packet })

pub good_whole : (n1 : ℕ) (given more : List (List ℕ)) (fs : List PlainFrame) → AllGood n1 fs → AllHandedDown given fs → AreWhole n1 (given ++ more) fs
good_whole n1 given more [] g h = tt
good_whole n1 given more (f ∷ fs) g h = (
  record {
    in_range = g.0.in_range;
    carries = g.0.carries;
    within = g.0.within;
    packet = handed_more given (given ++ more) (λ x k. Contains-append_left given more x k) f h.0;
  },
  good_whole n1 given more fs g.1 h.1,
)

-- of frames without a number none is FRMR
pub parting_no_frmr : (fs : List PlainFrame) → Each IsPart fs → NoFrmr fs
parting_no_frmr [] h = tt
parting_no_frmr (f ∷ fs) h = orderly_no_frmr f fs h.0.orderly (parting_no_frmr fs h.1)

-- frames without a number are whole
pub parting_whole : (n1 : ℕ) (given : List (List ℕ)) (fs : List PlainFrame) → Each IsPart fs → AreWhole n1 given fs
parting_whole n1 given = each_map IsPart (IsWhole n1 given)
    (λ f h. record { in_range = h.in_range; carries = h.carries; within = h.within n1; packet = h.packet given })

-- what was handed down at either end, and then more at the first
pub first_more : (xs ys more : List (List ℕ)) (x : List ℕ) → Contains (xs ++ ys) x → Contains ((xs ++ more) ++ ys) x
first_more xs ys more x h = elim (Contains-append_cases xs ys x h) [
  | inl there ↦ Contains-append_left (xs ++ more) ys x (Contains-append_left xs more x there)
  | inr there ↦ Contains-append_right (xs ++ more) ys x there
]

-- what was handed down at either end, whichever is named first
pub either_way : (xs ys : List (List ℕ)) (x : List ℕ) → Contains (xs ++ ys) x → Contains (ys ++ xs) x
either_way xs ys x h = elim (Contains-append_cases xs ys x h) [
  | inl there ↦ Contains-append_right ys xs x there
  | inr there ↦ Contains-append_left ys xs x there
]

module _ (reads : ReadsSpelled) (from : Role) (n1 : ℕ) where
  -- octets that spell such a frame are read as it
  pub good_reads : {f : PlainFrame} → IsGood n1 f → frame_of from n1 (spelling_of from f) ≡ Ok f
  good_reads {f} h = reads from n1 f (spelling_of from f) (record { in_range = h.in_range; carries = h.carries; within = h.within; spelling = refl })

  pub good_numbered : (fs : List PlainFrame) → AllGood n1 fs → numbered_on from n1 (map (spelling_of from) fs) ≡ fs
  good_numbered [] h = refl
  good_numbered (f ∷ fs) h = rw (good_reads h.0, h.0.number) (ap (λ es. f ∷ es) (good_numbered fs h.1))

  pub good_orderly : (fs : List PlainFrame) → AllGood n1 fs → AreOrderly from n1 (map (spelling_of from) fs)
  good_orderly = each_over (IsGood n1) (λ o. IsOrderly (frame_of from n1 o)) (spelling_of from) (λ f h. rw (good_reads h) h.orderly)

  -- a frame without a number is read back
  pub part_reads : {f : PlainFrame} → IsPart f → frame_of from n1 (spelling_of from f) ≡ Ok f
  part_reads {f} h = reads from n1 f (spelling_of from f) (record { in_range = h.in_range; carries = h.carries; within = h.within n1; spelling = refl })

  -- none of them has an N(R)
  pub parting_numbered : (fs : List PlainFrame) → Each IsPart fs → numbered_on from n1 (map (spelling_of from) fs) ≡ []
  parting_numbered [] h = refl
  parting_numbered (f ∷ fs) h = rw (part_reads h.0, h.0.none) (parting_numbered fs h.1)

  pub parting_orderly : (fs : List PlainFrame) → Each IsPart fs → AreOrderly from n1 (map (spelling_of from) fs)
  parting_orderly = each_over IsPart (λ o. IsOrderly (frame_of from n1 o)) (spelling_of from) (λ f h. rw (part_reads h) h.orderly)

-- ---- what is lost or damaged

pub taken_out_behind : (p : Option ℕ) (g : Frame (List ℕ)) (gs : List (Frame (List ℕ))) → taken_out (one_more p) (g ∷ gs) ≡ g ∷ taken_out p gs
taken_out_behind None g gs = refl
taken_out_behind (Some n) g gs = refl

pub shows_first : (m : Option PlainFrame) (fs : List PlainFrame) (gs : List (Frame (List ℕ))) → ShowAll (consed m fs) gs
    → ShowAll fs (taken_out (first_of m) gs)
shows_first None fs gs h = h
shows_first (Some f) fs [] h = absurd h
shows_first (Some f) fs (g ∷ gs) h = h.1

pub shows_behind : (m : Option PlainFrame) (fs es : List PlainFrame) (p : Option ℕ) (gs : List (Frame (List ℕ)))
    → ((hs : List (Frame (List ℕ))) → ShowAll fs hs → ShowAll es (taken_out p hs)) → ShowAll (consed m fs) gs
    → ShowAll (consed m es) (taken_out (behind m p) gs)
shows_behind None fs es p gs f h = f gs h
shows_behind (Some x) fs es p [] f h = absurd h
shows_behind (Some x) fs es p (g ∷ gs) f h = subst (ShowAll (x ∷ es)) (sym (taken_out_behind p g gs)) (h.0, f gs h.1)

-- octets that are visibly damaged read as no frame
pub visible_reads : (from : Role) (n1 : ℕ) (octets : List ℕ) → is_visible octets ≡ true → (frame_of from n1 octets ≡ Err Short)
    ⊎ (frame_of from n1 octets ≡ Err BadFcs)
unfolding frame_of
visible_reads from n1 octets e = go (nat_lt (length octets) 4) (is_sealed octets) e
  where
    go : (b s : Bool) → (b || not s) ≡ true
        → (let r : Result PlainFrame FrameError = if b then Err Short else if not s then Err BadFcs else addressed_frame from n1 octets in (r ≡ Err Short)
        ⊎ (r ≡ Err BadFcs))
    go true s e = inl refl
    go false false e = inr refl
    go false true e = absurd (never e)
      where
        never : false ≡ true → ⊥
        never e = cc

-- what holds of octets that are too short, and of a wrong FCS, holds of octets that are visibly damaged
pub visible_is : (P : Result PlainFrame FrameError → Type 0) (from : Role) (n1 : ℕ) (octets : List ℕ) → is_visible octets ≡ true → P (Err Short)
    → P (Err BadFcs) → P (frame_of from n1 octets)
visible_is P from n1 octets visible short bad = elim (visible_reads from n1 octets visible) [ inl is ↦ subst P (sym is) short | inr is ↦ subst P (sym is) bad ]

-- as frames of the window machine, where one is gone
pub shows_less : (from : Role) (n1 : ℕ) {i : ℕ} {os ps : List (List ℕ)} → LessAt IsSeen i os ps → (gs : List (Frame (List ℕ)))
    → ShowAll (numbered_on from n1 os) gs → ShowAll (numbered_on from n1 ps) (taken_out (place_of from n1 os i) gs)
shows_less from n1 (nothing j) gs h = h
shows_less from n1 (gone o os) gs h = shows_first (number_in (frame_of from n1 o)) (numbered_on from n1 os) gs h
shows_less from n1 (hurt o p os visible) gs h =
    rw (visible_is (λ r. number_in r ≡ None) from n1 p visible refl refl) (shows_first (number_in (frame_of from n1 o)) (numbered_on from n1 os) gs h)
shows_less from n1 (deeper j o os ps l) gs h =
    shows_behind (number_in (frame_of from n1 o)) (numbered_on from n1 os) (numbered_on from n1 ps) (place_of from n1 os j) gs
    (λ hs k. shows_less from n1 l hs k) h
