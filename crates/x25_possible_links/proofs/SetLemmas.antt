-- What a set of places tells over a tape.
use Rattle.x25_possible_links.proofs.Names.{Bool, true, false, ◌≡◌, ◌⊎◌, inl, inr, ◌<◌, ◌==◌, List, [], ◌∷◌, ◌++◌, drop, length, refl, sym, ap, subst}
use Rattle.x25_possible_links.proofs.Names.{both_ways, IsIn, Place, State, At, MaySend, onward, settle, sends_to, shows_to, spot_at, Frame, LinkSet, Stand}
use Rattle.x25_possible.specs.laws.Possible.{Item, Own, Other, Stands, Begins, Sends, Shows, Takes}
use Rattle.x25_possible_links.proofs.{Alike.{AllAre, sent_all, shown_all}, Covering.{blind_sends, blind_shows, Has, has_sent, has_shown, has_taken, is_untold}}
use Rattle.x25_possible_links.proofs.{Covers.{Here}, Exactly.{settled_stand, walks_stand}, Leads.{HoldsAt, onward_may, stays_at}, Lists.{in_map, from_map}}
use Rattle.x25_possible_links.{proofs.Stands.{below_self}, specs.code.Steps.{begun_as, played}, specs.laws.Link.{link_rules}, specs.laws.Places.{walks}}
use Rattle.x25_possible_links.specs.laws.Sets.{GuiltyAreTold, InnocentsStayUntold, IsRoomy, IsTimely}

-- ---- items of a tape

IsSome : List (Item Frame) → Type 0
IsSome [] = ⊥
IsSome (x ∷ xs) = Unit {0}

none_is : (i : Item Frame) (tape : List (Item Frame)) → [] ≡ i ∷ tape → ⊥
unfolding IsSome
none_is i tape e = subst IsSome (sym e) tt

IsOther : List (Item Frame) → Type 0
IsOther (Other x ∷ tape) = Unit {0}
IsOther tape = ⊥

not_own : (x y : Frame) (tape' tape : List (Item Frame)) → Other y ∷ tape' ≡ Own x ∷ tape → ⊥
unfolding IsOther
not_own x y tape' tape e = subst IsOther e tt

frame_of : Frame → List (Item Frame) → Frame
frame_of d [] = d
frame_of d (Own x ∷ tape) = x
frame_of d (Other x ∷ tape) = x

rest_of : List (Item Frame) → List (Item Frame)
rest_of [] = []
rest_of (x ∷ tape) = tape

own_is : (x y : Frame) (tape tape' : List (Item Frame)) → Own y ∷ tape' ≡ Own x ∷ tape → (y ≡ x) × (tape' ≡ tape)
unfolding frame_of rest_of
own_is x y tape tape' e = (ap (frame_of y) e, ap rest_of e)

rest_is : (i j : Item Frame) (tape tape' : List (Item Frame)) → j ∷ tape' ≡ i ∷ tape → tape' ≡ tape
unfolding rest_of
rest_is i j tape tape' e = ap rest_of e

-- ---- there is a place for each run, with room, or where nothing comes late

-- there was room up to then
saw : (b c : Bool) → (b ≡ true → c ≡ true) → c ≡ false → b ≡ false
saw true c on e = absurd (both_ways c e (on refl))
saw false c on e = refl

module _ (begun : List Stand) where
  abbrev set : List (Item Frame) → LinkSet
  set tape = played (begun_as begun) tape

  before_sends : (tape : List (Item Frame)) (x : Frame) → (set (Own x ∷ tape)).is_blind ≡ false → (set tape).is_blind ≡ false
  before_sends tape x room = saw (set tape).is_blind (sends_to x (set tape)).set.is_blind (blind_sends (set tape) x) room

  before_shows : (tape : List (Item Frame)) (x : Frame) → (set (Other x ∷ tape)).is_blind ≡ false → (set tape).is_blind ≡ false
  before_shows tape x room = saw (set tape).is_blind (shows_to x (set tape)).is_blind (blind_shows (set tape) x) room

  has_run : (tape : List (Item Frame)) (s : State) (way : List Frame) (run : Stands (link_rules begun) tape s way)
      → IsTimely run ⊎ IsRoomy begun tape → Has (set tape) s way
  has_run _ _ _ (Begins s b) well = (
    spot_at 0 b.0,
    in_map (spot_at 0) begun b.0 b.1,
    subst (λ w. HoldsAt b.0 [] w []) (sym b.2) (stays_at b.0 [] b.0 b.0 [] (below_self b.0) (Here b.0 b.0 [] (below_self b.0))),
  )
  has_run _ _ _ (Sends tape s r way x may run) (inl timely) = has_sent (set tape) x s r way may (has_run tape s way run (inl timely))
  has_run _ _ _ (Sends tape s r way x may run) (inr roomy) = has_sent (set tape) x s r way may (has_run tape s way run (inr roomy))
  has_run _ _ _ (Shows tape s way x run) (inl timely) =
      has_shown x s way (set tape) (λ full. timely.0) (has_run tape s way run (inl timely.1))
  has_run _ _ _ (Shows tape s way x run) (inr roomy) =
      has_shown x s way (set tape) (λ full. absurd (both_ways (length (set tape).way.items == 128) roomy.0 full))
      (has_run tape s way run (inr roomy.1))
  has_run _ _ _ (Takes tape s r way x may run) (inl timely) =
      has_taken (set tape).spots.items (set tape).way.items s r x way (has_run tape s (x ∷ way) run (inl timely)) may
  has_run _ _ _ (Takes tape s r way x may run) (inr roomy) =
      has_taken (set tape).spots.items (set tape).way.items s r x way (has_run tape s (x ∷ way) run (inr roomy)) may

  -- a run of which that is so
  record Ran (tape : List (Item Frame)) : Type 0 where
    s : State
    way : List Frame
    run : Stands (link_rules begun) tape s way
    well : IsTimely run ⊎ IsRoomy begun tape

  roomy_on : (tape tape' : List (Item Frame)) → tape' ≡ tape → IsRoomy begun tape → IsRoomy begun tape'
  roomy_on tape tape' same roomy = subst (λ t. IsRoomy begun t) (sym same) roomy

  -- up to its last frame
  record Said (tape : List (Item Frame)) (x : Frame) : Type 0 where
    ran : Ran tape
    r : State
    may : MaySend ran.s ran.way x r

  said : (items tape : List (Item Frame)) (x : Frame) (s : State) (way : List Frame) → items ≡ Own x ∷ tape
      → (run : Stands (link_rules begun) items s way) → IsTimely run ⊎ IsRoomy begun tape → Said tape x
  said _ tape x _ _ e (Begins s b) well = absurd (none_is (Own x) tape e)
  said _ tape x _ _ e (Shows tape' s way y run) well = absurd (not_own x y tape' tape e)
  said _ tape x _ _ e (Takes tape' s r way y may run) (inl timely) = said tape' tape x s (y ∷ way) e run (inl timely)
  said _ tape x _ _ e (Takes tape' s r way y may run) (inr roomy) = said tape' tape x s (y ∷ way) e run (inr roomy)
  said _ tape x _ _ e (Sends tape' s r way y may run) well =
      let same = own_is x y tape tape' e in
      subst (λ z. Said tape z) same.0
      (subst (λ t. Said t y) same.1 (record { ran = record { s = s; way = way; run = run; well = by well same.1 }; r = r; may = may }))
    where
      by : IsTimely run ⊎ IsRoomy begun tape → tape' ≡ tape → IsTimely run ⊎ IsRoomy begun tape'
      by (inl timely) same = inl timely
      by (inr roomy) same = inr (roomy_on tape tape' same roomy)

  shown : (items tape : List (Item Frame)) (x : Frame) (s : State) (way : List Frame) → items ≡ Other x ∷ tape
      → (run : Stands (link_rules begun) items s way) → IsTimely run ⊎ IsRoomy begun tape → Ran tape
  shown _ tape x _ _ e (Begins s b) well = absurd (none_is (Other x) tape e)
  shown _ tape x _ _ e (Sends tape' s r way y may run) well = absurd (not_own y x tape tape' (sym e))
  shown _ tape x _ _ e (Takes tape' s r way y may run) (inl timely) = shown tape' tape x s (y ∷ way) e run (inl timely)
  shown _ tape x _ _ e (Takes tape' s r way y may run) (inr roomy) = shown tape' tape x s (y ∷ way) e run (inr roomy)
  shown _ tape x _ _ e (Shows tape' s way y run) well = subst Ran (rest_is (Other x) (Other y) tape tape' e) (by well)
    where
      by : (length way < 64) × IsTimely run ⊎ IsRoomy begun tape → Ran tape'
      by (inl timely) = record { s = s; way = way; run = run; well = inl timely.1 }
      by (inr roomy) = record { s = s; way = way; run = run; well = inr (roomy_on tape tape' (rest_is (Other x) (Other y) tape tape' e) roomy) }

  -- ---- and a run comes to each place, with room

  abbrev Comes : List (Item Frame) → Place Stand Frame → Type 0
  Comes tape p = Stands (link_rules begun) tape (At p.state) p.way

  own_comes : (tape : List (Item Frame)) (x : Frame) (p m : Place Stand Frame) → Comes tape p → IsIn m (walks x p)
      → Comes (Own x ∷ tape) (settle m)
  own_comes tape x p m h is = settled_stand begun (Own x ∷ tape) m.way m.state (walks_stand begun tape x p m h is)

  all_come : (tape : List (Item Frame)) → Ran tape → (set tape).is_blind ≡ false → AllAre (Comes tape) (set tape)
  all_come [] ran room = λ q is.
      let g = from_map (spot_at 0) begun q is in
      subst (λ r. Stands (link_rules begun) [] (At r.stand) (drop r.at [])) (sym g.2) (Begins (At g.0) (g.0, g.1, refl))
  all_come (Own x ∷ tape) ran room =
      let l = said (Own x ∷ tape) tape x ran.s ran.way refl ran.run ran.well in
      (sent_all (Comes tape) (Comes (Own x ∷ tape)) (set tape) x (all_come tape l.ran (before_sends tape x room)) (own_comes tape x) room
      (is_untold (set tape) x l.ran.s l.r l.ran.way l.may (has_run tape l.ran.s l.ran.way l.ran.run l.ran.well))).all
  all_come (Other x ∷ tape) ran room =
      shown_all (Comes tape) (Comes (Other x ∷ tape)) (set tape) x
      (all_come tape (shown (Other x ∷ tape) tape x ran.s ran.way refl ran.run (later ran.well)) (before_shows tape x room))
      (λ u y v e h. Takes tape (At u) (At (onward u y)) v y (onward_may u y) h)
      (λ p h. settled_stand begun (Other x ∷ tape) (p.way ++ x ∷ []) p.state (Shows tape (At p.state) p.way x h)) room
    where
      later : IsTimely ran.run ⊎ (((length (set tape).way.items == 128) ≡ false) × IsRoomy begun tape)
          → IsTimely ran.run ⊎ IsRoomy begun tape
      later (inl timely) = inl timely
      later (inr roomy) = inr roomy.1

-- ---- what is told

pub innocents_stay_untold : InnocentsStayUntold
innocents_stay_untold begun tape x s way run well =
    let l = said begun (Own x ∷ tape) tape x s way refl run well in
    is_untold (played (begun_as begun) tape) x l.ran.s l.r l.ran.way l.may (has_run begun tape l.ran.s l.ran.way l.ran.run l.ran.well)

pub guilty_are_told : GuiltyAreTold
guilty_are_told begun tape x s way run well room none told =
    let g = sent_all (Comes begun tape) (Comes begun (Own x ∷ tape)) (set begun tape) x
    (all_come begun tape (record { s = s; way = way; run = run; well = well }) (before_sends begun tape x room)) (own_comes begun tape x)
    room told in
    none (At g.to.state) g.to.way (walks_stand begun tape x g.from g.to g.was g.goes)
