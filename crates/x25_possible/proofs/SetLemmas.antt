-- A set of states, packet by packet, and what is told of its end.
use Rattle.x25_possible.proofs.Names.{Bool, true, false, ◌≡◌, ◌⊎◌, inl, inr, ℕ, suc, ◌==◌, ◌&&◌, ◌||◌, if◌then◌else◌, refl, sym, ap, subst, ◌∙◌, List, [], ◌∷◌}
use Rattle.x25_possible.proofs.Names.{◌++◌, map, length, flat_map, Option, Some, None, arith, both_ways, eqb-true, none-some, Role, channel_choices}
use Rattle.x25_possible.proofs.Names.{channel_rules, is_polite, Place, Item, Own, Other, IsIn, IsUnexplained, possible, after_own, after_other, placed, Fits}
use Rattle.x25_possible.proofs.Names.{IsBroken, IsRude, IsUntold, anew, are_at_end, go_all, grow_all, is_blind, is_known, may_send, quietly, rude_from}
use Rattle.x25_possible.proofs.Names.{sends_to, sent_to, shown_to, shows_to, standing, told_by, trimmed, trims, Packet, Phase, Idle, Blind, Known, Set, Broken}
use Rattle.x25_possible.proofs.{ChannelLaws.{IsAsGood, channel_favourites}, Exactly.{tells_exactly}, Lists.{in_all, from_all, none_in}, Names.{Spot}}
use Rattle.x25_possible.proofs.StepLemmas.{Adds, all_go, all_grow, trims_to}
use Rattle.x25_possible.specs.code.Steps.{are_answered, awaits, breaks, explained, finds, known_by, blind_by, latest_from, lost, makes_known, sent, hidden_by}
use Rattle.x25_possible.specs.{code.Steps.{is_awaiting, shown, Stepped, trimmed_to, unexplained, without_room}, declared.set.Knowledge.{Knowledge}}
use Rattle.x25_possible.specs.declared.set.{Knowledge.TheVariants.{Lost}, Told.{Told}, Told.TheVariants.{Nothing}}
use Rattle.x25_possible.specs.laws.{Possible.{TellsExactly}, Sets.{AreSame, SendsExactly, ShowsExactly}}

-- ---- the same places

abbrev Places : Role → List Phase → List (Item Packet) → List (Place Phase Packet)
Places role states tape = possible (channel_choices role) states tape

-- the places of a set, whether its states are listed or not
abbrev Lists : List Phase → List (Item Packet) → Set → Type 0
Lists states tape s = AreSame (map (placed s.way.items) s.spots.items) (Places s.role states tape)

-- they come to the same ones
same_all : {X Y : Type 0} (g : X → List Y) (xs ys : List X) → AreSame xs ys → AreSame (flat_map g xs) (flat_map g ys)
same_all g xs ys same y = (
  λ h. let p = from_all g xs y h in in_all g ys p.0 y ((same p.0).0 p.1) p.2,
  λ h. let p = from_all g ys y h in in_all g xs p.0 y ((same p.0).1 p.1) p.2,
)

all_added : (f : Spot → Place Phase Packet) (new : List Spot) (js ks : List (Place Phase Packet)) → AreSame js ks → Adds f [] new js
    → AreSame (map f new) ks
all_added f new js ks same adds q = (λ h. (same q).0 (later ((adds q).0 h)), λ h. (adds q).1 (inr ((same q).1 h)))
  where
    later : ⊥ ⊎ IsIn q js → IsIn q js
    later (inl h) = absurd h
    later (inr h) = h

exact : (role : Role) (states : List Phase) → TellsExactly (channel_rules role states) (channel_choices role) states
exact role states = tells_exactly (channel_rules role states) (channel_choices role) states IsAsGood (channel_favourites role states)

no_place : (role : Role) (states : List Phase) (tape : List (Item Packet)) → AreSame [] (Places role states tape)
    → IsUnexplained (channel_rules role states) tape
no_place role states tape same =
    (exact role states).told tape (none_in (Places role states tape) (λ q is. (same q).1 is))

some_place : (role : Role) (states : List Phase) (tape : List (Item Packet)) (f : Spot → Place Phase Packet) (qs : List Spot)
    → AreSame (map f qs) (Places role states tape) → (length qs == 0) ≡ false
    → IsUnexplained (channel_rules role states) tape → ⊥
some_place role states tape f [] same e none = both_ways false refl (sym e)
some_place role states tape f (q ∷ qs) same e none =
    none (f q).state (f q).way ((exact role states).stands tape (f q) ((same (f q)).0 (inl refl)))

nothing_left : (qs : List Spot) → (length qs == 0) ≡ true → qs ≡ []
nothing_left [] e = refl
nothing_left (q ∷ qs) e = absurd (not_none (length qs) (eqb-true (length (q ∷ qs)) 0 e))
  where
    not_none : (n : ℕ) → suc n ≡ 0 → ⊥
    not_none n h = omega (arith, h)

-- ---- a set that is known

abbrev pub known : Role → List Packet → List Spot → Set
known role way qs = standing role way qs Known

of_known : (k : Knowledge) → known_by k ≡ true → k ≡ Known
of_known Known h = refl
of_known k h = absurd (both_ways false refl h)

pub is_so : (s : Set) → is_known s ≡ true → s ≡ known s.role s.way.items s.spots.items
is_so s h = ap (λ k. standing s.role s.way.items s.spots.items k) (of_known s.knowledge h)

-- ---- where all have come to the end of the way

trimmed_fits : (role : Role) (way : List Packet) (qs : List Spot) (k : Knowledge) (states : List Phase) (tape : List (Item Packet))
    → AreSame (map (placed way) qs) (Places role states tape) → Lists states tape (trimmed (standing role way qs k))
trimmed_fits role way qs k states tape same = go (is_awaiting (standing role way qs k)) (are_at_end (length way) qs) refl
  where
    made : (o : Option (List Spot)) → are_at_end (length way) qs ≡ true → anew qs [] ≡ o
        → Lists states tape (trimmed_to o (standing role way qs k))
    made None far e = same
    made (Some new) far e = all_added (placed []) new (map (placed way) qs) (Places role states tape) same (trims_to way qs new far e)

    go : (a b : Bool) → are_at_end (length way) qs ≡ b
        → Lists states tape (if a && b then trimmed_to (anew qs []) (standing role way qs k) else standing role way qs k)
    go true true far = made (anew qs []) far refl
    go true false far = same
    go false b far = same

trimmed_as : (s : Set) → (trimmed s).knowledge ≡ s.knowledge
trimmed_as s = go (is_awaiting s && are_at_end (length s.way.items) s.spots.items)
  where
    made : (o : Option (List Spot)) → (trimmed_to o s).knowledge ≡ s.knowledge
    made None = refl
    made (Some new) = refl

    go : (b : Bool) → (if b then trimmed_to (anew s.spots.items []) s else s).knowledge ≡ s.knowledge
    go true = made (anew s.spots.items [])
    go false = refl

pub trimmed_known : (s : Set) → is_known (trimmed s) ≡ is_known s
trimmed_known s = ap known_by (trimmed_as s)

trimmed_blind : (s : Set) → is_blind (trimmed s) ≡ is_blind s
trimmed_blind s = ap blind_by (trimmed_as s)

-- one that has lost its states has none listed
hidden_blind : (k was : Knowledge) (s : Set) → blind_by k ≡ true → is_blind s ≡ blind_by was → blind_by (hidden_by was k s).knowledge ≡ true
hidden_blind k Blind s dark e = e
hidden_blind k was s dark e = dark

lost_blind : (s : Set) → is_blind (trimmed (lost s)) ≡ true
lost_blind s = trimmed_blind (lost s) ∙ hidden_blind Lost s.knowledge s refl refl

-- the end stays the same one
role_trimmed : (s : Set) → (trimmed s).role ≡ s.role
role_trimmed s = go (is_awaiting s && are_at_end (length s.way.items) s.spots.items)
  where
    made : (o : Option (List Spot)) → (trimmed_to o s).role ≡ s.role
    made None = refl
    made (Some new) = refl

    go : (b : Bool) → (if b then trimmed_to (anew s.spots.items []) s else s).role ≡ s.role
    go true = made (anew s.spots.items [])
    go false = refl

-- ---- as the end sends a packet

record IsRight (s : Set) (states : List Phase) (tape : List (Item Packet)) (x : Packet) (r : Stepped) : Type 0 where
  told : IsBroken r.told → IsUnexplained (channel_rules s.role states) (Own x ∷ tape)
  untold : IsUntold r.told → is_known r.set ≡ true → IsUnexplained (channel_rules s.role states) (Own x ∷ tape) → ⊥
  fits : IsUntold r.told → is_blind r.set ≡ false → Lists states (Own x ∷ tape) r.set
  stays : (IsUnexplained (channel_rules s.role states) (Own x ∷ tape) → ⊥) → (is_blind r.set ≡ false) ⊎ (r.set.knowledge ≡ Blind)
  role : (IsUnexplained (channel_rules s.role states) (Own x ∷ tape) → ⊥) → r.set.role ≡ s.role

not_told : (o : Option Phase) → IsBroken (told_by o) → ⊥
not_told None h = h
not_told (Some s) h = h

pub blind_known : (k : Knowledge) → blind_by k ≡ true → known_by k ≡ true → ⊥
blind_known Known e h = both_ways false refl e
blind_known k e h = both_ways false refl h

still_lit : (b : Bool) (k : Knowledge) → blind_by k ≡ false → blind_by (if b then Known else k) ≡ false
still_lit true k lit = refl
still_lit false k lit = lit

module _ (s : Set) (states : List Phase) (tape : List (Item Packet)) (x : Packet) (lit : is_blind s ≡ false) (fits : Lists states tape s) where
  places : (new : List Spot) → go_all false s.role s.way.items x s.spots.items [] ≡ Some new
      → AreSame (map (placed s.way.items) new) (Places s.role states (Own x ∷ tape))
  places new e =
      all_added (placed s.way.items) new (flat_map (after_own (channel_choices s.role) x) (map (placed s.way.items) s.spots.items))
      (Places s.role states (Own x ∷ tape))
      (same_all (after_own (channel_choices s.role) x) (map (placed s.way.items) s.spots.items) (Places s.role states tape) fits)
      (all_go s.role s.way.items x s.spots.items [] new e)

  unexplained_right : (k : Bool) → is_known s ≡ k → AreSame [] (Places s.role states (Own x ∷ tape))
      → IsRight s states tape x (trims (if k
      then record { set = breaks x s; told = Broken (latest_from true Idle 0 s.spots.items) }
      else quietly (lost s)))
  unexplained_right true e same = record {
    told = λ h. no_place s.role states (Own x ∷ tape) same;
    untold = λ h. absurd h;
    fits = λ h. absurd h;
    stays = λ some. absurd (some (no_place s.role states (Own x ∷ tape) same));
    role = λ some. absurd (some (no_place s.role states (Own x ∷ tape) same));
  }
  unexplained_right false e same = record {
    told = λ h. absurd h;
    untold = λ h is none. blind_known (trimmed (lost s)).knowledge (lost_blind s) is;
    fits = λ h is. absurd (both_ways true (sym (lost_blind s) ∙ is) refl);
    stays = λ some. absurd (some (no_place s.role states (Own x ∷ tape) same));
    role = λ some. absurd (some (no_place s.role states (Own x ∷ tape) same));
  }

  explained_right : (k : Bool) (new : List Spot) → (length new == 0) ≡ false
      → AreSame (map (placed s.way.items) new) (Places s.role states (Own x ∷ tape))
      → IsRight s states tape x (trims (if k
      then record { set = standing s.role s.way.items new Known; told = told_by (rude_from x None s.spots.items) }
      else quietly (standing s.role s.way.items new (if makes_known s.knowledge x new then Known else s.knowledge))))
  explained_right true new some same = record {
    told = λ h. absurd (not_told (rude_from x None s.spots.items) h);
    untold = λ h is none. some_place s.role states (Own x ∷ tape) (placed s.way.items) new same some none;
    fits = λ h is. trimmed_fits s.role s.way.items new Known states (Own x ∷ tape) same;
    stays = λ h. inl (trimmed_blind (standing s.role s.way.items new Known));
    role = λ h. role_trimmed (standing s.role s.way.items new Known);
  }
  explained_right false new some same = record {
    told = λ h. absurd h;
    untold = λ h is none. some_place s.role states (Own x ∷ tape) (placed s.way.items) new same some none;
    fits = λ h is. trimmed_fits s.role s.way.items new (if makes_known s.knowledge x new then Known else s.knowledge) states (Own x ∷ tape) same;
    stays = λ h. inl (trimmed_blind (standing s.role s.way.items new (if makes_known s.knowledge x new then Known else s.knowledge))
        ∙ still_lit (makes_known s.knowledge x new) s.knowledge lit);
    role = λ h. role_trimmed (standing s.role s.way.items new (if makes_known s.knowledge x new then Known else s.knowledge));
  }

  sent_right : (o : Option (List Spot)) → go_all false s.role s.way.items x s.spots.items [] ≡ o
      → IsRight s states tape x (trims (sent_to x o s))
  sent_right None e = record {
    told = λ h. absurd h;
    untold = λ h is none. both_ways false refl (sym (trimmed_known (without_room s)) ∙ is);
    fits = λ h is. absurd (both_ways true (sym (trimmed_blind (without_room s)) ∙ is) refl);
    stays = λ h. inr (trimmed_as (without_room s));
    role = λ h. role_trimmed (without_room s);
  }
  sent_right (Some new) e = go (length new == 0) refl
    where
      go : (b : Bool) → (length new == 0) ≡ b
          → IsRight s states tape x (trims (if b then unexplained x s else explained x new s))
      go true none =
          unexplained_right (is_known s) refl
          (subst (λ ps. AreSame (map (placed s.way.items) ps) (Places s.role states (Own x ∷ tape))) (nothing_left new none) (places new e))
      go false some = explained_right (is_known s) new some (places new e)

  sends_right : IsRight s states tape x (sends_to x s)
  sends_right = go (is_blind s) refl
    where
      go : (b : Bool) → is_blind s ≡ b → IsRight s states tape x (if b then quietly (finds x s) else trims (sent x s))
      go true e = absurd (both_ways (is_blind s) lit e)
      go false e = sent_right (go_all false s.role s.way.items x s.spots.items []) refl

-- ---- manners

rude_all : (x : Packet) (found : Option Phase) (qs : List Spot) (p : Phase) (q : Spot) → rude_from x found qs ≡ Some p → IsIn q qs
    → may_send q.phase x ≡ true → is_polite q.phase x ≡ false
rude_all x found [] p q h is may = absurd is
rude_all x found (r ∷ qs) p q h is may =
    go (may_send r.phase x) (is_polite r.phase x) refl refl (λ f g i. rude_all x f qs p q g i may) h is
  where
    go : (a b : Bool) → may_send r.phase x ≡ a → is_polite r.phase x ≡ b
        → ((f : Option Phase) → rude_from x f qs ≡ Some p → IsIn q qs → is_polite q.phase x ≡ false)
        → (if a then (if b then None else rude_from x (Some r.phase) qs) else rude_from x found qs) ≡ Some p
        → IsIn q (r ∷ qs) → is_polite q.phase x ≡ false
    go true true e f rest g i = absurd (none-some p g)
    go true false e f rest g (inl same) = subst (λ w. is_polite w.phase x ≡ false) (sym same) f
    go true false e f rest g (inr i) = rest (Some r.phase) g i
    go false b e f rest g (inl same) =
        absurd (both_ways (may_send q.phase x) (subst (λ w. may_send w.phase x ≡ false) (sym same) e) may)
    go false b e f rest g (inr i) = rest found g i

abbrev IsRudeIn : Packet → List Spot → Told → Type 0
IsRudeIn x qs t = IsRude t → (q : Spot) → IsIn q qs → may_send q.phase x ≡ true → is_polite q.phase x ≡ false

rude_by : (x : Packet) (qs : List Spot) (o : Option Phase) → rude_from x None qs ≡ o → IsRudeIn x qs (told_by o)
rude_by x qs None e = λ h. absurd h
rude_by x qs (Some p) e = λ h q is may. rude_all x None qs p q e is may

rude_left : (x : Packet) (s : Set) (new : List Spot) (b k : Bool) → (length new == 0) ≡ b → is_known s ≡ k
    → IsRudeIn x s.spots.items (sent_to x (Some new) s).told
rude_left x s new b k e f =
    subst (λ w. IsRudeIn x s.spots.items (if w then unexplained x s else explained x new s).told) (sym e) (by_left b)
  where
    broken : (k : Bool) → IsRudeIn x s.spots.items
        (if k then record { set = breaks x s; told = Broken (latest_from true Idle 0 s.spots.items) } else quietly (lost s)).told
    broken true = λ h. absurd h
    broken false = λ h. absurd h

    polite : (k : Bool) → IsRudeIn x s.spots.items
        (if k
        then record { set = standing s.role s.way.items new Known; told = told_by (rude_from x None s.spots.items) }
        else quietly (standing s.role s.way.items new (if makes_known s.knowledge x new then Known else s.knowledge))).told
    polite true = rude_by x s.spots.items (rude_from x None s.spots.items) refl
    polite false = λ h. absurd h

    by_left : (b : Bool) → IsRudeIn x s.spots.items (if b then unexplained x s else explained x new s).told
    by_left true = broken (is_known s)
    by_left false = polite (is_known s)

rude_sent : (x : Packet) (s : Set) (o : Option (List Spot)) → IsRudeIn x s.spots.items (sent_to x o s).told
rude_sent x s None = λ h. absurd h
rude_sent x s (Some new) = rude_left x s new (length new == 0) (is_known s) refl refl

rude_sends : (s : Set) (x : Packet) → IsRudeIn x s.spots.items (sends_to x s).told
rude_sends s x = go (is_blind s)
  where
    go : (b : Bool) → IsRudeIn x s.spots.items (if b then quietly (finds x s) else trims (sent x s)).told
    go true = λ h. absurd h
    go false = rude_sent x s (go_all false s.role s.way.items x s.spots.items [])

-- ---- where nothing is known, nothing is told

unknown_sent : (x : Packet) (s : Set) (o : Option (List Spot)) → is_known s ≡ false → (sent_to x o s).told ≡ Nothing
unknown_sent x s None e = refl
unknown_sent x s (Some new) e = go (length new == 0)
  where
    go : (b : Bool) → (if b then unexplained x s else explained x new s).told ≡ Nothing
    go true =
        ap (λ k. (if k then record { set = breaks x s; told = Broken (latest_from true Idle 0 s.spots.items) }
        else quietly (lost s)).told) e
    go false =
        ap (λ k. (if k
        then record { set = standing s.role s.way.items new Known; told = told_by (rude_from x None s.spots.items) }
        else quietly (standing s.role s.way.items new (if makes_known s.knowledge x new then Known else s.knowledge))).told) e

unknown_sends : (s : Set) (x : Packet) → is_known s ≡ false → (sends_to x s).told ≡ Nothing
unknown_sends s x e = go (is_blind s)
  where
    go : (b : Bool) → (if b then quietly (finds x s) else trims (sent x s)).told ≡ Nothing
    go true = refl
    go false = unknown_sent x s (go_all false s.role s.way.items x s.spots.items []) e

-- ---- all of that

pub sends_exactly : SendsExactly
sends_exactly = record {
  told = λ s states tape x fits h. (sends_right s states tape x fits.0 fits.1).told h;
  untold = λ s states tape x fits h is. (sends_right s states tape x fits.0 fits.1).untold h is;
  fits = λ s states tape x fits h is. (is, (sends_right s states tape x fits.0 fits.1).fits h is);
  rude = λ s x q h is may. rude_sends s x h q is may;
  unknown = unknown_sends;
}

-- it lists states then, or there is no room
pub sends_stay : (s : Set) (states : List Phase) (tape : List (Item Packet)) (x : Packet) → Fits states tape s
    → (IsUnexplained (channel_rules s.role states) (Own x ∷ tape) → ⊥)
    → (is_blind (sends_to x s).set ≡ false) ⊎ ((sends_to x s).set.knowledge ≡ Blind)
sends_stay s states tape x fits some = (sends_right s states tape x fits.0 fits.1).stays some

pub sends_role : (s : Set) (states : List Phase) (tape : List (Item Packet)) (x : Packet) → Fits states tape s
    → (IsUnexplained (channel_rules s.role states) (Own x ∷ tape) → ⊥) → (sends_to x s).set.role ≡ s.role
sends_role s states tape x fits some = (sends_right s states tape x fits.0 fits.1).role some

-- ---- as the other end sends one

shown_fits : (s : Set) (states : List Phase) (tape : List (Item Packet)) (x : Packet) → Lists states tape s
    → (o : Option (List Spot)) → grow_all s.role (length s.way.items) (s.way.items ++ x ∷ []) s.spots.items [] ≡ o
    → is_blind (trimmed (shown_to x o s)) ≡ false → Lists states (Other x ∷ tape) (trimmed (shown_to x o s))
shown_fits s states tape x fits None e is = absurd (both_ways true (sym (trimmed_blind (without_room s)) ∙ is) refl)
shown_fits s states tape x fits (Some new) e is =
    trimmed_fits s.role (s.way.items ++ x ∷ []) new (if is_known s || are_answered s.role x s.spots.items then Known else s.knowledge)
    states (Other x ∷ tape)
    (all_added (placed (s.way.items ++ x ∷ [])) new
    (flat_map (after_other (channel_choices s.role) x) (map (placed s.way.items) s.spots.items))
    (Places s.role states (Other x ∷ tape))
    (same_all (after_other (channel_choices s.role) x) (map (placed s.way.items) s.spots.items) (Places s.role states tape) fits)
    (all_grow s.role s.way.items x s.spots.items [] new e))

pub shows_exactly : ShowsExactly
shows_exactly s states tape x fits = λ is. (is, by_blind (is_blind s) refl is)
  where
    go : (b : Bool)
        → is_blind (trimmed (if b then without_room s
        else shown_to x (grow_all s.role (length s.way.items) (s.way.items ++ x ∷ []) s.spots.items []) s)) ≡ false
        → Lists states (Other x ∷ tape) (trimmed (if b then without_room s
        else shown_to x (grow_all s.role (length s.way.items) (s.way.items ++ x ∷ []) s.spots.items []) s))
    go true is = absurd (both_ways true (sym (trimmed_blind (without_room s)) ∙ is) refl)
    go false is =
        shown_fits s states tape x fits.1 (grow_all s.role (length s.way.items) (s.way.items ++ x ∷ []) s.spots.items []) refl is

    by_blind : (b : Bool) → is_blind s ≡ b → is_blind (if b then awaits x s else trimmed (shown x s)) ≡ false
        → Lists states (Other x ∷ tape) (if b then awaits x s else trimmed (shown x s))
    by_blind true e is = absurd (both_ways (is_blind s) fits.0 e)
    by_blind false e is = go (length s.way.items == 16) is

shown_stays : (s : Set) (x : Packet) (o : Option (List Spot)) → is_blind s ≡ false
    → (is_blind (trimmed (shown_to x o s)) ≡ false) ⊎ ((trimmed (shown_to x o s)).knowledge ≡ Blind)
shown_stays s x None lit = inr (trimmed_as (without_room s))
shown_stays s x (Some new) lit =
    inl (trimmed_blind (shown_to x (Some new) s) ∙ still_lit (is_known s || are_answered s.role x s.spots.items) s.knowledge lit)

pub shows_stay : (s : Set) (x : Packet) → is_blind s ≡ false → (is_blind (shows_to x s) ≡ false) ⊎ ((shows_to x s).knowledge ≡ Blind)
shows_stay s x lit = by_blind (is_blind s) refl
  where
    by_length : (b : Bool)
        → (is_blind (trimmed (if b then without_room s
        else shown_to x (grow_all s.role (length s.way.items) (s.way.items ++ x ∷ []) s.spots.items []) s)) ≡ false)
        ⊎ ((trimmed (if b then without_room s
        else shown_to x (grow_all s.role (length s.way.items) (s.way.items ++ x ∷ []) s.spots.items []) s)).knowledge ≡ Blind)
    by_length true = inr (trimmed_as (without_room s))
    by_length false = shown_stays s x (grow_all s.role (length s.way.items) (s.way.items ++ x ∷ []) s.spots.items []) lit

    by_blind : (b : Bool) → is_blind s ≡ b
        → (is_blind (if b then awaits x s else trimmed (shown x s)) ≡ false)
        ⊎ ((if b then awaits x s else trimmed (shown x s)).knowledge ≡ Blind)
    by_blind true e = absurd (both_ways (is_blind s) lit e)
    by_blind false e = by_length (length s.way.items == 16)

shown_role : (s : Set) (x : Packet) (o : Option (List Spot)) → (shown_to x o s).role ≡ s.role
shown_role s x None = refl
shown_role s x (Some new) = refl

pub shows_role : (s : Set) (x : Packet) → is_blind s ≡ false → (shows_to x s).role ≡ s.role
shows_role s x lit = by_blind (is_blind s) refl
  where
    by_length : (b : Bool)
        → (if b then without_room s
        else shown_to x (grow_all s.role (length s.way.items) (s.way.items ++ x ∷ []) s.spots.items []) s).role ≡ s.role
    by_length true = refl
    by_length false = shown_role s x (grow_all s.role (length s.way.items) (s.way.items ++ x ∷ []) s.spots.items [])

    by_blind : (b : Bool) → is_blind s ≡ b → (if b then awaits x s else trimmed (shown x s)).role ≡ s.role
    by_blind true e = absurd (both_ways (is_blind s) lit e)
    by_blind false e = role_trimmed (shown x s) ∙ by_length (length s.way.items == 16)
