-- Where there is room a set stays known, and tells whatever room there is.
use Rattle.x25_possible.proofs.Names.{Bool, true, false, ◌≡◌, ◌⊎◌, inl, inr, ℕ, suc, ◌+◌, ◌-◌, ◌<◌, ◌≤◌, ◌==◌, ◌||◌, nat_le, ◌&&◌, not, if◌then◌else◌, refl}
use Rattle.x25_possible.proofs.Names.{sym, ap, subst, ◌∙◌, List, [], ◌∷◌, ◌++◌, map, drop, length, flat_map, Option, Some, None, arith, drop_of_length-le}
use Rattle.x25_possible.proofs.Names.{both_ways, eqb-true, leb-true, none-some, same_Some, Role, at_once, channel_choices, channel_rules, one, sends, takes}
use Rattle.x25_possible.proofs.Names.{Item, Own, IsIn, IsUnexplained, Place, after_other, after_own, grown, possible, settled, AreCounted, Fits, IsBroken}
use Rattle.x25_possible.proofs.Names.{IsUntold, placed, all_of, and_then, anew, are_at_end, go_all, goes, goes_by, grow_all, grows, is_blind, is_known}
use Rattle.x25_possible.proofs.Names.{is_large, kept, quietly, rude_from, sends_to, sent_to, settles, settles_by, shown_to, shows_to, spot_at, standing}
use Rattle.x25_possible.proofs.Names.{told_by, trimmed, trims, Packet, Data, Phase, Idle, Blind, Known, Set, Broken, Spot}
use Rattle.std.proofs.{Common.{append-nil, length-drop}, lemmas.Bool.{leb-false}, lemmas.List.{drop_at, length-append}}
use Rattle.x25_possible.proofs.{ChannelLaws.{IsAsGood, channel_favourites, in_one}, Exactly.{leads_in, tells_exactly}, Lists.{from_all, in_all}}
use Rattle.x25_possible.proofs.SetLemmas.{blind_known, is_so, known, trimmed_known}
use Rattle.x25_possible.{proofs.StepLemmas.{all_mapped, grown_inside, in_map, keeps, settled_apart, settled_once}, specs.Channel.{dropped, found}}
use Rattle.x25_possible.specs.code.Steps.{anew_at, are_answered, awaits, breaks, broken_to, hidden_by, caught_up, located, lost, may_find, is_awaiting}
use Rattle.x25_possible.specs.code.Steps.{explained, finds, found_from, found_in, found_to, is_lost, is_some, settles_found, is_there, known_by, latest_from}
use Rattle.x25_possible.specs.{code.Steps.{makes_known, next_of, sent, shown, trimmed_to, unexplained, without_room}, declared.set.Knowledge.{Knowledge}}
use Rattle.x25_possible.specs.{declared.set.Knowledge.TheVariants.{Lost, Likely}, laws.Sets.{HasRoomToSend, HasRoomToShow, IsCounted, OfSome, StaysKnown}}

-- ---- its states are counted

counted_more : (n : ℕ) (s : Phase) (qs : List Spot) → is_large s ≡ false → AreCounted qs → AreCounted (spot_at n s ∷ qs)
counted_more n s qs small all q (inl e) = subst (λ w. is_large w.phase ≡ false) (sym e) small
counted_more n s qs small all q (inr h) = all q h

pub counted_idle : AreCounted (spot_at 0 Idle ∷ [])
counted_idle = counted_more 0 Idle [] refl (λ q h. absurd h)

counted_kept : (spot : Spot) (out new : List Spot) → is_large spot.phase ≡ false → AreCounted out → kept spot out ≡ Some new → AreCounted new
counted_kept spot out new small old h q is = go ((keeps spot out new h q).0 is)
  where
    go : IsIn q out ⊎ (q ≡ spot) → is_large q.phase ≡ false
    go (inl i) = old q i
    go (inr e) = subst (λ w. is_large w.phase ≡ false) (sym e) small

counted_same : (out new : List Spot) → AreCounted out → Some out ≡ Some new → AreCounted new
counted_same out new old e = subst (λ qs. AreCounted qs) (same_Some out new e) old

counted_all : (step : Spot → List Spot → Option (List Spot))
    → ((q : Spot) (out new : List Spot) → is_large q.phase ≡ false → AreCounted out → step q out ≡ Some new → AreCounted new)
    → (qs out new : List Spot) → AreCounted qs → AreCounted out → all_of step qs out ≡ Some new → AreCounted new
counted_all step each [] out new all old h = counted_same out new old h
counted_all step each (q ∷ qs) out new all old h =
    go (step q out) refl h (λ mid. counted_all step each qs mid new (λ r i. all r (inr i)))
  where
    go : (o : Option (List Spot)) → step q out ≡ o → and_then o (all_of step qs) ≡ Some new
        → ((mid : List Spot) → AreCounted mid → all_of step qs mid ≡ Some new → AreCounted new) → AreCounted new
    go None e k rest = absurd (none-some new k)
    go (Some mid) e k rest = rest mid (each q out mid (all q (inl refl)) old e) k

module _ (role : Role) (n : ℕ) (x : Packet) (rest : List Packet) (s : Phase) (out new : List Spot) (old : AreCounted out)
    (more : (u : Phase) (mid : List Spot) → AreCounted mid → settles role (n + 1) rest u mid ≡ Some new → AreCounted new) where
  counted_held : (k : Option (List Spot)) → is_large s ≡ false → kept (spot_at n s) out ≡ k
      → and_then k (settles role (n + 1) rest (takes role s x)) ≡ Some new → AreCounted new
  counted_held None small e h = absurd (none-some new h)
  counted_held (Some mid) small e h = more (takes role s x) mid (counted_kept (spot_at n s) out mid small old e) h

  counted_once : (o : Option Phase) → is_large s ≡ false
      → settles_by o (takes role s x) (spot_at n s) (settles role (n + 1) rest) out ≡ Some new → AreCounted new
  counted_once (Some u) small h = more u out old h
  counted_once None small h = counted_held (kept (spot_at n s) out) small refl h

  counted_size : (b : Bool) → is_large s ≡ b
      → (if b then None else settles_by (at_once s x) (takes role s x) (spot_at n s) (settles role (n + 1) rest) out) ≡ Some new
      → AreCounted new
  counted_size true e h = absurd (none-some new h)
  counted_size false e h = counted_once (at_once s x) e h

counted_end : (n : ℕ) (s : Phase) (out new : List Spot) (b : Bool) → AreCounted out → is_large s ≡ b
    → (if b then None else kept (spot_at n s) out) ≡ Some new → AreCounted new
counted_end n s out new true old e h = absurd (none-some new h)
counted_end n s out new false old e h = counted_kept (spot_at n s) out new e old h

counted_settles : (role : Role) (n : ℕ) (rest : List Packet) (s : Phase) (out new : List Spot) → AreCounted out
    → settles role n rest s out ≡ Some new → AreCounted new
counted_settles role n [] s out new old h = counted_end n s out new (is_large s) old refl h
counted_settles role n (x ∷ rest) s out new old h =
    counted_size role n x rest s out new old (λ u mid. counted_settles role (n + 1) rest u mid new) (is_large s) refl h

counted_goes : (breaks : Bool) (role : Role) (way : List Packet) (x : Packet) (q : Spot) (out new : List Spot) → AreCounted out
    → goes breaks role way x q out ≡ Some new → AreCounted new
counted_goes breaks role way x q out new old h = by_size (is_large q.phase) h
  where
    next : (o : Option Phase) → goes_by role way q.at o out ≡ Some new → AreCounted new
    next None g = counted_same out new old g
    next (Some u) g = counted_settles role q.at (drop q.at way) u out new old g

    by_size : (b : Bool) → (if b then None else goes_by role way q.at (next_of breaks q.phase x) out) ≡ Some new → AreCounted new
    by_size true g = absurd (none-some new g)
    by_size false g = next (next_of breaks q.phase x) g

counted_grows : (role : Role) (last : ℕ) (way : List Packet) (q : Spot) (out new : List Spot) → is_large q.phase ≡ false → AreCounted out
    → grows role last way q out ≡ Some new → AreCounted new
counted_grows role last way q out new small old h = go (nat_le last q.at) h
  where
    go : (b : Bool) → (if b then settles role last (drop last way) q.phase out else kept q out) ≡ Some new → AreCounted new
    go true g = counted_settles role last (drop last way) q.phase out new old g
    go false g = counted_kept q out new small old g

none_counted : AreCounted []
none_counted q h = absurd h

counted_gone : (breaks : Bool) (x : Packet) (s : Set) (new : List Spot) → AreCounted s.spots.items
    → go_all breaks s.role s.way.items x s.spots.items [] ≡ Some new → AreCounted new
counted_gone breaks x s new all h =
    counted_all (goes breaks s.role s.way.items x)
    (λ q out mid small old e. counted_goes breaks s.role s.way.items x q out mid old e) s.spots.items [] new all none_counted h

counted_trimmed : (s : Set) → AreCounted s.spots.items → AreCounted (trimmed s).spots.items
counted_trimmed s all = go (is_awaiting s && are_at_end (length s.way.items) s.spots.items)
  where
    made : (o : Option (List Spot)) → anew s.spots.items [] ≡ o → AreCounted (trimmed_to o s).spots.items
    made None e = all
    made (Some new) e =
        counted_all anew_at (λ q out mid small old k. counted_kept (spot_at 0 q.phase) out mid small old k) s.spots.items [] new all
        none_counted e

    go : (b : Bool) → AreCounted (if b then trimmed_to (anew s.spots.items []) s else s).spots.items
    go true = made (anew s.spots.items []) refl
    go false = all

counted_hidden : (k was : Knowledge) (s : Set) → AreCounted s.spots.items → AreCounted (hidden_by was k s).spots.items
counted_hidden k Blind s all = all
counted_hidden k was s all = none_counted

counted_lost : (s : Set) → AreCounted s.spots.items → AreCounted (lost s).spots.items
counted_lost s all = counted_hidden Lost s.knowledge s all

counted_breaks : (x : Packet) (s : Set) → AreCounted s.spots.items → AreCounted (breaks x s).spots.items
counted_breaks x s all = made (go_all true s.role s.way.items x s.spots.items []) refl
  where
    go : (b : Bool) (new : List Spot) → AreCounted new
        → AreCounted (if b then lost s else standing s.role s.way.items new s.knowledge).spots.items
    go true new h = counted_lost s all
    go false new h = h

    made : (o : Option (List Spot)) → go_all true s.role s.way.items x s.spots.items [] ≡ o → AreCounted (broken_to o s).spots.items
    made None e = counted_lost s all
    made (Some new) e = go (length new == 0) new (counted_gone true x s new all e)

counted_sent : (x : Packet) (s : Set) → AreCounted s.spots.items → AreCounted (sent x s).set.spots.items
counted_sent x s all = made (go_all false s.role s.way.items x s.spots.items []) refl
  where
    broken : (k : Bool) → AreCounted (if k
        then record { set = breaks x s; told = Broken (latest_from true Idle 0 s.spots.items) }
        else quietly (lost s)).set.spots.items
    broken true = counted_breaks x s all
    broken false = counted_lost s all

    followed : (k : Bool) (new : List Spot) → AreCounted new → AreCounted (if k
        then record { set = standing s.role s.way.items new Known; told = told_by (rude_from x None s.spots.items) }
        else quietly (standing s.role s.way.items new (if makes_known s.knowledge x new then Known else s.knowledge))).set.spots.items
    followed true new h = h
    followed false new h = h

    go : (b : Bool) (new : List Spot) → AreCounted new → AreCounted (if b then unexplained x s else explained x new s).set.spots.items
    go true new h = broken (is_known s)
    go false new h = followed (is_known s) new h

    made : (o : Option (List Spot)) → go_all false s.role s.way.items x s.spots.items [] ≡ o → AreCounted (sent_to x o s).set.spots.items
    made None e = none_counted
    made (Some new) e = go (length new == 0) new (counted_gone false x s new all e)

counted_settles_found : (role : Role) (n : ℕ) (rest : List Packet) (o : Option Phase) (out new : List Spot) → AreCounted out
    → settles_found role n rest o out ≡ Some new → AreCounted new
counted_settles_found role n rest None out new old h = counted_same out new old h
counted_settles_found role n rest (Some u) out new old h = counted_settles role n rest u out new old h

counted_then : (o : Option (List Spot)) (f : List Spot → Option (List Spot)) (new : List Spot)
    → ((mid : List Spot) → o ≡ Some mid → f mid ≡ Some new → AreCounted new) → and_then o f ≡ Some new → AreCounted new
counted_then None f new next h = absurd (none-some new h)
counted_then (Some mid) f new next h = next mid refl h

counted_found : (role : Role) (last : Option Packet) (n : ℕ) (rest : List Packet) (x : Packet) (out new : List Spot) → AreCounted out
    → found_from role last n rest x out ≡ Some new → AreCounted new
counted_found role last n [] x out new old h = counted_settles_found role n [] (found last x) out new old h
counted_found role last n (y ∷ rest) x out new old h =
    counted_then (settles_found role n (y ∷ rest) (found last x) out) (found_from role (Some y) (n + 1) rest x) new
    (λ mid e g. counted_found role (Some y) (n + 1) rest x mid new
    (counted_settles_found role n (y ∷ rest) (found last x) out mid old e) g) h

counted_in : (x : Packet) (s : Set) → AreCounted s.spots.items → AreCounted (found_in x s).spots.items
counted_in x s all = made (found_from s.role None 0 s.way.items x []) refl
  where
    listed : (b : Bool) (new : List Spot) → AreCounted new
        → AreCounted (if b then s else located x new s).spots.items
    listed true new h = all
    listed false new h =
        counted_trimmed (standing s.role s.way.items new (if makes_known s.knowledge x new then Known else Likely)) h

    made : (o : Option (List Spot)) → found_from s.role None 0 s.way.items x [] ≡ o → AreCounted (found_to x o s).spots.items
    made None e = all
    made (Some new) e = listed (length new == 0) new (counted_found s.role None 0 s.way.items x [] new none_counted e)

counted_caught : (x : Packet) (s : Set) → AreCounted s.spots.items → AreCounted (found_in x (caught_up x s)).spots.items
counted_caught (Data q m ps pr size) s all = counted_in (Data q m ps pr size) (caught_up (Data q m ps pr size) s) all
counted_caught x s all = counted_in x s all

counted_finds : (x : Packet) (s : Set) → AreCounted s.spots.items → AreCounted (finds x s).spots.items
counted_finds x s all = go (is_lost s && may_find s.knowledge x)
  where
    go : (b : Bool) → AreCounted (if b then found_in x (caught_up x s) else s).spots.items
    go true = counted_caught x s all
    go false = all

pub counted_sends : (s : Set) (x : Packet) → AreCounted s.spots.items → AreCounted (sends_to x s).set.spots.items
counted_sends s x all = go (is_blind s)
  where
    go : (b : Bool) → AreCounted (if b then quietly (finds x s) else trims (sent x s)).set.spots.items
    go true = counted_finds x s all
    go false = counted_trimmed (sent x s).set (counted_sent x s all)

counted_shown : (x : Packet) (s : Set) → AreCounted s.spots.items → AreCounted (shown x s).spots.items
counted_shown x s all = go (length s.way.items == 16)
  where
    made : (o : Option (List Spot)) → grow_all s.role (length s.way.items) (s.way.items ++ x ∷ []) s.spots.items [] ≡ o
        → AreCounted (shown_to x o s).spots.items
    made None e = none_counted
    made (Some new) e =
        counted_all (grows s.role (length s.way.items) (s.way.items ++ x ∷ []))
        (λ q out mid small old k. counted_grows s.role (length s.way.items) (s.way.items ++ x ∷ []) q out mid small old k)
        s.spots.items [] new all none_counted e

    go : (b : Bool) → AreCounted (if b then without_room s
        else shown_to x (grow_all s.role (length s.way.items) (s.way.items ++ x ∷ []) s.spots.items []) s).spots.items
    go true = none_counted
    go false = made (grow_all s.role (length s.way.items) (s.way.items ++ x ∷ []) s.spots.items []) refl

counted_awaits : (x : Packet) (s : Set) → AreCounted s.spots.items → AreCounted (awaits x s).spots.items
counted_awaits x s all = go (not (is_lost s) || is_some (dropped x Idle)) (length s.way.items == 16)
  where
    go : (a b : Bool) → AreCounted (if a then s
        else if b then without_room s
        else standing s.role (s.way.items ++ x ∷ []) s.spots.items s.knowledge).spots.items
    go true b = all
    go false true = none_counted
    go false false = all

pub counted_shows : (s : Set) (x : Packet) → AreCounted s.spots.items → AreCounted (shows_to x s).spots.items
counted_shows s x all = go (is_blind s)
  where
    go : (b : Bool) → AreCounted (if b then awaits x s else trimmed (shown x s)).spots.items
    go true = counted_awaits x s all
    go false = counted_trimmed (shown x s) (counted_shown x s all)

-- ---- a rule is told whatever room there is

none_sends : (role : Role) (way : List Packet) (x : Packet) (qs : List Spot)
    → ((p : Place Phase Packet) → IsIn p (flat_map (after_own (channel_choices role) x) (map (placed way) qs)) → ⊥)
    → (q : Spot) → IsIn q qs → sends q.phase x ≡ None
none_sends role way x qs none q is = go (sends q.phase x) refl
  where
    go : (o : Option Phase) → sends q.phase x ≡ o → o ≡ None
    go None e = refl
    go (Some u) e =
        let p = leads_in (channel_choices role) (drop q.at way) u in
        absurd (none p.0 (in_all (after_own (channel_choices role) x) (map (placed way) qs) (placed way q) p.0
        (in_map (placed way) qs q is)
        (in_all (settled (channel_choices role) (drop q.at way)) (one (sends q.phase x)) u p.0 (in_one (sends q.phase x) u e) p.1)))

none_goes : (role : Role) (way : List Packet) (x : Packet) (qs out : List Spot) → AreCounted qs
    → ((q : Spot) → IsIn q qs → sends q.phase x ≡ None) → go_all false role way x qs out ≡ Some out
none_goes role way x [] out all none = refl
none_goes role way x (q ∷ qs) out all none =
    ap (λ b. and_then (if b then None else goes_by role way q.at (sends q.phase x) out) (go_all false role way x qs)) (all q (inl refl))
    ∙ ap (λ o. and_then (goes_by role way q.at o out) (go_all false role way x qs)) (none q (inl refl))
    ∙ none_goes role way x qs out (λ r i. all r (inr i)) (λ r i. none r (inr i))

pub guilty_told : (s : Set) (begun : List Phase) (tape : List (Item Packet)) (x : Packet) → is_known s ≡ true → AreCounted s.spots.items
    → Fits begun tape s → IsUnexplained (channel_rules s.role begun) (Own x ∷ tape) → IsBroken (sends_to x s).told
guilty_told s begun tape x is all fits none =
    subst (λ r. IsBroken (sends_to x r).told) (sym (is_so s is))
    (subst (λ o. IsBroken (sent_to x o (known s.role s.way.items s.spots.items)).told)
    (sym (none_goes s.role s.way.items x s.spots.items [] all (none_sends s.role s.way.items x s.spots.items no_place))) tt)
  where
    nothing : possible (channel_choices s.role) begun (Own x ∷ tape) ≡ []
    nothing =
        (tells_exactly (channel_rules s.role begun) (channel_choices s.role) begun IsAsGood (channel_favourites s.role begun)).untold
        (Own x ∷ tape) none

    no_place : (p : Place Phase Packet)
        → IsIn p (flat_map (after_own (channel_choices s.role) x) (map (placed s.way.items) s.spots.items)) → ⊥
    no_place p h =
        let q = from_all (after_own (channel_choices s.role) x) (map (placed s.way.items) s.spots.items) p h in
        subst (λ ps. IsIn p ps) nothing
        (in_all (after_own (channel_choices s.role) x) (possible (channel_choices s.role) begun tape) q.0 p ((fits.1 q.0).0 q.1) q.2)

-- ---- so much is made, where there is room for it

record Makes (n : ℕ) (out : List Spot) (o : Option (List Spot)) : Type 0 where
  new : List Spot
  is : o ≡ Some new
  size : length new ≤ length out + n

makes_by : (n m : ℕ) (out : List Spot) (o p : Option (List Spot)) → n ≡ m → o ≡ p → Makes n out p → Makes m out o
makes_by n m out o p same e h =
    let size = h.size in
    record { new = h.new; is = e ∙ h.is; size = omega (arith, size, same) }

makes_none : (out : List Spot) → Makes 0 out (Some out)
makes_none out = record { new = out; is = refl; size = omega arith }

kept_makes : (spot : Spot) (out : List Spot) → length out + 1 ≤ 16 → Makes 1 out (kept spot out)
kept_makes spot out room = go (is_there spot out)
  where
    pushed : (b : Bool) → (length out == 16) ≡ b → Makes 1 out (if b then None else Some (out ++ spot ∷ []))
    pushed true e = let full = eqb-true (length out) 16 e in absurd (omega (arith, full, room))
    pushed false e = let long = length-append out (spot ∷ []) in record { new = out ++ spot ∷ []; is = refl; size = omega (arith, long) }

    go : (b : Bool) → Makes 1 out (if b then Some out else if length out == 16 then None else Some (out ++ spot ∷ []))
    go true = record { new = out; is = refl; size = omega arith }
    go false = pushed (length out == 16) refl

then_makes : (n m : ℕ) (out : List Spot) (o : Option (List Spot)) (f : List Spot → Option (List Spot)) → Makes n out o
    → ((mid : List Spot) → length mid ≤ length out + n → Makes m mid (f mid)) → Makes (n + m) out (and_then o f)
then_makes n m out o f first rest =
    let second = rest first.new first.size in
    let a = first.size in
    let b = second.size in
    record { new = second.new; is = ap (λ p. and_then p f) first.is ∙ second.is; size = omega (arith, a, b) }

all_make : (step : Spot → List Spot → Option (List Spot)) (g : Spot → List (Place Phase Packet)) (qs out : List Spot)
    → ((q : Spot) (old : List Spot) → IsIn q qs → length old + length (g q) ≤ 16 → Makes (length (g q)) old (step q old))
    → length out + length (flat_map g qs) ≤ 16 → Makes (length (flat_map g qs)) out (all_of step qs out)
all_make step g [] out each room = makes_none out
all_make step g (q ∷ qs) out each room =
    let long = length-append (g q) (flat_map g qs) in
    makes_by (length (g q) + length (flat_map g qs)) (length (g q ++ flat_map g qs)) out (and_then (step q out) (all_of step qs))
    (and_then (step q out) (all_of step qs)) (sym long) refl
    (then_makes (length (g q)) (length (flat_map g qs)) out (step q out) (all_of step qs)
    (each q out (inl refl) (omega (arith, room, long)))
    (λ mid h. all_make step g qs mid (λ r old i. each r old (inr i)) (omega (arith, room, long, h))))

from_none : (ps : List (Place Phase Packet)) → length ps ≤ 16 → length {A = Spot} [] + length ps ≤ 16
from_none ps h = omega (arith, h)

module _ (role : Role) (n : ℕ) (x : Packet) (rest : List Packet) (s : Phase) (out : List Spot)
    (counted : IsCounted (x ∷ rest) role s) (room : length out + length (settled (channel_choices role) (x ∷ rest) s) ≤ 16)
    (more : (u : Phase) (mid : List Spot) → IsCounted rest role u → length mid + length (settled (channel_choices role) rest u) ≤ 16
    → Makes (length (settled (channel_choices role) rest u)) mid (settles role (n + 1) rest u mid)) where
  abbrev Size : ℕ
  Size = length (settled (channel_choices role) (x ∷ rest) s)

  abbrev Made : Option (List Spot) → Type 0
  Made o = Makes Size out o

  makes_taken : at_once s x ≡ None → Made (and_then (kept (spot_at n s) out) (settles role (n + 1) rest (takes role s x)))
  makes_taken e =
      let long : Size ≡ suc (length (settled (channel_choices role) rest (takes role s x))) = ap length (settled_apart role x rest s e) in
      makes_by (1 + length (settled (channel_choices role) rest (takes role s x))) Size out
      (and_then (kept (spot_at n s) out) (settles role (n + 1) rest (takes role s x)))
      (and_then (kept (spot_at n s) out) (settles role (n + 1) rest (takes role s x))) (omega (arith, long)) refl
      (then_makes 1 (length (settled (channel_choices role) rest (takes role s x))) out (kept (spot_at n s) out)
      (settles role (n + 1) rest (takes role s x))
      (kept_makes (spot_at n s) out (omega (arith, room, long)))
      (λ mid h. more (takes role s x) mid counted.2 (omega (arith, room, long, h))))

  makes_once : (o : Option Phase) → at_once s x ≡ o → Made (settles_by o (takes role s x) (spot_at n s) (settles role (n + 1) rest) out)
  makes_once (Some u) e =
      let long : Size ≡ length (settled (channel_choices role) rest u) = ap length (settled_once role x rest s u e) in
      makes_by (length (settled (channel_choices role) rest u)) Size out (settles role (n + 1) rest u out)
      (settles role (n + 1) rest u out) (sym long) refl
      (more u out (subst (λ o. OfSome o (IsCounted rest role)) e counted.1) (omega (arith, room, long)))
  makes_once None e = makes_taken e

  makes_settled : Made (settles role n (x ∷ rest) s out)
  makes_settled =
      makes_by Size Size out (settles role n (x ∷ rest) s out)
      (settles_by (at_once s x) (takes role s x) (spot_at n s) (settles role (n + 1) rest) out) refl
      (ap (λ b. if b then None else settles_by (at_once s x) (takes role s x) (spot_at n s) (settles role (n + 1) rest) out) counted.0)
      (makes_once (at_once s x) refl)

settles_make : (role : Role) (n : ℕ) (rest : List Packet) (s : Phase) (out : List Spot) → IsCounted rest role s
    → length out + length (settled (channel_choices role) rest s) ≤ 16
    → Makes (length (settled (channel_choices role) rest s)) out (settles role n rest s out)
settles_make role n [] s out counted room =
    makes_by 1 1 out (settles role n [] s out) (kept (spot_at n s) out) refl
    (ap (λ b. if b then None else kept (spot_at n s) out) counted) (kept_makes (spot_at n s) out room)
settles_make role n (x ∷ rest) s out counted room =
    makes_settled role n x rest s out counted room (λ u mid. settles_make role (n + 1) rest u mid)

-- ---- as the end sends a packet

goes_make : (role : Role) (way : List Packet) (x : Packet) (q : Spot) (out : List Spot) → is_large q.phase ≡ false
    → OfSome (sends q.phase x) (IsCounted (drop q.at way) role)
    → length out + length (after_own (channel_choices role) x (placed way q)) ≤ 16
    → Makes (length (after_own (channel_choices role) x (placed way q))) out (goes false role way x q out)
goes_make role way x q out small counted room =
    makes_by Size Size out (goes false role way x q out) (goes_by role way q.at (sends q.phase x) out) refl
    (ap (λ b. if b then None else goes_by role way q.at (sends q.phase x) out) small) (go (sends q.phase x) counted room)
  where
    Size : ℕ
    Size = length (after_own (channel_choices role) x (placed way q))

    go : (o : Option Phase) → OfSome o (IsCounted (drop q.at way) role)
        → length out + length (flat_map (settled (channel_choices role) (drop q.at way)) (one o)) ≤ 16
        → Makes (length (flat_map (settled (channel_choices role) (drop q.at way)) (one o))) out (goes_by role way q.at o out)
    go None k fits = makes_none out
    go (Some u) k fits =
        let long = ap length (append-nil (settled (channel_choices role) (drop q.at way) u)) in
        makes_by (length (settled (channel_choices role) (drop q.at way) u))
        (length (settled (channel_choices role) (drop q.at way) u ++ [])) out
        (settles role q.at (drop q.at way) u out) (settles role q.at (drop q.at way) u out) (sym long) refl
        (settles_make role q.at (drop q.at way) u out k (omega (arith, fits, long)))

untold_known : (x : Packet) (s : Set) (new : List Spot) → is_known s ≡ true → IsUntold (sent_to x (Some new) s).told
    → is_known (sent_to x (Some new) s).set ≡ true
untold_known x s new is = go (length new == 0)
  where
    broken : (k : Bool) → k ≡ true → IsUntold (if k
        then record { set = breaks x s; told = Broken (latest_from true Idle 0 s.spots.items) }
        else quietly (lost s)).told → ⊥
    broken true e h = h
    broken false e h = both_ways false refl e

    followed : (k : Bool) → k ≡ true → is_known (if k
        then record { set = standing s.role s.way.items new Known; told = told_by (rude_from x None s.spots.items) }
        else quietly (standing s.role s.way.items new (if makes_known s.knowledge x new then Known else s.knowledge))).set ≡ true
    followed true e = refl
    followed false e = absurd (both_ways false refl e)

    go : (b : Bool) → IsUntold (if b then unexplained x s else explained x new s).told
        → is_known (if b then unexplained x s else explained x new s).set ≡ true
    go true h = absurd (broken (is_known s) is h)
    go false h = followed (is_known s) is

sent_known : (s : Set) (x : Packet) → is_known s ≡ true → AreCounted s.spots.items → HasRoomToSend x s
    → IsUntold (sent x s).told → is_known (sent x s).set ≡ true
sent_known s x is all room = go (go_all false s.role s.way.items x s.spots.items []) made.is
  where
    made : Makes (length (flat_map (λ q. after_own (channel_choices s.role) x (placed s.way.items q)) s.spots.items)) []
        (go_all false s.role s.way.items x s.spots.items [])
    made =
        all_make (goes false s.role s.way.items x) (λ q. after_own (channel_choices s.role) x (placed s.way.items q)) s.spots.items []
        (λ q old i fits. goes_make s.role s.way.items x q old (all q i) (room.counted q i) fits)
        (from_none (flat_map (λ q. after_own (channel_choices s.role) x (placed s.way.items q)) s.spots.items)
        (subst (λ ps. length ps ≤ 16) (all_mapped (after_own (channel_choices s.role) x) (placed s.way.items) s.spots.items) room.few))

    go : (o : Option (List Spot)) → o ≡ Some made.new → IsUntold (sent_to x o s).told → is_known (sent_to x o s).set ≡ true
    go None e = absurd (none-some made.new e)
    go (Some new) e = untold_known x s new is

sends_known : (s : Set) (x : Packet) → is_known s ≡ true → AreCounted s.spots.items → HasRoomToSend x s
    → IsUntold (sends_to x s).told → is_known (sends_to x s).set ≡ true
sends_known s x is all room = go (is_blind s) refl
  where
    go : (b : Bool) → is_blind s ≡ b → IsUntold (if b then quietly (finds x s) else trims (sent x s)).told
        → is_known (if b then quietly (finds x s) else trims (sent x s)).set ≡ true
    go true e h = absurd (blind_known s.knowledge e is)
    go false e h = trimmed_known (sent x s).set ∙ sent_known s x is all room h

-- ---- as the other end sends one

module _ (role : Role) (before : List Packet) (x : Packet) (q : Spot) (out : List Spot) (counted : IsCounted (x ∷ []) role q.phase) where
  abbrev Grown : List Packet → ℕ
  Grown w = length (grown (channel_choices role) x q.phase w)

  makes_at_end : length before ≤ q.at → length out + Grown (drop q.at before) ≤ 16
      → Makes (Grown (drop q.at before)) out (settles role (length before) (drop (length before) (before ++ x ∷ [])) q.phase out)
  makes_at_end far room =
      let none : drop q.at before ≡ [] = drop_of_length-le before far in
      let tail : drop (length before) (before ++ x ∷ []) ≡ x ∷ [] = drop_at before (x ∷ []) (length before) refl in
      subst (λ w. Makes (Grown w) out (settles role (length before) (drop (length before) (before ++ x ∷ [])) q.phase out)) (sym none)
      (subst (λ w. Makes (Grown []) out (settles role (length before) w q.phase out)) (sym tail)
      (settles_make role (length before) (x ∷ []) q.phase out counted (subst (λ w. length out + Grown w ≤ 16) none room)))

  makes_inside : q.at < length before → length out + Grown (drop q.at before) ≤ 16 → Makes (Grown (drop q.at before)) out (kept q out)
  makes_inside near room =
      let size : length (drop q.at before) ≡ length before - q.at = length-drop q.at before in
      let some : 0 < length (drop q.at before) = omega (arith, size, near) in
      let long : Grown (drop q.at before) ≡ 1 = ap length (grown_inside role x q.phase (drop q.at before) some) in
      makes_by 1 (Grown (drop q.at before)) out (kept q out) (kept q out) (sym long) refl (kept_makes q out (omega (arith, room, long)))

  grows_make : length out + length (after_other (channel_choices role) x (placed before q)) ≤ 16
      → Makes (length (after_other (channel_choices role) x (placed before q))) out (grows role (length before) (before ++ x ∷ []) q out)
  grows_make room = go (nat_le (length before) q.at) refl
    where
      go : (b : Bool) → nat_le (length before) q.at ≡ b
          → Makes (Grown (drop q.at before)) out
          (if b then settles role (length before) (drop (length before) (before ++ x ∷ [])) q.phase out else kept q out)
      go true e = makes_at_end (leb-true (length before) q.at e) room
      go false e = makes_inside (leb-false (length before) q.at e) room

shown_known : (s : Set) (x : Packet) → is_known s ≡ true → HasRoomToShow x s → is_known (shown x s) ≡ true
shown_known s x is room = by_length (length s.way.items == 16) refl
  where
    made : Makes (length (flat_map (λ q. after_other (channel_choices s.role) x (placed s.way.items q)) s.spots.items)) []
        (grow_all s.role (length s.way.items) (s.way.items ++ x ∷ []) s.spots.items [])
    made =
        all_make (grows s.role (length s.way.items) (s.way.items ++ x ∷ []))
        (λ q. after_other (channel_choices s.role) x (placed s.way.items q)) s.spots.items []
        (λ q old i fits. grows_make s.role s.way.items x q old (room.counted q i) fits)
        (from_none (flat_map (λ q. after_other (channel_choices s.role) x (placed s.way.items q)) s.spots.items)
        (subst (λ ps. length ps ≤ 16) (all_mapped (after_other (channel_choices s.role) x) (placed s.way.items) s.spots.items) room.few))

    stays : (b : Bool) → b ≡ true → (k : Bool) → known_by (if b || k then Known else s.knowledge) ≡ true
    stays true e k = refl
    stays false e k = absurd (both_ways false refl e)

    go : (o : Option (List Spot)) → o ≡ Some made.new → is_known (shown_to x o s) ≡ true
    go None e = absurd (none-some made.new e)
    go (Some new) e = stays (is_known s) is (are_answered s.role x s.spots.items)

    by_length : (b : Bool) → (length s.way.items == 16) ≡ b
        → is_known (if b then without_room s
        else shown_to x (grow_all s.role (length s.way.items) (s.way.items ++ x ∷ []) s.spots.items []) s) ≡ true
    by_length true e =
        let full = eqb-true (length s.way.items) 16 e in
        let short = room.short in
        absurd (omega (arith, full, short))
    by_length false e = go (grow_all s.role (length s.way.items) (s.way.items ++ x ∷ []) s.spots.items []) made.is

shows_known : (s : Set) (x : Packet) → is_known s ≡ true → HasRoomToShow x s → is_known (shows_to x s) ≡ true
shows_known s x is room = go (is_blind s) refl
  where
    go : (b : Bool) → is_blind s ≡ b → is_known (if b then awaits x s else trimmed (shown x s)) ≡ true
    go true e = absurd (blind_known s.knowledge e is)
    go false e = trimmed_known (shown x s) ∙ shown_known s x is room

pub stays_known : StaysKnown
stays_known = record {
  counted_sent = counted_sends;
  counted_shown = counted_shows;
  told = guilty_told;
  sent = sends_known;
  shown = shows_known;
}
