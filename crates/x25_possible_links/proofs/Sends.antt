-- What an end sends, of the places that it may be in.
use Rattle.x25_possible_links.proofs.Names.{◌≡◌, inl, inr, refl, sym, ap, subst, ◌∙◌, Option, Some, None, Bool, true, false, List, [], ◌∷◌, ℕ, length, ◌||◌}
use Rattle.x25_possible_links.proofs.Names.{not, ◌≤◌, arith, if◌then◌else◌, both_ways, none-some, same_Some, cond_some, IsIn, Place, at, State, At, Owes, fresh}
use Rattle.x25_possible_links.proofs.Names.{owed, is_asking, has_ua, may_answer, counted, may_count, counts, declines, heard, sends_as, number_of, least_of}
use Rattle.x25_possible_links.proofs.Names.{sends, onward, upward, first, Frame, Info, Ready, Sabm, Disc, Dm, Frmr, Unread, Before, Numbers, Stand, Out, Asking}
use Rattle.x25_possible_links.proofs.{Covers.{Covers, Here, Asked, Later, Begins, covers_over, covers_more}, Names.{Up, Free}}
use Rattle.x25_possible_links.proofs.Stands.{Below, below_self, below_free, onward_up, onward_both, declines_both, sends_more, counts_more}
use Rattle.x25_possible_links.specs.laws.{Link.{asked}, Places.{goes, answered, answers}}

-- a place of the run is covered by one of these
abbrev pub IsCovered : List (Place Stand Frame) → State → List Frame → Type 0
IsCovered qs s way = (q : Place Stand Frame) × IsIn q qs × Covers q.state q.way s way

-- ---- frames with numbers

counts_not : (n t : ℕ) (s : Stand) (x : Frame) (r : Stand) → Below s Asking → counts n t s x ≡ Some r → ⊥
counts_not n t (Up k) x r b h = b
counts_not n t Free x r b h = b
counts_not n t s x r b h = none-some r h

-- one that awaits UA sends these in a session alone, and may as well begin it at once
begins_at_once : (u : Stand) (v : List Frame) (s : Stand) (way : List Frame) (n t : ℕ) (x : Frame) (r : Stand) → Below u Asking
    → counts n t s x ≡ Some r → Covers u v (At s) way → Covers fresh v (At s) way
begins_at_once _ _ _ way n t x r less h (Here s u _ b) = absurd (counts_not n t s x r (below_asking s u b less) h)
  where
    below_asking : (s u : Stand) → Below s u → Below u Asking → Below s Asking
    below_asking Out u b c = tt
    below_asking Asking Asking b c = tt
    below_asking Asking Free b c = absurd c
    below_asking (Up k) (Up j) b c = absurd c
    below_asking (Up k) Free b c = absurd c
    below_asking Free Free b c = absurd c
    below_asking _ _ b c = absurd b
begins_at_once _ _ _ way n t x r less h (Later u y v (At s) _ k) =
    Later fresh y v (At s) way
    (covers_more fresh (onward fresh y) v (At s) way
    (begins_at_once (onward u y) v s way n t x r (onward_both u Asking y less) h k) (onward_up fresh y))
begins_at_once _ _ _ way n t x r less h (Begins y v (At s) _ a k) =
    Later fresh y v (At s) way (covers_more fresh (onward fresh y) v (At s) way k (onward_up fresh y))

abbrev pub counted_at : Numbers → Frame → Numbers
counted_at j x = counted (number_of (Up j) x) (least_of (Up j) x) j x

-- what it hears and takes, and what it sends with a number, change nothing of each other
pub swaps : (j : Numbers) (x y : Frame) → counted_at (heard true true j y) x ≡ heard true true (counted_at j x) y
swaps j (Info ns nr d) (Info ms mr e) = refl
swaps j (Info ns nr d) (Ready mr) = refl
swaps j (Info ns nr d) Unread = refl
swaps j (Info ns nr d) y = refl
swaps j (Ready nr) (Info ms mr e) = refl
swaps j (Ready nr) (Ready mr) = refl
swaps j (Ready nr) Unread = refl
swaps j (Ready nr) y = refl
swaps j Unread (Info ms mr e) = refl
swaps j Unread (Ready mr) = refl
swaps j Unread Unread = refl
swaps j Unread y = refl
swaps j x (Info ms mr e) = refl
swaps j x (Ready mr) = refl
swaps j x Unread = refl
swaps j x y = refl

up_counts : (u : Stand) (j : Numbers) (v : List Frame) (s : Stand) (way : List Frame) (n t : ℕ) (x : Frame) (r : Stand) → u ≡ Up j
    → counts n t s x ≡ Some r → Covers u v (At s) way → Covers (Up (counted_at j x)) v (At r) way
up_counts _ j _ _ way n t x r e h (Here s u _ b) =
    let more = counts_more n t s (Up j) x r (subst (λ w. Below s w) e b) h in
    let parts = cond_some (may_count (number_of (Up j) x) (least_of (Up j) x) j x) (Up (counted_at j x)) more.0 more.1 in
    Here r (Up (counted_at j x)) way (subst (λ w. Below r w) (sym parts.1) more.2)
up_counts _ j _ _ way n t x r e h (Later u y v (At s) _ k) =
    Later (Up (counted_at j x)) y v (At r) way
    (subst (λ i. Covers (Up i) v (At r) way) (swaps j x y)
    (up_counts (onward u y) (heard true true j y) v s way n t x r (ap (λ w. onward w y) e) h k))
up_counts _ j _ _ way n t x r e h (Begins y v (At s) _ a k) = absurd (not_up j e)
  where
    IsAsking : Stand → Type 0
    IsAsking Asking = Unit {0}
    IsAsking s = ⊥

    not_up : (j : Numbers) → Asking ≡ Up j → ⊥
    not_up j e = subst IsAsking e tt

-- ---- at the place where it may send a frame

below_out : (s c : Stand) → Below s Out → Below s c
below_out Out c b = tt
below_out s c b = absurd b

declines_onward : (u : Stand) (x : Frame) → declines (onward u x) ≡ declines u
declines_onward Out x = refl
declines_onward u x = refl

declines_covered : (u : Stand) (v : List Frame) (s : Stand) (way : List Frame) → Covers u v (At s) way → Below (declines s) (declines u)
declines_covered _ _ _ way (Here s u _ b) = declines_both s u b
declines_covered _ _ _ way (Later u x v (At s) _ k) =
    subst (λ w. Below (declines s) w) (declines_onward u x) (declines_covered (onward u x) v s way k)
declines_covered _ _ _ way (Begins x v (At s) _ a k) = below_out (declines s) Asking (declines_covered fresh v s way k)

found_count : (u : Stand) (v : List Frame) (s : Stand) (way : List Frame) (n t : ℕ) (x : Frame) (r c : Stand)
    → counts (number_of u x) (least_of u x) u x ≡ Some c → counts n t s x ≡ Some r → Covers u v (At s) way → Covers c v (At r) way
found_count (Up j) v s way n t x r c e h k =
    subst (λ w. Covers w v (At r) way)
    (cond_some (may_count (number_of (Up j) x) (least_of (Up j) x) j x) (Up (counted_at j x)) c e).1
    (up_counts (Up j) j v s way n t x r refl h k)
found_count Free v s way n t x r c e h k =
    subst (λ w. Covers w v (At r) way) (same_Some Free c e) (covers_over Free Free v (At s) way r k (below_free r))
found_count u v s way n t x r c e h k = absurd (none-some c e)

found : (u : Stand) (v : List Frame) (s : Stand) (way : List Frame) (n t : ℕ) (x : Frame) (r c : Stand) → sends u v x ≡ Some c
    → sends_as n t s way x ≡ Some r → Covers u v (At s) way → Covers c v (At r) way
found u v s way n t (Info ns nr d) r c e h k = found_count u v s way n t (Info ns nr d) r c e h k
found u v s way n t (Ready nr) r c e h k = found_count u v s way n t (Ready nr) r c e h k
found u v s way n t Unread r c e h k = found_count u v s way n t Unread r c e h k
found u v s way n t Sabm r c e h k =
    let to = (cond_some (is_asking u || not (has_ua v)) Asking c e).1 in
    let from = (cond_some (is_asking s || not (has_ua way)) Asking r h).1 in
    covers_over c u v (At s) way r k (subst (λ w. Below w c) from (subst (λ w. Below Asking w) to tt))
found u v s way n t Disc r c e h k = covers_over c u v (At s) way r k (subst (λ w. Below w c) (same_Some Out r h) tt)
found u v s way n t Frmr r c e h k = covers_over c u v (At s) way r k (subst (λ w. Below w c) (same_Some Out r h) tt)
found u v s way n t Dm r c e h k =
    covers_over c u v (At s) way r k
    (subst (λ w. Below w c) (same_Some (declines s) r h)
    (subst (λ w. Below (declines s) w) (same_Some (declines u) c e) (declines_covered u v s way k)))
found u v s way n t x r c e h k = absurd (none-some r h)

-- ---- the first such place

not_some : (o : Option Stand) (c : Stand) → o ≡ None → o ≡ Some c → ⊥
not_some o c e h = none-some c (sym e ∙ h)

here_may : (s u : Stand) (way : List Frame) (n t : ℕ) (x : Frame) (r : Stand) → Below s u → sends_as n t s way x ≡ Some r
    → sends u way x ≡ None → ⊥
here_may s u way n t x r b h e = let more = sends_more n t s u way x r b h in not_some (sends u way x) more.0 e more.1

-- where it may not send the frame yet, it goes on to where it may
goes_on : (u : Stand) (y : Frame) (v : List Frame) (s : Stand) (way : List Frame) (n t : ℕ) (x : Frame) (r : Stand)
    → sends u (y ∷ v) x ≡ None → sends_as n t s way x ≡ Some r → Covers (onward u y) v (At s) way → Covers (upward u y) v (At s) way
goes_on Asking y v s way n t x r e h k = go (may_answer y)
  where
    numbered : (x : Frame) → sends Asking (y ∷ v) x ≡ None → sends_as n t s way x ≡ Some r → Covers fresh v (At s) way
    numbered (Info ns nr d) e h = begins_at_once Asking v s way n t (Info ns nr d) r tt h k
    numbered (Ready nr) e h = begins_at_once Asking v s way n t (Ready nr) r tt h k
    numbered Unread e h = begins_at_once Asking v s way n t Unread r tt h k
    numbered Sabm e h = absurd (none-some Asking (sym e))
    numbered Disc e h = absurd (none-some Out (sym e))
    numbered Dm e h = absurd (none-some Asking (sym e))
    numbered Frmr e h = absurd (none-some Out (sym e))
    numbered x e h = absurd (none-some r h)

    go : (b : Bool) → Covers (if b then fresh else Asking) v (At s) way
    go true = numbered x e h
    go false = k
goes_on u y v s way n t x r e h k = k

past : (u : Stand) (y : Frame) (v : List Frame) (s : Stand) (way : List Frame) (n t : ℕ) (x : Frame) (r : Stand)
    → sends u (y ∷ v) x ≡ None → sends_as n t s way x ≡ Some r → Covers u (y ∷ v) (At s) way → Covers (upward u y) v (At s) way
past _ _ _ _ _ n t x r e h (Here s u way b) = absurd (here_may s u way n t x r b h e)
past _ _ _ _ way n t x r e h (Later u y v (At s) _ k) = goes_on u y v s way n t x r e h k
past _ _ _ _ way n t x r e h (Begins y v (At s) _ a k) =
    subst (λ b. Covers (if b then fresh else Asking) v (At s) way) (sym a) k

at_end : (u : Stand) (s : Stand) (way : List Frame) (n t : ℕ) (x : Frame) (r : Stand)
    → sends u [] x ≡ None → sends_as n t s way x ≡ Some r → Covers u [] (At s) way → ⊥
at_end _ _ _ n t x r e h (Here s u way b) = here_may s u way n t x r b h e

pub goes_covers : (v : List Frame) (u : Stand) (s : Stand) (way : List Frame) (n t : ℕ) (x : Frame) (r : Stand)
    → sends_as n t s way x ≡ Some r → Covers u v (At s) way → IsCovered (goes x u v) (At r) way
goes_covers [] u s way n t x r h k = go (sends u [] x) refl
  where
    go : (o : Option Stand) → sends u [] x ≡ o → IsCovered (first o [] []) (At r) way
    go (Some c) e = (at c [], inl refl, found u [] s way n t x r c e h k)
    go None e = absurd (at_end u s way n t x r e h k)
goes_covers (y ∷ v) u s way n t x r h k = go (sends u (y ∷ v) x) refl (goes_covers v (upward u y) s way n t x r h)
  where
    go : (o : Option Stand) → sends u (y ∷ v) x ≡ o
        → (Covers (upward u y) v (At s) way → IsCovered (goes x (upward u y) v) (At r) way)
        → IsCovered (first o (y ∷ v) (goes x (upward u y) v)) (At r) way
    go (Some c) e rest = (at c (y ∷ v), inl refl, found u (y ∷ v) s way n t x r c e h k)
    go None e rest = rest (past u y v s way n t x r e h k)

-- ---- UA

pub asked_more : (s u r : Stand) → Below s u → IsIn r (asked s) → IsIn r (asked u)
asked_more Out Out r b is = is
asked_more Out (Up j) r b is = is
asked_more Out Asking r b (inl e) = inl e
asked_more Out Asking r b (inr (inl e)) = inr (inr (inl e))
asked_more Out Asking r b (inr (inr h)) = absurd h
asked_more Out Free r b (inl e) = inl e
asked_more Out Free r b (inr (inl e)) = inr (inr (inl e))
asked_more Out Free r b (inr (inr h)) = absurd h
asked_more Asking Asking r b is = is
asked_more Asking Free r b is = is
asked_more (Up k) (Up j) r b is = is
asked_more (Up k) Free r b (inl e) = inl e
asked_more (Up k) Free r b (inr (inl e)) = inr (inr (inl e))
asked_more (Up k) Free r b (inr (inr h)) = absurd h
asked_more Free Free r b is = is
asked_more _ _ r b is = absurd b

asked_onward : (u : Stand) (x : Frame) → asked (onward u x) ≡ asked u
asked_onward Out x = refl
asked_onward u x = refl

owed_asked : (s r : Stand) (x : Frame) → IsIn r (owed s x) → IsIn r (asked s)
owed_asked s r Unread is = is
owed_asked Out r Sabm (inl e) = inl e
owed_asked Out r Sabm (inr h) = absurd h
owed_asked (Up k) r Sabm (inl e) = inl e
owed_asked (Up k) r Sabm (inr h) = absurd h
owed_asked Asking r Sabm (inl e) = inl e
owed_asked Asking r Sabm (inr (inl e)) = inr (inl e)
owed_asked Asking r Sabm (inr (inr h)) = absurd h
owed_asked Free r Sabm (inl e) = inl e
owed_asked Free r Sabm (inr (inl e)) = inr (inl e)
owed_asked Free r Sabm (inr (inr h)) = absurd h
owed_asked Out r Disc (inl e) = inr (inl e)
owed_asked Out r Disc (inr h) = absurd h
owed_asked (Up k) r Disc (inl e) = inr (inl e)
owed_asked (Up k) r Disc (inr h) = absurd h
owed_asked Asking r Disc (inl e) = inr (inr (inl e))
owed_asked Asking r Disc (inr h) = absurd h
owed_asked Free r Disc (inl e) = inr (inr (inl e))
owed_asked Free r Disc (inr h) = absurd h
owed_asked s r x is = absurd is

-- where it stands once it has answered
Answer : State → Stand → Type 0
Answer (Owes r) q = q ≡ r
Answer (At s) q = IsIn q (asked s)

owes_asked : (u : Stand) (v : List Frame) (s : State) (way : List Frame) (r : Stand) → Covers u v s way → Answer s r → IsIn r (asked u)
unfolding Answer
owes_asked _ _ _ way r (Here s u _ b) is = asked_more s u r b is
owes_asked _ _ _ way r (Asked s u q x _ b is) e =
    asked_more s u r b (owed_asked s r x (subst (λ w. IsIn w (owed s x)) (sym e) is))
owes_asked _ _ _ way r (Later u x v s _ k) is =
    subst (λ qs. IsIn r qs) (asked_onward u x) (owes_asked (onward u x) v s way r k is)
owes_asked _ _ _ way r (Begins x v s _ a k) is = asked_more Out Asking r tt (owes_asked fresh v s way r k is)

-- a place of these is as good as any that answers
answered_covers : (u c r : Stand) (v : List Frame) (s : State) (way : List Frame) → Covers c v s way → IsIn r (asked u)
    → IsCovered (answered u v) (At r) way
answered_covers u c r v s way k is = go u is
  where
    begun : r ≡ fresh → Covers fresh v (At r) way
    begun e = covers_over fresh c v s way r k (subst (λ w. Below w fresh) (sym e) (below_self fresh))

    left : r ≡ Out → Covers fresh v (At r) way
    left e = covers_over fresh c v s way r k (subst (λ w. Below w fresh) (sym e) tt)

    waits : r ≡ Asking → Covers Asking v (At r) way
    waits e = covers_over Asking c v s way r k (subst (λ w. Below w Asking) (sym e) tt)

    go : (u : Stand) → IsIn r (asked u) → IsCovered (answered u v) (At r) way
    go Out (inl e) = (at fresh v, inl refl, begun e)
    go Out (inr (inl e)) = (at fresh v, inl refl, left e)
    go Out (inr (inr h)) = absurd h
    go (Up j) (inl e) = (at fresh v, inl refl, begun e)
    go (Up j) (inr (inl e)) = (at fresh v, inl refl, left e)
    go (Up j) (inr (inr h)) = absurd h
    go Asking (inl e) = (at fresh v, inl refl, begun e)
    go Asking (inr (inl e)) = (at Asking v, inr (inl refl), waits e)
    go Asking (inr (inr (inl e))) = (at fresh v, inl refl, left e)
    go Asking (inr (inr (inr h))) = absurd h
    go Free (inl e) = (at fresh v, inl refl, begun e)
    go Free (inr (inl e)) = (at Asking v, inr (inl refl), waits e)
    go Free (inr (inr (inl e))) = (at fresh v, inl refl, left e)
    go Free (inr (inr (inr h))) = absurd h

-- a place behind the first frame
pub record IsPast (u : Stand) (x : Frame) (v : List Frame) (s : State) (way : List Frame) (r : Stand) : Type 0 where
  pub past : Stand
  pub of : State
  pub covers : Covers past v of way

is_past_owes : (u : Stand) (x : Frame) (v : List Frame) (r : Stand) (way : List Frame) → Covers u (x ∷ v) (Owes r) way
    → IsPast u x v (Owes r) way r
is_past_owes _ _ _ _ way (Asked s u r x v b is) =
    record { past = fresh; of = At fresh; covers = Here fresh fresh v (below_self fresh) }
is_past_owes _ _ _ r way (Later u x v s _ k) = record { past = onward u x; of = Owes r; covers = k }
is_past_owes _ _ _ r way (Begins x v s _ a k) = record { past = fresh; of = Owes r; covers = k }

owing : (u : Stand) (v : List Frame) (r : Stand) (way : List Frame) → Covers u v (Owes r) way → IsIn r (asked u)
unfolding Answer
owing u v r way k = owes_asked u v (Owes r) way r k refl

-- the answers of an end that is in a session are as many as it was to begin with
answers_up : (k j : Numbers) (v : List Frame) → answers (Up k) v ≡ answers (Up j) v
answers_up k j [] = refl
answers_up k j (Sabm ∷ v) = refl
answers_up k j (Unread ∷ v) = refl
answers_up k j (Before ∷ v) = refl
answers_up k j (Disc ∷ v) = ap (λ qs. at Out v ∷ qs) (answers_up k j v)
answers_up k j (x ∷ v) = answers_up k j v

answers_onward : (u : Stand) (x : Frame) (v : List Frame) → answers (onward u x) v ≡ answers u v
answers_onward (Up k) x v = answers_up (heard true true k x) k v
answers_onward u x v = refl

in_asking : (v : List Frame) (q : Place Stand Frame) → IsIn q (answers fresh v) → IsIn q (answers Asking v)
in_asking [] q is = is
in_asking (Sabm ∷ v) q (inl e) = inl e
in_asking (Sabm ∷ v) q (inr h) = absurd h
in_asking (Unread ∷ v) q (inl e) = inl e
in_asking (Unread ∷ v) q (inr h) = absurd h
in_asking (Before ∷ v) q (inl e) = inl e
in_asking (Before ∷ v) q (inr h) = absurd h
in_asking (Disc ∷ v) q (inl e) = inl e
in_asking (Disc ∷ v) q (inr h) = inr (in_asking v q h)
in_asking (x ∷ v) q is = in_asking v q is

by_asked : (u : Stand) (x : Frame) (v : List Frame) (r : Stand) (way : List Frame) → Covers u (x ∷ v) (Owes r) way
    → IsCovered (answered u v) (At r) way
by_asked u x v r way k =
    let p = is_past_owes u x v r way k in
    answered_covers u p.past r v p.of way p.covers (owing u (x ∷ v) r way k)

-- where all that covers it is past the first frame, which it doesn't answer
abbrev AreAnswered : Stand → List Frame → List Frame → Type 0
AreAnswered r way v = (u : Stand) → Covers u v (Owes r) way → IsCovered (answers u v) (At r) way

later_answers : (r : Stand) (way v : List Frame) (u : Stand) (x : Frame) → AreAnswered r way v → Covers u (x ∷ v) (Owes r) way
    → ((s : Stand) → IsIn r (owed s x) → ⊥) → IsCovered (answers u v) (At r) way
later_answers _ _ _ _ _ rest (Asked s u r x way b is) none = absurd (none s is)
later_answers r way _ _ _ rest (Later u x v _ _ k) none =
    subst (λ qs. IsCovered qs (At r) way) (answers_onward u x v) (rest (onward u x) k)
later_answers r way _ _ _ rest (Begins x v _ _ a k) none = let g = rest fresh k in (g.0, in_asking v g.0 g.1, g.2)

disc_answers : (r : Stand) (way v : List Frame) (u : Stand) (x : Frame) → x ≡ Disc → AreAnswered r way v → Covers u (x ∷ v) (Owes r) way
    → IsCovered (at Out v ∷ answers u v) (At r) way
disc_answers _ _ _ _ _ e rest (Asked s u r x way b is) = go (subst (λ y. IsIn r (owed s y)) e is)
  where
    go : IsIn r (Out ∷ []) → IsCovered (at Out way ∷ answers u way) (At r) way
    go (inl same) = (at Out way, inl refl, Here r Out way (subst (λ w. Below w Out) (sym same) tt))
    go (inr h) = absurd h
disc_answers r way _ _ _ e rest (Later u x v _ _ k) =
    let g = subst (λ qs. IsCovered qs (At r) way) (answers_onward u x v) (rest (onward u x) k) in (g.0, inr g.1, g.2)
disc_answers r way _ _ _ e rest (Begins x v _ _ a k) = absurd (both_ways false refl (ap may_answer (sym e) ∙ a))

pub answers_covers : (v : List Frame) (u r : Stand) (way : List Frame) → Covers u v (Owes r) way → IsCovered (answers u v) (At r) way
answers_covers [] u r way k = absurd (nothing_comes u r way k)
  where
    IsSome : List Frame → Type 0
    IsSome [] = ⊥
    IsSome (x ∷ xs) = Unit {0}

    comes : (u : Stand) (v : List Frame) (r : Stand) (way : List Frame) → Covers u v (Owes r) way → IsSome v
    comes _ _ _ _ (Asked s u r x way b is) = tt
    comes _ _ _ _ (Later u x v s way k) = tt
    comes _ _ _ _ (Begins x v s way a k) = tt

    nothing_comes : (u r : Stand) (way : List Frame) → Covers u [] (Owes r) way → ⊥
    nothing_comes u r way k = comes u [] r way k
answers_covers (Sabm ∷ v) u r way k = by_asked u Sabm v r way k
answers_covers (Unread ∷ v) u r way k = by_asked u Unread v r way k
answers_covers (Before ∷ v) u r way k =
    answered_covers u u r (Before ∷ v) (Owes r) way k (owing u (Before ∷ v) r way k)
answers_covers (Disc ∷ v) u r way k = disc_answers r way v u Disc refl (λ w. answers_covers v w r way) k
answers_covers (x ∷ v) u r way k = later_answers r way v u x (λ w. answers_covers v w r way) k (λ s is. is)

-- what was sent before the first frame that was seen
stands_asked : (u : Stand) (v : List Frame) (s : Stand) (way : List Frame) (r : Stand) → Covers u v (At s) way → IsIn r (asked s)
    → IsIn r (asked u)
unfolding Answer
stands_asked u v s way r k is = owes_asked u v (At s) way r k is

head_of : List Frame → Frame
head_of [] = Before
head_of (y ∷ ys) = y

not_head : (x : Frame) (v rest : List Frame) → (x ≡ Before → ⊥) → x ∷ v ≡ Before ∷ rest → ⊥
unfolding head_of
not_head x v rest other e = other (ap head_of e)

-- all that covers it is past a frame that was seen
is_past_at : (u : Stand) (x : Frame) (v : List Frame) (s : Stand) (way rest : List Frame) → way ≡ Before ∷ rest → (x ≡ Before → ⊥)
    → Covers u (x ∷ v) (At s) way → IsPast u x v (At s) way s
is_past_at _ _ _ _ _ rest e other (Here s u (x ∷ v) b) = absurd (not_head x v rest other e)
is_past_at _ _ _ _ way rest e other (Later u x v (At s) _ k) = record { past = onward u x; of = At s; covers = k }
is_past_at _ _ _ _ way rest e other (Begins x v (At s) _ a k) = record { past = fresh; of = At s; covers = k }

later_before : (r s : Stand) (way rest v : List Frame) (u : Stand) (x : Frame) → way ≡ Before ∷ rest → (x ≡ Before → ⊥)
    → ((w : Stand) → Covers w v (At s) way → IsCovered (answers w v) (At r) way) → Covers u (x ∷ v) (At s) way
    → IsCovered (answers u v) (At r) way
later_before r _ _ rest _ _ _ e other each (Here s u (x ∷ v) b) = absurd (not_head x v rest other e)
later_before r _ way rest _ _ _ e other each (Later u x v (At s) _ k) =
    subst (λ qs. IsCovered qs (At r) way) (answers_onward u x v) (each (onward u x) k)
later_before r _ way rest _ _ _ e other each (Begins x v (At s) _ a k) = let g = each fresh k in (g.0, in_asking v g.0 g.1, g.2)

no_longer : (u : Stand) (v : List Frame) (s : State) (way : List Frame) → Covers u v s way → length way ≤ length v
no_longer _ _ _ way (Here s u _ b) = omega arith
no_longer _ _ _ way (Asked s u r x _ b is) = omega arith
no_longer _ _ _ way (Later u x v s _ k) = let h = no_longer (onward u x) v s way k in omega (arith, h)
no_longer _ _ _ way (Begins x v s _ a k) = let h = no_longer fresh v s way k in omega (arith, h)

by_before : (u r s : Stand) (x : Frame) (v way rest : List Frame) → way ≡ Before ∷ rest → (x ≡ Before → ⊥) → IsIn r (asked s)
    → Covers u (x ∷ v) (At s) way → IsCovered (answered u v) (At r) way
by_before u r s x v way rest e other is k =
    let p = is_past_at u x v s way rest e other k in
    answered_covers u p.past r v p.of way p.covers (stands_asked u (x ∷ v) s way r k is)

IsBefore : Frame → Type 0
IsBefore Before = Unit {0}
IsBefore x = ⊥

is_not : (x : Frame) → (IsBefore x → ⊥) → x ≡ Before → ⊥
unfolding IsBefore
is_not x other e = other (subst IsBefore (sym e) tt)

pub before_covers : (v : List Frame) (u s r : Stand) (rest : List Frame) → Covers u v (At s) (Before ∷ rest) → IsIn r (asked s)
    → IsCovered (answers u v) (At r) (Before ∷ rest)
unfolding IsBefore
before_covers [] u s r rest k is = absurd (none (no_longer u [] (At s) (Before ∷ rest) k))
  where
    none : length (Before ∷ rest) ≤ 0 → ⊥
    none h = omega (arith, h)
before_covers (Before ∷ v) u s r rest k is =
    answered_covers u u r (Before ∷ v) (At s) (Before ∷ rest) k (stands_asked u (Before ∷ v) s (Before ∷ rest) r k is)
before_covers (Sabm ∷ v) u s r rest k is = by_before u r s Sabm v (Before ∷ rest) rest refl (is_not Sabm (λ h. h)) is k
before_covers (Unread ∷ v) u s r rest k is = by_before u r s Unread v (Before ∷ rest) rest refl (is_not Unread (λ h. h)) is k
before_covers (Disc ∷ v) u s r rest k is =
    let g = later_before r s (Before ∷ rest) rest v u Disc refl (is_not Disc (λ h. h)) (λ w c. before_covers v w s r rest c is) k in
    (g.0, inr g.1, g.2)
before_covers (x ∷ v) u s r rest k is =
    later_before r s (Before ∷ rest) rest v u x refl (is_not x (λ h. h)) (λ w c. before_covers v w s r rest c is) k
