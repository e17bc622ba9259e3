-- The places of an end of a link tell exactly.
use Rattle.x25_possible_links.proofs.Names.{◌≡◌, ◌⊎◌, inl, inr, refl, sym, ap, subst, Option, Some, None, Bool, true, false, List, [], ◌∷◌, ◌++◌, ℕ, ◌+◌, ◌==◌}
use Rattle.x25_possible_links.proofs.Names.{◌<◌, arith, if◌then◌else◌, flat_map, both_ways, and_parts, lt-ltb, eqb-true, none-some, same_Some, cond_some, IsIn}
use Rattle.x25_possible_links.proofs.Names.{Place, at, State, At, Owes, MaySend, MayTake, passes, hears, begins, owes, fresh, owed, may_answer, counted}
use Rattle.x25_possible_links.proofs.Names.{may_count, may_number, may_acknowledge, told_to, counts, declines, sends_as, number_of, least_of, onward, upward}
use Rattle.x25_possible_links.proofs.Names.{first, is_plain, settled, settle, Frame, Info, Ready, Sabm, Disc, Ua, Dm, Frmr, Unread, Before, Numbers, Stand, Out}
use Rattle.x25_possible.specs.laws.Possible.{Item, Own, Other, Stands, Begins, Sends, Shows, Takes}
use Rattle.x25_possible_links.proofs.Covers.{Covers, Here, covers_less, covers_over}
use Rattle.x25_possible_links.proofs.Leads.{Leads, Stays, Steps, HoldsAt, holds_shown, holds_takes, holds_settled, leads_sends, onward_may, stays_at, front_of}
use Rattle.x25_possible_links.proofs.{Lists.{in_left, in_right, in_either, in_all, from_all, none_in, in_map, from_map}, Names.{Asking, Up, Free}}
use Rattle.x25_possible_links.proofs.Sends.{IsCovered, asked_more, goes_covers, answers_covers, before_covers}
use Rattle.x25_possible_links.proofs.Stands.{Below, below_self, below_free, sends_more, Acknowledges, acknowledges, IsNumbered, is_numbered}
use Rattle.x25_possible_links.specs.laws.{Link.{sends, answers, answers_before, was_any, was_none, asked, link_rules}, Links.{TellsExactly}}
use Rattle.x25_possible_links.specs.laws.Places.{goes, answered, walks, shown, places}
use Rattle.x25_possible_links.specs.laws.Places as place

-- ---- octets that spell no frame

module _ (u : Stand) (v : List Frame) where
  abbrev Any : List (Place Stand Frame)
  Any = at u v ∷ (place.answers u v ++ (goes Sabm u v ++ goes Unread u v))

  abbrev IsAny : State → List Frame → Type 0
  IsAny s way = IsCovered Any s way

  self_any : (s r : Stand) (way : List Frame) → Covers u v (At s) way → Below r s → IsAny (At r) way
  self_any s r way k less = (at u v, inl refl, covers_less u v s r way k less)

  answers_any : (s : State) (way : List Frame) → IsCovered (place.answers u v) s way → IsAny s way
  answers_any s way g = (g.0, inr (in_left (place.answers u v) (goes Sabm u v ++ goes Unread u v) g.0 g.1), g.2)

  sabm_any : (s : State) (way : List Frame) → IsCovered (goes Sabm u v) s way → IsAny s way
  sabm_any s way g =
      (g.0, inr (in_right (place.answers u v) (goes Sabm u v ++ goes Unread u v) g.0 (in_left (goes Sabm u v) (goes Unread u v) g.0 g.1)), g.2)

  next_any : (s : State) (way : List Frame) → IsCovered (goes Unread u v) s way → IsAny s way
  next_any s way g =
      (g.0, inr (in_right (place.answers u v) (goes Sabm u v ++ goes Unread u v) g.0 (in_right (goes Sabm u v) (goes Unread u v) g.0 g.1)), g.2)

  -- the I frame of the next number, or of one before
  number_any : (k : Numbers) (way : List Frame) (n t ns nr : ℕ) (d : Bool) → Covers u v (At (Up k)) way
      → may_count n t k (Info ns nr d) ≡ true → IsAny (At (Up (counted n t k (Info ns nr d)))) way
  number_any k way n t ns nr d c may = go (n == k.sent) refl
    where
      is : IsNumbered n k ns d
      is = is_numbered n k ns d (and_parts (may_number n k ns d) (may_acknowledge t k nr) may).0

      says : Acknowledges t k nr
      says = acknowledges t k nr (and_parts (may_number n k ns d) (may_acknowledge t k nr) may).1

      next : n ≡ k.sent → counts 0 0 (Up k) Unread ≡ Some (Up (record k { sent = k.sent + 1 }))
      next same =
          ap (λ b. if b then Some (Up (record k { sent = k.sent + 1 })) else None)
          (lt-ltb k.sent (k.acked + 7) (subst (λ m. m < k.acked + 7) same is.window))

      go : (b : Bool) → (n == k.sent) ≡ b → IsAny (At (Up (record k { sent = if b then k.sent + 1 else k.sent; told = t }))) way
      go true e =
          let g = goes_covers v u (Up k) way 0 0 Unread (Up (record k { sent = k.sent + 1 })) (next (eqb-true n k.sent e)) c in
          next_any (At (Up (record k { sent = k.sent + 1; told = t }))) way (
            g.0,
            g.1,
            covers_less g.0.state g.0.way (Up (record k { sent = k.sent + 1 })) (Up (record k { sent = k.sent + 1; told = t })) way g.2
                (record { sent = refl; acked = omega arith; taken = omega arith; told = says.rising }),
          )
      go false e =
          self_any (Up k) (Up (record k { told = t })) way c
          (record { sent = refl; acked = omega arith; taken = omega arith; told = says.rising })

  below_declined : (s : Stand) → Below (declines s) s
  below_declined Out = tt
  below_declined s = tt

  count_any : (s : Stand) (way : List Frame) (n t ns nr : ℕ) (d : Bool) (r : Stand) → Covers u v (At s) way
      → counts n t s (Info ns nr d) ≡ Some r → IsAny (At r) way
  count_any (Up j) way n t ns nr d r k e =
      let parts = cond_some (may_count n t j (Info ns nr d)) (Up (counted n t j (Info ns nr d))) r e in
      subst (λ w. IsAny (At w) way) parts.1 (number_any j way n t ns nr d k parts.0)
  count_any Free way n t ns nr d r k e = self_any Free r way k (subst (λ w. Below w Free) (same_Some Free r e) tt)
  count_any s way n t ns nr d r k e = absurd (none-some r e)

  ready_any : (s : Stand) (way : List Frame) (n t nr : ℕ) (r : Stand) → Covers u v (At s) way
      → counts n t s (Ready nr) ≡ Some r → IsAny (At r) way
  ready_any (Up j) way n t nr r k e =
      let parts = cond_some (may_acknowledge t j nr) (Up (told_to t j)) r e in
      let says = acknowledges t j nr parts.0 in
      self_any (Up j) r way k
      (subst (λ w. Below w (Up j)) parts.1
      (record { sent = refl; acked = omega arith; taken = omega arith; told = says.rising }))
  ready_any Free way n t nr r k e = self_any Free r way k (subst (λ w. Below w Free) (same_Some Free r e) tt)
  ready_any s way n t nr r k e = absurd (none-some r e)

  sent_any : (s r : Stand) (way : List Frame) (x : Frame) (n t : ℕ) → Covers u v (At s) way → sends_as n t s way x ≡ Some r
      → IsAny (At r) way
  sent_any s r way (Info ns nr d) n t k e = count_any s way n t ns nr d r k e
  sent_any s r way (Ready nr) n t k e = ready_any s way n t nr r k e
  sent_any s r way Unread n t k e = next_any (At r) way (goes_covers v u s way n t Unread r e k)
  sent_any s r way Sabm n t k e = sabm_any (At r) way (goes_covers v u s way n t Sabm r e k)
  sent_any s r way Disc n t k e = self_any s r way k (subst (λ w. Below w s) (same_Some Out r e) tt)
  sent_any s r way Frmr n t k e = self_any s r way k (subst (λ w. Below w s) (same_Some Out r e) tt)
  sent_any s r way Dm n t k e =
      self_any s r way k (subst (λ w. Below w s) (same_Some (declines s) r e) (below_declined s))
  sent_any s r way x n t k e = absurd (none-some r e)

any_covers : (u : Stand) (v : List Frame) (s r : State) (way : List Frame) (x : Frame) → Covers u v s way → MaySend s way x r
    → IsCovered (Any u v) r way
any_covers u v _ _ way x k (sends s r _ _ n t e) = sent_any u v s r way x n t k e
any_covers u v _ _ way _ k (answers r _) = answers_any u v (At r) way (answers_covers v u r way k)
any_covers u v _ _ _ _ k (answers_before s r rest is) =
    answers_any u v (At r) (Before ∷ rest) (before_covers v u s r rest k is)
any_covers u v _ _ way _ k (was_any s r _ y may) = any_covers u v s r way y k may
any_covers u v _ _ way _ k (was_none s _) = self_any u v s s way k (below_self s)

-- one that may be anywhere may be so behind any frame
free_sends : (v : List Frame) (s r : State) (way : List Frame) (x : Frame) → Covers Free v s way → MaySend s way x r → Covers Free v r way
free_sends v _ _ way x k (sends s r _ _ n t e) = covers_over Free Free v (At s) way r k (below_free r)
free_sends v _ _ way _ k (answers r _) = covers_over Free Free v (Owes r) way r k (below_free r)
free_sends v _ _ _ _ k (answers_before s r rest is) = covers_over Free Free v (At s) (Before ∷ rest) r k (below_free r)
free_sends v _ _ way _ k (was_any s r _ y may) = free_sends v s r way y k may
free_sends v _ _ way _ k (was_none s _) = k

unread_covers : (u : Stand) (v : List Frame) (s r : State) (way : List Frame) (x : Frame) → Covers u v s way → MaySend s way x r
    → IsCovered (walks Unread (at u v)) r way
unread_covers Free v s r way x k may = (at Free v, inl refl, free_sends v s r way x k may)
unread_covers u v s r way x k may = any_covers u v s r way x k may

sent_covers : (u : Stand) (v : List Frame) (s r : State) (way : List Frame) (x : Frame) → Covers u v s way → MaySend s way x r
    → IsCovered (walks x (at u v)) r way
sent_covers u v _ _ way x k (sends s r _ _ n t e) = go x e
  where
    go : (x : Frame) → sends_as n t s way x ≡ Some r → IsCovered (walks x (at u v)) (At r) way
    go Ua e = absurd (none-some r e)
    go Unread e = unread_covers u v (At s) (At r) way Unread k (sends s r way Unread n t e)
    go (Info ns nr d) e = goes_covers v u s way n t (Info ns nr d) r e k
    go (Ready nr) e = goes_covers v u s way n t (Ready nr) r e k
    go Sabm e = goes_covers v u s way n t Sabm r e k
    go Disc e = goes_covers v u s way n t Disc r e k
    go Dm e = goes_covers v u s way n t Dm r e k
    go Frmr e = goes_covers v u s way n t Frmr r e k
    go Before e = absurd (none-some r e)
sent_covers u v _ _ way _ k (answers r _) = answers_covers v u r way k
sent_covers u v _ _ _ _ k (answers_before s r rest is) = before_covers v u s r rest k is
sent_covers u v _ _ way _ k (was_any s r _ y may) = unread_covers u v s r way y k may
sent_covers u v _ _ way _ k (was_none s _) = unread_covers u v (At s) (At s) way Unread k (was_none s way)

-- ---- each run is covered

abbrev pub HoldsIn : List (Place Stand Frame) → State → List Frame → Type 0
HoldsIn qs s way = (q : Place Stand Frame) × IsIn q qs × HoldsAt q.state q.way s way

-- where a frame may be sent, one of these places is behind it
Covering : Stand → List Frame → Frame → List (Place Stand Frame) → Type 0
Covering u v x ps = (s r : State) (way : List Frame) → Covers u v s way → MaySend s way x r → IsCovered ps r way

before_stays : (u : Stand) (v : List Frame) (g : Stand) (way : List Frame) (c : Stand) (end rest : List Frame) → way ≡ Before ∷ rest
    → Leads g way c end → Covers u v (At c) end → Covers u v (At g) way
before_stays u v _ _ _ _ rest e (Stays g way) k = k
before_stays u v _ _ c end rest e (Steps g x way _ _ p l) k = absurd (not_plain g (subst (λ z. is_plain g z ≡ true) (ap (front_of x) e) p))
  where
    not_plain : (g : Stand) → is_plain g Before ≡ true → ⊥
    not_plain Out h = both_ways false refl h
    not_plain Asking h = both_ways false refl h
    not_plain (Up j) h = both_ways false refl h
    not_plain Free h = both_ways false refl h

holds_sends : (u : Stand) (v : List Frame) (s r : State) (way : List Frame) (x : Frame) (z : List (Place Stand Frame))
    → Covering u v x z → ((y : Frame) → x ≡ Unread → Covering u v y z) → HoldsAt u v s way → MaySend s way x r → HoldsIn z r way
unfolding Covering
holds_sends u v _ _ way x z cover any h (sends s r _ _ n t e) =
    let first = sends_more n t s h.good way x r h.below e in
    let behind = leads_sends h.good way h.stand h.end x first.0 h.leads first.1 in
    let g = cover (At h.stand) (At behind.then_) h.end h.covers
    (sends h.stand behind.then_ h.end x (number_of h.stand x) (least_of h.stand x) behind.sent) in (
      g.0,
      g.1,
      record { good = first.0; below = first.2; stand = behind.then_; end = h.end; leads = behind.leads; covers = g.2 },
    )
holds_sends u v _ _ way _ z cover any h (answers r _) =
    let g = cover (Owes r) (At r) way h (answers r way) in
    (g.0, g.1, stays_at g.0.state g.0.way r r way (below_self r) g.2)
holds_sends u v _ _ _ _ z cover any h (answers_before s r rest is) =
    let k = before_stays u v h.good (Before ∷ rest) h.stand h.end rest refl h.leads h.covers in
    let g = cover (At h.good) (At r) (Before ∷ rest) k (answers_before h.good r rest (asked_more s h.good r h.below is)) in
    (g.0, g.1, stays_at g.0.state g.0.way r r (Before ∷ rest) (below_self r) g.2)
holds_sends u v _ _ way _ z cover any h (was_any s r _ y may) =
    holds_sends u v s r way y z (any y refl) (λ w e. any w refl) h may
holds_sends u v _ _ way _ z cover any h (was_none s _) =
    let g = cover (At h.stand) (At h.stand) h.end h.covers (was_none h.stand h.end) in (
      g.0,
      g.1,
      record { good = h.good; below = h.below; stand = h.stand; end = h.end; leads = h.leads; covers = g.2 },
    )

pub sends_held : (u : Stand) (v : List Frame) (s r : State) (way : List Frame) (x : Frame) → HoldsAt u v s way → MaySend s way x r
    → HoldsIn (walks x (at u v)) r way
unfolding Covering
sends_held u v s r way x h may =
    holds_sends u v s r way x (walks x (at u v)) (λ p q w k m. sent_covers u v p q w x k m)
    (λ y e p q w k m. subst (λ z. IsCovered (walks z (at u v)) q w) (sym e) (unread_covers u v p q w y k m)) h may

pub strays_held : (v : List Frame) (s r : State) (way : List Frame) (x : Frame) → HoldsAt Free v s way → MaySend s way x r
    → HoldsAt Free v r way
unfolding Covering
strays_held v s r way x h may =
    only (holds_sends Free v s r way x (at Free v ∷ []) (λ p q w k m. (at Free v, inl refl, free_sends v p q w x k m))
    (λ y e p q w k m. (at Free v, inl refl, free_sends v p q w y k m)) h may)
  where
    only : HoldsIn (at Free v ∷ []) r way → HoldsAt Free v r way
    only (q, inl e, k) = subst (λ (p : Place Stand Frame). HoldsAt p.state p.way r way) e k
    only (q, inr n, k) = absurd n

module _ (begun : List Stand) where
  covered : (tape : List (Item Frame)) (s : State) (way : List Frame) → Stands (link_rules begun) tape s way
      → HoldsIn (places begun tape) s way
  covered _ _ _ (Begins s b) = (
    at b.0 [],
    in_map (λ u. at u []) begun b.0 b.1,
    subst (λ w. HoldsAt b.0 [] w []) (sym b.2) (stays_at b.0 [] b.0 b.0 [] (below_self b.0) (Here b.0 b.0 [] (below_self b.0))),
  )
  covered _ _ _ (Sends tape s r way x may h) =
      let g = covered tape s way h in
      let m = sends_held g.0.state g.0.way s r way x g.2 may in (
        settle m.0,
        in_map settle (flat_map (walks x) (places begun tape)) m.0 (in_all (walks x) (places begun tape) g.0 m.0 g.1 m.1),
        holds_settled m.0.way m.0.state r way m.2,
      )
  covered _ _ _ (Shows tape s way x h) =
      let g = covered tape s way h in (
        shown x g.0,
        in_map (shown x) (places begun tape) g.0 g.1,
        holds_settled (g.0.way ++ x ∷ []) g.0.state s (way ++ x ∷ []) (holds_shown g.0.state g.0.way s way x g.2),
      )
  covered _ _ _ (Takes tape s r way x may h) =
      let g = covered tape s (x ∷ way) h in
      (g.0, g.1, holds_takes g.0.state g.0.way s r x way g.2 may)

-- ---- a run comes to each place

upward_may : (u : Stand) (x : Frame) → MayTake (At u) x (At (upward u x))
upward_may Out x = passes Out x
upward_may (Up k) x = hears k x true true
upward_may Free x = passes Free x
upward_may Asking x = go (may_answer x) refl
  where
    go : (b : Bool) → may_answer x ≡ b → MayTake (At Asking) x (At (if b then fresh else Asking))
    go true e = begins x e
    go false e = passes Asking x

module _ (begun : List Stand) (tape : List (Item Frame)) (z : Frame) where
  abbrev Before_ : Stand → List Frame → Type 0
  Before_ u v = Stands (link_rules begun) tape (At u) v

  abbrev Behind : Place Stand Frame → Type 0
  Behind q = Stands (link_rules begun) (Own z ∷ tape) (At q.state) q.way

  -- where z may be sent as x
  abbrev May : Frame → Type 0
  May x = (s r : State) (way : List Frame) → MaySend s way x r → MaySend s way z r

  is_behind : (q p : Place Stand Frame) → q ≡ p → Behind p → Behind q
  is_behind q p e h = subst Behind (sym e) h

  goes_stand : (x : Frame) → May x → (v : List Frame) (u : Stand) (q : Place Stand Frame) → Before_ u v → IsIn q (goes x u v) → Behind q
  goes_stand x may [] u q h is = go (place.sends u [] x) refl is
    where
      go : (o : Option Stand) → place.sends u [] x ≡ o → IsIn q (first o [] []) → Behind q
      go (Some r) e (inl same) =
          is_behind q (at r []) same
          (Sends tape (At u) (At r) [] z (may (At u) (At r) [] (sends u r [] x (number_of u x) (least_of u x) e)) h)
      go (Some r) e (inr g) = absurd g
      go None e g = absurd g
  goes_stand x may (y ∷ v) u q h is =
      go (place.sends u (y ∷ v) x) refl is
      (λ g. goes_stand x may v (upward u y) q (Takes tape (At u) (At (upward u y)) v y (upward_may u y) h) g)
    where
      go : (o : Option Stand) → place.sends u (y ∷ v) x ≡ o → IsIn q (first o (y ∷ v) (goes x (upward u y) v))
          → (IsIn q (goes x (upward u y) v) → Behind q) → Behind q
      go (Some r) e (inl same) rest =
          is_behind q (at r (y ∷ v)) same
          (Sends tape (At u) (At r) (y ∷ v) z (may (At u) (At r) (y ∷ v) (sends u r (y ∷ v) x (number_of u x) (least_of u x) e)) h)
      go (Some r) e (inr g) rest = absurd g
      go None e g rest = rest g

  -- UA to what is in front
  owes_stand : May Ua → (y : Frame) (v : List Frame) (u r : Stand) → Before_ u (y ∷ v) → IsIn r (owed u y) → Behind (at r v)
  owes_stand may y v u r h is =
      Sends tape (Owes r) (At r) v z (may (Owes r) (At r) v (answers r v))
      (Takes tape (At u) (Owes r) v y (owes u r y is) h)

  answered_in : (u : Stand) (v : List Frame) (q : Place Stand Frame) → IsIn q (answered u v)
      → (r : Stand) × (q ≡ at r v) × IsIn r (owed u Sabm)
  answered_in Out v q (inl e) = (fresh, e, inl refl)
  answered_in Out v q (inr h) = absurd h
  answered_in (Up k) v q (inl e) = (fresh, e, inl refl)
  answered_in (Up k) v q (inr h) = absurd h
  answered_in Asking v q (inl e) = (fresh, e, inl refl)
  answered_in Asking v q (inr (inl e)) = (Asking, e, inr (inl refl))
  answered_in Asking v q (inr (inr h)) = absurd h
  answered_in Free v q (inl e) = (fresh, e, inl refl)
  answered_in Free v q (inr (inl e)) = (Asking, e, inr (inl refl))
  answered_in Free v q (inr (inr h)) = absurd h

  sabm_asked : (u r : Stand) → IsIn r (owed u Sabm) → IsIn r (asked u)
  sabm_asked Out r (inl e) = inl e
  sabm_asked Out r (inr h) = absurd h
  sabm_asked (Up k) r (inl e) = inl e
  sabm_asked (Up k) r (inr h) = absurd h
  sabm_asked Asking r (inl e) = inl e
  sabm_asked Asking r (inr (inl e)) = inr (inl e)
  sabm_asked Asking r (inr (inr h)) = absurd h
  sabm_asked Free r (inl e) = inl e
  sabm_asked Free r (inr (inl e)) = inr (inl e)
  sabm_asked Free r (inr (inr h)) = absurd h

  on : (y : Frame) (v : List Frame) (u : Stand) → Before_ u (y ∷ v) → Before_ u v
  on y v u h = Takes tape (At u) (At u) v y (passes u y) h

  answers_stand : May Ua → (v : List Frame) (u : Stand) (q : Place Stand Frame) → Before_ u v → IsIn q (place.answers u v) → Behind q
  answers_stand may [] u q h is = absurd is
  answers_stand may (Sabm ∷ v) u q h is =
      let g = answered_in u v q is in is_behind q (at g.0 v) g.1 (owes_stand may Sabm v u g.0 h g.2)
  answers_stand may (Unread ∷ v) u q h is =
      let g = answered_in u v q is in is_behind q (at g.0 v) g.1 (owes_stand may Unread v u g.0 h (sabm_asked u g.0 g.2))
  answers_stand may (Before ∷ v) u q h is =
      let g = answered_in u (Before ∷ v) q is in
      is_behind q (at g.0 (Before ∷ v)) g.1
      (Sends tape (At u) (At g.0) (Before ∷ v) z
      (may (At u) (At g.0) (Before ∷ v) (answers_before u g.0 v (sabm_asked u g.0 g.2))) h)
  answers_stand may (Disc ∷ v) u q h (inl e) = is_behind q (at Out v) e (owes_stand may Disc v u Out h (inl refl))
  answers_stand may (Disc ∷ v) u q h (inr g) = answers_stand may v u q (on Disc v u h) g
  answers_stand may (x ∷ v) u q h is = answers_stand may v u q (on x v u h) is

same_frame : (begun : List Stand) (tape : List (Item Frame)) (x : Frame) → May begun tape x x
same_frame begun tape x s r way may = may

as_any : (begun : List Stand) (tape : List (Item Frame)) (x : Frame) → May begun tape Unread x
as_any begun tape x s r way may = was_any s r way x may

any_stands : (begun : List Stand) (tape : List (Item Frame)) (v : List Frame) (u : Stand) (q : Place Stand Frame)
    → Stands (link_rules begun) tape (At u) v → IsIn q (place.any u v) → Stands (link_rules begun) (Own Unread ∷ tape) (At q.state) q.way
any_stands begun tape v Free q h is = absurd is
any_stands begun tape v u q h is = go (in_either (place.answers u v) (goes Sabm u v ++ goes Unread u v) q is)
  where
    last : IsIn q (goes Sabm u v) ⊎ IsIn q (goes Unread u v) → Stands (link_rules begun) (Own Unread ∷ tape) (At q.state) q.way
    last (inl g) = goes_stand begun tape Unread Sabm (as_any begun tape Sabm) v u q h g
    last (inr g) = goes_stand begun tape Unread Unread (same_frame begun tape Unread) v u q h g

    go : IsIn q (place.answers u v) ⊎ IsIn q (goes Sabm u v ++ goes Unread u v)
        → Stands (link_rules begun) (Own Unread ∷ tape) (At q.state) q.way
    go (inl g) = answers_stand begun tape Unread (as_any begun tape Ua) v u q h g
    go (inr g) = last (in_either (goes Sabm u v) (goes Unread u v) q g)

pub walks_stand : (begun : List Stand) (tape : List (Item Frame)) (x : Frame) (p q : Place Stand Frame)
    → Stands (link_rules begun) tape (At p.state) p.way → IsIn q (walks x p)
    → Stands (link_rules begun) (Own x ∷ tape) (At q.state) q.way
walks_stand begun tape Ua p q h is = answers_stand begun tape Ua (same_frame begun tape Ua) p.way p.state q h is
walks_stand begun tape Unread p q h (inl e) =
    subst (λ w. Stands (link_rules begun) (Own Unread ∷ tape) (At w.state) w.way) (sym e)
    (Sends tape (At p.state) (At p.state) p.way Unread (was_none p.state p.way) h)
walks_stand begun tape Unread p q h (inr is) = any_stands begun tape p.way p.state q h is
walks_stand begun tape (Info ns nr d) p q h is =
    goes_stand begun tape (Info ns nr d) (Info ns nr d) (same_frame begun tape (Info ns nr d)) p.way p.state q h is
walks_stand begun tape (Ready nr) p q h is = goes_stand begun tape (Ready nr) (Ready nr) (same_frame begun tape (Ready nr)) p.way p.state q h is
walks_stand begun tape Sabm p q h is = goes_stand begun tape Sabm Sabm (same_frame begun tape Sabm) p.way p.state q h is
walks_stand begun tape Disc p q h is = goes_stand begun tape Disc Disc (same_frame begun tape Disc) p.way p.state q h is
walks_stand begun tape Dm p q h is = goes_stand begun tape Dm Dm (same_frame begun tape Dm) p.way p.state q h is
walks_stand begun tape Frmr p q h is = goes_stand begun tape Frmr Frmr (same_frame begun tape Frmr) p.way p.state q h is
walks_stand begun tape Before p q h is = goes_stand begun tape Before Before (same_frame begun tape Before) p.way p.state q h is

pub settled_stand : (begun : List Stand) (tape : List (Item Frame)) (v : List Frame) (u : Stand) → Stands (link_rules begun) tape (At u) v
    → Stands (link_rules begun) tape (At (settled u v).state) (settled u v).way
settled_stand begun tape [] u h = h
settled_stand begun tape (x ∷ v) u h =
    go (is_plain u x) (settled_stand begun tape v (onward u x) (Takes tape (At u) (At (onward u x)) v x (onward_may u x) h))
  where
    go : (b : Bool) → Stands (link_rules begun) tape (At (settled (onward u x) v).state) (settled (onward u x) v).way
        → Stands (link_rules begun) tape (At (if b then settled (onward u x) v else at u (x ∷ v)).state)
        (if b then settled (onward u x) v else at u (x ∷ v)).way
    go true rest = rest
    go false rest = h

stands : (begun : List Stand) (tape : List (Item Frame)) (q : Place Stand Frame) → IsIn q (places begun tape)
    → Stands (link_rules begun) tape (At q.state) q.way
stands begun [] q is =
    let g = from_map (λ s. at s []) begun q is in
    subst (λ w. Stands (link_rules begun) [] (At w.state) w.way) (sym g.2) (Begins (At g.0) (g.0, g.1, refl))
stands begun (Own x ∷ tape) q is =
    let m = from_map settle (flat_map (walks x) (places begun tape)) q is in
    let g = from_all (walks x) (places begun tape) m.0 m.1 in
    subst (λ w. Stands (link_rules begun) (Own x ∷ tape) (At w.state) w.way) (sym m.2)
    (settled_stand begun (Own x ∷ tape) m.0.way m.0.state (walks_stand begun tape x g.0 m.0 (stands begun tape g.0 g.1) g.2))
stands begun (Other x ∷ tape) q is =
    let g = from_map (shown x) (places begun tape) q is in
    subst (λ w. Stands (link_rules begun) (Other x ∷ tape) (At w.state) w.way) (sym g.2)
    (settled_stand begun (Other x ∷ tape) (g.0.way ++ x ∷ []) g.0.state
    (Shows tape (At g.0.state) g.0.way x (stands begun tape g.0 g.1)))

pub tells_exactly : (begun : List Stand) → TellsExactly begun
tells_exactly begun = record {
  told = λ tape e s way h. let g = covered begun tape s way h in subst (λ qs. IsIn g.0 qs) e g.1;
  untold = λ tape none. none_in (places begun tape) (λ q is. none (At q.state) q.way (stands begun tape q is));
  stands = stands begun;
}
