-- What an end makes the best of at once.
use Rattle.x25_possible_links.proofs.Names.{◌≡◌, inl, inr, refl, sym, ap, subst, ◌∙◌, Some, None, Bool, true, false, List, [], ◌∷◌, ◌++◌, ℕ, ◌||◌, not, ◌<◌}
use Rattle.x25_possible_links.proofs.Names.{◌≤◌, arith, if◌then◌else◌, length, suc, both_ways, cond_both, none-some, same_Some, cond_some, IsIn, at, State, At}
use Rattle.x25_possible_links.proofs.Names.{Owes, MayTake, passes, hears, begins, owes, fresh, owed, is_asking, has_ua, may_answer, may_count, counts, declines}
use Rattle.x25_possible_links.proofs.Names.{heard, number_of, least_of, sends, onward, is_plain, settled, is_lost, pressed, rushed, Frame, Info, Ready, Sabm}
use Rattle.x25_possible_links.proofs.Covers.{Covers, Here, Asked, Later, Begins, covers_more, covers_takes, covers_shown, owes_take_nothing as takes_at}
use Rattle.x25_possible_links.proofs.{Names.{Disc, Ua, Dm, Frmr, Unread, Numbers, Stand, Out, Asking, Up, Free}, Sends.{asked_more, counted_at, swaps}}
use Rattle.x25_possible_links.proofs.Stands.{Below, below_self, below_free, below_on, heard_below, onward_up, onward_both, counts_more}

-- by what it makes the best of at once it comes from one place to another
pub data Leads : Stand → List Frame → Stand → List Frame → Type 0 where
  Stays : (u : Stand) (way : List Frame) → Leads u way u way
  Steps : (u : Stand) (x : Frame) (way : List Frame) (t : Stand) (end : List Frame) → is_plain u x ≡ true
      → Leads (onward u x) way t end → Leads u (x ∷ way) t end

pub leads_on : (u : Stand) (way : List Frame) (t : Stand) (mid : List Frame) (v : Stand) (end : List Frame) → Leads u way t mid
    → Leads t mid v end → Leads u way v end
leads_on _ _ _ _ v end (Stays u way) g = g
leads_on _ _ t mid v end (Steps u x way _ _ e h) g = Steps u x way v end e (leads_on (onward u x) way t mid v end h g)

leads_shown : (u : Stand) (way : List Frame) (t : Stand) (end : List Frame) (x : Frame) → Leads u way t end
    → Leads u (way ++ x ∷ []) t (end ++ x ∷ [])
leads_shown _ _ _ _ x (Stays u way) = Stays u (way ++ x ∷ [])
leads_shown _ _ t end x (Steps u y way _ _ e h) =
    Steps u y (way ++ x ∷ []) t (end ++ x ∷ []) e (leads_shown (onward u y) way t end x h)

-- ---- a place of a run, or one as good to which it leads, is covered by this one

pub record Holds (u : Stand) (v : List Frame) (s : Stand) (way : List Frame) : Type 0 where
  pub good : Stand
  pub below : Below s good
  pub stand : Stand
  pub end : List Frame
  pub leads : Leads good way stand end
  pub covers : Covers u v (At stand) end

abbrev pub HoldsAt : Stand → List Frame → State → List Frame → Type 0
HoldsAt u v (At s) way = Holds u v s way
HoldsAt u v (Owes r) way = Covers u v (Owes r) way

pub holds_shown : (u : Stand) (v : List Frame) (s : State) (way : List Frame) (x : Frame) → HoldsAt u v s way
    → HoldsAt u (v ++ x ∷ []) s (way ++ x ∷ [])
holds_shown u v (At s) way x h = record {
  good = h.good;
  below = h.below;
  stand = h.stand;
  end = h.end ++ x ∷ [];
  leads = leads_shown h.good way h.stand h.end x h.leads;
  covers = covers_shown u v (At h.stand) h.end x h.covers;
}
holds_shown u v (Owes r) way x h = covers_shown u v (Owes r) way x h

-- ---- what comes

plain_not_owed : (u s r : Stand) (x : Frame) → is_plain u x ≡ true → IsIn r (owed s x) → ⊥
plain_not_owed u s r Sabm e is = not_plain u Sabm e
  where
    not_plain : (u : Stand) (x : Frame) → is_plain u Sabm ≡ true → ⊥
    not_plain Out x e = both_ways false refl e
    not_plain Asking x e = both_ways false refl e
    not_plain (Up k) x e = both_ways false refl e
    not_plain Free x e = both_ways false refl e
plain_not_owed u s r Disc e is = not_plain u e
  where
    not_plain : (u : Stand) → is_plain u Disc ≡ true → ⊥
    not_plain Out e = both_ways false refl e
    not_plain Asking e = both_ways false refl e
    not_plain (Up k) e = both_ways false refl e
    not_plain Free e = both_ways false refl e
plain_not_owed u s r Unread e is = not_plain u e
  where
    not_plain : (u : Stand) → is_plain u Unread ≡ true → ⊥
    not_plain Out e = both_ways false refl e
    not_plain Asking e = both_ways false refl e
    not_plain (Up k) e = both_ways false refl e
    not_plain Free e = both_ways false refl e
plain_not_owed u s r x e is = is

plain_not_answer : (x : Frame) → is_plain Asking x ≡ true → may_answer x ≡ true → ⊥
plain_not_answer Ua e a = both_ways false refl e
plain_not_answer Unread e a = both_ways false refl e
plain_not_answer x e a = both_ways false refl a

owed_more : (s u r : Stand) (x : Frame) → Below s u → IsIn r (owed s x) → IsIn r (owed u x)
owed_more s u r Disc b is = is
owed_more s u r Unread b is = asked_more s u r b is
owed_more Out Out r Sabm b is = is
owed_more Out (Up j) r Sabm b is = is
owed_more Out Asking r Sabm b (inl e) = inl e
owed_more Out Asking r Sabm b (inr h) = absurd h
owed_more Out Free r Sabm b (inl e) = inl e
owed_more Out Free r Sabm b (inr h) = absurd h
owed_more Asking Asking r Sabm b is = is
owed_more Asking Free r Sabm b is = is
owed_more (Up k) (Up j) r Sabm b is = is
owed_more (Up k) Free r Sabm b (inl e) = inl e
owed_more (Up k) Free r Sabm b (inr h) = absurd h
owed_more Free Free r Sabm b is = is
owed_more Asking (Up j) r Sabm b is = absurd b
owed_more Asking Out r Sabm b is = absurd b
owed_more (Up k) Out r Sabm b is = absurd b
owed_more (Up k) Asking r Sabm b is = absurd b
owed_more Free Out r Sabm b is = absurd b
owed_more Free Asking r Sabm b is = absurd b
owed_more Free (Up j) r Sabm b is = absurd b
owed_more s u r x b is = absurd is

pub onward_may : (u : Stand) (x : Frame) → MayTake (At u) x (At (onward u x))
onward_may Out x = passes Out x
onward_may Asking x = passes Asking x
onward_may (Up k) x = hears k x true true
onward_may Free x = passes Free x

pub stays_at : (u : Stand) (v : List Frame) (r t : Stand) (way : List Frame) → Below r t → Covers u v (At t) way → Holds u v r way
stays_at u v r t way b k = record { good = t; below = b; stand = t; end = way; leads = Stays t way; covers = k }

below_heard : (k : Numbers) (x : Frame) (h t : Bool) (u : Stand) → Below (Up k) u → Below (Up (heard h t k x)) (onward u x)
below_heard k x h t (Up j) b = heard_below h t k j x b
below_heard k x h t Free b = tt
below_heard k x h t u b = absurd b

-- the best that the better stand makes of it
takes_stay : (u : Stand) (v : List Frame) (s : Stand) (r : State) (t : Stand) (x : Frame) (way : List Frame) → Below s t
    → Covers u v (At t) (x ∷ way) → MayTake (At s) x r → HoldsAt u v r way
takes_stay u v _ _ t _ way b k (passes s x) =
    stays_at u v s (onward t x) way (below_on s t (onward t x) b (onward_up t x))
    (covers_takes u v (At t) (At (onward t x)) x way k (onward_may t x))
takes_stay u v _ _ t _ way b k (hears i x h g) =
    stays_at u v (Up (heard h g i x)) (onward t x) way (below_heard i x h g t b)
    (covers_takes u v (At t) (At (onward t x)) x way k (onward_may t x))
takes_stay u v _ _ Asking _ way b k (begins x a) =
    stays_at u v fresh fresh way (below_self fresh) (covers_takes u v (At Asking) (At fresh) x way k (begins x a))
takes_stay u v _ _ Free _ way b k (begins x a) =
    stays_at u v fresh Free way tt (covers_takes u v (At Free) (At Free) x way k (passes Free x))
takes_stay u v _ _ t _ way b k (owes s r x is) =
    covers_takes u v (At t) (Owes r) x way k (owes t r x (owed_more s t r x b is))
takes_stay u v _ _ t _ way b k (begins x a) = absurd b

plain_free : (x : Frame) → is_plain Free x ≡ true → may_answer x ≡ true → ⊥
plain_free Ua e a = both_ways false refl e
plain_free Unread e a = both_ways false refl e
plain_free x e a = both_ways false refl a

takes_step : (u : Stand) (v : List Frame) (s : Stand) (r : State) (t : Stand) (x : Frame) (way : List Frame) (c : Stand) (end : List Frame)
    → Below s t → is_plain t x ≡ true → Leads (onward t x) way c end → Covers u v (At c) end → MayTake (At s) x r → HoldsAt u v r way
takes_step u v _ _ t _ way c end b e l k (passes s x) = record {
  good = onward t x;
  below = below_on s t (onward t x) b (onward_up t x);
  stand = c;
  end = end;
  leads = l;
  covers = k;
}
takes_step u v _ _ t _ way c end b e l k (hears i x h g) =
    record { good = onward t x; below = below_heard i x h g t b; stand = c; end = end; leads = l; covers = k }
takes_step u v _ _ Asking _ way c end b e l k (begins x a) = absurd (plain_not_answer x e a)
takes_step u v _ _ Free _ way c end b e l k (begins x a) = absurd (plain_free x e a)
takes_step u v _ _ t _ way c end b e l k (owes s r x is) = absurd (plain_not_owed t s r x e is)
takes_step u v _ _ t _ way c end b e l k (begins x a) = absurd b

abbrev pub front_of : Frame → List Frame → Frame
front_of d [] = d
front_of d (x ∷ xs) = x

abbrev tail_of : List Frame → List Frame
tail_of [] = []
tail_of (x ∷ xs) = xs

takes_by : (u : Stand) (v : List Frame) (s : Stand) (r : State) (t : Stand) (front : List Frame) (c : Stand) (end : List Frame) (x : Frame)
    (way : List Frame) → front ≡ x ∷ way → Below s t → Leads t front c end → Covers u v (At c) end → MayTake (At s) x r → HoldsAt u v r way
takes_by u v s r _ _ _ _ x way e b (Stays t front) k may =
    takes_stay u v s r t x way b (subst (λ w. Covers u v (At t) w) e k) may
takes_by u v s r _ _ _ _ x way e b (Steps t y rest c end p l) k may =
    let same = heads y rest x way e in
    takes_step u v s r t x way c end b (subst (λ z. is_plain t z ≡ true) same.0 p)
    (subst (λ z. Leads (onward t z) way c end) same.0 (subst (λ w. Leads (onward t y) w c end) same.1 l)) k may
  where
    heads : (y : Frame) (rest : List Frame) (x : Frame) (way : List Frame) → y ∷ rest ≡ x ∷ way → (y ≡ x) × (rest ≡ way)
    heads y rest x way e = (ap (front_of y) e, ap tail_of e)

pub holds_takes : (u : Stand) (v : List Frame) (s r : State) (x : Frame) (way : List Frame) → HoldsAt u v s (x ∷ way) → MayTake s x r
    → HoldsAt u v r way
holds_takes u v (At s) r x way h may =
    takes_by u v s r h.good (x ∷ way) h.stand h.end x way refl h.below h.leads h.covers may
holds_takes u v (Owes q) r x way h may = absurd (takes_at q r x may)

-- ---- what it sends

plain_up : (k j : Numbers) (y : Frame) → is_plain (Up k) y ≡ true → is_plain (Up j) y ≡ true
plain_up k j (Info ns nr d) e = refl
plain_up k j (Ready nr) e = refl
plain_up k j Dm e = refl
plain_up k j Frmr e = refl
plain_up k j Ua e = refl
plain_up k j y e = e

plain_out : (u : Stand) (y : Frame) → is_plain u y ≡ true → is_plain Out y ≡ true
plain_out u (Info ns nr d) e = refl
plain_out u (Ready nr) e = refl
plain_out u Dm e = refl
plain_out u Frmr e = refl
plain_out u Ua e = refl
plain_out Out y e = e
plain_out u y e = absurd (both_ways false refl e)

is_ua' : Frame → Type 0
is_ua' Ua = Unit {0}
is_ua' y = ⊥

plain_asking : (u : Stand) (y : Frame) → (is_ua' y → ⊥) → is_plain u y ≡ true → is_plain Asking y ≡ true
unfolding is_ua'
plain_asking u (Info ns nr d) other e = refl
plain_asking u (Ready nr) other e = refl
plain_asking u Dm other e = refl
plain_asking u Frmr other e = refl
plain_asking u Ua other e = absurd (other tt)
plain_asking Asking y other e = e
plain_asking u y other e = absurd (both_ways false refl e)

plain_below : (t u : Stand) (x : Frame) → Below t u → is_plain u x ≡ true → is_plain t x ≡ true
plain_below Out u x b e = plain_out u x e
plain_below Asking Asking x b e = e
plain_below Asking Free x b e = go x e
  where
    go : (x : Frame) → is_plain Free x ≡ true → is_plain Asking x ≡ true
    go (Info ns nr d) e = refl
    go (Ready nr) e = refl
    go Dm e = refl
    go Frmr e = refl
    go x e = absurd (both_ways false refl e)
plain_below (Up k) (Up j) x b e = plain_up j k x e
plain_below (Up k) Free x b e = go x e
  where
    go : (x : Frame) → is_plain Free x ≡ true → is_plain (Up k) x ≡ true
    go (Info ns nr d) e = refl
    go (Ready nr) e = refl
    go Dm e = refl
    go Frmr e = refl
    go x e = absurd (both_ways false refl e)
plain_below Free Free x b e = e
plain_below _ _ x b e = absurd b

-- what may be sent with a frame in front that it makes the best of at once may be sent behind it
Commutes : Stand → Frame → List Frame → Frame → Stand → Type 0
Commutes u y way x r = (sends (onward u y) way x ≡ Some (onward r y)) × (is_plain r y ≡ true)

counts_commute : (u : Stand) (y : Frame) (x : Frame) (r : Stand) → is_plain u y ≡ true
    → counts (number_of u x) (least_of u x) u x ≡ Some r
    → (counts (number_of (onward u y) x) (least_of (onward u y) x) (onward u y) x ≡ Some (onward r y)) × (is_plain r y ≡ true)
counts_commute Free y x r p e =
    subst (λ w. (Some Free ≡ Some (onward w y)) × (is_plain w y ≡ true)) (same_Some Free r e) (refl, p)
counts_commute (Up j) y x r p e =
    let parts = cond_some (may_count (number_of (Up j) x) (least_of (Up j) x) j x) (Up (counted_at j x)) r e in
    let i : Numbers = heard true true j y in
    let more = counts_more (number_of (Up j) x) (least_of (Up j) x) (Up j) (Up i) x r (onward_up (Up j) y) e in
    let is = (cond_some (may_count (number_of (Up i) x) (least_of (Up i) x) i x) (Up (counted_at i x)) more.0 more.1).1 in
    subst (λ w. (counts (number_of (Up i) x) (least_of (Up i) x) (Up i) x ≡ Some (onward w y)) × (is_plain w y ≡ true)) parts.1
    (more.1 ∙ ap Some (sym is) ∙ ap (λ k. Some (Up k)) (swaps j x y), plain_up j (counted_at j x) y p)
counts_commute u y x r p e = absurd (none-some r e)

asking_onward : (u : Stand) (y : Frame) → is_asking (onward u y) ≡ is_asking u
asking_onward Out y = refl
asking_onward u y = refl

no_ua_behind : (a b c : Bool) → (a || not (b || c)) ≡ true → (a || not c) ≡ true
no_ua_behind true b c h = refl
no_ua_behind false true c h = absurd (both_ways false refl h)
no_ua_behind false false c h = h

ua_is_asked : (u : Stand) (way : List Frame) (y : Frame) → is_plain u y ≡ true → (is_asking u || not (has_ua (y ∷ way))) ≡ true
    → is_plain Asking y ≡ true
unfolding is_ua'
ua_is_asked Out way Ua p h = absurd (both_ways false refl h)
ua_is_asked (Up k) way Ua p h = absurd (both_ways false refl h)
ua_is_asked Asking way Ua p h = p
ua_is_asked Free way Ua p h = absurd (both_ways false refl p)
ua_is_asked u way y p h = plain_asking u y (λ is. is) p

asks_commute : (u : Stand) (y : Frame) (way : List Frame) (r : Stand) → is_plain u y ≡ true → sends u (y ∷ way) Sabm ≡ Some r
    → Commutes u y way Sabm r
unfolding Commutes
asks_commute u y way r p e =
    let parts = cond_some (is_asking u || not (has_ua (y ∷ way))) Asking r e in
    subst (λ w. (sends (onward u y) way Sabm ≡ Some (onward w y)) × (is_plain w y ≡ true)) parts.1 (
      ap (λ b. if b then Some Asking else None)
          (ap (λ a. a || not (has_ua way)) (asking_onward u y) ∙ no_ua_behind (is_asking u) _ (has_ua way) parts.0),
      ua_is_asked u way y p parts.0,
    )

declines_plain : (u : Stand) (y : Frame) → is_plain u y ≡ true
    → (declines (onward u y) ≡ onward (declines u) y) × (is_plain (declines u) y ≡ true)
declines_plain (Up k) y p = (refl, plain_out (Up k) y p)
declines_plain u y p = (refl, p)

commutes : (u : Stand) (y : Frame) (way : List Frame) (x : Frame) (r : Stand) → is_plain u y ≡ true → sends u (y ∷ way) x ≡ Some r
    → Commutes u y way x r
unfolding Commutes
commutes u y way (Info ns nr d) r p e = counts_commute u y (Info ns nr d) r p e
commutes u y way (Ready nr) r p e = counts_commute u y (Ready nr) r p e
commutes u y way Unread r p e = counts_commute u y Unread r p e
commutes u y way Sabm r p e = asks_commute u y way r p e
commutes u y way Disc r p e =
    subst (λ w. (Some Out ≡ Some (onward w y)) × (is_plain w y ≡ true)) (same_Some Out r e) (refl, plain_out u y p)
commutes u y way Frmr r p e =
    subst (λ w. (Some Out ≡ Some (onward w y)) × (is_plain w y ≡ true)) (same_Some Out r e) (refl, plain_out u y p)
commutes u y way Dm r p e =
    let g = declines_plain u y p in
    subst (λ w. (Some (declines (onward u y)) ≡ Some (onward w y)) × (is_plain w y ≡ true)) (same_Some (declines u) r e)
    (ap Some g.0, g.1)
commutes u y way x r p e = absurd (none-some r e)

pub record SendsBehind (x : Frame) (r : Stand) (way : List Frame) (c : Stand) (end : List Frame) : Type 0 where
  pub then_ : Stand
  pub sent : sends c end x ≡ Some then_
  pub leads : Leads r way then_ end

pub leads_sends : (u : Stand) (way : List Frame) (c : Stand) (end : List Frame) (x : Frame) (r : Stand) → Leads u way c end
    → sends u way x ≡ Some r → SendsBehind x r way c end
unfolding Commutes
leads_sends _ _ _ _ x r (Stays u way) e = record { then_ = r; sent = e; leads = Stays r way }
leads_sends _ _ c end x r (Steps u y way _ _ p l) e =
    let g = commutes u y way x r p e in
    let rest = leads_sends (onward u y) way c end x (onward r y) l g.0 in
    record { then_ = rest.then_; sent = rest.sent; leads = Steps r y way rest.then_ end g.1 rest.leads }

-- ---- what is made the best of at once

settle_step : (u : Stand) (x : Frame) (v front : List Frame) (c : Stand) (end : List Frame) (g s : Stand) (way : List Frame)
    → front ≡ x ∷ v → is_plain u x ≡ true → Below s g → Leads g way c end → Covers u front (At c) end → Holds (onward u x) v s way
settle_step _ x v _ _ _ g s way e p b l (Here c u front below) =
    let more = plain_below c u x below p in record {
      good = g;
      below = b;
      stand = onward c x;
      end = v;
      leads = leads_on g way c (x ∷ v) (onward c x) v (subst (λ w. Leads g way c w) e l)
          (Steps c x v (onward c x) v more (Stays (onward c x) v));
      covers = Here (onward c x) (onward u x) v (onward_both c u x below);
    }
settle_step _ x v _ _ end g s way e p b l (Later u y rest (At c) _ k) = record {
  good = g;
  below = b;
  stand = c;
  end = end;
  leads = l;
  covers = subst (λ z. Covers (onward u z) v (At c) end) (ap (front_of y) e)
      (subst (λ w. Covers (onward u y) w (At c) end) (ap tail_of e) k);
}
settle_step _ x v _ _ end g s way e p b l (Begins y rest (At c) _ a k) =
    absurd (plain_not_answer x p (subst (λ z. may_answer z ≡ true) (ap (front_of y) e) a))

settle_owes : (u : Stand) (x : Frame) (v front : List Frame) (r : Stand) (way : List Frame) → front ≡ x ∷ v → is_plain u x ≡ true
    → Covers u front (Owes r) way → Covers (onward u x) v (Owes r) way
settle_owes _ x v _ r way e p (Asked s u q y rest b is) =
    absurd (plain_not_owed u s r x p (subst (λ z. IsIn r (owed s z)) (ap (front_of y) e) is))
settle_owes _ x v _ r way e p (Later u y rest _ _ k) =
    subst (λ z. Covers (onward u z) v (Owes r) way) (ap (front_of y) e)
    (subst (λ w. Covers (onward u y) w (Owes r) way) (ap tail_of e) k)
settle_owes _ x v _ r way e p (Begins y rest _ _ a k) =
    absurd (plain_not_answer x p (subst (λ z. may_answer z ≡ true) (ap (front_of y) e) a))

holds_step : (u : Stand) (x : Frame) (v : List Frame) (s : State) (way : List Frame) → is_plain u x ≡ true → HoldsAt u (x ∷ v) s way
    → HoldsAt (onward u x) v s way
holds_step u x v (At s) way p h = settle_step u x v (x ∷ v) h.stand h.end h.good s way refl p h.below h.leads h.covers
holds_step u x v (Owes r) way p h = settle_owes u x v (x ∷ v) r way refl p h

pub holds_settled : (v : List Frame) (u : Stand) (s : State) (way : List Frame) → HoldsAt u v s way
    → HoldsAt (settled u v).state (settled u v).way s way
holds_settled [] u s way h = h
holds_settled (x ∷ v) u s way h = go (is_plain u x) refl (holds_settled v (onward u x) s way)
  where
    go : (b : Bool) → is_plain u x ≡ b
        → (HoldsAt (onward u x) v s way → HoldsAt (settled (onward u x) v).state (settled (onward u x) v).way s way)
        → HoldsAt (if b then settled (onward u x) v else at u (x ∷ v)).state (if b then settled (onward u x) v else at u (x ∷ v)).way s way
    go true e rest = rest (holds_step u x v s way e h)
    go false e rest = h

-- ---- what is longer on the way than it can be to the end

module _ (v : List Frame) (s : State) (end : List Frame) where
  presses : (u : Stand) (x : Frame) → Covers (onward u x) v s end → Covers (pressed u x) v s end
  presses Asking x k =
      cond_both (may_answer x) Free Asking (λ w. Covers w v s end) (λ _. covers_more Asking Free v s end k tt) (λ _. k)
  presses u x k = k

  presses_begun : (x : Frame) → may_answer x ≡ true → Covers fresh v s end → Covers (pressed Asking x) v s end
  presses_begun x a k = subst (λ b. Covers (if b then Free else Asking) v s end) (sym a) (covers_more fresh Free v s end k tt)

  freed : (u : Stand) → Covers u v s end → Covers (if is_lost u then Free else u) v s end
  freed u k = cond_both (is_lost u) Free u (λ w. Covers w v s end) (λ _. covers_more u Free v s end k (below_free u)) (λ _. k)

not_shorter : (x : Frame) (v front : List Frame) → front ≡ x ∷ v → length front < length v → ⊥
not_shorter x v front e few = absurd (no (length v) (subst (λ (w : List Frame). length w < length v) e few))
  where
    no : (n : ℕ) → suc n < n → ⊥
    no n h = omega (arith, h)

pressed_on : (u : Stand) (front : List Frame) (s : State) (end : List Frame) (x : Frame) (v : List Frame) → front ≡ x ∷ v
    → length end < length v → Covers u front s end → Covers (pressed u x) v s end
pressed_on _ _ _ _ x v e few (Here s u front b) = absurd (not_shorter x v front e few)
pressed_on _ _ _ _ x v e few (Asked s u r y way b is) = absurd (same (length v) (subst (λ (w : List Frame). length w < length v) (ap tail_of e) few))
  where
    same : (n : ℕ) → n < n → ⊥
    same n h = omega (arith, h)
pressed_on _ _ _ end x v e few (Later u y way s _ k) =
    presses v s end u x
    (subst (λ z. Covers (onward u z) v s end) (ap (front_of y) e) (subst (λ w. Covers (onward u y) w s end) (ap tail_of e) k))
pressed_on _ _ _ end x v e few (Begins y way s _ a k) =
    presses_begun v s end x (subst (λ z. may_answer z ≡ true) (ap (front_of y) e) a)
    (subst (λ w. Covers fresh w s end) (ap tail_of e) k)

pub rushed_free : (front : List Frame) → rushed front Free ≡ Free
rushed_free [] = refl
rushed_free (x ∷ front) = refl

leads_short : (u : Stand) (way : List Frame) (t : Stand) (end : List Frame) → Leads u way t end → length end ≤ length way
leads_short _ _ _ _ (Stays u way) = omega arith
leads_short _ _ t end (Steps u x way _ _ e h) = let less = leads_short (onward u x) way t end h in omega (arith, less)

module _ (rest : List Frame) where
  longer : (front : List Frame) (n : ℕ) → n < length rest → n < length (front ++ rest)
  longer [] n few = few
  longer (x ∷ front) n few = let more = longer front n few in omega (arith, more)

  rushed_covers : (front : List Frame) (u : Stand) (s : State) (end : List Frame) → length end < length rest
      → Covers u (front ++ rest) s end → Covers (rushed front u) rest s end
  rushed_covers [] u s end few k = freed rest s end u k
  rushed_covers (x ∷ front) u s end few k =
      cond_both (is_lost u) Free (rushed front (pressed u x)) (λ w. Covers w rest s end)
      (λ _. subst (λ w. Covers w rest s end) (rushed_free front)
      (rushed_covers front Free s end few
      (pressed_on Free (x ∷ front ++ rest) s end x (front ++ rest) refl (longer front (length end) few)
      (covers_more u Free (x ∷ front ++ rest) s end k (below_free u)))))
      (λ _. rushed_covers front (pressed u x) s end few
      (pressed_on u (x ∷ front ++ rest) s end x (front ++ rest) refl (longer front (length end) few) k))

  pub holds_rushed : (front : List Frame) (u : Stand) (s : State) (end : List Frame) → length end < length rest
      → HoldsAt u (front ++ rest) s end → HoldsAt (rushed front u) rest s end
  holds_rushed front u (At s) end few h =
      let short = leads_short h.good end h.stand h.end h.leads in record {
        good = h.good;
        below = h.below;
        stand = h.stand;
        end = h.end;
        leads = h.leads;
        covers = rushed_covers front u (At h.stand) h.end (omega (arith, short, few)) h.covers;
      }
  holds_rushed front u (Owes r) end few h = rushed_covers front u (Owes r) end few h

  pub holds_freed : (u : Stand) (s : State) (end : List Frame) → HoldsAt u rest s end → HoldsAt (if is_lost u then Free else u) rest s end
  holds_freed u (At s) end h = record {
    good = h.good;
    below = h.below;
    stand = h.stand;
    end = h.end;
    leads = h.leads;
    covers = freed rest (At h.stand) h.end u h.covers;
  }
  holds_freed u (Owes r) end h = freed rest (Owes r) end u h
