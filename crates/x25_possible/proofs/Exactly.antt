-- The judge of any rules tells exactly.
use Rattle.x25_possible.proofs.Names.{◌≡◌, inl, inr, List, [], ◌∷◌, ◌++◌, flat_map, refl, sym, subst, ◌∙◌, Option, Some, None, Item, Own, Other, Stands, Place}
use Rattle.x25_possible.proofs.{Lists.{in_all, from_all, none_in}, Names.{at, settled, grown, after_own, after_other, possible, IsIn}}
use Rattle.x25_possible.specs.laws.Possible.{Rules, Begins, Sends, Shows, Takes, Choices, settled_by, AreFavourites, TellsExactly, rules_of, patient}

-- From a state, with such a way, it comes to this place by what it takes at once.
pub data Leads {S I : Type 0} (c : Choices S I) : S → List I → Place S I → Type 0 where
  Stays : (s : S) (way : List I) → Leads c s way (at s way)
  Steps : (s u : S) (x : I) (way : List I) (q : Place S I) → c.at_once s x ≡ Some u → Leads c u way q → Leads c s (x ∷ way) q

module _ {S I : Type 0} (c : Choices S I) where
  leads_on : (s : S) (way : List I) (p q : Place S I) → Leads c s way p → Leads c p.state p.way q → Leads c s way q
  leads_on _ _ p q (Stays s way) h = h
  leads_on _ _ _ q (Steps s u x rest p e g) h = Steps s u x rest q e (leads_on u rest p q g h)

  leads_behind : (s : S) (way : List I) (q : Place S I) (x : I) → Leads c s way q → Leads c s (way ++ x ∷ []) (at q.state (q.way ++ x ∷ []))
  leads_behind _ _ _ x (Stays s way) = Stays s (way ++ x ∷ [])
  leads_behind _ _ _ x (Steps s u y rest q e g) = Steps s u y (rest ++ x ∷ []) (at q.state (q.way ++ x ∷ [])) e (leads_behind u rest q x g)

  -- a place of the settled ones
  pub leads_in : (way : List I) (s : S) → (q : Place S I) × IsIn q (settled c way s) × Leads c s way q
  leads_in [] s = (at s [], inl refl, Stays s [])
  leads_in (x ∷ way) s = go (c.at_once s x) refl (leads_in way)
    where
      go : (p : Option S) → c.at_once s x ≡ p → ((u : S) → (q : Place S I) × IsIn q (settled c way u) × Leads c u way q)
          → (q : Place S I) × IsIn q (settled_by p s (x ∷ way) (settled c way) (c.takes s x)) × Leads c s (x ∷ way) q
      go (Some u) e rest = let h = rest u in (h.0, h.1, Steps s u x way h.0 e h.2)
      go None e rest = (at s (x ∷ way), inl refl, Stays s (x ∷ way))

  -- what it may take there leads to one of these places
  abbrev Follows : List (Place S I) → S → List I → Type 0
  Follows js s [] = Unit {0}
  Follows js s (x ∷ way) = (u : S) → IsIn u (c.takes s x) → (q : Place S I) × IsIn q js × Leads c u way q

  abbrev AreClosed : List (Place S I) → Type 0
  AreClosed js = (q : Place S I) → IsIn q js → Follows js q.state q.way

  follows_in_more : (js ks : List (Place S I)) (s : S) (way : List I) → ((q : Place S I) → IsIn q js → IsIn q ks)
      → Follows js s way → Follows ks s way
  follows_in_more js ks s [] more h = tt
  follows_in_more js ks s (x ∷ way) more h = λ u is. let g = h u is in (g.0, more g.0 g.1, g.2)

  follows_at : (js : List (Place S I)) (p q : Place S I) → q ≡ p → Follows js p.state p.way → Follows js q.state q.way
  follows_at js p q e h = subst (λ r. Follows js r.state r.way) (sym e) h

  all_closed : {X : Type 0} (f : X → List (Place S I)) (xs : List X) → ((x : X) → IsIn x xs → AreClosed (f x)) → AreClosed (flat_map f xs)
  all_closed f xs each q is =
      let found = from_all f xs q is in
      follows_in_more (f found.0) (flat_map f xs) q.state q.way (λ p g. in_all f xs found.0 p found.1 g)
      (each found.0 found.1 q found.2)

  settled_closed : (way : List I) (s : S) → AreClosed (settled c way s)
  settled_closed [] s q (inl e) = follows_at (at s [] ∷ []) (at s []) q e tt
  settled_closed [] s q (inr h) = absurd h
  settled_closed (x ∷ way) s q is = go (c.at_once s x) (settled_closed way) is
    where
      rest : List (Place S I)
      rest = flat_map (settled c way) (c.takes s x)

      front : Follows (at s (x ∷ way) ∷ rest) s (x ∷ way)
      front u is = let h = leads_in way u in (h.0, inr (in_all (settled c way) (c.takes s x) u h.0 is h.1), h.2)

      go : (p : Option S) → ((u : S) → AreClosed (settled c way u)) → IsIn q (settled_by p s (x ∷ way) (settled c way) (c.takes s x))
          → Follows (settled_by p s (x ∷ way) (settled c way) (c.takes s x)) q.state q.way
      go (Some u) closed h = closed u q h
      go None closed (inl e) = follows_at (at s (x ∷ way) ∷ rest) (at s (x ∷ way)) q e front
      go None closed (inr h) =
          follows_in_more rest (at s (x ∷ way) ∷ rest) q.state q.way (λ p g. inr g)
          (all_closed (settled c way) (c.takes s x) (λ u g. closed u) q h)

  -- the other end's item is at the end of each way
  grown_in : (x : I) (s : S) (way : List I) → (q : Place S I) × IsIn q (grown c x s way) × Leads c s (way ++ x ∷ []) q
  grown_in x s [] = leads_in (x ∷ []) s
  grown_in x s (y ∷ way) = (at s (y ∷ way ++ x ∷ []), inl refl, Stays s (y ∷ way ++ x ∷ []))

  grown_from : (js : List (Place S I)) (x : I) (s : S) (way : List I) (p : Place S I) → IsIn p js → Leads c s way p
      → (q : Place S I) × IsIn q (flat_map (after_other c x) js) × Leads c s (way ++ x ∷ []) q
  grown_from js x s way p is h =
      let last = grown_in x p.state p.way in (
        last.0,
        in_all (after_other c x) js p last.0 is last.1,
        leads_on s (way ++ x ∷ []) (at p.state (p.way ++ x ∷ [])) last.0 (leads_behind s way p x h) last.2,
      )

  grown_follows : (js : List (Place S I)) (x : I) (s : S) (way : List I) (q : Place S I) → IsIn q (grown c x s way)
      → ((p : Place S I) → IsIn p (grown c x s way) → IsIn p (flat_map (after_other c x) js)) → Follows js s way
      → Follows (flat_map (after_other c x) js) q.state q.way
  grown_follows js x s [] q is more h =
      follows_in_more (settled c (x ∷ []) s) (flat_map (after_other c x) js) q.state q.way more (settled_closed (x ∷ []) s q is)
  grown_follows js x s (y ∷ way) q (inl e) more h =
      follows_at (flat_map (after_other c x) js) (at s (y ∷ way ++ x ∷ [])) q e
      (λ u is. let p = h u is in grown_from js x u way p.0 p.1 p.2)
  grown_follows js x s (y ∷ way) q (inr g) more h = absurd g

  grown_closed : (js : List (Place S I)) (x : I) → AreClosed js → AreClosed (flat_map (after_other c x) js)
  grown_closed js x closed q is =
      let p = from_all (after_other c x) js q is in
      grown_follows js x p.0.state p.0.way q p.2 (λ r g. in_all (after_other c x) js p.0 r p.1 g) (closed p.0 p.1)

  possible_closed : (begun : List S) (tape : List (Item I)) → AreClosed (possible c begun tape)
  possible_closed begun [] = all_closed (settled c []) begun (λ s g. settled_closed [] s)
  possible_closed begun (Own x ∷ tape) =
      all_closed (after_own c x) (possible c begun tape) (λ q g. all_closed (settled c q.way) (c.sends q.state q.way x) (λ r k. settled_closed q.way r))
  possible_closed begun (Other x ∷ tape) = grown_closed (possible c begun tape) x (possible_closed begun tape)

module _ {S I : Type 0} (R : Rules S I) (c : Choices S I) (begun : List S) (AsGood : S → S → Type 0)
    (laws : AreFavourites R c begun AsGood) where
  -- ---- each place is one that a run comes to

  settled_stands : (tape : List (Item I)) (way : List I) (s : S) (q : Place S I) → Stands R tape s way → IsIn q (settled c way s)
      → Stands R tape q.state q.way
  settled_stands tape [] s q h (inl e) = subst (λ p. Stands R tape p.state p.way) (sym e) h
  settled_stands tape [] s q h (inr g) = absurd g
  settled_stands tape (x ∷ way) s q h is = go (c.at_once s x) refl (settled_stands tape way) is
    where
      go : (p : Option S) → c.at_once s x ≡ p
          → ((u : S) (r : Place S I) → Stands R tape u way → IsIn r (settled c way u) → Stands R tape r.state r.way)
          → IsIn q (settled_by p s (x ∷ way) (settled c way) (c.takes s x)) → Stands R tape q.state q.way
      go (Some u) e rest g = rest u q (Takes tape s u way x (laws.may_take_at_once s x u e) h) g
      go None e rest (inl g) = subst (λ p. Stands R tape p.state p.way) (sym g) h
      go None e rest (inr g) =
          let found = from_all (settled c way) (c.takes s x) q g in
          rest found.0 q (Takes tape s found.0 way x (laws.may_take s x found.0 found.1) h) found.2

  grown_stands : (tape : List (Item I)) (x : I) (s : S) (way : List I) (q : Place S I) → Stands R (Other x ∷ tape) s (way ++ x ∷ [])
      → IsIn q (grown c x s way) → Stands R (Other x ∷ tape) q.state q.way
  grown_stands tape x s [] q h is = settled_stands (Other x ∷ tape) (x ∷ []) s q h is
  grown_stands tape x s (y ∷ way) q h (inl e) = subst (λ p. Stands R (Other x ∷ tape) p.state p.way) (sym e) h
  grown_stands tape x s (y ∷ way) q h (inr g) = absurd g

  stands : (tape : List (Item I)) (q : Place S I) → IsIn q (possible c begun tape) → Stands R tape q.state q.way
  stands [] q is =
      let found = from_all (settled c []) begun q is in
      settled_stands [] [] found.0 q (Begins found.0 (laws.may_begin found.0 found.1)) found.2
  stands (Own x ∷ tape) q is =
      let p = from_all (after_own c x) (possible c begun tape) q is in
      let r = from_all (settled c p.0.way) (c.sends p.0.state p.0.way x) q p.2 in
      settled_stands (Own x ∷ tape) p.0.way r.0 q
      (Sends tape p.0.state r.0 p.0.way x (laws.may_send p.0.state p.0.way x r.0 r.1) (stands tape p.0 p.1)) r.2
  stands (Other x ∷ tape) q is =
      let p = from_all (after_other c x) (possible c begun tape) q is in
      grown_stands tape x p.0.state p.0.way q (Shows tape p.0.state p.0.way x (stands tape p.0 p.1)) p.2

  -- ---- each run is at a place that is as good as one of these

  pub record IsCovered (tape : List (Item I)) (s : S) (way : List I) : Type 0 where
    pub as_good : S
    pub good : AsGood s as_good
    pub place : Place S I
    pub is_in : IsIn place (possible c begun tape)
    pub leads : Leads c as_good way place

  pub leads_sends : (s : S) (way : List I) (q : Place S I) (x : I) (r : S) → Leads c s way q → IsIn r (c.sends s way x)
      → (v : S) × IsIn v (c.sends q.state q.way x) × Leads c r way (at v q.way)
  leads_sends _ _ _ x r (Stays s way) is = (r, is, Stays r way)
  leads_sends _ _ _ x r (Steps s u y way q e h) is =
      let step = laws.commutes s y u way x r e is in
      let rest = leads_sends u way q x step.0 h step.2 in
      (rest.0, rest.1, Steps r step.0 y way (at rest.0 q.way) step.1 rest.2)

  covered_takes : (tape : List (Item I)) (s r : S) (way : List I) (x : I) (u : S) (q : Place S I) → R.Takes s x r → AsGood s u
      → IsIn q (possible c begun tape) → Leads c u (x ∷ way) q → IsCovered tape r way
  covered_takes tape s r way x u _ may good is (Stays _ _) =
      let v = laws.takes s u x r good may in
      let next = possible_closed c begun tape (at u (x ∷ way)) is v.0 v.2 in
      record { as_good = v.0; good = v.1; place = next.0; is_in = next.1; leads = next.2 }
  covered_takes tape s r way x _ _ may good is (Steps u w _ _ q e h) =
      let v = laws.takes s u x r good may in
      record { as_good = w; good = laws.transitive r v.0 w v.1 (laws.best u x w v.0 e v.2); place = q; is_in = is; leads = h }

  pub covered : (tape : List (Item I)) (s : S) (way : List I) → Stands R tape s way → IsCovered tape s way
  covered _ _ _ (Begins s b) =
      let u = laws.begins s b in
      record {
        as_good = u.0;
        good = u.1;
        place = at u.0 [];
        is_in = in_all (settled c []) begun u.0 (at u.0 []) u.2 (inl refl);
        leads = Stays u.0 [];
      }
  covered _ _ _ (Sends tape s r way x may h) =
      let before = covered tape s way h in
      let v = laws.sends s before.as_good way x r before.good may in
      let w = leads_sends before.as_good way before.place x v.0 before.leads v.2 in
      let last = leads_in c before.place.way w.0 in
      record {
        as_good = v.0;
        good = v.1;
        place = last.0;
        is_in = in_all (after_own c x) (possible c begun tape) before.place last.0 before.is_in
            (in_all (settled c before.place.way) (c.sends before.place.state before.place.way x) w.0 last.0 w.1 last.1);
        leads = leads_on c v.0 way (at w.0 before.place.way) last.0 w.2 last.2;
      }
  covered _ _ _ (Shows tape s way x h) =
      let before = covered tape s way h in
      let last = grown_from c (possible c begun tape) x before.as_good way before.place before.is_in before.leads in
      record { as_good = before.as_good; good = before.good; place = last.0; is_in = last.1; leads = last.2 }
  covered _ _ _ (Takes tape s r way x may h) =
      let before = covered tape s (x ∷ way) h in
      covered_takes tape s r way x before.as_good before.place may before.good before.is_in before.leads

  pub tells_exactly : TellsExactly R c begun
  tells_exactly = record {
    told = λ tape e s way h. let g = covered tape s way h in subst (λ js. IsIn g.place js) e g.is_in;
    untold = λ tape none. none_in (possible c begun tape) (λ q is. none q.state q.way (stands tape q is));
    stands = stands;
  }

abbrev IsNone' : {X : Type 0} → Option X → Type 0
IsNone' None = Unit {0}
IsNone' (Some x) = ⊥

none_is_some : {X : Type 0} {x : X} → None ≡ Some x → ⊥
none_is_some e = subst IsNone' e tt

-- ---- any finite choices, with nothing taken at once

finite_laws : {S I : Type 0} (c : Choices S I) (begun : List S) → AreFavourites (rules_of c begun) (patient c) begun (λ s u. s ≡ u)
finite_laws c begun = record {
  may_begin = λ s is. is;
  may_send = λ s way x r is. is;
  may_take = λ s x r is. is;
  may_take_at_once = λ s x r e. absurd (none_is_some e);
  begins = λ s is. (s, refl, is);
  sends = λ s u way x r e is. (r, refl, subst (λ t. IsIn r (c.sends t way x)) e is);
  takes = λ s u x r e is. (r, refl, subst (λ t. IsIn r (c.takes t x)) e is);
  transitive = λ s u v e f. e ∙ f;
  best = λ s x u v e is. absurd (none_is_some e);
  commutes = λ s x u way y r e is. absurd (none_is_some e);
}

pub finite_tells_exactly : {S I : Type 0} (c : Choices S I) (begun : List S) → TellsExactly (rules_of c begun) (patient c) begun
finite_tells_exactly c begun = tells_exactly (rules_of c begun) (patient c) begun (λ s u. s ≡ u) (finite_laws c begun)
