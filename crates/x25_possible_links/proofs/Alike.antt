-- Places of an end that are all of a kind, as either end sends.
use Rattle.x25_possible_links.proofs.Names.{◌≡◌, ◌⊎◌, inl, inr, ℕ, ◌≤◌, ◌==◌, Bool, true, false, List, [], ◌∷◌, ◌++◌, drop, length, flat_map, not, Some, None}
use Rattle.x25_possible_links.proofs.Names.{Option, refl, sym, ap, map, ◌∙◌, subst, if◌then◌else◌, and_parts, both_ways, cond_both, eqb-true, IsIn, Place, at}
use Rattle.x25_possible_links.proofs.Names.{are_known, hurried, is_lost, pressed, rushed, grow_all, least, sends_to, sent_to, shifted, shown_to, shows_to}
use Rattle.x25_possible_links.proofs.Names.{walk_all, fresh, may_answer, onward, settle, upward, Frame, Ua, Right, LinkSet, Spot, Stand, Asking, Free}
use Rattle.std.proofs.{Common.{take}, lemmas.Bool.{not-true}}
use Rattle.x25_possible_links.proofs.Covering.{behind_other, behind_own, hasten, extended_blind, least_is, lost_blind, moved_is, other_adds, own_adds, shows_by}
use Rattle.x25_possible_links.proofs.{Leads.{rushed_free}, Lists.{from_all, from_map}}
use Rattle.x25_possible_links.{proofs.StepLemmas.{placed}, specs.code.Steps.{unexplained, unexplained_as}, specs.declared.link.Mode.TheVariants.{Skipping}}
use Rattle.x25_possible_links.specs.code.Steps.{extended, hastened, is_free, came, latest, set_as, broken, skipped_by, standing, Stepped, telling, trimmed}
use Rattle.x25_possible_links.specs.declared.set.{Told.{Told}, Told.TheVariants.{Broken, Nothing, Skips}}
use Rattle.x25_possible_links.specs.laws.Places as place

-- ---- what no place allows is told

IsTold : Told → Type 0
IsTold Nothing = ⊥
IsTold t = Unit {0}

is_something : (t : Told) → IsTold t → t ≡ Nothing → ⊥
unfolding IsTold
is_something t is e = subst IsTold e is

skipped_told : (stand : Stand) (x : Frame) (set : LinkSet) (o : Option (List Spot)) → IsTold (skipped_by o stand x set).told
unfolding IsTold
skipped_told stand x set None = tt
skipped_told stand x set (Some qs) = go (length qs == 0)
  where
    go : (b : Bool)
        → IsTold (if b then telling (Broken stand) (broken x set) else telling (Skips stand) (standing qs set)).told
    go true = tt
    go false = tt

told_as : (stand : Stand) (x : Frame) (set : LinkSet) → IsTold (unexplained_as stand x set).told
unfolding IsTold
told_as stand Ua set = tt
told_as stand x set = skipped_told stand x set (walk_all Skipping x set.way.items set.spots.items [])

unexplained_told : (x : Frame) (set : LinkSet) → (unexplained x set).told ≡ Nothing → ⊥
unexplained_told x set = is_something (unexplained x set).told (told_as (latest set.spots.items set.way.items) x set)

-- ---- all of a kind

abbrev pub AllAre : (Place Stand Frame → Type 0) → LinkSet → Type 0
AllAre P set = (q : Spot) → IsIn q set.spots.items → P (placed set.way.items q)

module _ (P : Place Stand Frame → Type 0) where
  shifted_all : (way : List Frame) (qs : List Spot) (n : ℕ) → ((q : Spot) → IsIn q qs → n ≤ q.at)
      → ((q : Spot) → IsIn q qs → P (placed way q)) → (q : Spot) → IsIn q (map (shifted n) qs) → P (placed (drop n way) q)
  shifted_all way qs n far all q is =
      let g = from_map (shifted n) qs q is in
      subst P (sym (ap (placed (drop n way)) g.2 ∙ moved_is n way g.0 (far g.0 g.1))) (all g.0 g.1)

  trim_all : (set : LinkSet) (way : List Frame) (qs : List Spot) → ((q : Spot) → IsIn q qs → P (placed way q))
      → AllAre P (trimmed (set_as set way qs))
  trim_all set way qs all = go (least qs (length way) == 0)
    where
      n : ℕ
      n = least qs (length way)

      go : (b : Bool) → AllAre P (if b then set_as set way qs else set_as set (drop n way) (map (shifted n) qs))
      go true = all
      go false = shifted_all way qs n (λ q is. least_is qs (length way) q is) all

-- ---- where the older half counts as come

pressed_is : (u : Stand) (x : Frame) → (pressed u x ≡ Free) ⊎ ((onward u x ≡ pressed u x) × (upward u x ≡ onward u x))
pressed_is Asking x = go (may_answer x)
  where
    go : (b : Bool) → ((if b then Free else Asking) ≡ Free) ⊎ ((Asking ≡ (if b then Free else Asking)) × ((if b then fresh else Asking) ≡ Asking))
    go true = inl refl
    go false = inr (refl, refl)
pressed_is u x = inr (refl, refl)

each_known : (qs : List Spot) (q : Spot) → are_known qs ≡ true → IsIn q qs → is_free q.stand ≡ false
each_known [] q e is = absurd is
each_known (p ∷ qs) q e (inl same) =
    subst (λ (r : Spot). is_free r.stand ≡ false) (sym same) (not-true (is_free p.stand) (and_parts (not (is_free p.stand)) (are_known qs) e).0)
each_known (p ∷ qs) q e (inr is) = each_known qs q (and_parts (not (is_free p.stand)) (are_known qs) e).1 is

-- it makes what it may of each frame, but for UA that it awaits
abbrev pub IsPassed : (Place Stand Frame → Type 0) → Type 0
IsPassed P = (u : Stand) (x : Frame) (v : List Frame) → upward u x ≡ onward u x → P (at u (x ∷ v)) → P (at (onward u x) v)

module _ (P : Place Stand Frame → Type 0) (passes : IsPassed P) where
  abbrev Known : Stand → List Frame → Type 0
  Known u v = is_free u ≡ false → P (at u v)

  small_on : (b : Bool) (u w : Stand) (v : List Frame) → (is_free w ≡ false → P (at w v)) → Known (if b then Free else w) v
  small_on true u w v h e = absurd (both_ways true e refl)
  small_on false u w v h e = h e

  rushed_on : (rest front : List Frame) (u : Stand) → P (at u (front ++ rest)) → Known (rushed front u) rest
  rushed_on rest [] u h = small_on (is_lost u) u u rest (λ e. h)
  rushed_on rest (x ∷ front) u h =
      small_on (is_lost u) u (rushed front (pressed u x)) rest (λ e. elim (pressed_is u x) [
        | inl free ↦ absurd (both_ways (is_free (rushed front (pressed u x))) e (ap (λ w. is_free (rushed front w)) free ∙ ap is_free (rushed_free front)))
        | inr same ↦ rushed_on rest front (pressed u x)
            (subst (λ w. P (at w (front ++ rest))) same.0 (passes u x (front ++ rest) same.1 h)) e
      ])

  hastened_all : (set : LinkSet) → length set.way.items ≡ 128 → (hastened set).is_blind ≡ false → AllAre P set → AllAre P (hastened set)
  hastened_all set full sees are q is =
      let g = from_map (hurried 64 (take 64 set.way.items)) set.spots.items q is in
      let known = each_known (hastened set).spots.items q all_known is in
      subst (λ (r : Spot). P (placed (drop 64 set.way.items) r)) (sym g.2)
      (hasten (λ u v. P (at u v)) Known set.way.items g.0 full (λ front h. rushed_on (drop 64 set.way.items) front g.0.stand h)
      (λ rest h. rushed_on rest [] g.0.stand h) (are g.0 g.1) (subst (λ (r : Spot). is_free r.stand ≡ false) g.2 known))
    where
      all_known : are_known (hastened set).spots.items ≡ true
      all_known = go (are_known (hastened set).spots.items) sees
        where
          go : (b : Bool) → (if b then set.is_blind else true) ≡ false → b ≡ true
          go true e = refl
          go false e = absurd (both_ways true e refl)

module _ (P Q : Place Stand Frame → Type 0) (set : LinkSet) (x : Frame) (are : AllAre P set) where
  -- the other end sends
  module _ (each : (p : Place Stand Frame) → P p → Q (place.shown x p)) where
    grown_all : (qs : List Spot) → grow_all (length set.way.items) (set.way.items ++ x ∷ []) set.spots.items ≡ Some qs
        → (q : Spot) → IsIn q qs → Q (placed (set.way.items ++ x ∷ []) q)
    grown_all qs e q is = from ((other_adds set.way.items set.spots.items qs x e).from q is)
      where
        one : (p : Spot) → IsIn p set.spots.items → IsIn (placed (set.way.items ++ x ∷ []) q) (behind_other x set.way.items p)
            → Q (placed (set.way.items ++ x ∷ []) q)
        one p there (inl same) = subst Q (sym same) (each (placed set.way.items p) (are p there))
        one p there (inr h) = absurd h

        from : IsIn q [] ⊎ IsIn (placed (set.way.items ++ x ∷ []) q) (flat_map (behind_other x set.way.items) set.spots.items)
            → Q (placed (set.way.items ++ x ∷ []) q)
        from (inl h) = absurd h
        from (inr h) =
            let g = from_all (behind_other x set.way.items) set.spots.items (placed (set.way.items ++ x ∷ []) q) h in one g.0 g.1 g.2

    shown_by : (o : Option (List Spot)) → grow_all (length set.way.items) (set.way.items ++ x ∷ []) set.spots.items ≡ o
        → (shown_to set (set.way.items ++ x ∷ []) o).is_blind ≡ false → AllAre Q (shown_to set (set.way.items ++ x ∷ []) o)
    shown_by None e some = absurd (both_ways _ some (lost_blind (set_as set (set.way.items ++ x ∷ []) set.spots.items) (came set)))
    shown_by (Some qs) e some = trim_all Q set (set.way.items ++ x ∷ []) qs (grown_all qs e)

    extended_all : (extended x set).is_blind ≡ false → AllAre Q (extended x set)
    extended_all some = shown_by (grow_all (length set.way.items) (set.way.items ++ x ∷ []) set.spots.items) refl some

  -- the end sends: there is a place from which it may
  pub record HaveGone (now : LinkSet) : Type 0 where
    pub all : AllAre Q now
    pub from : Place Stand Frame
    pub was : P from
    pub to : Place Stand Frame
    pub goes : IsIn to (place.walks x from)

  module _ (each : (p m : Place Stand Frame) → P p → IsIn m (place.walks x p) → Q (settle m)) where
    module _ (qs : List Spot) (e : walk_all Right x set.way.items set.spots.items [] ≡ Some qs) where
      record GoesTo (q : Spot) : Type 0 where
        pub from : Spot
        pub there : IsIn from set.spots.items
        pub to : Place Stand Frame
        pub goes : IsIn to (place.walks x (placed set.way.items from))
        pub same : placed set.way.items q ≡ settle to

      gone_to : (q : Spot) → IsIn q qs → GoesTo q
      gone_to q is = from ((own_adds set.way.items set.spots.items qs x e).from q is)
        where
          from : IsIn q [] ⊎ IsIn (placed set.way.items q) (flat_map (behind_own x set.way.items) set.spots.items) → GoesTo q
          from (inl h) = absurd h
          from (inr h) =
              let g = from_all (behind_own x set.way.items) set.spots.items (placed set.way.items q) h in
              let m = from_map settle (place.walks x (placed set.way.items g.0)) (placed set.way.items q) g.2 in
              record { from = g.0; there = g.1; to = m.0; goes = m.1; same = m.2 }

      gone_all : (q : Spot) → IsIn q qs → Q (placed set.way.items q)
      gone_all q is =
          let g = gone_to q is in
          subst Q (sym g.same) (each (placed set.way.items g.from) g.to (are g.from g.there) g.goes)

      pick : (rs : List Spot) → (length rs == 0) ≡ false → (q : Spot) × IsIn q rs
      pick [] h = absurd (both_ways true h refl)
      pick (q ∷ rs) h = (q, inl refl)

      have_gone : (length qs == 0) ≡ false → HaveGone (standing qs set)
      have_gone some =
          let first = pick qs some in
          let g = gone_to first.0 first.1 in
          record {
            all = trim_all Q set set.way.items qs gone_all;
            from = placed set.way.items g.from;
            was = are g.from g.there;
            to = g.to;
            goes = g.goes;
          }

    abbrev stepped : Bool → List Spot → Stepped
    stepped b qs = if b then unexplained x set else telling Nothing (standing qs set)

    sent_by : (o : Option (List Spot)) → walk_all Right x set.way.items set.spots.items [] ≡ o
        → (sent_to x o set).set.is_blind ≡ false → (sent_to x o set).told ≡ Nothing → HaveGone (sent_to x o set).set
    sent_by None e some told = absurd (both_ways _ some (lost_blind set (came set)))
    sent_by (Some qs) e some told = go (length qs == 0) refl told
      where
        go : (b : Bool) → (length qs == 0) ≡ b → (stepped b qs).told ≡ Nothing → HaveGone (stepped b qs).set
        go true k t = absurd (unexplained_told x set t)
        go false k t = have_gone qs e k

    pub sent_all : (sends_to x set).set.is_blind ≡ false → (sends_to x set).told ≡ Nothing → HaveGone (sends_to x set).set
    sent_all some told = sent_by (walk_all Right x set.way.items set.spots.items []) refl some told

-- the other end sends
pub shown_all : (P Q : Place Stand Frame → Type 0) (set : LinkSet) (x : Frame) → AllAre P set → IsPassed P
    → ((p : Place Stand Frame) → P p → Q (place.shown x p)) → (shows_to x set).is_blind ≡ false → AllAre Q (shows_to x set)
shown_all P Q set x are passes each some = go (length set.way.items == 128) refl some
  where
    saw : (b c : Bool) → (b ≡ true → c ≡ true) → c ≡ false → b ≡ false
    saw true c on e = absurd (both_ways c e (on refl))
    saw false c on e = refl

    go : (full : Bool) → (length set.way.items == 128) ≡ full → (shows_by full x set).is_blind ≡ false → AllAre Q (shows_by full x set)
    go true e h =
        let sees = saw (hastened set).is_blind (extended x (hastened set)).is_blind (extended_blind (hastened set) x) h in
        extended_all P Q (hastened set) x (hastened_all P passes set (eqb-true (length set.way.items) 128 e) sees are) each h
    go false e h = extended_all P Q set x are each h

-- ---- UA

-- a rule is told of it, or nothing is
pub ua_told : (s : LinkSet) → ((sends_to Ua s).told ≡ Nothing) ⊎ ((stand : Stand) × ((sends_to Ua s).told ≡ Broken stand))
ua_told s = go (walk_all Right Ua s.way.items s.spots.items [])
  where
    go : (o : Option (List Spot)) → ((sent_to Ua o s).told ≡ Nothing) ⊎ ((stand : Stand) × ((sent_to Ua o s).told ≡ Broken stand))
    go None = inl refl
    go (Some qs) =
        cond_both (length qs == 0) (unexplained Ua s) (telling Nothing (standing qs s))
        (λ (t : Stepped). (t.told ≡ Nothing) ⊎ ((stand : Stand) × (t.told ≡ Broken stand)))
        (λ _. inr (latest s.spots.items s.way.items, refl)) (λ _. inl refl)
