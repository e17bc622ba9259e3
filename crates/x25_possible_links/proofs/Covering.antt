-- A set of places has one for each place of a run, step by step.
use Rattle.x25_possible_links.proofs.Names.{Bool, true, false, ◌≡◌, inl, inr, ℕ, ◌+◌, ◌-◌, ◌<◌, ◌≤◌, ◌==◌, nat_le, nat_lt, List, [], ◌∷◌, ◌++◌, map, drop}
use Rattle.x25_possible_links.proofs.Names.{length, refl, sym, ap, subst, ◌∙◌, Option, Some, None, arith, flat_map, if◌then◌else◌, both_ways, cond_both}
use Rattle.x25_possible_links.proofs.Names.{leb-true, eqb-true, none-some, IsIn, Place, at, State, At, MaySend, MayTake, settled, settle, are_known, best}
use Rattle.x25_possible_links.proofs.Names.{grow_all, hurried, least, rushed, sends_to, sent_to, shifted, shown_to, shows_to, spot_at, walk_all, walks, Frame}
use Rattle.std.proofs.{Common.{le_trans, take, drop_of_length-le}, lemmas.Bool.{le-leb, ltb-false}}
use Rattle.std.proofs.lemmas.List.{drop-drop, drop-append-le, length-drop, length-take, take-append-drop}
use Rattle.x25_possible_links.proofs.{Exactly.{sends_held, strays_held}, Leads.{HoldsAt, holds_freed, holds_rushed, holds_shown, holds_takes, holds_settled}}
use Rattle.x25_possible_links.proofs.{Lists.{in_map, in_all}, LoopLemmas.{least_most}, Names.{Ua, Right, LinkSet, Spot, Stand, Free}}
use Rattle.x25_possible_links.proofs.{Stands.{Below, below_free, below_on}, StepLemmas.{Adds, adds_all, adds_each, adds_walks, best_is, holds_from, placed}}
use Rattle.x25_possible_links.specs.code.Steps.{astray, broken, broken_by, came, extended, grown, hastened, hastened_to, latest, lost, set_as, skipped_by}
use Rattle.x25_possible_links.specs.code.Steps.{standing, Stepped, telling, trimmed, unexplained, unexplained_as}
use Rattle.x25_possible_links.specs.declared.{link.Mode.TheVariants.{Skipping, Wrong}, set.Told.TheVariants.{Nothing, Skips, Broken}}
use Rattle.x25_possible_links.specs.laws.Places as place

-- one of these places covers this one
abbrev pub HasIn : List Spot → List Frame → State → List Frame → Type 0
HasIn qs way s end = (q : Spot) × IsIn q qs × HoldsAt q.stand (drop q.at way) s end

abbrev pub Has : LinkSet → State → List Frame → Type 0
Has set s end = HasIn set.spots.items set.way.items s end

-- what comes, and a stand that may do less
pub has_taken : (qs : List Spot) (way : List Frame) (s r : State) (x : Frame) (end : List Frame) → HasIn qs way s (x ∷ end)
    → MayTake s x r → HasIn qs way r end
has_taken qs way s r x end g may = (g.0, g.1, holds_takes g.0.stand (drop g.0.at way) s r x end g.2 may)

pub has_less : (qs : List Spot) (way : List Frame) (s r : Stand) (end : List Frame) → HasIn qs way (At s) end → Below r s
    → HasIn qs way (At r) end
has_less qs way s r end g less = (
  g.0,
  g.1,
  record {
    good = g.2.good;
    below = below_on r s g.2.good less g.2.below;
    stand = g.2.stand;
    end = g.2.end;
    leads = g.2.leads;
    covers = g.2.covers;
  },
)

-- ---- as the end sends a frame

abbrev pub behind_own : Frame → List Frame → Spot → List (Place Stand Frame)
behind_own x way q = map settle (place.walks x (placed way q))

-- these are behind a frame that the end sends
abbrev pub walked : Frame → List Frame → List Spot → List Spot → Type 0
walked x way qs new = walk_all Right x way qs [] ≡ Some new

pub own_adds : (way : List Frame) (qs new : List Spot) (x : Frame) → walk_all Right x way qs [] ≡ Some new
    → Adds way [] new (flat_map (behind_own x way) qs)
own_adds way qs new x e =
    adds_all way (walks Right x way) (behind_own x way) (λ q out now h. adds_walks x way q out now h) qs [] new e

pub own_in : (way : List Frame) (qs new : List Spot) (x : Frame) (s r : State) (end : List Frame) → HasIn qs way s end
    → MaySend s end x r → walk_all Right x way qs [] ≡ Some new → HasIn new way r end
own_in way qs new x s r end g may e =
    let m = sends_held g.0.stand (drop g.0.at way) s r end x g.2 may in
    (own_adds way qs new x e).holds (settle m.0)
    (in_all (behind_own x way) qs g.0 (settle m.0) g.1 (in_map settle (place.walks x (placed way g.0)) m.0 m.1)) r end
    (holds_settled m.0.way m.0.state r end m.2)

-- ---- as the other end sends one

abbrev pub behind_other : Frame → List Frame → Spot → List (Place Stand Frame)
behind_other x way q = settled q.stand (drop q.at way ++ x ∷ []) ∷ []

pub other_adds : (way : List Frame) (qs new : List Spot) (x : Frame) → grow_all (length way) (way ++ x ∷ []) qs ≡ Some new
    → Adds (way ++ x ∷ []) [] new (flat_map (behind_other x way) qs)
other_adds way qs new x e =
    adds_each (way ++ x ∷ []) (grown (length way) (way ++ x ∷ [])) (λ q. settled q.stand (drop q.at way ++ x ∷ []))
    (λ q r h. grown_is q r (nat_le q.at (length way)) refl h) qs new e
  where
    grown_is : (q r : Spot) (b : Bool) → nat_le q.at (length way) ≡ b
        → (if b then best q.at (drop q.at (way ++ x ∷ [])) q.stand else None) ≡ Some r
        → placed (way ++ x ∷ []) r ≡ settled q.stand (drop q.at way ++ x ∷ [])
    grown_is q r false k h = absurd (none-some r h)
    grown_is q r true k h =
        best_is (way ++ x ∷ []) q.at (drop q.at (way ++ x ∷ [])) q.stand r refl h
        ∙ ap (settled q.stand) (drop-append-le q.at way (x ∷ []) (leb-true q.at (length way) k))

pub other_in : (way : List Frame) (qs new : List Spot) (x : Frame) (s : State) (end : List Frame) → HasIn qs way s end
    → grow_all (length way) (way ++ x ∷ []) qs ≡ Some new → HasIn new (way ++ x ∷ []) s (end ++ x ∷ [])
other_in way qs new x s end g e =
    (other_adds way qs new x e).holds (settled g.0.stand (drop g.0.at way ++ x ∷ []))
    (in_all (behind_other x way) qs g.0 (settled g.0.stand (drop g.0.at way ++ x ∷ [])) g.1 (inl refl)) s (end ++ x ∷ [])
    (holds_settled (drop g.0.at way ++ x ∷ []) g.0.stand s (end ++ x ∷ [])
    (holds_shown g.0.stand (drop g.0.at way) s end x g.2))

-- ---- with less on the way

pub least_is : (qs : List Spot) (n : ℕ) (q : Spot) → IsIn q qs → least qs n ≤ q.at
least_is [] n q is = absurd is
least_is (p ∷ qs) n q (inl e) =
    subst (λ r. least qs (if nat_lt p.at n then p.at else n) ≤ r.at) (sym e)
    (le_trans (least_most qs (if nat_lt p.at n then p.at else n)) (low (nat_lt p.at n) refl))
  where
    low : (b : Bool) → nat_lt p.at n ≡ b → (if b then p.at else n) ≤ p.at
    low true h = omega arith
    low false h = ltb-false p.at n h
least_is (p ∷ qs) n q (inr is) = least_is qs (if nat_lt p.at n then p.at else n) q is

pub moved_is : (n : ℕ) (way : List Frame) (q : Spot) → n ≤ q.at → placed (drop n way) (shifted n q) ≡ placed way q
moved_is n way q h = ap (at q.stand) (drop-drop (q.at - n) n way ∙ ap (λ m. drop m way) (far h))
  where
    far : n ≤ q.at → n + (q.at - n) ≡ q.at
    far h = omega (arith, h)

pub shift_in : (way : List Frame) (qs : List Spot) (n : ℕ) (s : State) (end : List Frame) → ((q : Spot) → IsIn q qs → n ≤ q.at)
    → HasIn qs way s end → HasIn (map (shifted n) qs) (drop n way) s end
shift_in way qs n s end below g = (
  shifted n g.0,
  in_map (shifted n) qs g.0 g.1,
  subst (λ (p : Place Stand Frame). HoldsAt p.state p.way s end) (sym (moved_is n way g.0 (below g.0 g.1))) g.2,
)

pub trim_has : (set : LinkSet) (way : List Frame) (qs : List Spot) (s : State) (end : List Frame) → HasIn qs way s end
    → Has (trimmed (set_as set way qs)) s end
trim_has set way qs s end g = go (least qs (length way) == 0)
  where
    n : ℕ
    n = least qs (length way)

    go : (b : Bool) → Has (if b then set_as set way qs else set_as set (drop n way) (map (shifted n) qs)) s end
    go true = g
    go false = shift_in way qs n s end (λ q is. least_is qs (length way) q is) g

-- it may be anywhere from where the least has come on
free_at : (qs : List Spot) (way : List Frame) (n : ℕ) (s : State) (end : List Frame) → HasIn qs way s end
    → HoldsAt Free (drop (least qs n) way) s end
free_at qs way n s end g =
    holds_from (least qs n) g.0.at way g.0.stand Free s end (least_is qs n g.0 g.1) (below_free g.0.stand) g.2

-- ---- where the older half counts as come

-- what is so of each place once the front has come, is so of each place
pub hasten : (F G : Stand → List Frame → Type 0) (way : List Frame) (q : Spot) → length way ≡ 128
    → ((front : List Frame) → F q.stand (front ++ drop 64 way) → G (rushed front q.stand) (drop 64 way))
    → ((rest : List Frame) → F q.stand rest → G (rushed [] q.stand) rest)
    → F q.stand (drop q.at way) → G (rushed (drop q.at (take 64 way)) q.stand) (drop (q.at - 64) (drop 64 way))
hasten F G way q full some none h = go (nat_le q.at 64) refl
  where
    front : length (take 64 way) ≡ 64
    front = let l = length-take 64 way in omega (arith, l, full)

    within : q.at ≤ 64 → drop q.at way ≡ drop q.at (take 64 way) ++ drop 64 way
    within less =
        ap (drop q.at) (sym (take-append-drop 64 way)) ∙ drop-append-le q.at (take 64 way) (drop 64 way) (subst (λ n. q.at ≤ n) (sym front) less)

    none_taken : q.at ≤ 64 → q.at - 64 ≡ 0
    none_taken less = omega (arith, less)

    far : (q.at ≤ 64 → ⊥) → 64 + (q.at - 64) ≡ q.at
    far more = omega (arith, more)

    go : (b : Bool) → nat_le q.at 64 ≡ b → G (rushed (drop q.at (take 64 way)) q.stand) (drop (q.at - 64) (drop 64 way))
    go true e =
        let less = leb-true q.at 64 e in
        subst (λ n. G (rushed (drop q.at (take 64 way)) q.stand) (drop n (drop 64 way))) (sym (none_taken less))
        (some (drop q.at (take 64 way)) (subst (F q.stand) (within less) h))
    go false e =
        let more : (q.at ≤ 64 → ⊥) = λ less. both_ways (nat_le q.at 64) e (le-leb q.at 64 less) in
        subst (λ w. G (rushed w q.stand) (drop (q.at - 64) (drop 64 way)))
        (sym (drop_of_length-le (take 64 way) (let m = more in omega (arith, m, front))))
        (none (drop (q.at - 64) (drop 64 way))
        (subst (F q.stand) (sym (drop-drop (q.at - 64) 64 way ∙ ap (λ n. drop n way) (far more))) h))

hastened_has : (set : LinkSet) (s : State) (end : List Frame) → length set.way.items ≡ 128 → length end < 64 → Has set s end
    → Has (hastened set) s end
hastened_has set s end full few g = (
  hurried 64 (take 64 set.way.items) g.0,
  in_map (hurried 64 (take 64 set.way.items)) set.spots.items g.0 g.1,
  hasten (λ u v. HoldsAt u v s end) (λ u v. HoldsAt u v s end) set.way.items g.0 full
      (λ front h. holds_rushed (drop 64 set.way.items) front g.0.stand s end (subst (λ n. length end < n) (sym half) few) h)
      (λ rest h. holds_freed rest g.0.stand s end h) g.2,
)
  where
    half : length (drop 64 set.way.items) ≡ 64
    half = let l = length-drop 64 set.way.items in omega (arith, l, full)

-- ---- a set

none_has : (way : List Frame) (qs : List Spot) (s : State) (end : List Frame) → HasIn qs way s end
    → (length qs == 0) ≡ true → ⊥
none_has way [] s end g e = g.1
none_has way (q ∷ qs) s end g e = absurd (some (eqb-true (length (q ∷ qs)) 0 e))
  where
    some : length (q ∷ qs) ≡ 0 → ⊥
    some h = omega (arith, h)

abbrev stepped : Bool → Frame → LinkSet → List Spot → Stepped
stepped b x set qs = if b then unexplained x set else telling Nothing (standing qs set)

-- ---- where there was no room once

trimmed_blind : (set : LinkSet) → (trimmed set).is_blind ≡ set.is_blind
trimmed_blind set = go (came set == 0)
  where
    n : ℕ
    n = came set

    go : (b : Bool) → (if b then set else set_as set (drop n set.way.items) (map (shifted n) set.spots.items)).is_blind ≡ set.is_blind
    go true = refl
    go false = refl

standing_blind : (set : LinkSet) (qs : List Spot) → (standing qs set).is_blind ≡ set.is_blind
standing_blind set qs = trimmed_blind (set_as set set.way.items qs)

pub lost_blind : (set : LinkSet) (n : ℕ) → (lost n set).is_blind ≡ true
lost_blind set n = standing_blind (record set { is_blind = true }) (spot_at n Free ∷ [])

broken_blind : (set : LinkSet) (o : Option (List Spot)) → set.is_blind ≡ true → (broken_by o set).is_blind ≡ true
broken_blind set None e = lost_blind set (came set)
broken_blind set (Some qs) e = go (length qs == 0)
  where
    go : (b : Bool) → (if b then astray (came set) set else standing qs set).is_blind ≡ true
    go true = standing_blind set (spot_at (came set) Free ∷ []) ∙ e
    go false = standing_blind set qs ∙ e

skipped_blind : (set : LinkSet) (stand : Stand) (x : Frame) (o : Option (List Spot)) → set.is_blind ≡ true
    → (skipped_by o stand x set).set.is_blind ≡ true
skipped_blind set stand x None e = lost_blind set (came set)
skipped_blind set stand x (Some qs) e = go (length qs == 0)
  where
    go : (b : Bool)
        → (if b then telling (Broken stand) (broken x set) else telling (Skips stand) (standing qs set)).set.is_blind ≡ true
    go true = broken_blind set (walk_all Wrong x set.way.items set.spots.items []) e
    go false = standing_blind set qs ∙ e

unexplained_blind : (set : LinkSet) (stand : Stand) (x : Frame) → set.is_blind ≡ true
    → (unexplained_as stand x set).set.is_blind ≡ true
unexplained_blind set stand Ua e = e
unexplained_blind set stand x e = skipped_blind set stand x (walk_all Skipping x set.way.items set.spots.items []) e

sent_blind : (set : LinkSet) (x : Frame) (o : Option (List Spot)) → set.is_blind ≡ true → (sent_to x o set).set.is_blind ≡ true
sent_blind set x None e = lost_blind set (came set)
sent_blind set x (Some qs) e = go (length qs == 0)
  where
    go : (b : Bool) → (stepped b x set qs).set.is_blind ≡ true
    go true = unexplained_blind set (latest set.spots.items set.way.items) x e
    go false = standing_blind set qs ∙ e

pub blind_sends : (set : LinkSet) (x : Frame) → set.is_blind ≡ true → (sends_to x set).set.is_blind ≡ true
blind_sends set x e = sent_blind set x (walk_all Right x set.way.items set.spots.items []) e

shown_blind : (set : LinkSet) (way : List Frame) (o : Option (List Spot)) → set.is_blind ≡ true
    → (shown_to set way o).is_blind ≡ true
shown_blind set way None e = lost_blind (set_as set way set.spots.items) (came set)
shown_blind set way (Some qs) e = trimmed_blind (set_as set way qs) ∙ e

pub extended_blind : (set : LinkSet) (x : Frame) → set.is_blind ≡ true → (extended x set).is_blind ≡ true
extended_blind set x e =
    shown_blind set (set.way.items ++ x ∷ []) (grow_all (length set.way.items) (set.way.items ++ x ∷ []) set.spots.items) e

hastened_blind : (set : LinkSet) (qs : List Spot) → set.is_blind ≡ true → (hastened_to qs set).is_blind ≡ true
hastened_blind set qs e = cond_both (are_known qs) set.is_blind true (λ b. b ≡ true) (λ _. e) (λ _. refl)

-- with a way that is full or not
abbrev pub shows_by : Bool → Frame → LinkSet → LinkSet
shows_by full x set = extended x (if full then hastened set else set)

pub blind_shows : (set : LinkSet) (x : Frame) → set.is_blind ≡ true → (shows_to x set).is_blind ≡ true
blind_shows set x e = go (length set.way.items == 128)
  where
    go : (full : Bool) → (shows_by full x set).is_blind ≡ true
    go true =
        extended_blind (hastened set) x (hastened_blind set (map (hurried 64 (take 64 set.way.items)) set.spots.items) e)
    go false = extended_blind set x e

-- ---- a frame of each

module _ (set : LinkSet) (x : Frame) (s r : State) (end : List Frame) (may : MaySend s end x r) (has : Has set s end) where
  sent_has : (o : Option (List Spot)) → walk_all Right x set.way.items set.spots.items [] ≡ o → Has (sent_to x o set).set r end
  sent_has None e =
      trim_has (record set { is_blind = true }) set.way.items (spot_at (came set) Free ∷ []) r end (
        spot_at (came set) Free,
        inl refl,
        strays_held (drop (came set) set.way.items) s r end x
            (free_at set.spots.items set.way.items (length set.way.items) s end has) may,
      )
  sent_has (Some qs) e = go (length qs == 0) refl
    where
      now : HasIn qs set.way.items r end
      now = own_in set.way.items set.spots.items qs x s r end has may e

      go : (b : Bool) → (length qs == 0) ≡ b → Has (stepped b x set qs).set r end
      go true k = absurd (none_has set.way.items qs r end now k)
      go false k = trim_has set set.way.items qs r end now

  sent_untold : (o : Option (List Spot)) → walk_all Right x set.way.items set.spots.items [] ≡ o
      → (sent_to x o set).told ≡ Nothing
  sent_untold None e = refl
  sent_untold (Some qs) e = go (length qs == 0) refl
    where
      now : HasIn qs set.way.items r end
      now = own_in set.way.items set.spots.items qs x s r end has may e

      go : (b : Bool) → (length qs == 0) ≡ b → (stepped b x set qs).told ≡ Nothing
      go true k = absurd (none_has set.way.items qs r end now k)
      go false k = refl

  -- the end sends what it may: there is a place for it, and nothing is told
  pub has_sent : Has (sends_to x set).set r end
  has_sent = sent_has (walk_all Right x set.way.items set.spots.items []) refl

  pub is_untold : (sends_to x set).told ≡ Nothing
  is_untold = sent_untold (walk_all Right x set.way.items set.spots.items []) refl

module _ (x : Frame) (s : State) (end : List Frame) where
  extended_has : (set : LinkSet) → Has set s end → Has (extended x set) s (end ++ x ∷ [])
  extended_has set has = go (grow_all (length set.way.items) (set.way.items ++ x ∷ []) set.spots.items) refl
    where
      n : ℕ
      n = came set

      go : (o : Option (List Spot)) → grow_all (length set.way.items) (set.way.items ++ x ∷ []) set.spots.items ≡ o
          → Has (shown_to set (set.way.items ++ x ∷ []) o) s (end ++ x ∷ [])
      go None e =
          trim_has (record set { is_blind = true }) (set.way.items ++ x ∷ []) (spot_at n Free ∷ []) s (end ++ x ∷ []) (
            spot_at n Free,
            inl refl,
            subst (λ w. HoldsAt Free w s (end ++ x ∷ []))
                (sym (drop-append-le n set.way.items (x ∷ []) (least_most set.spots.items (length set.way.items))))
                (holds_shown Free (drop n set.way.items) s end x (free_at set.spots.items set.way.items (length set.way.items) s end has)),
          )
      go (Some qs) e =
          trim_has set (set.way.items ++ x ∷ []) qs s (end ++ x ∷ [])
          (other_in set.way.items set.spots.items qs x s end has e)

  -- the other end sends one
  pub has_shown : (set : LinkSet) → ((length set.way.items == 128) ≡ true → length end < 64) → Has set s end
      → Has (shows_to x set) s (end ++ x ∷ [])
  has_shown set few has = go (length set.way.items == 128) refl
    where
      go : (full : Bool) → (length set.way.items == 128) ≡ full → Has (shows_by full x set) s (end ++ x ∷ [])
      go true e = extended_has (hastened set) (hastened_has set s end (eqb-true (length set.way.items) 128 e) (few e) has)
      go false e = extended_has set has
