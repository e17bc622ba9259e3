-- Lists of places, as their definition has them, and the places that are told by.
use Rattle.x25_possible_links.proofs.Names.{Bool, true, false, ◌≡◌, ◌⊎◌, inl, inr, ℕ, suc, ◌+◌, ◌-◌, ◌≤◌, ◌==◌, ◌&&◌, ◌||◌, nat_le, List, [], ◌∷◌, ◌++◌, map}
use Rattle.x25_possible_links.proofs.Names.{drop, length, refl, sym, ap, subst, ◌∙◌, Option, Some, None, arith, flat_map, if◌then◌else◌, and_parts, both_ways}
use Rattle.x25_possible_links.proofs.Names.{eqb-true, leb-true, none-some, same_Some, Place, at, IsIn, State, At, Owes, fresh, is_asking, is_plain, onward}
use Rattle.x25_possible_links.proofs.Names.{upward, sends, settled, settle, first, all_of, and_then, best, each_of, first_of, goes, is_large, settles, spot_at}
use Rattle.x25_possible_links.proofs.Names.{walks, with_first, Frame, Info, Ready, Sabm, Disc, Ua, Dm, Frmr, Unread, Before, Right, Spot, Numbers, Stand, Out}
use Rattle.std.proofs.{Common.{zero}, Math.Seq.{drop-nil}, lemmas.List.{drop-drop}}
use Rattle.x25_possible_links.proofs.{Covers.{Covers, Later, covers_more}, Leads.{HoldsAt}, Lists.{in_left, in_right, in_either}, Names.{Asking, Up, Free}}
use Rattle.x25_possible_links.proofs.Stands.{AreBelow, Below, below_onward}
use Rattle.x25_possible_links.specs.code.Steps.{answered, answers, any, is_below, is_covered, kept, kept_by, numbers_below}
use Rattle.x25_possible_links.specs.laws.Places as place

-- ---- one stands for all that another does

are_below : (k j : Numbers) → numbers_below k j ≡ true → AreBelow k j
are_below k j h =
    let a = and_parts (j.sent == k.sent) (nat_le k.acked j.acked && (nat_le k.taken j.taken && nat_le j.told k.told)) h in
    let b = and_parts (nat_le k.acked j.acked) (nat_le k.taken j.taken && nat_le j.told k.told) a.1 in
    let c = and_parts (nat_le k.taken j.taken) (nat_le j.told k.told) b.1 in
    record {
      sent = eqb-true j.sent k.sent a.0;
      acked = leb-true k.acked j.acked b.0;
      taken = leb-true k.taken j.taken c.0;
      told = leb-true j.told k.told c.1;
    }

pub below_is : (s u : Stand) → is_below s u ≡ true → Below s u
below_is Out u h = tt
below_is Asking Asking h = tt
below_is Asking Free h = tt
below_is (Up k) (Up j) h = are_below k j h
below_is (Up k) Free h = tt
below_is Free Free h = tt
below_is s u h = absurd (both_ways false refl h)

next_drop : (n : ℕ) (way : List Frame) (x : Frame) (rest : List Frame) → drop n way ≡ x ∷ rest → drop (n + 1) way ≡ rest
next_drop n way x rest e = sym (drop-drop 1 n way) ∙ ap (drop 1) e

none_more : (n d : ℕ) (way : List Frame) → drop n way ≡ [] → drop (n + d) way ≡ []
none_more n d way e = sym (drop-drop d n way) ∙ ap (drop d) e ∙ drop-nil d

covers_from : (d n : ℕ) (way : List Frame) (s u : Stand) (of : State) (end : List Frame) → Below s u
    → Covers s (drop (n + d) way) of end → Covers u (drop n way) of end
covers_from zero n way s u of end b k =
    covers_more s u (drop n way) of end (subst (λ m. Covers s (drop m way) of end) (with_none n) k) b
  where
    with_none : (n : ℕ) → n + zero ≡ n
    with_none n = omega arith
covers_from (suc d) n way s u of end b k = go (drop n way) refl (λ x rest h. covers_from d (n + 1) way s (onward u x) of end h moved)
  where
    one_on : (n d : ℕ) → n + suc d ≡ n + 1 + d
    one_on n d = omega arith

    moved : Covers s (drop (n + 1 + d) way) of end
    moved = subst (λ m. Covers s (drop m way) of end) (one_on n d) k

    go : (front : List Frame) → drop n way ≡ front
        → ((x : Frame) (rest : List Frame) → Below s (onward u x) → Covers (onward u x) (drop (n + 1) way) of end)
        → Covers u front of end
    go [] e more = covers_more s u [] of end (subst (λ w. Covers s w of end) (none_more n (suc d) way e) k) b
    go (x ∷ rest) e more =
        Later u x rest of end
        (subst (λ w. Covers (onward u x) w of end) (next_drop n way x rest e) (more x rest (below_onward s u x b)))

pub holds_from : (n m : ℕ) (way : List Frame) (s u : Stand) (of : State) (end : List Frame) → n ≤ m → Below s u
    → HoldsAt s (drop m way) of end → HoldsAt u (drop n way) of end
holds_from n m way s u (At r) end less b h = record {
  good = h.good;
  below = h.below;
  stand = h.stand;
  end = h.end;
  leads = h.leads;
  covers = covers_from (m - n) n way s u (At h.stand) h.end b (subst (λ i. Covers s (drop i way) (At h.stand) h.end) (sym (far n m less)) h.covers);
}
  where
    far : (n m : ℕ) → n ≤ m → n + (m - n) ≡ m
    far n m less = omega (arith, less)
holds_from n m way s u (Owes r) end less b h =
    covers_from (m - n) n way s u (Owes r) end b (subst (λ i. Covers s (drop i way) (Owes r) end) (sym (far n m less)) h)
  where
    far : (n m : ℕ) → n ≤ m → n + (m - n) ≡ m
    far n m less = omega (arith, less)

-- ---- lists

abbrev pub placed : List Frame → Spot → Place Stand Frame
placed way q = at q.stand (drop q.at way)

-- one of these stands for all that the place does
abbrev pub IsHeld : List Frame → List Spot → Place Stand Frame → Type 0
IsHeld way qs p = (of : State) (end : List Frame) → HoldsAt p.state p.way of end
    → (q : Spot) × IsIn q qs × HoldsAt q.stand (drop q.at way) of end

-- some of these places more, that stand for all of them
pub record Adds (way : List Frame) (old new : List Spot) (ps : List (Place Stand Frame)) : Type 0 where
  pub from : (q : Spot) → IsIn q new → IsIn q old ⊎ IsIn (placed way q) ps
  pub keeps : (q : Spot) → IsIn q old → IsIn q new
  pub holds : (p : Place Stand Frame) → IsIn p ps → IsHeld way new p

adds_nothing : (way : List Frame) (xs ys : List Spot) → Some xs ≡ Some ys → Adds way xs ys []
adds_nothing way xs ys e =
    subst (λ zs. Adds way xs zs []) (same_Some xs ys e)
    (record { from = λ q is. inl is; keeps = λ q is. is; holds = λ p is. absurd is })

adds_both : (way : List Frame) (xs ys zs : List Spot) (ps qs : List (Place Stand Frame)) → Adds way xs ys ps → Adds way ys zs qs
    → Adds way xs zs (ps ++ qs)
adds_both way xs ys zs ps qs one two = record {
  from = λ q is. late q (two.from q is);
  keeps = λ q is. two.keeps q (one.keeps q is);
  holds = λ p is of end h. each p (in_either ps qs p is) of end h;
}
  where
    early : (q : Spot) → IsIn q xs ⊎ IsIn (placed way q) ps → IsIn q xs ⊎ IsIn (placed way q) (ps ++ qs)
    early q (inl h) = inl h
    early q (inr h) = inr (in_left ps qs (placed way q) h)

    late : (q : Spot) → IsIn q ys ⊎ IsIn (placed way q) qs → IsIn q xs ⊎ IsIn (placed way q) (ps ++ qs)
    late q (inl h) = early q (one.from q h)
    late q (inr h) = inr (in_right ps qs (placed way q) h)

    each : (p : Place Stand Frame) → IsIn p ps ⊎ IsIn p qs → (of : State) (end : List Frame) → HoldsAt p.state p.way of end
        → (q : Spot) × IsIn q zs × HoldsAt q.stand (drop q.at way) of end
    each p (inl is) of end h = let g = one.holds p is of end h in (g.0, two.keeps g.0 g.1, g.2)
    each p (inr is) of end h = two.holds p is of end h

-- ---- one more

held_there : (way : List Frame) (spot : Spot) (qs : List Spot) → is_covered spot qs ≡ true → IsHeld way qs (placed way spot)
held_there way spot [] h = absurd (both_ways false refl h)
held_there way spot (q ∷ qs) h = go (nat_le q.at spot.at && is_below spot.stand q.stand) refl (held_there way spot qs) h
  where
    go : (b : Bool) → (nat_le q.at spot.at && is_below spot.stand q.stand) ≡ b
        → (is_covered spot qs ≡ true → (of : State) (end : List Frame) → HoldsAt spot.stand (drop spot.at way) of end
        → (r : Spot) × IsIn r qs × HoldsAt r.stand (drop r.at way) of end)
        → (b || is_covered spot qs) ≡ true → (of : State) (end : List Frame) → HoldsAt spot.stand (drop spot.at way) of end
        → (r : Spot) × IsIn r (q ∷ qs) × HoldsAt r.stand (drop r.at way) of end
    go true e rest g of end k =
        let p = and_parts (nat_le q.at spot.at) (is_below spot.stand q.stand) e in (
          q,
          inl refl,
          holds_from q.at spot.at way spot.stand q.stand of end (leb-true q.at spot.at p.0) (below_is spot.stand q.stand p.1) k,
        )
    go false e rest g of end k = let r = rest g of end k in (r.0, inr r.1, r.2)

adds_kept : (way : List Frame) (spot : Spot) (out new : List Spot) → kept spot out ≡ Some new → Adds way out new (placed way spot ∷ [])
adds_kept way spot out new h = go (is_covered spot out) refl h
  where
    is_one : (p : Place Stand Frame) → IsIn p (placed way spot ∷ []) → p ≡ placed way spot
    is_one p (inl e) = e
    is_one p (inr g) = absurd g

    there : is_covered spot out ≡ true → Adds way out out (placed way spot ∷ [])
    there e = record {
      from = λ q is. inl is;
      keeps = λ q is. is;
      holds = λ p is of end k. held_there way spot out e of end (subst (λ r. HoldsAt r.state r.way of end) (is_one p is) k);
    }

    ends : (q : Spot) → IsIn q out ⊎ IsIn q (spot ∷ []) → IsIn q out ⊎ IsIn (placed way q) (placed way spot ∷ [])
    ends q (inl is) = inl is
    ends q (inr (inl e)) = inr (inl (ap (placed way) e))
    ends q (inr (inr g)) = absurd g

    pushed : Adds way out (out ++ spot ∷ []) (placed way spot ∷ [])
    pushed = record {
      from = λ q is. ends q (in_either out (spot ∷ []) q is);
      keeps = λ q is. in_left out (spot ∷ []) q is;
      holds = λ p is of end k. (
        spot,
        in_right out (spot ∷ []) spot (inl refl),
        subst (λ r. HoldsAt r.state r.way of end) (is_one p is) k,
      );
    }

    full : (b : Bool) → (if b then None else Some (out ++ spot ∷ [])) ≡ Some new → Adds way out new (placed way spot ∷ [])
    full true g = absurd (none-some new g)
    full false g = subst (λ xs. Adds way out xs (placed way spot ∷ [])) (same_Some (out ++ spot ∷ []) new g) pushed

    go : (b : Bool) → is_covered spot out ≡ b
        → (if b then Some out else if length out == 16 then None else Some (out ++ spot ∷ [])) ≡ Some new
        → Adds way out new (placed way spot ∷ [])
    go true e g = subst (λ xs. Adds way out xs (placed way spot ∷ [])) (same_Some out new g) (there e)
    go false e g = full (length out == 16) g

-- ---- all that one comes to

pub best_is : (way : List Frame) (n : ℕ) (rest : List Frame) (s : Stand) (q : Spot) → drop n way ≡ rest → best n rest s ≡ Some q
    → placed way q ≡ settled s rest
best_is way n [] s q e h = go (is_large s) h
  where
    go : (b : Bool) → (if b then None else Some (spot_at n s)) ≡ Some q → placed way q ≡ at s []
    go true g = absurd (none-some q g)
    go false g = subst (λ p. placed way p ≡ at s []) (same_Some (spot_at n s) q g) (ap (at s) e)
best_is way n (x ∷ rest) s q e h =
    large (is_large s) h (λ g. best_is way (n + 1) rest (onward s x) q (next_drop n way x rest e) g)
  where
    plain : (b : Bool) → (if b then best (n + 1) rest (onward s x) else Some (spot_at n s)) ≡ Some q
        → (best (n + 1) rest (onward s x) ≡ Some q → placed way q ≡ settled (onward s x) rest)
        → placed way q ≡ (if b then settled (onward s x) rest else at s (x ∷ rest))
    plain true g more = more g
    plain false g more = subst (λ p. placed way p ≡ at s (x ∷ rest)) (same_Some (spot_at n s) q g) (ap (at s) e)

    large : (b : Bool) → (if b then None else if is_plain s x then best (n + 1) rest (onward s x) else Some (spot_at n s)) ≡ Some q
        → (best (n + 1) rest (onward s x) ≡ Some q → placed way q ≡ settled (onward s x) rest) → placed way q ≡ settled s (x ∷ rest)
    large true g more = absurd (none-some q g)
    large false g more = plain (is_plain s x) g more

adds_settled : (way : List Frame) (n : ℕ) (rest : List Frame) (s : Stand) (out new : List Spot) → drop n way ≡ rest
    → settles n rest s out ≡ Some new → Adds way out new (settled s rest ∷ [])
adds_settled way n rest s out new e h = go (best n rest s) refl h
  where
    go : (o : Option Spot) → best n rest s ≡ o → kept_by o out ≡ Some new → Adds way out new (settled s rest ∷ [])
    go None k g = absurd (none-some new g)
    go (Some q) k g = subst (λ p. Adds way out new (p ∷ [])) (best_is way n rest s q e k) (adds_kept way q out new g)

adds_here : (way : List Frame) (n : ℕ) (rest : List Frame) (s : Stand) (out new : List Spot) → drop n way ≡ rest
    → settles n (drop n way) s out ≡ Some new → Adds way out new (settled s rest ∷ [])
adds_here way n rest s out new e h =
    adds_settled way n rest s out new e (subst (λ w. settles n w s out ≡ Some new) e h)

adds_first : (way : List Frame) (n : ℕ) (rest : List Frame) (o : Option Stand) (out new : List Spot) (later : Option (List Spot))
    (ps : List (Place Stand Frame)) → drop n way ≡ rest → (later ≡ Some new → Adds way out new (map settle ps))
    → first_of o (λ r. settles n (drop n way) r out) later ≡ Some new → Adds way out new (map settle (first o rest ps))
adds_first way n rest None out new later ps e more h = more h
adds_first way n rest (Some r) out new later ps e more h = adds_here way n rest r out new e h

pub adds_goes : (x : Frame) (way : List Frame) (n : ℕ) (rest : List Frame) (s : Stand) (out new : List Spot) → drop n way ≡ rest
    → goes Right x way n rest s out ≡ Some new → Adds way out new (map settle (place.goes x s rest))
adds_goes x way n [] s out new e h = go (is_large s) h
  where
    go : (b : Bool) → (if b then None else first_of (sends s [] x) (λ r. settles n (drop n way) r out) (Some out)) ≡ Some new
        → Adds way out new (map settle (first (sends s [] x) [] []))
    go true g = absurd (none-some new g)
    go false g = adds_first way n [] (sends s [] x) out new (Some out) [] e (adds_nothing way out new) g
adds_goes x way n (y ∷ rest) s out new e h =
    go (is_large s) h (λ g. adds_goes x way (n + 1) rest (upward s y) out new (next_drop n way y rest e) g)
  where
    go : (b : Bool)
        → (if b then None
        else first_of (sends s (y ∷ rest) x) (λ r. settles n (drop n way) r out) (goes Right x way (n + 1) rest (upward s y) out)) ≡ Some new
        → (goes Right x way (n + 1) rest (upward s y) out ≡ Some new → Adds way out new (map settle (place.goes x (upward s y) rest)))
        → Adds way out new (map settle (first (sends s (y ∷ rest) x) (y ∷ rest) (place.goes x (upward s y) rest)))
    go true g more = absurd (none-some new g)
    go false g more =
        adds_first way n (y ∷ rest) (sends s (y ∷ rest) x) out new (goes Right x way (n + 1) rest (upward s y) out)
        (place.goes x (upward s y) rest) e more g

-- ---- one after the other

adds_then : (way : List Frame) (o : Option (List Spot)) (f : List Spot → Option (List Spot)) (out new : List Spot)
    (ps qs : List (Place Stand Frame)) → ((mid : List Spot) → o ≡ Some mid → Adds way out mid ps)
    → ((mid : List Spot) → f mid ≡ Some new → Adds way mid new qs) → and_then o f ≡ Some new → Adds way out new (ps ++ qs)
adds_then way None f out new ps qs one two h = absurd (none-some new h)
adds_then way (Some mid) f out new ps qs one two h = adds_both way out mid new ps qs (one mid refl) (two mid h)

map_both : (ps qs : List (Place Stand Frame)) → map settle (ps ++ qs) ≡ map settle ps ++ map settle qs
map_both [] qs = refl
map_both (p ∷ ps) qs = ap (λ rs. settle p ∷ rs) (map_both ps qs)

pub adds_answered : (way : List Frame) (s : Stand) (n : ℕ) (rest : List Frame) (out new : List Spot) → drop n way ≡ rest
    → answered way s n out ≡ Some new → Adds way out new (map settle (place.answered s rest))
adds_answered way s n rest out new e h = by_asking (is_asking s) h
  where
    by_asking : (b : Bool)
        → and_then (settles n (drop n way) fresh out) (λ mid. if b then settles n (drop n way) Asking mid else Some mid) ≡ Some new
        → Adds way out new (map settle (if b then at fresh rest ∷ at Asking rest ∷ [] else at fresh rest ∷ []))
    by_asking true g =
        adds_then way (settles n (drop n way) fresh out) (λ mid. settles n (drop n way) Asking mid) out new (settled fresh rest ∷ [])
        (settled Asking rest ∷ []) (λ mid k. adds_here way n rest fresh out mid e k)
        (λ mid k. adds_here way n rest Asking mid new e k) g
    by_asking false g =
        adds_then way (settles n (drop n way) fresh out) (λ mid. Some mid) out new (settled fresh rest ∷ []) []
        (λ mid k. adds_here way n rest fresh out mid e k) (λ mid k. adds_nothing way mid new k) g

pub adds_answers : (way : List Frame) (s : Stand) (n : ℕ) (rest : List Frame) (out new : List Spot) → drop n way ≡ rest
    → answers way s n rest out ≡ Some new → Adds way out new (map settle (place.answers s rest))
adds_answers way s n [] out new e h = adds_nothing way out new h
adds_answers way s n (Sabm ∷ rest) out new e h = adds_answered way s (n + 1) rest out new (next_drop n way Sabm rest e) h
adds_answers way s n (Unread ∷ rest) out new e h = adds_answered way s (n + 1) rest out new (next_drop n way Unread rest e) h
adds_answers way s n (Before ∷ rest) out new e h = adds_answered way s n (Before ∷ rest) out new e h
adds_answers way s n (Disc ∷ rest) out new e h =
    adds_then way (settles (n + 1) (drop (n + 1) way) Out out) (answers way s (n + 1) rest) out new (settled Out rest ∷ [])
    (map settle (place.answers s rest)) (λ mid k. adds_here way (n + 1) rest Out out mid (next_drop n way Disc rest e) k)
    (λ mid k. adds_answers way s (n + 1) rest mid new (next_drop n way Disc rest e) k) h
adds_answers way s n (y ∷ rest) out new e h = adds_answers way s (n + 1) rest out new (next_drop n way y rest e) h

adds_any : (way : List Frame) (n : ℕ) (s : Stand) (out new : List Spot) → any way n s out ≡ Some new
    → Adds way out new (map settle (place.any s (drop n way)))
adds_any way n Free out new h = adds_nothing way out new h
adds_any way n s out new h =
    subst (λ ps. Adds way out new ps)
    (sym (map_both (place.answers s (drop n way)) (place.goes Sabm s (drop n way) ++ place.goes Unread s (drop n way))))
    (adds_then way (answers way s n (drop n way) out) _ out new (map settle (place.answers s (drop n way)))
    (map settle (place.goes Sabm s (drop n way) ++ place.goes Unread s (drop n way)))
    (λ b i. adds_answers way s n (drop n way) out b refl i)
    (λ b i.
    subst (λ ps. Adds way b new ps) (sym (map_both (place.goes Sabm s (drop n way)) (place.goes Unread s (drop n way))))
    (adds_then way (goes Right Sabm way n (drop n way) s b) _ b new (map settle (place.goes Sabm s (drop n way)))
    (map settle (place.goes Unread s (drop n way))) (λ c j. adds_goes Sabm way n (drop n way) s b c refl j)
    (λ c j. adds_goes Unread way n (drop n way) s c new refl j) i)) h)

pub adds_walks : (x : Frame) (way : List Frame) (q : Spot) (out new : List Spot) → walks Right x way q out ≡ Some new
    → Adds way out new (map settle (place.walks x (placed way q)))
adds_walks Ua way q out new h = adds_answers way q.stand q.at (drop q.at way) out new refl h
adds_walks Unread way q out new h =
    adds_then way (settles q.at (drop q.at way) q.stand out) _ out new (settled q.stand (drop q.at way) ∷ [])
    (map settle (place.any q.stand (drop q.at way))) (λ a k. adds_settled way q.at (drop q.at way) q.stand out a refl k)
    (λ a k. adds_any way q.at q.stand a new k) h
adds_walks (Info ns nr d) way q out new h = adds_goes (Info ns nr d) way q.at (drop q.at way) q.stand out new refl h
adds_walks (Ready nr) way q out new h = adds_goes (Ready nr) way q.at (drop q.at way) q.stand out new refl h
adds_walks Sabm way q out new h = adds_goes Sabm way q.at (drop q.at way) q.stand out new refl h
adds_walks Disc way q out new h = adds_goes Disc way q.at (drop q.at way) q.stand out new refl h
adds_walks Dm way q out new h = adds_goes Dm way q.at (drop q.at way) q.stand out new refl h
adds_walks Frmr way q out new h = adds_goes Frmr way q.at (drop q.at way) q.stand out new refl h
adds_walks Before way q out new h = adds_goes Before way q.at (drop q.at way) q.stand out new refl h

-- of all
pub adds_all : (way : List Frame) (step : Spot → List Spot → Option (List Spot)) (g : Spot → List (Place Stand Frame))
    → ((q : Spot) (out new : List Spot) → step q out ≡ Some new → Adds way out new (g q))
    → (qs out new : List Spot) → all_of step qs out ≡ Some new → Adds way out new (flat_map g qs)
adds_all way step g each [] out new h = adds_nothing way out new h
adds_all way step g each (q ∷ qs) out new h =
    adds_then way (step q out) (all_of step qs) out new (g q) (flat_map g qs) (λ mid k. each q out mid k)
    (λ mid k. adds_all way step g each qs mid new k) h

-- ---- each in its place

adds_front : (way : List Frame) (r : Spot) (rs : List Spot) (p : Place Stand Frame) (ps : List (Place Stand Frame)) → placed way r ≡ p
    → Adds way [] rs ps → Adds way [] (r ∷ rs) (p ∷ ps)
adds_front way r rs p ps same rest = record {
  from = λ q is. first q is;
  keeps = λ q is. absurd is;
  holds = λ m is of end h. each m is of end h;
}
  where
    behind : (q : Spot) → IsIn q [] ⊎ IsIn (placed way q) ps → IsIn q [] ⊎ IsIn (placed way q) (p ∷ ps)
    behind q (inl h) = inl h
    behind q (inr h) = inr (inr h)

    first : (q : Spot) → IsIn q (r ∷ rs) → IsIn q [] ⊎ IsIn (placed way q) (p ∷ ps)
    first q (inl e) = inr (inl (ap (placed way) e ∙ same))
    first q (inr is) = behind q (rest.from q is)

    each : (m : Place Stand Frame) → IsIn m (p ∷ ps) → (of : State) (end : List Frame) → HoldsAt m.state m.way of end
        → (q : Spot) × IsIn q (r ∷ rs) × HoldsAt q.stand (drop q.at way) of end
    each m (inl e) of end h = (r, inl refl, subst (λ (w : Place Stand Frame). HoldsAt w.state w.way of end) (e ∙ sym same) h)
    each m (inr is) of end h = let g = rest.holds m is of end h in (g.0, inr g.1, g.2)

pub adds_each : (way : List Frame) (f : Spot → Option Spot) (g : Spot → Place Stand Frame)
    → ((q r : Spot) → f q ≡ Some r → placed way r ≡ g q) → (qs new : List Spot) → each_of f qs ≡ Some new
    → Adds way [] new (flat_map (λ q. g q ∷ []) qs)
adds_each way f g is [] new h = adds_nothing way [] new h
adds_each way f g is (q ∷ qs) new h = go (f q) refl (each_of f qs) h (λ rs k. adds_each way f g is qs rs k)
  where
    go : (o : Option Spot) → f q ≡ o → (rest : Option (List Spot)) → with_first o rest ≡ Some new
        → ((rs : List Spot) → rest ≡ Some rs → Adds way [] rs (flat_map (λ p. g p ∷ []) qs))
        → Adds way [] new (g q ∷ flat_map (λ p. g p ∷ []) qs)
    go None e rest k more = absurd (none-some new k)
    go (Some r) e None k more = absurd (none-some new k)
    go (Some r) e (Some rs) k more =
        subst (λ xs. Adds way [] xs (g q ∷ flat_map (λ p. g p ∷ []) qs)) (same_Some (r ∷ rs) new k)
        (adds_front way r rs (g q) (flat_map (λ p. g p ∷ []) qs) (is q r e) (more rs refl))
