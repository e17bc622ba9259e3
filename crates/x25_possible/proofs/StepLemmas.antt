-- Lists of states, as their definition has them, and the places that are possible.
use Rattle.x25_possible.proofs.Names.{Bool, true, false, ◌≡◌, ◌⊎◌, inl, inr, ℕ, ◌+◌, ◌-◌, ◌<◌, ◌≤◌, ◌==◌, ◌&&◌, ◌||◌, nat_le, List, [], ◌∷◌, ◌++◌, map, drop}
use Rattle.x25_possible.proofs.Names.{length, refl, sym, ap, ap₂, subst, ◌∙◌, Option, Some, None, arith, drop_of_length-le, flat_map, if◌then◌else◌, and_parts}
use Rattle.x25_possible.proofs.Names.{both_ways, eqb-true, leb-true, none-some, same_Some, Role, channel_choices, at_once, takes, sends, one, Place, at, IsIn}
use Rattle.x25_possible.proofs.Names.{settled, grown, after_own, after_other, placed, kept, and_then, is_large, spot_at, settles_by, settles, all_of, goes_by}
use Rattle.x25_possible.proofs.Names.{goes, go_all, grows, grow_all, are_at_end, anew, Packet, Phase, Idle, Calls, Resets, Clears, Restarts, Spot}
use Rattle.std.proofs.{Common.{◌↔◌, length-drop, append-nil}, lemmas.Bool.{leb-false}, lemmas.List.{drop-drop, drop_at, drop-append-le}}
use Rattle.x25_possible.proofs.Lists.{in_left, in_right, in_either}
use Rattle.x25_possible.specs.{code.Steps.{same_defaults, same_limits, same_numbers, same_terms, is_same, is_there, anew_at}, declared.packet.Defaults.{Defaults}}
use Rattle.x25_possible.specs.{declared.packet.Terms.{Terms}, declared.phase.Limits.{Limits}}
use Rattle.x25_possible.specs.{declared.phase.Phase.TheVariants.{WasCalled, WasReset, WasCleared, WasRestarted}, laws.Possible.{settled_by}}

pub in_map : {X Y : Type 0} (f : X → Y) (xs : List X) (x : X) → IsIn x xs → IsIn (f x) (map f xs)
in_map f [] x h = absurd h
in_map f (y ∷ ys) x (inl e) = inl (ap f e)
in_map f (y ∷ ys) x (inr h) = inr (in_map f ys x h)

pub from_map : {X Y : Type 0} (f : X → Y) (xs : List X) (y : Y) → IsIn y (map f xs) → (x : X) × IsIn x xs × (y ≡ f x)
from_map f [] y h = absurd h
from_map f (x ∷ xs) y (inl e) = (x, inl refl, e)
from_map f (x ∷ xs) y (inr h) = let g = from_map f xs y h in (g.0, inr g.1, g.2)

-- ---- one more

-- one more
abbrev pub Keeps : Spot → List Spot → List Spot → Type 0
Keeps spot old new = (s : Spot) → IsIn s new ↔ (IsIn s old ⊎ (s ≡ spot))

-- these places more
abbrev pub Adds : (Spot → Place Phase Packet) → List Spot → List Spot → List (Place Phase Packet) → Type 0
Adds f old new qs = (q : Place Phase Packet) → IsIn q (map f new) ↔ (IsIn q (map f old) ⊎ IsIn q qs)

limits_are_same : (a b : Limits) → same_limits a b ≡ true → a ≡ b
limits_are_same a b h =
    let p = and_parts (a.most == b.most) (a.window == b.window) h in
    ap₂ (λ m w. record { most = m; window = w }) (eqb-true a.most b.most p.0) (eqb-true a.window b.window p.1)

defaults_are_same : (a b : Defaults) → same_defaults a b ≡ true → a ≡ b
defaults_are_same a b h =
    let p = and_parts (a.size == b.size) (a.window == b.window) h in
    ap₂ (λ m w. record { size = m; window = w }) (eqb-true a.size b.size p.0) (eqb-true a.window b.window p.1)

terms_are_same : (a b : Terms) → same_terms a b ≡ true → a ≡ b
terms_are_same a b both =
    let d = and_parts (same_defaults a.defaults b.defaults) (same_numbers a b) both in
    let h = d.1 in
    let p = and_parts (a.calling_size == b.calling_size)
    (a.called_size == b.called_size && (a.calling_window == b.calling_window && a.called_window == b.called_window)) h in
    let q = and_parts (a.called_size == b.called_size) (a.calling_window == b.calling_window && a.called_window == b.called_window) p.1 in
    let r = and_parts (a.calling_window == b.calling_window) (a.called_window == b.called_window) q.1 in
    ap₂ (λ (f : Defaults → Terms) e. f e)
    (ap₂ (λ (f : ℕ → Defaults → Terms) w. f w)
    (ap₂ (λ (f : ℕ → ℕ → Defaults → Terms) v. f v)
    (ap₂ (λ m n v w e. record { defaults = e; calling_size = m; called_size = n; calling_window = v; called_window = w })
    (eqb-true a.calling_size b.calling_size p.0) (eqb-true a.called_size b.called_size q.0))
    (eqb-true a.calling_window b.calling_window r.0))
    (eqb-true a.called_window b.called_window r.1))
    (defaults_are_same a.defaults b.defaults d.0)

are_same : (s r : Phase) → is_same s r ≡ true → s ≡ r
are_same Idle Idle h = refl
are_same Clears Clears h = refl
are_same WasCleared WasCleared h = refl
are_same Restarts Restarts h = refl
are_same WasRestarted WasRestarted h = refl
are_same (Calls a) (Calls b) h = ap Calls (terms_are_same a b h)
are_same (WasCalled a) (WasCalled b) h = ap WasCalled (terms_are_same a b h)
are_same (Resets a) (Resets b) h = ap Resets (limits_are_same a b h)
are_same (WasReset a) (WasReset b) h = ap WasReset (limits_are_same a b h)
are_same s r h = absurd (both_ways (is_same s r) refl h)

same_spot : (a b : Spot) → a.phase ≡ b.phase → a.at ≡ b.at → a ≡ b
same_spot a b e f = ap₂ (λ p n. record { phase = p; at = n }) e f

is_in_there : (spot : Spot) (qs : List Spot) → is_there spot qs ≡ true → IsIn spot qs
is_in_there spot [] h = both_ways false refl h
is_in_there spot (q ∷ qs) h = go (q.at == spot.at && is_same q.phase spot.phase) refl (is_in_there spot qs) h
  where
    go : (b : Bool) → (q.at == spot.at && is_same q.phase spot.phase) ≡ b → (is_there spot qs ≡ true → IsIn spot qs)
        → (b || is_there spot qs) ≡ true → IsIn spot (q ∷ qs)
    go true e rest g =
        let p = and_parts (q.at == spot.at) (is_same q.phase spot.phase) e in
        inl (sym (same_spot q spot (are_same q.phase spot.phase p.1) (eqb-true q.at spot.at p.0)))
    go false e rest g = inr (rest g)

keeps_there : (spot : Spot) (xs : List Spot) → IsIn spot xs → Keeps spot xs xs
keeps_there spot xs is s = (λ h. inl h, back)
  where
    back : IsIn s xs ⊎ (s ≡ spot) → IsIn s xs
    back (inl h) = h
    back (inr e) = subst (λ r. IsIn r xs) (sym e) is

keeps_pushed : (spot : Spot) (xs : List Spot) → Keeps spot xs (xs ++ spot ∷ [])
keeps_pushed spot xs s = (λ h. there (in_either xs (spot ∷ []) s h), back)
  where
    there : IsIn s xs ⊎ IsIn s (spot ∷ []) → IsIn s xs ⊎ (s ≡ spot)
    there (inl h) = inl h
    there (inr (inl e)) = inr e
    there (inr (inr h)) = absurd h

    back : IsIn s xs ⊎ (s ≡ spot) → IsIn s (xs ++ spot ∷ [])
    back (inl h) = in_left xs (spot ∷ []) s h
    back (inr e) = in_right xs (spot ∷ []) s (inl e)

pub keeps : (spot : Spot) (out new : List Spot) → kept spot out ≡ Some new → Keeps spot out new
keeps spot out new h = go (is_there spot out) refl h
  where
    pushed : (b : Bool) → (if b then None else Some (out ++ spot ∷ [])) ≡ Some new → Keeps spot out new
    pushed true g = absurd (none-some new g)
    pushed false g = subst (λ xs. Keeps spot out xs) (same_Some (out ++ spot ∷ []) new g) (keeps_pushed spot out)

    go : (b : Bool) → is_there spot out ≡ b
        → (if b then Some out else if length out == 16 then None else Some (out ++ spot ∷ [])) ≡ Some new → Keeps spot out new
    go true e g = subst (λ xs. Keeps spot out xs) (same_Some out new g) (keeps_there spot out (is_in_there spot out e))
    go false e g = pushed (length out == 16) g

module _ (f : Spot → Place Phase Packet) where
  adds_one : (spot : Spot) (old new : List Spot) → Keeps spot old new → Adds f old new (f spot ∷ [])
  adds_one spot old new keeps q = (there, back)
    where
      split : (s : Spot) → q ≡ f s → IsIn s old ⊎ (s ≡ spot) → IsIn q (map f old) ⊎ IsIn q (f spot ∷ [])
      split s e (inl h) = inl (subst (λ p. IsIn p (map f old)) (sym e) (in_map f old s h))
      split s e (inr same) = inr (inl (e ∙ ap f same))

      there : IsIn q (map f new) → IsIn q (map f old) ⊎ IsIn q (f spot ∷ [])
      there h = let g = from_map f new q h in split g.0 g.2 ((keeps g.0).0 g.1)

      back : IsIn q (map f old) ⊎ IsIn q (f spot ∷ []) → IsIn q (map f new)
      back (inl h) = let g = from_map f old q h in subst (λ p. IsIn p (map f new)) (sym g.2) (in_map f new g.0 ((keeps g.0).1 (inl g.1)))
      back (inr (inl e)) = subst (λ p. IsIn p (map f new)) (sym e) (in_map f new spot ((keeps spot).1 (inr refl)))
      back (inr (inr h)) = absurd h

  adds_none : (xs : List Spot) → Adds f xs xs []
  adds_none xs q = (λ h. inl h, back)
    where
      back : IsIn q (map f xs) ⊎ ⊥ → IsIn q (map f xs)
      back (inl h) = h
      back (inr h) = absurd h

  adds_nothing : (xs ys : List Spot) → Some xs ≡ Some ys → Adds f xs ys []
  adds_nothing xs ys e = subst (λ zs. Adds f xs zs []) (same_Some xs ys e) (adds_none xs)

  adds_both : (xs ys zs : List Spot) (ps qs : List (Place Phase Packet)) → Adds f xs ys ps → Adds f ys zs qs → Adds f xs zs (ps ++ qs)
  adds_both xs ys zs ps qs first second q = (λ h. there ((second q).0 h), back)
    where
      early : IsIn q (map f xs) ⊎ IsIn q ps → IsIn q (map f xs) ⊎ IsIn q (ps ++ qs)
      early (inl h) = inl h
      early (inr h) = inr (in_left ps qs q h)

      there : IsIn q (map f ys) ⊎ IsIn q qs → IsIn q (map f xs) ⊎ IsIn q (ps ++ qs)
      there (inl h) = early ((first q).0 h)
      there (inr h) = inr (in_right ps qs q h)

      late : IsIn q ps ⊎ IsIn q qs → IsIn q (map f zs)
      late (inl h) = (second q).1 (inl ((first q).1 (inr h)))
      late (inr h) = (second q).1 (inr h)

      back : IsIn q (map f xs) ⊎ IsIn q (ps ++ qs) → IsIn q (map f zs)
      back (inl h) = (second q).1 (inl ((first q).1 (inl h)))
      back (inr h) = late (in_either ps qs q h)

-- of all
pub all_mapped : {X Y Z : Type 0} (g : Y → List Z) (f : X → Y) (xs : List X) → flat_map g (map f xs) ≡ flat_map (λ x. g (f x)) xs
all_mapped g f [] = refl
all_mapped g f (x ∷ xs) = ap (λ zs. g (f x) ++ zs) (all_mapped g f xs)

all_add : (f : Spot → Place Phase Packet) (step : Spot → List Spot → Option (List Spot)) (g : Spot → List (Place Phase Packet))
    → ((q : Spot) (out new : List Spot) → step q out ≡ Some new → Adds f out new (g q))
    → (qs out new : List Spot) → all_of step qs out ≡ Some new → Adds f out new (flat_map g qs)
all_add f step g each [] out new h = adds_nothing f out new h
all_add f step g each (q ∷ qs) out new h = go (step q out) refl (λ mid. all_add f step g each qs mid new) h
  where
    go : (o : Option (List Spot)) → step q out ≡ o
        → ((mid : List Spot) → all_of step qs mid ≡ Some new → Adds f mid new (flat_map g qs))
        → and_then o (all_of step qs) ≡ Some new → Adds f out new (flat_map g (q ∷ qs))
    go None e rest k = absurd (none-some new k)
    go (Some mid) e rest k = adds_both f out mid new (g q) (flat_map g qs) (each q out mid e) (rest mid k)

-- ---- all to which a state comes

pub settled_once : (role : Role) (x : Packet) (rest : List Packet) (s next : Phase) → at_once s x ≡ Some next
    → settled (channel_choices role) (x ∷ rest) s ≡ settled (channel_choices role) rest next
settled_once role x rest s next e =
    ap (λ o. settled_by o s (x ∷ rest) (settled (channel_choices role) rest) (takes role s x ∷ [])) e

pub settled_apart : (role : Role) (x : Packet) (rest : List Packet) (s : Phase) → at_once s x ≡ None
    → settled (channel_choices role) (x ∷ rest) s ≡ at s (x ∷ rest) ∷ settled (channel_choices role) rest (takes role s x)
settled_apart role x rest s e =
    ap (λ p. settled_by p s (x ∷ rest) (settled (channel_choices role) rest) (takes role s x ∷ [])) e
    ∙ ap (λ ps. at s (x ∷ rest) ∷ ps) (append-nil (settled (channel_choices role) rest (takes role s x)))

next_drop : (n : ℕ) (way : List Packet) (x : Packet) (rest : List Packet) → drop n way ≡ x ∷ rest → drop (n + 1) way ≡ rest
next_drop n way x rest e = sym (drop-drop 1 n way) ∙ ap (drop 1) e

module _ (role : Role) (way : List Packet) where
  abbrev Settles : List Spot → List Spot → List Packet → Phase → Type 0
  Settles old new rest s = Adds (placed way) old new (settled (channel_choices role) rest s)

  -- with such a packet in front of it
  module _ (n : ℕ) (x : Packet) (rest : List Packet) (s : Phase) (out new : List Spot) (front : drop n way ≡ x ∷ rest)
      (more : (u : Phase) (old : List Spot) → settles role (n + 1) rest u old ≡ Some new → Settles old new rest u) where
    stays : (mid : List Spot) → kept (spot_at n s) out ≡ Some mid → Adds (placed way) out mid (at s (x ∷ rest) ∷ [])
    stays mid e =
        subst (λ w. Adds (placed way) out mid (at s w ∷ [])) front
        (adds_one (placed way) (spot_at n s) out mid (keeps (spot_at n s) out mid e))

    by_kept : (k : Option (List Spot)) → at_once s x ≡ None → kept (spot_at n s) out ≡ k
        → and_then k (settles role (n + 1) rest (takes role s x)) ≡ Some new → Settles out new (x ∷ rest) s
    by_kept None e k h = absurd (none-some new h)
    by_kept (Some mid) e k h =
        subst (λ qs. Adds (placed way) out new qs) (sym (settled_apart role x rest s e))
        (adds_both (placed way) out mid new (at s (x ∷ rest) ∷ []) (settled (channel_choices role) rest (takes role s x)) (stays mid k)
        (more (takes role s x) mid h))

    by_once : (o : Option Phase) → at_once s x ≡ o
        → settles_by o (takes role s x) (spot_at n s) (settles role (n + 1) rest) out ≡ Some new → Settles out new (x ∷ rest) s
    by_once (Some u) e h =
        subst (λ qs. Adds (placed way) out new qs) (sym (settled_once role x rest s u e)) (more u out h)
    by_once None e h = by_kept (kept (spot_at n s) out) e refl h

    by_size : (b : Bool)
        → (if b then None else settles_by (at_once s x) (takes role s x) (spot_at n s) (settles role (n + 1) rest) out) ≡ Some new
        → Settles out new (x ∷ rest) s
    by_size true h = absurd (none-some new h)
    by_size false h = by_once (at_once s x) refl h

  at_end : (n : ℕ) (s : Phase) (out new : List Spot) (b : Bool) → drop n way ≡ []
      → (if b then None else kept (spot_at n s) out) ≡ Some new → Settles out new [] s
  at_end n s out new true e h = absurd (none-some new h)
  at_end n s out new false e h =
      subst (λ w. Adds (placed way) out new (at s w ∷ [])) e
      (adds_one (placed way) (spot_at n s) out new (keeps (spot_at n s) out new h))

  pub settles_adds : (n : ℕ) (rest : List Packet) (s : Phase) (out new : List Spot) → drop n way ≡ rest
      → settles role n rest s out ≡ Some new → Settles out new rest s
  settles_adds n [] s out new e h = at_end n s out new (is_large s) e h
  settles_adds n (x ∷ rest) s out new e h =
      by_size n x rest s out new e (λ u old. settles_adds (n + 1) rest u old new (next_drop n way x rest e)) (is_large s) h

-- ---- as the end sends a packet

module _ (role : Role) (way : List Packet) (x : Packet) where
  goes_to : (q : Spot) (o : Option Phase) (out new : List Spot) → sends q.phase x ≡ o → goes_by role way q.at o out ≡ Some new
      → Adds (placed way) out new (after_own (channel_choices role) x (placed way q))
  goes_to q None out new e h =
      subst (λ o. Adds (placed way) out new (flat_map (settled (channel_choices role) (drop q.at way)) (one o))) (sym e)
      (adds_nothing (placed way) out new h)
  goes_to q (Some u) out new e h =
      subst (λ o. Adds (placed way) out new (flat_map (settled (channel_choices role) (drop q.at way)) (one o))) (sym e)
      (subst (λ qs. Adds (placed way) out new qs) (sym (append-nil (settled (channel_choices role) (drop q.at way) u)))
      (settles_adds role way q.at (drop q.at way) u out new refl h))

  one_goes : (q : Spot) (b : Bool) (out new : List Spot)
      → (if b then None else goes_by role way q.at (sends q.phase x) out) ≡ Some new
      → Adds (placed way) out new (after_own (channel_choices role) x (placed way q))
  one_goes q true out new h = absurd (none-some new h)
  one_goes q false out new h = goes_to q (sends q.phase x) out new refl h

  pub all_go : (qs out new : List Spot) → go_all false role way x qs out ≡ Some new
      → Adds (placed way) out new (flat_map (after_own (channel_choices role) x) (map (placed way) qs))
  all_go qs out new h =
      subst (λ ps. Adds (placed way) out new ps) (sym (all_mapped (after_own (channel_choices role) x) (placed way) qs))
      (all_add (placed way) (goes false role way x) (λ q. after_own (channel_choices role) x (placed way q))
      (λ q old mid e. one_goes q (is_large q.phase) old mid e) qs out new h)

-- ---- as the other end sends one

pub grown_inside : (role : Role) (x : Packet) (s : Phase) (rest : List Packet) → 0 < length rest
    → grown (channel_choices role) x s rest ≡ at s (rest ++ x ∷ []) ∷ []
grown_inside role x s [] h = absurd (not_less 0 h)
  where
    not_less : (n : ℕ) → n < 0 → ⊥
    not_less n g = omega arith
grown_inside role x s (y ∷ rest) h = refl

module _ (role : Role) (before : List Packet) (x : Packet) where
  abbrev Grows : List Spot → List Spot → Spot → Type 0
  Grows out new q = Adds (placed (before ++ x ∷ [])) out new (after_other (channel_choices role) x (placed before q))

  grows_at_end : (q : Spot) (out new : List Spot) → length before ≤ q.at
      → settles role (length before) (drop (length before) (before ++ x ∷ [])) q.phase out ≡ Some new → Grows out new q
  grows_at_end q out new far h =
      let none : drop q.at before ≡ [] = drop_of_length-le before far in
      let tail : drop (length before) (before ++ x ∷ []) ≡ x ∷ [] = drop_at before (x ∷ []) (length before) refl in
      subst (λ w. Adds (placed (before ++ x ∷ [])) out new (grown (channel_choices role) x q.phase w)) (sym none)
      (settles_adds role (before ++ x ∷ []) (length before) (x ∷ []) q.phase out new tail
      (subst (λ w. settles role (length before) w q.phase out ≡ Some new) tail h))

  grows_inside : (q : Spot) (out new : List Spot) → q.at < length before → kept q out ≡ Some new → Grows out new q
  grows_inside q out new near h =
      let size : length (drop q.at before) ≡ length before - q.at = length-drop q.at before in
      let some : 0 < length (drop q.at before) = omega (arith, size, near) in
      let within : q.at ≤ length before = omega (arith, near) in
      let rest : drop q.at (before ++ x ∷ []) ≡ drop q.at before ++ x ∷ [] = drop-append-le q.at before (x ∷ []) within in
      subst (λ qs. Adds (placed (before ++ x ∷ [])) out new qs) (sym (grown_inside role x q.phase (drop q.at before) some))
      (subst (λ w. Adds (placed (before ++ x ∷ [])) out new (at q.phase w ∷ [])) rest
      (adds_one (placed (before ++ x ∷ [])) q out new (keeps q out new h)))

  one_grows : (q : Spot) (b : Bool) (out new : List Spot) → nat_le (length before) q.at ≡ b
      → (if b then settles role (length before) (drop (length before) (before ++ x ∷ [])) q.phase out else kept q out) ≡ Some new
      → Grows out new q
  one_grows q true out new e h = grows_at_end q out new (leb-true (length before) q.at e) h
  one_grows q false out new e h = grows_inside q out new (leb-false (length before) q.at e) h

  pub all_grow : (qs out new : List Spot) → grow_all role (length before) (before ++ x ∷ []) qs out ≡ Some new
      → Adds (placed (before ++ x ∷ [])) out new (flat_map (after_other (channel_choices role) x) (map (placed before) qs))
  all_grow qs out new h =
      subst (λ ps. Adds (placed (before ++ x ∷ [])) out new ps) (sym (all_mapped (after_other (channel_choices role) x) (placed before) qs))
      (all_add (placed (before ++ x ∷ [])) (grows role (length before) (before ++ x ∷ []))
      (λ q. after_other (channel_choices role) x (placed before q))
      (λ q old mid e. one_grows q (nat_le (length before) q.at) old mid refl e) qs out new h)

-- ---- with nothing on the way

abbrev with_nothing : Spot → Place Phase Packet
with_nothing q = at q.phase []

each_alone : (qs : List Spot) → flat_map (λ q. with_nothing q ∷ []) qs ≡ map with_nothing qs
each_alone [] = refl
each_alone (q ∷ qs) = ap (λ ps. with_nothing q ∷ ps) (each_alone qs)

all_anew : (qs out new : List Spot) → anew qs out ≡ Some new → Adds (placed []) out new (map with_nothing qs)
all_anew qs out new h =
    subst (λ ps. Adds (placed []) out new ps) (each_alone qs)
    (all_add (placed []) anew_at (λ q. with_nothing q ∷ [])
    (λ q old mid e. adds_one (placed []) (spot_at 0 q.phase) old mid (keeps (spot_at 0 q.phase) old mid e)) qs out new h)

nothing_waits : (way : List Packet) (qs : List Spot) → are_at_end (length way) qs ≡ true → map (placed way) qs ≡ map with_nothing qs
nothing_waits way [] h = refl
nothing_waits way (q ∷ qs) h =
    let p = and_parts (nat_le (length way) q.at) (are_at_end (length way) qs) h in
    ap₂ (λ p ps. p ∷ ps) (ap (at q.phase) (drop_of_length-le way (leb-true (length way) q.at p.0))) (nothing_waits way qs p.1)

pub trims_to : (way : List Packet) (qs new : List Spot) → are_at_end (length way) qs ≡ true → anew qs [] ≡ Some new
    → Adds (placed []) [] new (map (placed way) qs)
trims_to way qs new far h =
    subst (λ ps. Adds (placed []) [] new ps) (sym (nothing_waits way qs far)) (all_anew qs [] new h)
