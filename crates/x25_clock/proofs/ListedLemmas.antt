-- The list of a clock, and what it has of each channel.
use Rattle.x25_clock.proofs.Names.{◌≡◌, ℕ, zero, suc, ◌+◌, ◌<◌, ◌≤◌, ◌==◌, nat_le, List, [], ◌∷◌, ◌++◌, length, map, drop, slice_index_or, Bool, true, false}
use Rattle.x25_clock.proofs.Names.{not, if◌then◌else◌, Option, Some, None, refl, sym, ap, subst, ◌∙◌, arith, ◌⊎◌, inl, inr, true≢false, eqb-true, eq-eqb}
use Rattle.x25_clock.proofs.Names.{Awaits, Nothing, Times, Wait, channels_from, is_past, sooner, wait_after, first_of, overdue_of, renewed}
use Rattle.std.proofs.lemmas.Bool.Decides.{leb_tells}
use Rattle.x25_clock.specs.{Awaited.{AreListed, AwaitsNone}, Clock.{nothing_on, rotated, wait_at, spread, unmoved_of}}

-- ---- what a list has of a channel

pub here : (h : ℕ) (w : Wait) (ws : List Wait) → w.channel ≡ h → wait_at h (w ∷ ws) ≡ w
here h w ws is = ap (λ (b : Bool). let x : Wait = if b then w else wait_at h ws in x) (eq-eqb w.channel h is)

pub passed : (h : ℕ) (w : Wait) (ws : List Wait) → (w.channel ≡ h → ⊥) → wait_at h (w ∷ ws) ≡ wait_at h ws
passed h w ws other = by (w.channel == h) refl
  where
    by : (b : Bool) → (w.channel == h) ≡ b → (let x : Wait = if b then w else wait_at h ws in x) ≡ wait_at h ws
    by false is = refl
    by true is = absurd (other (eqb-true w.channel h is))

pub is_on : (h : ℕ) (ws : List Wait) → (wait_at h ws).channel ≡ h
is_on h [] = refl
is_on h (w ∷ ws) = by (is_on h ws) (w.channel == h) refl
  where
    by : (wait_at h ws).channel ≡ h → (b : Bool) → (w.channel == h) ≡ b → (let x : Wait = if b then w else wait_at h ws in x.channel) ≡ h
    by rest true is = eqb-true w.channel h is
    by rest false is = rest

-- none of a lower channel
pub below : (h most past : ℕ) (ws : List Wait) → AreListed most past ws → h ≤ past → wait_at h ws ≡ nothing_on h
below h most past [] are low = refl
below h most past (w ∷ ws) are low =
    let high : past < w.channel = are.0 in
    passed h w ws (λ is. omega (arith, is, low, high)) ∙ below h most w.channel ws are.2 (omega (arith, low, high))

-- none of a higher one
pub above : (h most past : ℕ) (ws : List Wait) → AreListed most past ws → most < h → wait_at h ws ≡ nothing_on h
above h most past [] are high = refl
above h most past (w ∷ ws) are high =
    let low : w.channel ≤ most = are.1 in
    passed h w ws (λ is. omega (arith, is, low, high)) ∙ above h most w.channel ws are.2 high

-- ---- what it has of all

pub none_listed : (n first : ℕ) → spread n first [] ≡ channels_from first n
none_listed zero first = refl
none_listed (suc n) first = ap (λ (l : List Wait). nothing_on first ∷ l) (none_listed n (first + 1))

pub spread_length : (n first : ℕ) (ws : List Wait) → length (spread n first ws) ≡ n
spread_length zero first ws = refl
spread_length (suc n) first ws = ap suc (spread_length n (first + 1) ws)

spread_past : (n first : ℕ) (w : Wait) (ws : List Wait) → w.channel < first → spread n first (w ∷ ws) ≡ spread n first ws
spread_past zero first w ws low = refl
spread_past (suc n) first w ws low =
    ap (λ (x : Wait). x ∷ spread n (first + 1) (w ∷ ws)) (passed first w ws (λ is. omega (arith, is, low)))
    ∙ ap (λ (l : List Wait). wait_at first ws ∷ l) (spread_past n (first + 1) w ws (omega (arith, low)))

pub spread_map : (f : Wait → Wait) (n first : ℕ) (old new : List Wait) → ((h : ℕ) → first ≤ h → h < first + n → wait_at h new ≡ f (wait_at h old))
    → spread n first new ≡ map f (spread n first old)
spread_map f zero first old new same = refl
spread_map f (suc n) first old new same =
    ap (λ (x : Wait). x ∷ spread n (first + 1) new) (same first (omega arith) (omega arith))
    ∙ ap (λ (l : List Wait). f (wait_at first old) ∷ l) (spread_map f n (first + 1) old new (λ h low high. same h (omega (arith, low)) (omega (arith, high))))

none_sooner : (x : Option ℕ) → sooner x None ≡ x
none_sooner None = refl
none_sooner (Some moment) = refl

nothing_sooner : (x : Option ℕ) → sooner (sooner x None) None ≡ x
nothing_sooner x = none_sooner (sooner x None) ∙ none_sooner x

-- the first moment is of one that is listed
pub same_first : (n past most : ℕ) (ws : List Wait) (x : Option ℕ) → past + n ≡ most → AreListed most past ws → first_of x (spread n (past + 1) ws)
    ≡ first_of x ws
same_first zero past most [] x is are = refl
same_first zero past most (w ∷ ws) x is are = (let low = are.0 in let high = are.1 in absurd (omega (arith, is, low, high)))
same_first (suc n) past most [] x is are =
    ap (λ (y : Option ℕ). first_of y (spread n (past + 1 + 1) [])) (nothing_sooner x) ∙ same_first n (past + 1) most [] x (omega (arith, is)) tt
same_first (suc n) past most (w ∷ ws) x is are = test (λ y more. same_first n (past + 1) most ws y (omega (arith, is)) more)
    (λ more. same_first n (past + 1) most (w ∷ ws) x (omega (arith, is)) more) (w.channel == past + 1) refl
  where
    low : past < w.channel
    low = are.0

    test : ((y : Option ℕ) → AreListed most (past + 1) ws → first_of y (spread n (past + 1 + 1) ws) ≡ first_of y ws)
        → (AreListed most (past + 1) (w ∷ ws) → first_of x (spread n (past + 1 + 1) (w ∷ ws)) ≡ first_of x (w ∷ ws))
        → (b : Bool) → (w.channel == past + 1) ≡ b
        → first_of x ((let y : Wait = if b then w else wait_at (past + 1) ws in y) ∷ spread n (past + 1 + 1) (w ∷ ws))
        ≡ first_of (sooner (sooner x w.until) w.rotates) ws
    test behind all true same =
        let on : w.channel ≡ past + 1 = eqb-true w.channel (past + 1) same in
        let both : Option ℕ = sooner (sooner x w.until) w.rotates in
        ap (λ (l : List Wait). first_of both l) (spread_past n (past + 1 + 1) w ws (omega (arith, on)))
        ∙ behind both (subst (λ (k : ℕ). AreListed most k ws) on are.2)
    test behind all false other =
        let more : past + 1 < w.channel = omega (arith, low, (λ (on : w.channel ≡ past + 1). true≢false (sym (eq-eqb w.channel (past + 1) on) ∙ other))) in
        ap (λ (y : Wait). first_of (sooner (sooner x y.until) y.rotates) (spread n (past + 1 + 1) (w ∷ ws)))
        (below (past + 1) most w.channel ws are.2 (omega (arith, more)))
        ∙ ap (λ (y : Option ℕ). first_of y (spread n (past + 1 + 1) (w ∷ ws))) (nothing_sooner x)
        ∙ all (more, are.1, are.2)

-- and so is what is due first
pub same_overdue : (now n past most : ℕ) (ws : List Wait) → past + n ≡ most → AreListed most past ws → overdue_of now (spread n (past + 1) ws)
    ≡ overdue_of now ws
same_overdue now zero past most [] is are = refl
same_overdue now zero past most (w ∷ ws) is are = (let low = are.0 in let high = are.1 in absurd (omega (arith, is, low, high)))
same_overdue now (suc n) past most [] is are = same_overdue now n (past + 1) most [] (omega (arith, is)) tt
same_overdue now (suc n) past most (w ∷ ws) is are = test (λ more. same_overdue now n (past + 1) most ws (omega (arith, is)) more)
    (λ more. same_overdue now n (past + 1) most (w ∷ ws) (omega (arith, is)) more) (w.channel == past + 1) refl
  where
    low : past < w.channel
    low = are.0

    test : (AreListed most (past + 1) ws → overdue_of now (spread n (past + 1 + 1) ws) ≡ overdue_of now ws)
        → (AreListed most (past + 1) (w ∷ ws) → overdue_of now (spread n (past + 1 + 1) (w ∷ ws)) ≡ overdue_of now (w ∷ ws))
        → (b : Bool) → (w.channel == past + 1) ≡ b
        → overdue_of now ((let y : Wait = if b then w else wait_at (past + 1) ws in y) ∷ spread n (past + 1 + 1) (w ∷ ws)) ≡ overdue_of now (w ∷ ws)
    test behind all true same =
        let on : w.channel ≡ past + 1 = eqb-true w.channel (past + 1) same in
        ap (λ (o : Option Wait). let y : Option Wait = if is_past now w.until then Some w else o in y)
        (ap (overdue_of now) (spread_past n (past + 1 + 1) w ws (omega (arith, on)))
        ∙ behind (subst (λ (k : ℕ). AreListed most k ws) on are.2))
    test behind all false other =
        let more : past + 1 < w.channel = omega (arith, low, (λ (on : w.channel ≡ past + 1). true≢false (sym (eq-eqb w.channel (past + 1) on) ∙ other))) in
        ap (λ (y : Wait). overdue_of now (y ∷ spread n (past + 1 + 1) (w ∷ ws))) (below (past + 1) most w.channel ws are.2 (omega (arith, more)))
        ∙ all (more, are.1, are.2)

-- and the first of which a data packet wasn't acknowledged
pub same_unmoved : (now n past most : ℕ) (ws : List Wait) → past + n ≡ most → AreListed most past ws → unmoved_of now (spread n (past + 1) ws)
    ≡ unmoved_of now ws
same_unmoved now zero past most [] is are = refl
same_unmoved now zero past most (w ∷ ws) is are = (let low = are.0 in let high = are.1 in absurd (omega (arith, is, low, high)))
same_unmoved now (suc n) past most [] is are = same_unmoved now n (past + 1) most [] (omega (arith, is)) tt
same_unmoved now (suc n) past most (w ∷ ws) is are = test (λ more. same_unmoved now n (past + 1) most ws (omega (arith, is)) more)
    (λ more. same_unmoved now n (past + 1) most (w ∷ ws) (omega (arith, is)) more) (w.channel == past + 1) refl
  where
    low : past < w.channel
    low = are.0

    test : (AreListed most (past + 1) ws → unmoved_of now (spread n (past + 1 + 1) ws) ≡ unmoved_of now ws)
        → (AreListed most (past + 1) (w ∷ ws) → unmoved_of now (spread n (past + 1 + 1) (w ∷ ws)) ≡ unmoved_of now (w ∷ ws))
        → (b : Bool) → (w.channel == past + 1) ≡ b
        → unmoved_of now ((let y : Wait = if b then w else wait_at (past + 1) ws in y) ∷ spread n (past + 1 + 1) (w ∷ ws)) ≡ unmoved_of now (w ∷ ws)
    test behind all true same =
        let on : w.channel ≡ past + 1 = eqb-true w.channel (past + 1) same in
        ap (λ (o : Option ℕ). let y : Option ℕ = if is_past now w.rotates then Some w.channel else o in y)
        (ap (unmoved_of now) (spread_past n (past + 1 + 1) w ws (omega (arith, on)))
        ∙ behind (subst (λ (k : ℕ). AreListed most k ws) on are.2))
    test behind all false other =
        let more : past + 1 < w.channel = omega (arith, low, (λ (on : w.channel ≡ past + 1). true≢false (sym (eq-eqb w.channel (past + 1) on) ∙ other))) in
        ap (λ (y : Wait). unmoved_of now (y ∷ spread n (past + 1 + 1) (w ∷ ws))) (below (past + 1) most w.channel ws are.2 (omega (arith, more)))
        ∙ all (more, are.1, are.2)

-- ---- a wait begins anew

-- each wait is changed, which keeps its channel, and one on which nothing is under way stays so
module _ (f : Wait → Wait) (keeps : (w : Wait) → (f w).channel ≡ w.channel) (none : (h : ℕ) → f (nothing_on h) ≡ nothing_on h) where
  mapped_at : (h : ℕ) (ws : List Wait) → wait_at h (map f ws) ≡ f (wait_at h ws)
  mapped_at h [] = sym (none h)
  mapped_at h (w ∷ ws) =
      ap (λ (c : ℕ). let x : Wait = if c == h then f w else wait_at h (map f ws) in x) (keeps w)
      ∙ by (mapped_at h ws) (w.channel == h)
    where
      by : wait_at h (map f ws) ≡ f (wait_at h ws) → (b : Bool)
          → (let x : Wait = if b then f w else wait_at h (map f ws) in x) ≡ f (let x : Wait = if b then w else wait_at h ws in x)
      by rest true = refl
      by rest false = rest

  pub spread_mapped : (n first : ℕ) (ws : List Wait) → spread n first (map f ws) ≡ map f (spread n first ws)
  spread_mapped n first ws = spread_map f n first ws (map f ws) (λ h low high. mapped_at h ws)

  pub listed_mapped : (most past : ℕ) (ws : List Wait) → AreListed most past ws → AreListed most past (map f ws)
  listed_mapped most past [] are = tt
  listed_mapped most past (w ∷ ws) are =
      let on : w.channel ≡ (f w).channel = sym (keeps w) in (
        subst (λ (c : ℕ). past < c) on are.0,
        subst (λ (c : ℕ). c ≤ most) on are.1,
        subst (λ (c : ℕ). AreListed most c (map f ws)) on (listed_mapped most w.channel ws are.2),
      )

module _ (times : Times) (now k : ℕ) where
  pub renewed_none : (h : ℕ) → renewed times now k (nothing_on h) ≡ nothing_on h
  renewed_none h = by (not (h == k))
    where
      by : (b : Bool) → (let x : Wait = if b then nothing_on h else nothing_on h in x) ≡ nothing_on h
      by true = refl
      by false = refl

  pub rotated_none : (h : ℕ) → rotated times now k (nothing_on h) ≡ nothing_on h
  rotated_none h = by (not (h == k))
    where
      by : (b : Bool) → (let x : Wait = if b then nothing_on h else nothing_on h in x) ≡ nothing_on h
      by true = refl
      by false = refl

-- ---- one more in a list

pub still_listed : (most more past : ℕ) (ws : List Wait) → most ≤ more → AreListed most past ws → AreListed more past ws
still_listed most more past [] low are = tt
still_listed most more past (w ∷ ws) low are = (are.0, (let high = are.1 in omega (arith, low, high)), still_listed most more w.channel ws low are.2)

pub one_more_listed : (most past : ℕ) (ws : List Wait) (w : Wait) → AreListed most past ws → past ≤ most → most < w.channel
    → AreListed w.channel past (ws ++ w ∷ [])
one_more_listed most past [] w are low high = (omega (arith, low, high), omega arith, tt)
one_more_listed most past (x ∷ ws) w are low high =
    (are.0, (let below_it = are.1 in omega (arith, below_it, high)), one_more_listed most x.channel ws w are.2 are.1 high)

pub listed_short : (most past : ℕ) (ws : List Wait) → AreListed most past ws → past ≤ most → past + length ws ≤ most
listed_short most past [] are low = omega (arith, low)
listed_short most past (w ∷ ws) are low =
    let high : past < w.channel = are.0 in
    let rest : w.channel + length ws ≤ most = listed_short most w.channel ws are.2 are.1 in
    omega (arith, high, rest)

pub more_other : (h : ℕ) (ws : List Wait) (w : Wait) → (w.channel ≡ h → ⊥) → wait_at h (ws ++ w ∷ []) ≡ wait_at h ws
more_other h [] w other = passed h w [] other
more_other h (x ∷ ws) w other = ap (λ (y : Wait). let z : Wait = if x.channel == h then x else y in z) (more_other h ws w other)

pub more_here : (h most past : ℕ) (ws : List Wait) (w : Wait) → AreListed most past ws → most < h → w.channel ≡ h → wait_at h (ws ++ w ∷ []) ≡ w
more_here h most past [] w are high is = here h w [] is
more_here h most past (x ∷ ws) w are high is =
    (let low = are.1 in passed h x (ws ++ w ∷ []) (λ same. omega (arith, same, low, high))) ∙ more_here h most x.channel ws w are.2 high is

-- ---- those from a place on

pub from_place : (n : ℕ) (ws : List Wait) (d : Wait) → n < length ws → drop n ws ≡ slice_index_or ws n d ∷ drop (suc n) ws
from_place zero (w ∷ ws) d low = refl
from_place (suc n) (w ∷ ws) d low = from_place n ws d (omega (arith, low))
from_place n [] d low = absurd (omega (arith, low))

listed_behind : (n most past : ℕ) (ws : List Wait) (d : Wait) → n < length ws → AreListed most past ws
    → AreListed most (slice_index_or ws n d).channel (drop (suc n) ws)
listed_behind zero most past (w ∷ ws) d low are = are.2
listed_behind (suc n) most past (w ∷ ws) d low are = listed_behind n most w.channel ws d (omega (arith, low)) are.2
listed_behind n most past [] d low are = absurd (omega (arith, low))

-- the first of these is of the channel
pub first_here : (n h : ℕ) (ws : List Wait) (d : Wait) → n < length ws → (slice_index_or ws n d).channel ≡ h → wait_at h (drop n ws) ≡ slice_index_or ws n d
first_here n h ws d low is = ap (wait_at h) (from_place n ws d low) ∙ here h (slice_index_or ws n d) (drop (suc n) ws) is

-- of another
pub first_passed : (n h : ℕ) (ws : List Wait) (d : Wait) → n < length ws → ((slice_index_or ws n d).channel ≡ h → ⊥) → wait_at h (drop n ws)
    ≡ wait_at h (drop (suc n) ws)
first_passed n h ws d low other = ap (wait_at h) (from_place n ws d low) ∙ passed h (slice_index_or ws n d) (drop (suc n) ws) other

-- of a higher one
pub first_higher : (n h most past : ℕ) (ws : List Wait) (d : Wait) → n < length ws → AreListed most past ws → h < (slice_index_or ws n d).channel
    → wait_at h (drop n ws) ≡ nothing_on h
first_higher n h most past ws d low are high =
    first_passed n h ws d low (λ is. omega (arith, is, high))
    ∙ below h most (slice_index_or ws n d).channel (drop (suc n) ws) (listed_behind n most past ws d low are) (omega (arith, high))

-- the old list is read on from this place
abbrev pub ReadsOn : List Wait → ℕ → ℕ → Type 0
ReadsOn old at past = (h : ℕ) → past < h → wait_at h (drop at old) ≡ wait_at h old

-- ---- behind a step

-- what is under way behind it is on that channel
pub more_listed : (times : Times) (now : ℕ) (old next : List Wait) (at past channel : ℕ) (a : Awaits) (o : Option ℕ) (w : Wait) → AreListed past 0 next
    → ReadsOn old at past → past < channel → w ≡ wait_at channel (drop at old)
    → AreListed channel 0 (next ++ wait_after times now a o w ∷ [])
more_listed times now old next at past channel a o w listed rest low is =
    let on : w.channel ≡ channel = ap (λ (y : Wait). y.channel) (is ∙ rest channel low) ∙ is_on channel old in
    let x : Wait = wait_after times now a o w in
    subst (λ (c : ℕ). AreListed c 0 (next ++ x ∷ [])) on (one_more_listed past 0 next x listed (omega arith) (omega (arith, low, on)))

module _ (times : Times) (now : ℕ) (awaited : ℕ → Awaits) (first : ℕ → Option ℕ) where
  abbrev pub heeds : Wait → Wait
  heeds w = wait_after times now (awaited w.channel) (first w.channel) w

  -- where nothing is under way, nothing is left of what was
  pub none_left : (h : ℕ) (ws : List Wait) → awaited h ≡ Nothing → first h ≡ None → heeds (wait_at h ws) ≡ nothing_on h
  none_left h ws none all =
      let w : Wait = wait_at h ws in
      let on : w.channel ≡ h = is_on h ws in
      ap (λ (a : Awaits). wait_after times now a (first w.channel) w) (ap awaited on ∙ none)
      ∙ ap (λ (o : Option ℕ). wait_after times now Nothing o w) (ap first on ∙ all) ∙ ap nothing_on on

  module _ (old : List Wait) where
    -- the list that is made has what is under way up to a channel
    abbrev pub AreHeard : List Wait → ℕ → Type 0
    AreHeard next past = (h : ℕ) → 1 ≤ h → h ≤ past → wait_at h next ≡ heeds (wait_at h old)

    -- on the channels between nothing is listed, before it and behind it
    idle_between : (next : List Wait) (past end h : ℕ) → AreListed past 0 next → past < h → h < end → AwaitsNone awaited first past end → wait_at h next
        ≡ heeds (wait_at h old)
    idle_between next past end h listed low high none =
        let at_h = none h low high in above h past 0 next listed low ∙ sym (none_left h old at_h.0 at_h.1)

    -- all channels up to an end
    pub all_heard : (next : List Wait) (past end : ℕ) → AreListed past 0 next → AreHeard next past → AwaitsNone awaited first past end → (h : ℕ) → 1 ≤ h
        → h < end → wait_at h next ≡ heeds (wait_at h old)
    all_heard next past end listed heard none h low high = by (leb_tells h past)
      where
        by : ((nat_le h past ≡ true) × (h ≤ past)) ⊎ ((nat_le h past ≡ false) × (past < h)) → wait_at h next ≡ heeds (wait_at h old)
        by (inl up_to) = heard h low up_to.1
        by (inr behind) = idle_between next past end h listed behind.1 high none

    -- one more
    pub one_heard : (next : List Wait) (at past channel : ℕ) (a : Awaits) (o : Option ℕ) (w : Wait) → AreListed past 0 next → ReadsOn old at past
        → AreHeard next past → past < channel → AwaitsNone awaited first past channel → a ≡ awaited channel → o ≡ first channel
        → w ≡ wait_at channel (drop at old) → AreHeard (next ++ wait_after times now a o w ∷ []) channel
    one_heard next at past channel a o w listed rest heard low none same same_first is h least high = by (h == channel) refl
      where
        x : Wait
        x = wait_after times now a o w

        was : w ≡ wait_at channel old
        was = is ∙ rest channel low

        on : w.channel ≡ channel
        on = ap (λ (y : Wait). y.channel) was ∙ is_on channel old

        now_is : x ≡ heeds (wait_at channel old)
        now_is =
            ap (λ (b : Awaits). wait_after times now b o w) (same ∙ ap awaited (sym on))
            ∙ ap (λ (p : Option ℕ). wait_after times now (awaited w.channel) p w) (same_first ∙ ap first (sym on))
            ∙ ap heeds was

        by : (b : Bool) → (h == channel) ≡ b → wait_at h (next ++ x ∷ []) ≡ heeds (wait_at h old)
        by true at_it =
            let it : h ≡ channel = eqb-true h channel at_it in
            more_here h past 0 next x listed (omega (arith, low, it)) (on ∙ sym it) ∙ now_is ∙ ap (λ (c : ℕ). heeds (wait_at c old)) (sym it)
        by false other =
            let differ : h ≡ channel → ⊥ = λ it. true≢false (sym (eq-eqb h channel it) ∙ other) in
            more_other h next x (λ it. differ (sym it ∙ on)) ∙ all_heard next past channel listed heard none h least (omega (arith, high, differ))
