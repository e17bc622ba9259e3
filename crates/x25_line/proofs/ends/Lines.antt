-- The lines between two ends over sessions, and what is said of them.
use Rattle.x25_line.proofs.Names.{◌≡◌, ◌≤◌, ◌<◌, ◌+◌, ◌⊎◌, inl, inr, ℕ, zero, suc, List, [], ◌∷◌, ◌++◌, refl, sym, ap, subst, arith, LessAt, nothing, gone}
use Rattle.x25_line.proofs.{Lists.{each_append, each_map}, Losses.{each_less}}
use Rattle.x25_line.{proofs.Names.{hurt, deeper, sabm_of, ua_of, Said, Tells, Sabm, Else, Letter, IsSpoilt, OfSabm, OfTells, AreOf}, specs.laws.Ends.{how_many}}
use Rattle.x25_line.specs.laws.StationClaims.{Each}

-- one or the other
abbrev pub choose : ℕ → Type 0 → Type 0 → Type 0
choose zero A B = A
choose (suc n) A B = B

choose_map : (n : ℕ) (A B C D : Type 0) → (A → C) → (B → D) → choose n A B → choose n C D
choose_map zero A B C D f g h = f h
choose_map (suc n) A B C D f g h = g h

-- one more letter at the back is counted
pub count_push : (k : Said → ℕ) (es : List Letter) (e : Letter) → how_many k (es ++ e ∷ []) ≡ how_many k es + k e.said
count_push k [] e = omega arith
count_push k (x ∷ es) e = omega (arith, count_push k es e)

-- ---- one letter at most is gone

-- a line that lost or damaged one letter has no more of a kind
pub count_less : (k : Said → ℕ) → k Else ≡ 0 → {i : ℕ} {es fs : List Letter} → LessAt IsSpoilt i es fs → how_many k fs ≤ how_many k es
count_less k quiet (nothing j) = omega arith
count_less k quiet (gone e xs) = omega arith
count_less k quiet (hurt e f xs is) = omega (arith, ap (λ x. k x.said) is, quiet)
count_less k quiet (deeper j e xs ys h) = omega (arith, count_less k quiet h)

-- each with an N(R) is of such a session
abbrev pub AllTold : (ℕ → Type 0) → List Letter → Type 0
AllTold P es = Each (λ e. OfTells e.said (P e.session)) es

-- each is of session b, or of an earlier one
abbrev pub AllTags : ℕ → List Letter → Type 0
AllTags b es = Each (λ e. e.session ≤ b) es

pub tags_push : {b : ℕ} (es : List Letter) (e : Letter) → AllTags b es → e.session ≤ b → AllTags b (es ++ e ∷ [])
tags_push {b} es e h k = each_append (λ x. x.session ≤ b) es (e ∷ []) h (k, tt)

pub tags_more : (b c : ℕ) (es : List Letter) → b ≤ c → AllTags b es → AllTags c es
tags_more b c es le = each_map (λ x. x.session ≤ b) (λ x. x.session ≤ c) (λ x h. omega (arith, le, h)) es

-- sessions on a line that lost or damaged one letter are no later
pub tags_less : (b : ℕ) {i : ℕ} {es fs : List Letter} → LessAt IsSpoilt i es fs → AllTags b es → AllTags b fs
tags_less b l h = each_less (λ e. e.session ≤ b) (λ e f is k. rw is k) l h

pub told_push : (P : ℕ → Type 0) (es : List Letter) (e : Letter) → AllTold P es → OfTells e.said (P e.session) → AllTold P (es ++ e ∷ [])
told_push P es e h k = each_append (λ x. OfTells x.said (P x.session)) es (e ∷ []) h (k, tt)

pub told_less : (P : ℕ → Type 0) {i : ℕ} {es fs : List Letter} → LessAt IsSpoilt i es fs → AllTold P es → AllTold P fs
told_less P l h = each_less (λ e. OfTells e.said (P e.session)) (λ e f is k. rw is tt) l h

pub of_tells : (s : Said) {P : Type 0} (Q : Type 0) → (P → Q) → OfTells s P → OfTells s Q
of_tells (Tells c n) Q f h = f h
of_tells s Q f h = tt

pub told_map : (P Q : ℕ → Type 0) → ((n : ℕ) → P n → Q n) → (es : List Letter) → AllTold P es → AllTold Q es
told_map P Q f [] h = tt
told_map P Q f (e ∷ es) h = (of_tells e.said (Q e.session) (f e.session) h.0, told_map P Q f es h.1)

-- of no session
abbrev pub Never : ℕ → Type 0
Never n = ⊥

-- of session q alone
abbrev pub Of : ℕ → ℕ → Type 0
Of q n = n ≡ q

of_sabm : (s : Said) {P : Type 0} (Q : Type 0) → (P → Q) → OfSabm s P → OfSabm s Q
of_sabm Sabm Q f h = f h
of_sabm s Q f h = tt

pub sabm_free : (s : Said) (P : Type 0) → sabm_of s ≡ 0 → OfSabm s P
sabm_free Sabm P h = absurd (omega (arith, h))
sabm_free s P h = tt

-- a line without a SABM has none of a session other than b
pub are_none : (b : ℕ) (es : List Letter) → how_many sabm_of es ≡ 0 → AreOf b es
are_none b [] h = tt
are_none b (e ∷ es) h = (sabm_free e.said (e.session ≡ b) (omega (arith, h)), are_none b es (omega (arith, h)))

pub are_push : (b : ℕ) (es : List Letter) (e : Letter) → AreOf b es → OfSabm e.said (e.session ≡ b) → AreOf b (es ++ e ∷ [])
are_push b es e h k = each_append (λ x. OfSabm x.said (x.session ≡ b)) es (e ∷ []) h (k, tt)

-- what a line loses or spoils leaves each SABM in its session
pub are_less : (b : ℕ) {i : ℕ} {es fs : List Letter} → LessAt IsSpoilt i es fs → AreOf b es → AreOf b fs
are_less b l h = each_less (λ e. OfSabm e.said (e.session ≡ b)) (λ e f is k. rw is tt) l h

-- ---- behind the first UA

-- all is of session q, and no SABM is of an earlier session than b
abbrev pub Clean : ℕ → ℕ → List Letter → Type 0
Clean q b es = AllTold (Of q) es × AreOf b es

abbrev pub AfterUa : ℕ → ℕ → List Letter → Type 0
AfterUa q b [] = Unit {0}
AfterUa q b (e ∷ es) = choose (ua_of e.said) (AfterUa q b es) (Clean q b es)

pub after_none : (q b : ℕ) (es : List Letter) → how_many ua_of es ≡ 0 → AfterUa q b es
after_none q b [] h = tt
after_none q b (e ∷ es) h =
    let here : ua_of e.said ≡ 0 = omega (arith, h) in
    subst (λ n. choose n (AfterUa q b es) (Clean q b es)) (sym here) (after_none q b es (omega (arith, h)))

both : (n : ℕ) (P Q : Type 0) → P → Q → choose n P Q
both zero P Q p q = p
both (suc n) P Q p q = q

pub after_clean : (q b : ℕ) (es : List Letter) → Clean q b es → AfterUa q b es
after_clean q b [] h = tt
after_clean q b (e ∷ es) h = (let rest : Clean q b es = (h.0.1, h.1.1) in both (ua_of e.said) (AfterUa q b es) (Clean q b es) (after_clean q b es rest) rest)

pub after_push : (q b : ℕ) (es : List Letter) (e : Letter) → AfterUa q b es → OfTells e.said (e.session ≡ q) → OfSabm e.said (e.session ≡ b)
    → AfterUa q b (es ++ e ∷ [])
after_push q b [] e h t s = both (ua_of e.said) (Unit {0}) (Clean q b []) tt (tt, tt)
after_push q b (x ∷ es) e h t s =
    choose_map (ua_of x.said) (AfterUa q b es) (Clean q b es) (AfterUa q b (es ++ e ∷ [])) (Clean q b (es ++ e ∷ [])) (λ k. after_push q b es e k t s)
    (λ k. (told_push (Of q) es e k.0 t, are_push b es e k.1 s)) h

after_rest : (q b : ℕ) (e : Letter) (es : List Letter) → how_many ua_of (e ∷ es) ≤ 1 → AfterUa q b (e ∷ es) → AfterUa q b es
after_rest q b e es few h = go (ua_of e.said) refl h
  where
    go : (n : ℕ) → ua_of e.said ≡ n → choose n (AfterUa q b es) (Clean q b es) → AfterUa q b es
    go zero is k = k
    go (suc n) is k = after_none q b es (omega (arith, few, is))

pub after_less : (q b : ℕ) {i : ℕ} {es fs : List Letter} → LessAt IsSpoilt i es fs → how_many ua_of es ≤ 1 → AfterUa q b es → AfterUa q b fs
after_less q b (nothing j) few h = h
after_less q b (gone e xs) few h = after_rest q b e xs few h
after_less q b (hurt e f xs is) few h = rw is (after_rest q b e xs few h)
after_less q b (deeper j e xs ys l) few h =
    choose_map (ua_of e.said) (AfterUa q b xs) (Clean q b xs) (AfterUa q b ys) (Clean q b ys) (λ k. after_less q b l (omega (arith, few)) k)
    (λ k. (told_less (Of q) l k.0, are_less b l k.1)) h

-- without a SABM the session that it is of is any
pub after_base : (q b c : ℕ) (es : List Letter) → how_many sabm_of es ≡ 0 → AfterUa q b es → AfterUa q c es
after_base q b c [] none h = tt
after_base q b c (e ∷ es) none h =
    choose_map (ua_of e.said) (AfterUa q b es) (Clean q b es) (AfterUa q c es) (Clean q c es) (λ k. after_base q b c es (omega (arith, none)) k)
    (λ k. (k.0, are_none c es (omega (arith, none)))) h

-- ---- SABMs

-- One of the present session, where its end isn't in one and told nothing since; or an older one, where `Older` holds and all
-- behind it is of session q.
abbrev pub IsAsked : Type 0 → Type 0 → ℕ → ℕ → Letter → List Letter → Type 0
IsAsked Now Older b q e es = (Now × (e.session ≡ b) × AllTold Never es) ⊎ (Older × (e.session < b) × AllTold (Of q) es)

-- so is each SABM on the line, with what is behind it
abbrev pub AllAsked : Type 0 → Type 0 → ℕ → ℕ → List Letter → Type 0
AllAsked Now Older b q [] = Unit {0}
AllAsked Now Older b q (e ∷ es) = OfSabm e.said (IsAsked Now Older b q e es) × AllAsked Now Older b q es

-- where no SABM is on the line
pub asked_none : (N O : Type 0) (b q : ℕ) (es : List Letter) → how_many sabm_of es ≡ 0 → AllAsked N O b q es
asked_none N O b q [] h = tt
asked_none N O b q (e ∷ es) h = (sabm_free e.said (IsAsked N O b q e es) (omega (arith, h)), asked_none N O b q es (omega (arith, h)))

-- each, as each of them is
asked_by : (N O M P : Type 0) (b c q r : ℕ) → ((e : Letter) (es : List Letter) → IsAsked N O b q e es → IsAsked M P c r e es) → (es : List Letter)
    → AllAsked N O b q es → AllAsked M P c r es
asked_by N O M P b c q r f [] h = tt
asked_by N O M P b c q r f (e ∷ es) h = (of_sabm e.said (IsAsked M P c r e es) (f e es) h.0, asked_by N O M P b c q r f es h.1)

pub asked_map : {N O : Type 0} (M P : Type 0) (b q : ℕ) → (N → M) → (O → P) → (es : List Letter) → AllAsked N O b q es → AllAsked M P b q es
asked_map {N} {O} M P b q f g =
    asked_by N O M P b b q q (λ e es k. elim k [ inl now ↦ inl (f now.0, now.1, now.2) | inr old ↦ inr (g old.0, old.1, old.2) ])

-- none is older
pub asked_now : (N O P : Type 0) (b q r : ℕ) → (es : List Letter) → AreOf b es → AllAsked N O b q es → AllAsked N P b r es
asked_now N O P b q r [] a h = tt
asked_now N O P b q r (e ∷ es) a h = (here e.said a.0 h.0, asked_now N O P b q r es a.1 h.1)
  where
    here : (s : Said) → OfSabm s (e.session ≡ b) → OfSabm s (IsAsked N O b q e es) → OfSabm s (IsAsked N P b r e es)
    here Sabm x y = elim y [ inl now ↦ inl now | inr old ↦ (absurd (omega (arith, x, old.1))) ]
    here s x y = tt

-- none can be older: of any other pair
pub asked_never : (N O P : Type 0) (b q r : ℕ) → (O → ⊥) → (es : List Letter) → AllAsked N O b q es → AllAsked N P b r es
asked_never N O P b q r never = asked_by N O N P b b q r (λ e es k. elim k [ inl now ↦ inl now | inr old ↦ absurd (never old.0) ])

-- the end begins a session: all are older
pub asked_begins : (N O M P : Type 0) (b q r : ℕ) → P → (O → ⊥) → (es : List Letter) → AllAsked N O b q es → AllAsked M P (suc b) r es
asked_begins N O M P b q r p never = asked_by N O M P b (suc b) q r (λ e es k. elim k [
  | inl now ↦ inr (p, omega (arith, now.1), told_map Never (Of r) (λ n none. absurd none) es now.2)
  | inr old ↦ absurd (never old.0)
])

pub asked_push : (N O : Type 0) (b q : ℕ) (es : List Letter) (e : Letter) → AllAsked N O b q es → OfTells e.said ((N → ⊥) × (e.session ≡ q))
    → OfSabm e.said (N × (e.session ≡ b)) → AllAsked N O b q (es ++ e ∷ [])
asked_push N O b q [] e h t s = (of_sabm e.said (IsAsked N O b q e []) (λ k. inl (k.0, k.1, tt)) s, tt)
asked_push N O b q (x ∷ es) e h t s = (
  of_sabm x.said (IsAsked N O b q x (es ++ e ∷ []))
      (λ k. elim k [
        | inl now ↦ inl (now.0, now.1, told_push Never es e now.2 (of_tells e.said ⊥ (λ u. u.0 now.0) t))
        | inr old ↦ inr (old.0, old.1, told_push (Of q) es e old.2 (of_tells e.said (e.session ≡ q) (λ u. u.1) t))
      ]) h.0,
  asked_push N O b q es e h.1 t s,
)

pub asked_less : (N O : Type 0) (b q : ℕ) {i : ℕ} {es fs : List Letter} → LessAt IsSpoilt i es fs → AllAsked N O b q es → AllAsked N O b q fs
asked_less N O b q (nothing j) h = h
asked_less N O b q (gone e xs) h = h.1
asked_less N O b q (hurt e f xs is) h = rw is (tt, h.1)
asked_less N O b q (deeper j e xs ys l) h = (
  of_sabm e.said (IsAsked N O b q e ys)
      (λ k. elim k [ inl now ↦ inl (now.0, now.1, told_less Never l now.2) | inr old ↦ inr (old.0, old.1, told_less (Of q) l old.2) ]) h.0,
  asked_less N O b q l h.1,
)
