-- The frames on a line where one of the two ends is busy: RNR may stand among them, and what is heard last tells whether the end is busy.
use Rattle.x25_line.proofs.Names.{◌≡◌, ℕ, List, [], ◌∷◌, ◌++◌, Bool, true, false, refl, sym, ◌∙◌, PlainFrame, info, rr, rnr, rej, LinkStation, is_busy, says}
use Rattle.x25_line.proofs.{HealingLines.{LastTells}, Names.{AreNext, Says}, StationSteps.{not_both}}
use Rattle.x25_link.specs.laws.BusyLaw.{said_last, says_free, NoInfo}

-- where no I frame went, V(S) stays
pub silent_stays : (r : ℕ) {n : ℕ} (fs : List PlainFrame) {m : ℕ} → AreNext r n fs m → NoInfo fs → m ≡ n
silent_stays r [] h none = sym h
silent_stays r {n} (rr command nr pf ∷ fs) {m} h none = silent_stays r fs h.3 none
silent_stays r (info ns nr p x ∷ fs) h none = absurd none
silent_stays r (frame ∷ fs) h none = absurd h

pub none_behind : (fs es : List PlainFrame) → NoInfo (fs ++ es) → NoInfo es
none_behind [] es h = h
none_behind (info ns nr p x ∷ fs) es h = absurd h
none_behind (frame ∷ fs) es h = none_behind fs es h

-- ---- what an end will hear of whether the other is busy

abbrev pub hears_busy : Bool → List PlainFrame → Bool
hears_busy b [] = b
hears_busy b (rr command nr pf ∷ fs) = hears_busy false fs
hears_busy b (rnr command nr pf ∷ fs) = hears_busy true fs
hears_busy b (rej command nr pf ∷ fs) = hears_busy false fs
hears_busy b (f ∷ fs) = hears_busy b fs

pub hears_more : (b : Bool) (fs es : List PlainFrame) → hears_busy b (fs ++ es) ≡ hears_busy (hears_busy b fs) es
hears_more b [] es = refl
hears_more b (rr command nr pf ∷ fs) es = hears_more false fs es
hears_more b (rnr command nr pf ∷ fs) es = hears_more true fs es
hears_more b (rej command nr pf ∷ fs) es = hears_more false fs es
hears_more b (frame ∷ fs) es = hears_more b fs es

-- what is heard as busy was said so last
busy_said : (b x : Bool) (fs : List PlainFrame) → (b ≡ true → x ≡ true) → hears_busy b fs ≡ true → said_last x fs ≡ true
busy_said b x [] h e = h e
busy_said b x (rr command nr pf ∷ fs) h e = busy_said false false fs (λ g. g) e
busy_said b x (rnr command nr pf ∷ fs) h e = busy_said true true fs (λ g. g) e
busy_said b x (rej command nr pf ∷ fs) h e = busy_said false x fs (λ g. not_both true refl (sym g)) e
busy_said b x (frame ∷ fs) h e = busy_said b x fs h e

-- it is heard to be free again by an RR or REJ alone
free_said : (fs : List PlainFrame) → hears_busy true fs ≡ false → says_free fs ≡ true
free_said [] e = not_both true refl e
free_said (rr command nr pf ∷ fs) e = refl
free_said (rej command nr pf ∷ fs) e = refl
free_said (frame ∷ fs) e = free_said fs e

-- no RNR is among frames of this kind
pub tells_free : (r nr : ℕ) (gs : List PlainFrame) → LastTells r nr gs → hears_busy false gs ≡ false
tells_free r nr [] h = refl
tells_free r nr (info ns k p x ∷ gs) h = tells_free r k gs h.1
tells_free r nr (rr command k pf ∷ gs) h = tells_free r k gs h.1
tells_free r nr (frame ∷ gs) h = absurd h

-- who is heard to be busy in the end said so last, and who is heard to be free is
abbrev pub Told : Bool → LinkStation → Type 0
Told true s = s.said_busy ≡ true
Told false s = is_busy s ≡ false

by_told : (b : Bool) (t : LinkStation) → (b ≡ true → t.said_busy ≡ true) → (b ≡ false → is_busy t ≡ false) → Told b t
by_told true t f g = f refl
by_told false t f g = g refl

-- more goes behind
pub told_on : (b : Bool) (s t : LinkStation) (out : List PlainFrame) → Told b s → Says s.said_busy t.said_busy (is_busy t) t.peer_busy out
    → (is_busy s ≡ false → is_busy t ≡ false) → Told (hears_busy b out) t
told_on true s t out told h stays = by_told (hears_busy true out) t (λ e. h.said ∙ busy_said true s.said_busy out (λ _. told) e) (λ e. h.free (free_said out e))
told_on false s t out told h stays = by_told (hears_busy false out) t (λ e. h.said ∙ busy_said false s.said_busy out (λ g. not_both true refl (sym g)) e)
    (λ _. stays told)

-- RR or RNR goes first
pub told_first : (b : Bool) {before : Bool} (t : LinkStation) (n : ℕ) (next : List PlainFrame)
    → Says before t.said_busy (is_busy t) t.peer_busy (says b false n true ∷ next) → Told (hears_busy b next) t
told_first true t n next h = by_told (hears_busy true next) t (λ e. h.said ∙ busy_said true true next (λ g. g) e) (λ e. h.free (free_said next e))
told_first false t n next h = by_told (hears_busy false next) t (λ e. h.said ∙ busy_said false false next (λ g. g) e) (λ _. h.free refl)
