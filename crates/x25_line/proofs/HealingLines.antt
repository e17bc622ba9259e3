-- The frames that stand on a line, and those among them that matter while an end heals.
use Rattle.x25_line.proofs.Names.{◌≡◌, ℕ, ◌+◌, ◌%◌, ◌≤◌, List, [], ◌∷◌, ◌++◌, false, Ok, refl, arith, length, ap, true, ◌&&◌, Role, PlainFrame, info, rr, rnr}
use Rattle.std.{proofs.lemmas.Bool.{and_left, and_right}, specs.Prelude.{not}}
use Rattle.x25_line.proofs.{Lists.{each_append}, Names.{rej, spelling_of, frame_of, ReadsSpelled, AreNext, AreWhole, Entry, sent_in}}
use Rattle.x25_line.specs.laws.StationClaims.{Each}

-- ---- what octets on a line read as

-- the octets on a line read as these frames
abbrev pub Reads : Role → ℕ → List Entry → List PlainFrame → Type 0
Reads from n1 [] [] = Unit {0}
Reads from n1 (e ∷ es) (f ∷ fs) = (frame_of from n1 e.octets ≡ Ok f) × Reads from n1 es fs
Reads from n1 [] (f ∷ fs) = ⊥
Reads from n1 (e ∷ es) [] = ⊥

pub reads_more : ReadsSpelled → (from : Role) (n1 : ℕ) (given : List (List ℕ)) (session : ℕ) (es : List Entry) (fs gs : List PlainFrame) → Reads from n1 es fs
    → AreWhole n1 given gs
    → Reads from n1 (es ++ sent_in session from gs) (fs ++ gs)
reads_more reads from n1 given session [] [] gs h whole = spelled gs whole
  where
    spelled : (gs : List PlainFrame) → AreWhole n1 given gs → Reads from n1 (sent_in session from gs) gs
    spelled [] whole = tt
    spelled (f ∷ gs) whole =
        let w = whole.0 in
        (reads from n1 f (spelling_of from f) (record { in_range = w.in_range; carries = w.carries; within = w.within; spelling = refl }), spelled gs whole.1)
reads_more reads from n1 given session (e ∷ es) (f ∷ fs) gs h whole = (h.0, reads_more reads from n1 given session es fs gs h.1 whole)
reads_more reads from n1 given session es fs gs h whole = absurd h

pub reads_none : (from : Role) (n1 : ℕ) (es : List Entry) (fs : List PlainFrame) → Reads from n1 es fs → es ≡ [] → fs ≡ []
reads_none from n1 [] [] h e = refl
reads_none from n1 (o ∷ es) (f ∷ fs) h e = absurd (omega (arith, ap length e))
reads_none from n1 es fs h e = absurd h

-- ---- frames to the other end: the I frames that are awaited, one after another, and nothing that asks

abbrev pub Ahead : ℕ → List PlainFrame → ℕ → Type 0
Ahead n [] m = n ≡ m
Ahead n (info ns nr p x ∷ fs) m = (ns ≡ n % 8) × (p ≡ false) × Ahead (n + 1) fs m
Ahead n (rr command nr pf ∷ fs) m = ((command && pf) ≡ false) × Ahead n fs m
Ahead n (rnr command nr pf ∷ fs) m = ((command && pf) ≡ false) × Ahead n fs m
Ahead n (rej command nr pf ∷ fs) m = (pf ≡ false) × Ahead n fs m
Ahead n (f ∷ fs) m = ⊥

pub ahead_low : (n : ℕ) (fs : List PlainFrame) {m : ℕ} → Ahead n fs m → n ≤ m
ahead_low n [] h = omega (arith, h)
ahead_low n (info ns nr p x ∷ fs) {m} h = omega (arith, ahead_low (n + 1) fs h.2)
ahead_low n (rr command nr pf ∷ fs) {m} h = ahead_low n fs h.1
ahead_low n (rej command nr pf ∷ fs) {m} h = ahead_low n fs h.1
ahead_low n (rnr command nr pf ∷ fs) {m} h = ahead_low n fs h.1
ahead_low n (frame ∷ fs) h = absurd h

-- frames that go on from n to m, and behind them frames that go on from m to k
pub ahead_more : (n m k : ℕ) (fs es : List PlainFrame) → Ahead n fs m → Ahead m es k → Ahead n (fs ++ es) k
ahead_more n m k [] es h g = rw h g
ahead_more n m k (info ns nr p x ∷ fs) es h g = (h.0, h.1, ahead_more (n + 1) m k fs es h.2 g)
ahead_more n m k (rr command nr pf ∷ fs) es h g = (h.0, ahead_more n m k fs es h.1 g)
ahead_more n m k (rej command nr pf ∷ fs) es h g = (h.0, ahead_more n m k fs es h.1 g)
ahead_more n m k (rnr command nr pf ∷ fs) es h g = (h.0, ahead_more n m k fs es h.1 g)
ahead_more n m k (frame ∷ fs) es h g = absurd h

-- what the sending rule sends is of this kind
pub next_ahead : (r n : ℕ) (fs : List PlainFrame) (m : ℕ) → AreNext r n fs m → Ahead n fs m
next_ahead r n [] m h = h
next_ahead r n (info ns nr p x ∷ fs) m h = (h.0, h.2, next_ahead r (n + 1) fs m h.3)
next_ahead r n (rr command nr pf ∷ fs) m h = (and_left command pf h.0, next_ahead r n fs m h.3)
next_ahead r n (frame ∷ fs) m h = absurd h

-- ---- the same without I frames, as in recovery, or while the peer is busy

-- RR, RNR and REJ that ask for no answer
abbrev pub IsMild : PlainFrame → Type 0
IsMild (rr command nr pf) = (command && pf) ≡ false
IsMild (rnr command nr pf) = (command && pf) ≡ false
IsMild (rej command nr pf) = pf ≡ false
IsMild f = ⊥

-- RR, RNR and REJ that ask for no answer
abbrev pub Mild : List PlainFrame → Type 0
Mild fs = Each IsMild fs

pub mild_ahead : (n : ℕ) (fs : List PlainFrame) → Mild fs → Ahead n fs n
mild_ahead n [] h = refl
mild_ahead n (rr command nr pf ∷ fs) h = (h.0, mild_ahead n fs h.1)
mild_ahead n (rej command nr pf ∷ fs) h = (h.0, mild_ahead n fs h.1)
mild_ahead n (rnr command nr pf ∷ fs) h = (h.0, mild_ahead n fs h.1)
mild_ahead n (frame ∷ fs) h = absurd h.0

-- so are those and more of them
pub mild_more : (fs es : List PlainFrame) → Mild fs → Mild es → Mild (fs ++ es)
mild_more fs es h g = each_append IsMild fs es h g

-- where V(S) stays, no I frame went
pub held_mild : (r : ℕ) {n : ℕ} (fs : List PlainFrame) {m : ℕ} → AreNext r n fs m → m ≤ n → Mild fs
held_mild r [] h le = tt
held_mild r {n} (rr command nr pf ∷ fs) {m} h le = (and_left command pf h.0, held_mild r fs h.3 le)
held_mild r {n} (info ns nr p x ∷ fs) {m} h le = absurd (omega (arith, le, ahead_low (n + 1) fs (next_ahead r (n + 1) fs m h.3)))
held_mild r (frame ∷ fs) h le = absurd h

-- I frames, RR, and RNR that polls, none with F=1
abbrev pub IsNoFinal : PlainFrame → Type 0
IsNoFinal (info ns n p x) = p ≡ false
IsNoFinal (rr command n pf) = (not command && pf) ≡ false
IsNoFinal (rnr true n true) = Unit {0}
IsNoFinal f = ⊥

-- I frames, RR, and RNR that polls, none with F=1
abbrev pub NoFinal : List PlainFrame → Type 0
NoFinal fs = Each IsNoFinal fs

pub no_final_more : (fs es : List PlainFrame) → NoFinal fs → NoFinal es → NoFinal (fs ++ es)
no_final_more fs es h g = each_append IsNoFinal fs es h g

-- what the sending rule sends is of this kind
pub next_no_final : (r n : ℕ) (fs : List PlainFrame) (m : ℕ) → AreNext r n fs m → NoFinal fs
next_no_final r n [] m h = tt
next_no_final r n (info ns nr p x ∷ fs) m h = (h.2, next_no_final r (n + 1) fs m h.3)
next_no_final r n (rr command nr pf ∷ fs) m h = (and_right (not command) pf h.2, next_no_final r n fs m h.3)
next_no_final r n (frame ∷ fs) m h = absurd h

-- ---- frames back: I frames and RR, none with F=1, the last of which has the number r, where `nr` came before them

-- none is final, and the last N(R), or nr where there is none, is r modulo 8
abbrev pub LastTells : ℕ → ℕ → List PlainFrame → Type 0
LastTells r nr [] = nr ≡ r % 8
LastTells r nr (info ns n p x ∷ gs) = (p ≡ false) × LastTells r n gs
LastTells r nr (rr command n pf ∷ gs) = ((not command && pf) ≡ false) × LastTells r n gs
LastTells r nr (g ∷ gs) = ⊥

-- or none is there, and all up to r is acknowledged
abbrev pub Reports : ℕ → ℕ → List PlainFrame → Type 0
Reports r a [] = a ≡ r
Reports r a (info ns n p x ∷ gs) = (p ≡ false) × LastTells r n gs
Reports r a (rr command n pf ∷ gs) = ((not command && pf) ≡ false) × LastTells r n gs
Reports r a (g ∷ gs) = ⊥

-- such frames with the number r alone
pub next_tells : (r nr n m : ℕ) (es : List PlainFrame) → nr ≡ r % 8 → AreNext r n es m → LastTells r nr es
next_tells r nr n m [] e h = e
next_tells r nr n m (info ns k p x ∷ es) e h = (h.2, next_tells r k (n + 1) m es h.1 h.3)
next_tells r nr n m (rr command k pf ∷ es) e h = (and_right (not command) pf h.2, next_tells r k n m es h.1 h.3)
next_tells r nr n m (frame ∷ es) e h = absurd h

-- at least one frame with the number r goes behind them, whatever number they had
some_tells : (r nr n m : ℕ) (es : List PlainFrame) → (es ≡ [] → ⊥) → AreNext r n es m → LastTells r nr es
some_tells r nr n m [] some h = absurd (some refl)
some_tells r nr n m (info ns k p x ∷ es) some h = (h.2, next_tells r k (n + 1) m es h.1 h.3)
some_tells r nr n m (rr command k pf ∷ es) some h = (and_right (not command) pf h.2, next_tells r k n m es h.1 h.3)
some_tells r nr n m (frame ∷ es) some h = absurd h

-- more frames go behind: what they tell is told last
pub tells_behind : (s r nr : ℕ) (gs es : List PlainFrame) → LastTells s nr gs → ((k : ℕ) → (k ≡ s % 8) → LastTells r k es) → LastTells r nr (gs ++ es)
tells_behind s r nr [] es h more = more nr h
tells_behind s r nr (info ns k p x ∷ gs) es h more = (h.0, tells_behind s r k gs es h.1 more)
tells_behind s r nr (rr command k pf ∷ gs) es h more = (h.0, tells_behind s r k gs es h.1 more)
tells_behind s r nr (frame ∷ gs) es h more = absurd h

-- what the frames tell once others were heard, by which all up to `a` is acknowledged
pub reports_heard : {r : ℕ} (a : ℕ) {nr : ℕ} (gs : List PlainFrame) → LastTells r nr gs → (gs ≡ [] → nr ≡ r % 8 → a ≡ r) → Reports r a gs
reports_heard a [] h all = all refl h
reports_heard a (info ns k p x ∷ gs) h all = h
reports_heard a (rr command k pf ∷ gs) h all = h
reports_heard a (frame ∷ gs) h all = absurd h

reports_behind : (s r a : ℕ) (gs es : List PlainFrame) → Reports s a gs → ((k : ℕ) → (k ≡ s % 8) → LastTells r k es) → (a ≡ s → Reports r a es)
    → Reports r a (gs ++ es)
reports_behind s r a [] es h more alone = alone h
reports_behind s r a (info ns k p x ∷ gs) es h more alone = (h.0, tells_behind s r k gs es h.1 more)
reports_behind s r a (rr command k pf ∷ gs) es h more alone = (h.0, tells_behind s r k gs es h.1 more)
reports_behind s r a (frame ∷ gs) es h more alone = absurd h

-- the number stays: what goes has it
pub reports_more : (r a n m : ℕ) (gs es : List PlainFrame) → Reports r a gs → AreNext r n es m → Reports r a (gs ++ es)
reports_more r a n m gs es h next =
    reports_behind r r a gs es h (λ k is. next_tells r k n m es is next) (λ same. reports_heard a es (next_tells r (r % 8) n m es refl next) (λ _ _. same))

-- a new number: at least one frame goes with it
pub reports_new : (s r a n m : ℕ) (gs es : List PlainFrame) → Reports s a gs → AreNext r n es m → (es ≡ [] → ⊥) → Reports r a (gs ++ es)
reports_new s r a n m gs es h next some =
    reports_behind s r a gs es h (λ k is. some_tells r k n m es some next)
    (λ same. reports_heard a es (next_tells r (r % 8) n m es refl next) (λ none _. absurd (some none)))
