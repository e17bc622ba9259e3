-- Each event of a handshake keeps its relation.
use Rattle.x25_handshakes.proofs.Names.{◌≡◌, inl, inr, ℕ, suc, List, [], ◌∷◌, ◌++◌, Bool, true, false, refl, sym, ap, subst, ◌∙◌, true≢false, append-nil, Mark}
use Rattle.x25_handshakes.proofs.HandshakeRelation.{Handshaken, kept_before, before, kept_past, past, ends_at, Ends, behind_at, Behind, Extended, Level}
use Rattle.x25_handshakes.proofs.{HandshakeRelation.{Handshake, Each, AllInner}, Names.{Inner, Request, Confirm, Side, Live, Left, At, state_of}}
use Rattle.x25_handshakes.specs.laws.Handshake.{has_left}

-- what holds of all of both lists holds of all of one list of both
pub each_append : {P : Type 0} (A : P → Type 0) (u o : List P) → Each A u → Each A o → Each A (u ++ o)
each_append A [] o h g = g
each_append A (p ∷ u) o h g = (h.0, each_append A u o h.1 g)

-- what holds of all holds of all of the second part
pub each_back : {P : Type 0} (A : P → Type 0) (u o : List P) → Each A (u ++ o) → Each A o
each_back A [] o h = h
each_back A (p ∷ u) o h = each_back A u o h.1

-- what follows of each follows of all
pub each_map : {P : Type 0} (A B : P → Type 0) → ((p : P) → A p → B p) → (u : List P) → Each A u → Each B u
each_map A B f [] h = tt
each_map A B f (p ∷ u) h = (f p h.0, each_map A B f u h.1)

-- behind the last marker of a line whose sender is in its epoch
inner_ends : {P : Type 0} (mark : P → Mark) (o : List P) → AllInner mark o → Ends mark false o
inner_ends mark [] all = refl
inner_ends mark (p ∷ o) all = rw all.0 (inner_ends mark o all.1)

-- more inner packets at the back
ends_step : {P : Type 0} (m : Mark) (rest rest₂ : List P) (a b : Type 0) (left : Bool) → ends_at m false rest a → (a → b) → ends_at m left rest₂ b
ends_step Inner rest rest₂ a b left ends go = go ends
ends_step Request rest rest₂ a b left ends go = absurd (true≢false (sym ends.0))
ends_step Confirm rest rest₂ a b left ends go = absurd ends

ends_inner : {P : Type 0} (mark : P → Mark) (L o : List P) → AllInner mark o → Ends mark false L → Ends mark false (L ++ o)
ends_inner mark [] o all ends = inner_ends mark o all
ends_inner mark (p ∷ L) o all ends = ends_step (mark p) L (L ++ o) (Ends mark false L) (Ends mark false (L ++ o)) false ends (λ e. ends_inner mark L o all e)

-- a request at the back: its sender leaves
ends_leave : {P : Type 0} (mark : P → Mark) (q : P) → mark q ≡ Request → (L : List P) → Ends mark false L → Ends mark true (L ++ q ∷ [])
ends_leave {P} mark q is [] ends = rw is (refl, refl)
ends_leave mark q is (p ∷ L) ends = ends_step (mark p) L (L ++ q ∷ []) (Ends mark false L) (Ends mark true (L ++ q ∷ [])) true ends
    (λ e. ends_leave mark q is L e)

-- what stands before the first marker is as it was, where more goes behind
before_step : {P : Type 0} (m : Mark) (p : P) (rest : List P) (a : Type 0) (later later₂ : List P) → ends_at m false rest a → (a → later ≡ later₂)
    → kept_before m p later ≡ kept_before m p later₂
before_step Inner p rest a later later₂ ends go = ap (λ l. p ∷ l) (go ends)
before_step m p rest a later later₂ ends go = refl

before_leave : {P : Type 0} (mark : P → Mark) (q : P) → mark q ≡ Request → (L : List P) → Ends mark false L → before mark (L ++ q ∷ []) ≡ before mark L
before_leave {P} mark q is [] ends = rw is refl
before_leave mark q is (p ∷ L) ends = before_step (mark p) p L (Ends mark false L) (before mark (L ++ q ∷ [])) (before mark L) ends
    (λ e. before_leave mark q is L e)

-- an end stops: its state is kept, and what is on the way to it
stops : {S T P : Type 0} (gone : S → Type 0) (gone_there : T → Type 0) (R : S → List P → List P → T → Type 0) (x : S) (u v : List P) (y : Side T) → gone x
    → Extended gone gone_there R (Live x) u v y → Extended gone gone_there R (Left x) u v y
stops gone gone_there R x u v (Live y) is r = (v, is, r)
stops gone gone_there R x u v (Left y) is r = (r.0, v, r.2)

-- a confirmation at the back of such a line: a marker with nothing behind it
behind_step : {P : Type 0} (m : Mark) (rest : List P) (a here later : Type 0) → ends_at m false rest a → (a → later) → behind_at m here later
behind_step Inner rest a here later ends go = go ends
behind_step Request rest a here later ends go = absurd (true≢false (sym ends.0))
behind_step Confirm rest a here later ends go = absurd ends

behind_confirm : {P : Type 0} (mark : P → Mark) (c : P) → mark c ≡ Confirm → (L : List P) → Ends mark false L → Behind mark false (L ++ c ∷ [])
behind_confirm mark c is [] ends = rw is refl
behind_confirm mark c is (p ∷ L) ends = behind_step (mark p) L (Ends mark false L) (Ends mark false (L ++ c ∷ [])) (Behind mark false (L ++ c ∷ [])) ends
    (λ e. behind_confirm mark c is L e)

past_step : {P : Type 0} (m : Mark) (rest rest₂ : List P) (a : Type 0) (later : List P) → ends_at m false rest a → (a → later ≡ []) → kept_past m rest₂ later
    ≡ []
past_step Inner rest rest₂ a later ends go = go ends
past_step Request rest rest₂ a later ends go = absurd (true≢false (sym ends.0))
past_step Confirm rest rest₂ a later ends go = absurd ends

past_confirm : {P : Type 0} (mark : P → Mark) (c : P) → mark c ≡ Confirm → (L : List P) → Ends mark false L → past mark (L ++ c ∷ []) ≡ []
past_confirm {P} mark c is [] ends = rw is refl
past_confirm mark c is (p ∷ L) ends = past_step (mark p) L (L ++ c ∷ []) (Ends mark false L) (past mark (L ++ c ∷ [])) ends (λ e. past_confirm mark c is L e)

pub cons≢nil : {P : Type 0} (p : P) (K : List P) → p ∷ K ≡ [] → ⊥
cons≢nil p K e = subst (λ l. elim l as (λ _. Type 0) [ [] ↦ ⊥ | q ∷ r ↦ Unit {0} ]) e tt

-- the front of a line is a request: its sender has left, and nothing is behind
request_front : {P : Type 0} (mark : P → Mark) (p : P) (K : List P) {left : Bool} → mark p ≡ Request → Ends mark left (p ∷ K) → (left ≡ true) × (K ≡ [])
request_front mark p K {left} is ends = subst (λ m. ends_at m left K (Ends mark left K)) is ends

-- A live end never takes a confirmation.
pub confirm_never : {S T P : Type 0} {l : Level S T P} (p : P) → l.mark p ≡ Confirm →
    {ex ey : ℕ} (x : S) {y : Side T} {L : List P} (K : List P) → Handshake l ex ey (Live x) y L (p ∷ K) → ⊥
confirm_never {l} p is x {y} K (inl same) = subst (λ m. ends_at m (has_left y) K (Ends l.mark (has_left y) K)) is same.back
confirm_never p is x K (inr (inl ahead)) = cons≢nil p K ahead.back
confirm_never p is x K (inr (inr later)) = true≢false (sym later.waits)

-- the same behind the first marker
behind_map : (m : Mark) (here here₂ later later₂ : Type 0) → behind_at m here later → (here → here₂) → (later → later₂) → behind_at m here₂ later₂
behind_map Inner here here₂ later later₂ b f g = g b
behind_map m here here₂ later later₂ b f g = f b

behind_leave : {P : Type 0} (mark : P → Mark) (q : P) → mark q ≡ Request → (L : List P) → Behind mark false L → Behind mark true (L ++ q ∷ [])
behind_leave mark q is [] b = absurd b
behind_leave {P} mark q is (p ∷ L) b = behind_map (mark p) (Ends mark false L) (Ends mark true (L ++ q ∷ [])) (Behind mark false L)
    (Behind mark true (L ++ q ∷ [])) b
    (λ e. ends_leave mark q is L e) (λ e. behind_leave mark q is L e)

-- (f of what is past the first marker, by cases on the front)
past_map : {P Q : Type 0} (f g : List P → Q) (m : Mark) (rest rest₂ past_rest past_rest₂ : List P) (here later : Type 0) → behind_at m here later →
    (here → f rest ≡ g rest₂) → (later → f past_rest ≡ g past_rest₂) → f (kept_past m rest past_rest) ≡ g (kept_past m rest₂ past_rest₂)
past_map f g Inner rest rest₂ p p₂ here later b h k = k b
past_map f g m rest rest₂ p p₂ here later b h k = h b

past_leave : {P : Type 0} (mark : P → Mark) (q : P) → mark q ≡ Request → (L : List P) → Behind mark false L → before mark (past mark (L ++ q ∷ []))
    ≡ before mark (past mark L)
past_leave mark q is [] b = absurd b
past_leave {P} mark q is (p ∷ L) b = past_map (λ l. before mark l) (λ l. before mark l) (mark p) (L ++ q ∷ []) L (past mark (L ++ q ∷ [])) (past mark L)
    (Ends mark false L) (Behind mark false L) b
    (λ e. before_leave mark q is L e) (λ e. past_leave mark q is L e)

-- inner packets at the back
before_inner_all : {P : Type 0} (mark : P → Mark) (o : List P) → AllInner mark o → before mark o ≡ o
before_inner_all mark [] all = refl
before_inner_all {P} mark (p ∷ o) all = rw all.0 (ap (λ l. p ∷ l) (before_inner_all mark o all.1))

before_more_step : {P : Type 0} (m : Mark) (p : P) (o rest : List P) (a : Type 0) (later later₂ : List P) → ends_at m false rest a → (a → later ≡ later₂ ++ o)
    → kept_before m p later ≡ kept_before m p later₂ ++ o
before_more_step Inner p o rest a later later₂ ends go = ap (λ l. p ∷ l) (go ends)
before_more_step Request p o rest a later later₂ ends go = absurd (true≢false (sym ends.0))
before_more_step Confirm p o rest a later later₂ ends go = absurd ends

before_inner : {P : Type 0} (mark : P → Mark) (L o : List P) → AllInner mark o → Ends mark false L → before mark (L ++ o) ≡ before mark L ++ o
before_inner mark [] o all ends = before_inner_all mark o all
before_inner mark (p ∷ L) o all ends = before_more_step (mark p) p o L (Ends mark false L) (before mark (L ++ o)) (before mark L) ends
    (λ e. before_inner mark L o all e)

behind_inner : {P : Type 0} (mark : P → Mark) (L o : List P) → AllInner mark o → Behind mark false L → Behind mark false (L ++ o)
behind_inner mark [] o all b = absurd b
behind_inner {P} mark (p ∷ L) o all b = behind_map (mark p) (Ends mark false L) (Ends mark false (L ++ o)) (Behind mark false L) (Behind mark false (L ++ o)) b
    (λ e. ends_inner mark L o all e) (λ e. behind_inner mark L o all e)

past_inner : {P : Type 0} (mark : P → Mark) (L o : List P) → AllInner mark o → Behind mark false L → before mark (past mark (L ++ o))
    ≡ before mark (past mark L) ++ o
past_inner mark [] o all b = absurd b
past_inner {P} mark (p ∷ L) o all b = past_map (λ l. before mark l) (λ l. before mark l ++ o) (mark p) (L ++ o) L (past mark (L ++ o)) (past mark L)
    (Ends mark false L) (Behind mark false L) b
    (λ e. before_inner mark L o all e) (λ e. past_inner mark L o all e)

-- what R keeps with both ends there is kept for the end that is there
pub ext_step : {S T P : Type 0} (gone : S → Type 0) (gone_there : T → Type 0) (R : S → List P → List P → T → Type 0) (x x₂ : S) (o u : List P) {v : List P}
    (v₂ : List P) (y : Side T) →
    ((w : List P) (z : T) → R x w v z → R x₂ (w ++ o) v₂ z) → Extended gone gone_there R (Live x) u v y → Extended gone gone_there R (Live x₂) (u ++ o) v₂ y
ext_step gone gone_there R x x₂ o u v₂ (Live y) kept r = kept u y r
ext_step gone gone_there R x x₂ o u v₂ (Left z) kept r = (r.0 ++ o, r.1, kept r.0 z r.2)

-- An end leaves: its request goes to the back.
pub leave : {S T P : Type 0} {l : Level S T P} (q : P) → l.mark q ≡ Request →
    {ex ey : ℕ} (x : S) {y : Side T} {L K : List P} → l.gone x → Handshake l ex ey (Live x) y L K → Handshake l ex ey (Left x) y (L ++ q ∷ []) K
leave {l} q is x {y} {L} {K} gone (inl same) =
    inl (record {
      epochs = same.epochs;
      there = ends_leave l.mark q is L same.there;
      back = same.back;
      inner = rw (before_leave l.mark q is L same.there) (stops l.gone l.gone_there l.related x (before l.mark L) (before l.mark K) y gone same.inner);
    })
leave {l} q is x {L} gone (inr (inl ahead)) =
    inr (inl (record {
      epochs = ahead.epochs;
      waits = ahead.waits;
      back = ahead.back;
      there = behind_leave l.mark q is L ahead.there;
      inner = rw (past_leave l.mark q is L ahead.there)
          (stops l.gone l.gone_there l.related x (before l.mark (past l.mark L)) [] (Live l.fresh_there) gone ahead.inner);
    }))
leave q is x gone (inr (inr later)) = absurd (true≢false (sym later.waits))

-- A live end acts, in its epoch.
pub inner_act : {S T P : Type 0} {l : Level S T P} (o : List P) → AllInner l.mark o →
    {ex ey : ℕ} (x x₂ : S) {y : Side T} {L K : List P} → ((w v : List P) (z : T) → l.related x w v z → l.related x₂ (w ++ o) v z) →
    Handshake l ex ey (Live x) y L K → Handshake l ex ey (Live x₂) y (L ++ o) K
inner_act {l} o all x x₂ {y} {L} {K} kept (inl same) =
    inl (record {
      epochs = same.epochs;
      there = ends_inner l.mark L o all same.there;
      back = same.back;
      inner = rw (before_inner l.mark L o all same.there)
          (ext_step l.gone l.gone_there l.related x x₂ o (before l.mark L) (before l.mark K) y (λ w z r. kept w (before l.mark K) z r) same.inner);
    })
inner_act {l} o all x x₂ {L} kept (inr (inl ahead)) =
    inr (inl (record {
      epochs = ahead.epochs;
      waits = ahead.waits;
      back = ahead.back;
      there = behind_inner l.mark L o all ahead.there;
      inner = rw (past_inner l.mark L o all ahead.there) (kept (before l.mark (past l.mark L)) [] l.fresh_there ahead.inner);
    }))
inner_act o all x x₂ kept (inr (inr later)) = absurd (true≢false (sym later.waits))

inner_front : {P : Type 0} (mark : P → Mark) (p : P) (K : List P) (left : Bool) → mark p ≡ Inner → Ends mark left (p ∷ K) → Ends mark left K
inner_front mark p K left is ends = subst (λ m. ends_at m left K (Ends mark left K)) is ends

-- behind inner packets
skipped_ends : {P : Type 0} (mark : P → Mark) (j : List P) (p : P) (K : List P) {left : Bool} → AllInner mark j → mark p ≡ Request
    → Ends mark left (j ++ p ∷ K) → (left ≡ true) × (K ≡ [])
skipped_ends mark [] p K {left} all is ends = request_front mark p K is ends
skipped_ends mark (q ∷ j) p K {left} all is ends = skipped_ends mark j p K all.1 is (inner_front mark q (j ++ p ∷ K) left all.0 ends)

some≢nil : {P : Type 0} (j : List P) (p : P) (K : List P) → j ++ p ∷ K ≡ [] → ⊥
some≢nil [] p K e = cons≢nil p K e
some≢nil (q ∷ j) p K e = cons≢nil q (j ++ p ∷ K) e

-- A live end takes a request before what stands in front of it, which it drops, and confirms it.
pub request_skips : {S T P : Type 0} {l : Level S T P} (empty : l.related l.fresh [] [] l.fresh_there) (c p : P) (j : List P) → AllInner l.mark j → l.mark c
    ≡ Confirm → l.mark p ≡ Request →
    {ex ey : ℕ} (x : S) {y : Side T} {L : List P} (K : List P) → Handshake l ex ey (Live x) y L (j ++ p ∷ K)
    → Handshake l (suc ex) ey (Live l.fresh) y (L ++ c ∷ []) K
request_skips {l} empty c p j all is_c is_p x {y} {L} K (inl same) =
    inr (inl (record {
      epochs = ap suc same.epochs;
      waits = (skipped_ends l.mark j p K all is_p same.back).0;
      back = (skipped_ends l.mark j p K all is_p same.back).1;
      there = behind_confirm l.mark c is_c L same.there;
      inner = rw (past_confirm l.mark c is_c L same.there) empty;
    }))
request_skips empty c p j all is_c is_p x K (inr (inl ahead)) = absurd (some≢nil j p K ahead.back)
request_skips empty c p j all is_c is_p x K (inr (inr later)) = absurd (true≢false (sym later.waits))

pub request_live : {S T P : Type 0} (l : Level S T P) (empty : l.related l.fresh [] [] l.fresh_there) (c p : P) → l.mark c ≡ Confirm → l.mark p ≡ Request →
    (ex ey : ℕ) (x : S) (y : Side T) (L K : List P) → Handshake l ex ey (Live x) y L (p ∷ K) → Handshake l (suc ex) ey (Live l.fresh) y (L ++ c ∷ []) K
request_live l empty c p is_c is_p ex ey x y L K h = request_skips empty c p [] tt is_c is_p x K h

before_front : {P : Type 0} (mark : P → Mark) (p : P) (K : List P) → mark p ≡ Inner → before mark (p ∷ K) ≡ p ∷ before mark K
before_front {P} mark p K is = ap (λ m. kept_before {P = P} m p (before mark K)) is

-- a line with inner packets in front
inner_more : {P : Type 0} (mark : P → Mark) (j K : List P) (left : Bool) → AllInner mark j → Ends mark left K → Ends mark left (j ++ K)
inner_more mark [] K left all ends = ends
inner_more mark (q ∷ j) K left all ends = rw all.0 (inner_more mark j K left all.1 ends)

inner_fronts : {P : Type 0} (mark : P → Mark) (j K : List P) (left : Bool) → AllInner mark j → Ends mark left (j ++ K) → Ends mark left K
inner_fronts mark [] K left all ends = ends
inner_fronts mark (q ∷ j) K left all ends = inner_fronts mark j K left all.1 (inner_front mark q (j ++ K) left all.0 ends)

before_fronts : {P : Type 0} (mark : P → Mark) (j K : List P) → AllInner mark j → before mark (j ++ K) ≡ j ++ before mark K
before_fronts mark [] K all = refl
before_fronts mark (q ∷ j) K all = before_front mark q (j ++ K) all.0 ∙ ap (λ l. q ∷ l) (before_fronts mark j K all.1)

-- A live end takes a packet of its epoch before the inner packets in front of it.
pub inner_take_behind : {S T P : Type 0} {l : Level S T P} (j : List P) (p : P) (o : List P) → AllInner l.mark j → l.mark p ≡ Inner → AllInner l.mark o →
    {ex ey : ℕ} (x x₂ : S) {y : Side T} {L : List P} (K : List P) → ((w v : List P) (z : T) → l.related x w (j ++ p ∷ v) z → l.related x₂ (w ++ o) (j ++ v) z) →
    Handshake l ex ey (Live x) y L (j ++ p ∷ K) → Handshake l ex ey (Live x₂) y (L ++ o) (j ++ K)
inner_take_behind {l} j p o front is all x x₂ {y} {L} K kept (inl same) =
    inl (record {
      epochs = same.epochs;
      there = ends_inner l.mark L o all same.there;
      back = inner_more l.mark j K (has_left y) front (inner_front l.mark p K (has_left y) is (inner_fronts l.mark j (p ∷ K) (has_left y) front same.back));
      inner = rw (before_inner l.mark L o all same.there)
          (subst (λ v. Extended l.gone l.gone_there l.related (Live x₂) (before l.mark L ++ o) v y) (sym (before_fronts l.mark j K front))
          (ext_step l.gone l.gone_there l.related x x₂ o (before l.mark L) (j ++ before l.mark K) y (λ w z r. kept w (before l.mark K) z r)
          (subst (λ v. Extended l.gone l.gone_there l.related (Live x) (before l.mark L) v y)
          (before_fronts l.mark j (p ∷ K) front ∙ ap (λ v. j ++ v) (before_front l.mark p K is)) same.inner)));
    })
inner_take_behind j p o front is all x x₂ K kept (inr (inl ahead)) = absurd (some≢nil j p K ahead.back)
inner_take_behind j p o front is all x x₂ K kept (inr (inr later)) = absurd (true≢false (sym later.waits))

pub inner_take : {S T P : Type 0} (l : Level S T P) (p : P) (o : List P) → l.mark p ≡ Inner → AllInner l.mark o →
    (ex ey : ℕ) (x x₂ : S) (y : Side T) (L K : List P) → ((w v : List P) (z : T) → l.related x w (p ∷ v) z → l.related x₂ (w ++ o) v z) →
    Handshake l ex ey (Live x) y L (p ∷ K) → Handshake l ex ey (Live x₂) y (L ++ o) K
inner_take l p o is all ex ey x x₂ y L K kept h = inner_take_behind [] p o tt is all x x₂ K kept h

forget_back : {S T P : Type 0} (gone : S → Type 0) (gone_there : T → Type 0) (R : S → List P → List P → T → Type 0) (x : S) (u v v₂ : List P) (y : Side T)
    → Extended gone gone_there R (Left x) u v y → Extended gone gone_there R (Left x) u v₂ y
forget_back gone gone_there R x u v v₂ (Live y) r = r
forget_back gone gone_there R x u v v₂ (Left y) r = r

-- An end that has left drops what is no marker.
pub drops : {S T P : Type 0} {l : Level S T P} (p : P) → l.mark p ≡ Inner →
    {ex ey : ℕ} (x : S) {y : Side T} {L : List P} (K : List P) → Handshake l ex ey (Left x) y L (p ∷ K) → Handshake l ex ey (Left x) y L K
drops {l} p is x {y} {L} K (inl same) =
    inl (record {
      epochs = same.epochs;
      there = same.there;
      back = inner_front l.mark p K (has_left y) is same.back;
      inner = forget_back l.gone l.gone_there l.related x (before l.mark L) (before l.mark (p ∷ K)) (before l.mark K) y same.inner;
    })
drops p is x K (inr (inl ahead)) = absurd (cons≢nil p K ahead.back)
drops {l} p is x {y} K (inr (inr later)) =
    inr (inr (record {
      epochs = later.epochs;
      waits = later.waits;
      there = later.there;
      back = subst (λ m. behind_at m (Ends l.mark (has_left y) K) (Behind l.mark (has_left y) K)) is later.back;
      inner = subst (λ m. Extended l.gone l.gone_there l.related (Live l.fresh) [] (before l.mark (kept_past m K (past l.mark K))) y) is later.inner;
    }))

-- the line of an end that has left ends in its request
ends_behind_at : {P : Type 0} (mark : P → Mark) (m : Mark) (rest : List P) → ends_at m true rest (Ends mark true rest)
    → (Ends mark true rest → Behind mark false rest) → behind_at m (Ends mark false rest) (Behind mark false rest)
ends_behind_at mark Inner rest e go = go e
ends_behind_at mark Request rest e go = rw e.1 refl
ends_behind_at mark Confirm rest e go = absurd e

ends_behind : {P : Type 0} (mark : P → Mark) (L : List P) → Ends mark true L → Behind mark false L
ends_behind mark [] e = absurd (true≢false e)
ends_behind mark (p ∷ L) e = ends_behind_at mark (mark p) L e (λ e₂. ends_behind mark L e₂)

ends_past_at : {P : Type 0} (m : Mark) (rest later : List P) (a : Type 0) → ends_at m true rest a → (a → later ≡ []) → kept_past m rest later ≡ []
ends_past_at Inner rest later a e go = go e
ends_past_at Request rest later a e go = e.1
ends_past_at Confirm rest later a e go = absurd e

ends_past : {P : Type 0} (mark : P → Mark) (L : List P) → Ends mark true L → past mark L ≡ []
ends_past mark [] e = absurd (true≢false e)
ends_past mark (p ∷ L) e = ends_past_at (mark p) L (past mark L) (Ends mark true L) e (λ e₂. ends_past mark L e₂)

-- what a marker at the front says, whichever it is
marker_same : {P : Type 0} (m : Mark) (rest : List P) (left : Bool) (a : Type 0) → (m ≡ Inner → ⊥) → ends_at m left rest a → (left ≡ true) × (rest ≡ [])
marker_same Inner rest left a never e = absurd (never refl)
marker_same Request rest left a never e = e
marker_same Confirm rest left a never e = absurd e

marker_behind : (m : Mark) (here later : Type 0) → (m ≡ Inner → ⊥) → behind_at m here later → here
marker_behind Inner here later never b = absurd (never refl)
marker_behind m here later never b = b

marker_past : {P : Type 0} (m : Mark) (rest later : List P) → (m ≡ Inner → ⊥) → kept_past m rest later ≡ rest
marker_past Inner rest later never = absurd (never refl)
marker_past m rest later never = refl

-- An end that has left takes a request or a confirmation: it is in its next epoch, and sends nothing.
pub marker_left : {S T P : Type 0} {l : Level S T P} (empty : l.related l.fresh [] [] l.fresh_there) (p : P) → (l.mark p ≡ Inner → ⊥) →
    {ex ey : ℕ} (x : S) {y : Side T} {L : List P} (K : List P) → Handshake l ex ey (Left x) y L (p ∷ K) → Handshake l (suc ex) ey (Live l.fresh) y L K
marker_left {l} empty p never x {y} {L} K (inl same) =
    inr (inl (record {
      epochs = ap suc same.epochs;
      waits = (marker_same (l.mark p) K (has_left y) (Ends l.mark (has_left y) K) never same.back).0;
      back = (marker_same (l.mark p) K (has_left y) (Ends l.mark (has_left y) K) never same.back).1;
      there = ends_behind l.mark L same.there;
      inner = rw (ends_past l.mark L same.there) empty;
    }))
marker_left empty p never x K (inr (inl ahead)) = absurd (cons≢nil p K ahead.back)
marker_left {l} empty p never x {y} K (inr (inr later)) =
    inl (record {
      epochs = sym later.epochs;
      there = rw later.there refl;
      back = marker_behind (l.mark p) (Ends l.mark (has_left y) K) (Behind l.mark (has_left y) K) never later.back;
      inner = rw later.there (subst (λ u. Extended l.gone l.gone_there l.related (Live l.fresh) [] (before l.mark u) y)
          (marker_past (l.mark p) K (past l.mark K) never) later.inner);
    })

-- The relation seen from the other end.
abbrev pub flip : {S T P : Type 0} → Level S T P → Level T S P
flip l = record {
  mark = l.mark;
  fresh = l.fresh_there;
  fresh_there = l.fresh;
  gone = l.gone_there;
  gone_there = l.gone;
  related = λ x u v y. l.related y v u x;
}

ext_flip : {S T P : Type 0} (l : Level S T P) (x : Side S) (u v : List P) (y : Side T) → Extended l.gone l.gone_there l.related x u v y
    → Extended l.gone_there l.gone (λ a b c d. l.related d c b a) y v u x
ext_flip l (Live x) u v (Live y) r = r
ext_flip l (Left x) u v (Live y) r = r
ext_flip l (Live x) u v (Left y) r = r
ext_flip l (Left x) u v (Left y) r = (r.1, r.0, r.2)

-- the handshake as the second end has it
pub hand_flip : {S T P : Type 0} {l : Level S T P} {ex ey : ℕ} {x : Side S} {y : Side T} {L K : List P} → Handshake l ex ey x y L K
    → Handshake (flip l) ey ex y x K L
hand_flip {l} {x} {y} {L} {K} (inl same) =
    inl (record { epochs = sym same.epochs; there = same.back; back = same.there; inner = ext_flip l x (before l.mark L) (before l.mark K) y same.inner })
hand_flip {l} {x} {L} (inr (inl ahead)) =
    inr (inr (record {
      epochs = ahead.epochs;
      waits = ahead.waits;
      there = ahead.back;
      back = ahead.there;
      inner = ext_flip l x (before l.mark (past l.mark L)) [] (Live l.fresh_there) ahead.inner;
    }))
hand_flip {l} {y} {K} (inr (inr later)) =
    inr (inl (record {
      epochs = later.epochs;
      waits = later.waits;
      there = later.back;
      back = later.there;
      inner = ext_flip l (Live l.fresh) [] (before l.mark (past l.mark K)) y later.inner;
    }))

-- two ends afresh in the same epoch, with nothing on the lines
pub both_fresh : {S T P : Type 0} (l : Level S T P) → l.related l.fresh [] [] l.fresh_there → (e : ℕ)
    → Handshake l e e (Live l.fresh) (Live l.fresh_there) [] []
both_fresh l empty e = inl (record { epochs = refl; there = refl; back = refl; inner = empty })

-- two ends that both begin with their requests on the way (the start of a link)
pub both_requests : {S T P : Type 0} (l : Level S T P) → l.related l.fresh [] [] l.fresh_there → (q : P) → l.mark q ≡ Request → (e : ℕ)
    → Handshake l e e (Left l.fresh) (Left l.fresh_there) (q ∷ []) (q ∷ [])
both_requests l empty q is e = inl (record {
  epochs = refl;
  there = ends_leave l.mark q is [] refl;
  back = ends_leave l.mark q is [] refl;
  inner = ([], [], empty);
})

-- A live end stands in the inner relation, with some lines and some end (for what follows from it alone, as 'no error').
pub inner_live : {S T P : Type 0} {l : Level S T P} {ex ey : ℕ} (x : S) (y : Side T) {L K : List P} → Handshake l ex ey (Live x) y L K
    → (w : List P) × (v : List P) × (z : T) × l.related x w v z
inner_live {l} x (Live z) {L} {K} (inl same) = (before l.mark L, before l.mark K, z, same.inner)
inner_live {l} x (Left z) {K} (inl same) = (same.inner.0, before l.mark K, z, same.inner.2)
inner_live {l} x y {L} (inr (inl ahead)) = (before l.mark (past l.mark L), [], l.fresh_there, ahead.inner)
inner_live x y (inr (inr later)) = absurd (true≢false (sym later.waits))

-- The relation of the ends may be put by one that follows from it.
ext_map : {S T P : Type 0} (gone : S → Type 0) (gone_there : T → Type 0) (R Q : S → List P → List P → T → Type 0)
    → ((x : S) (u v : List P) (y : T) → R x u v y → Q x u v y)
    → (x : Side S) (u v : List P) (y : Side T) → Extended gone gone_there R x u v y → Extended gone gone_there Q x u v y
ext_map gone gone_there R Q f (Live x) u v (Live y) r = f x u v y r
ext_map gone gone_there R Q f (Left x) u v (Live y) r = (r.0, r.1, f x u r.0 y r.2)
ext_map gone gone_there R Q f (Live x) u v (Left y) r = (r.0, r.1, f x r.0 v y r.2)
ext_map gone gone_there R Q f (Left x) u v (Left y) r = (r.0, r.1, f x r.0 r.1 y r.2)

-- so it may in a handshake
pub hand_map : {S T P : Type 0} {l : Level S T P} (Q : S → List P → List P → T → Type 0) → ((x : S) (u v : List P) (y : T) → l.related x u v y → Q x u v y)
    → {ex ey : ℕ} {x : Side S} {y : Side T} {L K : List P} → Handshake l ex ey x y L K
    → Handshake (record { mark = l.mark; fresh = l.fresh; fresh_there = l.fresh_there; gone = l.gone; gone_there = l.gone_there; related = Q }) ex ey x y L K
hand_map {l} Q f {x} {y} {L} {K} (inl same) =
    inl (record {
      epochs = same.epochs;
      there = same.there;
      back = same.back;
      inner = ext_map l.gone l.gone_there l.related Q f x (before l.mark L) (before l.mark K) y same.inner;
    })
hand_map {l} Q f {x} {L} (inr (inl ahead)) =
    inr (inl (record {
      epochs = ahead.epochs;
      waits = ahead.waits;
      back = ahead.back;
      there = ahead.there;
      inner = ext_map l.gone l.gone_there l.related Q f x (before l.mark (past l.mark L)) [] (Live l.fresh_there) ahead.inner;
    }))
hand_map {l} Q f {y} {K} (inr (inr later)) =
    inr (inr (record {
      epochs = later.epochs;
      waits = later.waits;
      there = later.there;
      back = later.back;
      inner = ext_map l.gone l.gone_there l.related Q f (Live l.fresh) [] (before l.mark (past l.mark K)) y later.inner;
    }))

-- A request reaches a live end only from an end that has left a state from which one leaves, with nothing before it.
pub request_gone : {S T P : Type 0} (l : Level S T P) (p : P) → l.mark p ≡ Request → (ex ey : ℕ) (x : S) (y : Side T) (L K : List P)
    → Handshake l ex ey (Live x) y L (p ∷ K)
    → (w : List P) × (z : T) × l.gone_there z × l.related x w [] z
request_gone l p is ex ey x (Live z) L K (inl same) = absurd (true≢false (sym (request_front l.mark p K is same.back).0))
request_gone {P} l p is ex ey x (Left z) L K (inl same) =
    (same.inner.0, z, same.inner.1, subst (λ v. l.related x same.inner.0 v z) (ap (λ m. kept_before {P = P} m p (before l.mark K)) is) same.inner.2)
request_gone l p is ex ey x y L K (inr (inl ahead)) = absurd (cons≢nil p K ahead.back)
request_gone l p is ex ey x y L K (inr (inr later)) = absurd (true≢false (sym later.waits))

-- A live end takes an inner packet only in the epoch of the other end, from the state in which that is or which it left.
pub meets : {S T P : Type 0} (l : Level S T P) (p : P) → l.mark p ≡ Inner → (ex ey : ℕ) (x : S) (y : Side T) (L K : List P)
    → Handshake l ex ey (Live x) y L (p ∷ K)
    → (ex ≡ ey) × (w : List P) × (v : List P) × l.related x w (p ∷ v) (state_of y)
meets {P} l p is ex ey x (Live z) L K (inl same) =
    (same.epochs, before l.mark L, before l.mark K, subst (λ v. l.related x (before l.mark L) v z) (before_front l.mark p K is) same.inner)
meets {P} l p is ex ey x (Left z) L K (inl same) =
    (same.epochs, same.inner.0, before l.mark K, subst (λ v. l.related x same.inner.0 v z) (before_front l.mark p K is) same.inner.2)
meets l p is ex ey x y L K (inr (inl ahead)) = absurd (cons≢nil p K ahead.back)
meets l p is ex ey x y L K (inr (inr later)) = absurd (true≢false (sym later.waits))

-- so it stands in the inner relation, with the packet at the front
pub live_front : {S T P : Type 0} (l : Level S T P) (p : P) → l.mark p ≡ Inner → (ex ey : ℕ) (x : S) (y : Side T) (L K : List P)
    → Handshake l ex ey (Live x) y L (p ∷ K)
    → (w : List P) × (v : List P) × (z : T) × l.related x w (p ∷ v) z
live_front l p is ex ey x y L K h = (let m = meets l p is ex ey x y L K h in (m.1, m.2, state_of y, m.3))

-- Two live ends of one epoch stand in the inner relation.
pub both_live : {S T P : Type 0} {l : Level S T P} {e : ℕ} (x : S) (y : T) {L K : List P} → Handshake l e e (Live x) (Live y) L K
    → l.related x (before l.mark L) (before l.mark K) y
both_live x y (inl same) = same.inner
both_live x y (inr (inl ahead)) = absurd (true≢false (sym ahead.waits))
both_live x y (inr (inr later)) = absurd (true≢false (sym later.waits))

-- ---- two ends, each in its epoch

pub still : {S T P : Type 0} {l : Level S T P} {x : At S} {L K : List P} {y : At T} → Handshaken l x L K y → Handshaken l x (L ++ []) K y
still {L} h = rw (append-nil L) h

-- the same, seen from the second
pub turned : {S T P : Type 0} {l : Level S T P} {x : At S} {L K : List P} {y : At T} → Handshaken l x L K y → Handshaken (flip l) y K L x
turned {l} {x} {L} {K} {y} h = record { hand = hand_flip h.hand }
