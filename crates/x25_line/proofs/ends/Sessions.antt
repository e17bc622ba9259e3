-- The session that stands has a line of its own: what of the line has its number. So what holds of a link set up once holds of it.
use Rattle.x25_line.proofs.Names.{◌≡◌, ◌≤◌, ◌<◌, ◌==◌, ◌⊎◌, inl, inr, ℕ, suc, List, [], ◌∷◌, ◌++◌, Bool, true, false, Option, Some, None, refl, sym, ap, ◌∙◌}
use Rattle.x25_line.proofs.Names.{subst, arith, append-nil, length, resolved, IsPrefix, sabm_of, Said, Carried, Tells, Sabm, Ua, Else, Odd, Meeting, turned}
use Rattle.x25_line.proofs.Names.{meets, Each, SomeMet, Peer, fresh_peer, MaySay, MayMake, Stand, Out, Asking, In, put_for, Letter, letter, Two, OfTells, AreOf}
use Rattle.x25_line.proofs.Names.{Moves, free, odd, asks, closes, takes_ua, takes_sabm, waits_on, takes_disc, loses, Ends, ends_swapped, Does, listens, moves}
use Rattle.x25_line.proofs.{Lists.{each_map, each_over}, Losses.{untouched}, Names.{EndsReached, LessAt, nothing, gone, hurt, deeper, IsSpoilt}}
use Rattle.x25_line.proofs.Order.{Told, told, only, IsApart, only_append, only_quiet, Left, left_front, left_deeper, Hold, starts, hold_turned, handed, says}
use Rattle.x25_line.proofs.{Order.{left, makes, in_order, valid_front}, ends.Held.{Side, near_at, near_stands}, ends.Lines.{AllTags, tags_less}}
use Rattle.x25_line.proofs.ends.Meetings.{IsPaired, near_turned, far_turned, all_meet, some_meets}
use Rattle.x25_line.proofs.ends.Moves.{Held, held_turned, first_held, moves_held, told_held, come_held, popped}
use Rattle.x25_line.proofs.ends.Puts.{same_or_other, put_same, put_other, put_apart, put_alike}
use Rattle.x25_line.specs.laws.{EndClaims.{InOrder, MetInOrder, KeepSessions, OfAnyTwoEnds}, Ends.{near_handed, far_handed, near_does, far_does}, Said.{Disc}}
use Rattle.x25_line.specs.laws.Ends.{how_many, heard, hears, near_now, with_near, begins, fresh_where, with_packet, sends, begin_at, at_start, set_up}

-- ---- the line of one session

abbrev keep : Bool → Said → List Told → List Told
keep true s rest = only s rest
keep false s rest = rest

abbrev of : ℕ → List Letter → List Told
of q [] = []
of q (e ∷ es) = keep (e.session == q) e.said (of q es)

keep_append : (b : Bool) (s : Said) (xs ys : List Told) → keep b s xs ++ ys ≡ keep b s (xs ++ ys)
keep_append true s xs ys = only_append s xs ys
keep_append false s xs ys = refl

of_append : (q : ℕ) (xs ys : List Letter) → of q (xs ++ ys) ≡ of q xs ++ of q ys
of_append q [] ys = refl
of_append q (e ∷ xs) ys = ap (keep (e.session == q) e.said) (of_append q xs ys) ∙ sym (keep_append (e.session == q) e.said (of q xs) (of q ys))

keep_quiet : (b : Bool) (s : Said) (xs : List Told) → IsApart s → keep b s xs ≡ xs
keep_quiet true s xs off = only_quiet s xs off
keep_quiet false s xs off = refl

of_quiet : (q t : ℕ) (xs : List Letter) (s : Said) → IsApart s → of q (xs ++ letter t s ∷ []) ≡ of q xs
of_quiet q t xs s off = of_append q xs (letter t s ∷ []) ∙ ap (λ ys. of q xs ++ ys) (keep_quiet (t == q) s [] off) ∙ append-nil (of q xs)

equal : (n : ℕ) → (n == n) ≡ true
equal n = grind arith

below : (m n : ℕ) → m < n → (m == n) ≡ false
below m n less = elim (same_or_other m n) [ inl is ↦ absurd (omega (arith, is, less)) | inr not ↦ not ]

of_none : {b : ℕ} (q : ℕ) (es : List Letter) → b < q → AllTags b es → of q es ≡ []
of_none q [] less h = refl
of_none {b} q (e ∷ es) less h = (ap (λ x. keep x e.said (of q es)) (below e.session q (omega (arith, h.0, less)))) ∙ of_none q es less h.1

kept_front : (b : Bool) (s : Said) (xs : List Told) → Left (keep b s xs) xs
kept_front false s xs = (_, untouched xs)
kept_front true s xs = left_front s xs

kept_deeper : (b : Bool) (s : Said) {xs ys : List Told} → Left xs ys → Left (keep b s xs) (keep b s ys)
kept_deeper false s h = h
kept_deeper true s {xs} {ys} h = left_deeper s h

-- it loses one at most where the line does
of_less : (q : ℕ) {i : ℕ} {es fs : List Letter} → LessAt IsSpoilt i es fs → Left (of q es) (of q fs)
of_less q (nothing j) = (0, nothing 0)
of_less q (gone e xs) = kept_front (e.session == q) e.said (of q xs)
of_less q (hurt e f xs is) = rw (is, keep_quiet (e.session == q) Else (of q xs) tt) (kept_front (e.session == q) e.said (of q xs))
of_less q (deeper j e xs ys l) = kept_deeper (e.session == q) e.said (of_less q l)

-- ---- what a move does to the lines, and to who met whom

out_same : {w v : Two} (m : Moves w v) → (r : ℕ) → of r v.out ≡ of r w.out
out_same {w} free r = of_quiet r w.near.begun w.out Else tt
out_same {w} odd r = of_quiet r w.near.begun w.out Odd tt
out_same {w} (asks patient) r = of_quiet r w.near.begun w.out Sabm tt
out_same {w} closes r = of_quiet r w.near.begun w.out Disc tt
out_same {w} (takes_sabm s rest is) r = of_quiet r (suc w.near.begun) w.out Ua tt
out_same {w} (waits_on s rest is asking) r = of_quiet r w.near.begun w.out Ua tt
out_same {w} (takes_disc s rest is) r = of_quiet r w.near.begun w.out Ua tt
out_same m r = refl

back_less : {w v : Two} → Moves w v → (i : ℕ) × LessAt IsSpoilt i w.back v.back
back_less {w} (hears e rest is) = (0, popped w.back rest e is)
back_less {w} (takes_ua s rest is asking) = (0, popped w.back rest (letter s Ua) is)
back_less {w} (takes_sabm s rest is) = (0, popped w.back rest (letter s Sabm) is)
back_less {w} (waits_on s rest is asking) = (0, popped w.back rest (letter s Sabm) is)
back_less {w} (takes_disc s rest is) = (0, popped w.back rest (letter s Disc) is)
back_less {w} (loses i es l) = (i, l)
back_less {w} m = (_, untouched w.back)

begun_rises : {w v : Two} → Moves w v → w.near.begun ≤ v.near.begun
begun_rises (takes_ua s rest is asking) = omega arith
begun_rises (takes_sabm s rest is) = omega arith
begun_rises m = omega arith

far_same : {w v : Two} → Moves w v → v.far ≡ w.far
far_same free = refl
far_same m = refl

meets_more : (P : Meeting → Type 0) (s : Said) (m : Meeting) (ms : List Meeting) → SomeMet P ms → SomeMet P (meets s m ms)
meets_more P (Tells c n) m ms h = inr h
meets_more P s m ms h = h

heard_more : (P : Meeting → Type 0) (stand : Stand) (b : ℕ) (e : Letter) (ms : List Meeting) → SomeMet P ms → SomeMet P (heard stand b e ms)
heard_more P In b e ms h = meets_more P e.said (record { near = b; far = e.session }) ms h
heard_more P stand b e ms h = h

met_more : (P : Meeting → Type 0) {w v : Two} → Moves w v → SomeMet P w.met → SomeMet P v.met
met_more P {w} (hears e rest is) h = heard_more P w.near.stand w.near.begun e w.met h
met_more P m h = h

-- ---- what holds

pub record All (w : Ends) : Type 0 where
  pub held : Held w.two
  pub near_later : (n : ℕ) → w.two.near.begun < n → w.near_of n ≡ fresh_peer
  pub far_later : (n : ℕ) → w.two.far.begun < n → w.far_of n ≡ fresh_peer
  pub line : Hold (w.near_of held.p) (w.far_of held.q) (of held.p w.two.out) (of held.q w.two.back)
  pub order : Each (MetInOrder w.near_of w.far_of) w.two.met
  pub near_unmet : (n : ℕ) → ((w.near_of n).taken ≡ []) ⊎ SomeMet (λ (m : Meeting). m.near ≡ n) w.two.met
  pub far_unmet : (n : ℕ) → ((w.far_of n).taken ≡ []) ⊎ SomeMet (λ (m : Meeting). m.far ≡ n) w.two.met

pub both_orders : {p q : Peer} {out back : List Told} → Hold p q out back → InOrder p q × InOrder q p
both_orders {p} {q} h = (ordered (in_order p q h.there h.here h.ways.from_near), ordered (in_order q p h.here h.there h.ways.from_far))
  where
    ordered : {p q : Peer} → IsPrefix q.taken p.given × (p.acked ≤ length q.taken) × (p.acked ≡ length p.given → q.taken ≡ p.given) → InOrder p q
    ordered h = record { begins = h.0; acked = h.1; all = h.2 }

-- all that holds, as the far end has it
pub all_turned : {w : Ends} → All w → All (ends_swapped w)
all_turned {w} h =
    record {
      held = held_turned w.two h.held;
      near_later = h.far_later;
      far_later = h.near_later;
      line = hold_turned h.line;
      order = each_over (MetInOrder w.near_of w.far_of) (MetInOrder w.far_of w.near_of) turned (λ m h. (h.1, h.0)) w.two.met h.order;
      near_unmet = λ n. elim (h.far_unmet n) [ inl none ↦ inl none | inr some ↦ inr (far_turned n w.two.met some) ];
      far_unmet = λ n. elim (h.near_unmet n) [ inl none ↦ inl none | inr some ↦ inr (near_turned n w.two.met some) ];
    }

-- ---- a move without an N(R)

met_heard : {b p c q t : ℕ} {st : Stand} {out rest : List Letter} (near_of far_of : ℕ → Peer) (stand : Stand) (s : Said)
    → Side stand b p st c q out (letter t s ∷ rest)
    → InOrder (near_of p) (far_of q) × InOrder (far_of q) (near_of p) → (ms : List Meeting) → Each (MetInOrder near_of far_of) ms
    → Each (MetInOrder near_of far_of) (heard stand b (letter t s) ms)
met_heard {b} {p} {c} {q} {t} {st} {out} {rest} near_of far_of In (Tells carried n) h orders ms m = (rw (h.is_in refl, (h.live refl).0) orders, m)
met_heard {b} {p} {c} {q} {t} {st} {out} {rest} near_of far_of stand s h orders ms m = m

met_moves : {w : Ends} {v : Two} → Moves w.two v → All w → Each (MetInOrder w.near_of w.far_of) v.met
met_moves {w} (hears e rest is) h = met_heard w.near_of w.far_of w.two.near.stand e.said (near_at is h.held.near) (both_orders h.line) w.two.met h.order
met_moves m h = h.order

moves_all : (w : Ends) (v : Two) (m : Moves w.two v) → All w → All (record w { two = v })
moves_all w v m h =
    let on = moves_held m h.held in
    record {
      held = on.held;
      near_later = λ n less. h.near_later n (omega (arith, less, begun_rises m));
      far_later = λ n less. h.far_later n (rw (sym (far_same m)) less);
      line = go on.held.p on.held.q on.pair;
      order = met_moves m h;
      near_unmet = λ n. elim (h.near_unmet n) [ inl none ↦ inl none | inr some ↦ inr (met_more (λ x. x.near ≡ n) m some) ];
      far_unmet = λ n. elim (h.far_unmet n) [ inl none ↦ inl none | inr some ↦ inr (met_more (λ x. x.far ≡ n) m some) ];
    }
  where
    p : ℕ
    p = h.held.p

    q : ℕ
    q = h.held.q

    b : ℕ
    b = suc w.two.near.begun

    c : ℕ
    c = suc w.two.far.begun

    same : Hold (w.near_of p) (w.far_of q) (of p v.out) (of q v.back)
    same = rw (out_same m p) (left (w.near_of p) (w.far_of q) (of p w.two.out) (of q w.two.back) (of_less q (back_less m).1) h.line)

    anew : Hold (w.near_of b) (w.far_of c) (of b v.out) (of c v.back)
    anew =
        rw (
          h.near_later b (omega arith),
          h.far_later c (omega arith),
          out_same m b ∙ of_none b w.two.out (omega arith) h.held.far.tags,
          of_none c v.back (omega arith) (tags_less w.two.far.begun (back_less m).1 h.held.near.tags),
        )
        starts

    go : (x y : ℕ) → ((x ≡ p) × (y ≡ q)) ⊎ ((x ≡ b) × (y ≡ c)) → Hold (w.near_of x) (w.far_of y) (of x v.out) (of y v.back)
    go x y (inl e) = rw (e.0, e.1) same
    go x y (inr e) = rw (e.0, e.1) anew

-- the same, but for functions of the same values
alike_all : {w : Ends} (f : ℕ → Peer) → ((n : ℕ) → f n ≡ w.near_of n) → All w → All (record w { near_of = f })
alike_all {w} f same h =
    record {
      held = h.held;
      near_later = λ n less. same n ∙ h.near_later n less;
      far_later = h.far_later;
      line = rw (same h.held.p) h.line;
      order = each_map (MetInOrder w.near_of w.far_of) (MetInOrder f w.far_of) (λ m h. rw (same m.near) h) w.two.met h.order;
      near_unmet = λ n. elim (h.near_unmet n) [ inl none ↦ inl (ap (λ x. x.taken) (same n) ∙ none) | inr some ↦ inr some ];
      far_unmet = h.far_unmet;
    }

-- a session that begins has nothing behind it
fresh_same : (b : ℕ) (all : ℕ → Peer) → ((n : ℕ) → b < n → all n ≡ fresh_peer) → (x : Bool) (n : ℕ) → fresh_where x b all n ≡ all n
fresh_same b all later false n = refl
fresh_same b all later true n = elim (same_or_other n (suc b)) [
  | inl is ↦ put_same (suc b) n fresh_peer all is ∙ sym (later n (omega (arith, is)))
  | inr not ↦ put_apart (suc b) n fresh_peer all not
]

-- ---- what is done in a session

order_again : (near_of far_of : ℕ → Peer) (b p q : ℕ) (r : Peer) → b ≡ p → InOrder r (far_of q) × InOrder (far_of q) r → (ms : List Meeting)
    → Each (IsPaired p q) ms → Each (MetInOrder near_of far_of) ms
    → Each (MetInOrder (put_for b r near_of) far_of) ms
order_again near_of far_of b p q r is orders [] paired h = tt
order_again near_of far_of b p q r is orders (m ∷ ms) paired h = (
  elim paired.0 [
    | inl same ↦ rw (put_same b m.near r near_of (same.0 ∙ sym is)) (rw same.1 orders)
    | inr less ↦ (subst (λ x. InOrder x (far_of m.far) × InOrder (far_of m.far) x)
        (sym (put_other b m.near r near_of (λ here. omega (arith, less.0, is, here)))) h.0)
  ],
  order_again near_of far_of b p q r is orders ms paired.1 h.1,
)

-- the near end is r in the session that it is in; the session's lines are then these
updated : {w : Ends} {v : Two} (h : All w) (on : Held v) {r : Peer} → w.two.near.stand ≡ In → on.p ≡ h.held.p → on.q ≡ h.held.q → v.near.begun
    ≡ w.two.near.begun → v.far ≡ w.two.far
    → Hold r (w.far_of h.held.q) (of h.held.p v.out) (of h.held.q v.back) → Each (MetInOrder w.near_of w.far_of) v.met → Each (IsPaired h.held.p h.held.q) v.met
    → ((n : ℕ) → ((with_near r w n).taken ≡ []) ⊎ SomeMet (λ m. m.near ≡ n) v.met) → ((n : ℕ) → ((w.far_of n).taken ≡ []) ⊎ SomeMet (λ m. m.far ≡ n) v.met)
    → All (record { two = v; near_of = with_near r w; far_of = w.far_of })
updated {w} {v} h on {r} is same_p same_q begun far hold order paired near_unmet far_unmet =
    let b = w.two.near.begun in
    let at = h.held.near.is_in is in
    record {
      held = on;
      near_later = λ n less. put_other b n r w.near_of (λ here. omega (arith, less, begun, here)) ∙ h.near_later n (omega (arith, less, begun));
      far_later = λ n less. h.far_later n (rw (sym far) less);
      line = rw (put_same b on.p r w.near_of (same_p ∙ sym at), same_p, same_q) hold;
      order = order_again w.near_of w.far_of b h.held.p h.held.q r at (both_orders hold) v.met paired order;
      near_unmet = near_unmet;
      far_unmet = far_unmet;
    }

at_now : {w : Ends} (h : All w) → w.two.near.stand ≡ In → Hold (near_now w) (w.far_of h.held.q) (of h.held.p w.two.out) (of h.held.q w.two.back)
at_now h is = rw (h.held.near.is_in is) h.line

still_unmet : (w : Ends) (h : All w) (r : Peer) → r.taken ≡ (near_now w).taken → (n : ℕ) → ((with_near r w n).taken ≡ [])
    ⊎ SomeMet (λ (m : Meeting). m.near ≡ n) w.two.met
still_unmet w h r same n = elim (h.near_unmet n) [ inl none ↦ inl (put_alike (λ p. p.taken) w.two.near.begun r w.near_of same n ∙ none) | inr some ↦ inr some ]

handed_all : {w : Ends} (packet : List ℕ) → w.two.near.stand ≡ In → (h : All w) → All (with_packet packet w)
handed_all {w} packet is h =
    let r : Peer = record (near_now w) { given = (near_now w).given ++ packet ∷ [] } in
    let hold = handed (near_now w) (w.far_of h.held.q) (of h.held.p w.two.out) (of h.held.q w.two.back) packet (at_now h is) in
    updated h h.held is refl refl refl refl hold h.order h.held.meets.paired (still_unmet w h r refl) h.far_unmet

says_same : (p r : Peer) (carried : Option Carried) (nr : ℕ) → MaySay ⊥ p (Tells carried nr) r → r.taken ≡ p.taken
says_same p r None nr may = ap (λ x. x.taken) may.2
says_same p r (Some c) nr may = ap (λ x. x.taken) may.4

sent_all : (w : Ends) (carried : Option Carried) (nr : ℕ) (r : Peer) → w.two.near.stand ≡ In → MaySay ⊥ (near_now w) (Tells carried nr) r → (h : All w)
    → All (record w { two = record w.two { out = w.two.out ++ letter w.two.near.begun (Tells carried nr) ∷ [] }; near_of = with_near r w })
sent_all w carried nr r is may h =
    let b = w.two.near.begun in
    let one : of h.held.p (letter b (Tells carried nr) ∷ []) ≡ told carried nr ∷ [] =
    ap (λ x. keep (b == x) (Tells carried nr) []) (sym (h.held.near.is_in is)) ∙ ap (λ x. keep x (Tells carried nr) []) (equal b) in
    let lines = of_append h.held.p w.two.out (letter b (Tells carried nr) ∷ []) ∙ ap (λ ys. of h.held.p w.two.out ++ ys) one in
    let hold = subst (λ xs. Hold r (w.far_of h.held.q) xs (of h.held.q w.two.back)) (sym lines)
    (says (near_now w) (w.far_of h.held.q) (of h.held.p w.two.out) (of h.held.q w.two.back) ⊥ (Tells carried nr) r may (at_now h is)) in
    updated h (told_held w.two carried nr is h.held) is refl refl refl refl hold
    h.order h.held.meets.paired (still_unmet w h r (says_same (near_now w) r carried nr may)) h.far_unmet

in_front : (q t : ℕ) (c : Option Carried) (n : ℕ) (rest : List Letter) → t ≡ q → of q (letter t (Tells c n) ∷ rest) ≡ told c n ∷ of q rest
in_front q t c n rest is = ap (λ z. keep (z == q) (Tells c n) (of q rest)) is ∙ ap (λ z. keep z (Tells c n) (of q rest)) (equal q)

came : {x y r : Peer} {out : List Told} (q t : ℕ) (s : Said) (rest : List Letter) → OfTells s (t ≡ q) → Hold x y out (of q (letter t s ∷ rest)) → MayMake x s r
    → Hold r y out (of q rest)
came {x} {y} {r} {out} q t (Tells c n) rest to hold may = makes x y out (Tells c n) (of q rest) may (rw (sym (in_front q t c n rest to)) hold)
came {x} {y} {r} {out} q t s rest to hold may = makes x y out s (of q rest) may (rw (sym (keep_quiet (t == q) s (of q rest) tt)) hold)

-- a session that takes a packet meets one
heard_unmet : (b t : ℕ) (f : ℕ → Peer) (r : Peer) (s : Said) (ms : List Meeting) → MayMake (f b) s r → (n : ℕ) → ((f n).taken ≡ [])
    ⊎ SomeMet (λ (m : Meeting). m.near ≡ n) ms
    → ((put_for b r f n).taken ≡ []) ⊎ SomeMet (λ m. m.near ≡ n) (meets s (record { near = b; far = t }) ms)
heard_unmet b t f r (Tells c nr) ms may n h = elim (same_or_other n b) [
  | inl is ↦ inr (inl (sym is))
  | inr not ↦ elim h [ inl none ↦ inl (ap (λ p. p.taken) (put_apart b n r f not) ∙ none) | inr some ↦ inr (inr some) ]
]
heard_unmet b t f r s ms may n h = elim h [
  | inl none ↦ inl (put_alike (λ p. p.taken) b r f (ap (λ p. p.taken) may) n ∙ none)
  | inr some ↦ inr some
]

heard_all : (w : Ends) (e : Letter) (rest : List Letter) (r : Peer) → w.two.back ≡ e ∷ rest → w.two.near.stand ≡ In → MayMake (near_now w) e.said r
    → (h : All w)
    → All (record w { two = record w.two { back = rest; met = heard w.two.near.stand w.two.near.begun e w.two.met }; near_of = with_near r w })
heard_all w e rest r is on may h =
    let b = w.two.near.begun in
    let met = heard w.two.near.stand b e w.two.met in
    let near = near_at is h.held.near in
    let hold = came h.held.q e.session e.said rest ((near.live on).0)
    (subst (λ l. Hold (near_now w) (w.far_of h.held.q) (of h.held.p w.two.out) (of h.held.q l)) is (at_now h on)) may in
    let next = come_held w.two e rest is h.held in
    updated h next on refl refl refl refl hold
    (met_heard w.near_of w.far_of w.two.near.stand e.said near (both_orders h.line) w.two.met h.order)
    next.meets.paired
    (λ n. rw on (heard_unmet b e.session w.near_of r e.said w.two.met may n (h.near_unmet n)))
    (λ n. elim (h.far_unmet n) [ inl none ↦ inl none | inr some ↦ inr (heard_more (λ m. m.far ≡ n) w.two.near.stand b e w.two.met some) ])

does_all : {w v : Ends} → Does w v → All w → All v
does_all {w} (sends carried nr r is may) h = sent_all w carried nr r is may h
does_all {w} (listens e rest r is on may) h = heard_all w e rest r is on may h
does_all {w} (moves u m) h = alike_all (fresh_where (begins m) w.two.near.begun w.near_of) (fresh_same w.two.near.begun w.near_of h.near_later (begins m))
    (moves_all w u m h)

starts_all : (stand : Stand) (b : ℕ) → All (begin_at stand b)
starts_all stand b = record {
  held = first_held stand b;
  near_later = λ n less. refl;
  far_later = λ n less. refl;
  line = starts;
  order = tt;
  near_unmet = λ n. inl refl;
  far_unmet = λ n. inl refl;
}

-- it holds of two ends that keep the rules, wherever their moves lead
pub reached_all : {w : Ends} → EndsReached w → All w
reached_all at_start = starts_all Out 0
reached_all set_up = starts_all In 1
reached_all (near_handed v packet r is) = handed_all packet is (reached_all r)
reached_all (far_handed v packet r is) = all_turned (handed_all packet is (all_turned (reached_all r)))
reached_all (near_does v u r m) = does_all m (reached_all r)
reached_all (far_does v u r m) = all_turned (does_all m (all_turned (reached_all r)))

-- ---- the claims

-- a session that is over, or that stands, is none that its end is about to begin
pub far_high : {w : Ends} (h : All w) → w.two.far.begun ≤ h.held.q
far_high h = elim h.held.far.view [ inl is ↦ omega (arith, is) | inr is ↦ omega (arith, is) ]

-- who meets the session in which the near end is: the far end's latest, which stands
pub latest : (w : Ends) (h : All w) → w.two.near.stand ≡ In → Each (λ (m : Meeting). m.near ≡ w.two.near.begun → m.far ≡ w.two.far.begun) w.two.met
latest w h on = all_meet h.held.p h.held.q w.two.near.begun w.two.far.begun w.two.met (h.held.near.is_in on) (far_high h) h.held.meets.begun h.held.meets.paired

-- and it stands where the near end met one
pub some_stands : (w : Ends) (h : All w) → w.two.near.stand ≡ In → SomeMet (λ (m : Meeting). m.near ≡ w.two.near.begun) w.two.met → h.held.q ≡ w.two.far.begun
some_stands w h on =
    some_meets h.held.p h.held.q w.two.near.begun w.two.far.begun w.two.met (h.held.near.is_in on) (far_high h) h.held.meets.begun h.held.meets.paired

-- all that an end was handed down in its session was taken, where all is acknowledged
pub all_taken : {w : Ends} (h : All w) → w.two.near.stand ≡ In → h.held.q ≡ w.two.far.begun → (near_now w).acked ≡ length (near_now w).given
    → (w.far_of w.two.far.begun).taken ≡ (near_now w).given
all_taken h on latest acked = rw (sym latest) ((both_orders (at_now h on)).0.all acked)

pub valid : (w : Ends) (h : All w) → w.two.near.stand ≡ In → (e : Letter) (rest : List Letter) (carried : Option Carried) (nr : ℕ) → w.two.back ≡ e ∷ rest
    → e.said ≡ Tells carried nr
    → resolved (near_now w).acked nr ≤ (near_now w).sent
valid w h on e rest carried nr is says =
    let q = h.held.q in
    let near = near_at is h.held.near in
    let to = subst (λ z. OfTells z (e.session ≡ q)) says (near.live on).0 in
    let front : of q w.two.back ≡ told carried nr ∷ of q rest =
    ap (of q) is ∙ ap (λ z. keep (e.session == q) z (of q rest)) says ∙ in_front q e.session carried nr rest to in
    valid_front (near_now w) (w.far_of q) (of h.held.p w.two.out) (of q rest) (told carried nr) (rw (sym front) (at_now h on))

-- behind the UA that an end awaits no SABM of the other is older than its session, and no SABM of the end is on the line
pub ua_present : {w : Ends} (h : All w) (s : ℕ) (rest : List Letter) → w.two.near.stand ≡ Asking → w.two.back ≡ letter s Ua ∷ rest → AreOf w.two.far.begun rest
    × (how_many sabm_of w.two.out ≡ 0)
ua_present h s rest asking is =
    let near = near_stands asking (near_at is h.held.near) in
    elim near.view [ inl here ↦ (absurd (omega (arith, near.left refl here))) | inr less ↦ ((near.soon refl less).1, omega (arith, ((near.asks_once refl).0))) ]

-- any two ends that keep the rules: all claims over sessions
pub keep_sessions : OfAnyTwoEnds KeepSessions
keep_sessions w r =
    let h = reached_all r in
    record {
      step = h.held.meets.step;
      order = h.order;
      near_unmet = h.near_unmet;
      far_unmet = h.far_unmet;
      latest = latest w h;
      valid = λ on e rest carried nr is says. valid w h on e rest carried nr is says;
    }
