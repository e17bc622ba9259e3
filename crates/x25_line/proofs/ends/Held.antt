-- What holds of two ends over sessions: one session of each stands, which meet or may yet meet; and what is on the lines is of these.
use Rattle.x25_line.proofs.Names.{◌≡◌, ◌≤◌, ◌+◌, ◌⊎◌, ℕ, suc, List, [], ◌∷◌, ◌++◌, inl, inr, refl, arith, subst, sabm_of, ua_of, disc_of, Sabm, Ua, Stand, Out}
use Rattle.x25_line.{proofs.Names.{Asking, In, Letter, letter, OfTells, AreOf, LessAt, IsSpoilt}, proofs.ends.Lines.{asked_less}, specs.laws.Ends.{how_many}}
use Rattle.x25_line.proofs.ends.Lines.{count_push, count_less, AllTold, AllTags, tags_push, tags_more, tags_less, told_push, told_less, of_tells, sabm_free, Of}
use Rattle.x25_line.proofs.ends.Lines.{AfterUa, after_none, after_push, after_less, after_base, AllAsked, asked_none, asked_map, asked_now, asked_push}
use Rattle.x25_line.specs.laws.Said.{Disc}

-- Where a SABM of y that is older than its session may be on the line to x, whose line is `out`: x is about to be in the session that stands.
abbrev pub IsOlder : ℕ → ℕ → List Letter → Stand → Type 0
IsOlder bx p out sy = (suc bx ≡ p) × (how_many sabm_of out ≡ 0) × (sy ≡ Asking → ⊥)

-- What is known of x, which stands so and began so many sessions, and of the line to it from y: p and q are the sessions that stand.
-- x is in its own, or about to be, where it began one less; or it left that session.
pub record Side (sx : Stand) (bx p : ℕ) (sy : Stand) (b q : ℕ) (out back : List Letter) : Type 0 where
  pub view : (bx ≡ p) ⊎ (suc bx ≡ p)
  pub tags : AllTags b back
  pub is_in : sx ≡ In → bx ≡ p
  pub live : sx ≡ In → AllTold (Of q) back
  pub soon : sx ≡ Asking → suc bx ≡ p → AfterUa q b back
  pub left : sx ≡ Asking → bx ≡ p → how_many ua_of back ≡ 0
  pub asked : AllAsked (sy ≡ In → ⊥) (IsOlder bx p out sy) b q back
  pub one : how_many sabm_of back ≤ 1
  pub asks_once : sx ≡ Asking → (how_many sabm_of out + how_many ua_of back ≤ 1) × (how_many disc_of out ≡ 0)

-- as a run begins
pub first_side : (s : Stand) (b : ℕ) → Side s b b s b b [] []
first_side s b = record {
  view = inl refl;
  tags = tt;
  is_in = λ _. refl;
  live = λ _. tt;
  soon = λ _ _. tt;
  left = λ _ _. refl;
  asked = tt;
  one = omega arith;
  asks_once = λ _. (omega arith, refl);
}

-- x begins its session of the two that stand, as a UA or an older SABM comes
pub begin_near : {bx p b q : ℕ} {sy : Stand} {out back : List Letter} → suc bx ≡ p → AllTags b back → AllTold (Of q) back
    → AllAsked (sy ≡ In → ⊥) (IsOlder (suc bx) p out sy) b q back → how_many sabm_of back ≤ 1
    → Side In (suc bx) p sy b q out back
begin_near is tags told asked one = record {
  view = inl is;
  tags = tags;
  is_in = λ _. is;
  live = λ _. told;
  soon = λ asks. absurd (cc);
  left = λ asks. absurd (cc);
  asked = asked;
  one = one;
  asks_once = λ asks. absurd (cc);
}

-- ---- the line from x is another, or y stands otherwise

module _ {sx sy ty : Stand} {bx p b q : ℕ} {out back : List Letter} where
  from_near : (fs : List Letter) → AllAsked (ty ≡ In → ⊥) (IsOlder bx p fs ty) b q back
      → (sx ≡ Asking → (how_many sabm_of fs + how_many ua_of back ≤ 1) × (how_many disc_of fs ≡ 0))
      → Side sx bx p sy b q out back → Side sx bx p ty b q fs back
  from_near fs asked once h =
      record { view = h.view; tags = h.tags; is_in = h.is_in; live = h.live; soon = h.soon; left = h.left; asked = asked; one = h.one; asks_once = once }

module _ {sx sy : Stand} {bx p b q : ℕ} {out back : List Letter} where
  -- ---- where the line to x is this one, and where x stands so

  -- the line to x is this one
  pub near_at : {fs : List Letter} → back ≡ fs → Side sx bx p sy b q out back → Side sx bx p sy b q out fs
  near_at is h = subst (λ es. Side sx bx p sy b q out es) is h

  pub far_at : {fs : List Letter} → back ≡ fs → Side sy b q sx bx p back out → Side sy b q sx bx p fs out
  far_at is h = subst (λ es. Side sy b q sx bx p es out) is h

  -- x stands so
  pub near_stands : {s : Stand} → sx ≡ s → Side sx bx p sy b q out back → Side s bx p sy b q out back
  near_stands is h = subst (λ z. Side z bx p sy b q out back) is h

  pub far_stands : {s : Stand} → sx ≡ s → Side sy b q sx bx p back out → Side sy b q s bx p back out
  far_stands is h = subst (λ z. Side sy b q z bx p back out) is h

  -- ---- the line to x is less

  pub less_near : {i : ℕ} {fs : List Letter} → LessAt IsSpoilt i back fs → Side sx bx p sy b q out back → Side sx bx p sy b q out fs
  less_near l h =
      let uas = count_less ua_of refl l in
      let one = h.one in
      record {
        view = h.view;
        tags = tags_less b l h.tags;
        is_in = h.is_in;
        live = λ k. told_less (Of q) l (h.live k);
        soon = λ k less. after_less q b l (omega (arith, (h.asks_once k).0)) (h.soon k less);
        left = λ k here. omega (arith, h.left k here, uas);
        asked = asked_less _ _ b q l h.asked;
        one = omega (arith, one, count_less sabm_of refl l);
        asks_once = λ k. (omega (arith, (h.asks_once k).0, uas), (h.asks_once k).1);
      }

  -- the same of the line from y
  pub less_far : {i : ℕ} {fs : List Letter} → LessAt IsSpoilt i back fs → Side sy b q sx bx p back out → Side sy b q sx bx p fs out
  less_far {fs = fs} l h =
      let sabms = count_less sabm_of refl l in
      from_near fs (asked_map _ _ bx p (λ n. n) (λ o. (o.0, omega (arith, o.1, sabms), o.2)) out h.asked)
      (λ k. (omega (arith, (h.asks_once k).0, sabms), omega (arith, (h.asks_once k).1, (count_less disc_of refl l)))) h

  -- ---- x sends, and its session stays

  -- the line from x, as x sees it
  pub push_near : (e : Letter) → sabm_of e.said ≡ 0 → disc_of e.said ≡ 0 → Side sx bx p sy b q out back → Side sx bx p sy b q (out ++ e ∷ []) back
  push_near e no_sabm no_disc h =
      let sabms = count_push sabm_of out e in
      from_near (out ++ e ∷ []) (asked_map _ _ b q (λ n. n) (λ o. (o.0, omega (arith, o.1, sabms, no_sabm), o.2)) back h.asked)
      (λ k. (omega (arith, (h.asks_once k).0, sabms, no_sabm), omega (arith, (h.asks_once k).1, (count_push disc_of out e), no_disc))) h

  -- and as y does: what has an N(R) is sent in the session that stands; and no UA comes that y doesn't await
  pub push_far : (e : Letter) → sabm_of e.said ≡ 0 → e.session ≤ bx → OfTells e.said (((sx ≡ In → ⊥) → ⊥) × (e.session ≡ p)) → (sy ≡ Asking → ua_of e.said ≡ 0)
      → Side sy b q sx bx p back out → Side sy b q sx bx p back (out ++ e ∷ [])
  push_far e no_sabm tag told no_ua h =
      let uas = count_push ua_of out e in
      let one = h.one in
      let is = of_tells e.said (e.session ≡ p) (λ k. k.1) told in
      record {
        view = h.view;
        tags = tags_push out e h.tags tag;
        is_in = h.is_in;
        live = λ k. told_push (Of p) out e (h.live k) is;
        soon = λ k less. after_push p bx out e (h.soon k less) is (sabm_free e.said (e.session ≡ bx) no_sabm);
        left = λ k here. omega (arith, h.left k here, no_ua k, uas);
        asked = asked_push _ _ bx p out e h.asked told (sabm_free e.said _ no_sabm);
        one = omega (arith, one, count_push sabm_of out e, no_sabm);
        asks_once = λ k. (omega (arith, (h.asks_once k).0, no_ua k, uas), (h.asks_once k).1);
      }

  -- ---- x leaves

  pub leave_near : Side sx bx p sy b q out back → Side Out bx p sy b q out back
  leave_near h = record {
    view = h.view;
    tags = h.tags;
    is_in = λ k. absurd (cc);
    live = λ k. absurd (cc);
    soon = λ k. absurd (cc);
    left = λ k. absurd (cc);
    asked = h.asked;
    one = h.one;
    asks_once = λ k. absurd (cc);
  }

  pub leave_far : Side sy b q sx bx p back out → Side sy b q Out bx p back out
  leave_far h =
      from_near back (asked_map _ _ bx p (λ n k. absurd (cc)) (λ o. (o.0, o.1, λ k. absurd (cc))) out h.asked) h.asks_once h

  -- x sends DISC as it leaves
  pub close_near : Side sx bx p sy b q out back → Side Out bx p sy b q (out ++ letter bx Disc ∷ []) back
  close_near h =
      let left = leave_near h in
      from_near (out ++ letter bx Disc ∷ [])
      (asked_map _ _ b q (λ n. n) (λ o. (o.0, omega (arith, o.1, (count_push sabm_of out (letter bx Disc))), o.2)) back left.asked) (λ k. absurd (cc))
      left

  -- ---- x asks

  pub ask_near : how_many sabm_of out ≡ 0 → how_many disc_of out ≡ 0 → how_many ua_of back ≡ 0 → AreOf b back → Side sx bx p sy b q out back
      → Side Asking bx p sy b q (out ++ letter bx Sabm ∷ []) back
  ask_near no_sabm no_disc no_ua present h =
      record {
        view = h.view;
        tags = h.tags;
        is_in = λ k. absurd (cc);
        live = λ k. absurd (cc);
        soon = λ _ _. after_none q b back no_ua;
        left = λ _ _. no_ua;
        asked = asked_now _ _ _ b q q back present h.asked;
        one = h.one;
        asks_once = λ _. (
          omega (arith, count_push sabm_of out (letter bx Sabm), no_sabm, no_ua),
          omega (arith, count_push disc_of out (letter bx Sabm), no_disc),
        );
      }

  pub ask_far : how_many sabm_of out ≡ 0 → Side sy b q sx bx p back out → Side sy b q Asking bx p back (out ++ letter bx Sabm ∷ [])
  ask_far no_sabm h =
      let e = letter bx Sabm in
      let uas = count_push ua_of out e in
      record {
        view = h.view;
        tags = tags_push out e h.tags (omega arith);
        is_in = h.is_in;
        live = λ k. told_push (Of p) out e (h.live k) tt;
        soon = λ k less. after_push p bx out e (h.soon k less) tt refl;
        left = λ k here. omega (arith, h.left k here, uas);
        asked = asked_push _ _ bx p out e (asked_none _ _ bx p out no_sabm) tt ((λ k. absurd (cc)), refl);
        one = omega (arith, count_push sabm_of out e, no_sabm);
        asks_once = λ k. (omega (arith, (h.asks_once k).0, uas), (h.asks_once k).1);
      }

  -- ---- x begins its session of the two that stand, as a UA or an older SABM comes, and no SABM of it is on the line

  pub begin_far : how_many sabm_of out ≡ 0 → Side sy b q sx bx p back out → Side sy b q In (suc bx) p back out
  begin_far no_sabm h = record {
    view = h.view;
    tags = tags_more bx (suc bx) out (omega arith) h.tags;
    is_in = h.is_in;
    live = h.live;
    soon = λ k less. after_base p bx (suc bx) out no_sabm (h.soon k less);
    left = h.left;
    asked = asked_none _ _ (suc bx) p out no_sabm;
    one = h.one;
    asks_once = h.asks_once;
  }

  -- ---- a SABM of y's present session comes, by which two new sessions stand

  -- y is about to begin its own; it may await the UA
  pub new_far : (s : Stand) → (sy ≡ In → ⊥) → Side sy b q sx bx p (letter b Sabm ∷ back) out → {bn : ℕ} → bx ≤ bn → bn ≤ suc bx
      → AllAsked (s ≡ In → ⊥) (IsOlder b (suc b) back s) bn (suc bx) out
      → Side sy b (suc b) s bn (suc bx) back (out ++ letter bn Ua ∷ [])
  new_far s off h {bn} low high asked =
      let e = letter bn Ua in
      let one = h.one in
      record {
        view = inr refl;
        tags = tags_push out e (tags_more bx bn out low h.tags) (omega arith);
        is_in = λ k. absurd (off k);
        live = λ k. absurd (off k);
        soon = λ k _. after_push (suc bx) bn out e (after_none (suc bx) bn out (omega (arith, (h.asks_once k).0))) tt tt;
        left = λ k here. absurd (omega (arith, here));
        asked = asked_push _ _ bn (suc bx) out e asked tt tt;
        one = omega (arith, one, count_push sabm_of out e);
        asks_once = λ k. (omega (arith, (h.asks_once k).0, count_push ua_of out e), omega (arith, (h.asks_once k).1));
      }
