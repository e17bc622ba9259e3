-- A step of an end of a handshake: what it makes of a packet, or does of its own accord. That says nothing of the lines, and keeps what is kept.
use Rattle.x25_handshakes.proofs.Names.{◌≡◌, ℕ, suc, List, [], ◌∷◌, ◌++◌, refl, sym, subst, ◌∙◌, Mark, Inner, Request, Confirm, Side, Live, Left, At}
use Rattle.x25_handshakes.proofs.HandshakeLemmas.{request_live, confirm_never, leave, inner_act, inner_take, drops, marker_left, inner_live, live_front, still}
use Rattle.x25_handshakes.proofs.HandshakeRelation.{Level, Handshake, Handshaken, AllInner}

-- any packets
abbrev pub Any : {P : Type 0} → List P → Type 0
Any o = Unit {0}

module _ {S T P : Type 0} (l : Level S T P) (Q : List P → Type 0) where
  -- in its epoch an end goes to x, and sends this
  pub record Goes (e : ℕ) (x : S) (next : At S) (out w v : List P) (z : T) : Type 0 where
    pub at : next ≡ record { epoch = e; side = Live x }
    pub inner : AllInner l.mark out
    pub passes : Q out
    pub kept : l.related x (w ++ out) v z

  -- with these packets taken, one or none
  pub record Inside (e : ℕ) (x : S) (taken : List P) (next : At S) (out : List P) : Type 0 where
    pub after : S
    pub goes : (w v : List P) (z : T) → l.related x w (taken ++ v) z → Goes e after next out w v z

  -- its next epoch begins with a confirmation
  pub record Confirms (e : ℕ) (next : At S) (out : List P) : Type 0 where
    pub confirm : P
    pub is : l.mark confirm ≡ Confirm
    pub at : next ≡ record { epoch = suc e; side = Live l.fresh }
    pub sent : out ≡ confirm ∷ []
    pub passes : Q out

  -- nothing is sent
  abbrev pub Silent : At S → At S → List P → Type 0
  Silent a next out = (next ≡ a) × (out ≡ [])

  -- what an end makes of a packet with this mark
  abbrev pub Answers : ℕ → Side S → P → Mark → At S → List P → Type 0
  Answers e (Live x) p Inner next out = Inside e x (p ∷ []) next out
  Answers e (Live x) p Request next out = Confirms e next out
  Answers e (Live x) p Confirm next out = Unit {0}
  Answers e (Left x) p Inner next out = Silent (record { epoch = e; side = Left x }) next out
  Answers e (Left x) p m next out = Silent (record { epoch = suc e; side = Live l.fresh }) next out

  abbrev Good : At S → List P → List P → List P → At T → Type 0
  Good next out L K y = Handshaken l next (L ++ out) K y × Q out

  silent : Q [] → {a next : At S} {out : List P} → Silent a next out → {L K : List P} {y : At T} → Handshaken l a L K y → Good next out L K y
  silent none {a} s {L} {K} {y} h = rw s.0 (subst (λ o. Good a o L K y) (sym s.1) (still h, none))

  -- it goes on in its epoch, of its own accord
  pub acts_inside : (e : ℕ) (x : S) (next : At S) (out : List P) → Inside e x [] next out → (L K : List P) (y : At T)
      → Handshaken l (record { epoch = e; side = Live x }) L K y → Good next out L K y
  acts_inside e x next out a L K y h =
      let some = inner_live x y.side h.hand in
      let good = a.goes some.0 some.1 some.2 some.3 in
      subst (λ n. Good n out L K y) (sym good.at)
      (record { hand = inner_act out good.inner x a.after (λ w v z k. (a.goes w v z k).kept) h.hand }, good.passes)

  -- or leaves it
  pub leaves : (q : P) → l.mark q ≡ Request → (e : ℕ) (x : S) → l.gone x → {L K : List P} {y : At T} → Handshaken l (record { epoch = e; side = Live x }) L K y
      → Handshaken l (record { epoch = e; side = Left x }) (L ++ q ∷ []) K y
  leaves q is e x gone h = record { hand = leave q is x gone h.hand }

  -- what an end makes of the packet that comes keeps the handshake
  pub answered : Q [] → l.related l.fresh [] [] l.fresh_there → {e : ℕ} {x : Side S} {p : P} {next : At S} {out : List P} → Answers e x p (l.mark p) next out
      → {L : List P} (K : List P) {y : At T} → Handshaken l (record { epoch = e; side = x }) L (p ∷ K) y → Good next out L K y
  answered none empty {e} {x} {p} {next} {out} a {L} K {y} h = by x (l.mark p) refl a h.hand
    where
      by : (x : Side S) (m : Mark) → l.mark p ≡ m → Answers e x p m next out → Handshake l e y.epoch x y.side L (p ∷ K) → Good next out L K y
      by (Live x) Inner is a h =
          let some = live_front l p is e y.epoch x y.side L K h in
          let good = a.goes some.0 some.1 some.2 some.3 in
          subst (λ n. Good n out L K y) (sym good.at) (
            record { hand = inner_take l p out is good.inner e y.epoch x a.after y.side L K (λ w v z k. (a.goes w v z k).kept) h },
            good.passes,
          )
      by (Live x) Request is a h =
          let hand = request_live l empty a.confirm p a.is is e y.epoch x y.side L K h in (
            rw a.at (subst (λ o. Handshaken l (record { epoch = suc e; side = Live l.fresh }) (L ++ o) K y) (sym a.sent) (record { hand = hand })),
            a.passes,
          )
      by (Live x) Confirm is a h = absurd (confirm_never p is x K h)
      by (Left x) Inner is a h = silent none a (record { hand = drops p is x K h })
      by (Left x) Request is a h = silent none a (record { hand = marker_left empty p (λ same. let no : Request ≡ Inner = sym is ∙ same in cc) x K h })
      by (Left x) Confirm is a h = silent none a (record { hand = marker_left empty p (λ same. let no : Confirm ≡ Inner = sym is ∙ same in cc) x K h })
