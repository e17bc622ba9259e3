-- The lines of an end of which nothing is told are those of an end that keeps the rules, and each number carries one
-- packet, whatever is told of the other end.
use Rattle.x25_judge.proofs.verdicts.Names.{◌≡◌, ◌⊎◌, inl, inr, ℕ, ◌%◌, ◌≤◌, ◌+◌, ◌==◌, Bool, true, false, List, [], ◌∷◌, ◌++◌, if◌then◌else◌, arith, length}
use Rattle.x25_judge.proofs.verdicts.Names.{refl, sym, ap, ◌∙◌, subst, slice_get, eqb-true, length_push, Role, PlainFrame, info, rr, rnr, rej}
use Rattle.x25_judge.proofs.verdicts.Names.{ReadsWhatIsSpelled, Peer, fresh_peer, MayHear, IsWanted, said, notes, other, own_of, Judge, Shows, IsDamaged}
use Rattle.x25_judge.proofs.{verdicts.Names.{IsNumbered, SilenceMeansNumbers, SilenceMeansRules, more, Unread, Some, Ok}, verdicts.Innocents.{lost_end}}
use Rattle.x25_judge.specs.laws.Explaining.{IsUntold, Begins, Says, Comes, Fails, IsKept, Fresh, HandsDown, Sends, Hears, Carries, Nothing, Next, Again, Beside}
use Rattle.x25_judge.specs.laws.Explaining.{Passes}
use Rattle.x25_judge.proofs.verdicts.TakenUp.{untold_over}
use Rattle.x25_judge.proofs.verdicts.Silences.{Explains, Given, begun_knows, noted_line, notes_given, other_by, other_line, own_line, passes_line}

-- what holds of such lines and of the end behind them
record Reached (from : Role) (P : List (List ℕ) → Peer → Type 0) (j : Judge) (lines : List (List ℕ)) : Type 0 where
  pub p : Peer
  pub holds : P lines p
  pub knows : Explains (own_of from j) p

-- behind damaged octets it has heard and taken what may be
abbrev unread : Peer → Peer
unread p = record p { acked = p.acked + 7; taken = p.taken ++ [] ∷ [] }

-- it is kept by each line
record Steps (from : Role) (Damage : Type 0) (P : List (List ℕ) → Peer → Type 0) : Type 0 where
  pub own : (lines : List (List ℕ)) (p q : Peer) (line octets : List ℕ) (frame : PlainFrame) → Shows line from octets frame
      → length p.given ≡ p.sent → Given p frame q → q.given ≡ more frame p.given → P lines p → P (lines ++ line ∷ []) q
  pub opposite : (lines : List (List ℕ)) (p : Peer) (line octets : List ℕ) (frame : PlainFrame)
      → Shows line (other from) octets frame → IsNumbered frame → P lines p → P (lines ++ line ∷ []) (notes (Ok frame) p)
  pub damaged : Damage → (lines : List (List ℕ)) (p : Peer) (line octets : List ℕ) → IsDamaged line (other from) octets → P lines p
      → P (lines ++ line ∷ []) (unread p)

module _ (reads : ReadsWhatIsSpelled) (from : Role) (Damage : Type 0) (P : List (List ℕ) → Peer → Type 0)
    (starts : P [] fresh_peer) (steps : Steps from Damage P) where
  reached : (j : Judge) (lines : List (List ℕ)) → IsUntold Damage from j lines → (own_of from j).set.is_blind ≡ false → Reached from P j lines
  reached j lines (Begins k up) room = record { p = fresh_peer; holds = starts; knows = begun_knows j from (up from) room }
  reached k all (Says j lines line octets frame shows is quiet h) room =
      let own = own_line from j line octets frame shows is (untold_over Damage from from j lines h) quiet room in
      let e = reached j lines h own.sees in
      let x = passes_line reads from j line octets frame e.p shows is own e.knows in
      record { p = x.q; holds = steps.own lines e.p x.q line octets frame shows e.knows.all x.sends x.shown e.holds; knows = x.knows }
  reached k all (Comes j lines line octets frame shows is h) room =
      let over = untold_over Damage from from j lines h in
      let e = reached j lines h (other_line from j line octets frame shows over room).sees in
      record {
        p = notes (Ok frame) e.p;
        holds = steps.opposite lines e.p line octets frame shows is e.holds;
        knows = noted_line from j line octets frame e.p shows is over room e.knows;
      }
  reached k all (Fails j lines line octets damage broken h) room =
      let o = other_by from j line Unread (lost_end from j line octets broken) room in
      let e = reached j lines h o.sees in
      record {
        p = unread e.p;
        holds = steps.damaged damage lines e.p line octets broken e.holds;
        knows = o.on e.p (unread e.p)
            (ap (λ m. record { sent = e.p.sent; acked = e.p.acked + 7; taken = m; told = e.p.told }) (length_push e.p.taken [])) refl e.knows;
      }

-- ---- an end that keeps the rules

wanted : (b : Bool) (ns : ℕ) (p : Peer) → (ns == length p.taken % 8) ≡ b → IsWanted b ns p
wanted true ns p e = eqb-true ns (length p.taken % 8) e
wanted false ns p e = tt

may_note : (frame : PlainFrame) (p : Peer) → IsNumbered frame → MayHear p (Ok frame) (notes (Ok frame) p)
may_note (info ns nr pf packet) p is = (true, ns == length p.taken % 8, wanted (ns == length p.taken % 8) ns p refl, refl)
may_note (rr command nr pf) p is = (true, refl)
may_note (rnr command nr pf) p is = (true, refl)
may_note (rej command nr pf) p is = (true, refl)
may_note frame p is = absurd is

given_kept : (from : Role) (lines : List (List ℕ)) (p u : Peer) → (u ≡ p) ⊎ ((packet : List ℕ) × (u ≡ record p { given = p.given ++ packet ∷ [] }))
    → IsKept from lines p → IsKept from lines u
given_kept from lines p u (inl e) h = subst (λ (x : Peer). IsKept from lines x) (sym e) h
given_kept from lines p u (inr (packet, e)) h = subst (λ (x : Peer). IsKept from lines x) (sym e) (HandsDown lines p packet h)

pub silence_means_rules : ReadsWhatIsSpelled → SilenceMeansRules
silence_means_rules reads from j lines quiet room =
    let e = reached reads from ⊥ (IsKept from) Fresh
    (record {
      own = λ lines p q line octets frame shows all sends is h.
          Sends lines sends.before q line octets frame shows sends.may (given_kept from lines p sends.before sends.given h);
      opposite = λ lines p line octets frame shows is h.
          Hears lines p (notes (Ok frame) p) line octets frame shows (may_note frame p is) h;
      damaged = λ never. absurd never;
    }) j lines quiet room in (e.p, e.holds)

-- ---- numbers

before_sent : (p u : Peer) → (u ≡ p) ⊎ ((packet : List ℕ) × (u ≡ record p { given = p.given ++ packet ∷ [] })) → u.sent ≡ p.sent
before_sent p u (inl e) = ap (λ (x : Peer). x.sent) e
before_sent p u (inr (packet, e)) = ap (λ (x : Peer). x.sent) e

module _ (from : Role) (lines : List (List ℕ)) (p q : Peer) (line octets : List ℕ) (all : length p.given ≡ p.sent)
    (h : Carries from lines p.given) where
  beside : q.given ≡ p.given → (Carries from lines p.given → Carries from (lines ++ line ∷ []) p.given) → Carries from (lines ++ line ∷ []) q.given
  beside is on = subst (Carries from (lines ++ line ∷ [])) (sym is) (on h)

  carried : (frame : PlainFrame) → Shows line from octets frame → Given p frame q → q.given ≡ more frame p.given → Carries from (lines ++ line ∷ []) q.given
  carried (info ns nr pf packet) shows sends is = go (ns == length p.given % 8) refl is
    where
      n : ℕ
      n = sends.may.0

      near : length p.given ≤ n + 7
      near =
          let same = before_sent p sends.before sends.given in
          let again = sends.may.2.again in
          omega (arith, all, same, again)

      go : (b : Bool) → (ns == length p.given % 8) ≡ b → q.given ≡ (if b then p.given ++ packet ∷ [] else p.given) → Carries from (lines ++ line ∷ []) q.given
      go true e is =
          subst (Carries from (lines ++ line ∷ [])) (sym is)
          (Next lines p.given line octets ns nr pf packet shows (eqb-true ns (length p.given % 8) e) h)
      go false e is =
          let same : sends.before.given ≡ p.given = sym (ap (λ (x : Peer). x.given) sends.may.6) ∙ is in
          subst (Carries from (lines ++ line ∷ [])) (sym is)
          (Again lines p.given line octets ns nr n pf packet shows sends.may.2.number near
          (subst (λ (xs : List (List ℕ)). slice_get xs n ≡ Some packet) same sends.may.2.same) h)
  carried (rr command nr pf) shows sends is = beside is (Beside lines p.given line octets (rr command nr pf) shows tt)
  carried (rnr command nr pf) shows sends is = beside is (Beside lines p.given line octets (rnr command nr pf) shows tt)
  carried (rej command nr pf) shows sends is = beside is (Beside lines p.given line octets (rej command nr pf) shows tt)
  carried frame shows sends is = absurd sends.may

pub silence_means_numbers : ReadsWhatIsSpelled → SilenceMeansNumbers
silence_means_numbers reads from j lines untold room =
    let e = reached reads from (Unit {0}) (λ lines p. Carries from lines p.given) Nothing
    (record {
      own = λ lines p q line octets frame shows all sends is h. carried from lines p q line octets all h frame shows sends is;
      opposite = λ lines p line octets frame shows is h.
          subst (Carries from (lines ++ line ∷ [])) (sym (notes_given (said (Ok frame)) p)) (Passes lines p.given line octets shows.spells h);
      damaged = λ d lines p line octets broken h. Passes lines p.given line octets broken.spells h;
    }) j lines untold room in (e.p.given, e.holds)
