-- Sessions that meet by the transcript meet in step, as those of the two links do.
use Rattle.x25_world.proofs.Names.{◌≡◌, ℕ, ◌≤◌, ◌<◌, ◌⊎◌, inl, inr, List, [], ◌∷◌, Option, Some, None, sym, ap, ◌∙◌, arith, Role, Dte, Dce, other, Meeting}
use Rattle.x25_world.proofs.Names.{Each, IsNoEarlier, InStep, OnlyBegunHaveLists, Cfg, World, last_session, meets, SessionLaws, all_no_earlier, all_some}
use Rattle.std.proofs.lemmas.Option.{none-some}
use Rattle.x25_world.proofs.{Known.{IsConfigured}, Names.{MeetInStep}, sessions.SessionJoined.{HasMet, Hears, SessionsJoined}}
use Rattle.x25_world.proofs.sessions.SessionReaches.{known_sessions}
use Rattle.x25_line.specs.laws.SessionClaims as line

-- ---- by the links

-- the same two sessions, or both earlier, or both later
abbrev AreInStep : ℕ → ℕ → ℕ → ℕ → Type 0
AreInStep n m p q = ((n ≡ p) × (m ≡ q)) ⊎ (((n < p) × (m < q)) ⊎ ((p < n) × (q < m)))

-- this meeting is no later than one
below : (x : Meeting) (ms : List Meeting) (n m : ℕ) → Each (IsNoEarlier x) ms → HasMet n m ms → ((n ≡ x.near) × (m ≡ x.far)) ⊎ ((n < x.near) × (m < x.far))
below x ms n m all some =
    all_some (IsNoEarlier x) (λ p. (p.near ≡ n) × (p.far ≡ m)) (((n ≡ x.near) × (m ≡ x.far)) ⊎ ((n < x.near) × (m < x.far))) no_later ms all some
  where
    no_later : (p : Meeting) → IsNoEarlier x p → (p.near ≡ n) × (p.far ≡ m) → ((n ≡ x.near) × (m ≡ x.far)) ⊎ ((n < x.near) × (m < x.far))
    no_later p (inl same) is = inl (sym is.0 ∙ same.0, sym is.1 ∙ same.1)
    no_later p (inr less) is = inr (omega (arith, is.0, less.0), omega (arith, is.1, less.1))

two_in_step : (ms : List Meeting) → InStep ms → {n m p q : ℕ} → HasMet n m ms → HasMet p q ms → AreInStep n m p q
two_in_step [] step f g = absurd f
two_in_step (x ∷ ms) step {n} {m} {p} {q} f g = elim f [
  | inl here ↦ elim g [
    | inl also ↦ inl (sym here.0 ∙ also.0, sym here.1 ∙ also.1)
    | inr there ↦ elim (below x ms p q (all_no_earlier x ms step) there) [
      | inl same ↦ inl (sym here.0 ∙ sym same.0, sym here.1 ∙ sym same.1)
      | inr less ↦ inr
          (inr (higher p x.near n here.0 less.0, higher q x.far m here.1 less.1))
    ]
  ]
  | inr there ↦ elim g [
    | inl here ↦ elim (below x ms n m (all_no_earlier x ms step) there)
        [ inl same ↦ inl (same.0 ∙ here.0, same.1 ∙ here.1) | inr less ↦ inr (inl (higher n x.near p here.0 less.0, higher m x.far q here.1 less.1)) ]
    | inr also ↦ two_in_step ms step.1 there also
  ]
]
  where
    higher : (a b c : ℕ) → b ≡ c → a < b → a < c
    higher a b c e lt = omega (arith, e, lt)

-- both were begun
pub begun_both : (near far : ℕ) (met : List Meeting) {n m : ℕ} → Each (λ (p : Meeting). (p.near ≤ near) × (p.far ≤ far)) met → HasMet n m met → (n ≤ near)
    × (m ≤ far)
begun_both near far met {n} {m} all some =
    all_some (λ p. (p.near ≤ near) × (p.far ≤ far)) (λ p. (p.near ≡ n) × (p.far ≡ m)) ((n ≤ near) × (m ≤ far))
    (λ (p : Meeting) le is. (omega (arith, is.0, le.0), omega (arith, is.1, le.1))) met all some

-- ---- by the transcript

-- the sessions of the two links that meet, as the end sees them
abbrev pub HasMetAt : Role → ℕ → ℕ → List Meeting → Type 0
HasMetAt Dte n m met = HasMet n m met
HasMetAt Dce n m met = HasMet m n met

-- these two were begun
pub record MetBegun (Met : Type 0) (n m : ℕ) : Type 0 where
  pub has_met : Met
  pub begun : (1 ≤ n) × (1 ≤ m)

-- nothing is handed up in a session that meets none
pub unmet_up : (Met : ℕ → ℕ → Type 0) {n : ℕ} {up : List (List ℕ)} {met : Option ℕ} → Hears Met n up met → met ≡ None → up ≡ []
unmet_up Met h unmet = elim h [ inl none ↦ none.0 | inr one ↦ absurd (none-some one.session (sym unmet ∙ one.told)) ]

pub told_met : (Met : ℕ → ℕ → Type 0) {n : ℕ} (m : ℕ) {up : List (List ℕ)} {met : Option ℕ} → Hears Met n up met → met ≡ Some m → MetBegun (Met n m) n m
told_met Met {n} m hears some = elim hears [
  | inl none ↦ absurd (none-some m (sym none.1 ∙ some))
  | inr one ↦ rw (sym (some_is one.session m (sym one.told ∙ some))) (record { has_met = one.has_met; begun = one.begun })
]
  where
    some_is : (a b : ℕ) → Some a ≡ Some b → a ≡ b
    some_is a b e = cc

module _ (laws : SessionLaws) (cfg : Cfg) (fine : IsConfigured cfg) (w : World) (h : SessionsJoined cfg Dte w) where
  met_by_links : (end : Role) (n m : ℕ) → meets end n w.transcript ≡ Some m → MetBegun (HasMetAt end n m h.links.met) n m
  met_by_links Dte n m told = told_met (λ n m. HasMet n m h.links.met) m (h.near_hears n) told
  met_by_links Dce n m told = told_met (λ n m. HasMet m n h.links.met) m (h.far_hears n) told

  in_step : {n m p q : ℕ} → HasMet n m h.links.met → HasMet p q h.links.met → AreInStep n m p q
  in_step {n} {m} {p} {q} f g = two_in_step h.links.met (known_sessions line.MeetInStep laws.step fine h.reach) f g

  begun_at : {n m : ℕ} → HasMet n m h.links.met → (n ≤ last_session Dte w) × (m ≤ last_session Dce w)
  begun_at {n} {m} some =
      let le = begun_both h.links.near.begun h.links.far.begun h.links.met (known_sessions OnlyBegunHaveLists laws.begun fine h.reach).met some in
      let near = ap (λ p. p.begun) h.near.progress in
      (omega (arith, le.0, near), omega (arith, le.1, ap (λ p. p.begun) h.far.progress))

  begun : (end : Role) (n m : ℕ) → HasMetAt end n m h.links.met → (n ≤ last_session end w) × (m ≤ last_session (other end) w)
  begun Dte n m some = begun_at some
  begun Dce n m some = let le = begun_at some in (le.1, le.0)

  later_met : {n m p q : ℕ} → AreInStep n m p q → n < p → m < q
  later_met step less = elim step [
    | inl same ↦ absurd (omega (arith, same.0, less))
    | inr apart ↦ elim apart [ inl below ↦ below.1 | inr above ↦ absurd (omega (arith, above.0, less)) ]
  ]

  earlier_met : {n m p q : ℕ} → AreInStep n m p q → m < q → n < p
  earlier_met step less = elim step [
    | inl same ↦ absurd (omega (arith, same.1, less))
    | inr apart ↦ elim apart [ inl below ↦ below.0 | inr above ↦ absurd (omega (arith, above.1, less)) ]
  ]

  same_near : {n m p : ℕ} → AreInStep n m p m → p ≡ n
  same_near step = elim step [
    | inl same ↦ sym same.0
    | inr apart ↦ elim apart [ inl below ↦ absurd (omega (arith, below.1)) | inr above ↦ absurd (omega (arith, above.1)) ]
  ]

  same_far : {n m p : ℕ} → AreInStep m n m p → p ≡ n
  same_far step = elim step [
    | inl same ↦ sym same.1
    | inr apart ↦ elim apart [ inl below ↦ absurd (omega (arith, below.0)) | inr above ↦ absurd (omega (arith, above.0)) ]
  ]

  -- sessions meet one to one, in order at both ends
  pub meet_in_step : MeetInStep cfg w
  meet_in_step = record {
    begun = λ end n m told. let met = met_by_links end n m told in let high = begun end n m met.has_met in (met.begun.0, high.0, met.begun.1, high.1);
    later = λ end n p m q first second less. later end n p m q (met_by_links end n m first).has_met (met_by_links end p q second).has_met less;
    returned = λ end n m p first second. returned end n m p (met_by_links end n m first).has_met (met_by_links (other end) m p second).has_met;
  }
    where
      later : (end : Role) (n p m q : ℕ) → HasMetAt end n m h.links.met → HasMetAt end p q h.links.met → n < p → m < q
      later Dte n p m q f g less = later_met (in_step f g) less
      later Dce n p m q f g less = earlier_met (in_step f g) less

      returned : (end : Role) (n m p : ℕ) → HasMetAt end n m h.links.met → HasMetAt (other end) m p h.links.met → p ≡ n
      returned Dte n m p f g = same_near (in_step f g)
      returned Dce n m p f g = same_far (in_step f g)
