-- The stages in which two ends of a call may stand, each of whatever kind: what keeps what is kept of them there.
use Rattle.x25_handshakes.proofs.Names.{◌≡◌, inl, inr, ℕ, List, [], ◌∷◌, ◌++◌, true, refl, sym, ap, subst, ◌∙◌, append-nil, Role, Dte, Dce, Params}
use Rattle.x25_handshakes.proofs.Names.{may_propose, may_answer, said_in, CallRequest, Packet, Call, Accept, Stage, Unused, Waiting, Offered, Crossed, Talking}
use Rattle.x25_handshakes.proofs.Names.{Laws, Terms, called_terms, calling_terms}
use Rattle.x25_handshakes.proofs.CallsRelation.{Nil, OneCall, MaybeCall, Proposes, IsProposal, IsAnswer, Accepted, CallAccepted, TalksOf, JointOf}
use Rattle.x25_handshakes.proofs.TermsLemmas.{IsSound, AreSound, answer_sound}

-- proposals and answers

-- what a CALL says is what its end proposes
pub said : {m : List CallRequest} (n : CallRequest) {mine : Params} → m ≡ n ∷ [] → Proposes m mine → IsProposal mine n.params
said n {mine} one h =
    let is = subst (λ l. Proposes l mine) one h in
    record { same = is.0; allowed = is.1 }

-- and what stands at the other end may be proposed
proposed : {mine theirs : Params} → IsProposal mine theirs → may_propose theirs ≡ true
proposed h = ap may_propose h.same ∙ h.allowed

pub proposes : (m : List CallRequest) (n : CallRequest) → m ≡ [] → may_propose n.params ≡ true → Proposes (m ++ n ∷ []) n.params
proposes m n none allowed = rw none (refl, allowed)

-- an answer that is allowed is read as it was meant, and the terms of both ends are sound
pub record Agreed (mine answer : Params) (field : List ℕ) (most : ℕ) : Type 0 where
  pub fits : IsAnswer mine field most (called_terms most answer) (calling_terms most answer)
  pub terms : AreSound most answer

pub agreed : Laws → (mine answer : Params) (field : List ℕ) (most : ℕ) → may_propose mine ≡ true → may_answer mine answer ≡ true → said_in mine field ≡ answer
    → Agreed mine answer field most
agreed laws mine answer field most proposed allowed is = record {
  fits = record { allowed = rw is allowed; called = ap (called_terms most) (sym is); calling = ap (calling_terms most) (sym is) };
  terms = answer_sound laws most mine answer proposed allowed;
}

pub nil_is : (u : List Packet) → Nil u → u ≡ []
nil_is [] h = refl
nil_is (p ∷ u) h = absurd h

pub push_first : (l : List CallRequest) (n : CallRequest) (m : List CallRequest) → l ≡ [] → m ≡ n ∷ [] → l ++ n ∷ [] ≡ m
push_first l n m none one = ap (λ k. k ++ n ∷ []) none ∙ sym one

-- lines that grow at the back

pub call_first : (m : List CallRequest) (n : CallRequest) (u : List Packet) → Nil u → m ≡ [] → OneCall (m ++ n ∷ []) (u ++ Call n ∷ [])
call_first m n [] h none = (ap (λ k. k ++ n ∷ []) none, tt)
call_first m n (p ∷ u) h none = absurd h

pub accept_first : {mine : Params} {t b : Terms} (R : List Packet → Type 0) {field : List ℕ} {most : ℕ} (u : List Packet) → Nil u
    → IsAnswer mine field most t b → R [] → Accepted mine t b R (u ++ Accept field most ∷ [])
accept_first R [] h answer r = (answer, r)
accept_first R (p ∷ u) h answer r = absurd h

pub accept_behind : (m : List CallRequest) {mine : Params} {t b : Terms} (R : List Packet → Type 0) {field : List ℕ} {most : ℕ} (v : List Packet)
    → MaybeCall m v → IsAnswer mine field most t b → R []
    → CallAccepted m mine t b R (v ++ Accept field most ∷ [])
accept_behind m R [] h answer r = (h, answer, r)
accept_behind m {mine} {t} {b} R {field} {most} (Call n ∷ v) h answer r = (h.0, accept_first R v h.1 answer r)
accept_behind m R (other ∷ v) h answer r = absurd h

pub Accepted-map : (mine : Params) (t b : Terms) {R : List Packet → Type 0} (Q : List Packet → Type 0) (o : List Packet)
    → ((w : List Packet) → R w → Q (w ++ o)) → (u : List Packet) → Accepted mine t b R u → Accepted mine t b Q (u ++ o)
Accepted-map mine t b Q o f (Accept field most ∷ u) h = (h.0, f u h.1)
Accepted-map mine t b Q o f u h = absurd h

pub CallAccepted-map : (mine : Params) (t b : Terms) {R : List Packet → Type 0} (Q : List Packet → Type 0) (o : List Packet)
    → ((w : List Packet) → R w → Q (w ++ o)) → (m : List CallRequest) (u : List Packet)
    → CallAccepted m mine t b R u → CallAccepted m mine t b Q (u ++ o)
CallAccepted-map mine t b {R} Q o f m (Call n ∷ u) h = (h.0, Accepted-map mine t b Q o f u h.1)
CallAccepted-map mine t b Q o f m (Accept field most ∷ u) h = (h.0, h.1, f u h.2)
CallAccepted-map mine t b Q o f m u h = absurd h

-- what R says holds of some line
pub Accepted-some : (mine : Params) (t b : Terms) {R : List Packet → Type 0} (u : List Packet) → Accepted mine t b R u → (w : List Packet) × R w
Accepted-some mine t b (Accept field most ∷ u) h = (u, h.1)
Accepted-some mine t b u h = absurd h

-- some line follows of which R holds
pub CallAccepted-some : (mine : Params) (t b : Terms) {R : List Packet → Type 0} (m : List CallRequest) (u : List Packet) → CallAccepted m mine t b R u
    → (w : List Packet) × R w
CallAccepted-some mine t b {R} m (Call n ∷ u) h = Accepted-some mine t b u h.1
CallAccepted-some mine t b m (Accept field most ∷ u) h = (u, h.2)
CallAccepted-some mine t b m u h = absurd h

maybe_call : (m : List CallRequest) (v : List Packet) → OneCall m v → MaybeCall m v
maybe_call m [] h = absurd h
maybe_call m (p ∷ v) h = h

-- ---- an end of any kind, which as p4 begins is s₀

-- what it makes of a packet
pub record Taken (S : Type 0) : Type 0 where
  pub stage : Stage S
  pub made : List CallRequest
  pub indicated : List CallRequest
  pub out : List Packet

abbrev pub crossed : {S : Type 0} → Role → Params → List CallRequest → List CallRequest → CallRequest → Taken S
crossed Dte mine m i n = record { stage = Crossed mine; made = m; indicated = i; out = [] }
crossed Dce mine m i n = record { stage = Offered n.params; made = m; indicated = i ++ n ∷ []; out = [] }

abbrev pub begun : {S : Type 0} → S → ℕ → Params → List CallRequest → List CallRequest → Taken S
begun s₀ most q m i = record { stage = Talking (calling_terms most q) (called_terms most q) s₀; made = m; indicated = i; out = [] }

-- by what it is in p4 after a packet, and what it puts then
abbrev pub taken : {S : Type 0} → S → (Terms → Terms → S → Packet → S) → (Terms → Terms → S → Packet → List Packet) → Role → Stage S → List CallRequest
    → List CallRequest → Packet → Taken S
taken s₀ next out r Unused m i (Call n) = record { stage = Offered n.params; made = m; indicated = i ++ n ∷ []; out = [] }
taken s₀ next out r (Waiting mine) m i (Call n) = crossed r mine m i n
taken s₀ next out r (Waiting mine) m i (Accept field most) = begun s₀ most (said_in mine field) m i
taken s₀ next out r (Crossed mine) m i (Accept field most) = begun s₀ most (said_in mine field) m i
taken s₀ next out r (Talking t b s) m i p = record { stage = Talking t b (next t b s p); made = m; indicated = i; out = out t b s p }
taken s₀ next out r stage m i p = record { stage = stage; made = m; indicated = i; out = [] }

-- what may come to it
abbrev pub MayCome : {S : Type 0} → Role → (Terms → Terms → S → Packet → Type 0) → Stage S → Packet → Type 0
MayCome r Fine Unused (Call n) = may_propose n.params ≡ true
MayCome Dte Fine (Waiting mine) (Call n) = Unit {0}
MayCome Dce Fine (Waiting mine) (Call n) = may_propose n.params ≡ true
MayCome r Fine (Waiting mine) (Accept field most) = may_answer mine (said_in mine field) ≡ true
MayCome r Fine (Crossed mine) (Accept field most) = may_answer mine (said_in mine field) ≡ true
MayCome r Fine (Talking t b s) p = Fine t b s p
MayCome r Fine stage p = ⊥

-- ---- it is the DTE

module _ {S B : Type 0} (R : TalksOf S B) (s₀ : S) (y₀ : B) where
  abbrev DteIs : Stage S → Stage B → List CallRequest → List CallRequest → List CallRequest → List CallRequest → List Packet → List Packet → Type 0
  DteIs a b ma ia mb ib u v = JointOf R s₀ y₀ a b ma ia mb ib u v

  pub dte_still : (a : Stage S) (b : Stage B) (ma ia mb ib : List CallRequest) (u v : List Packet) → DteIs a b ma ia mb ib u v
      → DteIs a b ma ia mb ib (u ++ []) v
  dte_still a b ma ia mb ib u v h = rw (append-nil u) h

  dte_answered : {p : Params} {field : List ℕ} {most : ℕ} (ma ia mb ib : List CallRequest) (u v : List Packet) {t b : Terms} (y : B)
      → IsAnswer p field most t b → Nil u
      → R b t s₀ [] v t b y → ia ≡ [] → ib ≡ ma
      → (let q = said_in p field in DteIs (Talking (calling_terms most q) (called_terms most q) s₀) (Talking t b y) ma ia mb ib (u ++ []) v)
  dte_answered {p} {field} {most} ma ia mb ib u v {t} {b} y answer none talk indicated there =
      let q = said_in p field in
      dte_still (Talking (calling_terms most q) (called_terms most q) s₀) (Talking t b y) ma ia mb ib u v (
        subst (λ s. R s (called_terms most q) s₀ u v t b y) answer.calling
            (rw (sym answer.called) (subst (λ w. R b t s₀ w v t b y) (sym (nil_is u none)) talk)),
        inl (indicated, there),
      )

  module _ (next : Terms → Terms → S → Packet → S) (out : Terms → Terms → S → Packet → List Packet) (Fine : Terms → Terms → S → Packet → Type 0)
      (takes : (t b : Terms) (x : S) (u : List Packet) (p : Packet) (v : List Packet) (t₂ b₂ : Terms) (y : B) → R t b x u (p ∷ v) t₂ b₂ y → Fine t b x p
      × R t b (next t b x p) (u ++ out t b x p) v t₂ b₂ y) where
    pub dte_taken : (a : Stage S) (b : Stage B) (ma ia mb ib : List CallRequest) (u : List Packet) (p : Packet) (v : List Packet)
        → DteIs a b ma ia mb ib u (p ∷ v)
        → (let s = taken s₀ next out Dte a ma ia p in MayCome Dte Fine a p × DteIs s.stage b s.made s.indicated mb ib (u ++ s.out) v)
    dte_taken Unused Unused ma ia mb ib u p v h = absurd h.1
    dte_taken Unused (Waiting q) ma ia mb ib u (Call n) v h =
        let is = said n h.1.0 h.5 in
        (proposed is, dte_still (Offered n.params) (Waiting q) ma (ia ++ n ∷ []) mb ib u v (h.0, h.1.1, push_first ia n mb h.3 h.1.0, h.4, is))
    dte_taken Unused (Waiting q) ma ia mb ib u other v h = absurd h.1
    dte_taken (Waiting mine) Unused ma ia mb ib u p v h = absurd h.1
    dte_taken (Waiting mine) (Waiting q) ma ia mb ib u (Call n) v h = (tt, dte_still (Crossed mine) (Waiting q) ma ia mb ib u v (h.0, h.1.1, h.2, h.3, h.4))
    dte_taken (Waiting mine) (Waiting q) ma ia mb ib u other v h = absurd h.1
    dte_taken (Waiting mine) (Offered q) ma ia mb ib u (Call n) v h = (tt, dte_still (Crossed mine) (Offered q) ma ia mb ib u v (h.0, h.1.1, h.2, h.3, h.4))
    dte_taken (Waiting mine) (Offered q) ma ia mb ib u other v h = absurd h.1
    dte_taken (Waiting mine) (Talking t b y) ma ia mb ib u (Call n) v h = (tt, dte_still (Crossed mine) (Talking t b y) ma ia mb ib u v (h.0, h.1.1, h.2, h.3))
    dte_taken (Waiting mine) (Talking t b y) ma ia mb ib u (Accept field most) v h = (h.1.1.allowed, dte_answered ma ia mb ib u v y h.1.1 h.0 h.1.2 h.2 h.3)
    dte_taken (Waiting mine) (Talking t b y) ma ia mb ib u other v h = absurd h.1
    dte_taken (Offered theirs) (Waiting q) ma ia mb ib u p v h = absurd h.1
    dte_taken (Crossed mine) (Waiting q) ma ia mb ib u p v h = absurd h.1
    dte_taken (Crossed mine) (Offered q) ma ia mb ib u p v h = absurd h.1
    dte_taken (Crossed mine) (Talking t b y) ma ia mb ib u (Accept field most) v h = (h.1.0.allowed, dte_answered ma ia mb ib u v y h.1.0 h.0 h.1.1 h.2 h.3)
    dte_taken (Crossed mine) (Talking t b y) ma ia mb ib u other v h = absurd h.1
    dte_taken (Talking t b x) (Waiting q) ma ia mb ib u p v h = absurd h.1
    dte_taken (Talking t b x) (Talking t₂ b₂ y) ma ia mb ib u p v h = (let k = takes t b x u p v t₂ b₂ y h.0 in (k.0, (k.1, h.1)))
    dte_taken a b ma ia mb ib u p v h = absurd h

  -- it calls
  pub dte_calls : (b : Stage B) (n : CallRequest) (ma ia mb ib : List CallRequest) (u v : List Packet) → may_propose n.params ≡ true
      → DteIs Unused b ma ia mb ib u v → DteIs (Waiting n.params) b (ma ++ n ∷ []) ia mb ib (u ++ Call n ∷ []) v
  dte_calls Unused n ma ia mb ib u v may h = (call_first ma n u h.0 h.2, h.1, h.3, h.4, h.5, proposes ma n h.2 may)
  dte_calls (Waiting q) n ma ia mb ib u v may h = (call_first ma n u h.0 h.2, h.1, h.3, h.4, proposes ma n h.2 may)
  dte_calls other n ma ia mb ib u v may h = absurd h

  -- it accepts, with an answer to what is proposed
  pub dte_answers : (b : Stage B) (theirs q : Params) (field : List ℕ) (most : ℕ) (ma ia mb ib : List CallRequest) (u v : List Packet)
      → ((mine : Params) → IsProposal mine theirs → Agreed mine q field most)
      → ((t k : Terms) → IsSound t → IsSound k → R t k s₀ [] [] k t y₀) → DteIs (Offered theirs) b ma ia mb ib u v
      → DteIs (Talking (called_terms most q) (calling_terms most q) s₀) b ma ia mb ib (u ++ Accept field most ∷ []) v
  dte_answers (Waiting mine) theirs q field most ma ia mb ib u v agrees fresh h =
      let may = agrees mine h.4 in (
        accept_first (λ w. R (called_terms most q) (calling_terms most q) s₀ w [] (calling_terms most q) (called_terms most q) y₀) u h.0 may.fits
            (fresh (called_terms most q) (calling_terms most q) may.terms.called may.terms.calling),
        h.1,
        h.2,
        h.3,
      )
  dte_answers other theirs q field most ma ia mb ib u v agrees fresh h = absurd h

  -- it goes on in p4, and puts these packets
  module _ (t k : Terms) (x : S) where
    pub dte_moves : (b : Stage B) (x₂ : S) (o : List Packet) (ma ia mb ib : List CallRequest) (u v : List Packet)
        → ((w z : List Packet) (t₂ k₂ : Terms) (y : B) → R t k x w z t₂ k₂ y → R t k x₂ (w ++ o) z t₂ k₂ y)
        → DteIs (Talking t k x) b ma ia mb ib u v → DteIs (Talking t k x₂) b ma ia mb ib (u ++ o) v
    dte_moves (Waiting q) x₂ o ma ia mb ib u v goes h =
        (Accepted-map q t k (λ w. R t k x₂ w [] k t y₀) o (λ w r. goes w [] k t y₀ r) u h.0, h.1, h.2, h.3)
    dte_moves (Talking t₂ k₂ y) x₂ o ma ia mb ib u v goes h = (goes u v t₂ k₂ y h.0, h.1)
    dte_moves other x₂ o ma ia mb ib u v goes h = absurd h

-- ---- it is the DCE

module _ {A S : Type 0} (R : TalksOf A S) (x₀ : A) (s₀ : S) where
  abbrev DceIs : Stage A → Stage S → List CallRequest → List CallRequest → List CallRequest → List CallRequest → List Packet → List Packet → Type 0
  DceIs a b ma ia mb ib u v = JointOf R x₀ s₀ a b ma ia mb ib u v

  pub dce_still : (a : Stage A) (b : Stage S) (ma ia mb ib : List CallRequest) (u v : List Packet) → DceIs a b ma ia mb ib u v
      → DceIs a b ma ia mb ib u (v ++ [])
  dce_still a b ma ia mb ib u v h = rw (append-nil v) h

  dce_answered : (q : Params) (field : List ℕ) (most : ℕ) (ma ia mb ib : List CallRequest) (u v : List Packet) (t b : Terms) (x : A)
      → IsAnswer q field most t b → Nil v
      → R t b x u [] b t s₀ → ia ≡ mb → ib ≡ []
      → (let p = said_in q field in DceIs (Talking t b x) (Talking (calling_terms most p) (called_terms most p) s₀) ma ia mb ib u (v ++ []))
  dce_answered q field most ma ia mb ib u v t b x answer none talk there indicated =
      let p = said_in q field in
      dce_still (Talking t b x) (Talking (calling_terms most p) (called_terms most p) s₀) ma ia mb ib u v (
        subst (λ s. R t b x u v s (called_terms most p) s₀) answer.calling
            (rw (sym answer.called) (subst (λ w. R t b x u w b t s₀) (sym (nil_is v none)) talk)),
        inr (there, indicated),
      )

  module _ (next : Terms → Terms → S → Packet → S) (out : Terms → Terms → S → Packet → List Packet) (Fine : Terms → Terms → S → Packet → Type 0)
      (takes : (t b : Terms) (x : A) (u : List Packet) (p : Packet) (v : List Packet) (t₂ b₂ : Terms) (y : S) → R t b x (p ∷ u) v t₂ b₂ y → Fine t₂ b₂ y p
      × R t b x u (v ++ out t₂ b₂ y p) t₂ b₂ (next t₂ b₂ y p)) where
    pub dce_taken : (a : Stage A) (b : Stage S) (ma ia mb ib : List CallRequest) (u : List Packet) (p : Packet) (v : List Packet)
        → DceIs a b ma ia mb ib (p ∷ u) v
        → (let s = taken s₀ next out Dce b mb ib p in MayCome Dce Fine b p × DceIs a s.stage ma ia s.made s.indicated u (v ++ s.out))
    dce_taken (Waiting mine) Unused ma ia mb ib u (Call n) v h = (
      proposed (said n h.0.0 h.5),
      dce_still (Waiting mine) (Offered n.params) ma ia mb (ib ++ n ∷ []) u v
          (h.0.1, subst (λ w. MaybeCall mb w) (sym (nil_is v h.1)) h.3, h.2, push_first ib n ma h.4 h.0.0, said n h.0.0 h.5),
    )
    dce_taken (Waiting mine) Unused ma ia mb ib u other v h = absurd h.0
    dce_taken (Waiting mine) (Waiting q) ma ia mb ib u (Call n) v h = (
      proposed (said n h.0.0 h.4),
      dce_still (Waiting mine) (Offered n.params) ma ia mb (ib ++ n ∷ []) u v
          (h.0.1, maybe_call mb v h.1, h.2, push_first ib n ma h.3 h.0.0, said n h.0.0 h.4),
    )
    dce_taken (Waiting mine) (Waiting q) ma ia mb ib u other v h = absurd h.0
    dce_taken (Crossed mine) (Waiting q) ma ia mb ib u (Call n) v h =
        let is = said n h.0.0 h.4 in
        (proposed is, dce_still (Crossed mine) (Offered n.params) ma ia mb (ib ++ n ∷ []) u v (h.0.1, h.1, h.2, push_first ib n ma h.3 h.0.0, is))
    dce_taken (Crossed mine) (Waiting q) ma ia mb ib u other v h = absurd h.0
    dce_taken (Talking t b x) (Waiting q) ma ia mb ib u (Accept field most) v h =
        (h.0.0.allowed, dce_answered q field most ma ia mb ib u v t b x h.0.0 h.1 h.0.1 h.2 h.3)
    dce_taken (Talking t b x) (Waiting q) ma ia mb ib u other v h = absurd h.0
    dce_taken (Talking t b x) (Talking t₂ b₂ y) ma ia mb ib u p v h = (let k = takes t b x u p v t₂ b₂ y h.0 in (k.0, (k.1, h.1)))
    dce_taken Unused Unused ma ia mb ib u p v h = absurd h.0
    dce_taken Unused (Waiting q) ma ia mb ib u p v h = absurd h.0
    dce_taken (Waiting mine) (Offered q) ma ia mb ib u p v h = absurd h.0
    dce_taken (Waiting mine) (Talking t b y) ma ia mb ib u p v h = absurd h.0
    dce_taken (Offered theirs) (Waiting q) ma ia mb ib u p v h = absurd h.0
    dce_taken (Crossed mine) (Offered q) ma ia mb ib u p v h = absurd h.0
    dce_taken (Crossed mine) (Talking t b y) ma ia mb ib u p v h = absurd h.0
    dce_taken a b ma ia mb ib u p v h = absurd h

  -- it calls
  pub dce_calls : (a : Stage A) (n : CallRequest) (ma ia mb ib : List CallRequest) (u v : List Packet) → may_propose n.params ≡ true
      → DceIs a Unused ma ia mb ib u v → DceIs a (Waiting n.params) ma ia (mb ++ n ∷ []) ib u (v ++ Call n ∷ [])
  dce_calls Unused n ma ia mb ib u v may h = (h.0, call_first mb n v h.1 h.4, h.2, h.3, h.5, proposes mb n h.4 may)
  dce_calls (Waiting p) n ma ia mb ib u v may h = (h.0, call_first mb n v h.1 h.3, h.2, h.4, h.5)
  dce_calls other n ma ia mb ib u v may h = absurd h

  -- it accepts, with an answer to what is proposed
  pub dce_answers : (a : Stage A) (theirs q : Params) (field : List ℕ) (most : ℕ) (ma ia mb ib : List CallRequest) (u v : List Packet)
      → ((mine : Params) → IsProposal mine theirs → Agreed mine q field most)
      → ((t k : Terms) → IsSound t → IsSound k → R t k x₀ [] [] k t s₀) → DceIs a (Offered theirs) ma ia mb ib u v
      → DceIs a (Talking (called_terms most q) (calling_terms most q) s₀) ma ia mb ib u (v ++ Accept field most ∷ [])
  dce_answers (Waiting mine) theirs q field most ma ia mb ib u v agrees fresh h =
      let may = agrees mine h.4 in (
        h.0,
        accept_behind mb (λ w. R (calling_terms most q) (called_terms most q) x₀ [] w (called_terms most q) (calling_terms most q) s₀) v h.1 may.fits
            (fresh (calling_terms most q) (called_terms most q) may.terms.calling may.terms.called),
        h.2,
        h.3,
      )
  dce_answers (Crossed mine) theirs q field most ma ia mb ib u v agrees fresh h =
      let may = agrees mine h.4 in (
        h.0,
        accept_first (λ w. R (calling_terms most q) (called_terms most q) x₀ [] w (called_terms most q) (calling_terms most q) s₀) v h.1 may.fits
            (fresh (calling_terms most q) (called_terms most q) may.terms.calling may.terms.called),
        h.2,
        h.3,
      )
  dce_answers other theirs q field most ma ia mb ib u v agrees fresh h = absurd h

  -- it goes on in p4, and puts these packets
  module _ (t k : Terms) (y : S) where
    pub dce_moves : (a : Stage A) (y₂ : S) (o : List Packet) (ma ia mb ib : List CallRequest) (u v : List Packet)
        → ((w z : List Packet) (t₁ k₁ : Terms) (x : A) → R t₁ k₁ x w z t k y → R t₁ k₁ x w (z ++ o) t k y₂)
        → DceIs a (Talking t k y) ma ia mb ib u v → DceIs a (Talking t k y₂) ma ia mb ib u (v ++ o)
    dce_moves (Waiting p) y₂ o ma ia mb ib u v goes h =
        (h.0, CallAccepted-map p t k (λ w. R k t x₀ [] w t k y₂) o (λ w r. goes [] w k t x₀ r) mb v h.1, h.2, h.3)
    dce_moves (Crossed p) y₂ o ma ia mb ib u v goes h =
        (h.0, Accepted-map p t k (λ w. R k t x₀ [] w t k y₂) o (λ w r. goes [] w k t x₀ r) v h.1, h.2, h.3)
    dce_moves (Talking t₁ k₁ x) y₂ o ma ia mb ib u v goes h = (goes u v t₁ k₁ x h.0, h.1)
    dce_moves other y₂ o ma ia mb ib u v goes h = absurd h
