-- What is kept of two ends between two clears. The first of the two ends is the DTE, the second the DCE.
use Rattle.x25_handshakes.proofs.Names.{◌≡◌, ◌⊎◌, ℕ, List, [], ◌∷◌, true, Params, may_propose, may_answer, said_in, CallRequest, At}
use Rattle.x25_handshakes.proofs.Names.{Packet, Call, Accept, PeerStretch, fresh_peer_transfer, Unused, Waiting, Offered, Crossed, Talking}
use Rattle.x25_handshakes.proofs.{Names.{Stage, Terms, called_terms, calling_terms}, TermsLemmas.{IsSound}}
use Rattle.x25_handshakes.proofs.TransferRelation.{TwoTransfers}

-- two ends in p4, of whatever kinds: what the one sends by, the other takes by, and R is kept of them
pub record TalkOf {A B : Type 0} (R : Terms → Terms → A → List Packet → List Packet → B → Type 0) (t b : Terms) (x : A) (u v : List Packet)
    (t₂ b₂ : Terms) (y : B) : Type 0 where
  pub there : b₂ ≡ t
  pub back : t₂ ≡ b
  pub sound : IsSound t
  pub sound_back : IsSound b
  pub related : R t b x u v y

-- any two ends that keep the rules
abbrev pub TwoTalks : Terms → Terms → At PeerStretch → List Packet → List Packet → Terms → Terms → At PeerStretch → Type 0
TwoTalks t b x u v t₂ b₂ y = TalkOf TwoTransfers t b x u v t₂ b₂ y

-- nothing is on the way
abbrev pub Nil : List Packet → Type 0
Nil [] = Unit {0}
Nil (p ∷ u) = ⊥

-- one CALL alone, with the item made
abbrev pub call_at : List CallRequest → Packet → Type 0 → Type 0
call_at m (Call n) later = (m ≡ n ∷ []) × later
call_at m other later = ⊥

-- one CALL alone is on the way
abbrev pub OneCall : List CallRequest → List Packet → Type 0
OneCall m [] = ⊥
OneCall m (p ∷ u) = call_at m p (Nil u)

-- one CALL, or none and none was made
abbrev pub MaybeCall : List CallRequest → List Packet → Type 0
MaybeCall m [] = m ≡ []
MaybeCall m (p ∷ u) = call_at m p (Nil u)

-- what the call that was made proposes
abbrev pub Proposes : List CallRequest → Params → Type 0
Proposes [] mine = ⊥
Proposes (n ∷ m) mine = (n.params ≡ mine) × (may_propose mine ≡ true)

-- what stands at the other end
pub record IsProposal (mine theirs : Params) : Type 0 where
  pub same : theirs ≡ mine
  pub allowed : may_propose mine ≡ true

-- what an ACCEPT with this field makes of a proposal: the terms of what the called end sends, and of what it takes
pub record IsAnswer (mine : Params) (field : List ℕ) (most : ℕ) (t b : Terms) : Type 0 where
  pub allowed : may_answer mine (said_in mine field) ≡ true
  pub called : t ≡ called_terms most (said_in mine field)
  pub calling : b ≡ calling_terms most (said_in mine field)

abbrev pub accept_at : Params → Terms → Terms → Packet → Type 0 → Type 0
accept_at mine t b (Accept field most) later = IsAnswer mine field most t b × later
accept_at mine t b other later = ⊥

-- ACCEPT, and behind it what R says
abbrev pub Accepted : Params → Terms → Terms → (List Packet → Type 0) → List Packet → Type 0
Accepted mine t b R [] = ⊥
Accepted mine t b R (p ∷ u) = accept_at mine t b p (R u)

abbrev pub call_or_accept_at : List CallRequest → Params → Terms → Terms → Packet → Type 0 → Type 0 → Type 0
call_or_accept_at m mine t b (Call n) called accepted = (m ≡ n ∷ []) × called
call_or_accept_at m mine t b (Accept field most) called accepted = (m ≡ []) × IsAnswer mine field most t b × accepted
call_or_accept_at m mine t b other called accepted = ⊥

-- the same, but where a call was made its CALL is before it
abbrev pub CallAccepted : List CallRequest → Params → Terms → Terms → (List Packet → Type 0) → List Packet → Type 0
CallAccepted m mine t b R [] = ⊥
CallAccepted m mine t b R (p ∷ u) = call_or_accept_at m mine t b p (Accepted mine t b R u) (R u)

-- what is kept of a DTE and a DCE in p4, with the terms of what each sends, and of what it takes; the first line is on the way to the DCE
abbrev pub TalksOf : Type 0 → Type 0 → Type 1
TalksOf A B = Terms → Terms → A → List Packet → List Packet → Terms → Terms → B → Type 0

-- The stages in which the DTE and the DCE may stand, with what is made and indicated at each; u is on the way to the
-- DCE, v to the DTE. Each may be an end of any kind: R is what is
-- kept of them in p4, and what an end is as p4 begins is a at the DTE and b at the DCE.
abbrev pub JointOf : {A B : Type 0} → TalksOf A B → A → B → Stage A → Stage B
    → List CallRequest → List CallRequest → List CallRequest → List CallRequest → List Packet → List Packet → Type 0
JointOf R a b Unused Unused ma ia mb ib u v = Nil u × Nil v × (ma ≡ []) × (ia ≡ []) × (mb ≡ []) × (ib ≡ [])
JointOf R a b Unused (Waiting q) ma ia mb ib u v = Nil u × OneCall mb v × (ma ≡ []) × (ia ≡ []) × (ib ≡ []) × Proposes mb q
JointOf R a b (Waiting p) Unused ma ia mb ib u v = OneCall ma u × Nil v × (ia ≡ []) × (mb ≡ []) × (ib ≡ []) × Proposes ma p
JointOf R a b (Waiting p) (Waiting q) ma ia mb ib u v = OneCall ma u × OneCall mb v × (ia ≡ []) × (ib ≡ []) × Proposes ma p
JointOf R a b (Waiting p) (Offered q) ma ia mb ib u v = Nil u × MaybeCall mb v × (ia ≡ []) × (ib ≡ ma) × IsProposal p q
JointOf R a b (Crossed p) (Waiting q) ma ia mb ib u v = OneCall ma u × Nil v × (ia ≡ []) × (ib ≡ []) × Proposes ma p
JointOf R a b (Crossed p) (Offered q) ma ia mb ib u v = Nil u × Nil v × (ia ≡ []) × (ib ≡ ma) × IsProposal p q
JointOf R a b (Waiting p) (Talking t k y) ma ia mb ib u v = Nil u × CallAccepted mb p t k (λ w. R k t a [] w t k y) v × (ia ≡ []) × (ib ≡ ma)
JointOf R a b (Crossed p) (Talking t k y) ma ia mb ib u v = Nil u × Accepted p t k (λ w. R k t a [] w t k y) v × (ia ≡ []) × (ib ≡ ma)
JointOf R a b (Offered p) (Waiting q) ma ia mb ib u v = Nil u × Nil v × (ia ≡ mb) × (ib ≡ []) × IsProposal q p
JointOf R a b (Talking t k x) (Waiting q) ma ia mb ib u v = Accepted q t k (λ w. R t k x w [] k t b) u × Nil v × (ia ≡ mb) × (ib ≡ [])
JointOf R a b (Talking t k x) (Talking t₂ k₂ y) ma ia mb ib u v = R t k x u v t₂ k₂ y × (((ia ≡ []) × (ib ≡ ma)) ⊎ ((ia ≡ mb) × (ib ≡ [])))
JointOf R a b stage other ma ia mb ib u v = ⊥

-- any two ends that keep the rules
abbrev pub TwoJoint : Stage (At PeerStretch) → Stage (At PeerStretch)
    → List CallRequest → List CallRequest → List CallRequest → List CallRequest → List Packet → List Packet → Type 0
TwoJoint a b ma ia mb ib u v = JointOf TwoTalks fresh_peer_transfer fresh_peer_transfer a b ma ia mb ib u v
