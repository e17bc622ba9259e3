-- What is so of two ends between two clears, of whatever kind, in every stage of a call: no CLEAR is on the way, what
-- is indicated at the one was made at the other, and what is kept of p4.
use Rattle.x25_handshakes.proofs.Names.{◌≡◌, inl, inr, List, [], ◌∷◌, ◌++◌, refl, ap, ◌∙◌, append-nil, Inner, Packet, Call, Accept, Clear, ClearConf, IsPrefix}
use Rattle.x25_handshakes.proofs.Names.{Stage, Unused, Waiting, Offered, Crossed, Talking, Terms, Params, CallRequest}
use Rattle.x25_handshakes.proofs.{CallsRelation.{Nil, OneCall, MaybeCall, Accepted, CallAccepted, TalksOf, JointOf}, ChannelRelation.{clear_mark}}
use Rattle.x25_handshakes.proofs.{HandshakeLemmas.{each_map}, HandshakeRelation.{AllInner}}
use Rattle.x25_handshakes.proofs.{StageLemmas.{Accepted-some, CallAccepted-some}, TransferRelation.{AllInTransfer}}
use Rattle.x25_handshakes.specs.laws.PeerClaims.{in_stage}
use Rattle.x25_handshakes.specs.laws.TwoPeers.{IsOfTransfer}

-- ---- no CLEAR and no confirmation of it is on the way between two clears

-- no CLEAR and no confirmation of it is among the packets
abbrev pub Quiet : List Packet → Type 0
Quiet u = AllInner clear_mark u

-- packets of p4 are neither CLEAR nor its confirmation
pub quiet_transfer : (u : List Packet) → AllInTransfer u → Quiet u
quiet_transfer u h = each_map IsOfTransfer (λ p. clear_mark p ≡ Inner) inner u h
  where
    inner : (p : Packet) → IsOfTransfer p → clear_mark p ≡ Inner
    inner Clear is = absurd is
    inner ClearConf is = absurd is
    inner p is = refl

quiet_nil : (u : List Packet) → Nil u → Quiet u
quiet_nil [] h = tt
quiet_nil (p ∷ u) h = absurd h

quiet_maybe : (m : List CallRequest) (u : List Packet) → MaybeCall m u → Quiet u
quiet_maybe m [] h = tt
quiet_maybe m (Call n ∷ u) h = (refl, quiet_nil u h.1)
quiet_maybe m (p ∷ u) h = absurd h

quiet_one : (m : List CallRequest) (u : List Packet) → OneCall m u → Quiet u
quiet_one m [] h = absurd h
quiet_one m (p ∷ u) h = quiet_maybe m (p ∷ u) h

quiet_accepted : (mine : Params) (t b : Terms) {R : List Packet → Type 0} → ((w : List Packet) → R w → Quiet w) → (u : List Packet) → Accepted mine t b R u
    → Quiet u
quiet_accepted mine t b quiet (Accept field most ∷ u) h = (refl, quiet u h.1)
quiet_accepted mine t b quiet u h = absurd h

quiet_call_accepted : (m : List CallRequest) (mine : Params) (t b : Terms) {R : List Packet → Type 0} → ((w : List Packet) → R w → Quiet w) → (u : List Packet)
    → CallAccepted m mine t b R u → Quiet u
quiet_call_accepted m mine t b {R} quiet (Call n ∷ u) h = (refl, quiet_accepted mine t b quiet u h.1)
quiet_call_accepted m mine t b quiet (Accept field most ∷ u) h = (refl, quiet u h.2)
quiet_call_accepted m mine t b quiet u h = absurd h

-- so it is between two ends of a call, in whatever stage each is
pub quiet_joint : {A B : Type 0} (R : TalksOf A B) (a : A) (b : B)
    → ((t k : Terms) (x : A) (u v : List Packet) (t₂ k₂ : Terms) (y : B) → R t k x u v t₂ k₂ y → Quiet u × Quiet v)
    → (one : Stage A) (two : Stage B) (ma ia mb ib : List CallRequest) (u v : List Packet) → JointOf R a b one two ma ia mb ib u v → Quiet u × Quiet v
quiet_joint R a b quiet Unused Unused ma ia mb ib u v h = (quiet_nil u h.0, quiet_nil v h.1)
quiet_joint R a b quiet Unused (Waiting q) ma ia mb ib u v h = (quiet_nil u h.0, quiet_one mb v h.1)
quiet_joint R a b quiet (Waiting p) Unused ma ia mb ib u v h = (quiet_one ma u h.0, quiet_nil v h.1)
quiet_joint R a b quiet (Waiting p) (Waiting q) ma ia mb ib u v h = (quiet_one ma u h.0, quiet_one mb v h.1)
quiet_joint R a b quiet (Waiting p) (Offered q) ma ia mb ib u v h = (quiet_nil u h.0, quiet_maybe mb v h.1)
quiet_joint R a b quiet (Crossed p) (Waiting q) ma ia mb ib u v h = (quiet_one ma u h.0, quiet_nil v h.1)
quiet_joint R a b quiet (Crossed p) (Offered q) ma ia mb ib u v h = (quiet_nil u h.0, quiet_nil v h.1)
quiet_joint R a b quiet (Waiting p) (Talking t k y) ma ia mb ib u v h =
    (quiet_nil u h.0, quiet_call_accepted mb p t k (λ w r. (quiet k t a [] w t k y r).1) v h.1)
quiet_joint R a b quiet (Crossed p) (Talking t k y) ma ia mb ib u v h = (quiet_nil u h.0, quiet_accepted p t k (λ w r. (quiet k t a [] w t k y r).1) v h.1)
quiet_joint R a b quiet (Offered p) (Waiting q) ma ia mb ib u v h = (quiet_nil u h.0, quiet_nil v h.1)
quiet_joint R a b quiet (Talking t k x) (Waiting q) ma ia mb ib u v h = (quiet_accepted q t k (λ w r. (quiet t k x w [] k t b r).0) u h.0, quiet_nil v h.1)
quiet_joint R a b quiet (Talking t k x) (Talking t₂ k₂ y) ma ia mb ib u v h = quiet t k x u v t₂ k₂ y h.0
quiet_joint R a b quiet one other ma ia mb ib u v h = absurd h

-- ---- what is indicated was made, and what an end is in p4

none_begins : (xs ys : List CallRequest) → xs ≡ [] → IsPrefix xs ys
none_begins xs ys e = (ys, ap (λ l. l ++ ys) e)

all_begins : (xs ys : List CallRequest) → xs ≡ ys → IsPrefix xs ys
all_begins xs ys e = ([], append-nil xs ∙ e)

-- the CALLs indicated at each end begin those made at the other, and Q holds of the ends as p4 begins or in it
pub joint_order : {A B : Type 0} (R : TalksOf A B) (a : A) (b : B) (Q : A → B → Type 0) → Q a b
    → ((t k : Terms) (x : A) (u v : List Packet) (t₂ k₂ : Terms) (y : B) → R t k x u v t₂ k₂ y → Q x y)
    → (one : Stage A) (two : Stage B) (ma ia mb ib : List CallRequest) (u v : List Packet) → JointOf R a b one two ma ia mb ib u v → IsPrefix ia mb
    × IsPrefix ib ma × Q (in_stage a one) (in_stage b two)
joint_order R a b Q q talks Unused Unused ma ia mb ib u v h = (none_begins ia mb h.3, none_begins ib ma h.5, q)
joint_order R a b Q q talks Unused (Waiting m) ma ia mb ib u v h = (none_begins ia mb h.3, none_begins ib ma h.4, q)
joint_order R a b Q q talks (Waiting n) Unused ma ia mb ib u v h = (none_begins ia mb h.2, none_begins ib ma h.4, q)
joint_order R a b Q q talks (Waiting n) (Waiting m) ma ia mb ib u v h = (none_begins ia mb h.2, none_begins ib ma h.3, q)
joint_order R a b Q q talks (Waiting n) (Offered m) ma ia mb ib u v h = (none_begins ia mb h.2, all_begins ib ma h.3, q)
joint_order R a b Q q talks (Crossed n) (Waiting m) ma ia mb ib u v h = (none_begins ia mb h.2, none_begins ib ma h.3, q)
joint_order R a b Q q talks (Crossed n) (Offered m) ma ia mb ib u v h = (none_begins ia mb h.2, all_begins ib ma h.3, q)
joint_order R a b Q q talks (Offered n) (Waiting m) ma ia mb ib u v h = (all_begins ia mb h.2, none_begins ib ma h.3, q)
joint_order R a b Q q talks (Waiting n) (Talking t k y) ma ia mb ib u v h =
    let some = CallAccepted-some n t k mb v h.1 in
    (none_begins ia mb h.2, all_begins ib ma h.3, talks k t a [] some.0 t k y some.1)
joint_order R a b Q q talks (Crossed n) (Talking t k y) ma ia mb ib u v h =
    let some = Accepted-some n t k v h.1 in
    (none_begins ia mb h.2, all_begins ib ma h.3, talks k t a [] some.0 t k y some.1)
joint_order R a b Q q talks (Talking t k x) (Waiting m) ma ia mb ib u v h =
    let some = Accepted-some m t k u h.0 in
    (all_begins ia mb h.2, none_begins ib ma h.3, talks t k x some.0 [] k t b some.1)
joint_order R a b Q q talks (Talking t k x) (Talking t₂ k₂ y) ma ia mb ib u v (talk, inl e) =
    (none_begins ia mb e.0, all_begins ib ma e.1, talks t k x u v t₂ k₂ y talk)
joint_order R a b Q q talks (Talking t k x) (Talking t₂ k₂ y) ma ia mb ib u v (talk, inr e) =
    (all_begins ia mb e.0, none_begins ib ma e.1, talks t k x u v t₂ k₂ y talk)
joint_order R a b Q q talks one two ma ia mb ib u v h = absurd h
