-- What an end that keeps the rules does between two clears, and what it makes of what comes, keeps what is kept of it and another such end; and what it
-- expects.
use Rattle.x25_handshakes.proofs.Names.{List, ◌≡◌, ℕ, [], ◌∷◌, ◌++◌, true, refl, sym, subst, Role, Dte, Dce, may_propose, may_answer, said_in, Params}
use Rattle.x25_handshakes.proofs.Names.{CallRequest, At, Packet, Call, Accept, Stage, Unused, Waiting, Offered, Crossed, Talking, PeerStretch}
use Rattle.x25_handshakes.proofs.Names.{fresh_peer_transfer, TransferDeed, MayDoTransfer, does_transfer, transfer_packet_of, transfer_taking, PeerCall}
use Rattle.x25_handshakes.proofs.Names.{fresh_peer_call, does_call, call_packet_of, call_taking, Laws, Terms, called_terms, calling_terms}
use Rattle.x25_handshakes.proofs.{CallsRelation.{TwoTalks, TwoJoint, IsProposal}, ChannelRelation.{TwoCalls}, JointLemmas.{Quiet, quiet_transfer, quiet_joint}}
use Rattle.x25_handshakes.proofs.{PeerTransferLemmas.{two_fresh, two_flip, two_does, two_takes, front}, TermsLemmas.{IsSound}, TransferRelation.{TwoTransfers}}
use Rattle.x25_handshakes.proofs.StageLemmas.{Agreed, agreed, taken, MayCome, dte_taken, dte_calls, dte_answers, dte_moves, dce_taken, dce_calls, dce_answers}
use Rattle.x25_handshakes.proofs.StageLemmas.{dce_moves}
use Rattle.x25_handshakes.specs.laws.{PeerCalls.{CallDeed, PlacesCall, AcceptsCall, InTransfer, MayDoCall, stands}, TwoPeers.{ExpectsNext}}

-- ---- in p4

TwoTalks-next : {t b : Terms} {x x₂ : At PeerStretch} {u v u₂ v₂ : List Packet} {t₂ b₂ : Terms} {y y₂ : At PeerStretch} → TwoTalks t b x u v t₂ b₂ y
    → TwoTransfers t b x₂ u₂ v₂ y₂ → TwoTalks t b x₂ u₂ v₂ t₂ b₂ y₂
TwoTalks-next h k = record { there = h.there; back = h.back; sound = h.sound; sound_back = h.sound_back; related = k }

-- seen from the other end
pub TwoTalks-flip : {t b : Terms} {x : At PeerStretch} {u v : List Packet} {t₂ b₂ : Terms} {y : At PeerStretch} → TwoTalks t b x u v t₂ b₂ y
    → TwoTalks t₂ b₂ y v u t b x
TwoTalks-flip {t} {b} {x} {u} {v} {y} h = record {
  there = sym h.back;
  back = sym h.there;
  sound = rw h.back h.sound_back;
  sound_back = rw h.there h.sound;
  related = rw h.back (subst (λ s. TwoTransfers b s y v u x) (sym h.there) (two_flip h.related));
}

talks_fresh : (t b : Terms) → IsSound t → IsSound b → TwoTalks t b fresh_peer_transfer [] [] b t fresh_peer_transfer
talks_fresh t b st sb = record { there = refl; back = refl; sound = st; sound_back = sb; related = two_fresh t b }

talks_does : {t b : Terms} {x : At PeerStretch} {u v : List Packet} {t₂ b₂ : Terms} {y : At PeerStretch} (d : TransferDeed)
    → MayDoTransfer t.longest t.size x.side d → TwoTalks t b x u v t₂ b₂ y
    → TwoTalks t b (does_transfer x.epoch x.side d) (u ++ transfer_packet_of x.side d ∷ []) v t₂ b₂ y
talks_does {x} d may h = TwoTalks-next h (two_does x.epoch d may h.related)

-- what the peer answers is read as it was meant
as_said : Laws → {mine theirs : Params} (field : List ℕ) (most : ℕ) → IsProposal mine theirs → may_answer theirs (said_in theirs field) ≡ true
    → Agreed mine (said_in theirs field) field most
as_said laws {mine} field most h =
    rw h.same (λ may. agreed laws mine (said_in mine field) field most h.allowed may refl)

-- ---- what the peer makes of a packet, and what it does by itself

abbrev peer_next : Terms → Terms → At PeerStretch → Packet → At PeerStretch
peer_next t b y p = (transfer_taking y.epoch y.side p).next

abbrev peer_out : Terms → Terms → At PeerStretch → Packet → List Packet
peer_out t b y p = (transfer_taking y.epoch y.side p).out

abbrev pub Next : Terms → Terms → At PeerStretch → Packet → Type 0
Next t b y p = ExpectsNext b y.side p

module _ (K : Stage (At PeerStretch) → List CallRequest → List CallRequest → List Packet → Type 0) (m i : List CallRequest) where
  peer_taken : (r : Role) (b : Stage (At PeerStretch)) (p : Packet)
      → (let s = taken fresh_peer_transfer peer_next peer_out r b m i p in K s.stage s.made s.indicated s.out)
      → (let s = call_taking r b m i p in K s.next.stage s.next.made s.next.indicated s.out)
  peer_taken r Unused (Call n) k = k
  peer_taken Dte (Waiting mine) (Call n) k = k
  peer_taken Dce (Waiting mine) (Call n) k = k
  peer_taken r (Waiting mine) (Accept field most) k = k
  peer_taken r (Crossed mine) (Accept field most) k = k
  peer_taken r b p k = k

  -- where it may call, accept and go on so
  peer_done : Laws → (b : Stage (At PeerStretch)) (d : CallDeed) → MayDoCall b d
      → (b ≡ Unused → (n : CallRequest) → may_propose n.params ≡ true → K (Waiting n.params) (m ++ n ∷ []) i (Call n ∷ []))
      → ((theirs : Params) → b ≡ Offered theirs → (q : Params) (field : List ℕ) (most : ℕ)
      → ((mine : Params) → IsProposal mine theirs → Agreed mine q field most)
      → K (Talking (called_terms most q) (calling_terms most q) fresh_peer_transfer) m i (Accept field most ∷ []))
      → ((t k : Terms) (y : At PeerStretch) → b ≡ Talking t k y → (d : TransferDeed) → MayDoTransfer t.longest t.size y.side d
      → K (Talking t k (does_transfer y.epoch y.side d)) m i (transfer_packet_of y.side d ∷ []))
      → (let c = does_call b m i d in K c.stage c.made c.indicated (call_packet_of b d ∷ []))
  peer_done laws Unused (PlacesCall n) may calls answers moves = calls refl n may
  peer_done laws (Offered theirs) (AcceptsCall field most) may calls answers moves =
      answers theirs refl (said_in theirs field) field most (λ mine is. as_said laws field most is may)
  peer_done laws (Talking t k y) (InTransfer d) may calls answers moves = moves t k y refl d may
  peer_done laws b d may calls answers moves = absurd may

talks_takes : (t b : Terms) (x : At PeerStretch) (u : List Packet) (p : Packet) (v : List Packet) (t₂ b₂ : Terms) (y : At PeerStretch)
    → TwoTalks t b x u (p ∷ v) t₂ b₂ y → Next t b x p × TwoTalks t b (peer_next t b x p) (u ++ peer_out t b x p) v t₂ b₂ y
talks_takes t b x u p v t₂ b₂ y h = (front x (p ∷ v) h.related, TwoTalks-next h (two_takes x.epoch x.side p v h.related))

-- ---- the two roles at once

-- the end as it stands, is at last, and puts, where all else is this
abbrev Beside : (r : Role) (u v : List Packet) (y : PeerCall) → Stage (At PeerStretch) → List CallRequest → List CallRequest → List Packet → Type 0
Beside r u v y b m i o = TwoCalls r (stands b m i) (u ++ o) v y

pub two_calls_takes : (r : Role) (x : PeerCall) (u : List Packet) (p : Packet) (v : List Packet) (y : PeerCall) → TwoCalls r x u (p ∷ v) y
    → MayCome r Next x.stage p × (let s = call_taking r x.stage x.made x.indicated p in TwoCalls r s.next (u ++ s.out) v y)
two_calls_takes Dte x u p v y h =
    let g = dte_taken TwoTalks fresh_peer_transfer fresh_peer_transfer peer_next peer_out Next talks_takes x.stage y.stage x.made x.indicated y.made
    y.indicated u p v h in
    (g.0, peer_taken (Beside Dte u v y) x.made x.indicated Dte x.stage p g.1)
two_calls_takes Dce x u p v y h =
    let g = dce_taken TwoTalks fresh_peer_transfer fresh_peer_transfer peer_next peer_out Next
    (λ t b w q k z t₂ b₂ f r. (let good = talks_takes t₂ b₂ f z k q t b w (TwoTalks-flip r) in (good.0, TwoTalks-flip good.1)))
    y.stage x.stage y.made y.indicated x.made x.indicated v p u h in
    (g.0, peer_taken (Beside Dce u v y) x.made x.indicated Dce x.stage p g.1)

pub two_calls_does : Laws → (r : Role) (x : PeerCall) (u v : List Packet) (y : PeerCall) (d : CallDeed) → MayDoCall x.stage d → TwoCalls r x u v y
    → TwoCalls r (does_call x.stage x.made x.indicated d) (u ++ call_packet_of x.stage d ∷ []) v y
two_calls_does laws Dte x u v y d may h =
    let now : Stage (At PeerStretch) → Type 0 = λ a. TwoJoint a y.stage x.made x.indicated y.made y.indicated u v in
    peer_done (Beside Dte u v y) x.made x.indicated laws x.stage d may
    (λ is n may. dte_calls TwoTalks fresh_peer_transfer fresh_peer_transfer y.stage n x.made x.indicated y.made y.indicated u v may (subst now is h))
    (λ theirs is q field most agrees. dte_answers TwoTalks fresh_peer_transfer fresh_peer_transfer y.stage theirs q field most x.made x.indicated y.made
    y.indicated u v agrees talks_fresh (subst now is h))
    (λ t k s is d may. dte_moves TwoTalks fresh_peer_transfer fresh_peer_transfer t k s y.stage (does_transfer s.epoch s.side d)
    (transfer_packet_of s.side d ∷ []) x.made x.indicated y.made y.indicated u v (λ w z t₂ k₂ e r. talks_does d may r) (subst now is h))
two_calls_does laws Dce x u v y d may h =
    let now : Stage (At PeerStretch) → Type 0 = λ b. TwoJoint y.stage b y.made y.indicated x.made x.indicated v u in
    peer_done (Beside Dce u v y) x.made x.indicated laws x.stage d may
    (λ is n may. dce_calls TwoTalks fresh_peer_transfer fresh_peer_transfer y.stage n y.made y.indicated x.made x.indicated v u may (subst now is h))
    (λ theirs is q field most agrees. dce_answers TwoTalks fresh_peer_transfer fresh_peer_transfer y.stage theirs q field most y.made y.indicated x.made
    x.indicated v u agrees talks_fresh (subst now is h))
    (λ t k s is d may. dce_moves TwoTalks fresh_peer_transfer fresh_peer_transfer t k s y.stage (does_transfer s.epoch s.side d)
    (transfer_packet_of s.side d ∷ []) y.made y.indicated x.made x.indicated v u (λ w z t₁ k₁ e r. TwoTalks-flip (talks_does d may (TwoTalks-flip r)))
    (subst now is h))

pub TwoCalls-fresh : (r : Role) → TwoCalls r fresh_peer_call [] [] fresh_peer_call
TwoCalls-fresh Dte = (tt, tt, refl, refl, refl, refl)
TwoCalls-fresh Dce = (tt, tt, refl, refl, refl, refl)

pub two_calls_quiet : (r : Role) (x : PeerCall) (u v : List Packet) (y : PeerCall) → TwoCalls r x u v y → Quiet u × Quiet v
two_calls_quiet Dte x u v y h = quiet_joint TwoTalks fresh_peer_transfer fresh_peer_transfer
    (λ t b x u v t₂ b₂ y h. (quiet_transfer u h.related.there, quiet_transfer v h.related.back)) x.stage y.stage x.made x.indicated y.made y.indicated u v h
two_calls_quiet Dce x u v y h =
    let k = quiet_joint TwoTalks fresh_peer_transfer fresh_peer_transfer
    (λ t b x u v t₂ b₂ y h. (quiet_transfer u h.related.there, quiet_transfer v h.related.back)) y.stage x.stage y.made y.indicated x.made x.indicated v u h in
    (k.1, k.0)
