-- Two calls whose ends send no CLEAR in p1: none comes there.
use Rattle.x25_handshakes.proofs.Names.{List, [], ◌≡◌, refl, subst, At, Packet, Unused, Waiting}
use Rattle.x25_handshakes.proofs.Names.{CallRequest, Dte, Dce, Role, Stage, PeerStretch, PeerCall}
use Rattle.x25_handshakes.proofs.{CallsRelation.{TwoJoint}, ChannelRelation.{TwoCalls, IsCalled}}

-- no CLEAR comes in p1: nothing is on the way to an end in p1 from one that has left another phase
free_a : (b : Stage (At PeerStretch)) (ma ia mb ib : List CallRequest) (u : List Packet) → (b ≡ Unused → ⊥) → TwoJoint Unused b ma ia mb ib u [] → ⊥
free_a Unused ma ia mb ib u gone h = gone refl
free_a (Waiting q) ma ia mb ib u gone h = h.1
free_a other ma ia mb ib u gone h = h

free_b : (a : Stage (At PeerStretch)) (ma ia mb ib : List CallRequest) (v : List Packet) → (a ≡ Unused → ⊥) → TwoJoint a Unused ma ia mb ib [] v → ⊥
free_b Unused ma ia mb ib v gone h = gone refl
free_b (Waiting p) ma ia mb ib v gone h = h.0
free_b other ma ia mb ib v gone h = h

pub called_free : (r : Role) (x y : PeerCall) (u : List Packet) → x.stage ≡ Unused → IsCalled y → TwoCalls r x u [] y → ⊥
called_free Dte x y u is gone h =
    free_a y.stage x.made x.indicated y.made y.indicated u gone (subst (λ a. TwoJoint a y.stage x.made x.indicated y.made y.indicated u []) is h)
called_free Dce x y u is gone h =
    free_b y.stage y.made y.indicated x.made x.indicated u gone (subst (λ a. TwoJoint y.stage a y.made y.indicated x.made x.indicated [] u) is h)
