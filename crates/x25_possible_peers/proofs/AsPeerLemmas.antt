-- The rules of a channel are those of peers, and no more than is named beyond.
use Rattle.x25_possible_peers.proofs.Names.{◌≡◌, ℕ, ◌-◌, ◌≤◌, Bool, true, false, List, [], ◌∷◌, Some, refl, sym, ap, subst, ◌∙◌, cond_some, none-some, Role}
use Rattle.x25_possible_peers.proofs.Names.{Dte, Dce, Piece, More, Last, CallRequest, Side, Live, Left, At, PeerStretch, Deed, Says, Interrupts, Confirms}
use Rattle.x25_possible_peers.proofs.Names.{PeerCall, CallDeed, PlacesCall, AcceptsCall, InTransfer, does_call, call_taking, InCall, Clears, does_channel}
use Rattle.x25_possible_peers.proofs.Names.{channel_packet_of, channel_taking, Stage, Unused, Waiting, Offered, Crossed, Talking, sends_as, takes, Phase}
use Rattle.x25_possible_peers.proofs.Names.{item_of, phase_of, stage_phase, transfer_phase, talk_of, limits, IsOfRole, IsTakenSo}
use Rattle.std.proofs.{Common.{◌^◌}, lemmas.Nat.{pow_pos}}
use Rattle.x25_circuit.specs.{Params.{may_propose, may_answer, said_in}, declared.params.Params.{Params}}
use Rattle.x25_handshakes.specs.laws.{Handshake.{live, left}, PeerCalls.{stands}, PeerChannel.{ChannelDeed, MayDoChannel}}
use Rattle.x25_handshakes.specs.laws.{PeerStretch.{Sends as SendsPiece, MayDo, does as does_stretch, packet_of}, PeerTransfer.{InStretch, Resets}}
use Rattle.x25_handshakes.specs.laws.Terms.{Terms}
use Rattle.x25_possible.specs.Channel.{ending_sends, fresh}
use Rattle.x25_possible_peers.proofs.PeerLemmas.{channel_sends, channel_takes, accept_sends, stretch_sends as deed_sends}
use Rattle.x25_possible_peers.proofs.{StretchLemmas.{MayDoIt, stretch_sends}, TapeLemmas.{does_of_role, takes_of_role}}
use Rattle.x25_possible_peers.specs.laws.AsPeers.{NotClear, End, Stands, Owes, IsAt, IsPeer, IsSized, SendsOn, SendsBeyond, TakesOn, ChannelRulesArePeers}
use Rattle.x25_handshakes.specs.laws.Stretch as theirs
use Rattle.x25_possible.specs.declared.packet.Packet.TheVariants as item
use Rattle.x25_possible.specs.declared.phase.Phase.TheVariants as phase
use Rattle.x25_possible_peers.specs.laws.AsPeers as as_peers

pub same_some : {X : Type 0} (x u : X) → Some x ≡ Some u → x ≡ u
same_some x u h = cc

pub no_item : {X : Type 0} (x : X) (xs : List X) → [] ≡ x ∷ xs → ⊥
no_item x xs h = cc

-- ---- it stays a peer of its role, in a call of a known size

size_known : (n : ℕ) → 1 ≤ 2 ^ n
size_known n = pow_pos n

call_sized : (stage : Stage (At PeerStretch)) (m i : List CallRequest) (d : CallDeed) → IsSized stage → IsSized (does_call stage m i d).stage
call_sized Unused m i (PlacesCall n) h = tt
call_sized Unused m i d h = tt
call_sized (Waiting mine) m i d h = tt
call_sized (Offered their) m i (AcceptsCall field most) h = size_known (said_in their field).size_called
call_sized (Offered their) m i d h = tt
call_sized (Crossed mine) m i d h = tt
call_sized (Talking t b at) m i (InTransfer d) h = h
call_sized (Talking t b at) m i d h = h

does_peer : (r : Role) (e : ℕ) (y : Side PeerCall) (d : ChannelDeed) → IsPeer r y → IsPeer r (does_channel e y d).side
does_peer r e (Live c) (InCall d) h = (does_of_role r e (Live c) (InCall d) h.0, call_sized c.stage c.made c.indicated d h.1)
does_peer r e (Live c) Clears h = tt
does_peer r e (Left c) d h = tt

taken_sized : (r : Role) (stage : Stage (At PeerStretch)) (m i : List CallRequest) (p : theirs.Packet) → IsSized stage
    → IsSized (call_taking r stage m i p).next.stage
taken_sized r Unused m i (theirs.Call n) h = tt
taken_sized r Unused m i p h = tt
taken_sized Dte (Waiting mine) m i (theirs.Call n) h = tt
taken_sized Dce (Waiting mine) m i (theirs.Call n) h = tt
taken_sized r (Waiting mine) m i (theirs.Accept field most) h = size_known (said_in mine field).size_calling
taken_sized r (Waiting mine) m i p h = tt
taken_sized r (Offered their) m i p h = tt
taken_sized r (Crossed mine) m i (theirs.Accept field most) h = size_known (said_in mine field).size_calling
taken_sized r (Crossed mine) m i p h = tt
taken_sized r (Talking t b at) m i p h = h

pub fresh_peer_is : (r : Role) → IsPeer r (Live (record { stage = Unused; made = []; indicated = [] }))
fresh_peer_is Dte = (tt, tt)
fresh_peer_is Dce = (tt, tt)

takes_peer : (r : Role) (e : ℕ) (y : Side PeerCall) (p : theirs.Packet) → IsPeer r y → IsPeer r (channel_taking r e y p).next.side
takes_peer r e (Live c) theirs.Clear h = fresh_peer_is r
takes_peer r e (Live c) p h = (takes_of_role r e (Live c) p h.0, taken_sized r c.stage c.made c.indicated p h.1)
takes_peer r e (Left c) theirs.Clear h = fresh_peer_is r
takes_peer r e (Left c) theirs.ClearConf h = fresh_peer_is r
takes_peer r e (Left c) p h = tt

role_of : (r : Role) (y : Side PeerCall) → IsPeer r y → IsOfRole r y
role_of r (Live c) h = h.0
role_of Dte (Left c) h = tt
role_of Dce (Left c) h = tt

-- ---- what stands in front is RESET in a call, or CLEAR

pub data Owed : At PeerCall → theirs.Packet → Phase → Type 0 where
  clear : (e : ℕ) (c : PeerCall) → Owed (live e c) theirs.Clear phase.WasCleared
  reset : (e k : ℕ) (m i : List CallRequest) (t b : Terms) (y : PeerStretch)
      → Owed (live e (stands (Talking t b (live k y)) m i)) theirs.Reset (phase.WasReset (limits t))

clear_at : (e : ℕ) (c : PeerCall) (s : Phase) → phase.WasCleared ≡ s → Owed (live e c) theirs.Clear s
clear_at e c s h = subst (λ u. Owed (live e c) theirs.Clear u) h (clear e c)

reset_at : (e k : ℕ) (m i : List CallRequest) (t b : Terms) (y : PeerStretch) (s : Phase) → phase.WasReset (limits t) ≡ s
    → Owed (live e (stands (Talking t b (live k y)) m i)) theirs.Reset s
reset_at e k m i t b y s h =
    subst (λ u. Owed (live e (stands (Talking t b (live k y)) m i)) theirs.Reset u) h (reset e k m i t b y)

owed_talking : (r : Role) (e k : ℕ) (m i : List CallRequest) (t b : Terms) (y : Side PeerStretch) (q a : theirs.Packet) (s : Phase)
    → takes r (transfer_phase (limits t) y) (item_of q) ≡ s
    → (channel_taking r e (Live (stands (Talking t b (record { epoch = k; side = y })) m i)) q).out ≡ a ∷ []
    → Owed (live e (stands (Talking t b (record { epoch = k; side = y })) m i)) q s
owed_talking r e k m i t b (Live y) theirs.Clear a s h out = clear_at e (stands (Talking t b (live k y)) m i) s h
owed_talking r e k m i t b (Left y) theirs.Clear a s h out = clear_at e (stands (Talking t b (left k y)) m i) s h
owed_talking r e k m i t b (Live y) theirs.Reset a s h out = reset_at e k m i t b y s h
owed_talking r e k m i t b (Live y) q a s h out = absurd (no_item a [] out)
owed_talking r e k m i t b (Left y) q a s h out = absurd (no_item a [] out)

owed_call : (r : Role) (e : ℕ) (stage : Stage (At PeerStretch)) (m i : List CallRequest) (q a : theirs.Packet) (s : Phase)
    → takes r (stage_phase stage) (item_of q) ≡ s
    → (channel_taking r e (Live (stands stage m i)) q).out ≡ a ∷ [] → Owed (live e (stands stage m i)) q s
owed_call r e (Talking t b at) m i q a s h out = owed_talking r e at.epoch m i t b at.side q a s h out
owed_call r e Unused m i theirs.Clear a s h out = clear_at e (stands Unused m i) s h
owed_call r e (Waiting mine) m i theirs.Clear a s h out = clear_at e (stands (Waiting mine) m i) s h
owed_call r e (Offered their) m i theirs.Clear a s h out = clear_at e (stands (Offered their) m i) s h
owed_call r e (Crossed mine) m i theirs.Clear a s h out = clear_at e (stands (Crossed mine) m i) s h
owed_call Dte e (Waiting mine) m i (theirs.Call n) a s h out = absurd (no_item a [] out)
owed_call Dce e (Waiting mine) m i (theirs.Call n) a s h out = absurd (no_item a [] out)
owed_call r e Unused m i q a s h out = absurd (no_item a [] out)
owed_call r e (Waiting mine) m i q a s h out = absurd (no_item a [] out)
owed_call r e (Offered their) m i q a s h out = absurd (no_item a [] out)
owed_call r e (Crossed mine) m i q a s h out = absurd (no_item a [] out)

owed : (r : Role) (e : ℕ) (y : Side PeerCall) (q a : theirs.Packet) (s : Phase) → takes r (phase_of y) (item_of q) ≡ s
    → (channel_taking r e y q).out ≡ a ∷ [] → Owed (record { epoch = e; side = y }) q s
owed r e (Live c) q a s h out = owed_call r e c.stage c.made c.indicated q a s h out
owed r e (Left c) q a s h out = absurd (no_item a [] (left_silent q out))
  where
    left_silent : (q : theirs.Packet) → (channel_taking r e (Left c) q).out ≡ a ∷ [] → [] ≡ a ∷ []
    left_silent theirs.Clear h = h
    left_silent theirs.ClearConf h = h
    left_silent q h = h

-- ---- what it may send

abbrev pub Goes : Role → End → theirs.Packet → Phase → Type 0
Goes r a p u = (b : End) × SendsOn r a p b × IsAt r b u

does_goes : (r : Role) (e : ℕ) (y : Side PeerCall) (d : ChannelDeed) (p : theirs.Packet) (u : Phase) → IsPeer r y → MayDoChannel y d
    → channel_packet_of y d ≡ p → phase_of (does_channel e y d).side ≡ u → Goes r (Stands (record { epoch = e; side = y })) p u
does_goes r e y d p u peer may is e₁ = (
  Stands (does_channel e y d),
  subst (λ q. SendsOn r (Stands (record { epoch = e; side = y })) q (Stands (does_channel e y d))) is
      (as_peers.does (record { epoch = e; side = y }) d may),
  (does_peer r e y d peer, sym e₁),
)

clear_goes : (r : Role) (e : ℕ) (c : PeerCall) (u : Phase) → IsPeer r (Live c) → Some phase.Clears ≡ Some u → Goes r (Stands (live e c)) theirs.Clear u
clear_goes r e c u peer h = does_goes r e (Live c) Clears theirs.Clear u peer tt refl (same_some phase.Clears u h)

-- in a deed that has no place among a peer's
unasked_goes : (r : Role) (e : ℕ) (c : PeerCall) (d : CallDeed) (p : theirs.Packet) (u : Phase) → IsPeer r (Live c)
    → SendsBeyond (Stands (live e c)) p (Stands (live e (does_call c.stage c.made c.indicated d)))
    → stage_phase (does_call c.stage c.made c.indicated d).stage ≡ u → Goes r (Stands (live e c)) p u
unasked_goes r e c d p u peer may is = (
  Stands (live e (does_call c.stage c.made c.indicated d)),
  as_peers.beyond _ _ p may,
  (does_peer r e (Live c) (InCall d) peer, sym is),
)

idle_goes : (r : Role) (e t : ℕ) (m i : List CallRequest) (p : theirs.Packet) (u : Phase) → IsPeer r (Live (stands Unused m i))
    → sends_as t phase.Idle (item_of p) ≡ Some u → Goes r (Stands (live e (stands Unused m i))) p u
idle_goes r e t m i (theirs.Call n) u peer h = go (may_propose n.params) refl
  where
    is : stage_phase (does_call Unused m i (PlacesCall n)).stage ≡ u
    is = same_some (phase.Calls _) u h

    go : (b : Bool) → may_propose n.params ≡ b → Goes r (Stands (live e (stands Unused m i))) (theirs.Call n) u
    go true may = does_goes r e (Live (stands Unused m i)) (InCall (PlacesCall n)) (theirs.Call n) u peer may refl is
    go false may = unasked_goes r e (stands Unused m i) (PlacesCall n) (theirs.Call n) u peer (as_peers.proposes_any e (stands Unused m i) n refl may) is
idle_goes r e t m i theirs.Clear u peer h = clear_goes r e (stands Unused m i) u peer h
idle_goes r e t m i (theirs.Data ns nr (More q user)) u peer h = absurd (none-some u h)
idle_goes r e t m i (theirs.Data ns nr (Last q user)) u peer h = absurd (none-some u h)
idle_goes r e t m i p u peer h = absurd (none-some u h)

-- where a call is on its way
calling_goes : (r : Role) (e t : ℕ) (c : PeerCall) (s : Phase) (p : theirs.Packet) (u : Phase) → IsPeer r (Live c)
    → ((x : _) → sends_as t s x ≡ ending_sends s x) → sends_as t s (item_of p) ≡ Some u → Goes r (Stands (live e c)) p u
calling_goes r e t c s theirs.Clear u peer ending h = clear_goes r e c u peer (sym (ending item.Clear) ∙ h)
calling_goes r e t c s (theirs.Data ns nr (More q user)) u peer ending h = absurd (none-some u (sym (ending _) ∙ h))
calling_goes r e t c s (theirs.Data ns nr (Last q user)) u peer ending h = absurd (none-some u (sym (ending _) ∙ h))
calling_goes r e t c s p u peer ending h = absurd (none-some u (sym (ending (item_of p)) ∙ h))

offered_goes : (r : Role) (e t : ℕ) (their : Params) (m i : List CallRequest) (p : theirs.Packet) (u : Phase)
    → IsPeer r (Live (stands (Offered their) m i)) → sends_as t (stage_phase (Offered their)) (item_of p) ≡ Some u
    → Goes r (Stands (live e (stands (Offered their) m i))) p u
offered_goes r e t their m i (theirs.Accept field most) u peer h =
    let parts = cond_some (may_answer their (said_in their field)) (stage_phase (does_call (Offered their) m i (AcceptsCall field most)).stage) u
    (sym (accept_sends their m i field most) ∙ h) in
    does_goes r e (Live (stands (Offered their) m i)) (InCall (AcceptsCall field most)) (theirs.Accept field most) u peer parts.0 refl parts.1
offered_goes r e t their m i theirs.Clear u peer h = clear_goes r e (stands (Offered their) m i) u peer h
offered_goes r e t their m i (theirs.Data ns nr (More q user)) u peer h = absurd (none-some u h)
offered_goes r e t their m i (theirs.Data ns nr (Last q user)) u peer h = absurd (none-some u h)
offered_goes r e t their m i p u peer h = absurd (none-some u h)

-- in d1, and d2
module _ (r : Role) (e k : ℕ) (m i : List CallRequest) (t b : Terms) where
  call_in : Side PeerStretch → PeerCall
  call_in y = stands (Talking t b (record { epoch = k; side = y })) m i

  deed_goes : (y : PeerStretch) (p : theirs.Packet) (u : Phase) → IsPeer r (Live (call_in (Live y))) → MayDoIt (limits t) y p u
      → Goes r (Stands (live e (call_in (Live y)))) p u
  unfolding call_in
  deed_goes y p u peer it = go it.deed it.may it.packet it.stands
    where
      go : (d : Deed) → MayDo it.longest t.size y d → packet_of y d ≡ p → u ≡ phase.Talks (talk_of (limits t) (does_stretch y d))
          → Goes r (Stands (live e (call_in (Live y)))) p u
      go (SendsPiece piece ack) may is u_is =
          subst (λ q. Goes r (Stands (live e (call_in (Live y)))) q u) is
          (unasked_goes r e (call_in (Live y)) (InTransfer (InStretch (SendsPiece piece ack))) (packet_of y (SendsPiece piece ack)) u peer
          (as_peers.any_length e k (call_in (Live y)) t b y piece ack it.longest refl may) (sym u_is))
      go (Says ready ack) may is u_is = does_goes r e (Live (call_in (Live y))) (InCall (InTransfer (InStretch (Says ready ack)))) p u peer may is (sym u_is)
      go (Interrupts user) may is u_is = does_goes r e (Live (call_in (Live y))) (InCall (InTransfer (InStretch (Interrupts user)))) p u peer may is (sym u_is)
      go Confirms may is u_is = does_goes r e (Live (call_in (Live y))) (InCall (InTransfer (InStretch Confirms))) p u peer may is (sym u_is)

  talking_goes : (n : ℕ) (y : PeerStretch) (p : theirs.Packet) (u : Phase) → IsPeer r (Live (call_in (Live y)))
      → sends_as n (phase.Talks (talk_of (limits t) y)) (item_of p) ≡ Some u → Goes r (Stands (live e (call_in (Live y)))) p u
  unfolding call_in
  talking_goes n y theirs.Clear u peer h = clear_goes r e (call_in (Live y)) u peer h
  talking_goes n y theirs.Reset u peer h =
      does_goes r e (Live (call_in (Live y))) (InCall (InTransfer Resets)) theirs.Reset u peer tt refl (same_some (phase.Resets (limits t)) u h)
  talking_goes n y theirs.ResetConf u peer h = absurd (none-some u h)
  talking_goes n y (theirs.Call item) u peer h = absurd (none-some u h)
  talking_goes n y (theirs.Accept field most) u peer h = absurd (none-some u h)
  talking_goes n y theirs.ClearConf u peer h = absurd (none-some u h)
  talking_goes n y p u peer h = deed_goes y p u peer (stretch_sends (limits t) n y p u peer.1 tt h)

  reset_goes : (n : ℕ) (y : PeerStretch) (p : theirs.Packet) (u : Phase) → IsPeer r (Live (call_in (Left y)))
      → sends_as n (phase.Resets (limits t)) (item_of p) ≡ Some u → Goes r (Stands (live e (call_in (Left y)))) p u
  unfolding call_in
  reset_goes n y theirs.Clear u peer h = clear_goes r e (call_in (Left y)) u peer h
  reset_goes n y theirs.Reset u peer h = (
    Stands (live e (call_in (Left y))),
    as_peers.beyond _ _ theirs.Reset (as_peers.resets_again e k (call_in (Left y)) t b y refl),
    (peer, sym (same_some (phase.Resets (limits t)) u h)),
  )
  reset_goes n y (theirs.Data ns nr (More q user)) u peer h = absurd (none-some u h)
  reset_goes n y (theirs.Data ns nr (Last q user)) u peer h = absurd (none-some u h)
  reset_goes n y p u peer h = absurd (none-some u h)

  in_call_goes : (n : ℕ) (y : Side PeerStretch) (p : theirs.Packet) (u : Phase) → IsPeer r (Live (call_in y))
      → sends_as n (transfer_phase (limits t) y) (item_of p) ≡ Some u → Goes r (Stands (live e (call_in y))) p u
  in_call_goes n (Live y) p u peer h = talking_goes n y p u peer h
  in_call_goes n (Left y) p u peer h = reset_goes n y p u peer h

stage_goes : (r : Role) (e n : ℕ) (stage : Stage (At PeerStretch)) (m i : List CallRequest) (p : theirs.Packet) (u : Phase)
    → IsPeer r (Live (stands stage m i)) → sends_as n (stage_phase stage) (item_of p) ≡ Some u → Goes r (Stands (live e (stands stage m i))) p u
unfolding call_in
stage_goes r e n Unused m i p u peer h = idle_goes r e n m i p u peer h
stage_goes r e n (Waiting mine) m i p u peer h = calling_goes r e n (stands (Waiting mine) m i) (stage_phase (Waiting mine)) p u peer (λ x. refl) h
stage_goes r e n (Offered their) m i p u peer h = offered_goes r e n their m i p u peer h
stage_goes r e n (Crossed mine) m i p u peer h = calling_goes r e n (stands (Crossed mine) m i) (stage_phase (Crossed mine)) p u peer (λ x. refl) h
stage_goes r e n (Talking t b at) m i p u peer h = in_call_goes r e at.epoch m i t b n at.side p u peer h

-- p6
cleared_goes : (r : Role) (e n : ℕ) (c : PeerCall) (p : theirs.Packet) (u : Phase) → sends_as n phase.Clears (item_of p) ≡ Some u
    → Goes r (Stands (left e c)) p u
cleared_goes r e n c theirs.Clear u h = (
  Stands (left e c),
  as_peers.beyond _ _ theirs.Clear (as_peers.clears_again e c),
  (tt, sym (same_some phase.Clears u h)),
)
cleared_goes r e n c (theirs.Data ns nr (More q user)) u h = absurd (none-some u h)
cleared_goes r e n c (theirs.Data ns nr (Last q user)) u h = absurd (none-some u h)
cleared_goes r e n c p u h = absurd (none-some u h)

stands_goes : (r : Role) (e n : ℕ) (y : Side PeerCall) (p : theirs.Packet) (u : Phase) → IsPeer r y → sends_as n (phase_of y) (item_of p) ≡ Some u
    → Goes r (Stands (record { epoch = e; side = y })) p u
stands_goes r e n (Live c) p u peer h = stage_goes r e n c.stage c.made c.indicated p u peer h
stands_goes r e n (Left c) p u peer h = cleared_goes r e n c p u h

-- p7, and d3
owes_goes : (r : Role) (n : ℕ) (y : At PeerCall) (q : theirs.Packet) (s : Phase) (p : theirs.Packet) (u : Phase) → IsPeer r y.side → Owed y q s
    → sends_as n s (item_of p) ≡ Some u → Goes r (Owes y q) p u
owes_goes r n _ _ _ theirs.ClearConf u peer (clear e c) h = (
  Stands (channel_taking r e (Live c) theirs.Clear).next,
  as_peers.answers (live e c) theirs.Clear theirs.ClearConf refl,
  (fresh_peer_is r, sym (same_some phase.Idle u h)),
)
owes_goes r n _ _ _ theirs.ResetConf u peer (reset e k m i t b y) h = (
  Stands (channel_taking r e (Live (stands (Talking t b (live k y)) m i)) theirs.Reset).next,
  as_peers.answers (live e (stands (Talking t b (live k y)) m i)) theirs.Reset theirs.ResetConf refl,
  (takes_peer r e (Live (stands (Talking t b (live k y)) m i)) theirs.Reset peer, sym (same_some (fresh (limits t)) u h)),
)
owes_goes r n _ _ _ theirs.Clear u peer (reset e k m i t b y) h = (
  Stands (left e (stands (Talking t b (live k y)) m i)),
  as_peers.clears e (stands (Talking t b (live k y)) m i),
  (tt, sym (same_some phase.Clears u h)),
)
owes_goes r n _ _ _ (theirs.Data ns nr (More q user)) u peer (clear e c) h = absurd (none-some u h)
owes_goes r n _ _ _ (theirs.Data ns nr (Last q user)) u peer (clear e c) h = absurd (none-some u h)
owes_goes r n _ _ _ (theirs.Data ns nr (More q user)) u peer (reset e k m i t b y) h = absurd (none-some u h)
owes_goes r n _ _ _ (theirs.Data ns nr (Last q user)) u peer (reset e k m i t b y) h = absurd (none-some u h)
owes_goes r n _ _ _ p u peer (clear e c) h = absurd (none-some u h)
owes_goes r n _ _ _ p u peer (reset e k m i t b y) h = absurd (none-some u h)

pub end_goes : (r : Role) (a : End) (p : theirs.Packet) (s u : Phase) → IsAt r a s → (n : ℕ) × (sends_as n s (item_of p) ≡ Some u) → Goes r a p u
end_goes r (Stands y) p s u at may = stands_goes r y.epoch may.0 y.side p u at.0 (ap (λ z. sends_as may.0 z (item_of p)) (sym at.1) ∙ may.1)
end_goes r (Owes y q) p s u at may = owes_goes r may.0 y q s p u at.0 (owed r y.epoch y.side q at.2.0 s at.1 at.2.1) may.1

-- ---- and all that it may send the rules allow

abbrev May : End → theirs.Packet → End → Type 0
May a p b = (r : Role) (s u : Phase) → IsAt r a s → IsAt r b u → (n : ℕ) × (sends_as n s (item_of p) ≡ Some u)

stands_may : (s s₂ u u₂ : Phase) (p : theirs.Packet) (n : ℕ) → s₂ ≡ s → u₂ ≡ u → sends_as n s (item_of p) ≡ Some u
    → sends_as n s₂ (item_of p) ≡ Some u₂
stands_may s s₂ u u₂ p n e f h = ap (λ z. sends_as n z (item_of p)) e ∙ h ∙ ap (λ z. Some z) (sym f)

call_may : (stage : Stage (At PeerStretch)) (m i : List CallRequest) (n : CallRequest) → stage ≡ Unused
    → sends_as 0 (stage_phase stage) (item_of (theirs.Call n)) ≡ Some (stage_phase (does_call stage m i (PlacesCall n)).stage)
call_may stage m i n is =
    subst (λ z. sends_as 0 (stage_phase z) (item_of (theirs.Call n)) ≡ Some (stage_phase (does_call z m i (PlacesCall n)).stage)) (sym is) refl

piece_may : (stage : Stage (At PeerStretch)) (m i : List CallRequest) (k : ℕ) (t b : Terms) (y : PeerStretch) (piece : Piece) (ack longest : ℕ)
    → stage ≡ Talking t b (live k y) → MayDo longest t.size y (SendsPiece piece ack)
    → (n : ℕ) × (sends_as n (stage_phase stage) (item_of (packet_of y (SendsPiece piece ack)))
    ≡ Some (stage_phase (does_call stage m i (InTransfer (InStretch (SendsPiece piece ack)))).stage))
piece_may stage m i k t b y piece ack longest is may =
    let goes = deed_sends longest (limits t) y (SendsPiece piece ack) may in (
      goes.0,
      subst (λ z. sends_as goes.0 (stage_phase z) (item_of (packet_of y (SendsPiece piece ack)))
          ≡ Some (stage_phase (does_call z m i (InTransfer (InStretch (SendsPiece piece ack)))).stage)) (sym is) goes.1,
    )

reset_may : (stage : Stage (At PeerStretch)) (k : ℕ) (t b : Terms) (y : PeerStretch) → stage ≡ Talking t b (left k y)
    → sends_as 0 (stage_phase stage) item.Reset ≡ Some (stage_phase stage)
reset_may stage k t b y is = subst (λ z. sends_as 0 (stage_phase z) item.Reset ≡ Some (stage_phase z)) (sym is) refl

beyond_may : (a b : End) (p : theirs.Packet) → SendsBeyond a p b → May a p b
beyond_may _ _ _ (as_peers.proposes_any e c n is may) r s u at then =
    (0, stands_may (stage_phase c.stage) s _ u (theirs.Call n) 0 at.1 then.1 (call_may c.stage c.made c.indicated n is))
beyond_may _ _ _ (as_peers.any_length e k c t b y piece ack longest is may) r s u at then =
    let goes = piece_may c.stage c.made c.indicated k t b y piece ack longest is may in
    (goes.0, stands_may (stage_phase c.stage) s _ u (packet_of y (SendsPiece piece ack)) goes.0 at.1 then.1 goes.1)
beyond_may _ _ _ (as_peers.resets_again e k c t b y is) r s u at then =
    (0, stands_may (stage_phase c.stage) s _ u theirs.Reset 0 at.1 then.1 (reset_may c.stage k t b y is))
beyond_may _ _ _ (as_peers.clears_again e c) r s u at then = (0, stands_may phase.Clears s _ u theirs.Clear 0 at.1 then.1 refl)

-- what it makes of a packet that it answers
answer_sends : (r : Role) (e : ℕ) (y : Side PeerCall) (q a : theirs.Packet) (s : Phase) (out : List theirs.Packet) (u : Phase)
    → takes r (phase_of y) (item_of q) ≡ s → out ≡ a ∷ [] → IsTakenSo r (phase_of y) (item_of q) out u
    → sends_as 0 s (item_of a) ≡ Some u
answer_sends r e y q a s out u h is so =
    ap (λ z. sends_as 0 z (item_of a)) (sym h) ∙ subst (λ o. IsTakenSo r (phase_of y) (item_of q) o u) is so

clear_may : (y : At PeerCall) (q : theirs.Packet) (s : Phase) → Owed y q s → q ≡ theirs.Reset → sends_as 0 s item.Clear ≡ Some phase.Clears
clear_may _ _ _ (clear e c) is = absurd (no_reset is)
  where
    no_reset : theirs.Clear ≡ theirs.Reset → ⊥
    no_reset h = cc
clear_may _ _ _ (reset e k m i t b y) is = refl

pub on_may : (r : Role) (a b : End) (p : theirs.Packet) → SendsOn r a p b → (s u : Phase) → IsAt r a s → IsAt r b u
    → (n : ℕ) × (sends_as n s (item_of p) ≡ Some u)
on_may r _ _ _ (as_peers.does y d may) s u at then =
    let goes = channel_sends y.epoch y.side d may in
    (goes.0, stands_may (phase_of y.side) s _ u (channel_packet_of y.side d) goes.0 at.1 then.1 goes.1)
on_may r _ _ _ (as_peers.answers y q a out) s u at then = (
  0,
  answer_sends r y.epoch y.side q a s (channel_taking r y.epoch y.side q).out _ at.1 out (channel_takes r y.epoch y.side q (role_of r y.side at.0))
      ∙ ap (λ z. Some z) (sym then.1),
)
on_may r _ _ _ (as_peers.clears e c) s u at then =
    (0, clear_may (live e c) theirs.Reset s (owed r e (Live c) theirs.Reset at.2.0 s at.1 at.2.1) refl ∙ ap (λ z. Some z) (sym then.1))
on_may r _ _ _ (as_peers.beyond a b p may) s u at then = beyond_may a b p may r s u at then

-- ---- what it makes of what comes

abbrev pub Takes : Role → End → theirs.Packet → Phase → Type 0
Takes r a q u = (b : End) × TakesOn r a q b × IsAt r b u

stands_takes : (r : Role) (y : At PeerCall) (q : theirs.Packet) (u : Phase) → IsPeer r y.side → takes r (phase_of y.side) (item_of q) ≡ u
    → Takes r (Stands y) q u
stands_takes r y q u peer h = go (channel_taking r y.epoch y.side q).out refl (channel_takes r y.epoch y.side q (role_of r y.side peer))
  where
    go : (out : List theirs.Packet) → (channel_taking r y.epoch y.side q).out ≡ out
        → IsTakenSo r (phase_of y.side) (item_of q) out (phase_of (channel_taking r y.epoch y.side q).next.side) → Takes r (Stands y) q u
    go [] is so = (
      Stands (channel_taking r y.epoch y.side q).next,
      as_peers.hears y q is,
      (takes_peer r y.epoch y.side q peer, sym h ∙ so),
    )
    go (a ∷ []) is so = (Owes y q, as_peers.owes y q a is, (peer, h, (a, is)))
    go (a ∷ b ∷ out) is so = absurd so

owed_drops : (r : Role) (y : At PeerCall) (q p : theirs.Packet) (s : Phase) → NotClear p → Owed y q s → takes r s (item_of p) ≡ s
owed_drops r _ _ theirs.Clear s isnt owed = absurd isnt
owed_drops r _ _ (theirs.Data ns nr (More q user)) s isnt (clear e c) = refl
owed_drops r _ _ (theirs.Data ns nr (Last q user)) s isnt (clear e c) = refl
owed_drops r _ _ (theirs.Data ns nr (More q user)) s isnt (reset e k m i t b y) = refl
owed_drops r _ _ (theirs.Data ns nr (Last q user)) s isnt (reset e k m i t b y) = refl
owed_drops r _ _ p s isnt (clear e c) = refl
owed_drops r _ _ p s isnt (reset e k m i t b y) = refl

owed_clear : (r : Role) (y : At PeerCall) (q : theirs.Packet) (s u : Phase) → IsAt r (Owes y q) s → Owed y q s → takes r s item.Clear ≡ u
    → IsAt r (Owes y theirs.Clear) u
owed_clear r _ _ s u at (clear e c) h = subst (λ z. IsAt r (Owes (live e c) theirs.Clear) z) h at
owed_clear r _ _ s u at (reset e k m i t b y) h = (at.0, h, (theirs.ClearConf, refl))

owes_takes : (r : Role) (y : At PeerCall) (q p : theirs.Packet) (s u : Phase) → IsAt r (Owes y q) s → Owed y q s → takes r s (item_of p) ≡ u
    → Takes r (Owes y q) p u
owes_takes r y q theirs.Clear s u at owed h =
    (Owes y theirs.Clear, as_peers.beyond _ _ theirs.Clear (as_peers.cleared y q), owed_clear r y q s u at owed h)
owes_takes r y q p s u at owed h =
    (Owes y q, as_peers.beyond _ _ p (as_peers.drops y q p tt), subst (λ z. IsAt r (Owes y q) z) (sym (owed_drops r y q p s tt owed) ∙ h) at)

pub end_takes : (r : Role) (a : End) (q : theirs.Packet) (s u : Phase) → IsAt r a s → takes r s (item_of q) ≡ u → Takes r a q u
end_takes r (Stands y) q s u at h = stands_takes r y q u at.0 (ap (λ z. takes r z (item_of q)) (sym at.1) ∙ h)
end_takes r (Owes y q) p s u at h = owes_takes r y q p s u at (owed r y.epoch y.side q at.2.0 s at.1 at.2.1) h

cleared_taken : (r : Role) (y : At PeerCall) (q : theirs.Packet) (s : Phase) → Owed y q s → takes r s item.Clear ≡ phase.WasCleared
cleared_taken r _ _ _ (clear e c) = refl
cleared_taken r _ _ _ (reset e k m i t b y) = refl

-- CLEAR in front is answered in p7
clear_owed : (y : At PeerCall) (q : theirs.Packet) (s : Phase) → Owed y q s → q ≡ theirs.Clear → s ≡ phase.WasCleared
clear_owed _ _ _ (clear e c) is = refl
clear_owed _ _ _ (reset e k m i t b y) is = absurd (no_clear is)
  where
    no_clear : theirs.Reset ≡ theirs.Clear → ⊥
    no_clear h = cc

pub owes_is : (r : Role) (y : At PeerCall) (q : theirs.Packet) (s : Phase) → IsAt r (Owes y q) s → Owed y q s
owes_is r y q s at = owed r y.epoch y.side q at.2.0 s at.1 at.2.1

pub on_takes : (r : Role) (a b : End) (q : theirs.Packet) → TakesOn r a q b → (s u : Phase) → IsAt r a s → IsAt r b u → takes r s (item_of q) ≡ u
on_takes r _ _ _ (as_peers.hears y q out) s u at then =
    let so = subst (λ o. IsTakenSo r (phase_of y.side) (item_of q) o (phase_of (channel_taking r y.epoch y.side q).next.side)) out
    (channel_takes r y.epoch y.side q (role_of r y.side at.0)) in
    ap (λ z. takes r z (item_of q)) at.1 ∙ so ∙ sym then.1
on_takes r _ _ _ (as_peers.owes y q a out) s u at then = ap (λ z. takes r z (item_of q)) at.1 ∙ then.1
on_takes r _ _ _ (as_peers.beyond _ _ _ (as_peers.drops y q p isnt)) s u at then =
    owed_drops r y q p s isnt (owes_is r y q s at) ∙ (sym at.1 ∙ then.1)
on_takes r _ _ _ (as_peers.beyond _ _ _ (as_peers.cleared y q)) s u at then =
    cleared_taken r y q s (owes_is r y q s at) ∙ sym (clear_owed y theirs.Clear u (owes_is r y theirs.Clear u then) refl)

pub channel_rules : ChannelRulesArePeers
channel_rules = record {
  sends = λ r a p s u at. (end_goes r a p s u at, λ goes. on_may r a goes.0 p goes.1 s u at goes.2);
  takes = λ r a q s u at. (end_takes r a q s u at, λ goes. on_takes r a goes.0 q goes.1 s u at goes.2);
}
