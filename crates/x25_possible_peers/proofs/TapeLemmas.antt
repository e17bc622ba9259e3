-- A tape of a peer is one of an end that keeps the rules of a channel.
use Rattle.x25_possible_peers.proofs.Names.{◌≡◌, inl, ℕ, List, [], ◌∷◌, ◌++◌, refl, sym, ap, subst, Role, Dte, Dce, CallRequest, Side, Live, Left, At}
use Rattle.x25_possible_peers.proofs.Names.{PeerStretch, PeerCall, CallDeed, PlacesCall, AcceptsCall, InTransfer, does_call, call_taking, InCall, Clears}
use Rattle.x25_possible_peers.proofs.Names.{does_channel, channel_packet_of, channel_taking, takes, Item, Stands, Phase, item_of, phase_of, IsTakenSo, IsOfRole}
use Rattle.std.proofs.Common.{map}
use Rattle.x25_handshakes.specs.laws.PeerChannel.{ChannelDeed}
use Rattle.x25_possible.specs.{Channel.{channel_rules}, declared.packet.Packet.{Packet}, declared.phase.Phase.TheVariants.{Idle}}
use Rattle.x25_possible.specs.laws.Possible.{Other, Begins as RunBegins, Sends as RunSends, Shows as RunShows, Takes as RunTakes}
use Rattle.x25_possible_peers.proofs.{Names.{Stage, Unused, Waiting, Offered, Crossed, Talking}, PeerLemmas.{channel_sends, channel_takes}}
use Rattle.x25_possible_peers.specs.laws.Peers.{NotCollided, confirmed, PeerStands, Begins, Does, Shown, Hears}
use Rattle.x25_handshakes.specs.laws.Stretch as theirs

-- ---- the DCE's call never collides

call_of_role : (stage : Stage (At PeerStretch)) (m i : List CallRequest) (d : CallDeed) → NotCollided stage → NotCollided (does_call stage m i d).stage
call_of_role Unused m i (PlacesCall n) h = tt
call_of_role Unused m i d h = tt
call_of_role (Waiting mine) m i d h = tt
call_of_role (Offered their) m i (AcceptsCall field most) h = tt
call_of_role (Offered their) m i d h = tt
call_of_role (Crossed mine) m i d h = absurd h
call_of_role (Talking t b at) m i (InTransfer d) h = tt
call_of_role (Talking t b at) m i d h = tt

pub does_of_role : (r : Role) (e : ℕ) (y : Side PeerCall) (d : ChannelDeed) → IsOfRole r y → IsOfRole r (does_channel e y d).side
does_of_role Dte e y d h = tt
does_of_role Dce e (Live c) (InCall d) h = call_of_role c.stage c.made c.indicated d h
does_of_role Dce e (Live c) Clears h = tt
does_of_role Dce e (Left c) d h = tt

call_taken_of_role : (stage : Stage (At PeerStretch)) (m i : List CallRequest) (p : theirs.Packet) → NotCollided stage
    → NotCollided (call_taking Dce stage m i p).next.stage
call_taken_of_role Unused m i (theirs.Call n) h = tt
call_taken_of_role Unused m i p h = tt
call_taken_of_role (Waiting mine) m i (theirs.Call n) h = tt
call_taken_of_role (Waiting mine) m i (theirs.Accept field most) h = tt
call_taken_of_role (Waiting mine) m i p h = tt
call_taken_of_role (Offered their) m i p h = tt
call_taken_of_role (Crossed mine) m i p h = absurd h
call_taken_of_role (Talking t b at) m i p h = tt

pub takes_of_role : (r : Role) (e : ℕ) (y : Side PeerCall) (p : theirs.Packet) → IsOfRole r y → IsOfRole r (channel_taking r e y p).next.side
takes_of_role Dte e y p h = tt
takes_of_role Dce e (Live c) theirs.Clear h = tt
takes_of_role Dce e (Live c) p h = call_taken_of_role c.stage c.made c.indicated p h
takes_of_role Dce e (Left c) theirs.Clear h = tt
takes_of_role Dce e (Left c) theirs.ClearConf h = tt
takes_of_role Dce e (Left c) p h = tt

pub fresh_of_role : (r : Role) → IsOfRole r (Live (record { stage = Unused; made = []; indicated = [] }))
fresh_of_role Dte = tt
fresh_of_role Dce = tt

of_role : (r : Role) (tape : List (Item Packet)) (y : At PeerCall) (way : List theirs.Packet) → PeerStands r tape y way → IsOfRole r y.side
of_role r _ _ _ Begins = fresh_of_role r
of_role r _ _ _ (Does tape y way d may h) = does_of_role r y.epoch y.side d (of_role r tape y way h)
of_role r _ _ _ (Shown tape y way p h) = of_role r tape y way h
of_role r _ _ _ (Hears tape y way p h) = takes_of_role r y.epoch y.side p (of_role r tape y (p ∷ way) h)

-- ---- its tape

pub taken_so : (role : Role) (tape : List (Item Packet)) (s r : Phase) (x : Packet) (way : List Packet) (out : List theirs.Packet)
    → IsTakenSo role s x out r → Stands (channel_rules role (Idle ∷ [])) tape s (x ∷ way) → Stands (channel_rules role (Idle ∷ [])) (confirmed out tape) r way
taken_so role tape s r x way [] h st = RunTakes tape s r way x h st
taken_so role tape s r x way (p ∷ []) h st =
    RunSends tape (takes role s x) r way (item_of p) (0, h) (RunTakes tape s (takes role s x) way x refl st)
taken_so role tape s r x way (p ∷ q ∷ ps) h st = absurd h

map_push : (way : List theirs.Packet) (p : theirs.Packet) → map item_of (way ++ p ∷ []) ≡ map item_of way ++ item_of p ∷ []
map_push [] p = refl
map_push (q ∷ way) p = ap (λ xs. item_of q ∷ xs) (map_push way p)

pub explained : (r : Role) (tape : List (Item Packet)) (y : At PeerCall) (way : List theirs.Packet) → PeerStands r tape y way
    → Stands (channel_rules r (Idle ∷ [])) tape (phase_of y.side) (map item_of way)
explained r _ _ _ Begins = RunBegins (phase_of (Live (record { stage = Unused; made = []; indicated = [] }))) (inl refl)
explained r _ _ _ (Does tape y way d may h) =
    RunSends tape (phase_of y.side) (phase_of (does_channel y.epoch y.side d).side) (map item_of way) (item_of (channel_packet_of y.side d))
    (channel_sends y.epoch y.side d may) (explained r tape y way h)
explained r _ _ _ (Shown tape y way p h) =
    subst (λ w. Stands (channel_rules r (Idle ∷ [])) (Other (item_of p) ∷ tape) (phase_of y.side) w) (sym (map_push way p))
    (RunShows tape (phase_of y.side) (map item_of way) (item_of p) (explained r tape y way h))
explained r _ _ _ (Hears tape y way p h) =
    taken_so r tape (phase_of y.side) (phase_of (channel_taking r y.epoch y.side p).next.side) (item_of p) (map item_of way)
    (channel_taking r y.epoch y.side p).out (channel_takes r y.epoch y.side p (of_role r tape y (p ∷ way) h))
    (explained r tape y (p ∷ way) h)
