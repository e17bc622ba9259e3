-- A peer of the packet layer, on one channel, as an end of which a judge knows the state. ITU-T X.25 (10/96), sections
-- 4.1, 4.3 and 4.4.
use Rattle.std.specs.Prelude.{◌≡◌, ℕ, ◌^◌, List, [], ◌∷◌, ◌++◌, length, Option, Some, None, true, false}
use Rattle.std.specs.Prelude.{Result, Ok, Err}
use Rattle.x25_bits.specs.declared.role.Role.{Role}
use Rattle.x25_bits.specs.declared.role.Role.TheVariants.{Dce}
use Rattle.x25_packet.specs.Facilities.{facilities_of}
use Rattle.x25_packet.specs.declared.error.PacketError.{PacketError}
use Rattle.x25_packet.specs.declared.facilities.Directions.{Directions}
use Rattle.x25_packet.specs.declared.facilities.Facilities.{Facilities}
use Rattle.x25_circuit.specs.Message.{Piece, More, Last, no_part, joining}
use Rattle.x25_circuit.specs.declared.params.Params.{Params}
use Rattle.x25_handshakes.specs.laws.Handshake.{Side, Live, Left, At}
use Rattle.x25_handshakes.specs.laws.Stretch as theirs
use Rattle.x25_handshakes.specs.laws.PeerStretch.{PeerStretch}
use Rattle.x25_handshakes.specs.laws.PeerCalls.{PeerCall}
use Rattle.x25_handshakes.specs.laws.PeerChannel.{ChannelDeed, fresh_peer_channel, MayDoChannel, does_channel}
use Rattle.x25_handshakes.specs.laws.PeerChannel.{channel_packet_of}
use Rattle.x25_handshakes.specs.laws.PeerChannel.{channel_taking}
use Rattle.x25_possible.specs.Channel.{sends_as, takes}
use Rattle.x25_possible.specs.code.Steps.{behind, sends_to}
use Rattle.x25_possible.specs.laws.Possible.{Item, Own, Other}
use Rattle.x25_possible.specs.laws.Sets.{IsUntold}
use Rattle.x25_possible.specs.declared.packet.Said.{Said}
use Rattle.x25_possible.specs.declared.packet.Packet.{Packet}
use Rattle.x25_possible.specs.declared.packet.Packet.TheVariants as item
use Rattle.x25_possible.specs.declared.packet.Sizes.{Sizes}
use Rattle.x25_possible.specs.declared.packet.Terms.{Terms}
use Rattle.x25_possible.specs.declared.packet.Windows.{Windows}
use Rattle.x25_possible.specs.declared.phase.Limits.{Limits}
use Rattle.x25_possible.specs.declared.phase.Phase.{Phase}
use Rattle.x25_possible.specs.declared.phase.Phase.TheVariants as phase
use Rattle.x25_possible.specs.declared.phase.Talk.{Talk}
use Rattle.x25_handshakes.specs.laws.Terms as agreed
use Rattle.x25_handshakes.specs.laws.Calls.{Stage, Unused, Waiting, Offered, Crossed, Talking}

-- ---- its packets

abbrev pub terms_of : Params → Terms
terms_of p = record {
  defaults = record { size = 128; window = 2 };
  calling_size = 2 ^ p.size_calling;
  called_size = 2 ^ p.size_called;
  calling_window = p.win_calling;
  called_window = p.win_called;
}

abbrev pub sizes_by : Option Directions → Option Sizes
sizes_by None = None
sizes_by (Some said) = Some (record { calling = 2 ^ said.calling; called = 2 ^ said.called })

abbrev pub windows_by : Option Directions → Option Windows
windows_by None = None
windows_by (Some said) = Some (record { calling = said.calling; called = said.called })

-- what a facility field says of packet sizes, and of windows
abbrev pub sizes_in : Result Facilities PacketError → Option Sizes
sizes_in (Ok f) = sizes_by f.packet_size
sizes_in (Err e) = None

abbrev pub windows_in : Result Facilities PacketError → Option Windows
windows_in (Ok f) = windows_by f.window_size
windows_in (Err e) = None

abbrev pub said_of : Result Facilities PacketError → Said
said_of r = record { sizes = sizes_in r; windows = windows_in r }

-- of what it sends in a call with these terms
abbrev pub limits : agreed.Terms → Limits
limits t = record { most = t.size; window = t.window }

abbrev pub data_of : ℕ → ℕ → Piece → Packet
data_of ns nr (More q user) = item.Data q.q true ns nr (length user)
data_of ns nr (Last q user) = item.Data q.q false ns nr (length user)

abbrev pub item_of : theirs.Packet → Packet
item_of (theirs.Data ns nr piece) = data_of ns nr piece
item_of (theirs.Rr nr) = item.Rr nr
item_of (theirs.Rnr nr) = item.Rnr nr
item_of (theirs.Int user) = item.Interrupt
item_of theirs.IntConf = item.InterruptConf
item_of theirs.Reset = item.Reset
item_of theirs.ResetConf = item.ResetConf
item_of (theirs.Call n) = item.Call (terms_of n.params)
item_of (theirs.Accept field longest) = item.Accept (said_of (facilities_of field))
item_of theirs.Clear = item.Clear
item_of theirs.ClearConf = item.ClearConf

-- ---- its state

abbrev pub talk_of : Limits → PeerStretch → Talk
talk_of l y = record {
  most = l.most;
  window = l.window;
  sent = length y.sent;
  acked = y.acked;
  taken = length y.taken;
  told = y.told;
  begun = (joining no_part y.sent).begun;
  is_out = y.int_out;
  owed = y.owed;
}

abbrev pub transfer_phase : Limits → Side PeerStretch → Phase
transfer_phase l (Live y) = phase.Talks (talk_of l y)
transfer_phase l (Left y) = phase.Resets l

abbrev pub stage_phase : Stage (At PeerStretch) → Phase
stage_phase Unused = phase.Idle
stage_phase (Waiting mine) = phase.Calls (terms_of mine)
stage_phase (Offered theirs) = phase.WasCalled (terms_of theirs)
stage_phase (Crossed mine) = phase.Calls (terms_of mine)
stage_phase (Talking t b at) = transfer_phase (limits t) at.side

abbrev pub phase_of : Side PeerCall → Phase
phase_of (Live y) = stage_phase y.stage
phase_of (Left y) = phase.Clears

-- ---- that it keeps the rules of a channel

-- what it does by itself it may send
abbrev pub DeedsAreSends : Type 0
DeedsAreSends =
    (e : ℕ) (y : Side PeerCall) (d : ChannelDeed) → MayDoChannel y d
    → (t : ℕ) × (sends_as t (phase_of y) (item_of (channel_packet_of y d)) ≡ Some (phase_of (does_channel e y d).side))

-- A packet that comes is taken, and where it is confirmed, that is sent then.
abbrev pub IsTakenSo : Role → Phase → Packet → List theirs.Packet → Phase → Type 0
IsTakenSo role s x [] r = takes role s x ≡ r
IsTakenSo role s x (p ∷ []) r = sends_as 0 (takes role s x) (item_of p) ≡ Some r
IsTakenSo role s x (p ∷ q ∷ ps) r = ⊥

-- only the DTE's call goes ahead where both called
abbrev pub NotCollided : Stage (At PeerStretch) → Type 0
NotCollided (Crossed mine) = ⊥
NotCollided stage = Unit {0}

abbrev pub IsOfRole : Role → Side PeerCall → Type 0
IsOfRole Dce (Live c) = NotCollided c.stage
IsOfRole r y = Unit {0}

abbrev pub PacketsAreTaken : Type 0
PacketsAreTaken =
    (r : Role) (e : ℕ) (y : Side PeerCall) (p : theirs.Packet) → IsOfRole r y
    → IsTakenSo r (phase_of y) (item_of p) (channel_taking r e y p).out (phase_of (channel_taking r e y p).next.side)

-- ---- over a whole tape

-- what it confirms as it takes a packet
abbrev pub confirmed : List theirs.Packet → List (Item Packet) → List (Item Packet)
confirmed [] tape = tape
confirmed (p ∷ ps) tape = Own (item_of p) ∷ tape

-- Such a peer, on a channel between two restarts, behind a tape, latest first, and what the other end sent on the way
-- to it, front first: it does what it may; the other end shows any packet; the one in front comes.
pub data PeerStands (r : Role) : List (Item Packet) → At PeerCall → List theirs.Packet → Type 0 where
  Begins : PeerStands r [] fresh_peer_channel []
  Does : (tape : List (Item Packet)) (y : At PeerCall) (way : List theirs.Packet) (d : ChannelDeed)
      → MayDoChannel y.side d
      → PeerStands r tape y way
      → PeerStands r (Own (item_of (channel_packet_of y.side d)) ∷ tape) (does_channel y.epoch y.side d) way
  Shown : (tape : List (Item Packet)) (y : At PeerCall) (way : List theirs.Packet) (p : theirs.Packet)
      → PeerStands r tape y way → PeerStands r (Other (item_of p) ∷ tape) y (way ++ p ∷ [])
  Hears : (tape : List (Item Packet)) (y : At PeerCall) (way : List theirs.Packet) (p : theirs.Packet)
      → PeerStands r tape y (p ∷ way)
      → PeerStands r (confirmed (channel_taking r y.epoch y.side p).out tape)
      (channel_taking r y.epoch y.side p).next way

-- of such a peer no rule is told, packet by packet from a restart on
abbrev pub NoPeerIsTold : Type 0
NoPeerIsTold =
    (r : Role) (tape : List (Item Packet)) (x : Packet) (y : At PeerCall) (way : List theirs.Packet)
    → PeerStands r (Own x ∷ tape) y way → IsUntold (sends_to x (behind r tape)).told
