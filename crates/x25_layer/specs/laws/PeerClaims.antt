-- What holds of a layer and any peer, after all that happens.
use Rattle.std.specs.Prelude.{◌≡◌, ℕ, List, [], length, Bool, true}
use Rattle.x25_bits.specs.declared.role.Role.{Role}
use Rattle.x25_circuit.specs.Circuit.{Circuit, is_open, waits}
use Rattle.x25_circuit.specs.Message.{carried}
use Rattle.x25_handshakes.specs.laws.Handshake.{At, state_of}
use Rattle.x25_handshakes.specs.laws.Names.{Name}
use Rattle.x25_handshakes.specs.laws.Histories.{IsPrefix}
use Rattle.x25_handshakes.specs.laws.PeerStretch.{PeerStretch}
use Rattle.x25_handshakes.specs.laws.PeerCalls.{PeerCall}
use Rattle.x25_handshakes.specs.laws.PeerLayer.{PeerChannels}
use Rattle.x25_handshakes.specs.laws.PeerClaims.{peer_transfer_of, is_open_there}
use Rattle.x25_layer.specs.declared.ranges.Ranges.{Ranges}
use Rattle.x25_layer.specs.Layer.{Layer}
use Rattle.x25_layer.specs.laws.Transcript.{Entry, under, calls_in, messages_in, interrupts_in, name_of}
use Rattle.x25_layer.specs.laws.Law.{IsQuietEnd}
use Rattle.x25_layer.specs.laws.Bare.{bare_layers}
use Rattle.x25_layer.specs.laws.PeerJoined.{PeerJoined, IsReached}
use Rattle.x25_handshakes.specs.laws.TwoLayers as two

abbrev pub WithAnyPeer : (Ranges → PeerJoined → Type 0) → Type 0
WithAnyPeer Holds =
    (r : Role) (long_data : Bool) (channels : Ranges) (w : PeerJoined) → IsReached r long_data channels w
    → Holds channels w

-- a peer's call on a channel, its stretch, and the name of that by its own counts
abbrev pub peer_call : At PeerChannels → ℕ → PeerCall
peer_call y k = state_of (state_of y.side k).side

abbrev pub peer_stretch : At PeerChannels → ℕ → PeerStretch
peer_stretch y k = state_of (peer_transfer_of (peer_call y k).stage).side

abbrev pub peer_name : At PeerChannels → ℕ → Name
peer_name y k = record {
  restarts = y.epoch;
  clears = (state_of y.side k).epoch;
  resets = (peer_transfer_of (peer_call y k).stage).epoch;
}

-- calls stand before the first reset
abbrev pub of_call : Name → Name
of_call m = record m { resets = 0 }

-- Under this name of a channel, of which c is our circuit: what our layer's user was told is a beginning of what the
-- peer's packets carry, and what the peer took is a beginning of what that user handed down. It is all of them where
-- all is acknowledged to the peer (`all`), and where our circuit is open and all of its packets went and are
-- acknowledged (`all_there`).
pub record StretchIsInOrder (k : ℕ) (m : Name) (entries : List Entry) (c : Circuit) (y : PeerStretch) : Type 0 where
  pub up : IsPrefix (messages_in (under k m entries)).up (carried y.sent)
  pub there : IsPrefix (carried y.taken) (messages_in (under k m entries)).down
  pub all : y.acked ≡ length y.sent → (messages_in (under k m entries)).up ≡ carried y.sent
  pub all_there : is_open c ≡ true → c.talk.rest ≡ [] → c.talk.acked ≡ length c.talk.sent
      → carried y.taken ≡ (messages_in (under k m entries)).down
  pub int_up : IsPrefix (interrupts_in (under k m entries)).up y.int_down
  pub int_there : IsPrefix y.int_up (interrupts_in (under k m entries)).down

pub record CallIsInOrder (k : ℕ) (m : Name) (entries : List Entry) (y : PeerCall) : Type 0 where
  pub up : IsPrefix (calls_in (under k (of_call m) entries)).up y.made
  pub there : IsPrefix y.indicated (calls_in (under k (of_call m) entries)).down

-- Where both ends count alike: of a call where that is so of restarts and clears, and of a stretch where it is so of
-- resets too.
pub record IsInOrder (k : ℕ) (w : PeerJoined) : Type 0 where
  pub calls : of_call (name_of w.near.layer k) ≡ of_call (peer_name w.peer k)
      → CallIsInOrder k (name_of w.near.layer k) w.near.entries (peer_call w.peer k)
  pub stretch : name_of w.near.layer k ≡ peer_name w.peer k
      → StretchIsInOrder k (name_of w.near.layer k) w.near.entries (w.near.layer.circuits k) (peer_stretch w.peer k)

abbrev pub IsAllInOrder : Ranges → PeerJoined → Type 0
IsAllInOrder channels w = (k : ℕ) → IsInOrder k w

-- Of a stretch that is open at both ends: both count it alike, and what our user handed down in it the peer took, of
-- messages where none waits.
pub record HasArrived (k : ℕ) (l : Layer) (entries : List Entry) (y : At PeerChannels) : Type 0 where
  pub name : name_of l k ≡ peer_name y k
  pub messages : waits (l.circuits k) ≡ 0
      → carried (peer_stretch y k).taken ≡ (messages_in (under k (name_of l k) entries)).down
  pub interrupts : (peer_stretch y k).int_up ≡ (interrupts_in (under k (name_of l k) entries)).down

abbrev pub OpenHaveArrived : Layer → List Entry → At PeerChannels → Type 0
OpenHaveArrived l entries y =
    (k : ℕ) → is_open (l.circuits k) ≡ true → is_open_there y.side k ≡ true → HasArrived k l entries y

-- where no packet is on the way to the peer
abbrev pub AllHaveArrived : Ranges → PeerJoined → Type 0
AllHaveArrived channels w = w.out ≡ [] → OpenHaveArrived w.near.layer w.near.entries w.peer

-- our layer neither sends the peer an error of procedure nor tells its user of one
abbrev pub FindsNoError : Ranges → PeerJoined → Type 0
FindsNoError channels w = IsQuietEnd channels w.near

-- Our layer is an end that keeps the rules: with the peer it is reached as any two such ends are, it counts as the
-- layer does, its user was told the messages that it took, and its interrupts and calls are those of that user.
pub record IsEnd (r : Role) (channels : Ranges) (w : PeerJoined) : Type 0 where
  pub end : At PeerChannels
  pub reached : two.IsReached r (record {
    near = end;
    far = w.peer;
    out = bare_layers channels.message w.out;
    back = bare_layers channels.message w.back;
  })
  pub names : (k : ℕ) → name_of w.near.layer k ≡ peer_name end k
  pub messages : (k : ℕ) → (messages_in (under k (peer_name end k) w.near.entries)).up
      ≡ carried (peer_stretch end k).taken
  pub interrupts : (k : ℕ) → interrupts_in (under k (peer_name end k) w.near.entries)
      ≡ record { down = (peer_stretch end k).int_down; up = (peer_stretch end k).int_up }
  pub calls : (k : ℕ) → calls_in (under k (of_call (peer_name end k)) w.near.entries)
      ≡ record { down = (peer_call end k).made; up = (peer_call end k).indicated }

abbrev pub LayersAreEnds : Type 0
LayersAreEnds =
    (r : Role) (long_data : Bool) (channels : Ranges) (w : PeerJoined) → IsReached r long_data channels w
    → IsEnd r channels w
