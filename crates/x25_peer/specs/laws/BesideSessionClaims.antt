-- What holds of a station and any peer over set-up and re-set-up at any moment.
use Rattle.std.specs.Prelude.{◌≡◌, ◌⊎◌, ℕ, ◌≤◌, [], length, true}
use Rattle.x25_link.specs.{Station.{is_up}, Link.{is_idle}}
use Rattle.x25_line.specs.{laws.Sessions.{Meeting}, laws.SessionClaims.{Each, SomeMet, InStep}}
use Rattle.x25_line.specs.laws.PeerSessions.{In, now}
use Rattle.x25_handshakes.specs.{laws.Handshake.{At}, laws.PeerLayer.{PeerChannels}}
use Rattle.x25_layer.specs.{laws.Transcript.{name_of}, laws.Quiet.{AreNoFaults}}
use Rattle.x25_layer.specs.laws.PeerClaims.{peer_call, peer_stretch, peer_name, of_call, StretchIsInOrder}
use Rattle.x25_layer.specs.laws.PeerClaims.{CallIsInOrder, OpenHaveArrived}
use Rattle.x25_station.specs.{Config.{Settings}, Entry.{layer_entries, layer_notices}}
use Rattle.x25_peer.specs.laws.BesideSessions.{Own, BesideSessions, their_now, their_layer, ReachedBeside}

-- k is 1 to 7, and there are at most 4,095 channels
abbrev pub WithAnyPeer : (BesideSessions → Type 0) → Type 0
WithAnyPeer Holds =
    (c : Settings) → 1 ≤ c.window → c.window ≤ 7 → c.channels.count ≤ 4095 → (w : BesideSessions) → ReachedBeside c w
    → Holds w

-- sessions meet one to one, and in order at both ends
abbrev pub MeetInStep : BesideSessions → Type 0
MeetInStep w = InStep w.met

-- Of a session of the station and one of the peer, on a channel, where both ends count alike there: of a call where
-- that is so of restarts and clears, and of a stretch where it is so of resets too.
pub record IsInOrder (k : ℕ) (own : Own) (layer : At PeerChannels) : Type 0 where
  pub calls : of_call (name_of own.station.layer k) ≡ of_call (peer_name layer k)
      → CallIsInOrder k (name_of own.station.layer k) (layer_entries own.entries) (peer_call layer k)
  pub stretch : name_of own.station.layer k ≡ peer_name layer k
      → StretchIsInOrder k (name_of own.station.layer k) (layer_entries own.entries) (own.station.layer.circuits k)
      (peer_stretch layer k)

-- so of each two sessions that meet, on each channel
abbrev pub MetAreInOrder : BesideSessions → Type 0
MetAreInOrder w = Each (λ (m : Meeting). (k : ℕ) → IsInOrder k (w.own m.near) (w.theirs m.far).layer) w.met

-- the peer's packet layer took all that its link took in the latest session
pub record TookAll (w : BesideSessions) : Type 0 where
  pub heard : (their_now w).heard ≡ length (now w.peer).taken
  pub passed : (their_now w).passed ≡ []

-- Where the station's link is idle, and the peer is in a session or met the station's, and its packet layer took all:
-- of each stretch that is open at both ends.
abbrev pub IdleHasArrived : BesideSessions → Type 0
IdleHasArrived w = is_idle w.near.link ≡ true
    → (w.peer.stand ≡ In) ⊎ SomeMet (λ (m : Meeting). m.near ≡ w.begun) w.met → TookAll w
    → OpenHaveArrived w.near.layer (layer_entries (w.own w.begun).entries) (their_layer w)

-- in a session that meets none nothing is reported to the user, and the peer's layer takes nothing
pub record UnmetAreToldNothing (w : BesideSessions) : Type 0 where
  pub near : (n : ℕ) → (layer_notices (w.own n).entries ≡ []) ⊎ SomeMet (λ (m : Meeting). m.near ≡ n) w.met
  pub peer : (n : ℕ) → ((w.theirs n).heard ≡ 0) ⊎ SomeMet (λ (m : Meeting). m.far ≡ n) w.met

-- the session of an end that is in one meets no other than the latest of the other end
pub record EachMeetsLatest (w : BesideSessions) : Type 0 where
  pub near : is_up w.near.link.phase ≡ true
      → Each (λ (m : Meeting). m.near ≡ w.begun → m.far ≡ w.peer.begun) w.met
  pub peer : w.peer.stand ≡ In → Each (λ (m : Meeting). m.far ≡ w.peer.begun → m.near ≡ w.begun) w.met

-- where the link is up, what is known of the latest session of the station is the station as it is
abbrev pub UpIsLatest : BesideSessions → Type 0
UpIsLatest w = is_up w.near.link.phase ≡ true → (w.own w.begun).station ≡ w.near

-- the station reports no error of procedure, in no session
abbrev pub FindsNoError : BesideSessions → Type 0
FindsNoError w = (n : ℕ) → AreNoFaults (layer_notices (w.own n).entries)
