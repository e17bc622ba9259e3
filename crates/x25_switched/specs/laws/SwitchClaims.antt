-- What holds of a switch between two lines.
use Rattle.std.specs.Prelude.{◌≡◌, ◌≤◌, [], length, true}
use Rattle.x25_circuit.specs.{Message.{carried}, Circuit.{Circuit, is_open}}
use Rattle.x25_handshakes.specs.{laws.Histories.{IsPrefix}}
use Rattle.x25_handshakes.specs.laws.PeerStretch.{PeerStretch}
use Rattle.x25_layer.specs.laws.{Transcript.{name_of}, PeerClaims.{peer_stretch, peer_name}}
use Rattle.x25_line.specs.{laws.Sessions.{Meeting}, laws.SessionClaims.{Each}}
use Rattle.x25_station.specs.Config.{Settings}
use Rattle.x25_peer.specs.laws.BesideSessions.{BesideSessions}
use Rattle.x25_switched.specs.laws.Switched.{Leg, Bond, Switched, waiting, ReachedThrough}

-- k is 1 to 7, and there are at most 4,095 channels
pub record AreAllowed (c : Settings) : Type 0 where
  pub some : 1 ≤ c.window
  pub few : c.window ≤ 7
  pub channels : c.channels.count ≤ 4095

abbrev pub ThroughTheSwitch : (Bond → Switched → Type 0) → Type 0
ThroughTheSwitch Holds =
    (c d : Settings) → AreAllowed c → AreAllowed d → (b : Bond) (s : Switched) → ReachedThrough c d b s → Holds b s

-- in the session of a line that meets one of the peer, both ends count the stretch of a leg alike
pub record CountAlike (w : BesideSessions) (leg : Leg) (m : Meeting) : Type 0 where
  pub session : m.near ≡ leg.session
  pub own : name_of (w.own m.near).station.layer leg.channel ≡ leg.name
  pub peer : peer_name (w.theirs m.far).layer leg.channel ≡ leg.name

-- that stretch of the peer, and the switch's circuit
abbrev pub there : BesideSessions → Leg → Meeting → PeerStretch
there w leg m = peer_stretch (w.theirs m.far).layer leg.channel

abbrev pub circuit : BesideSessions → Leg → Meeting → Circuit
circuit w leg m = (w.own m.near).station.layer.circuits leg.channel

-- of each two sessions that meet on the near line, and each two on the far line
abbrev pub OfEachTwo : (Bond → Switched → Meeting → Meeting → Type 0) → Bond → Switched → Type 0
OfEachTwo Holds b s =
    Each (λ (m : Meeting). Each (λ (n : Meeting). CountAlike s.near b.near m → CountAlike s.far b.far n
    → Holds b s m n) s.far.met) s.near.met

-- what the far peer took is a beginning of what the near peer's packets carry
abbrev pub ComesThrough : Type 0
ComesThrough =
    ThroughTheSwitch (OfEachTwo (λ (b : Bond) (s : Switched) (m n : Meeting).
    IsPrefix (carried (there s.far b.far n).taken) (carried (there s.near b.near m).sent)))

abbrev pub InterruptsComeThrough : Type 0
InterruptsComeThrough =
    ThroughTheSwitch (OfEachTwo (λ (b : Bond) (s : Switched) (m n : Meeting).
    IsPrefix (there s.far b.far n).int_up (there s.near b.near m).int_down))

-- all is acknowledged to the near peer, none waits in the switch, and of its open circuit all went and is acknowledged
pub record NoneIsLeft (b : Bond) (s : Switched) (m n : Meeting) : Type 0 where
  pub acknowledged : (there s.near b.near m).acked ≡ length (there s.near b.near m).sent
  pub waits : waiting b s ≡ []
  pub opened : is_open (circuit s.far b.far n) ≡ true
  pub went : (circuit s.far b.far n).talk.rest ≡ []
  pub taken : (circuit s.far b.far n).talk.acked ≡ length (circuit s.far b.far n).talk.sent

abbrev pub AllCameThrough : Type 0
AllCameThrough =
    ThroughTheSwitch (OfEachTwo (λ (b : Bond) (s : Switched) (m n : Meeting). NoneIsLeft b s m n
    → carried (there s.far b.far n).taken ≡ carried (there s.near b.near m).sent))
