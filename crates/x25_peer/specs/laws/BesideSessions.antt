-- A station and any peer, link and packet layer, over a line of octets that keeps order and may lose or visibly damage
-- any frame (profile: the line), set up and set up again by either end at any moment. A session of the station begins
-- as it notes LinkUp, one of the peer by its rules of set-up, and each lasts until the next begins; with each its
-- packet layer begins anew. docs/PEER.md has the peer's rules.
use Rattle.std.specs.Prelude.{◌≡◌, ℕ, suc, ◌==◌, if◌then◌else◌, List, [], ◌∷◌, ◌++◌, drop, Result, Ok}
use Rattle.x25_frame.specs.Reading.{frame_of}
use Rattle.x25_packet.specs.{Packet.{PlainPacket}, Spelling.{longest_user}, Taking.{read_in}}
use Rattle.x25_packet.specs.declared.error.PacketError.{PacketError}
use Rattle.x25_given.specs.Given.{PlainGiven}
use Rattle.x25_link.specs.{declared.phase.Phase.TheVariants.{Waiting}, Station.{fresh, is_up}, Hearing.{other}}
use Rattle.x25_line.specs.{laws.Said.{said}, laws.Peer.{fresh_peer}, laws.Loss.{Less}}
use Rattle.x25_line.specs.laws.Sessions.{Entry, Meeting, meets, sent_in, begun_by}
use Rattle.x25_line.specs.laws.PeerSessions.{PeerEnd, PeerSessions, Out, In, now, with_now, IsDue, IsSeenIn}
use Rattle.x25_line.specs.laws.PeerSessions.{PeerHappens}
use Rattle.x25_handshakes.specs.{laws.Handshake.{At, live}, laws.PeerLayer.{PeerChannels, peer_fresh}}
use Rattle.x25_layer.specs.{Layer.{goes_up}, Calls.{LayerRequest}, laws.PeerJoined.{PeerMoves}}
use Rattle.x25_station.specs.Config.{Settings, longest_packet, link_settings, layer_settings}
use Rattle.x25_station.specs.{Entry.{StationEntry}, Station.{Station, new_station}}
use Rattle.x25_station.specs.Step.{Step, Did, abandons, link_receives, receives, fires, requests, gives}
use Rattle.x25_station.specs.Step.{connects_asked, disconnects, probes, relinks}
use Rattle.x25_station.specs.{laws.GivenLaw.{GivesOctets}, laws.ReadLaw.{RequestsOctets}}

-- of a session of the station: the station, as it is or was last while the link is or was up in it, and the transcript
pub record Own : Type 0 where
  pub station : Station
  pub entries : List StationEntry

-- of a session of the peer: its packet layer, how many of the packets that its link took in it came to that, and those
-- of them that wait
pub record Theirs : Type 0 where
  pub layer : At PeerChannels
  pub heard : ℕ
  pub passed : List PlainPacket

-- The station, how many sessions it began, and what is known of each, by its number, the first being 1; the peer's
-- link, and its packet layer in each of its sessions; the line from the station and the line to it, front first; and
-- who heard whom, the latest first, the station's sessions being the near ones.
pub record BesideSessions : Type 0 where
  pub near : Station
  pub begun : ℕ
  pub own : ℕ → Own
  pub peer : PeerEnd
  pub theirs : ℕ → Theirs
  pub out : List Entry
  pub back : List Entry
  pub met : List Meeting

-- each session begins so: the station's layer with its RESTART, the peer's ready, and both with no call
abbrev pub own_anew : Settings → Own
own_anew c = record {
  station = record { link = fresh; layer = (goes_up (layer_settings c)).next; turn = 0 };
  entries = [];
}

abbrev pub theirs_anew : Theirs
theirs_anew = record { layer = live 0 peer_fresh; heard = 0; passed = [] }

-- nothing was set up yet
abbrev pub start : Settings → BesideSessions
start c = record {
  near = new_station;
  begun = 0;
  own = λ n. own_anew c;
  peer = record { stand = Out; begun = 0; of_session = λ n. fresh_peer };
  theirs = λ n. theirs_anew;
  out = [];
  back = [];
  met = [];
}

abbrev pub in_session : {A : Type 0} → ℕ → A → (ℕ → A) → ℕ → A
in_session session x all n = if n == session then x else all n

-- what a station of these settings reads octets as: in the form that it writes alone, or in any
abbrev pub read_by : Settings → List ℕ → Result PlainPacket PacketError
read_by c octets = read_in c.wide (longest_user c.long_data) octets

-- the octets of these packets, as they are read
abbrev pub ReadAs : Settings → List (List ℕ) → List PlainPacket → Type 0
ReadAs c [] [] = Unit {0}
ReadAs c (o ∷ os) (p ∷ ps) = (read_by c o ≡ Ok p) × ReadAs c os ps
ReadAs c os ps = ⊥

-- The links, a station and a peer as `PeerSessions` has them: what the station's was handed down and handed up in a
-- session it holds itself.
abbrev pub links : BesideSessions → PeerSessions
links w = record {
  near = record {
    station = w.near.link;
    begun = w.begun;
    down = λ n. (w.own n).station.link.outgoing.given;
    up = λ n. (w.own n).station.link.taken;
  };
  peer = w.peer;
  out = w.out;
  back = w.back;
  met = w.met;
}

-- ---- the station

-- what is known of a session once the station has stepped in it
abbrev pub own_after : Own → Step → Own
own_after o s = record {
  station = if is_up s.near.link.phase then s.near else o.station;
  entries = o.entries ++ s.entries;
}

-- it has stepped, in this session, and this is left on the line to it
abbrev pub stepped : Settings → BesideSessions → ℕ → List Entry → List Meeting → Step → BesideSessions
stepped c w session back met s = record w {
  near = s.near;
  begun = session;
  own = in_session session (own_after (w.own session) s) w.own;
  out = w.out ++ sent_in session c.role s.out;
  back = back;
  met = met;
}

-- it has stepped of its own accord
abbrev pub acted : Settings → BesideSessions → Step → BesideSessions
acted c w s = stepped c w w.begun w.back w.met s

-- who is met as octets come to it: where its link is up, and isn't left, who sent a frame with an N(R)
abbrev pub met_by : Settings → BesideSessions → Entry → List Meeting
met_by c w e = if abandons c w.near then w.met
    else if is_up w.near.link.phase then meets (said (frame_of (other c.role) longest_packet e.octets))
    (record { near = w.begun; far = e.session }) w.met
    else w.met

-- it has taken the front octets, and this is left: by LinkUp a session begins
abbrev pub took : Settings → BesideSessions → Entry → List Entry → BesideSessions
took c w e rest = stepped c w (begun_by (link_receives c w.near e.octets).notes.up w.begun) rest (met_by c w e)
    (receives c w.near e.octets)

-- The station acts, by the definition that it meets call by call: a call of the user, pulls among them, without or
-- with something given beside its packet; that the link be set up, disconnected, polled, or set up anew; timer T1
-- runs out, while UA is awaited where it is due; the front octets come.
pub data StationDoes (c : Settings) (w : BesideSessions) : BesideSessions → Type 0 where
  Asks : (request : LayerRequest) (step : Step) → RequestsOctets request → requests c w.near request ≡ Did step
      → StationDoes c w (acted c w step)
  AsksWith : (given : PlainGiven) (request : LayerRequest) (step : Step) → GivesOctets given → RequestsOctets request
      → gives c w.near given request ≡ Did step → StationDoes c w (acted c w step)
  Connects : (step : Step) → connects_asked c w.near ≡ Did step → StationDoes c w (acted c w step)
  Disconnects : (step : Step) → disconnects c w.near ≡ Did step → StationDoes c w (acted c w step)
  Probes : (step : Step) → probes c w.near ≡ Did step → StationDoes c w (acted c w step)
  Relinks : (step : Step) → relinks c w.near ≡ Did step → StationDoes c w (acted c w step)
  Fires : (step : Step) → fires c w.near ≡ Did step
      → (w.near.link.phase ≡ Waiting → IsDue (link_settings c) (links w)) → StationDoes c w (acted c w step)
  Takes : (e : Entry) (rest : List Entry) → w.back ≡ e ∷ rest → StationDoes c w (took c w e rest)

-- ---- the peer

-- packets go down to its link
abbrev pub handed_down : List (List ℕ) → PeerEnd → PeerEnd
handed_down all p = with_now (record (now p) { given = (now p).given ++ all }) p

abbrev pub their_now : BesideSessions → Theirs
their_now w = w.theirs w.peer.begun

abbrev pub their_layer : BesideSessions → At PeerChannels
their_layer w = (their_now w).layer

-- it goes on to this in the latest session, and puts these octets
abbrev pub layer_went : BesideSessions → Theirs → List (List ℕ) → BesideSessions
layer_went w t all = record w { theirs = in_session w.peer.begun t w.theirs; peer = handed_down all w.peer }

-- what may happen at the peer, and on the line
pub data Elsewhere (c : Settings) (w : BesideSessions) : BesideSessions → Type 0 where
  -- octets on the line to the station are lost, or others come in their place
  Loses : (back : List Entry) → Less IsSeenIn w.back back → Elsewhere c w (record w { back = back })
  -- of the peer's link, and of the line to it
  Links : (v : PeerSessions) → PeerHappens (Unit {0}) (link_settings c) (links w) v
      → Elsewhere c w (record w { peer = v.peer; out = v.out; back = v.back; met = v.met })
  -- in a session, the next packet that its link took in it comes to its packet layer, as it is read
  Comes : (p : PlainPacket) (octets : List ℕ) (rest : List (List ℕ)) → w.peer.stand ≡ In
      → drop (their_now w).heard (now w.peer).taken ≡ octets ∷ rest → read_by c octets ≡ Ok p
      → Elsewhere c w (layer_went w (record (their_now w) {
        heard = suc (their_now w).heard;
        passed = (their_now w).passed ++ p ∷ [];
      }) [])
  -- or its packet layer sends a packet, or takes one that came, and the octets of what it puts go down to its link
  LayerMoves : (y : At PeerChannels) (passed packets : List PlainPacket) (all : List (List ℕ)) → w.peer.stand ≡ In
      → PeerMoves c.role c.channels (their_layer w) (their_now w).passed y passed packets → ReadAs c all packets
      → Elsewhere c w (layer_went w (record (their_now w) { layer = y; passed = passed }) all)

-- what is reached, event by event, with these settings of the station
pub data ReachedBeside (c : Settings) : BesideSessions → Type 0 where
  at_start : ReachedBeside c (start c)
  here : (w v : BesideSessions) → ReachedBeside c w → StationDoes c w v → ReachedBeside c v
  elsewhere : (w v : BesideSessions) → ReachedBeside c w → Elsewhere c w v → ReachedBeside c v
