-- What holds of two link stations and the line between them after each list of events, over set-up and re-set-up at any
-- moment.
use Rattle.std.specs.{Prelude.{◌≡◌, ◌≤◌, ◌<◌, ◌⊎◌, ℕ, zero, suc, true, List, [], ◌∷◌, ◌++◌, None}, List.{Contains}}
use Rattle.x25_bits.specs.declared.role.Role.{Role}
use Rattle.x25_frame.specs.{Frame.{PlainFrame}, Reading.{frame_of}}
use Rattle.x25_link.specs.{Station.{LinkSettings, is_up}, Hearing.{other}, Link.{is_idle}}
use Rattle.x25_line.specs.laws.InWindow.{IsPrefix}
use Rattle.x25_line.specs.laws.Stations.{StationEnd, Stations, LinkEvent, start, run as run_alone}
use Rattle.x25_line.specs.laws.StationClaims.{AreJoined, BothInOrder, BothHaveTheirLists, AreInWindow, NoFrmr}
use Rattle.x25_line.specs.laws.StationClaims.{NoFrmrSent, AreWhole, AllSentAreWhole, number_in, numbered_on}
pub use Rattle.x25_line.specs.laws.StationClaims.{Each}
use Rattle.x25_line.specs.laws.Sessions.{Entry, SessionEnd, Meeting, Sessions, run, IsStart, from_set_up}
use Rattle.x25_line.specs.laws.Sessions.{AreTimely, swapped}

-- what holds after each list of events, from nothing and from a link just set up, where timer T1 is timely
abbrev pub Throughout : (LinkSettings → LinkSettings → Sessions → Type 0) → Type 0
Throughout Holds =
    (c d : LinkSettings) → AreJoined c d → (begin : Sessions) → IsStart begin
    → (events : List LinkEvent) → AreTimely c d events begin → Holds c d (run c d events begin)

abbrev pub SomeMet : (Meeting → Type 0) → List Meeting → Type 0
SomeMet P [] = ⊥
SomeMet P (m ∷ ms) = P m ⊎ SomeMet P ms

-- ---- sessions meet in step

-- the same two sessions again, or a later one of each end
abbrev pub IsNoEarlier : Meeting → Meeting → Type 0
IsNoEarlier m n = ((n.near ≡ m.near) × (n.far ≡ m.far)) ⊎ ((n.near < m.near) × (n.far < m.far))

abbrev pub IsAbove : Meeting → List Meeting → Type 0
IsAbove m [] = Unit {0}
IsAbove m (n ∷ ms) = IsNoEarlier m n

abbrev pub InStep : List Meeting → Type 0
InStep [] = Unit {0}
InStep (m ∷ ms) = IsAbove m ms × InStep ms

-- Sessions meet one to one, and in order at both ends: an end hears one session of the other alone, while its own
-- stands.
abbrev pub MeetInStep : LinkSettings → LinkSettings → Sessions → Type 0
MeetInStep c d w = InStep w.met

-- ---- order

-- what was handed up in a session is a beginning of what was handed down in the one that it meets
pub record IsInOrder (near far : SessionEnd) (m : Meeting) : Type 0 where
  pub there : IsPrefix (far.up m.far) (near.down m.near)
  pub back : IsPrefix (near.up m.near) (far.down m.far)

abbrev pub MetAreInOrder : LinkSettings → LinkSettings → Sessions → Type 0
MetAreInOrder c d w = Each (IsInOrder w.near w.far) w.met

-- a session that meets none hands nothing up
pub record UnmetHandNothingUp (c d : LinkSettings) (w : Sessions) : Type 0 where
  pub near : (n : ℕ) → (w.near.up n ≡ []) ⊎ SomeMet (λ (m : Meeting). m.near ≡ n) w.met
  pub far : (n : ℕ) → (w.far.up n ≡ []) ⊎ SomeMet (λ (m : Meeting). m.far ≡ n) w.met

-- sessions that meet were begun, and none that isn't begun has lists
pub record OnlyBegunHaveLists (c d : LinkSettings) (w : Sessions) : Type 0 where
  pub met : Each (λ (m : Meeting). (m.near ≤ w.near.begun) × (m.far ≤ w.far.begun)) w.met
  pub near : (n : ℕ) → w.near.begun < n → (w.near.down n ≡ []) × (w.near.up n ≡ [])
  pub far : (n : ℕ) → w.far.begun < n → (w.far.down n ≡ []) × (w.far.up n ≡ [])

-- ---- the session that stands

abbrev pub octets_of : List Entry → List (List ℕ)
octets_of [] = []
octets_of (e ∷ es) = e.octets ∷ octets_of es

-- each frame with an N(R) was sent in this session
abbrev pub AllOf : Role → ℕ → ℕ → List Entry → Type 0
AllOf from n1 session es =
    Each (λ (e : Entry). (number_in (frame_of from n1 e.octets) ≡ None) ⊎ (e.session ≡ session)) es

-- two stations of a link that was set up once
pub record IsSession (c d : LinkSettings) (v : Stations) : Type 0 where
  pub order : BothInOrder c d v
  pub lists : BothHaveTheirLists c d v
  pub window : AreInWindow c d v
  pub no_frmr : NoFrmrSent c d v
  pub whole : AllSentAreWhole c d v

-- the other end is in its session too, and the frames with an N(R) on the line to it are theirs
pub record OtherEndStands (d : LinkSettings) (w : Sessions) (alone : Stations) (other_session : ℕ) : Type 0 where
  pub station : alone.far.station ≡ w.far.station
  pub session : other_session ≡ w.far.begun
  pub line : numbered_on (other d.role) d.longest (octets_of w.out) ≡ numbered_on (other d.role) d.longest alone.out
  pub of_session : AllOf (other d.role) d.longest w.near.begun w.out

-- The session of an end that is Up, and the one of the other end that it meets or is to meet, by themselves: they are
-- those of a link that was set up once. All frames with an N(R) on the line to that end are theirs. Where the other end
-- is Up too, these are the sessions of both, with both stations and both lines.
pub record Stands (c d : LinkSettings) (w : Sessions) : Type 0 where
  pub alone : Stations
  pub session : IsSession c d alone
  pub other_session : ℕ
  pub station : alone.near.station ≡ w.near.station
  pub down : alone.near.down ≡ w.near.down w.near.begun
  pub up : alone.near.up ≡ w.near.up w.near.begun
  pub far_down : alone.far.down ≡ w.far.down other_session
  pub far_up : alone.far.up ≡ w.far.up other_session
  pub line : numbered_on (other c.role) c.longest (octets_of w.back) ≡ numbered_on (other c.role) c.longest alone.back
  pub of_session : AllOf (other c.role) c.longest other_session w.back
  pub both : is_up w.far.station.phase ≡ true → OtherEndStands d w alone other_session

pub record EachUpStands (c d : LinkSettings) (w : Sessions) : Type 0 where
  pub near : is_up w.near.station.phase ≡ true → Stands c d w
  pub far : is_up w.far.station.phase ≡ true → Stands d c (swapped w)

-- ---- the latest sessions

-- where an end is Up, each frame with an N(R) on the line to it was sent in the latest session of the other end
pub record EachHearsLatest (c d : LinkSettings) (w : Sessions) : Type 0 where
  pub near : is_up w.near.station.phase ≡ true → AllOf (other c.role) c.longest w.far.begun w.back
  pub far : is_up w.far.station.phase ≡ true → AllOf (other d.role) d.longest w.near.begun w.out

-- the session of an end that is Up meets no other than the latest of the other end
pub record EachMeetsLatest (c d : LinkSettings) (w : Sessions) : Type 0 where
  pub near : is_up w.near.station.phase ≡ true
      → Each (λ (m : Meeting). m.near ≡ w.near.begun → m.far ≡ w.far.begun) w.met
  pub far : is_up w.far.station.phase ≡ true → Each (λ (m : Meeting). m.far ≡ w.far.begun
      → m.near ≡ w.near.begun) w.met

-- Where an end is idle, and the other is Up too or met its session, all that was handed down in this session was handed
-- up in the latest session of the other.
pub record IdleHasArrived (c d : LinkSettings) (w : Sessions) : Type 0 where
  pub near : is_idle w.near.station ≡ true → (is_up w.far.station.phase ≡ true)
      ⊎ SomeMet (λ (m : Meeting). m.near ≡ w.near.begun) w.met → w.far.up w.far.begun ≡ w.near.down w.near.begun
  pub far : is_idle w.far.station ≡ true → (is_up w.near.station.phase ≡ true)
      ⊎ SomeMet (λ (m : Meeting). m.far ≡ w.far.begun) w.met → w.near.up w.near.begun ≡ w.far.down w.far.begun

-- ---- no fault is ever found

abbrev pub NoSessionSendsFrmr : LinkSettings → LinkSettings → Sessions → Type 0
NoSessionSendsFrmr c d w = NoFrmr w.sent

-- ---- each frame ever sent is whole

-- each may be spelled, and the packet of an I frame is one that was handed down in a session of one of the ends
pub record AreWholeIn (n1 : ℕ) (near far : SessionEnd) (frames : List PlainFrame) : Type 0 where
  pub given : List (List ℕ)
  pub handed_down : (packet : List ℕ) → Contains given packet → ((n : ℕ) × Contains (near.down n) packet)
      ⊎ ((n : ℕ) × Contains (far.down n) packet)
  pub whole : AreWhole n1 given frames

abbrev pub AllSessionsSendWhole : LinkSettings → LinkSettings → Sessions → Type 0
AllSessionsSendWhole c d w = AreWholeIn c.longest w.near w.far w.sent

-- ---- with the sessions forgotten

-- what was handed down or up in all sessions up to this one
abbrev pub all_of : (ℕ → List (List ℕ)) → ℕ → List (List ℕ)
all_of lists zero = lists zero
all_of lists (suc n) = all_of lists n ++ lists (suc n)

-- the end of all its sessions, of which none has lists before it begins
pub record IsEndOf (e : SessionEnd) (v : StationEnd) : Type 0 where
  pub station : v.station ≡ e.station
  pub down : v.down ≡ all_of e.down e.begun
  pub up : v.up ≡ all_of e.up e.begun
  pub later_down : (n : ℕ) → e.begun < n → e.down n ≡ []
  pub later_up : (n : ℕ) → e.begun < n → e.up n ≡ []

pub record AreStationsOf (w : Sessions) (v : Stations) : Type 0 where
  pub near : IsEndOf w.near v.near
  pub far : IsEndOf w.far v.far
  pub out : v.out ≡ octets_of w.out
  pub back : v.back ≡ octets_of w.back
  pub sent : v.sent ≡ w.sent

-- the same events of the two stations by themselves do the same
abbrev pub SessionsAreStations : Type 0
SessionsAreStations = (c d : LinkSettings) (events : List LinkEvent) (w : Sessions) (v : Stations) → AreStationsOf w v
    → AreStationsOf (run c d events w) (run_alone c d events v)

-- a link that was just set up is the start of two stations
abbrev pub SetUpIsTheStart : Type 0
SetUpIsTheStart = AreStationsOf from_set_up start
