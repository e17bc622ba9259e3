-- What holds of two link stations and the line between them after each list of events, as long as the link isn't set up
-- anew.
use Rattle.std.specs.Prelude.{◌≡◌, ℕ, ◌≤◌, Bool, true, false, ◌||◌, if◌then◌else◌, List, [], ◌∷◌, ◌++◌, length, take}
use Rattle.std.specs.{Prelude.{replicate, Option, Some, None, option_to_list, Result, Ok, Err}, List.{Contains}}
use Rattle.x25_bits.specs.declared.role.Role.{Role}
use Rattle.x25_frame.specs.Frame.{PlainFrame, info, rr, rnr, rej, frmr}
use Rattle.x25_frame.specs.{Spelling.{information_of, IsInRange, MayCarry, IsWithin}, Reading.{frame_of}}
use Rattle.x25_frame.specs.declared.error.FrameError.{FrameError}
use Rattle.x25_window.specs.laws.Window.{End, fresh_end}
use Rattle.x25_link.specs.{declared.phase.Reason.{Reason}, declared.phase.Reason.TheVariants.{Retries}}
use Rattle.x25_link.specs.{Station.{LinkSettings, LinkStation, is_up, lists_of, no_packets}, Hearing.{other}}
use Rattle.x25_link.specs.{Link.{connect_refusal, is_idle}, laws.WindowMachine.{ShowAll}, laws.WindowLaw.{window_of}}
use Rattle.x25_line.specs.laws.InWindow.{InWindow, IsPrefix}
use Rattle.x25_line.specs.laws.Line.{Line, Move, AllowsMove, moved, line_swapped}
use Rattle.x25_line.specs.laws.Stations.{StationEnd, Stations, Act, Put, Deliver, Connect, LinkEvent, Near, Far}
use Rattle.x25_line.specs.laws.Stations.{happens, run, start, stations_swapped}

-- the two ends of one link: one is the DTE and one the DCE, both with the same N1 and k from 1 to 7
pub record AreJoined (c d : LinkSettings) : Type 0 where
  pub near_role : other d.role ≡ c.role
  pub far_role : other c.role ≡ d.role
  pub longest : c.longest ≡ d.longest
  pub near_low : 1 ≤ c.window
  pub near_high : c.window ≤ 7
  pub far_low : 1 ≤ d.window
  pub far_high : d.window ≤ 7

-- Neither end noted LinkUp, so that the link is the one that was just set up at the start. What an end noted stays, so
-- it was so all along.
pub record IsSetUpOnce (w : Stations) : Type 0 where
  pub near : w.near.came_up ≡ false
  pub far : w.far.came_up ≡ false

-- what holds after each list of events, as long as the link isn't set up anew
abbrev pub Always : (LinkSettings → LinkSettings → Stations → Type 0) → Type 0
Always Holds = (c d : LinkSettings) → AreJoined c d → (events : List LinkEvent) → IsSetUpOnce (run c d events start)
    → Holds c d (run c d events start)

abbrev pub Each : {T : Type 0} → (T → Type 0) → List T → Type 0
Each P [] = Unit {0}
Each P (x ∷ xs) = P x × Each P xs

-- ---- order

-- From one end to the other: what was handed up is a beginning of what was handed down, what is acknowledged was handed
-- up, and all was where the giver is idle.
pub record InOrder (giver taker : StationEnd) : Type 0 where
  pub begins : IsPrefix taker.up giver.down
  pub acked : IsPrefix (take giver.station.outgoing.acked giver.down) taker.up
  pub idle : is_idle giver.station ≡ true → taker.up ≡ giver.down

abbrev pub BothInOrder : LinkSettings → LinkSettings → Stations → Type 0
BothInOrder c d w = InOrder w.near w.far × InOrder w.far w.near

-- a station that is Up has the lists that were handed down and up, and any other has empty lists
pub record HasItsLists (e : StationEnd) : Type 0 where
  pub given : is_up e.station.phase ≡ true → e.station.outgoing.given ≡ e.down
  pub taken : is_up e.station.phase ≡ true → e.station.taken ≡ e.up
  pub empty : is_up e.station.phase ≡ false → lists_of e.station ≡ no_packets

abbrev pub BothHaveTheirLists : LinkSettings → LinkSettings → Stations → Type 0
BothHaveTheirLists c d w = HasItsLists w.near × HasItsLists w.far

-- An end that is Up has noted nothing. Any other has noted the LinkDown by which it left Up, and then one for want of
-- an answer, each time that it asked for set-up in vain.
pub record NotesItsEnd (e : StationEnd) : Type 0 where
  pub still_up : is_up e.station.phase ≡ true → e.reasons ≡ []
  pub left : is_up e.station.phase ≡ false → (reason : Reason) × (again : ℕ)
      × (e.reasons ≡ reason ∷ replicate again Retries)

abbrev pub BothNoteTheirEnds : LinkSettings → LinkSettings → Stations → Type 0
BothNoteTheirEnds c d w = NotesItsEnd w.near × NotesItsEnd w.far

-- ---- where no end connects

abbrev pub AcceptsNoConnect : Act → LinkStation → Type 0
AcceptsNoConnect Connect s = connect_refusal s.phase ≡ None → ⊥
AcceptsNoConnect act s = Unit {0}

abbrev pub AcceptsNoConnectAt : LinkEvent → LinkStation → LinkStation → Type 0
AcceptsNoConnectAt (Near act) near far = AcceptsNoConnect act near
AcceptsNoConnectAt (Far act) near far = AcceptsNoConnect act far

-- each Connect of a list is refused where it comes
abbrev pub NoneConnects : LinkSettings → LinkSettings → List LinkEvent → Stations → Type 0
NoneConnects c d [] w = Unit {0}
NoneConnects c d (e ∷ es) w = AcceptsNoConnectAt e w.near.station w.far.station × NoneConnects c d es (happens c d e w)

-- the link isn't set up anew, and each end leaves Up once at most and notes no LinkDown after that
pub record IsOneLink (w : Stations) : Type 0 where
  pub once : IsSetUpOnce w
  pub near : length w.near.reasons ≤ 1
  pub far : length w.far.reasons ≤ 1

-- what holds after each list of events of which none is an accepted Connect
abbrev pub OneLinkUnlessConnected : Type 0
OneLinkUnlessConnected = (c d : LinkSettings) → AreJoined c d → (events : List LinkEvent)
    → NoneConnects c d events start
    → IsOneLink (run c d events start)

-- ---- the window

-- the frame that octets spell, where it carries an N(R)
abbrev pub number_in : Result PlainFrame FrameError → Option PlainFrame
number_in (Ok (info ns nr p packet)) = Some (info ns nr p packet)
number_in (Ok (rr command nr pf)) = Some (rr command nr pf)
number_in (Ok (rnr command nr pf)) = Some (rnr command nr pf)
number_in (Ok (rej command nr pf)) = Some (rej command nr pf)
number_in (Ok frame) = None
number_in (Err e) = None

-- the frames with an N(R) among the octets from an end in this role
abbrev pub numbered_on : Role → ℕ → List (List ℕ) → List PlainFrame
numbered_on from n1 [] = []
numbered_on from n1 (octets ∷ line) = option_to_list (number_in (frame_of from n1 octets)) ++ numbered_on from n1 line

-- what the window machine reaches from the link just set up, by moves of either end that it allows
pub data MachineReaches (k j : ℕ) : Line (List ℕ) → Type 0 where
  at_start : MachineReaches k j (record { near = fresh_end k; far = fresh_end j; out = []; back = [] })
  near_moves : (l : Line (List ℕ)) (move : Move (List ℕ)) → MachineReaches k j l → AllowsMove l move
      → MachineReaches k j (moved move l)
  far_moves : (l : Line (List ℕ)) (move : Move (List ℕ)) → MachineReaches k j l → AllowsMove (line_swapped l) move
      → MachineReaches k j (line_swapped (moved move (line_swapped l)))

-- an end of the window machine has the lists of a station, and its numbers where that is Up
pub record IsEndOf (k : ℕ) (e : StationEnd) (machine : End (List ℕ)) : Type 0 where
  pub given : e.down ≡ machine.given
  pub taken : e.up ≡ machine.taken
  pub numbers : is_up e.station.phase ≡ true → window_of k e.station ≡ machine

-- the window machine with the whole numbers behind the N(S)s and N(R)s on the line, and its window
pub record IsBehind (c d : LinkSettings) (w : Stations) (l : Line (List ℕ)) : Type 0 where
  pub reached : MachineReaches c.window d.window l
  pub near : IsEndOf c.window w.near l.near
  pub far : IsEndOf d.window w.far l.far
  pub out : ShowAll (numbered_on (other d.role) d.longest w.out) l.out
  pub back : ShowAll (numbered_on (other c.role) c.longest w.back) l.back
  pub window : InWindow l

abbrev pub AreInWindow : LinkSettings → LinkSettings → Stations → Type 0
AreInWindow c d w = (l : Line (List ℕ)) × IsBehind c d w l

-- ---- no fault is ever found

abbrev pub NoFrmr : List PlainFrame → Type 0
NoFrmr [] = Unit {0}
NoFrmr (frmr f why ∷ frames) = ⊥
NoFrmr (frame ∷ frames) = NoFrmr frames

abbrev pub NoFrmrSent : LinkSettings → LinkSettings → Stations → Type 0
NoFrmrSent c d w = NoFrmr w.sent

-- ---- each frame ever sent is whole

-- the packet of an I frame was handed down
abbrev pub IsHandedDown : List (List ℕ) → PlainFrame → Type 0
IsHandedDown given (info ns nr p packet) = Contains given packet
IsHandedDown given frame = Unit {0}

-- it may be spelled, so that its octets read as the frame
pub record IsWhole (n1 : ℕ) (given : List (List ℕ)) (frame : PlainFrame) : Type 0 where
  pub in_range : IsInRange frame
  pub carries : MayCarry frame (information_of frame)
  pub within : IsWithin n1 frame (information_of frame)
  pub packet : IsHandedDown given frame

abbrev pub AreWhole : ℕ → List (List ℕ) → List PlainFrame → Type 0
AreWhole n1 given frames = Each (IsWhole n1 given) frames

abbrev pub AllSentAreWhole : LinkSettings → LinkSettings → Stations → Type 0
AllSentAreWhole c d w = AreWhole c.longest (w.near.down ++ w.far.down) w.sent

-- ---- what one event hands up and down, and what it notes

-- at most one packet is handed up, and only as octets come
abbrev pub HandsUp : Act → List (List ℕ) → List (List ℕ) → Type 0
HandsUp Deliver old new = (packet : Option (List ℕ)) × (new ≡ old ++ option_to_list packet)
HandsUp act old new = new ≡ old

-- only the packet that is put is handed down, or it is refused
abbrev pub HandsDown : Act → List (List ℕ) → List (List ℕ) → Type 0
HandsDown (Put packet) old new = (accepted : Bool) × (new ≡ if accepted then old ++ packet ∷ [] else old)
HandsDown act old new = new ≡ old

-- LinkUp is noted only as octets come, and what was noted stays
abbrev pub NotesUp : Act → Bool → Bool → Type 0
NotesUp Deliver old new = (up : Bool) × (new ≡ (old || up))
NotesUp act old new = new ≡ old

pub record HandsOne (act : Act) (w v : Stations) : Type 0 where
  pub up : HandsUp act w.near.up v.near.up
  pub down : HandsDown act w.near.down v.near.down
  pub came_up : NotesUp act w.near.came_up v.near.came_up
  pub far : v.far ≡ w.far

abbrev pub HandsOneAt : LinkEvent → Stations → Stations → Type 0
HandsOneAt (Near act) w v = HandsOne act w v
HandsOneAt (Far act) w v = HandsOne act (stations_swapped w) (stations_swapped v)

abbrev pub EachEventHandsOne : Type 0
EachEventHandsOne = (c d : LinkSettings) (event : LinkEvent) (w : Stations) → HandsOneAt event w (happens c d event w)
