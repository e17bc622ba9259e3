-- The window machine behind the two sessions that stand, as it goes on from event to event over set-up and re-set-up. A
-- frame is given its whole numbers as it is put on the line, and keeps them as long as it is there. ITU-T X.25 (10/96),
-- sections 2.3.2, 2.4.4 and 2.4.5.
use Rattle.std.specs.Prelude.{◌≡◌, ℕ, zero, suc, Bool, true, false, if◌then◌else◌, List, [], ◌∷◌, length}
use Rattle.std.specs.Prelude.{drop, Option, Some, None, Result, Ok, Err}
use Rattle.x25_bits.specs.declared.role.Role.{Role}
use Rattle.x25_frame.specs.{Frame.{PlainFrame, sabm}, Reading.{frame_of}, declared.error.FrameError.{FrameError}}
use Rattle.x25_link.specs.{declared.phase.Phase.{Phase}, declared.phase.Phase.TheVariants.{Waiting, Up, Closed}}
use Rattle.x25_link.specs.{Station.{LinkSettings, LinkStation, is_up}, Hearing.{other}}
use Rattle.x25_line.specs.{laws.Line.{Line, line_swapped}, laws.Stations.{Act, Deliver, LinkEvent, Near, Far}}
use Rattle.x25_line.specs.{laws.StationClaims.{AreJoined, IsBehind}, laws.Said.{said, ua_of}}
use Rattle.x25_line.specs.laws.WholeNumbers.{place_of, place_taken, machine_after, machine_at_start}
use Rattle.x25_line.specs.{laws.Sessions.{Entry, Sessions, acts, happens, run, swapped, IsStart}}
use Rattle.x25_line.specs.{laws.Sessions.{AreTimely}, laws.SessionClaims.{octets_of, Stands}}

-- a session of each end, and the window machine behind the two
pub record Standing : Type 0 where
  pub near : ℕ
  pub far : ℕ
  pub machine : Line (List ℕ)

abbrev pub turned : Standing → Standing
turned s = record { near = s.far; far = s.near; machine = line_swapped s.machine }

-- ---- two sessions begin

abbrev pub is_sabm : Result PlainFrame FrameError → Bool
is_sabm (Ok (sabm p)) = true
is_sabm (Ok frame) = false
is_sabm (Err e) = false

-- SABM comes to an end that doesn't await the answer to its DISC, so that it answers UA (section 2.4.4.1)
abbrev pub is_set_up : Phase → Result PlainFrame FrameError → Bool
is_set_up Closed read = false
is_set_up phase read = is_sabm read

abbrev pub front_sets_up : LinkSettings → Phase → List Entry → Bool
front_sets_up c phase [] = false
front_sets_up c phase (e ∷ es) = is_set_up phase (frame_of (other c.role) c.longest e.octets)

abbrev pub sets_up : LinkSettings → Act → Sessions → Bool
sets_up c Deliver w = front_sets_up c w.near.station.phase w.back
sets_up c act w = false

-- the next session of each end, with a machine of their own
abbrev pub anew : LinkSettings → LinkSettings → Sessions → Standing
anew c d w = record { near = suc w.near.begun; far = suc w.far.begun; machine = machine_at_start c d }

-- ---- the same two go on

-- the one before a UA, or the one behind it
abbrev pub by_answers : ℕ → Option ℕ → Option ℕ → Option ℕ
by_answers zero before behind = before
by_answers (suc n) before behind = behind

-- which of the frames with an N(R) behind the first UA stands at this place of the line, where one does
abbrev pub place_behind_ua : Role → ℕ → List (List ℕ) → ℕ → Option ℕ
place_behind_ua from n1 [] i = None
place_behind_ua from n1 (octets ∷ line) zero = None
place_behind_ua from n1 (octets ∷ line) (suc i) = by_answers (ua_of (said (frame_of from n1 octets)))
    (place_behind_ua from n1 line i) (place_of from n1 line i)

-- Which of the frames for the session that stands is at this place of the line, where one is: they are all where the
-- end is Up, and those behind the UA that it awaits; any other end hears none.
abbrev pub place_to_hear : Phase → Role → ℕ → List (List ℕ) → ℕ → Option ℕ
place_to_hear Up from n1 line i = place_of from n1 line i
place_to_hear Waiting from n1 line i = place_behind_ua from n1 line i
place_to_hear phase from n1 line i = None

-- which of these is gone where octets are taken off the line to the near end at a place, or at none
abbrev pub gone_at : LinkSettings → Sessions → Option ℕ → Option ℕ
gone_at c w None = None
gone_at c w (Some i) = place_to_hear w.near.station.phase (other c.role) c.longest (octets_of w.back) i

abbrev pub standing_after : LinkSettings → LinkStation → List (List ℕ) → Option ℕ → Standing → Standing
standing_after c station put gone s = record {
  near = s.near;
  far = s.far;
  machine = machine_after c station put gone s.machine;
}

-- the same two sessions, as they stand once `v` are the sessions
abbrev pub same_two : LinkSettings → Option ℕ → Sessions → Sessions → Standing → Standing
same_two c gone w v s = standing_after c v.near.station (octets_of (drop (length w.out) v.out)) gone s

-- ---- from event to event

abbrev pub standing_acts : LinkSettings → LinkSettings → Act → Sessions → Standing → Standing
standing_acts c d act w s = if sets_up c act w then anew c d w
    else same_two c (gone_at c w (place_taken act)) w (acts c act w) s

abbrev pub standing_happens : LinkSettings → LinkSettings → LinkEvent → Sessions → Standing → Standing
standing_happens c d (Near act) w s = standing_acts c d act w s
standing_happens c d (Far act) w s = turned (standing_acts d c act (swapped w) (turned s))

abbrev pub standing_run : LinkSettings → LinkSettings → List LinkEvent → Sessions → Standing → Standing
standing_run c d [] w s = s
standing_run c d (e ∷ es) w s = standing_run c d es (happens c d e w) (standing_happens c d e w s)

-- as a run begins
abbrev pub standing_at : LinkSettings → LinkSettings → Sessions → Standing
standing_at c d w = record { near = w.near.begun; far = w.far.begun; machine = machine_at_start c d }

-- ---- the claim

-- these two sessions stand, with this machine behind them
pub record StandsWith (c d : LinkSettings) (w : Sessions) (s : Standing) : Type 0 where
  pub stands : Stands c d w
  pub near : s.near ≡ w.near.begun
  pub far : s.far ≡ stands.other_session
  pub behind : IsBehind c d stands.alone s.machine

pub record EachUpStandsWith (c d : LinkSettings) (w : Sessions) (s : Standing) : Type 0 where
  pub near : is_up w.near.station.phase ≡ true → StandsWith c d w s
  pub far : is_up w.far.station.phase ≡ true → StandsWith d c (swapped w) (turned s)

-- Where an end is Up, the machine that goes on from event to event, and begins anew where two sessions do, is behind
-- the two that stand.
abbrev pub StandingGoesAlong : Type 0
StandingGoesAlong =
    (c d : LinkSettings) → AreJoined c d → (begin : Sessions) → IsStart begin
    → (events : List LinkEvent) → AreTimely c d events begin
    → EachUpStandsWith c d (run c d events begin) (standing_run c d events begin (standing_at c d begin))
