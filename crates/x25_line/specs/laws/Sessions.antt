-- Two link stations and the line between them, set up and set up again at any moment. A session of an end begins as it
-- notes LinkUp. Each act is of the near end, or of the line to it. The far end's acts are those of the two ends
-- swapped.
use Rattle.std.specs.Prelude.{◌≡◌, ◌⊎◌, ℕ, suc, ◌+◌, ◌==◌, nat_le, Bool, true, false, if◌then◌else◌, List, []}
use Rattle.std.specs.Prelude.{◌∷◌, ◌++◌, length, map, option_to_list}
use Rattle.x25_bits.specs.declared.role.Role.{Role}
use Rattle.x25_frame.specs.{Frame.{PlainFrame}, Spelling.{spelling_of}, Reading.{frame_of}}
use Rattle.x25_link.specs.{declared.phase.Phase.{Phase}}
use Rattle.x25_link.specs.declared.phase.Phase.TheVariants.{Down, Up, Waiting}
use Rattle.x25_link.specs.{Station.{LinkSettings, LinkStation, is_up, with_nothing}, Hearing.{LinkStep, other}}
use Rattle.x25_link.specs.Link.{take_step, put_step, put_refusal}
use Rattle.x25_line.specs.laws.Stations.{Act, Put, Deliver, T1, Lose, Damage, own_act, LinkEvent, Near, Far, is_visible}
pub use Rattle.x25_line.specs.laws.Stations.{unless}
use Rattle.x25_line.specs.laws.Loss.{remove, replaced}
use Rattle.x25_line.specs.laws.Said.{Said, Tells, Letter, letter, said, sabm_of, ua_of, how_many}

-- octets on the line, and the session in which they were sent
pub record Entry : Type 0 where
  pub session : ℕ
  pub octets : List ℕ

-- A station, how many sessions it began, and what was handed down and up in each, by its number, the first being 1.
pub record SessionEnd : Type 0 where
  pub station : LinkStation
  pub begun : ℕ
  pub down : ℕ → List (List ℕ)
  pub up : ℕ → List (List ℕ)

-- a session of the near end and one of the far end, one of which heard a frame with an N(R) that was sent in the other
pub record Meeting : Type 0 where
  pub near : ℕ
  pub far : ℕ

-- The ends; the line from the near end and the line to it, front first; who heard whom, the latest first; and all
-- frames ever sent.
pub record Sessions : Type 0 where
  pub near : SessionEnd
  pub far : SessionEnd
  pub out : List Entry
  pub back : List Entry
  pub met : List Meeting
  pub sent : List PlainFrame

abbrev pub turned : Meeting → Meeting
turned m = record { near = m.far; far = m.near }

abbrev pub swapped : Sessions → Sessions
swapped w = record { near = w.far; far = w.near; out = w.back; back = w.out; met = map turned w.met; sent = w.sent }

-- ---- acts

abbrev pub sent_in : ℕ → Role → List PlainFrame → List Entry
sent_in session from [] = []
sent_in session from (f ∷ fs) = record { session = session; octets = spelling_of from f } ∷ sent_in session from fs

-- more in one session
abbrev pub extended : (ℕ → List (List ℕ)) → ℕ → List (List ℕ) → ℕ → List (List ℕ)
extended lists session more n = if n == session then lists n ++ more else lists n

-- one session more where LinkUp is noted
abbrev pub begun_by : Bool → ℕ → ℕ
begun_by true n = suc n
begun_by false n = n

-- after a step of the near end: `back` is what is left on the line to it, and `down` what was handed down
abbrev pub after_step : LinkSettings → Sessions → List Entry → List Meeting → List (List ℕ) → LinkStep → Sessions
after_step c w back met down step =
    let session = begun_by step.notes.up w.near.begun in
    record {
      near = record {
        station = step.side.near;
        begun = session;
        down = extended w.near.down session down;
        up = extended w.near.up session (option_to_list step.packet);
      };
      far = w.far;
      out = w.out ++ sent_in session c.role step.side.out;
      back = back;
      met = met;
      sent = w.sent ++ step.side.out;
    }

-- an end that is in a session meets the one in which the N(R) that it hears was sent
abbrev pub meets : Said → Meeting → List Meeting → List Meeting
meets (Tells carried nr) m met = m ∷ met
meets said m met = met

-- the front octets are taken off the line, and by the near end
abbrev pub delivered : LinkSettings → List Entry → Sessions → Sessions
delivered c [] w = w
delivered c (e ∷ back) w =
    after_step c w back (if is_up w.near.station.phase then meets (said (frame_of (other c.role) c.longest e.octets))
    (record { near = w.near.begun; far = e.session }) w.met else w.met) []
    (take_step c e.octets w.near.station)

-- other octets come in the place of those that were sent
abbrev pub with_octets : List ℕ → Entry → Entry
with_octets octets e = record { session = e.session; octets = octets }

abbrev pub acts : LinkSettings → Act → Sessions → Sessions
acts c (Put packet) w =
    if nat_le (length packet) c.longest
    then unless (put_refusal w.near.station) w
    (after_step c w w.back w.met (packet ∷ []) (put_step c packet w.near.station)) else w
acts c Deliver w = delivered c w.back w
acts c (Lose i) w = record w { back = remove w.back i }
acts c (Damage i octets) w = if is_visible octets then record w { back = replaced w.back i (with_octets octets) } else w
acts c act w = own_act c w.near.station w (after_step c w w.back w.met []) act

-- ---- runs

abbrev pub happens : LinkSettings → LinkSettings → LinkEvent → Sessions → Sessions
happens c d (Near act) w = acts c act w
happens c d (Far act) w = swapped (acts d act (swapped w))

abbrev pub run : LinkSettings → LinkSettings → List LinkEvent → Sessions → Sessions
run c d [] w = w
run c d (e ∷ es) w = run c d es (happens c d e w)

abbrev pub no_lists : ℕ → List (List ℕ)
no_lists n = []

abbrev pub start_with : Phase → ℕ → Sessions
start_with phase begun =
    let e : SessionEnd = record { station = with_nothing phase 0; begun = begun; down = no_lists; up = no_lists } in
    record { near = e; far = e; out = []; back = []; met = []; sent = [] }

-- nothing was set up yet, or both ends were just set up, each in its first session
abbrev pub from_nothing : Sessions
from_nothing = start_with Down 0

abbrev pub from_set_up : Sessions
from_set_up = start_with Up 1

abbrev pub IsStart : Sessions → Type 0
IsStart w = (w ≡ from_nothing) ⊎ (w ≡ from_set_up)

-- ---- timer T1 while UA is awaited

-- what the rules look at in the octets on a line, from an end in this role
abbrev pub letters : Role → ℕ → List Entry → List Letter
letters from n1 [] = []
letters from n1 (e ∷ es) = letter e.session (said (frame_of from n1 e.octets)) ∷ letters from n1 es

-- the SABMs of the near end and the UAs to it that are on the line
abbrev pub asked : LinkSettings → LinkSettings → Sessions → ℕ
asked c d w = how_many sabm_of (letters (other d.role) d.longest w.out)
    + how_many ua_of (letters (other c.role) c.longest w.back)

-- T1 is longer than SABM and its UA are on the line: while UA is awaited it doesn't run out before
abbrev pub IsTimely : LinkSettings → LinkSettings → Act → Sessions → Type 0
IsTimely c d T1 w = w.near.station.phase ≡ Waiting → asked c d w ≡ 0
IsTimely c d act w = Unit {0}

abbrev pub IsTimelyAt : LinkSettings → LinkSettings → LinkEvent → Sessions → Type 0
IsTimelyAt c d (Near act) w = IsTimely c d act w
IsTimelyAt c d (Far act) w = IsTimely d c act (swapped w)

abbrev pub AreTimely : LinkSettings → LinkSettings → List LinkEvent → Sessions → Type 0
AreTimely c d [] w = Unit {0}
AreTimely c d (e ∷ es) w = IsTimelyAt c d e w × AreTimely c d es (happens c d e w)
