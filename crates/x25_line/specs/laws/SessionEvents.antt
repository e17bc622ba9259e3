-- What one event does to the sessions of two link stations: which session begins, what is handed down and up in it, and
-- which meet.
use Rattle.std.specs.Prelude.{◌≡◌, ◌⊎◌, ℕ, suc, Bool, true, if◌then◌else◌, List, [], ◌∷◌, ◌++◌, Option, option_to_list}
use Rattle.x25_link.specs.{declared.phase.Phase.TheVariants.{Waiting}, Station.{LinkSettings, is_up}, Hearing.{other}}
use Rattle.x25_line.specs.{laws.Stations.{Act, Put, Deliver, LinkEvent, Near, Far}, laws.Said.{sabm_of, how_many}}
use Rattle.x25_line.specs.laws.StationClaims.{AcceptsNoConnectAt}
use Rattle.x25_line.specs.{laws.Sessions.{SessionEnd, Meeting, Sessions, letters, happens}}

-- ---- what is handed down and up at an end, before and after

-- the next session begins, and nothing is handed down or up
pub record NextBegins (old new : SessionEnd) : Type 0 where
  pub begun : new.begun ≡ suc old.begun
  pub down : (n : ℕ) → new.down n ≡ old.down n
  pub up : (n : ℕ) → new.up n ≡ old.up n

-- none begins, and what is handed down and up is more of the latest
pub record GoesOn (more_down more_up : List (List ℕ)) (old new : SessionEnd) : Type 0 where
  pub begun : new.begun ≡ old.begun
  pub down : new.down old.begun ≡ old.down old.begun ++ more_down
  pub up : new.up old.begun ≡ old.up old.begun ++ more_up
  pub other_down : (n : ℕ) → (n ≡ old.begun → ⊥) → new.down n ≡ old.down n
  pub other_up : (n : ℕ) → (n ≡ old.begun → ⊥) → new.up n ≡ old.up n

-- One packet at most is handed up, and only as octets come, by which alone a session begins. Only the packet that is
-- put is handed down, or it is refused.
abbrev pub HandsInSession : Act → SessionEnd → SessionEnd → Type 0
HandsInSession (Put packet) old new = (accepted : Bool) × GoesOn (if accepted then packet ∷ [] else []) [] old new
HandsInSession Deliver old new = NextBegins old new
    ⊎ ((packet : Option (List ℕ)) × GoesOn [] (option_to_list packet) old new)
HandsInSession act old new = GoesOn [] [] old new

-- the other end stays as it was
abbrev pub HandsInSessionAt : LinkEvent → Sessions → Sessions → Type 0
HandsInSessionAt (Near act) w v = HandsInSession act w.near v.near × (v.far ≡ w.far)
HandsInSessionAt (Far act) w v = HandsInSession act w.far v.far × (v.near ≡ w.near)

abbrev pub EachEventHandsInSession : Type 0
EachEventHandsInSession = (c d : LinkSettings) (event : LinkEvent) (w : Sessions)
    → HandsInSessionAt event w (happens c d event w)

-- ---- which sessions meet

abbrev pub latest : Sessions → Meeting
latest w = record { near = w.near.begun; far = w.far.begun }

-- these two sessions meet, and one packet at most is handed up in that of the end to which octets came
pub record MeetsNow (pair : Meeting) (old new : SessionEnd) (before now : List Meeting) : Type 0 where
  pub met : now ≡ pair ∷ before
  pub packet : Option (List ℕ)
  pub goes_on : GoesOn [] (option_to_list packet) old new

-- the next session begins, which has no lists yet
pub record BeginsAfresh (old new : SessionEnd) : Type 0 where
  pub begins : NextBegins old new
  pub down : new.down new.begun ≡ []
  pub up : new.up new.begun ≡ []

-- none meet, and nothing is handed up
pub record MeetsNone (old new : SessionEnd) (before now : List Meeting) : Type 0 where
  pub met : now ≡ before
  pub nothing_up : BeginsAfresh old new ⊎ GoesOn [] [] old new

-- only as octets come
abbrev pub MeetsOne : Act → Meeting → SessionEnd → SessionEnd → List Meeting → List Meeting → Type 0
MeetsOne Deliver pair old new before now = MeetsNow pair old new before now ⊎ MeetsNone old new before now
MeetsOne act pair old new before now = now ≡ before

abbrev pub MeetsOneAt : LinkEvent → Sessions → Sessions → Type 0
MeetsOneAt (Near act) w v = MeetsOne act (latest w) w.near v.near w.met v.met
MeetsOneAt (Far act) w v = MeetsOne act (latest w) w.far v.far w.met v.met

-- One event brings one meeting at most, that of the latest sessions of both ends, and where it brings none, nothing is
-- handed up. As a session begins, none meet.
abbrev pub EachEventMeetsLatest : LinkSettings → LinkSettings → Sessions → Type 0
EachEventMeetsLatest c d w = (event : LinkEvent) → MeetsOneAt event w (happens c d event w)

-- ---- where none asks for set-up

-- no end awaits UA, and no SABM is on the line from the near end, whose settings are c, or on that to it
pub record IsUnasked (c : LinkSettings) (w : Sessions) : Type 0 where
  pub near : w.near.station.phase ≡ Waiting → ⊥
  pub far : w.far.station.phase ≡ Waiting → ⊥
  pub out : how_many sabm_of (letters c.role c.longest w.out) ≡ 0
  pub back : how_many sabm_of (letters (other c.role) c.longest w.back) ≡ 0

-- it stays so, and no session begins
pub record BeginNone (c : LinkSettings) (w v : Sessions) : Type 0 where
  pub unasked : IsUnasked c v
  pub near : v.near.begun ≡ w.near.begun
  pub far : v.far.begun ≡ w.far.begun

-- Where both ends are Up, none asks for set-up; and where none does, no session begins until a Connect is accepted.
pub record NoneBeginUnasked (c d : LinkSettings) (w : Sessions) : Type 0 where
  pub up : is_up w.near.station.phase ≡ true → is_up w.far.station.phase ≡ true → IsUnasked c w
  pub stays : IsUnasked c w → (event : LinkEvent) → AcceptsNoConnectAt event w.near.station w.far.station
      → BeginNone c w (happens c d event w)
