-- What came beside the packets of calls, acceptances and clearings, as the user of an end is told, is what the user of
-- the other end gave with them, over set-up and re-set-up at any moment.
use Rattle.std.specs.Prelude.{◌≡◌, ◌⊎◌, ℕ, ◌==◌, Bool, true, List, [], ◌∷◌, ◌++◌, Option, Some, None}
use Rattle.x25_bits.specs.{declared.role.Role.{Role}, declared.role.Role.TheVariants.{Dte, Dce}}
use Rattle.x25_packet.specs.Facilities.{IsFacilityField}
use Rattle.x25_given.specs.Given.{PlainGiven}
use Rattle.x25_link.specs.Hearing.{other}
use Rattle.x25_layer.specs.{Layer.{LayerSettings, Layer}, Calls.{LayerRequest, Asks, Dials, free_channel}}
use Rattle.x25_station.specs.{declared.config.Cfg.{Cfg}, Config.{settings_from, layer_settings}}
use Rattle.x25_station.specs.{Command.{RequestsWith}, Entry.{StationEntry, came_beside}}
use Rattle.x25_world.specs.declared.error.WorldError.{WorldError}
use Rattle.x25_world.specs.{World.{World, Act, Commands, Event, happens, refusal_of, after}, laws.Claims.{station_at}}
use Rattle.x25_world.specs.laws.Sessions.{session_at, last_session, meets}

-- ---- what a user is told

-- facilities and user data, on a channel
pub record Came : Type 0 where
  pub channel : ℕ
  pub facilities : List ℕ
  pub user : List ℕ

abbrev pub came_of : StationEntry → List Came
came_of (came_beside channel facilities user) =
    record { channel = channel; facilities = facilities; user = user } ∷ []
came_of entry = []

abbrev pub came_in : List StationEntry → List Came
came_in [] = []
came_in (entry ∷ entries) = came_of entry ++ came_in entries

-- ---- what a user gives

-- on the channel that the command names, or that a call takes
pub record Gave : Type 0 where
  pub channel : Option ℕ
  pub given : PlainGiven

abbrev pub channel_for : LayerSettings → Layer → LayerRequest → Option ℕ
channel_for c l (Asks h request) = Some h
channel_for c l (Dials called calling user proposal) = free_channel c.circuit.role l.circuits c.channels
channel_for c l request = None

-- of an accepted command, where it is of the session that is asked for
abbrev pub gave_where : Bool → Option WorldError → Gave → List Gave
gave_where true None gave = gave ∷ []
gave_where here refusal gave = []

abbrev pub gave_by : LayerSettings → Layer → Bool → Act → Option WorldError → List Gave
gave_by c l here (Commands (RequestsWith given request)) refusal = gave_where here refusal
    (record { channel = channel_for c l request; given = given })
gave_by c l here act refusal = []

abbrev pub of_end : Role → Role → List Gave → List Gave
of_end Dte Dte gave = gave
of_end Dce Dce gave = gave
of_end end at gave = []

-- in session n of an end
abbrev pub gave_at : Cfg → Role → ℕ → World → Event → List Gave
gave_at cfg end n w e = of_end end e.at
    (gave_by (layer_settings (settings_from end cfg)) (station_at end w).layer (n == last_session end w) e.act
    (refusal_of (happens cfg w e)))

abbrev pub gave_in : Cfg → Role → ℕ → List Event → World → List Gave
gave_in cfg end n [] w = []
gave_in cfg end n (e ∷ events) w = gave_at cfg end n w e ++ gave_in cfg end n events (after w (happens cfg w e))

-- ---- that is what was given

-- on its channel, behind packet sizes and window sizes of the station's own, and with no other user data
pub record IsGiven (came : Came) (gave : Gave) : Type 0 where
  pub channel : gave.channel ≡ Some came.channel
  pub own : List ℕ
  pub of_own : IsFacilityField own
  pub facilities : came.facilities ≡ own ++ gave.given.facilities
  pub user : came.user ≡ gave.given.user

-- each of the first is of one of the second, in the same order and each of another one; some of these are left out
abbrev pub AreSomeOf : {A B : Type 0} → (A → B → Type 0) → List A → List B → Type 0
AreSomeOf IsOf [] ys = Unit {0}
AreSomeOf IsOf (x ∷ xs) [] = ⊥
AreSomeOf IsOf (x ∷ xs) (y ∷ ys) = (IsOf x y × AreSomeOf IsOf xs ys) ⊎ AreSomeOf IsOf (x ∷ xs) ys

-- In a session that meets one, a user is told what the other end's user gave there, in order and each at most once: a
-- packet may be lost with its session, or be one of which the layer tells nothing. In one that meets none a user is
-- told nothing of it.
pub record BesideIsGiven (cfg : Cfg) (begin : World) (events : List Event) (w : World) : Type 0 where
  pub met : (end : Role) (n m : ℕ) → meets end n w.transcript ≡ Some m
      → AreSomeOf IsGiven (came_in (session_at end n w.transcript)) (gave_in cfg (other end) m events begin)
  pub unmet : (end : Role) (n : ℕ) → meets end n w.transcript ≡ None → came_in (session_at end n w.transcript) ≡ []
