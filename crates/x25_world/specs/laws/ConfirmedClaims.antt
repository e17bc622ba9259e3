-- What an end's user is told as confirmed, the other end's user was handed, over set-up and re-set-up at any moment.
-- ITU-T X.25 (10/96), section 4.4.1.4.
use Rattle.std.specs.Prelude.{◌≡◌, ◌≤◌, ◌+◌, ◌==◌, ℕ, List, [], ◌∷◌, Some, None, if◌then◌else◌}
use Rattle.x25_bits.specs.{Bits.{bit}, declared.role.Role.{Role}}
use Rattle.x25_circuit.specs.Message.{Message}
use Rattle.x25_handshakes.specs.laws.Names.{Name, both, same_name}
use Rattle.x25_layer.specs.laws.Transcript.{under, messages_in}
use Rattle.x25_link.specs.Hearing.{other}
use Rattle.x25_station.specs.{declared.config.Cfg.{Cfg}, Entry.{StationEntry, was_confirmed}}
use Rattle.x25_world.specs.{World.{World}, laws.Sessions.{session_at, handed_in, meets}}

-- how many messages of a stretch an end was told as confirmed, by the counts of all entries together

abbrev pub confirmed_at : ℕ → Name → StationEntry → ℕ
confirmed_at k name (was_confirmed channel stretch count) =
    if both (k == channel) (same_name name stretch) then count else 0
confirmed_at k name entry = 0

abbrev pub confirmed_in : ℕ → Name → List StationEntry → ℕ
confirmed_in k name [] = 0
confirmed_in k name (entry ∷ entries) = confirmed_at k name entry + confirmed_in k name entries

-- of how many of these messages confirmation was asked
abbrev pub asked_among : List Message → ℕ
asked_among [] = 0
asked_among (m ∷ messages) = bit m.marks.d + asked_among messages

-- On each channel and under each name of a stretch: of the messages that the other end handed up in the session that
-- this one meets, at least so many asked for confirmation as were told as confirmed in this one. As these are a
-- beginning of those that were handed down here, with their marks, the first so many that asked were handed up. In a
-- session that meets none, none is told as confirmed.
pub record ConfirmedAreHandedUp (cfg : Cfg) (w : World) : Type 0 where
  pub met : (end : Role) (n m : ℕ) → meets end n w.transcript ≡ Some m → (channel : ℕ) (name : Name) →
      confirmed_in channel name (session_at end n w.transcript)
      ≤ asked_among (messages_in (under channel name (handed_in (other end) m w))).up
  pub unmet : (end : Role) (n : ℕ) → meets end n w.transcript ≡ None → (channel : ℕ) (name : Name)
      → confirmed_in channel name (session_at end n w.transcript) ≡ 0
