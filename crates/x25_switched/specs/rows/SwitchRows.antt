-- A worked row of a switch: a message and an interrupt wait in it while the far line is set up again, and come through
-- in packets of another size.
use Rattle.std.specs.Prelude.{◌≡◌, ℕ, zero, suc, false, List, [], ◌∷◌}
use Rattle.x25_bits.specs.declared.role.Role.{Role}
use Rattle.x25_bits.specs.declared.role.Role.TheVariants.{Dte, Dce}
use Rattle.x25_packet.specs.Marks.{with_q}
use Rattle.x25_circuit.specs.Message.{Message, More, Last}
use Rattle.x25_line.specs.{laws.Sessions.{Meeting}, laws.SessionClaims.{SomeMet}}
use Rattle.x25_layer.specs.Ranges.{two_way}
use Rattle.x25_station.specs.Config.{Settings}
use Rattle.x25_peer.specs.laws.BesideSessions.{BesideSessions}
use Rattle.x25_switched.specs.laws.Switched.{Leg, Bond, Switched, waiting, ReachedThrough}
use Rattle.x25_switched.specs.laws.SwitchClaims.{CountAlike, there}

-- the stations of the switch have one channel each: at the near line it is a DCE, at the far one a DTE
abbrev pub settings : Role → Settings
settings role = record {
  role = role;
  window = 7;
  retries = 10;
  channels = two_way 1;
  long_data = false;
  say_sizes = false;
  wide = false;
}

-- the call of a session that comes after the restart at its beginning
abbrev pub first_call : ℕ → Leg
first_call session = record {
  session = session;
  channel = 1;
  name = record { restarts = 1; clears = 0; resets = 0 };
}

-- of the first session of the near line, and of the second one of the far line
abbrev pub bond : Bond
bond = record { near = first_call 1; far = first_call 2 }

-- so many octets, each one more than the one before
abbrev pub counted : ℕ → ℕ → List ℕ
counted first zero = []
counted first (suc n) = first ∷ counted (suc first) n

abbrev pub message : Message
message = record { marks = with_q false; user = counted 1 20 }

abbrev pub interrupt : List ℕ
interrupt = 9 ∷ []

-- two sessions of one number
abbrev pub meeting : ℕ → Meeting
meeting session = record { near = session; far = session }

-- they met on a line, and both ends count their first call alike
pub record IsJoined (w : BesideSessions) (session : ℕ) : Type 0 where
  pub met : SomeMet (λ (m : Meeting). m ≡ meeting session) w.met
  pub alike : CountAlike w (first_call session) (meeting session)

-- the far line was set up once, and the message waits
pub record Waits (s : Switched) : Type 0 where
  pub reached : ReachedThrough (settings Dce) (settings Dte) bond s
  pub begun : s.far.begun ≡ 1
  pub waits : waiting bond s ≡ message ∷ []

-- It was set up again, and nothing waits. The near peer sent one packet of 20 octets, and an interrupt. The far peer
-- took two packets, of 16 octets and of four, and the interrupt.
pub record GoesThrough (s : Switched) : Type 0 where
  pub reached : ReachedThrough (settings Dce) (settings Dte) bond s
  pub begun : s.far.begun ≡ 2
  pub waits : waiting bond s ≡ []
  pub near : IsJoined s.near 1
  pub far : IsJoined s.far 2
  pub sent : (there s.near bond.near (meeting 1)).sent ≡ Last (with_q false) (counted 1 20) ∷ []
  pub taken : (there s.far bond.far (meeting 2)).taken
      ≡ More (with_q false) (counted 1 16) ∷ Last (with_q false) (counted 17 4) ∷ []
  pub interrupts_sent : (there s.near bond.near (meeting 1)).int_down ≡ interrupt ∷ []
  pub interrupts_taken : (there s.far bond.far (meeting 2)).int_up ≡ interrupt ∷ []

-- one after the other, while the near line stands
abbrev pub MessageGoesThrough : Type 0
MessageGoesThrough = (s t : Switched) × Waits s × GoesThrough t × (t.near ≡ s.near)
