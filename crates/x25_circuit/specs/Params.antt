-- What a call proposes and its acceptance answers: for each end the code of the packet size, and the window, of the
-- data packets that it sends. ITU-T X.25 (10/96), sections 6.12 and 7.2.2.1; that what isn't said stands as it was
-- known is of the profile.
use Rattle.std.specs.Prelude.{ℕ, ◌^◌, ◌==◌, ◌&&◌, ◌||◌, Bool, true, false, List, if◌then◌else◌, Option, Some, None}
use Rattle.std.specs.Prelude.{Result, Ok, Err}
use Rattle.x25_packet.specs.declared.facilities.Facilities.{Facilities}
use Rattle.x25_packet.specs.declared.facilities.Directions.{Directions}
use Rattle.x25_packet.specs.declared.error.PacketError.{PacketError}
use Rattle.x25_packet.specs.Facilities.{field_of, facilities_of, is_within}
use Rattle.x25_circuit.specs.declared.params.Params.{Params}

-- where nothing is said: packets of 128 octets, and window 2
abbrev pub default_params : Params
default_params = record { size_called = 7; size_calling = 7; win_called = 2; win_calling = 2 }

-- what a CALL or an ACCEPT says, and whether it says that too which the other end takes without it
pub record Proposal : Type 0 where
  pub params : Params
  pub says_all : Bool

abbrev pub in_brief : Params → Proposal
in_brief params = record { params = params; says_all = false }

abbrev pub in_full : Params → Proposal
in_full params = record { params = params; says_all = true }

-- packet sizes are 2 to a power of 4 to 12 octets, windows 1 to 7 packets
abbrev pub may_propose : Params → Bool
may_propose p = is_within 4 12 p.size_called && (is_within 4 12 p.size_calling
    && (is_within 1 7 p.win_called && is_within 1 7 p.win_calling))

-- from the value that is proposed to the default, both included
abbrev pub is_toward : ℕ → ℕ → ℕ → Bool
is_toward usual proposed answered = is_within usual proposed answered || is_within proposed usual answered

-- what is proposed, then what is answered
abbrev pub may_answer : Params → Params → Bool
may_answer proposed answered =
    is_toward 7 proposed.size_called answered.size_called && (is_toward 7 proposed.size_calling answered.size_calling
    && (is_toward 2 proposed.win_called answered.win_called && is_toward 2 proposed.win_calling answered.win_calling))

-- ---- what is said of them in a facility field

abbrev pub sizes_of : Params → Directions
sizes_of p = record { called = p.size_called; calling = p.size_calling }

abbrev pub windows_of : Params → Directions
windows_of p = record { called = p.win_called; calling = p.win_calling }

abbrev pub params_of : Directions → Directions → Params
params_of sizes windows = record {
  size_called = sizes.called;
  size_calling = sizes.calling;
  win_called = windows.called;
  win_calling = windows.calling;
}

-- what is said where these are known: nothing of the same two values
abbrev pub news : Directions → Directions → Option Directions
news known said = if said.called == known.called && said.calling == known.calling then None else Some said

abbrev pub said_of : Bool → Directions → Directions → Option Directions
said_of true known said = Some said
said_of false known said = news known said

-- the octets of the facility field that says these, where the first are known
abbrev pub field_for : Params → Proposal → List ℕ
field_for known said =
    field_of (record {
      packet_size = said_of said.says_all (sizes_of known) (sizes_of said.params);
      window_size = said_of said.says_all (windows_of known)
          (windows_of said.params);
    })

abbrev pub said_or : Directions → Option Directions → Directions
said_or known None = known
said_or known (Some said) = said

-- a field that is none says nothing
abbrev pub said_by : Params → Result Facilities PacketError → Params
said_by known (Ok facilities) = params_of (said_or (sizes_of known) facilities.packet_size)
    (said_or (windows_of known) facilities.window_size)
said_by known (Err e) = known

-- what a field says where these are known
abbrev pub said_in : Params → List ℕ → Params
said_in known field = said_by known (facilities_of field)

-- ---- what they mean for data packets

-- of one direction: the window, and the most octets of user data in a data packet (sections 4.3.2 and 4.4.1.2)
pub record Terms : Type 0 where
  pub window : ℕ
  pub size : ℕ

-- of a window, and of the code of a packet size
abbrev pub terms_of : ℕ → ℕ → Terms
terms_of window code = record { window = window; size = 2 ^ code }

-- of what the called end sends
abbrev pub called_terms : Params → Terms
called_terms p = terms_of p.win_called p.size_called

-- of what the calling end sends
abbrev pub calling_terms : Params → Terms
calling_terms p = terms_of p.win_calling p.size_calling
