-- The packet layer of one end: restart, and its circuits by logical channel. ITU-T X.25 (10/96), sections 3.1, 3.3 and
-- 4.5, and Annex C, table C-2. Diagnostics are of the profile, and so is that a packet is dropped which names no
-- channel of this end.
use Rattle.std.specs.Prelude.{ℕ, suc, List, [], ◌∷◌, Option, Some, None, Bool, true, false, nat_le, ◌==◌, ◌&&◌}
use Rattle.std.specs.Prelude.{if◌then◌else◌}
use Rattle.x25_bits.specs.declared.role.Role.{Role}
use Rattle.x25_packet.specs.declared.error.PacketError.{PacketError}
use Rattle.x25_packet.specs.Packet.{PlainPacket, restart, restart_conf}
use Rattle.x25_packet.specs.Spelling.{channel_of, moved_to}
use Rattle.x25_circuit.specs.Circuit.{CircuitSettings, Circuit, begun, forgotten}
use Rattle.x25_circuit.specs.Notice.{PlainNotice}
use Rattle.x25_layer.specs.declared.ranges.Ranges.{Ranges}
pub use Rattle.x25_layer.specs.Ranges.{is_channel}
use Rattle.x25_circuit.specs.Hearing.{Answer, answers, undecoded, cause_at, by_role}
pub mod Confirmed
pub mod MessageRoom

pub record LayerSettings : Type 0 where
  pub channels : Ranges
  pub circuit : CircuitSettings

-- whether this end has sent RESTART and waits (r2 at a DTE, r3 at a DCE), how many restarts were done since link set-up
-- (profile), and the circuit of each channel
pub record Layer : Type 0 where
  pub restarting : Bool
  pub restarts : ℕ
  pub circuits : ℕ → Circuit

pub data LayerNotice : Type 0 where
  on_channel : (channel : ℕ) → (notice : PlainNotice) → LayerNotice
  restarted : (cause : ℕ) → (diagnostic : ℕ) → LayerNotice
  restart_done : LayerNotice
  layer_fault : (diagnostic : ℕ) → LayerNotice

-- what a packet does: the layer after it, the packet owed, and what the user is told
pub record LayerAnswer : Type 0 where
  pub next : Layer
  pub owed : Option PlainPacket
  pub notices : List LayerNotice

abbrev pub put_at : (ℕ → Circuit) → ℕ → Circuit → ℕ → Circuit
put_at circuits h circuit k = if k == h then circuit else circuits k

-- a circuit's packet, on its channel
abbrev pub packet_on : ℕ → Option PlainPacket → Option PlainPacket
packet_on h None = None
packet_on h (Some packet) = Some (moved_to h packet)

abbrev pub notices_on : ℕ → List PlainNotice → List LayerNotice
notices_on h [] = []
notices_on h (notice ∷ notices) = on_channel h notice ∷ notices_on h notices

-- ---- ways to answer, by the number of restarts and the circuits; the layer is ready (r1) but where it says otherwise

abbrev pub is_ready : ℕ → (ℕ → Circuit) → Layer
is_ready restarts circuits = record { restarting = false; restarts = restarts; circuits = circuits }

-- the circuit of a channel answers; the others are as they were
abbrev pub answers_on : ℕ → (ℕ → Circuit) → ℕ → Answer → LayerAnswer
answers_on restarts circuits h a = record {
  next = is_ready restarts
      (put_at circuits h a.next);
  owed = packet_on h a.owed;
  notices = notices_on h a.notices;
}

-- the packet is dropped
abbrev pub drops : Bool → ℕ → (ℕ → Circuit) → LayerAnswer
drops restarting restarts circuits = record {
  next = record {
    restarting = restarting;
    restarts = restarts;
    circuits = circuits;
  };
  owed = None;
  notices = [];
}

-- one restart more is done: all circuits begin afresh
abbrev pub restarts_to : ℕ → Option PlainPacket → List LayerNotice → LayerAnswer
restarts_to restarts owed notices = record {
  next = is_ready (suc restarts)
      (λ k. begun);
  owed = owed;
  notices = notices;
}

-- RESTART is sent: all circuits in p1, and their counts as they were
abbrev pub restarting_from : ℕ → (ℕ → Circuit) → Layer
restarting_from restarts circuits = record {
  restarting = true;
  restarts = restarts;
  circuits = λ k. forgotten
      (circuits k);
}

-- ---- packets handed up

abbrev pub answers_ready : LayerSettings → ℕ → (ℕ → Circuit) → PlainPacket → LayerAnswer
answers_ready c restarts circuits (restart cause diagnostic) = restarts_to restarts (Some restart_conf)
    (restarted cause diagnostic ∷ [])
answers_ready c restarts circuits restart_conf =
    record {
      next = restarting_from restarts circuits;
      owed = Some
          (restart (cause_at c.circuit.role 1) 17);
      notices = layer_fault 17 ∷ [];
    }
answers_ready c restarts circuits packet =
    if is_channel c.channels (channel_of packet)
    then answers_on restarts circuits (channel_of packet) (answers c.circuit (circuits (channel_of packet)) packet)
    else drops false restarts circuits

-- all else is dropped until the restart is confirmed
abbrev pub answers_restarting : ℕ → (ℕ → Circuit) → PlainPacket → LayerAnswer
answers_restarting restarts circuits (restart cause diagnostic) = restarts_to restarts None
    (restarted cause diagnostic ∷ [])
answers_restarting restarts circuits restart_conf = restarts_to restarts None (restart_done ∷ [])
answers_restarting restarts circuits packet = drops true restarts circuits

abbrev pub answers_in : LayerSettings → Bool → ℕ → (ℕ → Circuit) → PlainPacket → LayerAnswer
answers_in c true restarts circuits packet = answers_restarting restarts circuits packet
answers_in c false restarts circuits packet = answers_ready c restarts circuits packet

abbrev pub layer_answers : LayerSettings → Layer → PlainPacket → LayerAnswer
layer_answers c l packet = answers_in c l.restarting l.restarts l.circuits packet

-- octets that spell no packet go to the channel that they name
abbrev pub undecoded_in : LayerSettings → Bool → ℕ → (ℕ → Circuit) → ℕ → PacketError → LayerAnswer
undecoded_in c true restarts circuits h error = drops true restarts circuits
undecoded_in c false restarts circuits h error =
    if is_channel c.channels h then answers_on restarts circuits h (undecoded c.circuit (circuits h) error)
    else drops false restarts circuits

abbrev pub layer_undecoded : LayerSettings → Layer → ℕ → PacketError → LayerAnswer
layer_undecoded c l h error = undecoded_in c l.restarting l.restarts l.circuits h error

-- ---- link up and down

-- the link was never up
abbrev pub at_rest : Layer
at_rest = is_ready 0 (λ k. begun)

-- At LinkDown all is dropped: no restart is under way, and all channels are in p1. The counts are as they were, until
-- LinkUp.
abbrev pub rested : Layer → Layer
rested l = is_ready l.restarts (λ k. forgotten (l.circuits k))

-- at LinkUp an end sends RESTART: the DTE with cause 0, the DCE with cause 7, network operational (profile)
abbrev pub restart_cause : Role → ℕ
restart_cause role = by_role role 0 7

abbrev pub goes_up : LayerSettings → LayerAnswer
goes_up c = record {
  next = restarting_from 0 (λ k. begun);
  owed = Some
      (restart (restart_cause c.circuit.role) 0);
  notices = [];
}
