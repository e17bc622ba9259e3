-- A packet as a value alone, without where its octets lie. ITU-T X.25 (10/96), section 5.
use Rattle.std.specs.Prelude.{ℕ, Bool, List}
use Rattle.x25_packet.specs.declared.marks.Marks.{Marks}

-- Each but RESTART and its confirmation begins with its logical channel. CALL has the called digits, the calling
-- digits, the facility field and the user data; DATA has Q and D, M, P(S), P(R) and the user data; causes go before
-- diagnostics.
pub data PlainPacket : Type 0 where
  call : ℕ → List ℕ → List ℕ → List ℕ → List ℕ → PlainPacket
  accept : ℕ → List ℕ → PlainPacket
  clear : ℕ → ℕ → ℕ → PlainPacket
  clear_conf : ℕ → PlainPacket
  user_data : ℕ → Marks → Bool → ℕ → ℕ → List ℕ → PlainPacket
  rr : ℕ → ℕ → PlainPacket
  rnr : ℕ → ℕ → PlainPacket
  interrupt : ℕ → List ℕ → PlainPacket
  interrupt_conf : ℕ → PlainPacket
  reset : ℕ → ℕ → ℕ → PlainPacket
  reset_conf : ℕ → PlainPacket
  restart : ℕ → ℕ → PlainPacket
  restart_conf : PlainPacket
