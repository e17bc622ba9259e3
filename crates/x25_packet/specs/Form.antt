-- A packet as a value alone, without where its octets lie. ITU-T X.25 (10/96), section 5.
use Rattle.std.specs.Prelude.{ℕ, Bool, List, Option}
use Rattle.x25_packet.specs.Block.{PlainBlock, block_at, optional_at}
use Rattle.x25_packet.specs.declared.form.Kind.{Kind}
use Rattle.x25_packet.specs.declared.form.Kind.TheVariants as code
use Rattle.x25_packet.specs.declared.form.Form.{Form}
pub mod Spelling

-- DATA has M, P(S), P(R) and the user data; causes go before diagnostics, and a diagnostic before its explanation.
pub data PlainKind : Type 0 where
  call : PlainBlock → PlainKind
  accept : Option PlainBlock → PlainKind
  clear : ℕ → Option ℕ → PlainKind
  extended_clear : ℕ → ℕ → PlainBlock → PlainKind
  clear_conf : Option PlainBlock → PlainKind
  user_data : Bool → ℕ → ℕ → List ℕ → PlainKind
  rr : ℕ → PlainKind
  rnr : ℕ → PlainKind
  rej : ℕ → PlainKind
  interrupt : List ℕ → PlainKind
  interrupt_conf : PlainKind
  reset : ℕ → Option ℕ → PlainKind
  reset_conf : PlainKind
  restart : ℕ → Option ℕ → PlainKind
  restart_conf : PlainKind
  diagnostic : ℕ → List ℕ → PlainKind
  registration : List ℕ → PlainKind
  registration_conf : List ℕ → PlainKind

-- by the A bit
abbrev pub plain_kind : Bool → Kind → PlainKind
plain_kind a (code.Call body) = call (block_at a body.now)
plain_kind a (code.Accept body) = accept (optional_at a body.now)
plain_kind a (code.Clear cause reason) = clear cause reason
plain_kind a (code.ExtendedClear cause reason body) = extended_clear cause reason (block_at a body.now)
plain_kind a (code.ClearConf body) = clear_conf (optional_at a body.now)
plain_kind a (code.Data m ps pr user) = user_data m ps.number pr.number user.now
plain_kind a (code.Rr pr) = rr pr.number
plain_kind a (code.Rnr pr) = rnr pr.number
plain_kind a (code.Rej pr) = rej pr.number
plain_kind a (code.Interrupt user) = interrupt user.now
plain_kind a code.InterruptConf = interrupt_conf
plain_kind a (code.Reset cause reason) = reset cause reason
plain_kind a code.ResetConf = reset_conf
plain_kind a (code.Restart cause reason) = restart cause reason
plain_kind a code.RestartConf = restart_conf
plain_kind a (code.Diagnostic number explanation) = diagnostic number explanation.now
plain_kind a (code.Registration octets) = registration octets.now
plain_kind a (code.RegistrationConf octets) = registration_conf octets.now

-- bit 8 of the first octet is Q in DATA, and A in call set-up and clearing packets
pub record PlainForm : Type 0 where
  pub channel : ℕ
  pub bit_8 : Bool
  pub d : Bool
  pub kind : PlainKind

abbrev pub plain : Form → PlainForm
plain w = record { channel = w.channel; bit_8 = w.bit_8; d = w.d; kind = plain_kind w.bit_8 w.kind }
