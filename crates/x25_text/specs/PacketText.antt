-- The text that a trace shows of a packet and of its error (profile).
use Rattle.std.specs.Prelude.{ℕ, ◌+◌, Bool, true, false, List, [], ◌∷◌, ◌++◌, map, codes, decimal, Result, Ok, Err}
use Rattle.x25_packet.specs.Packet.{PlainPacket, call, accept, clear, clear_conf, user_data, rr, rnr, interrupt}
use Rattle.x25_packet.specs.Packet.{interrupt_conf, reset, reset_conf, restart, restart_conf}
use Rattle.x25_packet.specs.Reading.{packet_of}
use Rattle.x25_packet.specs.Spelling.{bit, longest_user}
use Rattle.x25_packet.specs.Error.{number_of, diagnostic_of}
use Rattle.x25_packet.specs.declared.error.PacketError.{PacketError}
use Rattle.x25_text.specs.Text.{octets_text}

-- an address: its digits, `-` where there are none
abbrev pub digits_text : List ℕ → List ℕ
digits_text [] = codes "-"
digits_text (digit ∷ digits) = map (λ d. 48 + d) (digit ∷ digits)

abbrev pub reason_text : ℕ → ℕ → List ℕ
reason_text cause diagnostic = codes " cause=" ++ decimal cause ++ codes " diag=" ++ decimal diagnostic

abbrev pub addresses_text : List ℕ → List ℕ → List ℕ
addresses_text called calling = codes " called=" ++ digits_text called ++ codes " calling=" ++ digits_text calling

abbrev pub fields_text : List ℕ → List ℕ → List ℕ
fields_text facilities user = codes " fac=" ++ octets_text facilities ++ codes " data=" ++ octets_text user

-- P(S) and P(R)
abbrev pub numbers_text : ℕ → ℕ → List ℕ
numbers_text ps pr = codes " S=" ++ decimal ps ++ codes " R=" ++ decimal pr

-- the more data mark and the qualifier
abbrev pub marks_text : Bool → Bool → List ℕ
marks_text m q = codes " M=" ++ decimal (bit m) ++ codes " Q=" ++ decimal (bit q)

-- D, where it is set
abbrev pub confirmation_text : Bool → List ℕ
confirmation_text true = codes " D=1"
confirmation_text false = []

abbrev pub packet_text : PlainPacket → List ℕ
packet_text (call channel called calling facilities user) = codes "CALL ch=" ++ decimal channel
    ++ addresses_text called calling ++ fields_text facilities user
packet_text (accept channel facilities) = codes "ACCEPT ch=" ++ decimal channel
    ++ (codes " fac=" ++ octets_text facilities)
packet_text (clear channel cause diagnostic) = codes "CLEAR ch=" ++ decimal channel ++ reason_text cause diagnostic
packet_text (clear_conf channel) = codes "CLEARCONF ch=" ++ decimal channel
packet_text (user_data channel marks m ps pr user) = codes "DATA ch=" ++ decimal channel ++ numbers_text ps pr
    ++ marks_text m marks.q ++ confirmation_text marks.d ++ (codes " data=" ++ octets_text user)
packet_text (rr channel pr) = codes "RR ch=" ++ decimal channel ++ (codes " R=" ++ decimal pr)
packet_text (rnr channel pr) = codes "RNR ch=" ++ decimal channel ++ (codes " R=" ++ decimal pr)
packet_text (interrupt channel user) = codes "INT ch=" ++ decimal channel ++ (codes " data=" ++ octets_text user)
packet_text (interrupt_conf channel) = codes "INTCONF ch=" ++ decimal channel
packet_text (reset channel cause diagnostic) = codes "RESET ch=" ++ decimal channel ++ reason_text cause diagnostic
packet_text (reset_conf channel) = codes "RESETCONF ch=" ++ decimal channel
packet_text (restart cause diagnostic) = codes "RESTART" ++ reason_text cause diagnostic
packet_text restart_conf = codes "RESTARTCONF"

abbrev pub packet_fault_text : PacketError → List ℕ
packet_fault_text error = codes "fault " ++ decimal (number_of error)
    ++ (codes " diag=" ++ decimal (diagnostic_of error))

abbrev pub packet_reading_text : Result PlainPacket PacketError → List ℕ
packet_reading_text (Ok v) = packet_text v
packet_reading_text (Err error) = packet_fault_text error

-- what stands behind the bar of an I frame: the packet that its information spells, or the first error
abbrev pub information_text : Bool → List ℕ → List ℕ
information_text long_data octets = packet_reading_text (packet_of (longest_user long_data) octets)
