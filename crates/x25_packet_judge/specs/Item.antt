-- What the rules of a channel look at of a packet. ITU-T X.25 (10/96), sections 6.9, 6.10, 6.12 and 7.2.2; what a
-- call doesn't say of packet sizes and windows is the network's default.
use Rattle.std.specs.Prelude.{ℕ, ◌^◌, ◌&&◌, nat_le, nat_lt, if◌then◌else◌, List, length, Option, Some, None}
use Rattle.std.specs.Prelude.{not, unwrap_or, Result, Ok, Err}
use Rattle.x25_packet.specs.Facilities.{facilities_of}
use Rattle.x25_packet.specs.Packet.{PlainPacket, call, accept, clear, clear_conf, user_data, rr, rnr, interrupt}
use Rattle.x25_packet.specs.Packet.{interrupt_conf, reset, reset_conf, restart, restart_conf}
use Rattle.x25_packet.specs.declared.{error.PacketError.{PacketError}, facilities.Directions.{Directions}}
use Rattle.x25_packet.specs.declared.facilities.Facilities.{Facilities}
use Rattle.x25_possible.specs.declared.packet.Packet.{Packet as Item}
use Rattle.x25_possible.specs.declared.packet.Packet.TheVariants.{Call, Accept, Clear, ClearConf, Reset, ResetConf}
use Rattle.x25_possible.specs.declared.packet.Packet.TheVariants.{Restart, RestartConf, Data, Rr, Rnr, Interrupt}
use Rattle.x25_possible.specs.declared.{packet.Packet.TheVariants.{InterruptConf}, packet.Defaults.{Defaults}}
use Rattle.x25_possible.specs.declared.packet.{Said.{Said}, Sizes.{Sizes}, Terms.{Terms}, Windows.{Windows}}

-- the packet sizes that a facility names, in octets (section 7.2.2.1.1)
abbrev pub octets_of : ℕ → ℕ
octets_of size = if nat_le 4 size && nat_le size 12 then 2 ^ size else 0

-- octets of user data: no packet has more than this
abbrev pub size_of : ℕ → ℕ
size_of octets = if nat_lt octets 65535 then octets else 65535

abbrev pub sizes_said : Option Directions → Option Sizes
sizes_said None = None
sizes_said (Some sizes) = Some (record { calling = octets_of sizes.calling; called = octets_of sizes.called })

abbrev pub windows_said : Option Directions → Option Windows
windows_said None = None
windows_said (Some windows) = Some (record { calling = windows.calling; called = windows.called })

abbrev pub said_by : Result Facilities PacketError → Said
said_by (Ok f) = record { sizes = sizes_said f.packet_size; windows = windows_said f.window_size }
said_by (Err e) = record { sizes = None; windows = None }

-- by the octets of a facility field
abbrev pub said : List ℕ → Said
said field = said_by (facilities_of field)

abbrev pub proposed : Defaults → Said → Terms
proposed d s =
    let sizes = unwrap_or s.sizes (record { calling = d.size; called = d.size }) in
    let windows = unwrap_or s.windows (record { calling = d.window; called = d.window }) in
    record {
      defaults = d;
      calling_size = sizes.calling;
      called_size = sizes.called;
      calling_window = windows.calling;
      called_window = windows.called;
    }

-- with D=1 no message goes on, whatever M is (section 4.3.4)
unfoldable pub item_of : Defaults → PlainPacket → Item
item_of d (call channel called calling facilities user) = Call (proposed d (said facilities))
item_of d (accept channel facilities) = Accept (said facilities)
item_of d (clear channel cause diagnostic) = Clear
item_of d (clear_conf channel) = ClearConf
item_of d (user_data channel marks m ps pr user) = Data marks.q (m && not marks.d) ps pr (size_of (length user))
item_of d (rr channel pr) = Rr pr
item_of d (rnr channel pr) = Rnr pr
item_of d (interrupt channel user) = Interrupt
item_of d (interrupt_conf channel) = InterruptConf
item_of d (reset channel cause diagnostic) = Reset
item_of d (reset_conf channel) = ResetConf
item_of d (restart cause diagnostic) = Restart
item_of d restart_conf = RestartConf
