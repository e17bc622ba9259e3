-- The errors of octets that spell no packet.
use Rattle.std.specs.Prelude.{ℕ}
use Rattle.x25_packet.specs.declared.error.PacketError.{PacketError}
use Rattle.x25_packet.specs.declared.error.PacketError.TheVariants.{TooShort, BadFormat, Unidentified, TooLong}
use Rattle.x25_packet.specs.declared.error.PacketError.TheVariants.{BadDigit, BadFacility, BadParameter}

abbrev pub number_of : PacketError → ℕ
number_of TooShort = 20
number_of BadFormat = 21
number_of Unidentified = 22
number_of TooLong = 23
number_of BadDigit = 24
number_of BadFacility = 25
number_of BadParameter = 26

-- the diagnostic code that reports the error (profile)
abbrev pub diagnostic_of : PacketError → ℕ
diagnostic_of TooShort = 38
diagnostic_of BadFormat = 40
diagnostic_of Unidentified = 33
diagnostic_of TooLong = 39
diagnostic_of BadDigit = 0
diagnostic_of BadFacility = 65
diagnostic_of BadParameter = 66
