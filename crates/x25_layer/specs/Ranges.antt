-- The ranges of logical channels, by who calls on them (Annex A), and the most octets of a message on them (profile).
use Rattle.std.specs.Prelude.{ℕ, ◌+◌, Bool, nat_le, nat_lt, ◌&&◌}
use Rattle.x25_bits.specs.declared.role.Role.{Role}
use Rattle.x25_bits.specs.declared.role.Role.TheVariants.{Dte, Dce}
use Rattle.x25_layer.specs.declared.ranges.Ranges.{Ranges}

-- one of the numbers from 1 to the first
abbrev pub is_number : ℕ → ℕ → Bool
is_number most h = nat_le 1 h && nat_le h most

-- channels 1 to their number are configured
abbrev pub is_channel : Ranges → ℕ → Bool
is_channel channels h = is_number channels.count h

-- a DTE doesn't call on a channel that is one-way incoming, nor a DCE on one that is one-way outgoing
abbrev pub may_call : Role → Ranges → ℕ → Bool
may_call Dte channels h = nat_lt channels.incoming h
may_call Dce channels h = nat_le (h + channels.outgoing) channels.count

abbrev pub two_way : ℕ → Ranges
two_way count = record { count = count; incoming = 0; outgoing = 0; message = 65535 }

-- there are 1 to 4,095 channels, no more are one-way than there are, and a message may have an octet (profile)
abbrev pub are_ranges : Ranges → Bool
are_ranges channels = is_number 4095 channels.count
    && (nat_le (channels.incoming + channels.outgoing) channels.count && nat_le 1 channels.message)
