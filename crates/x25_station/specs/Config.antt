-- The settings of a station (profile), and with them those of its link and of its packet layer.
use Rattle.std.specs.Prelude.{ℕ, Bool, nat_le, ◌&&◌, if◌then◌else◌, Option, Some, None}
use Rattle.x25_bits.specs.declared.role.Role.{Role}
use Rattle.x25_link.specs.Station.{LinkSettings}
use Rattle.x25_layer.specs.declared.ranges.Ranges.{Ranges}
use Rattle.x25_layer.specs.Ranges.{are_ranges}
use Rattle.x25_layer.specs.Layer.{LayerSettings}
use Rattle.x25_layer.specs.laws.TwoLayers.{settings_of}
use Rattle.x25_station.specs.declared.config.Cfg.{Cfg}
use Rattle.x25_station.specs.declared.config.Manner.{Manner}
use Rattle.x25_station.specs.declared.error.StationError.{StationError}
use Rattle.x25_station.specs.declared.error.StationError.TheVariants as error

-- which end it is, k and N2 of the link (sections 2.4.8.6 and 2.4.8.4), how many channels are configured, whether the
-- user data of a CALL may be long, whether calls and acceptances say all packet sizes and windows, and whether packets
-- are read in all their forms and DISC is sent again until it is answered
pub record Settings : Type 0 where
  pub role : Role
  pub window : ℕ
  pub retries : ℕ
  pub channels : Ranges
  pub long_data : Bool
  pub say_sizes : Bool
  pub wide : Bool

abbrev pub settings_from : Role → Cfg → Settings
settings_from role cfg = record {
  role = role;
  window = cfg.k;
  retries = cfg.n2;
  channels = cfg.channels;
  long_data = cfg.long_data;
  say_sizes = cfg.say_sizes;
  wide = cfg.wide;
}

-- k is 1 to 7, N2 1 to 255, and there are 1 to 4,095 channels
abbrev pub config_refusal : Cfg → Option StationError
config_refusal cfg = if nat_le 1 cfg.k && (nat_le cfg.k 7
    && (nat_le 1 cfg.n2 && are_ranges cfg.channels)) then None else Some error.BadConfig

-- N1 is 4,099 octets: the longest data packet, with its header of three octets
abbrev pub longest_packet : ℕ
longest_packet = 4099

abbrev pub link_settings : Settings → LinkSettings
link_settings c = record {
  role = c.role;
  window = c.window;
  longest = longest_packet;
  retries = c.retries;
  disc_again = c.wide;
}

abbrev pub layer_settings : Settings → LayerSettings
layer_settings c = settings_of c.role c.long_data c.channels

-- how it writes and reads packets
abbrev pub manner_of : Settings → Manner
manner_of c = record { say_sizes = c.say_sizes; wide = c.wide }
