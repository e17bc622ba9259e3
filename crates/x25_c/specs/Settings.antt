-- The settings of a station, as C hands them over (profile): each is that of the station, and one that this version
-- doesn't know is 0.
use Rattle.std.specs.Prelude.{ℕ, ◌==◌, ◌&&◌, if◌then◌else◌, Option, Some, None}
use Rattle.x25_station.specs.declared.config.Cfg.{Cfg}
use Rattle.x25_c.specs.declared.settings.Settings.{Settings}

-- the most octets of a message: 65,535 where none is given
abbrev pub message_in : Settings → ℕ
message_in s = if s.message == 0 then 65535 else s.message

abbrev pub cfg_of : Settings → Cfg
cfg_of s = record {
  k = s.k;
  n2 = s.n2;
  channels = record {
    count = s.channels;
    incoming = s.incoming;
    outgoing = s.outgoing;
    message = message_in s;
  };
  long_data = s.long_data;
  say_sizes = s.say_sizes;
  wide = s.wide;
}

abbrev pub cfg_in : Settings → Option Cfg
cfg_in s = if s.later == 0 && s.more == 0 then Some (cfg_of s) else None
