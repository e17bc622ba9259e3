-- The logical channels: those that were seen since all began anew, and what each of the others is as.
use Rattle.std.specs.Prelude.{ℕ, suc, ◌-◌, ◌%◌, List, [], ◌++◌, length, map, replicate, Option, Some, None, unwrap_or}
use Rattle.std.specs.{Prelude.{◌≡◌, slice_index_or, slice_set}, Option.{option_map}}
use Rattle.x25_packet_judge.specs.Channel.{happens}
use Rattle.x25_packet_judge.specs.declared.{channel.Channel.{Channel}, channel.Event.{Event}}
use Rattle.x25_packet_judge.specs.declared.channel.Event.TheVariants.{Loss}

pub record Channels : Type 0 where
  pub seen : List (Option Channel)
  pub usual : Channel

abbrev pub all_alike : Channel → Channels
all_alike c = record { seen = []; usual = c }

-- numbers are 0 to 4,095
abbrev pub channel_of : ℕ → Channels → Channel
channel_of n cs = unwrap_or (slice_index_or cs.seen (n % 4096) None) cs.usual

-- with a place for this number
abbrev pub padded : ℕ → List (Option Channel) → List (Option Channel)
padded n seen = seen ++ replicate (suc n - length seen) None

abbrev pub put : ℕ → Channel → Channels → Channels
put n c cs = record { seen = slice_set (padded (n % 4096) cs.seen) (n % 4096) (Some c); usual = cs.usual }

-- to all of them
abbrev pub all_happens : Event → Channels → Channels
all_happens e cs = record { seen = map (option_map (happens e)) cs.seen; usual = happens e cs.usual }

-- where packets of all are missed, nothing changes
abbrev pub AreLost : Channels → Type 0
AreLost cs = all_happens Loss cs ≡ cs
