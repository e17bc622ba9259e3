use Rattle.x25_packet.proofs.TakingLaws.{takes_what_is_written, takes_what_is_spelled, takes_on_its_channel, takes_its_user_data, takes_all_behind_three}
use Rattle.x25_packet.proofs.TakingLaws.{takes_in_range}
use Rattle.x25_packet.proofs.law.taking_keeps_octets.Goals as goal

pub returns : goal.returns
returns c = record {
  written = takes_what_is_written;
  spelled = takes_what_is_spelled;
  channel = takes_on_its_channel;
  octets = takes_its_user_data;
  user = takes_all_behind_three;
  range = takes_in_range;
}
