use Rattle.x25_station.proofs.{HoldLemmas.{few_wait, few_stand, few_messages, few_joined, few_held}, OctetLemmas.{few_octets, few_in_all}}
use Rattle.x25_station.proofs.law.stations_hold_few.Goals as goal

pub returns : goal.returns
returns c =
    record {
      wait = few_wait;
      stand = few_stand c.holds_few.ensures.stand c.holds_few.ensures.window;
      messages = few_messages;
      joined = few_joined;
      held = few_held;
      octets = few_octets;
      octets_in_all = few_in_all;
    }
