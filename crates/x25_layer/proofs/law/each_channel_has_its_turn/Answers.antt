use Rattle.x25_layer.proofs.FairLemmas.{each_has_its_turn}
use Rattle.x25_layer.proofs.law.each_channel_has_its_turn.Goals as goal

pub returns : goal.returns
returns c = record { turn = each_has_its_turn }
