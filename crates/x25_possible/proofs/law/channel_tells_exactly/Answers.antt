use Rattle.x25_possible.specs.Channel.{channel_rules, channel_choices}
use Rattle.x25_possible.proofs.ChannelLaws.{IsAsGood, channel_favourites}
use Rattle.x25_possible.proofs.Exactly.{tells_exactly}
use Rattle.x25_possible.proofs.law.channel_tells_exactly.Goals as goal

pub returns : goal.returns
returns c = λ role begun.
    tells_exactly (channel_rules role begun) (channel_choices role) begun IsAsGood (channel_favourites role begun)
