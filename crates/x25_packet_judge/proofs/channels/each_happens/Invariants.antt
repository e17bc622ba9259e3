use Rattle.std.proofs.Common.{◌≡◌, ◌++◌, map, take, drop}
use Rattle.std.specs.Option.{option_map}
use Rattle.x25_packet_judge.specs.Channel.{happens}
use Rattle.x25_packet_judge.proofs.channels.each_happens.Given as goal

-- those in front are changed
abbrev pub invariant-loop-place : goal.invariant-loop-place
invariant-loop-place l =
    l.place-items ≡ map (option_map (happens l.event)) (take l.place-index l.initial.place-items) ++ drop l.place-index l.initial.place-items
