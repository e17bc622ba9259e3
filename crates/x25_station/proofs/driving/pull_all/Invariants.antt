use Rattle.x25_station.proofs.Names.{◌≡◌, ◌+◌, ◌*◌, ◌≤◌, true, LayerSettings, FitsLayer, Putting, LinkState, FitsWhole, limit_of, up_of, places_left, after_all}
use Rattle.x25_station.proofs.RoundLemmas.{Within}
use Rattle.x25_station.proofs.driving.pull_all.Given as goal

-- some rounds and a part of the next one are done
abbrev pub invariant-loop-left : goal.invariant-loop-left
invariant-loop-left l = record {
  up : up_of l.link ≡ true;
  longest : 4099 ≤ limit_of l.link;
  few : l.left ≤ 15;
  places : l.left ≤ places_left l.link.frames;
  high : l.channel ≤ 65535;
  within : (c : LayerSettings) (x : LinkState) (s : Putting) → FitsLayer c l.initial.layer s.layer → FitsWhole l.initial.link (after_all x s.put)
      → Within c x l.initial.turn s l.layer l.link l.channel l.left;
}

abbrev pub decreases-loop-left : goal.decreases-loop-left
decreases-loop-left l = l.left * 65536 + l.channel
