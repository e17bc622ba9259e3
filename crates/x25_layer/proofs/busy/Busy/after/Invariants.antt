use Rattle.x25_layer.proofs.{BusyLemmas.{IsLeft}, Names.{◌-◌, ◌^◌, ◌<◌, length}}
use Rattle.x25_layer.proofs.busy.Busy.after.Given as goal

abbrev pub invariant-loop-left : goal.invariant-loop-left
invariant-loop-left l = record {
  here : l.at < length l.self.words.items;
  fits : l.left < 2 ^ 64;
  left : IsLeft l.self.words.items l.channel l.at l.left;
}

abbrev pub decreases-loop-left : goal.decreases-loop-left
decreases-loop-left l = length l.self.words.items - l.at
