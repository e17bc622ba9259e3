use Rattle.x25_station.proofs.{ClockLemmas.{up}, Names.{◌≡◌, drop, tells_link}}
use Rattle.x25_station.proofs.step.Step.tells_link.Given as goal

-- what is left tells it, where any entry does
abbrev pub invariant-loop-entry : goal.invariant-loop-entry
invariant-loop-entry l = up l.self.entries.lent (drop l.entry-index l.entry-items) ≡ tells_link l.self.entries.items
