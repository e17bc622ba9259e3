use Rattle.x25_pipe.proofs.ClockedLemmas.{event_is_done, due_is_done}
use Rattle.x25_pipe.proofs.DueLemmas.{nothing_is_due}
use Rattle.x25_pipe.proofs.WatchedLemmas.{pipe_is_watched}
use Rattle.x25_pipe.specs.laws.ClockedLaw.{EventIsDone}
use Rattle.x25_pipe.proofs.law.clock_is_obeyed.Goals as goal

pub returns : goal.returns
returns c =
    let station = c.stations_ask_or_rest.ensures in
    let heeded = c.pulls_are_heeded_at_once.ensures in
    let event : EventIsDone = event_is_done station.pulled station.stays heeded in
    record {
      event = event;
      due = due_is_done station.pulled station.stays heeded;
      nothing = nothing_is_due;
      watched = pipe_is_watched event station.new station.stays c.awaited_deadlines_are_true.ensures.so c.awaited_deadlines_are_true.ensures.stays;
    }
