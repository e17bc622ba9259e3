use Rattle.x25_joined.proofs.Answered.{answer_is_written, clock_is_obeyed, silence_is_written}
use Rattle.x25_joined.proofs.law.timed_programs_obey_their_clock.Goals as goal

pub returns : goal.returns
returns c =
    let s = c.stations_ask_or_rest.ensures in
    let p = c.clock_is_obeyed.ensures in
    let so = c.awaited_deadlines_are_true.ensures.so in
    record {
      clock = clock_is_obeyed s.new s.stays s.pulled p.event p.due p.nothing p.watched so;
      answers = answer_is_written s.new s.stays s.pulled p.event p.due p.nothing p.watched so c.answers_are_told.ensures;
      silence = silence_is_written s.new s.stays s.pulled p.event p.due p.nothing p.watched so c.silence_is_told.ensures.ends;
    }
