use Rattle.x25_link.proofs.{FrameCount.{take_sends_few, put_sends_one}, LinkLemmas.{few_wait, few_stand, window_is_small}}
use Rattle.x25_link.proofs.law.holds_few.Goals as goal

pub returns : goal.returns
returns c = record { wait = few_wait; stand = few_stand; window = window_is_small; take = take_sends_few; put = put_sends_one }
