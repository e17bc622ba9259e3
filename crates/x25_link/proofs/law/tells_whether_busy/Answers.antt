use Rattle.x25_link.proofs.rows.BusyRows.{take_says_busy, put_says_busy, timer_says_busy}
use Rattle.x25_link.proofs.law.tells_whether_busy.Goals as goal

pub returns : goal.returns
returns c = record { take = take_says_busy; put = put_says_busy; timer = timer_says_busy }
