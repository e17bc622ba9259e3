use Rattle.x25_judge.proofs.verdicts.Innocents.{no_session_is_accused}
use Rattle.x25_judge.proofs.law.sessions_stay_untold.Goals as goal

pub returns : goal.returns
returns c = no_session_is_accused
