use Rattle.x25_judge.proofs.verdicts.Beginnings.{set_ups_begin}
use Rattle.x25_judge.proofs.law.set_ups_begin.Goals as goal

pub returns : goal.returns
returns c = set_ups_begin
