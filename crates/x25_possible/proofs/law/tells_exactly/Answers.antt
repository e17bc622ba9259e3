use Rattle.x25_possible.proofs.Exactly.{finite_tells_exactly}
use Rattle.x25_possible.proofs.law.tells_exactly.Goals as goal

pub returns : goal.returns
returns types c = λ choices begun. finite_tells_exactly choices begun
