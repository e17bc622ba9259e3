use Rattle.x25_bits.proofs.CallsLemmas.{calls_found, calls_read}
use Rattle.x25_bits.proofs.laws.calls_find_all.Goals as goal

pub returns-clause-found : goal.returns-clause-found
returns-clause-found c = calls_found

pub returns-clause-read : goal.returns-clause-read
returns-clause-read c = calls_read
