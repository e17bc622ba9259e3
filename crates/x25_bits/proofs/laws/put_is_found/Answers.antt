use Rattle.x25_bits.proofs.LawLemmas.{each_small, put_found_behind}
use Rattle.x25_bits.proofs.laws.put_is_found.Goals as goal

pub returns : goal.returns
returns c = λ before octets small low high. put_found_behind before octets (each_small octets small) low high
