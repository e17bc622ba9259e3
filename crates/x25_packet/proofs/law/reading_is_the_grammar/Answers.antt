use Rattle.std.proofs.Common.{ℕ, ◌<◌, List, length, inl, inr, arith, get_or}
use Rattle.std.proofs.lemmas.Bool.{cases_lt}
use Rattle.std.proofs.Math.ListN.{get_or-eq_default}
use Rattle.std.specs.Prelude.{All}
use Rattle.x25_packet.proofs.NarrowLaws.{found_written, only_written}
use Rattle.x25_packet.proofs.AgainLaws.{only_found}
use Rattle.x25_packet.proofs.FaultLaws.{fault_first}
use Rattle.x25_packet.proofs.FoundLaws.{found_spells}
use Rattle.x25_packet.proofs.law.reading_is_the_grammar.Goals as goal

each_small : (octets : List ℕ) → All (λ octet. octet < 256) octets → (k : ℕ) → get_or octets k 0 < 256
each_small octets small k = elim (cases_lt k (length octets)) [
  | inl low ↦ small k 0 low
  | inr high ↦ rw (get_or-eq_default octets 0 high) (omega arith)
]

pub returns-clause-spelled : goal.returns-clause-spelled
returns-clause-spelled c = λ most v octets small. (found_written most octets (each_small octets small) v, only_written most octets v)

pub returns-clause-form : goal.returns-clause-form
returns-clause-form c = λ forms most w octets small. (found_spells forms most octets w (each_small octets small), only_found forms most octets w)

pub returns-clause-error : goal.returns-clause-error
returns-clause-error c = λ most octets e small. fault_first most octets e (each_small octets small)
