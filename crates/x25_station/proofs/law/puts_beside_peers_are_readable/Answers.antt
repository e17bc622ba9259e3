use Rattle.x25_station.proofs.ReadLemmas as lemma
use Rattle.x25_station.proofs.law.puts_beside_peers_are_readable.Goals as goal

pub returns : goal.returns
returns c =
    let agreed = c.values_are_agreed.ensures in
    lemma.puts_beside_peers c.reading_is_the_grammar.ensures.spelled c.taking_keeps_octets.ensures.spelled
    (record { said = agreed.allowed; field = agreed.field; answer = agreed.answer; terms = agreed.terms })
