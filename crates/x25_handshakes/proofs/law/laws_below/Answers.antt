use Rattle.x25_handshakes.proofs.law.laws_below.Goals as goal

pub returns : goal.returns
returns c = (let law = c.values_are_agreed.ensures in
    record { said = law.said; no_field = law.no_field; proposal = law.proposal; answer = law.answer; terms = law.terms })
