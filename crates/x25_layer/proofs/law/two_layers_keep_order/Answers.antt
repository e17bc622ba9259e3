use Rattle.x25_layer.proofs.{Ends.{Known}, LawLemmas.{always_in_order, always_quiet, always_lawful, always_arrives}}
use Rattle.x25_layer.proofs.law.two_layers_keep_order.Goals as goal

-- what is known of packet sizes and windows
known : goal.After-values_are_agreed → Known
known c = (let law = c.values_are_agreed.ensures in
    record {
      laws = record { said = law.said; no_field = law.no_field; proposal = law.proposal; answer = law.answer; terms = law.terms };
      field = law.field;
    })

pub returns : goal.returns
returns c = record { order = always_in_order (known c); quiet = always_quiet (known c); lawful = always_lawful (known c); arrives = always_arrives (known c) }
