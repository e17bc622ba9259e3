use Rattle.x25_layer.proofs.{ClearLemmas.{never_in_p1}, CountLemmas.{always_counted}, Ends.{Known}}
use Rattle.x25_layer.proofs.law.names_are_told.Goals as goal

-- what is known of packet sizes and windows
known : goal.After-values_are_agreed → Known
known c = (let law = c.values_are_agreed.ensures in
    record {
      laws = record { said = law.said; no_field = law.no_field; proposal = law.proposal; answer = law.answer; terms = law.terms };
      field = law.field;
    })

pub returns : goal.returns
returns c = record { names = λ long_data channels. always_counted long_data channels (never_in_p1 (known c) long_data channels); clear = never_in_p1 (known c) }
