use Rattle.x25_layer.proofs.{Ends.{Known}, PeerRuns.{layers_are_ends}}
use Rattle.x25_layer.proofs.law.layers_are_ends.Goals as goal

-- what is known of packet sizes and windows
known : goal.After-values_are_agreed → Known
known c = (let law = c.values_are_agreed.ensures in
    record {
      laws = record { said = law.said; no_field = law.no_field; proposal = law.proposal; answer = law.answer; terms = law.terms };
      field = law.field;
    })

pub returns : goal.returns
returns c = layers_are_ends (known c)
