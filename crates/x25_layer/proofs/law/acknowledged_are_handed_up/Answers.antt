use Rattle.x25_layer.proofs.{AcknowledgedLemmas.{always_acknowledged}, ApartLemmas.{always_apart}, Names.{Bool, Ranges, AcknowledgedAreHandedUp, Always}}
use Rattle.x25_layer.proofs.Ends.{Known}
use Rattle.x25_layer.proofs.law.acknowledged_are_handed_up.Goals as goal

-- what is known of packet sizes and windows
known : goal.After-apart_layers_keep_order → Known
known c = (let law = c.values_are_agreed.ensures in
    record {
      laws = record { said = law.said; no_field = law.no_field; proposal = law.proposal; answer = law.answer; terms = law.terms };
      field = law.field;
    })

over_links : goal.After-apart_layers_keep_order → (long_data : Bool) (channels : Ranges) → Always AcknowledgedAreHandedUp long_data channels
over_links c = always_acknowledged (known c)

pub returns-clause-over : goal.returns-clause-over
returns-clause-over c = over_links c

pub returns-clause-apart : goal.returns-clause-apart
returns-clause-apart c = λ long_data channels. always_apart AcknowledgedAreHandedUp long_data channels
    (c.apart_layers_keep_order.ensures.runs long_data channels) (over_links c long_data channels)
