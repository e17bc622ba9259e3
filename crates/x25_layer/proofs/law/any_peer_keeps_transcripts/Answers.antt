use Rattle.x25_layer.proofs.{Ends.{Known}, PeerRuns.{all_in_order, finds_no_error, all_have_arrived}}
use Rattle.x25_layer.proofs.law.any_peer_keeps_transcripts.Goals as goal

-- what is known of packet sizes and windows
known : goal.After-values_are_agreed → Known
known c = (let law = c.values_are_agreed.ensures in
    record {
      laws = record { said = law.said; no_field = law.no_field; proposal = law.proposal; answer = law.answer; terms = law.terms };
      field = law.field;
    })

pub returns : goal.returns
returns c = record { quiet = finds_no_error (known c); order = all_in_order (known c); arrived = all_have_arrived (known c) }
