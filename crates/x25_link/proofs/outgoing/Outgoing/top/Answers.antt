use Rattle.x25_link.proofs.{Names.{ap, ◌∙◌, ◌%◌, sending_of}, OutgoingLemmas.{sent_length}}
use Rattle.x25_link.proofs.outgoing.Outgoing.top.Goals as goal

pub returns : goal.returns
returns c = λ k o fits. c.top.ensures (sending_of k o) fits.sender ∙ ap (λ n. n % 8) (sent_length k _ o fits)
