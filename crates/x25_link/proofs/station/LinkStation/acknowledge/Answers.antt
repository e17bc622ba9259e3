use Rattle.circular_buffer.specs.Buffer.{Buffer}
use Rattle.std.proofs.lemmas.Bool.{lt-leb}
use Rattle.x25_link.proofs.{FitsLemmas.{risen, not_risen}, Names.{ℕ, List, sym, ap, ◌∙◌, arith, sending_of}, OutgoingLemmas.{sent_length}}
use Rattle.x25_link.proofs.station.LinkStation.acknowledge.Goals as goal

pub returns-in_default-clause-valid : goal.returns-in_default-clause-valid
returns-in_default-clause-valid c = λ d s fits.
    let l = sent_length d.window _ s.outgoing fits.outgoing in
    let above = c.in_default.ensures.beyond (sending_of d.window s.outgoing) fits.outgoing.sender in
    sym (lt-leb _ _ (omega (arith, l, above)))

pub returns-then-count-eq0-clause-step : goal.returns-then-count-eq0-clause-step
returns-then-count-eq0-clause-step c = λ d before made t fits.
    not_risen d _ before made t c.in-Ok.count _ fits (omega arith) (c.in-Ok.ensures.resolves (sending_of d.window t.near.outgoing) fits.near.outgoing.sender)

pub returns-clause-step : goal.returns-clause-step
returns-clause-step c = λ d before made t fits.
    let o = t.near.outgoing in
    let outgoing = fits.near.outgoing in
    let number = c.in-Ok.ensures.resolves (sending_of d.window o) outgoing.sender in
    risen d _ _ before made t c.in-Ok.count _ fits (omega arith) number (record {
      sender = c.release.ensures.sender (sending_of d.window o) outgoing.sender;
      queue = ap (λ (b : Buffer (List ℕ)). b.items) c.release.ensures.queue ∙ outgoing.queue;
      sent = outgoing.sent;
      few = rw (c.release.ensures.queue) (outgoing.few);
    })
