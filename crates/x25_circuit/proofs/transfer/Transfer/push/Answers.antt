use Rattle.x25_circuit.proofs.{MessageLemmas.{cut_all_push}, Names.{rules, ◌≡◌, ◌++◌, ◌∷◌, [], List, sym, ap, ◌∙◌, Message, Piece, cut, cut_all, waiting}}
use Rattle.x25_circuit.proofs.{NumbersLemmas.{asked_more}, TalkLemmas.{queue_fits}}
use Rattle.x25_circuit.proofs.transfer.Transfer.push.Goals as goal

pub returns-clause-fits : goal.returns-clause-fits
returns-clause-fits c = λ size t fits.
    let message : Message = record { marks = c.args.marks; user = c.args.user.now } in
    let same : c.of.result ≡ message = search rules in
    let queued = c.push.ensures ∙ ap (λ (ms : List Message). ms ++ c.of.result ∷ []) c.in_ok-memory.ensures.same
    ∙ ap (λ (m : Message). waiting c.args.self.now.queue ++ m ∷ []) same in
    queue_fits size c.args.self.now t c.push.new.self (t.rest ++ cut size c.args.marks c.args.user.now) c.saturating_add-self.result fits
    (ap (λ (ps : List Piece). ps ++ cut size c.args.marks c.args.user.now) fits.rest
    ∙ sym (ap (cut_all size) queued ∙ cut_all_push size (waiting c.args.self.now.queue) message))
    (asked_more size c.args.self.now t c.args.marks c.args.user.now c.from.result c.saturating_add-self.result c.requires.few c.from.ensures
    c.saturating_add-self.ensures fits)
