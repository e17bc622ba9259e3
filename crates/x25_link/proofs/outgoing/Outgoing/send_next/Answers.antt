use Rattle.x25_link.proofs.Names.{length, ℕ, List, [], ◌∷◌, ◌++◌, take, ap, ◌∙◌, sym, arith, le-ltb, PlainFrame, spelling_of, sending_of, Held}
use Rattle.x25_link.proofs.OutgoingLemmas.{parts, whole, again_frame, next_is, new_fits, sent_length, new_frame, below_of, advanced_items}
use Rattle.x25_link.proofs.PlaceLemmas.{popped, moves}
use Rattle.x25_link.proofs.outgoing.Outgoing.send_next.Goals as goal

pub returns-in-Some-clause-made : goal.returns-in-Some-clause-made
returns-in-Some-clause-made c = λ k o fits.
    c.push_packet.ensures
    ∙ ap (λ (f : PlainFrame). c.args.out.now ++ spelling_of c.args.from f ∷ [])
    (again_frame k _ _ o _ _ _ _ (parts k _ o fits) (c.in-Some.ensures.value (sending_of k o) fits.sender) c.as_slice.ensures.items)

pub returns-clause-step : goal.returns-clause-step
returns-clause-step c = λ k o fits.
    let value = c.in_default.ensures.value (sending_of k o) fits.sender in
    let all = value ∙ sent_length k _ o fits in
    let sender = rw (le-ltb o.place (length (take o.sent o.given)) (omega (arith, value))) at (c.next.follows.holds-at-none.1 (sending_of k o) fits.sender) in
    let next = next_is k _ _ o _ _ (parts k _ o fits) (popped c.args.self.now.queue _ _ _ c.in-Some-pop_front.ensures.value c.in-Some-pop_front.ensures.items) in
    let room = below_of _ _ fits.sender.sound.room (λ e. sym c.if-is_closed.false ∙ (c.is_full-is_closed.ensures.state (sending_of k o) fits.sender).1 e) in
    whole k _ _ (new_fits k _ _ _ o _ _ (parts k _ o fits) all next (omega (arith, fits.few, ap length (popped c.args.self.now.queue _ _ _ c.in-Some-pop_front.ensures.value c.in-Some-pop_front.ensures.items)))
    (c.send_new.ensures.step (sending_of k o) sender room))

pub returns-clause-made : goal.returns-clause-made
returns-clause-made c = λ k o fits.
    let value = c.in_default.ensures.value (sending_of k o) fits.sender in
    let all = value ∙ sent_length k _ o fits in
    let sender = rw (le-ltb o.place (length (take o.sent o.given)) (omega (arith, value))) at (c.next.follows.holds-at-none.1 (sending_of k o) fits.sender) in
    let next = next_is k _ _ o _ _ (parts k _ o fits) (popped c.args.self.now.queue _ _ _ c.in-Some-pop_front.ensures.value c.in-Some-pop_front.ensures.items) in
    c.send_new.ensures.made (sending_of k o) sender
    ∙ ap (λ (f : PlainFrame). c.args.out.now ++ spelling_of c.args.from f ∷ []) (new_frame k _ _ o _ _ _ (parts k _ o fits) all next)

pub invariant_of-self-2-clause-short : goal.invariant_of-self-2-clause-short
invariant_of-self-2-clause-short c =
    let held = ap (λ (h : Held (List ℕ)). h.items) c.next.follows.holds-at-none.0 ∙ advanced_items c.args.self.now.sender in
    let moved = moves c.args.self.now.sender.items _ c.args.self.now.queue.items _ _
    (ap (λ (h : Held (List ℕ)). h.items) c.send_new.ensures.held ∙ ap (λ (m : List (List ℕ)). m ++ c.in-Some-pop_front.packet ∷ []) held) (popped c.args.self.now.queue _ _ _ c.in-Some-pop_front.ensures.value c.in-Some-pop_front.ensures.items) in
    omega (arith, moved.count, moved.long, c.args.self.now.short)

pub invariant_of-self-2-clause-long : goal.invariant_of-self-2-clause-long
invariant_of-self-2-clause-long c =
    let held = ap (λ (h : Held (List ℕ)). h.items) c.next.follows.holds-at-none.0 ∙ advanced_items c.args.self.now.sender in
    let moved = moves c.args.self.now.sender.items _ c.args.self.now.queue.items _ _
    (ap (λ (h : Held (List ℕ)). h.items) c.send_new.ensures.held ∙ ap (λ (m : List (List ℕ)). m ++ c.in-Some-pop_front.packet ∷ []) held) (popped c.args.self.now.queue _ _ _ c.in-Some-pop_front.ensures.value c.in-Some-pop_front.ensures.items) in
    omega (arith, moved.long, c.args.self.now.long)
