use Rattle.x25_link.proofs.Names.{◌||◌, ◌≡◌, ◌≤◌, Bool, false, length, subst, refl, ℕ, List, [], ◌∷◌, ◌++◌, sym, ap, ◌∙◌, arith, PlainFrame, spelling_of, added}
use Rattle.std.proofs.lemmas.Bool.{or_parts}
use Rattle.x25_link.proofs.{EndLemmas.{full_closed, true_false}, Names.{sending_of, Held}, OutgoingLemmas.{shut_by}}
use Rattle.x25_link.proofs.OutgoingLemmas.{parts, part_length, added_fits, full_shut, rests, next_is, new_fits, sent_length, new_frame, next_open, below_of}
use Rattle.x25_link.proofs.PlaceLemmas.{pushed, more_short, more_long, sent_short, sent_long}
use Rattle.x25_link.proofs.outgoing.Outgoing.put.Goals as goal

pub returns-then-held-is_full-clause-step : goal.returns-then-held-is_full-clause-step
returns-then-held-is_full-clause-step c = λ k o fits shuts _.
    let full = λ (free : c.args.held ≡ false). (c.is_full.ensures.state (sending_of k o) fits.sender).0 (sym (ap (λ (b : Bool). b || c.is_full.result) free) ∙ c.if-held-is_full.true) in
    let more = added_fits k _ _ o c.args.packet.now _ c.in-Some.ensures.packet (parts k _ o fits) c.requires.few in
    let waits = pushed _ _ _ c.push_back.ensures.items (omega (arith, c.requires.few, c.args.self.now.ring)) in
    rw (shut_by c.args.held _ (λ free. full_closed k (added c.args.packet.now o) (full_shut k _ _ o (parts k _ o fits) (shuts free) (full free)))) (record {
      sender = more.sender;
      queue = waits ∙ more.queue;
      sent = more.sent;
      few = subst (λ (m : List (List ℕ)). length m ≤ 256) (sym waits) more.few;
    })

pub returns-then-held-is_full-clause-made : goal.returns-then-held-is_full-clause-made
returns-then-held-is_full-clause-made c = λ k o fits shuts _.
    let full = λ (free : c.args.held ≡ false). (c.is_full.ensures.state (sending_of k o) fits.sender).0 (sym (ap (λ (b : Bool). b || c.is_full.result) free) ∙ c.if-held-is_full.true) in
    rw (shut_by c.args.held _ (λ free. full_closed k (added c.args.packet.now o) (full_shut k _ _ o (parts k _ o fits) (shuts free) (full free)))) refl

pub send_new-requires-clause-open : goal.send_new-requires-clause-open
send_new-requires-clause-open c = λ e.
    let test = or_parts c.args.held _ c.if-held-is_full.false in
    true_false (sym (c.is_full.ensures.held.1 e) ∙ test.1)

pub returns-clause-step : goal.returns-clause-step
returns-clause-step c = λ k o fits shuts _.
    let test = or_parts c.args.held _ c.if-held-is_full.false in
    let shut = shuts test.0 in
    let free = below_of _ _ fits.sender.sound.room (λ e. sym test.1 ∙ (c.is_full.ensures.state (sending_of k o) fits.sender).1 e) in
    let left = rests k _ _ o (parts k _ o fits) shut free in
    let more = added_fits k _ _ o c.args.packet.now _ c.in-Some.ensures.packet (parts k _ o fits) c.requires.few in
    let next = next_is k _ _ (added c.args.packet.now o) c.in-Some.packet [] more (ap (λ (m : List (List ℕ)). m ++ c.in-Some.packet ∷ []) left.none) in
    let l = sent_length k _ o fits in
    let room = part_length k _ _ (added c.args.packet.now o) more in
    let all = new_fits k _ _ _ (added c.args.packet.now o) _ _ more left.place next (omega arith)
    (c.send_new.ensures.step (sending_of k (added c.args.packet.now o)) more.sender (omega (arith, l, room, free))) in
    rw (test.0, next_open k _ _ (added c.args.packet.now o) _ _ more left.place next left.room)
    (record { sender = all.sender; queue = left.none ∙ all.queue; sent = all.sent; few = fits.few })

pub returns-clause-made : goal.returns-clause-made
returns-clause-made c = λ k o fits shuts _.
    let test = or_parts c.args.held _ c.if-held-is_full.false in
    let shut = shuts test.0 in
    let free = below_of _ _ fits.sender.sound.room (λ e. sym test.1 ∙ (c.is_full.ensures.state (sending_of k o) fits.sender).1 e) in
    let left = rests k _ _ o (parts k _ o fits) shut free in
    let more = added_fits k _ _ o c.args.packet.now _ c.in-Some.ensures.packet (parts k _ o fits) c.requires.few in
    let next = next_is k _ _ (added c.args.packet.now o) c.in-Some.packet [] more (ap (λ (m : List (List ℕ)). m ++ c.in-Some.packet ∷ []) left.none) in
    rw (test.0, next_open k _ _ (added c.args.packet.now o) _ _ more left.place next left.room)
    (c.send_new.ensures.made (sending_of k (added c.args.packet.now o)) more.sender
    ∙ ap (λ (f : PlainFrame). c.args.out.now ++ spelling_of c.args.from f ∷ []) (new_frame k _ _ (added c.args.packet.now o) _ _ _ more left.place next))

pub invariant_of-self-then-held-is_full-clause-short : goal.invariant_of-self-then-held-is_full-clause-short
invariant_of-self-then-held-is_full-clause-short c =
    more_short _ _ _ _ c.args.self.now.queue.items _ _ _ (pushed _ _ _ c.push_back.ensures.items (omega (arith, c.requires.few, c.args.self.now.ring))) c.in-Some.ensures.packet c.in-Some.ensures.short c.args.self.now.short

pub invariant_of-self-then-held-is_full-clause-long : goal.invariant_of-self-then-held-is_full-clause-long
invariant_of-self-then-held-is_full-clause-long c =
    more_long _ _ _ _ _ c.args.self.now.queue.items _ _ _ (pushed _ _ _ c.push_back.ensures.items (omega (arith, c.requires.few, c.args.self.now.ring))) c.in-Some.ensures.packet c.in-Some.ensures.long c.in-Some.ensures.long_ones
    c.args.self.now.long

pub invariant_of-self-2-clause-short : goal.invariant_of-self-2-clause-short
invariant_of-self-2-clause-short c =
    sent_short _ _ _ _ c.args.self.now.sender.items _ _ _ (ap (λ (h : Held (List ℕ)). h.items) c.send_new.ensures.held) c.in-Some.ensures.packet
    c.in-Some.ensures.short c.args.self.now.short

pub invariant_of-self-2-clause-long : goal.invariant_of-self-2-clause-long
invariant_of-self-2-clause-long c =
    sent_long _ _ _ _ _ c.args.self.now.sender.items _ _ _ (ap (λ (h : Held (List ℕ)). h.items) c.send_new.ensures.held) c.in-Some.ensures.packet
    c.in-Some.ensures.long c.in-Some.ensures.long_ones c.args.self.now.long
