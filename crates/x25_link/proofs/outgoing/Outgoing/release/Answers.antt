use Rattle.x25_link.proofs.{Names.{ℕ, ◌+◌, List, length, ap, ◌∙◌, arith, length-drop, Held}, OutgoingLemmas.{one_released}}
use Rattle.x25_link.proofs.PlaceLemmas.{goes, less_short, less_long, longs_few, first_of}
use Rattle.x25_window.specs.Sender.{acknowledged}
use Rattle.x25_link.proofs.outgoing.Outgoing.release.Goals as goal

pub loop-packet-preserved : goal.loop-packet-preserved
loop-packet-preserved c =
    let held = c.release-packet.ensures.held in
    let fewer = ap (λ (h : Held (List ℕ)). length h.items) held ∙ length-drop 1 c.loop-packet.self.sender.items in
    record {
      sender = λ w fits.
          let before = c.loop-packet.invariant.sender w fits in
          one_released _ w c.loop-packet._packet (c.release-packet.ensures.step (acknowledged w (w.acked + c.loop-packet._packet)) before);
      left = omega (arith, fewer, c.loop-packet.invariant.left, c.loop-packet-test.true, c.requires);
      queue = c.loop-packet.invariant.queue;
    }

pub give-requires-clause-short : goal.give-requires-clause-short
give-requires-clause-short c =
    let loop = c.loop-packet.self in
    (goes _ _ _ _ _ loop.sender.items _ _ (first_of loop.sender.items _ c.release-packet.ensures.item) (longs_few loop.queue.items) loop.short loop.long).0

pub give-requires-clause-long : goal.give-requires-clause-long
give-requires-clause-long c =
    let loop = c.loop-packet.self in
    (goes _ _ _ _ _ loop.sender.items _ _ (first_of loop.sender.items _ c.release-packet.ensures.item) (longs_few loop.queue.items) loop.short loop.long).1

pub invariant_of-self-clause-short : goal.invariant_of-self-clause-short
invariant_of-self-clause-short c =
    let loop = c.loop-packet.self in
    rw (ap (λ (h : Held (List ℕ)). h.items) c.release-packet.ensures.held)
    (less_short _ _ _ _ loop.sender.items _ _ (first_of loop.sender.items _ c.release-packet.ensures.item) c.give.ensures.short loop.short)

pub invariant_of-self-clause-long : goal.invariant_of-self-clause-long
invariant_of-self-clause-long c =
    let loop = c.loop-packet.self in
    rw (ap (λ (h : Held (List ℕ)). h.items) c.release-packet.ensures.held)
    (less_long _ _ _ _ _ loop.sender.items _ _ (first_of loop.sender.items _ c.release-packet.ensures.item) c.give.ensures.long c.give.ensures.long_ones
    loop.long)
