use Rattle.x25_link.proofs.{Names.{◌≡◌, ◌+◌, ℕ, List, length, ap, subst, ◌∙◌, arith, Held, Fits, sending_of}, OutgoingLemmas.{nothing_left}}
use Rattle.x25_link.{proofs.PlaceLemmas.{popped, goes, less_short, less_long, longs_few}, specs.code.Places.{longs}}
use Rattle.x25_window.specs.Sender.{fresh}
use Rattle.x25_link.proofs.outgoing.Outgoing.clear.Goals as goal

pub give-requires-clause-short : goal.give-requires-clause-short
give-requires-clause-short c =
    let loop = c.loop-packet.self in
    let short : loop.places.short.left + (length loop.queue.items + length loop.sender.items) ≡ 263 + (longs loop.queue.items + longs loop.sender.items) =
    omega (arith, loop.short) in
    let long : loop.places.long.left + (longs loop.queue.items + longs loop.sender.items) ≡ loop.places.long.all = omega (arith, loop.long) in
    (goes _ _ _ _ _ loop.queue.items _ _ (popped loop.queue _ _ _ c.in-Some.ensures.value c.in-Some.ensures.items) (longs_few loop.sender.items) short long).0

pub give-requires-clause-long : goal.give-requires-clause-long
give-requires-clause-long c =
    let loop = c.loop-packet.self in
    let short : loop.places.short.left + (length loop.queue.items + length loop.sender.items) ≡ 263 + (longs loop.queue.items + longs loop.sender.items) =
    omega (arith, loop.short) in
    let long : loop.places.long.left + (longs loop.queue.items + longs loop.sender.items) ≡ loop.places.long.all = omega (arith, loop.long) in
    (goes _ _ _ _ _ loop.queue.items _ _ (popped loop.queue _ _ _ c.in-Some.ensures.value c.in-Some.ensures.items) (longs_few loop.sender.items) short long).1

pub invariant_of-self-clause-short : goal.invariant_of-self-clause-short
invariant_of-self-clause-short c =
    let loop = c.loop-packet.self in
    let short : loop.places.short.left + (length loop.queue.items + length loop.sender.items) ≡ 263 + (longs loop.queue.items + longs loop.sender.items) =
    omega (arith, loop.short) in
    let less = less_short _ _ _ _ loop.queue.items _ _ (popped loop.queue _ _ _ c.in-Some.ensures.value c.in-Some.ensures.items) c.give.ensures.short short in
    omega (arith, less)

pub invariant_of-self-clause-long : goal.invariant_of-self-clause-long
invariant_of-self-clause-long c =
    let loop = c.loop-packet.self in
    let long : loop.places.long.left + (longs loop.queue.items + longs loop.sender.items) ≡ loop.places.long.all = omega (arith, loop.long) in
    let less = less_long _ _ _ _ _ loop.queue.items _ _ (popped loop.queue _ _ _ c.in-Some.ensures.value c.in-Some.ensures.items) c.give.ensures.long c.give.ensures.long_ones long in
    omega (arith, less)

pub returns : goal.returns
returns c = record {
  state = λ k o fits.
      let none = nothing_left c.loop-packet.self.queue.items (omega (arith, c.loop-packet.invariant.left, c.loop-packet-test.false, c.len-waiting.ensures.len)) in
      record {
        sender = subst (λ (n : ℕ). Fits c.clear.new.self (fresh n))
            (ap (λ (h : Held (List ℕ)). h.window) c.loop-packet.invariant.sender ∙ (c.release.ensures.sender (sending_of k o) fits.sender).window)
            c.clear.ensures.held;
        queue = none;
        sent = omega arith;
        few = omega (arith, ap length none);
      };
}
