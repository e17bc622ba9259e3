use Rattle.std.{proofs.Common.{◌≡◌, ◌∙◌, ◌+◌, ◌-◌, Some, ap, arith, drop, inl, inr, length, set, subst, sym}, specs.Prelude.{slice_get}}
use Rattle.x25_c.proofs.{ItemLemmas.{at_drop}, TakeLemmas.{AreTaken, all_gone, events_are, octets_are, one_more, too_long}}
use Rattle.x25_c.specs.Item.{event_at, items_of, octets_at, plain_item}
use borrow.Rule.Slice.PartMut.{put_mid}
use Rattle.x25_c.proofs.taking.take_all.Goals as goal

pub returns-then-octets-room : goal.returns-then-octets-room
returns-then-octets-room c =
    let items = drop c.args.first (items_of c.args.held.now) in let i = c.loop-place.invariant in let place = c.loop-place.place in
    let found : slice_get items place ≡ Some (plain_item c.in-Some.item) =
    at_drop c.args.first (items_of c.args.held.now) place ∙ sym c.in-Some.ensures in record {
      there = i.there;
      events = events_are event_at octets_at items place _ _ _ _ _ i;
      octets = octets_are event_at octets_at items place _ _ _ _ _ i;
      most = inr (inr (inl (too_long event_at octets_at items place _ _ _ _ _ _ i found
          (omega (arith, c.if-octets-room.true, i.as_long, ap length c.octets-octets.ensures)))));
    }

pub returns-in_default : goal.returns-in_default
returns-in_default c =
    let items = drop c.args.first (items_of c.args.held.now) in let i = c.loop-place.invariant in let place = c.loop-place.place in record {
      there = i.there;
      events = events_are event_at octets_at items place _ _ _ _ _ i;
      octets = octets_are event_at octets_at items place _ _ _ _ _ i;
      most = inl (all_gone event_at octets_at items place i.there (at_drop c.args.first (items_of c.args.held.now) place ∙ sym c.in_default.ensures));
    }

pub loop-place-preserved : goal.loop-place-preserved
loop-place-preserved c =
    let items = drop c.args.first (items_of c.args.held.now) in let i = c.loop-place.invariant in let place = c.loop-place.place in
    let os = c.octets-octets.result.now in
    let found : slice_get items place ≡ Some (plain_item c.in-Some.item) = at_drop c.args.first (items_of c.args.held.now) place ∙ sym c.in-Some.ensures in
    let many : c.loop-place.filled + length os - c.loop-place.filled ≡ length os = omega arith in
    subst (λ xs. AreTaken event_at octets_at items (place + 1) (c.loop-place.filled + length os) c.args.events.now
    (set c.loop-place.events place c.event.result) c.args.room.now
    (put_mid c.loop-place.filled (c.loop-place.filled + length os - c.loop-place.filled) c.loop-place.room xs))
    (sym c.copy_from_slice.ensures.after)
    (one_more event_at octets_at items place c.loop-place.filled _ (plain_item c.in-Some.item) c.event.result os c.args.events.now c.loop-place.events
    c.args.room.now c.loop-place.room i found c.event.ensures c.octets-octets.ensures
    (omega (arith, c.loop-place-test.true, i.as_many)) many (omega (arith, c.if-octets-room.false, i.as_long)))
