use Rattle.x25_world.proofs.Names.{◌∙◌, Some, inl, inr, slice_get, refl, sym, ap, settings_from}
use Rattle.x25_world.proofs.SideLemmas.{few_put, few_changed, shared_of, has_arrived, none_arrives, none_taken, side_stays}
use Rattle.x25_world.proofs.acting.deliver.Goals as goal

pub returns-then-is_err-clause-acted : goal.returns-then-is_err-clause-acted
returns-then-is_err-clause-acted c = λ cfg w side.
    rw c.refuse.ensures.error (record {
      happened = tt;
      refused = inr refl;
      stays = rw c.reserve.ensures.same (side_stays c.args.at c.reserve.new.self side side.near);
    })

pub returns-in_default-clause-acted : goal.returns-in_default-clause-acted
returns-in_default-clause-acted c = λ cfg w side.
    let shared = rw (sym c.reserve.ensures.same) at (shared_of c.args.at c.reserve.new.self side) in
    let none = c.in_default.ensures.frame in
    rw c.refuse-in_default.ensures.error (record {
      happened = tt;
      refused = inl (none_arrives (settings_from c.args.at cfg) w w.back (none ∙ ap (λ l. slice_get l 0) shared.back));
      stays = rw (c.in_default.ensures.line, none_taken c.args.at c.reserve.new.self none, c.reserve.ensures.same)
          (side_stays c.args.at c.reserve.new.self side side.near);
    })

pub returns-clause-acted : goal.returns-clause-acted
returns-clause-acted c = λ cfg w side.
    let fits = side.near in
    let shared = rw (sym c.reserve.ensures.same) at (shared_of c.args.at c.reserve.new.self side) in
    let called = c.receive.ensures.does in
    let front = ap Some c.as_slice.ensures.value ∙ c.in-Some.ensures.frame ∙ ap (λ l. slice_get l 0) shared.back in
    record {
      happened = rw (c.keep.ensures, c.put.ensures.line, c.in-Some.ensures.line)
          (has_arrived cfg c.args.at c.receive.new.self c.reserve.new.self w w.back c.as_slice.result.now
          c.receive.new.out shared front
          (called.state _ _ fits) (called.frames _ _ fits) (called.entries _ _ fits));
      refused = tt;
      stays = tt;
    }

pub returns-clause-places : goal.returns-clause-places
returns-clause-places c = rw (c.keep.ensures, c.put.ensures.line, c.in-Some.ensures.line)
    (few_put 9 c.args.line.now _ c.args.at _ (few_changed 9 c.args.line.now c.reserve.new.self c.args.at _ c.reserve.ensures.few))
