use Rattle.x25_world.proofs.{Names.{inr, refl, sym}, SideLemmas.{few_put, shared_of, has_happened, is_refusal, side_stays}}
use Rattle.x25_world.proofs.acting.command.Goals as goal

pub returns-then-is_err-clause-acted : goal.returns-then-is_err-clause-acted
returns-then-is_err-clause-acted c = λ cfg w side.
    rw c.refuse.ensures.error (record {
      happened = tt;
      refused = inr refl;
      stays = rw c.reserve.ensures.same (side_stays c.args.at c.reserve.new.self side side.near);
    })

pub returns-in-Ok-clause-acted : goal.returns-in-Ok-clause-acted
returns-in-Ok-clause-acted c = λ cfg w side.
    let fits = side.near in
    let shared = rw (sym c.reserve.ensures.same) at (shared_of c.args.at c.reserve.new.self side) in
    let called = c.in-Ok.ensures.does in
    record {
      happened = rw c.put.ensures.line
          (has_happened cfg c.command.new.self _ c.command.new.out shared
          (called.state _ _ fits) (called.frames _ _ fits) (called.entries _ _ fits) (called.refused _ _ fits));
      refused = tt;
      stays = tt;
    }

pub returns-in-Err-clause-acted : goal.returns-in-Err-clause-acted
returns-in-Err-clause-acted c = λ cfg w side.
    let fits = side.near in
    let called = c.in-Err.ensures.does in
    record {
      happened = tt;
      refused = rw c.of_station.ensures (is_refusal cfg c.args.at w _ c.in-Err.error (called.refused _ _ fits));
      stays = rw c.reserve.ensures.same (side_stays c.args.at c.reserve.new.self side (called.stays _ _ fits));
    }

pub returns-in-Ok-clause-places : goal.returns-in-Ok-clause-places
returns-in-Ok-clause-places c = rw c.put.ensures.line (few_put 9 c.args.line.now c.reserve.new.self c.args.at _ c.reserve.ensures.few)
