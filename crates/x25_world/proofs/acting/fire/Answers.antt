use Rattle.x25_world.proofs.Names.{refl, sym, ap, inl, inr, ◌∙◌, settings_from, refusal_of}
use Rattle.x25_world.proofs.SideLemmas.{few_put, shared_of, has_happened, is_refusal, side_stays, holds_back, lets_fire}
use Rattle.x25_world.proofs.acting.fire.Goals as goal

pub returns-then-awaits_frames-clause-acted : goal.returns-then-awaits_frames-clause-acted
returns-then-awaits_frames-clause-acted c = λ cfg w side.
    let held = holds_back (settings_from c.args.at cfg) w (sym (c.awaits_frames.ensures cfg w side) ∙ c.if-awaits_frames.true) in
    rw c.refuse.ensures.error (record {
      happened = tt;
      refused = inl (ap refusal_of held);
      stays = side;
    })

pub returns-then-is_err-clause-acted : goal.returns-then-is_err-clause-acted
returns-then-is_err-clause-acted c = λ cfg w side.
    rw c.refuse-then-is_err.ensures.error (record {
      happened = tt;
      refused = inr refl;
      stays = rw c.reserve.ensures.same (side_stays c.args.at c.reserve.new.self side side.near);
    })

pub returns-in-Ok-clause-acted : goal.returns-in-Ok-clause-acted
returns-in-Ok-clause-acted c = λ cfg w side.
    let fires = lets_fire (settings_from c.args.at cfg) w (sym (c.awaits_frames.ensures cfg w side) ∙ c.if-awaits_frames.false) in
    let fits = side.near in
    let shared = rw (sym c.reserve.ensures.same) at (shared_of c.args.at c.reserve.new.self side) in
    let called = c.in-Ok.ensures.does in
    record {
      happened = rw (fires, c.put.ensures.line)
          (has_happened cfg c.t1.new.self _ c.t1.new.out shared
          (called.state _ _ fits) (called.frames _ _ fits) (called.entries _ _ fits) (called.refused _ _ fits));
      refused = tt;
      stays = tt;
    }

pub returns-in-Err-clause-acted : goal.returns-in-Err-clause-acted
returns-in-Err-clause-acted c = λ cfg w side.
    let fires = lets_fire (settings_from c.args.at cfg) w (sym (c.awaits_frames.ensures cfg w side) ∙ c.if-awaits_frames.false) in
    let fits = side.near in
    let called = c.in-Err.ensures.does in
    record {
      happened = tt;
      refused = rw (fires, c.of_station.ensures) (is_refusal cfg c.args.at w _ c.in-Err.error (called.refused _ _ fits));
      stays = rw c.reserve.ensures.same (side_stays c.args.at c.reserve.new.self side (called.stays _ _ fits));
    }

pub returns-in-Ok-clause-places : goal.returns-in-Ok-clause-places
returns-in-Ok-clause-places c = rw c.put.ensures.line (few_put 9 c.args.line.now c.reserve.new.self c.args.at _ c.reserve.ensures.few)
