use Rattle.x25_link.proofs.Names.{ℕ, ◌≡◌, false, ap, sym, refl, ◌∙◌, nat_lt, FitsStation, FitsSide, acknowledged, is_taken, takes, answers}
use Rattle.x25_link.proofs.{AckedLemmas.{answers_same, passed_same}, FitsLemmas.{received, taken_fits, busy_passes, other_passes, wanted_taken}}
use Rattle.x25_link.proofs.station.LinkStation.hear_i.Goals.{then-is_busy-via-then-is_busy, then-is_busy-via-else-is_busy+then-not-accept, then-p-via-then-p}
use Rattle.x25_link.proofs.station.LinkStation.hear_i.Goals.{then-p-via-else-p+then-not-pump_once, then-p, else-p+else-not-pump_once}
use Rattle.x25_link.proofs.station.LinkStation.hear_i.Goals as goal

pub returns-in_default-clause-step : goal.returns-in_default-clause-step
returns-in_default-clause-step c = λ d before t fits.
    let invalid = c.in_default.ensures.valid d t.near fits.near in
    let same = c.in_default.ensures.unchanged in
    rw (sym invalid) (c.reject.ensures.step d before t (rw same fits))

pub returns-then-is_busy-clause-step : goal.returns-then-is_busy-clause-step
returns-then-is_busy-clause-step c = λ d before t fits.
    let valid = c.in-Some.ensures.valid d t.near fits.near in
    let u = acknowledged c.args.nr.number t in
    let acked = c.in-Some.ensures.step d before _ t fits in
    let near : FitsStation d c.then-is_busy.self u.near = elim c.then-is_busy.branch [
      | then-is_busy-via-then-is_busy w ↦ rw w.self-is (acked.near)
      | then-is_busy-via-else-is_busy+then-not-accept w ↦
          rw w.self-is (received d _ u.near _ _ acked.near (w.if-not-accept.ensures.step _ acked.near.taken))
    ] in
    let passed : is_taken c.args.ns.number u.near ≡ false = elim c.then-is_busy.branch [
      | then-is_busy-via-then-is_busy w ↦ busy_passes _ u.near (w.if-is_busy.ensures d u.near acked.near)
      | then-is_busy-via-else-is_busy+then-not-accept w ↦
          other_passes _ u.near (w.if-not-accept.ensures.wanted _ acked.near.taken).1
    ] in
    rw (sym valid, passed) (record {
      side = c.pass_over.ensures.step d before u (record { near = near; out = acked.out });
      packet = rw c.numbered.ensures.packet refl;
      notes = c.numbered.ensures.notes;
      acknowledged =
          c.numbered.ensures.acknowledged ∙ c.in-Some.ensures.any d t.near fits.near
          ∙ ap (λ (n : ℕ). nat_lt t.near.outgoing.acked n) (sym (passed_same c.args.p u));
    })

pub returns-clause-step : goal.returns-clause-step
returns-clause-step c = λ d before t fits.
    let valid = c.in-Some.ensures.valid d t.near fits.near in
    let u = acknowledged c.args.nr.number t in
    let acked = c.in-Some.ensures.step d before _ t fits in
    let wanted = wanted_taken c.args.ns.number u.near (c.if-is_busy.ensures d u.near acked.near) ((c.if-not-accept.ensures.wanted _ acked.near.taken).0 refl) in
    let taken = takes c.args.info.now u in
    let fitted = taken_fits d _ before _ u _ c.args.info.now acked (c.if-not-accept.ensures.step _ acked.near.taken) in
    let side : FitsSide d c.if-p.self before c.if-p.out (answers d.window c.args.p taken) = elim c.if-p.branch [
      | then-p w ↦ elim w.then-p.branch [
        | then-p-via-then-p v ↦
            rw (w.self-is, w.out-is, v.if-p.true)
            (rw v.if-p.true at (w.ready.ensures.step d before taken (rw (v.self-is, v.out-is) fitted)))
        | then-p-via-else-p+then-not-pump_once v ↦
            let may = v.if-not-pump_once.ensures.sent d taken.near fitted.near in
            let none = rw (sym may) at (v.if-not-pump_once.ensures.step d before taken fitted) in
            rw (w.self-is, w.out-is, v.if-p.false, sym may)
            (rw v.if-p.false at (w.ready.ensures.step d before taken (rw (v.self-is, v.out-is) none)))
      ]
      | else-p+else-not-pump_once w ↦
          let may = w.if-not-pump_once.ensures.sent d taken.near fitted.near in
          rw (w.self-is, w.out-is, w.if-p.false, sym may) (rw (sym may) at (w.if-not-pump_once.ensures.step d before taken fitted))
    ] in
    rw (sym valid, wanted) (record {
      side = side;
      packet = rw c.numbered-2.ensures.packet refl;
      notes = c.numbered-2.ensures.notes;
      acknowledged =
          c.numbered-2.ensures.acknowledged ∙ c.in-Some.ensures.any d t.near fits.near
          ∙ ap (λ (n : ℕ). nat_lt t.near.outgoing.acked n) (sym (answers_same d.window c.args.p taken));
    })
