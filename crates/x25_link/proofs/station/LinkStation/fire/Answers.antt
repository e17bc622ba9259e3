use Rattle.x25_link.proofs.Names.{◌≡◌, ◌+◌, true, false, refl, ap, ◌∙◌, arith, nat_lt, lt-ltb, le-ltb, with_near}
use Rattle.x25_link.proofs.{AckedLemmas.{none_fired}, FitsLemmas.{tries_fits}}
use Rattle.x25_link.proofs.station.LinkStation.fire.Goals as goal

pub returns-then-self-clause-step : goal.returns-then-self-clause-step
returns-then-self-clause-step c = λ d before t fits.
    let near = fits.near in
    let last : nat_lt t.near.tries d.retries ≡ false = le-ltb _ _ (omega arith) in
    rw last (c.give_up.ensures.step d before _ t fits)

pub returns-clause-step : goal.returns-clause-step
returns-clause-step c = λ d before t fits.
    let near = fits.near in
    let more : nat_lt t.near.tries d.retries ≡ true = lt-ltb _ _ (omega arith) in
    rw more (record {
      side = c.ask_again.ensures.step d before (with_near t (record t.near { tries = t.near.tries + 1 }))
          (record { near = tries_fits d _ t.near _ _ (ap (λ n. n + 1) near.tries) near; out = fits.out });
      packet = rw c.quiet.ensures.packet refl;
      notes = c.quiet.ensures.notes;
      acknowledged = c.quiet.ensures.acknowledged ∙ rw more at (none_fired d t);
    })
