use Rattle.x25_link.proofs.Names.{ℕ, ap, sym, refl, false, ◌∙◌, nat_lt, acknowledged, peer_is, goes_back}
use Rattle.x25_link.proofs.{AckedLemmas.{polls_same}, FitsLemmas.{peer_fits, back_fits}}
use Rattle.x25_link.proofs.station.LinkStation.hear_rej.Goals as goal

pub returns-in_default-clause-step : goal.returns-in_default-clause-step
returns-in_default-clause-step c = λ d before t fits.
    let invalid = c.in_default.ensures.valid d t.near fits.near in
    let same = c.in_default.ensures.unchanged in
    rw (sym invalid) (c.reject.ensures.step d before t (rw same fits))

pub returns-clause-step : goal.returns-clause-step
returns-clause-step c = λ d before t fits.
    let valid = c.in-Some.ensures.valid d t.near fits.near in
    let u = acknowledged c.args.nr.number t in
    let acked = c.in-Some.ensures.step d before _ t fits in
    let peer = peer_fits d _ before _ u false acked in
    let back = back_fits d _ _ before _ (peer_is false u) peer (c.go_back.ensures.state d.window u.near.outgoing acked.near.outgoing) in
    rw (sym valid) (record {
      side = c.poll.ensures.step d before (goes_back (peer_is false u)) back;
      packet = rw c.numbered.ensures.packet refl;
      notes = c.numbered.ensures.notes;
      acknowledged =
          c.numbered.ensures.acknowledged ∙ c.in-Some.ensures.any d t.near fits.near
          ∙ ap (λ (n : ℕ). nat_lt t.near.outgoing.acked n) (sym (polls_same c.args.command c.args.pf (goes_back (peer_is false u))));
    })
