use Rattle.x25_line.proofs.sessions.PeerSessionRuns.{h, lines, step_is, order_is, unmet_is, latest_is, idle_is}
use Rattle.x25_line.proofs.peers.any_peer_keeps_sessions.Goals as goal

pub returns : goal.returns
returns c =
    let reads = c.laws_below.ensures.reads in
    let rests = c.laws_below.ensures.healing.sessions in
    record {
      step = λ s low high w r. step_is reads rests high r;
      order = λ s low high w r. order_is reads rests high r;
      unmet = λ s low high w r. unmet_is reads rests high r;
      agree = λ s low high w r. latest_is reads rests high r;
      idle = λ s low high w r. idle_is reads rests high r;
      no_frmr = λ s low high w r. (lines reads rests high r).octets.frmr (λ never. never);
      asks = λ s low high w r. (h reads rests high r).tags;
    }
