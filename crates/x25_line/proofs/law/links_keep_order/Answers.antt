use Rattle.x25_line.proofs.{StationClaimLemmas.{keeps_order, keeps_lists, keeps_notes, goes_along, sends_no_frmr, sends_whole}, StationRuns.{once_before}}
use Rattle.x25_line.proofs.sessions.SessionUnasked.{stays_one_link}
use Rattle.x25_line.proofs.law.links_keep_order.Goals as goal

pub returns : goal.returns
returns c =
    let below = c.laws_below.ensures in
    let laws = below.healing.sessions.laws in
    record {
      order = keeps_order below.reads laws;
      lists = keeps_lists below.reads laws;
      notes = keeps_notes below.reads laws;
      window = goes_along below.reads laws;
      no_frmr = sends_no_frmr below.reads laws;
      whole = sends_whole below.reads laws;
      once = stays_one_link below.reads below.healing.sessions;
      before = once_before;
    }
