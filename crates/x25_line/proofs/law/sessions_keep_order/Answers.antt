use Rattle.x25_line.proofs.sessions.TwoSessions.{throughout_of, in_step, orders, unmet, begun, latest, agree, idle_has_arrived}
use Rattle.x25_line.proofs.{sessions.SessionUnasked.{none_begin_unasked}, sessions.SessionRuns.{each_stands, standing_goes_along, never_frmr, send_whole}}
use Rattle.x25_line.proofs.sessions.SessionEvents.{each_event_meets_latest}
use Rattle.x25_line.proofs.law.sessions_keep_order.Goals as goal

pub returns : goal.returns
returns c =
    let below = c.laws_below.ensures in
    let laws = below.healing.sessions in
    record {
      step = throughout_of below.reads laws _ (in_step below.reads laws);
      order = throughout_of below.reads laws _ (orders below.reads laws);
      unmet = throughout_of below.reads laws _ (unmet below.reads laws);
      begun = throughout_of below.reads laws _ (begun below.reads laws);
      stands = each_stands below.reads laws;
      machine = standing_goes_along below.reads laws;
      latest = throughout_of below.reads laws _ (latest below.reads laws);
      agree = throughout_of below.reads laws _ (agree below.reads laws);
      meets = each_event_meets_latest below.reads laws below.hands_up;
      idle = idle_has_arrived below.reads laws;
      unasked = none_begin_unasked below.reads laws;
      no_frmr = never_frmr below.reads laws;
      whole = send_whole below.reads laws;
    }
