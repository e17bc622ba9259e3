use Rattle.x25_station.proofs.{KeepLemmas.{LinkLaws}, StillLemmas.{reset_leads_on, rotation_leads_on, clear_leads_on, restart_leads_on, nothing_leads_back, end_is_told}}
use Rattle.x25_station.proofs.WayOutLemmas.{relink_leads_on, firing_leads_on}
use Rattle.x25_station.proofs.law.ways_out_lead_on.Goals as goal

known : goal.After-notes_what_changes → LinkLaws
known c = record {
  put = c.notes_what_changes.ensures.put;
  take = c.notes_what_changes.ensures.take;
  take_continues = c.notes_what_changes.ensures.take_continues;
  take_hands_up = c.notes_what_changes.ensures.take_hands_up;
  timer = c.notes_what_changes.ensures.timer;
  timer_continues = c.notes_what_changes.ensures.timer_continues;
  connect = c.notes_what_changes.ensures.connect;
  disconnect = c.notes_what_changes.ensures.disconnect;
  abandon = c.notes_what_changes.ensures.abandon;
  relink = c.notes_what_changes.ensures.relink;
}

pub returns : goal.returns
returns c = record {
  reset = reset_leads_on (known c).put;
  rotation = rotation_leads_on (known c).put;
  clear = clear_leads_on (known c).put;
  restart = restart_leads_on (known c).put;
  relink = relink_leads_on c.sets_up_by_rows.ensures.connects c.sets_up_by_rows.ensures.relinks;
  firing = firing_leads_on c.sets_up_by_rows.ensures.timer;
  back = nothing_leads_back (known c);
  told = end_is_told (known c);
}
