use Rattle.x25_line.specs.laws.LawsBelow.{Laws}
use Rattle.x25_peer.proofs.sessions.BesideSessionRuns.{meet_in_step, met_in_order, unmet_are_told_nothing, each_meets_latest, up_is_latest, idle_has_arrived}
use Rattle.x25_peer.proofs.sessions.{BesideSessionRuns.{finds_no_error}, SessionLinks.{lists_stand}, Standing.{Below}}
use Rattle.x25_peer.proofs.law.any_peer_keeps_stations_over_sessions.Goals as goal

-- of links, as `x25_line` asks it
links_below : goal.After-notes_what_changes → Laws
links_below c =
    let law = c.follows_the_window.ensures in
    let rows = c.sets_up_by_rows.ensures in
    let notes = c.notes_what_changes.ensures in
    record {
      window = record {
        take = law.take;
        put = law.put;
        timer = law.timer;
        disconnect = law.disconnect;
        abandon = law.abandon;
        take_out = law.take_out;
        disconnect_out = law.disconnect_out;
      };
      set_up = record {
        waits = rows.waits;
        sets_up = rows.sets_up;
        connects = rows.connects;
        timer = rows.timer;
        disconnects = rows.disconnects;
        closes = rows.closes;
        timer_closes = rows.timer_closes;
      };
      take_tells = notes.take;
      timer_tells = notes.timer;
      disconnect_tells = notes.disconnect;
      abandon_tells = notes.abandon;
    }

known : goal.After-notes_what_changes → Below
known c = record {
  step = c.any_peer_keeps_sessions.ensures.step;
  order = c.any_peer_keeps_sessions.ensures.order;
  unmet = c.any_peer_keeps_sessions.ensures.unmet;
  agree = c.any_peer_keeps_sessions.ensures.agree;
  idle = c.any_peer_keeps_sessions.ensures.idle;
  asks = c.any_peer_keeps_sessions.ensures.asks;
  lists = lists_stand c.reads_what_is_spelled.ensures.reads
      (record { laws = links_below c; continues = c.notes_what_changes.ensures.take_continues });
  readable = c.puts_beside_peers_are_readable.ensures;
  request = c.steps_are_joined.ensures.request;
  given = c.steps_are_joined.ensures.given;
  given_read = c.what_is_given_is_told.ensures.read;
  receive = c.steps_are_joined.ensures.receive;
  still = c.steps_are_joined.ensures.quiet;
  down = c.steps_are_joined.ensures.down;
  up = c.steps_are_joined.ensures.up;
  timer = c.steps_keep_bounds.ensures.timer;
  ask = c.steps_keep_bounds.ensures.request;
  give = c.steps_keep_bounds.ensures.given;
  command = c.steps_keep_bounds.ensures.command;
  takes = c.steps_keep_bounds.ensures.receive;
  take_tells = c.notes_what_changes.ensures.take;
  take_hands_up = c.notes_what_changes.ensures.take_hands_up;
  timer_tells = c.notes_what_changes.ensures.timer;
  put_tells = c.notes_what_changes.ensures.put;
  connect_tells = c.notes_what_changes.ensures.connect;
  disconnect_tells = c.notes_what_changes.ensures.disconnect;
  abandon_tells = c.notes_what_changes.ensures.abandon;
  relink_tells = c.notes_what_changes.ensures.relink;
  relinks = c.sets_up_by_rows.ensures.relinks;
}

pub returns : goal.returns
returns c = record {
  step = meet_in_step (known c);
  order = met_in_order (known c) c.any_peer_keeps_transcripts.ensures.order;
  idle = idle_has_arrived (known c) c.any_peer_keeps_transcripts.ensures.arrived;
  unmet = unmet_are_told_nothing (known c);
  agree = each_meets_latest (known c);
  latest = up_is_latest (known c);
  quiet = finds_no_error (known c) c.any_peer_keeps_transcripts.ensures.quiet;
}
