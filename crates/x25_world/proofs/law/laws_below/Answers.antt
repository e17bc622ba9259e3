use Rattle.x25_world.proofs.Names.{Laws}
use Rattle.x25_world.proofs.law.laws_below.Goals as goal

-- the links, the layers and the stations, by their contracts
pub returns : goal.returns
returns c =
    let sessions = c.sessions_keep_order.ensures in
    let apart = c.apart_layers_keep_order.ensures in
    let alone = c.each_end_is_by_itself.ensures in
    let joins = c.steps_are_joined.ensures in
    let keeps = c.steps_keep_bounds.ensures in
    let notes = c.notes_what_changes.ensures in
    let sets_up = c.sets_up_by_rows.ensures in
    let stations : Laws = record {
      readable = c.puts_are_readable.ensures;
      request = joins.request;
      given = joins.given;
      given_read = c.what_is_given_is_told.ensures.read;
      given_written = c.what_is_given_is_told.ensures.written;
      given_told = c.what_is_given_is_told.ensures.told;
      receive = joins.receive;
      quiet = joins.quiet;
      down = joins.down;
      up = joins.up;
      connect_keeps = keeps.connect;
      timer_keeps = keeps.timer;
      request_keeps = keeps.request;
      given_keeps = keeps.given;
      command_keeps = keeps.command;
      receive_keeps = keeps.receive;
      take_tells = notes.take;
      take_hands_up = notes.take_hands_up;
      timer_tells = notes.timer;
      put_tells = notes.put;
      connect_tells = notes.connect;
      disconnect_tells = notes.disconnect;
      abandon_tells = notes.abandon;
      relink_tells = notes.relink;
      relinks = sets_up.relinks;
      take_waits = sets_up.waits;
      take_sets_up = sets_up.sets_up;
      reads = c.reads_what_is_spelled.ensures.reads;
      grammar = c.reading_is_the_grammar.ensures.spelled;
      taken = c.taking_keeps_octets.ensures.spelled;
    } in
    record {
      stations = stations;
      step = sessions.step;
      order = sessions.order;
      unmet = sessions.unmet;
      begun = sessions.begun;
      agree = sessions.agree;
      meets = sessions.meets;
      idle = sessions.idle;
      unasked = sessions.unasked;
      no_frmr = sessions.no_frmr;
      whole = sessions.whole;
      machine = sessions.machine;
      hands = c.each_session_event_hands_one.ensures;
      layers_order = apart.order;
      layers_quiet = apart.quiet;
      layers_lawful = apart.lawful;
      layers_arrive = apart.arrives;
      layers_named = apart.names;
      layers_restarted = apart.restarted;
      layers_acknowledged = c.acknowledged_are_handed_up.ensures.apart;
      own = alone.own;
      behind = alone.behind;
      alone = alone.alone;
      over_links = apart.runs;
    }
