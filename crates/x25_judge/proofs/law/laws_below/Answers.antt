use Rattle.x25_judge.proofs.law.laws_below.Goals as goal

-- frames, a link and its line, by their contracts
pub returns : goal.returns
returns c =
    let law = c.follows_the_window.ensures in
    let rows = c.sets_up_by_rows.ensures in
    let notes = c.notes_what_changes.ensures in
    record {
      reads = c.reading_is_the_grammar.ensures.spelled;
      spelled = c.reads_what_is_spelled.ensures.reads;
      order = c.silent_tape_keeps_order.ensures;
      station = record {
        window = record {
          take = law.take;
          put = law.put;
          timer = law.timer;
          disconnect = law.disconnect;
          abandon = law.abandon;
          take_out = law.take_out;
          disconnect_out = law.disconnect_out;
        };
        set_up = record {
          waits = rows.waits;
          sets_up = rows.sets_up;
          connects = rows.connects;
          timer = rows.timer;
          disconnects = rows.disconnects;
          closes = rows.closes;
          timer_closes = rows.timer_closes;
        };
        take_tells = notes.take;
        timer_tells = notes.timer;
        disconnect_tells = notes.disconnect;
        abandon_tells = notes.abandon;
      };
      hands = c.each_event_hands_one.ensures;
    }
