use Rattle.x25_line.specs.laws.LawsBelow.{Laws}
use Rattle.x25_line.proofs.law.laws_below.Goals as goal

-- frames and a link, by their contracts
pub returns : goal.returns
returns c =
    let law = c.follows_the_window.ensures in
    let rows = c.sets_up_by_rows.ensures in
    let notes = c.notes_what_changes.ensures in
    let rest = c.comes_to_rest.ensures in
    let answer = c.asks_and_answers.ensures in
    let busy = c.tells_whether_busy.ensures in
    let laws : Laws = record {
      window = record {
        take = law.take;
        put = law.put;
        timer = law.timer;
        disconnect = law.disconnect;
        abandon = law.abandon;
        take_out = law.take_out;
        disconnect_out = law.disconnect_out;
      };
      set_up = record {
        waits = rows.waits;
        sets_up = rows.sets_up;
        connects = rows.connects;
        timer = rows.timer;
        disconnects = rows.disconnects;
        closes = rows.closes;
        timer_closes = rows.timer_closes;
      };
      take_tells = notes.take;
      timer_tells = notes.timer;
      disconnect_tells = notes.disconnect;
      abandon_tells = notes.abandon;
    } in
    record {
      reads = c.reads_what_is_spelled.ensures.reads;
      healing = record {
        sessions = record { laws = laws; continues = notes.take_continues };
        rest = record {
          take = rest.take;
          put = rest.put;
          timer = rest.timer;
          connect = rest.connect;
          disconnect = rest.disconnect;
          abandon = rest.abandon;
          no_timer = rest.no_timer;
          all_heard = rest.all_heard;
          only_then = rest.only_then;
        };
        answers = record {
          timer = answer.timer;
          poll = answer.poll;
          recovery = answer.recovery;
          ready = answer.ready;
          rej = answer.rej;
          wanted = answer.wanted;
          other = answer.other;
          out = answer.out;
          dm = answer.dm;
        };
      };
      hands_up = notes.take_hands_up;
      busy = record { take = busy.take; put = busy.put; timer = busy.timer };
    }
