use Rattle.x25_station.proofs.SettledLemmas.{LinkSettles, new_is_settled, stays_settled, settled_asks, pulls_go_on}
use Rattle.x25_station.proofs.law.stations_ask_or_rest.Goals as goal

pub returns : goal.returns
returns c =
    let says = c.comes_to_rest.ensures in
    let window = c.follows_the_window.ensures in
    let notes = c.notes_what_changes.ensures in
    let laws : LinkSettles = record {
      take_says = says.take;
      put_says = says.put;
      timer_says = says.timer;
      connect_says = says.connect;
      disconnect_says = says.disconnect;
      abandon_says = says.abandon;
      idle = says.no_timer;
      take_tells = notes.take;
      timer_tells = notes.timer;
      abandon_tells = notes.abandon;
      take = window.take;
      put = window.put;
      timer = window.timer;
      abandon = window.abandon;
      relink = c.sets_up_by_rows.ensures.relinks;
    } in
    record { new = new_is_settled; stays = stays_settled laws; asks = settled_asks laws; pulled = pulls_go_on }
