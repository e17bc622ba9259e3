use Rattle.x25_world.proofs.Names.{refl, subst, run, IsUpOnce, NoneConnects, Throughout, SessionsKeepOrder}
use Rattle.x25_world.proofs.law.runs_hold.Goals as goal

pub returns : goal.returns
returns c =
    let two = c.two_stations_keep_order.ensures in
    let of = c.stations_meet_in_sessions.ensures in
    let sessions : Throughout SessionsKeepOrder = λ cfg fine from begins events octets. record {
      step = of.step cfg fine from begins events octets;
      lawful = of.lawful cfg fine from begins events octets;
      named = of.named cfg fine from begins events octets;
      arrives = of.arrives cfg fine from begins events octets;
      unmet = of.unmet cfg fine from begins events octets;
      stand = of.stand cfg fine from begins events octets;
      quiet = of.quiet cfg fine from begins events octets;
      window = (from, begins, events, refl, of.window cfg fine from begins events octets);
    } in
    record {
      sessions = sessions;
      runs = λ cfg from v events begins h. record {
        fits = h;
        lawful = two.lawful cfg h.settings from begins events h.octets;
        named = two.named cfg h.settings from begins events h.octets;
        arrives = two.arrives cfg h.settings from begins events h.octets;
        window = λ is once. rw is (two.window cfg h.settings events h.octets (subst (λ w. IsUpOnce cfg (run cfg events w)) is once));
        up_once = λ is none. rw is (two.up_once cfg h.settings events h.octets (subst (NoneConnects cfg events) is none));
        sessions = sessions cfg h.settings from begins events h.octets;
        links = of.window cfg h.settings from begins events h.octets;
        beside = of.beside cfg h.settings from begins events h.octets;
        confirmed = of.confirmed cfg h.settings from begins events h.octets;
      };
    }
