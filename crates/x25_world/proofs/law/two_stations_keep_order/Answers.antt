use Rattle.x25_world.proofs.{Established.{set_up_accepted}, Known.{is_configured}, Names.{inr, refl, IsLawful, IsNamed, ArrivesAll, HasNoProcedureError}}
use Rattle.x25_world.proofs.{SetUpOnce.{lawful_once, named_once, arrives_once, are_first, is_up_once}, WindowRuns.{stays_in_window}}
use Rattle.x25_world.proofs.sessions.{SessionRuns.{until_second, begin_joined}, claims.SessionQuiet.{has_no_error}}
use Rattle.x25_world.proofs.law.two_stations_keep_order.Goals as goal

pub returns : goal.returns
returns c =
    let laws = c.laws_below.ensures in
    let keeps = laws.stations.connect_keeps in
    record {
      set_up = λ cfg. set_up_accepted laws.stations cfg;
      lawful = until_second laws keeps IsLawful (λ cfg fine w h once. lawful_once laws cfg fine w h once);
      named = until_second laws keeps IsNamed (λ cfg fine w h once. named_once laws cfg fine w h once);
      arrives = until_second laws keeps ArrivesAll (λ cfg fine w h once. arrives_once laws cfg fine w h once);
      quiet = until_second laws keeps HasNoProcedureError (λ cfg fine w h once. has_no_error laws fine w h);
      window = stays_in_window laws keeps c.links_keep_order.ensures.window c.links_keep_order.ensures.before;
      up_once = λ cfg fine events octets none. (let at = is_configured cfg fine in let h = begin_joined laws keeps at (inr (inr refl)) in
          is_up_once laws at events h (are_first laws at h) octets none);
    }
