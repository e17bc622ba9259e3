use Rattle.x25_world.proofs.Names.{HasNoProcedureError, MeetInStep, AreLawfulWhereMet, AreNamedInSessions, UnmetAreToldNothing, OpenStretchesMeet, AllArrive}
use Rattle.x25_world.proofs.{Names.{ConfirmedAreHandedUp, IsTapOfOctets}, sessions.SessionRuns.{throughout}, sessions.SessionsAlong.{sessions_stay}}
use Rattle.x25_world.proofs.sessions.claims.SessionArrives.{open_stretches_meet, all_arrive}
use Rattle.x25_world.proofs.sessions.claims.SessionLawful.{are_lawful, unmet_told_nothing, are_named, beside_given, are_confirmed}
use Rattle.x25_world.proofs.sessions.claims.{SessionMeets.{meet_in_step}, SessionQuiet.{has_no_error, is_of_octets}}
use Rattle.x25_world.proofs.law.stations_meet_in_sessions.Goals as goal

pub returns : goal.returns
returns c =
    let laws = c.laws_below.ensures in
    let keeps = laws.stations.connect_keeps in
    record {
      step = throughout laws keeps MeetInStep (λ cfg fine w h. meet_in_step laws cfg fine w h);
      lawful = throughout laws keeps AreLawfulWhereMet (λ cfg fine w h. are_lawful laws fine w h);
      named = throughout laws keeps AreNamedInSessions (λ cfg fine w h. are_named laws fine w h);
      arrives = throughout laws keeps AllArrive (λ cfg fine w h. all_arrive laws fine w h);
      unmet = throughout laws keeps UnmetAreToldNothing (λ cfg fine w h. unmet_told_nothing laws fine w h);
      stand = throughout laws keeps OpenStretchesMeet (λ cfg fine w h. open_stretches_meet laws fine w h);
      quiet = throughout laws keeps HasNoProcedureError (λ cfg fine w h. has_no_error laws fine w h);
      octets = throughout laws keeps IsTapOfOctets (λ cfg fine w h. is_of_octets laws cfg fine w h);
      window = sessions_stay laws keeps laws.machine;
      beside = beside_given laws keeps;
      confirmed = throughout laws keeps ConfirmedAreHandedUp (λ cfg fine w h. are_confirmed laws cfg fine w h);
    }
