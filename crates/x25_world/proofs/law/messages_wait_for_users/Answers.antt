use Rattle.x25_world.proofs.{Names.{ClosedKeepNone, MessagesWaitForUsers, UnpulledWaitForUsers}, sessions.SessionRuns.{throughout}}
use Rattle.x25_world.proofs.sessions.claims.SessionWaits.{closed_keep, messages_wait, pulls_leave_none, unpulled_wait}
use Rattle.x25_world.proofs.law.messages_wait_for_users.Goals as goal

pub returns : goal.returns
returns c =
    let laws = c.laws_below.ensures in
    let keeps = laws.stations.connect_keeps in
    let layers = c.messages_wait_for_users.ensures in
    record {
      closed = throughout laws keeps ClosedKeepNone (λ cfg fine w h. closed_keep laws layers.closed fine w h);
      waits = throughout laws keeps MessagesWaitForUsers (λ cfg fine w h. messages_wait laws layers.apart layers.still fine w h);
      left = pulls_leave_none layers.left;
      unpulled = throughout laws keeps UnpulledWaitForUsers (λ cfg fine w h. unpulled_wait laws layers.apart layers.restarting fine w h);
    }
