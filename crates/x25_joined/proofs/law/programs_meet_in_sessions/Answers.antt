use Rattle.std.proofs.Common.{refl}
use Rattle.x25_world.specs.laws.SessionClaims.{SessionsKeepOrder}
use Rattle.x25_joined.proofs.JoinedRuns.{of_programs}
use Rattle.x25_joined.proofs.law.programs_meet_in_sessions.Goals as goal

pub returns : goal.returns
returns c =
    let laws = c.stations_meet_in_sessions.ensures in
    of_programs SessionsKeepOrder
    (λ cfg fine begin is events octets. record {
      step = laws.step cfg fine begin is events octets;
      lawful = laws.lawful cfg fine begin is events octets;
      named = laws.named cfg fine begin is events octets;
      arrives = laws.arrives cfg fine begin is events octets;
      unmet = laws.unmet cfg fine begin is events octets;
      stand = laws.stand cfg fine begin is events octets;
      quiet = laws.quiet cfg fine begin is events octets;
      window = (begin, is, events, refl, laws.window cfg fine begin is events octets);
    })
    c.two_programs_are_a_world.ensures
