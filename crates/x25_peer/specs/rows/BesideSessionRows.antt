-- Worked rows of a station beside a peer, set up and set up again: a loss, damage, a firing of timer T1, and a peer
-- that leaves its session.
use Rattle.std.specs.Prelude.{◌≡◌, ℕ, false, List, [], ◌∷◌}
use Rattle.x25_bits.specs.declared.role.Role.TheVariants.{Dte}
use Rattle.x25_link.specs.declared.phase.Reason.TheVariants.{Reset}
use Rattle.x25_line.specs.{laws.Sessions.{Entry}, laws.PeerSessions.{In}}
use Rattle.x25_layer.specs.Ranges.{two_way}
use Rattle.x25_station.specs.{Config.{Settings}, Entry.{link_up, link_down}}
use Rattle.x25_peer.specs.laws.BesideSessions.{BesideSessions, ReachedBeside}

-- the station is a DTE with one channel
abbrev pub dte : Settings
dte = record {
  role = Dte;
  window = 7;
  retries = 10;
  channels = two_way 1;
  long_data = false;
  say_sizes = false;
  wide = false;
}

abbrev pub sabm_octets : List ℕ
sabm_octets = 1 ∷ 63 ∷ 235 ∷ 223 ∷ []

abbrev pub sent : ℕ → List ℕ → Entry
sent session octets = record { session = session; octets = octets }

-- The SABM of the station is lost. T1 runs out, and SABM goes again.
abbrev pub LostSabmGoesAgain : Type 0
LostSabmGoesAgain =
    (w : BesideSessions) × ReachedBeside dte w × (w.near.link.tries ≡ 1) × (w.out ≡ sent 0 sabm_octets ∷ [])

-- The peer answers SABM by UA, which the line damages. T1 runs out, and the peer answers the next SABM, by which it
-- begins its second session. That hears the RESTART of the station's first one, which it meets.
abbrev pub DamagedUaIsMissing : Type 0
DamagedUaIsMissing =
    (w : BesideSessions) × ReachedBeside dte w × (w.begun ≡ 1) × (w.peer.begun ≡ 2)
    × (w.met ≡ record { near = 1; far = 2 } ∷ [])

-- The peer answers SABM by UA, leaves its session, passes over what comes and asks that the link be set up anew. The
-- station notes that, and begins its second session too.
abbrev pub LeavingPeerAsks : Type 0
LeavingPeerAsks =
    (w : BesideSessions) × ReachedBeside dte w × (w.begun ≡ 2) × (w.peer.begun ≡ 2) × (w.peer.stand ≡ In) × (w.met ≡ [])
    × ((w.own 1).entries ≡ link_up ∷ []) × ((w.own 2).entries ≡ link_down Reset ∷ link_up ∷ [])
