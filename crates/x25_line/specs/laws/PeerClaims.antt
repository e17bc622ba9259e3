-- What holds of a station and any peer, as long as the station doesn't note LinkUp, by which the link would be set up
-- anew.
use Rattle.std.specs.Prelude.{◌≡◌, ◌≤◌, true, false, length, take}
use Rattle.x25_link.specs.{declared.phase.Reason.{Reason}, declared.phase.Reason.TheVariants.{FrmrSent}}
use Rattle.x25_link.specs.{Station.{LinkSettings}, Link.{is_idle}}
use Rattle.x25_line.specs.{laws.InWindow.{IsPrefix}, laws.PeerJoined.{JoinedOnce, ReachedOnce}, laws.Tape.{IsSilent}}
use Rattle.x25_line.specs.laws.SessionClaims.{Each}

-- whatever happens, with any peer that keeps the rules of `Peer`
abbrev pub WithAnyPeer : (JoinedOnce → Type 0) → Type 0
WithAnyPeer Holds =
    (c : LinkSettings) → 1 ≤ c.window → c.window ≤ 7 → (w : JoinedOnce) → ReachedOnce (Unit {0}) c w
    → w.near.came_up ≡ false
    → Holds w

-- the same with one that sends nothing that is answered by FRMR
abbrev pub WithAnyLapbPeer : (JoinedOnce → Type 0) → Type 0
WithAnyLapbPeer Holds =
    (c : LinkSettings) → 1 ≤ c.window → c.window ≤ 7 → (w : JoinedOnce) → ReachedOnce ⊥ c w → w.near.came_up ≡ false
    → Holds w

-- with any peer at all, as long as the rules of `Tape` tell nothing of it
abbrev pub OnAnySilentTape : (JoinedOnce → Type 0) → Type 0
OnAnySilentTape Holds =
    (c : LinkSettings) → 1 ≤ c.window → c.window ≤ 7 → (w : JoinedOnce) → IsSilent c w → w.near.came_up ≡ false
    → Holds w

-- What the station handed up is a beginning of what the peer was handed down (`up`), and what the peer took is one of
-- what the station was handed down (`there`). What the station need not send again was taken (`acked`), so all was
-- where it is idle (`idle`). What the peer need not send again was handed up (`theirs`), so all was where all is
-- acknowledged to it (`all`).
pub record KeepsOrder (w : JoinedOnce) : Type 0 where
  pub up : IsPrefix w.near.up w.peer.given
  pub there : IsPrefix w.peer.taken w.near.down
  pub acked : IsPrefix (take w.near.station.outgoing.acked w.near.down) w.peer.taken
  pub idle : is_idle w.near.station ≡ true → w.peer.taken ≡ w.near.down
  pub theirs : w.peer.acked ≤ length w.near.up
  pub all : w.peer.acked ≡ length w.peer.given → w.near.up ≡ w.peer.given

abbrev pub IsNoFrmr : Reason → Type 0
IsNoFrmr FrmrSent = ⊥
IsNoFrmr reason = Unit {0}

-- the station never left Up for a fault of the peer, which it answers by FRMR
abbrev pub FindsNoFault : JoinedOnce → Type 0
FindsNoFault w = Each IsNoFrmr w.near.reasons
