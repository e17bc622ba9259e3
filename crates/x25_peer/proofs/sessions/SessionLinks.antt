-- The links of a station and a peer over sessions, as `x25_line` has them.
use Rattle.x25_peer.proofs.Names.{◌≡◌, ℕ, List, ◌++◌, true, sym, ap, ap₂, subst, ◌∙◌, PlainFrame, LinkSettings, LinkStation, is_up, Entry, Meeting, Sessions}
use Rattle.std.proofs.Math.Path.{fun_ext}
use Rattle.x25_frame.specs.laws.ReadingLaw.{ReadsSpelled}
use Rattle.x25_line.proofs.{sessions.PeerSessionRuns.{h}, sessions.SessionSeenRuns.{alike}}
use Rattle.x25_line.specs.laws.{LawsBelow.{SessionLaws}, PeerSessionClaims.{WithAnyPeer}, PeerSessions.{goes_on, Ours, IsTimely}, Sessions.{sent_in}}
use Rattle.x25_peer.proofs.{Names.{acts, extended, PeerEnd, PeerSessions, ReachedInSessions, both_ends, with_peer}, sessions.LinkSteps.{SessionGoes}}
use Rattle.x25_line.specs.laws.Stations as line

-- what a station that is up was handed down and handed up in its session its link holds
pub record ListsStand (w : PeerSessions) : Type 0 where
  pub down : is_up w.near.station.phase ≡ true → w.near.down w.near.begun ≡ w.near.station.outgoing.given
  pub up : is_up w.near.station.phase ≡ true → w.near.up w.near.begun ≡ w.near.station.taken

pub lists_stand : ReadsSpelled → SessionLaws → WithAnyPeer (λ c w. ListsStand w)
lists_stand reads rests c low high w reached = record {
  down = λ up. sym ((h reads rests high reached).given w.near.begun) ∙ ap (λ z. z.given) ((h reads rests high reached).up up).same;
  up = λ up. sym ((h reads rests high reached).taken w.near.begun) ∙ ap (λ z. z.taken) ((h reads rests high reached).up up).same;
}

-- these links are reached
abbrev pub Reach : LinkSettings → PeerEnd → Sessions → Type 0
Reach c peer v = ReachedInSessions (Unit {0}) c (with_peer peer v)

-- they are after each act of the station that is timely
pub acts_reach : {c : LinkSettings} {peer : PeerEnd} (act : line.Act) (v : Sessions) → IsTimely c act (with_peer peer v) → Reach c peer v
    → Reach c peer (acts c act v)
acts_reach {c} {peer} act v timely h =
    subst (ReachedInSessions (Unit {0}) c) (sym (alike c peer act v))
    (goes_on (with_peer peer v) (with_peer peer (acts c act (both_ends (with_peer peer v)))) h (Ours act timely))

abbrev pub links_with : LinkStation → ℕ → (ℕ → List (List ℕ)) → (ℕ → List (List ℕ)) → PeerEnd → List Entry → List Entry → List Meeting → PeerSessions
links_with link begun down up peer out back met =
    record { near = record { station = link; begun = begun; down = down; up = up }; peer = peer; out = out; back = back; met = met }

-- to which the station's has gone so
pub goes_reached : {c : LinkSettings} (w : PeerSessions) (down up : ℕ → List (List ℕ)) {v : Sessions} {session : ℕ} {link : LinkStation}
    {frames : List PlainFrame} {handed lifted : List (List ℕ)} {left : List Entry} {met : List Meeting}
    → Reach c w.peer v → SessionGoes c (both_ends w) v session link frames handed lifted left met
    → ((n : ℕ) → extended w.near.down session handed n ≡ down n) → ((n : ℕ) → extended w.near.up session lifted n ≡ up n)
    → ReachedInSessions (Unit {0}) c (links_with link session down up w.peer (w.out ++ sent_in session c.role frames) left met)
goes_reached {c} w down up {v} {session} {link} {frames} {handed} {lifted} {left} {met} reach g more_down more_up =
    subst (ReachedInSessions (Unit {0}) c) same reach
  where
    same : with_peer w.peer v ≡ links_with link session down up w.peer (w.out ++ sent_in session c.role frames) left met
    same = ap₂ (λ s n. links_with s n v.near.down v.near.up w.peer v.out v.back v.met) g.station g.begun
        ∙ ap₂ (λ d u. links_with link session d u w.peer v.out v.back v.met) (fun_ext (λ n. g.down n ∙ more_down n)) (fun_ext (λ n. g.up n ∙ more_up n))
        ∙ ap₂ (λ o b. links_with link session down up w.peer o b v.met) g.out g.back
        ∙ ap (λ ms. links_with link session down up w.peer (w.out ++ sent_in session c.role frames) left ms) g.met
