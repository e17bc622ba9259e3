-- A station and any peer keep the way in both directions, whatever happens, and that says the claims.
use Rattle.x25_line.proofs.Names.{◌≡◌, ℕ, ◌≤◌, List, [], ◌∷◌, ◌++◌, length, false, Option, refl, sym, ap, ◌∙◌, subst, arith, Role, frame_of, ReadsSpelled}
use Rattle.x25_line.proofs.Names.{resolved, LinkSettings, fresh, other, StationEnd, Act, Near, IsSeen, HandsOne, Laws, LessAt, nothing, gone, hurt, deeper}
use Rattle.x25_line.proofs.Names.{JoinedOnce, our_end, Ours, HandsDown, Sends, Hears, ReachedOnce, at_start, goes_on, Said, Carried, Tells, said, Peer, MaySay}
use Rattle.x25_line.proofs.{Kept.{Way}, Lists.{each_append}, Losses.{each_less}}
use Rattle.x25_line.proofs.Order.{Told, only, only_append, Left, left_front, left_deeper, Hold, starts, hold_turned, handed, says, left, makes}
use Rattle.x25_line.proofs.{Order.{in_order as peers_in_order, valid_front, by_frmr, no_fault}, StationClaimLemmas.{in_order}, StationEvents.{each_hands_one}}
use Rattle.x25_line.proofs.{StationPeers.{Seen, seen_so, start_seen, peer_acts}, StationRuns.{noted_before}, StationSays.{machine_of, MayDo}}
use Rattle.x25_line.{proofs.sessions.Letters.{visible_said, visible_fine}, specs.laws.PeerClaims.{WithAnyPeer, WithAnyLapbPeer, KeepsOrder, FindsNoFault}}
use Rattle.x25_line.specs.laws.{PeerJoined.{with_peer, HappensOnce, Loses}, Said.{Odd as OddSaid}, StationClaims.{Each, InOrder}, Stations.{acts}}

-- ---- what is told on a line of octets

-- nothing there is answered by FRMR
abbrev IsFine : Role → ℕ → List ℕ → Type 0
IsFine from n1 o = said (frame_of from n1 o) ≡ OddSaid → ⊥

module _ (from : Role) (n1 : ℕ) where
  abbrev tolds : List (List ℕ) → List Told
  tolds [] = []
  tolds (o ∷ os) = only (said (frame_of from n1 o)) (tolds os)

  tolds_push : (os : List (List ℕ)) (o : List ℕ) → tolds (os ++ o ∷ []) ≡ tolds os ++ only (said (frame_of from n1 o)) []
  tolds_push [] o = refl
  tolds_push (x ∷ os) o = ap (only (said (frame_of from n1 x))) (tolds_push os o)
      ∙ sym (only_append (said (frame_of from n1 x)) (tolds os) (only (said (frame_of from n1 o)) []))

  tolds_less : {i : ℕ} {os ps : List (List ℕ)} → LessAt IsSeen i os ps → Left (tolds os) (tolds ps)
  tolds_less (nothing j) = (0, nothing 0)
  tolds_less (gone o os) = left_front (said (frame_of from n1 o)) (tolds os)
  tolds_less (hurt o p os visible) = rw (visible_said from n1 p visible) (left_front (said (frame_of from n1 o)) (tolds os))
  tolds_less (deeper j o os ps l) = left_deeper (said (frame_of from n1 o)) (tolds_less l)

-- ---- a station and a peer q

module _ (Odd : Type 0) (c : LinkSettings) (q : Peer) where
  -- the station is the peer p
  record IsWith (os : List (List ℕ)) (p : Peer) (out : List (List ℕ)) : Type 0 where
    pub hold : Hold p q (tolds c.role c.longest out) (tolds (other c.role) c.longest os)
    pub lapb : (Odd → ⊥) → Each (IsFine (other c.role) c.longest) os

  station_may : MayDo c (Odd → ⊥) IsWith
  station_may = record {
    handed = λ os p out packet short h. record {
      hold = handed p q (tolds c.role c.longest out) (tolds (other c.role) c.longest os) packet h.hold;
      lapb = h.lapb;
    };
    sends = λ os p r out octets may next h. record {
      hold = rw (tolds_push c.role c.longest out octets)
          (says p q (tolds c.role c.longest out) (tolds (other c.role) c.longest os) ⊥ (said (frame_of c.role c.longest octets)) r may h.hold);
      lapb = h.lapb;
    };
    hears = λ o os p r out may h. record {
      hold = makes p q (tolds c.role c.longest out) (said (frame_of (other c.role) c.longest o)) (tolds (other c.role) c.longest os) may h.hold;
      lapb = λ lapb. (h.lapb lapb).1;
    };
    loses = λ {i} {os} p out l h. record {
      hold = left p q (tolds c.role c.longest out) (tolds (other c.role) c.longest os) (tolds_less (other c.role) c.longest l) h.hold;
      lapb = λ lapb. each_less (IsFine (other c.role) c.longest) (λ _ o visible _. visible_fine (other c.role) c.longest o visible) l (h.lapb lapb);
    };
    faultless = λ o os p out ending h lapb.
        (let none = no_fault (frame_of (other c.role) c.longest o) (machine_of c.window p) (h.lapb lapb).0 (λ carried nr is. valid o os p out h carried nr is)
        in
        omega (arith, none, ap by_frmr ending));
  }
    where
      valid : (o : List ℕ) (os : List (List ℕ)) (p : Peer) (out : List (List ℕ)) → IsWith (o ∷ os) p out → (carried : Option Carried) (nr : ℕ)
          → said (frame_of (other c.role) c.longest o) ≡ Tells carried nr
          → resolved p.acked nr ≤ p.sent
      valid o os p out h carried nr is =
          valid_front p q (tolds c.role c.longest out) (tolds (other c.role) c.longest os) (record { carried = carried; nr = nr })
          (subst (λ s. Hold p q (tolds c.role c.longest out) (only s (tolds (other c.role) c.longest os))) is h.hold)

-- ---- whatever happens

abbrev JoinedHolds : Type 0 → LinkSettings → JoinedOnce → Type 0
JoinedHolds Odd c w = Seen c (Odd → ⊥) (IsWith Odd c w.peer) (our_end w)

-- once the peer is q, with these lines
after : (Odd : Type 0) {c : LinkSettings} {w : JoinedOnce} (h : JoinedHolds Odd c w) {q : Peer} (out back : List (List ℕ))
    → Hold q h.peer (tolds (other c.role) c.longest back) (tolds c.role c.longest out)
    → ((Odd → ⊥) → Each (IsFine (other c.role) c.longest) back) → JoinedHolds Odd c (record { near = w.near; peer = q; out = out; back = back })
after Odd h out back hold lapb = seen_so refl h (record { hold = hold_turned hold; lapb = lapb })

-- what is answered by FRMR is sent where it may be
sends_odd : (Odd : Type 0) (p q : Peer) {s : Said} → MaySay Odd p s q → (Odd → ⊥) → s ≡ OddSaid → ⊥
sends_odd Odd p q may never is = (let odd = subst (λ x. MaySay Odd p x q) is may in never odd.0)

once_before : (Odd : Type 0) {c : LinkSettings} {w v : JoinedOnce} → HappensOnce Odd c w v → v.near.came_up ≡ false → w.near.came_up ≡ false
once_before Odd {c} {w} (Ours act) once =
    let hands : HandsOne act (our_end w) (acts c act (our_end w)) = each_hands_one c c (Near act) (our_end w) in
    noted_before act w.near.came_up (acts c act (our_end w)).near.came_up hands.came_up once
once_before Odd other once = once

module _ (Odd : Type 0) (c : LinkSettings) (w : JoinedOnce) (h : JoinedHolds Odd c w) where
  abbrev backs : List Told
  backs = tolds (other c.role) c.longest w.back

  abbrev outs : List Told
  outs = tolds c.role c.longest w.out

  turned : Hold w.peer h.peer backs outs
  turned = hold_turned h.reached.hold

  theirs : (v : JoinedOnce) → HappensOnce Odd c w v → v.near.came_up ≡ false
      → ((act : Act) → (acts c act (our_end w)).near.came_up ≡ false → JoinedHolds Odd c (with_peer w.peer (acts c act (our_end w)))) → JoinedHolds Odd c v
  theirs v (Ours act) once ours = ours act once
  theirs v (HandsDown packet) once ours = after Odd h w.out w.back (handed w.peer h.peer backs outs packet turned) h.reached.lapb
  theirs v (Sends octets q may) once ours =
      after Odd h w.out (w.back ++ octets ∷ [])
      (rw (tolds_push (other c.role) c.longest w.back octets)
      (says w.peer h.peer backs outs Odd (said (frame_of (other c.role) c.longest octets)) q may turned))
      (λ lapb. each_append (IsFine (other c.role) c.longest) w.back (octets ∷ []) (h.reached.lapb lapb) (sends_odd Odd w.peer q may lapb, tt))
  theirs v (Hears octets rest q is may) once ours =
      after Odd h rest w.back
      (makes w.peer h.peer backs (said (frame_of c.role c.longest octets)) (tolds c.role c.longest rest) may
      (subst (λ os. Hold w.peer h.peer backs (tolds c.role c.longest os)) is turned)) h.reached.lapb
  theirs v (Loses i os l) once ours = after Odd h os w.back (left w.peer h.peer backs outs (tolds_less c.role c.longest l) turned) h.reached.lapb

-- the peer in the place of an end that takes
abbrev taker : Peer → StationEnd
taker p = record { station = fresh; down = []; up = p.taken; reasons = []; came_up = false }

module _ (reads : ReadsSpelled) (laws : Laws) where
  ours : (Odd : Type 0) (c : LinkSettings) → c.window ≤ 7 → (w : JoinedOnce) → JoinedHolds Odd c w → (act : Act) → (acts c act (our_end w)).near.came_up ≡ false
      → JoinedHolds Odd c (with_peer w.peer (acts c act (our_end w)))
  ours Odd c high w h act once =
      let k = peer_acts c high reads laws (Odd → ⊥) (IsWith Odd c w.peer) (station_may Odd c w.peer) act (our_end w) h once in
      seen_so refl k k.reached

  reached_holds : (Odd : Type 0) {c : LinkSettings} → c.window ≤ 7 → {w : JoinedOnce} → ReachedOnce Odd c w → w.near.came_up ≡ false → JoinedHolds Odd c w
  reached_holds Odd {c} high at_start once = start_seen (record { hold = starts; lapb = λ lapb. tt })
  reached_holds Odd {c} high {w} (goes_on v u r event) once =
      let h = reached_holds Odd high r (once_before Odd event once) in
      theirs Odd c v h w event once (ours Odd c high v h)

  -- ---- the claims

  holds_claims : (Odd : Type 0) (c : LinkSettings) → c.window ≤ 7 → (w : JoinedOnce) → JoinedHolds Odd c w → KeepsOrder w
  holds_claims Odd c high w h =
      let p = h.peer in
      let q = w.peer in
      let hold = h.reached.hold in
      let k = hold.ways.from_near in
      let way : Way (machine_of c.window p) q.taken q.told hold.there hold.here =
      record { high = high; room = h.room; held = k.held; acks = k.acks; late = k.late; tops = k.tops; begins = k.begins } in
      let own : InOrder w.near (taker q) = in_order c w.near (taker q) (machine_of c.window p) q.taken q.told hold.there hold.here h.fits way
      (sym h.down) refl in
      let other_way = peers_in_order q p hold.here hold.there hold.ways.from_far in
      record {
        up = rw (sym h.up) other_way.0;
        there = own.begins;
        acked = own.acked;
        idle = own.idle;
        theirs = omega (arith, other_way.1, ap length h.up);
        all = λ all. sym h.up ∙ other_way.2 all;
      }

  -- order beside any peer, of a link that is set up once
  pub keeps_order : WithAnyPeer KeepsOrder
  keeps_order c low high w reached once = holds_claims (Unit {0}) c high w (reached_holds (Unit {0}) high reached once)

  pub is_blameless : WithAnyLapbPeer FindsNoFault
  is_blameless c low high w reached once = (reached_holds ⊥ high reached once).fine (λ never. never)
