-- A station over sessions and a peer are two ends that keep the rules, whatever the peer does within these and the line to it loses.
use Rattle.x25_line.proofs.Names.{◌≡◌, ◌⊎◌, inl, inr, ℕ, suc, ◌+◌, List, [], ◌∷◌, ◌++◌, refl, sym, subst, arith, frame_of, Phase, Waiting, Closed, LinkSettings}
use Rattle.x25_line.proofs.Names.{other, Act, Entry, acts, Peer, Said, Tells, Sabm, Ua, Else, said, sabm_of, ua_of, disc_of, Letter, letter, AreOf, OfSabm, Two}
use Rattle.x25_line.proofs.Names.{Moves, free, odd, asks, closes, leaves, takes_ua, takes_sabm, waits_on, takes_disc, loses, Ends, ends_swapped, Does, listens}
use Rattle.x25_line.proofs.Names.{moves, EndsReached, PeerSessions, IsSeenIn, Puts, stand_of, both_ends, with_peer, LessAt, Less, IsSpoilt}
use Rattle.x25_line.proofs.{Lists.{each_append}, Losses.{untouched}}
use Rattle.x25_line.proofs.ends.{Lines.{count_push, count_less, are_push, are_less, are_none}, Meetings.{twice_turned}, Moves.{popped}}
use Rattle.x25_line.proofs.{ends.Sessions.{All, all_turned, reached_all, ua_present}, sessions.Letters.{letters_less}}
use Rattle.x25_line.proofs.sessions.{SessionHeld.{Owes, OwesOn, owes_less}, SessionSeen.{Seen}}
use Rattle.x25_line.proofs.sessions.SessionWith.{NoneOdd, no_frmr_less, Where, where_map, outs, backs, Kept, at, IsWith}
use Rattle.x25_line.specs.laws.Ends.{how_many, hears, sends, far_handed, far_does}
use Rattle.x25_line.specs.laws.PeerSessions.{nothing, put, seen_by_peer, now, with_now, HappensInSessions, Ours, HandsDown, Theirs, IsTimely}
use Rattle.x25_line.specs.laws.Said.{Disc, Odd as OddSaid}

-- ---- what an end does, beside a station

-- An answer takes SABM or DISC off one line and puts UA on the other. A station that is Down or Up put neither there.
owes_answered : (p : Phase) (P : Type 0) (sabm sabms disc discs uas answers : ℕ) → (sabm ≡ 1) ⊎ (disc ≡ 1) → answers ≡ uas + 1
    → Owes p ((sabm + sabms) + uas) (disc + discs) → Owes p (sabms + answers) discs × Where p P
owes_answered Closed P m ms d ds us bs which more owes = (tt, tt)
owes_answered Waiting P m ms d ds us bs which more owes = (let none = owes.1 in elim which [
  | inl one ↦ ((omega (arith, owes.0, more, one), omega (arith, none)), tt)
  | inr one ↦ absurd (omega (arith, none, one))
])
owes_answered p P m ms d ds us bs which more owes = elim which [ inl one ↦ absurd (omega (arith, owes.0, one)) | inr one ↦ absurd (omega (arith, owes.1, one)) ]

module _ {n : ℕ} {p : Phase} {es out : List Letter} (k : Kept n p es out) where
  puts : (e : Letter) → ua_of e.said ≡ 0 → OfSabm e.said (e.session ≡ n) → Kept n p (es ++ e ∷ []) out
  puts e no_ua of = record {
    owes = owes_less p _ _ (omega (arith, count_push ua_of es e, no_ua)) (omega arith) k.owes;
    present = where_map p _ _ (λ a. are_push n es e a of) k.present;
  }

  fewer : {i : ℕ} {fs : List Letter} → LessAt IsSpoilt i out fs → Kept n p es fs
  fewer l =
      let sabms = count_less sabm_of refl l in
      let discs = count_less disc_of refl l in
      record { owes = owes_less p _ _ (omega (arith, sabms)) discs k.owes; present = k.present }

  answered : (m s : ℕ) (x : Said) (rest : List Letter) → (sabm_of x ≡ 1) ⊎ (disc_of x ≡ 1) → out ≡ letter s x ∷ rest → Kept m p (es ++ letter m Ua ∷ []) rest
  answered m s x rest which is =
      let owes = subst (λ l. OwesOn p l es) is k.owes in
      let both = owes_answered p (AreOf m (es ++ letter m Ua ∷ [])) (sabm_of x) (how_many sabm_of rest) (disc_of x) (how_many disc_of rest) (how_many ua_of es)
      (how_many ua_of (es ++ letter m Ua ∷ [])) which (count_push ua_of es (letter m Ua)) owes in
      record { owes = both.0; present = both.1 }

keeps_moves : {w : Ends} {v : Two} {p : Phase} → All w → Moves w.two v → Kept w.two.near.begun p w.two.out w.two.back → Kept v.near.begun p v.out v.back
keeps_moves {w} h free k = puts k (letter w.two.near.begun Else) refl tt
keeps_moves {w} h odd k = puts k (letter w.two.near.begun OddSaid) refl tt
keeps_moves {w} h (asks patient) k = puts k (letter w.two.near.begun Sabm) refl refl
keeps_moves {w} h closes k = puts k (letter w.two.near.begun Disc) refl tt
keeps_moves h leaves k = record { owes = k.owes; present = k.present }
keeps_moves {w} h (hears e rest is) k = fewer k (popped w.two.back rest e is)
keeps_moves {w} {p = p} h (takes_ua s rest is asking) k =
    let none = (ua_present h s rest asking is).1 in
    record {
      owes = (fewer k (popped w.two.back rest (letter s Ua) is)).owes;
      present = where_map p _ _ (λ a. are_none (suc w.two.near.begun) w.two.out none) k.present;
    }
keeps_moves {w} h (takes_sabm s rest is) k = answered k (suc w.two.near.begun) s Sabm rest (inl refl) is
keeps_moves {w} h (waits_on s rest is asking) k = answered k w.two.near.begun s Sabm rest (inl refl) is
keeps_moves {w} h (takes_disc s rest is) k = answered k w.two.near.begun s Disc rest (inr refl) is
keeps_moves {w} h (loses i es l) k = fewer k l

keeps : (w v : Ends) (p : Phase) → All w → Does w v → Kept w.two.near.begun p w.two.out w.two.back → Kept v.two.near.begun p v.two.out v.two.back
keeps w v p h (sends carried nr q is may) k = puts k (letter w.two.near.begun (Tells carried nr)) refl tt
keeps w v p h (listens e rest q is on may) k = fewer k (popped w.two.back rest e is)
keeps w v p h (moves u m) k = keeps_moves h m k

-- whatever the other end is
beside_any : {w v : Ends} (f : ℕ → Peer) → Does w v → Does (record w { far_of = f }) (record v { far_of = f })
beside_any f (sends carried nr q is may) = sends carried nr q is may
beside_any f (listens e rest q is on may) = listens e rest q is on may
beside_any f (moves u m) = moves u m

-- ---- octets

none_odd : {Odd : Type 0} {c : LinkSettings} {es fs : List Entry} → Puts Odd c es fs → (Odd → ⊥) → NoneOdd (other c.role) c.longest es
    → NoneOdd (other c.role) c.longest fs
none_odd nothing never h = h
none_odd {Odd} {c} {es} (put e may) never h = each_append (λ x. said (frame_of (other c.role) c.longest x.octets) ≡ OddSaid → ⊥) es (e ∷ []) h
    (λ is. never (may is), tt)

module _ (Odd : Type 0) {c : LinkSettings} (w : PeerSessions) (h : Seen c (IsWith Odd c w.peer) (both_ends w)) where
  abbrev before : Ends
  before = at Odd c w.peer (backs c w.back) w.met (stand_of w.near.station.phase) w.near.begun h.all (outs c w.out)

  -- the station is as it was
  after : (v : PeerSessions) → EndsReached (ends_swapped (record (seen_by_peer c (record v { near = w.near })) { far_of = h.all }))
      → Kept v.peer.begun w.near.station.phase (backs c v.back) (outs c v.out) → Less IsSeenIn w.out v.out
      → ((Odd → ⊥) → NoneOdd (other c.role) c.longest v.back) → Seen c (IsWith Odd c v.peer) (both_ends (record v { near = w.near }))
  after v reached kept less lapb = record {
    all = h.all;
    reached = record {
      ends = record { reached = rw (sym (twice_turned v.met)) reached; kept = kept };
      octets = record { frmr = λ ok. no_frmr_less c less.1 (h.reached.octets.frmr ok); lapb = lapb };
    };
    up = h.up;
    given = h.given;
    taken = h.taken;
    later = h.later;
    tags = are_less w.near.begun (letters_less c.role c.longest less.1) h.tags;
  }

  pub peer_held : {v : PeerSessions} → HappensInSessions Odd c w v
      → ((act : Act) → IsTimely c act w → Seen c (IsWith Odd c w.peer) (both_ends (with_peer w.peer (acts c act (both_ends w)))))
      → Seen c (IsWith Odd c v.peer) (both_ends v)
  peer_held (Ours act timely) ours = ours act timely
  peer_held (HandsDown packet is) ours =
      let k = h.reached.ends.kept in
      after (record w { peer = with_now (record (now w.peer) { given = (now w.peer).given ++ packet ∷ [] }) w.peer })
      (far_handed before packet h.reached.ends.reached is)
      (record { owes = k.owes; present = k.present }) (_, untouched w.out) h.reached.octets.lapb
  peer_held (Theirs u k) ours =
      let then : Ends = record (seen_by_peer c (record u { near = w.near })) { far_of = h.all } in
      let m = beside_any h.all (k.does h.tags) in
      after u (far_does before then h.reached.ends.reached m)
      (keeps (ends_swapped before) then w.near.station.phase (all_turned (reached_all h.reached.ends.reached)) m h.reached.ends.kept) k.left
      (λ ok. none_odd k.puts ok (h.reached.octets.lapb ok))
