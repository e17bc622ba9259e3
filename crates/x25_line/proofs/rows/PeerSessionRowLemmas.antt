-- The worked row, by computing.
use Rattle.x25_line.proofs.Names.{◌≡◌, ℕ, List, [], ◌∷◌, ◌++◌, true, Ok, arith, refl, ap, subst, Dte, Dce, PlainFrame, sabm, ua, spelling_of, frame_of}
use Rattle.x25_line.proofs.Names.{ReadsSpelled, pumped, Deliver, Connect, dte, Entry, acts, from_nothing, Peer, numbered_to, told_to, PeerSessions, both_ends}
use Rattle.x25_line.proofs.{Losses.{untouched}, Names.{with_peer, ReachedInSessions, Out, Asking, letter, moves, asks, takes_sabm, said, gone}}
use Rattle.x25_line.proofs.{rows.SessionRowLemmas.{taken_as, comes}, rows.StationRowLemmas.{info_reads, bare_reads}, sessions.Letters.{puts_frame}}
use Rattle.x25_line.{proofs.sessions.SessionWith.{tells_does}, specs.laws.PeerSessions.{begins, now, with_now, begin_with}, specs.rows.PeerRows.{polling_frame}}
use Rattle.x25_line.specs.rows.PeerSessionRows.{CrossingPeerMoves}
use Rattle.x25_line.specs.laws.PeerSessions as sessions

module _ (reads : ReadsSpelled) where
  -- the station takes the front
  takes : (f : PlainFrame) (session : ℕ) (back : List Entry) {w : PeerSessions} → frame_of Dce 128 (spelling_of Dce f) ≡ Ok f → w.back
      ≡ record { session = session; octets = spelling_of Dce f } ∷ back → ReachedInSessions ⊥ dte w
      → ReachedInSessions ⊥ dte (with_peer w.peer (taken_as dte (Ok f) (record { session = session; octets = spelling_of Dce f }) back (both_ends w)))
  takes f session back {w} read is reached =
      subst (λ v. ReachedInSessions ⊥ dte (with_peer w.peer v))
      (comes dte (Ok f) (record { session = session; octets = spelling_of Dce f }) back (both_ends w) read is)
      (sessions.goes_on w (with_peer w.peer (acts dte Deliver (both_ends w))) reached (sessions.Ours Deliver tt))

  pub crossing_peer_moves : CrossingPeerMoves
  unfolding pumped
  crossing_peer_moves =
      let entry : ℕ → PlainFrame → Entry = λ session f. record { session = session; octets = spelling_of Dce f } in
      let w0 : PeerSessions = begin_with Out from_nothing in
      let w1 : PeerSessions = record w0 { peer = record (w0.peer) { stand = Asking }; back = entry 0 (sabm true) ∷ [] } in
      let r1 : ReachedInSessions ⊥ dte w1 = sessions.goes_on w0 w1 sessions.at_start
      (sessions.Theirs w1 (record {
        does = λ crossing. rw (bare_reads reads Dce (sabm true) tt)
            (moves _ (asks (record { sabm = refl; disc = refl; ua = refl; crossing = crossing })));
        left = (_, untouched _);
        puts = puts_frame 0 _ (sabm true) (bare_reads reads Dce (sabm true) tt);
      })) in
      let w2 : PeerSessions = with_peer w1.peer (acts dte Connect (both_ends w1)) in
      let r2 : ReachedInSessions ⊥ dte w2 = sessions.goes_on w1 w2 r1 (sessions.Ours Connect tt) in
      let w3 : PeerSessions = record w2 { peer = begins w2.peer; out = []; back = entry 0 (sabm true) ∷ entry 1 (ua true) ∷ [] } in
      let r3 : ReachedInSessions ⊥ dte w3 = sessions.goes_on w2 w3 r2
      (sessions.Theirs w3 (record {
        does = λ crossing. rw (bare_reads reads Dce (ua true) tt)
            (moves _ (takes_sabm 0 [] (ap (λ r. letter 0 (said r) ∷ []) (bare_reads reads Dte (sabm true) tt))));
        left = (0, gone _ _);
        puts = puts_frame 1 _ (ua true) (bare_reads reads Dce (ua true) tt);
      })) in
      let p4 : Peer = record (now w3.peer) { given = (now w3.peer).given ++ (7 ∷ []) ∷ [] } in
      let w4 : PeerSessions = record w3 { peer = with_now p4 w3.peer } in
      let r4 : ReachedInSessions ⊥ dte w4 = sessions.goes_on w3 w4 r3 (sessions.HandsDown (7 ∷ []) refl) in
      let p5 : Peer = told_to 0 (numbered_to 0 (now w4.peer)) in
      let w5 : PeerSessions = record w4 { peer = with_now p5 w4.peer; back = entry 0 (sabm true) ∷ entry 1 (ua true) ∷ entry 1 polling_frame ∷ [] } in
      let r5 : ReachedInSessions ⊥ dte w5 = sessions.goes_on w4 w5 r4
      (sessions.Theirs w5 (record {
        does = λ crossing. rw (info_reads reads Dce true 7) (tells_does _ polling_frame p5 refl refl (
          0,
          0,
          record { number = refl; same = refl; window = omega arith; again = omega arith },
          record { number = refl; rising = omega arith; taken = omega arith },
          refl,
        ));
        left = (_, untouched _);
        puts = puts_frame 1 _ polling_frame (info_reads reads Dce true 7);
      })) in
      let w6 : PeerSessions = with_peer w5.peer
      (taken_as dte (Ok (sabm true)) (entry 0 (sabm true)) (entry 1 (ua true) ∷ entry 1 polling_frame ∷ []) (both_ends w5)) in
      let r6 : ReachedInSessions ⊥ dte w6 = takes (sabm true) 0 (entry 1 (ua true) ∷ entry 1 polling_frame ∷ []) (bare_reads reads Dce (sabm true) tt)
      refl r5 in
      let w7 : PeerSessions = with_peer w6.peer (taken_as dte (Ok (ua true)) (entry 1 (ua true)) (entry 1 polling_frame ∷ []) (both_ends w6)) in
      let r7 : ReachedInSessions ⊥ dte w7 = takes (ua true) 1 (entry 1 polling_frame ∷ []) (bare_reads reads Dce (ua true) tt) refl r6 in
      let w8 : PeerSessions = with_peer w7.peer (taken_as dte (Ok polling_frame) (entry 1 polling_frame) [] (both_ends w7)) in
      let r8 : ReachedInSessions ⊥ dte w8 = takes polling_frame 1 [] (info_reads reads Dce true 7) refl r7 in
      (w8, r8, refl, refl, refl, refl)
