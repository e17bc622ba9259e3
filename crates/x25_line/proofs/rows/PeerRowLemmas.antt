-- The worked rows, by computing.
use Rattle.x25_line.proofs.Names.{◌≡◌, [], ◌∷◌, ◌++◌, true, false, Ok, arith, refl, ap, Dte, Dce, PlainFrame, rr, spelling_of, frame_of, ReadsSpelled, pumped}
use Rattle.x25_line.proofs.Names.{Put, Deliver, dte, Peer, fresh_peer, numbered_to, told_to, JoinedOnce, our_end, Ours, HandsDown, Sends, Hears, ReachedOnce}
use Rattle.x25_line.proofs.{Names.{at_start, goes_on}, rows.StationRowLemmas.{taken_as, comes, packet_frame, info_reads, ready_reads}}
use Rattle.x25_line.specs.laws.{PeerJoined.{start, with_peer}, Stations.{acts}, Tape.{judges, notes, IsSilent, Begins, Acts, Shows, Comes}}
use Rattle.x25_line.specs.rows.PeerRows.{polling_frame, OddPeerMoves, SilentTapeMoves, TapeTells}

module _ (reads : ReadsSpelled) where
  pub odd_peer_moves : OddPeerMoves
  unfolding pumped
  odd_peer_moves =
      let w1 : JoinedOnce = with_peer fresh_peer (acts dte (Put (5 ∷ [])) (our_end start)) in
      let r1 : ReachedOnce ⊥ dte w1 = goes_on start w1 at_start (Ours (Put (5 ∷ []))) in
      let w2 : JoinedOnce = record w1 { peer = record w1.peer { given = w1.peer.given ++ (7 ∷ []) ∷ [] } } in
      let r2 : ReachedOnce ⊥ dte w2 = goes_on w1 w2 r1 (HandsDown (7 ∷ [])) in
      let p3 : Peer = record w2.peer { taken = (5 ∷ []) ∷ [] } in
      let w3 : JoinedOnce = record w2 { peer = p3; out = [] } in
      let r3 : ReachedOnce ⊥ dte w3 = goes_on w2 w3 r2
      (Hears (spelling_of Dte packet_frame) [] p3 refl (rw (info_reads reads Dte false 5) (false, true, refl, refl)))
      in
      let q : Peer = told_to 0 (numbered_to 0 p3) in
      let w4 : JoinedOnce = record w3 { peer = q; back = spelling_of Dce polling_frame ∷ [] } in
      let r4 : ReachedOnce ⊥ dte w4 = goes_on w3 w4 r3
      (Sends (spelling_of Dce polling_frame) q
      (rw (info_reads reads Dce true 7) (
        0,
        0,
        record { number = refl; same = refl; window = omega arith; again = omega arith },
        record { number = refl; rising = omega arith; taken = omega arith },
        refl,
      )))
      in
      let w5 : JoinedOnce = with_peer q (acts dte Deliver (our_end w4)) in
      let r5 : ReachedOnce ⊥ dte w5 = goes_on w4 w5 r4 (Ours Deliver) in
      let same : acts dte Deliver (our_end w4) ≡ taken_as dte (Ok polling_frame) (spelling_of Dce polling_frame) [] (our_end w4) =
      comes dte (Ok polling_frame) (spelling_of Dce polling_frame) [] (our_end w4) (info_reads reads Dce true 7) refl
      in
      (w5, r5, ap (λ v. v.near.up) same, refl, ap (λ v. v.near.came_up) same)

  -- RR with N(R)=1 and F=1
  abbrev answer : PlainFrame
  answer = rr false 1 true

  pub silent_tape_moves : SilentTapeMoves
  unfolding pumped
  silent_tape_moves =
      let q : Peer = told_to 0 (numbered_to 0 (record { given = (7 ∷ []) ∷ []; acked = 0; sent = 0; told = 0; taken = [] })) in
      let w1 : JoinedOnce = record { near = start.near; peer = q; out = []; back = spelling_of Dce polling_frame ∷ [] } in
      let s1 : IsSilent dte w1 = Comes start (spelling_of Dce polling_frame) q (ap (λ r. judges r fresh_peer) (info_reads reads Dce true 7)) Begins in
      let w2 : JoinedOnce = with_peer q (acts dte Deliver (our_end w1)) in
      let s2 : IsSilent dte w2 = Acts w1 Deliver s1 in
      let same : acts dte Deliver (our_end w1) ≡ taken_as dte (Ok polling_frame) (spelling_of Dce polling_frame) [] (our_end w1) =
      comes dte (Ok polling_frame) (spelling_of Dce polling_frame) [] (our_end w1) (info_reads reads Dce true 7) refl
      in
      let out : w2.out ≡ spelling_of Dte answer ∷ [] = ap (λ v. v.out) same in
      let p3 : Peer = notes (frame_of Dte 128 (spelling_of Dte answer)) q in
      let w3 : JoinedOnce = record w2 { peer = p3; out = [] } in
      let s3 : IsSilent dte w3 = Shows w2 (spelling_of Dte answer) [] out s2 in
      (w3, s3, ap (λ v. v.near.up) same, ap (λ r. (notes r q).acked) (ready_reads reads Dte false 1 true (omega arith)), ap (λ v. v.near.came_up) same)

pub tape_tells : TapeTells
tape_tells = record { other_packet = refl; eighth = refl; never_sent = refl; falls = refl }
