-- The worked rows of ends, by computing.
use Rattle.x25_handshakes.proofs.Names.{◌≡◌, false, true, [], ◌∷◌, None, refl, sym, subst, arith, Dte, Dce, Last, no_part, piece_ground, may_answer, Data, Call}
use Rattle.x25_handshakes.proofs.Names.{Accept, Sends, Says, InStretch, On, Restart, RestartConf, InCall, InChannel, calling_terms}
use Rattle.x25_circuit.specs.{Params.{default_params}, laws.ParamsLaws.{NoFieldIsKnown}}
use Rattle.x25_handshakes.specs.laws.{Handshake.{swapped}, PeerCalls.{PlacesCall, AcceptsCall}, PeerLayer.{Restarts}}
use Rattle.x25_handshakes.specs.laws.TwoPeers.{start, Does, Hears, IsReached, at_start, near_moves, far_moves}
use Rattle.x25_handshakes.specs.rows.PeerRows.{terms, does, hears, sent, heard, answered, taken, LatePeerMoves, proposal, layer_does, layer_hears}
use Rattle.x25_handshakes.specs.rows.PeerRows.{restarted, called, accepted, message, came, PeerLayerMoves}
use Rattle.x25_packet.specs.Marks.{with_q}
use Rattle.x25_handshakes.specs.laws.TwoLayers as layers

pub late_peer_moves : LatePeerMoves
late_peer_moves =
    let r1 : IsReached terms terms sent =
    near_moves start sent at_start (Does (InStretch (Sends (Last (with_q false) (5 ∷ [])) 0))
    (record { rising = omega arith; taken = omega arith }, record { window = omega arith; fits = refl })) in
    let r2 : IsReached terms terms heard =
    far_moves sent (hears (swapped sent) (Data 0 0 (Last (with_q false) (5 ∷ [])))) r1 (Hears (Data 0 0 (Last (with_q false) (5 ∷ []))) [] refl) in
    let r3 : IsReached terms terms answered =
    far_moves heard (does (swapped heard) (InStretch (Sends (Last (with_q false) (7 ∷ [])) 0))) r2
    (Does (InStretch (Sends (Last (with_q false) (7 ∷ [])) 0))
    (record { rising = omega arith; taken = omega arith }, record { window = omega arith; fits = refl })) in
    let r4 : IsReached terms terms taken = near_moves answered taken r3 (Hears (Data 0 0 (Last (with_q false) (7 ∷ []))) [] refl) in
    record {
      reached = far_moves taken (does (swapped taken) (InStretch (Says true 1))) r4
          (Does (InStretch (Says true 1)) (record { rising = omega arith; taken = omega arith }));
      up = refl;
      there = refl;
      before = refl;
    }

pub peer_layer_moves : NoFieldIsKnown → PeerLayerMoves
peer_layer_moves no_field =
    let w1 = layer_does layers.start Restarts in
    let r1 : layers.IsReached Dte w1 = layers.near_moves layers.start w1 layers.at_start (layers.Does Restarts tt) in
    let w2 = layer_hears Dce (swapped w1) Restart in
    let r2 : layers.IsReached Dte (swapped w2) = layers.far_moves w1 w2 r1 (layers.Hears Restart [] refl) in
    let r3 : layers.IsReached Dte restarted = layers.near_moves (swapped w2) restarted r2 (layers.Hears RestartConf [] refl) in
    let call = InChannel 1 (InCall (PlacesCall proposal)) in
    let w4 = layer_does (swapped restarted) call in
    let r4 : layers.IsReached Dte (swapped w4) = layers.far_moves restarted w4 r3 (layers.Does call refl) in
    let r5 : layers.IsReached Dte called = layers.near_moves (swapped w4) called r4 (layers.Hears (On 1 (Call proposal)) [] refl) in
    let accepts = InChannel 1 (InCall (AcceptsCall [] 1)) in
    let w6 = layer_does called accepts in
    let may = subst (λ p. may_answer default_params p ≡ true) (sym (no_field default_params)) refl in
    let r6 : layers.IsReached Dte w6 = layers.near_moves called w6 r5 (layers.Does accepts may) in
    let w7 = layer_hears Dce (swapped w6) (On 1 (Accept [] 1)) in
    let r7 : layers.IsReached Dte accepted = layers.far_moves w6 w7 r6 (layers.Hears (On 1 (Accept [] 1)) [] refl) in
    let fits = subst (λ p. piece_ground 1 (calling_terms 1 p).size no_part (Last (with_q false) (7 ∷ [])) ≡ None) (sym (no_field default_params)) refl in
    let w8 = layer_does (swapped accepted) message in
    let r8 : layers.IsReached Dte (swapped w8) =
    layers.far_moves accepted w8 r7 (layers.Does message (record { rising = omega arith; taken = omega arith }, record { window = omega arith; fits = fits })) in
    record {
      reached = layers.near_moves (swapped w8) came r8 (layers.Hears (On 1 (Data 0 0 (Last (with_q false) (7 ∷ [])))) [] refl);
      calls = refl;
      up = refl;
    }
