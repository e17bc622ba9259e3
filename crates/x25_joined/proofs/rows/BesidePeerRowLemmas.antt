-- The worked row of a program and a peer, by computing.
use Rattle.x25_joined.proofs.Names.{ℕ, true, List, [], ◌∷◌, ◌<◌, length, refl, arith, All-nil, All-cons, decode_pairs, Dte, line_in, lines_of, frame_line}
use Rattle.std.specs.{Fmt.{digits}, Prelude.{codes, Some}}
use Rattle.x25_bits.specs.{FrameCheck.{fcs_of, number_of, divided, low_bits, add, divisor}, FrameCheck.Sealed.{is_sealed}}
use Rattle.x25_circuit.specs.Hearing.{request_in}
use Rattle.x25_console.specs.Telling.{refusal_line}
use Rattle.x25_frame.specs.Reading.{frame_of}
use Rattle.x25_handshakes.specs.laws.{Handshake.{At, PeerStep}, Layers.{LayerPacket, Restart}, PeerCalls.{PlacesCall}, PeerChannel.{InCall}}
use Rattle.x25_handshakes.specs.laws.{PeerLayer.{PeerChannels, LayerDeed, InChannel, does_layer, layer_taking}, PeerLayers.{other_role}}
use Rattle.x25_joined.proofs.{Names.{Settings, settings_from, saying_line, event_in, event_turn, turn, turns, piped, AreOfFrame}, rows.JoinedRowLemmas.{opens}}
use Rattle.x25_joined.specs.laws.BesidePeer.{Program, nothing_read, bare, reads, ReachedProgram, at_start, goes_on, Reads, Takes, Elsewhere}
use Rattle.x25_joined.specs.rows.BesidePeerRows.{of_all_forms, CallIsAccepted}
use Rattle.x25_line.specs.laws.{Ends.{sends, listens, moves, takes_sabm}, Loss.{nothing as none_lost, gone}, Peer.{Peer, numbered_to, told_to, taking, hearing}}
use Rattle.x25_line.specs.laws.{PeerSessions.{PeerEnd, begins, now, with_now, nothing, put}, Sessions.{Entry, Meeting}}
use Rattle.x25_link.specs.Station.{pumped}
use Rattle.x25_packet.specs.{Classes.{are_facilities, own_in}, Digits.{halves_of, packed}, Facilities.{facilities_of}, Grammar.{read_of}}
use Rattle.x25_packet.specs.Packet.{call, restart, restart_conf}
use Rattle.x25_peer.specs.laws.BesideSessions.{BesideSessions, links, their_now, their_layer, layer_went}
use Rattle.x25_script.specs.Reading.{parts_of, number_in, small_number_in, params_in, with_params_in, call_in, accept_in, send_in, interrupt_in, with_fields}
use Rattle.x25_script.specs.Reading.{part_in, with_in, command_in, lose_in, damage_in, drain_in}
use Rattle.x25_transcript.specs.EntryText.{entry_line}
use Rattle.x25_layer.specs.laws.PeerJoined as layer_peer
use Rattle.x25_peer.specs.laws.BesideSessions as beside

abbrev IsOctet : ℕ → Type 0
IsOctet octet = octet < 256

frame_octets : (o₁ o₂ o₃ o₄ : ℕ) → o₁ < 256 → o₂ < 256 → o₃ < 256 → o₄ < 256 → (rest : List ℕ) → AreOfFrame rest → length rest < 4000
    → AreOfFrame (o₁ ∷ o₂ ∷ o₃ ∷ o₄ ∷ rest)
frame_octets o₁ o₂ o₃ o₄ a b d e rest h few = record {
  each = All-cons IsOctet o₁ (o₂ ∷ o₃ ∷ o₄ ∷ rest) a
      (All-cons IsOctet o₂ (o₃ ∷ o₄ ∷ rest) b (All-cons IsOctet o₃ (o₄ ∷ rest) d (All-cons IsOctet o₄ rest e h.each)));
  short = omega (arith, few);
}

abbrev ours : Settings
ours = settings_from Dte of_all_forms

-- ---- octets on the line

abbrev sabm_octets : List ℕ
sabm_octets = 1 ∷ 63 ∷ 235 ∷ 223 ∷ []

abbrev ua_octets : List ℕ
ua_octets = 1 ∷ 115 ∷ 131 ∷ 87 ∷ []

abbrev restart_packet : List ℕ
restart_packet = 16 ∷ 0 ∷ 251 ∷ 0 ∷ 0 ∷ []

abbrev restart_octets : List ℕ
restart_octets = 1 ∷ 0 ∷ 16 ∷ 0 ∷ 251 ∷ 0 ∷ 0 ∷ 119 ∷ 2 ∷ []

abbrev confirmation_packet : List ℕ
confirmation_packet = 16 ∷ 0 ∷ 255 ∷ []

abbrev confirmation_octets : List ℕ
confirmation_octets = 3 ∷ 32 ∷ 16 ∷ 0 ∷ 255 ∷ 5 ∷ 215 ∷ []

abbrev call_packet : List ℕ
call_packet = 16 ∷ 1 ∷ 11 ∷ 0 ∷ 0 ∷ []

abbrev call_octets : List ℕ
call_octets = 3 ∷ 34 ∷ 16 ∷ 1 ∷ 11 ∷ 0 ∷ 0 ∷ 117 ∷ 40 ∷ []

abbrev sent : ℕ → List ℕ → Entry
sent session octets = record { session = session; octets = octets }

none_fit : AreOfFrame []
none_fit = record { each = All-nil IsOctet; short = omega arith }

ua_fits : AreOfFrame ua_octets
ua_fits = frame_octets 1 115 131 87 (omega arith) (omega arith) (omega arith) (omega arith) [] none_fit (omega arith)

three_fit : (a b d : ℕ) → a < 256 → b < 256 → d < 256 → AreOfFrame (a ∷ b ∷ d ∷ [])
three_fit a b d low mid high = record {
  each = All-cons IsOctet a (b ∷ d ∷ []) low
      (All-cons IsOctet b (d ∷ []) mid (All-cons IsOctet d [] high (All-nil IsOctet)));
  short = omega arith;
}

confirmation_fits : AreOfFrame confirmation_octets
confirmation_fits = frame_octets 3 32 16 0 (omega arith) (omega arith) (omega arith) (omega arith) (255 ∷ 5 ∷ 215 ∷ [])
    (three_fit 255 5 215 (omega arith) (omega arith) (omega arith)) (omega arith)

call_fits : AreOfFrame call_octets
call_fits = frame_octets 3 34 16 1 (omega arith) (omega arith) (omega arith) (omega arith) (11 ∷ 0 ∷ 0 ∷ 117 ∷ 40 ∷ [])
    (record {
      each = All-cons IsOctet 11 (0 ∷ 0 ∷ 117 ∷ 40 ∷ []) (omega arith)
          (All-cons IsOctet 0 (0 ∷ 117 ∷ 40 ∷ []) (omega arith) (three_fit 0 117 40 (omega arith) (omega arith) (omega arith)).each);
      short = omega arith;
    })
    (omega arith)

-- ---- the peer's layer

abbrev layer_hears : Settings → Program → PeerStep (At PeerChannels) LayerPacket
layer_hears c p = layer_taking (other_role c.role) (their_layer (bare c p)).epoch (their_layer (bare c p)).side Restart

abbrev layer_does : Settings → Program → LayerDeed → At PeerChannels
layer_does c p deed = does_layer (their_layer (bare c p)).epoch (their_layer (bare c p)).side deed

-- ---- the history

pub call_is_accepted : CallIsAccepted
unfolding with_in part_in are_facilities own_in digits decode_pairs piped event_turn turn turns event_in lines_of line_in parts_of number_in lose_in damage_in
    drain_in command_in with_fields small_number_in params_in with_params_in call_in accept_in send_in interrupt_in saying_line entry_line frame_line
    refusal_line pumped frame_of read_of halves_of packed facilities_of is_sealed fcs_of number_of divided low_bits add divisor
call_is_accepted =
    let p0 : Program = nothing_read in
    let p1 : Program = record p0 { read = codes "dte connect\n"; out = sent 0 sabm_octets ∷ [] } in
    let r1 : ReachedProgram ours p1 = goes_on p0 p1 at_start
    (Reads (codes "dte connect") (record { is_line = opens (codes "dte connect") refl; is_no_frame = tt; in_time = tt })) in
    let e2 : PeerEnd = begins p0.peer in
    let p2 : Program = record p1 { peer = e2; out = []; back = sent 1 ua_octets ∷ [] } in
    let v2 : BesideSessions = record (bare ours p1) { peer = e2; out = []; back = sent 1 ua_octets ∷ [] } in
    let r2 : ReachedProgram ours p2 = goes_on p1 p2 r1 (Elsewhere v2
    (beside.Links (links v2) (record { does = λ crossing. moves _ (takes_sabm 0 [] refl); left = (0, gone _ _); puts = put _ (λ odd. tt) }))) in
    let p3 : Program = record p2 { read = codes "dte connect\n< 01738357\n"; out = sent 1 restart_octets ∷ []; back = [] } in
    let r3 : ReachedProgram ours p3 = goes_on p2 p3 r2 (Takes (sent 1 ua_octets) [] refl ua_fits) in
    let x4 : Peer = taking true restart_packet (hearing true 0 (now e2)) in
    let e4 : PeerEnd = with_now x4 e2 in
    let met : Meeting = record { near = 1; far = 1 } in
    let p4 : Program = record p3 { peer = e4; out = []; met = met ∷ [] } in
    let v4 : BesideSessions = record (bare ours p3) { peer = e4; out = []; met = met ∷ [] } in
    let r4 : ReachedProgram ours p4 = goes_on p3 p4 r3 (Elsewhere v4
    (beside.Links (links v4) (record { does = λ crossing. listens _ [] x4 refl refl (true, true, refl, refl); left = (0, gone _ _); puts = nothing }))) in
    let came : BesideSessions = layer_went (bare ours p4) (record (their_now (bare ours p4)) { heard = 1; passed = restart 0 0 ∷ [] }) [] in
    let q4 : Program = record p4 { peer = came.peer; theirs = came.theirs } in
    let s4 : ReachedProgram ours q4 = goes_on p4 q4 r4 (Elsewhere came (beside.Comes (restart 0 0) restart_packet [] refl refl refl)) in
    let y5 : At PeerChannels = (layer_hears ours q4).next in
    let v5 : BesideSessions = layer_went (bare ours q4) (record (their_now (bare ours q4)) { layer = y5; passed = [] }) (confirmation_packet ∷ []) in
    let p5 : Program = record p4 { peer = v5.peer; theirs = v5.theirs } in
    let r5 : ReachedProgram ours p5 = goes_on q4 p5 s4 (Elsewhere v5 (beside.LayerMoves y5 [] (restart_conf ∷ []) (confirmation_packet ∷ []) refl
    (layer_peer.Hears (restart 0 0) [] (restart_conf ∷ []) refl (record { are = refl; configured = (λ has. absurd has, tt) })) (refl, tt))) in
    let deed : LayerDeed = InChannel 1 (InCall (PlacesCall (request_in [] [] [] []))) in
    let y6 : At PeerChannels = layer_does ours p5 deed in
    let v6 : BesideSessions = layer_went (bare ours p5) (record (their_now (bare ours p5)) { layer = y6; passed = [] }) (call_packet ∷ []) in
    let p6 : Program = record p5 { peer = v6.peer; theirs = v6.theirs } in
    let r6 : ReachedProgram ours p6 = goes_on p5 p6 r5 (Elsewhere v6 (beside.LayerMoves y6 [] (call 1 [] [] [] [] ∷ []) (call_packet ∷ []) refl
    (layer_peer.Does deed (call 1 [] [] [] []) refl refl (λ has. refl)) (refl, tt))) in
    let x7 : Peer = told_to 1 (numbered_to 0 (now p6.peer)) in
    let e7 : PeerEnd = with_now x7 p6.peer in
    let p7 : Program = record p6 { peer = e7; back = sent 1 confirmation_octets ∷ [] } in
    let v7 : BesideSessions = record (bare ours p6) { peer = e7; back = sent 1 confirmation_octets ∷ [] } in
    let r7 : ReachedProgram ours p7 = goes_on p6 p7 r6 (Elsewhere v7 (beside.Links (links v7) (record {
      does = λ crossing. sends (Some (record { ns = 0; packet = confirmation_packet })) 1 x7 refl (
        0,
        1,
        record { number = refl; same = refl; window = omega arith; again = omega arith },
        record { number = refl; rising = omega arith; taken = omega arith },
        refl,
      );
      left = (0, none_lost 0);
      puts = put _ (λ odd. tt);
    }))) in
    let x8 : Peer = told_to 1 (numbered_to 1 (now p7.peer)) in
    let e8 : PeerEnd = with_now x8 p7.peer in
    let p8 : Program = record p7 { peer = e8; back = sent 1 confirmation_octets ∷ sent 1 call_octets ∷ [] } in
    let v8 : BesideSessions = record (bare ours p7) { peer = e8; back = sent 1 confirmation_octets ∷ sent 1 call_octets ∷ [] } in
    let r8 : ReachedProgram ours p8 = goes_on p7 p8 r7 (Elsewhere v8 (beside.Links (links v8) (record {
      does = λ crossing. sends (Some (record { ns = 1; packet = call_packet })) 1 x8 refl (
        1,
        1,
        record { number = refl; same = refl; window = omega arith; again = omega arith },
        record { number = refl; rising = omega arith; taken = omega arith },
        refl,
      );
      left = (0, none_lost 0);
      puts = put _ (λ odd. tt);
    }))) in
    let p9 : Program = reads ours p8 (codes "< 03201000ff05d7\n") (sent 1 call_octets ∷ []) (met ∷ met ∷ []) in
    let r9 : ReachedProgram ours p9 = goes_on p8 p9 r8 (Takes (sent 1 confirmation_octets) (sent 1 call_octets ∷ []) refl confirmation_fits) in
    let p10 : Program = reads ours p9 (codes "< 032210010b00007528\n") [] (met ∷ met ∷ met ∷ []) in
    let r10 : ReachedProgram ours p10 = goes_on p9 p10 r9 (Takes (sent 1 call_octets) [] refl call_fits) in
    let p11 : Program = reads ours p10 (codes "dte with 0180 - d accept 1\n") [] p10.met in
    let r11 : ReachedProgram ours p11 = goes_on p10 p11 r10
    (Reads (codes "dte with 0180 - d accept 1") (record { is_line = opens (codes "dte with 0180 - d accept 1") refl; is_no_frame = tt; in_time = tt })) in
    record { program = p11; reached = r11; text = refl; met = refl }
