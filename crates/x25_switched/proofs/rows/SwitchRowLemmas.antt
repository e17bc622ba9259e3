-- The worked row, by computing.
use Rattle.std.proofs.Common.{◌≡◌, ◌∙◌, ap, ℕ, zero, suc, Bool, true, false, List, [], ◌∷◌, ◌++◌, length, drop, ◌%◌, ◌<◌, ◌≤◌, ◌+◌, Ok, refl, sym, arith}
use Rattle.std.proofs.Common.{inl, Some, None}
use Rattle.std.specs.Prelude.{slice_get}
use Rattle.x25_bits.specs.{FrameCheck.{fcs_of, number_of, divided, low_bits, add, divisor}, FrameCheck.Sealed.{is_sealed}}
use Rattle.x25_bits.specs.declared.role.Role.TheVariants.{Dte, Dce}
use Rattle.x25_frame.specs.{Frame.{sabm, ua, info}, Reading.{frame_of}}
use Rattle.std.proofs.lemmas.List.Elements.{All-cons, All-nil}
use Rattle.std.specs.Prelude.{All}
use Rattle.x25_packet.specs.{Classes.{are_facilities, own_in}, Digits.{packed, halves_of}, Facilities.{facilities_of}, Grammar.{read_of}}
use Rattle.x25_packet.specs.{Packet.{PlainPacket, call, accept, user_data, interrupt as interrupt_packet, restart, restart_conf}, Marks.{with_q}}
use Rattle.x25_circuit.specs.{Hearing.{request_in}, Message.{Message, More, Last}, Params.{in_brief}, Calling.{Accepts, Sends, Interrupts}}
use Rattle.x25_line.specs.laws.Ends.{In, letter, listens, sends, moves, loses, takes_sabm}
use Rattle.x25_line.specs.laws.{Loss.{nothing as none_lost, gone}, Peer.{taking, hearing, told_to, numbered_to}}
use Rattle.x25_line.specs.laws.PeerSessions.{begins, with_now, now, nothing, put}
use Rattle.x25_line.specs.laws.{Said.{said, Tells}, Sessions.{Entry, letters}}
use Rattle.x25_link.specs.{Station.{pumped}, Link.{connect_step, relink_step}, Hearing.{other}}
use Rattle.x25_handshakes.specs.laws.{PeerCalls.{PlacesCall, AcceptsCall, InTransfer}, PeerChannel.{InCall}}
use Rattle.x25_handshakes.specs.laws.{PeerLayer.{LayerDeed, InChannel, does_layer, layer_taking}, PeerLayers.{other_role}}
use Rattle.x25_handshakes.specs.laws.{PeerTransfer.{InStretch}, PeerStretch.{Deed, Sends as sends_data, Interrupts as sends_interrupt}}
use Rattle.x25_layer.specs.{laws.Bare.{bare_layer}, laws.PeerJoined.{Does, Hears}, Calls.{Asks, Dials, LayerRequest}}
use Rattle.x25_station.specs.{Config.{Settings, link_settings}, Entry.{connect_asked, relink_asked}, Station.{new_station}}
use Rattle.x25_station.specs.Step.{Step, Outcome, Did, Refused, follows, led_by, requests}
use Rattle.x25_peer.specs.laws.BesideSessions.{BesideSessions, start, acted, took, links, their_now, their_layer, layer_went, StationDoes, Elsewhere}
use Rattle.x25_peer.specs.laws.BesideSessions.{Connects, Relinks, Takes, Loses, Links, Comes, LayerMoves, ReachedBeside, at_start, here, elsewhere}
use Rattle.x25_peer.specs.laws.BesideSessions as beside
use Rattle.x25_switched.specs.laws.Switched.{messages_up, messages_down, interrupts_up, interrupts_down, waiting, Nothing, Next, Near, Far, ReachedThrough}
use Rattle.x25_switched.specs.laws.Switched.{goes_on, Here, There}
use Rattle.x25_switched.specs.laws.Switched as switched
use Rattle.x25_switched.specs.laws.SwitchClaims.{there}
use Rattle.x25_switched.specs.rows.SwitchRows.{settings, bond, counted, message, interrupt, IsJoined, meeting, MessageGoesThrough}

abbrev entry : ℕ → List ℕ → Entry
entry session octets = record { session = session; octets = octets }

-- ---- the peer's link

-- it begins a session as it answers the SABM in front by UA
abbrev answered : List ℕ → BesideSessions → BesideSessions
answered reply w = record w { peer = begins w.peer; out = []; back = entry (suc w.peer.begun) reply ∷ [] }

answers : (c : Settings) (w : BesideSessions) (session : ℕ) (octets reply : List ℕ) → w.out ≡ entry session octets ∷ [] → w.back ≡ []
    → frame_of c.role 4099 octets ≡ Ok (sabm true) → frame_of (other c.role) 4099 reply ≡ Ok (ua true)
    → Elsewhere c w (answered reply w)
answers c w session octets reply is none asked said_so = Links (links (answered reply w)) (record {
  does = λ crossing. rw (none, said_so)
      (moves _ (takes_sabm session [] (ap (letters c.role 4099) is ∙ ap (λ r. letter session (said r) ∷ []) asked)));
  left = (0, rw is (gone _ _));
  puts = rw none (put _ (λ odd. tt));
})

-- what is in front is lost
abbrev lost : List Entry → BesideSessions → BesideSessions
lost rest w = record w { out = rest }

loses_front : (c : Settings) (w : BesideSessions) (e : Entry) (rest : List Entry) → w.out ≡ e ∷ rest → Elsewhere c w (lost rest w)
loses_front c w e rest is = Links (links (lost rest w)) (record {
  does = λ crossing. rw is (moves _ (loses 0 _ (gone _ _)));
  left = (0, rw is (gone _ _));
  puts = nothing;
})

-- it takes the packet of the I frame in front
abbrev heard : ℕ → ℕ → List ℕ → List Entry → BesideSessions → BesideSessions
heard session nr packet rest w = record w {
  peer = with_now (taking true packet (hearing true nr (now w.peer))) w.peer;
  out = rest;
  met = record { near = session; far = w.peer.begun } ∷ w.met;
}

hears_front : (c : Settings) (w : BesideSessions) (session ns nr : ℕ) (packet octets : List ℕ) (rest : List Entry) → w.out ≡ entry session octets ∷ rest
    → frame_of c.role 4099 octets ≡ Ok (info ns nr false packet) → w.peer.stand ≡ In → ns ≡ length (now w.peer).taken % 8
    → Elsewhere c w (heard session nr packet rest w)
hears_front c w session ns nr packet octets rest is reads stands wanted =
    Links (links (heard session nr packet rest w)) (record {
      does = λ crossing. rw stands (listens (letter session (Tells (Some (record { ns = ns; packet = packet })) nr)) (letters c.role 4099 rest)
          (taking true packet (hearing true nr (now w.peer)))
          (ap (letters c.role 4099) is ∙ ap (λ r. letter session (said r) ∷ letters c.role 4099 rest) reads) refl (true, true, wanted, refl));
      left = (0, rw is (gone _ _));
      puts = nothing;
    })

-- it sends its packet of this number, and acknowledges so many
abbrev spoken : ℕ → ℕ → List ℕ → BesideSessions → BesideSessions
spoken n t octets w = record w {
  peer = with_now (told_to t (numbered_to n (now w.peer))) w.peer;
  back = entry w.peer.begun octets ∷ [];
}

speaks : (c : Settings) (w : BesideSessions) (n t : ℕ) (packet octets : List ℕ) → w.out ≡ [] → w.back ≡ []
    → frame_of (other c.role) 4099 octets ≡ Ok (info (n % 8) (t % 8) false packet) → w.peer.stand ≡ In → slice_get (now w.peer).given n ≡ Some packet
    → n < (now w.peer).acked + 7 → (now w.peer).sent ≤ n + 7 → (now w.peer).told ≤ t → t ≤ length (now w.peer).taken
    → Elsewhere c w (spoken n t octets w)
speaks c w n t packet octets empty none reads stands same window again rising few =
    Links (links (spoken n t octets w)) (record {
      does = λ crossing. rw (none, reads) (sends (Some (record { ns = n % 8; packet = packet })) (t % 8) _ stands (
        n,
        t,
        record { number = refl; same = same; window = window; again = again },
        record { number = refl; rising = rising; taken = few },
        refl,
      ));
      left = (0, rw empty (none_lost 0));
      puts = rw none (put _ (λ odd. tt));
    })

-- ---- the peer's packet layer

-- a packet that its link took comes to it
abbrev come : PlainPacket → BesideSessions → BesideSessions
come p w = layer_went w (record (their_now w) { heard = suc (their_now w).heard; passed = (their_now w).passed ++ p ∷ [] }) []

-- it takes the one that came, and puts these octets
abbrev taken : Settings → PlainPacket → List (List ℕ) → BesideSessions → BesideSessions
taken c p all w = layer_went w (record (their_now w) {
  layer = (layer_taking (other_role c.role) (their_layer w).epoch (their_layer w).side (bare_layer c.channels.message p)).next;
  passed = [];
}) all

-- it sends a packet of these octets
abbrev done : LayerDeed → List ℕ → BesideSessions → BesideSessions
done deed octets w = layer_went w (record (their_now w) { layer = does_layer (their_layer w).epoch (their_layer w).side deed }) (octets ∷ [])

-- ---- the station

abbrev connecting : Settings → BesideSessions → Step
connecting c w = led_by (connect_asked ∷ []) (follows c w.near (connect_step (link_settings c) w.near.link))

abbrev relinking : Settings → BesideSessions → Step
relinking c w = led_by (relink_asked ∷ []) (follows c w.near (relink_step (link_settings c) w.near.link))

abbrev step_of : Outcome → Step
step_of (Did step) = step
step_of (Refused e) = record { near = new_station; out = []; entries = [] }

abbrev asking : Settings → LayerRequest → BesideSessions → Step
asking c request w = step_of (requests c w.near request)

abbrev is_done : Outcome → Bool
is_done (Did step) = true
is_done (Refused e) = false

is_step : (o : Outcome) → is_done o ≡ true → o ≡ Did (step_of o)
is_step (Did step) e = refl
is_step (Refused e) is = absurd (cc)

counted_octets : (first n : ℕ) → first + n ≤ 256 → All (λ octet. octet < 256) (counted first n)
counted_octets first zero few = All-nil (λ octet. octet < 256)
counted_octets first (suc n) few =
    All-cons (λ octet. octet < 256) first (counted (suc first) n) (omega (arith, few)) (counted_octets (suc first) n (omega (arith, few)))

-- ---- packets

abbrev confirmation : List ℕ
confirmation = 16 ∷ 0 ∷ 255 ∷ []

abbrev acceptance : List ℕ
acceptance = 16 ∷ 1 ∷ 15 ∷ []

abbrev in_data : Deed → LayerDeed
in_data deed = InChannel 1 (InCall (InTransfer (InStretch deed)))

-- ---- the near line

abbrev dce : Settings
dce = settings Dce

abbrev near_sabm : List ℕ
near_sabm = 3 ∷ 63 ∷ 91 ∷ 236 ∷ []

abbrev near_ua : List ℕ
near_ua = 3 ∷ 115 ∷ 51 ∷ 100 ∷ []

abbrev near_restart : List ℕ
near_restart = 3 ∷ 0 ∷ 16 ∷ 0 ∷ 251 ∷ 7 ∷ 0 ∷ 196 ∷ 120 ∷ []

abbrev near_confirmation : List ℕ
near_confirmation = 1 ∷ 32 ∷ 16 ∷ 0 ∷ 255 ∷ 141 ∷ 193 ∷ []

abbrev near_call : List ℕ
near_call = 1 ∷ 34 ∷ 16 ∷ 1 ∷ 11 ∷ 0 ∷ 0 ∷ 206 ∷ 31 ∷ []

abbrev near_acceptance : List ℕ
near_acceptance = 3 ∷ 66 ∷ 16 ∷ 1 ∷ 15 ∷ 192 ∷ 153 ∷ []

abbrev near_data : List ℕ
near_data = 1 ∷ 68 ∷ 16 ∷ 1 ∷ 0 ∷ counted 1 20 ++ 118 ∷ 141 ∷ []

abbrev near_ready : List ℕ
near_ready = 3 ∷ 100 ∷ 16 ∷ 1 ∷ 33 ∷ 117 ∷ 149 ∷ []

abbrev near_interrupt : List ℕ
near_interrupt = 1 ∷ 70 ∷ 16 ∷ 1 ∷ 35 ∷ 9 ∷ 249 ∷ 4 ∷ []

pub record NearRow (w : BesideSessions) : Type 0 where
  pub reached : ReachedBeside dce w
  pub joined : IsJoined w 1
  pub sent : (there w bond.near (meeting 1)).sent ≡ Last (with_q false) (counted 1 20) ∷ []
  pub interrupts_sent : (there w bond.near (meeting 1)).int_down ≡ interrupt ∷ []
  pub messages : messages_up w bond.near ≡ message ∷ []
  pub interrupts : interrupts_up w bond.near ≡ interrupt ∷ []

near_row : (w : BesideSessions) × NearRow w
unfolding are_facilities own_in pumped frame_of packed halves_of facilities_of read_of is_sealed fcs_of number_of divided low_bits add divisor
near_row =
    let w0 = start dce in
    let w1 = acted dce w0 (connecting dce w0) in
    let r1 = here w0 w1 at_start (Connects (connecting dce w0) refl) in
    let w2 = answered near_ua w1 in
    let r2 = elsewhere w1 w2 r1 (answers dce w1 0 near_sabm near_ua refl refl refl refl) in
    let w3 = took dce w2 (entry 1 near_ua) [] in
    let r3 = here w2 w3 r2 (Takes (entry 1 near_ua) [] refl) in
    let w4 = heard 1 0 (16 ∷ 0 ∷ 251 ∷ 7 ∷ 0 ∷ []) [] w3 in
    let r4 = elsewhere w3 w4 r3 (hears_front dce w3 1 0 0 (16 ∷ 0 ∷ 251 ∷ 7 ∷ 0 ∷ []) near_restart [] refl refl refl refl) in
    let w5 = come (restart 7 0) w4 in
    let r5 = elsewhere w4 w5 r4 (Comes (restart 7 0) (16 ∷ 0 ∷ 251 ∷ 7 ∷ 0 ∷ []) [] refl refl refl) in
    let w6 = taken dce (restart 7 0) (confirmation ∷ []) w5 in
    let r6 = elsewhere w5 w6 r5 (LayerMoves (their_layer w6) [] (restart_conf ∷ []) (confirmation ∷ []) refl
    (Hears (restart 7 0) [] (restart_conf ∷ []) refl (record { are = refl; configured = (λ has. absurd has, tt) })) (refl, tt)) in
    let w7 = spoken 0 1 near_confirmation w6 in
    let r7 = elsewhere w6 w7 r6
    (speaks dce w6 0 1 confirmation near_confirmation refl refl refl refl refl (omega arith) (omega arith) (omega arith) (omega arith)) in
    let w8 = took dce w7 (entry 1 near_confirmation) [] in
    let r8 = here w7 w8 r7 (Takes (entry 1 near_confirmation) [] refl) in
    let w9 = lost [] w8 in
    let r9 = elsewhere w8 w9 r8 (loses_front dce w8 _ [] refl) in
    let calls = InChannel 1 (InCall (PlacesCall (request_in [] [] [] []))) in
    let w10 = done calls (16 ∷ 1 ∷ 11 ∷ 0 ∷ 0 ∷ []) w9 in
    let r10 = elsewhere w9 w10 r9 (LayerMoves (their_layer w10) [] (call 1 [] [] [] [] ∷ []) ((16 ∷ 1 ∷ 11 ∷ 0 ∷ 0 ∷ []) ∷ []) refl
    (Does calls (call 1 [] [] [] []) refl refl (λ has. refl)) (refl, tt)) in
    let w11 = spoken 1 1 near_call w10 in
    let r11 = elsewhere w10 w11 r10
    (speaks dce w10 1 1 (16 ∷ 1 ∷ 11 ∷ 0 ∷ 0 ∷ []) near_call refl refl refl refl refl (omega arith) (omega arith) (omega arith) (omega arith)) in
    let w12 = took dce w11 (entry 1 near_call) [] in
    let r12 = here w11 w12 r11 (Takes (entry 1 near_call) [] refl) in
    let w13 = lost [] w12 in
    let r13 = elsewhere w12 w13 r12 (loses_front dce w12 _ [] refl) in
    let w14 = acted dce w13 (asking dce (Asks 1 (Accepts None)) w13) in
    let r14 = here w13 w14 r13
    (beside.Asks (Asks 1 (Accepts None)) (asking dce (Asks 1 (Accepts None)) w13) tt (is_step (requests dce w13.near (Asks 1 (Accepts None))) refl)) in
    let w15 = heard 1 2 acceptance [] w14 in
    let r15 = elsewhere w14 w15 r14 (hears_front dce w14 1 1 2 acceptance near_acceptance [] refl refl refl refl) in
    let w16 = come (accept 1 []) w15 in
    let r16 = elsewhere w15 w16 r15 (Comes (accept 1 []) acceptance [] refl refl refl) in
    let w17 = taken dce (accept 1 []) [] w16 in
    let r17 = elsewhere w16 w17 r16 (LayerMoves (their_layer w17) [] [] [] refl
    (Hears (accept 1 []) [] [] refl (record { are = refl; configured = tt })) tt) in
    let sending = in_data (sends_data (Last (with_q false) (counted 1 20)) 0) in
    let w18 = done sending (16 ∷ 1 ∷ 0 ∷ counted 1 20) w17 in
    let r18 = elsewhere w17 w18 r17 (LayerMoves (their_layer w18) [] (user_data 1 (with_q false) false 0 0 (counted 1 20) ∷ [])
    ((16 ∷ 1 ∷ 0 ∷ counted 1 20) ∷ []) refl
    (Does sending (user_data 1 (with_q false) false 0 0 (counted 1 20))
    (record { rising = omega arith; taken = omega arith }, record { window = omega arith; fits = refl }) refl (λ has. refl)) (refl, tt)) in
    let interrupts = in_data (sends_interrupt interrupt) in
    let w19 = done interrupts (16 ∷ 1 ∷ 35 ∷ 9 ∷ []) w18 in
    let r19 = elsewhere w18 w19 r18 (LayerMoves (their_layer w19) [] (interrupt_packet 1 interrupt ∷ []) ((16 ∷ 1 ∷ 35 ∷ 9 ∷ []) ∷ []) refl
    (Does interrupts (interrupt_packet 1 interrupt) refl refl (λ has. refl)) (refl, tt)) in
    let w20 = spoken 2 2 near_data w19 in
    let r20 = elsewhere w19 w20 r19
    (speaks dce w19 2 2 (16 ∷ 1 ∷ 0 ∷ counted 1 20) near_data refl refl refl refl refl (omega arith) (omega arith) (omega arith) (omega arith)) in
    let w21 = took dce w20 (entry 1 near_data) [] in
    let r21 = here w20 w21 r20 (Takes (entry 1 near_data) [] refl) in
    let v22 = lost (entry 1 near_ready ∷ []) w21 in
    let s22 = elsewhere w21 v22 r21 (loses_front dce w21 _ (entry 1 near_ready ∷ []) refl) in
    let w22 = lost [] v22 in
    let r22 = elsewhere v22 w22 s22 (loses_front dce v22 _ [] refl) in
    let w23 = spoken 3 2 near_interrupt w22 in
    let r23 = elsewhere w22 w23 r22
    (speaks dce w22 3 2 (16 ∷ 1 ∷ 35 ∷ 9 ∷ []) near_interrupt refl refl refl refl refl (omega arith) (omega arith) (omega arith) (omega arith)) in
    let w24 = took dce w23 (entry 1 near_interrupt) [] in
    let r24 = here w23 w24 r23 (Takes (entry 1 near_interrupt) [] refl) in (
      w24,
      record {
        reached = r24;
        joined = record { met = inl refl; alike = record { session = refl; own = refl; peer = refl } };
        sent = refl;
        interrupts_sent = refl;
        messages = refl;
        interrupts = refl;
      },
    )

-- ---- the far line, while the near one stands

abbrev dte : Settings
dte = settings Dte

abbrev far_sabm : List ℕ
far_sabm = 1 ∷ 63 ∷ 235 ∷ 223 ∷ []

abbrev far_ua : List ℕ
far_ua = 1 ∷ 115 ∷ 131 ∷ 87 ∷ []

abbrev far_restart : List ℕ
far_restart = 1 ∷ 0 ∷ 16 ∷ 0 ∷ 251 ∷ 0 ∷ 0 ∷ 119 ∷ 2 ∷ []

abbrev far_confirmation : List ℕ
far_confirmation = 3 ∷ 32 ∷ 16 ∷ 0 ∷ 255 ∷ 5 ∷ 215 ∷ []

-- packets of 16 octets each way
abbrev facilities : List ℕ
facilities = 66 ∷ 4 ∷ 4 ∷ []

abbrev dialling : LayerRequest
dialling = Dials [] [] [] (in_brief (record { size_called = 4; size_calling = 4; win_called = 2; win_calling = 2 }))

abbrev far_call : List ℕ
far_call = 1 ∷ 34 ∷ 16 ∷ 1 ∷ 11 ∷ 0 ∷ 3 ∷ 66 ∷ 4 ∷ 4 ∷ 83 ∷ 125 ∷ []

abbrev far_acceptance : List ℕ
far_acceptance = 3 ∷ 66 ∷ 16 ∷ 1 ∷ 15 ∷ 192 ∷ 153 ∷ []

abbrev far_first : List ℕ
far_first = 1 ∷ 68 ∷ 16 ∷ 1 ∷ 16 ∷ counted 1 16 ++ 244 ∷ 142 ∷ []

abbrev far_second : List ℕ
far_second = 1 ∷ 70 ∷ 16 ∷ 1 ∷ 2 ∷ counted 17 4 ++ 91 ∷ 37 ∷ []

abbrev far_interrupt : List ℕ
far_interrupt = 1 ∷ 72 ∷ 16 ∷ 1 ∷ 35 ∷ 9 ∷ 65 ∷ 101 ∷ []

abbrev Through : BesideSessions → BesideSessions → Type 0
Through near far = ReachedThrough dce dte bond (record { near = near; far = far })

near_goes : (w : BesideSessions) → ReachedBeside dce w → Through w (start dte)
near_goes _ at_start = switched.at_start
near_goes _ (here w v reached does) = goes_on _ _ (near_goes w reached) (Near v (Here does))
near_goes _ (elsewhere w v reached away) = goes_on _ _ (near_goes w reached) (Near v (There away))

same_own : (c : Settings) (w v : BesideSessions) → Elsewhere c w v → v.own ≡ w.own
same_own c w _ (Loses back a) = refl
same_own c w _ (Links v a) = refl
same_own c w _ (Comes p octets rest a b e) = refl
same_own c w _ (LayerMoves y passed packets all a b e) = refl

-- nothing is handed down
away : (near w v : BesideSessions) → Elsewhere dte w v → Through near w → Through near v
away near w v goes reached = goes_on _ _ reached (Far v (There goes)
    (Nothing (ap (λ own. messages_down (record w { own = own }) bond.far) (same_own dte w v goes)))
    (Nothing (ap (λ own. interrupts_down (record w { own = own }) bond.far) (same_own dte w v goes))))

-- the station does what hands nothing down, a message, or an interrupt after it
quiet : (near w v : BesideSessions) → StationDoes dte w v → messages_down w bond.far ≡ [] → messages_down v bond.far ≡ []
    → interrupts_down w bond.far ≡ [] → interrupts_down v bond.far ≡ [] → Through near w → Through near v
quiet near w v does m n i j reached = goes_on _ _ reached (Far v (Here does) (Nothing (n ∙ sym m)) (Nothing (j ∙ sym i)))

hands_message : (near w v : BesideSessions) → StationDoes dte w v → messages_up near bond.near ≡ message ∷ [] → messages_down w bond.far ≡ []
    → messages_down v bond.far ≡ message ∷ [] → interrupts_down w bond.far ≡ [] → interrupts_down v bond.far ≡ [] → Through near w → Through near v
hands_message near w v does up m n i j reached = goes_on _ _ reached (Far v (Here does)
    (Next message [] (ap (λ (xs : List Message). drop (length xs) (messages_up near bond.near)) m ∙ up)
    (n ∙ ap (λ (xs : List Message). xs ++ message ∷ []) (sym m)))
    (Nothing (j ∙ sym i)))

hands_interrupt : (near w v : BesideSessions) → StationDoes dte w v → interrupts_up near bond.near ≡ interrupt ∷ [] → messages_down w bond.far ≡ message ∷ []
    → messages_down v bond.far ≡ message ∷ [] → interrupts_down w bond.far ≡ [] → interrupts_down v bond.far ≡ interrupt ∷ [] → Through near w → Through near v
hands_interrupt near w v does up m n i j reached = goes_on _ _ reached (Far v (Here does) (Nothing (n ∙ sym m))
    (Next interrupt [] (ap (λ (xs : List (List ℕ)). drop (length xs) (interrupts_up near bond.near)) i ∙ up)
    (j ∙ ap (λ (xs : List (List ℕ)). xs ++ interrupt ∷ []) (sym i))))

pub record FarRow (near v w : BesideSessions) : Type 0 where
  pub before : Through near v
  pub once : v.begun ≡ 1
  pub none : messages_down v bond.far ≡ []
  pub reached : Through near w
  pub twice : w.begun ≡ 2
  pub joined : IsJoined w 2
  pub taken : (there w bond.far (meeting 2)).taken ≡ More (with_q false) (counted 1 16) ∷ Last (with_q false) (counted 17 4) ∷ []
  pub interrupts_taken : (there w bond.far (meeting 2)).int_up ≡ interrupt ∷ []
  pub messages : messages_down w bond.far ≡ message ∷ []

far_row : (near : BesideSessions) → Through near (start dte) → messages_up near bond.near ≡ message ∷ [] → interrupts_up near bond.near ≡ interrupt ∷ []
    → (v w : BesideSessions) × FarRow near v w
unfolding are_facilities own_in pumped frame_of packed halves_of facilities_of read_of is_sealed fcs_of number_of divided low_bits add divisor
far_row near r0 messages interrupts =
    let w0 = start dte in
    let w1 = acted dte w0 (connecting dte w0) in
    let r1 = quiet near w0 w1 (Connects (connecting dte w0) refl) refl refl refl refl r0 in
    let w2 = answered far_ua w1 in
    let r2 = away near w1 w2 (answers dte w1 0 far_sabm far_ua refl refl refl refl) r1 in
    let w3 = took dte w2 (entry 1 far_ua) [] in
    let r3 = quiet near w2 w3 (Takes (entry 1 far_ua) [] refl) refl refl refl refl r2 in
    let w4 = acted dte w3 (relinking dte w3) in
    let r4 = quiet near w3 w4 (Relinks (relinking dte w3) refl) refl refl refl refl r3 in
    let w5 = lost (entry 1 far_sabm ∷ []) w4 in
    let r5 = away near w4 w5 (loses_front dte w4 _ (entry 1 far_sabm ∷ []) refl) r4 in
    let w6 = answered far_ua w5 in
    let r6 = away near w5 w6 (answers dte w5 1 far_sabm far_ua refl refl refl refl) r5 in
    let w7 = took dte w6 (entry 2 far_ua) [] in
    let r7 = quiet near w6 w7 (Takes (entry 2 far_ua) [] refl) refl refl refl refl r6 in
    let w8 = heard 2 0 (16 ∷ 0 ∷ 251 ∷ 0 ∷ 0 ∷ []) [] w7 in
    let r8 = away near w7 w8 (hears_front dte w7 2 0 0 (16 ∷ 0 ∷ 251 ∷ 0 ∷ 0 ∷ []) far_restart [] refl refl refl refl) r7 in
    let w9 = come (restart 0 0) w8 in
    let r9 = away near w8 w9 (Comes (restart 0 0) (16 ∷ 0 ∷ 251 ∷ 0 ∷ 0 ∷ []) [] refl refl refl) r8 in
    let w10 = taken dte (restart 0 0) (confirmation ∷ []) w9 in
    let r10 = away near w9 w10 (LayerMoves (their_layer w10) [] (restart_conf ∷ []) (confirmation ∷ []) refl
    (Hears (restart 0 0) [] (restart_conf ∷ []) refl (record { are = refl; configured = (λ has. absurd has, tt) })) (refl, tt)) r9 in
    let w11 = spoken 0 1 far_confirmation w10 in
    let r11 = away near w10 w11
    (speaks dte w10 0 1 confirmation far_confirmation refl refl refl refl refl (omega arith) (omega arith) (omega arith) (omega arith)) r10 in
    let w12 = took dte w11 (entry 2 far_confirmation) [] in
    let r12 = quiet near w11 w12 (Takes (entry 2 far_confirmation) [] refl) refl refl refl refl r11 in
    let w13 = lost [] w12 in
    let r13 = away near w12 w13 (loses_front dte w12 _ [] refl) r12 in
    let w14 = acted dte w13 (asking dte dialling w13) in
    let r14 = quiet near w13 w14
    (beside.Asks dialling (asking dte dialling w13) (counted_octets 0 0 (omega arith))
    (is_step (requests dte w13.near dialling) refl)) refl refl refl refl r13 in
    let w15 = heard 2 1 (16 ∷ 1 ∷ 11 ∷ 0 ∷ 3 ∷ facilities) [] w14 in
    let r15 = away near w14 w15 (hears_front dte w14 2 1 1 (16 ∷ 1 ∷ 11 ∷ 0 ∷ 3 ∷ facilities) far_call [] refl refl refl refl) r14 in
    let w16 = come (call 1 [] [] facilities []) w15 in
    let r16 = away near w15 w16 (Comes (call 1 [] [] facilities []) (16 ∷ 1 ∷ 11 ∷ 0 ∷ 3 ∷ facilities) [] refl refl refl) r15 in
    let w17 = taken dte (call 1 [] [] facilities []) [] w16 in
    let r17 = away near w16 w17 (LayerMoves (their_layer w17) [] [] [] refl
    (Hears (call 1 [] [] facilities []) [] [] refl (record { are = refl; configured = tt })) tt) r16 in
    let accepts = InChannel 1 (InCall (AcceptsCall [] 65535)) in
    let w18 = done accepts acceptance w17 in
    let r18 = away near w17 w18 (LayerMoves (their_layer w18) [] (accept 1 [] ∷ []) (acceptance ∷ []) refl
    (Does accepts (accept 1 []) refl refl (λ has. refl)) (refl, tt)) r17 in
    let w19 = spoken 1 2 far_acceptance w18 in
    let r19 = away near w18 w19
    (speaks dte w18 1 2 acceptance far_acceptance refl refl refl refl refl (omega arith) (omega arith) (omega arith) (omega arith)) r18 in
    let w20 = took dte w19 (entry 2 far_acceptance) [] in
    let r20 = quiet near w19 w20 (Takes (entry 2 far_acceptance) [] refl) refl refl refl refl r19 in
    let w21 = lost [] w20 in
    let r21 = away near w20 w21 (loses_front dte w20 _ [] refl) r20 in
    let hands = Asks 1 (Sends (with_q false) (counted 1 20)) in
    let w22 = acted dte w21 (asking dte hands w21) in
    let r22 = hands_message near w21 w22
    (beside.Asks hands (asking dte hands w21) (counted_octets 1 20 (omega arith))
    (is_step (requests dte w21.near hands) refl)) messages refl refl refl refl r21 in
    let interrupting = Asks 1 (Interrupts interrupt) in
    let w23 = acted dte w22 (asking dte interrupting w22) in
    let r23 = hands_interrupt near w22 w23
    (beside.Asks interrupting (asking dte interrupting w22) (counted_octets 9 1 (omega arith)) (is_step (requests dte w22.near interrupting) refl))
    interrupts refl refl refl refl r22 in
    let after_first = entry 2 far_second ∷ entry 2 far_interrupt ∷ [] in
    let w24 = heard 2 2 (16 ∷ 1 ∷ 16 ∷ counted 1 16) after_first w23 in
    let r24 = away near w23 w24 (hears_front dte w23 2 2 2 (16 ∷ 1 ∷ 16 ∷ counted 1 16) far_first after_first refl refl refl refl) r23 in
    let w25 = heard 2 2 (16 ∷ 1 ∷ 2 ∷ counted 17 4) (entry 2 far_interrupt ∷ []) w24 in
    let r25 = away near w24 w25
    (hears_front dte w24 2 3 2 (16 ∷ 1 ∷ 2 ∷ counted 17 4) far_second (entry 2 far_interrupt ∷ []) refl refl refl refl) r24 in
    let w26 = heard 2 2 (16 ∷ 1 ∷ 35 ∷ 9 ∷ []) [] w25 in
    let r26 = away near w25 w26 (hears_front dte w25 2 4 2 (16 ∷ 1 ∷ 35 ∷ 9 ∷ []) far_interrupt [] refl refl refl refl) r25 in
    let first = user_data 1 (with_q false) true 0 0 (counted 1 16) in
    let w27 = come first w26 in
    let r27 = away near w26 w27 (Comes first (16 ∷ 1 ∷ 16 ∷ counted 1 16) _ refl refl refl) r26 in
    let w28 = taken dte first [] w27 in
    let r28 = away near w27 w28 (LayerMoves (their_layer w28) [] [] [] refl (Hears first [] [] refl (record { are = refl; configured = tt })) tt) r27 in
    let second = user_data 1 (with_q false) false 1 0 (counted 17 4) in
    let w29 = come second w28 in
    let r29 = away near w28 w29 (Comes second (16 ∷ 1 ∷ 2 ∷ counted 17 4) _ refl refl refl) r28 in
    let w30 = taken dte second [] w29 in
    let r30 = away near w29 w30 (LayerMoves (their_layer w30) [] [] [] refl (Hears second [] [] refl (record { are = refl; configured = tt })) tt) r29 in
    let third = interrupt_packet 1 interrupt in
    let w31 = come third w30 in
    let r31 = away near w30 w31 (Comes third (16 ∷ 1 ∷ 35 ∷ 9 ∷ []) _ refl refl refl) r30 in
    let w32 = taken dte third [] w31 in
    let r32 = away near w31 w32 (LayerMoves (their_layer w32) [] [] [] refl (Hears third [] [] refl (record { are = refl; configured = tt })) tt) r31 in (
      w3,
      w32,
      record {
        before = r3;
        once = refl;
        none = refl;
        reached = r32;
        twice = refl;
        joined = record { met = inl refl; alike = record { session = refl; own = refl; peer = refl } };
        taken = refl;
        interrupts_taken = refl;
        messages = refl;
      },
    )

waits_by : (near far : BesideSessions) (down up : List Message) → messages_down far bond.far ≡ down → messages_up near bond.near ≡ up
    → waiting bond (record { near = near; far = far }) ≡ drop (length down) up
waits_by near far down up m n =
    ap (λ (xs : List Message). drop (length xs) (messages_up near bond.near)) m ∙ ap (λ (xs : List Message). drop (length down) xs) n

pub message_goes_through : MessageGoesThrough
message_goes_through =
    let n = near_row in
    let f = far_row n.0 (near_goes n.0 n.1.reached) n.1.messages n.1.interrupts in
    let row = f.2 in (
      record { near = n.0; far = f.0 },
      record { near = n.0; far = f.1 },
      record { reached = row.before; begun = row.once; waits = waits_by n.0 f.0 [] (message ∷ []) row.none n.1.messages },
      record {
        reached = row.reached;
        begun = row.twice;
        waits = waits_by n.0 f.1 (message ∷ []) (message ∷ []) row.messages n.1.messages;
        near = n.1.joined;
        far = row.joined;
        sent = n.1.sent;
        taken = row.taken;
        interrupts_sent = n.1.interrupts_sent;
        interrupts_taken = row.interrupts_taken;
      },
      refl,
    )
