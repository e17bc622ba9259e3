-- The worked rows of a station beside a peer, by computing.
use Rattle.x25_peer.proofs.Names.{◌≡◌, ◌∙◌, ap, ℕ, suc, true, List, [], ◌∷◌, Ok, refl, timer_step, connect_step, now, link_settings, Step, led_by, follows}
use Rattle.x25_peer.proofs.Names.{BesideSessions, links}
use Rattle.x25_bits.specs.{FrameCheck.{fcs_of, number_of, divided, low_bits, add, divisor}, FrameCheck.Sealed.{is_sealed}}
use Rattle.x25_bits.specs.declared.role.Role.TheVariants.{Dte, Dce}
use Rattle.x25_frame.specs.{Frame.{sabm, ua}, Reading.{frame_of}}
use Rattle.x25_line.specs.laws.Ends.{Out, Asking, letter, listens, moves, leaves, asks, loses, hears, takes_ua, takes_sabm}
use Rattle.x25_line.specs.laws.{Loss.{nothing as none_lost, gone, hurt, deeper}, Peer.{taking, hearing}, PeerSessions.{begins, with_now, nothing, put}}
use Rattle.x25_line.specs.laws.{Said.{said}, Sessions.{letters}}
use Rattle.x25_link.specs.Station.{pumped}
use Rattle.x25_peer.specs.laws.BesideSessions.{start, acted, took, Connects, Fires, Takes, Loses, Links, ReachedBeside, at_start, here, elsewhere}
use Rattle.x25_peer.specs.rows.BesideSessionRows.{dte, sabm_octets, sent, LostSabmGoesAgain, DamagedUaIsMissing, LeavingPeerAsks}
use Rattle.x25_station.specs.Entry.{connect_asked}

-- ---- octets on the line

abbrev ua_octets : List ℕ
ua_octets = 1 ∷ 115 ∷ 131 ∷ 87 ∷ []

abbrev damaged_octets : List ℕ
damaged_octets = 1 ∷ 115 ∷ 0 ∷ 0 ∷ []

abbrev restart_packet : List ℕ
restart_packet = 16 ∷ 0 ∷ 251 ∷ 0 ∷ 0 ∷ []

abbrev restart_octets : List ℕ
restart_octets = 1 ∷ 0 ∷ 16 ∷ 0 ∷ 251 ∷ 0 ∷ 0 ∷ 119 ∷ 2 ∷ []

abbrev peers_sabm : List ℕ
peers_sabm = 3 ∷ 63 ∷ 91 ∷ 236 ∷ []

sabm_reads : frame_of Dte 4099 sabm_octets ≡ Ok (sabm true)
unfolding frame_of is_sealed fcs_of number_of divided low_bits add divisor
sabm_reads = refl

ua_reads : frame_of Dce 4099 ua_octets ≡ Ok (ua true)
unfolding frame_of is_sealed fcs_of number_of divided low_bits add divisor
ua_reads = refl

-- ---- what happens

abbrev connecting : BesideSessions → Step
connecting w = led_by (connect_asked ∷ []) (follows dte w.near (connect_step (link_settings dte) w.near.link))

abbrev firing : BesideSessions → Step
firing w = follows dte w.near (timer_step (link_settings dte) w.near.link)

-- the peer begins a session as it answers the SABM at the front by UA
abbrev answered : BesideSessions → BesideSessions
answered w = record w { peer = begins w.peer; out = []; back = sent (suc w.peer.begun) ua_octets ∷ [] }

answers : {w : BesideSessions} → w.out ≡ sent 0 sabm_octets ∷ [] → w.back ≡ [] → ReachedBeside dte w → ReachedBeside dte (answered w)
answers {w} is none reached = elsewhere w (answered w) reached (Links (links (answered w)) (record {
  does = λ crossing. rw (none, ua_reads)
      (moves _ (takes_sabm 0 [] (ap (letters Dte 4099) is ∙ ap (λ r. letter 0 (said r) ∷ []) sabm_reads)));
  left = (0, rw is (gone _ _));
  puts = rw none (put _ (λ odd. tt));
}))

pub lost_sabm_goes_again : LostSabmGoesAgain
unfolding pumped frame_of is_sealed fcs_of number_of divided low_bits add divisor
lost_sabm_goes_again =
    let w0 = start dte in
    let w1 = acted dte w0 (connecting w0) in
    let r1 = here w0 w1 at_start (Connects (connecting w0) refl) in
    let w2 : BesideSessions = record w1 { out = [] } in
    let r2 = elsewhere w1 w2 r1 (Links (links w2) (record { does = λ crossing. moves _ (loses 0 [] (gone _ _)); left = (0, gone _ _); puts = nothing })) in
    let w3 = acted dte w2 (firing w2) in
    let r3 = here w2 w3 r2 (Fires (firing w2) refl (λ waiting. record { sabm = refl; ua = refl; crossing = tt })) in
    (w3, r3, refl, refl)

pub damaged_ua_is_missing : DamagedUaIsMissing
unfolding pumped frame_of is_sealed fcs_of number_of divided low_bits add divisor
damaged_ua_is_missing =
    let w0 = start dte in
    let w1 = acted dte w0 (connecting w0) in
    let r1 = here w0 w1 at_start (Connects (connecting w0) refl) in
    let w2 = answered w1 in
    let r2 = answers refl refl r1 in
    let w3 : BesideSessions = record w2 { back = sent 1 damaged_octets ∷ [] } in
    let r3 = elsewhere w2 w3 r2 (Loses (sent 1 damaged_octets ∷ []) (0, hurt _ _ [] (refl, refl))) in
    let w4 = took dte w3 (sent 1 damaged_octets) [] in
    let r4 = here w3 w4 r3 (Takes (sent 1 damaged_octets) [] refl) in
    let w5 = acted dte w4 (firing w4) in
    let r5 = here w4 w5 r4 (Fires (firing w4) refl (λ waiting. record { sabm = refl; ua = refl; crossing = tt })) in
    let w6 = answered w5 in
    let r6 = answers refl refl r5 in
    let w7 = took dte w6 (sent 2 ua_octets) [] in
    let r7 = here w6 w7 r6 (Takes (sent 2 ua_octets) [] refl) in
    let x8 = taking true restart_packet (hearing true 0 (now w7.peer)) in
    let p8 = with_now x8 w7.peer in
    let w8 : BesideSessions = record w7 { peer = p8; out = []; met = record { near = 1; far = 2 } ∷ [] } in
    let r8 = elsewhere w7 w8 r7
    (Links (links w8) (record { does = λ crossing. listens _ [] x8 refl refl (true, true, refl, refl); left = (0, gone _ _); puts = nothing })) in
    (w8, r8, refl, refl, refl)

pub leaving_peer_asks : LeavingPeerAsks
unfolding pumped frame_of is_sealed fcs_of number_of divided low_bits add divisor
leaving_peer_asks =
    let w0 = start dte in
    let w1 = acted dte w0 (connecting w0) in
    let r1 = here w0 w1 at_start (Connects (connecting w0) refl) in
    let w2 = answered w1 in
    let r2 = answers refl refl r1 in
    let w3 = took dte w2 (sent 1 ua_octets) [] in
    let r3 = here w2 w3 r2 (Takes (sent 1 ua_octets) [] refl) in
    let w4 : BesideSessions = record w3 { peer = record (w3.peer) { stand = Out } } in
    let r4 = elsewhere w3 w4 r3
    (Links (links w4) (record { does = λ crossing. moves _ leaves; left = (1, deeper 0 _ [] [] (none_lost 0)); puts = nothing })) in
    let w5 : BesideSessions = record w4 { out = []; met = [] } in
    let r5 = elsewhere w4 w5 r4 (Links (links w5) (record { does = λ crossing. moves _ (hears _ [] refl); left = (0, gone _ _); puts = nothing })) in
    let w6 : BesideSessions = record w5 { peer = record (w5.peer) { stand = Asking }; back = sent 1 peers_sabm ∷ [] } in
    let r6 = elsewhere w5 w6 r5 (Links (links w6) (record {
      does = λ crossing. moves _ (asks (record { sabm = refl; disc = refl; ua = refl; crossing = crossing }));
      left = (0, none_lost 0);
      puts = put _ (λ odd. tt);
    })) in
    let w7 = took dte w6 (sent 1 peers_sabm) [] in
    let r7 = here w6 w7 r6 (Takes (sent 1 peers_sabm) [] refl) in
    let w8 : BesideSessions = record w7 { peer = begins w7.peer; out = sent 2 restart_octets ∷ []; met = [] } in
    let r8 = elsewhere w7 w8 r7 (Links (links w8) (record { does = λ crossing. moves _ (takes_ua 2 _ refl refl); left = (0, gone _ _); puts = nothing })) in
    (w8, r8, refl, refl, refl, refl, refl, refl)
