-- All that happens to a station and a peer over sessions, and what holds of it.
use Rattle.x25_peer.proofs.Names.{◌≡◌, ◌⊎◌, inl, inr, ℕ, ◌≤◌, [], ◌++◌, length, drop, true, refl, sym, ap, subst, ◌∙◌, arith, is_up, Meeting, SomeMet, now, At}
use Rattle.x25_peer.proofs.Names.{PeerChannels, End, Settings, link_settings, layer_settings, layer_entries, IsReachedByOctets, ReadAs, Own, BesideSessions}
use Rattle.std.proofs.lemmas.Bool.{and_parts}
use Rattle.x25_layer.specs.{Layer.{goes_up}, laws.PeerClaims.{peer_call, peer_stretch, peer_name, of_call, StretchIsInOrder, CallIsInOrder, OpenHaveArrived}}
use Rattle.x25_layer.specs.laws.{Quiet.{AreNoFaults}, Transcript.{name_of}, TwoLayers.{started}}
use Rattle.x25_line.proofs.ends.Meetings.{all_map}
use Rattle.x25_line.specs.laws.PeerSessions.{In, at_start}
use Rattle.x25_peer.proofs.{Names.{links, all_some}, ReadLemmas.{none_left}, sessions.Meetings.{CanMeet, all_both, met_can_meet, could_meet_some}}
use Rattle.x25_peer.proofs.sessions.{PeerActs.{is_elsewhere}, Standing.{Below, Stands}, StationActs.{station_does}}
use Rattle.x25_peer.specs.laws.BesideSessionClaims.{WithAnyPeer, MeetInStep, IsInOrder, MetAreInOrder, UnmetAreToldNothing, EachMeetsLatest, UpIsLatest}
use Rattle.x25_peer.specs.laws.{BesideSessionClaims.{IdleHasArrived, FindsNoError}, BesideSessions.{their_now, their_layer, start, ReachedBeside}}
use Rattle.x25_layer.specs.laws.PeerJoined as layer_peer
use Rattle.x25_layer.specs.laws.PeerClaims as layer_claims
use Rattle.x25_station.specs.laws.ReadLaw as reached
use Rattle.x25_peer.specs.laws.BesideSessions as beside

forget : (c : Settings) {w : layer_peer.PeerJoined} → IsReachedByOctets c.wide c.role c.long_data c.channels w
    → layer_peer.IsReached c.role c.long_data c.channels w
forget c reached.at_start = layer_peer.at_start
forget c (reached.goes_on u v h e octets) = layer_peer.goes_on u v (forget c h) e

-- what is known of the layers alone, by the names of the station's session
in_order_as : (k : ℕ) (own : Own) (e : End) (y : At PeerChannels) → e.layer ≡ own.station.layer → e.entries ≡ layer_entries own.entries
    → (of_call (name_of e.layer k) ≡ of_call (peer_name y k) → CallIsInOrder k (name_of e.layer k) e.entries (peer_call y k))
    → (name_of e.layer k ≡ peer_name y k → StretchIsInOrder k (name_of e.layer k) e.entries (e.layer.circuits k) (peer_stretch y k)) → IsInOrder k own y
in_order_as k own e y layer entries calls stretch = record {
  calls = subst (λ es. of_call (name_of own.station.layer k) ≡ of_call (peer_name y k) → CallIsInOrder k (name_of own.station.layer k) es (peer_call y k))
      entries (subst (λ l. of_call (name_of l k) ≡ of_call (peer_name y k) → CallIsInOrder k (name_of l k) e.entries (peer_call y k)) layer calls);
  stretch = subst (λ es. name_of own.station.layer k ≡ peer_name y k
      → StretchIsInOrder k (name_of own.station.layer k) es (own.station.layer.circuits k) (peer_stretch y k)) entries
      (subst (λ l. name_of l k ≡ peer_name y k → StretchIsInOrder k (name_of l k) e.entries (l.circuits k) (peer_stretch y k)) layer stretch);
}

module _ (below : Below) (c : Settings) (low : 1 ≤ c.window) (high : c.window ≤ 7) (few : c.channels.count ≤ 4095) where
  stands_first : Stands c (start c)
  stands_first = record {
    ends = λ n. started (goes_up (layer_settings c));
    puts = λ m. [];
    link = at_start;
    now = λ up. absurd (cc);
    each = λ n. record { layer = refl; out = refl; entries = refl; told = refl; begins = tt; alone = λ _. refl };
    later = λ n over. record { end = refl; known = refl };
    peers = λ m. record { reads = tt; heard = omega (arith) };
    anew = λ m over. (refl, refl);
    pairs = λ n m can. reached.at_start;
    kept = record { few = omega (arith); rests = λ off. refl };
  }

  pub along : {w : BesideSessions} → ReachedBeside c w → Stands c w
  along beside.at_start = stands_first
  along (beside.here w v reached does) = station_does below c low high few w (along reached) does
  along (beside.elsewhere w v reached happens) = is_elsewhere below c low high w (along reached) happens

  in_step : {w : BesideSessions} (h : Stands c w) → MeetInStep w
  in_step {w} h = below.step (link_settings c) low high (links w) h.link

  -- the latest sessions of both ends met each other, or none
  latest_can_meet : (w : BesideSessions) (h : Stands c w) → is_up w.near.link.phase ≡ true → (w.peer.stand ≡ In)
      ⊎ SomeMet (λ (m : Meeting). m.near ≡ w.begun) w.met → CanMeet w.begun w.peer.begun w.met
  latest_can_meet w h up which =
      let agree = below.agree (link_settings c) low high (links w) h.link in
      elim which [
        | inl stand ↦ all_both (λ m. m.near ≡ w.begun → m.far ≡ w.peer.begun) (λ m. m.far ≡ w.peer.begun → m.near ≡ w.begun) w.met (agree.near up)
            (agree.peer stand)
        | inr some ↦ all_some (λ p. CanMeet p.near p.far w.met × (p.near ≡ w.begun → p.far ≡ w.peer.begun)) (λ p. p.near ≡ w.begun)
            (CanMeet w.begun w.peer.begun w.met)
            (λ (p : Meeting) both is. subst (λ n. CanMeet n w.peer.begun w.met) is (subst (λ m. CanMeet p.near m w.met) (both.1 is) both.0)) w.met
            (all_both (λ p. CanMeet p.near p.far w.met) (λ p. p.near ≡ w.begun → p.far ≡ w.peer.begun) w.met (met_can_meet w.met (in_step h)) (agree.near up))
            some
      ]

pub meet_in_step : Below → WithAnyPeer MeetInStep
meet_in_step below c low high few w r = in_step below c low high few (along below c low high few r)

pub met_in_order : Below → layer_claims.WithAnyPeer layer_claims.IsAllInOrder → WithAnyPeer MetAreInOrder
met_in_order below law c low high few w r =
    let h = along below c low high few r in
    all_map (λ p. CanMeet p.near p.far w.met) (λ p. (k : ℕ) → IsInOrder k (w.own p.near) (w.theirs p.far).layer)
    (λ (p : Meeting) can k. (
    let is = h.each p.near in
    let x = law c.role c.long_data c.channels _ (forget c (h.pairs p.near p.far can)) k in
    in_order_as k (w.own p.near) (h.ends p.near) (w.theirs p.far).layer is.layer is.entries x.calls x.stretch))
    w.met (met_can_meet w.met (in_step below c low high few h))

pub unmet_are_told_nothing : Below → WithAnyPeer UnmetAreToldNothing
unmet_are_told_nothing below c low high few w r =
    let h = along below c low high few r in
    let unmet = below.unmet (link_settings c) low high (links w) h.link in
    record {
      near = λ n. elim (unmet.near n) [ inl none ↦ inl (sym (h.each n).told ∙ (h.each n).alone none) | inr some ↦ inr some ];
      peer = λ m. elim (unmet.far m) [
        | inl none ↦ inl (let some : (w.theirs m).heard ≤ length (w.peer.of_session m).taken = (h.peers m).heard in
            let long : length (w.peer.of_session m).taken ≡ 0 = ap length none in
            omega (arith, some, long))
        | inr some ↦ inr some
      ];
    }

pub each_meets_latest : Below → WithAnyPeer EachMeetsLatest
each_meets_latest below c low high few w r =
    let h = along below c low high few r in
    let agree = below.agree (link_settings c) low high (links w) h.link in
    record { near = agree.near; peer = agree.peer }

pub up_is_latest : Below → WithAnyPeer UpIsLatest
up_is_latest below c low high few w r up =
    let h = along below c low high few r in
    (h.now up).station

pub idle_has_arrived : Below → layer_claims.WithAnyPeer layer_claims.AllHaveArrived → WithAnyPeer IdleHasArrived
idle_has_arrived below law c low high few w r idle which took =
    let h = along below c low high few r in
    let up : is_up w.near.link.phase ≡ true = (and_parts _ _ idle).0 in
    let e = h.ends w.begun in
    let can = latest_can_meet below c low high few w h up which in
    let taken = below.idle (link_settings c) low high (links w) h.link idle which in
    let read : ReadAs c (now w.peer).taken e.given = subst (λ os. ReadAs c os e.given) (sym taken) (h.now up).handed in
    let none = ap (λ l. l ++ drop (their_now w).heard e.given) took.passed
    ∙ none_left c (their_now w).heard (now w.peer).taken e.given took.heard read in
    let all = law c.role c.long_data c.channels _ (forget c (h.pairs w.begun w.peer.begun can)) none in
    subst (λ es. OpenHaveArrived w.near.layer es (their_layer w)) (h.each w.begun).entries
    (subst (λ l. OpenHaveArrived l e.entries (their_layer w)) ((h.each w.begun).layer ∙ ap (λ s. s.layer) (h.now up).station) all)

pub finds_no_error : Below → layer_claims.WithAnyPeer layer_claims.FindsNoError → WithAnyPeer FindsNoError
finds_no_error below law c low high few w r n =
    let h = along below c low high few r in
    let some = could_meet_some n w.met (in_step below c low high few h) in
    subst AreNoFaults (h.each n).told (law c.role c.long_data c.channels _ (forget c (h.pairs n some.0 some.1))).told
