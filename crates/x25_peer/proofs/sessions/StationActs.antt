-- What the station does beside a peer over sessions, act by act.
use Rattle.x25_peer.proofs.Names.{◌≡◌, ℕ, ◌==◌, ◌≤◌, inl, inr, List, [], ◌∷◌, ◌++◌, length, drop, Bool, true, false, if◌then◌else◌, Option, Some, None, refl}
use Rattle.x25_peer.proofs.Names.{sym, ap, subst, ◌∙◌, append-nil, remove, PlainPacket, PlainGiven, LinkError, timer_step, connect_step, Entry, Meeting}
use Rattle.x25_peer.proofs.Names.{Sessions, acts, meets, begun_by, SomeMet, both_ends, with_peer, all_some, LayerRequest, End, TwoLayers, Settings}
use Rattle.x25_peer.proofs.Names.{link_settings, layer_settings, StationEntry, IsKept, AreReadable, IsReachedByOctets, Theirs, BesideSessions, links}
use Rattle.std.proofs.{Common.{◌&&◌}, lemmas.Bool.{and_parts}}
use Rattle.x25_frame.specs.Reading.{frame_of}
use Rattle.x25_given.specs.Given.{may_give}
use Rattle.x25_layer.specs.{code.FitsLayer.{is_full}, laws.RoundLaw.{moves_all, pulls_of}, laws.TwoLayers.{Requests, HandsUp}}
use Rattle.x25_line.specs.laws.{InWindow.{IsPrefix}, Said.{said}, SessionClaims.{InStep}, Sessions.{delivered}}
use Rattle.x25_link.specs.{Hearing.{other}, Link.{relink_refusal, relink_step}, Outgoing.{waits}, laws.NoteLaw.{Tells}}
use Rattle.x25_link.specs.Link.{alone, take_step, timer_refusal, connect_refusal, disconnect_refusal, disconnect_step, abandon_step, probe_refusal}
use Rattle.x25_peer.proofs.Granted.{did_granted, gave_granted, suits_asks, unless_did, connects_in_down, relinks_in_up, timer_silent}
use Rattle.x25_peer.proofs.{Names.{LinkSettings, is_up, LinkStep, Step, led_by, follows}, ReadLemmas.{Next, next_read, readable_behind}}
use Rattle.x25_peer.proofs.sessions.LinkSteps.{SessionGoes, StepGoes, step_as, act_goes, probe_acts, abandon_goes, relink_goes, deliver_goes, spelled}
use Rattle.x25_peer.proofs.sessions.LinkSteps.{spelled_with, PutsRead, puts_spelled, puts_spelled_with, stays_goes}
use Rattle.x25_peer.proofs.sessions.Meetings.{CanMeet, could_meet, all_both, met_can_meet, could_meet_some}
use Rattle.x25_peer.proofs.sessions.SessionLayers.{AllStay, pulls_stay, moves_reached, alone_at, AreAsked, pulls_asked, asked_reached, asked_leaves}
use Rattle.x25_peer.proofs.sessions.{SessionLinks.{Reach, acts_reach}, Standing.{Below, up_in, PairReached, Stands, both_begin, heard_few, way, way_more}}
use Rattle.x25_peer.proofs.sessions.StationSteps.{AreSilent, followed, extended_here, goes, follows_on}
use Rattle.x25_peer.specs.laws.BesideSessions.{stepped, acted, took, StationDoes, Asks, AsksWith, Connects, Disconnects, Probes, Relinks, Fires, Takes}
use Rattle.x25_station.specs.Command.{may_ask, Connects as ConnectsCommand, Disconnects as DisconnectsCommand, Probes as ProbesCommand}
use Rattle.x25_station.specs.{Command.{Relinks as RelinksCommand}, Config.{longest_packet}, Entry.{connect_asked, disconnect_asked, relink_asked, end_between, entries_ended}}
use Rattle.x25_link.specs.declared.phase.Ending.{Ending}
use Rattle.x25_station.specs.{Giving.{suits}, Step.{Did, unless as refused_or, abandons, ends, receives, requests, gives}, laws.GivenLaw.{GivesOctets}}
use Rattle.x25_station.specs.laws.{JoinLaw.{station_with, IsJoined, MovesAs}, KeepLaw.{KeptBy}, ReadLaw.{RequestsOctets}}
use Rattle.x25_line.specs.laws.Stations as line

silent : AreSilent []
silent = record { entries = refl; told = refl }

ended_silent : (e : Option Ending) → AreSilent (entries_ended e)
ended_silent None = record { entries = refl; told = refl }
ended_silent (Some ending) = record { entries = refl; told = refl }

module _ (below : Below) (c : Settings) (low : 1 ≤ c.window) (high : c.window ≤ 7) (few : c.channels.count ≤ 4095) (w : BesideSessions) (h : Stands c w) where
  abbrev lc : LinkSettings
  lc = link_settings c

  abbrev both : Sessions
  both = both_ends (links w)

  as_it_met : (n m : ℕ) → CanMeet n m w.met → CanMeet n m w.met
  as_it_met n m can = can

  abbrev b : ℕ
  b = w.begun

  abbrev e_now : End
  e_now = h.ends w.begun

  abbrev ups : List (List ℕ)
  ups = up_in (w.own w.begun)

  -- its layer is the one that stands
  at_now : is_up w.near.link.phase ≡ true → e_now.layer ≡ w.near.layer
  at_now up = (h.each b).layer ∙ ap (λ s. s.layer) (h.now up).station

  -- ---- a command to the layer, without or with something given

  -- the layer does so, and pulls at these channels
  record IsAsked (request : LayerRequest) (step : Step) : Type 0 where
    channels : List ℕ
    packets : List PlainPacket
    handed : List (List ℕ)
    layer : MovesAs (alone_at e_now)
        (moves_all (layer_settings c) (alone_at e_now) (Requests (waits w.near.link.outgoing == 256) request ∷ pulls_of channels)) packets step
    put : AreReadable c.wide c.long_data packets → PutsRead c (alone w.near.link) packets handed step
    up : is_up w.near.link.phase ≡ true
    may : may_ask c.wide request ≡ true
    kept : IsKept step.near

  asked_stands : {request : LayerRequest} {step : Step} → RequestsOctets request → IsAsked request step → Stands c (acted c w step)
  asked_stands {request} {step} octets a =
      let e = e_now in
      let ms = Requests (waits w.near.link.outgoing == 256) request ∷ pulls_of a.channels in
      let asked : AreAsked ms = (tt, pulls_asked a.channels) in
      let stay : AllStay c.wide ms = (tt, (octets, a.may), pulls_stay c.wide a.channels) in
      let v = moves_all (layer_settings c) (alone_at e) ms in
      let ps = a.packets in
      let pair : (m : ℕ) → CanMeet b m w.met → PairReached c v.near ups (w.theirs m) (h.puts m) =
      (λ m can. (
      let t = w.theirs m in
      let r = asked_reached t.layer e (way t e.given) (drop (length ups) (h.puts m)) ms asked stay (h.pairs b m can) in
      let line : way t e.given ++ v.out ≡ way t v.near.given =
      ap (λ l. way t e.given ++ l) a.layer.out ∙ way_more t e.given ps (heard_few below c low high w h b m can) ∙ ap (way t) (sym a.layer.given) in
      subst (λ o. IsReachedByOctets c.wide c.role c.long_data c.channels
      (record { near = v.near; peer = t.layer; out = o; back = drop (length ups) (h.puts m) })) line r)) in
      let some = could_meet_some b w.met (below.step lc low high (links w) h.link) in
      let readable = below.readable c.wide c.role c.long_data c.channels few _ (pair some.0 some.1) in
      let same_up = append-nil ups in
      goes below c low high few w h e [] [] a.up a.up a.layer
      (a.put (readable_behind c.wide c.long_data e.given ps (subst (AreReadable c.wide c.long_data) a.layer.given readable)))
      (h.link, stays_goes lc both w.near.link refl)
      (λ nothing. (asked_leaves (layer_settings c) (alone_at e) ms asked).told ∙ (h.each b).alone (sym same_up ∙ nothing)) as_it_met
      (λ m can. rw same_up (pair m can)) a.kept

  asks : (request : LayerRequest) (step : Step) → RequestsOctets request → requests c w.near request ≡ Did step
      → Stands c (acted c w step)
  asks request step octets is =
      let s = w.near.link in
      let granted = did_granted c w.near request step is in
      let j = below.request c s (alone_at e_now) w.near.turn request step (h.each b).out h.kept.few (rw (at_now granted.is_up) is) in
      asked_stands octets
      (record {
        channels = j.0;
        packets = j.2.packets;
        handed = spelled j.2.packets;
        layer = j.2.layer;
        put = puts_spelled j.2.link;
        up = granted.is_up;
        may = granted.is_taken;
        kept = subst KeptBy is (below.ask c w.near request h.kept);
      })

  asks_with : (g : PlainGiven) (request : LayerRequest) (step : Step) → GivesOctets g → RequestsOctets request → gives c w.near g request ≡ Did step
      → Stands c (acted c w step)
  asks_with g request step of_given octets is =
      let s = w.near.link in
      let granted = gave_granted c w.near g request step is in
      let wide = and_parts c.wide (may_give g && suits g request) granted.is_taken in
      let suit = and_parts (may_give g) (suits g request) wide.1 in
      let j = below.given c g s (alone_at e_now) w.near.turn request step (h.each b).out h.kept.few (rw (at_now granted.is_up) is) in
      asked_stands octets
      (record {
        channels = j.0;
        packets = j.2.packets;
        handed = spelled_with g j.2.packets;
        layer = j.2.layer;
        put = puts_spelled_with below.given_read wide.0 suit.0 of_given j.2.link;
        up = granted.is_up;
        may = suits_asks c.wide g request suit.1;
        kept = subst KeptBy is (below.give c w.near g request h.kept);
      })

  -- ---- commands to the link, and timer T1

  -- a step of the link by its acts, which hands nothing up and notes no LinkUp, where it isn't refused
  by_link : (asked : List StationEntry) (refusal : Option LinkError) (k : LinkStep) (v : Sessions) → AreSilent asked → Reach lc w.peer v
      → (refusal ≡ None → StepGoes lc both v k w.back w.met) → k.packet ≡ None → k.notes.up ≡ false → (refusal ≡ None → Tells w.near.link k)
      → (done : Step) → refused_or refusal (led_by asked (follows c w.near k)) ≡ Did done
      → KeptBy (refused_or refusal (led_by asked (follows c w.near k))) → Stands c (acted c w done)
  by_link asked refusal k v silent reach goes none quiet tells done did kept =
      let whole = led_by asked (follows c w.near k) in
      let granted = unless_did refusal whole done did in
      subst (λ s. Stands c (acted c w s)) granted.1
      (subst (λ u. Stands c (stepped c w (begun_by u w.begun) w.back w.met whole)) quiet
      (follows_on below c low high few w h asked silent w.back w.met k (tells granted.0) none v reach (goes granted.0) as_it_met
      (subst KeptBy (ap (λ r. refused_or r whole) granted.0) kept)))

  -- ---- octets come

  -- the end of what a DISC awaits, which isn't the layer's
  abbrev told_end : LinkStep → List StationEntry
  told_end k = entries_ended (end_between w.near.link k.side.near)

  end_silent : (k : LinkStep) → AreSilent (told_end k)
  end_silent k = ended_silent (end_between w.near.link k.side.near)

  module _ (e : Entry) (rest : List Entry) (front : w.back ≡ e ∷ rest) where
    -- a count is full: the link is left, and the octets are lost
    abandons_it : abandons c w.near ≡ true → Stands c (followed c w (told_end (abandon_step lc w.near.link)) rest w.met (abandon_step lc w.near.link))
    abandons_it full =
        let k = abandon_step lc w.near.link in
        let left = acts lc line.Abandon both in
        let kept : IsKept (follows c w.near k).near =
        subst (λ x. IsKept (follows c w.near (if x then k else take_step lc e.octets w.near.link)).near) full (below.takes c w.near e.octets h.kept) in
        follows_on below c low high few w h (told_end k) (end_silent k) rest w.met k (below.abandon_tells lc w.near.link) refl
        (acts lc (line.Lose 0) left) (acts_reach (line.Lose 0) left tt (acts_reach line.Abandon both tt h.link))
        (rw (sym (ap (λ es. remove es 0) front))
        (abandon_goes lc both w.near.link refl (and_parts (is_up w.near.link.phase) (is_full (layer_settings c) w.near.layer) full).0))
        as_it_met kept

    -- the link takes them
    abbrev k : LinkStep
    k = take_step lc e.octets w.near.link

    abbrev met : List Meeting
    met = if is_up w.near.link.phase then meets (said (frame_of (other c.role) longest_packet e.octets)) (record { near = b; far = e.session }) w.met else w.met

    abbrev after : Sessions
    after = acts lc line.Deliver both

    reach_after : Reach lc w.peer after
    reach_after = acts_reach line.Deliver both tt h.link

    taken : StepGoes lc both after k rest met
    taken = rw (sym (ap (λ es. (delivered lc es both).met) front))
        (deliver_goes lc both w.near.link e rest refl front)

    could : (n m : ℕ) → CanMeet n m met → CanMeet n m w.met
    could n m can = could_meet n m (is_up w.near.link.phase) (said (frame_of (other c.role) longest_packet e.octets))
        (record { near = b; far = e.session }) w.met can

    module _ (not_full : abandons c w.near ≡ false) where
      same : receives c w.near e.octets ≡ ends c w.near k
      same = ap (λ x. ends c w.near (if x then abandon_step lc w.near.link else k)) not_full

      kept : IsKept (follows c w.near k).near
      kept = subst (λ s. IsKept s.near) same (below.takes c w.near e.octets h.kept)

      -- a packet is handed up
      module _ (o : List ℕ) (some : k.packet ≡ Some o) where
        never : (xs : List (List ℕ)) → xs ++ o ∷ [] ≡ [] → ⊥
        never [] e = cc
        never (x ∷ xs) e = cc

        noted : k.notes.up ≡ false
        noted = ap (λ n. n.up) ((below.take_hands_up lc e.octets w.near.link).quiet o some)

        was_up : is_up w.near.link.phase ≡ true
        was_up = ap is_up ((below.take_hands_up lc e.octets w.near.link).up o some)

        still_up : is_up k.side.near.phase ≡ true
        still_up = (below.take_tells lc e.octets w.near.link).stays ((below.take_hands_up lc e.octets w.near.link).quiet o some)
            ∙ was_up

        goes_up : SessionGoes lc both after b k.side.near k.side.out [] (o ∷ []) rest met
        goes_up = step_as k false (Some o) noted some taken

        abbrev up : List (List ℕ)
        up = ups ++ o ∷ []

        up_here : after.near.up b ≡ up
        up_here = goes_up.up b ∙ extended_here (λ n. up_in (w.own n)) b (o ∷ [])

        in_step : InStep met
        in_step = subst InStep goes_up.met (below.step lc low high (with_peer w.peer after) reach_after)

        -- so this session met one, and no other
        has_met : SomeMet (λ (p : Meeting). p.near ≡ b) met
        has_met = elim ((below.unmet lc low high (with_peer w.peer after) reach_after).near b) [
          | inl none ↦ absurd (never ups (sym up_here ∙ none))
          | inr some ↦ subst (SomeMet (λ (p : Meeting). p.near ≡ b)) goes_up.met some
        ]

        partner : (m : ℕ) × CanMeet b m met
        partner = all_some (λ p. CanMeet p.near p.far met) (λ p. p.near ≡ b) ((m : ℕ) × CanMeet b m met)
            (λ (p : Meeting) can is. (p.far, subst (λ i. CanMeet i p.far met) is can)) met (met_can_meet met in_step) has_met

        abbrev there : ℕ
        there = partner.0

        -- what came is the next of what the peer's layer put there
        next : Next c o (drop (length ups) (h.puts there)) (drop (length up) (h.puts there))
        next =
            let both_are = both_begin below lc low high (with_peer w.peer after) reach_after (subst (CanMeet b there) (sym goes_up.met) partner.1) in
            let prefix : IsPrefix up (w.peer.of_session there).given = subst (λ u. IsPrefix u (w.peer.of_session there).given) up_here both_are.back in
            next_read ups o prefix.0 (h.puts there)
            (rw prefix.1 (h.peers there).reads)

        abbrev theirs : Theirs
        theirs = w.theirs there

        abbrev ours : End
        ours = e_now

        abbrev behind : List PlainPacket
        behind = drop (length up) (h.puts there)

        abbrev two : TwoLayers
        two = record { near = ours; far = ours; out = way theirs ours.given; back = drop (length ups) (h.puts there) }

        handed : Stands c (stepped c w b rest met (ends c w.near k))
        handed =
            let at : ours.layer ≡ w.near.layer = at_now was_up in
            let free : abandons c (station_with w.near.link ours.layer w.near.turn) ≡ false =
            subst (λ l. abandons c (station_with w.near.link l w.near.turn) ≡ false) (sym at) not_full in
            let j₀ = below.receive c w.near.link two w.near.turn e.octets o next.packet behind (h.each b).out next.front free some next.reads in
            let ms = HandsUp ∷ pulls_of j₀.0 in
            let v = moves_all (layer_settings c) two ms in
            let j : IsJoined c two v k.side behind (ends c w.near k) =
            subst (λ s. IsJoined c two v k.side behind s) (ap (λ l. receives c (station_with w.near.link l w.near.turn) e.octets) at ∙ same) j₀.2 in
            let ps = j.packets in
            let moved = moves_reached theirs.layer two ms (tt, tt, pulls_stay c.wide j₀.0) (h.pairs b there (could b there partner.1)) in
            let line : v.out ≡ way theirs v.near.given =
            j.layer.out ∙ way_more theirs ours.given ps (heard_few below c low high w h b there (could b there partner.1))
            ∙ ap (way theirs) (sym j.layer.given) in
            let pair : PairReached c v.near up theirs (h.puts there) =
            subst (λ x. IsReachedByOctets c.wide c.role c.long_data c.channels
            (record { near = v.near; peer = theirs.layer; out = way theirs v.near.given; back = x })) j.back
            (rw (sym line) moved) in
            let readable = readable_behind c.wide c.long_data ours.given ps
            (subst (AreReadable c.wide c.long_data) j.layer.given (below.readable c.wide c.role c.long_data c.channels few _ pair)) in
            goes below c low high few w h ours (way theirs ours.given) (drop (length ups) (h.puts there)) was_up still_up j.layer
            (puts_spelled j.link readable) (reach_after, goes_up) (λ nothing. absurd (never ups nothing)) could
            (λ m can. rw (sym (all_some (λ p. ((p.near ≡ b → p.far ≡ there) × (p.far ≡ there → p.near ≡ b))
            × ((p.near ≡ b → p.far ≡ m) × (p.far ≡ m → p.near ≡ b))) (λ p. p.near ≡ b) (there ≡ m)
            (λ (p : Meeting) both is. sym (both.0.0 is) ∙ both.1.0 is) met
            (all_both (λ p. (p.near ≡ b → p.far ≡ there) × (p.far ≡ there → p.near ≡ b)) (λ p. (p.near ≡ b → p.far ≡ m) × (p.far ≡ m → p.near ≡ b)) met
            partner.1 can) has_met)) pair) kept

        handed_up : Stands c (followed c w (told_end k) rest met k)
        handed_up = subst (λ u. Stands c (stepped c w (begun_by u b) rest met (ends c w.near k))) (sym noted) handed

      comes : Stands c (followed c w (told_end k) rest met k)
      comes = by k.packet refl
        where
          by : (p : Option (List ℕ)) → k.packet ≡ p → Stands c (followed c w (told_end k) rest met k)
          by (Some o) some = handed_up o some
          by None none = follows_on below c low high few w h (told_end k) (end_silent k) rest met k (below.take_tells lc e.octets w.near.link) none after
              reach_after taken could kept

    takes : Stands c (took c w e rest)
    takes = by (abandons c w.near) refl
      where
        took_as : Bool → Type 0
        took_as full =
            let x = if full then abandon_step lc w.near.link else k in
            Stands c (stepped c w (begun_by x.notes.up w.begun) rest (if full then w.met else met) (ends c w.near x))

        by : (full : Bool) → abandons c w.near ≡ full → Stands c (took c w e rest)
        by true full = subst took_as (sym full) (abandons_it full)
        by false not_full = subst took_as (sym not_full) (comes not_full)

  -- ---- all that it does

  pub station_does : {v : BesideSessions} → StationDoes c w v → Stands c v
  station_does (Asks request step octets is) = asks request step octets is
  station_does (AsksWith given request step of_given octets is) = asks_with given request step of_given octets is
  station_does (Connects step is) =
      by_link (connect_asked ∷ []) (connect_refusal w.near.link.phase) (connect_step lc w.near.link) (acts lc line.Connect both)
      (record { entries = refl; told = refl }) (acts_reach line.Connect both tt h.link)
      (act_goes lc both w.near.link line.Connect (λ s. connect_refusal s.phase) (connect_step lc) refl refl) refl refl
      (λ none. below.connect_tells lc w.near.link (connects_in_down w.near.link.phase none)) step is (below.command c w.near ConnectsCommand h.kept)
  station_does (Disconnects step is) =
      by_link (disconnect_asked ∷ []) (disconnect_refusal w.near.link.phase) (disconnect_step lc w.near.link) (acts lc line.Disconnect both)
      (record { entries = refl; told = refl }) (acts_reach line.Disconnect both tt h.link)
      (act_goes lc both w.near.link line.Disconnect (λ s. disconnect_refusal s.phase) (disconnect_step lc) refl refl) refl refl
      (λ none. below.disconnect_tells lc w.near.link) step is (below.command c w.near DisconnectsCommand h.kept)
  station_does (Probes step is) =
      by_link [] (probe_refusal w.near.link.phase) (timer_step lc w.near.link) (acts lc line.Probe both) silent (acts_reach line.Probe both tt h.link)
      (act_goes lc both w.near.link line.Probe (λ s. probe_refusal s.phase) (timer_step lc) (probe_acts lc both) refl)
      (timer_silent lc w.near.link).0 (timer_silent lc w.near.link).1 (λ none. below.timer_tells lc w.near.link) step is
      (below.command c w.near ProbesCommand h.kept)
  -- the link is abandoned, and then connected
  station_does (Relinks step is) =
      let left = acts lc line.Abandon both in
      by_link (relink_asked ∷ []) (relink_refusal w.near.link.phase) (relink_step lc w.near.link) (acts lc line.Connect left)
      (record { entries = refl; told = refl }) (acts_reach line.Connect left tt (acts_reach line.Abandon both tt h.link))
      (λ none. relink_goes below.relinks lc both w.near.link refl (relinks_in_up w.near.link.phase none)) refl refl
      (λ none. below.relink_tells lc w.near.link) step is (below.command c w.near RelinksCommand h.kept)
  station_does (Fires step is due) =
      by_link (told_end (timer_step lc w.near.link)) (timer_refusal w.near.link) (timer_step lc w.near.link) (acts lc line.T1 both)
      (end_silent (timer_step lc w.near.link)) (acts_reach line.T1 both due h.link)
      (act_goes lc both w.near.link line.T1 timer_refusal (timer_step lc) refl refl)
      (timer_silent lc w.near.link).0 (timer_silent lc w.near.link).1 (λ none. below.timer_tells lc w.near.link) step is (below.timer c w.near h.kept)
  station_does (Takes e rest front) = takes e rest front
