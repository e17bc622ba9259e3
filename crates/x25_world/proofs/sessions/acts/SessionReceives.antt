-- Octets come, over set-up and re-set-up: the link takes them, and the layer the packet that the link hands up, which is the next of those that
-- the other end gave in its latest session.
use Rattle.x25_world.proofs.Names.{◌≡◌, ℕ, zero, suc, ◌≤◌, ◌<◌, inl, inr, List, [], ◌∷◌, ◌++◌, Bool, true, false, if◌then◌else◌, Option, Some, None, Ok, refl}
use Rattle.x25_world.proofs.Names.{sym, ap, ◌∙◌, subst, append_assoc, arith, and_parts, append_cancel_left, map-append, Role, Dte, Dce, PlainPacket, IsPrefix}
use Rattle.x25_world.proofs.Names.{Name, take_step, abandon_step, SessionEnd, Meeting, Sessions, Each, SomeMet, IsNoEarlier, InStep, MetAreInOrder, octets_of}
use Rattle.x25_world.proofs.Names.{LayerNotice, layer_answers, moves_in, moves_all, pulls_of, OwnMove, Takes, Ends, own_run, AreInOrder, BeginsRestarted}
use Rattle.x25_world.proofs.Names.{IsToldFirst, Cfg, Settings, settings_from, layer_settings, layer_notices, Step, follows, receives, station_with, IsKept}
use Rattle.x25_world.proofs.Names.{AreReadable, World, Receives, delivered, after, after_step, confirmed_in, link_of, SessionLaws, Asks, all_no_earlier}
use Rattle.x25_world.proofs.Names.{SessionGoes, StepGoes, step_as, spelled, PutsRead, puts_spelled, puts_of, all_act, LinkSettings, is_up, other, LinkStep}
use Rattle.x25_layer.specs.{code.FitsLayer.{is_full}, laws.TwoLayers.{HandsUp}}
use Rattle.x25_line.specs.laws.{SessionClaims.{UnmetHandNothingUp}, SessionEvents.{EachEventMeetsLatest, MeetsOne}}
use Rattle.x25_peer.proofs.sessions.LinkSteps.{deliver_goes, abandon_goes}
use Rattle.x25_station.specs.{Step.{abandons}, laws.JoinLaw.{IsJoined}}
use Rattle.x25_world.proofs.{Growing.{read_by, all_read, is_read, as_read, first_read, FrontEntry, front_entry}, Known.{IsConfigured, true_false}}
use Rattle.x25_world.proofs.{Names.{remove, IsQuiet}, sessions.SessionBeside.{spelled_bring}, sessions.SessionCounts.{counted_at, counted_by, counted_in}}
use Rattle.x25_world.proofs.sessions.{SessionEntries.{heard_plain, heard_beside, heard_confirms}, SessionFollows.{no_command, ended, follows_silent, follows_up}}
use Rattle.x25_station.proofs.EndsLemmas.{fresh_ends, up_ends}
use Rattle.x25_station.specs.{Entry.{end_between}, Step.{ends}}
use Rattle.x25_world.proofs.sessions.SessionGoes.{here_extended}
use Rattle.x25_world.proofs.sessions.SessionJoined.{HasMet, PairIsInOrder, PairsAreInOrder, SessionsJoined, Goes, gave_none, stays}
use Rattle.x25_world.proofs.sessions.SessionKnown.{met_in_order, pair_ends, here_in, here_is, there_is, own_order, own_first, nothing_in_order}
use Rattle.x25_world.proofs.sessions.SessionReaches.{SessionsReach, Leads, Asked, each_put, then_puts, known_sessions, reach_on}
use Rattle.x25_world.proofs.sessions.SessionTrace.{layer_of, Done, moved, own, own_goes, events_of, nothing_goes, own_pulls, pulls_take_nothing}
use Rattle.x25_world.proofs.sessions.SessionTrace.{pulls_bring_octets, near_pulls, take_takes}
use Rattle.x25_world.{proofs.sessions.acts.SessionRequests.{pair_goes, pair_stays, puts_readable, joins}, specs.Healing.{ComeFreely}}
use Rattle.x25_line.specs.laws.Stations as line
use Rattle.x25_line.specs.laws.Sessions as links
use Rattle.x25_line.specs.laws.SessionClaims as met
use Rattle.x25_layer.specs.laws.TwoLayers as layer
use Rattle.x25_layer.specs.laws.Apart as apart

-- the packet in front of those in flight, by what its octets are read as
record Front (cfg : Cfg) (octets : List ℕ) (flight : List PlainPacket) : Type 0 where
  pub packet : PlainPacket
  pub others : List PlainPacket
  pub is : flight ≡ packet ∷ others
  pub reads : read_by cfg octets ≡ Ok packet

front_of : (cfg : Cfg) (octets : List ℕ) (rest : List (List ℕ)) (flight : List PlainPacket) → all_read cfg (octets ∷ rest) ≡ as_read flight
    → Front cfg octets flight
front_of cfg octets rest [] is = absurd (cc)
front_of cfg octets rest (p ∷ flight) is = record {
  packet = p;
  others = flight;
  is = refl;
  reads = first_read (read_by cfg octets) (Ok p) (all_read cfg rest) (as_read flight) is;
}

-- ---- meetings

-- where one of the two met before, they met each other
met_again : (number : Meeting → ℕ) (m : Meeting) → ((p : Meeting) → (p.near < m.near) × (p.far < m.far) → number p < number m) → (ms : List Meeting)
    → Each (IsNoEarlier m) ms
    → SomeMet (λ p. number p ≡ number m) ms → HasMet m.near m.far ms
met_again number m lower [] all some = absurd some
met_again number m lower (p ∷ ms) all some = elim some [
  | inl here ↦ elim all.0 [ inl same ↦ inl (same.0, same.1) | inr less ↦ absurd (omega (arith, here, lower p less)) ]
  | inr there ↦ inr (met_again number m lower ms all.1 there)
]

-- ---- packets

-- the packet that an end takes is the next, and its pulls take none
next_at : (cfg : Cfg) (end : Role) (ends : Ends) (packet : PlainPacket) (channels : List ℕ)
    → IsPrefix ((here_in end ends).taken ++ packet ∷ []) (here_in (other end) ends).given
    → AreInOrder cfg.long_data cfg.channels (events_of end (Takes packet ∷ own_pulls channels)) ends
next_at cfg Dte ends packet channels begins = (λ out. begins, nothing_goes cfg.long_data cfg.channels Dte (own_pulls channels) _ (pulls_take_nothing channels))
next_at cfg Dce ends packet channels begins = (λ out. begins, nothing_goes cfg.long_data cfg.channels Dce (own_pulls channels) _ (pulls_take_nothing channels))

module _ (laws : SessionLaws) (cfg : Cfg) (fine : IsConfigured cfg) (end : Role) (w : World) (h : SessionsJoined cfg end w) where
  abbrev ours : Settings
  ours = settings_from end cfg

  abbrev lc : LinkSettings
  lc = link_of cfg end

  -- by a step of the end, with nothing that its user gave
  abbrev To : World → Type 0
  To u = Goes cfg end w Receives h.links gave_none u

  abbrev here : ℕ
  here = h.links.near.begun

  abbrev there : ℕ
  there = h.links.far.begun

  abbrev now_met : Meeting
  now_met = record { near = here; far = there }

  -- the latest sessions of both are in order, as they meet
  pair_now : InStep (now_met ∷ h.links.met) → PairIsInOrder cfg end h.trace here there
  pair_now step =
      let unmet = known_sessions UnmetHandNothingUp laws.unmet fine h.reach in
      let earlier = all_no_earlier now_met h.links.met step in
      elim (unmet.near here) [
        | inl empty ↦ elim (unmet.far there) [
          | inl empty_there ↦ nothing_in_order cfg end h.trace here there (h.near.alone here empty) (h.far.alone there empty_there)
          | inr some ↦ met_in_order cfg end h.trace h.links.met here there h.pairs (met_again (λ p. p.far) now_met (λ p less. less.1) h.links.met earlier some)
        ]
        | inr some ↦ met_in_order cfg end h.trace h.links.met here there h.pairs (met_again (λ p. p.near) now_met (λ p less. less.0) h.links.met earlier some)
      ]

  record HaveMet (v : Sessions) : Type 0 where
    pub pairs : PairsAreInOrder cfg end h.trace v.met
    pub more : (n m : ℕ) → HasMet n m h.links.met → HasMet n m v.met

  have_met : {v : Sessions} {e f : SessionEnd} → SessionsReach cfg end v → MeetsOne line.Deliver now_met e f h.links.met v.met → HaveMet v
  have_met {v} reach one = elim one [
    | inl now ↦ (let step = subst InStep now.met (known_sessions met.MeetInStep laws.step fine reach) in
        record {
          pairs = subst (PairsAreInOrder cfg end h.trace) (sym now.met) (pair_now step, h.pairs);
          more = λ n m has. rw now.met (inr has);
        })
    | inr none ↦ record {
      pairs = subst (PairsAreInOrder cfg end h.trace) (sym none.met) h.pairs;
      more = λ n m has. rw none.met has;
    }
  ]

  module _ (octets : List ℕ) (back : List (List ℕ)) (front : w.back ≡ octets ∷ back) where
    came : FrontEntry octets back h.links.back
    came = front_entry octets back h.links.back (h.back ∙ front)

    -- ---- where a count is full

    -- the link is left, and the octets are lost
    abbrev gone : Sessions
    gone = links.acts lc (line.Lose 0) (links.acts lc line.Abandon h.links)

    abandoned : abandons ours w.near ≡ true → IsKept (ends ours w.near (abandon_step lc w.near.link)).near
        → To (after_step ours w back (ends ours w.near (abandon_step lc w.near.link)))
    abandoned full kept =
        let c = link_of cfg end in
        let up : is_up w.near.link.phase ≡ true = (and_parts (is_up w.near.link.phase) (is_full (layer_settings ours) w.near.layer) full).0 in
        let k = abandon_step c w.near.link in
        subst (λ os. To (after_step ours w os (ends ours w.near k))) (ap (λ es. octets_of (remove es 0)) came.is ∙ came.left)
        (follows_silent Receives laws cfg fine end w h (ended (end_between w.near.link k.side.near)) (remove h.links.back 0) k gone h.links.met h.pairs (λ n m has. has)
        (laws.stations.abandon_tells c w.near.link) (abandon_goes c h.links w.near.link h.near.link up)
        (record {
          asked = line.Abandon ∷ line.Lose 0 ∷ [];
          is = record { may = (tt, (refl, tt)); freely = λ are free. true_false (sym full ∙ (subst (ComeFreely ours w.near w.far.link) front free).0) };
          leads = record { timely = (tt, (tt, tt)); run = refl };
        }) refl refl kept)

    -- ---- where the link takes the octets

    abbrev taken : LinkStep
    taken = take_step lc octets w.near.link

    abbrev after_taken : Sessions
    after_taken = links.acts lc line.Deliver h.links

    leads_taken : Leads lc (link_of cfg (other end)) (line.Near line.Deliver ∷ []) h.links after_taken
    leads_taken = record { timely = (tt, tt); run = refl }

    reach_taken : SessionsReach cfg end after_taken
    reach_taken = reach_on h.reach leads_taken

    -- the link is asked for that, and then octets are put
    asks_taken : (handed : List (List ℕ)) → Asked cfg end w Receives h.links (all_act lc (puts_of handed) after_taken)
    asks_taken handed = then_puts (line.Deliver ∷ []) leads_taken handed (record {
      may = (tt, each_put (Asks Receives) (λ o. tt) handed);
      freely = λ are free. record { comes = true; handed = handed; is = refl; free = λ some. (subst (ComeFreely ours w.near w.far.link) front free).1 };
    })

    goes_taken : StepGoes lc h.links after_taken taken came.others after_taken.met
    goes_taken = subst (λ os. StepGoes lc h.links after_taken (take_step lc os w.near.link) came.others after_taken.met) came.octets
        (deliver_goes lc h.links w.near.link came.entry came.others h.near.link came.is)

    meets_one : MeetsOne line.Deliver now_met h.links.near after_taken.near h.links.met after_taken.met
    meets_one = known_sessions EachEventMeetsLatest laws.meets fine h.reach (line.Near line.Deliver)

    met_taken : HaveMet after_taken
    met_taken = have_met reach_taken meets_one

    -- ---- a packet is handed up

    module _ (not_up : taken.notes.up ≡ false) (packet_octets : List ℕ) (some : taken.packet ≡ Some packet_octets) where
      goes_up_one : SessionGoes lc h.links after_taken here taken.side.near taken.side.out [] (packet_octets ∷ []) came.others after_taken.met
      goes_up_one = step_as taken false (Some packet_octets) not_up some goes_taken

      up_more : after_taken.near.up here ≡ h.links.near.up here ++ packet_octets ∷ []
      up_more = goes_up_one.up here ∙ here_extended h.links.near.up here (packet_octets ∷ [])

      -- so the latest sessions of both meet
      met_now : after_taken.met ≡ now_met ∷ h.links.met
      met_now = elim meets_one [
        | inl now ↦ now.met
        | inr none ↦ elim none.nothing_up [
          | inl afresh ↦ (let more : suc here ≡ here = sym afresh.begins.begun ∙ goes_up_one.begun in absurd (omega (arith, more)))
          | inr rest ↦ absurd (never (append_cancel_left (h.links.near.up here) (packet_octets ∷ []) [] (sym up_more ∙ rest.up)))
        ]
      ]
        where
          never : packet_octets ∷ [] ≡ [] → ⊥
          never e = cc

      met_in_step : InStep (now_met ∷ h.links.met)
      met_in_step = subst InStep met_now (known_sessions met.MeetInStep laws.step fine reach_taken)

      paired : PairIsInOrder cfg end h.trace here there
      paired = pair_now met_in_step

      -- what was handed up is a beginning of what the other was handed down
      begins_down : (rest : List (List ℕ)) × (h.links.near.up here ++ (packet_octets ∷ rest) ≡ h.links.far.down there)
      begins_down =
          let order = (subst (Each (met.IsInOrder after_taken.near after_taken.far)) met_now (known_sessions MetAreInOrder laws.order fine reach_taken)).0.back
          in (
            order.0,
            sym (append_assoc (h.links.near.up here) (packet_octets ∷ []) order.0) ∙ ap (λ l. l ++ order.0) (sym up_more) ∙ order.1
                ∙ ap (λ e. e.down there) goes_up_one.far,
          )

      -- so it began a session
      there_begun : 1 ≤ there
      there_begun = by there refl
        where
          none : {A : Type 0} (xs ys : List (List ℕ)) (x : List ℕ) → xs ++ (x ∷ ys) ≡ [] → A
          none [] ys x e = absurd (cc)
          none (y ∷ xs) ys x e = absurd (cc)

          by : (n : ℕ) → there ≡ n → 1 ≤ there
          by zero is = none (h.links.near.up here) begins_down.0 packet_octets (begins_down.1 ∙ ap h.links.far.down is ∙ h.far.before.0)
          by (suc n) is = omega (arith, is)

      up : is_up w.near.link.phase ≡ true
      up = ap is_up ((laws.stations.take_hands_up lc octets w.near.link).up packet_octets some)

      abbrev own_here : layer.End
      own_here = own cfg end here h.trace

      abbrev own_there : layer.End
      own_there = own cfg (other end) there h.trace

      abbrev flight : List PlainPacket
      flight = (own_order laws cfg end here there h.trace paired).0

      given_is : own_there.given ≡ own_here.taken ++ flight
      given_is = (own_order laws cfg end here there h.trace paired).1

      in_front : Front cfg packet_octets flight
      in_front =
          let near = (h.near.sessions here (h.near.first up) (omega arith)).up in
          let far = (h.far.sessions there there_begun (omega arith)).down in
          let was = h.links.near.up here in
          let coming = packet_octets ∷ begins_down.0 in
          let given : all_read cfg was ++ all_read cfg coming ≡ all_read cfg was ++ as_read flight =
          sym (map-append (read_by cfg) was coming) ∙ ap (all_read cfg) begins_down.1 ∙ far ∙ ap as_read given_is ∙ map-append is_read own_here.taken flight
          ∙ ap (λ l. l ++ as_read flight) (sym near) in
          front_of cfg packet_octets begins_down.0 flight (append_cancel_left (all_read cfg was) (all_read cfg coming) (as_read flight) given)

      -- the layer takes the packet in front
      module _ (channels : List ℕ) where
        abbrev moves : List OwnMove
        moves = Takes in_front.packet ∷ own_pulls channels

        abbrev trace_on : List Done
        trace_on = h.trace ++ moved end here moves

        begins_own : IsPrefix (own_here.taken ++ in_front.packet ∷ []) own_there.given
        begins_own = (
          in_front.others,
          append_assoc own_here.taken (in_front.packet ∷ []) in_front.others ∙ ap (λ l. own_here.taken ++ l) (sym in_front.is)
              ∙ sym given_is,
        )

        pair_on : PairIsInOrder cfg end trace_on here there
        pair_on =
            pair_goes laws cfg end h.trace here moves there paired
            (next_at cfg end (pair_ends cfg end here there h.trace) in_front.packet channels
            (rw (here_is laws cfg end here there h.trace)
            (subst (λ e. IsPrefix (own_here.taken ++ in_front.packet ∷ []) e.given) (sym (there_is laws cfg end here there h.trace)) begins_own)))

        others_on : (ms : List Meeting) → Each (IsNoEarlier now_met) ms → PairsAreInOrder cfg end h.trace ms → PairsAreInOrder cfg end trace_on ms
        others_on [] earlier pairs = tt
        others_on (p ∷ ms) earlier pairs = (
          elim earlier.0 [
            | inl same ↦ rw same.0 (subst (λ m. PairIsInOrder cfg end trace_on here m) (sym same.1) pair_on)
            | inr less ↦ pair_stays laws cfg end h.trace here moves p.near p.far (λ e. (omega (arith, less.0, e))) pairs.0
          ],
          others_on ms earlier.1 pairs.1,
        )

        pairs_on : PairsAreInOrder cfg end trace_on after_taken.met
        pairs_on = subst (PairsAreInOrder cfg end trace_on) (sym met_now)
            (pair_on, others_on h.links.met (all_no_earlier now_met h.links.met met_in_step) h.pairs)

        -- the first packet is told as a restart by the other end
        restarts : (told : List LayerNotice) → (own cfg end here trace_on).taken ≡ own_here.taken ++ in_front.packet ∷ [] → (own cfg end here trace_on).told
            ≡ own_here.told ++ told → own_here.taken ≡ [] → BeginsRestarted told
        restarts told taken_on told_on none =
            let before : own_here.told ≡ [] = subst (λ ps. IsToldFirst ps own_here.told) none (own_first laws cfg end here there h.trace paired) in
            subst (λ ns. IsToldFirst (in_front.packet ∷ []) ns) (told_on ∙ ap (λ ns. ns ++ told) before)
            (subst (λ ps. IsToldFirst ps (own cfg end here trace_on).told) (taken_on ∙ ap (λ ps. ps ++ in_front.packet ∷ []) none)
            (own_first laws cfg end here there trace_on pair_on))

      abbrev step : Step
      step = follows ours w.near taken

      abbrev begin : layer.TwoLayers
      begin = apart.alone own_here (in_front.packet ∷ [])

      abbrev world_on : List ℕ → layer.TwoLayers
      world_on channels = moves_all (layer_of cfg end) begin (HandsUp ∷ pulls_of channels)

      near_on : (channels : List ℕ) → (world_on channels).near ≡ own_run (layer_of cfg end) (moves channels) own_here
      near_on channels = near_pulls (layer_of cfg end) (layer.moves (layer_of cfg end) begin HandsUp) channels

      -- the layer takes it, and pulls at these channels
      joined_on : abandons ours w.near ≡ false → (channels : List ℕ) × IsJoined ours begin (world_on channels) taken.side [] step
      joined_on none =
          let c = settings_from end cfg in
          let now = h.near.now up in
          let j = laws.stations.receive c w.near.link begin w.near.turn octets packet_octets in_front.packet [] now.out refl
          (ap (λ l. abandons c (station_with w.near.link l w.near.turn)) now.layer ∙ none) some in_front.reads in
          let is : receives c (station_with w.near.link own_here.layer w.near.turn) octets ≡ step =
          ap (λ l. receives c (station_with w.near.link l w.near.turn) octets) now.layer
          ∙ ap (λ b. ends c w.near (if b then abandon_step lc w.near.link else taken)) none ∙ up_ends c w.near taken up in
          (j.0, subst (λ s. IsJoined c begin (world_on j.0) taken.side [] s) is j.2)

      joined_readable : (none : abandons ours w.near ≡ false) → AreReadable cfg.wide cfg.long_data (joined_on none).1.packets
      joined_readable none =
          let j = joined_on none in
          puts_readable laws cfg fine end w h (moves j.0) j.1.packets (ap (λ e. e.given) (sym (near_on j.0)) ∙ j.1.layer.given)
          (tt, pulls_bring_octets cfg.wide end here j.0) (there, pair_on j.0)

      packets_put : (none : abandons ours w.near ≡ false) → PutsRead ours taken.side (joined_on none).1.packets (spelled (joined_on none).1.packets) step
      packets_put none = (let j = joined_on none in puts_spelled j.1.link (joined_readable none))

      -- what it confirms is told
      counts_taken : (channels : List ℕ) → IsQuiet taken → (k : ℕ) (name : Name) → confirmed_in k name step.entries
          ≤ counted_in (layer_of cfg end) k name (moves channels) own_here
      counts_taken channels quiet k name =
          let c = layer_of cfg end in
          let p = in_front.packet in
          let now = h.near.now up in
          let is : counted_by c k name own_here (Takes p) ≡ counted_at c k name w.near.layer (layer_answers c w.near.layer p).next =
          ap (λ gone. counted_at c k name own_here.layer (moves_in c (apart.alone own_here (p ∷ [])) gone HandsUp).near.layer) now.out
          ∙ ap (λ l. counted_at c k name l (layer_answers c l p).next) now.layer in
          omega (arith, heard_confirms cfg end w.near taken packet_octets p some quiet in_front.reads k name, is)

      handed : abandons ours w.near ≡ false → IsKept step.near → To (after_step ours w (octets_of came.others) step)
      unfolding joined_on
      handed none kept =
          let hands = laws.stations.take_hands_up lc octets w.near.link in
          let quiet = hands.quiet packet_octets some in
          let up_after : is_up taken.side.near.phase ≡ true = (laws.stations.take_tells lc octets w.near.link).stays quiet ∙ up in
          let f = in_front in
          let j = joined_on none in
          let near = near_on j.0 in
          let takes = take_takes (layer_of cfg end) own_here f.packet j.0 (h.near.now up).out in
          let all = own_goes cfg end here h.trace (moves j.0) in
          joins laws cfg fine end w h step after_taken taken.side (world_on j.0) (moves j.0) j.1.packets (f.packet ∷ []) (f.packet ∷ []) (spelled j.1.packets)
          (packet_octets ∷ [])
          (ap (λ r. r ∷ []) f.reads) came.others goes_up_one up up_after (packets_put none) j.1.layer near takes
          (heard_plain ours w.near taken packet_octets some quiet) kept (tt, pulls_bring_octets cfg.wide end here j.0) (there, pair_on j.0)
          (heard_beside cfg end w.near taken packet_octets f.packet some quiet f.reads) gave_none
          (rw (spelled_bring laws.stations cfg j.1.packets (joined_readable none)) tt) (counts_taken j.0 quiet)
          (asks_taken (spelled j.1.packets)) (λ nothing. absurd (cc)) (pairs_on j.0) met_taken.more
          (λ first. inr (record {
            has_met = rw met_now (inl (refl, refl));
            restarts = restarts j.0 (layer_notices step.entries) (ap (λ e. e.taken) all ∙ takes)
                (ap (λ e. e.told) all ∙ ap (λ e. e.told) (sym near) ∙ j.1.layer.told) first;
            begun = there_begun;
          }))

    -- ---- all that may come

    takes_joined : abandons ours w.near ≡ false → IsKept (ends ours w.near taken).near
        → To (after_step ours w (octets_of came.others) (ends ours w.near taken))
    takes_joined none kept = by taken.notes.up taken.packet refl refl
      where
        by : (up : Bool) (o : Option (List ℕ)) → taken.notes.up ≡ up → taken.packet ≡ o
            → To (after_step ours w (octets_of came.others) (ends ours w.near taken))
        by true None up is =
            subst (λ s. To (after_step ours w (octets_of came.others) s))
            (sym (fresh_ends ours w.near taken ((laws.stations.take_tells lc octets w.near.link).fresh_up up)))
            (follows_up Receives laws cfg fine end w h no_command came.others taken after_taken after_taken.met met_taken.pairs met_taken.more
            (laws.stations.take_tells lc octets w.near.link) goes_taken asks_taken up is kept)
        by true (Some packet_octets) up is =
            true_false (sym up ∙ ap (λ n. n.up) ((laws.stations.take_hands_up lc octets w.near.link).quiet packet_octets is))
        by false None up is =
            follows_silent Receives laws cfg fine end w h (ended (end_between w.near.link taken.side.near)) came.others taken after_taken after_taken.met met_taken.pairs met_taken.more
            (laws.stations.take_tells lc octets w.near.link) goes_taken (asks_taken []) up is kept
        by false (Some packet_octets) up is =
            let was_up = ap is_up ((laws.stations.take_hands_up lc octets w.near.link).up packet_octets is) in
            subst (λ s. To (after_step ours w (octets_of came.others) s)) (sym (up_ends ours w.near taken was_up)) (handed up packet_octets is none kept)

    came_joined : To (after_step ours w back (receives ours w.near octets))
    came_joined = by (abandons ours w.near) refl (laws.stations.receive_keeps ours w.near octets h.near.kept)
      where
        step : Bool → Step
        step b = ends ours w.near (if b then abandon_step lc w.near.link else taken)

        by : (b : Bool) → abandons ours w.near ≡ b → IsKept (step b).near → To (after_step ours w back (step b))
        by true is kept = abandoned is kept
        by false is kept = rw (sym came.left) (takes_joined is kept)

  pub receives_joined : To (after w (delivered ours w w.back))
  receives_joined = by w.back refl
    where
      by : (l : List (List ℕ)) → w.back ≡ l → To (after w (delivered ours w l))
      by [] is = stays h gave_none
      by (octets ∷ back) is = came_joined octets back is
