-- Where both links are idle, and a pull at the one end gives nothing, what waits in an open stretch there waits for the user at the other end.
use Rattle.x25_world.proofs.Names.{◌≡◌, ℕ, ◌+◌, ◌<◌, inr, List, [], ◌∷◌, ◌++◌, length, Bool, true, false, Some, None, if◌then◌else◌, ◌==◌, ◌&&◌, refl, sym, ap}
use Rattle.x25_world.proofs.Names.{subst, ◌∙◌, arith, length-append, eqb-true, and_parts, Role, Dte, Dce, PlainPacket, other, LinkStation, is_up, Meeting}
use Rattle.x25_world.proofs.Names.{IdleHasArrived, is_open, waits, Name, Ranges, Layer, is_channel, PullsAll, outcome_in, layer_outcome, LinkView, AlwaysApart}
use Rattle.x25_world.proofs.Names.{apart_run, apart_start, as_world, name_of, HasAllOf, PullsNone, Cfg, Settings, settings_from, link_settings, layer_settings}
use Rattle.x25_world.proofs.Names.{StationEntry, Station, all_put, view_of, requests, stretch, World, mirrored, WorldOutcome, Happened, Declined, of_station}
use Rattle.x25_world.proofs.Names.{swapped_back, after, last_session, handed_in, PullsLeaveNone, UnpulledWaitForUsers, SessionLaws, MessagesWaitForUsers}
use Rattle.x25_layer.specs.{Layer.{is_ready}, laws.Rounds.{Putting, begin, rounds, Answered, Went, Refuses, went, calls}}
use Rattle.x25_layer.specs.laws.WaitLaw.{RoundsLeaveNone, StillPullsNone, KeepsNoneClosed, OpensNoneInRestart, IsDrained, IsOpenAtBoth, WaitForUsersAlone}
use Rattle.x25_link.specs.Link.{alone}
use Rattle.x25_station.specs.Step.{did}
use Rattle.x25_world.proofs.{Growing.{all_read, as_read, as_many}, Known.{IsConfigured, true_false}, Names.{ClosedKeepNone}}
use Rattle.x25_world.proofs.sessions.{SessionJoined.{PairIsInOrder, SessionsJoined, sessions_swapped}, SessionKnown.{some_map, met_in_order, of_either}}
use Rattle.x25_world.proofs.sessions.{SessionReaches.{known_sessions}, SessionTrace.{layer_of, Done, own}, acts.SessionRequests.{session_pair}}
use Rattle.x25_world.proofs.sessions.claims.SessionArrives.{stretch_of, name_if, open_if, meet_from, latest_near, latest_far}
use Rattle.x25_world.specs.laws.WaitClaims.{WaitsForUser, Arrived, NotReady}
use Rattle.x25_link.specs.Outgoing as outgoing
use Rattle.x25_link.specs.Link as link
use Rattle.x25_layer.specs.declared.error.LayerError.TheVariants as error
use Rattle.x25_layer.specs.laws.TwoLayers as layer
use Rattle.x25_layer.specs.laws.WaitLaw as wait

-- ---- a pull that gives nothing

-- a link that is idle has room
idle_has_room : (s : LinkStation) → link.is_idle s ≡ true → outgoing.waits s.outgoing < 8
idle_has_room s idle =
    let none = eqb-true (outgoing.waits s.outgoing) 0
    (and_parts (outgoing.waits s.outgoing == 0) (s.outgoing.acked == s.outgoing.sent)
    (and_parts (is_up s.phase) (outgoing.waits s.outgoing == 0 && s.outgoing.acked == s.outgoing.sent) idle).1).0 in
    omega (arith, none)

abbrev layer_after : Layer → WorldOutcome → Layer
layer_after l (Happened w) = w.near.layer
layer_after l (Declined e) = l

had_nothing : StillPullsNone → (c : Settings) (w v : World) → link.is_idle w.near.link ≡ true → of_station c w (requests c w.near PullsAll) ≡ Happened v
    → v.near.layer ≡ w.near.layer → PullsNone (layer_settings c) w.near.layer
had_nothing law c w v idle goes still = by _ (calls (view_of (link_settings c) w.near.turn w.near.link) (layer_settings c) w.near.layer PullsAll) refl goes
  where
    by : (entries : List StationEntry) (a : Answered) → calls (view_of (link_settings c) w.near.turn w.near.link) (layer_settings c) w.near.layer PullsAll ≡ a
        → of_station c w (did c (alone w.near.link) entries a) ≡ Happened v
        → PullsNone (layer_settings c) w.near.layer
    by entries (Went s) is same = law (view_of (link_settings c) w.near.turn w.near.link) (layer_settings c) w.near.layer s is (ap (λ o. layer_after w.near.layer o) same ∙ still)
        (idle_has_room w.near.link idle)
    by entries (Refuses e) is same = absurd (cc)

-- ---- of two layers in order

no_length : (l : List PlainPacket) → length l ≡ 0 → l ≡ []
no_length [] e = refl
no_length (p ∷ l) e = absurd (omega (arith, e))

none_left : (given taken out : List PlainPacket) → given ≡ taken ++ out → length taken ≡ length given → out ≡ []
none_left given taken out order all =
    let l : length given ≡ length taken + length out = ap length order ∙ length-append taken out in
    no_length out (let e : length out ≡ 0 = omega (arith, l, all) in e)

abbrev pub LayersWait : Type 0
LayersWait = (long_data : Bool) (channels : Ranges) → AlwaysApart (WaitForUsersAlone long_data channels) long_data channels

module _ (laws : SessionLaws) (waits_law : LayersWait) (cfg : Cfg) where
  abbrev WaitsFrom : Role → layer.End → layer.End → Type 0
  WaitsFrom end giver taker = giver.is_out ≡ false → taker.is_out ≡ false → length taker.taken ≡ length giver.given → length giver.taken ≡ length taker.given
      → PullsNone (layer_of cfg end) giver.layer
      → (k : ℕ) → is_channel cfg.channels k ≡ true → wait.WaitsForUser k giver taker

  own_waits : (end : Role) (n m : ℕ) (trace : List Done) → PairIsInOrder cfg end trace n m → WaitsFrom end (own cfg end n trace) (own cfg (other end) m trace)
  own_waits = of_either laws cfg WaitsFrom (λ events order.
      (let w = as_world (apart_run cfg.long_data cfg.channels events (apart_start cfg.long_data cfg.channels)) in
      let keeps = laws.layers_order cfg.long_data cfg.channels events order in
      let wait_for = waits_law cfg.long_data cfg.channels events order in
      let drained : w.near.is_out ≡ false → w.far.is_out ≡ false → length w.far.taken ≡ length w.near.given → length w.near.taken ≡ length w.far.given
      → IsDrained w =
      λ up up_there all all_back. record {
        near_up = up;
        far_up = up_there;
        out = none_left w.near.given w.far.taken w.out keeps.near all;
        back = none_left w.far.given w.near.taken w.back keeps.far all_back;
      } in (
        λ up up_there all all_back. wait_for.near (drained up up_there all all_back),
        λ up up_there all all_back. wait_for.far (drained up_there up all_back all),
      )))

-- ---- of a world

-- a stretch that is open, as the station shows it
stretch_is : (c : Settings) (s : Station) (k : ℕ) (name : Name) → is_channel c.channels k ≡ true → is_open (s.layer.circuits k) ≡ true → name_of s.layer k
    ≡ name → stretch c s k ≡ Some name
stretch_is c s k name channel opened named =
    ap (λ b. name_if (open_if b (is_open (s.layer.circuits k))) (name_of s.layer k)) channel ∙ ap (λ b. name_if b (name_of s.layer k)) opened
    ∙ ap (λ n. Some n) named

module _ (laws : SessionLaws) (waits_law : LayersWait) {cfg : Cfg} (fine : IsConfigured cfg) where
  waits_from : {end : Role} {w : World} → SessionsJoined cfg end w → (k : ℕ) (name : Name) → link.is_idle w.near.link ≡ true
      → link.is_idle w.far.link ≡ true
      → PullsNone (layer_of cfg end) w.near.layer → stretch (settings_from end cfg) w.near k ≡ Some name
      → (stretch (settings_from (other end) cfg) w.far k ≡ Some name)
      × WaitsForUser k name w.near w.far (handed_in end (last_session end w) w) (handed_in (other end) (last_session (other end) w) w)
  waits_from {end} {w} h k name idle idle_there none here =
      let stands = meet_from laws fine h k name here in
      let shown = stretch_of cfg.channels w.near.layer k name here in
      let at = h.near.now stands.up in
      let up_there = (and_parts (is_up w.far.link.phase) (outgoing.waits w.far.link.outgoing == 0 && w.far.link.outgoing.acked == w.far.link.outgoing.sent)
      idle_there).0 in
      let at_there = h.far.now up_there in
      let near_session = h.near.sessions n stands.begun.0 (omega arith) in
      let far_session = h.far.sessions m stands.begun.1 (omega arith) in
      let met = some_map (λ p. p.near ≡ n) (λ (p : Meeting) is. is.0) h.links.met stands.has_met in
      let met_there = some_map (λ p. p.far ≡ m) (λ (p : Meeting) is. is.1) h.links.met stands.has_met in
      let has = known_sessions IdleHasArrived laws.idle fine h.reach in
      let arrived = has.near (ap (λ x. link.is_idle x) h.near.link ∙ idle) (inr met) in
      let arrived_back = has.far (ap (λ x. link.is_idle x) h.far.link ∙ idle_there) (inr met_there) in
      let all : as_read taker.taken ≡ as_read giver.given = sym far_session.up ∙ ap (all_read cfg) arrived ∙ near_session.down in
      let all_back : as_read giver.taken ≡ as_read taker.given = sym near_session.up ∙ ap (all_read cfg) arrived_back ∙ far_session.down in
      let order = met_in_order cfg end h.trace h.links.met n m h.pairs stands.has_met in
      let what = own_waits laws waits_law cfg end n m h.trace order at.out at_there.out (as_many taker.taken giver.given all)
      (as_many giver.taken taker.given all_back)
      (rw at.layer none) k shown.channel in
      shows at.layer at_there.layer shown.channel shown.opened shown.named what near_session.entries far_session.entries
    where
      n : ℕ
      n = h.links.near.begun

      m : ℕ
      m = h.links.far.begun

      giver : layer.End
      giver = own cfg end n h.trace

      taker : layer.End
      taker = own cfg (other end) m h.trace

      Claimed : Type 0
      Claimed = (stretch (settings_from (other end) cfg) w.far k ≡ Some name)
          × WaitsForUser k name w.near w.far (handed_in end (last_session end w) w) (handed_in (other end) (last_session (other end) w) w)

      there_too : giver.layer ≡ w.near.layer → taker.layer ≡ w.far.layer → is_channel cfg.channels k ≡ true → name_of w.near.layer k ≡ name
          → IsOpenAtBoth k giver taker → stretch (settings_from (other end) cfg) w.far k ≡ Some name
      there_too of_giver of_taker channel named both =
          stretch_is (settings_from (other end) cfg) w.far k name channel (ap (λ l. is_open (l.circuits k)) (sym of_taker) ∙ both.opened_there)
          (ap (λ l. name_of l k) (sym of_taker) ∙ sym both.same_name ∙ ap (λ l. name_of l k) of_giver ∙ named)

      has_all : giver.layer ≡ w.near.layer → name_of w.near.layer k ≡ name → giver.entries ≡ handed_in end n w → taker.entries ≡ handed_in (other end) m w
          → HasAllOf k (name_of giver.layer k) giver.entries taker.entries
          → HasAllOf k name (handed_in end (last_session end w) w) (handed_in (other end) (last_session (other end) w) w)
      has_all of_giver named down up all =
          rw (sym (latest_near laws fine h)) (subst (λ x. HasAllOf k name (handed_in end n w) (handed_in (other end) x w)) (latest_far laws fine h)
          (subst (λ x. HasAllOf k x (handed_in end n w) (handed_in (other end) m w)) (ap (λ l. name_of l k) of_giver ∙ named)
          (subst (λ es. HasAllOf k (name_of giver.layer k) es (handed_in (other end) m w)) down
          (subst (λ es. HasAllOf k (name_of giver.layer k) giver.entries es) up all))))

      shows : giver.layer ≡ w.near.layer → taker.layer ≡ w.far.layer → is_channel cfg.channels k ≡ true → is_open (w.near.layer.circuits k) ≡ true
          → name_of w.near.layer k ≡ name → wait.WaitsForUser k giver taker
          → giver.entries ≡ handed_in end n w → taker.entries ≡ handed_in (other end) m w → Claimed
      shows of_giver of_taker channel opened named (wait.NotOpen closed none) down up =
          absurd (true_false (sym (ap (λ l. is_open (l.circuits k)) of_giver ∙ opened) ∙ closed))
      shows of_giver of_taker channel opened named (wait.Arrived both none all) down up =
          (there_too of_giver of_taker channel named both, Arrived (ap (λ l. waits (l.circuits k)) (sym of_giver) ∙ none) (has_all of_giver named down up all))
      shows of_giver of_taker channel opened named (wait.NotReady both not) down up =
          (there_too of_giver of_taker channel named both, NotReady (ap (λ l. (l.circuits k).talk.own_ready) (sym of_taker) ∙ not))

swapped_is : (o : WorldOutcome) (v : World) → swapped_back o ≡ Happened v → o ≡ Happened (mirrored v)
swapped_is (Happened u) v is = ap (λ x. swapped_back x) is
swapped_is (Declined e) v is = absurd (cc)

module _ (laws : SessionLaws) (waits_law : LayersWait) (still_law : StillPullsNone) {cfg : Cfg} (fine : IsConfigured cfg) where
  pub messages_wait : (w : World) → SessionsJoined cfg Dte w → MessagesWaitForUsers cfg w
  messages_wait w h Dte k name v idle idle_there goes still here =
      waits_from laws waits_law fine h k name idle idle_there (had_nothing still_law (settings_from Dte cfg) w v idle goes still) here
  messages_wait w h Dce k name v idle idle_there goes still here =
      let back = swapped_is (of_station (settings_from Dce cfg) (mirrored w) (requests (settings_from Dce cfg) w.far PullsAll)) v goes in
      waits_from laws waits_law fine (sessions_swapped h) k name idle idle_there
      (had_nothing still_law (settings_from Dce cfg) (mirrored w) (mirrored v) idle back still) here

-- ---- a circuit that isn't open

abbrev pub LayersKeepNone : Type 0
LayersKeepNone = (long_data : Bool) (channels : Ranges) → AlwaysApart wait.ClosedKeepNone long_data channels

module _ (laws : SessionLaws) (closed_law : LayersKeepNone) {cfg : Cfg} (fine : IsConfigured cfg) where
  own_closed : (end : Role) (n m : ℕ) (trace : List Done) → PairIsInOrder cfg end trace n m → KeepsNoneClosed (own cfg end n trace)
  own_closed = of_either laws cfg (λ end e f. KeepsNoneClosed e)
      (λ events order. (let both = closed_law cfg.long_data cfg.channels events order in (both.near, both.far)))

  closed_from : {end : Role} {w : World} → SessionsJoined cfg end w → (k : ℕ) → is_open (w.near.layer.circuits k) ≡ false
      → waits (w.near.layer.circuits k) ≡ 0
  closed_from {end} {w} h k closed = by (is_up w.near.link.phase) refl
    where
      by : (b : Bool) → is_up w.near.link.phase ≡ b → waits (w.near.layer.circuits k) ≡ 0
      by true up =
          let pair = session_pair laws cfg fine end w h h.links.near.begun in
          let same = (h.near.now up).layer in
          ap (λ l. waits (l.circuits k)) (sym same) ∙ own_closed end h.links.near.begun pair.0 h.trace pair.1 k (ap (λ l. is_open (l.circuits k)) same ∙ closed)
      by false down = ap (λ l. waits (l.circuits k)) (h.near.kept.rests down)

  pub closed_keep : (w : World) → SessionsJoined cfg Dte w → ClosedKeepNone cfg w
  closed_keep w h Dte k closed = closed_from h k closed
  closed_keep w h Dce k closed = closed_from (sessions_swapped h) k closed

-- ---- behind a pull

abbrev pub LayersOpenNone : Type 0
LayersOpenNone = (long_data : Bool) (channels : Ranges) → AlwaysApart wait.NoneOpenInRestart long_data channels

-- while a restart is under way no circuit is open
module _ (laws : SessionLaws) (shut_law : LayersOpenNone) {cfg : Cfg} (fine : IsConfigured cfg) where
  own_shut : (end : Role) (n m : ℕ) (trace : List Done) → PairIsInOrder cfg end trace n m → OpensNoneInRestart (own cfg end n trace)
  own_shut = of_either laws cfg (λ end e f. OpensNoneInRestart e)
      (λ events order. (let both = shut_law cfg.long_data cfg.channels events order in (both.near, both.far)))

  shut_from : (end : Role) (w : World) → SessionsJoined cfg end w → w.near.layer.restarting ≡ true → (k : ℕ)
      → is_open (w.near.layer.circuits k) ≡ false
  shut_from end w h restarts k = by (is_up w.near.link.phase) refl
    where
      by : (b : Bool) → is_up w.near.link.phase ≡ b → is_open (w.near.layer.circuits k) ≡ false
      by true up =
          let pair = session_pair laws cfg fine end w h h.links.near.begun in
          let same = (h.near.now up).layer in
          ap (λ l. is_open (l.circuits k)) (sym same) ∙ own_shut end h.links.near.begun pair.0 h.trace pair.1 (ap (λ l. l.restarting) same ∙ restarts) k
      by false down = absurd (true_false (sym restarts ∙ ap (λ l. l.restarting) (h.near.kept.rests down)))

module _ (laws : SessionLaws) (waits_law : LayersWait) (shut_law : LayersOpenNone) {cfg : Cfg} (fine : IsConfigured cfg) where
  unpulled_from : {end : Role} {w : World} → SessionsJoined cfg end w → (k : ℕ) (name : Name) → link.is_idle w.near.link ≡ true
      → link.is_idle w.far.link ≡ true
      → (w.near.layer.restarting ≡ false → PullsNone (layer_of cfg end) w.near.layer) → stretch (settings_from end cfg) w.near k ≡ Some name
      → (stretch (settings_from (other end) cfg) w.far k ≡ Some name)
      × WaitsForUser k name w.near w.far (handed_in end (last_session end w) w) (handed_in (other end) (last_session (other end) w) w)
  unpulled_from {end} {w} h k name idle idle_there none here =
      waits_from laws waits_law fine h k name idle idle_there (none (by w.near.layer.restarting refl)) here
    where
      by : (b : Bool) → w.near.layer.restarting ≡ b → w.near.layer.restarting ≡ false
      by false is = is
      by true is = absurd (true_false (sym (stretch_of cfg.channels w.near.layer k name here).opened ∙ shut_from laws shut_law fine end w h is k))

  pub unpulled_wait : (w : World) → SessionsJoined cfg Dte w → UnpulledWaitForUsers cfg w
  unpulled_wait w h idle idle_there none none_there Dte k name here = unpulled_from h k name idle idle_there none here
  unpulled_wait w h idle idle_there none none_there Dce k name here = unpulled_from (sessions_swapped h) k name idle_there idle none_there here

-- what the layer's pull leaves, where the link is idle once it is put
near_left : RoundsLeaveNone → (c : Settings) (w : World)
    → (let v = after w (of_station c w (requests c w.near PullsAll)) in link.is_idle v.near.link ≡ true → v.near.layer.restarting ≡ false
    → PullsNone (layer_settings c) v.near.layer)
near_left law c w idle ready = by_up _ (is_up w.near.link.phase) refl idle ready
  where
    view : LinkView
    view = view_of (link_settings c) w.near.turn w.near.link

    Left : List StationEntry → Answered → Type 0
    Left entries a = let v = after w (of_station c w (did c (alone w.near.link) entries a)) in link.is_idle v.near.link ≡ true → v.near.layer.restarting
        ≡ false → PullsNone (layer_settings c) v.near.layer

    gone : (entries : List StationEntry) (begun : Putting) → Left entries (Went (rounds view (layer_settings c) begun))
    gone entries begun idle ready = law view (layer_settings c) begun
        (idle_has_room (all_put (link_settings c) (rounds view (layer_settings c) begun).put (alone w.near.link)).near idle)

    by_ready : (entries : List StationEntry) (b : Bool) → w.near.layer.restarting ≡ b
        → Left entries (went view (layer_settings c)
        (outcome_in (layer_settings c) (view.waits [] == 256) b w.near.layer.restarts w.near.layer.circuits PullsAll))
    by_ready entries true restarts idle ready = absurd (true_false (sym restarts ∙ ready))
    by_ready entries false is idle ready = gone entries (begin (is_ready w.near.layer.restarts w.near.layer.circuits) None) idle ready

    by_up : (entries : List StationEntry) (b : Bool) → is_up w.near.link.phase ≡ b
        → Left entries (if b then went view (layer_settings c) (layer_outcome (layer_settings c) (view.waits [] == 256) w.near.layer PullsAll)
        else Refuses error.NotUp)
    by_up entries true up = by_ready entries w.near.layer.restarting refl
    by_up entries false down = λ idle ready.
        absurd (true_false (sym (and_parts (is_up w.near.link.phase)
        (outgoing.waits w.near.link.outgoing == 0 && w.near.link.outgoing.acked == w.near.link.outgoing.sent) idle).0 ∙ down))

pub pulls_leave_none : RoundsLeaveNone → PullsLeaveNone
pulls_leave_none law cfg w Dte idle ready = near_left law (settings_from Dte cfg) w idle ready
pulls_leave_none law cfg w Dce idle ready = by (of_station (settings_from Dce cfg) (mirrored w) (requests (settings_from Dce cfg) w.far PullsAll))
    (near_left law (settings_from Dce cfg) (mirrored w)) idle ready
  where
    by : (o : WorldOutcome) → (link.is_idle (after (mirrored w) o).near.link ≡ true → (after (mirrored w) o).near.layer.restarting ≡ false
        → PullsNone (layer_of cfg Dce) (after (mirrored w) o).near.layer)
        → link.is_idle (after w (swapped_back o)).far.link ≡ true → (after w (swapped_back o)).far.layer.restarting ≡ false
        → PullsNone (layer_of cfg Dce) (after w (swapped_back o)).far.layer
    by (Happened v) left = left
    by (Declined e) left = left
