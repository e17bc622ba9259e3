-- What rest shows at a world of two stations; and how its two links heal, while the layers put nothing.
use Rattle.x25_station.specs.{Entry.{StationEntry, end_between, entries_ended}, Step.{ends, led_by}}
use Rattle.x25_world.proofs.Names.{◌≡◌, ℕ, List, [], ◌∷◌, ◌++◌, map, true, false, ◌&&◌, if◌then◌else◌, Option, Some, None, refl, sym, ap, ◌∙◌, subst, suc}
use Rattle.x25_world.proofs.Names.{length, ◌≤◌, inl, eq-eqb, Role, Dte, Dce, spelling_of, Meeting, Sessions, from_nothing, begun_by, IsTimely, AreTimely, Each}
use Rattle.x25_world.proofs.Names.{octets_of, waits_up_to, HasAllOf, Name, Cfg, Settings, settings_from, link_settings, layer_settings, all_put, view_of}
use Rattle.x25_world.proofs.Names.{follows, layer_at, unless, fires, ConnectKeeps, stretch, World, mirrored, Declined, Receives, acts, delivered, fired}
use Rattle.x25_world.proofs.Names.{of_station, is_on_line, after, after_step, happens, refusal_of, run, AreAccepted, link_of, station_at, SessionLaws}
use Rattle.x25_world.proofs.Names.{Throughout, AllArrive, at_end, last_session, handed_in, IsDrained, receipt, all_received, firing, AreLinksOf, RestShows}
use Rattle.x25_world.proofs.Names.{timer_silent, LinkError, LinkSettings, LinkStation, is_up, awaits_ua, LinkStep, other, take_step, timer_step, timer_refusal}
use Rattle.std.{proofs.lemmas.Bool.{and_from}, specs.Prelude.{◌==◌}}
use Rattle.x25_line.specs.Healing.{IsDelivery, EachRestShows, IsAtRestOrOut, HasTries, OneIsFree, EachSessionHeals, SessionsHealUnlessBothBusy, FindsIn}
use Rattle.x25_line.specs.Healing.{EachFindsIn, SessionsDrainEnd}
use Rattle.x25_world.proofs.{Growing.{octets_put}, Known.{true_false, IsConfigured, is_configured}, Names.{timer_runs, abandon_step, IsAtRest}}
use Rattle.x25_world.proofs.{WorldLemmas.{refusal-swapped}, sessions.SessionFollows.{silent}, sessions.SessionJoined.{SessionsJoined}}
use Rattle.x25_world.proofs.sessions.{SessionReaches.{Leads, then_leads, joined_at, known_sessions}, SessionRuns.{back_after, throughout_joined}}
use Rattle.x25_world.proofs.sessions.SessionsAlong.{Alike, joined_alike, run_of, links_are}
use Rattle.x25_world.specs.Healing.{StopsAtRest, PutsNothing, PutsNothingAt, NonePut, Heals, MayHeal, HealsWhereNonePut, DrainsWhereNonePut}
use Rattle.x25_link.specs.Link as link
use Rattle.x25_line.specs.laws.Stations as line
use Rattle.x25_line.specs.laws.Sessions as links
use Rattle.x25_line.specs.laws.SessionClaims as claims
use Rattle.x25_world.specs.declared.error.WorldError.TheVariants as error

pub turned : {w : World} {v : Sessions} → Alike w v → Alike (mirrored w) (links.swapped v)
turned h = record { near = h.far; far = h.near; out = h.back; back = h.out }

-- ---- timer T1 hands nothing up and notes no LinkUp, so the layer puts nothing

module _ (c : Settings) {w : World} {v : Sessions} (h : Alike w v) where
  -- a step of the near link behind which its layer puts nothing
  step_alike : (rest : List links.Entry) (left : List (List ℕ)) (met : List Meeting) (told : List StationEntry) (k : LinkStep) → octets_of rest ≡ left
      → (layer_at (view_of (link_settings c) w.near.turn k.side.near) (layer_settings c) c.wide w.near.layer k.packet k.notes.down k.notes.up).put ≡ []
      → Alike (after_step c w left (led_by told (follows c w.near k))) (links.after_step (link_settings c) v rest met [] k)
  step_alike rest left met told k is none =
      let session = begun_by k.notes.up v.near.begun in
      record {
        near = ap (λ ps. (all_put (link_settings c) ps k.side).near) (sym none);
        far = h.far;
        out = octets_put v.out session c.role k.side.out
            ∙ ap (λ os. os ++ map (spelling_of c.role) k.side.out) h.out
            ∙ ap (λ ps. w.out ++ map (spelling_of c.role) (all_put (link_settings c) ps k.side).out) (sym none);
        back = is;
      }

  -- the front octets come
  received_alike : PutsNothing c w.near w.back → Alike (after w (delivered c w w.back)) (links.acts (link_settings c) line.Deliver v)
  received_alike none = subst (λ os. Alike (after w (delivered c w os)) (links.acts (link_settings c) line.Deliver v)) h.back
      (by v.back (subst (PutsNothing c w.near) (sym h.back) none))
    where
      by : (es : List links.Entry) → PutsNothing c w.near (octets_of es)
          → Alike (after w (delivered c w (octets_of es))) (links.delivered (link_settings c) es v)
      by [] none = h
      by (e ∷ es) none =
          let lc = link_settings c in
          let k = take_step lc e.octets w.near.link in
          subst (λ b. Alike (after_step c w (octets_of es) (ends c w.near (if b then abandon_step lc w.near.link else k)))
          (links.delivered lc (e ∷ es) v)) (sym none.0)
          (subst (λ s. Alike (after_step c w (octets_of es) (ends c w.near k))
          (links.after_step lc v es (links.delivered lc (e ∷ es) v).met [] (take_step lc e.octets s))) (sym h.near)
          (step_alike es (octets_of es) (links.delivered lc (e ∷ es) v).met (entries_ended (end_between w.near.link k.side.near)) k refl none.1))

  -- timer T1 runs out, which isn't refused while UA isn't awaited but as the link's
  fired_alike : awaits_ua w.near.link.phase ≡ false → Alike (after w (fired c w)) (links.acts (link_settings c) line.T1 v)
  fired_alike not_awaited =
      subst (λ b. Alike (after w (if b && is_on_line c w then Declined error.OnLine else of_station c w (fires c w.near)))
      (links.acts (link_settings c) line.T1 v)) (sym not_awaited)
      (subst (λ s. Alike (after w (of_station c w (fires c w.near)))
      (links.unless (timer_refusal s) v (links.after_step (link_settings c) v v.back v.met [] (timer_step (link_settings c) s)))) (sym h.near)
      (by (timer_refusal w.near.link)))
    where
      k : LinkStep
      k = timer_step (link_settings c) w.near.link

      by : (o : Option LinkError) → Alike (after w (of_station c w (unless o (ends c w.near k))))
          (links.unless o v (links.after_step (link_settings c) v v.back v.met [] k))
      by (Some e) = h
      by None = step_alike v.back w.back v.met (entries_ended (end_between w.near.link k.side.near)) k h.back
          (silent (view_of (link_settings c) w.near.turn k.side.near) (layer_settings c) c.wide w.near.layer k.packet k.notes.down k.notes.up
          (timer_silent (link_settings c) w.near.link).0 (timer_silent (link_settings c) w.near.link).1)

-- ---- events

abbrev pub c_of : Cfg → LinkSettings
c_of cfg = link_of cfg Dte

abbrev pub d_of : Cfg → LinkSettings
d_of cfg = link_of cfg Dce

abbrev received : List Role → List line.LinkEvent
received [] = []
received (at ∷ ends) = at_end at line.Deliver ∷ received ends

receipt_alike : (cfg : Cfg) (at : Role) (w : World) (v : Sessions) → Alike w v → PutsNothingAt cfg at w
    → Alike (after w (happens cfg w (receipt at))) (links.happens (c_of cfg) (d_of cfg) (at_end at line.Deliver) v)
receipt_alike cfg Dte w v h none = received_alike (settings_from Dte cfg) h none
receipt_alike cfg Dce w v h none =
    let o = acts (settings_from Dce cfg) (mirrored w) Receives in
    let x = links.acts (d_of cfg) line.Deliver (links.swapped v) in
    subst (λ z. Alike z (links.swapped x)) (sym (back_after w o)) (turned (received_alike (settings_from Dce cfg) (turned h) none))

all_alike : (cfg : Cfg) (ends : List Role) {w : World} {v : Sessions} → Alike w v → NonePut cfg ends w
    → Alike (run cfg (all_received ends) w) (links.run (c_of cfg) (d_of cfg) (received ends) v)
all_alike cfg [] h none = h
all_alike cfg (at ∷ ends) {w} {v} h none = all_alike cfg ends (receipt_alike cfg at w v h none.0) none.1

are_deliveries : (ends : List Role) → Each IsDelivery (received ends)
are_deliveries [] = tt
are_deliveries (Dte ∷ ends) = (tt, are_deliveries ends)
are_deliveries (Dce ∷ ends) = (tt, are_deliveries ends)

deliveries_timely : (c d : LinkSettings) (ends : List Role) (v : Sessions) → AreTimely c d (received ends) v
deliveries_timely c d [] v = tt
deliveries_timely c d (Dte ∷ ends) v = (tt, deliveries_timely c d ends (links.happens c d (line.Near line.Deliver) v))
deliveries_timely c d (Dce ∷ ends) v = (tt, deliveries_timely c d ends (links.happens c d (line.Far line.Deliver) v))

off_timely : (c d : LinkSettings) (v : Sessions) → awaits_ua v.near.station.phase ≡ false → IsTimely c d line.T1 v
off_timely c d v off = λ waiting. true_false (sym (ap awaits_ua waiting) ∙ off)

-- its firing changes nothing of the other end
fires_alone : (c : LinkSettings) (v : Sessions) → (links.acts c line.T1 v).far ≡ v.far
fires_alone c v = by (timer_refusal v.near.station)
  where
    by : (o : Option LinkError) → (links.unless o v (links.after_step c v v.back v.met [] (timer_step c v.near.station))).far ≡ v.far
    by (Some e) = refl
    by None = refl

-- both fire
pub both_alike : (cfg : Cfg) {w : World} {v : Sessions} → Alike w v → awaits_ua w.near.link.phase ≡ false → awaits_ua w.far.link.phase ≡ false
    → Alike (run cfg (firing Dte ∷ firing Dce ∷ []) w) (links.run (c_of cfg) (d_of cfg) (line.Near line.T1 ∷ line.Far line.T1 ∷ []) v)
both_alike cfg {w} {v} h near_off far_off =
    let v1 = links.acts (c_of cfg) line.T1 v in
    let w1 = after w (fired (settings_from Dte cfg) w) in
    let h1 = fired_alike (settings_from Dte cfg) h near_off in
    let same : w1.far.link ≡ w.far.link = sym h1.far ∙ ap (λ e. e.station) (fires_alone (c_of cfg) v) ∙ h.far in
    let o = fired (settings_from Dce cfg) (mirrored w1) in
    let x = links.acts (d_of cfg) line.T1 (links.swapped v1) in
    subst (λ z. Alike z (links.swapped x)) (sym (back_after w1 o))
    (turned (fired_alike (settings_from Dce cfg) (turned h1) (ap (λ s. awaits_ua s.phase) same ∙ far_off)))

pub none_of : (es : List links.Entry) → octets_of es ≡ [] → es ≡ []
none_of [] is = refl
none_of (e ∷ es) is = absurd (cc)

received_length : (ends : List Role) → length (received ends) ≡ length ends
received_length [] = refl
received_length (at ∷ ends) = ap suc (received_length ends)

-- where a delivery is accepted it finds octets

some_there : (c : Settings) (w : World) (back : List (List ℕ)) → refusal_of (delivered c w back) ≡ None → back ≡ [] → ⊥
some_there c w [] accepted none = cc
some_there c w (octets ∷ back) accepted none = cc

finds : (cfg : Cfg) (at : Role) {w : World} {v : Sessions} → Alike w v → refusal_of (happens cfg w (receipt at)) ≡ None → FindsIn (at_end at line.Deliver) v
finds cfg Dte {w} h accepted = λ none. some_there (settings_from Dte cfg) w w.back accepted (sym h.back ∙ ap octets_of none)
finds cfg Dce {w} h accepted = λ none.
    some_there (settings_from Dce cfg) (mirrored w) w.out (sym (refusal-swapped (acts (settings_from Dce cfg) (mirrored w) Receives)) ∙ accepted)
    (sym h.out ∙ ap octets_of none)

each_finds : (cfg : Cfg) (ends : List Role) {w : World} {v : Sessions} → Alike w v → NonePut cfg ends w → AreAccepted cfg (all_received ends) w
    → EachFindsIn (c_of cfg) (d_of cfg) (received ends) v
each_finds cfg [] h none accepted = tt
each_finds cfg (at ∷ ends) {w} {v} h none accepted = (
  finds cfg at h accepted.0,
  each_finds cfg ends (receipt_alike cfg at w v h none.0) none.1 accepted.1,
)

-- ---- both fire, and then the links go on

abbrev pub fired_then : List line.LinkEvent → List line.LinkEvent
fired_then more = line.Near line.T1 ∷ line.Far line.T1 ∷ more

pub gone_are : {cfg : Cfg} {w u : World} (h : SessionsJoined cfg Dte w) → awaits_ua w.near.link.phase ≡ false → awaits_ua w.far.link.phase ≡ false
    → (more : List line.LinkEvent) → (let c = c_of cfg in let d = d_of cfg in AreTimely c d more (links.run c d (fired_then []) h.links)
    → Alike u (links.run c d (fired_then more) h.links) → AreLinksOf cfg u (links.run c d (fired_then more) h.links))
gone_are {cfg} h near_off far_off more on_time alike =
    let c = c_of cfg in
    let d = d_of cfg in
    let near = off_timely c d h.links (ap (λ s. awaits_ua s.phase) h.near.link ∙ near_off) in
    let far = off_timely d c (links.swapped (links.acts c line.T1 h.links))
    (ap (λ e. awaits_ua e.station.phase) (fires_alone c h.links) ∙ ap (λ s. awaits_ua s.phase) h.far.link ∙ far_off) in
    let both : Leads c d (fired_then more) h.links (links.run c d (fired_then more) h.links) = record { timely = (near, (far, on_time)); run = refl } in
    run_of cfg (h.reach.events ++ fired_then more) (then_leads h.reach.leads both) alike

-- ---- the laws

module _ (laws : SessionLaws) (keeps : ConnectKeeps) where
  pub rest_shows : claims.Throughout EachRestShows → Throughout AllArrive → Throughout RestShows
  rest_shows law arrive cfg fine begin is events octets =
      record { at_rest = at_rest; links = h.links; are = links_are h; arrived = shown; messages = messages }
    where
      w : World
      w = run cfg events begin

      h : SessionsJoined cfg Dte w
      h = throughout_joined laws keeps cfg fine begin is events octets

      shown : EachRestShows (c_of cfg) (d_of cfg) h.links
      shown = known_sessions EachRestShows law (is_configured cfg fine) h.reach

      rests : (s t : LinkStation) → s ≡ t → (is_up t.phase ≡ true → timer_runs t.phase t ≡ false → IsAtRest t) → is_up s.phase ≡ true → timer_runs s.phase s
          ≡ false → IsAtRest s
      rests s t same there = rw same there

      at_rest : (end : Role) → StopsAtRest (station_at end w)
      at_rest Dte up stopped = rests w.near.link h.links.near.station (sym h.near.link) (λ on off. (shown.near on off).0) up stopped
      at_rest Dce up stopped = rests w.far.link h.links.far.station (sym h.far.link) (λ on off. (shown.far on off).0) up stopped

      messages : (end : Role) (channel : ℕ) (name : Name) → is_up (station_at end w).link.phase ≡ true
          → timer_runs (station_at end w).link.phase (station_at end w).link ≡ false
          → waits_up_to (station_at end w).layer.circuits cfg.channels.count ≡ 0 → stretch (settings_from end cfg) (station_at end w) channel ≡ Some name
          → stretch (settings_from (other end) cfg) (station_at (other end) w) channel ≡ Some name
          → HasAllOf channel name (handed_in end (last_session end w) w) (handed_in (other end) (last_session (other end) w) w)
      messages end channel name up stopped none here there =
          arrive cfg fine begin is events octets end channel name
          (and_from (link.is_idle (station_at end w).link) (waits_up_to (station_at end w).layer.circuits cfg.channels.count == 0)
          (at_rest end up stopped).idle (eq-eqb (waits_up_to (station_at end w).layer.circuits cfg.channels.count) 0 none)) here there

  module _ (law : SessionsHealUnlessBothBusy) (cfg : Cfg) (fine : IsConfigured cfg) (w : World) (h : SessionsJoined cfg Dte w)
      (may : MayHeal w)
      (ends : List Role) where
    abbrev c : LinkSettings
    c = c_of cfg

    abbrev d : LinkSettings
    d = d_of cfg

    -- the links behind
    abbrev gone : Sessions
    gone = links.run c d (fired_then (received ends)) h.links

    last : NonePut cfg ends (run cfg (firing Dte ∷ firing Dce ∷ []) w) → Alike (run cfg (all_received ends) (run cfg (firing Dte ∷ firing Dce ∷ []) w)) gone
    last none =
        all_alike cfg ends (both_alike cfg (joined_alike h) may.near may.far) none

    abbrev HealsOnce : LinkSettings → LinkSettings → Sessions → Type 0
    HealsOnce c d x =
        x.out ≡ [] → x.back ≡ [] → OneIsFree x.near.station x.far.station
        → (deliveries : List line.LinkEvent) → Each IsDelivery deliveries
        → (let v = links.run c d (line.Near line.T1 ∷ line.Far line.T1 ∷ deliveries) x in v.out ≡ [] → v.back ≡ [] → EachSessionHeals c d x v)

    each : {u : World} → Alike u gone → IsDrained u → EachSessionHeals c d h.links gone
    each alike after_all =
        known_sessions HealsOnce law fine h.reach (none_of h.links.out (h.out ∙ may.drained.out)) (none_of h.links.back (h.back ∙ may.drained.back))
        (rw h.near.link (subst (λ s. OneIsFree w.near.link s) (sym h.far.link) may.free))
        (received ends) (are_deliveries ends) (none_of gone.out (alike.out ∙ after_all.out)) (none_of gone.back (alike.back ∙ after_all.back))

    heals_at : {u : World} → Alike u gone → IsDrained u → Heals cfg w u
    heals_at {u} alike after_all =
        let r = each alike after_all in
        record {
          dte = subst IsAtRestOrOut alike.near r.near;
          dce = subst IsAtRestOrOut alike.far r.far;
          healed = λ near_may far_may.
              let healed = r.healed (subst (HasTries cfg.n2) (sym h.near.link) near_may) (subst (HasTries cfg.n2) (sym h.far.link) far_may) in
              record {
                dte = subst IsAtRest alike.near healed.near_rest;
                dce = subst IsAtRest alike.far healed.far_rest;
                before = h.links;
                behind = gone;
                before_are = links_are h;
                behind_are = gone_are h may.near may.far (received ends) (deliveries_timely c d ends (links.run c d (fired_then []) h.links)) alike;
                healed = healed;
              };
        }

  pub heals_where : SessionsHealUnlessBothBusy → Throughout HealsWhereNonePut
  heals_where law cfg fine begin is events octets may ends none after_all =
      let w = run cfg events begin in
      let configured = is_configured cfg fine in
      let h = throughout_joined laws keeps cfg fine begin is events octets in
      heals_at law cfg configured w h may ends (last law cfg configured w h may ends none) after_all

  -- ---- deliveries come to an end

  pub drains_where : SessionsDrainEnd → Throughout DrainsWhereNonePut
  drains_where law cfg fine begin is events octets =
      let w = run cfg events begin in
      let h = throughout_joined laws keeps cfg fine begin is events octets in
      let bound = law (c_of cfg) (d_of cfg) (joined_at Dte (is_configured cfg fine)) from_nothing (inl refl) h.reach.events in (
        bound.0,
        λ ends none accepted.
            subst (λ n. n ≤ bound.0) (received_length ends)
            (bound.1 (received ends) (are_deliveries ends) (rw h.reach.leads.run (each_finds cfg ends (joined_alike h) none accepted))),
      )
