-- Timer T1 runs out, the link is polled, connected, disconnected and set up anew, and octets on the line to an end are lost or damaged, over set-up
-- and re-set-up.
use Rattle.x25_world.proofs.Names.{◌≡◌, ℕ, ◌+◌, List, [], ◌∷◌, Bool, true, false, ◌&&◌, if◌then◌else◌, Option, Some, None, Result, Ok, refl, sym, ap, ◌∙◌}
use Rattle.x25_world.proofs.Names.{subst, arith, length, nat_lt, Err, cond_both, list_any, Role, Dte, Dce, PlainFrame, sabm, ua, frame_of, timer_refusal}
use Rattle.x25_world.proofs.Names.{timer_step, replaced, Sessions, begun_by, letters, IsTimely, Each, octets_of, is_visible, Said, said, sabm_of, ua_of}
use Rattle.x25_world.proofs.Names.{how_many, Cfg, Settings, settings_from, longest_packet, Connects, Disconnects, Probes, Relinks, relink_asked, Step, follows}
use Rattle.x25_world.proofs.Names.{led_by, fires, unless, KeptBy, ConnectKeeps, World, Declined, Act, Commands, Fires, of_station, is_on_line, fired, after}
use Rattle.x25_world.proofs.Names.{after_step, Happened, Loses, Damages, on_line, damaged, link_of, Asks, all_at, SessionLaws, IsReceiptOrRequest, timer_silent}
use Rattle.x25_world.proofs.Names.{remove, connects_asked, LinkError, LinkStation, awaits_ua, LinkSettings, other, LinkStep, reads_as, carries, Sabm, Ua}
use Rattle.std.proofs.lemmas.Bool.{or_parts}
use Rattle.x25_frame.specs.declared.error.{FrameError.{FrameError}, FrameError.TheVariants.{Short}}
use Rattle.x25_line.proofs.sessions.SessionsForgotten.{octets_removed, octets_replaced}
use Rattle.x25_line.specs.laws.Sessions.{with_octets}
use Rattle.x25_link.specs.Link.{connect_refusal, connect_step, disconnect_refusal, disconnect_step, probe_refusal, relink_refusal, relink_step}
use Rattle.x25_link.specs.laws.NoteLaw.{Tells}
use Rattle.x25_peer.proofs.{Granted.{connects_in_down, relinks_in_up}, sessions.LinkSteps.{act_goes, probe_acts, relink_goes}}
use Rattle.x25_station.specs.Step.{connects, disconnects, probes, relinks}
use Rattle.x25_world.proofs.Known.{IsConfigured, true_false}
use Rattle.x25_world.proofs.sessions.{SessionBeside.{none_more}, SessionFollows.{Lead, no_command, connect, disconnect, relink, ended, lead_of, follows_silent}}
use Rattle.x25_station.specs.Entry.{end_between}
use Rattle.x25_world.proofs.sessions.{SessionJoined.{SessionsJoined, Goes, gave_none, stays}, SessionReaches.{Leads, Asked, reach_on}}
use Rattle.x25_world.specs.{SetUp.{is_a}, World.{lost}, declared.set_up.SetUpFrame.{SetUpFrame}}
use Rattle.x25_bits.specs.Role as bits
use Rattle.x25_line.specs.laws.Stations as line
use Rattle.x25_line.specs.laws.Sessions as links
use Rattle.x25_world.specs.declared.error.WorldError.TheVariants as error

-- an act by which nothing comes and the layer is asked nothing asks these, one after another
asks_these : {cfg : Cfg} {end : Role} {w : World} {act : Act} (asked : List line.Act) {v u : Sessions} → (IsReceiptOrRequest act → ⊥) → Each (Asks act) asked
    → Leads (link_of cfg end) (link_of cfg (other end)) (all_at Dte asked) v u → Asked cfg end w act v u
asks_these asked never may leads = record { asked = asked; is = record { may = may; freely = λ are. absurd (never are) }; leads = leads }

-- other octets are left on the line
left_joined : {cfg : Cfg} {end : Role} {w : World} {act : Act} (h : SessionsJoined cfg end w) (es : List links.Entry) (left : List (List ℕ))
    → octets_of es ≡ left → Asked cfg end w act h.links (record h.links { back = es }) → Goes cfg end w act h.links gave_none (on_line w left)
left_joined {cfg} h es left same asked = record {
  joined = record {
    links = record h.links { back = es };
    trace = h.trace;
    reach = reach_on h.reach asked.leads;
    near = h.near;
    far = h.far;
    out = h.out;
    back = same;
    tap = h.tap;
    octets = h.octets;
    pairs = h.pairs;
    near_hears = h.near_hears;
    far_hears = h.far_hears;
  };
  asked = asked;
  down = λ n. none_more cfg (h.links.near.down n) (h.links.near.down n) [] refl;
  far = refl;
}

pub lost_joined : {cfg : Cfg} {end : Role} {w : World} (h : SessionsJoined cfg end w) (place : ℕ)
    → Goes cfg end w (Loses place) h.links gave_none (after w (lost w place))
lost_joined {cfg} {end} {w} h place = cond_both (nat_lt place (length w.back)) (Happened (on_line w (remove w.back place)))
    (Declined error.NoSuchFrame) (λ o. Goes cfg end w (Loses place) h.links gave_none (after w o))
    (λ _. left_joined h (remove h.links.back place) (remove w.back place) (sym (octets_removed h.links.back place) ∙ ap (λ l. remove l place) h.back)
    (asks_these (line.Lose place ∷ []) (λ are. are) (refl, tt) (record { timely = (tt, tt); run = refl })))
    (λ _. stays h gave_none)

pub damaged_joined : {cfg : Cfg} {end : Role} {w : World} (h : SessionsJoined cfg end w) (place : ℕ) (octets : List ℕ)
    → Goes cfg end w (Damages place octets) h.links gave_none (after w (damaged w place octets))
damaged_joined {cfg} {end} {w} h place octets =
    by (nat_lt place (length w.back)) (is_visible octets)
    (asks_these (line.Damage place octets ∷ []) (λ are. are) ((refl, refl), tt) (record { timely = (tt, tt); run = refl }))
  where
    by : (b seen : Bool)
        → Asked cfg end w (Damages place octets) h.links (if seen then record h.links { back = replaced h.links.back place (with_octets octets) } else h.links)
        → Goes cfg end w (Damages place octets) h.links gave_none
        (after w (if b then (if seen then Happened (on_line w (replaced w.back place (λ _. octets))) else Declined error.Unseen)
        else Declined error.NoSuchFrame))
    by true true asked = left_joined h (replaced h.links.back place (with_octets octets)) (replaced w.back place (λ _. octets))
        (sym (octets_replaced h.links.back place octets) ∙ ap (λ l. replaced l place (λ _. octets)) h.back) asked
    by true false asked = stays h gave_none
    by false seen asked = stays h gave_none

-- ---- frames of a set-up on the line

not_sabm : (read : Result PlainFrame FrameError) → is_a Sabm read ≡ false → sabm_of (said read) ≡ 0
not_sabm (Ok (sabm p)) e = true_false e
not_sabm (Err Short) e = refl
not_sabm read e = refl

not_ua : (read : Result PlainFrame FrameError) → is_a Ua read ≡ false → ua_of (said read) ≡ 0
not_ua (Ok (ua f)) e = true_false e
not_ua (Err Short) e = refl
not_ua read e = refl

none_of : (frame : SetUpFrame) (count : Said → ℕ) → ((read : Result PlainFrame FrameError) → is_a frame read ≡ false → count (said read) ≡ 0)
    → (from : Role) (es : List links.Entry)
    → carries frame from (octets_of es) ≡ false → how_many count (letters from longest_packet es) ≡ 0
none_of frame count none from [] e = refl
none_of frame count none from (x ∷ es) e =
    let here = none (frame_of from longest_packet x.octets) (or_parts (reads_as frame from x.octets) (list_any (reads_as frame from) (octets_of es)) e).0 in
    let rest = none_of frame count none from es (or_parts (reads_as frame from x.octets) (list_any (reads_as frame from) (octets_of es)) e).1 in
    omega (arith, here, rest)

only_second : (a b : Bool) → (a && b) ≡ false → a ≡ true → b ≡ false
only_second true b e is = e
only_second false b e is = true_false (sym is)

-- one session more or not
pub not_begun_by : (b : Bool) (n : ℕ) → begun_by b n ≡ n → b ≡ false
not_begun_by true n e = absurd (omega (arith, e))
not_begun_by false n e = refl

module _ (laws : SessionLaws) {cfg : Cfg} (fine : IsConfigured cfg) {end : Role} {w : World} (h : SessionsJoined cfg end w) where
  abbrev ours : Settings
  ours = settings_from end cfg

  abbrev lc : LinkSettings
  lc = link_of cfg end

  -- by a step of the end, with nothing that its user gave
  abbrev To : Act → World → Type 0
  To act u = Goes cfg end w act h.links gave_none u

  -- an act of the link that hands nothing up, or is refused
  act_joined : (lead : Lead) {asking : Act} (act : line.Act) (refusal : LinkStation → Option LinkError) (step : LinkStation → LinkStep)
      → links.acts lc act h.links
      ≡ links.unless (refusal h.links.near.station) h.links (links.after_step lc h.links h.links.back h.links.met [] (step h.links.near.station))
      → (links.acts lc act h.links).near.begun ≡ h.links.near.begun → IsTimely lc (link_of cfg (other end)) act h.links
      → (IsReceiptOrRequest asking → ⊥) → Asks asking act → (step w.near.link).packet ≡ None
      → (refusal w.near.link ≡ None → Tells w.near.link (step w.near.link))
      → KeptBy (unless (refusal w.near.link) (led_by (lead_of lead) (follows ours w.near (step w.near.link))))
      → To asking (after w (of_station ours w (unless (refusal w.near.link) (led_by (lead_of lead) (follows ours w.near (step w.near.link))))))
  act_joined lead {asking} act refusal step is same timely never asks none tells = by (refusal w.near.link) refl
    where
      done : Step
      done = led_by (lead_of lead) (follows ours w.near (step w.near.link))

      by : (o : Option LinkError) → refusal w.near.link ≡ o → KeptBy (unless o done) → To asking (after w (of_station ours w (unless o done)))
      by (Some e) refused kept = stays h gave_none
      by None accepted kept =
          let k = step w.near.link in
          let g = act_goes lc h.links w.near.link act refusal step is h.near.link accepted in
          subst (λ os. To asking (after_step ours w os done)) h.back
          (follows_silent asking laws cfg fine end w h lead h.links.back k (links.acts lc act h.links) h.links.met h.pairs (λ n m has. has) (tells accepted) g
          (asks_these (act ∷ []) never (asks, tt) (record { timely = (timely, tt); run = refl }))
          (not_begun_by k.notes.up h.links.near.begun (sym g.begun ∙ same)) none kept)

  -- while UA is awaited T1 doesn't run out
  is_timely : (awaits_ua w.near.link.phase && is_on_line ours w) ≡ false → IsTimely lc (link_of cfg (other end)) line.T1 h.links
  is_timely off waiting =
      let clear = only_second (awaits_ua w.near.link.phase) _ off (ap (λ s. awaits_ua s.phase) (sym h.near.link) ∙ ap awaits_ua waiting) in
      let sabms : carries Sabm end (octets_of h.links.out) ≡ false = ap (λ os. carries Sabm end os) h.out ∙ (or_parts (carries Sabm end w.out) _ clear).0 in
      let uas : carries Ua (bits.other end) (octets_of h.links.back) ≡ false =
      ap (λ os. carries Ua (bits.other end) os) h.back ∙ (or_parts (carries Sabm end w.out) _ clear).1 in
      by end (omega (arith, none_of Sabm sabm_of not_sabm end h.links.out sabms, none_of Ua ua_of not_ua (bits.other end) h.links.back uas))
    where
      by : (e : Role) → how_many sabm_of (letters e longest_packet h.links.out) + how_many ua_of (letters (bits.other e) longest_packet h.links.back) ≡ 0
          → how_many sabm_of (letters (other (other e)) longest_packet h.links.out) + how_many ua_of (letters (other e) longest_packet h.links.back) ≡ 0
      by Dte none = none
      by Dce none = none

  pub fired_joined : To Fires (after w (fired ours w))
  fired_joined = by (awaits_ua w.near.link.phase && is_on_line ours w) refl
    where
      by : (b : Bool) → (awaits_ua w.near.link.phase && is_on_line ours w) ≡ b
          → To Fires (after w (if b then Declined error.OnLine else of_station ours w (fires ours w.near)))
      by true is = stays h gave_none
      by false is =
          act_joined (ended (end_between w.near.link (timer_step lc w.near.link).side.near)) line.T1 timer_refusal (timer_step lc) refl (laws.hands lc lc (line.Near line.T1) h.links).0.begun (is_timely is)
          (λ are. are) tt (timer_silent lc w.near.link).0 (λ accepted. laws.stations.timer_tells lc w.near.link)
          (laws.stations.timer_keeps ours w.near h.near.kept)

  -- set-up is asked for, by a command or not
  connecting : (lead : Lead)
      → KeptBy (unless (connect_refusal w.near.link.phase) (led_by (lead_of lead) (follows ours w.near (connect_step lc w.near.link))))
      → To (Commands Connects)
      (after w (of_station ours w (unless (connect_refusal w.near.link.phase)
      (led_by (lead_of lead) (follows ours w.near (connect_step lc w.near.link))))))
  connecting lead =
      act_joined lead line.Connect (λ s. connect_refusal s.phase) (connect_step lc) refl (laws.hands lc lc (line.Near line.Connect) h.links).0.begun tt
      (λ are. are) tt refl (λ accepted. laws.stations.connect_tells lc w.near.link (connects_in_down w.near.link.phase accepted))

  pub connects_joined : To (Commands Connects) (after w (of_station ours w (connects_asked ours w.near)))
  connects_joined = connecting connect (laws.stations.command_keeps ours w.near Connects h.near.kept)

  pub connects_alone_joined : ConnectKeeps → To (Commands Connects) (after w (of_station ours w (connects ours w.near)))
  connects_alone_joined keeps = connecting no_command (keeps ours w.near h.near.kept)

  pub disconnects_joined : To (Commands Disconnects) (after w (of_station ours w (disconnects ours w.near)))
  disconnects_joined =
      act_joined disconnect line.Disconnect (λ s. disconnect_refusal s.phase) (disconnect_step lc) refl
      (laws.hands lc lc (line.Near line.Disconnect) h.links).0.begun tt (λ are. are) tt refl
      (λ accepted. laws.stations.disconnect_tells lc w.near.link) (laws.stations.command_keeps ours w.near Disconnects h.near.kept)

  pub probes_joined : To (Commands Probes) (after w (of_station ours w (probes ours w.near)))
  probes_joined =
      act_joined no_command line.Probe (λ s. probe_refusal s.phase) (timer_step lc) (probe_acts lc h.links)
      (laws.hands lc lc (line.Near line.Probe) h.links).0.begun tt (λ are. are) tt (timer_silent lc w.near.link).0
      (λ accepted. laws.stations.timer_tells lc w.near.link) (laws.stations.command_keeps ours w.near Probes h.near.kept)

  -- the link is abandoned, and then connected
  pub relinks_joined : To (Commands Relinks) (after w (of_station ours w (relinks ours w.near)))
  relinks_joined = by (relink_refusal w.near.link.phase) refl
    where
      c : LinkSettings
      c = link_of cfg end

      k : LinkStep
      k = relink_step c w.near.link

      step : Step
      step = led_by (relink_asked ∷ []) (follows ours w.near k)

      by : (o : Option LinkError) → relink_refusal w.near.link.phase ≡ o → To (Commands Relinks) (after w (of_station ours w (unless o step)))
      by (Some e) is = stays h gave_none
      by None is =
          subst (λ os. To (Commands Relinks) (after_step ours w os step)) h.back
          (follows_silent (Commands Relinks) laws cfg fine end w h relink h.links.back k (links.acts c line.Connect (links.acts c line.Abandon h.links))
          h.links.met h.pairs (λ n m has. has) (laws.stations.relink_tells c w.near.link)
          (relink_goes laws.stations.relinks c h.links w.near.link h.near.link (relinks_in_up w.near.link.phase is))
          (asks_these (line.Abandon ∷ line.Connect ∷ []) (λ are. are) (tt, (tt, tt)) (record { timely = (tt, (tt, tt)); run = refl })) refl refl
          (subst (λ o. KeptBy (unless o step)) is (laws.stations.command_keeps ours w.near Relinks h.near.kept)))
