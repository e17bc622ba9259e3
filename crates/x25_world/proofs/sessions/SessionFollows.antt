-- A step of the link that hands nothing up: nothing is noted; or LinkDown; or LinkUp, by which a session begins.
use Rattle.x25_link.specs.declared.phase.Ending.{Ending}
use Rattle.x25_station.specs.Entry.{disconnected, entries_ended}
use Rattle.x25_world.proofs.Names.{◌≡◌, ℕ, suc, List, [], ◌∷◌, ◌++◌, Bool, true, false, Option, Some, None, refl, sym, ap, ap₂, ◌∙◌, subst, arith, Role}
use Rattle.x25_world.proofs.Names.{restart, IsQuiet, Meeting, Sessions, begun_by, octets_of, OnlyBegunHaveLists, LayerSettings, Layer, rested, restart_cause}
use Rattle.x25_world.proofs.Names.{goes_up, LinkView, started, own_run, Cfg, Settings, settings_from, StationEntry, connect_asked, disconnect_asked}
use Rattle.x25_world.proofs.Names.{relink_asked, link_up, link_down, entries_noted, Step, layer_at, follows, led_by, IsKept, station_with, AreReadable, World}
use Rattle.x25_world.proofs.Names.{Act, after_step, link_of, Progress, after_entries, session_from, is_in, entry_if, SessionLaws, SessionGoes, StepGoes}
use Rattle.x25_world.proofs.Names.{step_as, spelled, puts_spelled, puts_up, puts_of, all_act, puts_go, is_up, LinkStep}
use Rattle.x25_link.specs.{Hearing.{quiet}, declared.phase.Reason.{Reason}, laws.NoteLaw.{Tells}}
use Rattle.x25_world.proofs.{Growing.{back_read, back_octets}, Known.{IsConfigured, true_false}}
use Rattle.x25_world.proofs.sessions.{SessionBeside.{spelled_bring}, SessionEntries.{AreMute}, SessionGoes.{IsSilent, not_in, rests, begins_session}}
use Rattle.x25_world.proofs.sessions.{SessionJoined.{HasMet, PairsAreInOrder, SessionsJoined, Goes, gave_none}, SessionKnown.{nothing_in_order, own_readable}}
use Rattle.x25_world.proofs.sessions.{SessionReaches.{Asked, known_sessions}, SessionTrace.{layer_of, own, TakeNothing}}
use Rattle.x25_line.specs.laws.Sessions as links

-- the command that a step is of, if it is one of the link, or what it ends that a DISC awaits, if anything
pub data Lead : Type 0 where
  no_command : Lead
  connect : Lead
  disconnect : Lead
  relink : Lead
  ended : (ending : Option Ending) → Lead

-- its entry comes first
abbrev pub lead_of : Lead → List StationEntry
lead_of no_command = []
lead_of connect = connect_asked ∷ []
lead_of disconnect = disconnect_asked ∷ []
lead_of relink = relink_asked ∷ []
lead_of (ended ending) = entries_ended ending

-- ---- entries that aren't the layer's

-- where one of them alone is of a session, which is that of r
asked_silent : (p r : Progress) (still : Bool) (e : StationEntry) {es : List StationEntry} → after_entries p es ≡ record { begun = r.begun; stands = still }
    → ((n : ℕ) → session_from n p es ≡ entry_if (is_in n r) e ++ [])
    → AreMute es → IsSilent p (record { begun = r.begun; stands = still }) es
asked_silent p r still e progress is mute = record {
  progress = progress;
  mute = mute;
  later = λ n differs. is n
      ∙ ap (λ b. entry_if b e ++ []) (not_in n r differs);
}

-- where nothing is noted
quiet_silent : (lead : Lead) (p : Progress) (still : Bool) → p.stands ≡ still → IsSilent p (record { begun = p.begun; stands = still }) (lead_of lead ++ [])
quiet_silent no_command p still same = record { progress = ap (λ b. record { begun = p.begun; stands = b }) same; mute = tt; later = λ n differs. refl }
quiet_silent connect p still same = asked_silent p p still connect_asked (ap (λ b. record { begun = p.begun; stands = b }) same) (λ n. refl) (tt, tt)
quiet_silent disconnect p still same = asked_silent p p still disconnect_asked (ap (λ b. record { begun = p.begun; stands = b }) same) (λ n. refl) (tt, tt)
quiet_silent (ended None) p still same = record { progress = ap (λ b. record { begun = p.begun; stands = b }) same; mute = tt; later = λ n differs. refl }
quiet_silent (ended (Some ending)) p still same =
    asked_silent p p still (disconnected ending) (ap (λ b. record { begun = p.begun; stands = b }) same) (λ n. refl) (tt, tt)
quiet_silent relink p still same = asked_silent p p still relink_asked (ap (λ b. record { begun = p.begun; stands = b }) same) (λ n. refl) (tt, tt)

-- LinkDown alone
down_silent : (lead : Lead) (p : Progress) (reason : Reason) → IsSilent p (record { begun = p.begun; stands = false }) (lead_of lead ++ link_down reason ∷ [])
down_silent no_command p reason = record { progress = refl; mute = (tt, tt); later = λ n differs. refl }
down_silent connect p reason = asked_silent p p false connect_asked refl (λ n. refl) (tt, (tt, tt))
down_silent disconnect p reason = asked_silent p p false disconnect_asked refl (λ n. refl) (tt, (tt, tt))
down_silent (ended None) p reason = record { progress = refl; mute = (tt, tt); later = λ n differs. refl }
down_silent (ended (Some ending)) p reason = asked_silent p p false (disconnected ending) refl (λ n. refl) (tt, (tt, tt))
down_silent relink p reason = asked_silent p p false relink_asked refl (λ n. refl) (tt, (tt, tt))

-- LinkUp, after LinkDown or alone
up_begins : (p : Progress) (down : Option Reason)
    → IsSilent p (record { begun = suc p.begun; stands = true }) (entries_noted (record { down = down; up = true }))
up_begins p None = asked_silent p (record { begun = suc p.begun; stands = true }) true link_up refl (λ n. refl) (tt, tt)
up_begins p (Some reason) = asked_silent p (record { begun = suc p.begun; stands = true }) true link_up refl (λ n. refl) (tt, (tt, tt))

-- ---- what is put

-- nothing where the link hands nothing up and notes no LinkUp
pub silent : (view : LinkView) (c : LayerSettings) (wide : Bool) (l : Layer) (packet : Option (List ℕ)) (down : Option Reason) (up : Bool) → packet ≡ None → up
    ≡ false → (layer_at view c wide l packet down up).put ≡ []
silent view c wide l packet down up none not_up =
    rw none (subst (λ b. (layer_at view c wide l None down b).put ≡ []) (sym not_up) (by down))
  where
    by : (o : Option Reason) → (layer_at view c wide l None o false).put ≡ []
    by None = refl
    by (Some reason) = refl

-- RESTART where a session begins

module _ (laws : SessionLaws) (cfg : Cfg) (fine : IsConfigured cfg) (end : Role) (w : World) (h : SessionsJoined cfg end w) where
  -- the layer's end in a session that isn't begun
  not_begun : own cfg end (suc h.links.near.begun) h.trace ≡ started (goes_up (layer_of cfg end))
  not_begun = ap (λ l. own_run (layer_of cfg end) l (started (goes_up (layer_of cfg end)))) (h.near.later (suc h.links.near.begun) (omega arith)).moves

  restart_readable : AreReadable cfg.wide cfg.long_data (restart (restart_cause end) 0 ∷ [])
  restart_readable =
      let n = suc h.links.near.begun in
      let m = suc h.links.far.begun in
      subst (λ e. AreReadable cfg.wide cfg.long_data e.given) not_begun
      (own_readable laws cfg fine end n m h.trace
      (nothing_in_order cfg end h.trace n m (subst TakeNothing (sym (h.near.later n (omega arith)).moves) tt)
      (subst TakeNothing (sym (h.far.later m (omega arith)).moves) tt)) h.octets)

-- ---- the link's step, at `v`, and the layer's

module _ (act : Act) (laws : SessionLaws) (cfg : Cfg) (fine : IsConfigured cfg) (end : Role) (w : World) (h : SessionsJoined cfg end w)
    (lead : Lead) (left : List links.Entry) (k : LinkStep) (v : Sessions) (met : List Meeting)
    (pairs : PairsAreInOrder cfg end h.trace met) (more : (n m : ℕ) → HasMet n m h.links.met → HasMet n m met)
    (tells : Tells w.near.link k) (g : StepGoes (link_of cfg end) h.links v k left met) where
  abbrev ours : Settings
  ours = settings_from end cfg

  -- by a step of the end, with nothing that its user gave
  abbrev To : World → Type 0
  To u = Goes cfg end w act h.links gave_none u

  abbrev whole_step : Step
  whole_step = led_by (lead_of lead) (follows ours w.near k)

  goes_at : (up : Bool) → k.notes.up ≡ up → k.packet ≡ None
      → SessionGoes (link_of cfg end) h.links v (begun_by up h.links.near.begun) k.side.near k.side.out [] [] left met
  goes_at up is none = step_as k up None is none g

  abbrev standing : Progress
  standing = record { begun = h.links.near.begun; stands = is_up w.near.link.phase }

  abbrev AskedFor : Sessions → Type 0
  AskedFor u = Asked cfg end w act h.links u

  quiet_step : AskedFor v → k.packet ≡ None → IsKept whole_step.near → IsQuiet k → To (after_step ours w (octets_of left) whole_step)
  quiet_step asked none kept quiet =
      let is = laws.stations.quiet ours w.near k none quiet in
      let step : Step = record { near = station_with k.side.near w.near.layer w.near.turn; out = k.side.out; entries = lead_of lead ++ [] } in
      let same : step ≡ whole_step = ap (λ s. led_by (lead_of lead) s) (sym is) in
      subst (λ s. To (after_step ours w (octets_of left) s)) same
      (rests cfg end w h step left v met (goes_at false (ap (λ n. n.up) quiet) none)
      (quiet_silent lead standing (is_up k.side.near.phase) (sym (tells.stays quiet))) (λ still. (sym (tells.stays quiet) ∙ still, refl))
      (subst (λ s. IsKept s.near) (sym same) kept) asked pairs more)

  down_step : AskedFor v → k.packet ≡ None → IsKept whole_step.near → (reason : Reason) → k.notes ≡ record { down = Some reason; up = false }
      → To (after_step ours w (octets_of left) whole_step)
  down_step asked none kept reason noted =
      let is = laws.stations.down ours w.near k reason noted in
      let step : Step = record { near = station_with k.side.near (rested w.near.layer) w.near.turn; out = k.side.out; entries = lead_of lead ++ link_down reason ∷ [] } in
      let same : step ≡ whole_step = ap (λ s. led_by (lead_of lead) s) (sym is) in
      let off = tells.left reason (ap (λ n. n.down) noted) (ap (λ n. n.up) noted) in
      subst (λ s. To (after_step ours w (octets_of left) s)) same
      (rests cfg end w h step left v met (goes_at false (ap (λ n. n.up) noted) none) (rw off (down_silent lead standing reason))
      (λ still. true_false (sym still ∙ off))
      (subst (λ s. IsKept s.near) (sym same) kept) asked pairs more)

  -- a step of the link that notes no LinkUp and hands up no packet
  pub follows_silent : AskedFor v → k.notes.up ≡ false → k.packet ≡ None → IsKept whole_step.near → To (after_step ours w (octets_of left) whole_step)
  follows_silent asked not_up none kept = by k.notes.down refl
    where
      by : (o : Option Reason) → k.notes.down ≡ o → To (after_step ours w (octets_of left) whole_step)
      by None is = quiet_step asked none kept (ap₂ (λ d u. record { down = d; up = u }) is not_up)
      by (Some reason) is = down_step asked none kept reason (ap₂ (λ d u. record { down = d; up = u }) is not_up)

  pub follows_up : ((handed : List (List ℕ)) → AskedFor (all_act (link_of cfg end) (puts_of handed) v)) → k.notes.up ≡ true → k.packet ≡ None
      → IsKept (follows ours w.near k).near
      → To (after_step ours w (octets_of left) (follows ours w.near k))
  follows_up asks up none kept =
      let c = settings_from end cfg in
      let step = follows c w.near k in
      let u = laws.stations.up c w.near k up (tells.fresh_up up) in
      let packets = restart (restart_cause end) 0 ∷ [] in
      let handed = spelled packets in
      let p = puts_spelled u.link (restart_readable laws cfg fine end w h) in
      let r = puts_go c h.links v (suc h.links.near.begun) packets handed k.side step [] left met (goes_at true up none) p in
      let still = puts_up laws.stations.put_tells p (ap (λ s. is_up s.phase) (tells.fresh_up up)) in
      let begins : IsSilent standing (record { begun = suc h.links.near.begun; stands = true }) step.entries =
      subst (λ es. IsSilent standing (record { begun = suc h.links.near.begun; stands = true }) es)
      (sym (u.entries ∙ ap (λ b. entries_noted (record { down = k.notes.down; up = b })) up)) (up_begins standing k.notes.down) in
      let known = known_sessions OnlyBegunHaveLists laws.begun fine h.reach in
      begins_session cfg end w h step left (all_act (link_of cfg end) (puts_of handed) v) met handed (back_read cfg handed packets p.readable)
      (back_octets cfg handed packets p.readable)
      (spelled_bring laws.stations cfg packets (restart_readable laws cfg fine end w h)) r begins known.near still u.layer kept
      (asks handed) pairs more
