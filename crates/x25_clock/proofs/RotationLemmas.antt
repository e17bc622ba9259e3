-- One who asks at once what is due has the first data packet that isn't acknowledged become another within T25.
use Rattle.x25_clock.proofs.Names.{◌≡◌, ℕ, ◌+◌, ◌^◌, ◌<◌, ◌≤◌, ◌==◌, ◌⊎◌, inl, inr, List, [], ◌∷◌, map, Bool, true, false, not, if◌then◌else◌, Option}
use Rattle.x25_clock.proofs.Names.{Some, None, refl, sym, ap, subst, ◌∙◌, arith, true≢false, eqb-true, eq-eqb, none-some, is_some, is_same, is_up, Awaits}
use Rattle.x25_clock.proofs.Names.{awaited_at, unacknowledged_at, is_channel, Settings, layer_settings, Station, Outcome, Did, Refused, tells_link, Due, Times}
use Rattle.x25_clock.proofs.Names.{Wait, Deadlines, deadline, time_of, sooner, running, wait_after, heeded, due_of, renewed, rotated, after_due, Watched, seen_of, watched}
use Rattle.x25_clock.proofs.Names.{AreAwaited, AreTrue, Deed, Happens, IsAsked, later_by, event_of, outcome_of, done, all_done, IsFounded, AreObeyed, tells}
use Rattle.x25_clock.proofs.ClockLemmas.{due_true, deadlines_are_true}
use Rattle.x25_clock.proofs.DeadlineLemmas.{AreNotPast, waits_past, Ends, end_in_time, ends_by, runs_still}
use Rattle.x25_clock.proofs.FullLemmas.{Keeps, rotation_asked, rotation_relinks, deed_kept, moments_kept, new_kept}
use Rattle.x25_clock.proofs.WaitLemmas.{Has, channel_in, has_it, deed_true, room_or_full, WhatIsAsked, what_is_asked}
use Rattle.x25_clock.specs.{Clock.{since}, Due.{asked_of, event_for}, laws.WaitLaw.{StaysFirst, WindowRotates}}
use Rattle.x25_circuit.specs.Circuit.{unacknowledged}
use Rattle.x25_layer.specs.Layer.{Layer, rested}
use Rattle.x25_link.specs.Outgoing.{waits}
use Rattle.x25_station.specs.laws.{KeepLaw.{IsKept}, WayOutLaw.{RelinkLeadsOn, RotationLeadsOn}}
use Rattle.x25_station.specs.laws.TimerLaw as timer
use Rattle.x25_clock.specs.declared.due.Due.TheVariants as due

-- where there is a packet that isn't acknowledged the layer is ready and has the channel
record IsThere (r b : Bool) : Type 0 where
  ready : r ≡ false
  configured : b ≡ true

is_there : (r b : Bool) (o : Option ℕ) (n : ℕ) → (if r then None else if b then o else None) ≡ Some n → IsThere r b
is_there true b o n is = absurd (none-some n is)
is_there false false o n is = absurd (none-some n is)
is_there false true o n is = record { ready = refl; configured = refl }

none_if : (b : Bool) → (let o : Option ℕ = if b then None else None in o) ≡ None
none_if true = refl
none_if false = refl

module _ (c : Settings) (times : Times) (h n bound : ℕ) (set : 0 < times.t25) (small : bound < 2 ^ 64) where
  abbrev first : Station → ℕ → Option ℕ
  first s k = unacknowledged_at (layer_settings c) s.layer k

  abbrev awaited : Station → ℕ → Awaits
  awaited s k = awaited_at (layer_settings c) s.layer k

  abbrev OnChannel : List Wait → Type 0
  OnChannel [] = Unit {0}
  OnChannel (w ∷ ws) = (w.channel ≡ h → Ends bound w.rotates 0) × OnChannel ws

  in_time : (now : ℕ) (ws : List Wait) → Has h (map channel_in ws) → OnChannel ws → AreNotPast now ws → now ≤ bound
  in_time now [] has on past = absurd has
  in_time now (w ∷ ws) (inl is) on past = let low : now + 0 ≤ bound = end_in_time bound now w.rotates 0 (on.0 is) past.1 in omega (arith, low)
  in_time now (w ∷ ws) (inr has) on past = in_time now ws has on.1 past.2

  -- ---- a step, before which the first is the same as behind it

  all_stay : (at now : ℕ) (f f₂ : ℕ → Awaits) (g k : ℕ → Option ℕ) (ws : List Wait) → g h ≡ Some n → k h ≡ Some n → AreAwaited times at f g ws
      → OnChannel ws → OnChannel (map (λ w. wait_after times now (f₂ w.channel) (k w.channel) w) ws)
  all_stay at now f f₂ g k [] was is are on = tt
  all_stay at now f f₂ g k (w ∷ ws) was is are on = (first_wait, all_stay at now f f₂ g k ws was is are.1 on.1)
    where
      first_wait : w.channel ≡ h → Ends bound (running (is_some (k w.channel)) (not (is_same w.unacknowledged (k w.channel))) w.rotates (deadline now times.t25)) 0
      first_wait at_h =
          let new : Option ℕ = deadline now times.t25 in
          let before : w.unacknowledged ≡ Some n = are.0.unacknowledged ∙ ap g at_h ∙ was in
          let behind : k w.channel ≡ Some n = ap k at_h ∙ is in
          subst (λ (o : Option ℕ). Ends bound (running (is_some o) (not (is_same w.unacknowledged o)) w.rotates new) 0) (sym behind)
          (subst (λ (o : Option ℕ). Ends bound (running true (not (is_same o (Some n))) w.rotates new) 0) (sym before)
          (subst (λ (b : Bool). Ends bound (running true (not b) w.rotates new) 0) (sym (eq-eqb n n refl)) (runs_still bound 0 w.rotates new (on.0 at_h))))

  event_stays : (at now : ℕ) (s : Station) (event : timer.StationEvent) (o : Outcome) (d : Deadlines) → first s h ≡ Some n
      → first (timer.after s o) h ≡ Some n → AreAwaited times at (awaited s) (first s) d.waits → OnChannel d.waits
      → OnChannel (heeded times now (seen_of c s event o) d).waits
  event_stays at now s event (Did step) d was is are on = all_stay at now (awaited s) (awaited step.near) (first s) (first step.near) d.waits was is are on
  event_stays at now s event (Refused e) d was is are on = all_stay at now (awaited s) (awaited s) (first s) (first s) d.waits was is are on

  -- ---- what is due is asked

  others_renewed : (now k : ℕ) (ws : List Wait) → OnChannel ws → OnChannel (map (renewed times now k) ws)
  others_renewed now k [] on = tt
  others_renewed now k (w ∷ ws) on = (by (not (w.channel == k)), others_renewed now k ws on.1)
    where
      by : (b : Bool)
          → (let x : Wait = if b then w else record {
            channel = w.channel;
            awaits = w.awaits;
            until = deadline now (time_of times w.awaits);
            unacknowledged = w.unacknowledged;
            rotates = w.rotates;
          } in x.channel ≡ h → Ends bound x.rotates 0)
      by true = on.0
      by false = on.0

  others_rotated : (now k : ℕ) (ws : List Wait) → (k == h) ≡ false → OnChannel ws → OnChannel (map (rotated times now k) ws)
  others_rotated now k [] other on = tt
  others_rotated now k (w ∷ ws) other on = (by (w.channel == k) refl, others_rotated now k ws other on.1)
    where
      by : (b : Bool) → (w.channel == k) ≡ b
          → (let x : Wait = if not b then w else record {
            channel = w.channel;
            awaits = w.awaits;
            until = w.until;
            unacknowledged = w.unacknowledged;
            rotates = since (is_some w.unacknowledged) now times.t25;
          } in x.channel ≡ h → Ends bound x.rotates 0)
      by false same = on.0
      by true same = λ at_h. absurd (true≢false (sym (eq-eqb k h (sym (eqb-true w.channel k same) ∙ at_h)) ∙ other))

  -- the channel is reset, or the link is set up anew
  is_up_now : (s : Station) → IsKept s → first s h ≡ Some n → is_up s.link.phase ≡ true
  is_up_now s kept is = by (is_up s.link.phase) refl
    where
      by : (b : Bool) → is_up s.link.phase ≡ b → is_up s.link.phase ≡ true
      by true up = up
      by false down =
          let rests : s.layer ≡ rested s.layer = kept.rests down in
          absurd (none-some n (sym (none_if (is_channel c.channels h)) ∙ sym (ap (λ (l : Layer). unacknowledged_at (layer_settings c) l h) rests) ∙ is))

  leaves : RotationLeadsOn → RelinkLeadsOn → (s : Station) → IsKept s → first s h ≡ Some n
      → (let o : Outcome = timer.outcome c s (event_for (asked_of c s (due.ResetUnacknowledged h))) in
      tells o ≡ false → first (timer.after s o) h ≡ Some n → ⊥)
  leaves rotation relink s kept is quiet stays = by (room_or_full (waits s.link.outgoing) kept.few)
    where
      up : is_up s.link.phase ≡ true
      up = is_up_now s kept is

      out : IsThere s.layer.restarting (is_channel c.channels h)
      out = is_there s.layer.restarting (is_channel c.channels h) (unacknowledged (s.layer.circuits h)) n is

      by : ((waits s.link.outgoing == 256) ≡ true) ⊎ (waits s.link.outgoing < 256) → ⊥
      by (inl full) =
          let found = relink c s up in
          let told : tells (timer.outcome c s (event_for (asked_of c s (due.ResetUnacknowledged h)))) ≡ true =
          ap (λ (x : Due). tells (timer.outcome c s (event_for x))) (rotation_relinks c s up out.ready full h out.configured)
          ∙ ap tells found.1 ∙ ap tells_link found.2.entries in
          true≢false (sym told ∙ quiet)
      by (inr low) =
          let found = rotation c s h n up is low in
          let did : timer.outcome c s (event_for (asked_of c s (due.ResetUnacknowledged h))) ≡ Did found.0 =
          ap (λ (x : Due). timer.outcome c s (event_for x)) (rotation_asked c s h (Did found.0) found.1 refl) ∙ found.1 in
          none-some n (sym found.2 ∙ subst (λ (o : Outcome). first (timer.after s o) h ≡ Some n) did stays)

  deed_stays : RotationLeadsOn → RelinkLeadsOn → (w : Watched) (deed : Deed) → AreTrue c times w → IsKept w.station → IsFounded deed w
      → tells (outcome_of c deed w) ≡ false → first w.station h ≡ Some n → first (done c times deed w).station h ≡ Some n
      → OnChannel w.deadlines.waits → OnChannel (done c times deed w).deadlines.waits
  deed_stays rotation relink w (Happens later event) true_now kept founded quiet was is on =
      event_stays w.now (w.now + later) w.station event (timer.outcome c w.station event) w.deadlines was is true_now.waits on
  deed_stays rotation relink w (IsAsked later what) true_now kept founded quiet was is on =
      event_stays now now s (event_of c (IsAsked later what) s) (outcome_of c (IsAsked later what) w) e was is (due_true c times w later true_now).waits
      (asked (what_is_asked times now w.deadlines what founded))
    where
      s : Station
      s = w.station

      now : ℕ
      now = w.now + later

      e : Deadlines
      e = after_due times now w.deadlines

      itself : (k : ℕ) → what ≡ due.ResetUnacknowledged k → k ≡ h → ⊥
      itself k asked at_h =
          let same : what ≡ due.ResetUnacknowledged h = asked ∙ ap (λ (i : ℕ). due.ResetUnacknowledged i) at_h in
          let both : Due → Type 0 = λ x. (tells (timer.outcome c s (event_for (asked_of c s x))) ≡ false)
          × (first (timer.after s (timer.outcome c s (event_for (asked_of c s x)))) h ≡ Some n) in
          let found = subst both same (quiet, is) in
          leaves rotation relink s kept was found.0 found.1

      asked : WhatIsAsked times now w.deadlines what e → OnChannel e.waits
      asked (inl a) = subst (λ (ws : List Wait). OnChannel ws) (sym a.waits) on
      asked (inr (inl a)) = subst (λ (ws : List Wait). OnChannel ws) (sym a.waits) on
      asked (inr (inr (inl a))) = subst (λ (ws : List Wait). OnChannel ws) (sym a.waits) (others_renewed now a.wait.channel w.deadlines.waits on)
      asked (inr (inr (inr a))) = by (a.channel == h) refl
        where
          by : (b : Bool) → (a.channel == h) ≡ b → OnChannel e.waits
          by true is_h = absurd (itself a.channel a.is (eqb-true a.channel h is_h))
          by false other = subst (λ (ws : List Wait). OnChannel ws) (sym a.waits) (others_rotated now a.channel w.deadlines.waits other on)

  -- ---- deed after deed

  first_now : (deeds : List Deed) (w : Watched) → StaysFirst c times h n deeds w → first w.station h ≡ Some n
  first_now [] w all = all
  first_now (deed ∷ deeds) w all = all.0

  all_by : RotationLeadsOn → RelinkLeadsOn → Keeps → (deeds : List Deed) (w : Watched) → AreTrue c times w → IsKept w.station → AreObeyed c times deeds w
      → StaysFirst c times h n deeds w → w.now ≤ bound → OnChannel w.deadlines.waits → (all_done c times deeds w).now ≤ bound
  all_by rotation relink keeps [] w true_now kept obeyed all low on = low
  all_by rotation relink keeps (deed ∷ deeds) w true_now kept obeyed all low on =
      let d : Deadlines = w.deadlines in
      let s : Station = w.station in
      let out : IsThere s.layer.restarting (is_channel c.channels h) =
      is_there s.layer.restarting (is_channel c.channels h) (unacknowledged (s.layer.circuits h)) n all.0 in
      let late : w.now + later_by deed ≤ bound = in_time (w.now + later_by deed) d.waits (has_it c times h w true_now out.configured) on
      (waits_past (w.now + later_by deed) d.waits (sooner (sooner d.t1 d.idle) d.restart) obeyed.1) in
      let v : Watched = done c times deed w in
      all_by rotation relink keeps deeds v (deed_true c times w deed true_now) (deed_kept keeps c times w deed kept) obeyed.2 all.2 late
      (deed_stays rotation relink w deed true_now kept obeyed.0 all.1 all.0 (first_now deeds v all.2) on)

  first_on : (now : ℕ) (f : ℕ → Awaits) (g : ℕ → Option ℕ) (ws : List Wait) → now + times.t25 ≤ bound → g h ≡ Some n → AreAwaited times now f g ws
      → OnChannel ws
  first_on now f g [] high is are = tt
  first_on now f g (w ∷ ws) high is are = (first_wait, first_on now f g ws high is are.1)
    where
      first_wait : w.channel ≡ h → Ends bound w.rotates 0
      first_wait at_h = ends_by bound now times.t25 0 w.rotates small set (omega (arith, high))
          (are.0.rotates.on (ap is_some (are.0.unacknowledged ∙ ap g at_h ∙ is)))

pub windows_rotate : RotationLeadsOn → RelinkLeadsOn → Keeps → WindowRotates
windows_rotate rotation relink keeps c times h n moments deeds set small obeyed all =
    let w : Watched = watched c times moments in
    let bound : ℕ = w.now + times.t25 in
    let true_now : AreTrue c times w = deadlines_are_true c times moments in
    all_by c times h n bound set small rotation relink keeps deeds w true_now (moments_kept keeps c times moments _ new_kept) obeyed all (omega arith)
    (first_on c times h n bound set small w.now (awaited c times h n bound set small w.station) (first c times h n bound set small w.station) w.deadlines.waits
    (omega arith) (first_now c times h n bound set small deeds w all) true_now.waits)
