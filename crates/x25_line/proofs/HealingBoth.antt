-- Both ends fire, one of which may be busy, and everything arrives.
use Rattle.x25_line.proofs.Names.{◌≡◌, ℕ, List, [], ◌∷◌, ◌++◌, ◌⊎◌, inl, inr, length, Bool, Option, Some, None, true, false, refl, sym, ap, ◌∙◌, subst, arith}
use Rattle.x25_line.proofs.Names.{le-ltb, eqb-true, and_parts, ◌&&◌, PlainFrame, ReadsSpelled, waits, LinkSettings, LinkStation, is_up, is_busy, wanted}
use Rattle.x25_line.proofs.Names.{LinkStep, other, LinkError, take_step, timer_refusal, timer_step, IsAtRest, says, BusyLaws, Deliver, T1, LinkEvent, Near, Far}
use Rattle.x25_line.proofs.Names.{Entry, Sessions, begun_by, delivered, acts, swapped, after_step, unless, run, AreJoined, IsDelivery, HasTries, HealingLaws}
use Rattle.std.specs.Prelude.{◌==◌}
use Rattle.x25_line.proofs.{HealingEnds.{after_firings, GoesOn, polls, stays, Fired, BothFired, both_fire}, HealingLines.{Reads, reads_none, Reports, NoFinal}}
use Rattle.x25_line.proofs.HealingPhases.{AsksFirst, Phases, Beside, near_hears, far_hears, stays_free}
use Rattle.x25_line.proofs.HealingSteps.{Reached, then_happens, timely_up, Sound, sound_swapped, sound_at, in_order_at, SentWhole, whole_at, IsDrained, counted}
use Rattle.x25_line.proofs.{HealingSteps.{all_heard, hears_well, deliveries_keep, reads_put}, Names.{Each}, StationRuns.{joined_swapped}}
use Rattle.x25_line.{proofs.StationSteps.{not_both}, proofs.sessions.SessionSteps.{whole_behind}, specs.Healing.{OneIsFree}}
use Rattle.x25_link.proofs.EndLemmas.{busy_is}

-- nothing waits at an end at rest, so it isn't busy
rest_free : {s : LinkStation} → IsAtRest s → is_busy s ≡ false
rest_free {s} rest =
    let outer = and_parts (is_up s.phase) (waits s.outgoing == 0 && s.outgoing.acked == s.outgoing.sent) rest.idle in
    let inner = and_parts (waits s.outgoing == 0) (s.outgoing.acked == s.outgoing.sent) outer.1 in
    let none : waits s.outgoing ≡ 0 = eqb-true (waits s.outgoing) 0 inner.0 in
    le-ltb 254 (waits s.outgoing) (omega (arith, none))

asks_first : (busy : Bool) (n : ℕ) → AsksFirst (says busy true n true ∷ []) × NoFinal (says busy true n true ∷ [])
asks_first true n = (tt, (tt, tt))
asks_first false n = (tt, (refl, tt))

on : HealingLaws → {s : LinkStation} {fs : List PlainFrame} → GoesOn s fs → is_up s.phase ≡ true
on laws (polls up recovery said) = up
on laws {s} (stays rest) = (laws.rest.only_then s rest).0

-- ---- two ends once both have fired, or were refused

-- an end at rest has nothing to send
record HasAll (s t : LinkStation) : Type 0 where
  pub recovery : s.recovery ≡ false
  pub peer_busy : s.peer_busy ≡ false
  pub place : s.outgoing.place ≡ length t.taken
  pub acked : s.outgoing.acked ≡ length t.taken

resent_first : {s t : LinkStation} {gs : List PlainFrame} → HasAll s t → Reports (length t.taken) s.outgoing.acked gs → is_busy t ≡ false → Phases s t [] gs
resent_first a reports free = inr (inr (inl (record { recovery = a.recovery; peer_busy = a.peer_busy; ahead = sym a.place; reports = reports; free = free })))

polled_first : {s t : LinkStation} → HasAll s t → t.said_busy ≡ is_busy t → (busy : Bool) → is_busy t ≡ busy
    → Phases s t [] (says busy true (wanted t) true ∷ [])
polled_first {s} {t} a said false free = resent_first a (refl, refl) free
polled_first a said true busy = inr (inr
    (inr (inr (record { recovery = a.recovery; none = tt; polls = (refl, tt); place = a.place; acked = a.acked; told = said ∙ busy }))))

begins_near : {s t : LinkStation} {fs gs : List PlainFrame} → (IsAtRest s → HasAll s t) → GoesOn s fs → GoesOn t gs → Phases s t fs gs
begins_near {s} {t} all (polls up recovery said) (polls far_up far_recovery far_said) =
    inl (record { recovery = recovery; asks = (asks_first (is_busy s) (wanted s)).0; heard = (asks_first (is_busy t) (wanted t)).1 })
begins_near {s} all (polls up recovery said) (stays rest) = inl (record { recovery = recovery; asks = (asks_first (is_busy s) (wanted s)).0; heard = tt })
begins_near {s} {t} all (stays rest) (polls up recovery said) = polled_first (all rest) said (is_busy t) refl
begins_near {s} {t} all (stays rest) (stays far_rest) = resent_first (all rest) (all rest).acked (rest_free far_rest)

-- ---- worlds

-- Each end is Up, in this session, and in a phase; one of them isn't busy.
pub record HealsBoth (n m : ℕ) (c d : LinkSettings) (w : Sessions) : Type 0 where
  pub near_on : is_up w.near.station.phase ≡ true
  pub far_on : is_up w.far.station.phase ≡ true
  pub near_begun : w.near.begun ≡ n
  pub far_begun : w.far.begun ≡ m
  pub one_free : OneIsFree w.near.station w.far.station
  pub there : List PlainFrame
  pub behind : List PlainFrame
  pub out : Reads (other d.role) d.longest w.out there
  pub back : Reads (other c.role) c.longest w.back behind
  pub near : Phases w.near.station w.far.station there behind
  pub far : Phases w.far.station w.near.station behind there

pub both_turned : {n m : ℕ} {c d : LinkSettings} {w : Sessions} → HealsBoth n m c d w → HealsBoth m n d c (swapped w)
both_turned h = record {
  near_on = h.far_on;
  far_on = h.near_on;
  near_begun = h.far_begun;
  far_begun = h.near_begun;
  one_free = elim h.one_free [ inl near ↦ inr near | inr far ↦ inl far ];
  there = h.behind;
  behind = h.there;
  out = h.back;
  back = h.out;
  near = h.far;
  far = h.near;
}

-- in a world that events lead to
abbrev pub HealsAt : ℕ → ℕ → LinkSettings → LinkSettings → Sessions → Type 0
HealsAt n m c d w = Reached c d w × HealsBoth n m c d w

module _ (reads : ReadsSpelled) (laws : HealingLaws) (busy_laws : BusyLaws) where
  both_comes : {n m : ℕ} {c d : LinkSettings} → AreJoined c d → {w : Sessions} → Sound c d w → SentWhole d.longest (acts c Deliver w).sent → HealsBoth n m c d w
      → HealsBoth n m c d (acts c Deliver w)
  both_comes {n} {m} {c} {d} joined {w} sound whole h = by w.back refl whole h.behind h.back h.near h.far
    where
      s : LinkStation
      s = w.near.station

      t : LinkStation
      t = w.far.station

      by : (es : List Entry) → w.back ≡ es → SentWhole d.longest (delivered c es w).sent → (gs : List PlainFrame) → Reads (other c.role) c.longest es gs
          → Phases s t h.there gs → Phases t s gs h.there
          → HealsBoth n m c d (delivered c es w)
      by [] is whole gs back near far = h
      by (e ∷ es) is whole [] back near far = absurd back
      by (e ∷ es) is whole (g ∷ gs) back near far =
          let o = e.octets in
          let step : LinkStep = take_step c o s in
          let k : Beside c s t g o = record {
            up = h.near_on;
            read = back.0;
            well = hears_well c d w sound g e es is back.0;
            all = all_heard joined (counted sound);
          } in
          let a = near_hears c laws busy_laws o s t h.there gs g k near in
          let q = a.answers.quiet in
          record {
            near_on = a.answers.up;
            far_on = h.far_on;
            near_begun = ap (λ x. begun_by x.up w.near.begun) q ∙ h.near_begun;
            far_begun = h.far_begun;
            one_free = elim h.one_free [ inl free ↦ inl (stays_free c laws busy_laws o s t q free) | inr free ↦ inr free ];
            there = h.there ++ step.side.out;
            behind = gs;
            out = reads_put reads joined whole.0 (begun_by step.notes.up w.near.begun) w.out h.there step.side.out
                (whole_behind d.longest whole.0 w.sent step.side.out whole.1) h.out;
            back = back.1;
            near = a.phase;
            far = (far_hears c laws busy_laws o s t h.there gs g k far).phase;
          }

  pub both_near : (n m : ℕ) (c d : LinkSettings) → AreJoined c d → (w : Sessions) → HealsAt n m c d w → HealsAt n m c d (acts c Deliver w)
  both_near n m c d joined w (r, h) =
      let after = then_happens (Near Deliver) tt r in
      (after, both_comes joined (sound_at reads laws c d joined w r h.near_on h.far_on) (whole_at reads laws c d joined (acts c Deliver w) after) h)

  pub both_far : (n m : ℕ) (c d : LinkSettings) → AreJoined c d → (w : Sessions) → HealsAt n m c d w → HealsAt n m c d (swapped (acts d Deliver (swapped w)))
  both_far n m c d joined w (r, h) =
      let after = then_happens (Far Deliver) tt r in
      let v : Sessions = acts d Deliver (swapped w) in
      let sound = sound_swapped (sound_at reads laws c d joined w r h.near_on h.far_on) in
      let whole : SentWhole c.longest v.sent = subst (λ k. SentWhole k v.sent) (sym joined.longest) (whole_at reads laws c d joined (swapped v) after) in
      (after, both_turned (both_comes (joined_swapped joined) sound whole (both_turned h)))

  has_all : {c d : LinkSettings} {v : Sessions} → Sound c d v → IsAtRest v.near.station → HasAll v.near.station v.far.station
  has_all {c} {d} {v} h rest =
      let t = laws.rest.only_then v.near.station rest in
      let k = counted h in
      let u = h.near in
      record {
        recovery = t.1;
        peer_busy = t.2;
        place = omega (arith, t.3, k.acked, k.taken, u.sound.place_low, u.sound.place_high);
        acked = omega (arith, t.3, k.acked, k.taken);
      }

  far_stays : (o : Option LinkError) (w v : Sessions) → v.far ≡ w.far → (unless o w v).far ≡ w.far
  far_stays (Some e) w v same = refl
  far_stays None w v same = same

  -- both fire
  pub begins : {c d : LinkSettings} → AreJoined c d → {w : Sessions} → Reached c d w → IsDrained w → HasTries c.retries w.near.station
      → HasTries d.retries w.far.station → OneIsFree w.near.station w.far.station
      → HealsAt w.near.begun w.far.begun c d (after_firings c d w)
  begins {c} {d} joined {w} r drained near_may far_may free = (after, by k.near k.far)
    where
      x : Sessions
      x = acts c T1 w

      v : Sessions
      v = after_firings c d w

      s : LinkStation
      s = v.near.station

      t : LinkStation
      t = v.far.station

      far_same : x.far ≡ w.far
      far_same = far_stays (timer_refusal w.near.station) w (after_step c w w.back w.met [] (timer_step c w.near.station)) refl

      after : Reached c d v
      after = then_happens (Far T1) (timely_up d c (swapped x) (ap (λ e. is_up e.station.phase) far_same ∙ far_may.up))
          (then_happens (Near T1) (timely_up c d w near_may.up) r)

      k : BothFired c d w v
      k = (let orders = in_order_at reads laws c d joined w r in both_fire reads laws joined orders.0 orders.1 drained)

      by : Fired c w.near s k.there → Fired d w.far t k.behind → HealsBoth w.near.begun w.far.begun c d v
      by (inl near) (inl far) =
          let near_on = on laws near.is in
          let far_on = on laws far.is in
          let sound = sound_at reads laws c d joined v after near_on far_on in
          record {
            near_on = near_on;
            far_on = far_on;
            near_begun = k.near_begun;
            far_begun = k.far_begun;
            one_free = elim free [ inl f ↦ inl (near.busy ∙ f) | inr f ↦ inr (far.busy ∙ f) ];
            there = k.there;
            behind = k.behind;
            out = k.out;
            back = k.back;
            near = begins_near (has_all sound) near.is far.is;
            far = begins_near (has_all (sound_swapped sound)) far.is near.is;
          }
      by (inr near) far = absurd (near.had_none near_may)
      by near (inr far) = absurd (far.had_none far_may)

  -- ---- once nothing is on the line any more

  -- an end is at rest, or the other is busy
  rests_near : {c d : LinkSettings} → AreJoined c d → {v : Sessions} → Sound c d v → Phases v.near.station v.far.station [] [] → IsAtRest v.near.station
      ⊎ (is_busy v.far.station ≡ true)
  rests_near joined b (inl h) = absurd h.asks
  rests_near joined b (inr (inl h)) = absurd h.brings
  rests_near {c} joined {v} b (inr (inr (inl h))) =
      inl (laws.rest.all_heard c.window v.near.station joined.near_low b.near.sound b.near_said b.near.up h.recovery h.peer_busy
      (omega (arith, h.ahead, h.reports)))
  rests_near joined {v} b (inr (inr (inr (inl h)))) = inr (busy_is v.far.station b.far_said.calm b.far.up h.told)
  rests_near joined b (inr (inr (inr (inr h)))) = absurd h.polls

  both_rest : (s t : LinkStation) → OneIsFree s t → IsAtRest s ⊎ (is_busy t ≡ true) → IsAtRest t ⊎ (is_busy s ≡ true) → IsAtRest s × IsAtRest t
  both_rest s t free (inl near) (inl far) = (near, far)
  both_rest s t free (inl near) (inr busy) = not_both (is_busy s) busy (rest_free near)
  both_rest s t free (inr busy) (inl far) = not_both (is_busy t) busy (rest_free far)
  both_rest s t (inl free) (inr busy) (inr near_busy) = not_both (is_busy s) near_busy free
  both_rest s t (inr free) (inr busy) (inr near_busy) = not_both (is_busy t) busy free

  pub both_settle : {n m : ℕ} {c d : LinkSettings} → AreJoined c d → {v : Sessions} → HealsAt n m c d v → IsDrained v → IsAtRest v.near.station
      × IsAtRest v.far.station
  both_settle {c = c} {d} joined {v} (r, h) after =
      let s = v.near.station in
      let t = v.far.station in
      let there = reads_none (other d.role) d.longest v.out h.there h.out after.out in
      let behind = reads_none (other c.role) c.longest v.back h.behind h.back after.back in
      let near : Phases s t [] [] = subst (λ fs. Phases s t fs []) there (subst (Phases s t h.there) behind h.near) in
      let far : Phases t s [] [] = subst (λ fs. Phases t s fs []) behind (subst (Phases t s h.behind) there h.far) in
      let sound = sound_at reads laws c d joined v r h.near_on h.far_on in
      both_rest s t h.one_free (rests_near joined sound near) (rests_near (joined_swapped joined) (sound_swapped sound) far)

  pub deliveries_heal : (n m : ℕ) (c d : LinkSettings) → AreJoined c d → (es : List LinkEvent) (w : Sessions) → Each IsDelivery es → HealsAt n m c d w
      → HealsAt n m c d (run c d es w)
  deliveries_heal n m c d joined = deliveries_keep (HealsAt n m c d) c d (both_near n m c d joined) (both_far n m c d joined)
