-- Packets are put while an end heals: in recovery they wait, and behind it each goes in order, as one I frame more at the end of the line.
use Rattle.x25_line.proofs.Names.{◌≡◌, ℕ, ◌+◌, ◌≤◌, List, [], ◌∷◌, ◌++◌, inl, inr, length, Bool, true, false, if◌then◌else◌, Option, Some, None, refl, sym, ap}
use Rattle.x25_line.proofs.Names.{◌∙◌, subst, arith, length-append, append-nil, le-ltb, ltb-false, nat_le, PlainFrame, ReadsSpelled, LinkError, waits}
use Rattle.x25_line.proofs.Names.{LinkSettings, LinkStation, Side, is_up, is_busy, may_send, LinkStep, other, put_step, put_refusal, AreNext, Says, BusyLaws}
use Rattle.x25_line.proofs.Names.{Put, Deliver, LinkEvent, Near, Far, Sessions, after_step, unless, acts, swapped, run, AreJoined, Each, HealingLaws}
use Rattle.std.proofs.lemmas.Bool.{lt-ltb}
use Rattle.x25_line.proofs.{BusyLines.{silent_stays}, HealingBoth.{HealsBoth, HealsAt, both_turned, both_near, both_far}}
use Rattle.x25_line.proofs.HealingLines.{Reads, ahead_more, next_ahead, Mild, mild_more, held_mild, no_final_more, next_no_final}
use Rattle.x25_line.proofs.HealingPhases.{Phases, asks_more, SaysMore, answered_more, resent_more, withheld_more}
use Rattle.x25_line.proofs.HealingSteps.{Reached, then_happens, Sound, sound_swapped, sound_at, SentWhole, whole_at, reads_put}
use Rattle.x25_line.proofs.{StationRuns.{joined_swapped}, StationSteps.{not_both}, sessions.SessionSteps.{whole_behind}}
use Rattle.x25_line.specs.laws.HealingPuts.{IsDeliveryOrPut, AreFree, SessionsFreeThroughout}
use Rattle.x25_link.proofs.EndLemmas.{open_is, closed_is, with_packet, put_once, busy_is}
use Rattle.x25_link.specs.{Outgoing.{is_open}, Station.{send_next}}

-- ---- a station to which a packet is put

-- it waits, or goes at once as the next I frame
record TakesDown (s : LinkStation) (t : Side) : Type 0 where
  pub phase : t.near.phase ≡ s.phase
  pub recovery : t.near.recovery ≡ s.recovery
  pub peer_busy : t.near.peer_busy ≡ s.peer_busy
  pub taken : t.near.taken ≡ s.taken
  pub acked : t.near.outgoing.acked ≡ s.outgoing.acked
  pub sends : AreNext (length s.taken) s.outgoing.place t.out t.near.outgoing.place
  pub held : s.recovery ≡ true → t.near.outgoing.place ≡ s.outgoing.place
  pub grows : waits s.outgoing ≤ waits t.near.outgoing

takes_by : (b : Bool) (k : ℕ) (packet : List ℕ) (s : LinkStation) → s.outgoing.place ≤ s.outgoing.sent → s.outgoing.sent ≤ length s.outgoing.given
    → may_send k s ≡ false → may_send k (with_packet packet s).near ≡ b
    → TakesDown s (if b then send_next (with_packet packet s) else with_packet packet s)
takes_by true k packet s low high settled may =
    let o = open_is k (with_packet packet s).near may in
    let more = length-append s.outgoing.given (packet ∷ []) in
    record {
      phase = refl;
      recovery = refl;
      peer_busy = refl;
      taken = refl;
      acked = refl;
      sends = (refl, refl, refl, refl);
      held = λ recovers. not_both s.recovery recovers o.recovery;
      grows = omega (
        arith,
        more,
        (let o = open_is k (with_packet packet s).near may in
            let shut : is_open k s.outgoing ≡ false = sym (closed_is k s o.up o.recovery o.peer_busy) ∙ settled in
            let test = rw (lt-ltb s.outgoing.place (s.outgoing.acked + k) o.room) at shut in ltb-false _ _ test),
        low,
        high,
      );
    }
takes_by false k packet s low high settled may = record {
  phase = refl;
  recovery = refl;
  peer_busy = refl;
  taken = refl;
  acked = refl;
  sends = refl;
  held = λ recovers. refl;
  grows = omega (arith, length-append s.outgoing.given (packet ∷ []));
}

-- ---- two stations, to one of which a packet is put

-- a station that was handed a packet, or refused it
module _ (s z : LinkStation) (es : List PlainFrame) (p : TakesDown s (record { near = z; out = es }))
    (said : Says s.said_busy z.said_busy (is_busy z) z.peer_busy es) where
  abbrev r : ℕ
  r = length s.taken

  -- in recovery no I frame goes
  recovers_mild : s.recovery ≡ true → Mild es
  recovers_mild recovers = held_mild r es p.sends (omega (arith, p.held recovers))

  -- in the phases of this end, beside one that isn't busy
  near_puts : {t : LinkStation} {fs gs : List PlainFrame} → (t.said_busy ≡ true → ⊥) → Phases s t fs gs → Phases z t (fs ++ es) gs
  near_puts {fs = fs} free (inl h) = inl
      (record { recovery = p.recovery ∙ h.recovery; asks = asks_more fs es h.asks (recovers_mild h.recovery); heard = h.heard })
  near_puts {fs = fs} free (inr (inl h)) = inr
      (inl (record { recovery = p.recovery ∙ h.recovery; mild = mild_more fs es h.mild (recovers_mild h.recovery); brings = h.brings }))
  near_puts {t} {fs} free (inr (inr (inl h))) =
      inr (inr (inl (record {
        recovery = p.recovery ∙ h.recovery;
        peer_busy = p.peer_busy ∙ h.peer_busy;
        ahead = ahead_more (length t.taken) s.outgoing.place z.outgoing.place fs es h.ahead (next_ahead r s.outgoing.place es z.outgoing.place p.sends);
        reports = rw p.acked h.reports;
        free = h.free;
      })))
  near_puts {fs = fs} free (inr (inr (inr (inl h)))) =
      let stays = silent_stays r es p.sends (said.held (p.peer_busy ∙ h.peer_busy)) in
      inr (inr (inr (inl (record {
        recovery = p.recovery ∙ h.recovery;
        peer_busy = p.peer_busy ∙ h.peer_busy;
        mild = mild_more fs es h.mild (held_mild r es p.sends (omega (arith, stays)));
        place = stays ∙ h.place;
        acked = p.acked ∙ h.acked;
        number = h.number;
        tells = h.tells;
        told = h.told;
      }))))
  near_puts free (inr (inr (inr (inr h)))) = absurd (free h.told)

  -- in those of the other, where this one isn't busy once it was given the packet
  far_puts : {t : LinkStation} {gs fs : List PlainFrame} → is_busy z ≡ false → (s.said_busy ≡ true → ⊥) → Phases t s gs fs → Phases t z gs (fs ++ es)
  far_puts {t} {gs} {fs} free unsaid h = by h
    where
      more : SaysMore s z es
      more = record { taken = p.taken; place = s.outgoing.place; next = p.sends; says = said; free = λ _. free }

      by : Phases t s gs fs → Phases t z gs (fs ++ es)
      by (inl h) = inl (record {
        recovery = h.recovery;
        asks = h.asks;
        heard = no_final_more fs es h.heard (next_no_final r s.outgoing.place es z.outgoing.place p.sends);
      })
      by (inr (inl h)) = inr (inl (answered_more more h))
      by (inr (inr (inl h))) = inr (inr (inl (resent_more more h)))
      by (inr (inr (inr (inl h)))) = inr (inr (inr (inl (withheld_more more h))))
      by (inr (inr (inr (inr h)))) = absurd (unsaid h.told)

module _ (reads : ReadsSpelled) (busy_laws : BusyLaws) {c d : LinkSettings} (joined : AreJoined c d) where
  -- what a packet that is put makes of the world
  record WasPut (w v : Sessions) : Type 0 where
    pub next : List PlainFrame
    pub given : TakesDown w.near.station (record { near = v.near.station; out = next })
    pub says : Says w.near.station.said_busy v.near.station.said_busy (is_busy v.near.station) v.near.station.peer_busy next
    pub out : (fs : List PlainFrame) → Reads (other d.role) d.longest w.out fs → Reads (other d.role) d.longest v.out (fs ++ next)
    pub back : v.back ≡ w.back
    pub far : v.far ≡ w.far
    pub begun : v.near.begun ≡ w.near.begun

  -- it is refused
  not_put : (w : Sessions) → WasPut w w
  not_put w = record {
    next = [];
    given = record { phase = refl; recovery = refl; peer_busy = refl; taken = refl; acked = refl; sends = refl; held = λ recovers. refl; grows = omega arith };
    says = record { said = refl; free = λ never. not_both false never refl; held = λ _. tt };
    out = λ fs read. subst (Reads (other d.role) d.longest w.out) (sym (append-nil fs)) read;
    back = refl;
    far = refl;
    begun = refl;
  }

  puts : (packet : List ℕ) (w : Sessions) → Sound c d w → SentWhole d.longest (acts c (Put packet) w).sent → WasPut w (acts c (Put packet) w)
  puts packet w h = by (nat_le (length packet) c.longest) (put_refusal s)
    where
      s : LinkStation
      s = w.near.station

      step : LinkStep
      step = put_step c packet s

      v : Sessions
      v = after_step c w w.back w.met (packet ∷ []) step

      by : (short : Bool) (refusal : Option LinkError) → (let z : Sessions = if short then unless refusal w v else w in SentWhole d.longest z.sent → WasPut w z)
      by true None whole = record {
        next = step.side.out;
        given = (subst (TakesDown s) (sym (put_once c.window s packet h.near.sound.place_high h.near_said.settled h.near_said.calm))
            (takes_by (may_send c.window (with_packet packet s).near) c.window packet s h.near.sound.place_high h.near.sound.sent_high h.near_said.settled
            refl));
        says = busy_laws.put c packet s;
        out = λ fs read. reads_put reads joined whole.0 w.near.begun w.out fs step.side.out (whole_behind d.longest whole.0 w.sent step.side.out whole.1) read;
        back = refl;
        far = refl;
        begun = refl;
      }
      by true (Some e) whole = not_put w
      by false refusal whole = not_put w

-- ---- both ends, packet by packet

module _ (reads : ReadsSpelled) (laws : HealingLaws) (busy_laws : BusyLaws) where
  -- what stays where a packet is put while both ends are Up
  record PutAt (c d : LinkSettings) (w v : Sessions) : Type 0 where
    pub near_on : is_up v.near.station.phase ≡ true
    pub far_on : is_up v.far.station.phase ≡ true
    pub before : AreFree v.near.station v.far.station → AreFree w.near.station w.far.station
    pub heals : (n m : ℕ) → HealsBoth n m c d w → AreFree v.near.station v.far.station → HealsBoth n m c d v

  put_at : {c d : LinkSettings} → AreJoined c d → (packet : List ℕ) {w : Sessions} → Sound c d w → SentWhole d.longest (acts c (Put packet) w).sent
      → PutAt c d w (acts c (Put packet) w)
  put_at {c} {d} joined packet {w} h whole = record { near_on = near_on; far_on = far_on; before = before; heals = heals }
    where
      v : Sessions
      v = acts c (Put packet) w

      p : WasPut reads busy_laws joined w v
      p = puts reads busy_laws joined packet w h whole

      near_on : is_up v.near.station.phase ≡ true
      near_on = ap is_up p.given.phase ∙ h.near.up

      far_on : is_up v.far.station.phase ≡ true
      far_on = ap (λ e. is_up e.station.phase) p.far ∙ h.far.up

      before : AreFree v.near.station v.far.station → AreFree w.near.station w.far.station
      before free = ((le-ltb _ _ (omega (arith, ltb-false _ _ free.0, p.given.grows))), ap (λ e. is_busy e.station) (sym p.far) ∙ free.1)

      heals : (n m : ℕ) → HealsBoth n m c d w → AreFree v.near.station v.far.station → HealsBoth n m c d v
      heals n m b free =
          let s = w.near.station in
          let t = w.far.station in
          let old = before free in
          let near = near_puts s v.near.station p.next p.given p.says (λ said. not_both (is_busy t) (busy_is t h.far_said.calm h.far.up said) old.1) b.near in
          let far = far_puts s v.near.station p.next p.given p.says free.0 (λ said. not_both (is_busy s) (busy_is s h.near_said.calm h.near.up said) old.0)
          b.far in
          record {
            near_on = near_on;
            far_on = far_on;
            near_begun = p.begun ∙ b.near_begun;
            far_begun = ap (λ e. e.begun) p.far ∙ b.far_begun;
            one_free = inl free.0;
            there = b.there ++ p.next;
            behind = b.behind;
            out = p.out b.there b.out;
            back = rw p.back b.back;
            near = rw p.far near;
            far = rw p.far far;
          }

  module _ {c d : LinkSettings} (joined : AreJoined c d) where
    -- a packet that is put in a world that events lead to
    record WentOn (w v : Sessions) : Type 0 where
      pub reached : Reached c d v
      pub put : PutAt c d w v

    goes_near : (packet : List ℕ) (w : Sessions) → Reached c d w → is_up w.near.station.phase ≡ true → is_up w.far.station.phase ≡ true
        → WentOn w (acts c (Put packet) w)
    goes_near packet w r up far_up =
        let after = then_happens (Near (Put packet)) tt r in
        record {
          reached = after;
          put = put_at joined packet (sound_at reads laws c d joined w r up far_up)
              (whole_at reads laws c d joined (acts c (Put packet) w) after);
        }

    goes_far : (packet : List ℕ) (w : Sessions) → Reached c d w → is_up w.near.station.phase ≡ true → is_up w.far.station.phase ≡ true
        → WentOn w (swapped (acts d (Put packet) (swapped w)))
    goes_far packet w r up far_up =
        let after = then_happens (Far (Put packet)) tt r in
        let v : Sessions = acts d (Put packet) (swapped w) in
        let whole : SentWhole c.longest v.sent = subst (λ k. SentWhole k v.sent) (sym joined.longest) (whole_at reads laws c d joined (swapped v) after) in
        let p = put_at (joined_swapped joined) packet (sound_swapped (sound_at reads laws c d joined w r up far_up)) whole in
        record {
          reached = after;
          put = record {
            near_on = p.far_on;
            far_on = p.near_on;
            before = λ free. (let old = p.before (free.1, free.0) in (old.1, old.0));
            heals = λ n m b free. both_turned (p.heals m n (both_turned b) (free.1, free.0));
          };
        }

    -- so none is busy at any moment before one in which none is, as long as nothing comes between
    free_now : (es : List LinkEvent) {w : Sessions} → Each IsDeliveryOrPut es → Reached c d w → is_up w.near.station.phase ≡ true → is_up w.far.station.phase
        ≡ true → SessionsFreeThroughout c d es w
        → AreFree w.near.station w.far.station
    free_now [] are r up far_up free = free
    free_now (Near (Put packet) ∷ es) {w} are r up far_up free =
        (let k = goes_near packet w r up far_up in k.put.before (free_now es are.1 k.reached k.put.near_on k.put.far_on free.1))
    free_now (Far (Put packet) ∷ es) {w} are r up far_up free =
        (let k = goes_far packet w r up far_up in k.put.before (free_now es are.1 k.reached k.put.near_on k.put.far_on free.1))
    free_now (Near Deliver ∷ es) are r up far_up free = free.0
    free_now (Far Deliver ∷ es) are r up far_up free = free.0
    free_now (event ∷ es) are r up far_up free = absurd are.0

    pub puts_run : {n m : ℕ} (es : List LinkEvent) {w : Sessions} → Each IsDeliveryOrPut es → HealsAt n m c d w → SessionsFreeThroughout c d es w
        → HealsAt n m c d (run c d es w)
    puts_run [] are h free = h
    puts_run {n} {m} (Near (Put packet) ∷ es) {w} are (r, h) free =
        let v : Sessions = acts c (Put packet) w in
        let k = goes_near packet w r h.near_on h.far_on in
        puts_run es are.1 (k.reached, k.put.heals n m h (free_now es are.1 k.reached k.put.near_on k.put.far_on free.1)) free.1
    puts_run {n} {m} (Far (Put packet) ∷ es) {w} are (r, h) free =
        let v : Sessions = swapped (acts d (Put packet) (swapped w)) in
        let k = goes_far packet w r h.near_on h.far_on in
        puts_run es are.1 (k.reached, k.put.heals n m h (free_now es are.1 k.reached k.put.near_on k.put.far_on free.1)) free.1
    puts_run {n} {m} (Near Deliver ∷ es) {w} are h free = puts_run es are.1 (both_near reads laws busy_laws n m c d joined w h) free.1
    puts_run {n} {m} (Far Deliver ∷ es) {w} are h free = puts_run es are.1 (both_far reads laws busy_laws n m c d joined w h) free.1
    puts_run (event ∷ es) are h free = absurd are.0
