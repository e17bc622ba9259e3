-- Each event at a station over sessions is what an end that keeps the rules may do.
use Rattle.x25_line.proofs.Names.{◌≡◌, ◌≤◌, ℕ, suc, List, [], ◌∷◌, ◌++◌, ◌⊎◌, inl, inr, length, Bool, true, false, not, if◌then◌else◌, Option, Some, None, Ok}
use Rattle.x25_line.proofs.Names.{refl, sym, ap, ◌∙◌, subst, arith, append-nil, leb-true, nat_le, nat_lt, option_to_list, PlainFrame, sabm, disc, ua, LinkError}
use Rattle.x25_line.proofs.Names.{Phase, Down, Waiting, Up, Closed, Retries, LinkSettings, LinkStation, is_up, with_nothing, LinkStep, other, put_step}
use Rattle.x25_line.proofs.Names.{put_refusal, timer_step, timer_refusal, timer_runs, connect_step, connect_refusal, disconnect_step, disconnect_refusal}
use Rattle.x25_line.proofs.Names.{abandon_step, Is, TakesPart, waiting_up, window_of, Follows, IsOut, after, HandDown, Act, Put, Deliver, T1, Connect}
use Rattle.x25_line.proofs.Names.{Disconnect, Abandon, Probe, Lose, Damage, is_visible, Entry, Sessions, letters, sent_in, after_step, unless, delivered}
use Rattle.x25_line.proofs.{Choices.{unless_by, if_by}, Losses.{removes, replaces}, Names.{with_octets, acts, Peer, said, sabm_of, ua_of, how_many}}
use Rattle.x25_line.proofs.{StationAway.{connects_from, closed_takes}, StationHears.{sabm_or_not, sets_none_up}, StationSends.{within_push}}
use Rattle.x25_line.proofs.{StationSteps.{no_packet_of, not_afresh}, sessions.SessionHeld.{OwesOn}, sessions.SessionLines.{Read}}
use Rattle.x25_line.proofs.sessions.{SessionMay.{hears_read, IsClear, Known, Kind}, SessionSeen.{Seen, build_quiet, stays_seen, reached_in, unchanged, changed}}
use Rattle.x25_line.proofs.sessions.SessionSeenActs.{put_none, put_asks, put_closes, sets_up_seen, up_seen, out_seen, answer_seen, waiting_seen}
use Rattle.x25_link.specs.laws.WindowMachine.{hands_down, nothing}
use Rattle.x25_line.proofs.StationAway.{ended_phase_by}
use Rattle.x25_link.specs.{declared.phase.Ending.TheVariants.{GivenUp}, laws.SetUp.{ended_by}}
use Rattle.x25_link.specs.declared.error.LinkError.TheVariants as error

-- the UA that is awaited, or none such
pub is_answer : (r : Read) → (r ≡ Ok (ua true)) ⊎ (waiting_up r ≡ false)
is_answer (Ok (ua true)) = inl refl
is_answer r = inr refl

-- a packet is accepted in Up alone
pub put_accepted : (s : LinkStation) → put_refusal s ≡ None → is_up s.phase ≡ true
put_accepted s accepted = go (is_up s.phase) _ accepted
  where
    go : (b : Bool) (o : Option LinkError) → (let z : Option LinkError = if not b then Some error.NotUp else o in z) ≡ None → b ≡ true
    go true o e = refl
    go false o e = absurd (never e)
      where
        never : Some error.NotUp ≡ None → ⊥
        never k = cc

module _ {d : LinkSettings} (k : Kind d) where
  abbrev R : Known
  R = k.R

  abbrev S : Sessions → Type 0
  S w = Seen d R w

  -- its SABMs and the UAs to it that are on the line, and its DISCs
  abbrev pub OwesAt : Sessions → Type 0
  OwesAt w = OwesOn w.near.station.phase (letters d.role d.longest w.out) (letters (other d.role) d.longest w.back)

  owes_at : (w : Sessions) (p : Phase) → w.near.station.phase ≡ p → OwesAt w
      → OwesOn p (letters d.role d.longest w.out) (letters (other d.role) d.longest w.back)
  owes_at w p is owes = rw (sym is) owes

  -- T1 may run out while it awaits UA
  abbrev pub IsOver : Sessions → Type 0
  IsOver w = (how_many sabm_of (letters d.role d.longest w.out) ≡ 0) × (how_many ua_of (letters (other d.role) d.longest w.back) ≡ 0) × k.Due Waiting w.back

  -- when T1 may run out, and the link be asked for
  abbrev pub IsTimely : Act → Sessions → Type 0
  IsTimely T1 w = w.near.station.phase ≡ Waiting → IsOver w
  IsTimely Connect w = w.near.station.phase ≡ Down → k.Due Down w.back
  IsTimely act w = Unit {0}

  put_seen : (w : Sessions) (h : S w) (packet : List ℕ) → length packet ≤ d.longest → is_up w.near.station.phase ≡ true
      → S (after_step d w w.back w.met (packet ∷ []) (put_step d packet w.near.station))
  put_seen w h packet short up =
      let b = w.near.begun in
      let f = h.up up in
      let s = w.near.station in
      let step = put_step d packet s in
      let stays = k.rests.laws.window.put d packet s (record { up = up; sound = f.sound }) in
      let none = no_packet_of (hands_down packet) step.packet (window_of d.window s) (λ y never. never) stays.hands_up in
      let r : Peer = record (h.all b) { given = (h.all b).given ++ packet ∷ [] } in
      stays_seen k h
      (changed k h (packet ∷ []) step.packet r (k.does.handed w.back w.met b h.all w.out packet (reached_in k h up))
      (after (window_of d.window s) (HandDown packet)) (ap (λ z. after z (HandDown packet)) f.same) f.room f.told
      (within_push d.longest (h.all b).given packet f.within short) refl
      (sym (ap (λ o. (h.all b).taken ++ option_to_list o) none ∙ append-nil (h.all b).taken))) stays

  -- it isn't Up any more, with nothing taken off the line
  away_seen : {w : Sessions} (h : S w) (step : LinkStep) → step.notes.up ≡ false → step.packet ≡ None → {q : Phase} → step.side.near.phase ≡ q → is_up q ≡ false
      → R w.back w.met q w.near.begun h.all (w.out ++ sent_in w.near.begun d.role step.side.out) → S (after_step d w w.back w.met [] step)
  away_seen {w} h step quiet none phase off reached = build_quiet k h step quiet none (ap is_up phase ∙ off) (rw phase reached)

  -- without a frame
  left : (w : Sessions) (h : S w) → is_up w.near.station.phase ≡ true → (fs : List PlainFrame) → fs ≡ []
      → R w.back w.met Down w.near.begun h.all (w.out ++ sent_in w.near.begun d.role fs)
  left w h up fs none = put_none k fs none (k.does.leaves w.back w.met w.near.begun h.all w.out (reached_in k h up))

  timer_up : (w : Sessions) (h : S w) → is_up w.near.station.phase ≡ true → S (after_step d w w.back w.met [] (timer_step d w.near.station))
  timer_up w h up = by (nat_lt w.near.station.tries d.retries) (k.rests.laws.window.timer d w.near.station (record { up = up; sound = (h.up up).sound }))
    where
      s : LinkStation
      s = w.near.station

      step : LinkStep
      step = timer_step d s

      by : (b : Bool) → Follows (if b then None else Some Retries) d.window nothing s step → S (after_step d w w.back w.met [] step)
      by true stays =
          stays_seen k h
          (unchanged k h up (reached_in k h up) (window_of d.window s) refl step.packet
          (no_packet_of nothing step.packet (window_of d.window s) (λ y never. never) stays.hands_up)) stays
      by false ends =
          away_seen h step (not_afresh (k.rests.laws.timer_tells d s) (ap is_up ends.phase)) ends.packet ends.phase refl (left w h up step.side.out ends.frames)

  timer_waiting : (w : Sessions) (h : S w) → w.near.station.phase ≡ Waiting → IsOver w → OwesAt w
      → S (after_step d w w.back w.met [] (timer_step d w.near.station))
  timer_waiting w h waiting over owes = by (nat_lt w.near.station.tries d.retries) (timer_step d w.near.station)
      (k.rests.laws.set_up.timer d w.near.station waiting)
    where
      clear : IsClear d w.back w.out
      clear = record { sabm = over.0; disc = (owes_at w Waiting waiting owes).1; ua = over.1 }

      by : (b : Bool) (step : LinkStep)
          → (let s = w.near.station in Is (if b then record s { tries = suc s.tries } else with_nothing Down s.tries) (if b then sabm true ∷ [] else [])
          (if b then None else Some Retries) false step)
          → S (after_step d w w.back w.met [] step)
      by true step i =
          away_seen h step i.up i.packet (ap (λ z. z.phase) i.near ∙ waiting) refl
          (put_asks k w h true step.side.out i.out (rw waiting over.2) clear)
      by false step i =
          away_seen h step i.up i.packet (ap (λ z. z.phase) i.near) refl
          (put_none k step.side.out i.out
          (k.does.gives_up w.back w.met w.near.begun h.all w.out over.2 clear (rw (sym waiting) h.reached)))

  timer_closed : (w : Sessions) (h : S w) → w.near.station.phase ≡ Closed → S (after_step d w w.back w.met [] (timer_step d w.near.station))
  timer_closed w h closed = by (nat_lt w.near.station.tries d.retries) (timer_step d w.near.station)
      (k.rests.laws.set_up.timer_closes d w.near.station closed)
    where
      by : (b : Bool) (step : LinkStep)
          → (let s = w.near.station in Is (if b then record s { tries = suc s.tries } else ended_by GivenUp s.closing s) (if b then disc true ∷ [] else [])
          None false step)
          → S (after_step d w w.back w.met [] step)
      by true step i = away_seen h step i.up i.packet (ap (λ z. z.phase) i.near ∙ closed) refl (put_closes k w h true step.side.out i.out)
      by false step i =
          let same = ended_phase_by GivenUp w.near.station.closing w.near.station ∙ closed in
          away_seen h step i.up i.packet (ap (λ z. z.phase) i.near ∙ same) refl (put_none k step.side.out i.out (rw (sym closed) h.reached))

  timer_seen : (w : Sessions) (h : S w) → IsTimely T1 w → OwesAt w
      → S (unless (timer_refusal w.near.station) w (after_step d w w.back w.met [] (timer_step d w.near.station)))
  timer_seen w h timely owes = by w.near.station.phase refl
    where
      done : Sessions
      done = after_step d w w.back w.met [] (timer_step d w.near.station)

      by : (p : Phase) → w.near.station.phase ≡ p → S (unless (timer_refusal w.near.station) w done)
      by Waiting is = unless_by S (timer_refusal w.near.station) h (λ _. timer_waiting w h is (timely is) owes)
      by Up is = unless_by S (timer_refusal w.near.station) h (λ _. timer_up w h (ap is_up is))
      by Closed is = unless_by S (timer_refusal w.near.station) h (λ _. timer_closed w h is)
      by phase is = rw (ap (λ p. timer_runs p w.near.station) is) h

  disconnect_seen : (w : Sessions) (h : S w) → disconnect_refusal w.near.station.phase ≡ None
      → S (after_step d w w.back w.met [] (disconnect_step d w.near.station))
  disconnect_seen w h accepted = by w.near.station.phase refl
    where
      s : LinkStation
      s = w.near.station

      step : LinkStep
      step = disconnect_step d s

      refused : Some error.Closed ≡ None → ⊥
      refused k = cc

      closes : step.notes.up ≡ false → step.packet ≡ None → step.side.near.phase ≡ Closed → step.side.out ≡ disc true ∷ []
          → S (after_step d w w.back w.met [] step)
      closes quiet none phase sent = away_seen h step quiet none phase refl (put_closes k w h true step.side.out sent)

      by : (p : Phase) → s.phase ≡ p → S (after_step d w w.back w.met [] step)
      by Down is = (let out = k.rests.laws.window.disconnect_out d s (subst IsOut (sym is) tt) in
          closes (ap (λ n. n.up) out.quiet) out.packet out.phase out.frames)
      by Waiting is = (let i = k.rests.laws.set_up.disconnects d s in closes i.up i.packet (ap (λ z. z.phase) i.near) i.out)
      by Up is =
          let up : is_up s.phase ≡ true = ap is_up is in
          let ends = k.rests.laws.window.disconnect d s (record { up = up; sound = (h.up up).sound }) in
          closes (not_afresh (k.rests.laws.disconnect_tells d s) (ap is_up ends.phase)) ends.packet ends.phase ends.frames
      by Closed is = absurd (refused (sym (ap disconnect_refusal is) ∙ accepted))

  abandon_seen : (w : Sessions) (h : S w) → is_up w.near.station.phase ≡ true → S (after_step d w w.back w.met [] (abandon_step d w.near.station))
  abandon_seen w h up =
      let s = w.near.station in
      let step = abandon_step d s in
      let ends = k.rests.laws.window.abandon d s (record { up = up; sound = (h.up up).sound }) in
      away_seen h step (not_afresh (k.rests.laws.abandon_tells d s) (ap is_up ends.phase)) ends.packet ends.phase refl (left w h up step.side.out ends.frames)

  deliver_seen : (w : Sessions) (h : S w) → OwesAt w → (es : List Entry) → w.back ≡ es → S (delivered d es w)
  deliver_seen w h owes [] is = h
  deliver_seen w h owes (e ∷ es) is = by w.near.station.phase refl
    where
      r : Read
      r = hears_read d e.octets

      sets_up : (p : Bool) → r ≡ Ok (sabm p) → TakesPart w.near.station.phase → how_many sabm_of (letters d.role d.longest w.out) ≡ 0
          → S (delivered d (e ∷ es) w)
      sets_up p read part unasked = sets_up_seen k w h e es is p read part (k.rests.laws.set_up.sets_up d e.octets w.near.station part p read) unasked

      -- the UA comes, so no SABM is on the line
      answered : w.near.station.phase ≡ Waiting → r ≡ Ok (ua true) → how_many sabm_of (letters d.role d.longest w.out) ≡ 0
      answered waiting read =
          let one : ua_of (said r) ≡ 1 = ap (λ r. ua_of (said r)) read in
          omega (arith, (owes_at w Waiting waiting owes).0, ap (λ es. how_many ua_of (letters (other d.role) d.longest es)) is, one)

      by : (p : Phase) → w.near.station.phase ≡ p → S (delivered d (e ∷ es) w)
      by Down phase = (let owed = owes_at w Down phase owes in elim (sabm_or_not r) [
        | inl sets ↦ sets_up sets.0 sets.1 (subst TakesPart (sym phase) tt) (omega (arith, owed.0))
        | inr no_sabm ↦ (let out = k.rests.laws.window.take_out d e.octets w.near.station (subst IsOut (sym phase) tt) (sets_none_up r no_sabm) in
            out_seen k w h e es is (ap is_up phase) ((k.rests.continues d e.octets w.near.station).phase out.quiet) out)
      ])
      by Waiting phase = elim (is_answer r) [
        | inl answer ↦ answer_seen k w h e es is phase answer (answered phase answer)
        | inr no_answer ↦ waiting_seen k w h e es is phase no_answer
      ]
      by Up phase = (let owed = owes_at w Up phase owes in elim (sabm_or_not r) [
        | inl sets ↦ sets_up sets.0 sets.1 (subst TakesPart (sym phase) tt) (omega (arith, owed.0))
        | inr no_sabm ↦ up_seen k w h e es is (ap is_up phase) no_sabm
      ])
      by Closed phase = (let out = closed_takes d e.octets w.near.station phase in
          out_seen k w h e es is (ap is_up phase) ((k.rests.continues d e.octets w.near.station).phase out.quiet) out)

  line_seen : {w : Sessions} (h : S w) {es : List Entry} → R es w.met w.near.station.phase w.near.begun h.all w.out → S (record w { back = es })
  line_seen h reached = record { all = h.all; reached = reached; up = h.up; given = h.given; taken = h.taken; later = h.later; tags = h.tags }

  -- each act of a station is what a peer may do, and it is seen as one after it
  pub station_acts : (a : Act) (w : Sessions) → IsTimely a w → OwesAt w → S w → S (acts d a w)
  station_acts (Put packet) w timely owes h =
      let done = after_step d w w.back w.met (packet ∷ []) (put_step d packet w.near.station) in
      if_by S (nat_le (length packet) d.longest) h
      (λ short. unless_by S (put_refusal w.near.station) h (λ accepted. put_seen w h packet (leb-true _ _ short) (put_accepted w.near.station accepted)))
  station_acts Deliver w timely owes h = deliver_seen w h owes w.back refl
  station_acts T1 w timely owes h = timer_seen w h timely owes
  station_acts Connect w timely owes h =
      unless_by S (connect_refusal w.near.station.phase) h
      (λ accepted. (let down = connects_from w.near.station.phase accepted in
      (let owed = owes_at w Down down owes in let step = connect_step d w.near.station in let i = k.rests.laws.set_up.connects d w.near.station down in
      away_seen h step i.up i.packet (ap (λ z. z.phase) i.near) refl
      (put_asks k w h true step.side.out i.out (rw down (timely down))
      (record { sabm = omega (arith, owed.0); disc = owed.1; ua = omega (arith, owed.0) })))))
  station_acts Disconnect w timely owes h = unless_by S (disconnect_refusal w.near.station.phase) h (λ accepted. disconnect_seen w h accepted)
  station_acts Abandon w timely owes h = if_by S (is_up w.near.station.phase) h (λ up. abandon_seen w h up)
  station_acts Probe w timely owes h = if_by S (is_up w.near.station.phase) h (λ up. timer_up w h up)
  station_acts (Lose i) w timely owes h = line_seen h (k.does.loses w.met w.near.station.phase w.near.begun h.all w.out (removes w.back i) h.reached)
  station_acts (Damage i octets) w timely owes h =
      if_by S (is_visible octets) h (λ visible. line_seen h
      (k.does.loses w.met w.near.station.phase w.near.begun h.all w.out (replaces (with_octets octets) (λ _. (refl, visible)) w.back i) h.reached))
