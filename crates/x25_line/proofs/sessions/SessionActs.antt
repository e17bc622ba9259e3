-- What is done at the near end keeps what holds of two stations over sessions: packets handed down, timer T1, connect, disconnect
-- and abandon.
use Rattle.x25_line.proofs.Names.{◌≡◌, ◌≤◌, ℕ, suc, ◌+◌, List, [], ◌∷◌, length, Bool, true, false, if◌then◌else◌, Option, Some, None, refl, sym, ap, ◌∙◌, subst}
use Rattle.x25_line.proofs.Names.{arith, nat_lt, PlainFrame, sabm, disc, ReadsSpelled, Phase, Down, Waiting, Up, Closed, Reason, Retries, Local, Counts, Is}
use Rattle.x25_line.proofs.Names.{LinkSettings, LinkStation, is_up, with_nothing, LinkStep, other, put_step, timer_step, connect_step, disconnect_step}
use Rattle.x25_line.proofs.Names.{disconnect_refusal, abandon_step, IsSound, IsOut, AreJoined, Standing, Entry, Meeting, Sessions, letters, begun_by}
use Rattle.x25_line.proofs.{Names.{after_step, sabm_of, ua_of, how_many, Laws}, StationHears.{by_disc, by_reset}, StationLines.{AreParting}}
use Rattle.x25_line.proofs.{StationRuns.{put_up, timer_by}, StationSteps.{AsUp, up_of, Leaves, ends_joint}}
use Rattle.x25_line.proofs.sessions.{SessionHeld.{IsOf, Owes, OnLine, Held, is_out}, SessionLines.{count}, SessionSeenActs.{by_neither}}
use Rattle.x25_line.proofs.sessions.{SessionSteps.{waiting_is_closed, stepped, went_by, apart_held}, SessionUp.{stays_answers, follows_answers, live_goes_on}}
use Rattle.x25_link.specs.laws.{NoteLaw.{Tells}, WindowLaw.{IsRunning, Ends}, WindowMachine.{nothing}}
use Rattle.x25_line.proofs.StationAway.{ended_phase_by}
use Rattle.x25_link.specs.{declared.phase.Ending.TheVariants.{GivenUp}, laws.SetUp.{ended_by}}
use Rattle.x25_link.specs.declared.error.LinkError.TheVariants as error

-- what holds of a step in which no LinkUp is noted
pub quiet_held : {stand : Standing} (c d : LinkSettings) (w : Sessions) (es : List Entry) (met : List Meeting) (down : List (List ℕ)) (step : LinkStep)
    → step.notes.up
    ≡ false
    → Held stand c d (stepped c w es met down w.near.begun step) → Held stand c d (after_step c w es met down step)
quiet_held {stand} c d w es met down step quiet h = rw (ap (λ b. begun_by b w.near.begun) quiet) h

-- ---- an end that is Up is in the session

pub record InSession (stand : Standing) (c d : LinkSettings) (w : Sessions) (h : Held stand c d w) : Type 0 where
  pub is : IsOf (other c.role) c.longest w.near.station w.near.begun w.back h.alone.near.station h.alone.back stand.near stand.far
  pub machine : AsUp c h.alone.near.station stand.machine.near
  pub running : IsRunning c.window w.near.station

-- an end that is Up is in the session that stands
pub up_in_session : {stand : Standing} (c d : LinkSettings) (w : Sessions) (h : Held stand c d w) → is_up w.near.station.phase ≡ true → InSession stand c d w h
up_in_session {stand} c d w h up =
    let is = h.near.up up in
    let u = up_of h.holds.near (ap (λ s. is_up s.phase) is.station ∙ up) in
    record { is = is; machine = u; running = record { up = up; sound = subst (λ s. IsSound c.window s.outgoing) is.station u.sound } }

-- ---- by the phase

down_owes : {p : Phase} {n m : ℕ} → p ≡ Down → Owes p n m → (n ≡ 0) × (m ≡ 0)
down_owes {n = n} {m} is h = subst (λ z. Owes z n m) is h

-- an end that waits has one SABM or UA under way at most, and no DISC
pub waiting_owes : {p : Phase} {n m : ℕ} → p ≡ Waiting → Owes p n m → (n ≤ 1) × (m ≡ 0)
waiting_owes {n = n} {m} is h = subst (λ z. Owes z n m) is h

module _ {c d : LinkSettings} (joined : AreJoined c d) (reads : ReadsSpelled) (laws : Laws) where
  -- ---- in Up

  pub put_held : {stand : Standing} (w : Sessions) → Held stand c d w → is_up w.near.station.phase ≡ true → (packet : List ℕ) → length packet ≤ c.longest
      → Held (went_by c (put_step c packet w.near.station) None stand) c d (after_step c w w.back w.met (packet ∷ []) (put_step c packet w.near.station))
  put_held {stand} w h up packet short =
      let i = up_in_session c d w h up in
      live_goes_on joined reads w h i.is.session w.back h.alone.back w.met (packet ∷ []) (put_step c packet w.near.station) None
      (rw (sym i.is.station) (put_up joined reads laws packet h.holds i.machine short))
      i.is.comes i.is.of (stays_answers w (laws.window.put c packet w.near.station i.running))

  pub timer_up_held : {stand : Standing} (w : Sessions) → Held stand c d w → is_up w.near.station.phase ≡ true
      → Held (went_by c (timer_step c w.near.station) None stand) c d (after_step c w w.back w.met [] (timer_step c w.near.station))
  timer_up_held {stand} w h up =
      let i = up_in_session c d w h up in
      let s = w.near.station in
      let t = h.alone.near.station in
      let step = timer_step c s in
      let o : Option Reason = if nat_lt s.tries c.retries then None else Some Retries in
      live_goes_on joined reads w h i.is.session w.back h.alone.back w.met [] step None
      (rw (sym i.is.station) (timer_by joined reads laws h.holds i.machine (nat_lt t.tries c.retries) (laws.timer_tells c t)
      (laws.window.timer c t (record { up = i.machine.up; sound = i.machine.sound }))))
      i.is.comes i.is.of (follows_answers w o c.window nothing s step
      (λ one. absurd (omega (arith, one, by_neither by_disc None (Some Retries) refl refl (nat_lt s.tries c.retries))))
      (by_neither by_reset None (Some Retries) refl refl (nat_lt s.tries c.retries)) (laws.window.timer c s i.running))

  -- it leaves, by a call of its user
  leaves_held : {stand : Standing} (w : Sessions) → Held stand c d w → is_up w.near.station.phase ≡ true → (reason : Reason) → Leaves reason
      → by_disc (Some reason) ≡ 0 → by_reset (Some reason) ≡ 0
      → (f : LinkStation → LinkStep) → ((s : LinkStation) → Tells s (f s)) → ((s : LinkStation) → IsRunning c.window s → Ends reason (f s))
      → Held (went_by c (f w.near.station) None stand) c d (after_step c w w.back w.met [] (f w.near.station))
  leaves_held {stand} w h up reason leaves by_own stays f tells ends =
      let i = up_in_session c d w h up in
      let t = h.alone.near.station in
      live_goes_on joined reads w h i.is.session w.back h.alone.back w.met [] (f w.near.station) None
      (rw (sym i.is.station) (ends_joint joined reads h.holds i.machine.up leaves h.holds.back h.holds.back_orderly (tells t)
      (ends t (record { up = i.machine.up; sound = i.machine.sound }))))
      i.is.comes i.is.of (follows_answers w (Some reason) c.window nothing w.near.station (f w.near.station) (λ one. absurd (omega (arith, one, by_own))) stays
      (ends w.near.station i.running))

  pub abandon_held : {stand : Standing} (w : Sessions) → Held stand c d w → is_up w.near.station.phase ≡ true
      → Held (went_by c (abandon_step c w.near.station) None stand) c d (after_step c w w.back w.met [] (abandon_step c w.near.station))
  abandon_held w h up = leaves_held w h up Counts tt refl refl (abandon_step c) (laws.abandon_tells c) (laws.window.abandon c)

  -- ---- SABM and DISC

  -- an end that is out, to which no UA comes
  out_held : {stand : Standing} (w : Sessions) → Held stand c d w → (near : LinkStation) (frames : List PlainFrame) (ends : Option Reason) (step : LinkStep)
      → Is near frames ends false step → is_up near.phase ≡ false
      → (near.phase ≡ Waiting → how_many ua_of (letters (other c.role) c.longest w.back) ≡ 0) → AreParting frames → count ua_of frames ≡ 0
      → Held (went_by c step None stand) c d (after_step c w w.back w.met [] step)
  out_held {stand} w h near frames ends step i off none parting no_ua =
      let same : step.side.near.phase ≡ near.phase = ap (λ s. s.phase) i.near in
      quiet_held c d w w.back w.met [] step i.up
      (apart_held joined reads w h w.back w.met w.near.begun step i.packet
      (is_out step.side.near.phase (ap is_up same ∙ off) (λ waiting. none (sym same ∙ waiting)))
      (subst AreParting (sym i.out) parting) (ap (count ua_of) i.out ∙ no_ua))

  closes_held : {stand : Standing} (w : Sessions) → Held stand c d w → (step : LinkStep) → step.side.near.phase ≡ Closed → step.side.out ≡ disc true ∷ []
      → step.packet ≡ None → step.notes.up ≡ false
      → Held (went_by c step None stand) c d (after_step c w w.back w.met [] step)
  closes_held {stand} w h step closed sent none quiet =
      quiet_held c d w w.back w.met [] step quiet
      (apart_held joined reads w h w.back w.met w.near.begun step none
      (is_out step.side.near.phase (ap is_up closed) (λ waits. waiting_is_closed step.side.near.phase waits closed))
      (subst AreParting (sym sent) tt) (ap (count ua_of) sent))

  pub connect_held : {stand : Standing} (w : Sessions) → Held stand c d w → OnLine c d w → w.near.station.phase ≡ Down
      → Held (went_by c (connect_step c w.near.station) None stand) c d (after_step c w w.back w.met [] (connect_step c w.near.station))
  connect_held {stand} w h line down =
      let owed = down_owes down line.near_owes in
      out_held w h (record w.near.station { phase = Waiting; tries = 0 }) (sabm true ∷ []) None (connect_step c w.near.station)
      (laws.set_up.connects c w.near.station down) refl (λ _. omega (arith, owed.0)) tt refl

  -- timer T1 while UA is awaited: none of the end's SABMs, and no UA to it, is on the line
  pub timer_waiting_held : {stand : Standing} (w : Sessions) → Held stand c d w → w.near.station.phase ≡ Waiting
      → how_many sabm_of (letters (other d.role) d.longest w.out) + how_many ua_of (letters (other c.role) c.longest w.back) ≡ 0
      → Held (went_by c (timer_step c w.near.station) None stand) c d (after_step c w w.back w.met [] (timer_step c w.near.station))
  timer_waiting_held {stand} w h waiting none = by (nat_lt w.near.station.tries c.retries) (timer_step c w.near.station)
      (laws.set_up.timer c w.near.station waiting)
    where
      by : (b : Bool) (step : LinkStep)
          → (let s = w.near.station in Is (if b then record s { tries = suc s.tries } else with_nothing Down s.tries) (if b then sabm true ∷ [] else [])
          (if b then None else Some Retries) false step)
          → Held (went_by c step None stand) c d (after_step c w w.back w.met [] step)
      by true step i = out_held w h (record w.near.station { tries = suc w.near.station.tries }) (sabm true ∷ []) None step i (ap is_up waiting)
          (λ _. omega (arith, none)) tt refl
      by false step i = out_held w h (with_nothing Down w.near.station.tries) [] (Some Retries) step i refl (λ _. omega (arith, none)) tt refl

  -- timer T1 while the answer to a DISC is awaited
  pub timer_closed_held : {stand : Standing} (w : Sessions) → Held stand c d w → w.near.station.phase ≡ Closed
      → Held (went_by c (timer_step c w.near.station) None stand) c d (after_step c w w.back w.met [] (timer_step c w.near.station))
  timer_closed_held {stand} w h closed = by (nat_lt w.near.station.tries c.retries) (timer_step c w.near.station)
      (laws.set_up.timer_closes c w.near.station closed)
    where
      by : (b : Bool) (step : LinkStep)
          → (let s = w.near.station in Is (if b then record s { tries = suc s.tries } else ended_by GivenUp s.closing s) (if b then disc true ∷ [] else [])
          None false step)
          → Held (went_by c step None stand) c d (after_step c w w.back w.met [] step)
      by true step i = closes_held w h step (ap (λ z. z.phase) i.near ∙ closed) i.out i.packet i.up
      by false step i =
          let same = ended_phase_by GivenUp w.near.station.closing w.near.station ∙ closed in
          out_held w h (ended_by GivenUp w.near.station.closing w.near.station) [] None step i (ap is_up same)
          (λ waits. waiting_is_closed _ waits same) tt refl

  pub disconnect_held : {stand : Standing} (w : Sessions) → Held stand c d w → disconnect_refusal w.near.station.phase ≡ None
      → Held (went_by c (disconnect_step c w.near.station) None stand) c d (after_step c w w.back w.met [] (disconnect_step c w.near.station))
  disconnect_held {stand} w h accepted = by w.near.station.phase refl accepted
    where
      s : LinkStation
      s = w.near.station

      by : (p : Phase) → s.phase ≡ p → disconnect_refusal p ≡ None
          → Held (went_by c (disconnect_step c s) None stand) c d (after_step c w w.back w.met [] (disconnect_step c s))
      by Down is ok =
          let out = laws.window.disconnect_out c s (subst IsOut (sym is) tt) in
          closes_held w h (disconnect_step c s) out.phase out.frames out.packet (ap (λ n. n.up) out.quiet)
      by Waiting is ok =
          let i = laws.set_up.disconnects c s in
          closes_held w h (disconnect_step c s) (ap (λ z. z.phase) i.near) i.out i.packet i.up
      by Up is ok = leaves_held w h (ap is_up is) Local tt refl refl (disconnect_step c) (laws.disconnect_tells c) (laws.window.disconnect c)
      by Closed is ok = absurd (never ok)
        where
          never : Some error.Closed ≡ None → ⊥
          never k = cc
