-- Each act of a station over sessions is what an end that keeps the rules may do, by its phase and by what comes.
use Rattle.x25_line.proofs.Names.{◌≡◌, ℕ, List, [], ◌∷◌, ◌++◌, ◌⊎◌, inl, inr, Bool, true, false, if◌then◌else◌, Option, Some, None, Ok, Err, refl, sym, ap, ◌∙◌}
use Rattle.x25_line.proofs.Names.{subst, arith, append-nil, append_assoc, PlainFrame, sabm, disc, ua, dm, frmr, spelling_of, ReadsSpelled, Short, Phase, Down}
use Rattle.x25_line.proofs.Names.{Waiting, Up, Closed, Reason, Retries, Disc, FrmrSent, Reset, Local, Counts, LinkSettings, LinkStation, is_up, fresh, LinkStep}
use Rattle.x25_line.proofs.Names.{take_step, Is, TakesPart, waiting_after, waiting_sends, waiting_up, window_of, brought_by, after_input, ending_of, Follows}
use Rattle.x25_line.proofs.Names.{AreDeclining, StaysOut, Entry, Meeting, Sessions, letters, meets, sent_in, after_step, Peer, said, sabm_of, disc_of, how_many}
use Rattle.x25_line.proofs.{StationAway.{is_up_phase, frmr_three, waits_on}, StationHears.{UpFacts, Hears, stays_hears, by_disc, by_reset, by_local, left_by}}
use Rattle.x25_line.proofs.{StationLines.{AreParting, parts_of, part_reads}, StationSends.{AllWithin}, StationSteps.{not_afresh}, sessions.SessionLines.{Read}}
use Rattle.x25_line.proofs.sessions.SessionMay.{entry, sends_read, hears_read, heard_in, IsClear, Known, Kind}
use Rattle.x25_line.proofs.sessions.SessionSeen.{Seen, build_quiet, build_up, stays_seen, changed}
use Rattle.x25_link.specs.{declared.phase.Reason.TheVariants.{Dm, FrmrGot}, laws.SetUp.{reset_from}, laws.WindowLaw.{ends_in, Ends}}

-- ---- why Up is left

-- neither the one way nor the other
pub by_neither : (f : Option Reason → ℕ) (x y : Option Reason) → f x ≡ 0 → f y ≡ 0 → (b : Bool) → f (if b then x else y) ≡ 0
by_neither f x y one other true = one
by_neither f x y one other false = other

disc_or_not : (r : Read) → ((p : Bool) × (r ≡ Ok (disc p))) ⊎ (disc_of (said r) ≡ 0)
disc_or_not (Ok (disc p)) = inl (p, refl)
disc_or_not (Err Short) = inr refl
disc_or_not r = inr refl

pub ends_away : (reason : Reason) → (reason ≡ Reset → ⊥) → (p : Phase) → p ≡ ends_in reason → is_up p ≡ false
ends_away Reset never p is = absurd (never refl)
ends_away reason never p is = ap is_up is

-- a frame that may be spelled as it is
alone_reads : ReadsSpelled → (d : LinkSettings) (f : PlainFrame) → AreParting (f ∷ []) → sends_read d (spelling_of d.role f) ≡ Ok f
alone_reads reads d f h = part_reads reads d.role d.longest (parts_of (f ∷ []) h).0

module _ {d : LinkSettings} (k : Kind d) where
  abbrev R : Known
  R = k.R

  abbrev S : Sessions → Type 0
  S w = Seen d R w

  -- ---- what is put behind a line

  -- nothing
  pub put_none : {es : List Entry} {met : List Meeting} {p : Phase} {b : ℕ} {all : ℕ → Peer} {out : List Entry} (fs : List PlainFrame) → fs ≡ []
      → R es met p b all out → R es met p b all (out ++ sent_in b d.role fs)
  put_none {es} {met} {p} {b} {all} {out} fs is reached =
      subst (λ xs. R es met p b all xs) (sym (append-nil out) ∙ ap (λ xs. out ++ sent_in b d.role xs) (sym is)) reached

  -- one frame
  pub put_one : {es : List Entry} {met : List Meeting} {p : Phase} {b : ℕ} {all : ℕ → Peer} (out : List Entry) (f : PlainFrame) (fs : List PlainFrame) → fs ≡ f
      ∷ []
      → R es met p b all (out ++ entry b (spelling_of d.role f) ∷ []) → R es met p b all (out ++ sent_in b d.role fs)
  put_one out f fs is reached = rw is reached

  put_declining : {es : List Entry} {met : List Meeting} {p : Phase} {b : ℕ} {all : ℕ → Peer} (out : List Entry) (fs : List PlainFrame) → AreDeclining fs
      → R es met p b all out → R es met p b all (out ++ sent_in b d.role fs)
  put_declining {es} {met} {p} {b} {all} out [] h reached = put_none [] refl reached
  put_declining {es} {met} {p} {b} {all} out (dm f ∷ fs) h reached =
      let octets = spelling_of d.role (dm f) in
      subst (λ xs. R es met p b all xs) (append_assoc out (entry b octets ∷ []) (sent_in b d.role fs))
      (put_declining (out ++ entry b octets ∷ []) fs h (k.does.declines es met p b all out octets f (alone_reads k.reads d (dm f) tt) reached))
  put_declining out (frame ∷ fs) h reached = absurd h

  -- SABM or DISC is sent
  pub put_asks : (w : Sessions) (h : S w) (p : Bool) (fs : List PlainFrame) → fs ≡ sabm p ∷ [] → k.Due w.near.station.phase w.back → IsClear d w.back w.out
      → R w.back w.met Waiting w.near.begun h.all (w.out ++ sent_in w.near.begun d.role fs)
  put_asks w h p fs is due clear =
      put_one w.out (sabm p) fs is
      (k.does.asks w.back w.met w.near.station.phase w.near.begun h.all w.out (spelling_of d.role (sabm p)) p (alone_reads k.reads d (sabm p) tt) due
      clear h.reached)

  pub put_closes : (w : Sessions) (h : S w) (p : Bool) (fs : List PlainFrame) → fs ≡ disc p ∷ []
      → R w.back w.met Closed w.near.begun h.all (w.out ++ sent_in w.near.begun d.role fs)
  put_closes w h p fs is =
      put_one w.out (disc p) fs is
      (k.does.closes w.back w.met w.near.station.phase w.near.begun h.all w.out (spelling_of d.role (disc p)) p (alone_reads k.reads d (disc p) tt) h.reached)

  -- ---- octets come

  module _ (w : Sessions) (h : S w) (e : Entry) (es : List Entry) (is : w.back ≡ e ∷ es) where
    abbrev s : LinkStation
    s = w.near.station

    abbrev r : Read
    r = hears_read d e.octets

    abbrev b : ℕ
    b = w.near.begun

    abbrev step : LinkStep
    step = take_step d e.octets s

    abbrev met : List Meeting
    met = heard_in d s.phase b e w.met

    came : R (e ∷ es) w.met s.phase b h.all w.out
    came = rw (sym is) h.reached

    came_in : (p : Phase) → s.phase ≡ p → R (e ∷ es) w.met p b h.all w.out
    came_in p phase = rw (sym phase) came

    passed : R es met s.phase b h.all w.out
    passed = k.does.passes e es w.met s.phase b h.all w.out came

    -- a frame without an N(R)
    met_none : {x : Read} → r ≡ x → meets (said x) (record { near = b; far = e.session }) w.met ≡ w.met → met ≡ w.met
    met_none {x} read none = go (is_up s.phase)
      where
        go : (y : Bool) → (if y then meets (said r) (record { near = b; far = e.session }) w.met else w.met) ≡ w.met
        go true = ap (λ (z : Read). meets (said z) (record { near = b; far = e.session }) w.met) read ∙ none
        go false = refl

    -- a SABM sets it up
    pub sets_up_seen : (p : Bool) → r ≡ Ok (sabm p) → TakesPart s.phase → Is fresh (ua p ∷ []) (reset_from s.phase) true step
        → how_many sabm_of (letters d.role d.longest w.out) ≡ 0 → S (after_step d w es met [] step)
    sets_up_seen p read part i unasked =
        rw (met_none read refl) (build_up k h step i.up i.near i.packet unasked
        (put_one w.out (ua p) step.side.out i.out
        (k.does.takes_sabm e es w.met s.phase b h.all w.out (spelling_of d.role (ua p)) p p read (alone_reads k.reads d (ua p) tt) part came)))

    -- ---- in Up

    module _ (up : is_up s.phase ≡ true) where
      facts : UpFacts d s (h.all b)
      facts = h.up up

      in_it : s.phase ≡ Up
      in_it = is_up_phase s.phase up

      -- it stays Up
      stays_up : Hears d r s (h.all b) step → S (after_step d w es met [] step)
      stays_up x =
          stays_seen k h
          (changed k h [] step.packet x.peer (rw in_it (k.does.hears e es w.met b h.all w.out x.peer x.may (came_in Up in_it)))
          (after_input x.input step.packet (window_of d.window s)) x.is x.room x.told
          (subst (AllWithin d.longest) (sym x.given) facts.within) (x.given ∙ sym (append-nil (h.all b).given)) x.taken) x.stays

      -- it leaves Up
      left_seen : {reason : Reason} → (reason ≡ Reset → ⊥) → Ends reason step → R es met (ends_in reason) b h.all (w.out ++ sent_in b d.role step.side.out)
          → S (after_step d w es met [] step)
      left_seen {reason} no_reset ends reached =
          let off = ends_away reason no_reset step.side.near.phase ends.phase in
          build_quiet k h step (not_afresh (k.rests.laws.take_tells d e.octets s) off) ends.packet off
          (rw ends.phase reached)

      -- without a frame
      gone : (fs : List PlainFrame) → fs ≡ [] → R es met Down b h.all (w.out ++ sent_in b d.role fs)
      gone fs none = put_none fs none (k.does.leaves es met b h.all w.out (rw (sym in_it) passed))

      ends_seen : (reason : Reason) → (reason ≡ Reset → ⊥) → ending_of r (window_of d.window s) ≡ Some reason → Ends reason step
          → S (after_step d w es met [] step)
      ends_seen Retries never ending ends = left_seen never ends (gone step.side.out ends.frames)
      ends_seen Disc never ending ends = elim (disc_or_not r) [
        | inl closes ↦ (let f = ends.frames.0 in
            left_seen never ends (rw (met_none closes.1 refl)
            (put_one w.out (ua f) step.side.out ends.frames.1
            (k.does.takes_disc e es w.met b h.all w.out (spelling_of d.role (ua f)) closes.0 f closes.1 (alone_reads k.reads d (ua f) tt) (came_in Up in_it)))))
        | inr none ↦ (absurd (omega (arith, (left_by r (window_of d.window s)).0, ap by_disc ending, none)))
      ]
      ends_seen FrmrSent never ending ends =
          let f = ends.frames.0 in
          let why = ends.frames.1 in
          let three = frmr_three d e.octets s (is_up_phase s.phase up) r refl f why ending ends.frames.2 in
          left_seen never ends
          (put_one w.out (frmr f why) step.side.out ends.frames.2
          (rw in_it (k.does.faults e es w.met b h.all w.out (spelling_of d.role (frmr f why)) f why (ap (ending_of r) facts.same ∙ ending)
          (k.reads d.role d.longest (frmr f why) _ (record { in_range = tt; carries = three; within = tt; spelling = refl })) (came_in Up in_it))))
      ends_seen Reset never ending ends = absurd (never refl)
      ends_seen Local never ending ends = absurd (omega (arith, (left_by r (window_of d.window s)).2, ap by_local ending))
      ends_seen reason never ending ends = left_seen never ends (gone step.side.out ends.frames)

      pub up_seen : sabm_of (said r) ≡ 0 → S (after_step d w es met [] step)
      up_seen no_sabm = go (ending_of r (window_of d.window s)) refl (k.rests.laws.window.take d e.octets s (record { up = up; sound = facts.sound }) r refl)
        where
          go : (o : Option Reason) → ending_of r (window_of d.window s) ≡ o → Follows o d.window (brought_by r) s step → S (after_step d w es met [] step)
          go None ending stays = stays_up (stays_hears facts step r no_sabm stays)
          go (Some reason) ending ends = ends_seen reason
              (λ reset. (let one = ap by_reset (ending ∙ ap Some reset) in absurd (omega (arith, (left_by r (window_of d.window s)).1, one, no_sabm)))) ending
              ends

    -- ---- out of Up

    -- the station that isn't Up and stays so
    pub out_seen : is_up s.phase ≡ false → step.side.near.phase ≡ s.phase → StaysOut step → S (after_step d w es met [] step)
    out_seen off same out =
        build_quiet k h step (ap (λ n. n.up) out.quiet) out.packet (ap is_up same ∙ off)
        (put_declining w.out step.side.out out.frames (rw same passed))

    -- UA, which it awaits
    pub answer_seen : s.phase ≡ Waiting → r ≡ Ok (ua true) → how_many sabm_of (letters d.role d.longest w.out) ≡ 0 → S (after_step d w es met [] step)
    answer_seen waiting read unasked =
        let i = k.rests.laws.set_up.waits d e.octets s waiting r refl in
        subst (λ xs. S (after_step d w es xs [] step)) (sym (met_none read refl))
        (build_up k h step (i.up ∙ ap waiting_up read) (i.near ∙ ap (λ x. waiting_after x s) read) i.packet unasked
        (put_none step.side.out (i.out ∙ ap waiting_sends read) (k.does.takes_ua e es w.met b h.all w.out read (came_in Waiting waiting))))

    -- anything else, while it awaits UA
    pub waiting_seen : s.phase ≡ Waiting → waiting_up r ≡ false → S (after_step d w es met [] step)
    waiting_seen waiting no_answer =
        build_quiet k h step (i.up ∙ no_answer) i.packet (ap is_up phase) (rw phase (by r refl))
      where
        i : Is (waiting_after r s) (waiting_sends r) None (waiting_up r) step
        i = k.rests.laws.set_up.waits d e.octets s waiting r refl

        phase : step.side.near.phase ≡ Waiting
        phase = ap (λ z. z.phase) (i.near ∙ waits_on r s no_answer) ∙ waiting

        passed_waiting : R es met Waiting b h.all w.out
        passed_waiting = rw (sym waiting) passed

        none_put : waiting_sends r ≡ [] → R es met Waiting b h.all (w.out ++ sent_in b d.role step.side.out)
        none_put none = put_none step.side.out (i.out ∙ none) passed_waiting

        by : (x : Read) → r ≡ x → R es met Waiting b h.all (w.out ++ sent_in b d.role step.side.out)
        by (Ok (sabm p)) read =
            subst (λ xs. R es xs Waiting b h.all (w.out ++ sent_in b d.role step.side.out)) (sym (met_none read refl))
            (put_one w.out (ua p) step.side.out (i.out ∙ ap waiting_sends read)
            (k.does.waits_on e es w.met b h.all w.out (spelling_of d.role (ua p)) p p read (alone_reads k.reads d (ua p) tt) (came_in Waiting waiting)))
        by (Ok (disc p)) read =
            put_one w.out (dm p) step.side.out (i.out ∙ ap waiting_sends read)
            (k.does.declines es met Waiting b h.all w.out (spelling_of d.role (dm p)) p (alone_reads k.reads d (dm p) tt) passed_waiting)
        by x read = none_put (ap waiting_sends read)
