-- What comes to the near end keeps what holds of two stations over sessions.
use Rattle.x25_line.proofs.Names.{◌≡◌, ◌≤◌, ℕ, suc, ◌+◌, List, [], ◌∷◌, ◌⊎◌, inl, inr, Bool, true, false, if◌then◌else◌, Option, None, Ok, refl, sym, ap, ◌∙◌}
use Rattle.x25_line.proofs.Names.{subst, arith, PlainFrame, sabm, disc, ua, dm, frame_of, ReadsSpelled, Phase, Down, Waiting, Up, Closed, Is, TakesPart}
use Rattle.x25_line.proofs.Names.{waiting_sends, waiting_up, LinkSettings, LinkStation, is_up, fresh, LinkStep, other, take_step, ShowAll, window_of}
use Rattle.x25_line.proofs.Names.{brought_by, ending_of, IsOut, AreDeclining, StaysOut, AreJoined, number_in, numbered_on, first_of, octets_of, Standing, anew}
use Rattle.x25_line.proofs.Names.{place_to_hear, Said, said, sabm_of, ua_of, disc_of, how_many, Entry, Meeting, Sessions, letters, begun_by, after_step, meets}
use Rattle.x25_line.proofs.{Names.{Laws}, StationAway.{closed_takes, waits_on, waiting_parting}, StationHears.{left_by, sabm_or_not, sets_none_up}}
use Rattle.x25_line.proofs.{StationLines.{consed, AreParting}, StationSteps.{StepLeads, read_joint, declining_parting, out_not_up}}
use Rattle.x25_line.proofs.sessions.{SessionActs.{InSession, quiet_held, up_in_session, waiting_owes}, SessionBegins.{begins_held}}
use Rattle.x25_line.proofs.sessions.SessionHeld.{IsOf, EndIsThere, Owes, OnLine, Held, is_soon, is_there, is_out, there_passes}
use Rattle.x25_line.proofs.sessions.SessionLines.{Read, count, numbers, quiet_of, carried, carried_numbers, carried_orderly, by_first, behind_ua, behind_quiet}
use Rattle.x25_line.proofs.sessions.{SessionSeenSteps.{is_answer}, SessionSteps.{stepped, went_by, Answers, apart_held}}
use Rattle.x25_line.{proofs.sessions.SessionUp.{follows_answers, live_goes_on}, specs.laws.SessionNumbers.{is_sabm, is_set_up}}

-- ---- what comes

abbrev IsNoSabm : Read → Type 0
IsNoSabm r = sabm_of (said r) ≡ 0

-- ---- what is sent while UA is awaited

waiting_none : (r : Read) → IsNoSabm r → count ua_of (waiting_sends r) ≡ 0
waiting_none (Ok (sabm p)) no_sabm = absurd (omega (arith, no_sabm))
waiting_none (Ok (disc p)) no_sabm = refl
waiting_none r no_sabm = refl

declining_none : (fs : List PlainFrame) → AreDeclining fs → count ua_of fs ≡ 0
declining_none [] h = refl
declining_none (dm f ∷ fs) h = omega (arith, declining_none fs h)
declining_none (frame ∷ fs) h = absurd h

-- ---- what comes first, what the near end does, and the two stations after it

-- octets as the near end reads them
abbrev pub read_of : LinkSettings → Entry → Read
read_of c e = frame_of (other c.role) c.longest e.octets

abbrev step_of : LinkSettings → Sessions → Entry → LinkStep
step_of c w e = take_step c e.octets w.near.station

abbrev pub heard_by : LinkSettings → Sessions → Entry → List Meeting
heard_by c w e = if is_up w.near.station.phase then meets (said (read_of c e)) (record { near = w.near.begun; far = e.session }) w.met else w.met

abbrev taken : LinkSettings → Sessions → Entry → List Entry → Sessions
taken c w e es = after_step c w es (heard_by c w e) [] (step_of c w e)

-- what stands then: two sessions begin, or the same go on
abbrev pub taken_by : LinkSettings → LinkSettings → Sessions → Entry → List Entry → Standing → Standing
taken_by c d w e es stand =
    if is_set_up w.near.station.phase (read_of c e) then anew c d w
    else went_by c (step_of c w e) (place_to_hear w.near.station.phase (other c.role) c.longest (octets_of (e ∷ es)) 0) stand

none_asks : (r : Read) → IsNoSabm r → is_sabm r ≡ false
none_asks (Ok (sabm p)) no_sabm = absurd (omega (arith, no_sabm))
none_asks r no_sabm = refl

-- ---- by the phase

pub closed_by : (p : Phase) (n m : ℕ) → 1 ≤ m → Owes p n m → p ≡ Closed
closed_by Closed n m some h = refl
closed_by p n m some h = absurd (omega (arith, some, h.1))

module _ {c d : LinkSettings} (joined : AreJoined c d) (reads : ReadsSpelled) (laws : Laws) where
  -- ---- the front is taken off the line

  module _ {stand : Standing} {w : Sessions} (h : Held stand c d w) (line : OnLine c d w) (e : Entry) (es : List Entry) (is : w.back ≡ e ∷ es) where
    all_back : (kind : Said → ℕ) → how_many kind (letters (other c.role) c.longest w.back)
        ≡ kind (said (read_of c e)) + how_many kind (letters (other c.role) c.longest es)
    all_back kind = ap (λ es. how_many kind (letters (other c.role) c.longest es)) is

    -- ---- a SABM

    quiet_left : (p : Bool) → read_of c e ≡ Ok (sabm p) → numbers (other c.role) c.longest es ≡ []
    quiet_left p read = line.quiet e es is (ap (λ r. sabm_of (said r)) read)

    -- an end in a session that begins, to which nothing was told in it
    new_one : (s : LinkStation) (n : ℕ) (zs : List Entry) → fresh ≡ s → n ≡ suc w.near.begun → numbers (other c.role) c.longest zs ≡ []
        → IsOf (other c.role) c.longest s n zs fresh [] (suc w.near.begun) (suc w.far.begun)
    new_one s n zs station session quiet = record {
      station = station;
      session = session;
      comes = quiet;
      of = quiet_of (other c.role) c.longest (suc w.far.begun) zs quiet;
    }

    -- in Down or Up
    sabm_held : (p : Bool) → read_of c e ≡ Ok (sabm p) → TakesPart w.near.station.phase → Held (anew c d w) c d (taken c w e es)
    sabm_held p read part =
        let i = laws.set_up.sets_up c e.octets w.near.station part p read in
        let up : is_up (step_of c w e).side.near.phase ≡ true = ap (λ z. is_up z.phase) i.near in
        subst (λ n. Held (anew c d w) c d (stepped c w es (heard_by c w e) [] n (step_of c w e))) (sym (ap (λ b. begun_by b w.near.begun) i.up))
        (begins_held joined reads w h line e es (heard_by c w e) is (ap (λ r. sabm_of (said r)) read) (suc w.near.begun) p (step_of c w e) i.packet i.out
        (is_there (step_of c w e).side.near.phase up
        (new_one (step_of c w e).side.near (suc w.near.begun) es (sym i.near) refl (quiet_left p read))))

    -- while UA is awaited: the end is about to be in the session that begins
    sabm_waiting : (p : Bool) → read_of c e ≡ Ok (sabm p) → w.near.station.phase ≡ Waiting → Held (anew c d w) c d (taken c w e es)
    sabm_waiting p read waiting =
        let i : Is w.near.station (ua p ∷ []) None false (step_of c w e) = laws.set_up.waits c e.octets w.near.station waiting (Ok (sabm p)) (sym read) in
        quiet_held c d w es (heard_by c w e) [] (step_of c w e) i.up
        (begins_held joined reads w h line e es (heard_by c w e) is (ap (λ r. sabm_of (said r)) read) w.near.begun p (step_of c w e) i.packet i.out
        (is_soon (step_of c w e).side.near.phase (ap (λ z. z.phase) i.near ∙ waiting)
        (λ _. new_one fresh (suc w.near.begun) (behind_ua (other c.role) c.longest es) refl refl
        (behind_quiet (other c.role) c.longest es (quiet_left p read)))))

    -- ---- an end that is out and stays so

    stays_held : IsOut w.near.station.phase → StaysOut (step_of c w e) → Held (went_by c (step_of c w e) None stand) c d (taken c w e es)
    stays_held out stays =
        let t = step_of c w e in
        quiet_held c d w es (heard_by c w e) [] t (ap (λ n. n.up) stays.quiet)
        (apart_held joined reads w h es (heard_by c w e) w.near.begun t stays.packet
        (is_out t.side.near.phase (out_not_up t.side.near.phase stays.out) (λ waiting. absurd (subst IsOut waiting stays.out)))
        (declining_parting t.side.out stays.frames) (declining_none t.side.out stays.frames))

    -- ---- while UA is awaited

    at_front : EndIsThere c w.near (e ∷ es) h.alone.near.station h.alone.back stand.near stand.far
    at_front = rw (sym is) h.near

    -- the UA begins the session that the end was about to be in
    answered_held : read_of c e ≡ Ok (ua true) → w.near.station.phase ≡ Waiting → Held (went_by c (step_of c w e) None stand) c d (taken c w e es)
    answered_held read waiting =
        subst (λ n. Held (went_by c (step_of c w e) None stand) c d (stepped c w es (heard_by c w e) [] n (step_of c w e)))
        (sym (ap (λ b. begun_by b w.near.begun) i.up))
        (apart_held joined reads w h es (heard_by c w e) (suc w.near.begun) (step_of c w e) i.packet
        (is_there (step_of c w e).side.near.phase (ap (λ z. is_up z.phase) i.near)
        (record { station = now.station ∙ sym i.near; session = now.session; comes = now.comes; of = now.of }))
        (subst AreParting (sym i.out) tt) (ap (count ua_of) i.out))
      where
        i : Is fresh [] None true (step_of c w e)
        i = laws.set_up.waits c e.octets w.near.station waiting (Ok (ua true)) (sym read)

        one_ua : ua_of (said (read_of c e)) ≡ 1
        one_ua = ap (λ r. ua_of (said r)) read

        now : IsOf (other c.role) c.longest fresh (suc w.near.begun) es h.alone.near.station h.alone.back stand.near stand.far
        now =
            subst (λ n. IsOf (other c.role) c.longest fresh (suc w.near.begun) (by_first n (behind_ua (other c.role) c.longest es) es) h.alone.near.station
            h.alone.back stand.near stand.far) one_ua
            (at_front.awaits waiting (omega (arith, one_ua)))

    -- what else comes
    waits_held : IsNoSabm (read_of c e) → waiting_up (read_of c e) ≡ false → w.near.station.phase ≡ Waiting
        → Held (went_by c (step_of c w e) None stand) c d (taken c w e es)
    waits_held no_sabm no_answer waiting =
        let i = laws.set_up.waits c e.octets w.near.station waiting (read_of c e) refl in
        let same : (step_of c w e).side.near ≡ w.near.station = i.near ∙ waits_on (read_of c e) w.near.station no_answer in
        quiet_held c d w es (heard_by c w e) [] (step_of c w e) (i.up ∙ no_answer)
        (apart_held joined reads w h es (heard_by c w e) w.near.begun (step_of c w e) i.packet
        (rw same (there_passes e waiting (let owes = waiting_owes waiting line.near_owes in
        omega (arith, ap (λ es. how_many ua_of (letters (other c.role) c.longest es)) is, owes.0)) at_front))
        (subst AreParting (sym i.out) (waiting_parting (read_of c e))) (ap (count ua_of) i.out ∙ waiting_none (read_of c e) no_sabm))

    -- ---- in Up

    up_held : IsNoSabm (read_of c e) → is_up w.near.station.phase ≡ true
        → Held (went_by c (step_of c w e) (first_of (number_in (read_of c e))) stand) c d (taken c w e es)
    up_held no_sabm up = live_goes_on joined reads w h i.is.session es (carried (other c.role) c.longest es) (heard_by c w e) [] (step_of c w e) gone leads
        (sym (carried_numbers (other c.role) c.longest es)) comes.of.1 answers
      where
        i : InSession stand c d w h
        i = up_in_session c d w h up

        comes : IsOf (other c.role) c.longest w.near.station w.near.begun (e ∷ es) h.alone.near.station h.alone.back stand.near stand.far
        comes = rw (sym is) i.is

        shows : ShowAll (consed (number_in (read_of c e)) (numbered_on (other c.role) c.longest (carried (other c.role) c.longest es))) stand.machine.back
        shows =
            subst (λ fs. ShowAll fs stand.machine.back)
            (sym comes.comes ∙ ap (λ fs. consed (number_in (read_of c e)) fs) (sym (carried_numbers (other c.role) c.longest es)))
            h.holds.back

        gone : Option ℕ
        gone = first_of (number_in (read_of c e))

        leads : StepLeads c d h.alone stand.machine gone (carried (other c.role) c.longest es) [] (step_of c w e)
        leads =
            rw (sym i.is.station) (read_joint joined reads h.holds i.machine (read_of c e)
            (line.fine e es is) no_sabm (carried_orderly (other c.role) c.longest es) shows (laws.take_tells c e.octets h.alone.near.station)
            (laws.window.take c e.octets h.alone.near.station (record { up = i.machine.up; sound = i.machine.sound }) (read_of c e) refl))

        -- who sent a DISC is Closed
        closed : disc_of (said (read_of c e)) ≡ 1 → w.far.station.phase ≡ Closed
        closed one = closed_by w.far.station.phase _ _ (omega (arith, all_back disc_of, one)) line.far_owes

        answers : Answers w (step_of c w e)
        answers =
            let v = window_of c.window w.near.station in
            follows_answers w (ending_of (read_of c e) v) c.window (brought_by (read_of c e)) w.near.station (step_of c w e)
            (λ one. closed (sym (left_by (read_of c e) v).0 ∙ one)) ((left_by (read_of c e) v).1 ∙ no_sabm)
            (laws.window.take c e.octets w.near.station i.running (read_of c e) refl)

    -- ---- in any phase

    -- two sessions begin, or the same go on
    abbrev TakenIn : Phase → Read → Type 0
    TakenIn p r =
        Held (if is_set_up p r then anew c d w else went_by c (step_of c w e) (place_to_hear p (other c.role) c.longest (octets_of (e ∷ es)) 0) stand) c d
        (taken c w e es)

    goes_on : IsNoSabm (read_of c e) → (place : Option ℕ) → Held (went_by c (step_of c w e) place stand) c d (taken c w e es)
        → Held (if is_sabm (read_of c e) then anew c d w else went_by c (step_of c w e) place stand) c d (taken c w e es)
    goes_on no_sabm place k = rw (none_asks (read_of c e) no_sabm) k

    by_phase : (p : Phase) → w.near.station.phase ≡ p → ((f : Bool) × (read_of c e ≡ Ok (sabm f))) ⊎ IsNoSabm (read_of c e) → TakenIn p (read_of c e)
    by_phase Down phase (inl read) = subst (TakenIn Down) (sym read.1) (sabm_held read.0 read.1 (subst TakesPart (sym phase) tt))
    by_phase Down phase (inr no_sabm) =
        goes_on no_sabm None (stays_held (subst IsOut (sym phase) tt)
        (laws.window.take_out c e.octets w.near.station (subst IsOut (sym phase) tt) (sets_none_up (read_of c e) no_sabm)))
    by_phase Waiting phase (inl read) = subst (TakenIn Waiting) (sym read.1) (sabm_waiting read.0 read.1 phase)
    by_phase Waiting phase (inr no_sabm) = goes_on no_sabm None
        (elim (is_answer (read_of c e)) [ inl read ↦ answered_held read phase | inr no_answer ↦ waits_held no_sabm no_answer phase ])
    by_phase Up phase (inl read) = subst (TakenIn Up) (sym read.1) (sabm_held read.0 read.1 (subst TakesPart (sym phase) tt))
    by_phase Up phase (inr no_sabm) = goes_on no_sabm (first_of (number_in (read_of c e))) (up_held no_sabm (ap is_up phase))
    by_phase Closed phase which = stays_held (subst IsOut (sym phase) tt) (closed_takes c e.octets w.near.station phase)

    pub take_held : Held (taken_by c d w e es stand) c d (taken c w e es)
    take_held = by_phase w.near.station.phase refl (sabm_or_not (read_of c e))
