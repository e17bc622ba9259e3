-- Each event keeps what holds of two stations over sessions, so each run does, and what holds says the claims.
use Rattle.x25_line.proofs.Names.{◌≡◌, ℕ, List, [], ◌∷◌, ◌++◌, inl, inr, length, map, drop, remove, Bool, true, false, if◌then◌else◌, Option, Some, None, refl}
use Rattle.x25_line.proofs.Names.{sym, ap, ◌∙◌, subst, arith, leb-true, nat_le, Role, PlainFrame, spelling_of, ReadsSpelled, LinkError, Phase, Down, Waiting}
use Rattle.x25_line.proofs.Names.{Closed, Up, LinkSettings, is_up, with_nothing, fresh, LinkStep, other, take_step, put_step, put_refusal, timer_step, timer_refusal}
use Rattle.x25_line.proofs.Names.{timer_runs, connect_step, connect_refusal, disconnect_step, disconnect_refusal, abandon_step, Stations, Act, Put, Deliver, T1}
use Rattle.x25_line.proofs.Names.{Connect, Disconnect, Abandon, Probe, Lose, Damage, LinkEvent, Near, Far, is_visible, start, AreJoined, AreWhole, Entry}
use Rattle.x25_line.proofs.Names.{Meeting, Sessions, swapped, begun_by, sent_in, after_step, unless, delivered, with_octets, acts, happens, run, start_with}
use Rattle.x25_line.proofs.Names.{IsStart, IsTimely, IsTimelyAt, AreTimely, replaced, Standing, anew, place_to_hear, standing_after, Throughout, octets_of}
use Rattle.x25_line.proofs.{Choices.{unless_by, if_by}, Losses.{removes, replaces}, Names.{AllOf, SessionLaws}, StationAway.{connects_from}}
use Rattle.x25_line.proofs.StationClaimLemmas.{is_behind, holds_order, holds_lists, holds_window, holds_whole}
use Rattle.x25_line.proofs.{StationRuns.{joined_swapped, joint_swapped, start_machine}, StationSteps.{Holds}}
use Rattle.x25_line.proofs.sessions.SessionActs.{up_in_session, put_held, timer_up_held, abandon_held, connect_held, timer_waiting_held, timer_closed_held, disconnect_held}
use Rattle.x25_line.proofs.sessions.{SessionChanges.{change_held}, SessionHeld.{is_there, is_out, IsThere, OnLine, Held, counted_there, stays_on}}
use Rattle.x25_line.proofs.sessions.{SessionLines.{octets_sent}, SessionSeenRuns.{Both, both_swapped, event_both, begin_both}, SessionSeenSteps.{put_accepted}}
use Rattle.x25_line.proofs.sessions.{SessionSteps.{went_by}, SessionTakes.{read_of, heard_by, take_held}, TwoSessions.{on_line}}
use Rattle.x25_line.specs.laws.SessionClaims.{IsSession, Stands, EachUpStands, NoSessionSendsFrmr, AllSessionsSendWhole}
use Rattle.x25_line.specs.laws.SessionNumbers.{turned as other_way, is_set_up, front_sets_up, gone_at, same_two, standing_acts, standing_happens, standing_run}
use Rattle.x25_line.specs.laws.SessionNumbers.{standing_at, StandsWith, EachUpStandsWith, StandingGoesAlong}
use Rattle.x25_line.specs.laws.Stations as one

-- with what stands once `w` is `v`, by the definition
abbrev HeldNow : Standing → LinkSettings → LinkSettings → Option ℕ → Sessions → Sessions → Type 0
HeldNow stand c d gone w v = Held (same_two c gone w v stand) c d v

-- what a step puts
put_is : (from : Role) (session : ℕ) (fs : List PlainFrame) (out : List Entry) → octets_of (drop (length out) (out ++ sent_in session from fs))
    ≡ map (spelling_of from) fs
put_is from session fs [] = octets_sent session from fs
put_is from session fs (e ∷ out) = put_is from session fs out

none_put_on : (out : List Entry) → octets_of (drop (length out) out) ≡ []
none_put_on [] = refl
none_put_on (e ∷ out) = none_put_on out

step_now : (stand : Standing) {c d : LinkSettings} (w : Sessions) (es : List Entry) (met : List Meeting) (down : List (List ℕ)) (step : LinkStep)
    (gone : Option ℕ)
    → Held (went_by c step gone stand) c d (after_step c w es met down step)
    → HeldNow stand c d gone w (after_step c w es met down step)
step_now stand {c} w es met down step gone h = rw (put_is c.role (begun_by step.notes.up w.near.begun) step.side.out w.out) h

-- nothing is put
still_now : (stand : Standing) {c d : LinkSettings} (w : Sessions) {v : Sessions} (gone : Option ℕ) → v.out ≡ w.out
    → Held (standing_after c v.near.station [] gone stand) c d v → HeldNow stand c d gone w v
still_now stand w gone same h = rw (ap (λ out. octets_of (drop (length w.out) out)) same ∙ none_put_on w.out) h

-- what is refused changes nothing
stays_now : {stand : Standing} (c d : LinkSettings) (w : Sessions) → Held stand c d w → HeldNow stand c d None w w
stays_now {stand} c d w h = still_now stand w None refl (rw (sym (stays_on c w.near.station [] stand (counted_there w.near h.near h.holds.near) refl)) h)

now_unless : {stand : Standing} (c d : LinkSettings) (o : Option LinkError) (w v : Sessions) → Held stand c d w → (o ≡ None → HeldNow stand c d None w v)
    → HeldNow stand c d None w (unless o w v)
now_unless {stand} c d o w v h g = unless_by (HeldNow stand c d None w) o (stays_now c d w h) g

now_if : {stand : Standing} (c d : LinkSettings) (b : Bool) (w v : Sessions) → Held stand c d w → (b ≡ true → HeldNow stand c d None w v)
    → HeldNow stand c d None w (if b then v else w)
now_if {stand} c d b w v h g = if_by (HeldNow stand c d None w) b (stays_now c d w h) g

module _ {c d : LinkSettings} (joined : AreJoined c d) (reads : ReadsSpelled) (rests_on : SessionLaws) where
  -- what stands once the front is taken off the line
  abbrev delivered_by : Sessions → List Entry → Standing → Standing
  delivered_by w es stand =
      if front_sets_up c w.near.station.phase es then anew c d w
      else same_two c (place_to_hear w.near.station.phase (other c.role) c.longest (octets_of es) 0) w (delivered c es w) stand

  none_heard : (p : Phase) → place_to_hear p (other c.role) c.longest [] 0 ≡ None
  none_heard Down = refl
  none_heard p = refl

  deliver_held : {stand : Standing} (w : Sessions) → Held stand c d w → OnLine c d w → (es : List Entry) → w.back ≡ es
      → Held (delivered_by w es stand) c d (delivered c es w)
  deliver_held {stand} w h line [] is = rw (none_heard w.near.station.phase) (stays_now c d w h)
  deliver_held {stand} w h line (e ∷ es) is = by (is_set_up w.near.station.phase (read_of c e)) (take_held joined reads rests_on.laws h line e es is)
    where
      v : Sessions
      v = delivered c (e ∷ es) w

      gone : Option ℕ
      gone = place_to_hear w.near.station.phase (other c.role) c.longest (octets_of (e ∷ es)) 0

      by : (b : Bool) → Held (if b then anew c d w else went_by c (take_step c e.octets w.near.station) gone stand) c d v
          → Held (if b then anew c d w else same_two c gone w v stand) c d v
      by true k = k
      by false k = step_now stand w es (heard_by c w e) [] (take_step c e.octets w.near.station) gone k

  timer_held : {stand : Standing} (w : Sessions) → Held stand c d w → IsTimely c d T1 w
      → HeldNow stand c d None w (unless (timer_refusal w.near.station) w (after_step c w w.back w.met [] (timer_step c w.near.station)))
  timer_held {stand} w h timely = by w.near.station.phase refl
    where
      done : Sessions
      done = after_step c w w.back w.met [] (timer_step c w.near.station)

      by : (p : Phase) → w.near.station.phase ≡ p
          → HeldNow stand c d None w (unless (timer_refusal w.near.station) w (after_step c w w.back w.met [] (timer_step c w.near.station)))
      by Waiting is =
          now_unless c d (timer_refusal w.near.station) w done h
          (λ _. step_now stand w w.back w.met [] (timer_step c w.near.station) None (timer_waiting_held joined reads rests_on.laws w h is (timely is)))
      by Up is =
          now_unless c d (timer_refusal w.near.station) w done h
          (λ _. step_now stand w w.back w.met [] (timer_step c w.near.station) None (timer_up_held joined reads rests_on.laws w h (ap is_up is)))
      by Closed is =
          now_unless c d (timer_refusal w.near.station) w done h
          (λ _. step_now stand w w.back w.met [] (timer_step c w.near.station) None (timer_closed_held joined reads rests_on.laws w h is))
      by phase is = rw (ap (λ p. timer_runs p w.near.station) is) (stays_now c d w h)

  acts_held : {stand : Standing} (a : Act) (w : Sessions) → IsTimely c d a w → OnLine c d w → Held stand c d w
      → Held (standing_acts c d a w stand) c d (acts c a w)
  acts_held {stand} (Put packet) w timely line h =
      let step = put_step c packet w.near.station in
      let done = after_step c w w.back w.met (packet ∷ []) step in
      now_if c d (nat_le (length packet) c.longest) w (unless (put_refusal w.near.station) w done) h
      (λ short. now_unless c d (put_refusal w.near.station) w done h
      (λ accepted. step_now stand w w.back w.met (packet ∷ []) step None
      (put_held joined reads rests_on.laws w h (put_accepted w.near.station accepted) packet (leb-true _ _ short))))
  acts_held {stand} Deliver w timely line h = deliver_held w h line w.back refl
  acts_held {stand} T1 w timely line h = timer_held w h timely
  acts_held {stand} Connect w timely line h =
      let step = connect_step c w.near.station in
      now_unless c d (connect_refusal w.near.station.phase) w (after_step c w w.back w.met [] step) h
      (λ accepted. step_now stand w w.back w.met [] step None (connect_held joined reads rests_on.laws w h line (connects_from w.near.station.phase accepted)))
  acts_held {stand} Disconnect w timely line h =
      let step = disconnect_step c w.near.station in
      now_unless c d (disconnect_refusal w.near.station.phase) w (after_step c w w.back w.met [] step) h
      (λ accepted. step_now stand w w.back w.met [] step None (disconnect_held joined reads rests_on.laws w h accepted))
  acts_held {stand} Abandon w timely line h =
      let step = abandon_step c w.near.station in
      now_if c d (is_up w.near.station.phase) w (after_step c w w.back w.met [] step) h
      (λ up. step_now stand w w.back w.met [] step None (abandon_held joined reads rests_on.laws w h up))
  acts_held {stand} Probe w timely line h =
      let step = timer_step c w.near.station in
      now_if c d (is_up w.near.station.phase) w (after_step c w w.back w.met [] step) h
      (λ up. step_now stand w w.back w.met [] step None (timer_up_held joined reads rests_on.laws w h up))
  acts_held {stand} (Lose i) w timely line h =
      let v : Sessions = record w { back = remove w.back i } in
      still_now stand w (gone_at c w (Some i)) refl (change_held joined reads rests_on.laws h line (removes w.back i))
  acts_held {stand} (Damage i octets) w timely line h = by (is_visible octets) refl
    where
      v : Sessions
      v = record w { back = replaced w.back i (with_octets octets) }

      by : (b : Bool) → is_visible octets ≡ b
          → HeldNow stand c d (gone_at c w (if b then Some i else None)) w (if b then record w { back = replaced w.back i (with_octets octets) } else w)
      by true visible =
          still_now stand w (gone_at c w (Some i)) refl
          (change_held joined reads rests_on.laws h line (replaces (with_octets octets) (λ _. (refl, visible)) w.back i))
      by false hidden = stays_now c d w h

-- ---- the other end

abbrev pub held_swapped : {stand : Standing} (c d : LinkSettings) → AreJoined c d → (w : Sessions) → Held stand c d w → Held (other_way stand) d c (swapped w)
held_swapped {stand} c d joined w h =
    record {
      alone = one.stations_swapped h.alone;
      holds = joint_swapped joined.longest h.holds;
      near = h.far;
      far = h.near;
      near_lists = h.far_lists;
      far_lists = h.near_lists;
      no_frmr = h.no_frmr;
      whole = record {
        given = h.whole.given;
        handed_down = λ x there. elim (h.whole.handed_down x there) [ inl near ↦ inr near | inr far ↦ inl far ];
        whole = rw joined.longest h.whole.whole;
      };
    }

-- ---- runs

event_held : {stand : Standing} (c d : LinkSettings) → ReadsSpelled → SessionLaws → (e : LinkEvent) (w : Sessions) → IsTimelyAt c d e w → Both c d w
    → Held stand c d w → Held (standing_happens c d e w stand) c d (happens c d e w)
event_held {stand} c d reads rests_on (Near act) w timely both h = acts_held both.joined reads rests_on act w timely (on_line reads rests_on both) h
event_held {stand} c d reads rests_on (Far act) w timely both h =
    held_swapped d c both.turn (acts d act (swapped w))
    (acts_held both.turn reads rests_on act (swapped w) timely (on_line reads rests_on (both_swapped both)) (held_swapped c d both.joined w h))

-- what each event keeps is so after a run
run_keeps : (P : Standing → Sessions → Type 0) (c d : LinkSettings)
    → ((e : LinkEvent) (w : Sessions) (stand : Standing) → IsTimelyAt c d e w → P stand w → P (standing_happens c d e w stand) (happens c d e w))
    → (es : List LinkEvent) (w : Sessions) (stand : Standing) → AreTimely c d es w → P stand w → P (standing_run c d es w stand) (run c d es w)
run_keeps P c d keeps [] w stand timely h = h
run_keeps P c d keeps (e ∷ es) w stand timely h = run_keeps P c d keeps es (happens c d e w) (standing_happens c d e w stand) timely.1
    (keeps e w stand timely.0 h)

-- ---- how a run begins

start_held : {c d : LinkSettings} → AreJoined c d → (p : Phase) (b : ℕ) → ((from : Role) (n1 : ℕ) → IsThere p from n1 (with_nothing p 0) b [] fresh [] b b)
    → Held (standing_at c d (start_with p b)) c d (start_with p b)
start_held {c} {d} joined p b there =
    record {
      alone = start;
      holds = start_machine joined;
      near = there (other c.role) c.longest;
      far = there (other d.role) d.longest;
      near_lists = record { down = refl; up = refl };
      far_lists = record { down = refl; up = refl };
      no_frmr = tt;
      whole = record { given = []; handed_down = λ x there. absurd (omega (arith, there.1)); whole = tt };
    }

begin_held : {c d : LinkSettings} → AreJoined c d → {begin : Sessions} → IsStart begin → Held (standing_at c d begin) c d begin
begin_held {c} {d} joined is = elim is [
  | inl down ↦ rw down (start_held joined Down 0 (λ from n1. is_out Down refl (λ waits. absurd (cc))))
  | inr up ↦ rw up (start_held joined Up 1 (λ from n1. is_there Up refl (record { station = refl; session = refl; comes = refl; of = tt })))
]

-- ---- the claims

is_session : {c d : LinkSettings} → AreJoined c d → {v : Stations} → Holds c d v → IsSession c d v
is_session {c} {d} joined {v} holds =
    record {
      order = holds_order holds;
      lists = holds_lists holds;
      window = holds_window holds;
      no_frmr = holds.1.no_frmr;
      whole = holds_whole joined holds;
    }

stands : {stand : Standing} (c d : LinkSettings) → AreJoined c d → (w : Sessions) → Held stand c d w → is_up w.near.station.phase ≡ true → Stands c d w
stands {stand} c d joined w h up =
    let i = up_in_session c d w h up in
    record {
      alone = h.alone;
      session = is_session joined (stand.machine, h.holds);
      other_session = stand.far;
      station = i.is.station;
      down = sym h.near_lists.down ∙ ap w.near.down (sym i.is.session);
      up = sym h.near_lists.up ∙ ap w.near.up (sym i.is.session);
      far_down = sym h.far_lists.down;
      far_up = sym h.far_lists.up;
      line = i.is.comes;
      of_session = i.is.of;
      both = λ far_up. (let j = up_in_session d c (swapped w) (held_swapped c d joined w h) far_up in
          record {
            station = j.is.station;
            session = sym j.is.session;
            line = j.is.comes;
            of_session = subst (λ n. AllOf (other d.role) d.longest n w.out) (sym i.is.session) j.is.of;
          });
    }

-- ---- the machine behind what stands

stands_with : {stand : Standing} (c d : LinkSettings) → AreJoined c d → (w : Sessions) → Held stand c d w → is_up w.near.station.phase ≡ true
    → StandsWith c d w stand
unfolding stands
stands_with {stand} c d joined w h up =
    record {
      stands = stands c d joined w h up;
      near = sym (up_in_session c d w h up).is.session;
      far = refl;
      behind = is_behind h.holds;
    }

each_stands_with : {stand : Standing} (c d : LinkSettings) → AreJoined c d → (w : Sessions) → Held stand c d w → EachUpStandsWith c d w stand
each_stands_with {stand} c d joined w h =
    record { near = stands_with c d joined w h; far = stands_with d c (joined_swapped joined) (swapped w) (held_swapped c d joined w h) }

-- with what stands
abbrev pub HeldOf : LinkSettings → LinkSettings → Sessions → Type 0
HeldOf c d w = (stand : Standing) × Held stand c d w

module _ (reads : ReadsSpelled) (rests_on : SessionLaws) where
  pub goes_along : {c d : LinkSettings} → AreJoined c d → {begin : Sessions} → IsStart begin → (events : List LinkEvent) → AreTimely c d events begin
      → Held (standing_run c d events begin (standing_at c d begin)) c d (run c d events begin)
  goes_along {c} {d} joined {begin} is events timely =
      (run_keeps (λ stand w. Held stand c d w × Both c d w) c d
      (λ e w stand at h. (event_held c d reads rests_on e w at h.1 h.0, event_both reads rests_on e at h.1))
      events begin (standing_at c d begin) timely (begin_held joined is, begin_both reads rests_on joined is)).0

  pub throughout : Throughout HeldOf
  throughout c d joined begin is events timely = (standing_run c d events begin (standing_at c d begin), goes_along joined is events timely)

  pub standing_goes_along : StandingGoesAlong
  standing_goes_along c d joined begin is events timely = each_stands_with c d joined (run c d events begin) (goes_along joined is events timely)

  pub each_stands : Throughout EachUpStands
  each_stands c d joined begin is events timely =
      let w = run c d events begin in
      let h = (throughout c d joined begin is events timely).1 in
      let turn = joined_swapped joined in
      record { near = stands c d joined w h; far = stands d c turn (swapped w) (held_swapped c d joined w h) }

  pub never_frmr : Throughout NoSessionSendsFrmr
  never_frmr c d joined begin is events timely = (throughout c d joined begin is events timely).1.no_frmr

  pub send_whole : Throughout AllSessionsSendWhole
  send_whole c d joined begin is events timely =
      let w = run c d events begin in
      let h = (throughout c d joined begin is events timely).1.whole in
      record { given = h.given; handed_down = h.handed_down; whole = subst (λ n. AreWhole n h.given w.sent) (sym joined.longest) h.whole }
