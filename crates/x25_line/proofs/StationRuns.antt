-- Each event keeps what holds of two stations, so each run does.
use Rattle.x25_line.proofs.Names.{◌≡◌, ℕ, ◌≤◌, List, [], ◌∷◌, ◌++◌, inl, length, map, drop, Bool, true, false, if◌then◌else◌, Option, Some, None, refl, sym, ap}
use Rattle.x25_line.proofs.Names.{◌∙◌, subst, arith, append-nil, option_to_list, spelling_of, frame_of, ReadsSpelled, after, HandDown, Waiting, Reason, Retries}
use Rattle.x25_line.proofs.Names.{LinkSettings, is_up, LinkStep, other, take_step, put_step, ShowAll, IsSound, Follows, Stations, Act, Deliver, LinkEvent, Near}
use Rattle.x25_line.proofs.Names.{Far, stations_swapped, start, place_of, machine_run, machine_at_start, Laws, AreJoined, IsSetUpOnce, number_in, numbered_on}
use Rattle.x25_line.proofs.{Kept.{Way, Kept-moved, Kept-swapped}, Losses.{each_less}, Names.{MachineReaches, near_moves, HandsOne, Line, line_swapped}}
use Rattle.x25_line.proofs.{StationActs.{OfSteps, of_act}, StationAway.{first_false}, StationEvents.{each_hands_one}}
use Rattle.x25_line.proofs.{StationLines.{IsOrderly, AreOrderly, shows_less, visible_is, whole_more, either_way}, StationSends.{AllWithin, within_push}}
use Rattle.x25_line.proofs.StationSteps.{AsUp, NotesOnce, Joint, Leads, StepLeads, Noted, left_up, stays_out, in_vain, left_joint, stands_still, stays_joint}
use Rattle.x25_line.{proofs.StationSteps.{not_both, quiet_joint, parts_joint, ends_joint, read_joint, away_joint}, specs.laws.Line.{moved}}
use Rattle.x25_line.specs.laws.{Line.Move.{HandsDown}, StationClaims.{at_start, far_moves, NotesUp}, Stations.{after_step, acts, happens, run, fresh_station}}
use Rattle.x25_line.specs.laws.WholeNumbers.{gone_from, machine_acts, machine_happens}
use Rattle.x25_link.specs.{Outgoing.{no_packet}, laws.NoteLaw.{Tells}, laws.WindowMachine.{nothing}}
use Rattle.x25_window.specs.laws.Window.{fresh_end}

reached_swapped : {k j : ℕ} {l : Line (List ℕ)} → MachineReaches k j l → MachineReaches j k (line_swapped l)
reached_swapped at_start = at_start
reached_swapped {k} {j} (near_moves v m h ok) = far_moves (line_swapped v) m (reached_swapped h) ok
reached_swapped {k} {j} (far_moves v m h ok) = near_moves (line_swapped v) m (reached_swapped h) ok

-- what the near end put
put_behind : (xs ys : List (List ℕ)) → drop (length xs) (xs ++ ys) ≡ ys
put_behind [] ys = refl
put_behind (x ∷ xs) ys = put_behind xs ys

nothing_put : (xs : List (List ℕ)) → drop (length xs) xs ≡ []
nothing_put [] = refl
nothing_put (x ∷ xs) = nothing_put xs

module _ {c d : LinkSettings} (joined : AreJoined c d) (reads : ReadsSpelled) (laws : Laws) where
  -- ---- what is handed down

  pub put_up : {w : Stations} {l : Line (List ℕ)} (packet : List ℕ) → Joint c d w l → AsUp c w.near.station l.near → length packet ≤ c.longest
      → StepLeads c d w l None w.back (packet ∷ []) (put_step c packet w.near.station)
  put_up {w} {l} packet h u short =
      let longest = joined.longest in
      stays_joint joined reads (moved (HandsDown packet) l) None refl h u.up
      (record {
        reached = near_moves l (HandsDown packet) h.reached tt;
        kept = Kept-moved (HandsDown packet) tt h.kept;
        near = ap (λ z. after z (HandDown packet)) (sym u.same);
        far = refl;
        out = append-nil l.out;
        left = h.back;
        orderly = h.back_orderly;
        given = ap (λ xs. xs ++ packet ∷ []) (h.near_has.down ∙ sym (ap (λ z. z.given) u.same));
        taken = append-nil w.near.up ∙ h.near_has.up ∙ sym (ap (λ z. z.taken) u.same);
        within = within_push d.longest w.near.station.outgoing.given packet (subst (AllWithin d.longest) (sym (ap (λ z. z.given) u.same)) h.near_has.within)
            (omega arith);
        same_sent = ap (λ z. z.sent) u.same;
      })
      (laws.window.put c packet w.near.station (record { up = u.up; sound = u.sound }))

  -- ---- timer T1

  pub timer_by : {w : Stations} {l : Line (List ℕ)} → Joint c d w l → AsUp c w.near.station l.near → (b : Bool) {step : LinkStep} → Tells w.near.station step
      → Follows (if b then None else Some Retries) c.window nothing w.near.station step → StepLeads c d w l None w.back [] step
  timer_by {w} {l} h u true {step} tells follows = quiet_joint joined reads h u h.back_orderly h.back refl (λ y k. k) follows
  timer_by {w} {l} h u false {step} tells follows = ends_joint joined reads h u.up tt h.back h.back_orderly tells follows

  -- ---- each act

  -- the machine of the definition is behind what comes, once what stands at this place is taken off the line
  abbrev LedTo : Stations → Line (List ℕ) → Option ℕ → Stations → Type 0
  LedTo w l place v = Leads c d l (gone_from (other c.role) c.longest w.back place) (drop (length w.out) v.out) v

  of_steps : (w : Stations) (l : Line (List ℕ)) → Joint c d w l → OfSteps c w l.near (LedTo w l)
  of_steps w l h = record {
    fits = h.near;
    still = stays None (stands_still h);
    none_comes = λ is. stays (Some 0) (rw is (left_joint h None (shows [] is) tt));
    takes = λ o os is u no_sabm.
        (let good = orderly (o ∷ os) is in
        steps (Some 0) [] (take_step c o w.near.station) (rw is (read_joint joined reads h u (frame_of (other c.role) c.longest o)
        good.0 no_sabm good.1
        (shows (o ∷ os) is) (laws.take_tells c o w.near.station)
        (laws.window.take c o w.near.station (record { up = u.up; sound = u.sound }) (frame_of (other c.role) c.longest o) refl))));
    puts = λ packet u short. steps None (packet ∷ []) (put_step c packet w.near.station) (put_up packet h u short);
    rests = λ step u same. steps None [] step (quiet_joint joined reads h u h.back_orderly h.back refl (λ y k. k) same);
    parts = λ step parts. steps None [] step (parts_joint joined reads h None h.back h.back_orderly parts);
    passes = λ o os is step parts. steps (Some 0) [] step (rw is
        (away_joint joined reads h (number_in (frame_of (other c.role) c.longest o)) (orderly (o ∷ os) is).1
        (shows (o ∷ os) is) parts));
    loses = λ i less. stays (Some i) (left_joint h (place_of (other c.role) c.longest w.back i) (shows_less (other c.role) c.longest less l.back h.back)
        (each_less (λ o. IsOrderly (frame_of (other c.role) c.longest o)) (λ o p visible _. visible_is IsOrderly (other c.role) c.longest p visible tt tt)
        less h.back_orderly));
  }
    where
      orderly : (os : List (List ℕ)) → w.back ≡ os → AreOrderly (other c.role) c.longest os
      orderly os is = subst (AreOrderly (other c.role) c.longest) is h.back_orderly

      shows : (os : List (List ℕ)) → w.back ≡ os → ShowAll (numbered_on (other c.role) c.longest os) l.back
      shows os is = subst (λ z. ShowAll (numbered_on (other c.role) c.longest z) l.back) is h.back

      steps : (place : Option ℕ) {back : List (List ℕ)} (down : List (List ℕ)) (step : LinkStep)
          → StepLeads c d w l (gone_from (other c.role) c.longest w.back place) back down step → LedTo w l place (after_step c w back down step)
      steps place down step leads = rw (put_behind w.out (map (spelling_of c.role) step.side.out)) leads

      stays : (place : Option ℕ) {os : List (List ℕ)} → Leads c d l (gone_from (other c.role) c.longest w.back place) [] (record w { back = os })
          → LedTo w l place (record w { back = os })
      stays place leads = rw (nothing_put w.out) leads

  pub act_joint : (a : Act) {w : Stations} {l : Line (List ℕ)} → (acts c a w).near.came_up ≡ false → Joint c d w l
      → Joint c d (acts c a w) (machine_acts c a w l)
  act_joint a {w} {l} once h = of_act laws (of_steps w l h) a once

  -- where no UA is awaited, one LinkDown at most was noted
  pub few_acts : (a : Act) {w : Stations} {l : Line (List ℕ)} → (acts c a w).near.came_up ≡ false → Joint c d w l → (w.near.station.phase ≡ Waiting → ⊥)
      → length w.near.reasons ≤ 1 → length (acts c a w).near.reasons ≤ 1
  few_acts a {w} once h still few = of_act laws {Q = λ place v. length v.near.reasons ≤ 1} (record {
    fits = h.near;
    still = few;
    none_comes = λ is. few;
    takes = λ o os is u no_sabm. first u.up _;
    puts = λ packet u short. first u.up (put_step c packet w.near.station).notes.down;
    rests = λ step u stays. first u.up _;
    parts = λ step parts. by step parts.noted;
    passes = λ o os is step parts. by step parts.noted;
    loses = λ i less. few;
  }) a once
    where
      first : is_up w.near.station.phase ≡ true → (reason : Option Reason) → length (w.near.reasons ++ option_to_list reason) ≤ 1
      first up None = rw (h.near_has.notes.notes.still_up up) (omega arith)
      first up (Some reason) = rw (h.near_has.notes.notes.still_up up) (omega arith)

      by : (step : LinkStep) → Noted w.near.station step → length (w.near.reasons ++ option_to_list step.notes.down) ≤ 1
      by step (left_up reason leaves up down not_up) = first up _
      by step (stays_out out quiet) = rw (quiet, append-nil w.near.reasons) few
      by step (in_vain waits down not_up) = absurd (still waits)

-- ---- the other end

-- settings of two ends, seen from the other
pub joined_swapped : {c d : LinkSettings} → AreJoined c d → AreJoined d c
joined_swapped j =
    record {
      near_role = j.far_role;
      far_role = j.near_role;
      longest = sym j.longest;
      near_low = j.far_low;
      near_high = j.far_high;
      far_low = j.near_low;
      far_high = j.near_high;
    }

-- what the far end sends, and what it hears, reads at both ends as the same
pub there : {c d : LinkSettings} → AreJoined c d → (octets : List ℕ) → frame_of d.role d.longest octets ≡ frame_of (other c.role) c.longest octets
there joined octets = rw (sym joined.far_role, sym joined.longest) refl

-- one end reads octets as the other means them
pub here : {c d : LinkSettings} → AreJoined c d → (octets : List ℕ) → frame_of (other d.role) d.longest octets ≡ frame_of c.role c.longest octets
here joined octets = rw (joined.near_role, sym joined.longest) refl

-- two stations and their machine, seen from the other end
pub joint_swapped : {c d : LinkSettings} → c.longest ≡ d.longest → {w : Stations} {l : Line (List ℕ)} → Joint c d w l
    → Joint d c (stations_swapped w) (line_swapped l)
joint_swapped {c} {d} same {w} {l} h =
    record {
      reached = reached_swapped h.reached;
      kept = Kept-swapped h.kept;
      near = h.far;
      far = h.near;
      out = h.back;
      back = h.out;
      out_orderly = h.back_orderly;
      back_orderly = h.out_orderly;
      near_has = h.far_has;
      far_has = h.near_has;
      no_frmr = h.no_frmr;
      whole = whole_more c.longest (w.near.down ++ w.far.down) (w.far.down ++ w.near.down) (either_way w.near.down w.far.down) w.sent (rw same h.whole);
    }

pub event_joint : {c d : LinkSettings} → AreJoined c d → ReadsSpelled → Laws → (e : LinkEvent) {w : Stations} {l : Line (List ℕ)}
    → IsSetUpOnce (happens c d e w)
    → Joint c d w l → Joint c d (happens c d e w) (machine_happens c d e w l)
event_joint joined reads laws (Near act) once h = act_joint joined reads laws act once.near h
event_joint joined reads laws (Far act) once h = joint_swapped (sym joined.longest)
    (act_joint (joined_swapped joined) reads laws act once.far (joint_swapped joined.longest h))

-- ---- LinkUp that was noted stays so

-- LinkUp that isn't noted after an act wasn't before it
pub noted_before : (a : Act) (old new : Bool) → NotesUp a old new → new ≡ false → old ≡ false
noted_before Deliver old new more e = first_false old more.0 (sym more.1 ∙ e)
noted_before a old new same e = sym same ∙ e

before_act : {a : Act} {w v : Stations} → HandsOne a w v → IsSetUpOnce v → IsSetUpOnce w
before_act {a} {w} {v} h once = record {
  near = noted_before a w.near.came_up v.near.came_up h.came_up once.near;
  far = ap (λ e. e.came_up) (sym h.far) ∙ once.far;
}

event_before : (c d : LinkSettings) (e : LinkEvent) (w : Stations) → IsSetUpOnce (happens c d e w) → IsSetUpOnce w
event_before c d (Near act) w once = before_act (each_hands_one c d (Near act) w) once
event_before c d (Far act) w once =
    let before = before_act (each_hands_one c d (Far act) w) (record { near = once.far; far = once.near }) in
    record { near = before.far; far = before.near }

-- what is set up once after a run was so before it
pub once_before : (c d : LinkSettings) (es : List LinkEvent) (w : Stations) → IsSetUpOnce (run c d es w) → IsSetUpOnce w
once_before c d [] w h = h
once_before c d (e ∷ es) w h = event_before c d e w (once_before c d es (happens c d e w) h)

-- ---- runs

-- over a run in which the link isn't set up anew the same window machine goes on
pub run_once : {c d : LinkSettings} → AreJoined c d → ReadsSpelled → Laws → (es : List LinkEvent) {w : Stations} {l : Line (List ℕ)} → Joint c d w l
    → IsSetUpOnce (run c d es w) → Joint c d (run c d es w) (machine_run c d es w l)
run_once joined reads laws [] h once = h
run_once {c} {d} joined reads laws (e ∷ es) {w} h once = run_once joined reads laws es
    (event_joint joined reads laws e (once_before c d es (happens c d e w) once) h) once

fresh_notes : NotesOnce fresh_station
fresh_notes = record { notes = record { still_up = λ on. refl; left = λ off. not_both true refl off }; once = refl }

-- a station, and an end of the machine, that have begun
pub fresh_sound : (k : ℕ) → IsSound k no_packet
fresh_sound k = record { place_low = omega arith; place_high = omega arith; sent_high = omega arith; room = omega arith }

fresh_way : {k : ℕ} → k ≤ 7 → Way (fresh_end {T = List ℕ} k) [] 0 [] []
fresh_way high = record { high = high; room = omega arith; held = omega arith; acks = omega arith; late = omega arith; tops = omega arith; begins = refl }

-- the machine with which a link that was just set up begins
pub start_machine : {c d : LinkSettings} → AreJoined c d → Joint c d start (machine_at_start c d)
start_machine {c} {d} joined = record {
  reached = at_start;
  kept = record { from_near = fresh_way joined.near_high; from_far = fresh_way joined.far_high };
  near = inl (record { up = refl; sound = fresh_sound c.window; same = refl });
  far = inl (record { up = refl; sound = fresh_sound d.window; same = refl });
  out = tt;
  back = tt;
  out_orderly = tt;
  back_orderly = tt;
  near_has = record { down = refl; up = refl; within = tt; notes = fresh_notes };
  far_has = record { down = refl; up = refl; within = tt; notes = fresh_notes };
  no_frmr = tt;
  whole = tt;
}
