-- What one event does to the sessions of two link stations, by cases of the event.
use Rattle.x25_line.proofs.Names.{◌≡◌, ◌<◌, ◌⊎◌, ℕ, suc, List, [], ◌∷◌, length, map, inl, inr, Bool, true, false, if◌then◌else◌, Option, Some, None, Ok, refl}
use Rattle.x25_line.proofs.Names.{sym, ◌++◌, Err, ap, ◌∙◌, subst, arith, append-nil, nat_le, option_to_list, PlainFrame, info, rr, rnr, rej, sabm, Short}
use Rattle.x25_line.proofs.Names.{ReadsSpelled, LinkError, Reason, FrmrSent, LinkSettings, LinkStation, is_up, LinkStep, other, take_step, put_step}
use Rattle.x25_line.proofs.Names.{put_refusal, Window, Input, window_of, brought_by, ending_of, Follows, Act, Put, Deliver, Lose, Damage, Near, Far, is_visible}
use Rattle.x25_line.proofs.Names.{number_in, said, Entry, SessionEnd, Meeting, Sessions, turned, swapped, begun_by, after_step, unless, meets, delivered, acts}
use Rattle.x25_line.proofs.{Choices.{unless_by, if_by}, Names.{Throughout, AllOf, SessionLaws}, StationEvents.{own_by}, StationSteps.{not_both, not_afresh}}
use Rattle.x25_line.proofs.{ends.Meetings.{twice_turned}, sessions.SessionHeld.{extended_same, extended_other}, sessions.SessionLines.{Read, none_is_some}}
use Rattle.x25_line.proofs.sessions.{SessionSeenRuns.{Both, both_swapped}, SessionSteps.{end_after, nothing_handed}, SessionTakes.{read_of}}
use Rattle.x25_line.proofs.sessions.{SessionUp.{follows_no_packet}, TwoSessions.{hears_latest, running, throughout_of}}
use Rattle.x25_line.specs.laws.SessionEvents.{NextBegins, GoesOn, HandsInSession, EachEventHandsInSession, latest, BeginsAfresh, MeetsNone, MeetsOne}
use Rattle.x25_line.specs.laws.SessionEvents.{EachEventMeetsLatest}
use Rattle.x25_link.specs.laws.NoteLaw.{Tells, HandsUp, TakeHandsUp}

-- ---- a step

-- the end after a step
abbrev end_by : SessionEnd → List (List ℕ) → LinkStep → SessionEnd
end_by e down step = end_after e (begun_by step.notes.up e.begun) down step

stays : (e : SessionEnd) → GoesOn [] [] e e
stays e = record {
  begun = refl;
  down = sym (append-nil (e.down e.begun));
  up = sym (append-nil (e.up e.begun));
  other_down = λ n never. refl;
  other_up = λ n never. refl;
}

-- no LinkUp is noted
step_goes : (e : SessionEnd) (down : List (List ℕ)) (step : LinkStep) → step.notes.up ≡ false → GoesOn down (option_to_list step.packet) e (end_by e down step)
step_goes e down step low =
    rw low (record {
      begun = refl;
      down = extended_same e.down e.begun down;
      up = extended_same e.up e.begun (option_to_list step.packet);
      other_down = λ n never. extended_other e.down e.begun n down never;
      other_up = λ n never. extended_other e.up e.begun n (option_to_list step.packet) never;
    })

-- nor is anything handed up
quiet_goes : (e : SessionEnd) (step : LinkStep) → step.packet ≡ None → step.notes.up ≡ false → GoesOn [] [] e (end_by e [] step)
quiet_goes e step none low = subst (λ o. GoesOn [] (option_to_list o) e (end_by e [] step)) none (step_goes e [] step low)

step_begins : (e : SessionEnd) (step : LinkStep) → step.packet ≡ None → step.notes.up ≡ true → NextBegins e (end_by e [] step)
step_begins e step none high =
    let same = nothing_handed e (suc e.begun) step none in
    subst (λ b. NextBegins e (end_after e (begun_by b e.begun) [] step)) (sym high) (record { begun = refl; down = same.down; up = same.up })

-- as LinkUp is noted nothing is handed up
begins_empty : {s : LinkStation} {step : LinkStep} → HandsUp s step → step.notes.up ≡ true → step.packet ≡ None
begins_empty {step = step} h high = go step.packet refl
  where
    go : (o : Option (List ℕ)) → step.packet ≡ o → step.packet ≡ None
    go None is = is
    go (Some packet) is = not_both step.notes.up high (ap (λ n. n.up) (h.quiet packet is))

-- nor outside of Up
out_empty : {s : LinkStation} {step : LinkStep} → HandsUp s step → is_up s.phase ≡ false → step.packet ≡ None
out_empty {s} {step} h off = go step.packet refl
  where
    go : (o : Option (List ℕ)) → step.packet ≡ o → step.packet ≡ None
    go None is = is
    go (Some packet) is = not_both (is_up s.phase) (ap is_up (h.up packet is)) off

-- ---- what one event hands down and up

-- the near end's lists go on, or the next session begins, and the far end stays as it was
abbrev Hands : Act → Sessions → Sessions → Type 0
Hands act w v = HandsInSession act w.near v.near × (v.far ≡ w.far)

abbrev HandsNothing : Sessions → Sessions → Type 0
HandsNothing w v = GoesOn [] [] w.near v.near × (v.far ≡ w.far)

as_it_was : (w : Sessions) → HandsNothing w w
as_it_was w = (stays w.near, refl)

put_hands : (o : Option LinkError) (c : LinkSettings) (packet : List ℕ) (w : Sessions)
    → Hands (Put packet) w (unless o w (after_step c w w.back w.met (packet ∷ []) (put_step c packet w.near.station)))
put_hands (Some e) c packet w = ((false, stays w.near), refl)
put_hands None c packet w = ((true, step_goes w.near (packet ∷ []) (put_step c packet w.near.station) refl), refl)

put_by : (b : Bool) (packet : List ℕ) (w v : Sessions) → Hands (Put packet) w v → Hands (Put packet) w (if b then v else w)
put_by true packet w v h = h
put_by false packet w v h = ((false, stays w.near), refl)

deliver_hands : TakeHandsUp → (c : LinkSettings) (es : List Entry) (w : Sessions) → Hands Deliver w (delivered c es w)
deliver_hands hands_up c [] w = (inr (None, stays w.near), refl)
deliver_hands hands_up c (e ∷ es) w = (by (take_step c e.octets w.near.station) (hands_up c e.octets w.near.station), refl)
  where
    by : (step : LinkStep) → HandsUp w.near.station step → HandsInSession Deliver w.near (end_by w.near [] step)
    by step h = go step.notes.up refl
      where
        go : (b : Bool) → step.notes.up ≡ b → HandsInSession Deliver w.near (end_by w.near [] step)
        go true high = inl (step_begins w.near step (begins_empty h high) high)
        go false low = inr (step.packet, step_goes w.near [] step low)

acts_hands : TakeHandsUp → (c : LinkSettings) (a : Act) (w : Sessions) → Hands a w (acts c a w)
acts_hands hands_up c (Put packet) w =
    put_by (nat_le (length packet) c.longest) packet w
    (unless (put_refusal w.near.station) w (after_step c w w.back w.met (packet ∷ []) (put_step c packet w.near.station)))
    (put_hands (put_refusal w.near.station) c packet w)
acts_hands hands_up c Deliver w = deliver_hands hands_up c w.back w
acts_hands hands_up c (Lose i) w = (stays w.near, refl)
acts_hands hands_up c (Damage i octets) w = if_by (HandsNothing w) (is_visible octets) (as_it_was w) (λ _. (stays w.near, refl))
acts_hands hands_up c act w = own_by (HandsNothing w) c w.near.station w (after_step c w w.back w.met []) (as_it_was w)
    (λ step none low. (quiet_goes w.near step none low, refl)) act

pub each_hands_in_session : TakeHandsUp → EachEventHandsInSession
each_hands_in_session hands_up c d (Near act) w = acts_hands hands_up c act w
each_hands_in_session hands_up c d (Far act) w = acts_hands hands_up d act (swapped w)

-- ---- no LinkUp is noted where a frame with a number comes

valid_quiet : (b : Bool) (k : ℕ) (input : Input) {s : LinkStation} {step : LinkStep} → Tells s step
    → (let o : Option Reason = if b then None else Some FrmrSent in Follows o k input s step) → step.notes.up ≡ false
valid_quiet true k input tells stay = ap (λ n. n.up) stay.quiet
valid_quiet false k input {s} {step} tells end = not_afresh tells (ap is_up end.phase)

number_quiet : (r : Read) (f : PlainFrame) (k : ℕ) (v : Window) {s : LinkStation} {step : LinkStep} → number_in r ≡ Some f → Tells s step
    → Follows (ending_of r v) k (brought_by r) s step → step.notes.up ≡ false
number_quiet (Ok (info ns nr p x)) f k v {s} {step} some tells h = valid_quiet _ k _ tells h
number_quiet (Ok (rr command nr pf)) f k v {s} {step} some tells h = valid_quiet _ k _ tells h
number_quiet (Ok (rnr command nr pf)) f k v {s} {step} some tells h = valid_quiet _ k _ tells h
number_quiet (Ok (rej command nr pf)) f k v {s} {step} some tells h = valid_quiet _ k _ tells h
number_quiet r f k v some tells h = none_is_some f some

-- ---- which sessions meet

abbrev SameMet : Sessions → Sessions → Type 0
SameMet w v = v.met ≡ w.met

-- the session that begins has no lists
afresh : {old new : SessionEnd} → ((n : ℕ) → old.begun < n → (old.down n ≡ []) × (old.up n ≡ [])) → NextBegins old new → BeginsAfresh old new
afresh {old} {new} later next =
    let none = later (suc old.begun) (omega arith) in
    record { begins = next; down = ap new.down next.begun ∙ next.down (suc old.begun) ∙ none.0; up = ap new.up next.begun ∙ next.up (suc old.begun) ∙ none.1 }

-- nothing is handed up
step_meets_none : (w : Sessions) → ((n : ℕ) → w.near.begun < n → (w.near.down n ≡ []) × (w.near.up n ≡ [])) → (step : LinkStep) (now : List Meeting)
    → step.packet
    ≡ None → now ≡ w.met → MeetsNone w.near (end_by w.near [] step) w.met now
step_meets_none w later step now none same = record { met = same; nothing_up = by step.notes.up refl }
  where
    by : (b : Bool) → step.notes.up ≡ b → BeginsAfresh w.near (end_by w.near [] step) ⊎ GoesOn [] [] w.near (end_by w.near [] step)
    by true high = inl (afresh later (step_begins w.near step none high))
    by false low = inr (quiet_goes w.near step none low)

-- who is met, by the frame with an N(R)
number_meets : (r : Read) (m : Meeting) (met : List Meeting) → meets (said r) m met ≡ map (λ (f : PlainFrame). m) (option_to_list (number_in r)) ++ met
number_meets (Ok (sabm p)) m met = refl
number_meets (Err Short) m met = refl
number_meets r m met = refl

module _ (reads : ReadsSpelled) (rests : SessionLaws) (hands_up : TakeHandsUp) where
  deliver_meets : (c d : LinkSettings) (w : Sessions) → Both c d w → (es : List Entry) → w.back ≡ es
      → MeetsOne Deliver (latest w) w.near (delivered c es w).near w.met (delivered c es w).met
  deliver_meets c d w h [] is = inr (record { met = refl; nothing_up = inr (stays w.near) })
  deliver_meets c d w h (e ∷ es) is = by (is_up w.near.station.phase) refl
    where
      step : LinkStep
      step = take_step c e.octets w.near.station

      met : List Meeting
      met = (delivered c (e ∷ es) w).met

      pair : Meeting
      pair = record { near = w.near.begun; far = e.session }

      follows : is_up w.near.station.phase ≡ true
          → Follows (ending_of (read_of c e) (window_of c.window w.near.station)) c.window (brought_by (read_of c e)) w.near.station step
      follows up = rests.laws.window.take c e.octets w.near.station (running reads rests c d w h up) (read_of c e) refl

      met_if : Bool → List Meeting
      met_if b = if b then meets (said (read_of c e)) pair w.met else w.met

      heard_up : is_up w.near.station.phase ≡ true → (o : Option PlainFrame) → number_in (read_of c e) ≡ o
          → met ≡ map (λ (f : PlainFrame). pair) (option_to_list o) ++ w.met
      heard_up up o number =
          (ap met_if up ∙ number_meets (read_of c e) pair w.met) ∙ ap (λ x. map (λ (f : PlainFrame). pair) (option_to_list x) ++ w.met) number

      goes : is_up w.near.station.phase ≡ true → (o : Option PlainFrame) → number_in (read_of c e) ≡ o → (number_in (read_of c e) ≡ None)
          ⊎ (e.session ≡ w.far.begun)
          → MeetsOne Deliver (latest w) w.near (end_by w.near [] step) w.met met
      goes up None none of =
          inr (step_meets_none w h.near.later step met
          (follows_no_packet (ending_of (read_of c e) (window_of c.window w.near.station)) c.window (read_of c e) w.near.station step none (follows up))
          (heard_up up None none))
      goes up (Some f) some (inl none) = none_is_some f (sym none ∙ some)
      goes up (Some f) some (inr session) =
          inl (record {
            met = heard_up up (Some f) some ∙ ap (λ n. let m : Meeting = record { near = w.near.begun; far = n } in m ∷ w.met) session;
            packet = step.packet;
            goes_on = step_goes w.near [] step
                (number_quiet (read_of c e) f c.window (window_of c.window w.near.station) some (rests.laws.take_tells c e.octets w.near.station) (follows up));
          })

      by : (b : Bool) → is_up w.near.station.phase ≡ b → MeetsOne Deliver (latest w) w.near (end_by w.near [] step) w.met met
      by true up = goes up (number_in (read_of c e)) refl
          ((subst (λ xs. AllOf (other c.role) c.longest w.far.begun xs) is (hears_latest reads rests c d w h up)).0)
      by false off =
          inr (step_meets_none w h.near.later step met (out_empty (hands_up c e.octets w.near.station) off) (ap met_if off))

  acts_meet : {c d : LinkSettings} (a : Act) {w : Sessions} → Both c d w → MeetsOne a (latest w) w.near (acts c a w).near w.met (acts c a w).met
  acts_meet {c} (Put packet) {w} h =
      let done = after_step c w w.back w.met (packet ∷ []) (put_step c packet w.near.station) in
      if_by (SameMet w) (nat_le (length packet) c.longest) refl (λ _. unless_by (SameMet w) (put_refusal w.near.station) refl (λ _. refl))
  acts_meet {c} {d} Deliver {w} h = deliver_meets c d w h w.back refl
  acts_meet (Lose i) h = refl
  acts_meet (Damage i octets) {w} h = if_by (SameMet w) (is_visible octets) refl (λ _. refl)
  acts_meet {c} act {w} h = own_by (SameMet w) c w.near.station w (after_step c w w.back w.met []) refl (λ step none low. refl) act

  -- ---- the other end

  turned_back : (now before : List Meeting) → now ≡ map turned before → map turned now ≡ before
  turned_back now before same = ap (map turned) same ∙ twice_turned before

  meets_turned : (a : Act) (pair : Meeting) (old new : SessionEnd) (before now : List Meeting) → MeetsOne a pair old new (map turned before) now
      → MeetsOne a (turned pair) old new before (map turned now)
  meets_turned Deliver pair old new before now h = elim h [
    | inl m ↦ inl (record { met = ap (map turned) m.met ∙ ap (λ xs. turned pair ∷ xs) (twice_turned before); packet = m.packet; goes_on = m.goes_on })
    | inr m ↦ inr (record { met = turned_back now before m.met; nothing_up = m.nothing_up })
  ]
  meets_turned a pair old new before now h = turned_back now before h

  -- ---- the claim

  event_meets : (c d : LinkSettings) (w : Sessions) → Both c d w → EachEventMeetsLatest c d w
  event_meets c d w h (Near act) = acts_meet act h
  event_meets c d w h (Far act) =
      let v = acts d act (swapped w) in
      meets_turned act (latest (swapped w)) w.far v.near w.met v.met (acts_meet act (both_swapped h))

  pub each_event_meets_latest : Throughout EachEventMeetsLatest
  each_event_meets_latest = throughout_of reads rests EachEventMeetsLatest event_meets
