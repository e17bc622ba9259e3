-- What a program says of an event, and where it leads.
use Rattle.x25_joined.proofs.Names.{◌≡◌, ◌∙◌, ℕ, List, [], ◌∷◌, ◌++◌, map, Option, Some, None, append-nil, ap, sym, subst, refl, spelling_of, StationEntry}
use Rattle.x25_joined.proofs.Names.{Settings, Station, Step, Outcome, Did, Refused, StationEvent, Saying, with_pulls, event_in, event_turn, turn, entries_in}
use Rattle.x25_joined.proofs.Names.{frames_in}
use Rattle.x25_pipe.specs.Pipe.{enters, sends, reads_nothing, refuses, Turn, marked, standing_turn, step_told, turn_of, pulling_turn, timer_with_pulls}
use Rattle.x25_pipe.specs.Pipe.{asked_turn}
use Rattle.x25_station.specs.{Timer.{standing}, declared.error.StationError.{StationError}, declared.timer.Timer.{Timer}}
use Rattle.x25_station.specs.laws.TimerLaw as timer

-- the entries that both parts say
pub entries-append : (xs ys : List Saying) → entries_in (xs ++ ys) ≡ entries_in xs ++ entries_in ys
entries-append [] ys = refl
entries-append (enters e ∷ xs) ys = ap (λ (es : List StationEntry). e ∷ es) (entries-append xs ys)
entries-append (other ∷ xs) ys = entries-append xs ys

pub frames-append : (xs ys : List Saying) → frames_in (xs ++ ys) ≡ frames_in xs ++ frames_in ys
frames-append [] ys = refl
frames-append (sends octets ∷ xs) ys = ap (λ (fs : List (List ℕ)). octets ∷ fs) (frames-append xs ys)
frames-append (other ∷ xs) ys = frames-append xs ys

pub entries_entered : (es : List StationEntry) → entries_in (map enters es) ≡ es
entries_entered [] = refl
entries_entered (e ∷ es) = ap (λ (xs : List StationEntry). e ∷ xs) (entries_entered es)

frames_entered : (es : List StationEntry) → frames_in (map enters es) ≡ []
frames_entered [] = refl
frames_entered (e ∷ es) = frames_entered es

pub entries_sent : (fs : List (List ℕ)) → entries_in (map sends fs) ≡ []
entries_sent [] = refl
entries_sent (f ∷ fs) = entries_sent fs

frames_sent : (fs : List (List ℕ)) → frames_in (map sends fs) ≡ fs
frames_sent [] = refl
frames_sent (f ∷ fs) = ap (λ (xs : List (List ℕ)). f ∷ xs) (frames_sent fs)

-- where a turn leads, and the entries and the frames that it says
pub record TurnIs (t : Turn) (there : Station) (es : List StationEntry) (fs : List (List ℕ)) : Type 0 where
  pub next : t.next ≡ there
  pub entries : entries_in t.sayings ≡ es
  pub frames : frames_in t.sayings ≡ fs

-- the mark behind what is said is neither
marked_is : (c : Settings) (t : Timer) (s : Station) (sayings : List Saying) (entries : List StationEntry) (frames : List (List ℕ)) → entries_in sayings
    ≡ entries → frames_in sayings ≡ frames
    → TurnIs (marked c t s sayings) s entries frames
marked_is c t s sayings entries frames e f = record {
  next = refl;
  entries = entries-append sayings _ ∙ append-nil (entries_in sayings) ∙ e;
  frames = frames-append sayings _ ∙ append-nil (frames_in sayings) ∙ f;
}

-- as it says how it stands a program says no entry and no frame
pub first_is : (c : Settings) (s : Station) → TurnIs (standing_turn c s) s [] []
first_is c s = record { next = refl; entries = refl; frames = refl }

module _ (c : Settings) (s : Station) where
  did : (t : Timer) (step : Step) (o : Outcome) → o ≡ Did step → TurnIs (turn_of c t s o) step.near step.entries (map (spelling_of c.role) step.out)
  did t step o is =
      let fs = map (spelling_of c.role) step.out in
      subst (λ (o : Outcome). TurnIs (turn_of c t s o) step.near step.entries fs) (sym is)
      (marked_is c t step.near (step_told c step) step.entries fs
      (entries-append (map enters step.entries) (map sends fs) ∙ ap (λ (es : List StationEntry). entries_in (map enters step.entries) ++ es) (entries_sent fs)
      ∙ append-nil (entries_in (map enters step.entries)) ∙ entries_entered step.entries)
      (frames-append (map enters step.entries) (map sends fs) ∙ ap (λ (xs : List (List ℕ)). xs ++ frames_in (map sends fs)) (frames_entered step.entries)
      ∙ frames_sent fs))

  refused : (t : Timer) (e : StationError) (o : Outcome) → o ≡ Refused e → TurnIs (turn_of c t s o) s [] []
  refused t e o is = subst (λ (o : Outcome). TurnIs (turn_of c t s o) s [] []) (sym is) (marked_is c t s (refuses e ∷ []) [] [] refl refl)

  of_asked : (line : List ℕ) (asked : Option StationEvent) (next : Station) (entries : List StationEntry) (frames : List (List ℕ))
      → event_in c.wide c.role line ≡ asked → TurnIs (asked_turn c s asked) next entries frames
      → TurnIs (turn c line s) next entries frames
  unfolding turn
  of_asked line asked next entries frames is h = subst (λ (o : Option StationEvent). TurnIs (asked_turn c s o) next entries frames) (sym is) h

  of_event : (event : StationEvent) (next : Station) (entries : List StationEntry) (frames : List (List ℕ))
      → TurnIs (pulling_turn c s event (timer.outcome c s event)) next entries frames
      → TurnIs (asked_turn c s (Some event)) next entries frames
  unfolding event_turn
  of_event event next entries frames h = h

  -- the turn of a line that asks for a step, which is then one with its pulls
  pub line_did : (line : List ℕ) (event : StationEvent) (step : Step) → event_in c.wide c.role line ≡ Some event → with_pulls c (timer.outcome c s event)
      ≡ Did step
      → TurnIs (turn c line s) step.near step.entries (map (spelling_of c.role) step.out)
  line_did line event step asks is = of_asked line (Some event) step.near step.entries (map (spelling_of c.role) step.out) asks
      (of_event event step.near step.entries (map (spelling_of c.role) step.out)
      (did (timer_with_pulls c s event (timer.outcome c s event)) step (with_pulls c (timer.outcome c s event)) is))

  -- of one that asks for what is refused
  pub line_refused : (line : List ℕ) (event : StationEvent) (e : StationError) → event_in c.wide c.role line ≡ Some event → timer.outcome c s event ≡ Refused e
      → TurnIs (turn c line s) s [] []
  line_refused line event e asks is = of_asked line (Some event) s [] [] asks
      (of_event event s [] [] (refused (timer_with_pulls c s event (timer.outcome c s event)) e (with_pulls c (timer.outcome c s event))
      (ap (with_pulls c) is)))

  -- of one that asks for nothing
  pub line_none : (line : List ℕ) → event_in c.wide c.role line ≡ None → TurnIs (turn c line s) s [] []
  line_none line asks = of_asked line None s [] [] asks (marked_is c (standing s) s (reads_nothing ∷ []) [] [] refl refl)
