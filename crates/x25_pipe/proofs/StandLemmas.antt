-- How it stands after a turn.
use Rattle.x25_pipe.proofs.Names.{◌≡◌, ◌∙◌, ◌==◌, ℕ, Bool, true, false, List, [], ◌∷◌, ◌++◌, map, Option, Some, None, Result, ap, sym, subst, refl, ◌||◌}
use Rattle.x25_pipe.proofs.Names.{append-nil, or-false, Role, AppendsPrefix, PullsAll, StationEntry, StationEvent, FitsStation, Settings, layer_settings}
use Rattle.x25_pipe.proofs.Names.{Station, Outcome, Did, Refused, prefix_more, saying_line, sayings_text, has_refusal, Turn, and_then, pulled_behind, Act}
use Rattle.std.proofs.{Common.{ap₂, Ok, MatchResult}, Math.Bool.{or-true}, lemmas.List.{map-append}, lemmas.Result.{MatchResult-weaker}}
use Rattle.x25_clock.specs.Clock.{is_heard}
use Rattle.x25_console.specs.Telling.{nothing_line, refusal_line}
use Rattle.x25_frame.specs.{Frame.{PlainFrame}, Spelling.{spelling_of}}
use Rattle.x25_io.specs.{code.Written.{Tells}, declared.fault.Fault.{Fault}}
use Rattle.x25_layer.specs.{Calls.{LayerOutcome, Accepted, Declined, layer_outcome}, laws.Rounds.{Answered, Went, Refuses, calls}}
use Rattle.x25_link.specs.Link.{alone}
use Rattle.x25_pipe.proofs.{Names.{act_of, asked_act, event_act, event_in, nothing_act, turn, Stands, Pipe}, SayingLemmas.{parts_text, parts_refused}}
use Rattle.x25_pipe.specs.Pipe.{Saying, enters, sends, refuses, reads_nothing, said, step_told, and_pulls, with_pulls, timer_with_pulls, asked_turn, event_turn}
use Rattle.x25_pipe.specs.{Pipe.{mark_turn, marked}, code.Stands.{Acted, IsActed, Stood, Turns, IsStep, IsError, answer_told}}
use Rattle.x25_station.specs.{Config.{link_settings}, Error.{number_of}, Pulling.{pulled, pulled_of}, Station.{view_of, waiting_after}}
use Rattle.x25_station.specs.{Step.{Step, did, requests, entries_of_outcome}, Timer.{standing, timer_pulled}, code.Pulls.{Pulls}}
use Rattle.x25_station.specs.declared.{error.StationError.{StationError}, error.StationError.TheVariants.{NoMemory}, timer.Timer.{Timer}}
use Rattle.x25_station.specs.declared.station.Station as code
use Rattle.x25_station.specs.declared.step.Step as code_step
use Rattle.x25_station.specs.laws.TimerLaw as timer
use Rattle.x25_station.specs.code.FitsStation as fits

-- how it stands, by the turn that led there
abbrev pub StandsAt : Settings → Option (List ℕ) → Option (List ℕ) → Pipe → List ℕ → Bool → Turn → Type 0
StandsAt c old next u told refused t = Stands c old next u t.next (told ++ sayings_text c.role t.sayings) (refused || has_refusal t.sayings)

abbrev pub BeginsAt : Settings → Option (List ℕ) → Option (List ℕ) → List ℕ → Turn → Type 0
BeginsAt c old next told t = AppendsPrefix old next (told ++ sayings_text c.role t.sayings)

-- ---- one turn behind another

module _ (c : Settings) (old next : Option (List ℕ)) (told : List ℕ) (refused : Bool) (rest : Station → Turn) (t : Turn) where
  pub stands_behind : (u : Pipe) → StandsAt c old next u (told ++ sayings_text c.role t.sayings) (refused || has_refusal t.sayings) (rest t.next)
      → StandsAt c old next u told refused (and_then rest t)
  stands_behind u h =
      subst (λ text. Stands c old next u (rest t.next).next text (refused || has_refusal (and_then rest t).sayings))
      (parts_text c.role told t.sayings (rest t.next).sayings)
      (subst (Stands c old next u (rest t.next).next ((told ++ sayings_text c.role t.sayings) ++ sayings_text c.role (rest t.next).sayings))
      (parts_refused refused t.sayings (rest t.next).sayings) h)

  pub begins_behind : BeginsAt c old next (told ++ sayings_text c.role t.sayings) (rest t.next) → BeginsAt c old next told (and_then rest t)
  begins_behind b = subst (AppendsPrefix old next) (parts_text c.role told t.sayings (rest t.next).sayings) b

  pub begins_before : BeginsAt c old next told t → BeginsAt c old next told (and_then rest t)
  begins_before b =
      subst (AppendsPrefix old next) (parts_text c.role told t.sayings (rest t.next).sayings)
      (prefix_more old next (told ++ sayings_text c.role t.sayings) (sayings_text c.role (rest t.next).sayings) b)

-- ---- one saying

pub one_told : (end : Role) (told : List ℕ) (x : Saying) → told ++ saying_line end x ≡ told ++ sayings_text end (x ∷ [])
one_told end told x = ap (λ t. told ++ t) (sym (append-nil (saying_line end x)))

pub stands_marked : (c : Settings) (old next : Option (List ℕ)) (u : Pipe) (s : Station) (told line : List ℕ) (refused : Bool) (x : Saying)
    → has_refusal (x ∷ []) ≡ false
    → line ≡ saying_line c.role x → FitsStation c u.station s → u.end ≡ c.role → u.is_refused ≡ refused → Tells old next u.output (told ++ line)
    → StandsAt c old next u told refused (said s (x ∷ []))
stands_marked c old next u s told line refused x none same fits role status tells = record {
  fits = fits;
  role = role;
  tells = subst (Tells old next u.output) (ap (λ t. told ++ t) same ∙ one_told c.role told x) tells;
  status = status ∙ sym (or-false refused) ∙ ap (λ b. refused || b) (sym none);
}

-- what was refused
pub stands_refused : (c : Settings) (old next : Option (List ℕ)) (u : Pipe) (s : Station) (told line : List ℕ) (refused : Bool) (x : Saying)
    → has_refusal (x ∷ []) ≡ true
    → line ≡ saying_line c.role x → FitsStation c u.station s → u.end ≡ c.role → u.is_refused ≡ true → Tells old next u.output (told ++ line)
    → StandsAt c old next u told refused (said s (x ∷ []))
stands_refused c old next u s told line refused x is same fits role status tells = record {
  fits = fits;
  role = role;
  tells = subst (Tells old next u.output) (ap (λ t. told ++ t) same ∙ one_told c.role told x) tells;
  status = status ∙ sym (or-true refused) ∙ ap (λ b. refused || b) (sym is);
}

pub begins_told : (c : Settings) (old next : Option (List ℕ)) (s : Station) (told line : List ℕ) (x : Saying) → line ≡ saying_line c.role x
    → AppendsPrefix old next (told ++ line)
    → BeginsAt c old next told (said s (x ∷ []))
begins_told c old next s told line x same b = subst (AppendsPrefix old next) (ap (λ t. told ++ t) same ∙ one_told c.role told x) b

pub refusal_said : (end : Role) (error : StationError) → refusal_line (number_of error) ≡ saying_line end (refuses error)
unfolding saying_line
refusal_said end error = refl

pub nothing_said : (end : Role) → nothing_line ≡ saying_line end reads_nothing
unfolding saying_line
nothing_said end = refl

-- ---- what a call of the station answered

-- an error that isn't want of memory
pub error_is : (error : StationError) (o : Outcome) → IsError error o → (error ≡ NoMemory → ⊥) → o ≡ Refused error
error_is error (Did step) is other = absurd (other is)
error_is error (Refused e) same other = ap Refused (sym same)

-- entries and frames are no refusals
none_refused : (entries : List StationEntry) (frames : List (List ℕ)) → has_refusal (map enters entries ++ map sends frames) ≡ false
none_refused [] [] = refl
none_refused [] (f ∷ frames) = none_refused [] frames
none_refused (e ∷ entries) frames = none_refused entries frames

-- what is said of it is what the definition says
pub answer_is : (c : Settings) (v : code.Station) (step : code_step.Step) (plain : Step) → IsStep c v step (Did plain) → answer_told step ≡ step_told c plain
answer_is c v step plain h =
    ap (λ entries. map enters entries ++ map sends step.frames) h.enters
    ∙ ap (λ frames. map enters plain.entries ++ map sends frames) h.sends

-- a step of which entries and frames are told
pub stands_told : (c : Settings) (old next : Option (List ℕ)) (u : Pipe) (step : code_step.Step) (plain : Step) (told : List ℕ) (refused : Bool)
    → IsStep c u.station step (Did plain) → u.end ≡ c.role → Tells old next u.output (told ++ sayings_text c.role (answer_told step)) → u.is_refused ≡ refused
    → StandsAt c old next u told refused (said plain.near (step_told c plain))
stands_told c old next u step plain told refused h role tells status = record {
  fits = h.leaves;
  role = role;
  tells = subst (λ sayings. Tells old next u.output (told ++ sayings_text c.role sayings)) (answer_is c u.station step plain h) tells;
  status = status ∙ sym (or-false refused) ∙ ap (λ b. refused || b) (sym (none_refused plain.entries (map (spelling_of c.role) plain.out)));
}

pub begins_step : (c : Settings) (old next : Option (List ℕ)) (v : code.Station) (step : code_step.Step) (plain : Step) (told : List ℕ)
    → IsStep c v step (Did plain) → AppendsPrefix old next (told ++ sayings_text c.role (answer_told step))
    → BeginsAt c old next told (said plain.near (step_told c plain))
begins_step c old next v step plain told h b = subst (λ sayings. AppendsPrefix old next (told ++ sayings_text c.role sayings)) (answer_is c v step plain h) b

-- whether it is heard doesn't go by what spells the frames
heard_spelled : (come : Bool) (f : PlainFrame → List ℕ) (out : List PlainFrame) (entries : List StationEntry) → is_heard come (map f out) entries
    ≡ is_heard come out entries
heard_spelled come f [] [] = refl
heard_spelled come f [] (e ∷ entries) = refl
heard_spelled come f (x ∷ out) entries = refl

pub heard_same : (c : Settings) (v : code.Station) (step : code_step.Step) (plain : Step) (come : Bool) → IsStep c v step (Did plain)
    → is_heard come step.frames step.entries.items ≡ is_heard come plain.out plain.entries
heard_same c v step plain come h =
    ap₂ (λ (frames : List (List ℕ)) (entries : List StationEntry). is_heard come frames entries) h.sends h.enters
    ∙ heard_spelled come (spelling_of c.role) plain.out plain.entries

-- no step is answered where the definition refuses
pub is_step : (c : Settings) (v : code.Station) (step : code_step.Step) (P : Outcome → Type 0) → ((plain : Step) → IsStep c v step (Did plain) → P (Did plain))
    → (o : Outcome) → IsStep c v step o → P o
is_step c v step P f (Did plain) h = f plain h
is_step c v step P f (Refused e) h = absurd h.accepted

-- ---- what comes of a line, but for its mark

module _ (c : Settings) (old now : Option (List ℕ)) (q : Pipe) (s : Station) (told : List ℕ) (refused : Bool) (result : Result Unit Fault) where
  -- what was refused, or asks for nothing
  acted_quiet : (line : List ℕ) (x : Saying) → has_refusal (x ∷ []) ≡ true → line ≡ saying_line c.role x
      → MatchResult result (λ _. Tells old now q.output (told ++ line)) (λ _. AppendsPrefix old now (told ++ line))
      → FitsStation c q.station s → q.end ≡ c.role → q.is_refused ≡ true → q.step.timer ≡ standing s → fits.IsEmpty q.step
      → Acted c old now q told refused result (record { next = s; sayings = x ∷ []; timer = standing s; entries = []; is_heard = false })
  acted_quiet line x is same tells fits role status timer empty = MatchResult-weaker result tells
      (λ _ t. record {
        stands = stands_refused c old now q s told line refused x is same fits role status t;
        timer = timer;
        entries = empty.entries;
        is_heard = ap₂ (λ (frames : List (List ℕ)) (entries : List StationEntry). is_heard q.has_come frames entries) empty.frames empty.entries;
      })
      (λ _ b. begins_told c old now s told line x same b)

  pub acted_nothing : MatchResult result (λ _. Tells old now q.output (told ++ nothing_line)) (λ _. AppendsPrefix old now (told ++ nothing_line))
      → FitsStation c q.station s → q.end ≡ c.role → q.is_refused ≡ true → q.step.timer ≡ standing s → fits.IsEmpty q.step
      → Acted c old now q told refused result (nothing_act s)
  acted_nothing tells fits role status timer empty = acted_quiet nothing_line reads_nothing refl (nothing_said c.role) tells fits role status timer empty

  pub acted_refused : (event : StationEvent) (error : StationError) (o : Outcome) → o ≡ Refused error
      → MatchResult result (λ _. Tells old now q.output (told ++ refusal_line (number_of error)))
      (λ _. AppendsPrefix old now (told ++ refusal_line (number_of error)))
      → FitsStation c q.station s → q.end ≡ c.role → q.is_refused ≡ true → q.step.timer ≡ standing s → fits.IsEmpty q.step
      → Acted c old now q told refused result (act_of c s event o)
  acted_refused event error o is tells fits role status timer empty = subst (λ o. Acted c old now q told refused result (act_of c s event o)) (sym is)
      (acted_quiet (refusal_line (number_of error)) (refuses error) refl (refusal_said c.role error) tells fits role status timer empty)

-- ---- and with it

act_marked : (c : Settings) (s : Station) (asked : Option StationEvent) → let a =
    asked_act c s asked in asked_turn c s asked ≡ marked c a.timer a.next a.sayings
unfolding event_turn event_act
act_marked c s None = refl
act_marked c s (Some event) = refl

turn_marked : (c : Settings) (line : List ℕ) (s : Station) → let a =
    asked_act c s (event_in c.wide c.role line) in turn c line s ≡ marked c a.timer a.next a.sayings
unfolding turn
turn_marked c line s = act_marked c s (event_in c.wide c.role line)

module _ (c : Settings) (old now next : Option (List ℕ)) (told : List ℕ) (refused : Bool) (line : List ℕ) (s : Station) where
  abbrev here : Act
  here = asked_act c s (event_in c.wide c.role line)

  pub marks_behind : (q u : Pipe) (result : Result Unit Fault) → IsActed c old now q told refused here
      → Turns c old now next q u result (mark_turn c q.step.timer)
      → Stood c old next u told refused result (turn c line s)
  marks_behind q u result h mark =
      subst (Stood c old next u told refused result) (sym (turn_marked c line s))
      (MatchResult-weaker result
      (subst (λ (t : Timer). Stood c old next u (told ++ sayings_text c.role here.sayings) (refused || has_refusal here.sayings) result
      (mark_turn c t here.next)) h.timer
      (mark here.next (told ++ sayings_text c.role here.sayings) (refused || has_refusal here.sayings) h.stands))
      (λ _ t. stands_behind c old next told refused (mark_turn c here.timer) (said here.next here.sayings) u t)
      (λ _ b. begins_behind c old next told refused (mark_turn c here.timer) (said here.next here.sayings) b))

pub begins_marked : (c : Settings) (old now : Option (List ℕ)) (told : List ℕ) (refused : Bool) (line : List ℕ) (s : Station)
    → AppendsPrefix old now (told ++ sayings_text c.role (asked_act c s (event_in c.wide c.role line)).sayings) → BeginsAt c old now told (turn c line s)
begins_marked c old now told refused line s b =
    let a = asked_act c s (event_in c.wide c.role line) in
    subst (BeginsAt c old now told) (sym (turn_marked c line s)) (begins_before c old now told refused (mark_turn c a.timer) (said a.next a.sayings) b)

-- ---- what is pulled behind it

abbrev behind : Step → Step → Step
behind step pulls = record { near = pulls.near; out = step.out ++ pulls.out; entries = step.entries ++ pulls.entries }

both_are : (step : Step) (o : Outcome) → pulled_behind step o ≡ behind step (pulled_of step.near o)
both_are step (Did pulls) = refl
both_are step (Refused e) =
    ap (λ (out : List PlainFrame). record { near = step.near; out = out; entries = step.entries }) (sym (append-nil step.out))
    ∙ ap (λ (entries : List StationEntry). record { near = step.near; out = step.out ++ []; entries = entries }) (sym (append-nil step.entries))

pub both_is : (c : Settings) (step : Step) → and_pulls c step ≡ behind step (pulled c step.near)
both_is c step = both_are step (requests c step.near PullsAll)

-- pulls have no entries
none_in : (c : Settings) (s : Station) (o : LayerOutcome) (a : Answered)
    → (pulled_of s (did c (alone s.link) (entries_of_outcome (layer_settings c) s.layer PullsAll o) a)).entries ≡ []
none_in c s (Accepted next packet) (Went p) = refl
none_in c s (Declined e) (Went p) = refl
none_in c s o (Refuses e) = refl

none_entered : (c : Settings) (s : Station) → (pulled c s).entries ≡ []
none_entered c s =
    let lc = layer_settings c in
    none_in c s (layer_outcome lc (waiting_after (link_settings c) s.link [] == 256) s.layer PullsAll)
    (calls (view_of (link_settings c) s.turn s.link) lc s.layer PullsAll)

module _ (c : Settings) (v u : code.Station) (step both : code_step.Step) where
  pub pulled_step : (o : Outcome) → IsStep c v step o → Pulls v u step.frames both.frames
      → both.entries ≡ step.entries → IsStep c u both (with_pulls c o)
  pulled_step (Did plain) h p entries =
      let pulls : Step = pulled c plain.near in
      subst (λ (x : Step). IsStep c u both (Did x)) (sym (both_is c plain)) (record {
        leaves = p.state c plain.near h.leaves;
        sends = p.frames c plain.near h.leaves ∙ ap (λ (xs : List (List ℕ)). xs ++ map (spelling_of c.role) pulls.out) h.sends
            ∙ sym (map-append (spelling_of c.role) plain.out pulls.out);
        enters = ap (λ es. es.items) entries ∙ h.enters ∙ sym (append-nil plain.entries)
            ∙ ap (λ es. plain.entries ++ es) (sym (none_entered c plain.near));
        accepted = tt;
      })
  pulled_step (Refused e) h p entries = absurd h.accepted

  pub pulled_timer_is : (s : Station) (event : StationEvent) (o : Outcome) → IsStep c v step o
      → ((n : Station) → FitsStation c v n → both.timer ≡ timer_pulled step.timer n (pulled c n).near)
      → step.timer ≡ timer.timer s event o → both.timer ≡ timer_with_pulls c s event o
  pulled_timer_is s event (Did plain) h is same =
      is plain.near h.leaves ∙ ap (λ (t : Timer). timer_pulled t plain.near (pulled c plain.near).near) same
      ∙ ap (λ (x : Step). timer_pulled (timer.timer s event (Did plain)) plain.near x.near) (sym (both_is c plain))
  pulled_timer_is s event (Refused e) h is same = absurd h.accepted

-- what a call answered is the step of its definition
pub is_step_of : (w : Unit) (v u : code.Station) (step : code_step.Step) (sayd : Settings → Station → Outcome) (c : Settings) (s : Station)
    → fits.Does v u step (Ok w) sayd → FitsStation c v s → IsStep c u step (sayd c s)
is_step_of w v u step sayd c s d f = record { leaves = d.state c s f; sends = d.frames c s f; enters = d.entries c s f; accepted = d.refused c s f }
