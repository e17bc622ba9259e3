-- An event of a station that is held, and a pull behind it.
use Rattle.std.{proofs.lemmas.List.{map-append}, specs.Prelude.{Ok, Err, OnErr, OnOk, false}}
use Rattle.x25_c.{proofs.Names.{◌≡◌, ◌∙◌, ◌≤◌, ◌++◌, length, map, ap, sym, refl, subst, Result, Held}, specs.Clocked.{Heeds, moment_of}}
use Rattle.x25_c.specs.{Happening.{and_pull, may_lack_at}, code.Happens.{HappensTo, IsTimer, event_of}}
use Rattle.x25_clock.specs.{Clock.{seen}, laws.ClockLaw.{comes}}
use Rattle.x25_frame.specs.Spelling.{spelling_of}
use Rattle.x25_station.specs.{Config.{Settings}, Pulling.{pulled}, Station.{Station}, Step.{Outcome, Did, Refused}, Timer.{standing, timer_pulled}}
use Rattle.x25_station.specs.code.{FitsStation.{FitsStation, FitsStill, Does, IsEmpty, Leaves, Sends, Enters, Refuses, RefusesOnly}, Pulls.{Pulls}}
use Rattle.x25_station.specs.{declared.error.StationError.{StationError}, laws.TimerLaw.{StationEvent, outcome, is_firing}}
use Rattle.x25_station.specs.declared.station.Station as code_station
use Rattle.x25_station.specs.declared.step.Step as code_step
use Rattle.x25_station.specs.code.Clock as clock
use Rattle.x25_c.specs.declared.happening.Happening as code
use Rattle.x25_c.specs.declared.happening.Happening.TheVariants as variant

abbrev accepted : Result Unit StationError
accepted = Ok tt

-- from a station that is held an event led to this one and its step, and a pull to what is held then
module _ (at : code_station.Station) (step : code_step.Step) (new : Held) (pulls : Pulls at new.station step.frames new.step.frames) (c : Settings) where
  left : (o : Outcome) → Leaves c at accepted o → Leaves c new.station accepted (and_pull c o)
  left (Did did) fits = pulls.state c did.near fits
  left (Refused e) none = tt

  sent : (o : Outcome) → Leaves c at accepted o → Sends c step accepted o → Sends c new.step accepted (and_pull c o)
  sent (Did did) fits same =
      let next = pulled c did.near in
      pulls.frames c did.near fits ∙ ap (λ frames. frames ++ map (spelling_of c.role) next.out) same ∙ sym (map-append (spelling_of c.role) did.out next.out)
  sent (Refused e) none same = tt

  entered : new.step.entries ≡ step.entries → (o : Outcome) → Enters step accepted o → Enters new.step accepted (and_pull c o)
  entered stay (Did did) same = ap (λ entries. entries.items) stay ∙ same
  entered stay (Refused e) same = tt

  timed : ((c : Settings) (s : Station) → FitsStation c at s → new.step.timer ≡ timer_pulled step.timer s (pulled c s).near)
      → (s : Station) (event : StationEvent) (o : Outcome) → Leaves c at accepted o → Refuses accepted o
      → clock.IsTimer s (is_firing event) step.timer accepted o → IsTimer c s event new.step.timer accepted o
  timed timer s event (Did did) fits refused same = timer c did.near fits ∙ ap (λ first. timer_pulled first did.near (pulled c did.near).near) same
  timed timer s event (Refused e) fits refused same = absurd refused

pub is_both : (old new : Held) (at : code_station.Station) (step : code_step.Step) (event : StationEvent)
    → Does old.station at step accepted (λ c s. outcome c s event)
    → clock.TellsTimer old.station step.timer accepted (is_firing event) (λ c s. outcome c s event)
    → (length step.frames ≤ 9 → Pulls at new.station step.frames new.step.frames)
    → (length step.frames ≤ 9 → (c : Settings) (s : Station) → FitsStation c at s → new.step.timer ≡ timer_pulled step.timer s (pulled c s).near)
    → new.step.entries ≡ step.entries → (may_lack_at event ≡ false → (c : Settings) (s : Station) → FitsStation c old.station s
    → RefusesOnly accepted (outcome c s event)) → new.end ≡ old.end → new.time ≡ old.time
    → ((c : Settings) (s : Station) → FitsStation c new.station s → Heeds (moment_of old.time) (seen c s new.step (comes event)) old.clock new.clock)
    → HappensTo old new accepted event
is_both old new at step event does timer pulls times entries only end now heeds = record {
  end = end;
  state = λ c s fits. left at step new (pulls does.few_frames) c (outcome c s event) (does.state c s fits);
  frames = λ c s fits. sent at step new (pulls does.few_frames) c (outcome c s event) (does.state c s fits) (does.frames c s fits);
  entries = λ c s fits. entered at step new (pulls does.few_frames) c entries (outcome c s event) (does.entries c s fits);
  timer = λ c s fits. timed at step new (pulls does.few_frames) c (times does.few_frames) s event (outcome c s event) (does.state c s fits)
      (does.refused c s fits) (timer c s fits);
  refused = does.refused;
  only = only;
  stays = λ c s fits. tt;
  empty = tt;
  time = now;
  heeded = heeds;
  unheeded = tt;
}

-- at what may be refused no octets come
pub asks_or_fires : (h : code.Happening) → false ≡ comes (event_of h)
asks_or_fires (variant.Asks command) = refl
asks_or_fires variant.Fires = refl

-- ---- an event that was refused

module _ (new : Held) (e : StationError) (c : Settings) where
  abbrev refusal : Result Unit StationError
  refusal = Err e

  none_left : (o : Outcome) → Leaves c new.station refusal (and_pull c o)
  none_left (Did step) = tt
  none_left (Refused e') = tt

  none_sent : (o : Outcome) → Sends c new.step refusal (and_pull c o)
  none_sent (Did step) = tt
  none_sent (Refused e') = tt

  none_entered : (o : Outcome) → Enters new.step refusal (and_pull c o)
  none_entered (Did step) = tt
  none_entered (Refused e') = tt

-- the station is as before, and its step is empty
pub is_refused : (old new : Held) (e : StationError) (event : StationEvent) → new.end ≡ old.end
    → ((c : Settings) (s : Station) → FitsStation c old.station s → Refuses {T = Unit} (Err e) (outcome c s event))
    → (may_lack_at event ≡ false → (c : Settings) (s : Station) → FitsStation c old.station s → RefusesOnly {T = Unit} (Err e) (outcome c s event))
    → ((c : Settings) (s : Station) → FitsStation c old.station s → FitsStation c new.station s)
    → IsEmpty new.step → ((c : Settings) (s : Station) → FitsStation c old.station s → new.step.timer ≡ standing s) → new.time ≡ old.time → new.clock
    ≡ old.clock → HappensTo old new (Err e) event
is_refused old new e event end refused only stays empty timer now unheeded = record {
  end = end;
  state = λ c s fits. none_left new e c (outcome c s event);
  frames = λ c s fits. none_sent new e c (outcome c s event);
  entries = λ c s fits. none_entered new e c (outcome c s event);
  timer = timer;
  refused = refused;
  only = only;
  stays = stays;
  empty = empty;
  time = now;
  heeded = tt;
  unheeded = unheeded;
}

-- an event of a station that stands for what another stood for
module _ (old mid new : Held) (event : StationEvent) (now : mid.time ≡ old.time) (clock : mid.clock ≡ old.clock) where
  heeded_from : (r : Result Unit StationError)
      → OnOk r ((c : Settings) (s : Station) → FitsStation c new.station s → Heeds (moment_of mid.time) (seen c s new.step (comes event)) mid.clock new.clock)
      → OnOk r ((c : Settings) (s : Station) → FitsStation c new.station s → Heeds (moment_of old.time) (seen c s new.step (comes event)) old.clock new.clock)
  heeded_from (Ok u) heeds = λ c s fits. subst (λ t. Heeds (moment_of t) (seen c s new.step (comes event)) old.clock new.clock) now
      (subst (λ v. Heeds (moment_of mid.time) (seen c s new.step (comes event)) v new.clock) clock (heeds c s fits))
  heeded_from (Err e) none = tt

  unheeded_from : (r : Result Unit StationError) → OnErr r (new.clock ≡ mid.clock) → OnErr r (new.clock ≡ old.clock)
  unheeded_from (Ok u) none = tt
  unheeded_from (Err e) same = same ∙ clock

pub from_still : (old mid new : Held) (r : Result Unit StationError) (event : StationEvent) → FitsStill old.station mid.station → mid.end ≡ old.end → mid.time
    ≡ old.time → mid.clock ≡ old.clock → HappensTo mid new r event
    → HappensTo old new r event
from_still old mid new r event still end now clock h = record {
  end = h.end ∙ end;
  state = λ c s fits. h.state c s (still c s fits);
  frames = λ c s fits. h.frames c s (still c s fits);
  entries = λ c s fits. h.entries c s (still c s fits);
  timer = λ c s fits. h.timer c s (still c s fits);
  refused = λ c s fits. h.refused c s (still c s fits);
  only = λ none c s fits. h.only none c s (still c s fits);
  stays = λ c s fits. h.stays c s (still c s fits);
  empty = h.empty;
  time = h.time ∙ now;
  heeded = heeded_from old mid new event now clock r h.heeded;
  unheeded = unheeded_from old mid new event now clock r h.unheeded;
}
