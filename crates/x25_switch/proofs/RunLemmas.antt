-- What a switch makes of its calls is what events make of their crossings.
use Rattle.std.proofs.Common.{◌≡◌, inl, inr, ℕ, zero, suc, Bool, true, false, if◌then◌else◌, List, [], ◌∷◌, ◌++◌, map, Option, Some, None}
use Rattle.std.proofs.Common.{slice_set, refl, sym, ap, subst}
use Rattle.std.specs.Prelude.{slice_get, Result, Ok, Err}
use Rattle.x25_bits.specs.declared.role.Role.{Role}
use Rattle.x25_circuit.specs.Notice.{PlainNotice, incoming}
use Rattle.x25_circuit.specs.declared.awaits.Awaits.{Awaits}
use Rattle.x25_crossing.specs.Asking.{asked_at, sent_at, interrupt_sent_at, flowed_at}
use Rattle.x25_crossing.specs.Cause.{restart_goes_on}
use Rattle.x25_crossing.specs.Crossing.{PlainCrossing}
use Rattle.x25_crossing.specs.Told.{PlainTold, ended, refused, lingered, told_at, lacks_at}
use Rattle.x25_crossing.specs.declared.side.Side.{Side}
use Rattle.x25_crossing.specs.declared.side.Side.TheVariants.{Near, Far}
use Rattle.x25_crossing.specs.laws.HandingLaw.{Tells, Lacks, Asked, Sent, InterruptSent, Flowed}
use Rattle.x25_layer.specs.laws.Transcript.{Said}
use Rattle.x25_layer.specs.laws.Transcript as said
use Rattle.x25_station.specs.Entry.{StationEntry, of_channel, restart_asked, link_up, link_down, was_restarted, restart_confirmed}
use Rattle.x25_station.specs.Error.{number_of}
use Rattle.x25_station.specs.declared.error.StationError.{StationError}
use Rattle.x25_station.specs.declared.station.Station.{Station}
use Rattle.x25_station.specs.declared.step.Step.{Step}
use Rattle.x25_switch.specs.Calls.{PlainCall, with_crossing, place_of, changed_nth, changed_at, vacated, called_on, is_on, lost_leg, lost_call}
use Rattle.x25_switch.specs.Calls.{lingered_call, Sweeps, None_is, One_is}
use Rattle.x25_switch.specs.Leg.{accepted, told_of}
use Rattle.x25_switch.specs.Switch.{new_call, Hears, HeedsNotice, HeedsSaid, HeedsEntry, Heeds, is_clearing}
use Rattle.x25_switch.specs.code.Asked.{IsAsked, Cleared, Made, Wanted, Makes, NotMade, LeadsTo, channel_asked, refused_for}
use Rattle.x25_switch.specs.code.Asked.{is_too_much}
use Rattle.x25_switch.specs.declared.leg.Kind.{Kind}
use Rattle.x25_switch.specs.declared.leg.Kind.TheVariants as kind
use Rattle.x25_switch.specs.laws.RunLaw.{Runs, AllRun, HeedingRuns, AskingRuns, LingeringRuns}

-- ---- one event more

told_runs : (octets : ℕ) (told : PlainTold) (side : Side) (x : PlainCrossing) → Runs octets x → Runs octets (told_at side told x)
told_runs octets told Near x h = (Tells Near told ∷ h.0, ap (λ (y : PlainCrossing). told_at Near told y) h.1)
told_runs octets told Far x h = (Tells Far told ∷ h.0, ap (λ (y : PlainCrossing). told_at Far told y) h.1)

lacks_runs : (octets : ℕ) (side : Side) (x : PlainCrossing) → Runs octets x → Runs octets (lacks_at side x)
lacks_runs octets Near x h = (Lacks Near lingered ∷ h.0, ap (λ (y : PlainCrossing). lacks_at Near y) h.1)
lacks_runs octets Far x h = (Lacks Far lingered ∷ h.0, ap (λ (y : PlainCrossing). lacks_at Far y) h.1)

asked_runs : (octets : ℕ) (side : Side) (x : PlainCrossing) → Runs octets x → Runs octets (asked_at side x)
asked_runs octets Near x h = (Asked Near ∷ h.0, ap (λ (y : PlainCrossing). asked_at Near y) h.1)
asked_runs octets Far x h = (Asked Far ∷ h.0, ap (λ (y : PlainCrossing). asked_at Far y) h.1)

accepted_runs : (octets : ℕ) (what : Kind) (side : Side) (x : PlainCrossing) → Runs octets x → Runs octets (accepted what side x)
accepted_runs octets kind.Control side x h = asked_runs octets side x h
accepted_runs octets kind.Interrupt Near x h = (InterruptSent Near ∷ h.0, ap (λ (y : PlainCrossing). interrupt_sent_at Near y) h.1)
accepted_runs octets kind.Interrupt Far x h = (InterruptSent Far ∷ h.0, ap (λ (y : PlainCrossing). interrupt_sent_at Far y) h.1)
accepted_runs octets kind.Message Near x h = (Sent Near ∷ h.0, ap (λ (y : PlainCrossing). sent_at Near y) h.1)
accepted_runs octets kind.Message Far x h = (Sent Far ∷ h.0, ap (λ (y : PlainCrossing). sent_at Far y) h.1)
accepted_runs octets kind.Flow Near x h = (Flowed Near ∷ h.0, ap (λ (y : PlainCrossing). flowed_at Near y) h.1)
accepted_runs octets kind.Flow Far x h = (Flowed Far ∷ h.0, ap (λ (y : PlainCrossing). flowed_at Far y) h.1)

-- ---- of a list of calls

module _ (octets : ℕ) where
  nth_runs : (change : Side → PlainCrossing → PlainCrossing) → ((side : Side) (x : PlainCrossing) → Runs octets x → Runs octets (change side x))
      → (side : Side) (n : ℕ) (cs : List PlainCall) → AllRun octets cs → AllRun octets (changed_nth change side n cs)
  nth_runs change ok side n [] all = tt
  nth_runs change ok side zero (c ∷ cs) all = (ok side c.crossing all.0, all.1)
  nth_runs change ok side (suc n) (c ∷ cs) all = (all.0, nth_runs change ok side n cs all.1)

  at_runs : (change : Side → PlainCrossing → PlainCrossing) → ((side : Side) (x : PlainCrossing) → Runs octets x → Runs octets (change side x))
      → (o : Option (ℕ × Side)) (cs : List PlainCall) → AllRun octets cs → AllRun octets (changed_at change o cs)
  at_runs change ok None cs all = all
  at_runs change ok (Some found) cs all = nth_runs change ok found.1 found.0 cs all

  map_runs : (f : PlainCall → PlainCall) → ((c : PlainCall) → Runs octets c.crossing → Runs octets (f c).crossing) → (cs : List PlainCall)
      → AllRun octets cs → AllRun octets (map f cs)
  map_runs f ok [] all = tt
  map_runs f ok (c ∷ cs) all = (ok c all.0, map_runs f ok cs all.1)

  set_runs : (n : ℕ) (cs : List PlainCall) (c d : PlainCall) → slice_get cs n ≡ Some c → (Runs octets c.crossing → Runs octets d.crossing)
      → AllRun octets cs → AllRun octets (slice_set cs n d)
  set_runs n [] c d at ok all = absurd (cc)
  set_runs zero (e ∷ cs) c d at ok all =
      let same : e ≡ c = cc in (ok (subst (λ (x : PlainCall). Runs octets x.crossing) same all.0), all.1)
  set_runs (suc n) (e ∷ cs) c d at ok all = (all.0, set_runs n cs c d at ok all.1)

  more_run : (cs : List PlainCall) (c : PlainCall) → Runs octets c.crossing → AllRun octets cs → AllRun octets (cs ++ c ∷ [])
  more_run [] c one all = (one, tt)
  more_run (d ∷ cs) c one all = (all.0, more_run cs c one all.1)

  without_runs : (front : List PlainCall) (c : PlainCall) (back : List PlainCall) → AllRun octets (front ++ c ∷ back) → AllRun octets (front ++ back)
  without_runs [] c back all = all.1
  without_runs (d ∷ front) c back all = (all.0, without_runs front c back all.1)

  swept_runs : (old new : List PlainCall) → Sweeps old new → AllRun octets old → AllRun octets new
  swept_runs old new (None_is same) all = subst (AllRun octets) (sym same) all
  swept_runs old new (One_is front back c is_over was is) all =
      subst (AllRun octets) (sym is) (without_runs front c back (subst (AllRun octets) was all))

  vacated_runs : (line channel : ℕ) (cs : List PlainCall) → AllRun octets cs → AllRun octets (vacated line channel cs)
  vacated_runs line channel cs all = at_runs (λ side x. told_at side (ended 9 0) x) (told_runs octets (ended 9 0)) (place_of line channel cs) cs all

  -- ---- what a switch heeds

  leg_runs : (told : PlainTold) (side : Side) (c : PlainCall) (b : Bool) → Runs octets c.crossing
      → Runs octets (if b then with_crossing (told_at side told c.crossing) c else c).crossing
  leg_runs told side c true h = told_runs octets told side c.crossing h
  leg_runs told side c false h = h

  lost_runs : (told : PlainTold) (line : ℕ) (old new : List PlainCall) → new ≡ map (lost_call told line) old → AllRun octets old → AllRun octets new
  lost_runs told line old new is all =
      subst (AllRun octets) (sym is) (map_runs (lost_call told line) (λ c h. leg_runs told Far (lost_leg told line Near c)
      (is_on line Far (lost_leg told line Near c)) (leg_runs told Near c (is_on line Near c) h)) old all)

  hears_runs : (line channel : ℕ) (o : Option PlainTold) (old new : List PlainCall) → Hears line channel o old new → AllRun octets old
      → AllRun octets new
  hears_runs line channel None old new is all = subst (AllRun octets) (sym is) all
  hears_runs line channel (Some told) old new (inl is) all =
      subst (AllRun octets) (sym is) (at_runs (λ side x. told_at side told x) (told_runs octets told) (place_of line channel old) old all)
  hears_runs line channel (Some told) old new (inr lacks) all =
      subst (AllRun octets) (sym lacks.1) (at_runs (λ side x. lacks_at side x) (lacks_runs octets) (place_of line channel old) old all)

  notice_runs : (line channel : ℕ) (clears : Bool) (notice : PlainNotice) (old new : List PlainCall)
      → HeedsNotice octets line channel clears notice old new → AllRun octets old → AllRun octets new
  notice_runs line channel clears (incoming request) old new (inl is) all = subst (AllRun octets) (sym is) (vacated_runs line channel old all)
  notice_runs line channel clears (incoming request) old new (inr is) all =
      subst (AllRun octets) (sym is) (more_run (vacated line channel old) (new_call octets line channel) ([], refl) (vacated_runs line channel old all))
  notice_runs line channel clears notice old new is all = hears_runs line channel (told_of clears notice) old new is all

  said_runs : (line channel : ℕ) (clears : Bool) (what : Said) (old new : List PlainCall) → HeedsSaid octets line channel clears what old new
      → AllRun octets old → AllRun octets new
  said_runs line channel clears (said.Asked request) old new is all = subst (AllRun octets) (sym is) all
  said_runs line channel clears (said.Told notice) old new is all = notice_runs line channel clears notice old new is all

  entry_runs : (line : ℕ) (awaited : ℕ → Awaits) (entry : StationEntry) (old new : List PlainCall) → HeedsEntry octets line awaited entry old new
      → AllRun octets old → AllRun octets new
  entry_runs line awaited (of_channel e) old new is all = said_runs line e.channel (is_clearing (awaited e.channel)) e.said old new is all
  entry_runs line awaited (was_restarted cause diagnostic) old new is all = lost_runs (ended (restart_goes_on cause) diagnostic) line old new is all
  entry_runs line awaited link_up old new is all = lost_runs (ended 9 0) line old new is all
  entry_runs line awaited (link_down reason) old new is all = lost_runs (ended 9 0) line old new is all
  entry_runs line awaited (restart_asked cause diagnostic) old new is all = lost_runs (ended 9 0) line old new is all
  entry_runs line awaited restart_confirmed old new is all = lost_runs (ended 9 0) line old new is all
  entry_runs line awaited entry old new is all = subst (AllRun octets) (sym is) all

  entries_run : (line : ℕ) (awaited : ℕ → Awaits) (es : List StationEntry) (old new : List PlainCall) → Heeds octets line awaited es old new
      → AllRun octets old → AllRun octets new
  entries_run line awaited [] old new is all = subst (AllRun octets) (sym is) all
  entries_run line awaited (e ∷ es) old new h all =
      entries_run line awaited es h.0 new h.2 (entry_runs line awaited e old h.0 h.1 all)

  -- ---- what a switch asks

  not_made_runs : (number : ℕ) (c d : PlainCall) → NotMade number c d → Runs octets c.crossing → Runs octets d.crossing
  not_made_runs number c d (inl is) h = subst (λ (x : PlainCall). Runs octets x.crossing) (sym is) h
  not_made_runs number c d (inr is) h =
      subst (λ (x : PlainCall). Runs octets x.crossing) (sym is)
      (told_runs octets (refused (refused_for number).0 (refused_for number).1) Far c.crossing h)

  makes_runs : (line n : ℕ) (answer : Result Unit StationError) (out : Step) (calls left : List PlainCall) → Makes line n answer out calls left
      → AllRun octets calls → AllRun octets left
  makes_runs line n (Ok u) out calls left m all =
      let channel = channel_asked out.entries.items in
      subst (AllRun octets) (sym m.2) (set_runs n (vacated line channel calls) m.0 (called_on line channel m.0) m.1
      (asked_runs octets Far m.0.crossing) (vacated_runs line channel calls all))
  makes_runs line n (Err e) out calls left m all =
      subst (AllRun octets) (sym m.4) (set_runs n calls m.0 m.1 m.2 (not_made_runs (number_of e) m.0 m.1 m.3) all)

  leads_runs : (what : Kind) (side : Side) (answer : Result Unit StationError) (c d : PlainCall) → LeadsTo what side answer c d
      → Runs octets c.crossing → Runs octets d.crossing
  leads_runs what side (Ok u) c d is h =
      subst (λ (x : PlainCall). Runs octets x.crossing) (sym is) (accepted_runs octets what side c.crossing h)
  leads_runs what side (Err e) c d is h =
      subst (λ (x : PlainCall). Runs octets x.crossing) (sym is) (leg_runs (refused 17 39) side c (is_too_much what (number_of e)) h)

  asked_run : (line : ℕ) (role : Role) (calls left : List PlainCall) (old new : Station) (out : Step) (answer : Result Unit StationError)
      → IsAsked line role calls left old new out answer → AllRun octets calls → AllRun octets left
  asked_run line role calls left old new out answer (Cleared is) all =
      subst (AllRun octets) (sym is.vacates) (vacated_runs line is.channel calls all)
  asked_run line role calls left old new out answer (Made is) all = makes_runs line is.place answer out calls left is.made all
  asked_run line role calls left old new out answer (Wanted is) all =
      swept_runs (slice_set calls is.place is.after) left is.sweeps
      (set_runs is.place calls is.call is.after is.at (leads_runs is.kind is.side answer is.call is.after is.leads) all)

  -- ---- time passes

  lingers_run : (c : PlainCall) → (b : Bool) → Runs octets c.crossing
      → Runs octets (if b then with_crossing (told_at Far lingered (told_at Near lingered c.crossing)) c else c).crossing
  lingers_run c true h = told_runs octets lingered Far (told_at Near lingered c.crossing) (told_runs octets lingered Near c.crossing h)
  lingers_run c false h = h

pub heeding_runs : HeedingRuns
heeding_runs octets line awaited es old new h all = entries_run octets line awaited es old new h all

pub asking_runs : AskingRuns
asking_runs octets line role calls left old new out answer h all = asked_run octets line role calls left old new out answer h all

pub lingering_runs : LingeringRuns
lingering_runs octets cs all = map_runs octets lingered_call (λ c h. lingers_run octets c c.lingers h) cs all
