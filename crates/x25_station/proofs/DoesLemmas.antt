-- A call does what the definition says of it, by what the calls of its link or of its layer did.
use Rattle.x25_station.proofs.Names.{ℕ}
use Rattle.x25_station.proofs.Names.{◌≡◌, ◌≤◌, List, [], length, Bool, true, false, Some, None, Result, Ok, Err, OnErr, refl, ap, sym, ◌∙◌, subst, arith}
use Rattle.x25_station.proofs.Names.{LayerRequest, LayerSettings, Layer, FitsLayer, LayerError, Answered, Went, refusal_of, alone, LinkStation, Side}
use Rattle.x25_station.proofs.Names.{WindowIsSmall, FewStand, ShownLink, LinkState, FitsWhole, may_ask, Settings, link_settings, layer_settings, StationEntry}
use Rattle.x25_station.proofs.Names.{of_layer, not_taken, kept_of, Station, all_put, view_of, Outcome, Did, Refused, did, requests, where_asked, FitsParts}
use Rattle.x25_station.proofs.Names.{AreMeant, FitsStation, Does, IsEmpty, Enters, Leaves, LinkGives, Manner, StationError, Timer, RequestKeeps}
use Rattle.x25_layer.specs.laws.Rounds.{Refuses as LayerRefuses}
use Rattle.x25_station.proofs.AskLemmas.{Layers, Links, Turns, Judges, Answers, IsNamed, answers, answered_by, requested, calls_named, judged_by, link_gives}
use Rattle.x25_station.proofs.{AskLemmas.{after_puts, refuses, still_fits}, FrameLemmas.{few_put}}
use Rattle.x25_station.{proofs.ResultLemmas.{ok_err}, proofs.TakeLemmas.{least_by_meaning, few_made}, specs.code.FitsStation.{Sends, Refuses}}
use Rattle.x25_layer.specs.declared.layer.Layer as layer_code
use Rattle.x25_station.specs.declared.error.StationError.TheVariants as error
use Rattle.x25_station.specs.declared.station.Station as code
use Rattle.x25_station.specs.declared.step.Step as code_step

-- ---- a refused call: nothing is left, sent or entered

nothing_left : (c : Settings) (v : code.Station) (e : StationError) (o : Outcome) → (let r : Result Unit StationError = Err e in Leaves c v r o)
nothing_left c v e (Did step) = tt
nothing_left c v e (Refused d) = tt

nothing_sent : (c : Settings) (out : code_step.Step) (e : StationError) (o : Outcome) → (let r : Result Unit StationError = Err e in Sends c out r o)
nothing_sent c out e (Did step) = tt
nothing_sent c out e (Refused d) = tt

nothing_entered : (out : code_step.Step) (e : StationError) (o : Outcome) → (let r : Result Unit StationError = Err e in Enters out r o)
nothing_entered out e (Did step) = tt
nothing_entered out e (Refused d) = tt

pub declines : (old new : code.Station) (out : code_step.Step) (e : StationError) (said : Settings → Station → Outcome)
    → ((c : Settings) (s : Station) → FitsStation c old s → (let r : Result Unit StationError = Err e in Refuses r (said c s)))
    → ((c : Settings) (s : Station) → FitsStation c old s → FitsStation c new s) → IsEmpty out
    → Does old new out (Err e) said
declines old new out e said refuses stays empty = record {
  state = λ c s fits. nothing_left c new e (said c s);
  frames = λ c s fits. nothing_sent c out e (said c s);
  entries = λ c s fits. nothing_entered out e (said c s);
  refused = refuses;
  stays = stays;
  empty = empty;
  few_frames = let none : length out.frames ≡ 0 = ap length empty.frames in omega (arith, none);
  few_entries = out.entries.few;
}

-- ---- what becomes of T1 is said in the step behind a call

still_empty : (out : code_step.Step) (timer : Timer) (result : Result Unit StationError) → OnErr result (IsEmpty out)
    → OnErr result (IsEmpty (record out { timer = timer }))
still_empty out timer (Ok u) empty = tt
still_empty out timer (Err e) empty = record { frames = empty.frames; entries = empty.entries }

pub retimed : (old new : code.Station) (out : code_step.Step) (timer : Timer) (result : Result Unit StationError) (said : Settings → Station → Outcome)
    → Does old new out result said → Does old new (record out { timer = timer }) result said
retimed old new out timer result said d = record {
  state = d.state;
  frames = d.frames;
  entries = d.entries;
  refused = d.refused;
  stays = d.stays;
  empty = still_empty out timer result d.empty;
  few_frames = d.few_frames;
  few_entries = d.few_entries;
}

-- ---- a call of which the definition says the same in other words

pub alike : (old new : code.Station) (out : code_step.Step) (result : Result Unit StationError) (said told : Settings → Station → Outcome)
    → ((c : Settings) (s : Station) → FitsStation c old s → told c s ≡ said c s)
    → Does old new out result said → Does old new out result told
alike old new out result said told same d = record {
  state = λ c s fits. subst (λ (o : Outcome). Leaves c new result o) (sym (same c s fits)) (d.state c s fits);
  frames = λ c s fits. subst (λ (o : Outcome). Sends c out result o) (sym (same c s fits)) (d.frames c s fits);
  entries = λ c s fits. subst (λ (o : Outcome). Enters out result o) (sym (same c s fits)) (d.entries c s fits);
  refused = λ c s fits. subst (λ (o : Outcome). Refuses result o) (sym (same c s fits)) (d.refused c s fits);
  stays = d.stays;
  empty = d.empty;
  few_frames = d.few_frames;
  few_entries = d.few_entries;
}

-- ---- a command to the layer

-- what the layer put became eight frames at most
puts_few : {T : Type 0} (u : T) (c : Settings) (s : LinkStation) (m : ShownLink) (a : Answered) → (link_settings c).window ≤ 7 → s.outgoing.acked
    ≤ s.outgoing.place
    → LinkGives m (kept_of (link_settings c) (alone s)) (Ok u) a → length m.frames ≤ 8
puts_few u c s m (Went p) small low link = few_made c.role m.frames (all_put (link_settings c) p.put (alone s)).out 8
    (after_puts (link_settings c) m p.put (alone s) link).kept (few_put (link_settings c) p.put (alone s) small low)
puts_few u c s m (LayerRefuses e) small low link = absurd (ok_err u e link)

pub made_few : {T : Type 0} {manner : Manner} {turn : ℕ} (u : T) (l m : ShownLink) (y : layer_code.Layer) (request : LayerRequest) → AreMeant manner l y turn
    → Links l m y turn (Ok u) request → WindowIsSmall → FewStand → length m.frames ≤ 8
made_few u l m y request h links small stand = least_by_meaning l y (length m.frames) 8 h (λ c s fits.
    puts_few u c s.link m (answered_by c s request) (small (link_settings c) l s.link fits.link) (stand (link_settings c) l s.link fits.link).place_low
    (link_gives (Ok u) c l m y s request fits links))

-- From the link and the layer of the old station its call led to the link m, from which the frames were taken, and to the layer of the new one.
pub did_request : {T : Type 0} (u : T) (old new : code.Station) (m : ShownLink) (r : code_step.Step) (request : LayerRequest)
    → Layers old.link old.layer old.turn new.layer (Ok u) request → Links old.link m old.layer old.turn (Ok u) request
    → Turns old.link old.layer old.turn new.turn (Ok u) request
    → new.link.station ≡ m.station → new.link.frames ≡ [] → r.frames ≡ m.frames → RequestKeeps → WindowIsSmall → FewStand
    → ((c : Settings) (s : Station) → FitsStation c old s → may_ask c.wide request ≡ true)
    → ((c : Settings) (s : Station) → FitsStation c old s → Enters {T = Unit} r (Ok tt) (requests c s request)) → old.manner ≡ new.manner
    → Does old new r (Ok tt) (λ c s. requests c s request)
did_request u old new m r request layers links turns same none made keeps small stand may entered manner =
    let parts : (c : Settings) (s : Station) → FitsStation c old s → Answers c new.manner new.link new.layer new.turn r (requests c s request) =
    λ c s fits. answers u c old.link m new.link old.layer new.layer r s request (subst (λ (b : Manner). FitsParts c b old.link old.layer old.turn s) manner fits) layers
    links turns same none made (may c s fits) (keeps c s request fits.kept) in
    let put = made_few u old.link m old.layer request old.meant links small stand in
    let same : length r.frames ≡ length m.frames = ap length made in
    record {
      state = λ c s fits. (parts c s fits).state;
      frames = λ c s fits. (parts c s fits).frames;
      entries = entered;
      refused = λ c s fits. (parts c s fits).refused;
      stays = λ c s fits. tt;
      empty = tt;
      few_frames = omega (arith, put, same);
      few_entries = r.entries.few;
    }

-- what may not be asked isn't asked of the layer, where that wouldn't refuse it
not_asked : (c : Settings) (may : Bool) (t : Side) (entries : List StationEntry) (a : Answered) → may ≡ false → None ≡ refusal_of a
    → (let r : Result Unit StationError = Err not_taken in Refuses r (where_asked may (did c t entries a)))
not_asked c may t entries (Went p) is refusal = subst
    (λ (b : Bool). (let r : Result Unit StationError = Err not_taken in Refuses r (where_asked b (did c t entries (Went p))))) (sym is) refl
not_asked c may t entries (LayerRefuses e) is refusal = absurd (none_there refusal)
  where
    none_there : None ≡ Some e → ⊥
    none_there h = cc

-- nor what the layer refuses, whether it may be asked or not
refused_asked : (found : StationError) (e : LayerError) → found ≡ of_layer e
    → (c : Settings) (may : Bool) (t : Side) (entries : List StationEntry) (a : Answered) → IsNamed a → Some e ≡ refusal_of a
    → (let r : Result Unit StationError = Err found in Refuses r (where_asked may (did c t entries a)))
refused_asked found e is c may t entries (Went p) named refusal = absurd (none_there refusal)
  where
    none_there : Some e ≡ None → ⊥
    none_there h = cc
refused_asked found e is c may t entries (LayerRefuses x) named refusal = by may
  where
    same : Some e ≡ Some x → e ≡ x
    same h = cc

    by : (b : Bool) → (let r : Result Unit StationError = Err found in Refuses r (where_asked b (Refused (error.Layer x))))
    by true = is ∙ ap of_layer (same refusal) ∙ named
    by false = is ∙ ap of_layer (same refusal) ∙ named

pub declines_early : (found : StationError) (e : LayerError) (old new : code.Station) (out : code_step.Step) (request : LayerRequest) → found ≡ of_layer e
    → Judges (Some e) old.link old.layer request
    → ((c : Settings) (s : Station) → FitsStation c old s → FitsStation c new s) → IsEmpty out
    → Does old new out (Err found) (λ c s. requests c s request)
declines_early found e old new out request is judges stays empty =
    declines old new out found (λ c s. requests c s request)
    (λ c s fits. refused_asked found e is c (may_ask c.wide request) (alone s.link) _ (answered_by c s request)
    (calls_named (view_of (link_settings c) s.turn s.link) (layer_settings c) s.layer request) (judged_by (Some e) c old.link old.layer s request fits judges))
    stays empty

pub declines_asked : (old new : code.Station) (out : code_step.Step) (request : LayerRequest) → Judges None old.link old.layer request
    → ((c : Settings) (s : Station) → FitsStation c old s → may_ask c.wide request ≡ false)
    → ((c : Settings) (s : Station) → FitsStation c old s → FitsStation c new s) → IsEmpty out
    → Does old new out (Err not_taken) (λ c s. requests c s request)
declines_asked old new out request judges not stays empty =
    declines old new out not_taken (λ c s. requests c s request)
    (λ c s fits. not_asked c (may_ask c.wide request) (alone s.link) _ (answered_by c s request) (not c s fits)
    (judged_by None c old.link old.layer s request fits judges)) stays empty

pub declines_request : (T : Type 0) (e : LayerError) (found : StationError) (old new : code.Station) (out : code_step.Step) (request : LayerRequest) → found
    ≡ of_layer e
    → (let x : Result T LayerError = Err e in Layers old.link old.layer old.turn new.layer x request)
    → ((d : LayerSettings) (k : Layer) → FitsLayer d old.layer k → FitsLayer d new.layer k)
    → ((x : LinkState) → FitsWhole old.link x → FitsWhole new.link x) → new.turn ≡ old.turn → IsEmpty out → old.manner ≡ new.manner
    → ((c : Settings) (s : Station) → FitsStation c old s → may_ask c.wide request ≡ true)
    → Does old new out (Err found) (λ c s. requests c s request)
declines_request T e found old new out request is layers layer_stays link_stays turn_stays empty manner may =
    declines old new out found (λ c s. requests c s request) (λ c s fits.
    subst (λ (b : Bool). (let r : Result Unit StationError = Err found in Refuses r (where_asked b (requested c s request)))) (sym (may c s fits))
    (refuses T Unit e found c old.link old.layer new.layer s request fits is layers))
    (λ c s fits. subst (λ (at : ℕ). FitsParts c new.manner new.link new.layer at s) (sym turn_stays)
    (still_fits c old.link new.link old.layer new.layer s (subst (λ (b : Manner). FitsParts c b old.link old.layer old.turn s) manner fits)
    (layer_stays (layer_settings c) s.layer fits.layer) link_stays)) empty
