-- What a station answers to a command, by what its layer answers.
use Rattle.x25_station.proofs.Names.{◌≡◌, ℕ, List, [], Option, Some, None, Result, Ok, Err, Bool, true, false, ◌==◌, if◌then◌else◌, refl, ap, sym, subst, ◌∙◌}
use Rattle.x25_station.proofs.Names.{may_restart_for, Circuit, Proposal, LayerRequest, Asks, Dials, Restarts, PullsAll, LayerOutcome, Accepted, Declined}
use Rattle.x25_station.proofs.Names.{layer_outcome, outcome_in, outcome_ready, outcome_on, where_room, if_at_once, puts_at_once, dialled, restarted_for}
use Rattle.x25_station.proofs.Names.{free_channel, LayerSettings, Layer, is_channel, restarting_from, FitsLayer, LayerError, LinkView, Putting, Answered, Went}
use Rattle.x25_station.proofs.Names.{Refuses, went, calls, refusal_of, alone, LinkSettings, LinkStation, Side, ShownLink, LinkState, FitsWhole, FitsLink}
use Rattle.x25_station.proofs.Names.{PlainPacket, restart, may_ask, Settings, link_settings, layer_settings, manner_of, StationEntry, of_layer, kept_of}
use Rattle.x25_station.proofs.Names.{Station, all_put, view_of, waiting_after, Outcome, did, requests, requests_of, where_asked, entries_of_outcome, FitsParts}
use Rattle.x25_station.proofs.{LinkLemmas.{put_by_put, same_view}, Names.{after_all, LayerGives, LinkGives, Manner, StationError, KeptBy}}
use Rattle.x25_station.proofs.ResultLemmas.{ok_err, err_is}
use Rattle.x25_circuit.specs.declared.error.CircuitError.TheVariants as circuit_error
use Rattle.x25_circuit.specs.Calling as circuit
use Rattle.x25_layer.specs.declared.layer.Layer as layer_code
use Rattle.x25_layer.specs.declared.error.LayerError.TheVariants as layer_error
use Rattle.x25_station.specs.code.OverLink.{TurnGives}
use Rattle.x25_station.specs.code.OverLink as over
use Rattle.x25_station.specs.declared.step.Step as code_step
use Rattle.x25_station.specs.declared.error.StationError.TheVariants as error
use Rattle.x25_station.specs.code.FitsStation as station

-- ---- the link after the packets of a step

-- a link from which the frames were taken fits the same state
pub taken_link : (c : LinkSettings) (m n : ShownLink) (s : LinkStation) → n.station ≡ m.station → FitsLink c m s → FitsLink c n s
taken_link c m n s same fits = subst (λ x. FitsLink c (record { station = x; frames = n.frames }) s) (sym same)
    (record { near = fits.near; settled = fits.settled; calm = fits.calm })

pub after_puts : (c : LinkSettings) (m : ShownLink) (packets : List PlainPacket) (t : Side) → FitsWhole m (after_all (kept_of c t) packets)
    → FitsWhole m (kept_of c (all_put c packets t))
after_puts c m packets t fits = subst (λ (x : LinkState). FitsWhole m x) (put_by_put c packets t) fits

-- ---- an accepted call

pub leaves_did : {T : Type 0} {manner : Manner} (u : T) (c : Settings) → manner ≡ manner_of c
    → (s : LinkStation) (m n : ShownLink) (z : layer_code.Layer) (turn : ℕ) (entries : List StationEntry) (a : Answered)
    → LayerGives (layer_settings c) z (Ok u) a → LinkGives m (kept_of (link_settings c) (alone s)) (Ok u) a → TurnGives turn (Ok u) a → n.station ≡ m.station → n.frames ≡ [] → KeptBy (did c (alone s) entries a)
    → station.LeavesParts {T = Unit} c manner n z turn (Ok tt) (did c (alone s) entries a)
leaves_did u c as_set s m n z turn entries (Went p) layer link turns same none kept = record {
  link = taken_link (link_settings c) m n _ same (after_puts (link_settings c) m p.put (alone s) link).link;
  layer = layer;
  turned = turns;
  kept = kept;
  sent = none;
  same = as_set;
}
leaves_did u c as_set s m n z turn entries (Refuses e) layer link turns same none kept = absurd (ok_err u e layer)

pub sends_did : {T : Type 0} (u : T) (c : Settings) (s : LinkStation) (m : ShownLink) (r : code_step.Step) (entries : List StationEntry) (a : Answered)
    → LinkGives m (kept_of (link_settings c) (alone s)) (Ok u) a → r.frames ≡ m.frames → station.Sends {T = Unit} c r (Ok tt) (did c (alone s) entries a)
sends_did u c s m r entries (Went p) link made = made ∙ (after_puts (link_settings c) m p.put (alone s) link).kept
sends_did u c s m r entries (Refuses e) link made = tt

pub enters_did : (c : Settings) (s : LinkStation) (r : code_step.Step) (entries : List StationEntry) (a : Answered)
    → ((p : Putting) → a ≡ Went p → r.entries.items ≡ entries) → station.Enters {T = Unit} r (Ok tt) (did c (alone s) entries a)
enters_did c s r entries (Went p) entered = entered p refl
enters_did c s r entries (Refuses e) entered = tt

pub goes_did : {T : Type 0} (u : T) (c : Settings) (s : LinkStation) (z : layer_code.Layer) (entries : List StationEntry) (a : Answered)
    → LayerGives (layer_settings c) z (Ok u) a → station.Refuses {T = Unit} (Ok tt) (did c (alone s) entries a)
goes_did u c s z entries (Went p) layer = tt
goes_did u c s z entries (Refuses e) layer = absurd (ok_err u e layer)

-- ---- a refused call

-- the layer's own refusals aren't want of memory
abbrev pub IsNamed : Answered → Type 0
IsNamed (Went p) = Unit {0}
IsNamed (Refuses e) = of_layer e ≡ error.Layer e

pub refused_did : (T U : Type 0) (e : LayerError) (found : StationError) (c : Settings) (s : LinkStation) (z : layer_code.Layer) (entries : List StationEntry)
    (a : Answered) → IsNamed a → found ≡ of_layer e
    → (let x : Result T LayerError = Err e in LayerGives (layer_settings c) z x a)
    → (let x : Result U StationError = Err found in station.Refuses x (did c (alone s) entries a))
refused_did T U e found c s z entries (Went p) named is layer = is ∙ ap of_layer layer
refused_did T U e found c s z entries (Refuses x) named is layer = is ∙ ap of_layer (err_is T LayerError e x layer) ∙ named

abbrev IsNamedOutcome : LayerOutcome → Type 0
IsNamedOutcome (Accepted next packet) = Unit {0}
IsNamedOutcome (Declined e) = of_layer e ≡ error.Layer e

room_named : (full : Bool) (o : LayerOutcome) → IsNamedOutcome o → IsNamedOutcome (where_room full o)
room_named true o named = refl
room_named false o named = named

at_once_named : (b full : Bool) (o : LayerOutcome) → IsNamedOutcome o → IsNamedOutcome (if_at_once b full o)
at_once_named true full o named = room_named full o named
at_once_named false full o named = named

on_named : (restarts : ℕ) (circuits : ℕ → Circuit) (h : ℕ) (o : circuit.Outcome) → IsNamedOutcome (outcome_on restarts circuits h o)
on_named restarts circuits h (circuit.Done next packet) = tt
on_named restarts circuits h (circuit.Refused e) = refl

dialled_named : (c : LayerSettings) (full : Bool) (restarts : ℕ) (circuits : ℕ → Circuit) (o : Option ℕ) (called calling user : List ℕ) (proposal : Proposal)
    → IsNamedOutcome (dialled c full restarts circuits o called calling user proposal)
dialled_named c full restarts circuits None called calling user proposal = refl
dialled_named c full restarts circuits (Some h) called calling user proposal =
    room_named full _ (on_named restarts circuits h (circuit.outcome c.circuit (circuits h) (circuit.Calls called calling user proposal)))

ready_named : (c : LayerSettings) (full : Bool) (restarts : ℕ) (circuits : ℕ → Circuit) (request : LayerRequest)
    → IsNamedOutcome (outcome_ready c full restarts circuits request)
ready_named c full restarts circuits (Asks h request) = test (is_channel c.channels h)
  where
    good : LayerOutcome
    good = if_at_once (puts_at_once request) full (outcome_on restarts circuits h (circuit.outcome c.circuit (circuits h) request))

    test : (b : Bool) → IsNamedOutcome (if b then good else Declined layer_error.NoSuchChannel)
    test true = at_once_named (puts_at_once request) full _ (on_named restarts circuits h (circuit.outcome c.circuit (circuits h) request))
    test false = refl
ready_named c full restarts circuits (Dials called calling user proposal) =
    dialled_named c full restarts circuits (free_channel c.circuit.role circuits c.channels) called calling user proposal
ready_named c full restarts circuits (Restarts cause diagnostic) =
    room_named full (restarted_for c.circuit.role restarts circuits cause diagnostic) (test (may_restart_for c.circuit.role cause))
  where
    test : (b : Bool) → IsNamedOutcome (if b then Accepted (restarting_from restarts circuits) (Some (restart cause diagnostic))
        else Declined (layer_error.Circuit circuit_error.BadParameter))
    test true = tt
    test false = refl
ready_named c full restarts circuits PullsAll = tt

outcome_named : (c : LayerSettings) (full busy : Bool) (restarts : ℕ) (circuits : ℕ → Circuit) (request : LayerRequest)
    → IsNamedOutcome (outcome_in c full busy restarts circuits request)
outcome_named c full true restarts circuits request = refl
outcome_named c full false restarts circuits request = ready_named c full restarts circuits request

pub calls_named : (view : LinkView) (c : LayerSettings) (l : Layer) (request : LayerRequest) → IsNamed (calls view c l request)
calls_named view c l request = test view.is_up
  where
    goes : (o : LayerOutcome) → IsNamedOutcome o → IsNamed (went view c o)
    goes (Accepted next packet) named = tt
    goes (Declined e) named = named

    test : (b : Bool) → IsNamed (if b then went view c (layer_outcome c (view.waits [] == 256) l request) else Refuses layer_error.NotUp)
    test true = goes (layer_outcome c (view.waits [] == 256) l request) (outcome_named c (view.waits [] == 256) l.restarting l.restarts l.circuits request)
    test false = refl

-- ---- the calls, by the layer's clauses

abbrev pub Layers : {T : Type 0} → ShownLink → layer_code.Layer → ℕ → layer_code.Layer → Result T LayerError → LayerRequest → Type 0
Layers l y turn z result request = (d : LayerSettings) (k : Layer) (x : LinkState) → FitsLayer d y k → FitsWhole l x
    → LayerGives d z result (calls (over.seen_at turn x) d k request)

abbrev pub Links : {T : Type 0} → ShownLink → ShownLink → layer_code.Layer → ℕ → Result T LayerError → LayerRequest → Type 0
Links l m y turn result request =
    (d : LayerSettings) (k : Layer) (x : LinkState) → FitsLayer d y k → FitsWhole l x → LinkGives m x result (calls (over.seen_at turn x) d k request)

abbrev pub Turns : {T : Type 0} → ShownLink → layer_code.Layer → ℕ → ℕ → Result T LayerError → LayerRequest → Type 0
Turns l y turn turn₂ result request =
    (d : LayerSettings) (k : Layer) (x : LinkState) → FitsLayer d y k → FitsWhole l x → TurnGives turn₂ result (calls (over.seen_at turn x) d k request)

-- why the layer would refuse it
abbrev pub Judges : Option LayerError → ShownLink → layer_code.Layer → LayerRequest → Type 0
Judges o l y request =
    (d : LayerSettings) (k : Layer) (turn : ℕ) (x : LinkState) → FitsLayer d y k → FitsWhole l x → o ≡ refusal_of (calls (over.seen_at turn x) d k request)

-- the frames are kept from nothing on
whole : {manner : Manner} {turn : ℕ} (c : Settings) (l : ShownLink) (y : layer_code.Layer) (s : Station) → FitsParts c manner l y turn s
    → FitsWhole l (kept_of (link_settings c) (alone s.link))
whole c l y s fits = record { link = fits.link; kept = fits.sent }

-- the layer's call, whatever may be asked
abbrev pub requested : Settings → Station → LayerRequest → Outcome
requested c s request = requests_of c s.link s.layer (view_of (link_settings c) s.turn s.link) request

abbrev pub answered_by : Settings → Station → LayerRequest → Answered
answered_by c s request = calls (view_of (link_settings c) s.turn s.link) (layer_settings c) s.layer request

pub judged_by : {manner : Manner} {turn : ℕ} (o : Option LayerError) (c : Settings) (l : ShownLink) (y : layer_code.Layer) (s : Station) (request : LayerRequest)
    → FitsParts c manner l y turn s → Judges o l y request → o ≡ refusal_of (answered_by c s request)
judged_by o c l y s request fits judges =
    judges (layer_settings c) s.layer s.turn (kept_of (link_settings c) (alone s.link)) fits.layer (whole c l y s fits)
    ∙ ap (λ (view : LinkView). refusal_of (calls view (layer_settings c) s.layer request)) (same_view (link_settings c) s.turn (alone s.link))

pub layer_gives : {manner : Manner} {turn : ℕ} {T : Type 0} (result : Result T LayerError) (c : Settings) (l : ShownLink) (y z : layer_code.Layer) (s : Station)
    (request : LayerRequest) → FitsParts c manner l y turn s → Layers l y turn z result request
    → LayerGives (layer_settings c) z result (answered_by c s request)
layer_gives result c l y z s request fits clause =
    subst (λ (view : LinkView). LayerGives (layer_settings c) z result (calls view (layer_settings c) s.layer request))
    (same_view (link_settings c) s.turn (alone s.link))
    (subst (λ (at : ℕ). Layers l y at z result request) fits.turned clause (layer_settings c) s.layer (kept_of (link_settings c) (alone s.link)) fits.layer
    (whole c l y s fits))

pub link_gives : {manner : Manner} {turn : ℕ} {T : Type 0} (result : Result T LayerError) (c : Settings) (l m : ShownLink) (y : layer_code.Layer) (s : Station)
    (request : LayerRequest) → FitsParts c manner l y turn s → Links l m y turn result request
    → LinkGives m (kept_of (link_settings c) (alone s.link)) result (answered_by c s request)
link_gives result c l m y s request fits clause =
    subst (λ (view : LinkView). LinkGives m (kept_of (link_settings c) (alone s.link)) result (calls view (layer_settings c) s.layer request))
    (same_view (link_settings c) s.turn (alone s.link))
    (subst (λ (at : ℕ). Links l m y at result request) fits.turned clause (layer_settings c) s.layer (kept_of (link_settings c) (alone s.link)) fits.layer
    (whole c l y s fits))

pub turn_gives : {manner : Manner} {turn : ℕ} (turn₂ : ℕ) {T : Type 0} (result : Result T LayerError) (c : Settings) (l : ShownLink) (y : layer_code.Layer) (s : Station)
    (request : LayerRequest) → FitsParts c manner l y turn s → Turns l y turn turn₂ result request → TurnGives turn₂ result (answered_by c s request)
turn_gives turn₂ result c l y s request fits clause =
    subst (λ (view : LinkView). TurnGives turn₂ result (calls view (layer_settings c) s.layer request))
    (same_view (link_settings c) s.turn (alone s.link))
    (subst (λ (at : ℕ). Turns l y at turn₂ result request) fits.turned clause (layer_settings c) s.layer (kept_of (link_settings c) (alone s.link)) fits.layer
    (whole c l y s fits))

pub record Answers (c : Settings) (manner : Manner) (n : ShownLink) (z : layer_code.Layer) (turn : ℕ) (r : code_step.Step) (outcome : Outcome) : Type 0 where
  pub state : station.LeavesParts {T = Unit} c manner n z turn (Ok tt) outcome
  pub frames : station.Sends {T = Unit} c r (Ok tt) outcome
  pub refused : station.Refuses {T = Unit} (Ok tt) outcome

-- an accepted call of the layer, from the link l and the layer y to m and z, and then to n, from which the frames are taken
pub answers : {manner : Manner} {turn turn₂ : ℕ} {T : Type 0} (u : T) (c : Settings) (l m n : ShownLink) (y z : layer_code.Layer) (r : code_step.Step) (s : Station)
    (request : LayerRequest) → FitsParts c manner l y turn s → Layers l y turn z (Ok u) request → Links l m y turn (Ok u) request
    → Turns l y turn turn₂ (Ok u) request → n.station ≡ m.station → n.frames ≡ [] → r.frames ≡ m.frames → may_ask c.wide request ≡ true → KeptBy (requests c s request)
    → Answers c manner n z turn₂ r (requests c s request)
answers {manner = manner} {turn₂ = turn₂} u c l m n y z r s request fits layers links turns same none made may kept =
    let a : Answered = answered_by c s request in
    let layer = layer_gives (Ok u) c l y z s request fits layers in
    let link = link_gives (Ok u) c l m y s request fits links in
    let turned = turn_gives turn₂ (Ok u) c l y s request fits turns in
    let lc : LayerSettings = layer_settings c in
    let entries : List StationEntry = entries_of_outcome lc s.layer request
    (layer_outcome lc (waiting_after (link_settings c) s.link [] == 256) s.layer request) in
    let o : Outcome = did c (alone s.link) entries a in
    subst (λ (b : Bool). Answers c manner n z turn₂ r (where_asked b o)) (sym may) (record {
      state = leaves_did u c fits.same s.link m n z turn₂ entries a layer link turned same none (subst (λ (b : Bool). KeptBy (where_asked b o)) may kept);
      frames = sends_did u c s.link m r entries a link made;
      refused = goes_did u c s.link z entries a layer;
    })

-- a call of the layer that is refused, or finds no memory
pub refuses : {manner : Manner} {turn : ℕ} (T U : Type 0) (e : LayerError) (found : StationError) (c : Settings) (l : ShownLink) (y z : layer_code.Layer) (s : Station)
    (request : LayerRequest) → FitsParts c manner l y turn s → found ≡ of_layer e
    → (let x : Result T LayerError = Err e in Layers l y turn z x request) → (let x : Result U StationError = Err found in station.Refuses x (requested c s request))
refuses T U e found c l y z s request fits is layers =
    let x : Result T LayerError = Err e in
    let lc : LayerSettings = layer_settings c in
    let entries : List StationEntry = entries_of_outcome lc s.layer request
    (layer_outcome lc (waiting_after (link_settings c) s.link [] == 256) s.layer request) in
    refused_did T U e found c s.link z entries (answered_by c s request) (calls_named (view_of (link_settings c) s.turn s.link) lc s.layer request) is
    (layer_gives x c l y z s request fits layers)

-- then the station is as before
pub still_fits : {manner : Manner} {turn : ℕ} (c : Settings) (l m : ShownLink) (y z : layer_code.Layer) (s : Station) → FitsParts c manner l y turn s
    → FitsLayer (layer_settings c) z s.layer → ((x : LinkState) → FitsWhole l x → FitsWhole m x) → FitsParts c manner m z turn s
still_fits c l m y z s fits layer links =
    let after : FitsWhole m (kept_of (link_settings c) (alone s.link)) = links (kept_of (link_settings c) (alone s.link)) (whole c l y s fits) in
    record { link = after.link; layer = layer; turned = fits.turned; kept = fits.kept; sent = after.kept; same = fits.same }
