-- A command with or without something given beside its packet, by what the calls of its layer did.
use Rattle.x25_station.proofs.Names.{subst}
use Rattle.x25_station.proofs.Names.{◌≡◌, ℕ, List, [], ◌∷◌, Option, Some, None, Result, Ok, Err, Bool, true, false, ◌&&◌, refl, ap, sym, ◌∙◌, IsErrOf, IfSome}
use Rattle.x25_station.proofs.Names.{Proposal, in_brief, PlainGiven, may_give, LayerRequest, Asks, Dials, free_channel, asks_memory, Layer, is_channel}
use Rattle.x25_station.proofs.Names.{FitsLayer, LayerError, Asked, name_of, shown, WindowIsSmall, FewStand, ShownLink, may_ask, said_by, Settings}
use Rattle.x25_station.proofs.Names.{layer_settings, manner_of, of_channel, of_layer, suits, not_taken, Station, requests, asks, commands, IsBrief, FitsParts}
use Rattle.x25_station.proofs.Names.{AreMeant, FitsStation, Does, IsEmpty, Enters, RefusesOnly, DrivesAsked, Manner, StationError, RequestKeeps, GivenKeeps}
use Rattle.x25_station.proofs.{AskLemmas.{Judges, answers, still_fits}, EnteredLemmas.{asked_enters, dialled_enters}, MayLemmas.{memory_unasked}}
use Rattle.x25_station.proofs.{OutcomeLemmas.{leaves_some, still_meant}, PullLemmas.{never_lacks}, SaidLemmas.{nowhere_alike}}
use Rattle.x25_station.specs.{Command.{requesting}, Giving.{may_ask_with}}
use Rattle.x25_circuit.specs.declared.error.CircuitError.TheVariants as circuit_error
use Rattle.x25_circuit.specs.Calling as circuit
use Rattle.x25_layer.specs.declared.layer.Layer as layer_code
use Rattle.x25_layer.specs.declared.error.LayerError.TheVariants as layer_error
use Rattle.x25_station.specs.declared.station.Station as code
use Rattle.x25_station.specs.declared.step.Step as code_step
use Rattle.x25_station.proofs.DoesLemmas as plain
use Rattle.x25_station.proofs.GivingLemmas as given

-- ---- what may be asked

may_as : (b : Bool) (m : Manner) (c : Settings) (request : LayerRequest) → m ≡ manner_of c → may_ask m.wide request ≡ b → may_ask c.wide request ≡ b
may_as b m c request same may = ap (λ (x : Manner). may_ask x.wide request) (sym same) ∙ may

both : (a b d : Bool) → (a && (b && d)) ≡ true → (b ≡ true) × (d ≡ true)
both true true true is = (refl, refl)
both true true false is = absurd (cc)
both true false d is = absurd (cc)
both false b d is = absurd (cc)

pub allowed_asked : (wide : Bool) (o : Option PlainGiven) (request : LayerRequest) → may_ask_with wide o request ≡ true → IfSome o (λ g. may_give g ≡ true)
allowed_asked wide None request may = tt
allowed_asked wide (Some g) request may = (both wide (may_give g) (suits g request) may).0

pub suits_asked : (wide : Bool) (o : Option PlainGiven) (request : LayerRequest) → may_ask_with wide o request ≡ true → IfSome o (λ g. suits g request ≡ true)
suits_asked wide None request may = tt
suits_asked wide (Some g) request may = (both wide (may_give g) (suits g request) may).1

-- ---- an accepted call

abbrev Drove : {T : Type 0} → T → Option PlainGiven → layer_code.Layer → ShownLink → ℕ → layer_code.Layer → ShownLink → ℕ → LayerRequest → Type 0
Drove {T = T} u o y l turn z m turn₂ request = let r : Result T LayerError = Ok u in DrivesAsked o y l turn z m turn₂ r request

pub meant_asked : {T : Type 0} {manner : Manner} {turn turn₂ : ℕ} (u : T) (o : Option PlainGiven) (l m n : ShownLink) (y z : layer_code.Layer) (r : code_step.Step)
    (request : LayerRequest) → AreMeant manner l y turn → Drove u o y l turn z m turn₂ request → n.station ≡ m.station → n.frames ≡ [] → r.frames ≡ m.frames
    → RequestKeeps → GivenKeeps → may_ask_with manner.wide o request ≡ true → AreMeant manner n z turn₂
meant_asked {manner = manner} {turn₂ = turn₂} u None l m n y z r request meant d same none made keeps with_given may = still_meant l n y z meant (λ c s fits.
    let a = answers u c l m n y z r s request fits d.layer d.link d.turns same none made (may_as true manner c request fits.same may) (keeps c s request fits.kept) in
    leaves_some c n z turn₂ (requests c s request) a.state a.refused)
meant_asked u (Some g) l m n y z r request meant d same none made keeps with_given may =
    given.meant_given u g l m n y z r request meant d.layer d.link d.turns same none made with_given may

pub did_asked : {T : Type 0} (u : T) (o : Option PlainGiven) (old new : code.Station) (m : ShownLink) (r : code_step.Step) (request : LayerRequest)
    → Drove u o old.layer old.link old.turn new.layer m new.turn request → new.link.station ≡ m.station → new.link.frames ≡ [] → r.frames ≡ m.frames
    → RequestKeeps → GivenKeeps → WindowIsSmall → FewStand → may_ask_with old.manner.wide o request ≡ true
    → ((c : Settings) (s : Station) → FitsStation c old s → Enters {T = Unit} r (Ok tt) (asks c s o request)) → old.manner ≡ new.manner
    → Does old new r (Ok tt) (λ c s. asks c s o request)
did_asked u None old new m r request d same none made keeps with_given small stand may entered manner =
    plain.did_request u old new m r request d.layer d.link d.turns same none made keeps small stand
    (λ c s fits. may_as true old.manner c request fits.same may) entered manner
did_asked u (Some g) old new m r request d same none made keeps with_given small stand may entered manner =
    given.did_given u old new m r g request d.layer d.link d.turns same none made with_given small stand may entered manner

pub enters_asked : {T : Type 0} {manner : Manner} {turn : ℕ} (turn₂ : ℕ) (u : T) (o : Option PlainGiven) (c : Settings) (l m : ShownLink) (y z : layer_code.Layer) (s : Station)
    (r : code_step.Step) (h : ℕ) (request : circuit.Request) → FitsParts c manner l y turn s → Drove u o y l turn z m turn₂ (Asks h request)
    → may_ask_with manner.wide o (Asks h request) ≡ true
    → ((k : Layer) → FitsLayer (layer_settings c) z k → is_channel c.channels h ≡ true → IsBrief request → r.entries.items
    ≡ of_channel (record { channel = h; name = name_of k h; said = Asked (shown (k.circuits h) request) }) ∷ [])
    → Enters {T = Unit} r (Ok tt) (asks c s o (Asks h request))
enters_asked turn₂ u None c l m y z s r h request fits d may entered = asked_enters u c l y z s r h request fits d.layer entered
enters_asked turn₂ u (Some g) c l m y z s r h request fits d may entered = given.asked_given u c g l y z s r h request fits d.layer may entered

pub enters_dialled : {manner : Manner} {turn : ℕ} (turn₂ : ℕ) (o : Option PlainGiven) (c : Settings) (l m : ShownLink) (y z : layer_code.Layer) (s : Station)
    (r : code_step.Step) (h : ℕ) (called calling user : List ℕ) (proposal : Proposal) → FitsParts c manner l y turn s
    → Drove h o y l turn z m turn₂ (Dials called calling user proposal) → may_ask_with manner.wide o (Dials called calling user proposal) ≡ true
    → free_channel c.role s.layer.circuits c.channels ≡ Some h
    → ((k : Layer) → FitsLayer (layer_settings c) z k → is_channel c.channels h ≡ true → IsBrief (circuit.Calls called calling user proposal) →
    r.entries.items ≡ of_channel
    (record { channel = h; name = name_of k h; said = Asked (circuit.Calls called calling user (in_brief proposal.params)) }) ∷ [])
    → Enters {T = Unit} r (Ok tt) (asks c s o (Dials called calling user proposal))
enters_dialled turn₂ None c l m y z s r h called calling user proposal fits d may free entered =
    dialled_enters c l y z s r h called calling user proposal fits d.layer free entered
enters_dialled turn₂ (Some g) c l m y z s r h called calling user proposal fits d may free entered =
    given.dialled_given c g l y z s r h called calling user proposal fits d.layer may free entered

-- ---- a refused call

pub declines_first : (o : Option PlainGiven) (found : StationError) (e : LayerError) (old new : code.Station) (out : code_step.Step) (request : LayerRequest)
    → found ≡ of_layer e → Judges (Some e) old.link old.layer request
    → ((c : Settings) (s : Station) → FitsStation c old s → FitsStation c new s) → IsEmpty out
    → Does old new out (Err found) (λ c s. asks c s o request)
declines_first None found e old new out request is judges stays empty = plain.declines_early found e old new out request is judges stays empty
declines_first (Some g) found e old new out request is judges stays empty = given.declines_early found e old new out g request is judges stays empty

pub declines_then : (o : Option PlainGiven) (old new : code.Station) (out : code_step.Step) (request : LayerRequest) → Judges None old.link old.layer request
    → may_ask_with old.manner.wide o request ≡ false
    → ((c : Settings) (s : Station) → FitsStation c old s → FitsStation c new s) → IsEmpty out
    → Does old new out (Err not_taken) (λ c s. asks c s o request)
declines_then None old new out request judges may stays empty =
    plain.declines_asked old new out request judges (λ c s fits. may_as false old.manner c request fits.same may) stays empty
declines_then (Some g) old new out request judges may stays empty = given.declines_given old new out g request judges may stays empty

abbrev DroveNot : (T : Type 0) → LayerError → Option PlainGiven → layer_code.Layer → ShownLink → ℕ → layer_code.Layer → ShownLink → ℕ → LayerRequest → Type 0
DroveNot T e o y l turn z m turn₂ request = let r : Result T LayerError = Err e in DrivesAsked o y l turn z m turn₂ r request

pub declines_last : (T : Type 0) (o : Option PlainGiven) (e : LayerError) (found : StationError) (old new : code.Station) (out : code_step.Step)
    (request : LayerRequest) → found ≡ of_layer e → DroveNot T e o old.layer old.link old.turn new.layer new.link new.turn request
    → may_ask_with old.manner.wide o request ≡ true → IsEmpty out → old.manner ≡ new.manner
    → Does old new out (Err found) (λ c s. asks c s o request)
declines_last T None e found old new out request is d may empty manner =
    plain.declines_request T e found old new out request is d.layer d.layer_stays d.link_stays d.turn_stays empty manner
    (λ c s fits. may_as true old.manner c request fits.same may)
declines_last T (Some g) e found old new out request is d may empty manner =
    given.declines_late T e found old new out g request is d.layer may d.layer_stays d.link_stays d.turn_stays empty manner

-- the station stands for what it stood for
pub meant_declined : (T : Type 0) (o : Option PlainGiven) (e : LayerError) (manner : Manner) {turn turn₂ : ℕ} (l m : ShownLink) (y z : layer_code.Layer)
    (request : LayerRequest) → AreMeant manner l y turn → DroveNot T e o y l turn z m turn₂ request → AreMeant manner m z turn₂
meant_declined T None e manner l m y z request meant d =
    still_meant l m y z meant (λ c s fits. (
      c,
      s,
      subst (λ (at : ℕ). FitsParts c manner m z at s) (sym d.turn_stays)
          (still_fits c l m y z s fits (d.layer_stays (layer_settings c) s.layer fits.layer) d.link_stays),
    ))
meant_declined T (Some g) e manner l m y z request meant d =
    still_meant l m y z meant (λ c s fits. (
      c,
      s,
      subst (λ (at : ℕ). FitsParts c manner m z at s) (sym d.turn_stays)
          (still_fits c l m y z s fits (d.layer_stays (layer_settings c) s.layer fits.layer) d.link_stays),
    ))

-- ---- for want of memory nothing is refused that asks for none

never : {T : Type 0} (b : Bool) → b ≡ true → b ≡ false → T
never b is isnt = absurd (by (sym is ∙ isnt))
  where
    by : true ≡ false → ⊥
    by e = cc

pub only_first : (o : Option PlainGiven) (found : StationError) (e : LayerError) (old : code.Station) (h : ℕ) (request : circuit.Request)
    → found ≡ of_layer e → Judges (Some e) old.link old.layer (Asks h request) → may_ask_with old.manner.wide o (Asks h request) ≡ false
    → asks_memory (Asks h request) ≡ false → (c : Settings) (s : Station) → FitsStation c old s
    → (let r : Result Unit StationError = Err found in RefusesOnly r (asks c s o (Asks h request)))
only_first None found e old h request is judges may none c s fits = never _ (memory_unasked old.manner.wide h request may) none
only_first (Some g) found e old h request is judges may none c s fits = given.only_early found e old g (Asks h request) is judges c s fits

pub only_then : (o : Option PlainGiven) (old new : code.Station) (out : code_step.Step) (request : LayerRequest)
    → Does old new out (Err not_taken) (λ c s. asks c s o request) → (c : Settings) (s : Station) → FitsStation c old s
    → (let r : Result Unit StationError = Err not_taken in RefusesOnly r (asks c s o request))
only_then o old new out request does c s fits =
    never_lacks not_taken (layer_error.Circuit circuit_error.BadParameter) (asks c s o request) refl (λ lacks. absurd (other lacks)) (does.refused c s fits)
  where
    other : (let x : Result Unit LayerError = Err (layer_error.Circuit circuit_error.BadParameter) in IsErrOf x layer_error.NoMemory) → ⊥
    other is = cc

missing_asked : (T : Type 0) (o : Option PlainGiven) (e : LayerError) (y z : layer_code.Layer) (l m : ShownLink) (turn turn₂ : ℕ) (request : LayerRequest)
    → DroveNot T e o y l turn z m turn₂ request → (let x : Result T LayerError = Err e in IsErrOf x layer_error.NoMemory) → asks_memory request ≡ true
missing_asked T None e y z l m turn turn₂ request d lacks = d.missing lacks
missing_asked T (Some g) e y z l m turn turn₂ request d lacks = d.missing lacks

pub only_last : (o : Option PlainGiven) (e : LayerError) (found : StationError) (old new : code.Station) (out : code_step.Step) (request : LayerRequest)
    → found ≡ of_layer e → DroveNot Unit e o old.layer old.link old.turn new.layer new.link new.turn request → asks_memory request ≡ false
    → Does old new out (Err found) (λ c s. asks c s o request) → (c : Settings) (s : Station) → FitsStation c old s
    → (let r : Result Unit StationError = Err found in RefusesOnly r (asks c s o request))
only_last o e found old new out request is d none does c s fits =
    never_lacks found e (asks c s o request) is (λ lacks. sym none ∙ missing_asked Unit o e old.layer new.layer old.link new.link old.turn new.turn request d lacks)
    (does.refused c s fits)

-- ---- what a call and an acceptance say

pub said_asked : (c : Settings) (s : Station) (o : Option PlainGiven) (request : LayerRequest) → commands c s (requesting o request)
    ≡ asks c s o (said_by c.say_sizes s.layer request)
said_asked c s None request = refl
said_asked c s (Some g) request = refl

pub asked_nowhere : (c : Settings) (s : Station) (o : Option PlainGiven) (h : ℕ) → is_channel c.channels h ≡ false → (a b : Option Proposal)
    → asks c s o (Asks h (circuit.Accepts a)) ≡ asks c s o (Asks h (circuit.Accepts b))
asked_nowhere c s None h nowhere a b = nowhere_alike c s h nowhere a b
asked_nowhere c s (Some g) h nowhere a b = given.given_nowhere c s g h nowhere a b
