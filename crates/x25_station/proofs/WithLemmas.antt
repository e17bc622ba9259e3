-- A call of the layer over the link with something given beside its packet, which it has.
use Rattle.x25_station.proofs.Names.{◌≡◌, ℕ, List, Option, Some, None, Result, Ok, Err, Bool, true, false, if◌then◌else◌, refl, ap, sym, subst, IsErrAnd}
use Rattle.x25_station.proofs.Names.{IfSome, Done, Request, Calls, Accepts, Clears, outcome, call_in, accept_in, clear_in, may_clear_for, CircuitSettings}
use Rattle.x25_station.proofs.Names.{Circuit, Proposal, default_params, may_answer, field_for, CircuitError, State, Free, Calling, Arriving, Open, Clearing}
use Rattle.x25_station.proofs.Names.{PlainGiven, LayerRequest, Asks, Dials, LayerOutcome, Accepted, Declined, calls, layer_outcome, outcome_in, outcome_on, where_room}
use Rattle.x25_station.proofs.Names.{if_at_once, puts_at_once, dialled, free_channel, asked_where, LayerSettings, Layer, is_channel, spelled, Gives, Answers}
use Rattle.x25_station.proofs.Names.{FitsLayer, LayerError, Answered, Went, Refuses, begin, rounds, went, ShownLink, LinkState, FitsWhole, PlainPacket, accept}
use Rattle.x25_station.proofs.Names.{clear, spelling_of, suits, LayerGives, all_with, seen_with, GoesWith, DrivesAsked}
use Rattle.std.specs.Prelude.{IsSome}
use Rattle.x25_circuit.specs.Calling.{Outcome, Refused}
use Rattle.x25_station.proofs.DriveLemmas.{IsTold, DrivesLayer, DrivesLink, DrivesTurn, told_in, layer_not, turn_not, on_err, same_err, drove, drove_not}
use Rattle.x25_station.specs.code.OverLink.{DrivesWith, TurnGives, all_asked, seen_asked}
use Rattle.x25_circuit.specs.declared.error.CircuitError.TheVariants as circuit_error
use Rattle.x25_circuit.specs.Calling as circuit
use Rattle.x25_layer.specs.declared.error.LayerError.TheVariants as error
use Rattle.x25_layer.specs.declared.layer.Layer as layer_code
use Rattle.x25_layer.specs.declared.link_state.LinkState as code

-- ---- all but a message has a packet

abbrev Puts : Outcome → Type 0
Puts (Done next None) = ⊥
Puts (Done next (Some packet)) = Unit {0}
Puts (Refused e) = Unit {0}

if_puts : (b : Bool) (good : Outcome) (e : CircuitError) → Puts good → Puts (if b then good else Refused e)
if_puts true good e puts = puts
if_puts false good e puts = tt

call_puts : (c : CircuitSettings) (x : Circuit) (s : State) (called calling user : List ℕ) (proposal : Proposal)
    → Puts (call_in c x s called calling user proposal)
call_puts c x Free called calling user proposal =
    if_puts (circuit.may_call c.long_data called calling user proposal.params)
    (circuit.does x Calling proposal.params true (circuit.call_sent called calling user proposal)) circuit_error.BadParameter tt
call_puts c x s called calling user proposal = tt

accept_puts : (x : Circuit) (s : State) (answer : Option Proposal) → Puts (accept_in x s answer)
accept_puts x Arriving None = tt
accept_puts x Arriving (Some answer) = if_puts (may_answer x.params answer.params)
    (circuit.does x Open answer.params false (accept 1 (field_for x.params answer))) circuit_error.BadParameter tt
accept_puts x s answer = tt

cleared : (c : CircuitSettings) (x : Circuit) (cause diagnostic : ℕ) → Puts (circuit.clear_with c x cause diagnostic)
cleared c x cause diagnostic = if_puts (may_clear_for c.role cause) (circuit.does x Clearing default_params false (clear 1 cause diagnostic))
    circuit_error.BadParameter tt

clear_puts : (c : CircuitSettings) (x : Circuit) (s : State) (cause diagnostic : ℕ) → Puts (clear_in c x s cause diagnostic)
clear_puts c x Free cause diagnostic = tt
clear_puts c x Clearing cause diagnostic = tt
clear_puts c x s cause diagnostic = cleared c x cause diagnostic

given_puts : (g : PlainGiven) (h : ℕ) (c : CircuitSettings) (x : Circuit) (request : Request) → suits g (Asks h request) ≡ true → Puts (outcome c x request)
given_puts g h c x (Accepts answer) is = accept_puts x x.state answer
given_puts g h c x (Clears cause diagnostic) is = clear_puts c x x.state cause diagnostic
given_puts g h c x request is = absurd (cc)

-- ---- and so has what is asked of the layer

abbrev pub LayerPuts : LayerOutcome → Type 0
LayerPuts (Accepted next None) = ⊥
LayerPuts (Accepted next (Some packet)) = Unit {0}
LayerPuts (Declined e) = Unit {0}

on_puts : (restarts : ℕ) (circuits : ℕ → Circuit) (h : ℕ) (o : Outcome) → Puts o → LayerPuts (outcome_on restarts circuits h o)
on_puts restarts circuits h (Done next None) puts = absurd puts
on_puts restarts circuits h (Done next (Some packet)) puts = tt
on_puts restarts circuits h (Refused e) puts = tt

room_puts : (full : Bool) (o : LayerOutcome) → LayerPuts o → LayerPuts (where_room full o)
room_puts true o puts = tt
room_puts false o puts = puts

once_puts : (b full : Bool) (o : LayerOutcome) → LayerPuts o → LayerPuts (if_at_once b full o)
once_puts true full o puts = room_puts full o puts
once_puts false full o puts = puts

where_puts : (b : Bool) (good : LayerOutcome) (e : LayerError) → LayerPuts good → LayerPuts (if b then good else Declined e)
where_puts true good e puts = puts
where_puts false good e puts = tt

pub asked_puts : (g : PlainGiven) (c : LayerSettings) (up full : Bool) (l : Layer) (h : ℕ) (request : Request) → suits g (Asks h request) ≡ true
    → LayerPuts (asked_where c up full l (Asks h request))
asked_puts g c up full l h request is = where_puts up (layer_outcome c full l (Asks h request)) error.NotUp (by l.restarting)
  where
    o : Outcome
    o = outcome c.circuit (l.circuits h) request

    by : (b : Bool) → LayerPuts (outcome_in c full b l.restarts l.circuits (Asks h request))
    by true = tt
    by false =
        where_puts (is_channel c.channels h) (if_at_once (puts_at_once request) full (outcome_on l.restarts l.circuits h o)) error.NoSuchChannel
        (once_puts (puts_at_once request) full (outcome_on l.restarts l.circuits h o)
        (on_puts l.restarts l.circuits h o (given_puts g h c.circuit (l.circuits h) request is)))

pub dial_puts : (c : LayerSettings) (up full : Bool) (l : Layer) (called calling user : List ℕ) (proposal : Proposal)
    → LayerPuts (asked_where c up full l (Dials called calling user proposal))
dial_puts c up full l called calling user proposal = where_puts up (layer_outcome c full l (Dials called calling user proposal)) error.NotUp (by l.restarting)
  where
    at : (o : Option ℕ) → LayerPuts (dialled c full l.restarts l.circuits o called calling user proposal)
    at None = tt
    at (Some h) =
        let o : Outcome = outcome c.circuit (l.circuits h) (Calls called calling user proposal) in
        room_puts full (outcome_on l.restarts l.circuits h o)
        (on_puts l.restarts l.circuits h o (call_puts c.circuit (l.circuits h) (l.circuits h).state called calling user proposal))

    by : (b : Bool) → LayerPuts (outcome_in c full b l.restarts l.circuits (Dials called calling user proposal))
    by true = tt
    by false = at (free_channel c.circuit.role l.circuits c.channels)

-- ---- the call

abbrev pub WithLayer : PlainGiven → layer_code.Layer → ShownLink → ℕ → layer_code.Layer → Type 0
WithLayer g mid below turn new = (c : LayerSettings) (l : Layer) (p : PlainPacket) (x : LinkState) → FitsLayer c mid l → mid.sheet ≡ spelling_of p
    → FitsWhole below x → FitsLayer c new (rounds (seen_with g turn x) c (begin l (Some p))).layer

abbrev pub WithLink : PlainGiven → layer_code.Layer → ShownLink → ℕ → ShownLink → Type 0
WithLink g mid below turn below₂ = (c : LayerSettings) (l : Layer) (p : PlainPacket) (x : LinkState) → FitsLayer c mid l → mid.sheet ≡ spelling_of p
    → FitsWhole below x → FitsWhole below₂ (all_with g x (rounds (seen_with g turn x) c (begin l (Some p))).put)

abbrev pub WithTurn : PlainGiven → layer_code.Layer → ShownLink → ℕ → ℕ → Type 0
WithTurn g mid below turn turn₂ = (c : LayerSettings) (l : Layer) (p : PlainPacket) (x : LinkState) → FitsLayer c mid l → mid.sheet ≡ spelling_of p
    → FitsWhole below x → turn₂ ≡ (rounds (seen_with g turn x) c (begin l (Some p))).turn

layer_went : {T : Type 0} (u : T) (g : PlainGiven) (c : LayerSettings) (mid new : layer_code.Layer) (below : ShownLink) (turn : ℕ) (x : LinkState) (o : LayerOutcome)
    → LayerPuts o → FitsWhole below x → Gives c mid (Ok u) o → WithLayer g mid below turn new → LayerGives c new (Ok u) (went (seen_with g turn x) c o)
layer_went u g c mid new below turn x (Accepted next None) puts fits gives drives = absurd puts
layer_went u g c mid new below turn x (Accepted next (Some p)) puts fits gives drives = drives c next p x gives.0 gives.1 fits
layer_went u g c mid new below turn x (Declined e) puts fits gives drives = cc

link_went : {T : Type 0} (u : T) (g : PlainGiven) (c : LayerSettings) (mid : layer_code.Layer) (below below₂ : ShownLink) (turn : ℕ) (x : LinkState) (o : LayerOutcome)
    → LayerPuts o → FitsWhole below x → Gives c mid (Ok u) o → WithLink g mid below turn below₂ → GoesWith below₂ g x (Ok u) (went (seen_with g turn x) c o)
link_went u g c mid below below₂ turn x (Accepted next None) puts fits gives drives = absurd puts
link_went u g c mid below below₂ turn x (Accepted next (Some p)) puts fits gives drives = drives c next p x gives.0 gives.1 fits
link_went u g c mid below below₂ turn x (Declined e) puts fits gives drives = tt

turn_went : {T : Type 0} (u : T) (g : PlainGiven) (c : LayerSettings) (mid : layer_code.Layer) (below : ShownLink) (turn turn₂ : ℕ) (x : LinkState)
    (o : LayerOutcome) → LayerPuts o → FitsWhole below x → Gives c mid (Ok u) o → WithTurn g mid below turn turn₂
    → TurnGives turn₂ (Ok u) (went (seen_with g turn x) c o)
turn_went u g c mid below turn turn₂ x (Accepted next None) puts fits gives drives = absurd puts
turn_went u g c mid below turn turn₂ x (Accepted next (Some p)) puts fits gives drives = drives c next p x gives.0 gives.1 fits
turn_went u g c mid below turn turn₂ x (Declined e) puts fits gives drives = tt

-- with or without what is given

no_packet : (let p : Option PlainPacket = None in IsSome p) → ⊥
no_packet first = cc

abbrev pub AskedLayer : Option PlainGiven → layer_code.Layer → ShownLink → ℕ → layer_code.Layer → Type 0
AskedLayer o mid below turn new = (c : LayerSettings) (l : Layer) (packet : Option PlainPacket) (x : LinkState) → FitsLayer c mid l → mid.sheet ≡ spelled packet
    → FitsWhole below x → IfSome o (λ g. IsSome packet) → FitsLayer c new (rounds (seen_asked o turn x) c (begin l packet)).layer

abbrev pub AskedLink : Option PlainGiven → layer_code.Layer → ShownLink → ℕ → ShownLink → Type 0
AskedLink o mid below turn below₂ = (c : LayerSettings) (l : Layer) (packet : Option PlainPacket) (x : LinkState) → FitsLayer c mid l → mid.sheet ≡ spelled packet
    → FitsWhole below x → IfSome o (λ g. IsSome packet) → FitsWhole below₂ (all_asked o x (rounds (seen_asked o turn x) c (begin l packet)).put)

abbrev pub AskedTurn : Option PlainGiven → layer_code.Layer → ShownLink → ℕ → ℕ → Type 0
AskedTurn o mid below turn turn₂ = (c : LayerSettings) (l : Layer) (packet : Option PlainPacket) (x : LinkState) → FitsLayer c mid l
    → mid.sheet ≡ spelled packet → FitsWhole below x → IfSome o (λ g. IsSome packet) → turn₂ ≡ (rounds (seen_asked o turn x) c (begin l packet)).turn

pub layer_without : (o : Option PlainGiven) (mid new : layer_code.Layer) (below : ShownLink) (turn : ℕ) → o ≡ None → DrivesLayer mid below turn new
    → AskedLayer o mid below turn new
layer_without o mid new below turn is drives = subst (λ (n : Option PlainGiven). AskedLayer n mid below turn new) (sym is)
    (λ c l packet x fits put link first. drives c l packet x fits put link)

pub link_without : (o : Option PlainGiven) (mid : layer_code.Layer) (below below₂ : ShownLink) (turn : ℕ) → o ≡ None → DrivesLink mid below turn below₂
    → AskedLink o mid below turn below₂
link_without o mid below below₂ turn is drives = subst (λ (n : Option PlainGiven). AskedLink n mid below turn below₂) (sym is)
    (λ c l packet x fits put link first. drives c l packet x fits put link)

pub layer_with : (o : Option PlainGiven) (g : PlainGiven) (mid new : layer_code.Layer) (below : ShownLink) (turn : ℕ) → o ≡ Some g → WithLayer g mid below turn new
    → AskedLayer o mid below turn new
layer_with o g mid new below turn is drives = subst (λ (n : Option PlainGiven). AskedLayer n mid below turn new) (sym is) by
  where
    by : AskedLayer (Some g) mid below turn new
    by c l None x fits put link first = absurd (no_packet first)
    by c l (Some p) x fits put link first = drives c l p x fits put link

pub link_with : (o : Option PlainGiven) (g : PlainGiven) (mid : layer_code.Layer) (below below₂ : ShownLink) (turn : ℕ) → o ≡ Some g → WithLink g mid below turn below₂
    → AskedLink o mid below turn below₂
link_with o g mid below below₂ turn is drives = subst (λ (n : Option PlainGiven). AskedLink n mid below turn below₂) (sym is) by
  where
    by : AskedLink (Some g) mid below turn below₂
    by c l None x fits put link first = absurd (no_packet first)
    by c l (Some p) x fits put link first = drives c l p x fits put link

pub turn_without : (o : Option PlainGiven) (mid : layer_code.Layer) (below : ShownLink) (turn turn₂ : ℕ) → o ≡ None → DrivesTurn mid below turn turn₂
    → AskedTurn o mid below turn turn₂
turn_without o mid below turn turn₂ is drives = subst (λ (n : Option PlainGiven). AskedTurn n mid below turn turn₂) (sym is)
    (λ c l packet x fits put link first. drives c l packet x fits put link)

pub turn_with : (o : Option PlainGiven) (g : PlainGiven) (mid : layer_code.Layer) (below : ShownLink) (turn turn₂ : ℕ) → o ≡ Some g
    → WithTurn g mid below turn turn₂ → AskedTurn o mid below turn turn₂
turn_with o g mid below turn turn₂ is drives = subst (λ (n : Option PlainGiven). AskedTurn n mid below turn turn₂) (sym is) by
  where
    by : AskedTurn (Some g) mid below turn turn₂
    by c l None x fits put link first = absurd (no_packet first)
    by c l (Some p) x fits put link first = drives c l p x fits put link

pub drove_with : {T : Type 0} (u : T) (g : PlainGiven) (s : code.LinkState) (old mid new : layer_code.Layer) (below below₂ : ShownLink)
    (turn turn₂ : ℕ) (request : LayerRequest) → IsTold s below → ((c : LayerSettings) (l : Layer) → LayerPuts (asked_where c s.is_up s.is_full l request))
    → (let r : Result T LayerError = Ok u in Answers old mid r s request) → AskedLayer (Some g) mid below turn new → AskedLink (Some g) mid below turn below₂
    → AskedTurn (Some g) mid below turn turn₂ → (let r : Result T LayerError = Ok u in DrivesWith g old below turn new below₂ turn₂ r request)
drove_with {T = T} u g s old mid new below below₂ turn turn₂ request told puts a layers links turns = record {
  layer = λ c l x fits link. subst (λ (n : Answered). let r : Result T LayerError = Ok u in LayerGives c new r n)
      (sym (told_in s below x (seen_with g turn x) told link refl refl c l request))
      (layer_went u g c mid new below turn x _ (puts c l) link (a.does.gives c l fits) (λ d k p y h i j. layers d k (Some p) y h i j refl));
  link = λ c l x fits link. subst (λ (n : Answered). let r : Result T LayerError = Ok u in GoesWith below₂ g x r n)
      (sym (told_in s below x (seen_with g turn x) told link refl refl c l request))
      (link_went u g c mid below below₂ turn x _ (puts c l) link (a.does.gives c l fits) (λ d k p y h i j. links d k (Some p) y h i j refl));
  turns = λ c l x fits link. subst (λ (n : Answered). let r : Result T LayerError = Ok u in TurnGives turn₂ r n)
      (sym (told_in s below x (seen_with g turn x) told link refl refl c l request))
      (turn_went u g c mid below turn turn₂ x _ (puts c l) link (a.does.gives c l fits) (λ d k p y h i j. turns d k (Some p) y h i j refl));
  layer_stays = λ c l fits. tt;
  link_stays = λ x fits. tt;
  turn_stays = tt;
  missing = λ none. cc;
}

link_not : (T : Type 0) {U : Type 0} (r : Result U LayerError) (e : LayerError) (g : PlainGiven) (below₂ : ShownLink) (x : LinkState) (a : Answered)
    → IsErrAnd r (λ f. f ≡ e) → GoesWith below₂ g x r a
link_not T (Ok u) e g below₂ x a is = absurd is
link_not T (Err f) e g below₂ x (Went s) is = tt
link_not T (Err f) e g below₂ x (Refuses d) is = tt

pub drove_with_not : {U : Type 0} (T : Type 0) (r : Result U LayerError) (e : LayerError) (g : PlainGiven) (s : code.LinkState) (old mid : layer_code.Layer)
    (below : ShownLink) (turn : ℕ) (request : LayerRequest) → IsTold s below → IsErrAnd r (λ f. f ≡ e)
    → (let x : Result T LayerError = Err e in Answers old mid x s request)
    → DrivesWith g old below turn mid below turn r request
drove_with_not T r e g s old mid below turn request told is a = record {
  layer = λ c l x fits link. subst (λ (n : Answered). LayerGives c mid r n) (sym (told_in s below x (seen_with g turn x) told link refl refl c l request))
      (layer_not T r e c mid (seen_with g turn x) _ is (a.does.gives c l fits));
  link = λ c l x fits link. link_not T r e g below x _ is;
  turns = λ c l x fits link. turn_not r e turn (calls (seen_with g turn x) c l request) is;
  layer_stays = λ c l fits. on_err r (a.does.stays c l fits);
  link_stays = λ x fits. on_err r fits;
  turn_stays = on_err r refl;
  missing = λ none. a.does.missing (ap (λ (f : LayerError). let x : Result T LayerError = Err f in x) (same_err r e error.NoMemory is none));
}

-- ---- with or without

pub drove_asked : {T : Type 0} (u : T) (o : Option PlainGiven) (s : code.LinkState) (old mid new : layer_code.Layer) (below below₂ : ShownLink)
    (turn turn₂ : ℕ) (request : LayerRequest) → IsTold s below
    → IfSome o (λ g. (c : LayerSettings) (l : Layer) → LayerPuts (asked_where c s.is_up s.is_full l request))
    → (let r : Result T LayerError = Ok u in Answers old mid r s request) → AskedLayer o mid below turn new → AskedLink o mid below turn below₂
    → AskedTurn o mid below turn turn₂ → (let r : Result T LayerError = Ok u in DrivesAsked o old below turn new below₂ turn₂ r request)
drove_asked u None s old mid new below below₂ turn turn₂ request told puts a layers links turns =
    drove u s old mid new below below₂ turn turn₂ request told a
    (λ c l packet x fits put link. layers c l packet x fits put link tt) (λ c l packet x fits put link. links c l packet x fits put link tt)
    (λ c l packet x fits put link. turns c l packet x fits put link tt)
drove_asked u (Some g) s old mid new below below₂ turn turn₂ request told puts a layers links turns =
    drove_with u g s old mid new below below₂ turn turn₂ request told puts a layers links turns

pub drove_asked_not : {U : Type 0} (T : Type 0) (r : Result U LayerError) (e : LayerError) (o : Option PlainGiven) (s : code.LinkState)
    (old mid : layer_code.Layer) (below : ShownLink) (turn : ℕ) (request : LayerRequest) → IsTold s below → IsErrAnd r (λ f. f ≡ e)
    → (let x : Result T LayerError = Err e in Answers old mid x s request) → DrivesAsked o old below turn mid below turn r request
drove_asked_not T r e None s old mid below turn request told is a = drove_not T r e s old mid below turn request told is a
drove_asked_not T r e (Some g) s old mid below turn request told is a = drove_with_not T r e g s old mid below turn request told is a

-- what a request to a circuit puts, where it suits what is given
pub puts_asked : (o : Option PlainGiven) (up full : Bool) (h : ℕ) (request : Request) → IfSome o (λ g. suits g (Asks h request) ≡ true)
    → IfSome o (λ g. (c : LayerSettings) (l : Layer) → LayerPuts (asked_where c up full l (Asks h request)))
puts_asked None up full h request is = tt
puts_asked (Some g) up full h request is = λ c l. asked_puts g c up full l h request is

pub puts_dialled : (o : Option PlainGiven) (up full : Bool) (called calling user : List ℕ) (proposal : Proposal)
    → IfSome o (λ g. (c : LayerSettings) (l : Layer) → LayerPuts (asked_where c up full l (Dials called calling user proposal)))
puts_dialled None up full called calling user proposal = tt
puts_dialled (Some g) up full called calling user proposal = λ c l. dial_puts c up full l called calling user proposal
