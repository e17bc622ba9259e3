-- Of what a circuit accepts, the memory of a step has room for a copy.
use Rattle.x25_station.proofs.Names.{◌≡◌, ℕ, ◌≤◌, nat_le, nat_lt, List, [], length, Bool, true, false, ◌&&◌, ◌==◌, Option, Some, None, if◌then◌else◌, refl}
use Rattle.x25_station.proofs.Names.{subst, arith, and_parts, leb-true, list_all, Request, Calls, Sends, Interrupts, Done, outcome, call_in, send_in}
use Rattle.x25_station.proofs.Names.{interrupt_in, may_call, is_address_text, CircuitSettings, Circuit, Proposal, CircuitError, State, Free, Open, Asks, Dials}
use Rattle.x25_station.proofs.Names.{LayerOutcome, Accepted, Declined, outcome_in, outcome_on, where_room, if_at_once, puts_at_once, dialled, free_channel}
use Rattle.x25_station.proofs.Names.{LayerSettings, Layer, is_channel, LinkView, Putting, Went, calls, is_figure, longest_user, Marks, IsBrief}
use Rattle.x25_circuit.specs.{Calling.{Outcome, Refused}, Circuit.{waits}}
use Rattle.x25_circuit.specs.declared.error.CircuitError.TheVariants.{BadParameter, Full, TooLong, InterruptOutstanding}
use Rattle.x25_layer.specs.declared.error.LayerError.TheVariants.{NoSuchChannel}
use Rattle.x25_station.proofs.AskedEntryLemmas.{accepted}
use Rattle.x25_circuit.specs.Calling as circuit

-- ---- of a circuit

abbrev WhereDone : Outcome → Type 0 → Type 0
WhereDone (Done next packet) P = P
WhereDone (Refused e) P = Unit {0}

where_tested : (P : Type 0) (b : Bool) (o : Outcome) (e : CircuitError) → (b ≡ true → WhereDone o P) → WhereDone (if b then o else Refused e) P
where_tested P true o e f = f refl
where_tested P false o e f = tt

unless_out : (b : Bool) (P : Type 0) (e : CircuitError) (o : Outcome) → WhereDone o P → WhereDone (if b then Refused e else o) P
unless_out true P e o p = tt
unless_out false P e o p = p

always : (o : Outcome) → WhereDone o (Unit {0})
always (Done next packet) = tt
always (Refused e) = tt

address_brief : (text : List ℕ) → is_address_text text ≡ true → length text ≤ 128
address_brief text is = let n = leb-true (length text) 15 (and_parts (nat_le (length text) 15) (list_all is_figure text) is).0 in omega (arith, n)

longest_few : (long : Bool) → longest_user long ≤ 128
longest_few true = omega arith
longest_few false = omega arith

call_brief : (long : Bool) (called calling user : List ℕ) (proposal : Proposal) → may_call long called calling user proposal.params ≡ true
    → IsBrief (Calls called calling user proposal)
call_brief long called calling user proposal may =
    let first = and_parts (is_address_text called) _ may in
    let second = and_parts (is_address_text calling) _ first.1 in
    let third = and_parts (nat_le (length user) (longest_user long)) _ second.1 in
    let few = leb-true (length user) (longest_user long) third.0 in
    let most = longest_few long in
    (address_brief called first.0, (address_brief calling second.0, omega (arith, few, most)))

call_done : (c : CircuitSettings) (x : Circuit) (s : State) (called calling user : List ℕ) (proposal : Proposal)
    → WhereDone (call_in c x s called calling user proposal) (IsBrief (Calls called calling user proposal))
call_done c x Free called calling user proposal = where_tested _ (may_call c.long_data called calling user proposal.params) _ BadParameter
    (λ may. call_brief c.long_data called calling user proposal may)
call_done c x s called calling user proposal = tt

send_done : (c : CircuitSettings) → c.longest ≤ 65535 → (x : Circuit) (s : State) (q : Marks) (user : List ℕ)
    → WhereDone (send_in c x s q user) (length user ≤ 65535)
send_done c most x Open q user =
    where_tested _ (nat_le (length user) c.longest) _ TooLong
    (λ short. where_tested _ (nat_lt (waits x) 8) _ Full (λ few. (let low = leb-true (length user) c.longest short in omega (arith, low, most))))
send_done c most x s q user = tt

interrupt_brief : (user : List ℕ) → (nat_le 1 (length user) && nat_le (length user) 32) ≡ true → length user ≤ 128
interrupt_brief user is = let n = leb-true (length user) 32 (and_parts (nat_le 1 (length user)) (nat_le (length user) 32) is).1 in omega (arith, n)

interrupt_done : (x : Circuit) (s : State) (user : List ℕ) → WhereDone (interrupt_in x s user) (length user ≤ 128)
interrupt_done x Open user = where_tested _ (nat_le 1 (length user) && nat_le (length user) 32) _ BadParameter
    (λ few. unless_out x.talk.int_out _ InterruptOutstanding _ (interrupt_brief user few))
interrupt_done x s user = tt

done_brief : (c : CircuitSettings) → c.longest ≤ 65535 → (x : Circuit) (request : Request) → WhereDone (outcome c x request) (IsBrief request)
done_brief c most x (Calls called calling user proposal) = call_done c x x.state called calling user proposal
done_brief c most x (Sends q user) = send_done c most x x.state q user
done_brief c most x (Interrupts user) = interrupt_done x x.state user
done_brief c most x request = always (outcome c x request)

-- ---- of a layer

abbrev WhereAccepted : LayerOutcome → Type 0 → Type 0
WhereAccepted (Accepted next packet) P = P
WhereAccepted (Declined e) P = Unit {0}

on_circuit : (P : Type 0) (restarts : ℕ) (circuits : ℕ → Circuit) (h : ℕ) (o : Outcome) → WhereDone o P → WhereAccepted (outcome_on restarts circuits h o) P
on_circuit P restarts circuits h (Done next packet) p = p
on_circuit P restarts circuits h (Refused e) p = tt

in_room : (P : Type 0) (full : Bool) (o : LayerOutcome) → WhereAccepted o P → WhereAccepted (where_room full o) P
in_room P true o p = tt
in_room P false o p = p

at_once : (P : Type 0) (b full : Bool) (o : LayerOutcome) → WhereAccepted o P → WhereAccepted (if_at_once b full o) P
at_once P true full o p = in_room P full o p
at_once P false full o p = p

asks_brief : (c : LayerSettings) → c.circuit.longest ≤ 65535 → (full busy : Bool) (l : Layer) (h : ℕ) (request : Request)
    → WhereAccepted (outcome_in c full busy l.restarts l.circuits (Asks h request)) (IsBrief request)
asks_brief c most full true l h request = tt
asks_brief c most full false l h request = test (is_channel c.channels h)
  where
    good : LayerOutcome
    good = if_at_once (puts_at_once request) full (outcome_on l.restarts l.circuits h (outcome c.circuit (l.circuits h) request))

    test : (b : Bool) → WhereAccepted (if b then good else Declined NoSuchChannel) (IsBrief request)
    test true = at_once (IsBrief request) (puts_at_once request) full
        _ (on_circuit (IsBrief request) l.restarts l.circuits h _ (done_brief c.circuit most (l.circuits h) request))
    test false = tt

dials_brief : (c : LayerSettings) → c.circuit.longest ≤ 65535 → (full busy : Bool) (l : Layer) (called calling user : List ℕ) (proposal : Proposal)
    → WhereAccepted (outcome_in c full busy l.restarts l.circuits (Dials called calling user proposal)) (IsBrief (Calls called calling user proposal))
dials_brief c most full true l called calling user proposal = tt
dials_brief c most full false l called calling user proposal = at (free_channel c.circuit.role l.circuits c.channels)
  where
    request : Request
    request = Calls called calling user proposal

    at : (o : Option ℕ) → WhereAccepted (dialled c full l.restarts l.circuits o called calling user proposal) (IsBrief request)
    at None = tt
    at (Some h) = in_room (IsBrief request) full _ (on_circuit (IsBrief request) l.restarts l.circuits h _ (done_brief c.circuit most (l.circuits h) request))

pub asked_brief : (view : LinkView) (c : LayerSettings) → c.circuit.longest ≤ 65535 → (l : Layer) (h : ℕ) (request : Request) (p : Putting)
    → calls view c l (Asks h request) ≡ Went p → IsBrief request
asked_brief view c most l h request p is =
    subst (λ (o : LayerOutcome). WhereAccepted o (IsBrief request)) (accepted view c l (Asks h request) p is).outcome
    (asks_brief c most (view.waits [] == 256) l.restarting l h request)

pub dialled_brief : (view : LinkView) (c : LayerSettings) → c.circuit.longest ≤ 65535
    → (l : Layer) (called calling user : List ℕ) (proposal : Proposal) (p : Putting) → calls view c l (Dials called calling user proposal) ≡ Went p
    → IsBrief (Calls called calling user proposal)
dialled_brief view c most l called calling user proposal p is =
    subst (λ (o : LayerOutcome). WhereAccepted o (IsBrief (Calls called calling user proposal)))
    (accepted view c l (Dials called calling user proposal) p is).outcome
    (dials_brief c most (view.waits [] == 256) l.restarting l called calling user proposal)
