-- A message is refused exactly where its channel has no room for one more.
use Rattle.x25_station.proofs.Names.{◌≡◌, ◌∙◌, ℕ, ◌-◌, ◌≤◌, ◌==◌, Bool, true, false, not, List, [], length, Option, nat_lt, if◌then◌else◌, refl, sym, ap, arith}
use Rattle.x25_station.proofs.Names.{nat_tests, Done, Sends, outcome, send_in, Circuit, CircuitSettings, is_open_in, State, Free, Calling, Arriving, Collision}
use Rattle.x25_station.proofs.Names.{Open, Resetting, Clearing, LayerOutcome, Accepted, Declined, Asks, outcome_on, outcome_in, LayerSettings, is_channel}
use Rattle.x25_station.proofs.Names.{LayerError, Answered, Went, Refuses, LinkView, went, Side, is_up, PlainPacket, Marks, may_mark, Settings, link_settings}
use Rattle.x25_station.proofs.Names.{layer_settings, StationEntry, Station, view_of, did, requests, requests_of, where_asked}
use Rattle.std.proofs.Common.{le-leb}
use Rattle.x25_circuit.specs.{Calling.{Outcome as CircuitOutcome, Refused as CircuitRefuses}, Circuit.{waits, message_room}}
use Rattle.x25_station.specs.Station.Told.{room, is_refused}
use Rattle.x25_circuit.specs.declared.error.CircuitError.TheVariants as circuit_error
use Rattle.x25_layer.specs.declared.error.LayerError.TheVariants as error

abbrev fails : CircuitOutcome → Bool
fails (Done next packet) = false
fails (CircuitRefuses e) = true

abbrev declines : LayerOutcome → Bool
declines (Accepted next packet) = false
declines (Declined e) = true

abbrev refuses : Answered → Bool
refuses (Went step) = false
refuses (Refuses e) = true

on_circuit : (restarts : ℕ) (circuits : ℕ → Circuit) (h : ℕ) (o : CircuitOutcome) → declines (outcome_on restarts circuits h o) ≡ fails o
on_circuit restarts circuits h (Done next packet) = refl
on_circuit restarts circuits h (CircuitRefuses e) = refl

in_layer : (c : LayerSettings) (is_full restarting : Bool) (restarts : ℕ) (circuits : ℕ → Circuit) (h : ℕ) (q : Marks) (user : List ℕ)
    → declines (outcome_in c is_full restarting restarts circuits (Asks h (Sends q user)))
    ≡ (if restarting then true else if is_channel c.channels h then fails (outcome c.circuit (circuits h) (Sends q user)) else true)
in_layer c is_full true restarts circuits h q user = refl
in_layer c is_full false restarts circuits h q user = at (is_channel c.channels h)
  where
    o : CircuitOutcome
    o = outcome c.circuit (circuits h) (Sends q user)

    at : (b : Bool) → declines (if b then outcome_on restarts circuits h o else Declined error.NoSuchChannel) ≡ (if b then fails o else true)
    at true = on_circuit restarts circuits h o
    at false = refl

over_link : (view : LinkView) (c : LayerSettings) (up : Bool) (o : LayerOutcome) (e : LayerError) → refuses (if up then went view c o else Refuses e)
    ≡ (if up then declines o else true)
over_link view c true (Accepted next packet) e = refl
over_link view c true (Declined f) e = refl
over_link view c false o e = refl

at_station : (c : Settings) (t : Side) (entries : List StationEntry) (a : Answered) → is_refused (did c t entries a) ≡ refuses a
at_station c t entries (Went step) = refl
at_station c t entries (Refuses e) = refl

eight_less : (w : ℕ) → ((8 - w) == 0) ≡ not (nat_lt w 8)
eight_less w = grind (arith, nat_tests)

-- a message that isn't too long
by_circuit : (w : ℕ) (next : Circuit) (packet : Option PlainPacket) (is_short has_room : Bool) → is_short ≡ true → ((8 - w) == 0) ≡ not has_room
    → ((8 - w) == 0) ≡ fails (if is_short then (if has_room then Done next packet else CircuitRefuses circuit_error.Full)
    else CircuitRefuses circuit_error.TooLong)
by_circuit w next packet true true short is = is
by_circuit w next packet true false short is = is
by_circuit w next packet false has_room short is = absurd (cc)

in_circuit : (c : CircuitSettings) (x : Circuit) (q : Marks) (user : List ℕ) → length user ≤ c.longest → (message_room x == 0)
    ≡ fails (outcome c x (Sends q user))
in_circuit c x q user short = at x.state
  where
    at : (state : State) → ((if is_open_in state then 8 - waits x else 0) == 0) ≡ fails (send_in c x state q user)
    at Free = refl
    at Calling = refl
    at Arriving = refl
    at Collision = refl
    at Open = by_circuit (waits x) _ _ _ _ (le-leb (length user) c.longest short) (eight_less (waits x))
    at Resetting = refl
    at Clearing = refl

no_room : (up restarting configured : Bool) (n : ℕ) (is : Bool) → (n == 0) ≡ is
    → ((if up then (if restarting then 0 else if configured then n else 0) else 0) == 0)
    ≡ (if up then (if restarting then true else if configured then is else true) else true)
no_room false restarting configured n is e = refl
no_room true true configured n is e = refl
no_room true false false n is e = refl
no_room true false true n is e = e

pub room_is_what_is_taken : (c : Settings) (s : Station) (h : ℕ) (q : Marks) (user : List ℕ) → may_mark c.wide q ≡ true → length user ≤ c.channels.message
    → (room c s h == 0) ≡ is_refused (requests c s (Asks h (Sends q user)))
room_is_what_is_taken c s h q user may short =
    let lc = layer_settings c in
    let up = is_up s.link.phase in
    let view = view_of (link_settings c) s.turn s.link in
    let is_full = view.waits [] == 256 in
    let made = outcome_in lc is_full s.layer.restarting s.layer.restarts s.layer.circuits (Asks h (Sends q user)) in
    no_room up s.layer.restarting (is_channel lc.channels h) (message_room (s.layer.circuits h)) _ (in_circuit lc.circuit (s.layer.circuits h) q user short)
    ∙ sym (
    ap (λ (b : Bool). is_refused (where_asked b (requests_of c s.link s.layer view (Asks h (Sends q user))))) may
    ∙ at_station c _ _ (if up then went view lc made else Refuses error.NotUp)
    ∙ over_link view lc up made error.NotUp
    ∙ ap (λ (b : Bool). if up then b else true) (in_layer lc is_full s.layer.restarting s.layer.restarts s.layer.circuits h q user)
    )
