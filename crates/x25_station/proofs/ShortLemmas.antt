-- What a layer tells of octets: on configured channels alone, and with texts that are short.
use Rattle.x25_station.proofs.Names.{◌≡◌, ℕ, ◌<◌, ◌≤◌, List, [], ◌∷◌, Option, Some, None, Result, Ok, Err, Bool, true, false, if◌then◌else◌, length, refl}
use Rattle.x25_station.proofs.Names.{arith, All, Role, Dte, Dce, CircuitSettings, Circuit, Talk, incoming, row_undecoded, Answer, answers, undecoded, row_call}
use Rattle.x25_station.proofs.Names.{row_accept, row_clear, data_ground, number_ground, takes, hears_status, confirms, row_clear_conf, row_reset}
use Rattle.x25_station.proofs.Names.{row_reset_conf, row_data, piece_of, no_part, joining, Message, CallRequest, PlainNotice, connected, default_params}
use Rattle.x25_station.proofs.Names.{may_answer, said_in, Params, State, Free, Calling, Collision, Open, Resetting, Clearing, LayerSettings, Layer, LayerAnswer}
use Rattle.x25_station.proofs.Names.{is_channel, notices_on, answers_on, drops, answers_ready, answers_restarting, answers_in, undecoded_in, undecoded_at}
use Rattle.x25_station.proofs.Names.{answer_to, PlainPacket, call, accept, clear, clear_conf, user_data, rr, rnr, interrupt, interrupt_conf, reset, reset_conf}
use Rattle.x25_station.proofs.Names.{restart, restart_conf, channel_in, IsInRange, longest_user, read_in, PacketError, IsShort, AreTellable}
use Rattle.x25_circuit.specs.{Hearing.{unless, collides, goes, clears_for, connects, row_open}, Message.{completed}, Notice.{deliveries}}
use Rattle.x25_packet.specs.laws.TakingLaw.{TakesInRange}

abbrev AreShort : List PlainNotice → Type 0
AreShort [] = Unit {0}
AreShort (notice ∷ notices) = IsShort notice × AreShort notices

-- the texts of a packet that is read
abbrev IsShortPacket : PlainPacket → Type 0
IsShortPacket (call channel called calling facilities user) = length user ≤ 128
IsShortPacket (interrupt channel user) = length user ≤ 128
IsShortPacket packet = Unit {0}

user_short : (long_data : Bool) → longest_user long_data ≤ 128
user_short true = omega arith
user_short false = omega arith

range_short : (p : PlainPacket) → IsInRange 128 p → IsShortPacket p
range_short (call channel called calling facilities user) r = r.4
range_short (interrupt channel user) r = omega (arith, r.2)
range_short p r = tt

-- ---- the rows of a circuit

collides_short : (role : Role) (x : Circuit) (request : CallRequest) → length request.user ≤ 128 → AreShort (collides role x request).notices
collides_short Dte x request short = tt
collides_short Dce x request short = (tt, (short, tt))

call_short : (c : CircuitSettings) (x : Circuit) (state : State) (request : CallRequest) → length request.user ≤ 128
    → AreShort (row_call c x state request).notices
call_short c x Free request short = (short, tt)
call_short c x Calling request short = collides_short c.role x request short
call_short c x Clearing request short = tt
call_short c x state request short = (tt, tt)

connects_short : (c : CircuitSettings) (x : Circuit) (answered : Params) → AreShort (connects c x answered).notices
connects_short c x answered = test (may_answer x.params answered)
  where
    test : (b : Bool) → AreShort (let a : Answer = if b then goes x Open answered true None (connected answered ∷ []) else clears_for c x 3 66 in a.notices)
    test true = (tt, tt)
    test false = (tt, tt)

accept_short : (c : CircuitSettings) (x : Circuit) (state : State) (facilities : List ℕ) → AreShort (row_accept c x state facilities).notices
accept_short c x Calling facilities = connects_short c x (said_in x.params facilities)
accept_short c x Collision facilities = connects_short c x (said_in x.params facilities)
accept_short c x Clearing facilities = tt
accept_short c x state facilities = (tt, tt)

clear_short : (x : Circuit) (state : State) (cause diagnostic : ℕ) → AreShort (row_clear x state cause diagnostic).notices
clear_short x Free cause diagnostic = tt
clear_short x state cause diagnostic = (tt, tt)

clear_conf_short : (c : CircuitSettings) (x : Circuit) (state : State) → AreShort (row_clear_conf c x state).notices
clear_conf_short c x Free = (tt, tt)
clear_conf_short c x state = (tt, tt)

reset_short : (c : CircuitSettings) (x : Circuit) (state : State) (cause diagnostic : ℕ) → AreShort (row_reset c x state cause diagnostic).notices
reset_short c x Clearing cause diagnostic = tt
reset_short c x state cause diagnostic = (tt, tt)

reset_conf_short : (c : CircuitSettings) (x : Circuit) (state : State) → AreShort (row_reset_conf c x state).notices
reset_conf_short c x Clearing = tt
reset_conf_short c x state = (tt, tt)

unless_short : (c : CircuitSettings) (x : Circuit) (ground : Option ℕ) (good : Answer) → AreShort good.notices → AreShort (unless c x ground good).notices
unless_short c x None good short = short
unless_short c x (Some diagnostic) good short = (tt, tt)

deliveries_short : (messages : List Message) → AreShort (deliveries messages)
deliveries_short [] = tt
deliveries_short (m ∷ messages) = (tt, deliveries_short messages)

confirms_short : (c : CircuitSettings) (x : Circuit) (t : Talk) (b : Bool) → AreShort (confirms c x t b).notices
confirms_short c x t true = (tt, tt)
confirms_short c x t false = (tt, tt)

-- DATA, RR, RNR, INTERRUPT and INTERRUPT CONFIRMATION
abbrev IsOfData : PlainPacket → Type 0
IsOfData (user_data channel q m ps pr user) = Unit {0}
IsOfData (rr channel pr) = Unit {0}
IsOfData (rnr channel pr) = Unit {0}
IsOfData (interrupt channel user) = Unit {0}
IsOfData (interrupt_conf channel) = Unit {0}
IsOfData packet = ⊥

open_short : (c : CircuitSettings) (x : Circuit) (t : Talk) (p : PlainPacket) → IsOfData p → IsShortPacket p → AreShort (row_open c x t p).notices
open_short c x t (user_data channel q m ps pr user) kind short =
    unless_short c x (data_ground c.longest (incoming x).size t ps pr (piece_of q m user)) (takes x t pr (piece_of q m user))
    (deliveries_short (completed (joining no_part t.taken) (piece_of q m user)))
open_short c x t (rr channel pr) kind short = unless_short c x (number_ground t pr) (hears_status x t true pr) tt
open_short c x t (rnr channel pr) kind short = unless_short c x (number_ground t pr) (hears_status x t false pr) tt
open_short c x t (interrupt channel user) kind short = (short, tt)
open_short c x t (interrupt_conf channel) kind short = confirms_short c x t t.int_out
open_short c x t p kind short = absurd kind

data_short : (c : CircuitSettings) (x : Circuit) (state : State) (p : PlainPacket) → IsOfData p → IsShortPacket p → AreShort (row_data c x state p).notices
data_short c x Open p kind short = open_short c x x.talk p kind short
data_short c x Resetting p kind short = tt
data_short c x Clearing p kind short = tt
data_short c x state p kind short = (tt, tt)

answers_short : (c : CircuitSettings) (x : Circuit) (p : PlainPacket) → IsShortPacket p → AreShort (answers c x p).notices
answers_short c x (call channel called calling facilities user) short =
    call_short c x x.state (record { called = called; calling = calling; user = user; params = said_in default_params facilities }) short
answers_short c x (accept channel facilities) short = accept_short c x x.state facilities
answers_short c x (clear channel cause diagnostic) short = clear_short x x.state cause diagnostic
answers_short c x (clear_conf channel) short = clear_conf_short c x x.state
answers_short c x (reset channel cause diagnostic) short = reset_short c x x.state cause diagnostic
answers_short c x (reset_conf channel) short = reset_conf_short c x x.state
answers_short c x (restart cause diagnostic) short = tt
answers_short c x restart_conf short = tt
answers_short c x p short = data_short c x x.state p tt short

undecoded_short : (c : CircuitSettings) (x : Circuit) (state : State) (e : PacketError) → AreShort (row_undecoded c x state e).notices
undecoded_short c x Resetting e = tt
undecoded_short c x Clearing e = tt
undecoded_short c x state e = (tt, tt)

-- ---- the layer

on_tellable : (c : LayerSettings) (h : ℕ) (notices : List PlainNotice) → is_channel c.channels h ≡ true → AreShort notices
    → AreTellable c (notices_on h notices)
on_tellable c h [] configured short = tt
on_tellable c h (notice ∷ notices) configured short = ((configured, short.0), on_tellable c h notices configured short.1)

if_tellable : (c : LayerSettings) (h restarts : ℕ) (circuits : ℕ → Circuit) (a : Answer) → AreShort a.notices
    → AreTellable c (let d : LayerAnswer = if is_channel c.channels h then answers_on restarts circuits h a else drops false restarts circuits in d.notices)
if_tellable c h restarts circuits a short = test (is_channel c.channels h) refl
  where
    test : (b : Bool) → is_channel c.channels h ≡ b
        → AreTellable c (let d : LayerAnswer = if b then answers_on restarts circuits h a else drops false restarts circuits in d.notices)
    test true is = on_tellable c h a.notices is short
    test false is = tt

ready_tellable : (c : LayerSettings) (n : ℕ) (f : ℕ → Circuit) (p : PlainPacket) → IsShortPacket p → AreTellable c (answers_ready c n f p).notices
ready_tellable c n f (restart cause diagnostic) short = (tt, tt)
ready_tellable c n f restart_conf short = (tt, tt)
ready_tellable c n f (call channel called calling facilities user) short =
    if_tellable c channel n f (answers c.circuit (f channel) (call channel called calling facilities user))
    (answers_short c.circuit (f channel) (call channel called calling facilities user) short)
ready_tellable c n f (accept channel facilities) short = if_tellable c channel n f (answers c.circuit (f channel) (accept channel facilities))
    (answers_short c.circuit (f channel) (accept channel facilities) short)
ready_tellable c n f (clear channel cause diagnostic) short =
    if_tellable c channel n f (answers c.circuit (f channel) (clear channel cause diagnostic))
    (answers_short c.circuit (f channel) (clear channel cause diagnostic) short)
ready_tellable c n f (clear_conf channel) short = if_tellable c channel n f (answers c.circuit (f channel) (clear_conf channel))
    (answers_short c.circuit (f channel) (clear_conf channel) short)
ready_tellable c n f (user_data channel q m ps pr user) short =
    if_tellable c channel n f (answers c.circuit (f channel) (user_data channel q m ps pr user))
    (answers_short c.circuit (f channel) (user_data channel q m ps pr user) short)
ready_tellable c n f (rr channel pr) short = if_tellable c channel n f (answers c.circuit (f channel) (rr channel pr))
    (answers_short c.circuit (f channel) (rr channel pr) short)
ready_tellable c n f (rnr channel pr) short = if_tellable c channel n f (answers c.circuit (f channel) (rnr channel pr))
    (answers_short c.circuit (f channel) (rnr channel pr) short)
ready_tellable c n f (interrupt channel user) short = if_tellable c channel n f (answers c.circuit (f channel) (interrupt channel user))
    (answers_short c.circuit (f channel) (interrupt channel user) short)
ready_tellable c n f (interrupt_conf channel) short = if_tellable c channel n f (answers c.circuit (f channel) (interrupt_conf channel))
    (answers_short c.circuit (f channel) (interrupt_conf channel) short)
ready_tellable c n f (reset channel cause diagnostic) short =
    if_tellable c channel n f (answers c.circuit (f channel) (reset channel cause diagnostic))
    (answers_short c.circuit (f channel) (reset channel cause diagnostic) short)
ready_tellable c n f (reset_conf channel) short = if_tellable c channel n f (answers c.circuit (f channel) (reset_conf channel))
    (answers_short c.circuit (f channel) (reset_conf channel) short)

restarting_tellable : (c : LayerSettings) (n : ℕ) (f : ℕ → Circuit) (p : PlainPacket) → AreTellable c (answers_restarting n f p).notices
restarting_tellable c n f (restart cause diagnostic) = (tt, tt)
restarting_tellable c n f restart_conf = (tt, tt)
restarting_tellable c n f p = tt

in_tellable : (c : LayerSettings) (busy : Bool) (n : ℕ) (f : ℕ → Circuit) (p : PlainPacket) → IsShortPacket p → AreTellable c (answers_in c busy n f p).notices
in_tellable c true n f p short = restarting_tellable c n f p
in_tellable c false n f p short = ready_tellable c n f p short

undecoded_tellable : (c : LayerSettings) (busy : Bool) (n : ℕ) (f : ℕ → Circuit) (h : ℕ) (e : PacketError) → AreTellable c (undecoded_in c busy n f h e).notices
undecoded_tellable c true n f h e = tt
undecoded_tellable c false n f h e = if_tellable c h n f (undecoded c.circuit (f h) e) (undecoded_short c.circuit (f h) (f h).state e)

at_tellable : (c : LayerSettings) (l : Layer) (e : PacketError) (o : Option ℕ) → AreTellable c (undecoded_at c l e o).notices
at_tellable c l e None = tt
at_tellable c l e (Some h) = undecoded_tellable c l.restarting l.restarts l.circuits h e

pub told_tellable : TakesInRange → (wide : Bool) (c : LayerSettings) (l : Layer) (octets : List ℕ) → All (λ octet. octet < 256) octets
    → AreTellable c (answer_to c l octets (read_in wide (longest_user c.circuit.long_data) octets)).notices
told_tellable law wide c l octets bytes = by (read_in wide (longest_user c.circuit.long_data) octets) refl
  where
    by : (r : Result PlainPacket PacketError) → read_in wide (longest_user c.circuit.long_data) octets ≡ r → AreTellable c (answer_to c l octets r).notices
    by (Ok p) is = in_tellable c l.restarting l.restarts l.circuits p
        (range_short p (law wide (longest_user c.circuit.long_data) p octets (user_short c.circuit.long_data) bytes is))
    by (Err e) is = at_tellable c l e (channel_in octets)
