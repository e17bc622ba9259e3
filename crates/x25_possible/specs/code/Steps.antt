-- What a set of states becomes, packet by packet: over lists, in the order in which the code goes. No list has more
-- than 16 states: None where there is no room, or a number is too large.
use Rattle.std.specs.Prelude.{◌≡◌, ℕ, ◌+◌, ◌==◌, nat_lt, nat_le, Bool, true, false, not, ◌&&◌, ◌||◌, if◌then◌else◌}
use Rattle.std.specs.Prelude.{List, [], ◌∷◌, ◌++◌, length, drop, Option, Some, None}
use Rattle.x25_bits.specs.declared.role.Role.{Role}
use Rattle.x25_bits.specs.declared.role.Role.TheVariants.{Dte, Dce}
use Rattle.x25_possible.specs.Channel.{at_once, dropped, far, found, goes_on, is_polite, sends, takes}
use Rattle.x25_possible.specs.laws.Possible.{Item, Own, Other}
use Rattle.x25_possible.specs.declared.packet.Packet.{Packet}
use Rattle.x25_possible.specs.declared.packet.Packet.TheVariants.{Accept, Clear, ClearConf, Restart, RestartConf, Data}
use Rattle.x25_possible.specs.declared.packet.Packet.TheVariants.{Rr, Rnr, Interrupt, InterruptConf, Reset}
use Rattle.x25_possible.specs.declared.{packet.Defaults.{Defaults}, packet.Terms.{Terms}}
use Rattle.x25_possible.specs.declared.phase.Limits.{Limits}
use Rattle.x25_possible.specs.declared.phase.Phase.{Phase}
use Rattle.x25_possible.specs.declared.phase.Phase.TheVariants.{Idle, Calls, WasCalled, Talks, Resets, WasReset}
use Rattle.x25_possible.specs.declared.phase.Phase.TheVariants.{Clears, WasCleared, Restarts, WasRestarted}
use Rattle.x25_possible.specs.declared.phase.Talk.{Talk}
use Rattle.x25_possible.specs.declared.set.Knowledge.{Knowledge}
use Rattle.x25_possible.specs.declared.set.Knowledge.TheVariants.{Blind, Lost, Ready, Doubt, Likely, Known}
use Rattle.x25_possible.specs.declared.set.Set.{Set}
use Rattle.x25_possible.specs.declared.set.Told.{Told}
use Rattle.x25_possible.specs.declared.set.Told.TheVariants.{Nothing, Rude, Broken}
use Rattle.x25_possible.specs.declared.spots.Spot.{Spot}

-- ---- one more state

-- whether two are surely one
abbrev pub same_limits : Limits → Limits → Bool
same_limits a b = a.most == b.most && a.window == b.window

abbrev pub same_defaults : Defaults → Defaults → Bool
same_defaults a b = a.size == b.size && a.window == b.window

abbrev pub same_numbers : Terms → Terms → Bool
same_numbers a b =
    a.calling_size == b.calling_size && (a.called_size == b.called_size && (a.calling_window == b.calling_window
    && a.called_window == b.called_window))

abbrev pub same_terms : Terms → Terms → Bool
same_terms a b = same_defaults a.defaults b.defaults && same_numbers a b

abbrev pub is_same : Phase → Phase → Bool
is_same Idle Idle = true
is_same Clears Clears = true
is_same WasCleared WasCleared = true
is_same Restarts Restarts = true
is_same WasRestarted WasRestarted = true
is_same (Calls a) (Calls b) = same_terms a b
is_same (WasCalled a) (WasCalled b) = same_terms a b
is_same (Resets a) (Resets b) = same_limits a b
is_same (WasReset a) (WasReset b) = same_limits a b
is_same s r = false

abbrev pub is_there : Spot → List Spot → Bool
is_there spot [] = false
is_there spot (q ∷ qs) = (q.at == spot.at && is_same q.phase spot.phase) || is_there spot qs

abbrev pub kept : Spot → List Spot → Option (List Spot)
kept spot out = if is_there spot out then Some out else if length out == 16 then None else Some (out ++ spot ∷ [])

-- a list that was made, where there was room
abbrev pub made : Bool → List Spot → Option (List Spot)
made b out = if b then Some out else None

abbrev pub and_then : Option (List Spot) → (List Spot → Option (List Spot)) → Option (List Spot)
and_then None f = None
and_then (Some out) f = f out

-- ---- all to which a state comes

-- numbers that aren't counted on
abbrev pub is_large : Phase → Bool
is_large (Talks k) =
    nat_lt 2147483647 k.sent || nat_lt 2147483647 k.acked || nat_lt 2147483647 k.taken || nat_lt 2147483647 k.told
    || nat_lt 2147483647 k.owed
is_large s = false

abbrev pub spot_at : ℕ → Phase → Spot
spot_at n s = record { phase = s; at = n }

abbrev pub settles_by : Option Phase → Phase → Spot → (Phase → List Spot → Option (List Spot)) → List Spot
    → Option (List Spot)
settles_by (Some u) r spot next out = next u out
settles_by None r spot next out = and_then (kept spot out) (next r)

-- with so much of the way in front of it
abbrev pub settles : Role → ℕ → List Packet → Phase → List Spot → Option (List Spot)
settles role n [] s out = if is_large s then None else kept (spot_at n s) out
settles role n (x ∷ rest) s out =
    if is_large s then None
    else settles_by (at_once s x) (takes role s x) (spot_at n s) (settles role (n + 1) rest) out

-- of each of these
abbrev pub all_of : (Spot → List Spot → Option (List Spot)) → List Spot → List Spot → Option (List Spot)
all_of step [] out = Some out
all_of step (q ∷ qs) out = and_then (step q out) (all_of step qs)

-- ---- as the end sends a packet

-- by the rules, or behind a fault
abbrev pub next_of : Bool → Phase → Packet → Option Phase
next_of breaks s x = if breaks then goes_on s x else sends s x

abbrev pub goes_by : Role → List Packet → ℕ → Option Phase → List Spot → Option (List Spot)
goes_by role way n None out = Some out
goes_by role way n (Some u) out = settles role n (drop n way) u out

abbrev pub goes : Bool → Role → List Packet → Packet → Spot → List Spot → Option (List Spot)
goes breaks role way x q out =
    if is_large q.phase then None else goes_by role way q.at (next_of breaks q.phase x) out

abbrev pub go_all : Bool → Role → List Packet → Packet → List Spot → List Spot → Option (List Spot)
go_all breaks role way x qs out = all_of (goes breaks role way x) qs out

-- ---- as the other end sends one, the last on the way

abbrev pub grows : Role → ℕ → List Packet → Spot → List Spot → Option (List Spot)
grows role last way q out =
    if nat_le last q.at then settles role last (drop last way) q.phase out else kept q out

abbrev pub grow_all : Role → ℕ → List Packet → List Spot → List Spot → Option (List Spot)
grow_all role last way qs out = all_of (grows role last way) qs out

-- ---- as an end that may be anywhere sends one: by the last that it took

abbrev pub settles_found : Role → ℕ → List Packet → Option Phase → List Spot → Option (List Spot)
settles_found role n way None out = Some out
settles_found role n way (Some u) out = settles role n way u out

-- with so much of the way in front of it
abbrev pub found_from : Role → Option Packet → ℕ → List Packet → Packet → List Spot → Option (List Spot)
found_from role last n [] x out = settles_found role n [] (found last x) out
found_from role last n (y ∷ rest) x out =
    and_then (settles_found role n (y ∷ rest) (found last x) out) (found_from role (Some y) (n + 1) rest x)

-- ---- where nothing is left on the way

abbrev pub are_at_end : ℕ → List Spot → Bool
are_at_end n [] = true
are_at_end n (q ∷ qs) = nat_le n q.at && are_at_end n qs

abbrev pub anew_at : Spot → List Spot → Option (List Spot)
anew_at q out = kept (spot_at 0 q.phase) out

abbrev pub anew : List Spot → List Spot → Option (List Spot)
anew qs out = all_of anew_at qs out

-- ---- what is told

abbrev pub must_answer : Phase → Bool
must_answer (WasReset limits) = true
must_answer WasCleared = true
must_answer WasRestarted = true
must_answer s = false

-- the first state of those that have taken most, and have nothing to answer
abbrev pub latest_from : Bool → Phase → ℕ → List Spot → Phase
latest_from is_first s n [] = s
latest_from is_first s n (q ∷ qs) =
    if (is_first || nat_lt n q.at) && not (must_answer q.phase) then latest_from false q.phase q.at qs
    else latest_from is_first s n qs

abbrev pub is_some : Option Phase → Bool
is_some None = false
is_some (Some s) = true

abbrev pub may_send : Phase → Packet → Bool
may_send s x = if is_large s then false else is_some (sends s x)

abbrev pub are_polite : Packet → List Spot → Bool
are_polite x [] = true
are_polite x (q ∷ qs) = not (is_large q.phase) && (is_polite q.phase x && are_polite x qs)

-- the last state that may send it, where none may politely
abbrev pub rude_from : Packet → Option Phase → List Spot → Option Phase
rude_from x found [] = found
rude_from x found (q ∷ qs) =
    if may_send q.phase x then (if is_polite q.phase x then None else rude_from x (Some q.phase) qs)
    else rude_from x found qs

-- a state's own request once more, before its answer (timers T20, T23 and T22)
abbrev pub is_again : Packet → Phase → Bool
is_again Restart Restarts = true
is_again Clear Clears = true
is_again Reset (Resets limits) = true
is_again x s = false

abbrev pub are_again : Packet → List Spot → Bool
are_again x [] = true
are_again x (q ∷ qs) = is_again x q.phase && are_again x qs

-- ---- what makes a set known

abbrev pub is_idle : Phase → Bool
is_idle Idle = true
is_idle s = false

abbrev pub is_one_idle : List Spot → Bool
is_one_idle [] = false
is_one_idle (q ∷ qs) = is_idle q.phase || is_one_idle qs

abbrev pub is_dte : Role → Bool
is_dte Dte = true
is_dte Dce = false

-- whether such a packet answers a state's request: one that crosses it may follow another one that wasn't seen; of a
-- DCE that called, the DTE may have called before
abbrev pub is_answered : Role → Packet → Phase → Bool
is_answered role RestartConf Restarts = true
is_answered role ClearConf Clears = true
is_answered role (Accept said) (Calls terms) = is_dte role
is_answered role x s = false

abbrev pub are_answered : Role → Packet → List Spot → Bool
are_answered role x [] = true
are_answered role x (q ∷ qs) = is_answered role x q.phase && are_answered role x qs

-- It is in no call, or in one that was seen to begin; or since it was found the other end acknowledged nine of its data
-- packets or more: at most seven weren't acknowledged as it sent them, so that it took something that was seen.
abbrev pub is_bound : Phase → Bool
is_bound (Talks k) = nat_lt k.acked far || nat_le (far + 16) k.acked
is_bound s = true

abbrev pub are_bound : List Spot → Bool
are_bound [] = true
are_bound (q ∷ qs) = is_bound q.phase && are_bound qs

abbrev pub is_ready : Knowledge → Bool
is_ready Ready = true
is_ready k = false

-- A packet that the end sends makes it known: an answer, where the request was seen, or a request that crosses one; one
-- of a call that was seen to begin, or for long enough; and behind a set-up its RESTART.
abbrev pub makes_known : Knowledge → Packet → List Spot → Bool
makes_known k RestartConf qs = true
makes_known k ClearConf qs = true
makes_known k (Accept said) qs = true
makes_known k Restart qs = is_ready k || is_one_idle qs
makes_known k Clear qs = is_one_idle qs
makes_known k (Data q m ps pr size) qs = are_bound qs
makes_known k (Rr pr) qs = are_bound qs
makes_known k (Rnr pr) qs = are_bound qs
makes_known k Interrupt qs = are_bound qs
makes_known k InterruptConf qs = are_bound qs
makes_known k x qs = false

-- behind one that wasn't read no call is known, and behind a set-up its RESTART comes
abbrev pub may_find : Knowledge → Packet → Bool
may_find Doubt (Accept said) = false
may_find Ready (Data q m ps pr size) = false
may_find k x = true

-- ---- a set

abbrev pub known_by : Knowledge → Bool
known_by Known = true
known_by k = false

abbrev pub is_known : Set → Bool
is_known s = known_by s.knowledge

-- wherever the end may be, it sent the same request before, and waits for the answer
abbrev pub repeats : Packet → Set → Bool
repeats x s = is_known s && are_again x s.spots.items

-- no states are listed
abbrev pub blind_by : Knowledge → Bool
blind_by Likely = false
blind_by Known = false
blind_by k = true

abbrev pub is_blind : Set → Bool
is_blind s = blind_by s.knowledge

-- states are listed, and something is on the way
abbrev pub is_awaiting : Set → Bool
is_awaiting s = not (is_blind s) && not (length s.way.items == 0)

-- it may be anywhere on the way
abbrev pub lost_by : Knowledge → Bool
lost_by Lost = true
lost_by Ready = true
lost_by Doubt = true
lost_by k = false

abbrev pub is_lost : Set → Bool
is_lost s = lost_by s.knowledge

abbrev pub standing : Role → List Packet → List Spot → Knowledge → Set
standing role way spots k = record {
  role = role;
  way = record { items = way };
  spots = record { items = spots };
  knowledge = k;
}

-- it has restarted, and there is no call
abbrev pub begun : Role → Set
begun role = standing role [] (spot_at 0 Idle ∷ []) Known

-- nothing is known
abbrev pub anywhere : Role → Knowledge → Set
anywhere role k = standing role [] [] k

abbrev pub any : Role → Set
any role = anywhere role Lost

-- behind a set-up of the link: nothing of before comes
abbrev pub ready : Role → Set
ready role = anywhere role Ready

-- where there is no room, for good
abbrev pub without_room : Set → Set
without_room s = anywhere s.role Blind

-- nothing is known but what is on the way
abbrev pub hidden_by : Knowledge → Knowledge → Set → Set
hidden_by Blind k s = s
hidden_by was k s = standing s.role s.way.items [] k

abbrev pub hidden : Knowledge → Set → Set
hidden k s = hidden_by s.knowledge k s

-- packets of both ends weren't seen, and what was seen before may come yet
abbrev pub lost : Set → Set
lost s = hidden Lost s

-- behind a packet that wasn't read
abbrev pub doubted : Set → Set
doubted s = hidden Doubt s

abbrev pub trimmed_to : Option (List Spot) → Set → Set
trimmed_to None s = s
trimmed_to (Some qs) s = standing s.role [] qs s.knowledge

abbrev pub trimmed : Set → Set
trimmed s =
    if is_awaiting s && are_at_end (length s.way.items) s.spots.items then trimmed_to (anew s.spots.items []) s
    else s

-- a set, and what is told
pub record Stepped : Type 0 where
  pub set : Set
  pub told : Told

abbrev pub quietly : Set → Stepped
quietly s = record { set = s; told = Nothing }

-- behind a packet that no state allows: numbers go on from it, or nothing is known
abbrev pub broken_to : Option (List Spot) → Set → Set
broken_to None s = lost s
broken_to (Some qs) s = if length qs == 0 then lost s else standing s.role s.way.items qs s.knowledge

abbrev pub breaks : Packet → Set → Set
breaks x s = broken_to (go_all true s.role s.way.items x s.spots.items []) s

abbrev pub unexplained : Packet → Set → Stepped
unexplained x s =
    if is_known s then record { set = breaks x s; told = Broken (latest_from true Idle 0 s.spots.items) }
    else quietly (lost s)

abbrev pub told_by : Option Phase → Told
told_by None = Nothing
told_by (Some s) = Rude s

abbrev pub explained : Packet → List Spot → Set → Stepped
explained x qs s =
    if is_known s
    then record { set = standing s.role s.way.items qs Known; told = told_by (rude_from x None s.spots.items) }
    else quietly (standing s.role s.way.items qs (if makes_known s.knowledge x qs then Known else s.knowledge))

abbrev pub sent_to : Packet → Option (List Spot) → Set → Stepped
sent_to x None s = quietly (without_room s)
sent_to x (Some qs) s = if length qs == 0 then unexplained x s else explained x qs s

abbrev pub sent : Packet → Set → Stepped
sent x s = sent_to x (go_all false s.role s.way.items x s.spots.items []) s

abbrev pub trims : Stepped → Stepped
trims r = record { set = trimmed r.set; told = r.told }

-- an end that may be anywhere, where the packet says in which state it is
abbrev pub located : Packet → List Spot → Set → Set
located x qs s =
    trimmed (standing s.role s.way.items qs (if makes_known s.knowledge x qs then Known else Likely))

abbrev pub found_to : Packet → Option (List Spot) → Set → Set
found_to x None s = s
found_to x (Some qs) s = if length qs == 0 then s else located x qs s

-- by data no state at a place on the way is listed: all of that counts as taken
abbrev pub caught_up : Packet → Set → Set
caught_up (Data q m ps pr size) s = standing s.role [] s.spots.items s.knowledge
caught_up x s = s

abbrev pub found_in : Packet → Set → Set
found_in x s = found_to x (found_from s.role None 0 s.way.items x []) s

abbrev pub finds : Packet → Set → Set
finds x s = if is_lost s && may_find s.knowledge x then found_in x (caught_up x s) else s

-- the end sends a packet
abbrev pub sends_to : Packet → Set → Stepped
sends_to x s = if is_blind s then quietly (finds x s) else trims (sent x s)

abbrev pub shown_to : Packet → Option (List Spot) → Set → Set
shown_to x None s = without_room s
shown_to x (Some qs) s =
    standing s.role (s.way.items ++ x ∷ []) qs (if is_known s || are_answered s.role x s.spots.items then Known
    else s.knowledge)

abbrev pub shown : Packet → Set → Set
shown x s =
    if length s.way.items == 16 then without_room s
    else shown_to x (grow_all s.role (length s.way.items) (s.way.items ++ x ∷ []) s.spots.items []) s

-- an end that may be anywhere: what any state drops says nothing of it
abbrev pub awaits : Packet → Set → Set
awaits x s =
    if not (is_lost s) || is_some (dropped x Idle) then s
    else if length s.way.items == 16 then without_room s
    else standing s.role (s.way.items ++ x ∷ []) s.spots.items s.knowledge

-- the other end sends a packet
abbrev pub shows_to : Packet → Set → Set
shows_to x s = if is_blind s then awaits x s else trimmed (shown x s)

-- ---- one state, with nothing on the way

abbrev pub small : Phase → Option Phase
small s = if is_large s then None else Some s

abbrev pub small_in : Option Phase → Option Phase
small_in None = None
small_in (Some s) = small s

-- where it is behind a packet that it sends politely, and behind one that is taken at once
abbrev pub alone_sends : Phase → Packet → Option Phase
alone_sends s x = if is_polite s x then small_in (sends s x) else None

abbrev pub alone_takes : Phase → Packet → Option Phase
alone_takes s x = small_in (at_once s x)

abbrev pub one_of : List Packet → List Spot → Option Phase
one_of [] (q ∷ []) = if q.at == 0 then small q.phase else None
one_of way qs = None

abbrev pub alone : Set → Option Phase
alone s = if is_known s then one_of s.way.items s.spots.items else None

abbrev pub alone_in : Phase → Set → Set
alone_in p s = standing s.role [] (spot_at 0 p ∷ []) Known

pub record IsAlone (s : Set) : Type 0 where
  pub phase : Phase
  pub stands : s ≡ alone_in phase s

-- then the set becomes so
pub record IsStep (x : Packet) (next : Phase) (s : Set) : Type 0 where
  pub before : IsAlone s
  pub step : sends_to x s ≡ quietly (alone_in next s)

pub record IsTaken (x : Packet) (next : Phase) (s : Set) : Type 0 where
  pub before : IsAlone s
  pub step : shows_to x s ≡ alone_in next s

-- in flow control: its numbers
abbrev pub flow_in : Option Phase → Option Talk
flow_in (Some (Talks k)) = Some k
flow_in o = None

abbrev pub is_numbered : Packet → Bool
is_numbered (Data q m ps pr size) = true
is_numbered (Rr pr) = true
is_numbered (Rnr pr) = true
is_numbered x = false

abbrev pub flow_sends : Talk → Packet → Option Talk
flow_sends k x = if is_numbered x then flow_in (alone_sends (Talks k) x) else None

abbrev pub flow_takes : Talk → Packet → Option Talk
flow_takes k x = flow_in (alone_takes (Talks k) x)

-- ---- over a tape, latest first

abbrev pub played : Set → List (Item Packet) → Set
played s [] = s
played s (Own x ∷ tape) = (sends_to x (played s tape)).set
played s (Other x ∷ tape) = shows_to x (played s tape)

-- from a restart on
abbrev pub behind : Role → List (Item Packet) → Set
behind role tape = played (begun role) tape
