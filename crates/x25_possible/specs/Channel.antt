-- The rules of an end on a channel, as the state tables of ITU-T X.25 (10/96) have them: sections 3.3, 4.1, 4.3, 4.4.1
-- and 4.4.3. Numbers are whole, and those of packets are these modulo 8.
use Rattle.std.specs.Prelude.{◌≡◌, ℕ, ◌+◌, ◌-◌, ◌%◌, ◌==◌, nat_lt, nat_le, Bool, true, false, not, ◌&&◌, ◌||◌}
use Rattle.std.specs.Prelude.{if◌then◌else◌, List, [], ◌∷◌, Option, Some, None}
use Rattle.x25_bits.specs.declared.role.Role.{Role}
use Rattle.x25_bits.specs.declared.role.Role.TheVariants.{Dte, Dce}
use Rattle.x25_possible.specs.laws.Possible.{Rules, Choices, IsIn}
use Rattle.x25_possible.specs.declared.packet.Packet.{Packet}
use Rattle.x25_possible.specs.declared.packet.Packet.TheVariants.{Call, Accept, Clear, ClearConf, Reset, ResetConf}
use Rattle.x25_possible.specs.declared.packet.Packet.TheVariants.{Restart, RestartConf, Data, Rr, Rnr, Interrupt}
use Rattle.x25_possible.specs.declared.packet.Packet.TheVariants.{InterruptConf, Elsewhere}
use Rattle.x25_possible.specs.declared.packet.Said.{Said}
use Rattle.x25_possible.specs.declared.packet.Sizes.{Sizes}
use Rattle.x25_possible.specs.declared.packet.Terms.{Terms}
use Rattle.x25_possible.specs.declared.packet.Windows.{Windows}
use Rattle.x25_possible.specs.declared.phase.Limits.{Limits}
use Rattle.x25_possible.specs.declared.phase.Phase.{Phase}
use Rattle.x25_possible.specs.declared.phase.Phase.TheVariants.{Idle, Calls, WasCalled, Talks, Resets, WasReset}
use Rattle.x25_possible.specs.declared.phase.Phase.TheVariants.{Clears, WasCleared, Restarts, WasRestarted}
use Rattle.x25_possible.specs.declared.phase.Talk.{Talk}

-- ---- what a call has: by what was proposed, and what its acceptance says (6.12)

abbrev pub calling_size : ℕ → Option Sizes → ℕ
calling_size n None = n
calling_size n (Some said) = said.calling

abbrev pub called_size : ℕ → Option Sizes → ℕ
called_size n None = n
called_size n (Some said) = said.called

abbrev pub calling_window : ℕ → Option Windows → ℕ
calling_window n None = n
calling_window n (Some said) = said.calling

abbrev pub called_window : ℕ → Option Windows → ℕ
called_window n None = n
called_window n (Some said) = said.called

abbrev pub calling_limits : Terms → Said → Limits
calling_limits terms said = record {
  most = calling_size terms.calling_size said.sizes;
  window = calling_window terms.calling_window said.windows;
}

abbrev pub called_limits : Terms → Said → Limits
called_limits terms said = record {
  most = called_size terms.called_size said.sizes;
  window = called_window terms.called_window said.windows;
}

abbrev pub limits_of : Talk → Limits
limits_of k = record { most = k.most; window = k.window }

-- what is answered lies between what was proposed and the network's default; a size of 0 isn't known
abbrev pub is_between : ℕ → ℕ → ℕ → Bool
is_between a b n = nat_le a n && nat_le n b

abbrev pub is_toward : ℕ → ℕ → ℕ → Bool
is_toward default proposed n = is_between default proposed n || is_between proposed default n

abbrev pub is_size : ℕ → ℕ → ℕ → Bool
is_size default proposed n = proposed == 0 || is_toward default proposed n

abbrev pub may_have_sizes : Terms → Option Sizes → Bool
may_have_sizes terms None = true
may_have_sizes terms (Some said) =
    is_size terms.defaults.size terms.called_size said.called
    && is_size terms.defaults.size terms.calling_size said.calling

abbrev pub may_have_windows : Terms → Option Windows → Bool
may_have_windows terms None = true
may_have_windows terms (Some said) =
    is_toward terms.defaults.window terms.called_window said.called
    && is_toward terms.defaults.window terms.calling_window said.calling

abbrev pub may_answer : Terms → Said → Bool
may_answer terms said = may_have_sizes terms said.sizes && may_have_windows terms said.windows

-- ---- data transfer, within a stretch (4.3, 4.4.1)

-- the first whole number from low on that is this one modulo 8
abbrev pub nth : ℕ → ℕ → ℕ
nth low n = low + (n + 8 - low % 8) % 8

-- numbers begin anew, and no interrupt is out (4.4.3)
abbrev pub fresh : Limits → Phase
fresh limits = Talks (record {
  most = limits.most;
  window = limits.window;
  sent = 0;
  acked = 0;
  taken = 0;
  told = 0;
  begun = None;
  is_out = false;
  owed = 0;
})

-- a P(R) that stands for t acknowledges no more than it took, and no less than its last one (4.4.1.3)
abbrev pub may_ack : ℕ → Talk → ℕ → Bool
may_ack t k pr = pr == t % 8 && nat_le k.told t && nat_le t k.taken

-- one message has one Q (4.3.6)
abbrev pub is_one_message : Option Bool → Bool → Bool
is_one_message None q = true
is_one_message (Some true) q = q
is_one_message (Some false) q = not q

-- a packet has at most the call's size, where that is known (4.3.2)
abbrev pub fits : ℕ → ℕ → Bool
fits most size = most == 0 || nat_le size most

-- P(S) is the next one (4.4.1.1), and at most seven are unacknowledged (4.4.1.2)
abbrev pub may_number : Talk → ℕ → Bool
may_number k ps = ps == k.sent % 8 && nat_lt k.sent (k.acked + 7)

abbrev pub may_follow : Talk → Bool → ℕ → ℕ → Bool
may_follow k q ps size = may_number k ps && (fits k.most size && is_one_message k.begun q)

-- what it may send, with t what the P(R) stands for; an interrupt at a time, and one confirmation of each (4.3.7)
abbrev pub may_talk : ℕ → Talk → Packet → Bool
may_talk t k (Data q m ps pr size) = may_ack t k pr && may_follow k q ps size
may_talk t k (Rr pr) = may_ack t k pr
may_talk t k (Rnr pr) = may_ack t k pr
may_talk t k Interrupt = not k.is_out
may_talk t k InterruptConf = nat_lt 0 k.owed
may_talk t k Elsewhere = true
may_talk t k x = false

-- and what it has sent then
abbrev pub begun_by : Bool → Bool → Option Bool
begun_by m q = if m then Some q else None

abbrev pub talked : ℕ → Talk → Packet → Talk
talked t k (Data q m ps pr size) = record k { sent = k.sent + 1; told = t; begun = begun_by m q }
talked t k (Rr pr) = record k { told = t }
talked t k (Rnr pr) = record k { told = t }
talked t k Interrupt = record k { is_out = true }
talked t k InterruptConf = record k { owed = k.owed - 1 }
talked t k x = k

-- What it makes of what comes: all below a P(R) is acknowledged to it, and a data packet is taken where P(S) is the
-- next.
abbrev pub hears : ℕ → Talk → Talk
hears pr k = record k { acked = nth k.acked pr }

abbrev pub heard : Talk → Packet → Talk
heard k (Data q m ps pr size) =
    record k { acked = nth k.acked pr; taken = if ps == k.taken % 8 then k.taken + 1 else k.taken }
heard k (Rr pr) = hears pr k
heard k (Rnr pr) = hears pr k
heard k Interrupt = record k { owed = k.owed + 1 }
heard k InterruptConf = record k { is_out = false }
heard k x = k

-- ---- what it may send in each state, and where it is then

-- what ends the call, or all (4.1.7); on another channel it may send in all states but r2 and r3, and stays
abbrev pub ending_sends : Phase → Packet → Option Phase
ending_sends s Clear = Some Clears
ending_sends s Restart = Some Restarts
ending_sends s Elsewhere = Some s
ending_sends s x = None

-- p1 (4.1.2)
abbrev pub idle_sends : Packet → Option Phase
idle_sends (Call terms) = Some (Calls terms)
idle_sends x = ending_sends Idle x

-- p3 (4.1.4)
abbrev pub called_sends : Terms → Packet → Option Phase
called_sends terms (Accept said) = if may_answer terms said then Some (fresh (called_limits terms said)) else None
called_sends terms x = ending_sends (WasCalled terms) x

-- d1
abbrev pub talking_as : ℕ → Talk → Packet → Option Phase
talking_as t k x = if may_talk t k x then Some (Talks (talked t k x)) else None

abbrev pub talk_sends : ℕ → Talk → Packet → Option Phase
talk_sends t k Reset = Some (Resets (limits_of k))
talk_sends t k Clear = Some Clears
talk_sends t k Restart = Some Restarts
talk_sends t k x = talking_as t k x

-- d2: also RESET again (4.4.3.1, timer T22)
abbrev pub resets_sends : Limits → Packet → Option Phase
resets_sends limits Reset = Some (Resets limits)
resets_sends limits x = ending_sends (Resets limits) x

-- d3 (4.4.3.4)
abbrev pub reset_sends : Limits → Packet → Option Phase
reset_sends limits ResetConf = Some (fresh limits)
reset_sends limits x = ending_sends (WasReset limits) x

-- r2: RESTART alone, again (3.3.1, timer T20)
abbrev pub silent_sends : Packet → Option Phase
silent_sends Restart = Some Restarts
silent_sends x = None

-- p6: also CLEAR again (4.1.7, timer T23)
abbrev pub clears_sends : Packet → Option Phase
clears_sends Clear = Some Clears
clears_sends Elsewhere = Some Clears
clears_sends x = silent_sends x

-- p7 (4.1.8)
abbrev pub cleared_sends : Packet → Option Phase
cleared_sends ClearConf = Some Idle
cleared_sends Elsewhere = Some WasCleared
cleared_sends x = silent_sends x

-- r3 (3.3.2)
abbrev pub restarted_sends : Packet → Option Phase
restarted_sends RestartConf = Some Idle
restarted_sends x = silent_sends x

-- where a P(R) that it sends stands for t
abbrev pub sends_as : ℕ → Phase → Packet → Option Phase
sends_as t Idle x = idle_sends x
sends_as t (Calls terms) x = ending_sends (Calls terms) x
sends_as t (WasCalled terms) x = called_sends terms x
sends_as t (Talks k) x = talk_sends t k x
sends_as t (Resets limits) x = resets_sends limits x
sends_as t (WasReset limits) x = reset_sends limits x
sends_as t Clears x = clears_sends x
sends_as t WasCleared x = cleared_sends x
sends_as t Restarts x = silent_sends x
sends_as t WasRestarted x = restarted_sends x

-- ---- where it is behind what comes

-- CLEAR and RESTART end every call; what belongs to no state changes nothing
abbrev pub ended_by : Packet → Phase → Phase
ended_by Clear s = WasCleared
ended_by Restart s = WasRestarted
ended_by x s = s

-- p1
abbrev pub idle_takes : Packet → Phase
idle_takes (Call terms) = WasCalled terms
idle_takes x = ended_by x Idle

-- where the calls of both ends collide, the DCE gives its own up (4.1.6)
abbrev pub collides : Role → Terms → Terms → Phase
collides Dte mine theirs = Calls mine
collides Dce mine theirs = WasCalled theirs

-- p2
abbrev pub calls_takes : Role → Terms → Packet → Phase
calls_takes role terms (Call theirs) = collides role terms theirs
calls_takes role terms (Accept said) = fresh (calling_limits terms said)
calls_takes role terms x = ended_by x (Calls terms)

-- d1
abbrev pub talk_takes : Talk → Packet → Phase
talk_takes k Reset = WasReset (limits_of k)
talk_takes k x = ended_by x (Talks (heard k x))

-- d2: all is dropped but RESET and its confirmation, and what ends the call (4.4.3.3)
abbrev pub resets_takes : Limits → Packet → Phase
resets_takes limits Reset = fresh limits
resets_takes limits ResetConf = fresh limits
resets_takes limits x = ended_by x (Resets limits)

-- p6 (4.1.9), and r2 (3.3.3)
abbrev pub clears_takes : Packet → Phase
clears_takes Clear = Idle
clears_takes ClearConf = Idle
clears_takes Restart = WasRestarted
clears_takes x = Clears

abbrev pub restarts_takes : Packet → Phase
restarts_takes Restart = Idle
restarts_takes RestartConf = Idle
restarts_takes x = Restarts

-- RESET, CLEAR and RESTART are answered at any moment, and what comes before that is dropped. So one that is sent again
-- may have the same answer, and what CLEAR or RESTART ends needs none (4.1.7, 3.3.1).
abbrev pub takes : Role → Phase → Packet → Phase
takes role Idle x = idle_takes x
takes role (Calls terms) x = calls_takes role terms x
takes role (WasCalled terms) x = ended_by x (WasCalled terms)
takes role (Talks k) x = talk_takes k x
takes role (Resets limits) x = resets_takes limits x
takes role (WasReset limits) x = ended_by x (WasReset limits)
takes role Clears x = clears_takes x
takes role WasCleared x = ended_by x WasCleared
takes role Restarts x = restarts_takes x
takes role WasRestarted x = WasRestarted

-- ---- the rules, of an end that begins in one of these states, and what the judge goes by

abbrev pub channel_rules : Role → List Phase → Rules Phase Packet
channel_rules role begun = record {
  Begins = λ s. IsIn s begun;
  Sends = λ s way x r. (t : ℕ) × (sends_as t s x ≡ Some r);
  Takes = λ s x r. takes role s x ≡ r;
}

-- a P(R) stands for the least number that it may
abbrev pub told_of : Phase → ℕ
told_of (Talks k) = k.told
told_of s = 0

abbrev pub pr_of : Packet → ℕ
pr_of (Data q m ps pr size) = pr
pr_of (Rr pr) = pr
pr_of (Rnr pr) = pr
pr_of x = 0

abbrev pub sends : Phase → Packet → Option Phase
sends s x = sends_as (nth (told_of s) (pr_of x)) s x

-- In d1 data packets, RR, RNR and INTERRUPT are taken as they come, and the confirmation of an interrupt that is out;
-- in p1, p2 and d2 these are dropped, in d1 and d2 also CALL and CALL ACCEPTED; so is all in p6 and r2 but what ends
-- these.
abbrev pub dropped : Packet → Phase → Option Phase
dropped (Data q m ps pr size) s = Some s
dropped (Rr pr) s = Some s
dropped (Rnr pr) s = Some s
dropped Interrupt s = Some s
dropped InterruptConf s = Some s
dropped Elsewhere s = Some s
dropped x s = None

abbrev pub dropped_in_call : Packet → Phase → Option Phase
dropped_in_call (Call terms) s = Some s
dropped_in_call (Accept said) s = Some s
dropped_in_call x s = dropped x s

abbrev pub talk_at_once : Talk → Packet → Option Phase
talk_at_once k InterruptConf = if k.is_out then Some (Talks (heard k InterruptConf)) else None
talk_at_once k x = dropped_in_call x (Talks (heard k x))

abbrev pub clears_at_once : Packet → Option Phase
clears_at_once Clear = None
clears_at_once ClearConf = None
clears_at_once Restart = None
clears_at_once RestartConf = None
clears_at_once x = Some Clears

abbrev pub restarts_at_once : Packet → Option Phase
restarts_at_once Restart = None
restarts_at_once RestartConf = None
restarts_at_once x = Some Restarts

abbrev pub at_once : Phase → Packet → Option Phase
at_once (Talks k) x = talk_at_once k x
at_once Idle x = dropped x Idle
at_once (Calls terms) x = dropped x (Calls terms)
at_once (Resets limits) x = dropped_in_call x (Resets limits)
at_once Clears x = clears_at_once x
at_once Restarts x = restarts_at_once x
at_once s x = None

abbrev pub one : Option Phase → List Phase
one None = []
one (Some s) = s ∷ []

abbrev pub channel_choices : Role → Choices Phase Packet
channel_choices role = record {
  sends = λ s way x. one (sends s x);
  takes = λ s x. takes role s x ∷ [];
  at_once = at_once;
}

-- as good: the same, but that its last P(R) stood for less
abbrev pub lowered : ℕ → Phase → Phase
lowered t (Talks k) = Talks (record k { told = t })
lowered t s = s

-- ---- beside the rules

-- its manners: the window of the call, and M=1 in full packets alone (4.3.4)
abbrev pub talks_politely : Talk → Packet → Bool
talks_politely k (Data q m ps pr size) =
    (k.window == 0 || nat_lt k.sent (k.acked + k.window)) && (not m || nat_le k.most size)
talks_politely k x = true

abbrev pub is_polite : Phase → Packet → Bool
is_polite (Talks k) x = talks_politely k x
is_polite s x = true

-- Where a packet breaks a rule of numbers, size or Q, numbers go on from it; where of numbers, what is acknowledged
-- isn't known, and counts as more than any that comes.
abbrev pub far : ℕ
far = 1073741824

abbrev pub next_sent : ℕ → ℕ → ℕ
next_sent ps sent = if ps == sent % 8 then sent + 1 else ps + 1

abbrev pub talks_on : Talk → Packet → Option Phase
talks_on k (Data q m ps pr size) =
    if may_ack (nth k.told pr) k pr && may_number k ps
    then Some (Talks (talked (nth k.told pr) k (Data q m ps pr size)))
    else Some (Talks (record k { sent = next_sent ps k.sent; acked = far; taken = far; begun = begun_by m q }))
talks_on k (Rr pr) = Some (Talks (record k { acked = far; taken = far }))
talks_on k (Rnr pr) = Some (Talks (record k { acked = far; taken = far }))
talks_on k x = None

abbrev pub goes_on : Phase → Packet → Option Phase
goes_on (Talks k) x = talks_on k x
goes_on s x = None

-- d1, in the midst of a call: what is acknowledged to it, and what it took, isn't known
abbrev pub amidst : Bool → Bool → ℕ → ℕ → Talk
amidst q m ps pr = record {
  most = 0;
  window = 0;
  sent = ps + 1;
  acked = far;
  taken = far;
  told = pr;
  begun = begun_by m q;
  is_out = false;
  owed = far;
}

-- where an end that may have been in any state is behind a packet that it sends, by the last one that it took
abbrev pub found : Option Packet → Packet → Option Phase
found last (Call terms) = Some (Calls terms)
found last Clear = Some Clears
found last Restart = Some Restarts
found (Some (Call terms)) (Accept said) = Some (fresh (called_limits terms said))
found (Some Clear) ClearConf = Some Idle
found (Some Restart) RestartConf = Some Idle
found last (Data q m ps pr size) = Some (Talks (amidst q m ps pr))
found last x = None
