-- A peer of the packet layer keeps the rules of a channel.
use Rattle.x25_possible_peers.proofs.Names.{◌≡◌, ◌≤◌, ℕ, ◌+◌, ◌-◌, ◌%◌, List, [], ◌∷◌, ◌++◌, length, Option, Some, None, Bool, true, false, refl, sym, ap, ap₂}
use Rattle.x25_possible_peers.proofs.Names.{◌∙◌, arith, ◌==◌, ◌&&◌, ◌||◌, nat_le, nat_lt, not, if◌then◌else◌, and_from, eq-eqb, eqb-true, le-leb, leb-true}
use Rattle.x25_possible_peers.proofs.Names.{length_push, none-some, Piece, More, Last, Side, Live, Left, At, Role, Dte, Dce, CallRequest, CallDeed, PlacesCall}
use Rattle.x25_possible_peers.proofs.Names.{AcceptsCall, InTransfer, does_call, call_taking, InCall, Clears, PeerStretch, Deed, Says, Interrupts, Confirms}
use Rattle.x25_possible_peers.proofs.Names.{sends_as, takes, Limits, talk_of, item_of, transfer_phase, stage_phase, limits, IsTakenSo, IsOfRole, Stage, Unused}
use Rattle.std.proofs.{Common.{◌<◌, ◌^◌, cond, Ok, Err, Result}, Math.Bool.{or-true}, Math.Pow.{pow-lt, pow_mono}, lemmas.Bool.{leb-false, lt-ltb}}
use Rattle.std.proofs.lemmas.Nat.{pow_pos}
use Rattle.x25_circuit.specs.Message.{Partial, no_part, joining, joined, may_have_q, q_of, user_of}
use Rattle.x25_circuit.specs.Params.{is_toward as params_toward, may_answer, said_or, said_by, said_in, sizes_of as sizes_known, windows_of as windows_known}
use Rattle.x25_circuit.specs.declared.params.Params.{Params}
use Rattle.x25_handshakes.specs.laws.{PeerCalls.{MayDoCall, call_packet_of, calling_in_data, stands}, PeerStretch.{Sends}}
use Rattle.x25_handshakes.specs.laws.PeerTransfer.{TransferDeed, InStretch, Resets, MayDoTransfer, does_transfer, transfer_packet_of, transfer_taking}
use Rattle.x25_handshakes.specs.laws.Terms.{called_terms, calling_terms}
use Rattle.x25_packet.specs.{Facilities.{facilities_of, is_within}, declared.error.PacketError.{PacketError}, declared.facilities.Directions.{Directions}}
use Rattle.x25_packet.specs.declared.facilities.Facilities.{Facilities}
use Rattle.x25_possible.specs.Channel.{fits as within, may_answer as answers_so, may_have_sizes, may_have_windows, is_between, is_size, is_toward}
use Rattle.x25_possible.specs.Channel.{called_limits, called_size, called_window, calling_limits, calling_size, calling_window, may_number, may_ack, may_follow}
use Rattle.x25_possible.specs.Channel.{is_one_message, talked, talk_sends, nth, fresh}
use Rattle.x25_possible_peers.{proofs.Names.{Waiting, Offered, Crossed, Talking}, specs.laws.AsPeers.{NotClear}}
use Rattle.x25_possible_peers.specs.laws.Peers.{data_of, sizes_by, windows_by, said_of, terms_of, DeedsAreSends, PacketsAreTaken}
use Rattle.x25_handshakes.specs.laws.Stretch as theirs
use Rattle.x25_handshakes.specs.laws.PeerStretch as stretch
use Rattle.x25_possible.specs.declared.phase.Phase.TheVariants as phase
use Rattle.x25_possible.specs.declared.packet.Packet.TheVariants as item

pub joining_push : (j : Partial) (ps : List Piece) (p : Piece) → joining j (ps ++ p ∷ []) ≡ joined (joining j ps) p
joining_push j [] p = refl
joining_push j (q ∷ qs) p = joining_push (joined j q) qs p

-- which packets may follow
record Fitting (size n : ℕ) (begun : Option Bool) (q : Bool) : Type 0 where
  small : nat_le n size ≡ true
  same : may_have_q begun q ≡ true

abbrev pub grounds : Bool → Bool → Bool → Option ℕ
grounds a b c = if a then (if b then (if c then None else Some 83) else Some 39) else Some 39

fitting : (longest size n m : ℕ) (begun : Option Bool) (q : Bool)
    → grounds (nat_le n size) (nat_le m longest) (may_have_q begun q) ≡ None → Fitting size n begun q
fitting longest size n m begun q h = go (nat_le n size) (nat_le m longest) (may_have_q begun q) refl refl h
  where
    go : (a b c : Bool) → nat_le n size ≡ a → may_have_q begun q ≡ c → grounds a b c ≡ None
        → Fitting size n begun q
    go true true true e f h = record { small = e; same = f }
    go true true false e f h = absurd (none-some 83 (sym h))
    go true false c e f h = absurd (none-some 39 (sym h))
    go false b c e f h = absurd (none-some 39 (sym h))

same_message : (begun : Option Bool) (q : Bool) → may_have_q begun q ≡ true → is_one_message begun q ≡ true
same_message None q h = refl
same_message (Some true) q h = h
same_message (Some false) true h = h
same_message (Some false) false h = refl

acks : (l : Limits) (y : PeerStretch) (n : ℕ) → stretch.MayAcknowledge y n → may_ack n (talk_of l y) (n % 8) ≡ true
acks l y n may =
    and_from (n % 8 == n % 8 && nat_le y.told n) (nat_le n (length y.taken))
    (and_from (n % 8 == n % 8) (nat_le y.told n) (eq-eqb (n % 8) (n % 8) refl) (le-leb y.told n may.rising))
    (le-leb n (length y.taken) may.taken)

follows : (longest : ℕ) (l : Limits) (y : PeerStretch) (p : Piece) → stretch.MayFollow longest l.most y p
    → may_follow (talk_of l y) (q_of p) (length y.sent % 8) (length (user_of p)) ≡ true
follows longest l y p may =
    let fits = fitting longest l.most (length (user_of p)) (length (joining no_part y.sent).user + length (user_of p)) (joining no_part y.sent).begun (q_of p)
    may.fits in
    and_from (may_number (talk_of l y) (length y.sent % 8))
    (within l.most (length (user_of p)) && is_one_message (joining no_part y.sent).begun (q_of p))
    (and_from (length y.sent % 8 == length y.sent % 8) (nat_lt (length y.sent) (y.acked + 7))
    (eq-eqb (length y.sent % 8) (length y.sent % 8) refl) (lt-ltb (length y.sent) (y.acked + 7) may.window))
    (and_from (within l.most (length (user_of p))) (is_one_message (joining no_part y.sent).begun (q_of p))
    (ap (λ b. l.most == 0 || b) fits.small ∙ or-true (l.most == 0))
    (same_message (joining no_part y.sent).begun (q_of p) fits.same))

sends_then : (b : Bool) (j k : _) → b ≡ true → j ≡ k → cond b (Some (phase.Talks j)) None ≡ Some (phase.Talks k)
sends_then b j k e f = ap (λ c. cond c (Some (phase.Talks j)) None) e ∙ ap (λ t. Some (phase.Talks t)) f

-- ---- d1

pub stretch_sends : (longest : ℕ) (l : Limits) (y : PeerStretch) (d : Deed) → stretch.MayDo longest l.most y d
    → (t : ℕ) × (talk_sends t (talk_of l y) (item_of (stretch.packet_of y d)) ≡ Some (phase.Talks (talk_of l (stretch.does y d))))
stretch_sends longest l y (Sends (More q user) n) may = (
  n,
  sends_then (may_ack n (talk_of l y) (n % 8) && may_follow (talk_of l y) q.q (length y.sent % 8) (length user))
      (talked n (talk_of l y) (data_of (length y.sent % 8) (n % 8) (More q user))) (talk_of l (stretch.does y (Sends (More q user) n)))
      (and_from (may_ack n (talk_of l y) (n % 8)) (may_follow (talk_of l y) q.q (length y.sent % 8) (length user))
      (acks l y n may.0) (follows longest l y (More q user) may.1))
      (ap₂ (λ m b. record (talk_of l y) { sent = m; told = n; begun = b }) (sym (length_push y.sent (More q user)))
      (ap (λ j. j.begun) (sym (joining_push no_part y.sent (More q user))))),
)
stretch_sends longest l y (Sends (Last q user) n) may = (
  n,
  sends_then (may_ack n (talk_of l y) (n % 8) && may_follow (talk_of l y) q.q (length y.sent % 8) (length user))
      (talked n (talk_of l y) (data_of (length y.sent % 8) (n % 8) (Last q user))) (talk_of l (stretch.does y (Sends (Last q user) n)))
      (and_from (may_ack n (talk_of l y) (n % 8)) (may_follow (talk_of l y) q.q (length y.sent % 8) (length user))
      (acks l y n may.0) (follows longest l y (Last q user) may.1))
      (ap₂ (λ m b. record (talk_of l y) { sent = m; told = n; begun = b }) (sym (length_push y.sent (Last q user)))
      (ap (λ j. j.begun) (sym (joining_push no_part y.sent (Last q user))))),
)
stretch_sends longest l y (Says true n) may =
    (n, sends_then (may_ack n (talk_of l y) (n % 8)) (record (talk_of l y) { told = n }) (record (talk_of l y) { told = n }) (acks l y n may) refl)
stretch_sends longest l y (Says false n) may =
    (n, sends_then (may_ack n (talk_of l y) (n % 8)) (record (talk_of l y) { told = n }) (record (talk_of l y) { told = n }) (acks l y n may) refl)
stretch_sends longest l y (Interrupts user) may =
    (0, sends_then (not y.int_out) (record (talk_of l y) { is_out = true }) (record (talk_of l y) { is_out = true }) (ap not may) refl)
stretch_sends longest l y Confirms may = (
  0,
  sends_then (nat_lt 0 y.owed) (record (talk_of l y) { owed = y.owed - 1 }) (record (talk_of l y) { owed = y.owed - 1 })
      (lt-ltb 0 y.owed (omega (arith, may))) refl,
)

transfer_sends : (longest : ℕ) (l : Limits) (e : ℕ) (y : Side PeerStretch) (d : TransferDeed) → MayDoTransfer longest l.most y d
    → (t : ℕ) × (sends_as t (transfer_phase l y) (item_of (transfer_packet_of y d)) ≡ Some (transfer_phase l (does_transfer e y d).side))
transfer_sends longest l e (Live y) (InStretch d) may = stretch_sends longest l y d may
transfer_sends longest l e (Live y) Resets may = (0, refl)
transfer_sends longest l e (Left y) d may = absurd may

-- ---- calls

-- what a field says of sizes and windows, and what is agreed then
module _ (known : Params) where
  called_most : (o : Option Directions) → called_size (2 ^ known.size_called) (sizes_by o) ≡ 2 ^ (said_or (sizes_known known) o).called
  called_most None = refl
  called_most (Some said) = refl

  calling_most : (o : Option Directions) → calling_size (2 ^ known.size_calling) (sizes_by o) ≡ 2 ^ (said_or (sizes_known known) o).calling
  calling_most None = refl
  calling_most (Some said) = refl

  called_few : (o : Option Directions) → called_window known.win_called (windows_by o) ≡ (said_or (windows_known known) o).called
  called_few None = refl
  called_few (Some said) = refl

  calling_few : (o : Option Directions) → calling_window known.win_calling (windows_by o) ≡ (said_or (windows_known known) o).calling
  calling_few None = refl
  calling_few (Some said) = refl

  called_as : (most : ℕ) (r : Result Facilities PacketError) → called_limits (terms_of known) (said_of r) ≡ limits (called_terms most (said_by known r))
  called_as most (Ok f) = ap₂ (λ m w. record { most = m; window = w }) (called_most f.packet_size) (called_few f.window_size)
  called_as most (Err e) = refl

  calling_as : (most : ℕ) (r : Result Facilities PacketError) → calling_limits (terms_of known) (said_of r) ≡ limits (calling_terms most (said_by known r))
  calling_as most (Ok f) = ap₂ (λ m w. record { most = m; window = w }) (calling_most f.packet_size) (calling_few f.window_size)
  calling_as most (Err e) = refl

-- ---- what answers a call

le_pow : (a b : ℕ) → nat_le (2 ^ a) (2 ^ b) ≡ nat_le a b
le_pow a b = go (nat_le a b) refl
  where
    above : nat_le a b ≡ false → (c : Bool) → nat_le (2 ^ a) (2 ^ b) ≡ c → c ≡ false
    above e true is = absurd (not_both (leb-true (2 ^ a) (2 ^ b) is) (pow-lt (leb-false a b e)))
      where
        not_both : 2 ^ a ≤ 2 ^ b → 2 ^ b < 2 ^ a → ⊥
        not_both h g = omega (arith, h, g)
    above e false is = refl

    go : (c : Bool) → nat_le a b ≡ c → nat_le (2 ^ a) (2 ^ b) ≡ nat_le a b
    go true e = le-leb (2 ^ a) (2 ^ b) (pow_mono (leb-true a b e)) ∙ sym e
    go false e = above e (nat_le (2 ^ a) (2 ^ b)) refl ∙ sym e

within_is : (a b n : ℕ) → is_between (2 ^ a) (2 ^ b) (2 ^ n) ≡ is_within a b n
within_is a b n = ap₂ (λ c d. c && d) (le_pow a n) (le_pow n b)

some_size : (p : ℕ) → (2 ^ p == 0) ≡ false
some_size p = go (2 ^ p == 0) refl
  where
    go : (c : Bool) → (2 ^ p == 0) ≡ c → c ≡ false
    go true is = absurd (none (eqb-true (2 ^ p) 0 is) (pow_pos p))
      where
        none : 2 ^ p ≡ 0 → 0 < 2 ^ p → ⊥
        none e h = omega (arith, e, h)
    go false is = refl

size_is : (p n : ℕ) → is_size 128 (2 ^ p) (2 ^ n) ≡ params_toward 7 p n
size_is p n = ap (λ c. c || is_toward 128 (2 ^ p) (2 ^ n)) (some_size p) ∙ ap₂ (λ c d. c || d) (within_is 7 p n) (within_is p 7 n)

toward_itself : (usual p : ℕ) → params_toward usual p p ≡ true
toward_itself usual p = go (nat_le usual p) refl
  where
    go : (c : Bool) → nat_le usual p ≡ c → params_toward usual p p ≡ true
    go true e = ap (λ c. (c && nat_le p p) || is_within p usual p) e ∙ ap (λ c. c || is_within p usual p) (le-leb p p (omega arith))
    go false e =
        ap (λ c. (c && nat_le p p) || is_within p usual p) e
        ∙ and_from (nat_le p p) (nat_le p usual) (le-leb p p (omega arith)) (le-leb p usual (omega (arith, leb-false usual p e)))

both_true : (a b : Bool) → a ≡ true → b ≡ true → true ≡ (a && b)
both_true a b e f = sym (and_from a b e f)

regroup : (a b c : Bool) → ((a && b) && c) ≡ (a && (b && c))
regroup true b c = refl
regroup false b c = refl

-- the judge's rule is that of peers
answer_is : (known : Params) (r : Result Facilities PacketError) → answers_so (terms_of known) (said_of r) ≡ may_answer known (said_by known r)
answer_is known (Ok f) =
    ap₂ (λ a b. a && b) (sizes f.packet_size) (windows f.window_size)
    ∙ regroup (params_toward 7 known.size_called (said_or (sizes_known known) f.packet_size).called)
    (params_toward 7 known.size_calling (said_or (sizes_known known) f.packet_size).calling)
    (params_toward 2 known.win_called (said_or (windows_known known) f.window_size).called
    && params_toward 2 known.win_calling (said_or (windows_known known) f.window_size).calling)
  where
    sizes : (o : Option Directions) → may_have_sizes (terms_of known) (sizes_by o)
        ≡ (params_toward 7 known.size_called (said_or (sizes_known known) o).called
        && params_toward 7 known.size_calling (said_or (sizes_known known) o).calling)
    sizes None = both_true (params_toward 7 known.size_called known.size_called) (params_toward 7 known.size_calling known.size_calling)
        (toward_itself 7 known.size_called) (toward_itself 7 known.size_calling)
    sizes (Some said) = ap₂ (λ a b. a && b) (size_is known.size_called said.called) (size_is known.size_calling said.calling)

    windows : (o : Option Directions) → may_have_windows (terms_of known) (windows_by o)
        ≡ (params_toward 2 known.win_called (said_or (windows_known known) o).called
        && params_toward 2 known.win_calling (said_or (windows_known known) o).calling)
    windows None = both_true (params_toward 2 known.win_called known.win_called) (params_toward 2 known.win_calling known.win_calling)
        (toward_itself 2 known.win_called) (toward_itself 2 known.win_calling)
    windows (Some said) = refl
answer_is known (Err e) =
    both_true (params_toward 7 known.size_called known.size_called)
    (params_toward 7 known.size_calling known.size_calling
    && (params_toward 2 known.win_called known.win_called && params_toward 2 known.win_calling known.win_calling))
    (toward_itself 7 known.size_called)
    (and_from (params_toward 7 known.size_calling known.size_calling)
    (params_toward 2 known.win_called known.win_called && params_toward 2 known.win_calling known.win_calling)
    (toward_itself 7 known.size_calling)
    (and_from (params_toward 2 known.win_called known.win_called) (params_toward 2 known.win_calling known.win_calling) (toward_itself 2 known.win_called)
    (toward_itself 2 known.win_calling)))

pub accept_sends : (their : Params) (m i : List CallRequest) (field : List ℕ) (most : ℕ)
    → sends_as 0 (stage_phase (Offered their)) (item_of (theirs.Accept field most))
    ≡ cond (may_answer their (said_in their field)) (Some (stage_phase (does_call (Offered their) m i (AcceptsCall field most)).stage)) None
accept_sends their m i field most =
    ap₂ (λ b l. cond b (Some (fresh l)) None) (answer_is their (facilities_of field)) (called_as their most (facilities_of field))

call_sends : (stage : Stage (At PeerStretch)) (m i : List CallRequest) (d : CallDeed) → MayDoCall stage d
    → (t : ℕ) × (sends_as t (stage_phase stage) (item_of (call_packet_of stage d)) ≡ Some (stage_phase (does_call stage m i d).stage))
call_sends Unused m i (PlacesCall n) may = (0, refl)
call_sends (Offered their) m i (AcceptsCall field most) may =
    (0, accept_sends their m i field most ∙ ap (λ b. cond b (Some (stage_phase (does_call (Offered their) m i (AcceptsCall field most)).stage)) None) may)
call_sends (Talking t b at) m i (InTransfer d) may = transfer_sends t.longest (limits t) at.epoch at.side d may
call_sends stage m i d may = absurd may

transfer_clears : (l : Limits) (y : Side PeerStretch) → sends_as 0 (transfer_phase l y) item.Clear ≡ Some phase.Clears
transfer_clears l (Live y) = refl
transfer_clears l (Left y) = refl

stage_clears : (stage : Stage (At PeerStretch)) → sends_as 0 (stage_phase stage) item.Clear ≡ Some phase.Clears
stage_clears (Talking t b at) = transfer_clears (limits t) at.side
stage_clears Unused = refl
stage_clears (Waiting mine) = refl
stage_clears (Offered theirs) = refl
stage_clears (Crossed mine) = refl

pub channel_sends : DeedsAreSends
channel_sends e (Live y) (InCall d) may = call_sends y.stage y.made y.indicated d may
channel_sends e (Live y) Clears may = (0, stage_clears y.stage)
channel_sends e (Left y) d may = absurd may

-- ---- what it takes

-- one is taken where P(S) is the next
taken_next : (b : Bool) (ps : List Piece) (p : Piece) → (if b then length ps + 1 else length ps) ≡ length (if b then ps ++ p ∷ [] else ps)
taken_next true ps p = sym (length_push ps p)
taken_next false ps p = refl

takes_data : (l : Limits) (y : PeerStretch) (ns nr : ℕ) (piece : Piece) (role : Role)
    → takes role (phase.Talks (talk_of l y)) (data_of ns nr piece) ≡ phase.Talks (talk_of l (stretch.taking y (theirs.Data ns nr piece)))
takes_data l y ns nr (More q user) role =
    ap (λ n. phase.Talks (record (talk_of l y) { acked = nth y.acked nr; taken = n }))
    (taken_next (ns == length y.taken % 8) y.taken (More q user))
takes_data l y ns nr (Last q user) role =
    ap (λ n. phase.Talks (record (talk_of l y) { acked = nth y.acked nr; taken = n }))
    (taken_next (ns == length y.taken % 8) y.taken (Last q user))

transfer_takes : (role : Role) (l : Limits) (e : ℕ) (y : Side PeerStretch) (p : theirs.Packet) → NotClear p
    → IsTakenSo role (transfer_phase l y) (item_of p) (transfer_taking e y p).out (transfer_phase l (transfer_taking e y p).next.side)
transfer_takes role l e (Live y) theirs.Clear clear = absurd clear
transfer_takes role l e (Live y) theirs.Reset clear = refl
transfer_takes role l e (Live y) (theirs.Data ns nr piece) clear = takes_data l y ns nr piece role
transfer_takes role l e (Live y) p clear = refl
transfer_takes role l e (Left y) theirs.Clear clear = absurd clear
transfer_takes role l e (Left y) (theirs.Data ns nr (More q user)) clear = refl
transfer_takes role l e (Left y) (theirs.Data ns nr (Last q user)) clear = refl
transfer_takes role l e (Left y) p clear = refl

calls_accept : (known : Params) (field : List ℕ) (most : ℕ) (role : Role)
    → takes role (phase.Calls (terms_of known)) (item.Accept (said_of (facilities_of field))) ≡ stage_phase (calling_in_data most (said_in known field))
calls_accept known field most role = ap (λ l. fresh l) (calling_as known most (facilities_of field))

call_takes : (r : Role) (stage : Stage (At PeerStretch)) (m i : List CallRequest) (p : theirs.Packet) → NotClear p
    → IsOfRole r (Live (stands stage m i))
    → IsTakenSo r (stage_phase stage) (item_of p) (call_taking r stage m i p).out (stage_phase (call_taking r stage m i p).next.stage)
call_takes r Unused m i theirs.Clear clear of = absurd clear
call_takes r Unused m i (theirs.Data ns nr (More q user)) clear of = refl
call_takes r Unused m i (theirs.Data ns nr (Last q user)) clear of = refl
call_takes r Unused m i p clear of = refl
call_takes r (Waiting mine) m i theirs.Clear clear of = absurd clear
call_takes Dte (Waiting mine) m i (theirs.Call n) clear of = refl
call_takes Dce (Waiting mine) m i (theirs.Call n) clear of = refl
call_takes r (Waiting mine) m i (theirs.Accept field most) clear of = calls_accept mine field most r
call_takes r (Waiting mine) m i (theirs.Data ns nr (More q user)) clear of = refl
call_takes r (Waiting mine) m i (theirs.Data ns nr (Last q user)) clear of = refl
call_takes r (Waiting mine) m i p clear of = refl
call_takes r (Offered their) m i theirs.Clear clear of = absurd clear
call_takes r (Offered their) m i (theirs.Data ns nr (More q user)) clear of = refl
call_takes r (Offered their) m i (theirs.Data ns nr (Last q user)) clear of = refl
call_takes r (Offered their) m i p clear of = refl
call_takes r (Crossed mine) m i theirs.Clear clear of = absurd clear
call_takes Dte (Crossed mine) m i (theirs.Call n) clear of = refl
call_takes Dce (Crossed mine) m i (theirs.Call n) clear of = absurd of
call_takes r (Crossed mine) m i (theirs.Accept field most) clear of = calls_accept mine field most r
call_takes r (Crossed mine) m i (theirs.Data ns nr (More q user)) clear of = refl
call_takes r (Crossed mine) m i (theirs.Data ns nr (Last q user)) clear of = refl
call_takes r (Crossed mine) m i p clear of = refl
call_takes r (Talking t b at) m i p clear of = transfer_takes r (limits t) at.epoch at.side p clear

transfer_cleared : (role : Role) (l : Limits) (y : Side PeerStretch) → takes role (transfer_phase l y) item.Clear ≡ phase.WasCleared
transfer_cleared role l (Live y) = refl
transfer_cleared role l (Left y) = refl

stage_cleared : (role : Role) (stage : Stage (At PeerStretch)) → takes role (stage_phase stage) item.Clear ≡ phase.WasCleared
stage_cleared role (Talking t b at) = transfer_cleared role (limits t) at.side
stage_cleared role Unused = refl
stage_cleared role (Waiting mine) = refl
stage_cleared role (Offered theirs) = refl
stage_cleared role (Crossed mine) = refl

pub channel_takes : PacketsAreTaken
channel_takes r e (Live c) theirs.Clear of = ap (λ s. sends_as 0 s item.ClearConf) (stage_cleared r c.stage)
channel_takes r e (Live c) p of = call_takes r c.stage c.made c.indicated p tt of
channel_takes r e (Left c) (theirs.Data ns nr (More q user)) of = refl
channel_takes r e (Left c) (theirs.Data ns nr (Last q user)) of = refl
channel_takes r e (Left c) p of = refl
