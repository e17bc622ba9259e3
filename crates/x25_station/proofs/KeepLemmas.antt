-- Every step of a station leaves at most 256 packets waiting, and the layer at rest where the link isn't up.
use Rattle.x25_station.proofs.Names.{ends, gives_up, Phase, Closed}
use Rattle.x25_station.proofs.Names.{◌≡◌, ℕ, zero, suc, ◌+◌, ◌<◌, ◌≤◌, List, [], ◌∷◌, ◌++◌, length, Option, Some, None, Bool, true, false, not, nat_lt, ◌==◌}
use Rattle.x25_station.proofs.Names.{if◌then◌else◌, option_to_list, refl, sym, ap, subst, ◌∙◌, arith, length-append, max, le_trans, eq-eqb, LayerOutcome}
use Rattle.x25_station.proofs.Names.{Accepted, Declined, layer_outcome, LayerSettings, Layer, goes_up, LinkView, Putting, begin, rounds, Refuses, went}
use Rattle.x25_station.proofs.Names.{LinkStep, quiet, leaves, alone, put_refusal, put_step, take_step, timer_refusal, asks_again, timer_step, connect_refusal}
use Rattle.x25_station.proofs.Names.{connect_step, disconnect_refusal, disconnect_step, abandon_step, probe_refusal, relink_refusal, relink_step, waits, added}
use Rattle.x25_station.proofs.Names.{Outgoing, ended, Lists, fresh, LinkError, LinkSettings, LinkStation, Side, is_up, with_nothing, with_near, is_busy, ready}
use Rattle.x25_station.proofs.Names.{may_send, send_next, pumped, owes_ready, Phase, Down, Waiting, Up, Closed, Reason, Retries, Tells, TakeTells, TakeHandsUp}
use Rattle.x25_station.proofs.Names.{PutTells, IsQuiet, TimerTells, AbandonTells, PlainPacket, spelling_of, Requests, RequestsWith, Connects, Disconnects}
use Rattle.x25_station.proofs.Names.{Probes, Relinks, said_by, may_ask, Settings, link_settings, layer_settings, StationEntry, connect_asked, disconnect_asked}
use Rattle.x25_station.proofs.Names.{relink_asked, Station, put_on, all_put, view_of, Step, with_puts, layer_at, layer_answer, follows, led_by, unless}
use Rattle.x25_station.proofs.Names.{abandons, entries_of_outcome, did, requests_of, calls_link, LinkCall, Connect, Disconnect, Fire, Probe, Relink}
use Rattle.x25_link.specs.{Link.{disconnects as link_disconnects, relinks as link_relinks, connects as link_connects}, Outgoing.{moved_on}}
use Rattle.x25_link.specs.laws.NoteLaw.{HandsUp, TakeContinues, TimerContinues, ConnectTells, DisconnectTells, RelinkTells}
use Rattle.x25_station.proofs.{MayLemmas.{where_holds}, Names.{AreAccepted, IsKept, KeptBy, RequestKeeps, GivenKeeps}}
use Rattle.x25_station.proofs.{PutLemmas.{all_up, rounds_accepted, begin_accepted}, RequestLemmas.{has_room}}
use Rattle.x25_station.specs.laws.KeepLaw.{ConnectKeeps, TimerKeeps, CommandKeeps, ReceiveKeeps}
use Rattle.x25_link.specs.declared.error.LinkError.TheVariants as link_error
use Rattle.x25_layer.specs.declared.error.LayerError.TheVariants as layer_error

-- ---- what waits in the link

lower_if : (b : Bool) (u v t : Side) → waits u.near.outgoing ≤ waits t.near.outgoing → waits v.near.outgoing ≤ waits t.near.outgoing
    → (let w : Side = if b then u else v in waits w.near.outgoing) ≤ waits t.near.outgoing
lower_if true u v t p q = p
lower_if false u v t p q = q

max_first : (a b : ℕ) → a ≤ max a b
max_first a b = omega arith

moved_lower : (o : Outgoing) → waits (moved_on o) ≤ waits o
moved_lower o = let m : o.sent ≤ max o.sent (o.place + 1) = max_first o.sent (o.place + 1) in omega (arith, m)

pumped_lower : (n k : ℕ) (t : Side) → waits (pumped n k t).near.outgoing ≤ waits t.near.outgoing
unfolding pumped
pumped_lower zero k t = omega arith
pumped_lower (suc n) k t =
    let below : waits (pumped n k t).near.outgoing ≤ waits t.near.outgoing = pumped_lower n k t in
    lower_if (may_send k (pumped n k t).near) (send_next (pumped n k t)) (pumped n k t) t (le_trans (moved_lower (pumped n k t).near.outgoing) below) below

ready_same : (t : Side) → waits (ready false false t).near.outgoing ≤ waits t.near.outgoing
ready_same t = lower_if (is_busy t.near) _ _ t (omega arith) (omega arith)

ended_lower : (k : ℕ) (t : Side) → waits (ended k t).near.outgoing ≤ waits t.near.outgoing
ended_lower k t =
    let below : waits (pumped 7 k t).near.outgoing ≤ waits t.near.outgoing = pumped_lower 7 k t in
    lower_if (owes_ready (pumped 7 k t).near) (ready false false (pumped 7 k t)) (pumped 7 k t) t (le_trans (ready_same (pumped 7 k t)) below) below

pub put_few : (c : LinkSettings) (packet : List ℕ) (s : LinkStation) → waits s.outgoing < 256 → waits (put_step c packet s).side.near.outgoing ≤ 256
put_few c packet s low =
    let t : Side = with_near (alone s) (record s { outgoing = added packet s.outgoing }) in
    let below : waits (ended c.window t).near.outgoing ≤ waits t.near.outgoing = ended_lower c.window t in
    let one : length (s.outgoing.given ++ packet ∷ []) ≡ length s.outgoing.given + 1 = length-append s.outgoing.given (packet ∷ []) in
    let few : waits t.near.outgoing ≤ 256 = omega (arith, one, low) in
    le_trans below few

none_some : {T : Type 0} (x : T) → Some x ≡ None → ⊥
none_some x e = cc

pub room_of : (s : LinkStation) → put_refusal s ≡ None → waits s.outgoing ≤ 256 → waits s.outgoing < 256
room_of s none few = up (is_up s.phase) none
  where
    full : (b : Bool) → (waits s.outgoing == 256) ≡ b → (let o : Option LinkError = if b then Some link_error.QueueFull else None in o) ≡ None
        → waits s.outgoing < 256
    full true is e = absurd (none_some link_error.QueueFull e)
    full false is e = omega (arith, few, (λ (same : waits s.outgoing ≡ 256). differ (sym (eq-eqb (waits s.outgoing) 256 same) ∙ is)))
      where
        differ : true ≡ false → ⊥
        differ x = cc

    up : (b : Bool) → (let o : Option LinkError = if not b then Some link_error.NotUp else if waits s.outgoing == 256 then Some link_error.QueueFull
        else None in o) ≡ None → waits s.outgoing < 256
    up false e = absurd (none_some link_error.NotUp e)
    up true e = full (waits s.outgoing == 256) refl e

pub all_few : (c : LinkSettings) (packets : List PlainPacket) (t : Side) → AreAccepted c packets t → waits t.near.outgoing ≤ 256
    → waits (all_put c packets t).near.outgoing ≤ 256
all_few c [] t all few = few
all_few c (p ∷ packets) t all few = all_few c packets (put_on c p t) all.1 (put_few c (spelling_of p) t.near (room_of t.near all.0 few))

-- ---- what the layer puts

true_false : true ≡ false → ⊥
true_false e = cc

-- where the link is up the layer need not rest
up_kept : PutTells → (c : Settings) (t : Side) (s : Putting) (entries : List StationEntry) → is_up t.near.phase ≡ true → waits t.near.outgoing ≤ 256
    → AreAccepted (link_settings c) s.put t → IsKept (with_puts c t s entries).near
up_kept tells c t s entries up few all = record {
  few = all_few (link_settings c) s.put t all few;
  rests = λ is. absurd (true_false (sym (all_up tells (link_settings c) s.put t up) ∙ is));
}

answer_kept : PutTells → (turn : ℕ) (c : Settings) (t : Side) (next : Layer) (owed : Option PlainPacket) (entries : List StationEntry) → is_up t.near.phase ≡ true
    → waits t.near.outgoing < 256
    → IsKept (with_puts c t (rounds (view_of (link_settings c) turn t.near) (layer_settings c) (begin next owed)) entries).near
answer_kept tells turn c t next owed entries up low =
    up_kept tells c t (rounds (view_of (link_settings c) turn t.near) (layer_settings c) (begin next owed)) entries up (omega (arith, low))
    (rounds_accepted tells turn (link_settings c) t (layer_settings c) (begin next owed) up (begin_accepted (link_settings c) t owed up low))

-- ---- steps of the link

record LinkKeeps (s : LinkStation) (k : LinkStep) : Type 0 where
  tells : Tells s k
  few : IsQuiet k → waits k.side.near.outgoing ≤ 256
  up : (packet : List ℕ) → k.packet ≡ Some packet → is_up k.side.near.phase ≡ true
  room : (packet : List ℕ) → k.packet ≡ Some packet → waits k.side.near.outgoing < 256

empty_few : (n : LinkStation) → n.outgoing.given ≡ [] → waits n.outgoing ≤ 256
empty_few n none = let e : length n.outgoing.given ≡ 0 = ap (λ (l : List (List ℕ)). length l) none in omega (arith, e)

follows_kept : PutTells → (c : Settings) (s : Station) (k : LinkStep) → IsKept s → LinkKeeps s.link k → IsKept (follows c s k).near
follows_kept tells c s k kept g = by k.packet refl k.notes.down refl k.notes.up refl
  where
    lc : LayerSettings
    lc = layer_settings c

    view : LinkView
    view = view_of (link_settings c) s.turn k.side.near

    noted : (o : Option Reason) (b : Bool) → k.notes.down ≡ o → k.notes.up ≡ b → k.notes ≡ record { down = o; up = b }
    noted o b p q = ap (λ (x : Option Reason). record { down = x; up = k.notes.up }) p ∙ ap (λ (x : Bool). record { down = o; up = x }) q

    by : (p : Option (List ℕ)) → k.packet ≡ p → (d : Option Reason) → k.notes.down ≡ d → (u : Bool) → k.notes.up ≡ u
        → IsKept (with_puts c k.side (layer_at view lc c.wide s.layer p d u) []).near
    by p is_p d is_d true is_u =
        let new : k.side.near ≡ fresh = g.tells.fresh_up is_u in
        let up : is_up k.side.near.phase ≡ true = ap (λ (x : LinkStation). is_up x.phase) new in
        let low : waits k.side.near.outgoing < 256 = subst (λ (x : LinkStation). waits x.outgoing < 256) (sym new) (omega arith) in
        up_kept tells c k.side (begin (goes_up lc).next (goes_up lc).owed) [] up (omega (arith, low))
        (begin_accepted (link_settings c) k.side (goes_up lc).owed up low)
    by p is_p (Some reason) is_d false is_u = record {
      few = empty_few k.side.near (ap (λ (l : Lists). l.given) (g.tells.dropped reason is_d is_u));
      rests = λ is. refl;
    }
    by (Some octets) is_p None is_d false is_u =
        answer_kept tells s.turn c k.side (layer_answer lc c.wide s.layer octets).next (layer_answer lc c.wide s.layer octets).owed [] (g.up octets is_p)
        (g.room octets is_p)
    by None is_p None is_d false is_u =
        record { few = g.few (noted None false is_d is_u); rests = λ is. kept.rests (sym (g.tells.stays (noted None false is_d is_u)) ∙ is) }

some_none : {T : Type 0} (x : T) → None ≡ Some x → ⊥
some_none x e = cc

hands_nothing : (s : LinkStation) (k : LinkStep) → k.packet ≡ None → Tells s k → (IsQuiet k → waits k.side.near.outgoing ≤ 256) → LinkKeeps s k
hands_nothing s k none tells few = record {
  tells = tells;
  few = few;
  up = λ packet is. absurd (some_none packet (sym none ∙ is));
  room = λ packet is. absurd (some_none packet (sym none ∙ is));
}

-- the laws of the link that are used
pub record LinkLaws : Type 0 where
  pub put : PutTells
  pub take : TakeTells
  pub take_continues : TakeContinues
  pub take_hands_up : TakeHandsUp
  pub timer : TimerTells
  pub timer_continues : TimerContinues
  pub connect : ConnectTells
  pub disconnect : DisconnectTells
  pub abandon : AbandonTells
  pub relink : RelinkTells

take_keeps : LinkLaws → (c : LinkSettings) (octets : List ℕ) (s : LinkStation) → waits s.outgoing ≤ 256 → LinkKeeps s (take_step c octets s)
take_keeps laws c octets s few =
    let h : HandsUp s (take_step c octets s) = laws.take_hands_up c octets s in
    let t : Tells s (take_step c octets s) = laws.take c octets s in
    record {
      tells = t;
      few = λ quiet. le_trans ((laws.take_continues c octets s).waits quiet) few;
      up = λ packet is. t.stays (h.quiet packet is) ∙ ap is_up (h.up packet is);
      room = λ packet is. (let low : waits (take_step c octets s).side.near.outgoing ≤ 254 = h.few_after packet is in omega (arith, low));
    }

pub timer_none : (c : LinkSettings) (s : LinkStation) → (timer_step c s).packet ≡ None
timer_none c s = test (nat_lt s.tries c.retries)
  where
    last : (p : Phase) → (gives_up p (alone s)).packet ≡ None
    last Closed = refl
    last p = refl

    test : (b : Bool) → (let k : LinkStep = if b then quiet (asks_again s.phase (with_near (alone s) (record s { tries = s.tries + 1 })))
        else gives_up s.phase (alone s) in k.packet) ≡ None
    test true = refl
    test false = last s.phase

timer_keeps : LinkLaws → (c : LinkSettings) (s : LinkStation) → waits s.outgoing ≤ 256 → LinkKeeps s (timer_step c s)
timer_keeps laws c s few = hands_nothing s (timer_step c s) (timer_none c s) (laws.timer c s) (λ quiet. le_trans ((laws.timer_continues c s).waits quiet) few)

connect_keeps : LinkLaws → (c : LinkSettings) (s : LinkStation) → s.phase ≡ Down → waits s.outgoing ≤ 256 → LinkKeeps s (connect_step c s)
connect_keeps laws c s down few = hands_nothing s (connect_step c s) refl (laws.connect c s down)
    (λ quiet. le_trans (ended_lower c.window (link_connects (alone s)).side) few)

disconnect_keeps : LinkLaws → (c : LinkSettings) (s : LinkStation) → LinkKeeps s (disconnect_step c s)
disconnect_keeps laws c s =
    hands_nothing s (disconnect_step c s) refl (laws.disconnect c s)
    (λ quiet. le_trans (ended_lower c.window (link_disconnects c.disc_again (alone s)).side) (omega arith))

abandon_keeps : LinkLaws → (c : LinkSettings) (s : LinkStation) → LinkKeeps s (abandon_step c s)
abandon_keeps laws c s = hands_nothing s (abandon_step c s) refl (laws.abandon c s)
    (λ quiet. le_trans (ended_lower c.window (with_near (alone s) (with_nothing Down s.tries))) (omega arith))

relink_keeps : LinkLaws → (c : LinkSettings) (s : LinkStation) → LinkKeeps s (relink_step c s)
relink_keeps laws c s = hands_nothing s (relink_step c s) refl (laws.relink c s)
    (λ quiet. le_trans (ended_lower c.window (link_relinks (alone s)).side) (omega arith))

-- ---- the calls

unless_kept : (o : Option LinkError) (step : Step) → (o ≡ None → IsKept step.near) → KeptBy (unless o step)
unless_kept None step f = f refl
unless_kept (Some e) step f = tt

is_down : (p : Phase) → connect_refusal p ≡ None → p ≡ Down
is_down Down e = refl
is_down Waiting e = absurd (none_some link_error.AlreadyWaiting e)
is_down Up e = absurd (none_some link_error.AlreadyUp e)
is_down Closed e = absurd (none_some link_error.Closed e)

pub connect_kept : LinkLaws → ConnectKeeps
connect_kept laws c s kept = unless_kept (connect_refusal s.link.phase) (follows c s (connect_step (link_settings c) s.link))
    (λ none. follows_kept laws.put c s (connect_step (link_settings c) s.link) kept
    (connect_keeps laws (link_settings c) s.link (is_down s.link.phase none) kept.few))

pub timer_kept : LinkLaws → TimerKeeps
timer_kept laws c s kept = unless_kept (timer_refusal s.link) (ends c s (timer_step (link_settings c) s.link))
    (λ none. follows_kept laws.put c s (timer_step (link_settings c) s.link) kept (timer_keeps laws (link_settings c) s.link kept.few))

pub receive_kept : LinkLaws → ReceiveKeeps
receive_kept laws c s octets kept = test (abandons c s)
  where
    test : (b : Bool) → (let k : LinkStep = if b then abandon_step (link_settings c) s.link else take_step (link_settings c) octets s.link in
        IsKept (follows c s k).near)
    test true = follows_kept laws.put c s (abandon_step (link_settings c) s.link) kept (abandon_keeps laws (link_settings c) s.link)
    test false = follows_kept laws.put c s (take_step (link_settings c) octets s.link) kept (take_keeps laws (link_settings c) octets s.link kept.few)

pub below : (n : ℕ) → n ≤ 256 → (n == 256) ≡ false → n < 256
below n low differ = omega (arith, low, (λ (e : n ≡ 256). true_false (sym (eq-eqb n 256 e) ∙ differ)))

pub request_kept : PutTells → RequestKeeps
request_kept tells c s request kept =
    where_holds KeptBy (may_ask c.wide request) (requests_of c s.link s.layer view request) (λ e. tt)
    (at (is_up s.link.phase) refl (layer_outcome lc full s.layer request) refl)
  where
    lc : LayerSettings
    lc = layer_settings c

    full : Bool
    full = waits s.link.outgoing == 256

    view : LinkView
    view = view_of (link_settings c) s.turn s.link

    accepted : (next : Layer) (packet : Option PlainPacket) → is_up s.link.phase ≡ true → layer_outcome lc full s.layer request ≡ Accepted next packet
        → AreAccepted (link_settings c) (option_to_list packet) (alone s.link)
    accepted next None up found = tt
    accepted next (Some p) up found = begin_accepted (link_settings c) (alone s.link) (Some p) up
        (below (waits s.link.outgoing) kept.few (has_room lc full s.layer request next p found))

    at : (b : Bool) → is_up s.link.phase ≡ b → (o : LayerOutcome) → layer_outcome lc full s.layer request ≡ o
        → KeptBy (did c (alone s.link) (entries_of_outcome lc s.layer request o) (if b then went view lc o else Refuses layer_error.NotUp))
    at false up o found = tt
    at true up (Declined e) found = tt
    at true up (Accepted next packet) found =
        up_kept tells c (alone s.link) (rounds view lc (begin next packet)) (entries_of_outcome lc s.layer request (Accepted next packet)) up kept.few
        (rounds_accepted tells s.turn (link_settings c) (alone s.link) lc (begin next packet) up (accepted next packet up found))

-- the entry of a command changes nothing of it
kept_led : (entries : List StationEntry) (o : Option LinkError) (step : Step) → KeptBy (unless o step) → KeptBy (unless o (led_by entries step))
kept_led entries None step kept = kept
kept_led entries (Some e) step kept = tt

pub command_kept : LinkLaws → GivenKeeps → CommandKeeps
command_kept laws gives c s (Requests request) kept = request_kept laws.put c s (said_by c.say_sizes s.layer request) kept
command_kept laws gives c s (RequestsWith given request) kept = gives c s given (said_by c.say_sizes s.layer request) kept
command_kept laws gives c s Connects kept = kept_led (connect_asked ∷ []) (connect_refusal s.link.phase)
    (follows c s (connect_step (link_settings c) s.link)) (connect_kept laws c s kept)
command_kept laws gives c s Disconnects kept = unless_kept (disconnect_refusal s.link.phase)
    (led_by (disconnect_asked ∷ []) (follows c s (disconnect_step (link_settings c) s.link)))
    (λ none. follows_kept laws.put c s (disconnect_step (link_settings c) s.link) kept (disconnect_keeps laws (link_settings c) s.link))
command_kept laws gives c s Probes kept = unless_kept (probe_refusal s.link.phase) (follows c s (timer_step (link_settings c) s.link))
    (λ none. follows_kept laws.put c s (timer_step (link_settings c) s.link) kept (timer_keeps laws (link_settings c) s.link kept.few))
command_kept laws gives c s Relinks kept = unless_kept (relink_refusal s.link.phase)
    (led_by (relink_asked ∷ []) (follows c s (relink_step (link_settings c) s.link)))
    (λ none. follows_kept laws.put c s (relink_step (link_settings c) s.link) kept (relink_keeps laws (link_settings c) s.link))

pub call_kept : TimerKeeps → CommandKeeps → (call : LinkCall) (c : Settings) (s : Station) → IsKept s → KeptBy (calls_link call c s)
call_kept timer command Connect c s kept = command c s Connects kept
call_kept timer command Disconnect c s kept = command c s Disconnects kept
call_kept timer command Fire c s kept = timer c s kept
call_kept timer command Probe c s kept = command c s Probes kept
call_kept timer command Relink c s kept = command c s Relinks kept
