-- A call, an acceptance and a clearing confirm nothing: no stretch is open before such a packet and behind it.
use Rattle.x25_station.proofs.Names.{◌≡◌, ◌≢◌, ℕ, ◌-◌, ◌==◌, List, Bool, true, false, ◌&&◌, if◌then◌else◌, refl, ap, ◌∙◌, arith, eqb-true, CircuitSettings}
use Rattle.x25_station.proofs.Names.{Circuit, is_open, is_open_in, unconfirmed, Answer, answers, row_call, row_accept, row_clear, request_in, CallRequest}
use Rattle.x25_station.proofs.Names.{State, Free, PlainGiven, written, LayerSettings, Layer, LayerAnswer, is_channel, answers_on, answers_in, drops}
use Rattle.x25_station.proofs.Names.{layer_answers, PlainPacket, call, accept, clear, spelling_of, confirmed, goes_on, confirmed_by}
use Rattle.x25_station.proofs.ConfirmLemmas.{closed_before, closed_behind}

-- ---- of a circuit

abbrev Closes : State → Answer → Type 0
Closes s a = (is_open_in s && is_open_in a.next.state) ≡ false

call_closes : (c : CircuitSettings) (x : Circuit) (s : State) (request : CallRequest) → Closes s (row_call c x s request)
call_closes c x Free request = refl
call_closes c x s request = refl

accept_closes : (c : CircuitSettings) (x : Circuit) (s : State) (facilities : List ℕ) → Closes s (row_accept c x s facilities)
accept_closes c x Free facilities = refl
accept_closes c x s facilities = refl

clear_closes : (x : Circuit) (s : State) (cause diagnostic : ℕ) → Closes s (row_clear x s cause diagnostic)
clear_closes x Free cause diagnostic = refl
clear_closes x s cause diagnostic = refl

-- ---- of a layer

less_self : (g : Bool) (n : ℕ) → (if g then n - n else 0) ≡ 0
less_self true n = let e : n - n ≡ 0 = omega arith in e
less_self false n = refl

same_confirms : (c : LayerSettings) (l next : Layer) (h : ℕ) → next.circuits h ≡ l.circuits h → confirmed c l next h ≡ 0
same_confirms c l next h same =
    ap (λ (y : Circuit). if goes_on c l next h then unconfirmed (l.circuits h) - unconfirmed y else 0) same
    ∙ less_self (goes_on c l next h) (unconfirmed (l.circuits h))

if_false : (b x : Bool) → x ≡ false → (if b then x else false) ≡ false
if_false true x is = is
if_false false x is = refl

on_channel : (c : LayerSettings) (l : Layer) (k : ℕ) (a : Answer) (h : ℕ) → Closes (l.circuits k).state a
    → confirmed c l (answers_on l.restarts l.circuits k a).next h ≡ 0
on_channel c l k a h closes = by (h == k) refl
  where
    next : Layer
    next = (answers_on l.restarts l.circuits k a).next

    at : (b : Bool) → is_open_in (l.circuits k).state ≡ b → (b && is_open_in a.next.state) ≡ false → h ≡ k → next.circuits h ≡ a.next → confirmed c l next h ≡ 0
    at false is closed same put = closed_before c l next h
        (if_false (is_channel c.channels h) (is_open (l.circuits h)) (ap (λ (j : ℕ). is_open (l.circuits j)) same ∙ is))
    at true is closed same put = closed_behind c l next h (if_false (is_channel c.channels h) (is_open (next.circuits h)) (ap is_open put ∙ closed))

    by : (b : Bool) → (h == k) ≡ b → confirmed c l next h ≡ 0
    by true is = at (is_open_in (l.circuits k).state) refl closes (eqb-true h k is) (ap (λ (b : Bool). if b then a.next else l.circuits h) is)
    by false is = same_confirms c l next h (ap (λ (b : Bool). if b then a.next else l.circuits h) is)

ready_confirms : (c : LayerSettings) (l : Layer) (k : ℕ) (a : Answer) (h : ℕ) → Closes (l.circuits k).state a
    → (let n : LayerAnswer = if is_channel c.channels k then answers_on l.restarts l.circuits k a else drops false l.restarts l.circuits in
    confirmed c l n.next h ≡ 0)
ready_confirms c l k a h closes = by (is_channel c.channels k)
  where
    by : (b : Bool) → (let n : LayerAnswer = if b then answers_on l.restarts l.circuits k a else drops false l.restarts l.circuits in confirmed c l n.next h
        ≡ 0)
    by true = on_channel c l k a h closes
    by false = same_confirms c l (drops false l.restarts l.circuits).next h refl

call_confirms : (c : LayerSettings) (l : Layer) (h k : ℕ) (called calling facilities user : List ℕ)
    → confirmed c l (layer_answers c l (call k called calling facilities user)).next h ≡ 0
call_confirms c l h k called calling facilities user = by l.restarting
  where
    v : PlainPacket
    v = call k called calling facilities user

    by : (b : Bool) → confirmed c l (answers_in c b l.restarts l.circuits v).next h ≡ 0
    by true = same_confirms c l (drops true l.restarts l.circuits).next h refl
    by false = ready_confirms c l k (answers c.circuit (l.circuits k) v) h
        (call_closes c.circuit (l.circuits k) (l.circuits k).state (request_in called calling facilities user))

accept_confirms : (c : LayerSettings) (l : Layer) (h k : ℕ) (facilities : List ℕ) → confirmed c l (layer_answers c l (accept k facilities)).next h ≡ 0
accept_confirms c l h k facilities = by l.restarting
  where
    v : PlainPacket
    v = accept k facilities

    by : (b : Bool) → confirmed c l (answers_in c b l.restarts l.circuits v).next h ≡ 0
    by true = same_confirms c l (drops true l.restarts l.circuits).next h refl
    by false = ready_confirms c l k (answers c.circuit (l.circuits k) v) h (accept_closes c.circuit (l.circuits k) (l.circuits k).state facilities)

clear_confirms : (c : LayerSettings) (l : Layer) (h k cause diagnostic : ℕ) → confirmed c l (layer_answers c l (clear k cause diagnostic)).next h ≡ 0
clear_confirms c l h k cause diagnostic = by l.restarting
  where
    v : PlainPacket
    v = clear k cause diagnostic

    by : (b : Bool) → confirmed c l (answers_in c b l.restarts l.circuits v).next h ≡ 0
    by true = same_confirms c l (drops true l.restarts l.circuits).next h refl
    by false = ready_confirms c l k (answers c.circuit (l.circuits k) v) h (clear_closes (l.circuits k) (l.circuits k).state cause diagnostic)

-- what is given makes other octets of these alone
given_confirms : (g : PlainGiven) (v : PlainPacket) → written g v ≢ spelling_of v → (c : LayerSettings) (l : Layer) (h : ℕ)
    → confirmed c l (layer_answers c l v).next h ≡ 0
given_confirms g (call k called calling facilities user) other c l h = call_confirms c l h k called calling facilities user
given_confirms g (accept k facilities) other c l h = accept_confirms c l h k facilities
given_confirms g (clear k cause diagnostic) other c l h = clear_confirms c l h k cause diagnostic
given_confirms g v other c l h = absurd (other refl)

pub given_confirms_none : (g : PlainGiven) (v : PlainPacket) → written g v ≢ spelling_of v → (wide : Bool) (c : LayerSettings) (l next : Layer) (h : ℕ) → next
    ≡ (layer_answers c l v).next → confirmed_by c wide l next h ≡ 0
given_confirms_none g v other false c l next h is = refl
given_confirms_none g v other true c l next h is = ap (λ (n : Layer). confirmed c l n h) is ∙ given_confirms g v other c l h
