-- What a packet confirms is what its P(R) acknowledges.
use Rattle.x25_station.proofs.Names.{◌≡◌, ◌⊎◌, inl, inr, ℕ, zero, suc, ◌+◌, ◌-◌, ◌≤◌, List, [], ◌∷◌, ◌++◌, length, take, drop, Option, Some, None, Result, Ok}
use Rattle.x25_station.proofs.Names.{Err, Bool, true, false, ◌==◌, nat_le, if◌then◌else◌, refl, ap, ap₂, sym, subst, ◌∙◌, arith, eqb-true, nat_tests}
use Rattle.x25_station.proofs.Names.{CircuitSettings, Circuit, Talk, is_open, is_open_in, Answer, answers, undecoded, row_call, row_accept, row_clear}
use Rattle.x25_station.proofs.Names.{hears_status, confirms, row_clear_conf, row_reset, row_reset_conf, row_data, row_undecoded, request_in, data_ground}
use Rattle.x25_station.proofs.Names.{number_ground, takes, Piece, piece_of, asked_in, State, Open, Name, same_name, LayerSettings, Layer, LayerAnswer}
use Rattle.x25_station.proofs.Names.{LayerNotice, on_channel, restarted, restart_done, layer_fault, is_channel, put_at, answers_on, drops, answers_ready}
use Rattle.x25_station.proofs.Names.{answers_restarting, answers_in, undecoded_in, answer_to, undecoded_at, is_open_at, name_of, PlainPacket, call, accept}
use Rattle.x25_station.proofs.Names.{clear, clear_conf, user_data, rr, rnr, interrupt, interrupt_conf, reset, reset_conf, restart, restart_conf, channel_in}
use Rattle.x25_station.proofs.Names.{longest_user, read_in, PacketError, PlainBeside, beside_in, nothing, fields, diagnosed, named_by, confirmed, goes_on}
use Rattle.x25_station.proofs.Names.{StationEntry, station_told, bringing, entries_beside, entries_behind, layer_answer, confirmed_by, resolved}
use Rattle.x25_circuit.specs.{Circuit.{incoming as terms_in}, Hearing.{unless}}
use Rattle.x25_station.proofs.ConfirmLemmas.{and_both, same_name-is, ended, confirmed_are}
use Rattle.x25_station.specs.laws.ConfirmLaw.{Passes, ConfirmedIsAcknowledged, IsConfirmed, AreTrueOf, ToldIsConfirmed}

true_false : true ≡ false → ⊥
true_false is = cc

-- ---- packets that ask

split : (a b : ℕ) (ps : List Piece) → a ≤ b → asked_in (drop a ps) ≡ asked_in (drop a (take b ps)) + asked_in (drop b ps)
split zero zero ps low = omega arith
split zero (suc b) [] low = refl
split zero (suc b) (p ∷ ps) low = let h = split zero b ps (omega arith) in omega (arith, h)
split (suc a) zero ps low = absurd (omega (arith, low))
split (suc a) (suc b) [] low = refl
split (suc a) (suc b) (p ∷ ps) low = split a b ps (omega (arith, low))

none_between : (a : ℕ) (ps : List Piece) → asked_in (drop a (take a ps)) ≡ 0
none_between zero ps = refl
none_between (suc a) [] = refl
none_between (suc a) (p ∷ ps) = none_between a ps

take_within : (n : ℕ) (ps qs : List Piece) → n ≤ length ps → take n (ps ++ qs) ≡ take n ps
take_within zero ps qs low = refl
take_within (suc n) [] qs low = absurd (omega (arith, low))
take_within (suc n) (p ∷ ps) qs low = ap (λ (rs : List Piece). p ∷ rs) (take_within n ps qs (omega (arith, low)))

-- ---- one circuit

open_is : (s : State) → is_open_in s ≡ true → s ≡ Open
open_is Open is = refl
open_is s is = absurd (true_false (sym is))

-- the same is sent and waits, and P(R) goes on, up to the last packet sent, or stays
record Stays (before behind : Talk) : Type 0 where
  sent : behind.sent ≡ before.sent
  rest : behind.rest ≡ before.rest
  further : before.acked ≤ behind.acked
  within : (behind.acked ≤ length before.sent) ⊎ (behind.acked ≡ before.acked)

stays_same : (t : Talk) → Stays t t
stays_same t = record { sent = refl; rest = refl; further = omega arith; within = inr refl }

-- where one stretch is open in both
abbrev GoesOn : Circuit → Circuit → Type 0
GoesOn x next = is_open x ≡ true → is_open next ≡ true → next.clears ≡ x.clears → next.resets ≡ x.resets → Stays x.talk next.talk

same_goes : (x : Circuit) → GoesOn x x
same_goes x opened behind clears resets = stays_same x.talk

closed_goes : (x next : Circuit) → is_open next ≡ false → GoesOn x next
closed_goes x next is opened behind clears resets = absurd (true_false (sym behind ∙ is))

within_number : (n m : ℕ) (other : Option ℕ) → (if nat_le n m then other else Some 2) ≡ None → n ≤ m
within_number n m other is = by (nat_le n m) refl is
  where
    by : (b : Bool) → nat_le n m ≡ b → (if b then other else Some 2) ≡ None → n ≤ m
    by true e none = grind (arith, nat_tests)
    by false e none = absurd (cc)

acked_to : (x : Circuit) (t : Talk) (pr : ℕ) → x.talk.sent ≡ t.sent → x.talk.rest ≡ t.rest → t.acked ≡ resolved x.talk.acked pr → resolved x.talk.acked pr
    ≤ length x.talk.sent → Stays x.talk t
acked_to x t pr sent rest acked within = record {
  sent = sym sent;
  rest = sym rest;
  further = (let e : x.talk.acked ≤ resolved x.talk.acked pr = omega arith in subst (λ (n : ℕ). x.talk.acked ≤ n) (sym acked) e);
  within = inl (subst (λ (n : ℕ). n ≤ length x.talk.sent) (sym acked) within);
}

module _ (c : CircuitSettings) (x : Circuit) where
  -- a packet that is refused for a ground resets the call
  unless_goes : (o : Option ℕ) (good : Answer) → (o ≡ None → GoesOn x good.next) → GoesOn x (unless c x o good).next
  unless_goes None good go = go refl
  unless_goes (Some n) good go = closed_goes x (unless c x (Some n) good).next refl

  data_goes : (ps pr : ℕ) (piece : Piece) → GoesOn x (unless c x (data_ground c.longest (terms_in x).size x.talk ps pr piece) (takes x x.talk pr piece)).next
  data_goes ps pr piece = unless_goes (data_ground c.longest (terms_in x).size x.talk ps pr piece) (takes x x.talk pr piece)
      (λ none opened behind clears resets. acked_to x (takes x x.talk pr piece).next.talk pr refl refl refl
      (within_number (resolved x.talk.acked pr) (length x.talk.sent) _ none))

  status_goes : (ready : Bool) (pr : ℕ) → GoesOn x (unless c x (number_ground x.talk pr) (hears_status x x.talk ready pr)).next
  status_goes ready pr = unless_goes (number_ground x.talk pr) (hears_status x x.talk ready pr)
      (λ none opened behind clears resets. acked_to x (hears_status x x.talk ready pr).next.talk pr refl refl refl
      (within_number (resolved x.talk.acked pr) (length x.talk.sent) None none))

  confirms_goes : (b : Bool) → GoesOn x (confirms c x x.talk b).next
  confirms_goes true = λ opened behind clears resets. record { sent = refl; rest = refl; further = omega arith; within = inr refl }
  confirms_goes false = closed_goes x (confirms c x x.talk false).next refl

  -- the row of p4 with d1
  in_open : (row : State → Answer) → GoesOn x (row Open).next → GoesOn x (row x.state).next
  in_open row go opened behind clears resets = subst (λ (s : State). GoesOn x (row s).next) (sym (open_is x.state opened)) go opened behind clears resets

  answers_goes : (v : PlainPacket) → GoesOn x (answers c x v).next
  answers_goes (call h called calling facilities user) = in_open (λ s. row_call c x s (request_in called calling facilities user))
      (closed_goes x (row_call c x Open (request_in called calling facilities user)).next refl)
  answers_goes (accept h facilities) = in_open (λ s. row_accept c x s facilities) (closed_goes x (row_accept c x Open facilities).next refl)
  answers_goes (clear h cause diagnostic) = in_open (λ s. row_clear x s cause diagnostic) (closed_goes x (row_clear x Open cause diagnostic).next refl)
  answers_goes (clear_conf h) = in_open (λ s. row_clear_conf c x s) (closed_goes x (row_clear_conf c x Open).next refl)
  answers_goes (reset h cause diagnostic) = in_open (λ s. row_reset c x s cause diagnostic) (λ opened behind clears resets. absurd (omega (arith, resets)))
  answers_goes (reset_conf h) = in_open (λ s. row_reset_conf c x s) (closed_goes x (row_reset_conf c x Open).next refl)
  answers_goes (restart cause diagnostic) = same_goes x
  answers_goes restart_conf = same_goes x
  answers_goes (user_data h q m ps pr user) = in_open (λ s. row_data c x s (user_data h q m ps pr user)) (data_goes ps pr (piece_of q m user))
  answers_goes (rr h pr) = in_open (λ s. row_data c x s (rr h pr)) (status_goes true pr)
  answers_goes (rnr h pr) = in_open (λ s. row_data c x s (rnr h pr)) (status_goes false pr)
  answers_goes (interrupt h user) = in_open (λ s. row_data c x s (interrupt h user)) (λ opened behind clears resets. stays_same x.talk)
  answers_goes (interrupt_conf h) = in_open (λ s. row_data c x s (interrupt_conf h)) (confirms_goes x.talk.int_out)

  undecoded_goes : (e : PacketError) → GoesOn x (undecoded c x e).next
  undecoded_goes e = in_open (λ s. row_undecoded c x s e) (closed_goes x (row_undecoded c x Open e).next refl)

-- ---- a layer

at_goes : (circuits : ℕ → Circuit) (k h : ℕ) (next : Circuit) → GoesOn (circuits k) next → GoesOn (circuits h) (put_at circuits k next h)
at_goes circuits k h next go = by (h == k) refl
  where
    by : (b : Bool) → (h == k) ≡ b → GoesOn (circuits h) (if b then next else circuits h)
    by true is = subst (λ (i : ℕ). GoesOn (circuits i) next) (sym (eqb-true h k is)) go
    by false is = same_goes (circuits h)

module _ (c : LayerSettings) (restarts : ℕ) (circuits : ℕ → Circuit) (h : ℕ) where
  on_goes : (b : Bool) (k : ℕ) (a : Answer) → GoesOn (circuits k) a.next
      → GoesOn (circuits h) ((if b then answers_on restarts circuits k a else drops false restarts circuits).next.circuits h)
  on_goes true k a go = at_goes circuits k h a.next go
  on_goes false k a go = same_goes (circuits h)

  ready_goes : (v : PlainPacket) → GoesOn (circuits h) ((answers_ready c restarts circuits v).next.circuits h)
  ready_goes (restart cause diagnostic) = closed_goes (circuits h) ((answers_ready c restarts circuits (restart cause diagnostic)).next.circuits h) refl
  ready_goes restart_conf = closed_goes (circuits h) ((answers_ready c restarts circuits restart_conf).next.circuits h) refl
  ready_goes (call k called calling facilities user) = on_goes (is_channel c.channels k) k
      _ (answers_goes c.circuit (circuits k) (call k called calling facilities user))
  ready_goes (accept k facilities) = on_goes (is_channel c.channels k) k _ (answers_goes c.circuit (circuits k) (accept k facilities))
  ready_goes (clear k cause diagnostic) = on_goes (is_channel c.channels k) k _ (answers_goes c.circuit (circuits k) (clear k cause diagnostic))
  ready_goes (clear_conf k) = on_goes (is_channel c.channels k) k _ (answers_goes c.circuit (circuits k) (clear_conf k))
  ready_goes (reset k cause diagnostic) = on_goes (is_channel c.channels k) k _ (answers_goes c.circuit (circuits k) (reset k cause diagnostic))
  ready_goes (reset_conf k) = on_goes (is_channel c.channels k) k _ (answers_goes c.circuit (circuits k) (reset_conf k))
  ready_goes (user_data k q m ps pr user) = on_goes (is_channel c.channels k) k _ (answers_goes c.circuit (circuits k) (user_data k q m ps pr user))
  ready_goes (rr k pr) = on_goes (is_channel c.channels k) k _ (answers_goes c.circuit (circuits k) (rr k pr))
  ready_goes (rnr k pr) = on_goes (is_channel c.channels k) k _ (answers_goes c.circuit (circuits k) (rnr k pr))
  ready_goes (interrupt k user) = on_goes (is_channel c.channels k) k _ (answers_goes c.circuit (circuits k) (interrupt k user))
  ready_goes (interrupt_conf k) = on_goes (is_channel c.channels k) k _ (answers_goes c.circuit (circuits k) (interrupt_conf k))

  restarting_goes : (v : PlainPacket) → GoesOn (circuits h) ((answers_restarting restarts circuits v).next.circuits h)
  restarting_goes (restart cause diagnostic) = closed_goes (circuits h) ((answers_restarting restarts circuits (restart cause diagnostic)).next.circuits h) refl
  restarting_goes restart_conf = closed_goes (circuits h) ((answers_restarting restarts circuits restart_conf).next.circuits h) refl
  restarting_goes v = same_goes (circuits h)

  packet_goes : (b : Bool) (v : PlainPacket) → GoesOn (circuits h) ((answers_in c b restarts circuits v).next.circuits h)
  packet_goes true v = restarting_goes v
  packet_goes false v = ready_goes v

  error_goes : (b : Bool) (k : ℕ) (e : PacketError) → GoesOn (circuits h) ((undecoded_in c b restarts circuits k e).next.circuits h)
  error_goes true k e = same_goes (circuits h)
  error_goes false k e = on_goes (is_channel c.channels k) k (undecoded c.circuit (circuits k) e) (undecoded_goes c.circuit (circuits k) e)

answer_goes : (c : LayerSettings) (wide : Bool) (l : Layer) (octets : List ℕ) (h : ℕ) → GoesOn (l.circuits h) ((layer_answer c wide l octets).next.circuits h)
answer_goes c wide l octets h = by (read_in wide (longest_user c.circuit.long_data) octets)
  where
    unread : (e : PacketError) (o : Option ℕ) → GoesOn (l.circuits h) ((undecoded_at c l e o).next.circuits h)
    unread e None = same_goes (l.circuits h)
    unread e (Some k) = error_goes c l.restarts l.circuits h l.restarting k e

    by : (r : Result PlainPacket PacketError) → GoesOn (l.circuits h) ((answer_to c l octets r).next.circuits h)
    by (Ok v) = packet_goes c l.restarts l.circuits h l.restarting v
    by (Err e) = unread e (channel_in octets)

-- ---- so many are confirmed

counted : (t u : Talk) → Stays t u → asked_in (drop t.acked (t.sent ++ t.rest)) - asked_in (drop u.acked (u.sent ++ u.rest))
    ≡ asked_in (drop t.acked (take u.acked t.sent))
counted t u s = ap₂ (λ (ps qs : List Piece). asked_in (drop t.acked (t.sent ++ t.rest)) - asked_in (drop u.acked (ps ++ qs))) s.sent s.rest ∙ by s.within
  where
    by : (u.acked ≤ length t.sent) ⊎ (u.acked ≡ t.acked) → asked_in (drop t.acked (t.sent ++ t.rest)) - asked_in (drop u.acked (t.sent ++ t.rest))
        ≡ asked_in (drop t.acked (take u.acked t.sent))
    by (inl low) =
        let parts = split t.acked u.acked (t.sent ++ t.rest) s.further in
        let same : asked_in (drop t.acked (take u.acked (t.sent ++ t.rest))) ≡ asked_in (drop t.acked (take u.acked t.sent)) =
        ap (λ (ps : List Piece). asked_in (drop t.acked ps)) (take_within u.acked t.sent t.rest low) in
        omega (arith, parts, same)
    by (inr same) =
        ap (λ (n : ℕ). asked_in (drop t.acked (t.sent ++ t.rest)) - asked_in (drop n (t.sent ++ t.rest))) same
        ∙ (let e : asked_in (drop t.acked (t.sent ++ t.rest)) - asked_in (drop t.acked (t.sent ++ t.rest)) ≡ 0 = omega arith in e)
        ∙ sym (ap (λ (n : ℕ). asked_in (drop t.acked (take n t.sent))) same ∙ none_between t.acked t.sent)

open_at : (c : LayerSettings) (l : Layer) (h : ℕ) → is_open_at c l h ≡ true → is_open (l.circuits h) ≡ true
open_at c l h is = by (is_channel c.channels h) is
  where
    by : (b : Bool) → (if b then is_open (l.circuits h) else false) ≡ true → is_open (l.circuits h) ≡ true
    by true e = e
    by false e = absurd (true_false (sym e))

passes : (c : LayerSettings) (l next : Layer) (h : ℕ) → GoesOn (l.circuits h) (next.circuits h) → goes_on c l next h ≡ true
    → Passes (l.circuits h).talk (next.circuits h).talk (confirmed c l next h)
passes c l next h go is =
    let a = and_both (is_open_at c l h) _ is in
    let b = and_both (is_open_at c next h) (same_name (name_of l h) (name_of next h)) a.1 in
    let same : name_of next h ≡ name_of l h = sym (same_name-is (name_of l h) (name_of next h) b.1) in
    let s = go (open_at c l h a.0) (open_at c next h b.0) (ap (λ (n : Name). n.clears) same) (ap (λ (n : Name). n.resets) same) in
    record { sent = s.sent; further = s.further; asked = confirmed_are c l next h is ∙ counted (l.circuits h).talk (next.circuits h).talk s }

pub confirmed_acknowledged : ConfirmedIsAcknowledged
confirmed_acknowledged c wide l octets h is = passes c l (layer_answer c wide l octets).next h (answer_goes c wide l octets h) is

-- ---- entries

beside_true : (c : LayerSettings) (l next : Layer) (b : PlainBeside) (o : Option ℕ) → AreTrueOf c l next (entries_beside b o)
beside_true c l next nothing o = tt
beside_true c l next (fields facilities user) None = tt
beside_true c l next (fields facilities user) (Some h) = (tt, tt)
beside_true c l next (diagnosed diagnostic) o = (tt, tt)

confirms_true : (c : LayerSettings) (l next : Layer) (h n : ℕ) → suc n ≡ confirmed c l next h → IsConfirmed c l next h (name_of next h) (suc n)
confirms_true c l next h n is = by (goes_on c l next h) refl
  where
    by : (b : Bool) → goes_on c l next h ≡ b → IsConfirmed c l next h (name_of next h) (suc n)
    by true on = record { goes = on; under = refl; as_many = is; some = omega arith }
    by false on = let none = ended c l next h on in absurd (omega (arith, is, none))

behind_true : (c : LayerSettings) (wide : Bool) (l next : Layer) (h count : ℕ) (b : PlainBeside) (o : Option ℕ) → count ≡ confirmed_by c wide l next h
    → AreTrueOf c l next (entries_behind next h count (entries_beside b o))
behind_true c wide l next h zero b o is = beside_true c l next b o
behind_true c true l next h (suc n) b o is = (confirms_true c l next h n is, tt)
behind_true c false l next h (suc n) b o is = absurd (omega (arith, is))

told_true : (c : LayerSettings) (l next : Layer) (notices : List LayerNotice) (others : List StationEntry) → AreTrueOf c l next others
    → AreTrueOf c l next (station_told next notices ++ others)
told_true c l next [] others rest = rest
told_true c l next (on_channel h notice ∷ notices) others rest = (tt, told_true c l next notices others rest)
told_true c l next (restarted cause diagnostic ∷ notices) others rest = (tt, told_true c l next notices others rest)
told_true c l next (restart_done ∷ notices) others rest = (tt, told_true c l next notices others rest)
told_true c l next (layer_fault diagnostic ∷ notices) others rest = (tt, told_true c l next notices others rest)

pub told_confirmed : ToldIsConfirmed
told_confirmed c wide l octets =
    let a : LayerAnswer = layer_answer c wide l octets in
    told_true c l a.next a.notices _ (behind_true c wide l a.next (named_by octets) (confirmed_by c wide l a.next (named_by octets)) (beside_in wide octets)
    (bringing a.notices) refl)
