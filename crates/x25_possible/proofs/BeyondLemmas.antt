-- Numbers go on from a wrong one, and requests go again.
use Rattle.x25_possible.proofs.Names.{◌≡◌, inl, inr, List, [], ◌∷◌, refl, sym, ap, subst, ◌∙◌, Some, None, Bool, true, false, ℕ, ◌+◌, ◌≤◌}
use Rattle.x25_possible.proofs.Names.{arith, ◌==◌, ◌&&◌, ◌<◌, if◌then◌else◌, both_ways, and_parts, eqb-true, none-some, same_Some, IsIn, is_known}
use Rattle.x25_possible.proofs.Names.{sends, Packet, Data, Phase, Idle, Calls, Talks, Resets, Clears, Restarts, Talk, Spot}
use Rattle.std.proofs.{Common.{◌%◌, nat_lt, is_some}, lemmas.Bool.{and_from, eq-eqb, lt-ltb}}
use Rattle.x25_possible.proofs.ChannelLaws.{may_acknowledge, nth_from}
use Rattle.x25_possible.specs.Channel.{far, nth, may_ack, may_number, may_follow, fits, is_one_message, begun_by, next_sent, goes_on}
use Rattle.x25_possible.specs.Channel.{talked}
use Rattle.x25_possible.specs.code.Steps.{are_again, is_again}
use Rattle.x25_possible.specs.laws.Beyond.{NumbersGoOn, RequestsGoAgain, is_request}
use Rattle.x25_possible.specs.declared.packet.Packet.TheVariants.{Clear, Reset, Restart}
use Rattle.x25_possible.specs.declared.phase.Phase.TheVariants.{WasCalled, WasReset, WasCleared, WasRestarted}

-- ---- numbers

next_is : (ps sent : ℕ) → (ps + 1) % 8 ≡ next_sent ps sent % 8
next_is ps sent = go (ps == sent % 8) refl
  where
    go : (b : Bool) → (ps == sent % 8) ≡ b → (ps + 1) % 8 ≡ (if b then sent + 1 else ps + 1) % 8
    go true e = let same = eqb-true ps (sent % 8) e in omega (arith, same)
    go false e = refl

next_is_few : (ps sent : ℕ) → ps < 8 → sent < far → next_sent ps sent < far + 7
next_is_few ps sent low few = go (ps == sent % 8)
  where
    go : (b : Bool) → (if b then sent + 1 else ps + 1) < far + 7
    go true = omega (arith, few)
    go false = omega (arith, low)

one_message : (m q : Bool) → is_one_message (begun_by m q) q ≡ true
one_message true true = refl
one_message true false = refl
one_message false q = refl

-- behind the wrong number
behind_wrong : ℕ → Bool → Bool → Talk → Talk
behind_wrong ps m q k = record k { sent = next_sent ps k.sent; acked = far; taken = far; begun = begun_by m q }

goes_wrong : (k : Talk) (q m : Bool) (ps pr size : ℕ) → (may_ack (nth k.told pr) k pr && may_number k ps) ≡ false
    → goes_on (Talks k) (Data q m ps pr size) ≡ Some (Talks (behind_wrong ps m q k))
unfolding behind_wrong
goes_wrong k q m ps pr size wrong =
    ap (λ b. if b then Some (Talks (talked (nth k.told pr) k (Data q m ps pr size))) else Some (Talks (behind_wrong ps m q k))) wrong

may_go_on : (k : Talk) (q m n : Bool) (ps next longer : ℕ) → k.sent < far → k.told + 8 ≤ far → ps < 8 → next < 8
    → fits k.most longer ≡ true
    → is_some (sends (Talks (behind_wrong ps m q k)) (Data q n ((ps + 1) % 8) next longer)) ≡ true
unfolding behind_wrong
may_go_on k q m n ps next longer few told low small size =
    let j = behind_wrong ps m q k in
    let t = nth k.told next in
    let ack = may_acknowledge t j next (record { number = omega (arith, small); rising = nth_from k.told next; taken = omega (arith, told) }) in
    let number = and_from ((ps + 1) % 8 == j.sent % 8) (nat_lt j.sent (j.acked + 7))
    (eq-eqb ((ps + 1) % 8) (j.sent % 8) (next_is ps k.sent)) (lt-ltb j.sent (j.acked + 7) (next_is_few ps k.sent low few)) in
    let rest = and_from (fits j.most longer) (is_one_message j.begun q) size (one_message m q) in
    let may = and_from (may_ack t j next) (may_follow j q ((ps + 1) % 8) longer) ack
    (and_from (may_number j ((ps + 1) % 8)) (fits j.most longer && is_one_message j.begun q) number rest) in
    ap (λ b. is_some (if b then Some (Talks (talked t j (Data q n ((ps + 1) % 8) next longer))) else None)) may

pub numbers_go_on : NumbersGoOn
numbers_go_on k q m n ps pr next size longer s few told wrong on low small fit =
    subst (λ r. is_some (sends r (Data q n ((ps + 1) % 8) next longer)) ≡ true)
    (same_Some (Talks (behind_wrong ps m q k)) s (sym (goes_wrong k q m ps pr size wrong) ∙ on))
    (may_go_on k q m n ps next longer few told low small fit)

-- ---- requests

number_of : Phase → ℕ
number_of Idle = 0
number_of (Calls terms) = 1
number_of (WasCalled terms) = 2
number_of (Talks k) = 3
number_of (Resets limits) = 4
number_of (WasReset limits) = 5
number_of Clears = 6
number_of WasCleared = 7
number_of Restarts = 8
number_of WasRestarted = 9

one_number : (s r : Phase) → Some s ≡ Some r → number_of s ≡ number_of r
one_number s r e = ap number_of (same_Some s r e)

again_is_known : (s : Phase) (x : Packet) → is_request x ≡ true → sends s x ≡ Some s → is_again x s ≡ true
unfolding number_of
again_is_known Restarts Restart is e = refl
again_is_known Clears Clear is e = refl
again_is_known (Resets limits) Reset is e = refl
again_is_known Idle Clear is e = absurd (omega (arith, one_number Clears Idle e))
again_is_known Idle Restart is e = absurd (omega (arith, one_number Restarts Idle e))
again_is_known Idle Reset is e = absurd (none-some Idle e)
again_is_known (Calls terms) Clear is e = absurd (omega (arith, one_number Clears (Calls terms) e))
again_is_known (Calls terms) Restart is e = absurd (omega (arith, one_number Restarts (Calls terms) e))
again_is_known (Calls terms) Reset is e = absurd (none-some (Calls terms) e)
again_is_known (WasCalled terms) Clear is e = absurd (omega (arith, one_number Clears (WasCalled terms) e))
again_is_known (WasCalled terms) Restart is e = absurd (omega (arith, one_number Restarts (WasCalled terms) e))
again_is_known (WasCalled terms) Reset is e = absurd (none-some (WasCalled terms) e)
again_is_known (Talks k) Clear is e = absurd (omega (arith, one_number Clears (Talks k) e))
again_is_known (Talks k) Restart is e = absurd (omega (arith, one_number Restarts (Talks k) e))
again_is_known (Talks k) Reset is e = absurd (omega (arith, one_number (Resets (record { most = k.most; window = k.window })) (Talks k) e))
again_is_known (Resets limits) Clear is e = absurd (omega (arith, one_number Clears (Resets limits) e))
again_is_known (Resets limits) Restart is e = absurd (omega (arith, one_number Restarts (Resets limits) e))
again_is_known (WasReset limits) Clear is e = absurd (omega (arith, one_number Clears (WasReset limits) e))
again_is_known (WasReset limits) Restart is e = absurd (omega (arith, one_number Restarts (WasReset limits) e))
again_is_known (WasReset limits) Reset is e = absurd (none-some (WasReset limits) e)
again_is_known Clears Restart is e = absurd (omega (arith, one_number Restarts Clears e))
again_is_known Clears Reset is e = absurd (none-some Clears e)
again_is_known WasCleared Clear is e = absurd (none-some WasCleared e)
again_is_known WasCleared Restart is e = absurd (omega (arith, one_number Restarts WasCleared e))
again_is_known WasCleared Reset is e = absurd (none-some WasCleared e)
again_is_known Restarts Clear is e = absurd (none-some Restarts e)
again_is_known Restarts Reset is e = absurd (none-some Restarts e)
again_is_known WasRestarted Clear is e = absurd (none-some WasRestarted e)
again_is_known WasRestarted Restart is e = absurd (omega (arith, one_number Restarts WasRestarted e))
again_is_known WasRestarted Reset is e = absurd (none-some WasRestarted e)
again_is_known s x is e = absurd (both_ways false refl is)

again_stays : (x : Packet) (s : Phase) → is_again x s ≡ true → sends s x ≡ Some s
again_stays Restart Restarts e = refl
again_stays Clear Clears e = refl
again_stays Reset (Resets limits) e = refl
again_stays x s e = absurd (both_ways false refl e)

all_again : (x : Packet) (qs : List Spot) → is_request x ≡ true → ((q : Spot) → IsIn q qs → sends q.phase x ≡ Some q.phase)
    → are_again x qs ≡ true
all_again x [] is same = refl
all_again x (q ∷ qs) is same =
    and_from (is_again x q.phase) (are_again x qs) (again_is_known q.phase x is (same q (inl refl)))
    (all_again x qs is (λ r i. same r (inr i)))

each_stays : (x : Packet) (qs : List Spot) (q : Spot) → are_again x qs ≡ true → IsIn q qs → sends q.phase x ≡ Some q.phase
each_stays x [] q e i = absurd i
each_stays x (r ∷ qs) q e (inl i) =
    subst (λ (p : Spot). sends p.phase x ≡ Some p.phase) (sym i) (again_stays x r.phase (and_parts (is_again x r.phase) (are_again x qs) e).0)
each_stays x (r ∷ qs) q e (inr i) = each_stays x qs q (and_parts (is_again x r.phase) (are_again x qs) e).1 i

pub requests_go_again : RequestsGoAgain
requests_go_again = record {
  noted = λ x s is known same. and_from (is_known s) (are_again x s.spots.items) known (all_again x s.spots.items is same);
  known = λ x s e. (and_parts (is_known s) (are_again x s.spots.items) e).0;
  same = λ x s q e i. each_stays x s.spots.items q (and_parts (is_known s) (are_again x s.spots.items) e).1 i;
}
