-- The choices of a channel are favourites of its rules.
use Rattle.x25_possible.proofs.Names.{◌≡◌, inl, inr, List, [], ◌∷◌, refl, sym, ap, ap₂, subst, ◌∙◌, Option, Some, None, Bool, true, false, ℕ, ◌+◌, ◌-◌, ◌≤◌}
use Rattle.x25_possible.proofs.Names.{arith, nat_le, ◌==◌, ◌&&◌, not, if◌then◌else◌, both_ways, and_parts, eqb-true, leb-true, none-some, same_Some, IsIn, Role}
use Rattle.x25_possible.proofs.Names.{takes, sends, at_once, one, channel_rules, channel_choices, Packet, Data, Phase, Idle, Calls, Talks, Resets, Clears}
use Rattle.std.proofs.{Common.{◌%◌, nat_lt, le_refl, le_trans, lt_of_lt_of_le, cond}, lemmas.Bool.{not-true, and_from, ltb-true, eq-eqb, le-leb, lt-ltb}}
use Rattle.std.proofs.lemmas.Option.{cond_some}
use Rattle.x25_possible.{proofs.Names.{Restarts, Talk}, specs.Channel.{restarts_at_once, told_of, pr_of, lowered}}
use Rattle.x25_possible.specs.Channel.{nth, may_ack, may_number, may_follow, may_talk, fits, limits_of, talked, heard, hears, sends_as, idle_sends}
use Rattle.x25_possible.specs.Channel.{resets_sends, clears_sends, idle_takes, calls_takes, ending_sends, silent_sends, talk_sends, talking_as, talk_takes}
use Rattle.x25_possible.specs.Channel.{resets_takes, clears_takes, restarts_takes, is_one_message, dropped, dropped_in_call, talk_at_once, clears_at_once}
use Rattle.x25_possible.specs.declared.packet.Packet.TheVariants.{Call, Accept, Clear, ClearConf, Reset, Restart, RestartConf, Rr, Rnr, Interrupt}
use Rattle.x25_possible.specs.declared.{packet.Packet.TheVariants.{InterruptConf, Elsewhere}, packet.Terms.{Terms}, phase.Limits.{Limits}}
use Rattle.x25_possible.specs.{declared.phase.Phase.TheVariants.{WasReset, WasCleared, WasRestarted}, laws.Possible.{AreFavourites}}

-- ---- numbers

-- the least number that a P(R) may stand for
nth_least : (low t : ℕ) → low ≤ t → nth low (t % 8) ≤ t
nth_least low t h = omega arith

nth_mod : (low t : ℕ) → nth low (t % 8) % 8 ≡ t % 8
nth_mod low t = omega arith

pub nth_from : (low n : ℕ) → low ≤ nth low n
nth_from low n = omega arith

-- ---- as good

abbrev pub IsAsGood : Phase → Phase → Type 0
IsAsGood s u = (t : ℕ) × (t ≤ told_of s) × (u ≡ lowered t s)

lowered_self : (s : Phase) → lowered (told_of s) s ≡ s
lowered_self (Talks k) = refl
lowered_self _ = refl

same_is_good : (s : Phase) → IsAsGood s s
same_is_good s = (told_of s, le_refl (told_of s), sym (lowered_self s))

lowered_twice : (a b : ℕ) (s : Phase) → lowered a (lowered b s) ≡ lowered a s
lowered_twice a b (Talks k) = refl
lowered_twice a b _ = refl

lowered_told : (a : ℕ) (s : Phase) → a ≤ told_of s → told_of (lowered a s) ≤ a
lowered_told a (Talks k) h = le_refl a
lowered_told a _ h = omega arith

good_on : (s u v : Phase) → IsAsGood s u → IsAsGood u v → IsAsGood s v
good_on s u v g h =
    let told : told_of u ≤ g.0 = subst (λ w. told_of w ≤ g.0) (sym g.2) (lowered_told g.0 s g.1) in
    (h.0, le_trans h.1 (le_trans told g.1), h.2 ∙ ap (lowered h.0) g.2 ∙ lowered_twice h.0 g.0 s)

-- ---- lists of one

pub in_one : (o : Option Phase) (r : Phase) → o ≡ Some r → IsIn r (one o)
in_one o r e = subst (λ p. IsIn r (one p)) (sym e) (inl refl)

pub from_one : (o : Option Phase) (r : Phase) → IsIn r (one o) → o ≡ Some r
from_one None r h = absurd h
from_one (Some s) r (inl e) = ap Some (sym e)
from_one (Some s) r (inr h) = absurd h

-- ---- acknowledgements

pub record Acknowledges (t : ℕ) (k : Talk) (pr : ℕ) : Type 0 where
  pub number : pr ≡ t % 8
  pub rising : k.told ≤ t
  pub taken : t ≤ k.taken

acknowledges : (t : ℕ) (k : Talk) (pr : ℕ) → may_ack t k pr ≡ true → Acknowledges t k pr
acknowledges t k pr h =
    let a = and_parts (pr == t % 8 && nat_le k.told t) (nat_le t k.taken) h in
    let b = and_parts (pr == t % 8) (nat_le k.told t) a.0 in
    record { number = eqb-true pr (t % 8) b.0; rising = leb-true k.told t b.1; taken = leb-true t k.taken a.1 }

pub may_acknowledge : (t : ℕ) (k : Talk) (pr : ℕ) → Acknowledges t k pr → may_ack t k pr ≡ true
may_acknowledge t k pr h =
    and_from (pr == t % 8 && nat_le k.told t) (nat_le t k.taken)
    (and_from (pr == t % 8) (nat_le k.told t) (eq-eqb pr (t % 8) h.number) (le-leb k.told t h.rising))
    (le-leb t k.taken h.taken)

-- by the least number that it may stand for
acknowledges_least : (t low : ℕ) (k : Talk) (pr : ℕ) → low ≤ k.told → Acknowledges t k pr
    → Acknowledges (nth low pr) (record k { told = low }) pr × (nth low pr ≤ t)
acknowledges_least t low k pr small h =
    let least : nth low pr ≤ t = subst (λ n. nth low n ≤ t) (sym h.number) (nth_least low t (le_trans small h.rising)) in
    let same : nth low pr % 8 ≡ pr = subst (λ n. nth low n % 8 ≡ n) (sym h.number) (nth_mod low t) in
    (record { number = sym same; rising = nth_from low pr; taken = le_trans least h.taken }, least)

-- ---- what it sends

IsGoodSend : Phase → Option Phase → Type 0
IsGoodSend r o = (v : Phase) × IsAsGood r v × IsIn v (one o)

same_send : (o p : Option Phase) (r : Phase) → o ≡ p → p ≡ Some r → IsGoodSend r o
unfolding IsGoodSend
same_send o p r same e = (r, same_is_good r, in_one o r (same ∙ e))

-- DATA, RR and RNR
ack_send : (b : Bool) (t low : ℕ) (told : ℕ → Talk) (o : Option Phase) (r : Phase)
    → (cond b (Some (Talks (told t))) None ≡ Some r)
    → (b ≡ true → (n : ℕ) × (n ≤ t) × (o ≡ Some (Talks (told n))))
    → ((n : ℕ) → (told n).told ≡ n) → ((n m : ℕ) → told n ≡ record (told m) { told = n })
    → IsGoodSend r o
unfolding IsGoodSend
ack_send b t low told o r e least is_told only =
    let parts = cond_some b (Talks (told t)) r e in
    let n = least parts.0 in (
      Talks (told n.0),
      subst (λ s. IsAsGood s (Talks (told n.0))) parts.1
          (n.0, subst (λ m. n.0 ≤ m) (sym (is_told t)) n.1, ap Talks (only n.0 t)),
      in_one o (Talks (told n.0)) n.2,
    )

holds_then : (b : Bool) (s : Phase) → b ≡ true → cond b (Some s) None ≡ Some s
holds_then b s e = ap (λ c. cond c (Some s) None) e

good_lowered : (k : Talk) (low : ℕ) → low ≤ k.told → IsGoodSend (Talks k) (Some (Talks (record k { told = low })))
unfolding IsGoodSend
good_lowered k low small = (Talks (record k { told = low }), (low, small, refl), inl refl)

talk_good : (k : Talk) (x : Packet) (r : Phase) (low t : ℕ) → low ≤ k.told → talk_sends t k x ≡ Some r
    → IsGoodSend r (sends (Talks (record k { told = low })) x)
talk_good k (Data q m ps pr size) r low t small e =
    ack_send (may_talk t k (Data q m ps pr size)) t low (λ n. talked n k (Data q m ps pr size))
    (sends (Talks (record k { told = low })) (Data q m ps pr size)) r e
    (λ may.
    let parts = and_parts (may_ack t k pr) (may_follow k q ps size) may in
    let least = acknowledges_least t low k pr small (acknowledges t k pr parts.0) in (
      nth low pr,
      least.1,
      holds_then (may_talk (nth low pr) (record k { told = low }) (Data q m ps pr size))
          (Talks (talked (nth low pr) k (Data q m ps pr size)))
          (and_from (may_ack (nth low pr) (record k { told = low }) pr) (may_follow k q ps size)
          (may_acknowledge (nth low pr) (record k { told = low }) pr least.0) parts.1),
    ))
    (λ n. refl) (λ n i. refl)
talk_good k (Rr pr) r low t small e =
    ack_send (may_ack t k pr) t low (λ n. record k { told = n }) (sends (Talks (record k { told = low })) (Rr pr)) r e
    (λ may.
    let least = acknowledges_least t low k pr small (acknowledges t k pr may) in (
      nth low pr,
      least.1,
      holds_then (may_ack (nth low pr) (record k { told = low }) pr) (Talks (record k { told = nth low pr }))
          (may_acknowledge (nth low pr) (record k { told = low }) pr least.0),
    ))
    (λ n. refl) (λ n i. refl)
talk_good k (Rnr pr) r low t small e =
    ack_send (may_ack t k pr) t low (λ n. record k { told = n }) (sends (Talks (record k { told = low })) (Rnr pr)) r e
    (λ may.
    let least = acknowledges_least t low k pr small (acknowledges t k pr may) in (
      nth low pr,
      least.1,
      holds_then (may_ack (nth low pr) (record k { told = low }) pr) (Talks (record k { told = nth low pr }))
          (may_acknowledge (nth low pr) (record k { told = low }) pr least.0),
    ))
    (λ n. refl) (λ n i. refl)
talk_good k Interrupt r low t small e =
    ack_send (not k.is_out) k.told low (λ n. record k { told = n; is_out = true }) (sends (Talks (record k { told = low })) Interrupt) r e
    (λ may. (low, small, holds_then (not k.is_out) (Talks (record k { told = low; is_out = true })) may))
    (λ n. refl) (λ n i. refl)
talk_good k InterruptConf r low t small e =
    ack_send (nat_lt 0 k.owed) k.told low (λ n. record k { told = n; owed = k.owed - 1 })
    (sends (Talks (record k { told = low })) InterruptConf) r e
    (λ may. (low, small, holds_then (nat_lt 0 k.owed) (Talks (record k { told = low; owed = k.owed - 1 })) may))
    (λ n. refl) (λ n i. refl)
talk_good k Elsewhere r low t small e =
    subst (λ s. IsGoodSend s (Some (Talks (record k { told = low })))) (same_Some (Talks k) r e)
    (good_lowered k low small)
talk_good k x r low t small e = same_send (talk_sends t k x) (talk_sends t k x) r refl e

sends_good : (s u : Phase) (x : Packet) (r : Phase) → IsAsGood s u → (t : ℕ) × (sends_as t s x ≡ Some r) → IsGoodSend r (sends u x)
sends_good (Talks k) u x r g h =
    subst (λ w. IsGoodSend r (sends w x)) (sym g.2) (talk_good k x r g.0 h.0 g.1 h.1)
sends_good s u x r g h = subst (λ w. IsGoodSend r (sends w x)) (sym g.2) (same_send (sends_as h.0 s x) (sends_as h.0 s x) r refl h.1)

-- ---- what it takes

heard_lowered : (low : ℕ) (k : Talk) (x : Packet) → heard (record k { told = low }) x ≡ record (heard k x) { told = low }
heard_lowered low k (Data q m ps pr size) = refl
heard_lowered low k x = refl

heard_told : (k : Talk) (x : Packet) → (heard k x).told ≡ k.told
heard_told k (Data q m ps pr size) = refl
heard_told k x = refl

-- in a stretch, or out of it
talk_takes_good : (low : ℕ) (k : Talk) (x : Packet) → low ≤ k.told
    → IsAsGood (talk_takes k x) (talk_takes (record k { told = low }) x)
talk_takes_good low k Reset small = same_is_good (WasReset (limits_of k))
talk_takes_good low k Clear small = same_is_good WasCleared
talk_takes_good low k Restart small = same_is_good WasRestarted
talk_takes_good low k x small =
    (low, subst (λ n. low ≤ n) (sym (heard_told k x)) small, ap Talks (heard_lowered low k x))

takes_good : (role : Role) (s u : Phase) (x : Packet) (r : Phase) → IsAsGood s u → takes role s x ≡ r
    → (v : Phase) × IsAsGood r v × IsIn v (takes role u x ∷ [])
takes_good role (Talks k) u x r g e =
    subst (λ w. (v : Phase) × IsAsGood r v × IsIn v (takes role w x ∷ [])) (sym g.2) (
      talk_takes (record k { told = g.0 }) x,
      subst (λ w. IsAsGood w (talk_takes (record k { told = g.0 }) x)) e (talk_takes_good g.0 k x g.1),
      inl refl,
    )
takes_good role s u x r g e =
    subst (λ w. (v : Phase) × IsAsGood r v × IsIn v (takes role w x ∷ [])) (sym g.2) (r, same_is_good r, inl (sym e))

-- ---- what it takes at once

pub dropped_is : (x : Packet) (s u : Phase) → dropped x s ≡ Some u → s ≡ u
dropped_is (Data q m ps pr size) s u e = same_Some s u e
dropped_is (Rr pr) s u e = same_Some s u e
dropped_is (Rnr pr) s u e = same_Some s u e
dropped_is Interrupt s u e = same_Some s u e
dropped_is InterruptConf s u e = same_Some s u e
dropped_is Elsewhere s u e = same_Some s u e
dropped_is x s u e = absurd (none-some u e)

pub dropped_in_call_is : (x : Packet) (s u : Phase) → dropped_in_call x s ≡ Some u → s ≡ u
dropped_in_call_is (Call terms) s u e = same_Some s u e
dropped_in_call_is (Accept said) s u e = same_Some s u e
dropped_in_call_is x s u e = dropped_is x s u e

talk_takes_at_once : (k : Talk) (x : Packet) (u : Phase) → talk_at_once k x ≡ Some u → talk_takes k x ≡ u
talk_takes_at_once k InterruptConf u e = (cond_some k.is_out (Talks (heard k InterruptConf)) u e).1
talk_takes_at_once k (Data q m ps pr size) u e = same_Some (Talks (heard k (Data q m ps pr size))) u e
talk_takes_at_once k (Rr pr) u e = same_Some (Talks (heard k (Rr pr))) u e
talk_takes_at_once k (Rnr pr) u e = same_Some (Talks (heard k (Rnr pr))) u e
talk_takes_at_once k Interrupt u e = same_Some (Talks (heard k Interrupt)) u e
talk_takes_at_once k Elsewhere u e = same_Some (Talks (heard k Elsewhere)) u e
talk_takes_at_once k (Call terms) u e = same_Some (Talks (heard k (Call terms))) u e
talk_takes_at_once k (Accept said) u e = same_Some (Talks (heard k (Accept said))) u e
talk_takes_at_once k x u e = absurd (none-some u e)

idle_takes_at_once : (x : Packet) (u : Phase) → dropped x Idle ≡ Some u → idle_takes x ≡ u
idle_takes_at_once (Data q m ps pr size) u e = same_Some Idle u e
idle_takes_at_once (Rr pr) u e = same_Some Idle u e
idle_takes_at_once (Rnr pr) u e = same_Some Idle u e
idle_takes_at_once Interrupt u e = same_Some Idle u e
idle_takes_at_once InterruptConf u e = same_Some Idle u e
idle_takes_at_once Elsewhere u e = same_Some Idle u e
idle_takes_at_once x u e = absurd (none-some u e)

calls_takes_at_once : (role : Role) (terms : Terms) (x : Packet) (u : Phase) → dropped x (Calls terms) ≡ Some u → calls_takes role terms x ≡ u
calls_takes_at_once role terms (Data q m ps pr size) u e = same_Some (Calls terms) u e
calls_takes_at_once role terms (Rr pr) u e = same_Some (Calls terms) u e
calls_takes_at_once role terms (Rnr pr) u e = same_Some (Calls terms) u e
calls_takes_at_once role terms Interrupt u e = same_Some (Calls terms) u e
calls_takes_at_once role terms InterruptConf u e = same_Some (Calls terms) u e
calls_takes_at_once role terms Elsewhere u e = same_Some (Calls terms) u e
calls_takes_at_once role terms x u e = absurd (none-some u e)

resets_takes_at_once : (limits : Limits) (x : Packet) (u : Phase) → dropped_in_call x (Resets limits) ≡ Some u
    → resets_takes limits x ≡ u
resets_takes_at_once limits (Call terms) u e = same_Some (Resets limits) u e
resets_takes_at_once limits (Accept said) u e = same_Some (Resets limits) u e
resets_takes_at_once limits (Data q m ps pr size) u e = same_Some (Resets limits) u e
resets_takes_at_once limits (Rr pr) u e = same_Some (Resets limits) u e
resets_takes_at_once limits (Rnr pr) u e = same_Some (Resets limits) u e
resets_takes_at_once limits Interrupt u e = same_Some (Resets limits) u e
resets_takes_at_once limits InterruptConf u e = same_Some (Resets limits) u e
resets_takes_at_once limits Elsewhere u e = same_Some (Resets limits) u e
resets_takes_at_once limits x u e = absurd (none-some u e)

clears_takes_at_once : (x : Packet) (u : Phase) → clears_at_once x ≡ Some u → clears_takes x ≡ u
clears_takes_at_once Clear u e = absurd (none-some u e)
clears_takes_at_once ClearConf u e = absurd (none-some u e)
clears_takes_at_once Restart u e = absurd (none-some u e)
clears_takes_at_once RestartConf u e = absurd (none-some u e)
clears_takes_at_once x u e = same_Some Clears u e

restarts_takes_at_once : (x : Packet) (u : Phase) → restarts_at_once x ≡ Some u → restarts_takes x ≡ u
restarts_takes_at_once Restart u e = absurd (none-some u e)
restarts_takes_at_once RestartConf u e = absurd (none-some u e)
restarts_takes_at_once x u e = same_Some Restarts u e

at_once_takes : (role : Role) (s : Phase) (x : Packet) (u : Phase) → at_once s x ≡ Some u → takes role s x ≡ u
at_once_takes role (Talks k) x u e = talk_takes_at_once k x u e
at_once_takes role Idle x u e = idle_takes_at_once x u e
at_once_takes role (Calls terms) x u e = calls_takes_at_once role terms x u e
at_once_takes role (Resets limits) x u e = resets_takes_at_once limits x u e
at_once_takes role Clears x u e = clears_takes_at_once x u e
at_once_takes role Restarts x u e = restarts_takes_at_once x u e
at_once_takes role s x u e = absurd (none-some u e)

taken : (role : Role) (s : Phase) (x : Packet) (r : Phase) → IsIn r (takes role s x ∷ []) → takes role s x ≡ r
taken role s x r (inl e) = sym e
taken role s x r (inr h) = absurd h

best_taken : (role : Role) (s : Phase) (x : Packet) (u v : Phase) → at_once s x ≡ Some u → IsIn v (takes role s x ∷ []) → IsAsGood v u
best_taken role s x u v e is =
    subst (λ w. IsAsGood w u) (sym (at_once_takes role s x u e) ∙ taken role s x v is) (same_is_good u)

-- ---- what is taken at once commutes with what it sends

pub record IsHigher (k j : Talk) : Type 0 where
  pub most : j.most ≡ k.most
  pub window : j.window ≡ k.window
  pub sent : j.sent ≡ k.sent
  pub told : j.told ≡ k.told
  pub begun : j.begun ≡ k.begun
  pub acked : k.acked ≤ j.acked
  pub taken : k.taken ≤ j.taken
  pub owed : k.owed ≤ j.owed
  pub out : k.is_out ≡ false → j.is_out ≡ false

higher_taken : (b : Bool) (n : ℕ) → n ≤ (if b then n + 1 else n)
higher_taken true n = omega arith
higher_taken false n = le_refl n

pub heard_higher : (k : Talk) (x : Packet) → IsHigher k (heard k x)
heard_higher k (Data q m ps pr size) = record {
  most = refl;
  window = refl;
  sent = refl;
  told = refl;
  begun = refl;
  acked = nth_from k.acked pr;
  taken = higher_taken (ps == k.taken % 8) k.taken;
  owed = le_refl k.owed;
  out = λ e. e;
}
heard_higher k (Rr pr) = record {
  most = refl;
  window = refl;
  sent = refl;
  told = refl;
  begun = refl;
  acked = nth_from k.acked pr;
  taken = le_refl k.taken;
  owed = le_refl k.owed;
  out = λ e. e;
}
heard_higher k (Rnr pr) = record {
  most = refl;
  window = refl;
  sent = refl;
  told = refl;
  begun = refl;
  acked = nth_from k.acked pr;
  taken = le_refl k.taken;
  owed = le_refl k.owed;
  out = λ e. e;
}
heard_higher k Interrupt = record {
  most = refl;
  window = refl;
  sent = refl;
  told = refl;
  begun = refl;
  acked = le_refl k.acked;
  taken = le_refl k.taken;
  owed = omega arith;
  out = λ e. e;
}
heard_higher k InterruptConf = record {
  most = refl;
  window = refl;
  sent = refl;
  told = refl;
  begun = refl;
  acked = le_refl k.acked;
  taken = le_refl k.taken;
  owed = le_refl k.owed;
  out = λ e. refl;
}
heard_higher k x = record {
  most = refl;
  window = refl;
  sent = refl;
  told = refl;
  begun = refl;
  acked = le_refl k.acked;
  taken = le_refl k.taken;
  owed = le_refl k.owed;
  out = λ e. e;
}

ack_more : (t : ℕ) (k j : Talk) (pr : ℕ) → IsHigher k j → may_ack t k pr ≡ true → may_ack t j pr ≡ true
ack_more t k j pr h may =
    let a = acknowledges t k pr may in
    may_acknowledge t j pr (record { number = a.number; rising = subst (λ n. n ≤ t) (sym h.told) a.rising; taken = le_trans a.taken h.taken })

number_more : (k j : Talk) (ps : ℕ) → IsHigher k j → may_number k ps ≡ true → may_number j ps ≡ true
number_more k j ps h may =
    let a = and_parts (ps == k.sent % 8) (nat_lt k.sent (k.acked + 7)) may in
    let room = ltb-true k.sent (k.acked + 7) a.1 in
    let sent = h.sent in
    let acked = h.acked in
    and_from (ps == j.sent % 8) (nat_lt j.sent (j.acked + 7))
    (subst (λ n. (ps == n % 8) ≡ true) (sym h.sent) a.0)
    (lt-ltb j.sent (j.acked + 7) (omega arith))

follow_more : (k j : Talk) (q : Bool) (ps size : ℕ) → IsHigher k j → may_follow k q ps size ≡ true → may_follow j q ps size ≡ true
follow_more k j q ps size h may =
    let a = and_parts (may_number k ps) (fits k.most size && is_one_message k.begun q) may in
    let b = and_parts (fits k.most size) (is_one_message k.begun q) a.1 in
    and_from (may_number j ps) (fits j.most size && is_one_message j.begun q)
    (number_more k j ps h a.0)
    (and_from (fits j.most size) (is_one_message j.begun q)
    (subst (λ n. fits n size ≡ true) (sym h.most) b.0)
    (subst (λ n. is_one_message n q ≡ true) (sym h.begun) b.1))

not_more : (a b : Bool) → (a ≡ false → b ≡ false) → not a ≡ true → not b ≡ true
not_more a b h e = ap not (h (not-true a e))

talk_more : (t : ℕ) (k j : Talk) (y : Packet) → IsHigher k j → may_talk t k y ≡ true → may_talk t j y ≡ true
talk_more t k j (Data q m ps pr size) h may =
    let a = and_parts (may_ack t k pr) (may_follow k q ps size) may in
    and_from (may_ack t j pr) (may_follow j q ps size) (ack_more t k j pr h a.0) (follow_more k j q ps size h a.1)
talk_more t k j (Rr pr) h may = ack_more t k j pr h may
talk_more t k j (Rnr pr) h may = ack_more t k j pr h may
talk_more t k j Interrupt h may = not_more k.is_out j.is_out h.out may
talk_more t k j InterruptConf h may =
    lt-ltb 0 j.owed (lt_of_lt_of_le (ltb-true 0 k.owed may) h.owed)
talk_more t k j Elsewhere h may = refl
talk_more t k j y h may = absurd (both_ways (may_talk t k y) refl may)

-- what was taken at once in a state is so in the next one too
resets_again : (k : Talk) (x : Packet) (u : Phase) (limits : Limits) → talk_at_once k x ≡ Some u
    → dropped_in_call x (Resets limits) ≡ Some (Resets limits)
resets_again k (Call terms) u limits e = refl
resets_again k (Accept said) u limits e = refl
resets_again k (Data q m ps pr size) u limits e = refl
resets_again k (Rr pr) u limits e = refl
resets_again k (Rnr pr) u limits e = refl
resets_again k Interrupt u limits e = refl
resets_again k InterruptConf u limits e = refl
resets_again k Elsewhere u limits e = refl
resets_again k x u limits e = absurd (none-some u e)

clears_again : (k : Talk) (x : Packet) (u : Phase) → talk_at_once k x ≡ Some u → clears_at_once x ≡ Some Clears
clears_again k (Data q m ps pr size) u e = refl
clears_again k (Rr pr) u e = refl
clears_again k (Rnr pr) u e = refl
clears_again k Interrupt u e = refl
clears_again k InterruptConf u e = refl
clears_again k Elsewhere u e = refl
clears_again k (Call terms) u e = refl
clears_again k (Accept said) u e = refl
clears_again k x u e = absurd (none-some u e)

restarts_again : (k : Talk) (x : Packet) (u : Phase) → talk_at_once k x ≡ Some u → restarts_at_once x ≡ Some Restarts
restarts_again k (Data q m ps pr size) u e = refl
restarts_again k (Rr pr) u e = refl
restarts_again k (Rnr pr) u e = refl
restarts_again k Interrupt u e = refl
restarts_again k InterruptConf u e = refl
restarts_again k Elsewhere u e = refl
restarts_again k (Call terms) u e = refl
restarts_again k (Accept said) u e = refl
restarts_again k x u e = absurd (none-some u e)

-- and by what it becomes there
pub heard_at_once : (k : Talk) (x : Packet) (u : Phase) → talk_at_once k x ≡ Some u → u ≡ Talks (heard k x)
heard_at_once k InterruptConf u e = sym (cond_some k.is_out (Talks (heard k InterruptConf)) u e).1
heard_at_once k (Data q m ps pr size) u e = sym (same_Some (Talks (heard k (Data q m ps pr size))) u e)
heard_at_once k (Rr pr) u e = sym (same_Some (Talks (heard k (Rr pr))) u e)
heard_at_once k (Rnr pr) u e = sym (same_Some (Talks (heard k (Rnr pr))) u e)
heard_at_once k Interrupt u e = sym (same_Some (Talks (heard k Interrupt)) u e)
heard_at_once k Elsewhere u e = sym (same_Some (Talks (heard k Elsewhere)) u e)
heard_at_once k (Call terms) u e = sym (same_Some (Talks (heard k (Call terms))) u e)
heard_at_once k (Accept said) u e = sym (same_Some (Talks (heard k (Accept said))) u e)
heard_at_once k x u e = absurd (none-some u e)

out_still : (t : ℕ) (k : Talk) (y : Packet) → k.is_out ≡ true → may_talk t k y ≡ true → (talked t k y).is_out ≡ true
out_still t k Interrupt out may = refl
out_still t k y out may = out

talk_again : (t : ℕ) (k : Talk) (x y : Packet) (u : Phase) → talk_at_once k x ≡ Some u → may_talk t k y ≡ true
    → talk_at_once (talked t k y) x ≡ Some (Talks (heard (talked t k y) x))
talk_again t k InterruptConf y u e may =
    holds_then (talked t k y).is_out (Talks (heard (talked t k y) InterruptConf))
    (out_still t k y (cond_some k.is_out (Talks (heard k InterruptConf)) u e).0 may)
talk_again t k (Data q m ps pr size) y u e may = refl
talk_again t k (Rr pr) y u e may = refl
talk_again t k (Rnr pr) y u e may = refl
talk_again t k Interrupt y u e may = refl
talk_again t k Elsewhere y u e may = refl
talk_again t k (Call terms) y u e may = refl
talk_again t k (Accept said) y u e may = refl
talk_again t k x y u e may = absurd (none-some u e)

-- the order makes no difference
swap_numbers : (t : ℕ) (k : Talk) (a n : ℕ) (y : Packet)
    → talked t (record k { acked = a; taken = n }) y ≡ record (talked t k y) { acked = a; taken = n }
swap_numbers t k a n (Data q m ps pr size) = refl
swap_numbers t k a n y = refl

talked_acked : (t : ℕ) (k : Talk) (y : Packet) → ((talked t k y).acked ≡ k.acked) × ((talked t k y).taken ≡ k.taken)
talked_acked t k (Data q m ps pr size) = (refl, refl)
talked_acked t k y = (refl, refl)

taken_by : ℕ → ℕ → ℕ
taken_by ps n = if ps == n % 8 then n + 1 else n

swap_data : (t : ℕ) (k : Talk) (q m : Bool) (ps pr size : ℕ) (y : Packet)
    → talked t (heard k (Data q m ps pr size)) y ≡ heard (talked t k y) (Data q m ps pr size)
unfolding taken_by
swap_data t k q m ps pr size y =
    let same = talked_acked t k y in
    swap_numbers t k (nth k.acked pr) (taken_by ps k.taken) y
    ∙ ap (λ a. record (talked t k y) { acked = nth a pr; taken = taken_by ps k.taken }) (sym same.0)
    ∙ ap (λ n. record (talked t k y) { acked = nth (talked t k y).acked pr; taken = taken_by ps n }) (sym same.1)

swap_hears : (t : ℕ) (k : Talk) (pr : ℕ) (y : Packet) → talked t (hears pr k) y ≡ hears pr (talked t k y)
swap_hears t k pr y =
    let same = talked_acked t k y in
    swap_numbers t k (nth k.acked pr) k.taken y
    ∙ ap (λ a. record (talked t k y) { acked = nth a pr; taken = k.taken }) (sym same.0)
    ∙ ap (λ n. record (talked t k y) { acked = nth (talked t k y).acked pr; taken = n }) (sym same.1)

swap_interrupt : (t : ℕ) (k : Talk) (y : Packet) → may_talk t k y ≡ true → talked t (heard k Interrupt) y ≡ heard (talked t k y) Interrupt
swap_interrupt t k InterruptConf may =
    let owed = ltb-true 0 k.owed may in
    let same : k.owed + 1 - 1 ≡ k.owed - 1 + 1 = omega arith in
    ap (λ n. record k { owed = n }) same
swap_interrupt t k y may = refl

swap_conf : (t : ℕ) (k : Talk) (y : Packet) → k.is_out ≡ true → may_talk t k y ≡ true
    → talked t (heard k InterruptConf) y ≡ heard (talked t k y) InterruptConf
swap_conf t k Interrupt out may = absurd (both_ways k.is_out (not-true k.is_out may) out)
swap_conf t k y out may = refl

swaps : (t : ℕ) (k : Talk) (x y : Packet) (u : Phase) → talk_at_once k x ≡ Some u → may_talk t k y ≡ true
    → talked t (heard k x) y ≡ heard (talked t k y) x
swaps t k (Data q m ps pr size) y u e may = swap_data t k q m ps pr size y
swaps t k (Rr pr) y u e may = swap_hears t k pr y
swaps t k (Rnr pr) y u e may = swap_hears t k pr y
swaps t k Interrupt y u e may = swap_interrupt t k y may
swaps t k Elsewhere y u e may = refl
swaps t k (Call terms) y u e may = refl
swaps t k (Accept said) y u e may = refl
swaps t k InterruptConf y u e may = swap_conf t k y (cond_some k.is_out (Talks (heard k InterruptConf)) u e).0 may
swaps t k x y u e may = absurd (none-some u e)

Commutes : Phase → Packet → Option Phase → Type 0
Commutes r x o = (v : Phase) × (at_once r x ≡ Some v) × (o ≡ Some v)

talking_commutes : (t : ℕ) (k : Talk) (x y : Packet) (u r : Phase) → talk_at_once k x ≡ Some u → talking_as t k y ≡ Some r
    → Commutes r x (talking_as t (heard k x) y)
unfolding Commutes
talking_commutes t k x y u r e h =
    let parts = cond_some (may_talk t k y) (Talks (talked t k y)) r h in
    subst (λ s. (v : Phase) × (at_once s x ≡ Some v) × (talking_as t (heard k x) y ≡ Some v)) parts.1 (
      Talks (heard (talked t k y) x),
      talk_again t k x y u e parts.0,
      holds_then (may_talk t (heard k x) y) (Talks (talked t (heard k x) y)) (talk_more t k (heard k x) y (heard_higher k x) parts.0)
          ∙ ap (λ j. Some (Talks j)) (swaps t k x y u e parts.0),
    )

heard_limits : (k : Talk) (x : Packet) → limits_of (heard k x) ≡ limits_of k
heard_limits k x = ap₂ (λ most window. record { most = most; window = window }) (heard_higher k x).most (heard_higher k x).window

talk_commutes : (k : Talk) (x y : Packet) (u r : Phase) → talk_at_once k x ≡ Some u → talk_sends (nth k.told (pr_of y)) k y ≡ Some r
    → Commutes r x (talk_sends (nth k.told (pr_of y)) (heard k x) y)
unfolding Commutes
talk_commutes k x Reset u r e h =
    subst (λ s. (v : Phase) × (at_once s x ≡ Some v) × (Some (Resets (limits_of (heard k x))) ≡ Some v))
    (same_Some (Resets (limits_of k)) r h)
    (Resets (limits_of k), resets_again k x u (limits_of k) e, ap (λ n. Some (Resets n)) (heard_limits k x))
talk_commutes k x Clear u r e h =
    subst (λ s. (v : Phase) × (at_once s x ≡ Some v) × (Some Clears ≡ Some v)) (same_Some Clears r h) (Clears, clears_again k x u e, refl)
talk_commutes k x Restart u r e h =
    subst (λ s. (v : Phase) × (at_once s x ≡ Some v) × (Some Restarts ≡ Some v)) (same_Some Restarts r h) (Restarts, restarts_again k x u e, refl)
talk_commutes k x y u r e h = talking_commutes (nth k.told (pr_of y)) k x y u r e h

-- p1, p2, d1 where nothing is known, d2, p6 and r2
dropped_clears : (x : Packet) (s u : Phase) → dropped x s ≡ Some u → clears_at_once x ≡ Some Clears
dropped_clears (Data q m ps pr size) s u e = refl
dropped_clears (Rr pr) s u e = refl
dropped_clears (Rnr pr) s u e = refl
dropped_clears Interrupt s u e = refl
dropped_clears InterruptConf s u e = refl
dropped_clears Elsewhere s u e = refl
dropped_clears x s u e = absurd (none-some u e)

dropped_too : (x : Packet) (s u r : Phase) → dropped x s ≡ Some u → dropped x r ≡ Some r
dropped_too (Data q m ps pr size) s u r e = refl
dropped_too (Rr pr) s u r e = refl
dropped_too (Rnr pr) s u r e = refl
dropped_too Interrupt s u r e = refl
dropped_too InterruptConf s u r e = refl
dropped_too Elsewhere s u r e = refl
dropped_too x s u r e = absurd (none-some u e)

dropped_in_call_clears : (x : Packet) (s u : Phase) → dropped_in_call x s ≡ Some u → clears_at_once x ≡ Some Clears
dropped_in_call_clears (Call terms) s u e = refl
dropped_in_call_clears (Accept said) s u e = refl
dropped_in_call_clears x s u e = dropped_clears x s u e

dropped_in_call_too : (x : Packet) (s u r : Phase) → dropped_in_call x s ≡ Some u → dropped_in_call x r ≡ Some r
dropped_in_call_too (Call terms) s u r e = refl
dropped_in_call_too (Accept said) s u r e = refl
dropped_in_call_too x s u r e = dropped_too x s u r e

clears_restarts : (x : Packet) (u : Phase) → clears_at_once x ≡ Some u → restarts_at_once x ≡ Some Restarts
clears_restarts Clear u e = absurd (none-some u e)
clears_restarts ClearConf u e = absurd (none-some u e)
clears_restarts Restart u e = absurd (none-some u e)
clears_restarts RestartConf u e = absurd (none-some u e)
clears_restarts x u e = refl

-- where it is then, it is so by what it sends
goes_to : (o : Option Phase) (x : Packet) (r s : Phase) → o ≡ Some s → at_once s x ≡ Some s → o ≡ Some r → Commutes r x o
unfolding Commutes
goes_to o x r s e a h =
    subst (λ w. (v : Phase) × (at_once w x ≡ Some v) × (o ≡ Some v)) (same_Some s r (sym e ∙ h)) (s, a, e)

ending_commutes : (x y : Packet) (s r : Phase) → at_once s x ≡ Some s → clears_at_once x ≡ Some Clears → ending_sends s y ≡ Some r
    → Commutes r x (ending_sends s y)
ending_commutes x Clear s r e c h = goes_to (Some Clears) x r Clears refl c h
ending_commutes x Restart s r e c h = goes_to (Some Restarts) x r Restarts refl (clears_restarts x Clears c) h
ending_commutes x Elsewhere s r e c h = goes_to (Some s) x r s refl e h
ending_commutes x y s r e c h = absurd (none-some r h)

idle_commutes : (x y : Packet) (u r : Phase) → dropped x Idle ≡ Some u → idle_sends y ≡ Some r → Commutes r x (idle_sends y)
idle_commutes x (Call terms) u r e h =
    goes_to (Some (Calls terms)) x r (Calls terms) refl (dropped_too x Idle u (Calls terms) e) h
idle_commutes x y u r e h = ending_commutes x y Idle r (dropped_too x Idle u Idle e) (dropped_clears x Idle u e) h

resets_commutes : (limits : Limits) (x y : Packet) (u r : Phase) → dropped_in_call x (Resets limits) ≡ Some u
    → resets_sends limits y ≡ Some r → Commutes r x (resets_sends limits y)
resets_commutes limits x Reset u r e h =
    goes_to (Some (Resets limits)) x r (Resets limits) refl (dropped_in_call_too x (Resets limits) u (Resets limits) e) h
resets_commutes limits x y u r e h =
    ending_commutes x y (Resets limits) r (dropped_in_call_too x (Resets limits) u (Resets limits) e)
    (dropped_in_call_clears x (Resets limits) u e) h

silent_commutes : (x y : Packet) (r : Phase) → restarts_at_once x ≡ Some Restarts → silent_sends y ≡ Some r → Commutes r x (silent_sends y)
silent_commutes x Restart r e h = goes_to (Some Restarts) x r Restarts refl e h
silent_commutes x y r e h = absurd (none-some r h)

clears_commutes : (x y : Packet) (r : Phase) → clears_at_once x ≡ Some Clears → clears_sends y ≡ Some r → Commutes r x (clears_sends y)
clears_commutes x Clear r e h = goes_to (Some Clears) x r Clears refl e h
clears_commutes x Elsewhere r e h = goes_to (Some Clears) x r Clears refl e h
clears_commutes x y r e h = silent_commutes x y r (clears_restarts x Clears e) h

pub restarts_same : (x : Packet) (u : Phase) → restarts_at_once x ≡ Some u → Restarts ≡ u
restarts_same Restart u e = absurd (none-some u e)
restarts_same RestartConf u e = absurd (none-some u e)
restarts_same x u e = same_Some Restarts u e

pub clears_same : (x : Packet) (u : Phase) → clears_at_once x ≡ Some u → Clears ≡ u
clears_same Clear u e = absurd (none-some u e)
clears_same ClearConf u e = absurd (none-some u e)
clears_same Restart u e = absurd (none-some u e)
clears_same RestartConf u e = absurd (none-some u e)
clears_same x u e = same_Some Clears u e

commutes_at : (s : Phase) (x : Packet) (u : Phase) (y : Packet) (r : Phase) → at_once s x ≡ Some u → sends s y ≡ Some r
    → Commutes r x (sends u y)
commutes_at (Talks k) x u y r e h =
    subst (λ w. Commutes r x (sends w y)) (sym (heard_at_once k x u e))
    (subst (λ n. Commutes r x (talk_sends (nth n (pr_of y)) (heard k x) y)) (sym (heard_told k x)) (talk_commutes k x y u r e h))
commutes_at Idle x u y r e h =
    subst (λ w. Commutes r x (sends w y)) (dropped_is x Idle u e) (idle_commutes x y u r e h)
commutes_at (Calls terms) x u y r e h =
    subst (λ w. Commutes r x (sends w y)) (dropped_is x (Calls terms) u e)
    (ending_commutes x y (Calls terms) r (dropped_too x (Calls terms) u (Calls terms) e) (dropped_clears x (Calls terms) u e) h)
commutes_at (Resets limits) x u y r e h =
    subst (λ w. Commutes r x (sends w y)) (dropped_in_call_is x (Resets limits) u e) (resets_commutes limits x y u r e h)
commutes_at Clears x u y r e h =
    subst (λ w. Commutes r x (sends w y)) (clears_same x u e)
    (clears_commutes x y r (subst (λ w. clears_at_once x ≡ Some w) (sym (clears_same x u e)) e) h)
commutes_at Restarts x u y r e h =
    subst (λ w. Commutes r x (sends w y)) (restarts_same x u e)
    (silent_commutes x y r (subst (λ w. restarts_at_once x ≡ Some w) (sym (restarts_same x u e)) e) h)
commutes_at s x u y r e h = absurd (none-some u e)

channel_commutes : (s : Phase) (x : Packet) (u : Phase) (y : Packet) (r : Phase) → at_once s x ≡ Some u → IsIn r (one (sends s y))
    → (v : Phase) × (at_once r x ≡ Some v) × IsIn v (one (sends u y))
unfolding Commutes
channel_commutes s x u y r e is =
    let h = commutes_at s x u y r e (from_one (sends s y) r is) in
    (h.0, h.1, in_one (sends u y) h.0 h.2)

-- ---- all together

pub channel_favourites : (role : Role) (begun : List Phase) → AreFavourites (channel_rules role begun) (channel_choices role) begun IsAsGood
unfolding IsGoodSend
channel_favourites role begun = record {
  may_begin = λ s is. is;
  may_send = λ s way x r is. (nth (told_of s) (pr_of x), from_one (sends s x) r is);
  may_take = λ s x r is. taken role s x r is;
  may_take_at_once = λ s x r e. at_once_takes role s x r e;
  begins = λ s is. (s, same_is_good s, is);
  sends = λ s u way x r good may. sends_good s u x r good may;
  takes = takes_good role;
  transitive = good_on;
  best = best_taken role;
  commutes = λ s x u way y r e is. channel_commutes s x u y r e is;
}
