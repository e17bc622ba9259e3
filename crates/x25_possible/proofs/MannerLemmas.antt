-- No manners are told of an end that keeps them.
use Rattle.x25_possible.proofs.Names.{Bool, true, false, ◌≡◌, ℕ, ◌+◌, ◌==◌, ◌||◌, nat_le, not, if◌then◌else◌, refl, sym, ap, subst, ◌∙◌, List, Some, arith}
use Rattle.x25_possible.proofs.Names.{and_parts, both_ways, none-some, Role, at_once, channel_choices, channel_rules, is_polite, sends, may_send, sends_to}
use Rattle.x25_possible.proofs.Names.{Item, Place, Stands, AreCounted, Fits, IsRude, placed, Packet, Data, Phase, Idle, Calls, Talks, Resets, Clears, Restarts}
use Rattle.std.proofs.{Common.{nat_lt, is_some}, Math.Bool.{or-true}, lemmas.Bool.{and_from, ltb-true, lt-ltb}}
use Rattle.x25_possible.proofs.ChannelLaws.{IsAsGood, IsHigher, channel_favourites, clears_same, dropped_in_call_is, dropped_is, from_one, heard_at_once}
use Rattle.x25_possible.proofs.{ChannelLaws.{heard_higher, restarts_same}, Exactly.{Leads, Stays, Steps, covered, leads_sends}, Names.{Talk, Set}}
use Rattle.x25_possible.{proofs.SetLemmas.{sends_exactly}, proofs.StepLemmas.{from_map}, specs.Channel.{heard, lowered, sends_as, talks_politely}}

-- ---- where one is polite, one that is as good, and one that has taken more, is too

polite_lowered : (t : ℕ) (s : Phase) (x : Packet) → is_polite (lowered t s) x ≡ is_polite s x
polite_lowered t (Talks k) (Data q m ps pr size) = refl
polite_lowered t (Talks k) x = refl
polite_lowered t s x = refl

window_more : (k j : Talk) → IsHigher k j → (k.window == 0 || nat_lt k.sent (k.acked + k.window)) ≡ true
    → (j.window == 0 || nat_lt j.sent (j.acked + j.window)) ≡ true
window_more k j h = go (k.window == 0) refl
  where
    go : (b : Bool) → (k.window == 0) ≡ b → (b || nat_lt k.sent (k.acked + k.window)) ≡ true
        → (j.window == 0 || nat_lt j.sent (j.acked + j.window)) ≡ true
    go true e p =
        ap (λ b. b || nat_lt j.sent (j.acked + j.window)) (subst (λ w. (w == 0) ≡ true) (sym h.window) e)
    go false e p =
        let less = ltb-true k.sent (k.acked + k.window) p in
        let sent = h.sent in
        let acked = h.acked in
        let window = h.window in
        ap (λ b. j.window == 0 || b) (lt-ltb j.sent (j.acked + j.window) (omega (arith, less, sent, acked, window)))
        ∙ or-true (j.window == 0)

polite_higher : (k j : Talk) (x : Packet) → IsHigher k j → talks_politely k x ≡ true → talks_politely j x ≡ true
polite_higher k j (Data q m ps pr size) h p =
    let a = and_parts (k.window == 0 || nat_lt k.sent (k.acked + k.window)) (not m || nat_le k.most size) p in
    and_from (j.window == 0 || nat_lt j.sent (j.acked + j.window)) (not m || nat_le j.most size)
    (window_more k j h a.0) (subst (λ n. (not m || nat_le n size) ≡ true) (sym h.most) a.1)
polite_higher k j x h p = refl

polite_at_once : (s : Phase) (y x : Packet) (u : Phase) → at_once s y ≡ Some u → is_polite s x ≡ true → is_polite u x ≡ true
polite_at_once (Talks k) y x u e p =
    subst (λ w. is_polite w x ≡ true) (sym (heard_at_once k y u e)) (polite_higher k (heard k y) x (heard_higher k y) p)
polite_at_once Idle y x u e p = subst (λ w. is_polite w x ≡ true) (dropped_is y Idle u e) refl
polite_at_once (Calls terms) y x u e p = subst (λ w. is_polite w x ≡ true) (dropped_is y (Calls terms) u e) refl
polite_at_once (Resets limits) y x u e p = subst (λ w. is_polite w x ≡ true) (dropped_in_call_is y (Resets limits) u e) refl
polite_at_once Clears y x u e p = subst (λ w. is_polite w x ≡ true) (clears_same y u e) refl
polite_at_once Restarts y x u e p = subst (λ w. is_polite w x ≡ true) (restarts_same y u e) refl
polite_at_once s y x u e p = absurd (none-some u e)

polite_leads : (role : Role) (s : Phase) (way : List Packet) (q : Place Phase Packet) (x : Packet) → Leads (channel_choices role) s way q
    → is_polite s x ≡ true → is_polite q.state x ≡ true
polite_leads role _ _ _ x (Stays s way) p = p
polite_leads role _ _ _ x (Steps s u y way q e h) p = polite_leads role u way q x h (polite_at_once s y x u e p)

-- ---- so some state of the set sends it politely

pub polite_told : (s : Set) (begun : List Phase) (tape : List (Item Packet)) (x : Packet) (p r : Phase) (way : List Packet) (t : ℕ)
    → AreCounted s.spots.items → Fits begun tape s → Stands (channel_rules s.role begun) tape p way → sends_as t p x ≡ Some r
    → is_polite p x ≡ true → IsRude (sends_to x s).told → ⊥
polite_told s begun tape x p r way t all fits stands e polite rude =
    let c = covered (channel_rules s.role begun) (channel_choices s.role) begun IsAsGood (channel_favourites s.role begun) tape p way stands in
    let v = (channel_favourites s.role begun).sends p c.as_good way x r c.good (t, e) in
    let w =
    leads_sends (channel_rules s.role begun) (channel_choices s.role) begun IsAsGood (channel_favourites s.role begun)
    c.as_good way c.place x v.0 c.leads v.2 in
    let q = from_map (placed s.way.items) s.spots.items c.place ((fits.1 c.place).1 c.is_in) in
    let sent : sends q.0.phase x ≡ Some w.0 =
    ap (λ k. sends k.state x) (sym q.2) ∙ from_one (sends c.place.state x) w.0 w.1 in
    let may : may_send q.0.phase x ≡ true =
    ap (λ b. if b then false else is_some (sends q.0.phase x)) (all q.0 q.1) ∙ ap (λ o. is_some o) sent in
    let good : is_polite c.as_good x ≡ true =
    ap (λ u. is_polite u x) c.good.2 ∙ polite_lowered c.good.0 p x ∙ polite in
    let there : is_polite q.0.phase x ≡ true =
    ap (λ k. is_polite k.state x) (sym q.2) ∙ polite_leads s.role c.as_good way c.place x c.leads good in
    both_ways (is_polite q.0.phase x) (sends_exactly.rude s x q.0 rude q.1 may) there
