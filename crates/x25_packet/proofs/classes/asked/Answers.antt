use Rattle.std.proofs.Common.{◌≡◌, ◌≢◌, ◌≤◌, ◌∙◌, ℕ, List, ap, drop, get_or, length, rules}
use Rattle.x25_packet.specs.Classes.{none_own, own_in, size_of, with_facility}
use Rattle.x25_packet.specs.declared.classes.Own.{Own}
use Rattle.x25_packet.proofs.FacilityLemmas.{own_stepped, own_ends, own_at_marker}
use Rattle.x25_packet.proofs.classes.asked.Goals as goal

step : (own next : Own) (xs rest field : List ℕ) → size_of xs ≤ length xs → rest ≡ drop (size_of xs) xs → get_or xs 0 0 ≢ 0
    → next ≡ with_facility own (get_or xs 0 0) (get_or xs 1 0) (get_or xs 2 0) → own_in own 0 xs ≡ own_in none_own 0 field
    → own_in next 0 rest ≡ own_in none_own 0 field
step own next xs rest field room same some is before =
    ap (λ (o : Own). own_in o 0 rest) is ∙ own_stepped own xs rest room same some ∙ before

pub loop-behind-preserved-in-1 : goal.loop-behind-preserved-in-1
loop-behind-preserved-in-1 c =
    step _ _ c.loop-behind.rest.now c.in-Some.behind.now _ c.in-Some.ensures.0 c.in-Some.ensures.1 c.if-rest-eq-MARKER.false
    (rw c.in-1.is (search rules)) c.loop-behind.invariant

pub loop-behind-preserved-in-66 : goal.loop-behind-preserved-in-66
loop-behind-preserved-in-66 c =
    step _ _ c.loop-behind.rest.now c.in-Some.behind.now _ c.in-Some.ensures.0 c.in-Some.ensures.1 c.if-rest-eq-MARKER.false
    (rw c.in-66.is (search rules)) c.loop-behind.invariant

pub loop-behind-preserved-in-67 : goal.loop-behind-preserved-in-67
loop-behind-preserved-in-67 c =
    step _ _ c.loop-behind.rest.now c.in-Some.behind.now _ c.in-Some.ensures.0 c.in-Some.ensures.1 c.if-rest-eq-MARKER.false
    (rw c.in-67.is (search rules)) c.loop-behind.invariant

pub loop-behind-preserved : goal.loop-behind-preserved
loop-behind-preserved c =
    step _ _ c.loop-behind.rest.now c.in-Some.behind.now _ c.in-Some.ensures.0 c.in-Some.ensures.1 c.if-rest-eq-MARKER.false
    (search rules) c.loop-behind.invariant

pub returns-then-rest-eq-MARKER : goal.returns-then-rest-eq-MARKER
returns-then-rest-eq-MARKER c = own_at_marker c.loop-behind.own c.loop-behind.rest.now c.in-Some.ensures.0 c.if-rest-eq-MARKER.true ∙ c.loop-behind.invariant

pub returns : goal.returns
returns c = own_ends c.loop-behind.own c.loop-behind.rest.now c.in_default.ensures ∙ c.loop-behind.invariant
