-- One place in a session, with nothing on the way.
use Rattle.x25_possible_links.proofs.Names.{Bool, true, false, ◌≡◌, ◌==◌, ◌&&◌, ◌||◌, not, ℕ, ◌+◌, ◌-◌, ◌<◌, ◌≤◌, nat_lt, if◌then◌else◌, List, [], ◌∷◌, refl}
use Rattle.x25_possible_links.proofs.Names.{ap, subst, ◌∙◌, arith, Option, Some, None, get_or, length, and_parts, eqb-true, lt-ltb, ltb-true, none-some}
use Rattle.x25_possible_links.proofs.Names.{same_Some, counts, heard, may_acknowledge, may_number, told_to, sends, all_of, and_then, first_of, grow_all}
use Rattle.x25_possible_links.proofs.Names.{is_large, sent_to, sends_to, settles, shown_to, shows_to, spot_at, walk_all, walks, with_first, Frame, Info, Ready}
use Rattle.std.{proofs.Common.{◌%◌, IfSome, set}, proofs.lemmas.Bool.{and_from, eq-eqb, le-ltb, not-true}, specs.List.{refill}}
use Rattle.x25_possible.specs.Channel.{nth}
use Rattle.x25_possible_links.proofs.{Names.{Right, LinkSet, Spot, Numbers, Stand, Out, Up, Free}, Stands.{acknowledges, may_number_by, nth_is}}
use Rattle.x25_possible_links.specs.code.Steps.{IsInSession, IsStep, IsTaken, in_session, are_near, are_sure, far, marked, near, near_numbers, session}
use Rattle.x25_possible_links.specs.code.Steps.{session_of, facts, has_sent, is_counted, is_sure, numbers, numbers_by, session_facts, kept_by, up_hears}
use Rattle.x25_possible_links.specs.{code.Steps.{up_sends}, declared.set.Facts.{Facts}, laws.Link.{is_ua, sent_to as numbered}}

-- ---- numbers

record AreNear (k : Numbers) : Type 0 where
  sent : k.sent < near
  acked : k.acked < near
  taken : k.taken < near
  told : k.told < near

near_is : (k : Numbers) → are_near k ≡ true → AreNear k
near_is k h =
    let a = and_parts (nat_lt k.sent near) (nat_lt k.acked near && (nat_lt k.taken near && nat_lt k.told near)) h in
    let b = and_parts (nat_lt k.acked near) (nat_lt k.taken near && nat_lt k.told near) a.1 in
    let c = and_parts (nat_lt k.taken near) (nat_lt k.told near) b.1 in
    record {
      sent = ltb-true k.sent near a.0;
      acked = ltb-true k.acked near b.0;
      taken = ltb-true k.taken near c.0;
      told = ltb-true k.told near c.1;
    }

-- none is more than eight farther than a near one
sure_by : (k : Numbers) → k.sent < near + 8 → k.acked < near + 8 → k.taken < near + 8 → k.told < near + 8 → are_sure k ≡ true
sure_by k a b c d =
    and_from (not (is_large (Up k))) (nat_lt k.taken far)
    (rw (
      le-ltb 4611686018427387903 k.sent (omega (arith, a)),
      le-ltb 4611686018427387903 k.acked (omega (arith, b)),
      le-ltb 4611686018427387903 k.taken (omega (arith, c)),
      le-ltb 4611686018427387903 k.told (omega (arith, d)),
    ) refl)
    (lt-ltb k.taken far (omega (arith, c)))

not_large : (k : Numbers) → are_sure k ≡ true → is_large (Up k) ≡ false
not_large k c = not-true (is_large (Up k)) (and_parts (not (is_large (Up k))) (nat_lt k.taken far) c).0

numbers_are : (s : LinkSet) (k : Numbers) → are_sure k ≡ true → numbers (in_session k s) ≡ Up k
numbers_are s k h = ap (λ b. let u = if b then Free else Up k in numbers_by u u) (not_large k h)

facts_as : (s : LinkSet) (k : Numbers) (x : Frame) → are_sure k ≡ true
    → facts x (in_session k s) ≡ record (session_facts k) { is_answering = is_ua x && true }
facts_as s k x h =
    ap (λ b. let u = if b then Free else Up k in record a {
      stand = numbers_by u u;
      is_sure = is_sure u;
      is_counted = is_counted (numbers_by u u) (in_session k s);
    }) (not_large k h)
    ∙ ap (λ b. record a { is_sure = nat_lt k.taken far; is_counted = has_sent k.sent (if b then Free else Up k) && true }) (not_large k h)
    ∙ ap (λ b. record a { is_sure = b; is_counted = (k.sent == k.sent) && true })
    (and_parts (not (is_large (Up k))) (nat_lt k.taken far) h).1
    ∙ ap (λ b. record a { is_counted = b && true }) (eq-eqb k.sent k.sent refl)
  where
    a : Facts
    a = record (session_facts k) { is_answering = is_ua x && true }

near_sure : (k : Numbers) → are_near k ≡ true → are_sure k ≡ true
near_sure k h =
    let n = near_is k h in
    let a = n.sent in let b = n.acked in let c = n.taken in let d = n.told in
    sure_by k (omega (arith, a)) (omega (arith, b)) (omega (arith, c)) (omega (arith, d))

near_in : (s : Stand) (k : Numbers) → near_numbers s ≡ Some k → (s ≡ Up k) × (are_near k ≡ true)
near_in (Up j) k e = go (are_near j) refl e
  where
    go : (b : Bool) → are_near j ≡ b → (if b then Some j else None) ≡ Some k → (Up j ≡ Up k) × (are_near k ≡ true)
    go true c same = let is = same_Some j k same in (ap Up is, subst (λ i. are_near i ≡ true) is c)
    go false c same = absurd (none-some k same)
near_in s k e = absurd (none-some k e)

record IsIn (way : List Frame) (qs : List Spot) (k : Numbers) : Type 0 where
  none : way ≡ []
  one : qs ≡ spot_at 0 (Up k) ∷ []
  near : are_near k ≡ true

is_in : (way : List Frame) (qs : List Spot) (k : Numbers) → session_of way qs ≡ Some k → IsIn way qs k
is_in (x ∷ way) qs k e = absurd (none-some k e)
is_in [] [] k e = absurd (none-some k e)
is_in [] (q ∷ r ∷ qs) k e = absurd (none-some k e)
is_in [] (q ∷ []) k e = go (q.at == 0) refl e
  where
    go : (b : Bool) → (q.at == 0) ≡ b → (if b then near_numbers q.stand else None) ≡ Some k → IsIn [] (q ∷ []) k
    go true at is = record {
      none = refl;
      one = ap (λ n. spot_at n q.stand ∷ []) (eqb-true q.at 0 at) ∙ ap (λ s. spot_at 0 s ∷ []) (near_in q.stand k is).0;
      near = (near_in q.stand k is).1;
    }
    go false at is = absurd (none-some k is)

session_is : (s : LinkSet) (k : Numbers) → session s ≡ Some k → (s ≡ in_session k s) × (are_near k ≡ true)
session_is s k e =
    let is = is_in s.way.items s.spots.items k e in (
      ap (λ w. record s { way = record { items = w } }) is.none
          ∙ ap (λ qs. record s { way = record { items = [] }; spots = record { items = qs } }) is.one,
      is.near,
    )

-- ---- a frame that it sends

-- the next number
next_is : (k : Numbers) (ns nr : ℕ) (differs : Bool) → ns ≡ k.sent % 8 → k.sent < k.acked + 7
    → may_acknowledge (nth k.told nr) k nr ≡ true
    → sends (Up k) [] (Info ns nr differs) ≡ Some (Up (record k { sent = k.sent + 1; told = nth k.told nr }))
next_is k ns nr differs same room heard =
    let t : ℕ = nth k.told nr in
    let itself = eq-eqb k.sent k.sent refl in
    let number : nth (k.sent - 7) ns ≡ k.sent = ap (nth (k.sent - 7)) same ∙ nth_is k.sent k.sent (omega arith) (omega arith) in
    let may = may_number_by k.sent k ns differs (record {
      number = same;
      up_to = omega arith;
      near = omega arith;
      window = room;
      same = ap (λ b. b || not differs) itself;
    }) in
    ap (λ n. counts n t (Up k) (Info ns nr differs)) number
    ∙ ap (λ b. if b then Some (Up (told_to t (numbered k.sent k))) else None)
    (and_from (may_number k.sent k ns differs) (may_acknowledge t k nr) may heard)
    ∙ ap (λ b. Some (Up (told_to t (record k { sent = if b then k.sent + 1 else k.sent })))) itself

record Goes (k next : Numbers) (x : Frame) : Type 0 where
  step : (differs : Bool) → sends (Up k) [] (marked differs x) ≡ Some (Up next)
  sure : are_sure next ≡ true

goes_is : (k next : Numbers) (x : Frame) → are_near k ≡ true → up_sends k x ≡ Some next → Goes k next x
goes_is k next x is e = go x e
  where
    n : AreNear k
    n = near_is k is

    sure_to : (sent t nr : ℕ) → sent ≤ k.sent + 1 → may_acknowledge t k nr ≡ true → are_sure (record k { sent = sent; told = t }) ≡ true
    sure_to sent t nr less heard =
        let a = n.sent in let b = n.acked in let c = n.taken in let d = (acknowledges t k nr heard).taken in
        sure_by (record k { sent = sent; told = t }) (omega (arith, a, less)) (omega (arith, b)) (omega (arith, c)) (omega (arith, c, d))

    ready : (nr : ℕ) (b : Bool) → may_acknowledge (nth k.told nr) k nr ≡ b
        → (if b then Some (record k { told = nth k.told nr }) else None) ≡ Some next → Goes k next (Ready nr)
    ready nr false c e = absurd (none-some next e)
    ready nr true c e = subst (λ j. Goes k j (Ready nr)) (same_Some (record k { told = nth k.told nr }) next e) (record {
      step = λ differs. ap (λ b. if b then Some (Up (record k { told = nth k.told nr })) else None) c;
      sure = sure_to k.sent (nth k.told nr) nr (omega arith) c;
    })

    info : (ns nr : ℕ) (was b : Bool)
        → (ns == k.sent % 8 && (nat_lt k.sent (k.acked + 7) && may_acknowledge (nth k.told nr) k nr)) ≡ b
        → (if b then Some (record k { sent = k.sent + 1; told = nth k.told nr }) else None) ≡ Some next
        → Goes k next (Info ns nr was)
    info ns nr was false c e = absurd (none-some next e)
    info ns nr was true c e =
        let p = and_parts (ns == k.sent % 8) (nat_lt k.sent (k.acked + 7) && may_acknowledge (nth k.told nr) k nr) c in
        let q = and_parts (nat_lt k.sent (k.acked + 7)) (may_acknowledge (nth k.told nr) k nr) p.1 in
        subst (λ j. Goes k j (Info ns nr was)) (same_Some (record k { sent = k.sent + 1; told = nth k.told nr }) next e) (record {
          step = λ differs. next_is k ns nr differs (eqb-true ns (k.sent % 8) p.0) (ltb-true k.sent (k.acked + 7) q.0) q.1;
          sure = sure_to (k.sent + 1) (nth k.told nr) nr (omega arith) q.1;
        })

    go : (x : Frame) → up_sends k x ≡ Some next → Goes k next x
    go (Info ns nr was) e =
        info ns nr was (ns == k.sent % 8 && (nat_lt k.sent (k.acked + 7) && may_acknowledge (nth k.told nr) k nr)) refl e
    go (Ready nr) e = ready nr (may_acknowledge (nth k.told nr) k nr) refl e
    go x e = absurd (none-some next e)

kept_alone : (o : Option Stand) (next : Numbers) → o ≡ Some (Up next) → is_large (Up next) ≡ false
    → first_of o (λ r. settles 0 [] r []) (Some []) ≡ Some (spot_at 0 (Up next) ∷ [])
kept_alone o next e small =
    ap (λ o. first_of o (λ r. settles 0 [] r []) (Some [])) e
    ∙ ap (λ b. kept_by (if b then None else Some (spot_at 0 (Up next))) []) small

walked : (k next : Numbers) (x : Frame) → is_large (Up k) ≡ false → up_sends k x ≡ Some next → Goes k next x → (differs : Bool)
    → walk_all Right (marked differs x) [] (spot_at 0 (Up k) ∷ []) [] ≡ Some (spot_at 0 (Up next) ∷ [])
walked k next x small e goes differs = go x e (goes.step differs)
  where
    by : (x : Frame) → sends (Up k) [] x ≡ Some (Up next)
        → and_then (if is_large (Up k) then None else first_of (sends (Up k) [] x) (λ r. settles 0 [] r []) (Some []))
        (all_of (walks Right x []) []) ≡ Some (spot_at 0 (Up next) ∷ [])
    by x e =
        ap (λ b. and_then (if b then None else first_of (sends (Up k) [] x) (λ r. settles 0 [] r []) (Some [])) (all_of (walks Right x []) [])) small
        ∙ ap (λ o. and_then o (all_of (walks Right x []) [])) (kept_alone (sends (Up k) [] x) next e (not_large next goes.sure))

    go : (x : Frame) → up_sends k x ≡ Some next → sends (Up k) [] (marked differs x) ≡ Some (Up next)
        → walk_all Right (marked differs x) [] (spot_at 0 (Up k) ∷ []) [] ≡ Some (spot_at 0 (Up next) ∷ [])
    go (Info ns nr was) e step = by (Info ns nr differs) step
    go (Ready nr) e step = by (Ready nr) step
    go x e step = absurd (none-some next e)

is_no_ua : (k next : Numbers) (x : Frame) → up_sends k x ≡ Some next → (differs : Bool)
    → record (session_facts k) { is_answering = is_ua (marked differs x) && true } ≡ session_facts k
is_no_ua k next (Info ns nr was) e differs = refl
is_no_ua k next (Ready nr) e differs = refl
is_no_ua k next x e differs = absurd (none-some next e)

pub step_is : (s : LinkSet) (k next : Numbers) (x : Frame) → session s ≡ Some k → up_sends k x ≡ Some next → IsStep x k next s
step_is s k next x is e =
    let at = session_is s k is in
    let sure = near_sure k at.1 in record {
      known = λ differs. ap (facts (marked differs x)) at.0 ∙ facts_as s k (marked differs x) sure ∙ is_no_ua k next x e differs;
      stands = at.0;
      step = λ differs. ap (sends_to (marked differs x)) at.0
          ∙ ap (λ o. sent_to (marked differs x) o (in_session k s))
          (walked k next x (not_large k sure) e (goes_is k next x at.1 e) differs);
    }

-- ---- a frame that comes

heard_sure : (k : Numbers) (nr : ℕ) (b : Bool) → are_near k ≡ true
    → are_sure (record k { acked = nth k.acked nr; taken = if b then k.taken + 1 else k.taken }) ≡ true
heard_sure k nr b h = go b
  where
    n : AreNear k
    n = near_is k h

    go : (b : Bool) → are_sure (record k { acked = nth k.acked nr; taken = if b then k.taken + 1 else k.taken }) ≡ true
    go true =
        let s = n.sent in let a = n.acked in let t = n.taken in let d = n.told in
        sure_by (record k { acked = nth k.acked nr; taken = k.taken + 1 }) (omega (arith, s)) (omega (arith, a)) (omega (arith, t)) (omega (arith, d))
    go false =
        let s = n.sent in let a = n.acked in let t = n.taken in let d = n.told in
        sure_by (record k { acked = nth k.acked nr }) (omega (arith, s)) (omega (arith, a)) (omega (arith, t)) (omega (arith, d))

hears_sure : (k next : Numbers) (x : Frame) → are_near k ≡ true → up_hears k x ≡ Some next → are_sure next ≡ true
hears_sure k next x is e = go x e
  where
    by : (j : Numbers) → are_sure j ≡ true → Some j ≡ Some next → are_sure next ≡ true
    by j sure e = subst (λ i. are_sure i ≡ true) (same_Some j next e) sure

    go : (x : Frame) → up_hears k x ≡ Some next → are_sure next ≡ true
    go (Info ns nr was) e = by (heard true true k (Info ns nr was)) (heard_sure k nr (ns == k.taken % 8) is) e
    go (Ready nr) e = by (heard true true k (Ready nr)) (heard_sure k nr false is) e
    go x e = absurd (none-some next e)

grown_alone : (k next : Numbers) (x : Frame) → is_large (Up k) ≡ false → is_large (Up next) ≡ false → up_hears k x ≡ Some next
    → (differs : Bool) → grow_all 0 (marked differs x ∷ []) (spot_at 0 (Up k) ∷ []) ≡ Some (spot_at 1 (Up next) ∷ [])
grown_alone k next x one two e differs = go x e
  where
    by : (j : Numbers) → Some j ≡ Some next
        → with_first (if is_large (Up k) then None else if is_large (Up j) then None else Some (spot_at 1 (Up j))) (Some [])
        ≡ Some (spot_at 1 (Up next) ∷ [])
    by j e =
        ap (λ b. with_first (if b then None else if is_large (Up j) then None else Some (spot_at 1 (Up j))) (Some [])) one
        ∙ ap (λ i. with_first (if is_large (Up i) then None else Some (spot_at 1 (Up i))) (Some [])) (same_Some j next e)
        ∙ ap (λ b. with_first (if b then None else Some (spot_at 1 (Up next))) (Some [])) two

    go : (x : Frame) → up_hears k x ≡ Some next
        → grow_all 0 (marked differs x ∷ []) (spot_at 0 (Up k) ∷ []) ≡ Some (spot_at 1 (Up next) ∷ [])
    go (Info ns nr was) e = by (heard true true k (Info ns nr was)) e
    go (Ready nr) e = by (heard true true k (Ready nr)) e
    go x e = absurd (none-some next e)

pub taken_is : (s : LinkSet) (k : Numbers) (x : Frame) → session s ≡ Some k → IfSome (up_hears k x) (λ next. IsTaken x next s)
taken_is s k x is = go (up_hears k x) refl
  where
    at : (s ≡ in_session k s) × (are_near k ≡ true)
    at = session_is s k is

    go : (o : Option Numbers) → up_hears k x ≡ o → IfSome o (λ next. IsTaken x next s)
    go None e = tt
    go (Some next) e =
        let sure = hears_sure k next x at.1 e in record {
          there = numbers_are s next sure;
          before = record { numbers = k; stands = at.0 };
          step = λ differs. ap (shows_to (marked differs x)) at.0
              ∙ ap (shown_to (in_session k s) (marked differs x ∷ []))
              (grown_alone k next x (not_large k (near_sure k at.1)) (not_large next sure) e differs);
        }

-- ---- what the code makes of it

-- its place is changed
pub stood : (s : LinkSet) (k : Numbers) (qs : List Spot) → IsInSession s → qs ≡ s.spots.items
    → record s {
      spots = record {
        items = refill (length s.spots.items) s.spots.items
            (set qs 0 (record { stand = Up k; at = (get_or qs 0 (record { stand = Out; at = 0 })).at }));
      };
    } ≡ in_session k s
stood s k qs is same =
    ap (λ (ps : List Spot). record s {
      spots = record {
        items = refill (length s.spots.items) s.spots.items
            (set ps 0 (record { stand = Up k; at = (get_or ps 0 (record { stand = Out; at = 0 })).at }));
      };
    }) same
    ∙ ap (λ (t : LinkSet). record t {
      spots = record {
        items = refill (length t.spots.items) t.spots.items
            (set t.spots.items 0 (record { stand = Up k; at = (get_or t.spots.items 0 (record { stand = Out; at = 0 })).at }));
      };
    }) is.stands
