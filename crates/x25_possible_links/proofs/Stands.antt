-- Which stands of an end may do all that another may.
use Rattle.x25_possible_links.proofs.Names.{◌≡◌, refl, sym, ap, subst, ◌∙◌, Option, Some, None, Bool, true, false, List, ℕ, ◌+◌, ◌-◌, ◌≤◌, ◌<◌, arith, nat_le}
use Rattle.x25_possible_links.proofs.Names.{nat_lt, ◌==◌, ◌&&◌, ◌||◌, not, if◌then◌else◌, both_ways, and_parts, eqb-true, leb-true, ltb-true, lt-ltb, none-some}
use Rattle.x25_possible_links.proofs.Names.{same_Some, cond_some, may_acknowledge, may_number, told_to, counted, may_count, is_asking, has_ua, declines, counts}
use Rattle.x25_possible_links.proofs.Names.{sends_as, heard, number_of, least_of, sends, onward, Frame, Info, Ready, Sabm, Disc, Dm, Frmr, Unread, Numbers}
use Rattle.std.proofs.{Common.{ap₂, ◌%◌}, lemmas.Bool.{and_from, ltb-false, eq-eqb, le-leb}}
use Rattle.x25_possible.specs.Channel.{nth}
use Rattle.x25_possible_links.{proofs.Names.{Stand, Out, Asking, Up, Free}, specs.laws.Link.{sent_to, asks}}

-- the same numbers, but that more was heard and taken, and less was said
pub record AreBelow (k j : Numbers) : Type 0 where
  pub sent : j.sent ≡ k.sent
  pub acked : k.acked ≤ j.acked
  pub taken : k.taken ≤ j.taken
  pub told : j.told ≤ k.told

abbrev pub Below : Stand → Stand → Type 0
Below Out u = Unit {0}
Below Asking Asking = Unit {0}
Below Asking Free = Unit {0}
Below (Up k) (Up j) = AreBelow k j
Below (Up k) Free = Unit {0}
Below Free Free = Unit {0}
Below s u = ⊥

are_below_on : (k j i : Numbers) → AreBelow k j → AreBelow j i → AreBelow k i
are_below_on k j i a b = record {
  sent = b.sent ∙ a.sent;
  acked = omega (arith, a.acked, b.acked);
  taken = omega (arith, a.taken, b.taken);
  told = omega (arith, a.told, b.told);
}

pub below_self : (s : Stand) → Below s s
below_self (Up k) = record { sent = refl; acked = omega arith; taken = omega arith; told = omega arith }
below_self s = tt

pub below_free : (s : Stand) → Below s Free
below_free Out = tt
below_free s = tt

free_below : (s v : Stand) → Below Free v → Below s v
free_below s Free h = below_free s
free_below s v h = absurd h

numbers_on : (k j : Numbers) (v : Stand) → AreBelow k j → Below (Up j) v → Below (Up k) v
numbers_on k j (Up i) a b = are_below_on k j i a b
numbers_on k j Free a b = tt
numbers_on k j v a b = absurd b

pub below_on : (s u v : Stand) → Below s u → Below u v → Below s v
below_on Out u v a b = tt
below_on Asking Asking v a b = b
below_on Asking Free v a b = free_below Asking v b
below_on (Up k) (Up j) v a b = numbers_on k j v a b
below_on (Up k) Free v a b = free_below (Up k) v b
below_on Free Free v a b = b
below_on _ _ v a b = absurd a

-- ---- numbers

nth_from : (low n : ℕ) → low ≤ nth low n
nth_from low n = omega arith

nth_more : (a b n : ℕ) → a ≤ b → nth a n ≤ nth b n
nth_more a b n h = omega (arith, h)

nth_least : (low t : ℕ) → low ≤ t → nth low (t % 8) ≤ t
nth_least low t h = omega arith

nth_mod : (low t : ℕ) → nth low (t % 8) % 8 ≡ t % 8
nth_mod low t = omega arith

-- an N(S) stands for one number
pub nth_is : (sent n : ℕ) → n ≤ sent → sent ≤ n + 7 → nth (sent - 7) (n % 8) ≡ n
nth_is sent n h g = omega (arith, h, g)

-- ---- what it makes of what comes

taken_later : (p q : Bool) (a b : ℕ) → a < b → (if p then a + 1 else a) ≤ (if q then b + 1 else b)
taken_later true true a b h = omega (arith, h)
taken_later true false a b h = omega (arith, h)
taken_later false true a b h = omega (arith, h)
taken_later false false a b h = omega (arith, h)

taken_same : (t q : Bool) (a : ℕ) → (if t && q then a + 1 else a) ≤ (if q then a + 1 else a)
taken_same true true a = omega arith
taken_same true false a = omega arith
taken_same false true a = omega arith
taken_same false false a = omega arith

taken_more : (t : Bool) (ns a b : ℕ) → a ≤ b
    → (if t && ns == a % 8 then a + 1 else a) ≤ (if ns == b % 8 then b + 1 else b)
taken_more t ns a b h = go (nat_lt a b) refl
  where
    go : (c : Bool) → nat_lt a b ≡ c → (if t && ns == a % 8 then a + 1 else a) ≤ (if ns == b % 8 then b + 1 else b)
    go true e = taken_later (t && ns == a % 8) (ns == b % 8) a b (ltb-true a b e)
    go false e =
        let far : b ≤ a = ltb-false a b e in
        let same : a ≡ b = omega (arith, far, h) in
        subst (λ c. (if t && ns == a % 8 then a + 1 else a) ≤ (if ns == c % 8 then c + 1 else c)) same
        (taken_same t (ns == a % 8) a)

heard_more : (h : Bool) (a b nr : ℕ) → a ≤ b → (if h then nth a nr else a) ≤ nth b nr
heard_more true a b nr less = nth_more a b nr less
heard_more false a b nr less = let up = nth_from b nr in omega (arith, less, up)

seven_more : (h : Bool) (a b : ℕ) → a ≤ b → (if h then a + 7 else a) ≤ b + 7
seven_more true a b less = omega (arith, less)
seven_more false a b less = omega (arith, less)

one_more : (t : Bool) (a b : ℕ) → a ≤ b → (if t then a + 1 else a) ≤ b + 1
one_more true a b less = omega (arith, less)
one_more false a b less = omega (arith, less)

-- to hear and take all is the best
pub heard_below : (h t : Bool) (k j : Numbers) (x : Frame) → AreBelow k j → AreBelow (heard h t k x) (heard true true j x)
heard_below h t k j (Info ns nr differs) b = record {
  sent = b.sent;
  acked = heard_more h k.acked j.acked nr b.acked;
  taken = taken_more t ns k.taken j.taken b.taken;
  told = b.told;
}
heard_below h t k j (Ready nr) b =
    record { sent = b.sent; acked = heard_more h k.acked j.acked nr b.acked; taken = b.taken; told = b.told }
heard_below h t k j Unread b = record {
  sent = b.sent;
  acked = seven_more h k.acked j.acked b.acked;
  taken = one_more t k.taken j.taken b.taken;
  told = b.told;
}
heard_below h t k j x b = b

pub heard_none : (k : Numbers) (x : Frame) → heard false false k x ≡ k
heard_none k (Info ns nr differs) = refl
heard_none k x = refl

pub onward_up : (s : Stand) (x : Frame) → Below s (onward s x)
onward_up (Up k) x =
    subst (λ j. AreBelow j (heard true true k x)) (heard_none k x) (heard_below false false k k x (below_self (Up k)))
onward_up s x = tt

pub onward_both : (s u : Stand) (x : Frame) → Below s u → Below (onward s x) (onward u x)
onward_both Out u x b = tt
onward_both Asking Asking x b = tt
onward_both Asking Free x b = tt
onward_both (Up k) (Up j) x b = heard_below true true k j x b
onward_both (Up k) Free x b = tt
onward_both Free Free x b = tt
onward_both _ _ x b = absurd b

pub below_onward : (s u : Stand) (x : Frame) → Below s u → Below s (onward u x)
below_onward s u x b = below_on s u (onward u x) b (onward_up u x)

-- ---- what it sends

pub record Acknowledges (t : ℕ) (k : Numbers) (nr : ℕ) : Type 0 where
  pub number : nr ≡ t % 8
  pub rising : k.told ≤ t
  pub taken : t ≤ k.taken

pub acknowledges : (t : ℕ) (k : Numbers) (nr : ℕ) → may_acknowledge t k nr ≡ true → Acknowledges t k nr
acknowledges t k nr h =
    let a = and_parts (nr == t % 8) (nat_le k.told t && nat_le t k.taken) h in
    let b = and_parts (nat_le k.told t) (nat_le t k.taken) a.1 in
    record { number = eqb-true nr (t % 8) a.0; rising = leb-true k.told t b.0; taken = leb-true t k.taken b.1 }

may_acknowledge_by : (t : ℕ) (k : Numbers) (nr : ℕ) → Acknowledges t k nr → may_acknowledge t k nr ≡ true
may_acknowledge_by t k nr h =
    and_from (nr == t % 8) (nat_le k.told t && nat_le t k.taken) (eq-eqb nr (t % 8) h.number)
    (and_from (nat_le k.told t) (nat_le t k.taken) (le-leb k.told t h.rising) (le-leb t k.taken h.taken))

-- by the least number that it may stand for
pub least_is : (t nr : ℕ) (k j : Numbers) → j.told ≤ k.told → Acknowledges t k nr → nth j.told nr ≤ t
least_is t nr k j less h =
    let up : j.told ≤ t = let r = h.rising in omega (arith, less, r) in
    subst (λ n. nth j.told n ≤ t) (sym h.number) (nth_least j.told t up)

acknowledges_more : (t nr : ℕ) (k j : Numbers) → AreBelow k j → Acknowledges t k nr
    → may_acknowledge (nth j.told nr) j nr ≡ true
acknowledges_more t nr k j b h =
    let least = least_is t nr k j b.told h in
    let same : nth j.told nr % 8 ≡ nr = subst (λ n. nth j.told n % 8 ≡ n) (sym h.number) (nth_mod j.told t) in
    may_acknowledge_by (nth j.told nr) j nr (record {
      number = sym same;
      rising = nth_from j.told nr;
      taken = let u = h.taken in let v = b.taken in omega (arith, least, u, v);
    })

pub record IsNumbered (n : ℕ) (k : Numbers) (ns : ℕ) (differs : Bool) : Type 0 where
  pub number : ns ≡ n % 8
  pub up_to : n ≤ k.sent
  pub near : k.sent ≤ n + 7
  pub window : n < k.acked + 7
  pub same : (n == k.sent || not differs) ≡ true

pub is_numbered : (n : ℕ) (k : Numbers) (ns : ℕ) (differs : Bool) → may_number n k ns differs ≡ true → IsNumbered n k ns differs
is_numbered n k ns d h =
    let a = and_parts (ns == n % 8) (nat_le n k.sent && (nat_le k.sent (n + 7) && (nat_lt n (k.acked + 7) && (n == k.sent || not d)))) h in
    let b = and_parts (nat_le n k.sent) (nat_le k.sent (n + 7) && (nat_lt n (k.acked + 7) && (n == k.sent || not d))) a.1 in
    let c = and_parts (nat_le k.sent (n + 7)) (nat_lt n (k.acked + 7) && (n == k.sent || not d)) b.1 in
    let e = and_parts (nat_lt n (k.acked + 7)) (n == k.sent || not d) c.1 in
    record {
      number = eqb-true ns (n % 8) a.0;
      up_to = leb-true n k.sent b.0;
      near = leb-true k.sent (n + 7) c.0;
      window = ltb-true n (k.acked + 7) e.0;
      same = e.1;
    }

pub may_number_by : (n : ℕ) (k : Numbers) (ns : ℕ) (differs : Bool) → IsNumbered n k ns differs → may_number n k ns differs ≡ true
may_number_by n k ns d h =
    and_from (ns == n % 8) (nat_le n k.sent && (nat_le k.sent (n + 7) && (nat_lt n (k.acked + 7) && (n == k.sent || not d))))
    (eq-eqb ns (n % 8) h.number)
    (and_from (nat_le n k.sent) (nat_le k.sent (n + 7) && (nat_lt n (k.acked + 7) && (n == k.sent || not d)))
    (le-leb n k.sent h.up_to)
    (and_from (nat_le k.sent (n + 7)) (nat_lt n (k.acked + 7) && (n == k.sent || not d)) (le-leb k.sent (n + 7) h.near)
    (and_from (nat_lt n (k.acked + 7)) (n == k.sent || not d) (lt-ltb n (k.acked + 7) h.window) h.same)))

-- an N(S) stands for the one number that it may
pub number_is : (n : ℕ) (k j : Numbers) (ns : ℕ) (differs : Bool) → j.sent ≡ k.sent → IsNumbered n k ns differs → nth (j.sent - 7) ns ≡ n
number_is n k j ns d same h =
    ap (λ m. nth (m - 7) ns) same ∙ ap (nth (k.sent - 7)) h.number ∙ nth_is k.sent n h.up_to h.near

number_more : (n : ℕ) (k j : Numbers) (ns : ℕ) (differs : Bool) → AreBelow k j → IsNumbered n k ns differs
    → may_number (nth (j.sent - 7) ns) j ns differs ≡ true
number_more n k j ns d b h =
    subst (λ m. may_number m j ns d ≡ true) (sym (number_is n k j ns d b.sent h))
    (may_number_by n j ns d (record {
      number = h.number;
      up_to = subst (λ m. n ≤ m) (sym b.sent) h.up_to;
      near = subst (λ m. m ≤ n + 7) (sym b.sent) h.near;
      window = let u = h.window in let v = b.acked in omega (arith, u, v);
      same = subst (λ m. (n == m || not d) ≡ true) (sym b.sent) h.same;
    }))

one_after : ℕ → ℕ → ℕ
one_after n sent = if n == sent then sent + 1 else sent

counted_below : (n t m u : ℕ) (k j : Numbers) → AreBelow k j → m ≡ n → u ≤ t
    → AreBelow (told_to t (sent_to n k)) (told_to u (sent_to m j))
unfolding one_after
counted_below n t m u k j b e less = record {
  sent = ap₂ one_after e b.sent;
  acked = b.acked;
  taken = b.taken;
  told = less;
}

-- Where an end may send a frame, one with as much or more may.
abbrev pub SendsToo : Option Stand → Stand → Type 0
SendsToo o r = (v : Stand) × (o ≡ Some v) × Below r v

holds_then : (b : Bool) (s : Stand) → b ≡ true → (if b then Some s else None) ≡ Some s
holds_then b s e = ap (λ c. if c then Some s else None) e

counts_by : (b : Bool) (k j : Numbers) (r : Stand) (o : Option Stand) → (if b then Some (Up k) else None) ≡ Some r
    → (b ≡ true → (o ≡ Some (Up j)) × AreBelow k j) → SendsToo o r
counts_by b k j r o h more =
    let parts = cond_some b (Up k) r h in
    let g = more parts.0 in
    (Up j, g.0, subst (λ s. Below s (Up j)) parts.1 g.1)

info_more : (n t ns nr : ℕ) (d : Bool) (k j : Numbers) → AreBelow k j → may_count n t k (Info ns nr d) ≡ true
    → (counts (number_of (Up j) (Info ns nr d)) (least_of (Up j) (Info ns nr d)) (Up j) (Info ns nr d)
    ≡ Some (Up (counted (nth (j.sent - 7) ns) (nth j.told nr) j (Info ns nr d))))
    × AreBelow (counted n t k (Info ns nr d)) (counted (nth (j.sent - 7) ns) (nth j.told nr) j (Info ns nr d))
info_more n t ns nr d k j b h =
    let parts = and_parts (may_number n k ns d) (may_acknowledge t k nr) h in
    let is = is_numbered n k ns d parts.0 in
    let says = acknowledges t k nr parts.1 in (
      holds_then (may_count (nth (j.sent - 7) ns) (nth j.told nr) j (Info ns nr d))
          (Up (counted (nth (j.sent - 7) ns) (nth j.told nr) j (Info ns nr d)))
          (and_from (may_number (nth (j.sent - 7) ns) j ns d) (may_acknowledge (nth j.told nr) j nr) (number_more n k j ns d b is)
          (acknowledges_more t nr k j b says)),
      counted_below n t (nth (j.sent - 7) ns) (nth j.told nr) k j b (number_is n k j ns d b.sent is) (least_is t nr k j b.told says),
    )

ready_more : (n t nr : ℕ) (k j : Numbers) → AreBelow k j → may_count n t k (Ready nr) ≡ true
    → (counts 0 (nth j.told nr) (Up j) (Ready nr) ≡ Some (Up (told_to (nth j.told nr) j)))
    × AreBelow (told_to t k) (told_to (nth j.told nr) j)
ready_more n t nr k j b h =
    let says = acknowledges t k nr h in (
      holds_then (may_acknowledge (nth j.told nr) j nr) (Up (told_to (nth j.told nr) j)) (acknowledges_more t nr k j b says),
      record { sent = b.sent; acked = b.acked; taken = b.taken; told = least_is t nr k j b.told says },
    )

unread_more : (n t : ℕ) (k j : Numbers) → AreBelow k j → may_count n t k Unread ≡ true
    → (counts 0 0 (Up j) Unread ≡ Some (Up (record j { sent = j.sent + 1 })))
    × AreBelow (record k { sent = k.sent + 1 }) (record j { sent = j.sent + 1 })
unread_more n t k j b h =
    let less = ltb-true k.sent (k.acked + 7) h in
    let same = b.sent in
    let more = b.acked in (
      holds_then (nat_lt j.sent (j.acked + 7)) (Up (record j { sent = j.sent + 1 }))
          (lt-ltb j.sent (j.acked + 7) (omega (arith, less, same, more))),
      record { sent = ap (λ m. m + 1) same; acked = b.acked; taken = b.taken; told = b.told },
    )

pub counts_more : (n t : ℕ) (s u : Stand) (x : Frame) (r : Stand) → Below s u → counts n t s x ≡ Some r
    → SendsToo (counts (number_of u x) (least_of u x) u x) r
counts_more n t Out u x r b h = absurd (none-some r h)
counts_more n t Asking u x r b h = absurd (none-some r h)
counts_more n t (Up k) Free x r b h = (Free, refl, below_free r)
counts_more n t Free Free x r b h = (Free, refl, below_free r)
counts_more n t (Up k) (Up j) (Info ns nr d) r b h =
    counts_by (may_count n t k (Info ns nr d)) (counted n t k (Info ns nr d))
    (counted (nth (j.sent - 7) ns) (nth j.told nr) j (Info ns nr d)) r _ h (info_more n t ns nr d k j b)
counts_more n t (Up k) (Up j) (Ready nr) r b h =
    counts_by (may_count n t k (Ready nr)) (told_to t k) (told_to (nth j.told nr) j) r _ h (ready_more n t nr k j b)
counts_more n t (Up k) (Up j) Unread r b h =
    counts_by (may_count n t k Unread) (record k { sent = k.sent + 1 }) (record j { sent = j.sent + 1 }) r _ h (unread_more n t k j b)
counts_more n t (Up k) (Up j) x r b h = absurd (none-some r h)
counts_more n t _ _ x r b h = absurd b

asking_too : (s u : Stand) → Below s u → is_asking s ≡ true → is_asking u ≡ true
asking_too Asking Asking b h = refl
asking_too s Free b h = refl
asking_too Asking _ b h = absurd b
asking_too Free _ b h = absurd b
asking_too s u b h = absurd (both_ways false refl h)

asks_by : (a c q : Bool) → (a ≡ true → c ≡ true) → (a || q) ≡ true → (c || q) ≡ true
asks_by true c q more h = ap (λ e. e || q) (more refl)
asks_by false true q more h = refl
asks_by false false q more h = h

asks_more : (s u : Stand) (way : List Frame) (r : Stand) → Below s u → asks s way ≡ Some r → SendsToo (asks u way) r
asks_more s u way r b h =
    let parts = cond_some (is_asking s || not (has_ua way)) Asking r h in (
      Asking,
      holds_then (is_asking u || not (has_ua way)) Asking
          (asks_by (is_asking s) (is_asking u) (not (has_ua way)) (asking_too s u b) parts.0),
      subst (λ v. Below v Asking) parts.1 tt,
    )

pub declines_both : (s u : Stand) → Below s u → Below (declines s) (declines u)
declines_both Out u b = tt
declines_both Asking Asking b = tt
declines_both Asking Free b = tt
declines_both (Up k) u b = tt
declines_both Free Free b = tt
declines_both _ _ b = absurd b

same_too : (v w r : Stand) → Below v w → Some v ≡ Some r → SendsToo (Some w) r
same_too v w r b h = (w, refl, subst (λ c. Below c w) (same_Some v r h) b)

pub sends_more : (n t : ℕ) (s u : Stand) (way : List Frame) (x : Frame) (r : Stand) → Below s u → sends_as n t s way x ≡ Some r
    → SendsToo (sends u way x) r
sends_more n t s u way (Info ns nr d) r b h = counts_more n t s u (Info ns nr d) r b h
sends_more n t s u way (Ready nr) r b h = counts_more n t s u (Ready nr) r b h
sends_more n t s u way Unread r b h = counts_more n t s u Unread r b h
sends_more n t s u way Sabm r b h = asks_more s u way r b h
sends_more n t s u way Disc r b h = same_too Out Out r tt h
sends_more n t s u way Dm r b h = same_too (declines s) (declines u) r (declines_both s u b) h
sends_more n t s u way Frmr r b h = same_too Out Out r tt h
sends_more n t s u way x r b h = absurd (none-some r h)
