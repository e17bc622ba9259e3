-- Two ends that keep the rules for numbers have those with which they are taken up.
use Rattle.std.proofs.Common.{◌≡◌, ◌⊎◌, inl, inr, ℕ, ◌+◌, ◌-◌, ◌%◌, ◌≤◌, ◌<◌, ◌==◌, arith, Bool, true, false, List, [], ◌∷◌, ◌++◌, refl, sym, ap, ◌∙◌, subst}
use Rattle.std.proofs.Common.{eq-eqb, if◌then◌else◌, ◌&&◌, nat_lt}
use Rattle.std.specs.Prelude.{nat_le}
use Rattle.std.proofs.lemmas.Bool.{and_parts, both_ways, cond_both, eqb-true, leb-true, ltb-true}
use Rattle.std.proofs.lemmas.Bool.Decides.{nat_tests}
use Rattle.x25_judge.specs.Midst.{after, are_acknowledged, are_known, numbers, numbers_in, sends}
use Rattle.x25_judge.specs.declared.{midst.Watch.{Watch}, midst.Watch.TheVariants.{Unseen, Numbers as Row, Over}}
use Rattle.x25_judge.specs.laws.Midst.{Side, MayRun, Begins, Swaps, Forgets, Counts, Tells, Comes, IsFound, NumbersAreFound, LinksAreTakenUp, goes_from, goes_to, unseen}
use Rattle.x25_judge.proofs.verdicts.Tapes.{found_on}
use Rattle.x25_packet_judge.specs.Numbers.{apart}
use Rattle.x25_possible.specs.Channel.{nth}
use Rattle.x25_possible_links.specs.declared.{frame.Frame.{Frame}, frame.Frame.TheVariants.{Info, Ready}, stand.Numbers.{Numbers}}
use Rattle.x25_possible_links.specs.laws.Link.{heard, may_acknowledge, may_number, sent_to, told_to}

-- ---- what is on the way: whole numbers that don't fall, from one that is had to one that was sent

abbrev Rising : (Frame → ℕ → Type 0) → List Frame → ℕ → ℕ → Type 0
Rising P [] low high = low ≤ high
Rising P (x ∷ way) low high = (m : ℕ) × (low ≤ m) × P x m × Rising P way m high

module _ (P : Frame → ℕ → Type 0) where
  rising_down : (way : List Frame) (low less high : ℕ) → less ≤ low → Rising P way low high → Rising P way less high
  rising_down [] low less high down h = omega (arith, down, h)
  rising_down (x ∷ way) low less high down h = let e = h.1 in (h.0, omega (arith, down, e), h.2, h.3)

  rising_on : (way : List Frame) (x : Frame) (low high next : ℕ) → high ≤ next → P x next → Rising P way low high → Rising P (way ++ x ∷ []) low next
  rising_on [] x low high next up is h = (next, omega (arith, up, h), is, omega arith)
  rising_on (y ∷ way) x low high next up is h = (h.0, h.1, h.2, rising_on way x h.0 high next up is h.3)

  rising_all : (way : List Frame) (low high : ℕ) → Rising P way low high → low ≤ high
  rising_all [] low high h = h
  rising_all (x ∷ way) low high h = let e = h.1 in let f = rising_all way h.0 high h.3 in omega (arith, e, f)

-- N(R)
abbrev HeardAs : Frame → ℕ → Type 0
HeardAs (Info ns nr d) t = nr ≡ t % 8
HeardAs (Ready nr) t = nr ≡ t % 8
HeardAs x t = ⊥

-- N(S), and how many were sent then
abbrev SentAs : Frame → ℕ → Type 0
SentAs (Info ns nr d) m = (n : ℕ) × (ns ≡ n % 8) × (n + 1 ≤ m) × (m ≤ n + 7)
SentAs (Ready nr) m = Unit {0}
SentAs x m = ⊥

-- ---- what is watched

-- the row ends in a whole number, which is V(S) where it is long
record InRow (run next sent : ℕ) : Type 0 where
  pub end : ℕ
  pub is : next ≡ end % 8
  pub low : end ≤ sent
  pub near : (sent + run ≤ end + 7) ⊎ (end ≡ sent)

abbrev IsWatched : Watch → ℕ → ℕ → Type 0
IsWatched (Row run next told) sent last = InRow run next sent × (told ≡ last % 8)
IsWatched w sent last = Unit {0}

abbrev sent_on : ℕ → ℕ → ℕ
sent_on n sent = if n == sent then sent + 1 else sent

-- a row of one
anew : (n sent ns : ℕ) → n ≤ sent → sent ≤ n + 7 → ns ≡ n % 8 → InRow 1 (after ns) (sent_on n sent)
anew n sent ns low near is = record {
  end = n + 1;
  is = omega (arith, is);
  low = cond_both (n == sent) (sent + 1) sent (λ m. n + 1 ≤ m) (λ e. let f = eqb-true n sent e in omega (arith, f))
      (λ e. grind (arith, nat_tests, e, low));
  near = inl (cond_both (n == sent) (sent + 1) sent (λ m. m + 1 ≤ n + 1 + 7) (λ e. let f = eqb-true n sent e in omega (arith, f))
      (λ e. omega (arith, near)));
}

-- it goes on with its next number
module _ (n sent ns run next : ℕ) (low : n ≤ sent) (near : sent ≤ n + 7) (is : ns ≡ n % 8) (h : InRow run next sent) where
  -- a number is had once among the last eight
  ends_there : ns ≡ next → n ≡ h.end
  ends_there same = go h.near
    where
      go : (sent + run ≤ h.end + 7) ⊎ (h.end ≡ sent) → n ≡ h.end
      go (inl e) = let a = h.is in let b = h.low in omega (arith, a, b, e, is, same, low, near)
      go (inr e) = let a = h.is in omega (arith, a, e, is, same, low, near)

  longer_to : (more : ℕ) → more ≤ run + 1 → ns ≡ next → InRow more (after ns) (sent_on n sent)
  longer_to more most same = record {
    end = n + 1;
    is = omega (arith, is);
    low = cond_both (n == sent) (sent + 1) sent (λ m. n + 1 ≤ m) (λ e. let f = eqb-true n sent e in omega (arith, f))
        (λ e. grind (arith, nat_tests, e, low));
    near = cond_both (n == sent) (sent + 1) sent (λ m. (m + more ≤ n + 1 + 7) ⊎ (n + 1 ≡ m)) (λ e. inr (let f = eqb-true n sent e in omega (arith, f)))
        (λ e. go e h.near);
  }
    where
      go : (n == sent) ≡ false → (sent + run ≤ h.end + 7) ⊎ (h.end ≡ sent) → (sent + more ≤ n + 1 + 7) ⊎ (n + 1 ≡ sent)
      go not_last (inl e) = let a = ends_there same in inl (omega (arith, a, e, most))
      go not_last (inr e) = let a = ends_there same in absurd (both_ways (n == sent) not_last (eq-eqb n sent (a ∙ e)))

  longer : ns ≡ next → InRow (if nat_lt run 15 then run + 1 else run) (after ns) (sent_on n sent)
  longer same =
      cond_both (nat_lt run 15) (run + 1) run (λ m. InRow m (after ns) (sent_on n sent)) (λ _. longer_to (run + 1) (omega arith) same)
      (λ _. longer_to run (omega arith) same)

  -- V(S) is its end
  is_end : 7 ≤ run → h.end ≡ sent
  is_end long = go h.near
    where
      go : (sent + run ≤ h.end + 7) ⊎ (h.end ≡ sent) → h.end ≡ sent
      go (inl e) = let b = h.low in omega (arith, b, e, long)
      go (inr e) = e

  -- another number goes again
  again : 7 ≤ run → (ns == next) ≡ false → InRow run next (sent_on n sent)
  again long other =
      subst (InRow run next) (sym (cond_both (n == sent) (sent + 1) sent (λ m. m ≡ sent)
      (λ e. absurd (both_ways (ns == next) other (eq-eqb ns next (is ∙ (ap (λ m. m % 8) (eqb-true n sent e ∙ sym (is_end long)) ∙ sym h.is)))))
      (λ _. refl))) h

-- ---- what an end sends

acknowledges_on : (w : Watch) (sent last nr t : ℕ) → nr ≡ t % 8 → IsWatched w sent last → IsWatched (sends (Ready nr) w) sent t
acknowledges_on Unseen sent last nr t is h =
    (record { end = sent - sent % 8; is = omega arith; low = omega arith; near = inl (omega arith) }, is)
acknowledges_on (Row run next told) sent last nr t is h = (h.0, is)
acknowledges_on Over sent last nr t is h = tt

counts_on : (w : Watch) (sent last n t ns nr : ℕ) (d : Bool) → n ≤ sent → sent ≤ n + 7 → ns ≡ n % 8 → nr ≡ t % 8 → IsWatched w sent last
    → IsWatched (sends (Info ns nr d) w) (sent_on n sent) t
counts_on Unseen sent last n t ns nr d low near is told h = (anew n sent ns low near is, told)
counts_on (Row run next was) sent last n t ns nr d low near is told h =
    cond_both (ns == next) (Row (if nat_lt run 15 then run + 1 else run) (after ns) nr) (if nat_le 7 run then Row run next nr else Row 1 (after ns) nr)
    (λ w. IsWatched w (sent_on n sent) t) (λ e. (longer n sent ns run next low near is h.0 (eqb-true ns next e), told))
    (λ other. cond_both (nat_le 7 run) (Row run next nr) (Row 1 (after ns) nr) (λ w. IsWatched w (sent_on n sent) t)
    (λ e. (again n sent ns run next low near is h.0 (leb-true 7 run e) other, told)) (λ _. (anew n sent ns low near is, told)))
counts_on Over sent last n t ns nr d low near is told h = tt

-- ---- both ends

-- what the first sends, and what comes of it to the second
record Flows (a b : Side) : Type 0 where
  pub told : a.numbers.told ≤ a.numbers.taken
  pub heard : Rising HeardAs b.way b.numbers.acked a.numbers.told
  pub taken : Rising SentAs b.way b.numbers.taken a.numbers.sent
  pub window : a.numbers.sent ≤ a.numbers.acked + 7
  pub watched : IsWatched a.watch a.numbers.sent a.numbers.told

record Counted (k : Numbers) (ns n : ℕ) : Type 0 where
  pub number : ns ≡ n % 8
  pub low : n ≤ k.sent
  pub near : k.sent ≤ n + 7
  pub window : n < k.acked + 7

counted_by : (k : Numbers) (ns n : ℕ) (d : Bool) → may_number n k ns d ≡ true → Counted k ns n
counted_by k ns n d h =
    let a = and_parts (ns == n % 8) _ h in
    let b = and_parts (nat_le n k.sent) _ a.1 in
    let c = and_parts (nat_le k.sent (n + 7)) _ b.1 in
    let e = and_parts (nat_lt n (k.acked + 7)) _ c.1 in
    record { number = eqb-true ns (n % 8) a.0; low = leb-true n k.sent b.0; near = leb-true k.sent (n + 7) c.0; window = ltb-true n (k.acked + 7) e.0 }

record Told (k : Numbers) (nr t : ℕ) : Type 0 where
  pub number : nr ≡ t % 8
  pub rising : k.told ≤ t
  pub most : t ≤ k.taken

told_by : (k : Numbers) (nr t : ℕ) → may_acknowledge t k nr ≡ true → Told k nr t
told_by k nr t h =
    let a = and_parts (nr == t % 8) _ h in
    let b = and_parts (nat_le k.told t) _ a.1 in
    record { number = eqb-true nr (t % 8) a.0; rising = leb-true k.told t b.0; most = leb-true t k.taken b.1 }

sent_more : (n sent : ℕ) → sent ≤ sent_on n sent
sent_more n sent = cond_both (n == sent) (sent + 1) sent (λ m. sent ≤ m) (λ _. omega arith) (λ _. omega arith)

number_sent : (n sent : ℕ) → n ≤ sent → sent ≤ n + 7 → (n + 1 ≤ sent_on n sent) × (sent_on n sent ≤ n + 7)
number_sent n sent low near =
    cond_both (n == sent) (sent + 1) sent (λ m. (n + 1 ≤ m) × (m ≤ n + 7)) (λ e. let f = eqb-true n sent e in (omega (arith, f), omega (arith, f)))
    (λ e. (grind (arith, nat_tests, e, low), near))

in_window : (n sent acked : ℕ) → n < acked + 7 → sent ≤ acked + 7 → sent_on n sent ≤ acked + 7
in_window n sent acked h g =
    cond_both (n == sent) (sent + 1) sent (λ m. m ≤ acked + 7) (λ e. let f = eqb-true n sent e in omega (arith, f, h)) (λ _. g)

counts_flows : (a b : Side) (n t ns nr : ℕ) (d : Bool) → Counted a.numbers ns n → Told a.numbers nr t → Flows a b
    → Flows (goes_from (told_to t (sent_to n a.numbers)) (Info ns nr d) a) (goes_to (Info ns nr d) b)
counts_flows a b n t ns nr d c e h =
    let m = number_sent n a.numbers.sent c.low c.near in record {
      told = e.most;
      heard = rising_on HeardAs b.way (Info ns nr d) b.numbers.acked a.numbers.told t e.rising e.number h.heard;
      taken = rising_on SentAs b.way (Info ns nr d) b.numbers.taken a.numbers.sent (sent_on n a.numbers.sent) (sent_more n a.numbers.sent)
          (n, c.number, m.0, m.1) h.taken;
      window = in_window n a.numbers.sent a.numbers.acked c.window h.window;
      watched = counts_on a.watch a.numbers.sent a.numbers.told n t ns nr d c.low c.near c.number e.number h.watched;
    }

tells_flows : (a b : Side) (t nr : ℕ) → Told a.numbers nr t → Flows a b → Flows (goes_from (told_to t a.numbers) (Ready nr) a) (goes_to (Ready nr) b)
tells_flows a b t nr e h = record {
  told = e.most;
  heard = rising_on HeardAs b.way (Ready nr) b.numbers.acked a.numbers.told t e.rising e.number h.heard;
  taken = rising_on SentAs b.way (Ready nr) b.numbers.taken a.numbers.sent a.numbers.sent (omega arith) tt h.taken;
  window = h.window;
  watched = acknowledges_on a.watch a.numbers.sent a.numbers.told nr t e.number h.watched;
}

-- ---- what comes

acked_by : (hears : Bool) (low nr t : ℕ) → low ≤ t → nr ≡ t % 8 → ((if hears then nth low nr else low) ≤ t) × (low ≤ (if hears then nth low nr else low))
acked_by true low nr t h is = (omega (arith, h, is), omega arith)
acked_by false low nr t h is = (h, omega arith)

-- a packet is taken that was sent
taken_by : (b : Bool) (low ns n m : ℕ) → low ≤ m → ns ≡ n % 8 → n + 1 ≤ m → m ≤ n + 7 → m ≤ low + 7 → (b ≡ true → ns ≡ low % 8)
    → ((if b then low + 1 else low) ≤ m) × (low ≤ (if b then low + 1 else low))
taken_by true low ns n m h is one near most wanted = let w = wanted refl in (omega (arith, h, is, one, near, most, w), omega arith)
taken_by false low ns n m h is one near most wanted = (h, omega arith)

wanted_by : (takes : Bool) (ns taken : ℕ) → (takes && ns == taken % 8) ≡ true → ns ≡ taken % 8
wanted_by takes ns taken e = eqb-true ns (taken % 8) (and_parts takes (ns == taken % 8) e).1

record Came (k next : Numbers) (t m : ℕ) : Type 0 where
  pub sent : next.sent ≡ k.sent
  pub last : next.told ≡ k.told
  pub acked : next.acked ≤ t
  pub hears : k.acked ≤ next.acked
  pub taken : next.taken ≤ m
  pub takes : k.taken ≤ next.taken

came : (k : Numbers) (x : Frame) (hears takes : Bool) (t m : ℕ) → k.acked ≤ t → HeardAs x t → k.taken ≤ m → SentAs x m → m ≤ k.taken + 7
    → Came k (heard hears takes k x) t m
came k (Info ns nr d) hears takes t m low is least s most =
    let a = acked_by hears k.acked nr t low is in
    let b = taken_by (takes && ns == k.taken % 8) k.taken ns s.0 m least s.1 s.2 s.3 most (wanted_by takes ns k.taken) in
    record { sent = refl; last = refl; acked = a.0; hears = a.1; taken = b.0; takes = b.1 }
came k (Ready nr) hears takes t m low is least s most =
    let a = acked_by hears k.acked nr t low is in
    record { sent = refl; last = refl; acked = a.0; hears = a.1; taken = least; takes = omega arith }
came k x hears takes t m low is least s most = absurd is

record Both (a b : Side) : Type 0 where
  pub there : Flows a b
  pub back : Flows b a

-- no more is sent than is acknowledged by the other end, and seven
within : (a b : Side) → Both a b → (b.numbers.sent ≤ a.numbers.told + 7) × (b.numbers.sent ≤ a.numbers.taken + 7)
within a b h =
    let w = h.back.window in
    let t = rising_all HeardAs b.way b.numbers.acked a.numbers.told h.there.heard in
    let l = h.there.told in
    (omega (arith, w, t), omega (arith, w, t, l))

comes_both : (a b : Side) (x : Frame) (way : List Frame) (hears takes : Bool) → a.way ≡ x ∷ way → Both a b
    → Both (record a { numbers = heard hears takes a.numbers x; way = way }) b
comes_both a b x way hears takes is h = record {
  there = record {
    told = let e = h.there.told in let l = c.last in let g = c.takes in omega (arith, e, l, g);
    heard = subst (λ m. Rising HeardAs b.way b.numbers.acked m) (sym c.last) h.there.heard;
    taken = subst (λ m. Rising SentAs b.way b.numbers.taken m) (sym c.sent) h.there.taken;
    window = let e = h.there.window in let s = c.sent in let g = c.hears in omega (arith, e, s, g);
    watched = subst (λ m. IsWatched a.watch m next.told) (sym c.sent) (subst (λ t. IsWatched a.watch a.numbers.sent t) (sym c.last) h.there.watched);
  };
  back = record {
    told = h.back.told;
    heard = rising_down HeardAs way t.0 next.acked b.numbers.told c.acked t.3;
    taken = rising_down SentAs way m.0 next.taken b.numbers.sent c.taken m.3;
    window = h.back.window;
    watched = h.back.watched;
  };
}
  where
    next : Numbers
    next = heard hears takes a.numbers x

    t : Rising HeardAs (x ∷ way) a.numbers.acked b.numbers.told
    t = subst (λ (w : List Frame). Rising HeardAs w a.numbers.acked b.numbers.told) is h.back.heard

    m : Rising SentAs (x ∷ way) a.numbers.taken b.numbers.sent
    m = subst (λ (w : List Frame). Rising SentAs w a.numbers.taken b.numbers.sent) is h.back.taken

    few : m.0 ≤ a.numbers.taken + 7
    few = let s = rising_all SentAs way m.0 b.numbers.sent m.3 in let w = (within a b h).1 in omega (arith, s, w)

    c : Came a.numbers next t.0 m.0
    c = came a.numbers x hears takes t.0 m.0 t.1 t.2 m.1 m.2 few

runs : (a b : Side) → MayRun a b → Both a b
runs _ _ Begins = record { there = fresh; back = fresh }
  where
    fresh : Flows unseen unseen
    fresh = record { told = omega arith; heard = omega arith; taken = omega arith; window = omega arith; watched = tt }
runs _ _ (Swaps a b h) = let e = runs a b h in record { there = e.back; back = e.there }
runs _ _ (Forgets a b h) = let e = runs a b h in record {
  there = record { told = e.there.told; heard = e.there.heard; taken = e.there.taken; window = e.there.window; watched = tt };
  back = record { told = e.back.told; heard = e.back.heard; taken = e.back.taken; window = e.back.window; watched = tt };
}
runs _ _ (Counts a b n t ns nr d numbered acknowledges h) =
    let e = runs a b h in record {
      there = counts_flows a b n t ns nr d (counted_by a.numbers ns n d numbered) (told_by a.numbers nr t acknowledges) e.there;
      back = record { told = e.back.told; heard = e.back.heard; taken = e.back.taken; window = e.back.window; watched = e.back.watched };
    }
runs _ _ (Tells a b t nr acknowledges h) =
    let e = runs a b h in record {
      there = tells_flows a b t nr (told_by a.numbers nr t acknowledges) e.there;
      back = record { told = e.back.told; heard = e.back.heard; taken = e.back.taken; window = e.back.window; watched = e.back.watched };
    }
runs _ _ (Comes a b x way hears takes is h) = comes_both a b x way hears takes is (runs a b h)

-- ---- where both are known

long_row : (run next last : ℕ) → are_acknowledged run next last ≡ true → 8 ≤ run
long_row run next last h = let e = leb-true (8 + apart next last) run h in omega (arith, e)

apart_is : (sent told next last : ℕ) → next ≡ sent % 8 → last ≡ told % 8 → told ≤ sent → sent ≤ told + 7 → apart next last ≡ sent - told
apart_is sent told next last s t low near = omega (arith, s, t, low, near)

mod_on : (next sent : ℕ) → next ≡ sent % 8 → (16 + next % 8) % 8 ≡ sent % 8
mod_on next sent s = omega (arith, s)

acked_in : (sent acked told next d : ℕ) → d ≡ sent - told → told ≤ sent → sent ≤ told + 7 → acked ≤ told
    → acked + (16 + next % 8) ≤ sent + ((16 + next % 8) - d)
acked_in sent acked told next d is low near less = omega (arith, is, low, near, less)

told_in : (sent told next d : ℕ) → next ≡ sent % 8 → d ≡ sent - told → told ≤ sent → sent ≤ told + 7 → ((16 + next % 8) - d) % 8 ≡ told % 8
told_in sent told next d s is low near = omega (arith, s, is, low, near)

taken_in : (sent taken told next d : ℕ) → d ≡ sent - told → told ≤ sent → sent ≤ told + 7 → taken ≤ sent
    → taken + ((16 + next % 8) - d) ≤ (16 + next % 8) + told
taken_in sent taken told next d is low near less = omega (arith, is, low, near, less)

found : (a b : Side) (run next last there due heard_to : ℕ) → Both a b → InRow run next a.numbers.sent → InRow there due b.numbers.sent
    → last ≡ a.numbers.told % 8 → heard_to ≡ b.numbers.told % 8 → 8 ≤ run → 8 ≤ there → IsFound a.numbers (numbers_in next last due heard_to)
found a b run next last there due heard_to h own far told_is heard_is long other_long =
    let s = row_end run next a.numbers.sent own long in
    let r = row_end there due b.numbers.sent far other_long in
    let back = within a b h in
    let here = within b a (record { there = h.back; back = h.there }) in
    let acked = rising_all HeardAs a.way a.numbers.acked b.numbers.told h.back.heard in
    let taken = rising_all SentAs a.way a.numbers.taken b.numbers.sent h.back.taken in
    let taken_there = rising_all SentAs b.way b.numbers.taken a.numbers.sent h.there.taken in
    let told_there = h.back.told in
    let told_here = h.there.told in
    let w = back.0 in
    let v = here.0 in
    let sent_low : b.numbers.told ≤ a.numbers.sent = omega (arith, taken_there, told_there) in
    let told_low : a.numbers.told ≤ b.numbers.sent = omega (arith, taken, told_here) in
    let d = apart_is a.numbers.sent b.numbers.told next heard_to s heard_is sent_low v in
    let g = apart_is b.numbers.sent a.numbers.told due last r told_is told_low w in record {
      sent = mod_on next a.numbers.sent s;
      acked = acked_in a.numbers.sent a.numbers.acked b.numbers.told next (apart next heard_to) d sent_low v acked;
      told = told_in b.numbers.sent a.numbers.told due (apart due last) r g told_low w;
      taken = taken_in b.numbers.sent a.numbers.taken a.numbers.told due (apart due last) g told_low w taken;
    }
  where
    row_end : (run next sent : ℕ) → InRow run next sent → 8 ≤ run → next ≡ sent % 8
    row_end run next sent g long = go g.near
      where
        go : (sent + run ≤ g.end + 7) ⊎ (g.end ≡ sent) → next ≡ sent % 8
        go (inl e) = let b = g.low in let i = g.is in omega (arith, b, e, long)
        go (inr e) = g.is ∙ ap (λ m. m % 8) e

known : (a b : Side) (w v : Watch) → Both a b → IsWatched w a.numbers.sent a.numbers.told → IsWatched v b.numbers.sent b.numbers.told
    → are_known w v ≡ true → IsFound a.numbers (numbers w v) × IsFound b.numbers (numbers v w)
known a b (Row run next last) (Row there due heard_to) h own far e =
    let both = and_parts (are_acknowledged run next heard_to) (are_acknowledged there due last) e in
    let long = long_row run next heard_to both.0 in
    let other_long = long_row there due last both.1 in (
      found a b run next last there due heard_to h own.0 far.0 own.1 far.1 long other_long,
      found b a there due heard_to run next last (record { there = h.back; back = h.there }) far.0 own.0 far.1 own.1 other_long long,
    )
known a b Unseen v h own far e = absurd (both_ways false refl e)
known a b Over v h own far e = absurd (both_ways false refl e)
known a b (Row run next last) Unseen h own far e = absurd (both_ways false refl e)
known a b (Row run next last) Over h own far e = absurd (both_ways false refl e)

pub numbers_are_found : NumbersAreFound
numbers_are_found a b run e = let h = runs a b run in known a b a.watch b.watch h h.there.watched h.back.watched e

pub links_are_taken_up : LinksAreTakenUp
links_are_taken_up of from j line octets frame shows up = found_on j line octets of from frame shows up
