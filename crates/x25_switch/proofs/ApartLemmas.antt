-- On each channel of a line at most one leg stands, whatever the calls of a switch are told and ask.
use Rattle.std.proofs.Common.{◌≡◌, ◌∙◌, inl, inr, ℕ, zero, suc, ◌+◌, ◌≤◌, ◌==◌, Bool, true, false, ◌&&◌, if◌then◌else◌, List, [], ◌∷◌, ◌++◌}
use Rattle.std.proofs.Common.{map, length, Option, Some, None, slice_set, refl, sym, ap, subst, arith}
use Rattle.std.specs.Prelude.{slice_get, Result, Ok, Err, OnOk, OnErr}
use Rattle.std.proofs.lemmas.Bool.{eqb-true, and_parts}
use Rattle.x25_bits.specs.declared.role.Role.{Role}
use Rattle.x25_circuit.specs.Message.{Message}
use Rattle.x25_crossing.specs.Asking.{asked_two, flowed_leg, flow_of}
use Rattle.x25_crossing.specs.Crossing.{PlainLeg, Two, PlainCrossing, two_of}
use Rattle.x25_crossing.specs.Told.{PlainTold, connected, collided, ended, was_reset, resets_itself, delivered, interrupted, refused, lingered}
use Rattle.x25_crossing.specs.Told.{at_stage, told_two, told_at, lacks_at, row_lacks, left_with, gone_beside, reset_with, where_room, with_message}
use Rattle.x25_crossing.specs.Told.{with_interrupt, answers}
use Rattle.x25_crossing.specs.declared.ask.Flow.{Flow}
use Rattle.x25_crossing.specs.declared.side.Side.{Side}
use Rattle.x25_crossing.specs.declared.side.Side.TheVariants.{Near, Far}
use Rattle.x25_crossing.specs.declared.stage.Stage.{Stage}
use Rattle.x25_crossing.specs.declared.stage.Stage.TheVariants.{Calls, Called, Came, Answers, Open, Resets, Resetting, Clears, Gone}
use Rattle.x25_relay.specs.Relay.{refusal}
use Rattle.x25_relay.specs.declared.error.RelayError.{RelayError}
use Rattle.x25_station.specs.Command.{Command}
use Rattle.x25_station.specs.Error.{number_of}
use Rattle.x25_station.specs.declared.error.StationError.{StationError}
use Rattle.x25_switch.specs.Calls.{PlainCall, stands, is_leg, is_on, leg_of, with_crossing, further, place_by, place_of, changed_nth, changed_at, vacated, bit}
use Rattle.x25_switch.specs.Calls.{legs_of, legs_in, AreApart, called_on, told_in, lacks_in, lingered_call, lost_leg, lost_call, Sweeps, None_is, One_is}
use Rattle.x25_switch.specs.Leg.{wanted, accepted}
use Rattle.x25_switch.specs.Switch.{new_call}
use Rattle.x25_switch.specs.code.Asked.{LeadsTo, NotMade, refused_for, is_too_much}
use Rattle.x25_switch.specs.declared.leg.Kind.{Kind}
use Rattle.x25_switch.specs.declared.leg.Kind.TheVariants as kind

-- ---- a leg that stands stood before

abbrev below : Bool → Bool → Bool
below true b = b
below false b = true

below_same : (b : Bool) → below b b ≡ true
below_same true = refl
below_same false = refl

below_over : (a b c : Bool) → below a b ≡ true → below b c ≡ true → below a c ≡ true
below_over true true c h g = g
below_over true false c h g = absurd (cc)
below_over false b c h g = refl

record Below (s t : Stage) (two : Two) : Type 0 where
  pub this : below (stands two.this.stage) (stands s) ≡ true
  pub other : below (stands two.other.stage) (stands t) ≡ true

abbrev two_at : Stage → Stage → PlainLeg → PlainLeg → Two
two_at s t x y = record { this = at_stage s x; other = at_stage t y }

both_same : (s t : Stage) (x y : PlainLeg) → Below s t (two_at s t x y)
both_same s t x y = record { this = below_same (stands s); other = below_same (stands t) }

answers_below : (t : Stage) → below (stands (answers t)) (stands t) ≡ true
answers_below Came = refl
answers_below Calls = refl
answers_below Gone = refl
answers_below t = refl

left_below : (cause diagnostic : ℕ) (t : Stage) → below (stands (left_with cause diagnostic t)) (stands t) ≡ true
left_below cause diagnostic Calls = refl
left_below cause diagnostic (Clears c d) = refl
left_below cause diagnostic Gone = refl
left_below cause diagnostic t = refl

reset_below : (cause diagnostic : ℕ) (t : Stage) → below (stands (reset_with cause diagnostic t)) (stands t) ≡ true
reset_below cause diagnostic Open = refl
reset_below cause diagnostic Calls = refl
reset_below cause diagnostic Gone = refl
reset_below cause diagnostic t = refl

gone_stands : (t : Stage) (x : PlainLeg) → stands (gone_beside t x).stage ≡ false
gone_stands Open x = refl
gone_stands t x = refl

gone_below : (t : Stage) (x : PlainLeg) (b : Bool) → below (stands (gone_beside t x).stage) b ≡ true
gone_below Open x b = refl
gone_below t x b = refl

connected_below : (s t : Stage) (x y : PlainLeg) → Below s t (told_two connected (two_at s t x y))
connected_below Called t x y = record { this = refl; other = answers_below t }
connected_below s t x y = both_same s t x y

collided_below : (s t : Stage) (x y : PlainLeg) → Below s t (told_two collided (two_at s t x y))
collided_below Called t x y = record { this = refl; other = below_same (stands t) }
collided_below s t x y = both_same s t x y

ended_below : (cause diagnostic : ℕ) (s t : Stage) (x y : PlainLeg) → Below s t (told_two (ended cause diagnostic) (two_at s t x y))
ended_below cause diagnostic Calls t x y = both_same Calls t x y
ended_below cause diagnostic Gone t x y = both_same Gone t x y
ended_below cause diagnostic s t x y =
    record { this = gone_below t (at_stage s x) (stands s); other = left_below cause diagnostic t }

was_reset_below : (cause diagnostic : ℕ) (s t : Stage) (x y : PlainLeg)
    → Below s t (told_two (was_reset cause diagnostic) (two_at s t x y))
was_reset_below cause diagnostic Open t x y = record { this = refl; other = reset_below cause diagnostic t }
was_reset_below cause diagnostic (Resets c d) t x y = record { this = refl; other = below_same (stands t) }
was_reset_below cause diagnostic Resetting t x y = record { this = refl; other = below_same (stands t) }
was_reset_below cause diagnostic s t x y = both_same s t x y

resets_below : (diagnostic : ℕ) (s t : Stage) (x y : PlainLeg) → Below s t (told_two (resets_itself diagnostic) (two_at s t x y))
resets_below diagnostic Open t x y = record { this = refl; other = reset_below 5 diagnostic t }
resets_below diagnostic (Resets c d) t x y = record { this = refl; other = below_same (stands t) }
resets_below diagnostic s t x y = both_same s t x y

where_below : (o : Option RelayError) (z : PlainLeg) (t : Stage) (x y : PlainLeg) → z.stage ≡ Open
    → Below Open t (where_room o z (two_at Open t x y))
where_below None z t x y e = record { this = ap (λ (s : Stage). below (stands s) true) e; other = below_same (stands t) }
where_below (Some e) z t x y h = record { this = refl; other = reset_below 7 0 t }

delivered_below : (m : Message) (s t : Stage) (x y : PlainLeg) → Below s t (told_two (delivered m) (two_at s t x y))
delivered_below m Open t x y =
    where_below (refusal x.most x.messages (length m.user)) (with_message m (at_stage Open x)) t x y refl
delivered_below m s t x y = both_same s t x y

interrupted_below : (m : Message) (s t : Stage) (x y : PlainLeg) → Below s t (told_two (interrupted m) (two_at s t x y))
interrupted_below m Open t x y =
    where_below (refusal 512 x.interrupts (length m.user)) (with_interrupt m (at_stage Open x)) t x y refl
interrupted_below m s t x y = both_same s t x y

refused_below : (cause diagnostic : ℕ) (s t : Stage) (x y : PlainLeg) → Below s t (told_two (refused cause diagnostic) (two_at s t x y))
refused_below cause diagnostic Gone t x y = both_same Gone t x y
refused_below cause diagnostic s t x y =
    record { this = left_below cause diagnostic s; other = left_below cause diagnostic t }

lingered_below : (s t : Stage) (x y : PlainLeg) → Below s t (told_two lingered (two_at s t x y))
lingered_below (Clears c d) t x y = record { this = refl; other = below_same (stands t) }
lingered_below s t x y = both_same s t x y

told_below : (told : PlainTold) (s t : Stage) (x y : PlainLeg) → Below s t (told_two told (two_at s t x y))
told_below connected s t x y = connected_below s t x y
told_below collided s t x y = collided_below s t x y
told_below (ended cause diagnostic) s t x y = ended_below cause diagnostic s t x y
told_below (was_reset cause diagnostic) s t x y = was_reset_below cause diagnostic s t x y
told_below (resets_itself diagnostic) s t x y = resets_below diagnostic s t x y
told_below (delivered m) s t x y = delivered_below m s t x y
told_below (interrupted m) s t x y = interrupted_below m s t x y
told_below (refused cause diagnostic) s t x y = refused_below cause diagnostic s t x y
told_below lingered s t x y = lingered_below s t x y

lacks_below : (s t : Stage) (x y : PlainLeg) → Below s t (row_lacks s (two_at s t x y))
lacks_below Open t x y = record { this = refl; other = reset_below 7 0 t }
lacks_below s t x y = both_same s t x y

-- ---- what is accepted, where it was wanted

asked_below : (role : Role) (h : ℕ) (s t : Stage) (x y : PlainLeg) (command : Command)
    → wanted kind.Control role h (two_at s t x y) ≡ Some command → Below s t (asked_two (two_at s t x y))
asked_below role h Calls t x y command e = absurd (cc)
asked_below role h Answers t x y command e = record { this = refl; other = below_same (stands t) }
asked_below role h (Resets c d) t x y command e = record { this = refl; other = below_same (stands t) }
asked_below role h (Clears c d) t x y command e = record { this = refl; other = below_same (stands t) }
asked_below role h s t x y command e = both_same s t x y

flowed_below : (o : Option Flow) (s t : Stage) (x y : PlainLeg) → Below s t (record { this = flowed_leg o (at_stage s x); other = at_stage t y })
flowed_below None s t x y = both_same s t x y
flowed_below (Some flow) s t x y = record { this = below_same (stands s); other = below_same (stands t) }

-- ---- at both legs of a call

record BelowAt (new old : PlainCrossing) : Type 0 where
  pub near : below (stands new.near.stage) (stands old.near.stage) ≡ true
  pub far : below (stands new.far.stage) (stands old.far.stage) ≡ true

still : (x : PlainCrossing) → BelowAt x x
still x = record { near = below_same (stands x.near.stage); far = below_same (stands x.far.stage) }

over : (x y z : PlainCrossing) → BelowAt x y → BelowAt y z → BelowAt x z
over x y z a b = record {
  near = below_over (stands x.near.stage) (stands y.near.stage) (stands z.near.stage) a.near b.near;
  far = below_over (stands x.far.stage) (stands y.far.stage) (stands z.far.stage) a.far b.far;
}

told_at_below : (told : PlainTold) (side : Side) (x : PlainCrossing) → BelowAt (told_at side told x) x
told_at_below told Near x = let b = told_below told x.near.stage x.far.stage x.near x.far in record { near = b.this; far = b.other }
told_at_below told Far x = let b = told_below told x.far.stage x.near.stage x.far x.near in record { near = b.other; far = b.this }

lacks_at_below : (side : Side) (x : PlainCrossing) → BelowAt (lacks_at side x) x
lacks_at_below Near x = let b = lacks_below x.near.stage x.far.stage x.near x.far in record { near = b.this; far = b.other }
lacks_at_below Far x = let b = lacks_below x.far.stage x.near.stage x.far x.near in record { near = b.other; far = b.this }

accepted_below : (what : Kind) (role : Role) (h : ℕ) (side : Side) (x : PlainCrossing) (command : Command)
    → wanted what role h (two_of side x) ≡ Some command → BelowAt (accepted what side x) x
accepted_below kind.Control role h Near x command e =
    let b = asked_below role h x.near.stage x.far.stage x.near x.far command e in record { near = b.this; far = b.other }
accepted_below kind.Control role h Far x command e =
    let b = asked_below role h x.far.stage x.near.stage x.far x.near command e in record { near = b.other; far = b.this }
accepted_below kind.Interrupt role h Near x command e = record { near = below_same (stands x.near.stage); far = below_same (stands x.far.stage) }
accepted_below kind.Interrupt role h Far x command e = record { near = below_same (stands x.near.stage); far = below_same (stands x.far.stage) }
accepted_below kind.Message role h Near x command e = record { near = below_same (stands x.near.stage); far = below_same (stands x.far.stage) }
accepted_below kind.Message role h Far x command e = record { near = below_same (stands x.near.stage); far = below_same (stands x.far.stage) }
accepted_below kind.Flow role h Near x command e =
    let b = flowed_below (flow_of x.near) x.near.stage x.far.stage x.near x.far in record { near = b.this; far = b.other }
accepted_below kind.Flow role h Far x command e =
    let b = flowed_below (flow_of x.far) x.far.stage x.near.stage x.far x.near in record { near = b.other; far = b.this }

-- ---- so no more legs of a call stand

bit_below : (a b t : Bool) → below a b ≡ true → bit (a && t) ≤ bit (b && t)
bit_below true true t h = omega arith
bit_below true false t h = absurd (cc)
bit_below false b t h = omega arith

legs_below : (line channel : ℕ) (c : PlainCall) (x : PlainCrossing) → BelowAt x c.crossing
    → legs_of line channel (with_crossing x c) ≤ legs_of line channel c
legs_below line channel c x b =
    let near = bit_below (stands x.near.stage) (stands c.crossing.near.stage) (c.near.line == line && c.near.channel == channel) b.near in
    let far = bit_below (stands x.far.stage) (stands c.crossing.far.stage) (c.far.line == line && c.far.channel == channel) b.far in
    omega (arith, near, far)

-- ---- one of them is changed

nth_below : (line channel : ℕ) (change : Side → PlainCrossing → PlainCrossing) → ((side : Side) (x : PlainCrossing) → BelowAt (change side x) x)
    → (side : Side) (n : ℕ) (cs : List PlainCall) → legs_in line channel (changed_nth change side n cs) ≤ legs_in line channel cs
nth_below line channel change ok side n [] = omega arith
nth_below line channel change ok side zero (c ∷ cs) =
    let h = legs_below line channel c (change side c.crossing) (ok side c.crossing) in omega (arith, h)
nth_below line channel change ok side (suc n) (c ∷ cs) = let h = nth_below line channel change ok side n cs in omega (arith, h)

at_below : (line channel : ℕ) (change : Side → PlainCrossing → PlainCrossing) → ((side : Side) (x : PlainCrossing) → BelowAt (change side x) x)
    → (o : Option (ℕ × Side)) (cs : List PlainCall) → legs_in line channel (changed_at change o cs) ≤ legs_in line channel cs
at_below line channel change ok None cs = omega arith
at_below line channel change ok (Some found) cs = nth_below line channel change ok found.1 found.0 cs

fewer : (old new : List PlainCall) → ((line channel : ℕ) → legs_in line channel new ≤ legs_in line channel old) → AreApart old → AreApart new
fewer old new h apart line channel = let a = apart line channel in let b = h line channel in omega (arith, a, b)

pub told_apart : (line channel : ℕ) (told : PlainTold) (cs : List PlainCall) → AreApart cs
    → AreApart (changed_at (λ side x. told_at side told x) (place_of line channel cs) cs)
told_apart line channel told cs = fewer cs (changed_at (λ side x. told_at side told x) (place_of line channel cs) cs)
    (λ l h. at_below l h (λ side x. told_at side told x) (told_at_below told) (place_of line channel cs) cs)

pub lacks_apart : (line channel : ℕ) (cs : List PlainCall) → AreApart cs
    → AreApart (changed_at (λ side x. lacks_at side x) (place_of line channel cs) cs)
lacks_apart line channel cs = fewer cs (changed_at (λ side x. lacks_at side x) (place_of line channel cs) cs)
    (λ l h. at_below l h (λ side x. lacks_at side x) lacks_at_below (place_of line channel cs) cs)

pub tell_apart : {E : Type 0} (result : Result Unit E) (line channel : ℕ) (told : PlainTold) (old new : List PlainCall)
    → OnOk result (new ≡ told_in line channel told old) → OnErr result (new ≡ lacks_in line channel old) → AreApart old → AreApart new
tell_apart (Ok u) line channel told old new is lacks apart = subst AreApart (sym is) (told_apart line channel told old apart)
tell_apart (Err e) line channel told old new is lacks apart = subst AreApart (sym lacks) (lacks_apart line channel old apart)

-- ---- one is set

set_legs : (line channel n : ℕ) (cs : List PlainCall) (c d : PlainCall) → slice_get cs n ≡ Some c
    → legs_in line channel (slice_set cs n d) + legs_of line channel c ≡ legs_in line channel cs + legs_of line channel d
set_legs line channel n [] c d at = absurd (cc)
set_legs line channel zero (e ∷ cs) c d at =
    let same : e ≡ c = cc in let more = ap (legs_of line channel) same in omega (arith, more)
set_legs line channel (suc n) (e ∷ cs) c d at = let h = set_legs line channel n cs c d at in omega (arith, h)

set_apart : (n : ℕ) (cs : List PlainCall) (c d : PlainCall) → slice_get cs n ≡ Some c
    → ((line channel : ℕ) → legs_of line channel d ≤ legs_of line channel c) → AreApart cs → AreApart (slice_set cs n d)
set_apart n cs c d at few = fewer cs (slice_set cs n d) (λ line channel.
    let h = set_legs line channel n cs c d at in let f = few line channel in omega (arith, h, f))

-- ---- each is changed

lost_leg_below : (told : PlainTold) (line l h : ℕ) (side : Side) (c : PlainCall) → (b : Bool)
    → legs_of l h (if b then with_crossing (told_at side told c.crossing) c else c) ≤ legs_of l h c
lost_leg_below told line l h side c true = legs_below l h c (told_at side told c.crossing) (told_at_below told side c.crossing)
lost_leg_below told line l h side c false = omega arith

lost_below : (told : PlainTold) (line l h : ℕ) (c : PlainCall) → legs_of l h (lost_call told line c) ≤ legs_of l h c
lost_below told line l h c =
    let n = lost_leg_below told line l h Near c (is_on line Near c) in
    let f = lost_leg_below told line l h Far (lost_leg told line Near c) (is_on line Far (lost_leg told line Near c)) in
    omega (arith, n, f)

dropped_below : (l h : ℕ) (c : PlainCall) (b : Bool)
    → legs_of l h (if b then with_crossing (told_at Far lingered (told_at Near lingered c.crossing)) c else c) ≤ legs_of l h c
dropped_below l h c true =
    let x = told_at Near lingered c.crossing in
    legs_below l h c (told_at Far lingered x) (over (told_at Far lingered x) x c.crossing (told_at_below lingered Far x) (told_at_below lingered Near c.crossing))
dropped_below l h c false = omega arith

lingered_call_below : (l h : ℕ) (c : PlainCall) → legs_of l h (lingered_call c) ≤ legs_of l h c
lingered_call_below l h c = dropped_below l h c c.lingers

map_below : (f : PlainCall → PlainCall) (l h : ℕ) → ((c : PlainCall) → legs_of l h (f c) ≤ legs_of l h c)
    → (cs : List PlainCall) → legs_in l h (map f cs) ≤ legs_in l h cs
map_below f l h ok [] = omega arith
map_below f l h ok (c ∷ cs) = let a = ok c in let b = map_below f l h ok cs in omega (arith, a, b)

pub lost_apart : (told : PlainTold) (line : ℕ) (cs : List PlainCall) → AreApart cs → AreApart (map (lost_call told line) cs)
lost_apart told line cs = fewer cs (map (lost_call told line) cs)
    (λ l h. map_below (lost_call told line) l h (lost_below told line l h) cs)

pub lingered_apart : (cs : List PlainCall) → AreApart cs → AreApart (map lingered_call cs)
lingered_apart cs = fewer cs (map lingered_call cs) (λ l h. map_below lingered_call l h (lingered_call_below l h) cs)

-- ---- one is let go, or comes

append_legs : (l h : ℕ) (cs ds : List PlainCall) → legs_in l h (cs ++ ds) ≡ legs_in l h cs + legs_in l h ds
append_legs l h [] ds = omega arith
append_legs l h (c ∷ cs) ds = let e = append_legs l h cs ds in omega (arith, e)

pub swept_apart : (old new : List PlainCall) → Sweeps old new → AreApart old → AreApart new
swept_apart old new (None_is same) apart = subst AreApart (sym same) apart
swept_apart old new (One_is front back c is_over was is) apart =
    subst AreApart (sym is) (fewer (front ++ c ∷ back) (front ++ back)
    (λ l h. let a = append_legs l h front (c ∷ back) in let b = append_legs l h front back in omega (arith, a, b)) (subst AreApart was apart))

one_more : (l h line channel : ℕ) (n : ℕ) (b : Bool) → (l == line && h == channel) ≡ b → (n ≤ 1) → (l ≡ line → h ≡ channel → n ≡ 0)
    → n + bit b ≤ 1
one_more l h line channel n false e few none = omega (arith, few)
one_more l h line channel n true e few none =
    let both = and_parts (l == line) (h == channel) e in
    let zero_is = none (eqb-true l line both.0) (eqb-true h channel both.1) in omega (arith, zero_is)

pub more_apart : (octets line channel : ℕ) (cs : List PlainCall) → legs_in line channel cs ≡ 0 → AreApart cs
    → AreApart (cs ++ new_call octets line channel ∷ [])
more_apart octets line channel cs none apart l h =
    let e = append_legs l h cs (new_call octets line channel ∷ []) in
    let m = one_more line channel l h (legs_in l h cs) (line == l && channel == h) refl (apart l h)
    (λ (a : line ≡ l) (b : channel ≡ h). ap (λ (k : ℕ). legs_in k h cs) (sym a) ∙ ap (λ (k : ℕ). legs_in line k cs) (sym b) ∙ none) in
    omega (arith, e, m)

-- ---- none stands where a leg is lost

abbrev by_side : Bool → Bool → Side → Bool
by_side a b Near = a
by_side a b Far = b

pick : (a b : Bool) (side : Side) → (if a then Some Near else if b then Some Far else None) ≡ Some side → by_side a b side ≡ true
pick true b Near e = refl
pick true b Far e = absurd (cc)
pick false true Near e = absurd (cc)
pick false true Far e = refl
pick false false side e = absurd (cc)

pick_none : (a b : Bool) → (if a then Some Near else if b then Some Far else None) ≡ None → bit a + bit b ≡ 0
pick_none true b e = absurd (cc)
pick_none false true e = absurd (cc)
pick_none false false e = refl

ended_stands : (s t : Stage) (x y : PlainLeg) → stands s ≡ true → stands (told_two (ended 9 0) (two_at s t x y)).this.stage ≡ false
ended_stands Calls t x y h = absurd (cc)
ended_stands Gone t x y h = absurd (cc)
ended_stands s t x y h = gone_stands t (at_stage s x)

-- where it stood it does no more
one_less : (a b t : Bool) → (a && t) ≡ true → (a ≡ true → b ≡ false) → bit (b && t) + 1 ≤ bit (a && t)
one_less true b t h gone =
    let none = ap (λ (c : Bool). bit (c && t)) (gone refl) in let one = ap bit h in omega (arith, none, one)
one_less false b t h gone = absurd (cc)

less_at : (l h : ℕ) (side : Side) (c : PlainCall) → is_leg l h side c ≡ true
    → legs_of l h (with_crossing (told_at side (ended 9 0) c.crossing) c) + 1 ≤ legs_of l h c
less_at l h Near c is =
    let x = c.crossing in
    let less = one_less (stands x.near.stage) (stands (told_at Near (ended 9 0) x).near.stage) (c.near.line == l && c.near.channel == h) is
    (ended_stands x.near.stage x.far.stage x.near x.far) in
    let far = bit_below (stands (told_at Near (ended 9 0) x).far.stage) (stands x.far.stage) (c.far.line == l && c.far.channel == h)
    (told_at_below (ended 9 0) Near x).far in
    omega (arith, less, far)
less_at l h Far c is =
    let x = c.crossing in
    let less = one_less (stands x.far.stage) (stands (told_at Far (ended 9 0) x).far.stage) (c.far.line == l && c.far.channel == h) is
    (ended_stands x.far.stage x.near.stage x.far x.near) in
    let near = bit_below (stands (told_at Far (ended 9 0) x).near.stage) (stands x.near.stage) (c.near.line == l && c.near.channel == h)
    (told_at_below (ended 9 0) Far x).near in
    omega (arith, less, near)

side_is : (l h : ℕ) (side : Side) (c : PlainCall) → leg_of l h c ≡ Some side → is_leg l h side c ≡ true
side_is l h Near c e = pick (is_leg l h Near c) (is_leg l h Far c) Near e
side_is l h Far c e = pick (is_leg l h Near c) (is_leg l h Far c) Far e

abbrev is_lost : Side → PlainCrossing → PlainCrossing
is_lost side x = told_at side (ended 9 0) x

further_changes : (o : Option (ℕ × Side)) (c : PlainCall) (cs : List PlainCall)
    → changed_at is_lost (further o) (c ∷ cs) ≡ c ∷ changed_at is_lost o cs
further_changes None c cs = refl
further_changes (Some found) c cs = refl

vacates_by : (l h : ℕ) (c : PlainCall) (cs : List PlainCall) → legs_of l h c + legs_in l h cs ≤ 1
    → legs_in l h (changed_at is_lost (place_of l h cs) cs) ≡ 0 → (o : Option Side) → leg_of l h c ≡ o
    → legs_in l h (changed_at is_lost (place_by o (place_of l h cs)) (c ∷ cs)) ≡ 0
vacates_by l h c cs few rest None e =
    let none = pick_none (is_leg l h Near c) (is_leg l h Far c) e in
    let same = ap (legs_in l h) (further_changes (place_of l h cs) c cs) in
    omega (arith, none, rest, same)
vacates_by l h c cs few rest (Some side) e = let less = less_at l h side c (side_is l h side c e) in omega (arith, less, few)

vacates : (l h : ℕ) (cs : List PlainCall) → legs_in l h cs ≤ 1 → legs_in l h (changed_at is_lost (place_of l h cs) cs) ≡ 0
vacates l h [] few = refl
vacates l h (c ∷ cs) few = vacates_by l h c cs few (vacates l h cs (omega (arith, few))) (leg_of l h c) refl

pub none_stands : (line channel : ℕ) (cs : List PlainCall) → AreApart cs → legs_in line channel (vacated line channel cs) ≡ 0
none_stands line channel cs apart = vacates line channel cs (apart line channel)

-- ---- a call is made, or not

called_legs : (l h line channel : ℕ) (c : PlainCall)
    → legs_of l h (called_on line channel c) ≤ legs_of l h c + bit (line == l && channel == h)
called_legs l h line channel c =
    let far = at_most (stands (called_on line channel c).crossing.far.stage) (line == l && channel == h) in
    omega (arith, far)
  where
    at_most : (a t : Bool) → bit (a && t) ≤ bit t
    at_most true t = omega arith
    at_most false t = omega arith

pub called_apart : (line channel n : ℕ) (cs : List PlainCall) (c : PlainCall) → slice_get cs n ≡ Some c → legs_in line channel cs ≡ 0
    → AreApart cs → AreApart (slice_set cs n (called_on line channel c))
called_apart line channel n cs c at none apart l h =
    let e = set_legs l h n cs c (called_on line channel c) at in
    let f = called_legs l h line channel c in
    let m = one_more line channel l h (legs_in l h cs) (line == l && channel == h) refl (apart l h)
    (λ (a : line ≡ l) (b : channel ≡ h). ap (λ (k : ℕ). legs_in k h cs) (sym a) ∙ ap (λ (k : ℕ). legs_in line k cs) (sym b) ∙ none) in
    omega (arith, e, f, m)

not_made_below : (number l h : ℕ) (c d : PlainCall) → NotMade number c d → legs_of l h d ≤ legs_of l h c
not_made_below number l h c d (inl same) = let e = ap (legs_of l h) same in omega (arith, e)
not_made_below number l h c d (inr is) =
    let told = refused (refused_for number).0 (refused_for number).1 in
    let e = ap (legs_of l h) is in
    let b = legs_below l h c (told_at Far told c.crossing) (told_at_below told Far c.crossing) in
    omega (arith, e, b)

pub not_made_apart : (number n : ℕ) (cs : List PlainCall) (c d : PlainCall) → slice_get cs n ≡ Some c → NotMade number c d
    → AreApart cs → AreApart (slice_set cs n d)
not_made_apart number n cs c d at not = set_apart n cs c d at (λ l h. not_made_below number l h c d not)

-- ---- a call has asked

too_much_below : (l h : ℕ) (side : Side) (c : PlainCall) (b : Bool)
    → legs_of l h (if b then with_crossing (told_at side (refused 17 39) c.crossing) c else c) ≤ legs_of l h c
too_much_below l h side c true = legs_below l h c (told_at side (refused 17 39) c.crossing) (told_at_below (refused 17 39) side c.crossing)
too_much_below l h side c false = omega arith

leads_below : (what : Kind) (role : Role) (channel l h : ℕ) (side : Side) (answer : Result Unit StationError) (c d : PlainCall) (command : Command)
    → wanted what role channel (two_of side c.crossing) ≡ Some command → LeadsTo what side answer c d → legs_of l h d ≤ legs_of l h c
leads_below what role channel l h side (Ok u) c d command e is =
    let same = ap (legs_of l h) is in
    let b = legs_below l h c (accepted what side c.crossing) (accepted_below what role channel side c.crossing command e) in
    omega (arith, same, b)
leads_below what role channel l h side (Err x) c d command e is =
    let same = ap (legs_of l h) is in
    let b = too_much_below l h side c (is_too_much what (number_of x)) in
    omega (arith, same, b)

pub leads_apart : (what : Kind) (role : Role) (channel : ℕ) (side : Side) (answer : Result Unit StationError) (n : ℕ) (cs : List PlainCall)
    (c d : PlainCall) (command : Command) → slice_get cs n ≡ Some c → wanted what role channel (two_of side c.crossing) ≡ Some command
    → LeadsTo what side answer c d → AreApart cs → AreApart (slice_set cs n d)
leads_apart what role channel side answer n cs c d command at e is =
    set_apart n cs c d at (λ l h. leads_below what role channel l h side answer c d command e is)
