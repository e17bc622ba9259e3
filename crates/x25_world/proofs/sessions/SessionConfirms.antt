-- Of two layers in order: as many messages as an end's moves confirm of a stretch, of those whose confirmation was asked, the other end has handed up.
use Rattle.x25_world.proofs.Names.{◌≡◌, ◌⊎◌, inl, inr, ℕ, zero, suc, ◌+◌, ◌-◌, ◌≤◌, List, [], ◌∷◌, ◌++◌, length, take, drop, Bool, true, false, ◌==◌}
use Rattle.x25_world.proofs.Names.{if◌then◌else◌, refl, sym, ap, subst, ◌∙◌, arith, append_assoc, and_parts, eqb-true, Role, Dte, Dce, other, PlainPacket}
use Rattle.x25_world.proofs.Names.{Piece, Talk, silent, Circuit, is_open, Name, both, same_name, Ranges, LayerSettings, Layer, Entry, under, messages_in}
use Rattle.x25_world.proofs.Names.{name_of, OwnMove, Takes, Ends, ApartEvent, own_moves, apart_happens, apart_run, apart_start, IsInOrder, AreInOrder}
use Rattle.std.proofs.lemmas.List.{drop-append-le}
use Rattle.x25_circuit.specs.{Circuit.{unconfirmed}, Message.{Message, More, Last, Partial, no_part, joined, carried_from, carried, asked_in}}
use Rattle.x25_handshakes.specs.laws.Histories.{Lists}
use Rattle.x25_layer.specs.{Ranges.{is_channel}, code.FitsLayer.{is_open_at}, laws.Acknowledged.{AcknowledgedAreUp, AcknowledgedAreHandedUp}}
use Rattle.x25_layer.specs.laws.{ApartLaw.{EventsRunOn}, Transcript.{Handed, nothing_handed, says}, TwoLayers.{settings_of}}
use Rattle.x25_station.specs.Confirming.{goes_on}
use Rattle.x25_world.proofs.{Continues.{Begins, Same, Hears}, EndContinues.{end_heard, end_called, end_enters}, Known.{true_false}}
use Rattle.x25_world.proofs.{Names.{take-append-drop, AlwaysApart, asked_among}, sessions.SessionCounts.{counted_at, counted_by, counted_in}}
use Rattle.x25_world.proofs.sessions.{SessionKnown.{here_in}, SessionTrace.{TakesNone, moves_of}}
use Rattle.x25_layer.specs.laws.TwoLayers as layer

-- ---- how many asked

asked_append : (xs ys : List Piece) → asked_in (xs ++ ys) ≡ asked_in xs + asked_in ys
asked_append [] ys = omega arith
asked_append (x ∷ xs) ys = omega (arith, asked_append xs ys)

asked_take : (a b : ℕ) (xs : List Piece) → a ≤ b → asked_in (take a xs) ≤ asked_in (take b xs)
asked_take zero b xs le = omega arith
asked_take (suc a) zero xs le = absurd (omega (arith, le))
asked_take (suc a) (suc b) [] le = omega arith
asked_take (suc a) (suc b) (x ∷ xs) le = omega (arith, asked_take a b xs (omega (arith, le)))

asked_longer : (a : ℕ) (xs ys : List Piece) → asked_in (take a xs) ≤ asked_in (take a (xs ++ ys))
asked_longer zero xs ys = omega arith
asked_longer (suc a) [] ys = omega arith
asked_longer (suc a) (x ∷ xs) ys = omega (arith, asked_longer a xs ys)

asked_of_take : (a : ℕ) (xs : List Piece) → asked_in (take a xs) + asked_in (drop a xs) ≡ asked_in xs
asked_of_take a xs = sym (asked_append (take a xs) (drop a xs)) ∙ ap asked_in (take-append-drop a xs)

-- messages are carried with their marks
asked_carried : (j : Partial) (ps : List Piece) → asked_among (carried_from j ps) ≡ asked_in ps
asked_carried j [] = refl
asked_carried j (More q user ∷ ps) = omega (arith, asked_carried (joined j (More q user)) ps)
asked_carried j (Last q user ∷ ps) = omega (arith, asked_carried (joined j (Last q user)) ps)

among_append : (xs ys : List Message) → asked_among (xs ++ ys) ≡ asked_among xs + asked_among ys
among_append [] ys = omega arith
among_append (x ∷ xs) ys = omega (arith, among_append xs ys)

-- of a circuit, as many as are acknowledged
abbrev acknowledged : Circuit → ℕ
acknowledged x = asked_in (take x.talk.acked x.talk.sent)

-- by a packet that acknowledges more, so many more
more_acknowledged : (x y : Circuit) (n : ℕ) → Hears x y → y.talk.acked ≤ length y.talk.sent → n ≤ acknowledged x → n + (unconfirmed x - unconfirmed y)
    ≤ acknowledged y
more_acknowledged x y n h low few =
    let s = x.talk.sent in
    let r = x.talk.rest in
    let a = x.talk.acked in
    let b = y.talk.acked in
    let up = h.acked in
    let high : b ≤ length s = subst (λ l. b ≤ length l) h.sent low in
    let here : unconfirmed x ≡ asked_in (drop a s) + asked_in r = ap asked_in (drop-append-le a s r (omega (arith, up, high))) ∙ asked_append (drop a s) r in
    let there : unconfirmed y ≡ asked_in (drop b s) + asked_in r =
    ap (λ l. asked_in (drop b (l ++ y.talk.rest))) h.sent ∙ ap (λ l. asked_in (drop b (s ++ l))) h.rest ∙ ap asked_in (drop-append-le b s r high)
    ∙ asked_append (drop b s) r in
    let now : acknowledged y ≡ asked_in (take b s) = ap (λ l. asked_in (take b l)) h.sent in
    omega (arith, here, there, asked_of_take a s, asked_of_take b s, asked_take a b s up, now, few)

-- ---- transcripts that grow

under_append : (k : ℕ) (name : Name) (xs ys : List Entry) → (let all = messages_in (under k name (xs ++ ys)) in let before = messages_in (under k name xs) in
    (rest : Lists Message) × (all.down ≡ before.down ++ rest.down) × (all.up ≡ before.up ++ rest.up))
under_append k name [] ys = (messages_in (under k name ys), refl, refl)
under_append k name (x ∷ xs) ys =
    let more = under_append k name xs ys in
    let before = messages_in (under k name xs) in
    let one : Handed = if both (k == x.channel) (same_name name x.name) then says x.said else nothing_handed in (
      more.0,
      ap (λ l. one.down ++ l) more.1 ∙ sym (append_assoc one.down before.down more.0.down),
      ap (λ l. one.up ++ l) more.2 ∙ sym (append_assoc one.up before.up more.0.up),
    )

abbrev pub down_of : ℕ → Name → layer.End → ℕ
down_of k name e = asked_among (messages_in (under k name e.entries)).down

abbrev pub up_of : ℕ → Name → layer.End → ℕ
up_of k name e = asked_among (messages_in (under k name e.entries)).up

grow_both : (c : LayerSettings) (k : ℕ) (name : Name) (e : layer.End) (what : OwnMove)
    → (let f = own_moves c e what in (down_of k name e ≤ down_of k name f) × (up_of k name e ≤ up_of k name f))
grow_both c k name e what =
    let more = end_enters c e what in
    let before = messages_in (under k name e.entries) in
    let here = under_append k name e.entries more.0 in
    let all = ap (λ es. messages_in (under k name es)) more.1 in
    let down = ap (λ h. asked_among h.down) all ∙ ap asked_among here.1 ∙ among_append before.down here.0.down in
    let up = ap (λ h. asked_among h.up) all ∙ ap asked_among here.2 ∙ among_append before.up here.0.up in
    (omega (arith, down), omega (arith, up))

-- ---- names

abbrev name_from : ℕ → ℕ → ℕ → Name
name_from restarts clears resets = record { restarts = restarts; clears = clears; resets = resets }

name_eq : (a b c d e f : ℕ) → a ≡ d → b ≡ e → c ≡ f → name_from a b c ≡ name_from d e f
name_eq a b c d e f p q r = ap (λ n. name_from n b c) p ∙ ap (λ n. name_from d n c) q ∙ ap (λ n. name_from d e n) r

both_are : (a b : Bool) → both a b ≡ true → (a ≡ true) × (b ≡ true)
both_are true b h = (refl, h)
both_are false b h = absurd (cc)

same_name_is : (m n : Name) → same_name m n ≡ true → m ≡ n
same_name_is m n h =
    let a = both_are (m.restarts == n.restarts) (both (m.clears == n.clears) (m.resets == n.resets)) h in
    let b = both_are (m.clears == n.clears) (m.resets == n.resets) a.1 in
    name_eq m.restarts m.clears m.resets n.restarts n.clears n.resets (eqb-true m.restarts n.restarts a.0) (eqb-true m.clears n.clears b.0)
    (eqb-true m.resets n.resets b.1)

-- where the stretch goes on, it has this name in both
same_stretch : (l next : Layer) (k : ℕ) → next.restarts ≡ l.restarts → Same (l.circuits k) (next.circuits k) → name_of l k ≡ name_of next k
same_stretch l next k restarts same =
    name_eq l.restarts (l.circuits k).clears (l.circuits k).resets next.restarts (next.circuits k).clears (next.circuits k).resets (sym restarts)
    (sym same.clears) (sym same.resets)

open_there : (b o : Bool) → (if b then o else false) ≡ true → o ≡ true
open_there true o is = is
open_there false o is = absurd (cc)

-- one that begins didn't go on
not_on : (c : LayerSettings) (l next : Layer) (k : ℕ) → Begins (l.circuits k) (next.circuits k) → goes_on c l next k ≡ true → ⊥
not_on c l next k begins on =
    let opened = and_parts (is_open_at c l k) _ on in
    let others = and_parts (is_open_at c next k) (same_name (name_of l k) (name_of next k)) opened.1 in
    elim begins.new [
      | inl closed ↦ true_false (sym (open_there (is_channel c.channels k) (is_open (l.circuits k)) opened.0) ∙ closed)
      | inr more ↦ (let e : suc (l.circuits k).resets
          ≡ (l.circuits k).resets = sym (ap (λ n. n.resets) (same_name_is (name_of l k) (name_of next k) others.1) ∙ more) in omega (arith, e))
    ]

-- ---- what is kept of an end, where it was told of so many, and the other

record Bounded (k : ℕ) (name : Name) (n : ℕ) (e f : layer.End) : Type 0 where
  opened : is_open (e.layer.circuits k) ≡ true → name_of e.layer k ≡ name → n ≤ acknowledged (e.layer.circuits k)
  down : n ≤ down_of k name e
  up : n ≤ up_of k name f

abbrev KnownAt : ℕ → layer.End → layer.End → Type 0
KnownAt k e f = is_open (e.layer.circuits k) ≡ true → AcknowledgedAreUp k (name_of e.layer k) (e.layer.circuits k).talk e f

-- those that are acknowledged
acked_down : {k : ℕ} {e f : layer.End} → AcknowledgedAreUp k (name_of e.layer k) (e.layer.circuits k).talk e f → acknowledged (e.layer.circuits k)
    ≤ down_of k (name_of e.layer k) e
acked_down {k} {e} h =
    let t : Talk = (e.layer.circuits k).talk in
    let is : down_of k (name_of e.layer k) e ≡ asked_in t.sent + asked_in t.rest =
    ap asked_among h.down ∙ asked_carried no_part (t.sent ++ t.rest) ∙ asked_append t.sent t.rest in
    omega (arith, is, asked_of_take t.acked t.sent)

acked_up : {k : ℕ} {e f : layer.End} → AcknowledgedAreUp k (name_of e.layer k) (e.layer.circuits k).talk e f → acknowledged (e.layer.circuits k)
    ≤ up_of k (name_of e.layer k) f
acked_up {k} {e} {f} h =
    let t : Talk = (e.layer.circuits k).talk in
    let is : up_of k (name_of e.layer k) f ≡ acknowledged (e.layer.circuits k) + asked_among h.first.0 =
    ap asked_among (sym h.first.1) ∙ among_append (carried (take t.acked t.sent)) h.first.0
    ∙ ap (λ n. n + asked_among h.first.0) (asked_carried no_part (take t.acked t.sent)) in
    omega (arith, is)

-- nothing was handed down in a stretch that begins
none_down : {k : ℕ} {e f : layer.End} → AcknowledgedAreUp k (name_of e.layer k) (e.layer.circuits k).talk e f → (e.layer.circuits k).talk ≡ silent
    → down_of k (name_of e.layer k) e ≡ 0
none_down h is = ap asked_among (h.down ∙ ap (λ t. carried (t.sent ++ t.rest)) is)

module _ (c : LayerSettings) (k : ℕ) (name : Name) (n : ℕ) (e f : layer.End) (h : Bounded k name n e f) where
  -- ---- a packet

  module _ (p : PlainPacket) where
    abbrev heard_end : layer.End
    heard_end = own_moves c e (Takes p)

    abbrev x : Circuit
    x = e.layer.circuits k

    abbrev y : Circuit
    y = heard_end.layer.circuits k

    abbrev count : ℕ
    count = counted_at c k name e.layer heard_end.layer

    module _ (known : KnownAt k heard_end f) where
      grows : down_of k name e ≤ down_of k name heard_end
      grows = (grow_both c k name e (Takes p)).0

      -- in a stretch that begins none was told of
      begins_none : Begins x y → is_open y ≡ true → name_of heard_end.layer k ≡ name → n ≤ 0
      begins_none begins is named =
          let none : down_of k name heard_end ≡ 0 = subst (λ m. down_of k m heard_end ≡ 0) named (none_down (known is) begins.silent) in
          omega (arith, h.down, none, grows)

      count_none : Begins x y → count ≡ 0
      count_none begins = by (same_name name (name_of heard_end.layer k)) (goes_on c e.layer heard_end.layer k) refl
        where
          by : (a b : Bool) → goes_on c e.layer heard_end.layer k ≡ b → (if a then (if b then unconfirmed x - unconfirmed y else 0) else 0) ≡ 0
          by true true on = absurd (not_on c e.layer heard_end.layer k begins on)
          by true false on = refl
          by false b on = refl

      count_low : count ≤ unconfirmed x - unconfirmed y
      count_low = by (same_name name (name_of heard_end.layer k)) (goes_on c e.layer heard_end.layer k)
        where
          by : (a b : Bool) → (if a then (if b then unconfirmed x - unconfirmed y else 0) else 0) ≤ unconfirmed x - unconfirmed y
          by true true = omega arith
          by true false = omega arith
          by false b = omega arith

      now_acked : is_open y ≡ true → name_of heard_end.layer k ≡ name → n + count ≤ acknowledged y
      now_acked is named = elim ((end_heard c e p k).circuit is) [
        | inl begins ↦ (omega (arith, begins_none begins is named, count_none begins))
        | inr hears ↦ (
            let before = h.opened hears.same.opened (same_stretch e.layer heard_end.layer k ((end_heard c e p k).restarts is) hears.same ∙ named) in
            omega (arith, more_acknowledged x y n hears (known is).sent before, count_low))
      ]

      -- none more, or the stretch is open
      none_or_open : (count ≡ 0) ⊎ ((is_open y ≡ true) × (name_of heard_end.layer k ≡ name))
      none_or_open = by (same_name name (name_of heard_end.layer k)) (goes_on c e.layer heard_end.layer k) refl refl
        where
          by : (a b : Bool) → same_name name (name_of heard_end.layer k) ≡ a → goes_on c e.layer heard_end.layer k ≡ b
              → ((if a then (if b then unconfirmed x - unconfirmed y else 0) else 0) ≡ 0) ⊎ ((is_open y ≡ true) × (name_of heard_end.layer k ≡ name))
          by true true named on =
              let opened = and_parts (is_open_at c e.layer k) _ on in
              let others = and_parts (is_open_at c heard_end.layer k) (same_name (name_of e.layer k) (name_of heard_end.layer k)) opened.1 in
              inr (open_there (is_channel c.channels k) (is_open y) others.0, sym (same_name_is name (name_of heard_end.layer k) named))
          by true false named on = inl refl
          by false b named on = inl refl

      heard : Bounded k name (n + count) heard_end f
      heard = record {
        opened = now_acked;
        down = elim none_or_open [
          | inl none ↦ (omega (arith, none, h.down, grows))
          | inr on ↦ (
              let low : acknowledged y ≤ down_of k name heard_end = subst (λ m. acknowledged y ≤ down_of k m heard_end) on.1 (acked_down (known on.0)) in
              omega (arith, now_acked on.0 on.1, low))
        ];
        up = elim none_or_open [
          | inl none ↦ (omega (arith, none, h.up))
          | inr on ↦ (
              let low : acknowledged y ≤ up_of k name f = subst (λ m. acknowledged y ≤ up_of k m f) on.1 (acked_up (known on.0)) in
              omega (arith, now_acked on.0 on.1, low))
        ];
      }

  -- ---- anything else

  module _ (what : OwnMove) (none : TakesNone what) (known : KnownAt k (own_moves c e what) f) where
    abbrev next : layer.End
    next = own_moves c e what

    called_acked : is_open (next.layer.circuits k) ≡ true → name_of next.layer k ≡ name → n ≤ acknowledged (next.layer.circuits k)
    called_acked is named = elim ((end_called c e what k none).circuit is) [
      | inl begins ↦ (
          let zero : down_of k name next ≡ 0 = subst (λ m. down_of k m next ≡ 0) named (none_down (known is) begins.silent) in
          omega (arith, h.down, zero, (grow_both c k name e what).0))
      | inr goes ↦ (
          let before = h.opened goes.same.opened (same_stretch e.layer next.layer k ((end_called c e what k none).restarts is) goes.same ∙ named) in
          let now : acknowledged (next.layer.circuits k) ≡ asked_in (take (e.layer.circuits k).talk.acked ((e.layer.circuits k).talk.sent ++ goes.more)) =
          ap (λ a. asked_in (take a (next.layer.circuits k).talk.sent)) goes.acked ∙ ap (λ l. asked_in (take (e.layer.circuits k).talk.acked l)) goes.sent in
          omega (arith, before, asked_longer (e.layer.circuits k).talk.acked (e.layer.circuits k).talk.sent goes.more, now))
    ]

    called : Bounded k name n next f
    called = record { opened = called_acked; down = (omega (arith, h.down, (grow_both c k name e what).0)); up = h.up }

  -- its own move
  own_bounded : (what : OwnMove) → KnownAt k (own_moves c e what) f → Bounded k name (n + counted_by c k name e what) (own_moves c e what) f
  own_bounded (Takes p) known = heard p known
  own_bounded what known = rw (sym (let is : n ≡ n + 0 = omega arith in is)) (called what tt known)

  -- a move of the other
  other_bounded : (d : LayerSettings) (what : OwnMove) → Bounded k name n e (own_moves d f what)
  other_bounded d what = record { opened = h.opened; down = h.down; up = (omega (arith, h.up, (grow_both d k name f what).1)) }

-- ---- runs

module _ (long_data : Bool) (channels : Ranges) (behind : EventsRunOn) (law : AlwaysApart AcknowledgedAreHandedUp long_data channels) (k : ℕ) (name : Name)
  where
    abbrev start : Ends
    start = apart_start long_data channels

    abbrev then_run : List ApartEvent → Ends
    then_run done = apart_run long_data channels done start

    abbrev happened : Ends → ApartEvent → Ends
    happened ends e = apart_happens long_data channels ends e

    abbrev settings : Role → LayerSettings
    settings end = settings_of end long_data channels

    -- by one event more
    one_more : (done : List ApartEvent) (e : ApartEvent) → AreInOrder long_data channels done start → IsInOrder (then_run done) e
        → AreInOrder long_data channels (done ++ e ∷ []) start × (then_run (done ++ e ∷ []) ≡ happened (then_run done) e)
    one_more done e order next = (let r = behind long_data channels done (e ∷ []) start in (r.order order (next, tt), r.run))

    -- of an end and the other
    abbrev KnownIn : Role → Ends → Type 0
    KnownIn end ends = KnownAt k (here_in end ends) (here_in (other end) ends)

    abbrev BoundedIn : Role → ℕ → Ends → Type 0
    BoundedIn end n ends = Bounded k name n (here_in end ends) (here_in (other end) ends)

    known_in : (end : Role) (done : List ApartEvent) → AreInOrder long_data channels done start → KnownIn end (then_run done)
    known_in Dte done order = (law done order).near k
    known_in Dce done order = (law done order).far k

    -- what an event confirms to an end
    abbrev added : Role → Ends → ApartEvent → ℕ
    added Dte ends e = if e.first then counted_by (settings Dte) k name ends.near e.what else 0
    added Dce ends e = if e.first then 0 else counted_by (settings Dce) k name ends.far e.what

    after_event : (end : Role) (ends : Ends) (e : ApartEvent) (n : ℕ) → KnownIn end (happened ends e) → BoundedIn end n ends
        → BoundedIn end (n + added end ends e) (happened ends e)
    after_event end ends e n known h = by end e.first known h
      where
        no_more : n ≡ n + 0
        no_more = omega arith

        by : (end : Role) (b : Bool) → (let d : ApartEvent = record { first = b; what = e.what } in KnownIn end (happened ends d) → BoundedIn end n ends
            → BoundedIn end (n + added end ends d) (happened ends d))
        by Dte true known h = own_bounded (settings Dte) k name n ends.near ends.far h e.what known
        by Dce false known h = own_bounded (settings Dce) k name n ends.far ends.near h e.what known
        by Dte false known h = subst (λ m. Bounded k name m ends.near (own_moves (settings Dce) ends.far e.what)) no_more
            (other_bounded (settings Dte) k name n ends.near ends.far h (settings Dce) e.what)
        by Dce true known h = rw (sym no_more) (other_bounded (settings Dce) k name n ends.far ends.near h (settings Dte) e.what)

    counts : (end : Role) (ends : Ends) (e : ApartEvent) (rest : List ApartEvent)
        → counted_in (settings end) k name (moves_of end (e ∷ rest)) (here_in end ends) ≡ added end ends e
        + counted_in (settings end) k name (moves_of end rest) (here_in end (happened ends e))
    counts end ends e rest = by end e.first
      where
        by : (end : Role) (b : Bool) → (let d : ApartEvent = record { first = b; what = e.what } in
            counted_in (settings end) k name (moves_of end (d ∷ rest)) (here_in end ends) ≡ added end ends d
            + counted_in (settings end) k name (moves_of end rest) (here_in end (happened ends d)))
        by Dte false = omega arith
        by Dce true = omega arith
        by end b = refl

    -- what the events to come confirm, behind those that were
    abbrev Confirms : Role → ℕ → List ApartEvent → Ends → Type 0
    Confirms end n rest ends = n + counted_in (settings end) k name (moves_of end rest) (here_in end ends)
        ≤ up_of k name (here_in (other end) (apart_run long_data channels rest ends))

    run_confirms : (end : Role) (done rest : List ApartEvent) {n : ℕ} → AreInOrder long_data channels done start
        → AreInOrder long_data channels rest (then_run done) → BoundedIn end n (then_run done) → Confirms end n rest (then_run done)
    run_confirms Dte done [] order next h = (omega (arith, h.up))
    run_confirms Dce done [] order next h = (omega (arith, h.up))
    run_confirms end done (e ∷ rest) {n} order next h =
        let more = one_more done e order next.0 in
        let known : KnownIn end (happened (then_run done) e) = subst (KnownIn end) more.1 (known_in end (done ++ e ∷ []) more.0) in
        let m = n + added end (then_run done) e in
        let others : Confirms end m rest (happened (then_run done) e) =
        subst (λ ends. AreInOrder long_data channels rest ends → BoundedIn end m ends → Confirms end m rest ends) more.1
        (run_confirms end (done ++ e ∷ []) rest more.0) next.1 (after_event end (then_run done) e n known h) in
        omega (arith, others, counts end (then_run done) e rest)

    -- before anything happened
    nothing_yet : (e f : layer.End) → Bounded k name 0 e f
    nothing_yet e f = record { opened = λ is named. omega arith; down = omega arith; up = omega arith }

    pub confirms : (end : Role) (events : List ApartEvent) → AreInOrder long_data channels events start
        → counted_in (settings end) k name (moves_of end events) (here_in end start) ≤ up_of k name (here_in (other end) (then_run events))
    confirms end events order = let all = run_confirms end [] events tt order (nothing_yet (here_in end start) (here_in (other end) start)) in
        omega (arith, all)
