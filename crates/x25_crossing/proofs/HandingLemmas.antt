-- What went out by a leg in its stretch, and what waits for it, is together what was told at the other one in its
-- stretch, in each state that a call comes to.
use Rattle.std.proofs.Common.{◌≡◌, ◌∙◌, ℕ, ◌⊎◌, inl, inr, List, [], ◌∷◌, ◌++◌, append_assoc, Option, Some, None}
use Rattle.std.proofs.Common.{length, refl, sym, ap, subst}
use Rattle.std.specs.Prelude.{slice_get}
use Rattle.x25_circuit.specs.Message.{Message}
use Rattle.x25_relay.specs.Relay.{refusal}
use Rattle.x25_relay.specs.declared.error.RelayError.{RelayError}
use Rattle.x25_crossing.specs.Crossing.{PlainLeg, Two, fresh, two_of}
use Rattle.x25_crossing.specs.Told.{PlainTold, connected, collided, ended, was_reset, resets_itself, delivered, interrupted, refused, lingered}
use Rattle.x25_crossing.specs.Told.{at_stage, told_two, row_lacks, left_with, gone_beside, both_reset, congested, where_room, with_message, with_interrupt}
use Rattle.x25_crossing.specs.Asking.{asked_two, sent_two, interrupt_sent_two, flowed_leg, flow_of, first_of, message_of, interrupt_of}
use Rattle.x25_crossing.specs.declared.ask.Flow.{Flow}
use Rattle.x25_crossing.specs.declared.side.Side.TheVariants.{Near, Far}
use Rattle.x25_crossing.specs.declared.stage.Stage.{Stage}
use Rattle.x25_crossing.specs.declared.stage.Stage.TheVariants.{Calls, Called, Came, Answers, Open, Resets, Resetting, Clears, Gone}
use Rattle.x25_crossing.specs.laws.HandingLaw.{Event, Tells, Lacks, Asked, Sent, InterruptSent, Flowed, Book, no_book, book_told, noted, book_asked}
use Rattle.x25_crossing.specs.laws.HandingLaw.{book_sent, book_interrupt_sent, with_up, with_int_up, Run, goes_on, after}
use Rattle.x25_crossing.specs.laws.HandingLaw.{NextGoesOut, NextInterruptGoesOut}

-- ---- of a leg from which, and one to which

pub data Kind : Type 0 where
  Waits : Kind
  Opens : Kind
  Ends : Kind
  Left : Kind

abbrev pub kind : Stage → Kind
kind Open = Opens
kind (Clears cause diagnostic) = Ends
kind Gone = Left
kind stage = Waits

-- by the kind of the leg that things go out by, and of the one that they came by
abbrev pub Hands : Kind → Kind → List Message → List Message → List Message → Type 0
Hands Opens Opens down up wait = down ++ wait ≡ up
Hands Opens Waits down up wait = (wait ≡ []) × (down ≡ [])
Hands Waits Opens down up wait = wait ≡ up
Hands Waits Waits down up wait = wait ≡ []
Hands Ends Left down up wait = (wait ≡ []) ⊎ (down ++ wait ≡ up)
Hands Ends Ends down up wait = wait ≡ []
Hands Left Ends down up wait = Unit {0}
Hands Left Left down up wait = Unit {0}
Hands a b down up wait = ⊥

-- a stretch begins at the leg that things go out by
opens_in : (k : Kind) (down up wait : List Message) → Hands Waits k down up wait → Hands Opens k [] up wait
opens_in Opens down up wait h = h
opens_in Waits down up wait h = (h, refl)
opens_in Ends down up wait h = h
opens_in Left down up wait h = h

-- a stretch begins at the leg that things come by
opens_out : (k : Kind) (down up wait : List Message) → Hands k Waits down up wait → Hands k Opens down [] wait
opens_out Opens down up wait h = ap (λ (d : List Message). d ++ wait) h.1 ∙ h.0
opens_out Waits down up wait h = h
opens_out Ends down up wait h = h
opens_out Left down up wait h = h

-- what is told in a stretch that ends isn't looked at
told_out : (k : Kind) (down up new wait : List Message) → Hands k Waits down up wait → Hands k Waits down new wait
told_out Opens down up new wait h = h
told_out Waits down up new wait h = h
told_out Ends down up new wait h = h
told_out Left down up new wait h = h

-- one more comes
comes : (k : Kind) (down up wait : List Message) (m : Message) → Hands k Opens down up wait
    → Hands k Opens down (up ++ m ∷ []) (wait ++ m ∷ [])
comes Opens down up wait m h = sym (append_assoc down wait (m ∷ [])) ∙ ap (λ (u : List Message). u ++ m ∷ []) h
comes Waits down up wait m h = ap (λ (u : List Message). u ++ m ∷ []) h
comes Ends down up wait m h = h
comes Left down up wait m h = h

-- the first one goes
goes_open : (k : Kind) (down up rest : List Message) (m : Message) → Hands Opens k down up (m ∷ rest)
    → Hands Opens k (down ++ m ∷ []) up rest
goes_open Opens down up rest m h = append_assoc down (m ∷ []) rest ∙ h
goes_open Waits down up rest m h = let none = h.0 in absurd (cc)
goes_open Ends down up rest m h = h
goes_open Left down up rest m h = h

goes_last : (down up rest : List Message) (m : Message) → (m ∷ rest ≡ []) ⊎ (down ++ m ∷ rest ≡ up)
    → (rest ≡ []) ⊎ ((down ++ m ∷ []) ++ rest ≡ up)
goes_last down up rest m (inl none) = absurd (cc)
goes_last down up rest m (inr all) = inr (append_assoc down (m ∷ []) rest ∙ all)

goes_ending : (k : Kind) (down up rest : List Message) (m : Message) → Hands Ends k down up (m ∷ rest)
    → Hands Ends k (down ++ m ∷ []) up rest
goes_ending Opens down up rest m h = h
goes_ending Waits down up rest m h = h
goes_ending Ends down up rest m h = absurd (cc)
goes_ending Left down up rest m h = goes_last down up rest m h

-- the leg that things come by is gone
left_out : (k : Kind) (down up wait : List Message) → Hands Opens k down up wait → (wait ≡ []) ⊎ (down ++ wait ≡ up)
left_out Opens down up wait h = inr h
left_out Waits down up wait h = inl h.0
left_out Ends down up wait h = absurd (h)
left_out Left down up wait h = absurd (h)

-- what waits is dropped
dropped : (k : Kind) (down up wait : List Message) → Hands Ends k down up wait → Hands Ends k down up []
dropped Opens down up wait h = h
dropped Waits down up wait h = h
dropped Ends down up wait h = refl
dropped Left down up wait h = inl refl

-- the one that is to be cleared is
cleared_in : (k : Kind) (down up wait : List Message) → Hands Ends k down up wait → Hands Left k down up wait
cleared_in Opens down up wait h = h
cleared_in Waits down up wait h = h
cleared_in Ends down up wait h = tt
cleared_in Left down up wait h = tt

cleared_out : (k : Kind) (down up wait : List Message) → Hands k Ends down up wait → Hands k Left down up wait
cleared_out Opens down up wait h = h
cleared_out Waits down up wait h = h
cleared_out Ends down up wait h = inl h
cleared_out Left down up wait h = tt

abbrev IsEnd : Kind → Type 0
IsEnd Ends = Unit {0}
IsEnd Left = Unit {0}
IsEnd k = ⊥

left_ends : (cause diagnostic : ℕ) (t : Stage) → IsEnd (kind (left_with cause diagnostic t))
left_ends cause diagnostic Calls = tt
left_ends cause diagnostic (Clears c d) = tt
left_ends cause diagnostic Gone = tt
left_ends cause diagnostic t = tt

none_at_ends : (j k : Kind) (down up : List Message) → IsEnd j → IsEnd k → Hands j k down up []
none_at_ends Ends Ends down up a b = refl
none_at_ends Ends Left down up a b = inl refl
none_at_ends Left Ends down up a b = tt
none_at_ends Left Left down up a b = tt
none_at_ends Opens k down up a b = absurd (a)
none_at_ends Waits k down up a b = absurd (a)
none_at_ends Ends Opens down up a b = absurd (b)
none_at_ends Ends Waits down up a b = absurd (b)
none_at_ends Left Opens down up a b = absurd (b)
none_at_ends Left Waits down up a b = absurd (b)

gone_in : (k : Kind) (down up wait : List Message) → IsEnd k → Hands Left k down up wait
gone_in Ends down up wait a = tt
gone_in Left down up wait a = tt
gone_in Opens down up wait a = absurd (a)
gone_in Waits down up wait a = absurd (a)

-- ---- both ways of two legs

pub record Ways (two : Two) (b d : Book) : Type 0 where
  pub come : Hands (kind two.this.stage) (kind two.other.stage) b.down d.up two.other.messages
  pub go : Hands (kind two.other.stage) (kind two.this.stage) d.down b.up two.this.messages
  pub int_come : Hands (kind two.this.stage) (kind two.other.stage) b.int_down d.int_up two.other.interrupts
  pub int_go : Hands (kind two.other.stage) (kind two.this.stage) d.int_down b.int_up two.this.interrupts

swapped : {x y : PlainLeg} {b d : Book} → Ways (record { this = x; other = y }) b d → Ways (record { this = y; other = x }) d b
swapped w = record { come = w.go; go = w.come; int_come = w.int_go; int_go = w.int_come }

abbrev two_at : Stage → Stage → PlainLeg → PlainLeg → Two
two_at s t x y = record { this = at_stage s x; other = at_stage t y }

-- a stretch begins at a leg that was to be opened
opened : (t : Stage) (x y : PlainLeg) (b d : Book) → Hands Waits (kind t) b.down d.up y.messages → Hands (kind t) Waits d.down b.up x.messages
    → Hands Waits (kind t) b.int_down d.int_up y.interrupts → Hands (kind t) Waits d.int_down b.int_up x.interrupts
    → Ways (two_at Open t x y) no_book d
opened t x y b d come go int_come int_go = record {
  come = opens_in (kind t) b.down d.up y.messages come;
  go = opens_out (kind t) d.down b.up x.messages go;
  int_come = opens_in (kind t) b.int_down d.int_up y.interrupts int_come;
  int_go = opens_out (kind t) d.int_down b.int_up x.interrupts int_go;
}

is_connected : (s t : Stage) (x y : PlainLeg) (b d : Book) → Ways (two_at s t x y) b d
    → Ways (told_two connected (two_at s t x y)) (book_told connected s b) d
is_connected Called Came x y b d w =
    let h = opened Came x y b d w.come w.go w.int_come w.int_go in
    record { come = h.come; go = h.go; int_come = h.int_come; int_go = h.int_go }
is_connected Called t x y b d w = opened t x y b d w.come w.go w.int_come w.int_go
is_connected s t x y b d w = w

is_collided : (s t : Stage) (x y : PlainLeg) (b d : Book) → Ways (two_at s t x y) b d
    → Ways (told_two collided (two_at s t x y)) (book_told collided s b) d
is_collided Called t x y b d w = record { come = w.come; go = w.go; int_come = w.int_come; int_go = w.int_go }
is_collided s t x y b d w = w

-- ---- the call ends

-- a leg is gone, and the other one is left
ends_beside : (cause diagnostic : ℕ) (s t : Stage) (x y : PlainLeg) (b d : Book) → Ways (two_at s t x y) b d
    → Ways (record { this = gone_beside t x; other = fresh (left_with cause diagnostic t) y }) b d
ends_beside cause diagnostic s Open x y b d w = record {
  come = tt;
  go = left_out (kind s) d.down b.up x.messages w.go;
  int_come = tt;
  int_go = left_out (kind s) d.int_down b.int_up x.interrupts w.int_go;
}
ends_beside cause diagnostic s t x y b d w =
    let end = left_ends cause diagnostic t in
    record {
      come = none_at_ends Left (kind (left_with cause diagnostic t)) b.down d.up tt end;
      go = none_at_ends (kind (left_with cause diagnostic t)) Left d.down b.up end tt;
      int_come = none_at_ends Left (kind (left_with cause diagnostic t)) b.int_down d.int_up tt end;
      int_go = none_at_ends (kind (left_with cause diagnostic t)) Left d.int_down b.int_up end tt;
    }

is_ended : (cause diagnostic : ℕ) (s t : Stage) (x y : PlainLeg) (b d : Book) → Ways (two_at s t x y) b d
    → Ways (told_two (ended cause diagnostic) (two_at s t x y)) b d
is_ended cause diagnostic Calls t x y b d w = w
is_ended cause diagnostic Gone t x y b d w = w
is_ended cause diagnostic s t x y b d w = ends_beside cause diagnostic s t (at_stage s x) (at_stage t y) b d w

both_left : (cause diagnostic : ℕ) (s t : Stage) (x y : PlainLeg) (b d : Book)
    → Ways (record { this = fresh (left_with cause diagnostic s) x; other = fresh (left_with cause diagnostic t) y }) b d
both_left cause diagnostic s t x y b d =
    let here = left_ends cause diagnostic s in
    let there = left_ends cause diagnostic t in
    record {
      come = none_at_ends (kind (left_with cause diagnostic s)) (kind (left_with cause diagnostic t)) b.down d.up here there;
      go = none_at_ends (kind (left_with cause diagnostic t)) (kind (left_with cause diagnostic s)) d.down b.up there here;
      int_come = none_at_ends (kind (left_with cause diagnostic s)) (kind (left_with cause diagnostic t)) b.int_down d.int_up here there;
      int_go = none_at_ends (kind (left_with cause diagnostic t)) (kind (left_with cause diagnostic s)) d.int_down b.int_up there here;
    }

is_refused : (cause diagnostic : ℕ) (s t : Stage) (x y : PlainLeg) (b d : Book) → Ways (two_at s t x y) b d
    → Ways (told_two (refused cause diagnostic) (two_at s t x y)) b d
is_refused cause diagnostic Gone t x y b d w = w
is_refused cause diagnostic s t x y b d w = both_left cause diagnostic s t (at_stage s x) (at_stage t y) b d

has_lingered : (s t : Stage) (x y : PlainLeg) (b d : Book) → Ways (two_at s t x y) b d
    → Ways (told_two lingered (two_at s t x y)) b d
has_lingered (Clears e f) t x y b d w = record {
  come = dropped (kind t) b.down d.up y.messages w.come;
  go = w.go;
  int_come = dropped (kind t) b.int_down d.int_up y.interrupts w.int_come;
  int_go = w.int_go;
}
has_lingered s t x y b d w = w

-- ---- a stretch ends

is_reset : (cause diagnostic : ℕ) (s t : Stage) (x y : PlainLeg) (b d : Book) → Ways (two_at s t x y) b d
    → Ways (told_two (was_reset cause diagnostic) (two_at s t x y)) (book_told (was_reset cause diagnostic) s b) d
is_reset cause diagnostic Open (Clears e f) x y b d w = absurd (w.come)
is_reset cause diagnostic Open Gone x y b d w = absurd (w.come)
is_reset cause diagnostic Open Open x y b d w = record { come = (refl, refl); go = refl; int_come = (refl, refl); int_go = refl }
is_reset cause diagnostic Open t x y b d w = record { come = (refl, refl); go = refl; int_come = (refl, refl); int_go = refl }
is_reset cause diagnostic (Resets e f) t x y b d w = opened t x y b d w.come w.go w.int_come w.int_go
is_reset cause diagnostic Resetting t x y b d w = opened t x y b d w.come w.go w.int_come w.int_go
is_reset cause diagnostic s t x y b d w = w

abbrev IsReset : Stage → Type 0
IsReset (Resets e f) = Unit {0}
IsReset Resetting = Unit {0}
IsReset stage = ⊥

-- whatever was told until then
both_wait : (s : Stage) (cause diagnostic : ℕ) (t : Stage) (x y : PlainLeg) (a b d : Book) → IsReset s → Ways (two_at Open t x y) a d
    → Ways (both_reset s cause diagnostic (two_at Open t x y)) b d
both_wait (Resets e f) cause diagnostic Open x y a b d k w = record { come = refl; go = refl; int_come = refl; int_go = refl }
both_wait (Resets e f) cause diagnostic (Clears g h) x y a b d k w = absurd (w.come)
both_wait (Resets e f) cause diagnostic Gone x y a b d k w = absurd (w.come)
both_wait (Resets e f) cause diagnostic t x y a b d k w = record { come = refl; go = refl; int_come = refl; int_go = refl }
both_wait Resetting cause diagnostic Open x y a b d k w = record { come = refl; go = refl; int_come = refl; int_go = refl }
both_wait Resetting cause diagnostic (Clears g h) x y a b d k w = absurd (w.come)
both_wait Resetting cause diagnostic Gone x y a b d k w = absurd (w.come)
both_wait Resetting cause diagnostic t x y a b d k w = record { come = refl; go = refl; int_come = refl; int_go = refl }
both_wait s cause diagnostic t x y a b d k w = absurd (k)

has_reset_itself : (diagnostic : ℕ) (s t : Stage) (x y : PlainLeg) (b d : Book) → Ways (two_at s t x y) b d
    → Ways (told_two (resets_itself diagnostic) (two_at s t x y)) b d
has_reset_itself diagnostic Open t x y b d w = both_wait Resetting 5 diagnostic t x y b b d tt w
has_reset_itself diagnostic (Resets e f) t x y b d w = record { come = w.come; go = w.go; int_come = w.int_come; int_go = w.int_go }
has_reset_itself diagnostic s t x y b d w = w

-- ---- something comes

is_congested : (t : Stage) (x y : PlainLeg) (a b d : Book) → Ways (two_at Open t x y) a d → Ways (congested (two_at Open t x y)) b d
is_congested t x y a b d w = both_wait (Resets 7 0) 7 0 t x y a b d tt w

where_taken : (o : Option RelayError) (m : Message) (t : Stage) (x y : PlainLeg) (b d : Book) → Ways (two_at Open t x y) b d
    → Ways (where_room o (with_message m (at_stage Open x)) (two_at Open t x y)) (with_up m b) d
where_taken None m t x y b d w = record {
  come = w.come;
  go = comes (kind t) d.down b.up x.messages m w.go;
  int_come = w.int_come;
  int_go = w.int_go;
}
where_taken (Some e) m t x y b d w = is_congested t x y b (with_up m b) d w

where_interrupted : (o : Option RelayError) (m : Message) (t : Stage) (x y : PlainLeg) (b d : Book) → Ways (two_at Open t x y) b d
    → Ways (where_room o (with_interrupt m (at_stage Open x)) (two_at Open t x y)) (with_int_up m b) d
where_interrupted None m t x y b d w = record {
  come = w.come;
  go = w.go;
  int_come = w.int_come;
  int_go = comes (kind t) d.int_down b.int_up x.interrupts m w.int_go;
}
where_interrupted (Some e) m t x y b d w = is_congested t x y b (with_int_up m b) d w

has_come : (m : Message) (s t : Stage) (x y : PlainLeg) (b d : Book) → Ways (two_at s t x y) b d
    → Ways (told_two (delivered m) (two_at s t x y)) (book_told (delivered m) s b) d
has_come m Open t x y b d w = where_taken (refusal x.most x.messages (length m.user)) m t x y b d w
has_come m (Resets e f) t x y b d w = record {
  come = w.come;
  go = told_out (kind t) d.down b.up (b.up ++ m ∷ []) x.messages w.go;
  int_come = w.int_come;
  int_go = w.int_go;
}
has_come m s t x y b d w = w

was_interrupted : (m : Message) (s t : Stage) (x y : PlainLeg) (b d : Book) → Ways (two_at s t x y) b d
    → Ways (told_two (interrupted m) (two_at s t x y)) (book_told (interrupted m) s b) d
was_interrupted m Open t x y b d w = where_interrupted (refusal 512 x.interrupts (length m.user)) m t x y b d w
was_interrupted m (Resets e f) t x y b d w = record {
  come = w.come;
  go = w.go;
  int_come = w.int_come;
  int_go = told_out (kind t) d.int_down b.int_up (b.int_up ++ m ∷ []) x.interrupts w.int_go;
}
was_interrupted m s t x y b d w = w

-- ---- what is told

told_keeps : (told : PlainTold) (s t : Stage) (x y : PlainLeg) (b d : Book) → Ways (two_at s t x y) b d
    → Ways (told_two told (two_at s t x y)) (book_told told s b) d
told_keeps connected s t x y b d w = is_connected s t x y b d w
told_keeps collided s t x y b d w = is_collided s t x y b d w
told_keeps (ended cause diagnostic) s t x y b d w = is_ended cause diagnostic s t x y b d w
told_keeps (was_reset cause diagnostic) s t x y b d w = is_reset cause diagnostic s t x y b d w
told_keeps (resets_itself diagnostic) s t x y b d w = has_reset_itself diagnostic s t x y b d w
told_keeps (delivered m) s t x y b d w = has_come m s t x y b d w
told_keeps (interrupted m) s t x y b d w = was_interrupted m s t x y b d w
told_keeps (refused cause diagnostic) s t x y b d w = is_refused cause diagnostic s t x y b d w
told_keeps lingered s t x y b d w = has_lingered s t x y b d w

-- ---- memory is refused

lacks_keeps : (told : PlainTold) (s t : Stage) (x y : PlainLeg) (b d : Book) → Ways (two_at s t x y) b d
    → Ways (row_lacks s (two_at s t x y)) (noted told s b) d
lacks_keeps told Open t x y b d w = is_congested t x y b (noted told Open b) d w
lacks_keeps (delivered m) (Resets e f) t x y b d w = has_come m (Resets e f) t x y b d w
lacks_keeps (interrupted m) (Resets e f) t x y b d w = was_interrupted m (Resets e f) t x y b d w
lacks_keeps (delivered m) s t x y b d w = w
lacks_keeps (interrupted m) s t x y b d w = w
lacks_keeps told s t x y b d w = w

-- ---- what is asked, and accepted

asked_keeps : (s t : Stage) (x y : PlainLeg) (b d : Book) → Ways (two_at s t x y) b d
    → Ways (asked_two (two_at s t x y)) (book_asked s b) d
asked_keeps Calls t x y b d w = record { come = w.come; go = w.go; int_come = w.int_come; int_go = w.int_go }
asked_keeps Answers t x y b d w = opened t x y b d w.come w.go w.int_come w.int_go
asked_keeps (Resets e f) t x y b d w = record { come = w.come; go = w.go; int_come = w.int_come; int_go = w.int_go }
asked_keeps (Clears e f) t x y b d w = record {
  come = cleared_in (kind t) b.down d.up y.messages w.come;
  go = cleared_out (kind t) d.down b.up x.messages w.go;
  int_come = cleared_in (kind t) b.int_down d.int_up y.interrupts w.int_come;
  int_go = cleared_out (kind t) d.int_down b.int_up x.interrupts w.int_go;
}
asked_keeps s t x y b d w = w

-- ---- a message or an interrupt goes out

abbrev with_messages : List Message → PlainLeg → PlainLeg
with_messages ms y = record { stage = y.stage; messages = ms; interrupts = y.interrupts; slowed = y.slowed; most = y.most }

abbrev with_interrupts : List Message → PlainLeg → PlainLeg
with_interrupts ms y = record { stage = y.stage; messages = y.messages; interrupts = ms; slowed = y.slowed; most = y.most }

abbrev SentWith : Stage → Stage → PlainLeg → PlainLeg → Book → Book → List Message → Type 0
SentWith s t x y b d ms = Ways (sent_two (two_at s t x (with_messages ms y))) (book_sent (first_of s ms) b) d

abbrev InterruptSentWith : Stage → Stage → PlainLeg → PlainLeg → Book → Book → List Message → Type 0
InterruptSentWith s t x y b d ms =
    Ways (interrupt_sent_two (two_at s t x (with_interrupts ms y))) (book_interrupt_sent (first_of s ms) b) d

sent_in : (s t : Stage) (x y : PlainLeg) (b d : Book) (ms : List Message) → y.messages ≡ ms → Ways (two_at s t x y) b d
    → Ways (sent_two (two_at s t x y)) (book_sent (message_of (two_at s t x y)) b) d
sent_in Open t x y b d [] e w = subst (SentWith Open t x y b d) (sym e) (record {
  come = subst (λ (ms : List Message). Hands Opens (kind t) b.down d.up ms) e w.come;
  go = w.go;
  int_come = w.int_come;
  int_go = w.int_go;
})
sent_in Open t x y b d (m ∷ rest) e w = subst (SentWith Open t x y b d) (sym e) (record {
  come = goes_open (kind t) b.down d.up rest m (subst (λ (ms : List Message). Hands Opens (kind t) b.down d.up ms) e w.come);
  go = w.go;
  int_come = w.int_come;
  int_go = w.int_go;
})
sent_in (Clears f g) t x y b d [] e w = subst (SentWith (Clears f g) t x y b d) (sym e) (record {
  come = subst (λ (ms : List Message). Hands Ends (kind t) b.down d.up ms) e w.come;
  go = w.go;
  int_come = w.int_come;
  int_go = w.int_go;
})
sent_in (Clears f g) t x y b d (m ∷ rest) e w = subst (SentWith (Clears f g) t x y b d) (sym e) (record {
  come = goes_ending (kind t) b.down d.up rest m (subst (λ (ms : List Message). Hands Ends (kind t) b.down d.up ms) e w.come);
  go = w.go;
  int_come = w.int_come;
  int_go = w.int_go;
})
sent_in s t x y b d ms e w = w

sent_keeps : (s t : Stage) (x y : PlainLeg) (b d : Book) → Ways (two_at s t x y) b d
    → Ways (sent_two (two_at s t x y)) (book_sent (message_of (two_at s t x y)) b) d
sent_keeps s t x y b d w = sent_in s t x y b d y.messages refl w

int_sent_in : (s t : Stage) (x y : PlainLeg) (b d : Book) (ms : List Message) → y.interrupts ≡ ms → Ways (two_at s t x y) b d
    → Ways (interrupt_sent_two (two_at s t x y)) (book_interrupt_sent (interrupt_of (two_at s t x y)) b) d
int_sent_in Open t x y b d [] e w = subst (InterruptSentWith Open t x y b d) (sym e) (record {
  come = w.come;
  go = w.go;
  int_come = subst (λ (ms : List Message). Hands Opens (kind t) b.int_down d.int_up ms) e w.int_come;
  int_go = w.int_go;
})
int_sent_in Open t x y b d (m ∷ rest) e w = subst (InterruptSentWith Open t x y b d) (sym e) (record {
  come = w.come;
  go = w.go;
  int_come = goes_open (kind t) b.int_down d.int_up rest m (subst (λ (ms : List Message). Hands Opens (kind t) b.int_down d.int_up ms) e w.int_come);
  int_go = w.int_go;
})
int_sent_in (Clears f g) t x y b d [] e w = subst (InterruptSentWith (Clears f g) t x y b d) (sym e) (record {
  come = w.come;
  go = w.go;
  int_come = subst (λ (ms : List Message). Hands Ends (kind t) b.int_down d.int_up ms) e w.int_come;
  int_go = w.int_go;
})
int_sent_in (Clears f g) t x y b d (m ∷ rest) e w = subst (InterruptSentWith (Clears f g) t x y b d) (sym e) (record {
  come = w.come;
  go = w.go;
  int_come = goes_ending (kind t) b.int_down d.int_up rest m (subst (λ (ms : List Message). Hands Ends (kind t) b.int_down d.int_up ms) e w.int_come);
  int_go = w.int_go;
})
int_sent_in s t x y b d ms e w = w

int_sent_keeps : (s t : Stage) (x y : PlainLeg) (b d : Book) → Ways (two_at s t x y) b d
    → Ways (interrupt_sent_two (two_at s t x y)) (book_interrupt_sent (interrupt_of (two_at s t x y)) b) d
int_sent_keeps s t x y b d w = int_sent_in s t x y b d y.interrupts refl w

flow_keeps : (o : Option Flow) (s t : Stage) (x y : PlainLeg) (b d : Book) → Ways (two_at s t x y) b d
    → Ways (record { this = flowed_leg o (at_stage s x); other = at_stage t y }) b d
flow_keeps None s t x y b d w = w
flow_keeps (Some flow) s t x y b d w = record { come = w.come; go = w.go; int_come = w.int_come; int_go = w.int_go }

-- ---- over a whole run

abbrev pub Kept : Run → Type 0
Kept r = Ways (two_of Near r.call) r.near r.far

pub step_keeps : (e : Event) (r : Run) → Kept r → Kept (goes_on e r)
step_keeps (Tells Near told) r w = told_keeps told r.call.near.stage r.call.far.stage r.call.near r.call.far r.near r.far w
step_keeps (Tells Far told) r w = swapped (told_keeps told r.call.far.stage r.call.near.stage r.call.far r.call.near r.far r.near (swapped w))
step_keeps (Lacks Near told) r w = lacks_keeps told r.call.near.stage r.call.far.stage r.call.near r.call.far r.near r.far w
step_keeps (Lacks Far told) r w = swapped (lacks_keeps told r.call.far.stage r.call.near.stage r.call.far r.call.near r.far r.near (swapped w))
step_keeps (Asked Near) r w = asked_keeps r.call.near.stage r.call.far.stage r.call.near r.call.far r.near r.far w
step_keeps (Asked Far) r w = swapped (asked_keeps r.call.far.stage r.call.near.stage r.call.far r.call.near r.far r.near (swapped w))
step_keeps (Sent Near) r w = sent_keeps r.call.near.stage r.call.far.stage r.call.near r.call.far r.near r.far w
step_keeps (Sent Far) r w = swapped (sent_keeps r.call.far.stage r.call.near.stage r.call.far r.call.near r.far r.near (swapped w))
step_keeps (InterruptSent Near) r w = int_sent_keeps r.call.near.stage r.call.far.stage r.call.near r.call.far r.near r.far w
step_keeps (InterruptSent Far) r w = swapped (int_sent_keeps r.call.far.stage r.call.near.stage r.call.far r.call.near r.far r.near (swapped w))
step_keeps (Flowed Near) r w = flow_keeps (flow_of r.call.near) r.call.near.stage r.call.far.stage r.call.near r.call.far r.near r.far w
step_keeps (Flowed Far) r w =
    swapped (flow_keeps (flow_of r.call.far) r.call.far.stage r.call.near.stage r.call.far r.call.near r.far r.near (swapped w))

pub after_keeps : (most : ℕ) (es : List Event) → Kept (after most es)
after_keeps most [] = record { come = refl; go = refl; int_come = refl; int_go = refl }
after_keeps most (e ∷ es) = step_keeps e (after most es) (after_keeps most es)

-- ---- so what goes out next is the next

first_is : (ms : List Message) (m : Message) → slice_get ms 0 ≡ Some m → (rest : List Message) × (ms ≡ m ∷ rest)
first_is [] m h = absurd (cc)
first_is (n ∷ ms) m h = (ms, cc)

open_next : (k : Kind) (down up rest : List Message) (m : Message) → Hands Opens k down up (m ∷ rest) → down ++ m ∷ rest ≡ up
open_next Opens down up rest m h = h
open_next Waits down up rest m h = let none = h.0 in absurd (cc)
open_next Ends down up rest m h = absurd (h)
open_next Left down up rest m h = absurd (h)

last_next : (down up rest : List Message) (m : Message) → (m ∷ rest ≡ []) ⊎ (down ++ m ∷ rest ≡ up) → down ++ m ∷ rest ≡ up
last_next down up rest m (inl none) = absurd (cc)
last_next down up rest m (inr all) = all

ending_next : (k : Kind) (down up rest : List Message) (m : Message) → Hands Ends k down up (m ∷ rest) → down ++ m ∷ rest ≡ up
ending_next Opens down up rest m h = absurd (h)
ending_next Waits down up rest m h = absurd (h)
ending_next Ends down up rest m h = absurd (cc)
ending_next Left down up rest m h = last_next down up rest m h

next_of : (s : Stage) (k : Kind) (down up ms : List Message) (m : Message) → first_of s ms ≡ Some m → Hands (kind s) k down up ms
    → (rest : List Message) × (down ++ m ∷ rest ≡ up)
next_of Open k down up ms m f h =
    let first = first_is ms m f in
    (first.0, open_next k down up first.0 m (subst (λ (all : List Message). Hands Opens k down up all) first.1 h))
next_of (Clears e g) k down up ms m f h =
    let first = first_is ms m f in
    (first.0, ending_next k down up first.0 m (subst (λ (all : List Message). Hands Ends k down up all) first.1 h))
next_of s k down up ms m f h = absurd (cc)

pub next_goes_out : NextGoesOut
next_goes_out most es Near m f =
    let r = after most es in
    next_of r.call.near.stage (kind r.call.far.stage) r.near.down r.far.up r.call.far.messages m f (after_keeps most es).come
next_goes_out most es Far m f =
    let r = after most es in
    next_of r.call.far.stage (kind r.call.near.stage) r.far.down r.near.up r.call.near.messages m f (after_keeps most es).go

pub next_interrupt_goes_out : NextInterruptGoesOut
next_interrupt_goes_out most es Near m f =
    let r = after most es in
    next_of r.call.near.stage (kind r.call.far.stage) r.near.int_down r.far.int_up r.call.far.interrupts m f (after_keeps most es).int_come
next_interrupt_goes_out most es Far m f =
    let r = after most es in
    next_of r.call.far.stage (kind r.call.near.stage) r.far.int_down r.near.int_up r.call.near.interrupts m f (after_keeps most es).int_go
