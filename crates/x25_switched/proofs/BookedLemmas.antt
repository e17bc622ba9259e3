-- A call whose books have what the transcripts have hands on, at the far line, nothing but the next of what was told.
use Rattle.std.proofs.Common.{◌≡◌, ◌∙◌, ℕ, List, [], ◌∷◌, ◌++◌, length, drop, Bool, true, false, if◌then◌else◌, Option, Some, None, refl, sym, ap, subst}
use Rattle.std.proofs.lemmas.List.{drop_at}
use Rattle.x25_circuit.specs.Message.{Message}
use Rattle.x25_handshakes.specs.laws.Histories.{IsPrefix}
use Rattle.x25_station.specs.Config.{Settings}
use Rattle.x25_peer.specs.laws.BesideSessions.{BesideSessions, ReachedBeside, start}
use Rattle.x25_peer.specs.laws.BesideSessions as beside
use Rattle.x25_crossing.specs.Asking.{message_of, interrupt_of}
use Rattle.x25_crossing.specs.Crossing.{two_of}
use Rattle.x25_crossing.specs.Told.{PlainTold, delivered, interrupted}
use Rattle.x25_crossing.specs.declared.side.Side.TheVariants.{Near as NearSide, Far as FarSide}
use Rattle.x25_crossing.specs.declared.stage.Stage.{Stage}
use Rattle.x25_crossing.specs.declared.stage.Stage.TheVariants.{Answers, Open, Resets}
use Rattle.x25_crossing.specs.laws.HandingLaw.{Event, Tells, Lacks, Asked, Sent, InterruptSent, Flowed, Book, Run, after, begins, no_book, noted}
use Rattle.x25_crossing.specs.laws.HandingLaw.{book_asked, book_sent, book_interrupt_sent, stage_at, NextGoesOut, NextInterruptGoesOut}
use Rattle.x25_crossing.specs.laws.HandingLaw as handing
use Rattle.x25_switched.specs.laws.Booked.{texts, IsBooked, Follows, at_near, at_far, unseen_at_far, OfFollowedCalls}
use Rattle.x25_switched.specs.laws.Booked as booked
use Rattle.x25_switched.specs.laws.SwitchClaims.{ThroughTheSwitch}
use Rattle.x25_switched.specs.laws.Switched.{Bond, Switched, messages_up, messages_down, interrupts_up, interrupts_down, Goes, Here, There, HandsOn}
use Rattle.x25_switched.specs.laws.Switched.{Nothing, Next, Near, Far, ReachedThrough, at_start, goes_on}
use Rattle.x25_switched.proofs.SwitchLemmas.{goes_grows}

-- ---- where nothing was handed down yet

none_before : {T : Type 0} (xs ys : List T) → IsPrefix xs ys → ys ≡ [] → xs ≡ []
none_before [] ys a none = refl
none_before (x ∷ xs) ys a none = let e = a.1 ∙ none in absurd (cc)

module _ (c d : Settings) (b : Bond) where
  near_first : {w : BesideSessions} → ReachedBeside c w → ReachedThrough c d b (record { near = w; far = start d })
  near_first beside.at_start = at_start
  near_first (beside.here w v reached does) =
      goes_on (record { near = w; far = start d }) (record { near = v; far = start d }) (near_first reached) (Near v (Here does))
  near_first (beside.elsewhere w v reached away) =
      goes_on (record { near = w; far = start d }) (record { near = v; far = start d }) (near_first reached) (Near v (There away))

  far_goes : (w u v : BesideSessions) → Goes d u v → messages_down v b.far ≡ [] → interrupts_down v b.far ≡ []
      → (messages_down u b.far ≡ [] → interrupts_down u b.far ≡ [] → ReachedThrough c d b (record { near = w; far = u }))
      → ReachedThrough c d b (record { near = w; far = v })
  far_goes w u v goes none int_none before =
      let g = goes_grows d b.far u v goes in
      let was = none_before (messages_down u b.far) (messages_down v b.far) g.down none in
      let int_was = none_before (interrupts_down u b.far) (interrupts_down v b.far) g.int_down int_none in
      goes_on (record { near = w; far = u }) (record { near = w; far = v }) (before was int_was)
      (Far v goes (Nothing (none ∙ sym was)) (Nothing (int_none ∙ sym int_was)))

  far_then : (w : BesideSessions) → ReachedBeside c w → {v : BesideSessions} → ReachedBeside d v → messages_down v b.far ≡ []
      → interrupts_down v b.far ≡ [] → ReachedThrough c d b (record { near = w; far = v })
  far_then w near beside.at_start none int_none = near_first near
  far_then w near (beside.here u v reached does) none int_none =
      far_goes w u v (Here does) none int_none (λ was int_was. far_then w near reached was int_was)
  far_then w near (beside.elsewhere u v reached away) none int_none =
      far_goes w u v (There away) none int_none (λ was int_was. far_then w near reached was int_was)

-- ---- what goes on

-- nothing more went out, or a stretch begins
data Hands {T : Type 0} (up down next : List T) : Type 0 where
  Same : next ≡ down → Hands up down next
  Begins : next ≡ [] → Hands up down next
  One : (x : T) (rest : List T) → down ++ x ∷ rest ≡ up → next ≡ down ++ x ∷ [] → Hands up down next

-- as the transcripts have it, which grow
on_transcripts : {T : Type 0} (up down next : List T) → IsPrefix down next → Hands up down next → HandsOn up down next
on_transcripts up down next grows (Same e) = Nothing e
on_transcripts up down next grows (Begins none) = Nothing (none ∙ sym (none_before down next grows none))
on_transcripts up down next grows (One x rest all e) =
    Next x rest (ap (drop (length down)) (sym all) ∙ drop_at down (x ∷ rest) (length down) refl) e

texts_append : (ms ns : List Message) → texts (ms ++ ns) ≡ texts ms ++ texts ns
texts_append [] ns = refl
texts_append (m ∷ ms) ns = ap (λ (ts : List (List ℕ)). m.user ∷ ts) (texts_append ms ns)

as_texts : (up down next : List Message) → Hands up down next → Hands (texts up) (texts down) (texts next)
as_texts up down next (Same e) = Same (ap texts e)
as_texts up down next (Begins none) = Begins (ap texts none)
as_texts up down next (One m rest all e) =
    One m.user (texts rest) (sym (texts_append down (m ∷ rest)) ∙ ap texts all) (ap texts e ∙ texts_append down (m ∷ []))

-- ---- of the books, by what happens

noted_down : (told : PlainTold) (s : Stage) (b : Book) → (noted told s b).down ≡ b.down
noted_down (delivered m) Open b = refl
noted_down (delivered m) (Resets c d) b = refl
noted_down (delivered m) s b = refl
noted_down (interrupted m) Open b = refl
noted_down (interrupted m) (Resets c d) b = refl
noted_down (interrupted m) s b = refl
noted_down told s b = refl

noted_int_down : (told : PlainTold) (s : Stage) (b : Book) → (noted told s b).int_down ≡ b.int_down
noted_int_down (delivered m) Open b = refl
noted_int_down (delivered m) (Resets c d) b = refl
noted_int_down (delivered m) s b = refl
noted_int_down (interrupted m) Open b = refl
noted_int_down (interrupted m) (Resets c d) b = refl
noted_int_down (interrupted m) s b = refl
noted_int_down told s b = refl

told_down : (begin : Bool) (told : PlainTold) (s : Stage) (b : Book) (up : List Message)
    → Hands up b.down (if begin then no_book else noted told s b).down
told_down true told s b up = Begins refl
told_down false told s b up = Same (noted_down told s b)

told_int_down : (begin : Bool) (told : PlainTold) (s : Stage) (b : Book) (up : List Message)
    → Hands up b.int_down (if begin then no_book else noted told s b).int_down
told_int_down true told s b up = Begins refl
told_int_down false told s b up = Same (noted_int_down told s b)

asked_down : (s : Stage) (b : Book) (up : List Message) → Hands up b.down (book_asked s b).down
asked_down Answers b up = Begins refl
asked_down s b up = Same refl

asked_int_down : (s : Stage) (b : Book) (up : List Message) → Hands up b.int_down (book_asked s b).int_down
asked_int_down Answers b up = Begins refl
asked_int_down s b up = Same refl

-- what goes out next is the next of these
abbrev IsNext : Option Message → List Message → List Message → Type 0
IsNext o down up = (m : Message) → o ≡ Some m → (rest : List Message) × (down ++ m ∷ rest ≡ up)

sent_down : (o : Option Message) (b : Book) (up : List Message) → IsNext o b.down up → Hands up b.down (book_sent o b).down
sent_down None b up next = Same refl
sent_down (Some m) b up next = let h = next m refl in One m h.0 h.1 refl

sent_int_down : (o : Option Message) (b : Book) (up : List Message) → Hands up b.int_down (book_sent o b).int_down
sent_int_down None b up = Same refl
sent_int_down (Some m) b up = Same refl

int_sent_down : (o : Option Message) (b : Book) (up : List Message) → Hands up b.down (book_interrupt_sent o b).down
int_sent_down None b up = Same refl
int_sent_down (Some m) b up = Same refl

int_sent_int_down : (o : Option Message) (b : Book) (up : List Message) → IsNext o b.int_down up
    → Hands up b.int_down (book_interrupt_sent o b).int_down
int_sent_int_down None b up next = Same refl
int_sent_int_down (Some m) b up next = let h = next m refl in One m h.0 h.1 refl

messages_step : (e : Event) (r : Run) → IsNext (message_of (two_of FarSide r.call)) r.far.down r.near.up
    → Hands r.near.up r.far.down (handing.goes_on e r).far.down
messages_step (Tells NearSide told) r next = Same refl
messages_step (Tells FarSide told) r next = told_down (begins told (stage_at FarSide r.call)) told (stage_at FarSide r.call) r.far r.near.up
messages_step (Lacks NearSide told) r next = Same refl
messages_step (Lacks FarSide told) r next = Same (noted_down told (stage_at FarSide r.call) r.far)
messages_step (Asked NearSide) r next = Same refl
messages_step (Asked FarSide) r next = asked_down (stage_at FarSide r.call) r.far r.near.up
messages_step (Sent NearSide) r next = Same refl
messages_step (Sent FarSide) r next = sent_down (message_of (two_of FarSide r.call)) r.far r.near.up next
messages_step (InterruptSent NearSide) r next = Same refl
messages_step (InterruptSent FarSide) r next = int_sent_down (interrupt_of (two_of FarSide r.call)) r.far r.near.up
messages_step (Flowed NearSide) r next = Same refl
messages_step (Flowed FarSide) r next = Same refl

interrupts_step : (e : Event) (r : Run) → IsNext (interrupt_of (two_of FarSide r.call)) r.far.int_down r.near.int_up
    → Hands r.near.int_up r.far.int_down (handing.goes_on e r).far.int_down
interrupts_step (Tells NearSide told) r next = Same refl
interrupts_step (Tells FarSide told) r next =
    told_int_down (begins told (stage_at FarSide r.call)) told (stage_at FarSide r.call) r.far r.near.int_up
interrupts_step (Lacks NearSide told) r next = Same refl
interrupts_step (Lacks FarSide told) r next = Same (noted_int_down told (stage_at FarSide r.call) r.far)
interrupts_step (Asked NearSide) r next = Same refl
interrupts_step (Asked FarSide) r next = asked_int_down (stage_at FarSide r.call) r.far r.near.int_up
interrupts_step (Sent NearSide) r next = Same refl
interrupts_step (Sent FarSide) r next = sent_int_down (message_of (two_of FarSide r.call)) r.far r.near.int_up
interrupts_step (InterruptSent NearSide) r next = Same refl
interrupts_step (InterruptSent FarSide) r next = int_sent_int_down (interrupt_of (two_of FarSide r.call)) r.far r.near.int_up next
interrupts_step (Flowed NearSide) r next = Same refl
interrupts_step (Flowed FarSide) r next = Same refl

-- ---- so the far line hands on

as_these : {T : Type 0} (up down next ups downs nexts : List T) → up ≡ ups → down ≡ downs → next ≡ nexts → Hands ups downs nexts
    → Hands up down next
as_these up down next ups downs nexts e f g h =
    subst (λ xs. Hands xs down next) (sym e) (subst (λ xs. Hands ups xs next) (sym f) (subst (λ xs. Hands ups downs xs) (sym g) h))

is_booked : {c d : Settings} {b : Bond} {most : ℕ} {s : Switched} {es : List Event} → Follows c d b most s es → IsBooked b s (after most es)
is_booked (booked.begins s es near far none int_none is) = is
is_booked (at_near s v es fs follows goes is) = is
is_booked (at_far s v es e follows goes is) = is
is_booked (unseen_at_far s v es follows goes is) = is
is_booked (booked.elsewhere s es fs follows is) = is

module _ (next : NextGoesOut) (next_interrupt : NextInterruptGoesOut) where
  is_reached : (c d : Settings) (b : Bond) (most : ℕ) {s : Switched} {es : List Event} → Follows c d b most s es → ReachedThrough c d b s
  is_reached c d b most (booked.begins s es near far none int_none is) = far_then c d b s.near near far none int_none
  is_reached c d b most (at_near s v es fs follows goes is) =
      goes_on s (record s { near = v }) (is_reached c d b most follows) (Near v goes)
  is_reached c d b most (at_far s v es e follows goes is) =
      let g = goes_grows d b.far s.far v goes in
      let was = is_booked follows in
      let r = after most es in
      goes_on s (record s { far = v }) (is_reached c d b most follows) (Far v goes
      (on_transcripts (messages_up s.near b.near) (messages_down s.far b.far) (messages_down v b.far) g.down
      (as_these (messages_up s.near b.near) (messages_down s.far b.far) (messages_down v b.far) r.near.up r.far.down
      (handing.goes_on e r).far.down was.up was.down is.down (messages_step e r (λ m. next most es FarSide m))))
      (on_transcripts (interrupts_up s.near b.near) (interrupts_down s.far b.far) (interrupts_down v b.far) g.int_down
      (as_these (interrupts_up s.near b.near) (interrupts_down s.far b.far) (interrupts_down v b.far) (texts r.near.int_up)
      (texts r.far.int_down) (texts (handing.goes_on e r).far.int_down) was.int_up was.int_down is.int_down
      (as_texts r.near.int_up r.far.int_down (handing.goes_on e r).far.int_down (interrupts_step e r (λ m. next_interrupt most es FarSide m))))))
  is_reached c d b most (unseen_at_far s v es follows goes is) =
      let was = is_booked follows in
      goes_on s (record s { far = v }) (is_reached c d b most follows)
      (Far v goes (Nothing (is.down ∙ sym was.down)) (Nothing (is.int_down ∙ sym was.int_down)))
  is_reached c d b most (booked.elsewhere s es fs follows is) = is_reached c d b most follows

  pub of_followed : (Holds : Bond → Switched → Type 0) → ThroughTheSwitch Holds → OfFollowedCalls Holds
  of_followed Holds through c d ac ad b most s es follows = through c d ac ad b s (is_reached c d b most follows)
