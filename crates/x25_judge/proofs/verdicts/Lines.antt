-- What a line makes of the judge, where it is a frame.
use Rattle.x25_judge.proofs.verdicts.Names.{◌≡◌, inl, inr, ℕ, Bool, true, false, List, Option, Some, None, Err, refl, sym, ap, ◌∙◌, subst, is_some, not, ◌&&◌}
use Rattle.x25_judge.proofs.verdicts.Names.{both_ways, or_parts, cond_both, first, Role, Dte, Dce, PlainFrame, info, other, PacketRule, Answer, own_of, counts_packet}
use Rattle.x25_judge.proofs.verdicts.Names.{counts_carried, all_told, is_open, told_frame, remark_of, next_by, seen_by, missed_by, next_missed, no_frame}
use Rattle.x25_judge.proofs.verdicts.Names.{tallies, read_of, sent_of, answer_to, Both, breaks_order, is_of_manners, Judge, Rule, Packet, Shows, IsDamaged}
use Rattle.x25_judge.proofs.verdicts.Names.{is_of_order, gap_in, n1, frame_of, FrameError, Short, BadFcs, visible_reads, End}
use Rattle.std.specs.Prelude.{unwrap_or}
use Rattle.x25_packet.specs.Reading.{channel_in}
use Rattle.x25_packet_judge.specs.Book as book

pub other_twice : (from : Role) → other (other from) ≡ from
other_twice Dte = refl
other_twice Dce = refl

-- ---- the answer to a line

pub answered : (j : Judge) (line : List ℕ) (from : Role) (octets : List ℕ) (frame : PlainFrame) → Shows line from octets frame
    → answer_to j line ≡ told_frame j from octets frame (seen_by j from frame)
unfolding answer_to
answered j line from octets frame shows =
    ap (λ (s : Option (Role × List ℕ)). sent_of j (gap_in line) s) shows.spells ∙ ap (λ r. read_of j from octets r) shows.reads

-- ---- the judge behind it

-- its ends are those that it shows
pub record Goes (k : Judge) (from : Role) (sender hearer : End) : Type 0 where
  pub own : own_of from k ≡ sender
  pub opposite : own_of (other from) k ≡ hearer

carried_any : (from : Role) (frame : PlainFrame) (is_again is_judged : Bool) (j : Judge) (P : Judge → Type 0) → P j
    → ((c : ℕ) → P (counts_packet from c is_judged j)) → P (counts_carried from frame is_again is_judged j)
unfolding counts_carried
carried_any from (info ns nr p octets) false is_judged j P h g = g (unwrap_or (channel_in octets) 0)
carried_any from frame is_again is_judged j P h g = h

pub next_goes : (from : Role) (j : Judge) (frame : PlainFrame) (t : Both) (s : book.Seen) (in_doubt : Bool) (rule : Option Rule)
    → Goes (tallies in_doubt rule (next_by from frame t s j)) from t.own t.other
next_goes Dte j frame t s in_doubt rule =
    carried_any Dte frame t.seen.is_again s.verdict.is_judged _ (λ k. Goes (tallies in_doubt rule k) Dte t.own t.other)
    (record { own = refl; opposite = refl }) (λ c. record { own = refl; opposite = refl })
next_goes Dce j frame t s in_doubt rule =
    carried_any Dce frame t.seen.is_again s.verdict.is_judged _ (λ k. Goes (tallies in_doubt rule k) Dce t.own t.other)
    (record { own = refl; opposite = refl }) (λ c. record { own = refl; opposite = refl })

pub goes : (j : Judge) (line : List ℕ) (from : Role) (octets : List ℕ) (frame : PlainFrame) → Shows line from octets frame
    → Goes (answer_to j line).next from (seen_by j from frame).own (seen_by j from frame).other
goes j line from octets frame shows =
    let t = seen_by j from frame in
    let s = book.sees from j.reading frame (breaks_order t.seen.rule) t.seen.is_open j.book in
    subst (λ (a : Answer). Goes a.next from t.own t.other) (sym (answered j line from octets frame shows))
    (next_goes from j frame t s _ (all_told t.seen.rule s.verdict.rule))

-- ---- the judge behind octets that are damaged

abbrev Past : Judge → Judge → Role → Type 0
Past j k from = Goes k from (missed_by j from).own (missed_by j from).other

pub next_past : (from : Role) (e : FrameError) (in_doubt : Bool) (j : Judge)
    → Past j (tallies in_doubt (no_frame e) (next_missed from e (missed_by j from) j)) from
next_past Dte e in_doubt j = record { own = refl; opposite = refl }
next_past Dce e in_doubt j = record { own = refl; opposite = refl }

pub past : (j : Judge) (line : List ℕ) (from : Role) (octets : List ℕ) → IsDamaged line from octets → Past j (answer_to j line).next from
unfolding answer_to
past j line from octets broken =
    elim (visible_reads from n1 octets broken.visible) [ inl short ↦ read Short short | inr bad ↦ read BadFcs bad ]
  where
    read : (e : FrameError) → frame_of from n1 octets ≡ Err e → Past j (answer_to j line).next from
    read e is =
        subst (λ (a : Answer). Past j a.next from)
        (sym (ap (λ (s : Option (Role × List ℕ)). sent_of j (gap_in line) s) broken.spells ∙ ap (λ r. read_of j from octets r) is))
        (next_past from e _ j)

-- ---- what is told

-- the first of two is one of them
pub first_is : (P : Option Rule → Type 0) (r m : Option Rule) → P r → P m → P (first r m)
first_is P None m a b = b
first_is P (Some r) None a b = a
first_is P (Some r) (Some m) a b = cond_both (is_of_manners r && not (is_of_manners m)) (Some m) (Some r) P (λ _. b) (λ _. a)

pub told_of_order : (r : Option Rule) (packet : Option PacketRule) → is_of_order r ≡ false → is_of_order (all_told r packet) ≡ false
told_of_order r None h = h
told_of_order r (Some packet) h = first_is (λ o. is_of_order o ≡ false) r (Some (Packet packet)) h refl

-- a rule is told, or manners are
abbrev pub IsTold : Option Rule → Type 0
IsTold r = is_some r ≡ true

pub first_keeps : (r last : Option Rule) → IsTold r → IsTold (first r last)
first_keeps None last h = absurd (both_ways false refl h)
first_keeps (Some rule) None h = h
first_keeps (Some rule) (Some last) h = first_is IsTold (Some rule) (Some last) refl refl

pub all_of : (r : Option Rule) (packet : Option PacketRule) → IsTold r → IsTold (all_told r packet)
all_of r None h = h
all_of r (Some packet) h = first_keeps r (Some (Packet packet)) h

told_none : (r : Option Rule) (packet : Option PacketRule) → is_some (all_told r packet) ≡ false → r ≡ None
told_none None packet h = refl
told_none (Some rule) packet h = absurd (both_ways (is_some (all_told (Some rule) packet)) h (all_of (Some rule) packet refl))

-- no fault: no rule of the link layer is told
pub none_told : (j : Judge) (line : List ℕ) (from : Role) (octets : List ℕ) (frame : PlainFrame) → Shows line from octets frame
    → (answer_to j line).is_faulty ≡ false → (seen_by j from frame).seen.rule ≡ None
none_told j line from octets frame shows quiet =
    let t = seen_by j from frame in
    let v = (book.sees from j.reading frame (breaks_order t.seen.rule) t.seen.is_open j.book).verdict in
    let r = remark_of j from frame t in
    let here = sym (ap (λ (a : Answer). a.is_faulty) (answered j line from octets frame shows)) ∙ quiet in
    told_none t.seen.rule v.rule (or_parts (is_some r.rule) (is_open j.strictness r) here).0
