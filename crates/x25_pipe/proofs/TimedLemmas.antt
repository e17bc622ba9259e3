-- How a station that has a clock stands after a turn, and a turn that is made in parts.
use Rattle.x25_pipe.proofs.Names.{◌≡◌, ◌∙◌, ◌<◌, ℕ, zero, suc, Bool, false, List, [], ◌∷◌, ◌++◌, Option, Some, None, Result, append_assoc, ap, refl, sym, subst}
use Rattle.x25_pipe.proofs.Names.{arith, ◌||◌, append-nil, or-false, Due, Times, Deadlines, Seen, after_due, due_of, heeded, lines_of, AppendsPrefix}
use Rattle.x25_pipe.proofs.Names.{prefix_more, Settings, FitsStation, Timed, TimedTurn, answer_turn, due_first, due_turns, insist_turn, new_timed, time_said}
use Rattle.std.{proofs.Math.Bool.{or_assoc}, proofs.lemmas.Result.{MatchResult-weaker}, specs.Io.KnownBytes.{Appends}}
use Rattle.x25_clock.specs.Clock.{nothing_awaited, plain}
use Rattle.x25_io.proofs.{LooseLemmas.{lines_asked}, TakerLemmas.{between}, ToldLemmas.{told_prefix}}
use Rattle.x25_io.specs.{HeldLine.{HoldsLine}, Loose.{asked_lines, asked_text}, code.LinesLead.{LinesLead}}
use Rattle.x25_io.specs.declared.{fault.Fault.{Fault}, held_line.HeldLine.{HeldLine}}
use Rattle.x25_pipe.proofs.{Names.{moment_of, timed_turn, timed_turns, told_due}, PipeLemmas.{stands_first}}
use Rattle.x25_pipe.specs.{Timed.{and_then, begins, mark_turn, pass_turn, timed, timed_text, writes}, code.TimedStands.{StandsTimed, StandsTimedAt, StoodTimed}}
use Rattle.x25_pipe.specs.{code.TimedStream.{AnswersTimed, LeavesTimed, WritesTimed}, declared.timed.TimedPipe.{TimedPipe}}
use Rattle.x25_station.specs.Station.{new_station}

-- the clock heeds the same
pub heeded_alike : (times times' : Times) (now now' : ℕ) (x x' : Seen) (d d' : Deadlines) → times ≡ times' → now ≡ now' → x ≡ x' → d ≡ d'
    → heeded times now x d ≡ heeded times' now' x' d'
heeded_alike times times' now now' x x' d d' a b e f =
    ap (λ (t : Times). heeded t now x d) a ∙ ap (λ (n : ℕ). heeded times' n x d) b ∙ ap (λ (y : Seen). heeded times' now' y d) e ∙ ap (heeded times' now' x') f

module _ (c : Settings) (times : Times) (old next : Option (List ℕ)) (told : List ℕ) (refused : Bool) (rest : Timed → TimedTurn) (t : TimedTurn) where
  pub stands_behind : (u : TimedPipe) → StandsTimedAt c times old next u (told ++ t.text) (refused || t.is_refused) (rest t.next)
      → StandsTimedAt c times old next u told refused (and_then rest t)
  stands_behind u h =
      subst (λ text. StandsTimed c times old next u (rest t.next).next text (refused || (and_then rest t).is_refused))
      (append_assoc told t.text (rest t.next).text)
      (subst (StandsTimed c times old next u (rest t.next).next ((told ++ t.text) ++ (rest t.next).text))
      (or_assoc refused t.is_refused (rest t.next).is_refused) h)

  pub begins_behind : AppendsPrefix old next ((told ++ t.text) ++ (rest t.next).text) → AppendsPrefix old next (told ++ (and_then rest t).text)
  begins_behind b = subst (AppendsPrefix old next) (append_assoc told t.text (rest t.next).text) b

  pub begins_before : AppendsPrefix old next (told ++ t.text) → AppendsPrefix old next (told ++ (and_then rest t).text)
  begins_before b = subst (AppendsPrefix old next) (append_assoc told t.text (rest t.next).text) (prefix_more old next (told ++ t.text) (rest t.next).text b)

  -- one turn behind another
  pub stood_behind : (u : TimedPipe) (result : Result Unit Fault)
      → StoodTimed c times old next u (told ++ t.text) (refused || t.is_refused) result (rest t.next)
      → StoodTimed c times old next u told refused result (and_then rest t)
  stood_behind u result h = MatchResult-weaker result h (λ _ s. stands_behind u s) (λ _ b. begins_behind b)

-- ---- a turn that is made in parts

module _ (c : Settings) (times : Times) (old now next : Option (List ℕ)) (p u : TimedPipe) (told : List ℕ) (refused : Bool) (whole : TimedTurn) where
  -- nothing of it is left but what says nothing
  pub none_left : (rest : Timed → TimedTurn) (l : LeavesTimed c times old now p rest told refused whole) (w : Timed) → rest l.at ≡ writes w []
      → StandsTimed c times old next u w l.text l.status
      → StandsTimedAt c times old next u told refused whole
  none_left rest l w is h =
      let at : w ≡ whole.next = sym (ap (λ t. t.next) is) ∙ l.next in
      let text : l.text ≡ told ++ whole.text = sym (append-nil l.text) ∙ sym (ap (λ t. l.text ++ t.text) is) ∙ l.same in
      let any : l.status ≡ (refused || whole.is_refused) = sym (or-false l.status) ∙ sym (ap (λ t. l.status || t.is_refused) is) ∙ l.any in
      subst (λ v. StandsTimed c times old next u v (told ++ whole.text) (refused || whole.is_refused)) at
      (subst (λ t. StandsTimed c times old next u w t (refused || whole.is_refused)) text
      (subst (StandsTimed c times old next u w l.text) any h))

  -- a part of it is done
  pub part_done : (all rest : Timed → TimedTurn) (first : TimedTurn) (l : LeavesTimed c times old now p all told refused whole) → all l.at ≡ and_then rest first
      → StandsTimedAt c times old next u l.text l.status first → LeavesTimed c times old next u rest told refused whole
  part_done all rest first l e h = record {
    at = first.next;
    text = l.text ++ first.text;
    status = l.status || first.is_refused;
    stands = h;
    next = sym (ap (λ t. t.next) e) ∙ l.next;
    same = append_assoc l.text first.text (rest first.next).text ∙ sym (ap (λ t. l.text ++ t.text) e) ∙ l.same;
    any = or_assoc l.status first.is_refused (rest first.next).is_refused ∙ sym (ap (λ t. l.status || t.is_refused) e) ∙ l.any;
  }

  -- a part of it failed
  pub part_failed : (all rest : Timed → TimedTurn) (first : TimedTurn) (l : LeavesTimed c times old now p all told refused whole) → all l.at
      ≡ and_then rest first
      → AppendsPrefix old next (l.text ++ first.text) → AppendsPrefix old next (told ++ whole.text)
  part_failed all rest first l e b =
      subst (AppendsPrefix old next) (append_assoc l.text first.text (rest first.next).text ∙ sym (ap (λ t. l.text ++ t.text) e) ∙ l.same)
      (prefix_more old next (l.text ++ first.text) (rest first.next).text b)

  -- nothing more is told
  pub given_up : (rest : Timed → TimedTurn) → LeavesTimed c times old now p rest told refused whole → AppendsPrefix old now (told ++ whole.text)
  given_up rest l = subst (AppendsPrefix old now) l.same
      (prefix_more old now l.text (rest l.at).text (told_prefix old now p.pipe.output l.text l.stands.pipe.tells))

  -- what waited is written
  pub left_written : (rest : Timed → TimedTurn) (l : LeavesTimed c times old now p rest told refused whole)
      → StandsTimed c times old next u l.at l.text l.status
      → LeavesTimed c times old next u rest told refused whole
  left_written rest l h = record { at = l.at; text = l.text; status = l.status; stands = h; next = l.next; same = l.same; any = l.any }

  pub left_begun : (rest : Timed → TimedTurn) (l : LeavesTimed c times old now p rest told refused whole) → AppendsPrefix old next l.text
      → AppendsPrefix old next (told ++ whole.text)
  left_begun rest l b = subst (AppendsPrefix old next) l.same (prefix_more old next l.text (rest l.at).text b)

-- ---- what is due, one after another

pub due_alike : (now now' : ℕ) (d d' : Deadlines) (o : Option Due) → o ≡ due_of now d → now ≡ now' → d ≡ d' → due_of now' d' ≡ o
due_alike now now' d d' o is a b = sym (is ∙ ap (λ n. due_of n d) a ∙ ap (due_of now') b)

pub told_alike : (times times' : Times) (now : ℕ) (d d' : Deadlines) (w : Timed) → d' ≡ after_due times' now d → times' ≡ times → now ≡ moment_of w.now → d ≡ w.deadlines
    → d' ≡ (told_due times w).deadlines
told_alike times times' now d d' w is a b e = is ∙ ap (λ (t : Times). after_due t now d) a ∙ ap (λ n. after_due times n d) b ∙ ap (after_due times (moment_of w.now)) e

module _ (c : Settings) (times : Times) (n : ℕ) (w : Timed) where
  nothing_due : due_of (moment_of w.now) w.deadlines ≡ None → due_turns c times (suc n) w ≡ writes (told_due times w) []
  unfolding due_turns
  nothing_due is = ap (due_first c times (due_turns c times n) w) is

  something_due : (due : Due) → due_of (moment_of w.now) w.deadlines ≡ Some due → due_turns c times (suc n) w
      ≡ and_then (due_turns c times n) (insist_turn c times due (told_due times w))
  unfolding due_turns
  something_due due is = ap (due_first c times (due_turns c times n) w) is

none_more : (c : Settings) (times : Times) (w : Timed) → due_turns c times 0 w ≡ writes w []
unfolding due_turns
none_more c times w = refl

pub no_turn_left : (c : Settings) (times : Times) (n : ℕ) (w : Timed) → n ≡ 0 → due_turns c times n w ≡ writes w []
no_turn_left c times n w is = ap (λ n. due_turns c times n w) is ∙ none_more c times w

pub nothing_is_due : (c : Settings) (times : Times) (n : ℕ) (w : Timed) → 0 < n → due_of (moment_of w.now) w.deadlines ≡ None → due_turns c times n w
    ≡ writes (told_due times w) []
nothing_is_due c times zero w some is = absurd (omega (arith, some))
nothing_is_due c times (suc n) w some is = nothing_due c times n w is

pub something_is_due : (c : Settings) (times : Times) (n m : ℕ) (w : Timed) (due : Due) → n ≡ suc m → due_of (moment_of w.now) w.deadlines ≡ Some due
    → due_turns c times n w ≡ and_then (due_turns c times m) (insist_turn c times due (told_due times w))
something_is_due c times n m w due more is = ap (λ n. due_turns c times n w) more ∙ something_due c times m w due is

-- the first time that is said tells nothing
pub first_passed : (c : Settings) (times : Times) (old now : Option (List ℕ)) (u : TimedPipe) (told : List ℕ) (refused : Bool) (at : ℕ) (w : Timed)
    → StandsTimed c times old now u (begins c times at w) told refused → StandsTimedAt c times old now u told refused (pass_turn c times at w None)
first_passed c times old now u told refused at w h =
    subst (λ (text : List ℕ). StandsTimed c times old now u (begins c times at w) text (refused || false)) (sym (append-nil told))
    (subst (StandsTimed c times old now u (begins c times at w) told) (sym (or-false refused)) h)

-- as much is left as is due at most
pub all_left : (c : Settings) (times : Times) (old now : Option (List ℕ)) (p : TimedPipe) (w : Timed) (told : List ℕ) (refused : Bool) (n m : ℕ) → n ≡ m
    → StandsTimed c times old now p w told refused
    → LeavesTimed c times old now p (due_turns c times n) told refused (due_turns c times m w)
all_left c times old now p w told refused n m is h = record {
  at = w;
  text = told;
  status = refused;
  stands = h;
  next = ap (λ k. (due_turns c times k w).next) is;
  same = ap (λ k. told ++ (due_turns c times k w).text) is;
  any = ap (λ k. refused || (due_turns c times k w).is_refused) is;
}

-- ---- an input, line by line

pub line_is : (c : Settings) (times : Times) (line : List ℕ) (w : Timed) → timed_turn c times line w
    ≡ and_then (mark_turn c) (answer_turn c times line w (time_said line))
unfolding timed_turn
line_is c times line w = refl

pub turns_more : (c : Settings) (times : Times) (line : List ℕ) (lines : List (List ℕ)) (w : Timed) → timed_turns c times (line ∷ lines) w
    ≡ and_then (timed_turns c times lines) (timed_turn c times line w)
unfolding timed_turns
turns_more c times line lines w = refl

turns_none : (c : Settings) (times : Times) (w : Timed) → timed_turns c times [] w ≡ writes w []
unfolding timed_turns
turns_none c times w = refl

module _ (c : Settings) (times : Times) (old now next : Option (List ℕ)) (whole : TimedTurn) where
  pub ended_written : (p u : TimedPipe) (lines : List (List ℕ)) (l : LeavesTimed c times old now p (timed_turns c times lines) [] false whole) → u.pipe.output
      ≡ []
      → StandsTimed c times old next u l.at l.text l.status → WritesTimed c times old next lines whole
  ended_written p u lines l empty h =
      let tells = h.pipe.tells in
      record {
        at = l.at;
        part = tells.written;
        appends = tells.appends;
        same = ap (λ t. t ++ (timed_turns c times lines l.at).text) (sym (append-nil tells.written) ∙ ap (λ t. tells.written ++ t) (sym empty) ∙ tells.same)
            ∙ l.same;
      }

-- all is told, and nothing waits
pub whole_told : (c : Settings) (times : Times) (old now : Option (List ℕ)) (p : TimedPipe) (whole : TimedTurn)
    → LeavesTimed c times old now p (timed_turns c times []) [] false whole → p.pipe.output ≡ []
    → Appends old now whole.text × (p.pipe.is_refused ≡ whole.is_refused)
whole_told c times old now p whole l empty =
    let h = none_left c times old now now p p [] false whole (timed_turns c times []) l l.at (turns_none c times l.at) l.stands in
    let tells = h.pipe.tells in
    let text : tells.written ≡ whole.text = sym (append-nil tells.written) ∙ ap (λ t. tells.written ++ t) (sym empty) ∙ tells.same in
    (subst (Appends old now) text tells.appends, h.pipe.status)

-- ---- a whole input

pub stands_first_timed : (c : Settings) (times : Times) (written : Option (List ℕ)) (p : TimedPipe) → FitsStation c p.pipe.station new_station → p.pipe.end
    ≡ c.role → p.pipe.output ≡ []
    → p.pipe.is_refused ≡ false → plain p.clock ≡ nothing_awaited c.channels.count → p.clock.times ≡ times
    → p.clock.channels ≡ c.channels.count → p.now ≡ None
    → StandsTimed c times written written p (new_timed c) [] false
stands_first_timed c times written p fits role empty status clock is_times channels now =
    record { pipe = stands_first c written p.pipe fits role empty status; deadlines = clock; timers = is_times; channels = channels; time = now }

module _ (c : Settings) (times : Times) (old now : Option (List ℕ)) (p : TimedPipe) (input : List ℕ) where
  -- the first mark failed
  pub mark_failed : AppendsPrefix old now (mark_turn c (new_timed c)).text → AppendsPrefix old now (timed_text c times input)
  unfolding timed
  mark_failed b = begins_before c times old now [] false (timed_turns c times (lines_of input)) (mark_turn c (new_timed c)) b

  -- the input is still to come
  leads_input : (q : TimedPipe) → StandsTimedAt c times old now q [] false (mark_turn c (new_timed c)) → AnswersTimed c times q old now (lines_of input) input
  unfolding timed
  leads_input q h = record {
    at = new_timed c;
    text = (mark_turn c (new_timed c)).text;
    status = false;
    stands = h;
    next = refl;
    same = refl;
    any = refl;
  }

-- with `loose` what its lines ask is to come
pub input_begins : (c : Settings) (times : Times) (old now : Option (List ℕ)) (p q : TimedPipe) (loose is_loose : Bool) (input : List ℕ) (held first : HeldLine)
    → held ≡ first → is_loose ≡ loose → q ≡ p → HoldsLine [] first → StandsTimedAt c times old now p [] false (mark_turn c (new_timed c))
    → LinesLead (λ lines. (is_loose ≡ loose) × AnswersTimed c times q old now (asked_lines loose lines) (asked_text loose input)) held input
input_begins c times old now p q loose is_loose input held first is_held is_so is_pipe empty h =
    let text = asked_text loose input in
    between (λ (lines : List (List ℕ)). (is_loose ≡ loose) × AnswersTimed c times q old now (asked_lines loose lines) text) held input
    (subst (HoldsLine []) (sym is_held) empty) (
      is_so,
      subst (λ (lines : List (List ℕ)). AnswersTimed c times q old now lines text) (lines_asked loose input)
          (leads_input c times old now p text q (subst (λ u. StandsTimedAt c times old now u [] false (mark_turn c (new_timed c))) (sym is_pipe) h)),
    )
