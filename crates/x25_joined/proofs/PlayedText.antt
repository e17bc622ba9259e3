-- What a program with a clock says is what it writes.
use Rattle.std.proofs.Common.{◌≡◌, ◌∙◌, ℕ, zero, suc, nat_lt, Bool, true, false, if◌then◌else◌, List, [], ◌∷◌, ◌++◌, map, flat_map, Option, Some, None}
use Rattle.std.proofs.Common.{ap, ap₂, refl, append-nil}
use Rattle.std.proofs.lemmas.Grind.{flat_map-append}
use Rattle.x25_bits.specs.declared.role.Role.{Role}
use Rattle.x25_clock.specs.{Clock.{due_of, most_due}, Due.{asked_of, event_for}, declared.due.Due.{Due}, declared.times.Times.{Times}}
unfoldable use Rattle.x25_io.specs.Lines.{lines_of}
use Rattle.x25_pipe.specs.Pipe.{Act, Saying, event_act, event_in, asked_act, nothing_act, saying_line, sayings_text}
unfoldable use Rattle.x25_pipe.specs.Timed.{due_turns, timed_turn, timed_turns, timed}
use Rattle.x25_pipe.specs.Timed.{Timed, TimedTurn, act_turn, answer_turn, awaited_for, due_first, insist_turn, mark_turn, new_timed, time_said}
use Rattle.x25_pipe.specs.Timed.{moment_of, pass_turn, timeout_line, told_due}
use Rattle.x25_station.specs.{Config.{Settings}}
use Rattle.x25_joined.specs.laws.Played.{Answers, Insists, Marks, Passes, Played, answer_plays, due_plays, first_due, line_plays, lines_plays, playing}
use Rattle.x25_joined.specs.laws.Played.{pass_plays, says, timed_line, told}
use Rattle.x25_joined.specs.laws.PlayedClaims.{SaidIsWritten}

abbrev text_of : Settings → List Played → List ℕ
text_of c ps = flat_map (timed_line c.role) (flat_map (told c) ps)

says_text : (end : Role) (ss : List Saying) → flat_map (timed_line end) (map says ss) ≡ sayings_text end ss
says_text end [] = refl
says_text end (s ∷ ss) = ap (λ (t : List ℕ). saying_line end s ++ t) (says_text end ss)

module _ (c : Settings) (times : Times) where
  text_append : (ps qs : List Played) → text_of c (ps ++ qs) ≡ text_of c ps ++ text_of c qs
  text_append ps qs =
      ap (flat_map (timed_line c.role)) (flat_map-append (told c) ps qs)
      ∙ flat_map-append (timed_line c.role) (flat_map (told c) ps) (flat_map (told c) qs)

  text_cons : (p : Played) (ps : List Played) → text_of c (p ∷ ps) ≡ flat_map (timed_line c.role) (told c p) ++ text_of c ps
  text_cons p ps = flat_map-append (timed_line c.role) (told c p) (flat_map (told c) ps)

  first_text : (n : ℕ) (w : Timed) (o : Option Due) → ((u : Timed) → text_of c (due_plays c times n u) ≡ (due_turns c times n u).text)
      → text_of c (first_due c times (due_plays c times n) w o) ≡ (due_first c times (due_turns c times n) w o).text
  first_text n w None rest = refl
  first_text n w (Some due) rest =
      let v : Timed = told_due times w in
      let u : Timed = (insist_turn c times due v).next in
      let act : Act = event_act c v.station (event_for (asked_of c v.station due)) in
      let line : List ℕ = timeout_line c.role (awaited_for c v.station due) due in
      text_cons (playing v (Insists due (asked_of c w.station due))) (due_plays c times n u)
      ∙ ap₂ (λ (a b : List ℕ). a ++ b) (ap (λ (t : List ℕ). line ++ t) (says_text c.role act.sayings)) (rest u)

  due_text : (n : ℕ) (w : Timed) → text_of c (due_plays c times n w) ≡ (due_turns c times n w).text
  unfolding due_turns
  due_text zero w = refl
  due_text (suc n) w = first_text n w (due_of (moment_of w.now) w.deadlines) (due_text n)

  pass_text : (now : ℕ) (w : Timed) (o : Option ℕ) → text_of c (pass_plays c times now w o) ≡ (pass_turn c times now w o).text
  pass_text now w None = refl
  pass_text now w (Some last) = by (nat_lt now last)
    where
      by : (b : Bool) → text_of c
          (let ps : List Played = if b then playing w Passes ∷ [] else due_plays c times (most_due w.deadlines) (record w { now = Some now }) in ps)
          ≡ (let t : TimedTurn = if b then act_turn c times w (nothing_act w.station)
          else due_turns c times (most_due w.deadlines) (record w { now = Some now }) in t.text)
      by true = text_cons (playing w Passes) [] ∙ append-nil _ ∙ says_text c.role (nothing_act w.station).sayings
      by false = due_text (most_due w.deadlines) (record w { now = Some now })

  answer_text : (line : List ℕ) (w : Timed) (o : Option ℕ) → text_of c (answer_plays c times line w o) ≡ (answer_turn c times line w o).text
  answer_text line w None =
      text_cons (playing w (Answers line)) [] ∙ append-nil _
      ∙ says_text c.role (asked_act c w.station (event_in c.wide c.role line)).sayings
  answer_text line w (Some now) = pass_text now w w.now

  line_text : (line : List ℕ) (w : Timed) → text_of c (line_plays c times line w) ≡ (timed_turn c times line w).text
  unfolding timed_turn
  line_text line w =
      let v : Timed = (answer_turn c times line w (time_said line)).next in
      text_append (answer_plays c times line w (time_said line)) (playing v Marks ∷ [])
      ∙ ap₂ (λ (a b : List ℕ). a ++ b) (answer_text line w (time_said line)) (append-nil (mark_turn c v).text)

  lines_text : (lines : List (List ℕ)) (w : Timed) → text_of c (lines_plays c times lines w) ≡ (timed_turns c times lines w).text
  unfolding timed_turns
  lines_text [] w = refl
  lines_text (line ∷ lines) w =
      let u : Timed = (timed_turn c times line w).next in
      text_append (line_plays c times line w) (lines_plays c times lines u)
      ∙ ap₂ (λ (a b : List ℕ). a ++ b) (line_text line w) (lines_text lines u)

pub said_is_written : SaidIsWritten
unfolding timed
said_is_written c times input =
    text_cons c times (playing (new_timed c) Marks) (lines_plays c times (lines_of input) (new_timed c))
    ∙ ap₂ (λ (a b : List ℕ). a ++ b) (append-nil (mark_turn c (new_timed c)).text) (lines_text c times (lines_of input) (new_timed c))
