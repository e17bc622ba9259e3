-- A script, line by line.
use Rattle.x25_sim.proofs.Names.{◌≡◌, ◌∙◌, ◌<◌, ℕ, false, List, [], ◌∷◌, ◌++◌, length, Option, None, append_assoc, ap, sym, subst, refl, append-nil}
use Rattle.x25_sim.proofs.Names.{AppendsPrefix, line_in, Cfg, World, Shown, sayings_text, has_refusal, Turn, quiet, and_then, asked_in, asked_turn, turn, turns}
use Rattle.std.{proofs.Common.{◌≤◌, Result, if◌then◌else◌}, proofs.lemmas.Bool.{le-leb, lt-leb}, specs.Io.KnownBytes.{Appends}}
use Rattle.x25_io.specs.{HeldLine.{most_line}, declared.fault.Fault.{Fault}}
use Rattle.x25_script.specs.ScriptLine.{taken}
use Rattle.x25_sim.proofs.{LeaveLemmas.{none_left, part_done, part_failed}, Names.{Stands, Stage}, StandLemmas.{StandsAt, BeginsAt}}
use Rattle.x25_sim.specs.code.{Leaves.{Leaves}, Stands.{Stood, Turns}, Stream.{WritesLines}}

-- a line that is too long
pub asks_nothing : (line : List ℕ) → most_line < length line → asked_in line ≡ None
unfolding asked_in
asks_nothing line long = ap (λ b. if b then line_in line else None) (lt-leb (length line) most_line long)

turns_more : (cfg : Cfg) (shown : Shown) (line : List ℕ) (lines : List (List ℕ)) (w : World) → turns cfg shown (line ∷ lines) w
    ≡ and_then (turns cfg shown lines) (turn cfg shown line w)
unfolding turns
turns_more cfg shown line lines w = refl

turns_none : (cfg : Cfg) (shown : Shown) (w : World) → turns cfg shown [] w ≡ quiet w
unfolding turns
turns_none cfg shown w = refl

module _ (cfg : Cfg) (shown : Shown) (old now next : Option (List ℕ)) (whole : Turn) where
  -- a line was taken
  pub line_done : (s u : Stage) (line : List ℕ) (lines : List (List ℕ)) (l : Leaves cfg shown old now s (turns cfg shown (line ∷ lines)) [] false whole)
      → StandsAt cfg shown old next u l.text l.status (turn cfg shown line l.at) → Leaves cfg shown old next u (turns cfg shown lines) [] false whole
  line_done s u line lines l h = part_done cfg shown old now next s u [] false whole (turns cfg shown (line ∷ lines)) (turn cfg shown line)
      (turns cfg shown lines) l (turns_more cfg shown line lines l.at) h

  pub line_failed : (s : Stage) (line : List ℕ) (lines : List (List ℕ)) (l : Leaves cfg shown old now s (turns cfg shown (line ∷ lines)) [] false whole)
      → BeginsAt old next l.text (turn cfg shown line l.at) → AppendsPrefix old next (sayings_text whole.sayings)
  line_failed s line lines l b = part_failed cfg shown old now next s s [] false whole (turns cfg shown (line ∷ lines)) (turn cfg shown line)
      (turns cfg shown lines) l (turns_more cfg shown line lines l.at) b

  -- ---- what waited is written

  pub left_written : (s u : Stage) (rest : World → Turn) (l : Leaves cfg shown old now s rest [] false whole) → Stands cfg shown old next u l.at l.text l.status
      → Leaves cfg shown old next u rest [] false whole
  left_written s u rest l h = record { at = l.at; text = l.text; status = l.status; stands = h; next = l.next; same = l.same; any = l.any }

  pub left_begun : (s : Stage) (rest : World → Turn) (l : Leaves cfg shown old now s rest [] false whole) → AppendsPrefix old next l.text
      → AppendsPrefix old next (sayings_text whole.sayings)
  left_begun s rest l b = subst (AppendsPrefix old next) l.same (
    b.0,
    b.1 ++ sayings_text (rest l.at).sayings,
    ap (λ t. t ++ sayings_text (rest l.at).sayings) b.2
        ∙ append_assoc b.0 b.1 (sayings_text (rest l.at).sayings),
    b.3,
  )

  pub ended_written : (s u : Stage) (lines : List (List ℕ)) (l : Leaves cfg shown old now s (turns cfg shown lines) [] false whole) → u.output ≡ []
      → Stands cfg shown old next u l.at l.text l.status
      → WritesLines cfg shown old next lines whole
  ended_written s u lines l empty h = record {
    at = l.at;
    part = h.tells.written;
    appends = h.tells.appends;
    same = ap (λ t. t ++ sayings_text (turns cfg shown lines l.at).sayings)
        (sym (append-nil h.tells.written) ∙ ap (λ t. h.tells.written ++ t) (sym empty) ∙ h.tells.same) ∙ l.same;
  }

-- all is told, and nothing waits
pub whole_told : (cfg : Cfg) (shown : Shown) (old now : Option (List ℕ)) (s : Stage) (whole : Turn)
    → Leaves cfg shown old now s (turns cfg shown []) [] false whole → s.output ≡ []
    → Appends old now (sayings_text whole.sayings) × (s.is_refused ≡ has_refusal whole.sayings)
whole_told cfg shown old now s whole l empty =
    let h = none_left cfg shown old now old s s [] false whole (turns cfg shown []) l (turns_none cfg shown l.at) in
    let text : h.tells.written ≡ sayings_text whole.sayings = sym (append-nil h.tells.written) ∙ ap (λ t. h.tells.written ++ t) (sym empty) ∙ h.tells.same in
    (subst (Appends old now) text h.tells.appends, h.status)

-- ---- what a line asks for

asks : (line : List ℕ) → length line ≤ most_line → asked_in line ≡ line_in line
unfolding asked_in
asks line few = ap (λ b. if b then line_in line else None) (le-leb (length line) most_line few)

-- what a line asks for happens, where it isn't too long
pub obeyed : (cfg : Cfg) (shown : Shown) (old now next : Option (List ℕ)) (s u : Stage) (result : Result Unit Fault) (line : List ℕ) → length line ≤ most_line
    → Turns cfg shown old now next s u result (λ w. asked_turn cfg shown w (taken cfg.wide (line_in line)))
    → Turns cfg shown old now next s u result (turn cfg shown line)
unfolding turn
obeyed cfg shown old now next s u result line few h = λ w told refused stands.
    subst (λ read. Stood cfg shown old next u told refused result (asked_turn cfg shown w (taken cfg.wide read))) (sym (asks line few))
    (h w told refused stands)
