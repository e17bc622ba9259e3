-- An input, line by line.
use Rattle.x25_pipe.proofs.Names.{◌≡◌, ◌∙◌, ℕ, false, List, [], ◌∷◌, ◌++◌, Option, append_assoc, ap, sym, subst, refl, append-nil, AppendsPrefix, Settings}
use Rattle.std.specs.Io.KnownBytes.{Appends}
use Rattle.x25_pipe.proofs.LeaveLemmas.{none_left, part_done, part_failed}
use Rattle.x25_pipe.proofs.{Names.{Station, Turn, and_then, turn, turns, sayings_text, has_refusal, Stands, Pipe}, StandLemmas.{StandsAt, BeginsAt}}
use Rattle.x25_pipe.specs.{Pipe.{quiet}, code.Leaves.{Leaves}, code.Stream.{WritesLines}}

turns_more : (c : Settings) (line : List ℕ) (lines : List (List ℕ)) (w : Station) → turns c (line ∷ lines) w ≡ and_then (turns c lines) (turn c line w)
unfolding turns
turns_more c line lines w = refl

turns_none : (c : Settings) (w : Station) → turns c [] w ≡ quiet w
unfolding turns
turns_none c w = refl

module _ (c : Settings) (old now next : Option (List ℕ)) (whole : Turn) where
  -- a line was taken
  pub line_done : (s u : Pipe) (line : List ℕ) (lines : List (List ℕ)) (l : Leaves c old now s (turns c (line ∷ lines)) [] false whole)
      → StandsAt c old next u l.text l.status (turn c line l.at) → Leaves c old next u (turns c lines) [] false whole
  line_done s u line lines l h = part_done c old now next s u [] false whole (turns c (line ∷ lines)) (turn c line) (turns c lines) l
      (turns_more c line lines l.at) h

  pub line_failed : (s : Pipe) (line : List ℕ) (lines : List (List ℕ)) (l : Leaves c old now s (turns c (line ∷ lines)) [] false whole)
      → BeginsAt c old next l.text (turn c line l.at) → AppendsPrefix old next (sayings_text c.role whole.sayings)
  line_failed s line lines l b = part_failed c old now next s s [] false whole (turns c (line ∷ lines)) (turn c line) (turns c lines) l
      (turns_more c line lines l.at) b

  -- ---- what waited is written

  pub left_written : (s u : Pipe) (rest : Station → Turn) (l : Leaves c old now s rest [] false whole) → Stands c old next u l.at l.text l.status
      → Leaves c old next u rest [] false whole
  left_written s u rest l h = record { at = l.at; text = l.text; status = l.status; stands = h; next = l.next; same = l.same; any = l.any }

  pub left_begun : (s : Pipe) (rest : Station → Turn) (l : Leaves c old now s rest [] false whole) → AppendsPrefix old next l.text
      → AppendsPrefix old next (sayings_text c.role whole.sayings)
  left_begun s rest l b = subst (AppendsPrefix old next) l.same (
    b.0,
    b.1 ++ sayings_text c.role (rest l.at).sayings,
    ap (λ t. t ++ sayings_text c.role (rest l.at).sayings) b.2
        ∙ append_assoc b.0 b.1 (sayings_text c.role (rest l.at).sayings),
    b.3,
  )

  pub ended_written : (s u : Pipe) (lines : List (List ℕ)) (l : Leaves c old now s (turns c lines) [] false whole) → u.output ≡ []
      → Stands c old next u l.at l.text l.status
      → WritesLines c old next lines whole
  ended_written s u lines l empty h = record {
    at = l.at;
    part = h.tells.written;
    appends = h.tells.appends;
    same = ap (λ t. t ++ sayings_text c.role (turns c lines l.at).sayings)
        (sym (append-nil h.tells.written) ∙ ap (λ t. h.tells.written ++ t) (sym empty) ∙ h.tells.same) ∙ l.same;
  }

-- all is told, and nothing waits
pub whole_told : (c : Settings) (old now : Option (List ℕ)) (s : Pipe) (whole : Turn) → Leaves c old now s (turns c []) [] false whole → s.output ≡ []
    → Appends old now (sayings_text c.role whole.sayings) × (s.is_refused ≡ has_refusal whole.sayings)
whole_told c old now s whole l empty =
    let h = none_left c old now old s s [] false whole (turns c []) l (turns_none c l.at) in
    let text : h.tells.written ≡ sayings_text c.role whole.sayings =
    sym (append-nil h.tells.written) ∙ ap (λ t. h.tells.written ++ t) (sym empty) ∙ h.tells.same in
    (subst (Appends old now) text h.tells.appends, h.status)
