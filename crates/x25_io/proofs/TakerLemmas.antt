-- A text in pieces, as lines.
use Rattle.std.proofs.Common.{◌≡◌, ◌∙◌, ℕ, List, [], ◌∷◌, ◌++◌, append_assoc, ap, refl, sym, subst}
use Rattle.x25_io.{proofs.LineLemmas.{ends_line, ends_text, open-append}, specs.HeldLine.{HoldsLine}, specs.Lines.{IsOpen, lines_of}}
use Rattle.x25_io.specs.{code.LinesLead.{LinesEnded, LinesLead}, declared.held_line.HeldLine.{HeldLine}}

no_lines : lines_of [] ≡ []
unfolding lines_of
no_lines = refl

module _ (Stands : List (List ℕ) → Type 0) (held : HeldLine) where
  -- more of the line that has begun
  pub more : (held2 : HeldLine) (part rest : List ℕ) → LinesLead Stands held (part ++ rest) → IsOpen part
      → ((begun : List ℕ) → HoldsLine begun held → HoldsLine (begun ++ part) held2)
      → LinesLead Stands held2 rest
  more held2 part rest l none holds = record {
    begun = l.begun ++ part;
    is_open = open-append l.begun part l.is_open none;
    holds = holds l.begun l.holds;
    stands = subst (λ text. Stands (lines_of text)) (sym (append_assoc l.begun part rest)) l.stands;
  }

  -- a line ends
  pub ends : (rest : List ℕ) (l : LinesLead Stands held (10 ∷ rest)) → Stands (l.begun ∷ lines_of rest)
  ends rest l = subst Stands (ends_line l.begun rest l.is_open) l.stands

  -- a line ends of which nothing was held
  pub ends_whole : (line rest : List ℕ) (l : LinesLead Stands held (line ++ 10 ∷ rest)) → IsOpen line → l.begun ≡ [] → Stands (line ∷ lines_of rest)
  ends_whole line rest l none empty = subst Stands (ends_line line rest none) (subst (λ begun. Stands (lines_of (begun ++ (line ++ 10 ∷ rest)))) empty l.stands)

  -- the last line ends without a line feed
  pub ends_last : (l : LinesLead Stands held []) → (l.begun ≡ [] → ⊥) → Stands (l.begun ∷ [])
  ends_last l some = subst Stands (ends_text l.begun l.is_open some ∙ ap (λ (lines : List (List ℕ)). l.begun ∷ lines) no_lines) l.stands

  pub none_left : (l : LinesLead Stands held []) → l.begun ≡ [] → Stands []
  none_left l none = subst Stands no_lines (subst (λ begun. Stands (lines_of (begun ++ []))) none l.stands)

  -- none has begun
  pub between : (rest : List ℕ) → HoldsLine [] held → Stands (lines_of rest) → LinesLead Stands held rest
  between rest empty stands = record { begun = []; is_open = tt; holds = empty; stands = stands }

-- what holds of the lines that are left
pub led : (Stands Next : List (List ℕ) → Type 0) (held : HeldLine) (rest : List ℕ) (l : LinesLead Stands held rest) → Next (lines_of (l.begun ++ rest))
    → LinesLead Next held rest
led Stands Next held rest l next = record { begun = l.begun; is_open = l.is_open; holds = l.holds; stands = next }

pub led_ended : (Stands Ended : List (List ℕ) → Type 0) (held : HeldLine) (rest : List ℕ) (l : LinesLead Stands held rest) → Ended (lines_of (l.begun ++ rest))
    → LinesEnded Ended rest
led_ended Stands Ended held rest l ended = record { begun = l.begun; is_open = l.is_open; ended = ended }
