-- A line behind others, and what a program with a clock says when it reads one more.
use Rattle.std.proofs.Common.{◌≡◌, ◌∙◌, ℕ, List, [], ◌∷◌, ◌++◌, length, drop, flat_map, ap, refl, sym, append-nil, append_assoc}
use Rattle.std.proofs.{Math.Seq.{drop-append_seam}, lemmas.Grind.{flat_map-append}}
use Rattle.x25_clock.specs.declared.times.Times.{Times}
use Rattle.x25_io.proofs.LineLemmas.{ends_line}
use Rattle.x25_io.specs.Lines.{IsOpen}
unfoldable use Rattle.x25_io.specs.Lines.{lines_of}
use Rattle.x25_joined.proofs.LineText.{AreWhole}
unfoldable use Rattle.x25_pipe.specs.Timed.{timed_turn, timed_turns, timed}
use Rattle.x25_pipe.specs.Timed.{Timed, new_timed}
use Rattle.x25_station.specs.Config.{Settings}
use Rattle.x25_joined.specs.laws.Played.{Marks, Played, line_plays, lines_plays, playing, plays, timed_written, told}
use Rattle.x25_joined.specs.laws.TimedPeer.{timed_more}

no_line : lines_of [] ≡ []
unfolding lines_of
no_line = refl

line_behind : (text line : List ℕ) → AreWhole text → IsOpen line → lines_of (text ++ (line ++ 10 ∷ [])) ≡ lines_of text ++ line ∷ []
line_behind text line whole none =
    whole (line ++ 10 ∷ [])
    ∙ ap (λ (ls : List (List ℕ)). lines_of text ++ ls) (ends_line line [] none ∙ ap (λ (ls : List (List ℕ)). line ∷ ls) no_line)

module _ (c : Settings) (times : Times) where
  turns_next : (xs ys : List (List ℕ)) (w : Timed) → (timed_turns c times (xs ++ ys) w).next ≡ (timed_turns c times ys (timed_turns c times xs w).next).next
  unfolding timed_turns
  turns_next [] ys w = refl
  turns_next (x ∷ xs) ys w = turns_next xs ys (timed_turn c times x w).next

  one_next : (line : List ℕ) (w : Timed) → (timed_turns c times (line ∷ []) w).next ≡ (timed_turn c times line w).next
  unfolding timed_turns
  one_next line w = refl

  plays_more : (xs ys : List (List ℕ)) (w : Timed) → lines_plays c times (xs ++ ys) w ≡ lines_plays c times xs w
      ++ lines_plays c times ys (timed_turns c times xs w).next
  unfolding timed_turns
  plays_more [] ys w = refl
  plays_more (x ∷ xs) ys w =
      let u : Timed = (timed_turn c times x w).next in
      ap (λ (ps : List Played). line_plays c times x w ++ ps) (plays_more xs ys u)
      ∙ sym (append_assoc (line_plays c times x w) (lines_plays c times xs u) (lines_plays c times ys (timed_turns c times xs u).next))

  -- where it stands, by its lines
  abbrev stands : List ℕ → Timed
  stands text = (timed_turns c times (lines_of text) (new_timed c)).next

  pub stands_is : (text : List ℕ) → (timed c times text).next ≡ stands text
  unfolding timed
  stands_is text = refl

  pub first_stands : (timed c times []).next ≡ new_timed c
  unfolding timed timed_turns
  first_stands = ap (λ (ls : List (List ℕ)). (timed_turns c times ls (new_timed c)).next) no_line

  pub first_plays : plays c times [] ≡ playing (new_timed c) Marks ∷ []
  first_plays = ap (λ (ls : List (List ℕ)). playing (new_timed c) Marks ∷ lines_plays c times ls (new_timed c)) no_line

  module _ (text line : List ℕ) (whole : AreWhole text) (none : IsOpen line) where
    pub next_more : (timed c times (text ++ (line ++ 10 ∷ []))).next ≡ (timed_turn c times line (timed c times text).next).next
    next_more =
        stands_is (text ++ (line ++ 10 ∷ []))
        ∙ ap (λ (ls : List (List ℕ)). (timed_turns c times ls (new_timed c)).next) (line_behind text line whole none)
        ∙ turns_next (lines_of text) (line ∷ []) (new_timed c) ∙ one_next line (stands text)
        ∙ ap (λ (w : Timed). (timed_turn c times line w).next) (sym (stands_is text))

    played_more : plays c times (text ++ (line ++ 10 ∷ [])) ≡ plays c times text ++ line_plays c times line (timed c times text).next
    played_more =
        let first : Played = playing (new_timed c) Marks in
        ap (λ (ls : List (List ℕ)). first ∷ lines_plays c times ls (new_timed c)) (line_behind text line whole none)
        ∙ ap (λ (ps : List Played). first ∷ ps) (plays_more (lines_of text) (line ∷ []) (new_timed c))
        ∙ ap (λ (ps : List Played). plays c times text ++ ps) (append-nil (line_plays c times line (stands text)))
        ∙ ap (λ (w : Timed). plays c times text ++ line_plays c times line w) (sym (stands_is text))

    pub written_is : timed_written c times (text ++ (line ++ 10 ∷ []))
        ≡ timed_written c times text ++ flat_map (told c) (line_plays c times line (timed c times text).next)
    written_is = ap (flat_map (told c)) played_more ∙ flat_map-append (told c) (plays c times text) (line_plays c times line (timed c times text).next)

    pub more_is : timed_more c times text (line ++ 10 ∷ []) ≡ flat_map (told c) (line_plays c times line (timed c times text).next)
    more_is =
        ap (drop (length (timed_written c times text))) written_is
        ∙ drop-append_seam (timed_written c times text) (flat_map (told c) (line_plays c times line (timed c times text).next))
