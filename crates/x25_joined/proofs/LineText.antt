-- A line behind others, and what a program says when it reads one more.
use Rattle.x25_joined.proofs.Names.{◌≡◌, ◌∙◌, ℕ, List, [], ◌∷◌, ◌++◌, length, append_assoc, append-nil, ap, sym, refl, IsOpen, lines_of, Settings, Station}
use Rattle.std.proofs.{Common.{drop}, Math.Seq.{drop-append_seam}}
use Rattle.x25_io.proofs.LineLemmas.{ends_line}
use Rattle.x25_joined.{proofs.Names.{new_station, Saying, turn, turns, piped, written}, specs.laws.Joined.{written_more}}
use Rattle.x25_pipe.specs.Pipe.{Turn, and_then, standing_turn}

-- ---- lines

no_line : lines_of [] ≡ []
unfolding lines_of
no_line = refl

one_line : (line : List ℕ) → IsOpen line → lines_of (line ++ 10 ∷ []) ≡ line ∷ []
one_line line none = ends_line line [] none ∙ ap (λ (ls : List (List ℕ)). line ∷ ls) no_line

-- whole lines: what follows them begins a line
abbrev pub AreWhole : List ℕ → Type 0
AreWhole text = (rest : List ℕ) → lines_of (text ++ rest) ≡ lines_of text ++ lines_of rest

-- an empty text is whole lines
pub none_whole : AreWhole []
none_whole rest = ap (λ (ls : List (List ℕ)). ls ++ lines_of rest) (sym no_line)

line_behind : (text line : List ℕ) → AreWhole text → IsOpen line → lines_of (text ++ (line ++ 10 ∷ [])) ≡ lines_of text ++ line ∷ []
line_behind text line whole none = whole (line ++ 10 ∷ []) ∙ ap (λ (ls : List (List ℕ)). lines_of text ++ ls) (one_line line none)

-- one line more behind whole lines
pub more_whole : (text line : List ℕ) → AreWhole text → IsOpen line → AreWhole (text ++ (line ++ 10 ∷ []))
more_whole text line whole none rest =
    ap lines_of (append_assoc text (line ++ 10 ∷ []) rest) ∙ whole ((line ++ 10 ∷ []) ++ rest)
    ∙ ap (λ (ls : List (List ℕ)). lines_of text ++ ls) (ap lines_of (append_assoc line (10 ∷ []) rest) ∙ ends_line line rest none)
    ∙ sym (append_assoc (lines_of text) (line ∷ []) (lines_of rest))
    ∙ ap (λ (ls : List (List ℕ)). ls ++ lines_of rest) (sym (line_behind text line whole none))

-- ---- turns

then_assoc : (f g : Station → Turn) (t : Turn) → and_then f (and_then g t) ≡ and_then (λ (s : Station). and_then f (g s)) t
then_assoc f g t =
    let u = g t.next in
    ap (λ (sayings : List Saying). let r : Turn = record { next = (f u.next).next; sayings = sayings } in r)
    (append_assoc t.sayings u.sayings (f u.next).sayings)

then_same : (f g : Station → Turn) (t : Turn) → f t.next ≡ g t.next → and_then f t ≡ and_then g t
then_same f g t same = ap (λ (u : Turn). let r : Turn = record { next = u.next; sayings = t.sayings ++ u.sayings } in r) same

module _ (c : Settings) where
  turns-append : (xs ys : List (List ℕ)) (s : Station) → turns c (xs ++ ys) s ≡ and_then (turns c ys) (turns c xs s)
  unfolding turns
  turns-append [] ys s = refl
  turns-append (x ∷ xs) ys s =
      then_same (turns c (xs ++ ys)) (λ (r : Station). and_then (turns c ys) (turns c xs r)) (turn c x s) (turns-append xs ys (turn c x s).next)
      ∙ sym (then_assoc (turns c ys) (turns c xs) (turn c x s))

  one_turn : (line : List ℕ) (s : Station) → turns c (line ∷ []) s ≡ turn c line s
  unfolding turns
  one_turn line s = ap (λ (sayings : List Saying). let r : Turn = record { next = (turn c line s).next; sayings = sayings } in r)
      (append-nil (turn c line s).sayings)

  -- a program that reads one line more says what it said, and then that line's turn
  pub one_more : (text line : List ℕ) → AreWhole text → IsOpen line → piped c (text ++ (line ++ 10 ∷ [])) ≡ and_then (turn c line) (piped c text)
  unfolding piped
  one_more text line whole none =
      let first = standing_turn c new_station in
      let before = lines_of text in
      ap (λ (ls : List (List ℕ)). and_then (turns c ls) first) (line_behind text line whole none)
      ∙ then_same (turns c (before ++ line ∷ [])) (λ (s : Station). and_then (turns c (line ∷ [])) (turns c before s)) first
      (turns-append before (line ∷ []) first.next)
      ∙ sym (then_assoc (turns c (line ∷ [])) (turns c before) first)
      ∙ then_same (turns c (line ∷ [])) (turn c line) (and_then (turns c before) first) (one_turn line (and_then (turns c before) first).next)

  -- so what it says more is what that turn says
  pub said_more : (text line : List ℕ) → AreWhole text → IsOpen line → written_more c text (line ++ 10 ∷ []) ≡ (turn c line (piped c text).next).sayings
  said_more text line whole none =
      ap (λ (t : Turn). drop (length (written c text)) t.sayings) (one_more text line whole none)
      ∙ drop-append_seam (written c text) (turn c line (piped c text).next).sayings

  -- nothing was read
  pub first_said : piped c [] ≡ standing_turn c new_station
  unfolding piped turns
  first_said =
      let first = standing_turn c new_station in
      ap (λ (ls : List (List ℕ)). and_then (turns c ls) first) no_line
      ∙ ap (λ (sayings : List Saying). let r : Turn = record { next = first.next; sayings = sayings } in r) (append-nil first.sayings)
