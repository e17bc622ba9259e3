-- A text as records, line by line.
use Rattle.std.proofs.Common.{◌≡◌, ◌∙◌, ◌<◌, ◌≤◌, ℕ, Bool, true, false, List, [], ◌∷◌, ◌++◌, Option, length, append_assoc, ap, sym, subst, refl, not}
use Rattle.std.proofs.Common.{codes, if◌then◌else◌}
use Rattle.std.specs.{Io.KnownBytes.{Appends}, List.{flat_map, list_any}, Prelude.{◌||◌}}
use Rattle.std.{proofs.Math.Bool.{or_assoc, or-false}, proofs.lemmas.Bool.{le-leb, lt-leb}, proofs.lemmas.List.{append-nil}}
use Rattle.x25_io.proofs.{TakerLemmas.{between}, ToldLemmas.{none_told, part_of_all, prefix_more, told_prefix}}
use Rattle.x25_io.specs.{HeldLine.{HoldsLine, most_line}, Lines.{lines_of}, code.LinesLead.{LinesLead}, code.Written.{AppendsPrefix, Tells}}
use Rattle.x25_io.specs.declared.held_line.HeldLine.{HeldLine}
use Rattle.x25_records.specs.Records.{answer_to, is_long, record_of, records_of}
use Rattle.x25_records.specs.code.Stream.{Records, WritesLines}
use Rattle.x25_records.specs.declared.recorder.Recorder.{Recorder}

-- ---- a line, and one that is too long

pub is_short : (line : List ℕ) → length line ≤ most_line → is_long line ≡ false
is_short line few = ap not (le-leb (length line) most_line few)

pub is_too_long : (line : List ℕ) → most_line < length line → is_long line ≡ true
is_too_long line long = ap not (lt-leb (length line) most_line long)

pub short_answer : (line : List ℕ) → length line ≤ most_line → answer_to line ≡ record_of line ++ codes "\n"
unfolding answer_to
short_answer line few = ap (λ b. (if b then codes "? 60" else record_of line) ++ codes "\n") (is_short line few)

pub long_answer : (line : List ℕ) → most_line < length line → answer_to line ≡ codes "? 60\n"
unfolding answer_to
long_answer line long = ap (λ b. (if b then codes "? 60" else record_of line) ++ codes "\n") (is_too_long line long)

-- ---- before anything is read

start : (old : Option (List ℕ)) (r : Recorder) (text : List ℕ) → r.output ≡ [] → r.is_refused ≡ false → Records r old old (lines_of text) text
start old r text empty none = record {
  told = [];
  tells = none_told old r.output empty;
  same = refl;
  status = ap (λ b. b || list_any is_long (lines_of text)) none;
}

pub input_begins : (old : Option (List ℕ)) (held first : HeldLine) (r made : Recorder) → held ≡ first → r ≡ made → HoldsLine [] first
    → made.output ≡ [] → made.is_refused ≡ false → (text : List ℕ) → LinesLead (λ lines. Records r old old lines text) held text
input_begins old held first r made is_held is_recorder empty nothing none text =
    between (λ (lines : List (List ℕ)). Records r old old lines text) held text (subst (HoldsLine []) (sym is_held) empty)
    (start old r text (ap (λ (r : Recorder). r.output) is_recorder ∙ nothing) (ap (λ (r : Recorder). r.is_refused) is_recorder ∙ none))

module _ (old now next : Option (List ℕ)) (text : List ℕ) where
  -- a line was taken
  pub line_told : (r q : Recorder) (line : List ℕ) (lines : List (List ℕ)) (h : Records r old now (line ∷ lines) text)
      → Tells old next q.output (h.told ++ answer_to line) → q.is_refused ≡ (r.is_refused || is_long line) → Records q old next lines text
  line_told r q line lines h tells refused = record {
    told = h.told ++ answer_to line;
    tells = tells;
    same = append_assoc h.told (answer_to line) (flat_map answer_to lines) ∙ h.same;
    status = ap (λ b. b || list_any is_long lines) refused ∙ or_assoc r.is_refused (is_long line) (list_any is_long lines) ∙ h.status;
  }

  pub line_failed : (r : Recorder) (line : List ℕ) (lines : List (List ℕ)) (h : Records r old now (line ∷ lines) text)
      → AppendsPrefix old next (h.told ++ answer_to line) → AppendsPrefix old next (records_of text)
  line_failed r line lines h b = subst (AppendsPrefix old next) h.same
      (part_of_all old next h.told (answer_to line) (flat_map answer_to lines) _ refl b)

  -- what waited is written
  pub part_written : (r : Recorder) (lines : List (List ℕ)) (h : Records r old now lines text) → AppendsPrefix old next h.told
      → AppendsPrefix old next (records_of text)
  part_written r lines h b = subst (AppendsPrefix old next) h.same (prefix_more old next h.told (flat_map answer_to lines) b)

  pub all_written : (r : Recorder) (output : List ℕ) (lines : List (List ℕ)) (h : Records r old now lines text) → Tells old next output h.told
      → output ≡ [] → Records (record r { output = output }) old next lines text × WritesLines old next lines text × AppendsPrefix old next (records_of text)
  all_written r output lines h tells none = (
    record { told = h.told; tells = tells; same = h.same; status = h.status },
    record {
      part = tells.written;
      appends = tells.appends;
      same = ap (λ t. t ++ flat_map answer_to lines) (sym (append-nil tells.written) ∙ ap (λ t. tells.written ++ t) (sym none) ∙ tells.same) ∙ h.same;
    },
    part_written r lines h (told_prefix old next output h.told tells),
  )

  pub ended : (r : Recorder) (output : List ℕ) (h : Records r old now [] text) → Tells old next output h.told → output ≡ []
      → Appends old next (records_of text) × (r.is_refused ≡ list_any is_long (lines_of text))
  ended r output h tells none =
      let written : tells.written ≡ h.told = sym (append-nil tells.written) ∙ ap (λ t. tells.written ++ t) (sym none) ∙ tells.same in (
        subst (Appends old next) (written ∙ sym (append-nil h.told) ∙ h.same) tells.appends,
        sym (or-false r.is_refused) ∙ h.status,
      )
