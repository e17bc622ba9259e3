-- An input, line by line.
use Rattle.std.proofs.Common.{◌≡◌, ◌∙◌, ◌||◌, ℕ, Bool, false, List, [], ◌∷◌, ◌++◌, Option, append_assoc, ap, sym, subst}
use Rattle.std.specs.Io.KnownBytes.{Appends}
use Rattle.std.proofs.{Math.Bool.{or_assoc}, lemmas.List.{append-nil}}
use Rattle.x25_io.specs.{HeldLine.{HoldsLine}, declared.held_line.HeldLine.{HeldLine}, Lines.{lines_of}, code.LinesLead.{LinesLead}}
use Rattle.x25_io.specs.code.Written.{AppendsPrefix, Tells}
use Rattle.x25_io.proofs.{TakerLemmas.{between}, ToldLemmas.{prefix_more, none_told, part_of_all, told_prefix}}
use Rattle.x25_judge.specs.{Answerer.{reply, output_by, text_of, has_fault}, Judge.{counts_text, is_nothing}, code.Stream.{JudgesOn, WritesLines}}
use Rattle.x25_judge.specs.declared.{answerer.Answerer.{Answerer}, judge.Judge.{Judge}}
use Rattle.x25_judge.proofs.LineLemmas.{text_first, fault_first, no_text, no_fault}

-- before anything is read
start : (loose : Bool) (j : Judge) (old : Option (List ℕ)) (a : Answerer) (input : List ℕ) → a.loose ≡ loose → a.judge ≡ j → a.output ≡ [] → a.is_faulty ≡ false
    → JudgesOn loose j a old old (lines_of input) input
start loose j old a input reads same none right = record {
  reads = reads;
  told = [];
  tells = none_told old a.output none;
  same = ap (λ k. text_of loose k (lines_of input)) same;
  status = ap (λ b. b || has_fault loose a.judge (lines_of input)) right ∙ ap (λ k. has_fault loose k (lines_of input)) same;
}

pub input_begins : (loose : Bool) (j : Judge) (old : Option (List ℕ)) (held first : HeldLine) (a b : Answerer) → held ≡ first → a ≡ b → HoldsLine [] first
    → b.loose ≡ loose → b.judge ≡ j → b.output ≡ [] → b.is_faulty ≡ false → (input : List ℕ)
    → LinesLead (λ lines. JudgesOn loose j a old old lines input) held input
input_begins loose j old held first a b is_held is_answerer empty reads same none right input =
    between (λ (lines : List (List ℕ)). JudgesOn loose j a old old lines input) held input (subst (HoldsLine []) (sym is_held) empty)
    (start loose j old a input (ap (λ (a : Answerer). a.loose) is_answerer ∙ reads) (ap (λ (a : Answerer). a.judge) is_answerer ∙ same)
    (ap (λ (a : Answerer). a.output) is_answerer ∙ none) (ap (λ (a : Answerer). a.is_faulty) is_answerer ∙ right))

module _ (loose : Bool) (j : Judge) (old now next : Option (List ℕ)) (input : List ℕ) where
  -- a line was taken
  pub line_told : (a b : Answerer) (line : List ℕ) (lines : List (List ℕ)) (h : JudgesOn loose j a old now (line ∷ lines) input)
      → Tells old next b.output (h.told ++ (reply a.loose a.judge line).text) → b.judge ≡ (reply a.loose a.judge line).next
      → b.is_faulty ≡ (a.is_faulty || (reply a.loose a.judge line).counts) → b.loose ≡ a.loose → JudgesOn loose j b old next lines input
  line_told a b line lines h tells judge faulty reads =
      let answer = reply loose a.judge line in
      record {
        reads = reads ∙ h.reads;
        told = h.told ++ answer.text;
        tells = subst (λ l. Tells old next b.output (h.told ++ (reply l a.judge line).text)) h.reads tells;
        same = ap (λ k. (h.told ++ answer.text) ++ text_of loose k lines) (judge ∙ ap (λ l. (reply l a.judge line).next) h.reads)
            ∙ append_assoc h.told answer.text (text_of loose answer.next lines) ∙ ap (λ t. h.told ++ t) (sym (text_first loose a.judge line lines)) ∙ h.same;
        status = ap (λ k. b.is_faulty || has_fault loose k lines) (judge ∙ ap (λ l. (reply l a.judge line).next) h.reads)
            ∙ ap (λ f. f || has_fault loose answer.next lines) (faulty ∙ ap (λ l. a.is_faulty || (reply l a.judge line).counts) h.reads)
            ∙ or_assoc a.is_faulty answer.counts (has_fault loose answer.next lines) ∙ ap (λ f. a.is_faulty || f) (sym (fault_first loose a.judge line lines))
            ∙ h.status;
      }

  pub line_failed : (a : Answerer) (line : List ℕ) (lines : List (List ℕ)) (h : JudgesOn loose j a old now (line ∷ lines) input)
      → AppendsPrefix old next (h.told ++ (reply a.loose a.judge line).text) → AppendsPrefix old next (output_by loose j input)
  line_failed a line lines h b = subst (AppendsPrefix old next) h.same
      (part_of_all old next h.told (reply loose a.judge line).text (text_of loose (reply loose a.judge line).next lines) _ (text_first loose a.judge line lines)
      (subst (λ l. AppendsPrefix old next (h.told ++ (reply l a.judge line).text)) h.reads b))

  -- what waited is written
  pub part_written : (a : Answerer) (lines : List (List ℕ)) (h : JudgesOn loose j a old now lines input) → AppendsPrefix old next h.told
      → AppendsPrefix old next (output_by loose j input)
  part_written a lines h b = subst (AppendsPrefix old next) h.same (prefix_more old next h.told (text_of loose a.judge lines) b)

  pub all_written : (a : Answerer) (output : List ℕ) (lines : List (List ℕ)) (h : JudgesOn loose j a old now lines input) → Tells old next output h.told
      → output ≡ [] → JudgesOn loose j (record a { output = output }) old next lines input × WritesLines loose old next lines (output_by loose j input)
      × AppendsPrefix old next (output_by loose j input)
  all_written a output lines h tells none = (
    record { reads = h.reads; told = h.told; tells = tells; same = h.same; status = h.status },
    record {
      at = a.judge;
      part = tells.written;
      appends = tells.appends;
      same = ap (λ t. t ++ text_of loose a.judge lines) (sym (append-nil tells.written) ∙ ap (λ t. tells.written ++ t) (sym none) ∙ tells.same) ∙ h.same;
    },
    part_written a lines h (told_prefix old next output h.told tells),
  )

  -- all is told where no line is to come
  all_told : (a : Answerer) (h : JudgesOn loose j a old now [] input) → h.told ++ counts_text a.judge ≡ output_by loose j input
  all_told a h = ap (λ t. h.told ++ t) (sym (no_text loose a.judge)) ∙ h.same

  pub ended : (a : Answerer) (output : List ℕ) (h : JudgesOn loose j a old now [] input) → Tells old next output (h.told ++ counts_text a.judge) → output ≡ []
      → Appends old next (output_by loose j input) × ((a.is_faulty || is_nothing a.judge) ≡ has_fault loose j (lines_of input))
  ended a output h tells none =
      let written : tells.written ≡ h.told ++ counts_text a.judge =
      sym (append-nil tells.written) ∙ ap (λ t. tells.written ++ t) (sym none) ∙ tells.same in (
        subst (Appends old next) (written ∙ all_told a h) tells.appends,
        ap (λ b. a.is_faulty || b) (sym (no_fault loose a.judge)) ∙ h.status,
      )

  pub end_failed : (a : Answerer) (h : JudgesOn loose j a old now [] input) → AppendsPrefix old next (h.told ++ counts_text a.judge)
      → AppendsPrefix old next (output_by loose j input)
  end_failed a h b = subst (AppendsPrefix old next) (all_told a h) b
