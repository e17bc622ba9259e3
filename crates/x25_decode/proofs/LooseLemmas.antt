-- An input that is read loosely, line by line.
use Rattle.x25_decode.proofs.Names.{◌≡◌, ◌∙◌, ◌<◌, ℕ, true, false, List, [], ◌∷◌, ◌++◌, Option, None, length, append_assoc, ap, sym, subst, refl, Appends}
use Rattle.std.{proofs.Common.{◌||◌, Result, codes}, proofs.Math.Bool.{or_assoc, or-false}, proofs.lemmas.List.{append-nil}, specs.List.{list_any}}
use Rattle.std.specs.Prelude.{MatchResult}
use Rattle.x25_decode.{proofs.Names.{flat_map, AppendsPrefix, answer_to, is_refused, sent_in, Reading}, specs.Decoding.{gap_in}}
use Rattle.x25_decode.specs.LooseDecoder.{answer_loosely, answer_to_asked, refuses_asked, refuses_loosely, loose_output}
use Rattle.x25_decode.specs.{code.LooseStream.{DecodesLines, WritesLines}, declared.loose_decoder.LooseDecoder.{LooseDecoder}}
use Rattle.x25_io.proofs.{LooseLemmas.{long_asked, long_carried}, TakerLemmas.{between}, ToldLemmas.{none_told, part_of_all, prefix_more, told_prefix}}
use Rattle.x25_io.specs.{HeldLine.{HoldsLine, most_line}, Lines.{lines_of}, Loose.{asked, carried}, code.LinesLead.{LinesLead}, code.Written.{Tells, TellsMore}}
use Rattle.x25_io.specs.declared.held_line.HeldLine.{HeldLine}

-- ---- a line that is too long

no_answer : (reading : Reading) (line : List ℕ) → sent_in line ≡ None → gap_in line ≡ None → answer_to reading line ≡ codes "? 60\n"
unfolding answer_to
no_answer reading line none gap = rw (none, gap) refl

no_sense : (line : List ℕ) → sent_in line ≡ None → gap_in line ≡ None → is_refused line ≡ true
unfolding is_refused
no_sense line none gap = rw (none, gap) refl

pub long_answer : (reading : Reading) (line : List ℕ) → most_line < length line → sent_in line ≡ None → gap_in line ≡ None → answer_loosely reading line
    ≡ codes "? 60\n"
unfolding answer_loosely
long_answer reading line long none gap = ap (λ t. t ++ answer_to_asked reading (asked true line)) (long_carried true line long)
    ∙ ap (answer_to_asked reading) (long_asked true line long) ∙ no_answer reading line none gap

pub long_refused : (line : List ℕ) → most_line < length line → sent_in line ≡ None → gap_in line ≡ None → refuses_loosely line ≡ true
unfolding refuses_loosely
long_refused line long none gap = ap refuses_asked (long_asked true line long) ∙ no_sense line none gap

-- ---- a line in parts

pub answer_parts : (reading : Reading) (line head : List ℕ) (o : Option (List ℕ)) → head ≡ carried true line → asked true line ≡ o
    → answer_loosely reading line ≡ head ++ answer_to_asked reading o
unfolding answer_loosely
answer_parts reading line head o is found = ap (λ t. t ++ answer_to_asked reading (asked true line)) (sym is)
    ∙ ap (λ x. head ++ answer_to_asked reading x) found

pub refuses_parts : (line : List ℕ) (o : Option (List ℕ)) → asked true line ≡ o → refuses_loosely line ≡ refuses_asked o
unfolding refuses_loosely
refuses_parts line o found = ap refuses_asked found

-- the second part behind the first
pub told_behind : {T E : Type 0} (r : Result T E) (was next : Option (List ℕ)) (waited waits head more all : List ℕ) → all ≡ head ++ more
    → TellsMore r was next waited waits more
    → (old : Option (List ℕ)) (told : List ℕ) → Tells old was waited (told ++ head)
    → MatchResult r (λ _. Tells old next waits (told ++ all)) (λ _. AppendsPrefix old next (told ++ all))
told_behind {T} {E} r was next waited waits head more all e tells old told h =
    subst (λ t. MatchResult r (λ _. Tells old next waits t) (λ _. AppendsPrefix old next t)) (append_assoc told head more ∙ ap (λ t. told ++ t) (sym e))
    (tells old (told ++ head) h)

-- ---- before anything is read

start : (reading : Reading) (old : Option (List ℕ)) (d : LooseDecoder) (input : List ℕ) → d.reading ≡ reading → d.output ≡ [] → d.is_refused ≡ false
    → DecodesLines reading d old old (lines_of input) input
start reading old d input reads empty none = record {
  reads = reads;
  told = [];
  tells = none_told old d.output empty;
  same = refl;
  status = ap (λ b. b || list_any refuses_loosely (lines_of input)) none;
}

pub input_begins : (reading : Reading) (old : Option (List ℕ)) (held first : HeldLine) (d made : LooseDecoder) → held ≡ first → d ≡ made → HoldsLine [] first
    → made.reading ≡ reading → made.output ≡ [] → made.is_refused ≡ false → (input : List ℕ)
    → LinesLead (λ lines. DecodesLines reading d old old lines input) held input
input_begins reading old held first d made is_held is_decoder empty reads nothing none input =
    between (λ (lines : List (List ℕ)). DecodesLines reading d old old lines input) held input (subst (HoldsLine []) (sym is_held) empty)
    (start reading old d input (ap (λ (d : LooseDecoder). d.reading) is_decoder ∙ reads) (ap (λ (d : LooseDecoder). d.output) is_decoder ∙ nothing)
    (ap (λ (d : LooseDecoder). d.is_refused) is_decoder ∙ none))

module _ (reading : Reading) (old now next : Option (List ℕ)) (input : List ℕ) where
  -- a line was taken
  pub line_told : (d e : LooseDecoder) (line : List ℕ) (lines : List (List ℕ)) (h : DecodesLines reading d old now (line ∷ lines) input)
      → e.reading ≡ d.reading → Tells old next e.output (h.told ++ answer_loosely d.reading line) → e.is_refused ≡ (d.is_refused || refuses_loosely line)
      → DecodesLines reading e old next lines input
  line_told d e line lines h reads tells refused = record {
    reads = reads ∙ h.reads;
    told = h.told ++ answer_loosely reading line;
    tells = subst (λ r. Tells old next e.output (h.told ++ answer_loosely r line)) h.reads tells;
    same = append_assoc h.told (answer_loosely reading line) (flat_map (answer_loosely reading) lines) ∙ h.same;
    status = ap (λ b. b || list_any refuses_loosely lines) refused ∙ or_assoc d.is_refused (refuses_loosely line) (list_any refuses_loosely lines) ∙ h.status;
  }

  pub line_failed : (d : LooseDecoder) (line : List ℕ) (lines : List (List ℕ)) (h : DecodesLines reading d old now (line ∷ lines) input)
      → AppendsPrefix old next (h.told ++ answer_loosely d.reading line) → AppendsPrefix old next (loose_output reading input)
  line_failed d line lines h b = subst (AppendsPrefix old next) h.same
      (part_of_all old next h.told (answer_loosely reading line) (flat_map (answer_loosely reading) lines) _ refl
      (subst (λ r. AppendsPrefix old next (h.told ++ answer_loosely r line)) h.reads b))

  -- what waited is written
  pub part_written : (d : LooseDecoder) (lines : List (List ℕ)) (h : DecodesLines reading d old now lines input) → AppendsPrefix old next h.told
      → AppendsPrefix old next (loose_output reading input)
  part_written d lines h b = subst (AppendsPrefix old next) h.same (prefix_more old next h.told (flat_map (answer_loosely reading) lines) b)

  pub all_written : (d : LooseDecoder) (output : List ℕ) (lines : List (List ℕ)) (h : DecodesLines reading d old now lines input) → Tells old next output h.told
      → output ≡ [] → DecodesLines reading (record d { output = output }) old next lines input × WritesLines reading old next lines input
      × AppendsPrefix old next (loose_output reading input)
  all_written d output lines h tells none = (
    record { reads = h.reads; told = h.told; tells = tells; same = h.same; status = h.status },
    record {
      part = tells.written;
      appends = tells.appends;
      same = ap (λ t. t ++ flat_map (answer_loosely reading) lines) (sym (append-nil tells.written) ∙ ap (λ t. tells.written ++ t) (sym none) ∙ tells.same)
          ∙ h.same;
    },
    part_written d lines h (told_prefix old next output h.told tells),
  )

  pub ended : (d : LooseDecoder) (output : List ℕ) (h : DecodesLines reading d old now [] input) → Tells old next output h.told → output ≡ []
      → Appends old next (loose_output reading input) × (d.is_refused ≡ list_any refuses_loosely (lines_of input))
  ended d output h tells none =
      let written : tells.written ≡ h.told = sym (append-nil tells.written) ∙ ap (λ t. tells.written ++ t) (sym none) ∙ tells.same in (
        subst (Appends old next) (written ∙ sym (append-nil h.told) ∙ h.same) tells.appends,
        sym (or-false d.is_refused) ∙ h.status,
      )
