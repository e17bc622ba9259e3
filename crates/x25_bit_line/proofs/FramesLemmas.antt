-- The bits sent for lines.
use Rattle.x25_bit_line.proofs.Names.{◌≡◌, ◌∙◌, ℕ, Bool, false, List, [], ◌∷◌, ◌++◌, Option, append_assoc, ap, sym, subst, refl, arith, flat_map, append-nil}
use Rattle.std.{proofs.Common.{◌||◌}, proofs.Math.Bool.{or_assoc, or-false}, specs.List.{list_any}}
use Rattle.x25_bit_line.proofs.{Names.{octets_by, octets_of, filled, AppendsPrefix, Tells, prefix_more, framed_bits, line_bits}, TellingLemmas.{told_all}}
use Rattle.x25_bit_line.specs.{Framing.{framed_octets, has_wrong, is_wrong}, LineBits.{Sends}, code.Frames.{FramesOn, WritesLines}}
use Rattle.x25_bit_line.specs.declared.{frame_sender.FrameSender.{FrameSender}, line_bits.LineBits.{LineBits}}
use Rattle.x25_io.proofs.{LooseLemmas.{lines_asked}, TakerLemmas.{between}, ToldLemmas.{none_told, told_prefix}}
use Rattle.x25_io.specs.HeldLine.{HoldsLine}
use Rattle.x25_io.specs.{Lines.{lines_of}, Loose.{asked_lines, asked_text}, code.LinesLead.{LinesLead}, declared.held_line.HeldLine.{HeldLine}}

-- before anything is read
start : (old : Option (List ℕ)) (s : FrameSender) (input : List ℕ) → s.bits.bits ≡ [] → s.output ≡ [] → s.is_wrong ≡ false
    → FramesOn s old old (lines_of input) input
unfolding octets_by
start old s input none no_text right = record {
  bits = [];
  sends = subst (λ (left : List Bool). Sends old old left s.output []) (sym none)
      (record { told = []; tells = none_told old s.output no_text; few = omega arith; same = λ more. refl });
  same = refl;
  status = ap (λ b. b || has_wrong input) right;
}

pub begins : (loose : Bool) (old : Option (List ℕ)) (held first : HeldLine) (is_loose : Bool) (s sender : FrameSender) → held ≡ first → is_loose ≡ loose → s
    ≡ sender → HoldsLine [] first
    → sender.bits.bits ≡ [] → sender.output ≡ [] → sender.is_wrong ≡ false → (input : List ℕ)
    → LinesLead (λ lines. (is_loose ≡ loose) × FramesOn s old old (asked_lines loose lines) (asked_text loose input)) held input
begins loose old held first is_loose s sender is_first is_so is_sender empty none no_text right input =
    let text = asked_text loose input in
    between (λ (lines : List (List ℕ)). (is_loose ≡ loose) × FramesOn s old old (asked_lines loose lines) text) held input
    (subst (HoldsLine []) (sym is_first) empty) (
      is_so,
      subst (λ (lines : List (List ℕ)). FramesOn s old old lines text) (lines_asked loose input)
          (start old s text (ap (λ (s : FrameSender). s.bits.bits) is_sender ∙ none) (ap (λ (s : FrameSender). s.output) is_sender ∙ no_text)
          (ap (λ (s : FrameSender). s.is_wrong) is_sender ∙ right)),
    )

module _ (old now next : Option (List ℕ)) (input : List ℕ) where
  -- a line was taken
  pub line_taken : (s u : FrameSender) (line : List ℕ) (lines : List (List ℕ)) (h : FramesOn s old now (line ∷ lines) input)
      → Sends old next u.bits.bits u.output (h.bits ++ line_bits line)
      → u.is_wrong ≡ (s.is_wrong || is_wrong line) → FramesOn u old next lines input
  line_taken s u line lines h sends wrong = record {
    bits = h.bits ++ line_bits line;
    sends = sends;
    same = append_assoc h.bits (line_bits line) (flat_map line_bits lines) ∙ h.same;
    status = ap (λ b. b || list_any is_wrong lines) wrong ∙ or_assoc s.is_wrong (is_wrong line) (list_any is_wrong lines) ∙ h.status;
  }

  pub line_lost : (s : FrameSender) (line : List ℕ) (lines : List (List ℕ)) (h : FramesOn s old now (line ∷ lines) input)
      → ((behind : List Bool) → AppendsPrefix old next (octets_of (filled ((h.bits ++ line_bits line) ++ behind))))
      → AppendsPrefix old next (framed_octets input)
  line_lost s line lines h b =
      subst (λ bits. AppendsPrefix old next (octets_of (filled bits))) (append_assoc h.bits (line_bits line) (flat_map line_bits lines) ∙ h.same)
      (b (flat_map line_bits lines))

  -- a beginning of what was told is written
  pub part_written : (s : FrameSender) (lines : List (List ℕ)) (h : FramesOn s old now lines input) → AppendsPrefix old next h.sends.told
      → AppendsPrefix old next (framed_octets input)
  part_written s lines h b =
      subst (AppendsPrefix old next) (h.sends.same (flat_map line_bits lines) ∙ ap (λ bits. octets_of (filled bits)) h.same)
      (prefix_more old next h.sends.told (octets_of (filled (s.bits.bits ++ flat_map line_bits lines))) b)

  -- what waited is written
  pub all_written : (s u : FrameSender) (lines : List (List ℕ)) (h : FramesOn s old now lines input) → u.bits ≡ s.bits → u.is_wrong ≡ s.is_wrong
      → Tells old next u.output h.sends.told → u.output ≡ []
      → FramesOn u old next lines input × WritesLines old next lines input × AppendsPrefix old next (framed_octets input)
  all_written s u lines h bits wrong tells none = (
    record {
      bits = h.bits;
      sends = record {
        told = h.sends.told;
        tells = tells;
        few = rw bits h.sends.few;
        same = λ more. ap (λ (b : LineBits). h.sends.told ++ octets_of (filled (b.bits ++ more))) bits ∙ h.sends.same more;
      };
      same = h.same;
      status = ap (λ b. b || list_any is_wrong lines) wrong ∙ h.status;
    },
    record {
      left = s.bits.bits;
      few = h.sends.few;
      part = h.sends.told;
      appends = told_all old next u.output h.sends.told tells none;
      same = h.sends.same (flat_map line_bits lines) ∙ ap (λ bits. octets_of (filled bits)) h.same;
    },
    part_written s lines h (told_prefix old next u.output h.sends.told tells),
  )

-- no line is to come
pub none_left : (old now : Option (List ℕ)) (input : List ℕ) (s : FrameSender) (h : FramesOn s old now [] input) → (h.bits ≡ framed_bits input)
    × (s.is_wrong ≡ has_wrong input)
none_left old now input s h = (sym (append-nil h.bits) ∙ h.same, sym (or-false s.is_wrong) ∙ h.status)
