-- A text, a piece at a time.
use Rattle.std.{proofs.Common.{◌||◌}, proofs.Math.Bool.{or_assoc, or-false}, proofs.lemmas.List.{append-nil}, specs.List.{list_any}}
use Rattle.x25_decode.proofs.Names.{Reading, ◌≡◌, ◌∙◌, ℕ, Bool, false, List, [], ◌∷◌, ◌++◌, Option, ap, sym, refl, subst, append_assoc, flat_map, Appends}
use Rattle.x25_decode.{proofs.Names.{AppendsPrefix, answer_to, is_refused}, specs.Decoding.{output_of, has_refused}, specs.code.Stream.{Leads, WritesEnded}}
use Rattle.x25_io.proofs.{LineLemmas.{ends_line, open-append}, ToldLemmas.{none_told, prefix_more}}
use Rattle.x25_io.specs.{HeldLine.{HoldsLine}, Lines.{IsOpen, lines_of}, code.Written.{Tells}, declared.held_line.HeldLine.{HeldLine}}

nil_output : (reading : Reading) → output_of reading [] ≡ []
unfolding lines_of
nil_output reading = refl

nil_refuses : has_refused [] ≡ false
unfolding lines_of
nil_refuses = refl

-- before anything is read
pub start : (reading : Reading) (old : Option (List ℕ)) (held : HeldLine) (text input : List ℕ) → HoldsLine [] held → text ≡ []
    → Leads reading old old held text false input (output_of reading input) (has_refused input)
start reading old held text input empty none = record {
  begun = [];
  is_open = tt;
  holds = empty;
  told = [];
  tells = none_told old text none;
  same = refl;
  status = refl;
}

module _ (reading : Reading) (old now next : Option (List ℕ)) (held : HeldLine) (text : List ℕ) (refused : Bool) (rest all : List ℕ) (any : Bool) where
  -- what waited is written
  abbrev pub written : (text2 : List ℕ) (h : Leads reading old now held text refused rest all any) → Tells old next text2 h.told
      → Leads reading old next held text2 refused rest all any
  written text2 h tells = record {
    begun = h.begun;
    is_open = h.is_open;
    holds = h.holds;
    told = h.told;
    tells = tells;
    same = h.same;
    status = h.status;
  }

  pub part_written : (h : Leads reading old now held text refused rest all any) → AppendsPrefix old next h.told → AppendsPrefix old next all
  part_written h b = subst (AppendsPrefix old next) h.same (prefix_more old next h.told (output_of reading (h.begun ++ rest)) b)

  -- all is written but the answers to the line that has begun and to the rest
  pub ended_written : (h : Leads reading old now held text refused rest all any) → text ≡ [] → WritesEnded reading old now rest all
  ended_written h none = record {
    begun = h.begun;
    is_open = h.is_open;
    part = h.tells.written;
    appends = h.tells.appends;
    same = ap (λ t. t ++ output_of reading (h.begun ++ rest)) (sym (append-nil h.tells.written) ∙ ap (λ t. h.tells.written ++ t) (sym none) ∙ h.tells.same)
        ∙ h.same;
  }

  -- more of the line that has begun
  pub held_more : (held2 : HeldLine) (part : List ℕ) → Leads reading old now held text refused (part ++ rest) all any → IsOpen part
      → ((begun : List ℕ) → HoldsLine begun held → HoldsLine (begun ++ part) held2) → Leads reading old now held2 text refused rest all any
  held_more held2 part h none holds = record {
    begun = h.begun ++ part;
    is_open = open-append h.begun part h.is_open none;
    holds = holds h.begun h.holds;
    told = h.told;
    tells = h.tells;
    same = ap (λ t. h.told ++ output_of reading t) (append_assoc h.begun part rest) ∙ h.same;
    status = ap (λ t. refused || has_refused t) (append_assoc h.begun part rest) ∙ h.status;
  }

  -- the first line that is left is answered, and behind it none has begun
  abbrev pub answered : (held2 : HeldLine) (text2 : List ℕ) (refused2 : Bool) (line left : List ℕ) (h : Leads reading old now held text refused left all any)
      → lines_of (h.begun ++ left) ≡ line ∷ lines_of rest → Tells old next text2 (h.told ++ answer_to reading line) → refused2 ≡ (refused || is_refused line)
      → HoldsLine [] held2 → Leads reading old next held2 text2 refused2 rest all any
  answered held2 text2 refused2 line left h lines tells refusal empty = record {
    begun = [];
    is_open = tt;
    holds = empty;
    told = h.told ++ answer_to reading line;
    tells = tells;
    same = append_assoc h.told (answer_to reading line) (output_of reading rest) ∙ ap (λ t. h.told ++ t) (sym (ap (flat_map (answer_to reading)) lines))
        ∙ h.same;
    status = ap (λ b. b || has_refused rest) refusal ∙ or_assoc refused (is_refused line) (has_refused rest)
        ∙ ap (λ b. refused || b) (sym (ap (list_any is_refused) lines)) ∙ h.status;
  }

  -- where none has begun, the first line is that of the text
  pub first_line : (line : List ℕ) (h : Leads reading old now held text refused (line ++ 10 ∷ rest) all any) → IsOpen line → h.begun ≡ []
      → lines_of (h.begun ++ (line ++ 10 ∷ rest)) ≡ line ∷ lines_of rest
  first_line line h none empty = ap (λ b. lines_of (b ++ (line ++ 10 ∷ rest))) empty ∙ ends_line line rest none

-- the end: no line has begun, and nothing waits
pub ended : (reading : Reading) (old now : Option (List ℕ)) (held : HeldLine) (text : List ℕ) (refused : Bool) (all : List ℕ) (any : Bool)
    → (h : Leads reading old now held text refused [] all any) → h.begun ≡ [] → text ≡ [] → Appends old now all × (refused ≡ any)
ended reading old now held text refused all any h empty none =
    let whole : h.told ≡ all = sym (append-nil h.told) ∙ ap (λ t. h.told ++ t) (sym (nil_output reading))
    ∙ ap (λ b. h.told ++ output_of reading (b ++ [])) (sym empty) ∙ h.same in
    let told : h.tells.written ≡ h.told = sym (append-nil h.tells.written) ∙ ap (λ t. h.tells.written ++ t) (sym none) ∙ h.tells.same in (
      subst (Appends old now) (told ∙ whole) h.tells.appends,
      sym (or-false refused) ∙ ap (λ b. refused || b) (sym nil_refuses) ∙ ap (λ b. refused || has_refused (b ++ [])) (sym empty) ∙ h.status,
    )
