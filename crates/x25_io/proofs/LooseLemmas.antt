-- Lines that are read loosely, and the text of what they ask.
use Rattle.std.proofs.Common.{◌≡◌, ◌∙◌, ◌<◌, ◌≤◌, ◌-◌, ◌==◌, ℕ, zero, suc, Bool, true, false, List, [], ◌∷◌, ◌++◌, Option, Some, None, length, drop, take}
use Rattle.std.proofs.{Common.{get_or, ap, sym, subst, refl, eq-eqb}, lemmas.Bool.{lt-leb}}
use Rattle.std.specs.{Prelude.{◌&&◌, nat_le, nat_lt, if◌then◌else◌, cond, IfSome}, Str.{bytes_eq}}
use Rattle.x25_io.{proofs.LineLemmas.{ends_line}, specs.HeldLine.{most_line}, specs.Lines.{IsOpen, lines_of, onto}, specs.Loose.{onto_asked, text_of_lines}}
use Rattle.x25_io.specs.Loose.{is_loose, is_passed, stamp_length, bare, without_mark, without_return, asked_from, asked, carried, asked_lines, asked_text}

-- ---- a line that is too long

not_loose : (loose : Bool) (line : List ℕ) → most_line < length line → is_loose loose line ≡ false
not_loose true line long = lt-leb (length line) most_line long
not_loose false line long = refl

pub long_asked : (loose : Bool) (line : List ℕ) → most_line < length line → asked loose line ≡ Some line
unfolding asked
long_asked loose line long = rw (not_loose loose line long) refl

pub long_carried : (loose : Bool) (line : List ℕ) → most_line < length line → carried loose line ≡ []
unfolding carried
long_carried loose line long = rw (not_loose loose line long) refl

-- ---- lines of what is asked

pub none_asked : (loose : Bool) (line : List ℕ) (lines : List (List ℕ)) → asked loose line ≡ None → asked_lines loose (line ∷ lines) ≡ asked_lines loose lines
none_asked loose line lines none = ap (λ o. onto_asked o (asked_lines loose lines)) none

pub one_asked : (loose : Bool) (line found : List ℕ) (lines : List (List ℕ)) → asked loose line ≡ Some found → asked_lines loose (line ∷ lines) ≡ found
    ∷ asked_lines loose lines
one_asked loose line found lines is = ap (λ o. onto_asked o (asked_lines loose lines)) is

pub all_asked : (lines : List (List ℕ)) → asked_lines false lines ≡ lines
unfolding asked
all_asked [] = refl
all_asked (line ∷ lines) = ap (λ ls. line ∷ ls) (all_asked lines)

abbrev AreOpen : List (List ℕ) → Type 0
AreOpen [] = Unit {0}
AreOpen (line ∷ lines) = IsOpen line × AreOpen lines

open_onto : (octet : ℕ) (lines : List (List ℕ)) → (octet ≡ 10 → ⊥) → AreOpen lines → AreOpen (onto octet lines)
open_onto octet [] is h = ((is, tt), tt)
open_onto octet (line ∷ lines) is h = ((is, h.0), h.1)

by_feed : (octet : ℕ) (lines : List (List ℕ)) (b : Bool) → (octet == 10) ≡ b → AreOpen lines → AreOpen (if b then [] ∷ lines else onto octet lines)
by_feed octet lines true is h = (tt, h)
by_feed octet lines false is h = open_onto octet lines (λ e. let yes = eq-eqb octet 10 e in cc) h

are_open : (text : List ℕ) → AreOpen (lines_of text)
unfolding lines_of
are_open [] = tt
are_open (octet ∷ text) = by_feed octet (lines_of text) (octet == 10) refl (are_open text)

open_drop : (n : ℕ) (line : List ℕ) → IsOpen line → IsOpen (drop n line)
open_drop zero line h = h
open_drop (suc n) [] h = tt
open_drop (suc n) (character ∷ line) h = open_drop n line h.1

open_take : (n : ℕ) (line : List ℕ) → IsOpen line → IsOpen (take n line)
open_take zero line h = tt
open_take (suc n) [] h = tt
open_take (suc n) (character ∷ line) h = (h.0, open_take n line h.1)

by_return : (line front : List ℕ) (b : Bool) → IsOpen line → IsOpen front → IsOpen (if b then front else line)
by_return line front true h k = k
by_return line front false h k = h

open_bare : (line : List ℕ) → IsOpen line → IsOpen (without_return line)
open_bare line h = by_return line (take (length line - 1) line) (nat_lt 0 (length line) && get_or line (length line - 1) 0 == 13) h
    (open_take (length line - 1) line h)

open_unmarked : (line : List ℕ) → IsOpen line → IsOpen (without_mark line)
open_unmarked line h = by_return line (drop 3 line) (bytes_eq (take 3 line) (239 ∷ 187 ∷ 191 ∷ [])) h (open_drop 3 line h)

open_asked : (loose : Bool) (line : List ℕ) → IsOpen line → IfSome (asked loose line) IsOpen
unfolding asked
open_asked loose line h = go (is_loose loose line)
  where
    passed : (b : Bool) → IfSome (if b then None else Some (drop (stamp_length (bare line)) (bare line))) IsOpen
    passed true = tt
    passed false = open_drop (stamp_length (bare line)) (bare line) (open_unmarked _ (open_bare line h))

    go : (b : Bool) → IfSome (if b then asked_from (bare line) else Some line) IsOpen
    go true = passed (is_passed (bare line))
    go false = h

open_with : (o : Option (List ℕ)) (lines : List (List ℕ)) → IfSome o IsOpen → AreOpen lines → AreOpen (onto_asked o lines)
open_with None lines one all = all
open_with (Some line) lines one all = (one, all)

open_lines : (loose : Bool) (lines : List (List ℕ)) → AreOpen lines → AreOpen (asked_lines loose lines)
open_lines loose [] h = tt
open_lines loose (line ∷ lines) h = open_with (asked loose line) (asked_lines loose lines) (open_asked loose line h.0) (open_lines loose lines h.1)

lines_again : (lines : List (List ℕ)) → AreOpen lines → lines_of (text_of_lines lines) ≡ lines
unfolding lines_of
lines_again [] h = refl
lines_again (line ∷ lines) h = ends_line line (text_of_lines lines) h.0 ∙ ap (λ ls. line ∷ ls) (lines_again lines h.1)

pub lines_asked : (loose : Bool) (text : List ℕ) → lines_of (asked_text loose text) ≡ asked_lines loose (lines_of text)
lines_asked true text = lines_again (asked_lines true (lines_of text)) (open_lines true (lines_of text) (are_open text))
lines_asked false text = sym (all_asked (lines_of text))
