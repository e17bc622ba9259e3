-- Octets and the hexadecimal digits that write them.
use Rattle.x25_script.proofs.Names.{ℕ, ◌≡◌, ◌∙◌, true, false, List, [], ◌∷◌, length, Option, Some, None, refl, ap, sym, arith, ◌&&◌, list_all, and_parts}
use Rattle.hex.{proofs.HexLemmas.{decode_of-digits}, specs.Hex.{decode_of, decode_pairs, is_hex_digit}, specs.declared.error.FromHexError.{FromHexError}}
use Rattle.std.{proofs.Common.{◌*◌, ◌%◌, Result, Ok, Err}, proofs.lemmas.List.Elements.{All-cons, All-head, All-nil, All-tail}, specs.Char.{is_ascii_hexdigit}}
use Rattle.std.specs.{List.{AllPass}, Prelude.{is_some, unwrap_or}, Result.{result_ok}}
use Rattle.x25_script.{proofs.Names.{nat_tests, decode_of-ok}, specs.HexDigits.{octets_of, octets_written, AreWritten}}

digit_same : (c : ℕ) → is_ascii_hexdigit c ≡ is_hex_digit c
digit_same c = grind (arith, nat_tests)

pub digits_pass : (text : List ℕ) → list_all is_ascii_hexdigit text ≡ true → AllPass is_hex_digit text
digits_pass [] h = All-nil (λ x. is_hex_digit x ≡ true)
digits_pass (c ∷ text) h =
    let parts = and_parts (is_ascii_hexdigit c) (list_all is_ascii_hexdigit text) h in
    All-cons (λ x. is_hex_digit x ≡ true) c text (sym (digit_same c) ∙ parts.0) (digits_pass text parts.1)

pub passes_digits : (text : List ℕ) → AllPass is_hex_digit text → list_all is_ascii_hexdigit text ≡ true
passes_digits [] h = refl
passes_digits (c ∷ text) h =
    let first : is_ascii_hexdigit c ≡ true = digit_same c ∙ All-head (λ x. is_hex_digit x ≡ true) c text h in
    let rest = passes_digits text (All-tail (λ x. is_hex_digit x ≡ true) c text h) in
    ap (λ b. b && list_all is_ascii_hexdigit text) first ∙ rest

-- digits that write octets
pub are_written : (text : List ℕ) → length text % 2 ≡ 0 → list_all is_ascii_hexdigit text ≡ true → AreWritten text
are_written text even h = let read = decode_of-digits text even (digits_pass text h) in ap (λ r. is_some (result_ok r)) read.1

pub written_is : (text : List ℕ) → AreWritten text → octets_of text ≡ Some (octets_written text)
written_is text h = go (octets_of text) h
  where
    go : (o : Option (List ℕ)) → is_some o ≡ true → o ≡ Some (unwrap_or o [])
    go (Some octets) h = refl
    go None h = absurd (cc)

-- text that writes none
unwritten : (text : List ℕ) (r : Result (List ℕ) FromHexError) → decode_of text ≡ r → ((bytes : List ℕ) → decode_of text ≡ Ok bytes → ⊥) → result_ok r ≡ None
unwritten text (Ok bytes) e h = absurd (h bytes e)
unwritten text (Err fault) e h = refl

pub odd_unwritten : (text : List ℕ) → length text % 2 ≡ 1 → octets_of text ≡ None
odd_unwritten text odd = unwritten text (decode_of text) refl (λ bytes e. let read = decode_of-ok text bytes e in omega (arith, read.0))

pub others_unwritten : (text : List ℕ) → list_all is_ascii_hexdigit text ≡ false → octets_of text ≡ None
others_unwritten text h = unwritten text (decode_of text) refl (λ bytes e.
    let read = decode_of-ok text bytes e in let both : true ≡ false = sym (passes_digits text read.1) ∙ h in absurd (cc))

decoded : (text : List ℕ) (r : Result (List ℕ) FromHexError) → decode_of text ≡ r → is_some (result_ok r) ≡ true
    → decode_of text ≡ Ok (unwrap_or (result_ok r) [])
decoded text (Ok bytes) e h = e
decoded text (Err fault) e h = absurd (cc)

pub written_decodes : (text : List ℕ) → AreWritten text → decode_of text ≡ Ok (octets_written text)
written_decodes text h = decoded text (decode_of text) refl h

pub octets_of_none : octets_of [] ≡ Some []
unfolding decode_pairs
octets_of_none = refl

-- two digits for each octet
pub length_written : (text : List ℕ) → AreWritten text → length text ≡ 2 * length (octets_written text)
length_written text h = (decode_of-ok text (octets_written text) (written_decodes text h)).2

pub written_are_digits : (text : List ℕ) → AreWritten text → list_all is_ascii_hexdigit text ≡ true
written_are_digits text h = passes_digits text (decode_of-ok text (octets_written text) (written_decodes text h)).1
