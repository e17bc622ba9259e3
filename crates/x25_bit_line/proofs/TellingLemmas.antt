-- Digits that are told a part at a time.
use Rattle.x25_bit_line.proofs.Names.{◌≡◌, ◌∙◌, ◌≤◌, ℕ, List, [], ◌∷◌, ◌++◌, length, Option, append_assoc, ap, sym, subst, refl, arith, flat_map, append-nil}
use Rattle.x25_bit_line.proofs.Names.{AppendsPrefix, Tells, prefix_more}
use Rattle.std.{proofs.lemmas.Grind.{flat_map-append}, specs.Io.KnownBytes.{Appends}}
use Rattle.x25_text.specs.Text.{octet_text}

-- all that was told is written
pub told_all : (old now : Option (List ℕ)) (text told : List ℕ) → Tells old now text told → text ≡ [] → Appends old now told
told_all old now text told h empty = subst (Appends old now) (sym (append-nil h.written) ∙ ap (λ t. h.written ++ t) (sym empty) ∙ h.same) h.appends

pub empty_is_nil : (left : List ℕ) → length left ≤ 0 → left ≡ []
empty_is_nil [] h = refl
empty_is_nil (b ∷ left) h = absurd (omega arith)

module _ (old now : Option (List ℕ)) (told : List ℕ) where
  pub no_digits : (text : List ℕ) → Tells old now text told → Tells old now text (told ++ flat_map octet_text [])
  no_digits text h = subst (Tells old now text) (sym (append-nil told)) h

  pub more_digits : (text part more digits : List ℕ) → digits ≡ flat_map octet_text more → Tells old now text ((told ++ flat_map octet_text part) ++ digits)
      → Tells old now text (told ++ flat_map octet_text (part ++ more))
  more_digits text part more digits e h =
      subst (Tells old now text)
      (append_assoc told (flat_map octet_text part) digits ∙ ap (λ t. told ++ (flat_map octet_text part ++ t)) e
      ∙ ap (λ t. told ++ t) (sym (flat_map-append octet_text part more))) h

  pub lost_digits : (octets part left more rest digits : List ℕ) → octets ≡ part ++ left → left ≡ more ++ rest → digits ≡ flat_map octet_text more
      → AppendsPrefix old now ((told ++ flat_map octet_text part) ++ digits) → AppendsPrefix old now (told ++ flat_map octet_text octets)
  lost_digits octets part left more rest digits e f d b =
      let all : ((told ++ flat_map octet_text part) ++ digits) ++ flat_map octet_text rest ≡ told ++ flat_map octet_text octets =
      append_assoc (told ++ flat_map octet_text part) digits (flat_map octet_text rest)
      ∙ append_assoc told (flat_map octet_text part) (digits ++ flat_map octet_text rest)
      ∙ ap (λ t. told ++ (flat_map octet_text part ++ (t ++ flat_map octet_text rest))) d
      ∙ ap (λ t. told ++ (flat_map octet_text part ++ t)) (sym (flat_map-append octet_text more rest))
      ∙ ap (λ t. told ++ t) (sym (flat_map-append octet_text part (more ++ rest)))
      ∙ ap (λ l. told ++ flat_map octet_text (part ++ l)) (sym f)
      ∙ ap (λ l. told ++ flat_map octet_text l) (sym e) in
      subst (AppendsPrefix old now) all (prefix_more old now ((told ++ flat_map octet_text part) ++ digits) (flat_map octet_text rest) b)

  pub all_digits : (text octets part left : List ℕ) → octets ≡ part ++ left → left ≡ [] → Tells old now text (told ++ flat_map octet_text part)
      → Tells old now text (told ++ flat_map octet_text octets)
  all_digits text octets part left e none h =
      subst (λ l. Tells old now text (told ++ flat_map octet_text l)) (sym (e ∙ ap (λ l. part ++ l) none ∙ append-nil part)) h
