-- Two ways to write an octet as two hexadecimal digits.
use Rattle.hex.specs.Hex.{encode_with, encode_lower, lower_digits}
use Rattle.std.{proofs.Common.{slice_index}, specs.Fmt.{digit_glyph}, specs.List.{flat_map}}
use Rattle.x25_text.{proofs.Names.{ℕ, zero, suc, ◌≡◌, ◌<◌, ◌/◌, ◌%◌, ◌∷◌, [], List, false, refl, arith}, specs.Text.{octet_text}}

digit_same : (d : ℕ) → d < 16 → slice_index lower_digits d ≡ digit_glyph false d
digit_same zero h = refl
digit_same (suc zero) h = refl
digit_same (suc (suc zero)) h = refl
digit_same (suc (suc (suc zero))) h = refl
digit_same (suc (suc (suc (suc zero)))) h = refl
digit_same (suc (suc (suc (suc (suc zero))))) h = refl
digit_same (suc (suc (suc (suc (suc (suc zero)))))) h = refl
digit_same (suc (suc (suc (suc (suc (suc (suc zero))))))) h = refl
digit_same (suc (suc (suc (suc (suc (suc (suc (suc zero)))))))) h = refl
digit_same (suc (suc (suc (suc (suc (suc (suc (suc (suc zero))))))))) h = refl
digit_same (suc (suc (suc (suc (suc (suc (suc (suc (suc (suc zero)))))))))) h = refl
digit_same (suc (suc (suc (suc (suc (suc (suc (suc (suc (suc (suc zero))))))))))) h = refl
digit_same (suc (suc (suc (suc (suc (suc (suc (suc (suc (suc (suc (suc zero)))))))))))) h = refl
digit_same (suc (suc (suc (suc (suc (suc (suc (suc (suc (suc (suc (suc (suc zero))))))))))))) h = refl
digit_same (suc (suc (suc (suc (suc (suc (suc (suc (suc (suc (suc (suc (suc (suc zero)))))))))))))) h = refl
digit_same (suc (suc (suc (suc (suc (suc (suc (suc (suc (suc (suc (suc (suc (suc (suc zero))))))))))))))) h = refl
digit_same (suc (suc (suc (suc (suc (suc (suc (suc (suc (suc (suc (suc (suc (suc (suc (suc n)))))))))))))))) h = absurd (omega arith)

-- as `hex` encodes octets
pub encode_lower_is : (octets : List ℕ) → ((i : ℕ) → slice_index octets i < 256) → encode_lower octets ≡ flat_map octet_text octets
unfolding encode_with
encode_lower_is [] fits = refl
encode_lower_is (octet ∷ octets) fits =
    let here : octet < 256 = fits 0 in
    let high : octet / 16 < 16 = omega arith in
    let low : octet % 16 < 16 = omega arith in
    rw (digit_same (octet / 16) high, digit_same (octet % 16) low, encode_lower_is octets (λ i. fits (suc i))) refl
