-- Bits filled up to whole octets.
use Rattle.std.proofs.Common.{ℕ, zero, suc, ◌+◌, ◌-◌, ◌/◌, ◌%◌, ◌<◌, ◌≤◌, ◌≡◌, ◌∙◌, Bool, true, List, [], ◌∷◌, ◌++◌, length, get_or, refl, ap, sym, arith}
use Rattle.std.proofs.Common.{length-append, append_assoc}
use Rattle.std.specs.Prelude.{replicate}
use Rattle.std.proofs.lemmas.List.{append-nil, length-replicate}
use Rattle.x25_bits.specs.FrameCheck.{bits_of}
use Rattle.x25_bits.specs.Found.{Content, found_of, octets_of}
use Rattle.x25_bits.specs.Deframer.{flag}
use Rattle.x25_bits.specs.Stuffing.{framed, filled}
use Rattle.x25_bits.specs.code.Held.{Seen, seen_next, seen_of, found_from}
use Rattle.x25_bits.proofs.ContentLemmas.{bits_of-octets_by}
use Rattle.x25_bits.proofs.FoundLemmas.{found_more}
use Rattle.x25_bits.proofs.LawLemmas.{put_found_behind}
use Rattle.x25_bits.proofs.OctetLemmas.{bits_of-append}

-- 1 bits end no flag
ones_find : (n : ℕ) (v : Seen) → found_from v (replicate n true) ≡ []
unfolding found_from
ones_find zero v = refl
ones_find (suc n) v = ones_find n (seen_next v true)

pub found_filled : (bits : List Bool) (n : ℕ) → found_of (bits ++ replicate n true) ≡ found_of bits
found_filled bits n = found_more bits (replicate n true) ∙ ap (λ l. found_of bits ++ l) (ones_find n (seen_of bits)) ∙ append-nil (found_of bits)

pub bits_of_filled : (bits : List Bool) → bits_of (octets_of (filled bits)) ≡ filled bits
bits_of_filled bits =
    let more = (8 - length bits % 8) % 8 in
    let size : length (filled bits) ≡ length bits + more = length-append bits (replicate more true) ∙ ap (λ n. length bits + n) (length-replicate more true) in
    bits_of-octets_by (length (filled bits) / 8) (filled bits) (omega arith)

-- the octets of a line behind others
pub line_is : (old bits : List ℕ) (new : List ℕ) (frame : List Bool) → bits ≡ octets_of (filled frame) → new ≡ old ++ bits → bits_of new ≡ bits_of old
    ++ filled frame
line_is old bits new frame e f = ap bits_of f ∙ bits_of-append old bits ∙ ap (λ l. bits_of old ++ bits_of l) e
    ∙ ap (λ l. bits_of old ++ l) (bits_of_filled frame)

pub line_found : (before all : List Bool) (octets : List ℕ) → ((k : ℕ) → get_or octets k 0 < 256) → 4 ≤ length octets → length octets ≤ 4103
    → all ≡ before ++ filled (framed octets) → found_of all ≡ found_of (before ++ flag) ++ Content octets ∷ []
line_found before all octets small low high e =
    let more = (8 - length (framed octets) % 8) % 8 in
    ap found_of (e ∙ sym (append_assoc before (framed octets) (replicate more true)))
    ∙ found_filled (before ++ framed octets) more
    ∙ put_found_behind before octets small low high
