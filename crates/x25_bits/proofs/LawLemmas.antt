-- What is found in bits that are parted, by cuts or by a flag.
use Rattle.std.proofs.Common.{◌≡◌, ◌∙◌, ℕ, ◌<◌, ◌≤◌, Bool, true, false, List, [], ◌∷◌, ◌++◌, length, refl, ap, sym, append_assoc, get_or, inl, inr, arith}
use Rattle.std.specs.Prelude.{All}
use Rattle.std.proofs.lemmas.Bool.{cases_lt}
use Rattle.std.proofs.Math.ListN.{get_or-eq_default}
use Rattle.std.proofs.lemmas.List.{append-nil}
use Rattle.std.specs.List.{flat_map}
use Rattle.x25_bits.specs.code.Prefix.{IsPrefix}
use Rattle.x25_bits.specs.laws.Cuts.{found_by_cuts}
use Rattle.x25_bits.specs.Found.{Content, found_of}
use Rattle.x25_bits.specs.Deframer.{flag, places_below, between}
use Rattle.x25_bits.specs.Stuffing.{framed, stuff}
use Rattle.x25_bits.specs.FrameCheck.{bits_of}
use Rattle.x25_bits.specs.code.Held.{Seen, fresh, none_seen, ends, seen_from, found_from, seen_of}
use Rattle.x25_bits.proofs.FoundLemmas.{found_more}
use Rattle.x25_bits.proofs.FeedLemmas.{seen_all, found_all}
use Rattle.x25_bits.proofs.PutLemmas.{found_at_start, put_found}

pub found_begins : (before more : List Bool) → IsPrefix (found_of before) (found_of (before ++ more))
found_begins before more = (found_from (seen_of before) more, found_more before more)

pub cuts_all : (before : List Bool) (cuts : List (List Bool)) → found_of before ++ found_by_cuts before cuts ≡ found_of (before ++ flat_map (λ cut. cut) cuts)
unfolding found_by_cuts
cuts_all before [] = append-nil (found_of before) ∙ ap found_of (sym (append-nil before))
cuts_all before (cut ∷ cuts) =
    let later = found_by_cuts (before ++ cut) cuts in
    ap (λ l. found_of before ++ (l ++ later)) (sym (found_all before cut))
    ∙ sym (append_assoc (found_of before) (found_from (seen_of before) cut) later)
    ∙ ap (λ l. l ++ later) (sym (found_more before cut))
    ∙ cuts_all (before ++ cut) cuts
    ∙ ap found_of (append_assoc before cut (flat_map (λ cut. cut) cuts))

pub cuts_from_start : (cuts : List (List Bool)) → found_by_cuts [] cuts ≡ found_of (flat_map (λ cut. cut) cuts)
unfolding places_below between
cuts_from_start cuts = cuts_all [] cuts

-- ---- a flag

behind_flag : Seen
behind_flag = record { is_open = true; held = fresh }

-- any bits and a flag
flag_ends : (v : Seen) → seen_from v flag ≡ behind_flag
unfolding seen_from behind_flag
flag_ends v = go (ends v false) refl
  where
    go : (t : Bool) → ends v false ≡ t → seen_from v flag ≡ behind_flag
    go true e = rw e refl
    go false e = rw e refl

pub nothing_yet : found_of flag ≡ []
unfolding found_from
nothing_yet = found_at_start flag

pub flag_cuts : (before more : List Bool) → found_of (before ++ flag ++ more) ≡ found_of (before ++ flag) ++ found_of (flag ++ more)
flag_cuts before more =
    let before_it : seen_of (before ++ flag) ≡ behind_flag = sym (seen_all before flag) ∙ flag_ends (seen_of before) in
    let alone : found_of (flag ++ more) ≡ found_from behind_flag more =
    found_more flag more ∙ ap (λ l. l ++ found_from (seen_of flag) more) nothing_yet ∙ ap (λ v. found_from v more) (flag_ends none_seen) in
    found_more (before ++ flag) more ∙ ap (λ v. found_of (before ++ flag) ++ found_from v more) before_it ∙ ap (λ l. found_of (before ++ flag) ++ l) (sym alone)

pub each_small : (octets : List ℕ) → All (λ octet. octet < 256) octets → (k : ℕ) → get_or octets k 0 < 256
each_small octets small k = elim (cases_lt k (length octets)) [
  | inl low ↦ small k 0 low
  | inr high ↦ rw (get_or-eq_default octets 0 high) (omega arith)
]

pub put_found_behind : (before : List Bool) (octets : List ℕ) → ((k : ℕ) → get_or octets k 0 < 256) → 4 ≤ length octets → length octets ≤ 4103
    → found_of (before ++ framed octets) ≡ found_of (before ++ flag) ++ Content octets ∷ []
put_found_behind before octets small low high =
    let bits = stuff (bits_of octets) in
    let inside : framed octets ≡ flag ++ (bits ++ flag) = append_assoc flag bits flag in
    ap (λ l. found_of (before ++ l)) inside
    ∙ ap found_of (sym (append_assoc before flag (bits ++ flag)))
    ∙ flag_cuts before (bits ++ flag)
    ∙ ap (λ l. found_of (before ++ flag) ++ found_of l) (sym inside)
    ∙ ap (λ l. found_of (before ++ flag) ++ l) (put_found octets small low high)
