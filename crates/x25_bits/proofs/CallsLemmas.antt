-- Calls that read bits one after another find together what all of these bits do.
use Rattle.std.proofs.Common.{ℕ, ◌+◌, ◌-◌, ◌≤◌, ◌≡◌, ◌∙◌, Bool, List, [], ◌∷◌, ◌++◌, length, drop, take, ap, sym, arith, append_assoc}
use Rattle.std.specs.List.{flat_map}
use Rattle.std.proofs.lemmas.List.{append-nil, drop_all, drop-drop, take-append-drop}
use Rattle.std.proofs.Math.Seq.{take-add}
use Rattle.x25_bits.specs.code.Calls.{Call, ReadToEnd, after_calls}
use Rattle.x25_bits.specs.laws.Cuts.{found_more}
use Rattle.x25_bits.specs.code.Held.{found_from, seen_of}
use Rattle.x25_bits.specs.code.Reading.{part}
use Rattle.x25_bits.proofs.FeedLemmas.{seen_all, found_all, found-append}

nothing_more : (before : List Bool) → found_more before [] ≡ []
unfolding found_from
nothing_more before = sym (found_all before [])

pub more_of_both : (before a b : List Bool) → found_more before (a ++ b) ≡ found_more before a ++ found_more (before ++ a) b
more_of_both before a b =
    sym (found_all before (a ++ b)) ∙ found-append (seen_of before) a b
    ∙ ap (λ v. found_from (seen_of before) a ++ found_from v b) (seen_all before a)
    ∙ ap (λ l. l ++ found_from (seen_of (before ++ a)) b) (found_all before a)
    ∙ ap (λ l. found_more before a ++ l) (found_all (before ++ a) b)

rest_of : (at to : ℕ) (bits : List Bool) → at ≤ to → drop at bits ≡ part at to bits ++ drop to bits
rest_of at to bits h =
    let there : at + (to - at) ≡ to = omega arith in
    sym (take-append-drop (to - at) (drop at bits))
    ∙ ap (λ l. part at to bits ++ l) (drop-drop (to - at) at bits ∙ ap (λ n. drop n bits) there)

none_left : (at : ℕ) (bits : List Bool) → at ≡ length bits → drop at bits ≡ []
none_left at bits h = drop_all at bits (omega arith)

-- the bits up to a place, and on to a later one
pub taken_on : (at to : ℕ) (bits : List Bool) → at ≤ to → take to bits ≡ take at bits ++ part at to bits
taken_on at to bits h =
    let there : to ≡ at + (to - at) = omega arith in
    ap (λ n. take n bits) there ∙ take-add at (to - at) bits

pub calls_found : (before bits : List Bool) (at : ℕ) (calls : List Call) → ReadToEnd before bits at calls → flat_map (λ call. call.found) calls
    ≡ found_more before (drop at bits)
unfolding ReadToEnd
calls_found before bits at [] h = sym (ap (found_more before) (none_left at bits h) ∙ nothing_more before)
calls_found before bits at (call ∷ calls) h =
    let first = part at call.to bits in
    ap (λ l. call.found ++ l) (calls_found (before ++ first) bits call.to calls h.3)
    ∙ ap (λ l. l ++ found_more (before ++ first) (drop call.to bits)) h.2
    ∙ sym (more_of_both before first (drop call.to bits))
    ∙ ap (found_more before) (sym (rest_of at call.to bits h.0))

pub calls_read : (before bits : List Bool) (at : ℕ) (calls : List Call) → ReadToEnd before bits at calls → after_calls before bits at calls ≡ before
    ++ drop at bits
unfolding ReadToEnd after_calls
calls_read before bits at [] h = sym (ap (λ l. before ++ l) (none_left at bits h) ∙ append-nil before)
calls_read before bits at (call ∷ calls) h =
    calls_read (before ++ part at call.to bits) bits call.to calls h.3
    ∙ append_assoc before (part at call.to bits) (drop call.to bits)
    ∙ ap (λ l. before ++ l) (sym (rest_of at call.to bits h.0))
