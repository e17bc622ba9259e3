-- What is held bit by bit is what the whole list of bits says.
use Rattle.std.proofs.Common.{ℕ, zero, suc, ◌+◌, ◌≤◌, ◌≡◌, ◌∙◌, inl, inr, Bool, true, false, Option, Some, None, List, [], ◌∷◌, ◌++◌, drop, take, refl, ap, sym}
use Rattle.std.proofs.Common.{subst, arith}
use Rattle.x25_bits.specs.Deframer.{flag_places}
use Rattle.x25_bits.specs.Stuffing.{unstuff}
use Rattle.x25_bits.specs.Found.{seven_from, run_from}
use Rattle.x25_bits.specs.code.Held.{fresh, up, held_from, held_of, Seen, ends, seen_next, seen_from, seen_of, none_seen}
use Rattle.x25_bits.specs.code.Fits.{Fits, HoldsOpen, ones_from, inserted_from, behind_last, open_span}
use Rattle.x25_bits.specs.code.FitsSeen.{FitsSeen}
use Rattle.x25_bits.specs.declared.deframer.Deframer.{Deframer}
use Rattle.x25_bits.proofs.SpanSteps.{State, FitsAt, last_or}
use Rattle.x25_bits.proofs.SpanLemmas.{drop_one}
use Rattle.x25_bits.proofs.ClosingLemmas.{Sync, sync, holding}
use Rattle.x25_bits.proofs.FoundLemmas.{Matches, seen_state}

-- ---- the run

run_next : (v : Seen) (b : Bool) → (seen_next v b).held.run ≡ up v.held.run b
run_next v true = refl
run_next v false = go (ends v false) refl
  where
    go : (t : Bool) → ends v false ≡ t → (seen_next v false).held.run ≡ 0
    go true e = rw e refl
    go false e = rw e refl

run_is : (v : Seen) (bits : List Bool) → (seen_from v bits).held.run ≡ ones_from v.held.run bits
unfolding seen_from ones_from
run_is v [] = refl
run_is v (b ∷ bits) = run_is (seen_next v b) bits ∙ ap (λ r. ones_from r bits) (run_next v b)

-- ---- the open span

inserted_is : (r : ℕ) (i : Bool) (k span : List Bool) → r ≤ 6 → seven_from r span ≡ false → (held_from (holding r i k) span).is_inserted
    ≡ inserted_from r i span
unfolding held_from seven_from inserted_from
inserted_is r i k [] h s = refl
inserted_is zero i k (true ∷ span) h s = inserted_is 1 i (k ++ true ∷ []) span (omega arith) s
inserted_is (suc zero) i k (true ∷ span) h s = inserted_is 2 i (k ++ true ∷ []) span (omega arith) s
inserted_is (suc (suc zero)) i k (true ∷ span) h s = inserted_is 3 i (k ++ true ∷ []) span (omega arith) s
inserted_is (suc (suc (suc zero))) i k (true ∷ span) h s = inserted_is 4 i (k ++ true ∷ []) span (omega arith) s
inserted_is (suc (suc (suc (suc zero)))) i k (true ∷ span) h s = inserted_is 5 i (k ++ true ∷ []) span (omega arith) s
inserted_is (suc (suc (suc (suc (suc zero))))) i k (true ∷ span) h s = inserted_is 6 i k span (omega arith) s
inserted_is (suc (suc (suc (suc (suc (suc zero)))))) i k (true ∷ span) h s = let bad : true ≡ false = s in cc
inserted_is zero i k (false ∷ span) h s = inserted_is 0 false (k ++ false ∷ []) span (omega arith) s
inserted_is (suc zero) i k (false ∷ span) h s = inserted_is 0 false (k ++ false ∷ []) span (omega arith) s
inserted_is (suc (suc zero)) i k (false ∷ span) h s = inserted_is 0 false (k ++ false ∷ []) span (omega arith) s
inserted_is (suc (suc (suc zero))) i k (false ∷ span) h s = inserted_is 0 false (k ++ false ∷ []) span (omega arith) s
inserted_is (suc (suc (suc (suc zero)))) i k (false ∷ span) h s = inserted_is 0 false (k ++ false ∷ []) span (omega arith) s
inserted_is (suc (suc (suc (suc (suc zero))))) i k (false ∷ span) h s = inserted_is 0 true k span (omega arith) s
inserted_is (suc (suc (suc (suc (suc (suc zero)))))) i k (false ∷ span) h s = inserted_is 0 false (k ++ false ∷ []) span (omega arith) s
inserted_is (suc (suc (suc (suc (suc (suc (suc n))))))) i k (b ∷ span) h s = absurd (omega arith)

synced : (span : List Bool) → Sync (held_from fresh span) (seven_from 0 span) (unstuff span) (run_from 0 span)
synced span = sync 0 false [] span (omega arith)

aborted_is : (span : List Bool) → (held_from fresh span).is_aborted ≡ seven_from 0 span
aborted_is span = elim (synced span) [ inl a ↦ a.0 ∙ sym a.1 | inr a ↦ a.0 ∙ sym a.1 ]

kept_is : (span : List Bool) → seven_from 0 span ≡ false → (held_from fresh span).kept ≡ unstuff span
kept_is span s = elim (synced span) [ inl a ↦ let bad : true ≡ false = sym a.1 ∙ s in cc | inr a ↦ a.3 ]

-- what is seen bit by bit of the open span
abbrev Sees : Seen → Option (List Bool) → Type 0
Sees v None = v.is_open ≡ false
Sees v (Some span) = v ≡ record { is_open = true; held = held_from fresh span }

behind_is : (bits : List Bool) (i : ℕ) (places : List ℕ) → behind_last bits (i ∷ places) ≡ Some (drop (last_or i places + 8) bits)
unfolding behind_last
behind_is bits i [] = refl
behind_is bits i (j ∷ places) = behind_is bits j places

span_of_text : (text rest : List Bool) → text ≡ false ∷ rest → held_of text ≡ held_from fresh (drop 1 text)
unfolding held_from
span_of_text text rest e = rw e refl

sees : (s : State) (v : Seen) (bits : List Bool) (places : List ℕ) → FitsAt s bits places → Matches s v → Sees v (behind_last bits places)
unfolding behind_last
sees s v bits [] fits m = ap (λ (w : Seen). w.is_open) m.same ∙ ap (λ (t : State). t.is_open) fits
sees s v bits (i ∷ places) fits m =
    let open_now : s.is_open ≡ true = ap (λ (t : State). t.is_open) fits in
    let text : s.text ≡ drop (last_or i places + 7) bits = ap (λ (t : State). t.text) fits in
    let r = m.begins open_now in
    let next : suc (last_or i places + 7) ≡ last_or i places + 8 = omega arith in
    let span : drop 1 s.text ≡ drop (last_or i places + 8) bits = ap (drop 1) text ∙ drop_one (last_or i places + 7) bits ∙ ap (λ n. drop n bits) next in
    let whole : v ≡ record { is_open = true; held = held_from fresh (drop (last_or i places + 8) bits) } =
    m.same ∙ ap (λ o. record { is_open = o; held = held_of s.text }) open_now
    ∙ ap (λ h. record { is_open = true; held = h }) (span_of_text s.text r.0 r.1 ∙ ap (held_from fresh) span) in
    subst (Sees v) (sym (behind_is bits i places)) whole

sees_all : (bits : List Bool) → Sees (seen_of bits) (open_span bits)
sees_all bits = let t = seen_state bits in sees t.0 (seen_of bits) bits (flag_places bits) t.1.0 t.1.1

-- ---- both ways

to_held : (d : Deframer) (v : Seen) (o : Option (List Bool)) → Sees v o → HoldsOpen d o → d.scan.run ≡ v.held.run → FitsSeen d v
to_held d v None s h r = record {
  is_open = h ∙ sym s;
  run = r;
  aborted = λ o. let bad : true ≡ false = sym o ∙ s in cc;
  inserted = λ o a. let bad : true ≡ false = sym o ∙ s in cc;
  kept = λ o a. let bad : true ≡ false = sym o ∙ s in cc;
}
to_held d v (Some span) s h r =
    subst (FitsSeen d) (sym s) (record {
      is_open = h.is_open;
      run = r ∙ ap (λ (w : Seen). w.held.run) s;
      aborted = λ o. h.aborted ∙ sym (aborted_is span);
      inserted = λ o a. let going = sym (aborted_is span) ∙ a in h.inserted going ∙ sym (inserted_is 0 false [] span (omega arith) going);
      kept = λ o a. let going = sym (aborted_is span) ∙ a in h.kept going ∙ ap (take 32831) (sym (kept_is span going));
    })

from_held : (d : Deframer) (v : Seen) (o : Option (List Bool)) → Sees v o → FitsSeen d v → HoldsOpen d o
from_held d v None s f = f.is_open ∙ s
from_held d v (Some span) s f =
    let g = subst (FitsSeen d) s f in
    record {
      is_open = g.is_open;
      aborted = g.aborted refl ∙ aborted_is span;
      inserted = λ going. g.inserted refl (aborted_is span ∙ going) ∙ inserted_is 0 false [] span (omega arith) going;
      kept = λ going. g.kept refl (aborted_is span ∙ going) ∙ ap (take 32831) (kept_is span going);
    }

pub seen_fits : (d : Deframer) (bits : List Bool) → Fits d bits → FitsSeen d (seen_of bits)
seen_fits d bits f = to_held d (seen_of bits) (open_span bits) (sees_all bits) f.span (f.run ∙ sym (run_is none_seen bits))

pub fits_seen : (d : Deframer) (bits : List Bool) → FitsSeen d (seen_of bits) → Fits d bits
fits_seen d bits f = record { run = f.run ∙ run_is none_seen bits; span = from_held d (seen_of bits) (open_span bits) (sees_all bits) f }
