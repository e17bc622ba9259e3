-- The answers to lines, one after another.
use Rattle.std.proofs.Common.{◌≡◌, ◌∙◌, ◌<◌, ◌||◌, ℕ, Bool, List, [], ◌∷◌, ◌++◌, Option, None, Result, length, append_assoc, ap, sym, subst, refl}
use Rattle.std.specs.Prelude.{MatchResult}
use Rattle.x25_decode.specs.Decoding.{gap_in, sent_in}
use Rattle.x25_io.specs.{HeldLine.{most_line}, Loose.{asked, carried}}
use Rattle.x25_io.specs.code.Written.{AppendsPrefix, Tells}
use Rattle.x25_io.proofs.LooseLemmas.{long_asked, long_carried}
use Rattle.x25_judge.specs.{Answerer.{reply, reply_to, text_of, has_fault}, Judge.{answer_to, counts_text, gap_of, is_nothing, sent_of}}
use Rattle.x25_judge.specs.declared.judge.Judge.{Judge}

module _ (loose : Bool) (j : Judge) where
  pub text_first : (line : List ℕ) (lines : List (List ℕ)) → text_of loose j (line ∷ lines) ≡ (reply loose j line).text
      ++ text_of loose (reply loose j line).next lines
  unfolding text_of
  text_first line lines = refl

  pub fault_first : (line : List ℕ) (lines : List (List ℕ)) → has_fault loose j (line ∷ lines)
      ≡ ((reply loose j line).counts || has_fault loose (reply loose j line).next lines)
  unfolding has_fault
  fault_first line lines = refl

  pub no_text : text_of loose j [] ≡ counts_text j
  unfolding text_of
  no_text = refl

  pub no_fault : has_fault loose j [] ≡ is_nothing j
  unfolding has_fault
  no_fault = refl

  -- the answer in parts
  pub reply_text : (line head : List ℕ) (o : Option (List ℕ)) → head ≡ carried loose line → asked loose line ≡ o → (reply loose j line).text ≡ head
      ++ (reply_to j o).text
  unfolding reply
  reply_text line head o is found = ap (λ t. t ++ (reply_to j (asked loose line)).text) (sym is) ∙ ap (λ x. head ++ (reply_to j x).text) found

  pub reply_next : (line : List ℕ) (o : Option (List ℕ)) → asked loose line ≡ o → (reply loose j line).next ≡ (reply_to j o).next
  unfolding reply
  reply_next line o found = ap (λ x. (reply_to j x).next) found

  pub reply_counts : (line : List ℕ) (o : Option (List ℕ)) → asked loose line ≡ o → (reply loose j line).counts ≡ (reply_to j o).counts
  unfolding reply
  reply_counts line o found = ap (λ x. (reply_to j x).counts) found

  -- a line that is too long is answered as it stands
  pub long_reply : (line : List ℕ) → most_line < length line → sent_in line ≡ None → gap_in line ≡ None → reply loose j line ≡ gap_of j None
  unfolding reply answer_to
  long_reply line long none gap =
      rw (long_asked loose line long, long_carried loose line long) (ap (sent_of j (gap_in line)) none ∙ ap (gap_of j) gap)

-- the second part behind the first
pub told_behind : {T E : Type 0} (r : Result T E) (old next : Option (List ℕ)) (waits told head more all : List ℕ) → all ≡ head ++ more
    → MatchResult r (λ _. Tells old next waits ((told ++ head) ++ more)) (λ _. AppendsPrefix old next ((told ++ head) ++ more))
    → MatchResult r (λ _. Tells old next waits (told ++ all)) (λ _. AppendsPrefix old next (told ++ all))
told_behind {T} {E} r old next waits told head more all e h =
    subst (λ t. MatchResult r (λ _. Tells old next waits t) (λ _. AppendsPrefix old next t)) (append_assoc told head more ∙ ap (λ t. told ++ t) (sym e)) h
