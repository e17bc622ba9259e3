-- One who obeys his clock is told the answer: until then it is awaited.
use Rattle.x25_clock.proofs.Names.{◌≡◌, ℕ, ◌≤◌, ◌⊎◌, inl, inr, List, [], ◌∷◌, Bool, true, false, refl, sym, ap, subst, ◌∙◌, true≢false, Awaits, awaited_at, Up}
use Rattle.x25_clock.proofs.Names.{is_up, Settings, layer_settings, Station, Outcome, Did, Refused, rank_of, rank, AwaitsStill, Times, Watched, watched, Deed}
use Rattle.std.specs.List.{list_any}
use Rattle.x25_clock.proofs.{Names.{Happens, IsAsked, event_of, found_by, outcome_of, done, AwaitsAll, NothingWaits}, WaitLemmas.{still_rank}}
use Rattle.x25_clock.specs.laws.AnswerLaw.{answers, IsUntold, AnswerIsTold}
use Rattle.x25_station.specs.laws.EndLaw.{is_answered_on, is_left_on, IsTold, EndIsTold}
use Rattle.x25_station.specs.laws.TimerLaw as timer

module _ (c : Settings) (h : ℕ) where
  abbrev awaited : Station → Awaits
  awaited s = awaited_at (layer_settings c) s.layer h

  same_rank : (s next : Station) → 2 ≤ rank c s h → AwaitsStill c s next h → 2 ≤ rank c next h
  same_rank s next high still = subst (λ (n : ℕ). 2 ≤ n) (sym (still_rank c s next h high still)) high

  -- behind a step that tells no answer one is awaited
  behind : (s : Station) (o : Outcome) → 2 ≤ rank c s h → IsTold c s h o → answers c h s o ≡ false → 2 ≤ rank c (timer.after s o) h
  behind s (Did step) high told untold = by told
    where
      by : AwaitsStill c s step.near h ⊎ (((2 ≤ rank c step.near h) × (list_any (is_left_on h) step.entries ≡ true))
          ⊎ (list_any (is_answered_on h (awaited s)) step.entries ≡ true)) → 2 ≤ rank c step.near h
      by (inl still) = same_rank s step.near high still
      by (inr (inl left)) = left.0
      by (inr (inr answered)) = absurd (true≢false (sym answered ∙ untold))
  behind s (Refused e) high told untold = high

  found_station : (times : Times) (deed : Deed) (w : Watched) → (found_by times deed w).station ≡ w.station
  found_station times (Happens later event) w = refl
  found_station times (IsAsked later due) w = refl

  all_awaited : EndIsTold → (times : Times) (deeds : List Deed) (w : Watched) → 2 ≤ rank c w.station h → IsUntold c times h deeds w
      → AwaitsAll c times h deeds w
  all_awaited told times [] w high untold = high
  all_awaited told times (deed ∷ deeds) w high untold =
      let o : Outcome = outcome_of c deed w in
      let next : 2 ≤ rank c (done c times deed w).station h =
      subst (λ (s : Station). 2 ≤ rank c (timer.after s o) h) (sym (found_station times deed w))
      (behind w.station o high (told c w.station h (event_of c deed w.station) high) untold.1) in
      (high, untold.0, all_awaited told times deeds (done c times deed w) next untold.2)

pub answer_is_told : EndIsTold → NothingWaits → AnswerIsTold
answer_is_told told waits c times h moments deeds set small high obeyed untold =
    waits c times h moments deeds set small obeyed (all_awaited c h told times deeds (watched c times moments) high untold)
