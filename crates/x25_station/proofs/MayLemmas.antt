-- What holds of a request that may be asked, and of its refusals, holds of each request.
use Rattle.x25_station.proofs.Names.{◌≡◌, ℕ, Bool, true, false, refl, subst, Request, Calls, Accepts, Sends, Asks, asks_memory, may_ask, not_taken, Step}
use Rattle.x25_station.proofs.Names.{Outcome, Did, Refused, where_asked, StationError}

refused_did : (e : StationError) (step : Step) → Refused e ≡ Did step → ⊥
refused_did e step is = subst (λ (o : Outcome). elim o as (λ _. Type 0) [ Did x ↦ ⊥ | Refused y ↦ Unit {0} ]) is tt

-- what is done was asked for rightly
pub asked_did : (may : Bool) (o : Outcome) (step : Step) → where_asked may o ≡ Did step → (may ≡ true) × (o ≡ Did step)
asked_did true o step is = (refl, is)
asked_did false (Did k) step is = absurd (refused_did not_taken step is)
asked_did false (Refused e) step is = absurd (refused_did e step is)

pub where_holds : (P : Outcome → Type 0) (may : Bool) (o : Outcome) → ((e : StationError) → P (Refused e)) → P o → P (where_asked may o)
where_holds P true o refused holds = holds
where_holds P false (Did k) refused holds = refused not_taken
where_holds P false (Refused e) refused holds = holds

-- what may not be asked asks for memory
pub memory_unasked : (wide : Bool) (h : ℕ) (request : Request) → may_ask wide (Asks h request) ≡ false → asks_memory (Asks h request) ≡ true
memory_unasked wide h (Calls called calling user proposal) unasked = refl
memory_unasked wide h (Accepts answer) unasked = refl
memory_unasked wide h (Sends marks user) unasked = refl
memory_unasked wide h request unasked = absurd (cc)
