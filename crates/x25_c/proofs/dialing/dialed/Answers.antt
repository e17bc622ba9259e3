use Rattle.std.proofs.{Common.{◌≡◌, ◌∙◌, ap, sym, refl, Bool, true, false, List, [], ◌∷◌, ℕ}, lemmas.Str.{is_utf8-from_IsUtf8, IsUtf8-from_is_utf8}}
use Rattle.std.specs.{Prelude.{cond}, Str.{IsUtf8, is_utf8}}
use Rattle.x25_c.specs.Dialing.{dialed}
use Rattle.x25_c.proofs.dialing.dialed.Goals as goal

by_test : (address : List ℕ) (is_text : Bool) → is_utf8 address ≡ is_text → cond is_text address (63 ∷ []) ≡ dialed address
by_test address is_text at = ap (λ b. cond b address (63 ∷ [])) (sym at)

no_text : (address : List ℕ) (is_text : Bool) → is_utf8 address ≡ is_text → (IsUtf8 address → ⊥) → is_utf8 address ≡ false
no_text address true at isnt = absurd (isnt (IsUtf8-from_is_utf8 address at))
no_text address false at isnt = at

pub returns-in-Ok : goal.returns-in-Ok
returns-in-Ok c =
    c.in-Ok.ensures.cases.0 ∙ by_test c.args.address.now true (is_utf8-from_IsUtf8 c.args.address.now c.in-Ok.ensures.cases.1)

pub returns-in-Err : goal.returns-in-Err
returns-in-Err c = by_test c.args.address.now false (no_text c.args.address.now _ refl c.in-Err.ensures.cases.0)
