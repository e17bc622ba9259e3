use Rattle.std.proofs.{Common.{◌≡◌, ◌++◌, List, ℕ, OnOk, codes, decimal, subst}, lemmas.List.{append_assoc}}
use Rattle.x25_transcript.proofs.entry_text.push_diagnosed.Goals as goal

pub returns : goal.returns
returns c =
    let r = c.try_push_number.result in
    let after = c.try_push_number.new.self in
    let number = subst (λ (n : ℕ). OnOk r (after ≡ c.try_push.new.self ++ (codes " diag=" ++ decimal n))) c.from.ensures c.try_push_number.ensures.text in
    subst (λ (t : List ℕ). OnOk r (after ≡ t)) (append_assoc c.args.text.now (codes "diagnostic") (codes " diag=" ++ decimal c.args.diagnostic))
    (subst (λ (t : List ℕ). OnOk r (after ≡ t ++ (codes " diag=" ++ decimal c.args.diagnostic))) c.in_ok-try_push.ensures.text number)
