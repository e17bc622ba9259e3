use Rattle.std.proofs.Common.{◌≡◌, ◌∙◌, ◌<◌, List, length, Some, sym, subst, ap}
use Rattle.std.proofs.lemmas.Result.{on_ok_weaker, on_err_weaker}
use Rattle.x25_crossing.specs.Crossing.{PlainCrossing}
use Rattle.x25_crossing.specs.Told.{plain_told, told_at, lacks_at}
use Rattle.x25_switch.specs.code.Plain.{plain, plains}
use Rattle.x25_switch.specs.Calls.{place_of, with_crossing}
use Rattle.x25_switch.specs.declared.call.Call.{Call}
use Rattle.x25_switch.proofs.ApartLemmas.{tell_apart}
use Rattle.x25_switch.proofs.CallLemmas.{changed_there}
use Rattle.x25_switch.proofs.calls.tell.Goals as goal

pub returns-clause-told : goal.returns-clause-told
returns-clause-told c =
    let d = c.index_mut.result.now in
    let same = c.as_slice.ensures.value in
    let low = subst (λ (xs : List Call). c.in-Some.index < length xs) same c.in-Some.ensures.within in
    let place = subst (λ (xs : List Call). place_of c.args.line c.args.channel (plains xs) ≡ Some (c.in-Some.index, c.in-Some.side)) same
    (sym c.find.ensures.place ∙ c.in-Some.is) in
    on_ok_weaker c.told.result (λ h. changed_there (λ side x. told_at side (plain_told c.args.told) x) c.args.line c.args.channel c.in-Some.index
    c.in-Some.side c.args.calls.now.items _ d low place c.index_mut.ensures.value (ap (λ (x : PlainCrossing). with_crossing x (plain d)) h))
    c.told.ensures.told

pub returns-clause-lacks : goal.returns-clause-lacks
returns-clause-lacks c =
    let d = c.index_mut.result.now in
    let same = c.as_slice.ensures.value in
    let low = subst (λ (xs : List Call). c.in-Some.index < length xs) same c.in-Some.ensures.within in
    let place = subst (λ (xs : List Call). place_of c.args.line c.args.channel (plains xs) ≡ Some (c.in-Some.index, c.in-Some.side)) same
    (sym c.find.ensures.place ∙ c.in-Some.is) in
    on_err_weaker c.told.result (λ h. changed_there (λ side x. lacks_at side x) c.args.line c.args.channel c.in-Some.index c.in-Some.side
    c.args.calls.now.items _ d low place c.index_mut.ensures.value (ap (λ (x : PlainCrossing). with_crossing x (plain d)) h))
    c.told.ensures.lacks

pub returns-clause-apart : goal.returns-clause-apart
returns-clause-apart c =
    tell_apart c.told.result c.args.line c.args.channel (plain_told c.args.told) (plains c.args.calls.now.items) _ (returns-clause-told c)
    (returns-clause-lacks c)
