use Rattle.x25_station.proofs.Names.{◌∙◌, sym, subst, Stands, plain_name}
use Rattle.x25_station.proofs.ConfirmLemmas.{unnamed_behind, ended_behind, other_behind, less_behind, name_behind, names_agree, names_differ, told_behind}
use Rattle.x25_station.proofs.confirming.confirmed.Goals.{then-ne-via-then-ne, then-ne-via-else-ne+then-not-is_open}
use Rattle.x25_station.proofs.confirming.confirmed.Goals as goal

pub returns-in_default-name-clause-tells : goal.returns-in_default-name-clause-tells
returns-in_default-name-clause-tells c = λ c' h l next stands fits.
    unnamed_behind c' l next h c.in-Some.before (subst (λ o. Stands c' l h o) c.in-Some.is stands) (c.in_default-name.ensures c' next fits)

pub returns-then-ne-clause-tells : goal.returns-then-ne-clause-tells
returns-then-ne-clause-tells c = λ c' h l next stands fits.
    let kept = subst (λ o. Stands c' l h o) c.in-Some.is stands in
    elim c.then-ne.branch [
      | then-ne-via-then-ne w ↦ other_behind c' l next h c.in-Some.before _ kept (c.in-Some-name.ensures c' next fits)
          (names_differ _ (plain_name c.in-Some.before.name) (sym c.ne.ensures ∙ w.if-ne.true))
      | then-ne-via-else-ne+then-not-is_open w ↦ ended_behind c' l next h c.in-Some.before kept (sym (w.is_open.ensures c' next fits) ∙ w.if-not-is_open.true)
    ]

pub returns-then-count-eq0-clause-tells : goal.returns-then-count-eq0-clause-tells
returns-then-count-eq0-clause-tells c = λ c' h l next stands fits.
    let kept = subst (λ o. Stands c' l h o) c.in-Some.is stands in
    sym (less_behind c' l next h c.in-Some.before _ _ kept (c.in-Some-name.ensures c' next fits)
    (names_agree _ (plain_name c.in-Some.before.name) c.if-ne.ensures) (sym (c.is_open.ensures c' next fits) ∙ c.if-not-is_open.false)
    (c.unconfirmed.ensures c' next fits))
    ∙ sym c.saturating_sub-count.ensures ∙ c.if-count-eq0.true

pub returns-clause-tells : goal.returns-clause-tells
returns-clause-tells c = λ c' h l next stands fits lent beside.
    let kept = subst (λ o. Stands c' l h o) c.in-Some.is stands in
    let opened = sym (c.is_open.ensures c' next fits) ∙ c.if-not-is_open.false in
    told_behind next h c.in-Some.before.channel c.saturating_sub-count.result _ _ beside c.if-count-eq0.false
    (c.saturating_sub-count.ensures ∙ less_behind c' l next h c.in-Some.before _ _ kept (c.in-Some-name.ensures c' next fits)
    (names_agree _ (plain_name c.in-Some.before.name) c.if-ne.ensures) opened (c.unconfirmed.ensures c' next fits))
    kept.channel (name_behind c' l next h c.in-Some.before _ kept (c.in-Some-name.ensures c' next fits) opened)
