use Rattle.x25_station.proofs.Names.{◌∙◌, Some, None, ap, sym, refl, unwrap_or}
use Rattle.x25_station.proofs.ConfirmLemmas.{closed_before, none_before, unnamed_closed, open_name, open_count, stands_by}
use Rattle.x25_station.proofs.confirming.unconfirmed_on.Goals.{then-count-eq0-via-then-count-eq0, then-count-eq0-via-else-count-eq0+then-not-is_open}
use Rattle.x25_station.proofs.confirming.unconfirmed_on.Goals as goal

pub returns-then-count-eq0 : goal.returns-then-count-eq0
returns-then-count-eq0 c = λ c' l fits.
    let h = c.unwrap_or-channel.result in
    stands_by c' l h _ None (c.unwrap_or-channel.ensures ∙ ap (λ o. unwrap_or o 0) c.channel.ensures) (λ next.
    elim c.then-count-eq0.branch [
      | then-count-eq0-via-then-count-eq0 w ↦ none_before c' l next h _ (c.unconfirmed-count.ensures c' l fits) w.if-count-eq0.true
      | then-count-eq0-via-else-count-eq0+then-not-is_open w ↦ closed_before c' l next h (sym (w.is_open.ensures c' l fits) ∙ w.if-not-is_open.true)
    ])

pub returns-in_default : goal.returns-in_default
returns-in_default c = λ c' l fits.
    let h = c.unwrap_or-channel.result in
    stands_by c' l h _ None (c.unwrap_or-channel.ensures ∙ ap (λ o. unwrap_or o 0) c.channel.ensures)
    (λ next. closed_before c' l next h (unnamed_closed c' l h (c.in_default.ensures c' l fits)))

pub returns : goal.returns
returns c = λ c' l fits.
    let h = c.unwrap_or-channel.result in
    let opened = sym (c.is_open.ensures c' l fits) ∙ c.if-not-is_open.false in
    stands_by c' l h _ (Some (record { channel = h; name = c.in-Some.name; count = c.unconfirmed-count.result }))
    (c.unwrap_or-channel.ensures ∙ ap (λ o. unwrap_or o 0) c.channel.ensures)
    (record {
      channel = refl;
      is_open = opened;
      name = open_name c' l h _ opened (c.in-Some.ensures c' l fits);
      count = open_count c' l h _ opened (c.unconfirmed-count.ensures c' l fits);
    })
