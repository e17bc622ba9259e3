use Rattle.x25_station.proofs.Names.{[], ◌∷◌, ◌++◌, List, map, ap, ap₂, ◌∙◌, Request, Name, Asked, name_of, of_channel, ShownEntries, plain_entry, plain_name}
use Rattle.x25_station.proofs.{LentLemmas.{none_listed}, Names.{Entry}, ToldLemmas.{named_or}}
use Rattle.x25_station.specs.declared.entry.Entry.TheVariants as code
use Rattle.x25_station.proofs.asking.enter_asked.Goals as goal

pub returns : goal.returns
returns c = λ c' l fits configured brief.
    let h = c.args.channel in
    let entry = code.Asked h c.unwrap_or-name.result c.asked_of-asked.result in
    let none = none_listed c.entries.inside.lent c.entries.inside.list.items (ap (λ (e : ShownEntries). e.items) c.entries.view_is ∙ c.requires) in
    ap (λ (es : List Entry). map (plain_entry c.asked_of-asked.new.lent) es) (c.push_reserved.ensures.items ∙ ap (λ (es : List Entry). es ++ entry ∷ []) none)
    ∙ ap₂ (λ (n : Name) (q : Request). of_channel (record { channel = h; name = n; said = Asked q }) ∷ []) (ap plain_name c.unwrap_or-name.ensures ∙ named_or c.name.result _ _ (name_of l h) configured (c.name.ensures c' l fits))
    (c.asked_of-asked.ensures c' l fits configured brief)
