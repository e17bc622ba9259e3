use Rattle.x25_station.proofs.Names.{true, ◌++◌, List, [], ◌∷◌, ap, subst, ◌∙◌, begin, rounds, PlainBeside, beside_in, link_settings, layer_settings, named_by}
use Rattle.x25_layer.specs.Layer.{Layer as LayerState}
use Rattle.x25_station.proofs.ConfirmLemmas.{nothing_behind, heard_all}
use Rattle.x25_station.{proofs.Names.{confirmed, StationEntry, bringing, entries_beside, view_of, layer_answer, plain_entry}, specs.code.Confirming.{Tells}}
use Rattle.x25_station.proofs.receiving.hear_all.Goals as goal

pub returns-in-Some-clause-entries : goal.returns-in-Some-clause-entries
returns-in-Some-clause-entries c = λ c' l t fits link.
    let lc = layer_settings c' in
    let octets = c.args.packet.now in
    let a = layer_answer lc true l octets in
    let next : LayerState = (rounds (view_of (link_settings c') c.args.turn.now t.near) lc (begin a.next a.owed)).layer in
    let tells = subst (λ o. Tells next (named_by octets) (confirmed lc l next (named_by octets)) o) c.in-Some.is
    (c.confirmed.ensures.tells lc (named_by octets) l next (c.unconfirmed_on-before.ensures lc l fits) (c.hear-bringing.ensures.puts.layer c' l t fits link)) in
    heard_all (view_of (link_settings c') c.args.turn.now t.near) lc l octets _ _ (plain_entry c.hear-bringing.new.entries.lent c.in-Some.entry ∷ [])
    (c.hear-bringing.ensures.entries c' l t fits link)
    c.push.ensures
    (tells c.hear-bringing.new.entries.lent (entries_beside (beside_in true octets) (bringing a.notices)))

pub returns-in-None-clause-entries : goal.returns-in-None-clause-entries
returns-in-None-clause-entries c = λ c' l t fits link.
    let lc = layer_settings c' in
    let octets = c.args.packet.now in
    let a = layer_answer lc true l octets in
    let next : LayerState = (rounds (view_of (link_settings c') c.args.turn.now t.near) lc (begin a.next a.owed)).layer in
    let none = subst (λ o. Tells next (named_by octets) (confirmed lc l next (named_by octets)) o) c.in-None.is
    (c.confirmed.ensures.tells lc (named_by octets) l next (c.unconfirmed_on-before.ensures lc l fits) (c.hear-bringing.ensures.puts.layer c' l t fits link)) in
    heard_all (view_of (link_settings c') c.args.turn.now t.near) lc l octets _ _ (entries_beside (beside_in true octets) (bringing a.notices))
    (c.hear-bringing.ensures.entries c' l t fits link)
    (c.enter_beside.ensures.entered ∙ ap (λ (es : List StationEntry). c.hear-bringing.new.entries.items ++ es)
    (ap (λ (b : PlainBeside). entries_beside b c.hear-bringing.result) c.beside_of.ensures.told
    ∙ ap (entries_beside (beside_in true octets)) (c.hear-bringing.ensures.bringing c' l t fits link)))
    (nothing_behind next (named_by octets) (confirmed lc l next (named_by octets)) _ none)
