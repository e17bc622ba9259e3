use Rattle.x25_station.proofs.Names.{ℕ, ◌≤◌, List, [], ◌∷◌, ◌++◌, Option, Some, length, map, ap, ap₂, sym, subst, ◌∙◌, arith, map-append, take_all, sum_by}
use Rattle.x25_station.proofs.LentLemmas.{same_entries}
use Rattle.x25_station.{proofs.Names.{plain_beside, StationEntry, came_beside, entries_beside, ShownEntries, comes_beside, plain_entry}, specs.Beside.{AreFew}}
use Rattle.x25_station.specs.declared.beside.Beside.{Beside}
use Rattle.x25_station.specs.declared.entry.Entry.TheVariants as entry
use Rattle.x25_station.proofs.entering.enter_beside.Goals as goal

pub returns-in-Some : goal.returns-in-Some
returns-in-Some c = record {
  entered =
      let few = subst (λ (b : Beside). AreFew (plain_beside b)) c.in-Fields.is c.requires.few in
      let short : length c.in-Fields.fields.facilities.now ≤ 128 = omega (arith, few.0) in
      let h = c.in-Some.channel in
      let before = c.entries.inside.list.items in
      let lent = record c.entries.inside.lent { facilities = c.set.new.self; beside = c.set-in-Fields.new.self } in
      let none = ap (λ (e : ShownEntries). sum_by comes_beside e.items) c.entries.view_is ∙ c.requires.none in
      ap (λ es. map (plain_entry lent) es) c.push_reserved.ensures.items
      ∙ map-append (plain_entry lent) before (entry.Beside h ∷ [])
      ∙ ap₂ (λ (es : List StationEntry) (e : StationEntry). es ++ e ∷ [])
      (same_entries c.entries.inside.lent c.set.new.self c.set-in-Fields.new.self before none)
      (ap₂ (λ (a b : List ℕ). came_beside h a b) (c.set.ensures ∙ take_all 128 c.in-Fields.fields.facilities.now short)
      (c.set-in-Fields.ensures ∙ take_all 128 c.in-Fields.fields.user.now few.1))
      ∙ ap (λ (e : ShownEntries). e.items ++ came_beside h c.in-Fields.fields.facilities.now c.in-Fields.fields.user.now ∷ []) c.entries.view_is
      ∙ sym (ap₂ (λ (b : Beside) (k : Option ℕ). c.args.entries.now.items ++ entries_beside (plain_beside b) k) c.in-Fields.is c.in-Some.is);
}
