use Rattle.x25_station.proofs.Names.{◌≡◌, true, Bool, [], ◌∷◌, ◌++◌, map, if◌then◌else◌, ap, sym, subst, ◌∙◌, sum_by, PlainNotice, collided, is_channel}
use Rattle.x25_station.proofs.Names.{on_channel, name_of, entry_told, station_told, AreTellable, comes_beside, plain_entry, plain_name, Entry}
use Rattle.x25_layer.specs.{Report.{plain_report}, declared.report.Report.{Report}}
use Rattle.x25_station.proofs.{TellLemmas.{told_behind, told_both, told_alone, notice_tellable, first_tellable}, ToldLemmas.{named_or}}
use Rattle.x25_station.proofs.entering.enter_told.Goals.{then-collided, else-collided}
use Rattle.x25_station.specs.declared.entry.Entry.TheVariants as code
use Rattle.x25_station.specs.declared.entry.Told.TheVariants as told
use Rattle.x25_station.proofs.entering.enter_told.Goals as goal

pub returns-in-Some-clause-entered : goal.returns-in-Some-clause-entered
returns-in-Some-clause-entered c = λ c' l fits reported.
    let said = c.told_of-told.new.lent in
    let all = subst (λ (r : Report). AreTellable c' (plain_report c.args.lent.now.message r)) c.in-Channel.is reported in
    let h = c.in-Channel.channel in
    let name = λ (configured : is_channel c'.channels h ≡ true). ap plain_name c.unwrap_or-name.ensures
    ∙ named_or c.name.result _ _ (name_of l h) configured (c.name.ensures c' l fits) in
    let n = c.in-Some.notice in
    let mid = map (plain_entry said) c.if-collided.list.items in
    let tellable = notice_tellable c.args.lent.now.message c' h c.in-Channel.collided c.in-Channel.notice n c.in-Some.is all in
    told_both c.args.lent.now.message l h c.in-Channel.collided c.in-Channel.notice n [] mid _ c.in-Some.is
    (elim c.if-collided.branch [
      | then-collided w ↦
          ap (λ es. map (plain_entry said) es.items) w.list-is
          ∙ told_behind said h told.Collided c.unwrap_or-name.result (name_of l h) _ _ w.push_reserved.ensures.items
          (name (first_tellable c.args.lent.now.message c' h c.in-Channel.collided c.in-Channel.notice w.if-collided.true all).0)
          ∙ ap (λ es. map (plain_entry said) es ++ entry_told l (on_channel h collided) ∷ []) c.requires.none
          ∙ ap (λ (b : Bool). if b then entry_told l (on_channel h collided) ∷ [] else []) (sym w.if-collided.true)
      | else-collided w ↦
          ap (λ es. map (plain_entry said) es.items) w.list-is
          ∙ ap (λ es. map (plain_entry said) es) c.requires.none
          ∙ ap (λ (b : Bool). if b then entry_told l (on_channel h collided) ∷ [] else []) (sym w.if-collided.false)
    ])
    (told_behind said h c.told_of-told.result c.unwrap_or-name.result (name_of l h) _ _ c.push_reserved-in-Some.ensures.items (name tellable.0)
    ∙ ap (λ (p : PlainNotice). mid ++ entry_told l (on_channel h p) ∷ []) (c.told_of-told.ensures tellable.1))
    ∙ ap (λ (r : Report). station_told l (plain_report c.args.lent.now.message r)) (sym c.in-Channel.is)

pub returns-in_default-clause-entered : goal.returns-in_default-clause-entered
returns-in_default-clause-entered c = λ c' l fits reported.
    let said = c.args.lent.now in
    let all = subst (λ (r : Report). AreTellable c' (plain_report c.args.lent.now.message r)) c.in-Channel.is reported in
    let h = c.in-Channel.channel in
    let name = λ (configured : is_channel c'.channels h ≡ true). ap plain_name c.unwrap_or-name.ensures
    ∙ named_or c.name.result _ _ (name_of l h) configured (c.name.ensures c' l fits) in
    told_alone c.args.lent.now.message l h c.in-Channel.collided c.in-Channel.notice _ c.in_default.is
    (elim c.if-collided.branch [
      | then-collided w ↦
          ap (λ es. map (plain_entry said) es.items) w.list-is
          ∙ told_behind said h told.Collided c.unwrap_or-name.result (name_of l h) _ _ w.push_reserved.ensures.items
          (name (first_tellable c.args.lent.now.message c' h c.in-Channel.collided c.in-Channel.notice w.if-collided.true all).0)
          ∙ ap (λ es. map (plain_entry said) es ++ entry_told l (on_channel h collided) ∷ []) c.requires.none
          ∙ ap (λ (b : Bool). if b then entry_told l (on_channel h collided) ∷ [] else []) (sym w.if-collided.true)
      | else-collided w ↦
          ap (λ es. map (plain_entry said) es.items) w.list-is
          ∙ ap (λ es. map (plain_entry said) es) c.requires.none
          ∙ ap (λ (b : Bool). if b then entry_told l (on_channel h collided) ∷ [] else []) (sym w.if-collided.false)
    ])
    ∙ ap (λ (r : Report). station_told l (plain_report c.args.lent.now.message r)) (sym c.in-Channel.is)

pub returns-in-Some-clause-beside : goal.returns-in-Some-clause-beside
returns-in-Some-clause-beside c = λ said.
    let n = c.unwrap_or-name.result in
    let last : Entry = code.Told c.in-Channel.channel n c.told_of-told.result in
    ap (λ es. sum_by comes_beside (map (plain_entry said) es)) c.push_reserved-in-Some.ensures.items
    ∙ (elim c.if-collided.branch [
      | then-collided w ↦
          ap (λ es. sum_by comes_beside (map (plain_entry said) (es.items ++ last ∷ []))) w.list-is
          ∙ ap (λ es. sum_by comes_beside (map (plain_entry said) (es ++ last ∷ []))) w.push_reserved.ensures.items
          ∙ ap (λ es. sum_by comes_beside (map (plain_entry said) ((es ++ code.Told c.in-Channel.channel n told.Collided ∷ []) ++ last ∷ []))) c.requires.none
      | else-collided w ↦
          ap (λ es. sum_by comes_beside (map (plain_entry said) (es.items ++ last ∷ []))) w.list-is
          ∙ ap (λ es. sum_by comes_beside (map (plain_entry said) (es ++ last ∷ []))) c.requires.none
    ])

pub returns-in_default-clause-beside : goal.returns-in_default-clause-beside
returns-in_default-clause-beside c = λ said.
    (elim c.if-collided.branch [
      | then-collided w ↦
          ap (λ es. sum_by comes_beside (map (plain_entry said) es.items)) w.list-is
          ∙ ap (λ es. sum_by comes_beside (map (plain_entry said) es)) w.push_reserved.ensures.items
          ∙ ap (λ es. sum_by comes_beside (map (plain_entry said) (es ++ code.Told c.in-Channel.channel c.unwrap_or-name.result told.Collided ∷ [])))
          c.requires.none
      | else-collided w ↦
          ap (λ es. sum_by comes_beside (map (plain_entry said) es.items)) w.list-is
          ∙ ap (λ es. sum_by comes_beside (map (plain_entry said) es)) c.requires.none
    ])
