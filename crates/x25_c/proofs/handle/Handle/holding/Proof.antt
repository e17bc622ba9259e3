-- `holding` casts the pointer, and the handle owns what the pieces owned.
use Rattle.x25_c.proofs.Names.{List, [], ◌∷◌, ◌++◌, refl, sym, subst, Val, ent, id⊢, ftrue, fsep, WpFn, Item, ‵, raw, ◌⊛◌, ◌$◌, ◌∵◌, !, qed, by, keep, drop}
use Rattle.x25_c.proofs.Names.{use1, join, split, fsplit, fjoin, suffices, done, whole, sub, agg, stop, fld, no_more, and_then, of_opd, returns, enter}
use Rattle.x25_c.proofs.Names.{alloc_all, pass_all, free_all, look_at, get, get_in, sets, tables, yes, type_at, nothing, says, Stays, stay_dropped, walk_of}
use Rattle.std.specs.declared.option.Option.TheVariants.{Some}
use Rattle.x25_c.proofs.{BoxLemmas.{boxed, its_pieces}, Names.{ends_at, Goes-dropped, proved_at, D, B, word, box_typed, box_out, box_in}}
use Rattle.x25_c.proofs.handle.Handle.holding.Statement.{statement}
use base.Logic.{emp}
use Rattle.x25_c.specs.contracts.handle.Handle.holding as holding
use Rattle.x25_c.proofs.handle.Handle.holding.Code as code

abbrev stays : Stays (holding.ended).signature.params (holding.ended).kept
stays = (stay_dropped its_pieces yes, tt)

pub holding_spec : {M : Type 1} → statement M
holding_spec 𝓤 𝓛 𝓜 𝓡 wired =
    let 𝓣 = tables 𝓤 𝓛.H 𝓜 𝓡 𝓡.env in let clauses = holding.clauses 𝓛 𝓜.mem 𝓡.returns in
    proved_at 𝓛 holding.ended stays clauses 𝓜 𝓡 (Goes-dropped 𝓛 0 its_pieces yes (λ κs x kept. refl), tt) holding.Key.name code.function
    (code.unfolded 𝓤 𝓛.H 𝓜 𝓡 wired) (λ z are.
    let Post = (walk_of 𝓛 holding.ended stays clauses).post z in let pieces = z.0.3.0 in let To = type_at (holding.signature).result tt in
    let box : D boxed = record { ptr = pieces.at; alloc = pieces.alloc; value = pieces.value } in
    let made : To.Denot = record { at = pieces.at; alloc = pieces.alloc; held = Some pieces.value } in
    qed 𝓛 ((‵ ftrue ⊛ ‵ (fsep ((B boxed).own_val box z.0.4.0) ftrue)) ∷ raw (emp 𝓤) ∷ []) ∵ split ! $ drop ! $ fsplit ! $
    box_out boxed ! box z.0.4.0 (λ p o h e spelled fits. box_in boxed ! box p o box.value e refl $
    let w = word boxed h p o in use1 𝓛 (‵ (To.own_val made (w ∷ []))) (id⊢ 𝓤 _) $ keep ! (0 ∷ []) $
    let Γ : List (Item 𝓤) = ‵ (To.own_val made (w ∷ [])) ∷ [] in
    by ! (subst (λ (us : List Val). ent 𝓤 (types.Kit.⋆ 𝓛 Γ) (WpFn 𝓤 𝓛.H 𝓣.C 𝓣.Λ code.function (us ++ []) Post)) (sym spelled)
    (qed 𝓛 Γ ∵ enter ! 𝓣.C 𝓣.Λ code.function (w ∷ []) _ $ alloc_all ! (λ ls. pass_all ! refl (box_typed boxed h p o fits, tt) $
    sets ! (of_opd ! (get_in ! (fld ! refl (stop !)) (sub ! 0 refl (whole !)))) refl (tt, tt) $
    sets ! (of_opd ! (get_in ! (fld ! refl (stop !)) (sub ! 1 refl (whole !)))) refl fits $
    -- the pointer under its other type
    sets ! (of_opd ! (get ! refl)) refl (tt, tt) $
    sets ! (agg ! (and_then ! (get ! refl) (and_then ! (get ! refl) (no_more !)))) refl (box_typed boxed h p o fits) $
    returns ! (look_at ! 0 refl) $ free_all ! refl $
    suffices ! _ (ends_at 𝓛 holding.ended stays clauses z w made (tt, tt) (tt, tt)) $ says ! refl $
    nothing ! $ nothing ! $ fjoin ! $ join ! $ nothing ! $ join ! $ done !)))))
