-- `release` casts the pointer back, and the pieces own what the handle owned.
use Rattle.x25_c.proofs.Names.{List, [], ◌∷◌, ◌++◌, refl, sym, subst, Val, ent, id⊢, ftrue, fsep, WpFn, Item, ‵, raw, ◌⊛◌, ◌$◌, ◌∵◌, !, qed, by, move, keep}
use Rattle.x25_c.proofs.Names.{drop, use1, join, split, fsplit, fjoin, suffices, rewrite, done, whole, sub, agg, stop, fld, no_more, and_then, of_opd, returns}
use Rattle.x25_c.proofs.Names.{enter, alloc_all, pass_all, free_all, look_at, get, get_in, sets, fact, tables, yes, type_at, nothing, heard, says, Stays}
use Rattle.x25_c.proofs.Names.{stay_dropped, walk_of, ends_at, Goes-dropped, proved_at, D, B, word, box_typed, box_out, box_in, Held}
use Rattle.std.specs.Prelude.{IsSome, Option}
use Rattle.x25_c.proofs.BoxLemmas.{boxed, its_handle, held_of}
use Rattle.x25_c.proofs.handle.Handle.release.Statement.{statement}
use Rattle.x25_c.specs.contracts.handle.Handle as Handle
use Rattle.x25_c.specs.contracts.handle.Handle.release as release
use Rattle.x25_c.proofs.handle.Handle.release.Code as code

abbrev stays : Stays (release.ended).signature.params (release.ended).kept
stays = (stay_dropped its_handle yes, tt)

pub release_spec : {M : Type 1} → statement M
release_spec 𝓤 𝓛 𝓜 𝓡 wired =
    let 𝓣 = tables 𝓤 𝓛.H 𝓜 𝓡 𝓡.env in let clauses = release.clauses 𝓛 𝓜.mem 𝓡.returns in
    proved_at 𝓛 release.ended stays clauses 𝓜 𝓡 (Goes-dropped 𝓛 0 its_handle yes (λ κs x kept. refl), tt) release.Key.name code.function
    (code.unfolded 𝓤 𝓛.H 𝓜 𝓡 wired) (λ z are.
    let Post = (walk_of 𝓛 release.ended stays clauses).post z in let handle = z.0.3.0 in let To = type_at (release.signature).result tt in
    qed 𝓛 ((‵ ftrue ⊛ ‵ (fsep ((Handle.the_row).own_val handle z.0.4.0) ftrue)) ∷ raw (fact 𝓤 (IsSome handle.held)) ∷ []) ∵ move !
    (1 ∷ []) $ heard ! _ (λ is_some. split ! $ drop ! $ fsplit ! $
    let held = held_of handle.held is_some in let box : D boxed = record { ptr = handle.at; alloc = handle.alloc; value = held.0 } in
    let made : To.Denot = record { at = handle.at; alloc = handle.alloc; value = held.0 } in
    rewrite ! 0 (λ (x : Option Held). ‵ ((Handle.the_row).own_val (record handle { held = x }) z.0.4.0)) held.1 refl $
    use1 𝓛 (‵ ((B boxed).own_val box z.0.4.0)) (id⊢ 𝓤 _) $
    box_out boxed ! box z.0.4.0 (λ p o h e spelled fits. box_in boxed ! box p o box.value e refl $
    let w = word boxed h p o in use1 𝓛 (‵ (To.own_val made (w ∷ []))) (id⊢ 𝓤 _) $ keep ! (0 ∷ []) $
    let Γ : List (Item 𝓤) = ‵ (To.own_val made (w ∷ [])) ∷ [] in
    by ! (subst (λ (us : List Val). ent 𝓤 (types.Kit.⋆ 𝓛 Γ) (WpFn 𝓤 𝓛.H 𝓣.C 𝓣.Λ code.function (us ++ []) Post)) (sym spelled)
    (qed 𝓛 Γ ∵ enter ! 𝓣.C 𝓣.Λ code.function (w ∷ []) _ $ alloc_all ! (λ ls. pass_all ! refl (box_typed boxed h p o fits, tt) $
    sets ! (of_opd ! (get_in ! (fld ! refl (stop !)) (sub ! 0 refl (whole !)))) refl (tt, tt) $
    sets ! (of_opd ! (get_in ! (fld ! refl (stop !)) (sub ! 1 refl (whole !)))) refl fits $
    -- the pointer under its other type
    sets ! (of_opd ! (get ! refl)) refl (tt, tt) $
    sets ! (agg ! (and_then ! (get ! refl) (and_then ! (get ! refl) (no_more !)))) refl (box_typed boxed h p o fits) $
    returns ! (look_at ! 0 refl) $ free_all ! refl $
    suffices ! _ (ends_at 𝓛 release.ended stays clauses z w made (tt, tt) (tt, tt)) $ says ! held.1 $
    nothing ! $ nothing ! $ fjoin ! $ join ! $ nothing ! $ join ! $ done !))))))
