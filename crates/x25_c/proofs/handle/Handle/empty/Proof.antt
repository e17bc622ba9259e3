-- `empty` makes a handle that owns nothing.
use Rattle.x25_c.proofs.Names.{List, [], ◌∷◌, ◌++◌, refl, sym, subst, Val, ent, ftrue, fsep, tables, WpFn, Item, ‵, raw, ◌⊛◌, ◌$◌, ◌∵◌, !, qed, by, move, keep}
use Rattle.x25_c.proofs.Names.{drop, join, split, fsplit, fjoin, suffices, done, agg, no_more, and_then, returns, enter, alloc_all, pass_all, free_all, look_at}
use Rattle.x25_c.proofs.Names.{get, sets, yes, plain, type_at, nothing, says, Stays, stay_dropped, walk_of, ends_at, Goes-dropped, proved_at}
use Rattle.std.{proofs.ResultValues.{and_tt}, proofs.alloc.Calls.{α, handle_tells}, specs.declared.option.Option.TheVariants.{None}}
use Rattle.x25_c.proofs.BoxLemmas.{boxed}
use Rattle.x25_c.proofs.handle.Handle.empty.Statement.{statement}
use base.Logic.{emp}
use denote.Builtin.{RawPtr}
use denote.Param.{layout}
use denote.RattleType.{Valss}
use denote.RawPtr.{null_ptr}
use denote.Signature.{Slot}
use denote.Struct.{Owning.{shape}, Struct.{within}}
use lib.Dec.{T, lit<}
use mir.Val.{vnull, vstruct, vcons, vnil, has_ty, WT}
use types.Kit.{fpack, feq_i}
use types.Run.{lit}
use Rattle.std_heap.specs.contracts.Global as Heap
use Rattle.x25_c.specs.contracts.handle.Handle as Handle
use Rattle.x25_c.specs.contracts.handle.Handle.empty as empty
use Rattle.x25_c.proofs.handle.Handle.empty.Code as code

abbrev an_allocator : Slot 0
an_allocator = plain (λ _. Heap.the_row)

abbrev stays : Stays (empty.ended).signature.params (empty.ended).kept
stays = (stay_dropped an_allocator yes, tt)

pub empty_spec : {M : Type 1} → statement M
empty_spec 𝓤 𝓛 𝓜 𝓡 wired =
    let 𝓣 = tables 𝓤 𝓛.H 𝓜 𝓡 𝓡.env in let clauses = empty.clauses 𝓛 𝓜.mem 𝓡.returns in
    proved_at 𝓛 empty.ended stays clauses 𝓜 𝓡 (Goes-dropped 𝓛 0 an_allocator yes (λ κs x kept. refl), tt) empty.Key.name code.function
    (code.unfolded 𝓤 𝓛.H 𝓜 𝓡 wired) (λ z are.
    let Post = (walk_of 𝓛 empty.ended stays clauses).post z in let alloc = z.0.3.0 in let To = type_at (empty.signature).result tt in
    let made : To.Denot = record { at = null_ptr; alloc = alloc; held = None } in
    qed 𝓛 ((‵ ftrue ⊛ ‵ (fsep ((Heap.the_row).own_val alloc z.0.4.0) ftrue)) ∷ raw (emp 𝓤) ∷ []) ∵ split ! $ drop ! $ fsplit ! $
    handle_tells boxed.al ! alloc z.0.4.0 (λ h spelled fits. keep ! (0 ∷ []) $
    let w : Val = vstruct (vcons vnull (vcons h vnil)) in
    let typed : T (has_ty (layout To) w) × WT w = (and_tt (has_ty (α boxed.al) h) fits.0, (record { fits = lit< tt }, (fits.1, tt))) in
    let Γ : List (Item 𝓤) = ‵ ((Heap.the_row).own_val alloc (h ∷ [])) ∷ [] in
    by ! (subst (λ (us : List Val). ent 𝓤 (types.Kit.⋆ 𝓛 Γ) (WpFn 𝓤 𝓛.H 𝓣.C 𝓣.Λ code.function (us ++ []) Post)) (sym spelled)
    (qed 𝓛 Γ ∵ enter ! 𝓣.C 𝓣.Λ code.function (h ∷ []) _ $ alloc_all ! (λ ls. pass_all ! refl (fits, tt) $
    sets ! (agg ! (and_then ! (lit ! tt) (and_then ! (get ! refl) (no_more !)))) refl typed $ returns ! (look_at ! 0 refl) $
    free_all ! refl $
    -- what the handle owns: its two fields, and nothing beside
    nothing ! $ move ! (1 ∷ []) $ fjoin ! $ feq_i ! (List Val) (vnull ∷ []) (vnull ∷ []) refl $ fjoin ! $
    feq_i ! (List Val) (w ∷ []) (w ∷ []) refl $ fjoin ! $
    fpack ! (Valss (RawPtr ∷ Heap.the_row ∷ [])) (within (shape Handle.the_type) (null_ptr, (((tt, tt), tt), tt)) (w ∷ []))
    (vnull ∷ [], (h ∷ [], tt)) $ nothing ! $ move ! (1 ∷ []) $ fjoin ! $
    suffices ! _ (ends_at 𝓛 empty.ended stays clauses z w made (tt, tt) (tt, tt)) $ says ! refl $
    nothing ! $ nothing ! $ fjoin ! $ join ! $ nothing ! $ join ! $ done !)))))
