-- `into_box` makes a box of the pieces, which owns what they owned.
use Rattle.x25_c.proofs.Names.{◌≡◌, List, [], ◌∷◌, ◌++◌, refl, sym, subst, ap, dnil, Val, ent, id⊢, ftrue, fsep, fact, tables, WpFn, Item, ‵, raw, ◌⊛◌, ◌$◌}
use Rattle.x25_c.proofs.Names.{◌∵◌, !, qed, by, move, drop, use1, join, split, rewrite, fsplit, fjoin, suffices, done, whole, sub, stop, fld, no_more, and_then}
use Rattle.x25_c.proofs.Names.{of_opd, returns, enter, alloc_all, pass_all, free_all, look_at, get, get_in, sets, block_ptr, plain, heard, nothing, says, Stays}
use Rattle.x25_c.proofs.Names.{stay_dropped, walk_of, ends_at, proved_at, Bx, D, P, B, word, box_typed, box_out, box_in}
use Rattle.std.proofs.{BoxSteps.Form.{R, box_ty}, alloc.Calls.{Goes-blank}, alloc.Shapes.{after}}
use Rattle.x25_c.proofs.unboxed.Unboxed.into_box.Statement.{statement}
use base.Fml.{flft}
use contract.BorrowLft.{◌⊑◌}
use denote.Exit.{no}
use denote.Param.{bounded}
use denote.RattleType.{RattleType}
use denote.Steps.{only}
use denote.Triple.{Call.{calls_at_last}, Spec.{triple_of}, Table.{framed}}
use lib.Dec.{T}
use mir.MapTy.{inst_fn}
use mir.Syntax.{Args, Fn, a_type, dcons}
use mir.Val.{vptr, has_ty, WT}
use types.ByLocal.{lands_last, env}
use types.Kit.{some, later, at_ret, split3, pick, feq_i, await}
use types.Run.{first, blocks, exec}
use Rattle.std_alloc.specs.contracts.boxed.Box.from_raw as from_raw
use Rattle.std_alloc.proofs.boxed.Box.from_raw.Met as from_raw_met
use Rattle.x25_c.specs.contracts.unboxed.Unboxed as Unboxed
use Rattle.x25_c.specs.contracts.unboxed.Unboxed.into_box as into_box
use Rattle.x25_c.proofs.unboxed.Unboxed.into_box.Code as code

pub into_box_spec : {M : Type 1} → statement M
into_box_spec 𝓤 𝓛 𝓜 𝓡 wired T' A laws_T laws_A ghosts dict drops dict_met drops_met =
    let E : Bx = record { row = T'; laws = laws_T; al = record { row = A; laws = laws_A; g = ghosts; d = dict; drops = drops } } in
    let passed : Args = bounded (a_type ∷ a_type ∷ []) (T', (A, tt)) (dcons dict (dcons drops dnil)) in
    let body : Fn = inst_fn passed code.function in
    let 𝓣 = tables 𝓤 𝓛.H 𝓜 𝓡 𝓡.env in let ended = into_box.ended T' A ghosts dict drops in
    let clauses = into_box.clauses T' A ghosts dict drops 𝓛 𝓜.mem 𝓡.returns in
    let From : RattleType = Unboxed.the_row (R E) (P E) ghosts in
    let stays : Stays ended.signature.params ended.kept = (stay_dropped (plain (λ _. From)) no, tt) in
    proved_at 𝓛 ended stays clauses 𝓜 𝓡 (Goes-blank 𝓛 2 (plain (λ _. From)) no (λ κs x kept. tt), tt) (into_box.Key.name passed) body
    (code.unfolded 𝓤 𝓛.H 𝓜 𝓡 wired (T', (A, tt)) dict drops) (λ z are.
    let κs = z.0.0 in let qs = z.0.1 in let pieces = z.0.3.0 in let Post = (walk_of 𝓛 ended stays clauses).post z in
    let box : D E = record { ptr = pieces.at; alloc = pieces.alloc; value = pieces.value } in
    let tokens : Item 𝓤 = ‵ (flft κs.0 qs.0) ⊛ ‵ (flft κs.1.0 qs.1.0) ⊛ ‵ ftrue in
    let of_T : Item 𝓤 = raw (fact 𝓤 (κs.0 ⊑ T'.lives)) in let of_A : Item 𝓤 = raw (fact 𝓤 (κs.1.0 ⊑ A.lives)) in
    qed 𝓛 ((tokens ⊛ ‵ (fsep ((B E).own_val box z.0.4.0) ftrue)) ∷ (of_T ⊛ of_A ⊛ ‵ ftrue) ∷ []) ∵ split ! $ move ! (2 ∷ []) $ split3 ! $
    move ! (2 ∷ []) $ drop ! $ move ! (3 ∷ []) $ fsplit ! $
    box_out E ! box z.0.4.0 (λ p o h e spelled fits. fjoin ! $
    -- [what is owned at the pointer; the allocator; true; two facts; the tokens]
    let w = word E h p o in
    let call = triple_of 𝓛 (from_raw.signature T' A ghosts dict drops) (from_raw.spec T' A ghosts dict drops 𝓛 𝓜.mem 𝓡.returns) in
    let given : call.Ghost = ((κs, qs, tt, (pieces.alloc, (block_ptr p o, tt)), (h ∷ [], (vptr p o ∷ [], tt))), pieces.value) in
    move ! (4 ∷ 0 ∷ []) $ join ! $ move ! (3 ∷ 0 ∷ []) $ join ! $ move ! (2 ∷ []) $
    feq_i ! (List Val) (vptr p o ∷ []) (vptr p o ∷ []) refl $ fjoin ! $
    move ! (2 ∷ 0 ∷ []) $ fjoin ! $ move ! (2 ∷ []) $ join ! $ join ! $ use1 𝓛 (raw (call.pre given)) (id⊢ 𝓤 _) $
    let Γ : List (Item 𝓤) = raw (call.pre given) ∷ [] in
    by ! (subst (λ (us : List Val). ent 𝓤 (types.Kit.⋆ 𝓛 Γ) (WpFn 𝓤 𝓛.H 𝓣.C 𝓣.Λ body (us ++ []) Post)) (sym spelled)
    (qed 𝓛 Γ ∵ enter ! 𝓣.C 𝓣.Λ body (w ∷ []) _ $ alloc_all ! (λ ls. pass_all ! refl (box_typed E h p o fits, tt) $
    sets ! (of_opd ! (get_in ! (fld ! refl (stop !)) (sub ! 0 refl (whole !)))) refl (tt, tt) $
    sets ! (of_opd ! (get_in ! (fld ! refl (stop !)) (sub ! 1 refl (whole !)))) refl fits $
    first ! $ blocks ! $ sets ! (of_opd ! (get ! refl)) refl fits $
    calls_at_last ! (framed 𝓤 𝓛.H 𝓜 𝓣) call
    (from_raw_met.met 𝓤 𝓛 𝓜 𝓡 (code.calls-std_alloc::boxed::Box::from_raw 𝓡.env wired) T' A laws_T laws_A ghosts dict drops dict_met drops_met) given
    (and_then ! (get ! refl) (and_then ! (get ! refl) (no_more !))) (λ answer.
    use1 𝓛 (later (some (λ (r : D E). (tokens ⊛ ‵ ((B E).own_val r (answer ∷ []))) ⊛ some (λ (_ : Unit {0} × (Unit {0} × Unit {0})).
    ‵ (fsep ftrue (fsep ftrue ftrue)) ⊛ (raw (fact 𝓤 (r.value ≡ pieces.value)) ⊛ raw (fact 𝓤 (r.alloc ≡ pieces.alloc))))))) (id⊢ 𝓤 _) $
    await ! tt $ pick ! (λ r. split ! $ move ! (1 ∷ []) $ pick ! (λ _. split3 ! $ drop ! $ heard ! _ (λ same. drop ! $ split ! $
    move ! (1 ∷ []) $
    box_out E ! r (answer ∷ []) (λ p' o' h' e' answered fits'. box_in E ! r p' o' r.value e' refl $
    rewrite ! 0 (λ (us : List Val). ‵ ((B E).own_val r us)) (sym answered) refl $
    let typed : T (has_ty (box_ty E) answer) × WT answer = subst (λ (v : Val). T (has_ty (box_ty E) v) × WT v) (sym (ap only answered))
    (box_typed E h' p' o' fits') in
    lands_last ! refl typed $ exec ! 𝓣.C 𝓣.Λ (env body.locals ls) (after 3 body.body) (at_ret (env body.locals ls) Post) $
    sets ! (of_opd ! (get ! refl)) refl typed $ returns ! (look_at ! 0 refl) $ free_all ! refl $
    suffices ! _ (ends_at 𝓛 ended stays clauses z answer r ((tt, (tt, tt)), tt) (tt, tt)) $ says ! same $
    nothing ! $ nothing ! $ fjoin ! $ join ! $ move ! (1 ∷ []) $ join ! $ done !))))))))))
