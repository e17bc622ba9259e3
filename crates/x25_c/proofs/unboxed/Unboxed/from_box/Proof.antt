-- `from_box` takes a box apart, and its pieces own what it owned.
use Rattle.x25_c.proofs.Names.{◌≡◌, List, [], ◌∷◌, ◌++◌, refl, sym, subst, dnil, Val, ent, id⊢, ftrue, fsep, fact, tables, WpFn, Item, ‵, raw, ◌⊛◌, ◌$◌, ◌∵◌, ! }
use Rattle.x25_c.proofs.Names.{qed, by, move, drop, use1, join, split, rewrite, fsplit, fjoin, suffices, done, whole, sub, agg, stop, fld, no_more, and_then}
use Rattle.x25_c.proofs.Names.{of_opd, returns, enter, alloc_all, pass_all, free_all, look_at, get, get_in, sets, Ptr, block_ptr, plain, heard, nothing, says}
use Rattle.std.{proofs.BoxSteps.Form.{τ, R}, proofs.alloc.Calls.{token, Goes-blank}, specs.Box.Ownership.{box_owns}}
use Rattle.x25_c.proofs.{BoxLemmas.{pair_out}, Names.{Stays, stay_dropped, walk_of, ends_at, proved_at, Bx, P, B, word, box_typed, box_out, box_in}}
use Rattle.x25_c.proofs.unboxed.Unboxed.from_box.Statement.{statement}
use base.Fml.{flft}
use base.Logic.{never, fst∗}
use contract.BorrowLft.{◌⊑◌}
use denote.Builtin.{RawPtr}
use denote.Exit.{no}
use denote.Param.{bounded}
use denote.RattleType.{RattleType}
use denote.RawPtr.{null_ptr, in_a_block}
use denote.Struct.Tuple.{Tuple}
use denote.Triple.{Call.{calls_at}, Spec.{triple_of}, Table.{framed}}
use mir.MapTy.{inst_fn}
use mir.Raw.{raw as as_raw}
use mir.Syntax.{Args, Fn, a_type, dcons}
use types.ByLocal.{lands_as}
use types.Kit.{some, later, split3, pick, await}
use types.Logic.{sem}
use Rattle.std_alloc.specs.contracts.boxed.Box.into_raw_with_allocator as into_raw
use Rattle.std_alloc.proofs.boxed.Box.into_raw_with_allocator.Met as into_raw_met
use Rattle.x25_c.specs.contracts.unboxed.Unboxed as Unboxed
use Rattle.x25_c.specs.contracts.unboxed.Unboxed.from_box as from_box
use Rattle.x25_c.proofs.unboxed.Unboxed.from_box.Code as code

pub from_box_spec : {M : Type 1} → statement M
from_box_spec 𝓤 𝓛 𝓜 𝓡 wired T A laws_T laws_A ghosts dict drops glue dict_met drops_met glue_met =
    let E : Bx = record { row = T; laws = laws_T; al = record { row = A; laws = laws_A; g = ghosts; d = dict; drops = drops } } in
    let passed : Args = bounded (a_type ∷ a_type ∷ []) (T, (A, tt)) (dcons dict (dcons drops (dcons glue dnil))) in
    let body : Fn = inst_fn passed code.function in
    let 𝓣 = tables 𝓤 𝓛.H 𝓜 𝓡 𝓡.env in let ended = from_box.ended T A ghosts dict drops glue in
    let clauses = from_box.clauses T A ghosts dict drops glue 𝓛 𝓜.mem 𝓡.returns in
    let stays : Stays ended.signature.params ended.kept = (stay_dropped (plain (λ _. B E)) no, tt) in
    proved_at 𝓛 ended stays clauses 𝓜 𝓡 (Goes-blank 𝓛 2 (plain (λ _. B E)) no (λ κs x kept. tt), tt) (from_box.Key.name passed) body
    (code.unfolded 𝓤 𝓛.H 𝓜 𝓡 wired (T, (A, tt)) dict drops glue) (λ z are.
    let κs = z.0.0 in let qs = z.0.1 in let box = z.0.3.0 in let Post = (walk_of 𝓛 ended stays clauses).post z in
    let To : RattleType = Unboxed.the_row (R E) (P E) ghosts in
    let tokens : Item 𝓤 = ‵ (flft κs.0 qs.0) ⊛ ‵ (flft κs.1.0 qs.1.0) ⊛ ‵ ftrue in
    let lasting : Item 𝓤 = raw (fact 𝓤 (κs.0 ⊑ T.lives)) ⊛ raw (fact 𝓤 (κs.1.0 ⊑ A.lives)) ⊛ ‵ ftrue in
    qed 𝓛 ((tokens ⊛ ‵ (fsep ((B E).own_val box z.0.4.0) ftrue)) ∷ lasting ∷ []) ∵ split ! $ move ! (1 ∷ []) $ fsplit ! $
    box_out E ! box z.0.4.0 (λ p o h e spelled fits. box_in E ! box p o box.value e refl $
    let w = word E h p o in
    let call = triple_of 𝓛 (into_raw.signature T A ghosts dict drops glue) (into_raw.spec T A ghosts dict drops glue 𝓛 𝓜.mem 𝓡.returns) in
    let given : call.Ghost = ((κs, qs, tt, (box, tt), (w ∷ [], tt)), tt) in
    fjoin ! $ move ! (1 ∷ []) $ join ! $ join ! $ use1 𝓛 (raw (call.pre given)) (id⊢ 𝓤 _) $
    let Γ : List (Item 𝓤) = raw (call.pre given) ∷ [] in
    by ! (subst (λ (us : List Val). ent 𝓤 (types.Kit.⋆ 𝓛 Γ) (WpFn 𝓤 𝓛.H 𝓣.C 𝓣.Λ body (us ++ []) Post)) (sym spelled)
    (qed 𝓛 Γ ∵ enter ! 𝓣.C 𝓣.Λ body (w ∷ []) _ $ alloc_all ! (λ ls. pass_all ! refl (box_typed E h p o fits, tt) $
    sets ! (of_opd ! (get ! refl)) refl (box_typed E h p o fits) $
    calls_at ! (framed 𝓤 𝓛.H 𝓜 𝓣) call (into_raw_met.met 𝓤 𝓛 𝓜 𝓡 (code.calls-std_alloc::boxed::Box::into_raw_with_allocator 𝓡.env wired) T A laws_T laws_A
    ghosts dict drops glue dict_met drops_met glue_met) given (and_then ! (get ! refl) (no_more !)) (λ answer.
    use1 𝓛 (later (some (λ (r : Ptr × A.Denot). (tokens ⊛ ‵ ((Tuple (RawPtr ∷ P E ∷ [])).own_val r (answer ∷ []))) ⊛ some
    (λ (_ : (Unit {0} × (Unit {0} × Unit {0})) × Unit {0}).
    ‵ (fsep (fsep ftrue (fsep ftrue ftrue)) ftrue) ⊛ (raw (fact 𝓤 (r.1 ≡ box.alloc)) ⊛ ‵ (box_owns (token E.al box.alloc) (R E) r.0 box.value)))))) (id⊢ 𝓤 _) $
    await ! tt $ pick ! (λ r. split ! $ move ! (1 ∷ []) $ pick ! (λ _. split3 ! $ drop ! $ heard ! _ (λ same.
    in_a_block ! r.0 (λ q. box_owns (token E.al box.alloc) (R E) q box.value) (fst∗ 𝓤 (never 𝓤) (sem 𝓛 (token E.al box.alloc (as_raw (τ E)) null_ptr)))
    (λ p' o' at.
    move ! (1 ∷ []) $ split ! $ move ! (1 ∷ []) $
    rewrite ! 0 (λ (a : A.Denot). ‵ ((Tuple (RawPtr ∷ P E ∷ [])).own_val (r.0, a) (answer ∷ []))) same refl $
    pair_out E ! r.0 box.alloc p' o' answer at (λ h' answered fits'. move ! (2 ∷ []) $ fsplit ! $ move ! (0 ∷ 1 ∷ 2 ∷ []) $
    let typed = box_typed E h' p' o' fits' in let made : To.Denot = record { at = block_ptr p' o'; alloc = box.alloc; value = box.value } in
    box_in E ! (record { ptr = block_ptr p' o'; alloc = box.alloc; value = box.value }) p' o' box.value refl refl $
    use1 𝓛 (‵ (To.own_val made (word E h' p' o' ∷ []))) (id⊢ 𝓤 _) $
    -- [the pieces; the tokens]
    lands_as ! answered refl typed $ sets ! (of_opd ! (get_in ! (fld ! refl (stop !)) (sub ! 0 refl (whole !)))) refl (tt, tt) $
    sets ! (of_opd ! (get_in ! (fld ! refl (stop !)) (sub ! 1 refl (whole !)))) refl fits' $
    sets ! (of_opd ! (get ! refl)) refl fits' $ sets ! (agg ! (and_then ! (get ! refl) (and_then ! (get ! refl) (no_more !)))) refl typed $
    returns ! (look_at ! 0 refl) $ free_all ! refl $
    suffices ! _ (ends_at 𝓛 ended stays clauses z (word E h' p' o') made ((tt, (tt, tt)), tt) (tt, tt)) $ says ! refl $
    nothing ! $ nothing ! $ fjoin ! $ join ! $ move ! (1 ∷ []) $ join ! $ done !)))))))))))
