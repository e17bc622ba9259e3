-- What the pieces of a box own, and what a handle owns, is what the box owns; and steps that walks over them share.
use Rattle.x25_c.proofs.Names.{◌≡◌, List, [], ◌∷◌, ◌++◌, refl, sym, ap, true≢false, ◌∙◌, dnil, Val, Item, ‵, ◌$◌, move, fsplit, Ptr, block_ptr, plain, Bx, P}
use Rattle.std.{proofs.BoxSteps.Form.{handle}, proofs.alloc.Calls.{Fits, handle_tells}, specs.Prelude.{IsSome, ℕ}, specs.declared.option.Option.{Option}}
use Rattle.std.specs.declared.option.Option.TheVariants.{None, Some}
use Rattle.std_heap.specs.contracts.GlobalAllocator.TheImpl.{ghosts, dict}
use denote.RawPtr.{RawPtr, ptr_val}
use denote.Signature.{Slot}
use denote.Steps.{only}
use denote.Struct.Tuple.{Tuple}
use mir.Syntax.{impl, tnil}
use mir.Val.{vptr, vstruct, of_list}
use seplogic.Ra.Ura.{Ura}
use types.Kit.{Goal, Seq, fpick, feq_l}
use types.Logic.{Logic}
use Rattle.std_heap.specs.contracts.Global as Heap
use Rattle.std_heap.proofs.Global.TheLaws as heap
use Rattle.x25_c.specs.contracts.held.Held as Held
use Rattle.x25_c.proofs.held.Held.TheLaws as held
use Rattle.x25_c.specs.contracts.handle.Handle as Handle
use Rattle.x25_c.specs.contracts.unboxed.Unboxed as Unboxed

-- the box of a station that is held
abbrev pub boxed : Bx
boxed = record {
  row = Held.the_row;
  laws = held.the_row_laws;
  al = record { row = Heap.the_row; laws = heap.the_row_laws; g = ghosts; d = dict; drops = impl [] tnil dnil };
}

abbrev pub its_pieces : Slot 0
its_pieces = plain (λ _. Unboxed.the_row Held.the_row Heap.the_row ghosts)

abbrev pub its_handle : Slot 0
its_handle = plain (λ _. Handle.the_row)

pub held_of : {A : Type 0} (x : Option A) → IsSome x → (y : A) × (x ≡ Some y)
held_of None h = absurd (true≢false (sym h))
held_of (Some y) h = (y, refl)

-- a pointer and an allocator that a call answered, as one machine value
module _ (E : Bx) {M : Type 1} {𝓤 : Ura M} {𝓛 : Logic 𝓤} {K : Type 0} {Γ : List (Item 𝓤)} {G : Goal 𝓤 𝓛.H} where
  pub pair_out : K → (p : Ptr) (a : E.al.row.Denot) (b o : ℕ) (v : Val) → p ≡ block_ptr b o
      → ((h : Val) → v ≡ vstruct (of_list (vptr b o ∷ h ∷ [])) → Fits E.al h → Seq K 𝓛 (‵ (handle E a h) ∷ Γ) G)
      → Seq K 𝓛 (‵ ((Tuple (RawPtr ∷ P E ∷ [])).own_val (p, a) (v ∷ [])) ∷ Γ) G
  pair_out t p a b o v at next =
      fpick t (λ parts. fsplit t $ feq_l t (λ whole. fsplit t $ feq_l t (λ first. fsplit t $
      handle_tells E.al t a parts.1.0 (λ h second fits.
      move t (1 ∷ []) $ types.Kit.drop t $ next h
      (ap only (whole ∙ (λ i. vstruct (of_list ((first ∙ ap (λ q. ptr_val q ∷ []) at) i ++ (second i ++ []))) ∷ []))) fits))))
