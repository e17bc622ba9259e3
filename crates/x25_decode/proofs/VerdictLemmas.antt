-- Verdicts, a vector at a time.
use Rattle.x25_decode.proofs.Names.{◌≡◌, ◌∙◌, ◌<◌, ℕ, Bool, true, List, [], ◌∷◌, ◌++◌, length, Option, ap, sym, refl, subst, arith, append_assoc, Appends}
use Rattle.std.proofs.{Common.{◌+◌, suc, map, drop, get_or}, KnownBytes.{Appends-nil, Appends-trans}, Math.Bool.{and_assoc}, Math.Seq.{drop-cons}}
use Rattle.std.specs.{List.{list_all}, Prelude.{◌&&◌, OnErr, Result, Ok, Err}}
use Rattle.x25_decode.{proofs.Names.{flat_map, AppendsPrefix}, specs.TestVectors.{is_right, shown, verdict, verdict_of}}
use Rattle.x25_decode.specs.declared.test_vectors.Vector.{Vector}

-- text that is written in two parts, where the second wasn't written whole
pub prefix_after : (old mid new : Option (List ℕ)) (first second : List ℕ) → Appends old mid first → AppendsPrefix mid new second
    → AppendsPrefix old new (first ++ second)
prefix_after old mid new first second a b = (
  first ++ b.0,
  b.1,
  ap (λ t. first ++ t) b.2 ∙ sym (append_assoc first b.0 b.1),
  Appends-trans old mid new first b.0 a b.3,
)

-- a beginning of the first part is one of the whole
pub prefix_before : (old new : Option (List ℕ)) (first second : List ℕ) → AppendsPrefix old new first → AppendsPrefix old new (first ++ second)
prefix_before old new first second b = (b.0, b.1 ++ second, ap (λ t. t ++ second) b.2 ∙ append_assoc b.0 b.1 second, b.3)

-- what was written, and what is left
pub record WritesVerdicts (old now : Option (List ℕ)) (vectors rest : List Vector) (all_right before mark : Bool) : Type 0 where
  pub part : List ℕ
  pub appends : Appends old now part
  pub same : part ++ flat_map verdict_of (map shown rest) ≡ flat_map verdict_of (map shown vectors)
  pub right : (all_right && list_all is_right (map shown rest)) ≡ list_all is_right (map shown vectors)
  pub kept : mark ≡ before

pub none_written : (old : Option (List ℕ)) (vectors : List Vector) (mark : Bool) → WritesVerdicts old old vectors vectors true mark mark
none_written old vectors mark = record { part = []; appends = Appends-nil old; same = refl; right = refl; kept = refl }

pub second_err : {X E : Type 0} (r : Result X E) (old mid new : Option (List ℕ)) (first second text : List ℕ) → text ≡ first ++ second → Appends old mid first
    → OnErr r (AppendsPrefix mid new second) → OnErr r (AppendsPrefix old new text)
second_err (Ok x) old mid new first second text e a b = tt
second_err (Err x) old mid new first second text e a b = subst (AppendsPrefix old new) (sym e) (prefix_after old mid new first second a b)

module _ (old now next : Option (List ℕ)) (vectors : List Vector) (i : ℕ) (d : Vector) (all_right result before mark : Bool) (within : i < length vectors)
    (writes : WritesVerdicts old now vectors (drop i vectors) all_right before mark) (held : result ≡ is_right (shown (get_or vectors i d))) where
  abbrev here : Vector
  here = get_or vectors i d

  left : drop i vectors ≡ here ∷ drop (i + 1) vectors
  left = let one : suc i ≡ i + 1 = omega arith in drop-cons vectors i d within ∙ ap (λ n. here ∷ drop n vectors) one

  all_lines : writes.part ++ (verdict here.name.now result ++ flat_map verdict_of (map shown (drop (i + 1) vectors))) ≡ flat_map verdict_of (map shown vectors)
  all_lines =
      ap (λ b. writes.part ++ (verdict here.name.now b ++ flat_map verdict_of (map shown (drop (i + 1) vectors)))) held
      ∙ ap (λ rest. writes.part ++ flat_map verdict_of (map shown rest)) (sym left) ∙ writes.same

  pub next_vector : (after : Bool) → Appends now next (verdict here.name.now result) → after ≡ mark
      → WritesVerdicts old next vectors (drop (i + 1) vectors) (all_right && result) before after
  next_vector after a same_mark = record {
    part = writes.part ++ verdict here.name.now result;
    appends = Appends-trans old now next writes.part (verdict here.name.now result) writes.appends a;
    same = append_assoc writes.part (verdict here.name.now result) (flat_map verdict_of (map shown (drop (i + 1) vectors))) ∙ all_lines;
    right =
        and_assoc all_right result (list_all is_right (map shown (drop (i + 1) vectors)))
        ∙ ap (λ b. all_right && (b && list_all is_right (map shown (drop (i + 1) vectors)))) held
        ∙ ap (λ rest. all_right && list_all is_right (map shown rest)) (sym left) ∙ writes.right;
    kept = same_mark ∙ writes.kept;
  }

  pub fault_vector : AppendsPrefix now next (verdict here.name.now result) → AppendsPrefix old next (flat_map verdict_of (map shown vectors))
  fault_vector b = subst (AppendsPrefix old next) all_lines (prefix_after old now next writes.part _ writes.appends
      (prefix_before now next (verdict here.name.now result) (flat_map verdict_of (map shown (drop (i + 1) vectors))) b))
