-- A turn that is made in parts.
use Rattle.x25_sim.proofs.Names.{◌≡◌, ◌∙◌, ℕ, Bool, List, ◌++◌, Option, ap, sym, subst, append-nil, AppendsPrefix, Cfg, World, Shown, Stage, sayings_text}
use Rattle.std.{proofs.Math.Bool.{or-false}, specs.Prelude.{◌||◌}}
use Rattle.x25_io.proofs.ToldLemmas.{prefix_more, told_prefix}
use Rattle.x25_sim.proofs.{Names.{has_refusal, Turn, quiet, and_then, Stands}, StandLemmas.{StandsAt, BeginsAt, parts_text, parts_refused}}
use Rattle.x25_sim.specs.code.Leaves.{Leaves}

module _ (cfg : Cfg) (shown : Shown) (old now next : Option (List ℕ)) (s u : Stage) (told : List ℕ) (refused : Bool) (whole : Turn) where
  -- nothing of it is left
  pub none_left : (rest : World → Turn) (l : Leaves cfg shown old now s rest told refused whole) → rest l.at ≡ quiet l.at
      → StandsAt cfg shown old now s told refused whole
  none_left rest l is =
      let at : l.at ≡ whole.next = sym (ap (λ t. t.next) is) ∙ l.next in
      let text : l.text ≡ told ++ sayings_text whole.sayings = sym (append-nil l.text) ∙ sym (ap (λ t. l.text ++ sayings_text t.sayings) is) ∙ l.same in
      let any : l.status ≡ (refused || has_refusal whole.sayings) = sym (or-false l.status) ∙ sym (ap (λ t. l.status || has_refusal t.sayings) is) ∙ l.any in
      subst (λ w. Stands cfg shown old now s w (told ++ sayings_text whole.sayings) (refused || has_refusal whole.sayings)) at
      (subst (λ t. Stands cfg shown old now s l.at t (refused || has_refusal whole.sayings)) text
      (subst (Stands cfg shown old now s l.at l.text) any l.stands))

  -- the same is left
  pub left_as : (rest other : World → Turn) (l : Leaves cfg shown old now s rest told refused whole) → rest l.at ≡ other l.at
      → Leaves cfg shown old now s other told refused whole
  left_as rest other l e = record {
    at = l.at;
    text = l.text;
    status = l.status;
    stands = l.stands;
    next = sym (ap (λ t. t.next) e) ∙ l.next;
    same = sym (ap (λ t. l.text ++ sayings_text t.sayings) e) ∙ l.same;
    any = sym (ap (λ t. l.status || has_refusal t.sayings) e) ∙ l.any;
  }

  -- a part of it is done
  pub part_done : (all first rest : World → Turn) (l : Leaves cfg shown old now s all told refused whole) → all l.at ≡ and_then rest (first l.at)
      → StandsAt cfg shown old next u l.text l.status (first l.at) → Leaves cfg shown old next u rest told refused whole
  part_done all first rest l e h = record {
    at = (first l.at).next;
    text = l.text ++ sayings_text (first l.at).sayings;
    status = l.status || has_refusal (first l.at).sayings;
    stands = h;
    next = sym (ap (λ t. t.next) e) ∙ l.next;
    same = parts_text l.text (first l.at).sayings (rest (first l.at).next).sayings ∙ sym (ap (λ t. l.text ++ sayings_text t.sayings) e) ∙ l.same;
    any = parts_refused l.status (first l.at).sayings (rest (first l.at).next).sayings ∙ sym (ap (λ t. l.status || has_refusal t.sayings) e) ∙ l.any;
  }

  -- a part of it failed
  pub part_failed : (all first rest : World → Turn) (l : Leaves cfg shown old now s all told refused whole) → all l.at ≡ and_then rest (first l.at)
      → BeginsAt old next l.text (first l.at) → BeginsAt old next told whole
  part_failed all first rest l e b =
      subst (AppendsPrefix old next)
      (parts_text l.text (first l.at).sayings (rest (first l.at).next).sayings ∙ sym (ap (λ t. l.text ++ sayings_text t.sayings) e) ∙ l.same)
      (prefix_more old next (l.text ++ sayings_text (first l.at).sayings) (sayings_text (rest (first l.at).next).sayings) b)

  -- nothing more is told
  pub given_up : (rest : World → Turn) → Leaves cfg shown old now s rest told refused whole → BeginsAt old now told whole
  given_up rest l = subst (AppendsPrefix old now) l.same
      (prefix_more old now l.text (sayings_text (rest l.at).sayings) (told_prefix old now s.output l.text l.stands.tells))
