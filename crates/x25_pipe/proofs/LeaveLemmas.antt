-- A turn that is made in parts.
use Rattle.x25_pipe.proofs.Names.{◌≡◌, ◌∙◌, ℕ, Bool, List, ◌++◌, Option, ap, sym, subst, ◌||◌, append-nil, or-false, AppendsPrefix, Settings, Station, Pipe}
use Rattle.x25_io.proofs.ToldLemmas.{told_prefix}
use Rattle.x25_pipe.proofs.{Names.{Turn, and_then, sayings_text, has_refusal, Stands, prefix_more}, SayingLemmas.{parts_text, parts_refused}}
use Rattle.x25_pipe.{proofs.StandLemmas.{StandsAt, BeginsAt}, specs.Pipe.{quiet}, specs.code.Leaves.{Leaves}}

module _ (c : Settings) (old now next : Option (List ℕ)) (s u : Pipe) (told : List ℕ) (refused : Bool) (whole : Turn) where
  -- nothing of it is left
  pub none_left : (rest : Station → Turn) (l : Leaves c old now s rest told refused whole) → rest l.at ≡ quiet l.at → StandsAt c old now s told refused whole
  none_left rest l is =
      let at : l.at ≡ whole.next = sym (ap (λ t. t.next) is) ∙ l.next in
      let text : l.text ≡ told ++ sayings_text c.role whole.sayings =
      sym (append-nil l.text) ∙ sym (ap (λ t. l.text ++ sayings_text c.role t.sayings) is) ∙ l.same in
      let any : l.status ≡ (refused || has_refusal whole.sayings) = sym (or-false l.status) ∙ sym (ap (λ t. l.status || has_refusal t.sayings) is) ∙ l.any in
      subst (λ w. Stands c old now s w (told ++ sayings_text c.role whole.sayings) (refused || has_refusal whole.sayings)) at
      (subst (λ t. Stands c old now s l.at t (refused || has_refusal whole.sayings)) text
      (subst (Stands c old now s l.at l.text) any l.stands))

  -- a part of it is done
  pub part_done : (all first rest : Station → Turn) (l : Leaves c old now s all told refused whole) → all l.at ≡ and_then rest (first l.at)
      → StandsAt c old next u l.text l.status (first l.at) → Leaves c old next u rest told refused whole
  part_done all first rest l e h = record {
    at = (first l.at).next;
    text = l.text ++ sayings_text c.role (first l.at).sayings;
    status = l.status || has_refusal (first l.at).sayings;
    stands = h;
    next = sym (ap (λ t. t.next) e) ∙ l.next;
    same = parts_text c.role l.text (first l.at).sayings (rest (first l.at).next).sayings ∙ sym (ap (λ t. l.text ++ sayings_text c.role t.sayings) e) ∙ l.same;
    any = parts_refused l.status (first l.at).sayings (rest (first l.at).next).sayings ∙ sym (ap (λ t. l.status || has_refusal t.sayings) e) ∙ l.any;
  }

  -- a part of it failed
  pub part_failed : (all first rest : Station → Turn) (l : Leaves c old now s all told refused whole) → all l.at ≡ and_then rest (first l.at)
      → BeginsAt c old next l.text (first l.at) → BeginsAt c old next told whole
  part_failed all first rest l e b =
      subst (AppendsPrefix old next)
      (parts_text c.role l.text (first l.at).sayings (rest (first l.at).next).sayings ∙ sym (ap (λ t. l.text ++ sayings_text c.role t.sayings) e) ∙ l.same)
      (prefix_more old next (l.text ++ sayings_text c.role (first l.at).sayings) (sayings_text c.role (rest (first l.at).next).sayings) b)

  -- nothing more is told
  pub given_up : (rest : Station → Turn) → Leaves c old now s rest told refused whole → BeginsAt c old now told whole
  given_up rest l = subst (AppendsPrefix old now) l.same
      (prefix_more old now l.text (sayings_text c.role (rest l.at).sayings) (told_prefix old now s.output l.text l.stands.tells))
