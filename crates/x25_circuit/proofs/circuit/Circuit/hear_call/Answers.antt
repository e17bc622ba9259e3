use Rattle.x25_circuit.proofs.Names.{ap, sym, subst, Bool, true, false, List, ℕ, [], ◌∷◌, Some, refl, ◌≡◌, ◌∙◌, entered, collided, said_in, FitsCircuit}
use Rattle.x25_circuit.proofs.{Names.{notices_of, Params, Arriving, Collision}, TableLemmas.{call_strays, collides_at_dte, collides_at_dce}}
use Rattle.x25_circuit.{proofs.circuit.Circuit.hear_call.Goals.{in-Free-default, in-Calling-Dce}, specs.Notice.{incoming}, specs.Params.{default_params}}
use Rattle.x25_circuit.specs.declared.notice.Notice.TheVariants.{Incoming}
use Rattle.x25_packet.specs.Views.{called_of, calling_of, field_of, user_of}
use Rattle.x25_circuit.proofs.circuit.Circuit.hear_call.Goals as goal

said_is : (c : goal.After-result-1) → c.said-flow.result.params ≡ said_in default_params (field_of c.args.a c.args.body.now)
said_is c = c.said-flow.ensures ∙ ap (λ (field : List ℕ). said_in c.usual.result.params field) (c.as_slice.ensures.octets ∙ c.call_views.ensures.facilities)
    ∙ ap (λ (p : Params). said_in p (field_of c.args.a c.args.body.now)) c.usual.ensures

pub returns : goal.returns
returns c =
    let a = c.args.a in
    let body = c.args.body.now in
    let call = λ (p : Params). incoming (record { called = called_of a body; calling = calling_of a body; user = user_of a body; params = p }) in
    elim c.match-self.branch [
      | in-Free-default w ↦ record {
        next = λ d x fits. rw w.in-Free-default.is-0
            (subst (λ (p : Params). FitsCircuit d c.enter-2.new.self (entered x Arriving p false)) (said_is c) (c.enter-2.ensures.fits d x fits));
        says = λ d x fits. rw w.in-Free-default.is-0 (record {
          owed = refl;
          notices = ap (λ (b : Bool). notices_of [] b (Some (Incoming a c.said-flow.result.params c.args.body))) w.collided-is
              ∙ ap (λ (p : Params). call p ∷ []) (said_is c);
        });
        range = tt;
        told = refl;
      }
      | in-Calling-Dce w ↦ record {
        next = λ d x fits. rw w.in-Calling-Dce.is-0 (rw (collides_at_dce d.role x _ (sym fits.role ∙ w.in-Calling-Dce.is-1))
            (subst (λ (p : Params). FitsCircuit d c.enter-2.new.self (entered x Arriving p false)) (said_is c) (c.enter-2.ensures.fits d x fits)));
        says = λ d x fits. rw w.in-Calling-Dce.is-0 (rw (collides_at_dce d.role x _ (sym fits.role ∙ w.in-Calling-Dce.is-1)) (record {
          owed = refl;
          notices = ap (λ (b : Bool). notices_of [] b (Some (Incoming a c.said-flow.result.params c.args.body))) w.collided-is
              ∙ ap (λ (p : Params). collided ∷ call p ∷ []) (said_is c);
        }));
        range = tt;
        told = refl;
      }
    ]

pub returns-in-Calling-Dte : goal.returns-in-Calling-Dte
returns-in-Calling-Dte c = record {
  next = λ d x fits. rw c.in-Calling-Dte.is-0 (rw (collides_at_dte d.role x _ (sym fits.role ∙ c.in-Calling-Dte.is-1))
      (subst (λ (p : Params). FitsCircuit d c.enter.new.self (entered x Collision p true)) fits.params (c.enter.ensures.fits d x fits)));
  says = λ d x fits. rw c.in-Calling-Dte.is-0 (rw (collides_at_dte d.role x _ (sym fits.role ∙ c.in-Calling-Dte.is-1)) c.nothing.ensures.says);
  range = c.nothing.ensures.range;
  told = c.nothing.ensures.told;
}

pub returns-in_default : goal.returns-in_default
returns-in_default c = record {
  next = λ d x fits. rw (call_strays d x _ _ c.in_default.not-Free-0 c.in_default.not-Calling-0 c.in_default.not-Clearing-0)
      (c.unexpected.ensures.next d x fits);
  says = λ d x fits. rw (call_strays d x _ _ c.in_default.not-Free-0 c.in_default.not-Calling-0 c.in_default.not-Clearing-0)
      (c.unexpected.ensures.says d x fits);
  range = c.unexpected.ensures.range;
  told = c.unexpected.ensures.told;
}
