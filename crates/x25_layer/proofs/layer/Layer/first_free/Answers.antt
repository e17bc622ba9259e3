use Rattle.x25_layer.proofs.{FreeLemmas.{free_by_role}, Names.{◌∙◌, List, length, sym, ap, subst, Dte, Dce, FitsCircuits}}
use Rattle.x25_circuit.specs.declared.circuit.Circuit as circuit_code
use Rattle.x25_layer.proofs.layer.Layer.first_free.Goals as goal

pub returns-in-Dte-clause-value : goal.returns-in-Dte-clause-value
returns-in-Dte-clause-value c = λ s l fits.
    c.highest_free.ensures.value s l.circuits
    (subst (λ (vs : List circuit_code.Circuit). FitsCircuits s vs l.circuits) (sym c.deref.ensures.value) fits.circuits)
    ∙ free_by_role Dte s.circuit.role l.circuits _ s.channels.count (sym c.in-Dte.is ∙ fits.role)
    (ap (λ (vs : List circuit_code.Circuit). length vs) c.deref.ensures.value ∙ fits.channels)

pub returns-in-Dce-clause-value : goal.returns-in-Dce-clause-value
returns-in-Dce-clause-value c = λ s l fits.
    c.lowest_free.ensures.value s l.circuits
    (subst (λ (vs : List circuit_code.Circuit). FitsCircuits s vs l.circuits) (sym c.deref-in-Dce.ensures.value) fits.circuits)
    ∙ free_by_role Dce s.circuit.role l.circuits _ s.channels.count (sym c.in-Dce.is ∙ fits.role)
    (ap (λ (vs : List circuit_code.Circuit). length vs) c.deref-in-Dce.ensures.value ∙ fits.channels)
