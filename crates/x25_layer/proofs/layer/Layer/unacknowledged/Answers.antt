use Rattle.x25_layer.proofs.{FitLemmas.{first_out}, Names.{◌∙◌, ap, sym, true, false, Bool, Option, None, ℕ, if◌then◌else◌, is_channel}}
use Rattle.x25_circuit.specs.Circuit.{unacknowledged}
use Rattle.x25_layer.proofs.layer.Layer.unacknowledged.Goals as goal

pub returns-then-self : goal.returns-then-self
returns-then-self c = λ s l fits.
    let first : Bool → Option ℕ = λ r. if r then None else if is_channel s.channels c.args.channel then unacknowledged (l.circuits c.args.channel) else None in
    ap first (sym c.if-self.true ∙ fits.restarting)

pub returns-in-Some : goal.returns-in-Some
returns-in-Some c = λ s l fits. c.unacknowledged.ensures s.circuit (l.circuits c.args.channel) (c.in-Some.ensures.fits s l fits)
    ∙ first_out s _ l c.args.channel true fits c.if-self.false c.in-Some.ensures.some

pub returns-in-None : goal.returns-in-None
returns-in-None c = λ s l fits. first_out s _ l c.args.channel false fits c.if-self.false c.in-None.ensures.none
