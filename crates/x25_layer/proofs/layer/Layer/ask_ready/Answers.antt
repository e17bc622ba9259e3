use Rattle.x25_layer.proofs.Names.{rules, ◌∙◌, Err, refl, sym, ap, Outcome, outcome, plain_request, LayerError}
use Rattle.x25_layer.proofs.{CallLemmas.{is_accepted, accepted, declined, put_later, same_err}, FitLemmas.{on_err}}
use Rattle.x25_layer.specs.declared.error.LayerError.TheVariants as error
use Rattle.x25_layer.proofs.layer.Layer.ask_ready.Goals as goal

pub returns-in_err-packet-clause-does : goal.returns-in_err-packet-clause-does
returns-in_err-packet-clause-does c = record {
  gives = λ s l fits.
      declined c.from_residual.result s c.ask_circuit.new.self c.ask_circuit.new.self l c.args.channel c.in_err-packet.field-0.0
      (outcome s.circuit (l.circuits c.args.channel) (plain_request c.args.request))
      (c.in_err-packet.ensures.outcome s l fits) c.from_residual.ensures.1;
  stays = λ s l fits. on_err c.from_residual.result (c.in_err-packet.ensures.fits s l fits);
  short = search rules;
  missing = λ is.
      c.in_err-packet.ensures.missing (ap (λ (e : LayerError). Err e)
      (same_err c.from_residual.result c.in_err-packet.field-0.0 error.NoMemory c.from_residual.ensures.1 is));
}

pub returns-clause-does : goal.returns-clause-does
returns-clause-does c = record {
  gives = λ s l fits.
      let o : Outcome = outcome s.circuit (l.circuits c.args.channel) (plain_request c.args.request) in
      accepted Unit tt s c.ask_circuit.new.self _ l c.args.channel c.in_ok-packet.packet o
      (is_accepted s c.ask_circuit.new.self l c.args.channel c.in_ok-packet.packet o (sym fits.restarting ∙ c.requires.ready)
      (c.in_ok-packet.ensures.outcome s l fits))
      (record { role = refl; long_data = refl; ranges = refl; restarting = refl; restarts = refl }) refl c.spell_sent.ensures.put;
  stays = search rules;
  short = search rules;
  missing = search rules;
}

pub returns-clause-later : goal.returns-clause-later
returns-clause-later c = put_later (plain_request c.args.request) c.args.channel c.in_ok-packet.packet _ c.in_ok-packet.ensures.at_once c.spell_sent.ensures.put
