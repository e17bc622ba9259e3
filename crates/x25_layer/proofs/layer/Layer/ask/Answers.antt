use Rattle.x25_layer.proofs.Names.{◌≡◌, ◌∙◌, sym, ap, subst, true, false, plain_request, Asks, LayerOutcome, puts_at_once, is_number, Gives}
use Rattle.x25_layer.proofs.CallLemmas.{asked_goes, refuses, takes_it, on_ok, on_ok_then}
use Rattle.x25_layer.specs.Ranges.{is_channel}
use Rattle.x25_layer.proofs.layer.Layer.ask.Goals as goal

pub returns-in-Some : goal.returns-in-Some
returns-in-Some c = refuses _ c.args.self.now c.in-Some.error c.args.link (Asks c.args.channel (plain_request c.args.request)) c.in-Some.ensures.kinds
    c.in-Some.ensures.refused

pub returns : goal.returns
returns c = record {
  does = record {
    gives = λ s l fits.
        let asked = plain_request c.args.request in
        let at_l : l.restarting ≡ false = sym fits.restarting ∙ c.in_default.ensures.ready in
        let is : is_channel s.channels c.args.channel ≡ true = ap (λ n. is_number n c.args.channel) (sym fits.channels) ∙ c.in_default.ensures.channel in
        subst (λ (o : LayerOutcome). Gives s c.ask_ready.new.self c.ask_ready.result o)
        (sym (asked_goes s c.args.link.is_up c.args.link.is_full l c.args.channel asked c.in_default.ensures.up at_l is c.in_default.ensures.free))
        (c.ask_ready.ensures.does.gives s l fits);
    stays = c.ask_ready.ensures.does.stays;
    short = c.ask_ready.ensures.does.short;
    missing = c.ask_ready.ensures.does.missing;
  };
  up = on_ok c.ask_ready.result c.in_default.ensures.up;
  free = on_ok_then c.ask_ready.result (takes_it (puts_at_once (plain_request c.args.request)) c.args.link.is_full _ c.in_default.ensures.free)
      c.ask_ready.ensures.later;
}
