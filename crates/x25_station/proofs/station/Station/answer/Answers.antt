use Rattle.x25_station.proofs.Names.{◌≡◌, Bool, true, Option, Some, None, sym, subst, ap, ◌∙◌, Accepts, Proposal, Params, Asks, layer_settings, asks, Manner}
use Rattle.x25_circuit.specs.Params.{in_full}
use Rattle.x25_station.proofs.EitherLemmas.{asked_nowhere, said_asked}
use Rattle.x25_station.{proofs.SaidLemmas.{made, none_of, not_there, said_so, there_is}, specs.Command.{answer_in_brief, answer_said}}
use Rattle.x25_station.proofs.station.Station.answer.Goals as goal

pub returns-in-Some : goal.returns-in-Some
returns-in-Some c = λ d s o fits.
    let h = c.args.channel in
    said_asked d s o (Asks h (Accepts (answer_in_brief c.args.params)))
    ∙ subst (λ (p : Option Params). asks d s o (Asks h (Accepts (answer_said d.say_sizes (s.layer.circuits h) (answer_in_brief p))))
    ≡ asks d s o (Asks h (Accepts (Some c.new.result)))) (sym c.in-Some.is)
    (ap (λ (p : Proposal). asks d s o (Asks h (Accepts (Some p))))
    (said_so c.args.self.now.manner.say_sizes d.say_sizes c.in-Some.params (ap (λ (m : Manner). m.say_sizes) fits.same)
    ∙ made c.new.result c.in-Some.params c.args.self.now.manner.say_sizes c.new.ensures.params c.new.ensures.says_all))

pub returns-in_default-params : goal.returns-in_default-params
returns-in_default-params c = λ d s o fits.
    let h = c.args.channel in
    let nowhere = not_there _ _ (sym (c.params.ensures (layer_settings d) s.layer fits.layer) ∙ none_of c.params.result c.in_default-params.not-Some) in
    said_asked d s o (Asks h (Accepts (answer_in_brief c.args.params)))
    ∙ asked_nowhere d s o h nowhere (answer_said d.say_sizes (s.layer.circuits h) (answer_in_brief c.args.params)) None

pub returns : goal.returns
returns c = λ d s o fits.
    let h = c.args.channel in
    let x = s.layer.circuits h in
    let proposed : x.params ≡ c.in-Some-params.proposed =
    there_is _ _ _ (sym (c.params.ensures (layer_settings d) s.layer fits.layer) ∙ c.in-Some-params.is) in
    said_asked d s o (Asks h (Accepts (answer_in_brief c.args.params)))
    ∙ ap (λ (p : Option Params). asks d s o (Asks h (Accepts (answer_said d.say_sizes x (answer_in_brief p)))))
    (none_of c.args.params c.in_default.not-Some)
    ∙ ap (λ (b : Bool). asks d s o (Asks h (Accepts (answer_said b x None)))) (sym (ap (λ (m : Manner). m.say_sizes) fits.same) ∙ c.if-not-self.false)
    ∙ ap (λ (p : Proposal). asks d s o (Asks h (Accepts (Some p))))
    (ap in_full proposed ∙ made c.new-2.result c.in-Some-params.proposed true c.new-2.ensures.params c.new-2.ensures.says_all)
