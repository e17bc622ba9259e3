use Rattle.x25_station.proofs.{Names.{ap, ◌∙◌, Manner}, SaidLemmas.{made, said_so}}
use Rattle.x25_station.proofs.station.Station.proposal.Goals as goal

pub returns : goal.returns
returns c = λ d s fits. said_so c.args.self.now.manner.say_sizes d.say_sizes c.args.params (ap (λ (m : Manner). m.say_sizes) fits.same)
    ∙ made c.new.result c.args.params c.args.self.now.manner.say_sizes c.new.ensures.params c.new.ensures.says_all
