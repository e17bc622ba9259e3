use Rattle.x25_layer.proofs.Names.{length-set, sym, refl, w64, ◌∙◌, bit_not}
use Rattle.x25_layer.proofs.BusyLemmas.{without_within, without_unused, without_other, without_this, word_low, idle_is}
use Rattle.x25_layer.proofs.busy.Busy.leave_idle.Goals as goal

pub invariant_of-self-clause-within : goal.invariant_of-self-clause-within
invariant_of-self-clause-within c = without_within c.args.self.now.count c.args.self.now.words.items c.args.channel c.from.result c.index_mut.result.now
    c.args.self.now.places c.requires.within c.from.ensures c.index_mut.ensures.value c.is_idle.result c.bit.result c.bit.ensures c.args.self.now.within

pub invariant_of-self-clause-unused : goal.invariant_of-self-clause-unused
invariant_of-self-clause-unused c = without_unused c.args.self.now.words.items c.args.self.now.used c.from.result c.index_mut.result.now _
    (word_low c.args.self.now.count c.args.self.now.words.items c.args.channel c.from.result c.args.self.now.places c.requires.within c.from.ensures)
    c.index_mut.ensures.value c.args.self.now.unused (bit_not w64 c.bit.result) refl

pub invariant_of-self-clause-places : goal.invariant_of-self-clause-places
invariant_of-self-clause-places c = length-set c.args.self.now.words.items c.from.result _ ∙ c.args.self.now.places

pub returns-clause-others : goal.returns-clause-others
returns-clause-others c = λ k differs out. sym (without_other c.args.self.now.count c.args.self.now.words.items c.args.channel c.from.result
    c.index_mut.result.now c.args.self.now.places c.requires.within c.from.ensures c.index_mut.ensures.value c.is_idle.result c.bit.result c.bit.ensures
    k differs) ∙ out

pub returns-clause-this : goal.returns-clause-this
returns-clause-this c = λ out. idle_is c.args.circuit.now c.is_idle.result c.is_idle.ensures.value c.is_idle.ensures.none (without_this c.args.self.now.count c.args.self.now.words.items c.args.channel c.from.result
    c.index_mut.result.now c.args.self.now.places c.requires.within c.from.ensures c.index_mut.ensures.value c.is_idle.result c.bit.result c.bit.ensures
    c.requires.listed out)
