use Rattle.x25_layer.proofs.Names.{ℕ, ◌^◌, ◌∙◌, if◌then◌else◌, length-set, refl, sym, ap}
use Rattle.x25_layer.proofs.{BusyLemmas.{with_within, with_unused, with_this, with_others, word_low, no_mask}, CallLemmas.{configured}}
use Rattle.x25_layer.proofs.busy.Busy.note.Goals as goal

pub invariant_of-self-clause-within : goal.invariant_of-self-clause-within
invariant_of-self-clause-within c = with_within c.args.self.now.count c.args.self.now.words.items c.args.channel c.from.result c.index_mut.result.now
    c.args.self.now.places (configured _ c.args.channel c.requires).1 c.from.ensures c.index_mut.ensures.value c.args.is_busy c.bit.result c.bit.ensures
    c.args.self.now.within

pub invariant_of-self-clause-unused : goal.invariant_of-self-clause-unused
invariant_of-self-clause-unused c = with_unused c.args.self.now.words.items c.args.self.now.used c.from.result c.index_mut.result.now _
    (word_low c.args.self.now.count c.args.self.now.words.items c.args.channel c.from.result c.args.self.now.places (configured _ c.args.channel c.requires).1
    c.from.ensures) c.index_mut.ensures.value c.args.self.now.unused c.args.is_busy c.bit.result c.bit-2.result
    (c.bit-2.ensures ∙ ap (λ (n : ℕ). if c.args.is_busy then 2 ^ n else 0) (sym c.from.ensures))
    (no_mask c.args.is_busy c.args.channel c.bit.result c.bit.ensures) refl

pub invariant_of-self-clause-places : goal.invariant_of-self-clause-places
invariant_of-self-clause-places c = length-set c.args.self.now.words.items c.from.result _ ∙ c.args.self.now.places

pub returns-clause-others : goal.returns-clause-others
returns-clause-others c = with_others c.args.self.now.count c.args.self.now.words.items c.args.channel c.from.result c.index_mut.result.now
    c.args.self.now.places (configured _ c.args.channel c.requires).1 c.from.ensures c.index_mut.ensures.value c.args.is_busy c.bit.result c.bit.ensures

pub returns-clause-this : goal.returns-clause-this
returns-clause-this c = with_this c.args.self.now.count c.args.self.now.words.items c.args.channel c.from.result c.index_mut.result.now
    c.args.self.now.places (configured _ c.args.channel c.requires).1 c.from.ensures c.index_mut.ensures.value c.args.is_busy c.bit.result c.bit.ensures
