use Rattle.x25_layer.proofs.{LengthLemmas.{spelled_short}, Names.{◌≤◌, length, sym, subst, ℕ, List, plain}}
use Rattle.x25_layer.proofs.sheet.Sheet.spell_owed.Goals as goal

pub returns-clause-short : goal.returns-clause-short
returns-clause-short c = subst (λ (octets : List ℕ). length octets ≤ 260) (sym c.spell.ensures.put)
    (spelled_short (plain c.packet.result) c.packet.ensures.range c.packet.ensures.control)
