use Rattle.x25_layer.proofs.Names.{◌≤◌, ◌∙◌, ap, length, refl, sym, subst, ℕ, List, Option, Some, plain_sent, Requested, plain, accept, call, interrupt}
use Rattle.x25_circuit.specs.code.Replies.{IsSendable}
use Rattle.x25_layer.proofs.LengthLemmas.{spelled_short}
use Rattle.x25_layer.proofs.sheet.Sheet.spell_sent.Goals as goal

abbrev Sendable : Option Requested → Type 0
Sendable o = IsSendable (plain_sent o)

pub returns-in-Call-clause-short : goal.returns-in-Call-clause-short
returns-in-Call-clause-short c =
    let p = c.in-Call in
    let range = subst Sendable (c.in-Some.is ∙ ap (λ (r : Requested). Some r) p.is) c.requires.range in
    subst (λ (octets : List ℕ). length octets ≤ 260) (sym c.spell_call.ensures)
    (spelled_short (call c.args.channel p.called p.calling p.facilities p.user.now) (c.requires.channel, range.1, range.2, range.3, range.4) refl)

pub returns-in-Accept-clause-short : goal.returns-in-Accept-clause-short
returns-in-Accept-clause-short c =
    let p = c.in-Accept in
    let range = subst Sendable (c.in-Some.is ∙ ap (λ (r : Requested). Some r) p.is) c.requires.range in
    subst (λ (octets : List ℕ). length octets ≤ 260) (sym c.spell_accept.ensures)
    (spelled_short (accept c.args.channel p.facilities) (c.requires.channel, range.1) refl)

pub returns-in-Interrupt-clause-short : goal.returns-in-Interrupt-clause-short
returns-in-Interrupt-clause-short c =
    let p = c.in-Interrupt in
    let range = subst Sendable (c.in-Some.is ∙ ap (λ (r : Requested). Some r) p.is) c.requires.range in
    subst (λ (octets : List ℕ). length octets ≤ 260) (sym c.spell.ensures.put)
    (spelled_short (interrupt c.args.channel p.user.now) (c.requires.channel, range.1, range.2) refl)

pub returns-in-Owed-clause-short : goal.returns-in-Owed-clause-short
returns-in-Owed-clause-short c =
    subst (λ (octets : List ℕ). length octets ≤ 260) (sym c.spell-in-Owed.ensures.put)
    (spelled_short (plain c.packet.result) c.packet.ensures.range c.packet.ensures.control)
