use Rattle.std.proofs.Common.{◌≡◌, ◌∙◌, ◌++◌, ◌+◌, ap, take, rules}
use Rattle.std.proofs.lemmas.Result.{err_from_is_err_and}
use Rattle.x25_bits.specs.FrameCheck.{bits_of, low_bits}
use Rattle.x25_bits.proofs.OctetLemmas.{take_grown}
use Rattle.x25_bits.proofs.bits.Bits.append.Goals as goal

pub returns-in_err-grow-clause-err : goal.returns-in_err-grow-clause-err
returns-in_err-grow-clause-err c =
    let p = err_from_is_err_and c.from_residual.result c.from_residual.ensures.1 in
    rw p.1 (take_grown c.self.inside.count c.self.inside.octets.items c.grow.new.octets.items c.grow.ensures.begins.0 c.self.invariant c.grow.ensures.begins.1
    ∙ c.self.view_is)

pub returns-clause-ok : goal.returns-clause-ok
returns-clause-ok c =
    let after : c.in-Some.after ≡ c.self.inside.count + c.args.count = search rules in
    ap (λ n. take n (bits_of c.set_octet.new.octets.items)) after
    ∙ c.set_octet.ensures.bits c.args.count c.requires
    ∙ ap (λ l. l ++ low_bits c.args.count c.args.octet)
    (take_grown c.self.inside.count c.self.inside.octets.items c.grow.new.octets.items c.grow.ensures.begins.0 c.self.invariant c.grow.ensures.begins.1
    ∙ c.self.view_is)
