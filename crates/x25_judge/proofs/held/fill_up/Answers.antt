use Rattle.std.proofs.Common.{◌≡◌, ◌∙◌, [], length, replicate, ap, arith}
use Rattle.std.proofs.lemmas.List.{length-replicate}
use Rattle.x25_judge.specs.Held.{no_octets}
use Rattle.x25_judge.proofs.held.fill_up.Goals as goal

pub returns-clause-items : goal.returns-clause-items
unfolding no_octets
returns-clause-items c =
    let all : c.loop.counter ≡ 8 = omega arith in
    c.loop.invariant.0 ∙ ap (λ n. replicate n []) all

pub returns-clause-size : goal.returns-clause-size
returns-clause-size c =
    let all : c.loop.counter ≡ 8 = omega arith in
    ap length c.loop.invariant.0 ∙ length-replicate c.loop.counter [] ∙ all
