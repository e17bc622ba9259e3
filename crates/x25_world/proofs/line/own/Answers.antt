use Rattle.std.proofs.Common.{Vec, Global}
use Rattle.x25_world.proofs.{LineLemmas.{first_of}, Names.{◌∙◌, List, [], ◌∷◌, ◌<◌, ℕ, ap, arith, drop, length, sym, take, length-map}}
use Rattle.x25_world.proofs.line.own.Goals as goal

pub returns-clause-frame : goal.returns-clause-frame
returns-clause-frame c =
    let octets_of = λ (v : Vec ℕ Global). v.items in
    let listed = c.as_slice.result.now in
    let within : c.args.place < length listed = omega (arith, length-map listed octets_of, ap length c.as_slice.ensures.frames, c.requires.place) in
    ap (λ (l : List (List ℕ)). take 1 (drop c.args.place l)) (sym c.as_slice.ensures.frames)
    ∙ first_of octets_of listed c.args.place c.index-as_slice-place.result within
    ∙ ap (λ (v : Vec ℕ Global). v.items ∷ []) (sym c.index-as_slice-place.is)
    ∙ ap (λ (l : List ℕ). l ∷ []) (sym (c.in-Some.ensures.octets ∙ c.deref.ensures.value))
