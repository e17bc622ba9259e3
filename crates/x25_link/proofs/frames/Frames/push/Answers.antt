use Rattle.x25_link.proofs.Names.{rules, ◌≡◌, ◌+◌, ◌<◌, ℕ, List, [], ◌∷◌, ◌++◌, length, map, take, ap, ◌∙◌, arith, Vec, Global, length-take-le, spelling_of}
use Rattle.std.proofs.lemmas.List.{length-map, map-set, take_more_set}
use Rattle.x25_frame.specs.Frame.{plain}
use Rattle.x25_link.proofs.frames.Frames.push.Goals as goal

pub returns : goal.returns
returns c =
    let octets_of = λ (v : Vec ℕ Global). v.items in
    let places = c.self.inside.places.items in
    let frames = map octets_of places in
    let count = c.self.inside.count in
    let all = length-map places octets_of in
    let used = length-take-le count frames (omega (arith, all, c.self.invariant.0, c.self.invariant.1)) in
    let free : count < length frames = omega (arith, used, all, ap length c.self.view_is, c.requires.place, c.self.invariant.1) in
    let spelled : c.encode.new.octets.items ≡ spelling_of c.args.from (plain c.args.frame.now) = search rules in
    ap (take (count + 1)) (map-set octets_of places count c.encode.new.octets)
    ∙ take_more_set frames count c.encode.new.octets.items free
    ∙ ap (λ (o : List ℕ). take count frames ++ o ∷ []) spelled
    ∙ ap (λ (m : List (List ℕ)). m ++ spelling_of c.args.from (plain c.args.frame.now) ∷ []) c.self.view_is
