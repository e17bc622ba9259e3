use Rattle.x25_link.proofs.Names.{ℕ, ◌≡◌, List, map, take, sym, ap, ◌∙◌, vec_capacity, Vec, Global}
use Rattle.std.proofs.lemmas.{List.{take-map}, List.Elements.{All-take}}
use Rattle.x25_link.proofs.frames.Frames.as_slice.Goals as goal

pub returns-clause-frames : goal.returns-clause-frames
returns-clause-frames c =
    let octets_of = λ (v : Vec ℕ Global). v.items in
    ap (λ (l : List (Vec ℕ Global)). map octets_of (take c.self.inside.count l)) c.deref.ensures.value
    ∙ sym (take-map octets_of c.self.inside.count c.self.inside.places.items) ∙ c.self.view_is

pub returns-clause-memory : goal.returns-clause-memory
returns-clause-memory c =
    rw c.deref.ensures.value
    (All-take (λ (v : Vec ℕ Global). vec_capacity v ≡ 4103) c.self.inside.count c.self.inside.places.items c.self.invariant.3)
