use Rattle.std.proofs.Common.{◌⊎◌, inl, inr, ◌∷◌, List}
use Rattle.x25_line.specs.laws.Ends.{Ends}
use Rattle.x25_possible.specs.laws.Possible.{Item, Own}
use Rattle.x25_possible_links.specs.laws.Link.{At}
use Rattle.x25_possible_links.specs.laws.Sets.{IsRoomy, IsTimely}
use Rattle.x25_possible_links.specs.declared.frame.Frame.{Frame}
use Rattle.x25_possible_links.specs.declared.stand.Stand.{Stand}
use Rattle.x25_possible_peers.specs.laws.LinkPeers.{LinkStands, IsPrompt}
use Rattle.x25_possible_peers.proofs.LinkTapeLemmas.{explained, Explained}
use Rattle.x25_possible_peers.proofs.law.link_peers_stay_untold.Goals as goal

in_time : {begun : List Stand} {tape : List (Item Frame)} {x : Frame} {w : Ends} {way : List Frame} (run : LinkStands begun (Own x ∷ tape) w way)
    → IsPrompt run ⊎ IsRoomy begun tape → (e : Explained run) → IsTimely e.explains ⊎ IsRoomy begun tape
in_time run (inl prompt) e = inl (e.timely prompt)
in_time run (inr room) e = inr room

pub returns : goal.returns
returns c = λ begun tape x w way run when.
    let e = explained (Own x ∷ tape) w way run in
    c.innocents_stay_untold.ensures begun tape x (At e.stand) way e.explains (in_time run when e)
