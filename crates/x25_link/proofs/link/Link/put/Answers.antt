use Rattle.x25_link.proofs.{EndLemmas.{with_packet, ended_settled, ended_calm}, LinkLemmas.{put_fits}}
use Rattle.x25_link.proofs.{Names.{ℕ, List, ◌<◌, ◌++◌, length, map, arith, sym, ap, subst, ◌∙◌, refl, spelling_of}, PlaceLemmas.{some_left}}
use Rattle.x25_link.specs.{Link.{put_step}, code.FitsLink.{ShownLink, FitsWhole}}
use Rattle.x25_link.proofs.link.Link.put.Goals as goal

pub returns-clause-state : goal.returns-clause-state
returns-clause-state c = λ x whole.
    let d = x.settings in
    let s = x.station in
    let inside = subst (λ (v : ShownLink). FitsWhole v x) (sym c.self.view_is) whole in
    let near = inside.link.near in
    let side = put_fits d _ _ _ _ s c.args.packet.now _ _ near (sym c.if-not-is_up.ensures) (c.wanted-nr.ensures.state _ near.taken)
    inside.link.settled inside.link.calm (λ _. refl) (λ shuts. c.if-not-put.ensures.step d.window s.outgoing near.outgoing shuts refl)
    (λ shuts. c.if-not-put.ensures.made d.window s.outgoing near.outgoing shuts refl) in
    let sound = near.outgoing.sender.sound in
    record {
      link = record {
        near = side.near;
        settled = ended_settled d.window (with_packet c.args.packet.now s) sound.window_high sound.place_low;
        calm = ended_calm d.window (with_packet c.args.packet.now s);
      };
      kept = side.out ∙ ap (λ (frames : List (List ℕ)). frames ++ map (spelling_of d.role) (put_step d c.args.packet.now s).side.out) inside.kept;
    }

pub returns-then-not-put-clause-long : goal.returns-then-not-put-clause-long
returns-then-not-put-clause-long c = λ up few places.
    let o = c.self.inside.station.outgoing in
    let wait = subst (λ (v : ShownLink). length v.station.outgoing.queue.items < 8) (sym c.self.view_is) few in
    let some = some_left o.places.short o.places.long (length c.args.packet.now) o.sender.window o.sender.items o.queue.items o.sent o.window wait o.short o.long
    o.long_ones in
    absurd (omega (arith, some, (c.if-not-put.ensures.refused refl).2))
