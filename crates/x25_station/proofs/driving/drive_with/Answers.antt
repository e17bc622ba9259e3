use Rattle.x25_station.proofs.Names.{ℕ, List, length, ◌==◌, None, refl, sym, ap, subst, ◌∙◌, PlainGiven, given_with, write, FitsLayer, Putting, begin}
use Rattle.x25_station.proofs.Names.{LinkState, FitsWhole, after_put_to, spelling_of, all_with, seen_at, seen_with}
use Rattle.x25_given.specs.Given.{plain_given}
use Rattle.x25_station.proofs.{DriveLemmas.{rounds_go_behind, none_spelled, free_for}, GivingLemmas.{none_of}}
use Rattle.x25_station.proofs.WithLemmas.{layer_with, layer_without, link_with, link_without, turn_with, turn_without}
use Rattle.x25_station.proofs.driving.drive_with.Goals as goal

pub returns-in_default-clause-layer : goal.returns-in_default-clause-layer
returns-in_default-clause-layer c = layer_without (given_with c.args.given) c.args.layer.now c.drive.new.layer c.args.link.now c.args.turn.now
    (ap given_with (none_of c.args.given c.in_default.not-Some)) c.drive.ensures.layer

pub returns-in_default-clause-link : goal.returns-in_default-clause-link
returns-in_default-clause-link c = link_without (given_with c.args.given) c.args.layer.now c.args.link.now c.drive.new.link c.args.turn.now
    (ap given_with (none_of c.args.given c.in_default.not-Some)) c.drive.ensures.link

pub returns-then-is_empty-clause-layer : goal.returns-then-is_empty-clause-layer
returns-then-is_empty-clause-layer c = layer_with (given_with c.args.given) (plain_given c.in-Some.given.now) c.args.layer.now c.args.layer.now c.args.link.now c.args.turn.now
    (ap given_with c.in-Some.is) (λ s l p x fits put link. absurd
    (none_spelled p c.to_put.result.now (c.to_put.ensures ∙ put) (sym c.is_empty.ensures ∙ c.if-is_empty.true)))

pub returns-then-is_empty-clause-link : goal.returns-then-is_empty-clause-link
returns-then-is_empty-clause-link c = link_with (given_with c.args.given) (plain_given c.in-Some.given.now) c.args.layer.now c.args.link.now c.args.link.now c.args.turn.now
    (ap given_with c.in-Some.is) (λ s l p x fits put link. absurd
    (none_spelled p c.to_put.result.now (c.to_put.ensures ∙ put) (sym c.is_empty.ensures ∙ c.if-is_empty.true)))

pub put_with-requires-clause-free : goal.put_with-requires-clause-free
put_with-requires-clause-free c = free_for c.args.layer.now.sheet c.args.link.now
    (ap (λ (os : List ℕ). length os == 0) (sym c.to_put.ensures) ∙ sym c.is_empty.ensures ∙ c.if-is_empty.false) c.requires.free

pub returns-clause-layer : goal.returns-clause-layer
returns-clause-layer c =
    let g : PlainGiven = plain_given c.in-Some.given.now in
    layer_with (given_with c.args.given) g c.args.layer.now c.pull_all.new.layer c.args.link.now c.args.turn.now (ap given_with c.in-Some.is) (λ s l p x fits put link.
    let y : LinkState = after_put_to x (write g (spelling_of p)) in
    subst (λ (t : Putting). FitsLayer s c.pull_all.new.layer t.layer)
    (sym (rounds_go_behind (seen_with g c.args.turn.now x) (seen_at c.args.turn.now y) s p (λ ps. refl) refl (begin l None)))
    (c.pull_all.ensures.layer s (begin l None) y fits
    (subst (λ (os : List ℕ). FitsWhole c.put_with.new.link (after_put_to x (write g os))) (c.to_put-2.ensures ∙ put)
    (c.put_with.ensures.link x link))))

pub returns-clause-link : goal.returns-clause-link
returns-clause-link c =
    let g : PlainGiven = plain_given c.in-Some.given.now in
    link_with (given_with c.args.given) g c.args.layer.now c.args.link.now c.pull_all.new.link c.args.turn.now (ap given_with c.in-Some.is) (λ s l p x fits put link.
    let y : LinkState = after_put_to x (write g (spelling_of p)) in
    subst (λ (t : Putting). FitsWhole c.pull_all.new.link (all_with g x t.put))
    (sym (rounds_go_behind (seen_with g c.args.turn.now x) (seen_at c.args.turn.now y) s p (λ ps. refl) refl (begin l None)))
    (c.pull_all.ensures.link s (begin l None) y fits
    (subst (λ (os : List ℕ). FitsWhole c.put_with.new.link (after_put_to x (write g os))) (c.to_put-2.ensures ∙ put)
    (c.put_with.ensures.link x link))))

pub returns-in_default-clause-turn : goal.returns-in_default-clause-turn
returns-in_default-clause-turn c = turn_without (given_with c.args.given) c.args.layer.now c.args.link.now c.args.turn.now c.drive.new.turn
    (ap given_with (none_of c.args.given c.in_default.not-Some)) c.drive.ensures.turn

pub returns-then-is_empty-clause-turn : goal.returns-then-is_empty-clause-turn
returns-then-is_empty-clause-turn c = turn_with (given_with c.args.given) (plain_given c.in-Some.given.now) c.args.layer.now c.args.link.now c.args.turn.now
    c.args.turn.now (ap given_with c.in-Some.is) (λ s l p x fits put link. absurd
    (none_spelled p c.to_put.result.now (c.to_put.ensures ∙ put) (sym c.is_empty.ensures ∙ c.if-is_empty.true)))

pub returns-clause-turn : goal.returns-clause-turn
returns-clause-turn c =
    let g : PlainGiven = plain_given c.in-Some.given.now in
    turn_with (given_with c.args.given) g c.args.layer.now c.args.link.now c.args.turn.now c.pull_all.new.turn (ap given_with c.in-Some.is)
    (λ s l p x fits put link.
    let y : LinkState = after_put_to x (write g (spelling_of p)) in
    c.pull_all.ensures.turn s (begin l None) y fits
    (subst (λ (os : List ℕ). FitsWhole c.put_with.new.link (after_put_to x (write g os))) (c.to_put-2.ensures ∙ put)
    (c.put_with.ensures.link x link))
    ∙ ap (λ (t : Putting). t.turn)
    (sym (rounds_go_behind (seen_with g c.args.turn.now x) (seen_at c.args.turn.now y) s p (λ ps. refl) refl (begin l None))))
