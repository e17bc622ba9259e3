use Rattle.std.proofs.Common.{◌∙◌, [], false, sym, subst}
use Rattle.std.proofs.lemmas.Result.{err_from_is_err_and, MatchResult-weaker}
use Rattle.x25_world.specs.code.FitsWorld.{FitsWorld}
use Rattle.x25_sim.specs.code.Stands.{IsOpening, opening}
use Rattle.x25_sim.proofs.StandLemmas.{StandsAt, BeginsAt, begins_before, begins_behind, deliveries, first_turn, opens, stands_behind, stands_first}
use Rattle.x25_sim.proofs.stage.Stage.open.Goals as goal

pub returns-in_err-begin-clause-stood : goal.returns-in_err-begin-clause-stood
unfolding IsOpening
returns-in_err-begin-clause-stood g c = λ cfg down old fits status tells.
    let p = err_from_is_err_and c.from_residual.result c.from_residual.ensures.1 in
    let shown = c.args.self.now.shown in
    rw p.1 (subst (BeginsAt old (g.W.Sink.contents c.begin.new.writer) []) (opens cfg down shown (c.two_stations_keep_order.ensures.set_up cfg))
    (begins_before cfg shown old _ c.begin.new.self [] false (deliveries cfg shown) (first_turn cfg down shown)
    (c.in_err-begin.ensures.tells cfg down old [] fits tells)))

pub returns-clause-stood : goal.returns-clause-stood
unfolding IsOpening
returns-clause-stood g c = λ cfg down old fits status tells.
    let shown = c.args.self.now.shown in
    let stage = c.attempt_both.new.self in
    let next = g.W.Sink.contents c.attempt_both.new.writer in
    let all = opens cfg down shown (c.two_stations_keep_order.ensures.set_up cfg) in
    let first = stands_first cfg down shown old _ c.begin.new.self (subst (λ v. FitsWorld cfg v (opening cfg down)) (sym c.in_ok-begin.ensures.world) fits)
    c.in_ok-begin.ensures.shown (c.in_ok-begin.ensures.is_refused ∙ status)
    (c.in_ok-begin.ensures.tells cfg down old [] fits tells) in
    MatchResult-weaker c.attempt_both.result (c.attempt_both.ensures.turns cfg shown old _ _ _ first)
    (λ _ stands. subst (StandsAt cfg shown old next stage [] false) all
    (stands_behind cfg shown old next stage [] false (deliveries cfg shown) (first_turn cfg down shown) stands))
    (λ _ begins. subst (BeginsAt old next []) all (begins_behind cfg shown old next stage [] false (deliveries cfg shown) (first_turn cfg down shown) begins))
