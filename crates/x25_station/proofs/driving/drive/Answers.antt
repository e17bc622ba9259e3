use Rattle.x25_station.proofs.Names.{◌≡◌, ◌∙◌, List, ℕ, Option, option_to_list, sym, subst, spelled, begin, ShownLink, LinkState, FitsWhole, after_put_to}
use Rattle.x25_station.proofs.{DriveLemmas.{some_put, none_put}, LinkLemmas.{on_ok}, Names.{PlainPacket, after_all}}
use Rattle.x25_station.proofs.driving.drive.Goals.{then-not-is_empty, else-not-is_empty}
use Rattle.x25_station.proofs.driving.drive.Goals as goal

behind : (c : goal.After-pull_all) (packet : Option PlainPacket) (x : LinkState) → c.args.layer.now.sheet ≡ spelled packet
    → FitsWhole c.args.link.now x → FitsWhole c.if-not-is_empty.link (after_all x (option_to_list packet))
behind c packet x put link =
    let octets = c.to_put.result.now in
    elim c.if-not-is_empty.branch [
      | then-not-is_empty w ↦
          subst (λ (m : ShownLink). FitsWhole m (after_all x (option_to_list packet))) (sym w.link-is)
          (subst (λ (y : LinkState). FitsWhole w.put.new.self y)
          (some_put x packet octets (c.to_put.ensures ∙ put) (sym c.is_empty.ensures ∙ w.if-not-is_empty.true))
          (subst (λ (os : List ℕ). FitsWhole w.put.new.self (after_put_to x os)) (w.to_put-then-not-is_empty.ensures ∙ sym c.to_put.ensures)
          (on_ok w.put.result w.unwrap.result _ w.unwrap.ensures (w.put.ensures.state x link))))
      | else-not-is_empty w ↦
          subst (λ (m : ShownLink). FitsWhole m (after_all x (option_to_list packet))) (sym w.link-is)
          (subst (λ (y : LinkState). FitsWhole c.args.link.now y)
          (none_put x packet octets (c.to_put.ensures ∙ put) (sym c.is_empty.ensures ∙ w.if-not-is_empty.false)) link)
    ]

pub returns-clause-layer : goal.returns-clause-layer
returns-clause-layer c = λ s l packet x fits put link. c.pull_all.ensures.layer s (begin l packet) x fits (behind c packet x put link)

pub returns-clause-link : goal.returns-clause-link
returns-clause-link c = λ s l packet x fits put link. c.pull_all.ensures.link s (begin l packet) x fits (behind c packet x put link)

pub returns-clause-turn : goal.returns-clause-turn
returns-clause-turn c = λ s l packet x fits put link. c.pull_all.ensures.turn s (begin l packet) x fits (behind c packet x put link)
