use Rattle.std.proofs.Common.{◌∙◌, List, ap, arith}
use Rattle.x25_station.specs.Config.{layer_settings}
use Rattle.x25_clock.specs.declared.wait.Wait.{Wait}
use Rattle.x25_clock.specs.Clock.{heeded_on, spread, wait_at}
use Rattle.x25_clock.proofs.ListedLemmas.{spread_map}
use Rattle.x25_clock.proofs.clock.Clock.heed_channels.Goals as goal

pub returns-clause-waits : goal.returns-clause-waits
returns-clause-waits c = λ d s fits.
    let v = c.args.self.now in
    let f = heeded_on v.times c.args.now (layer_settings d) s.layer in
    ap (λ x. spread v.channels 1 x.items) c.swap.ensures.x_after
    ∙ spread_map f v.channels 1 v.waits.items c.list_all.new.list.items
    (λ h low high. c.list_all.ensures.heeds d s fits h low (omega (arith, high)) ∙ ap (λ (ws : List Wait). f (wait_at h ws)) c.as_slice-waits.ensures.value)
