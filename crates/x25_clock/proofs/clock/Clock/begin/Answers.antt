use Rattle.std.proofs.Common.{◌≡◌, ◌∙◌, ℕ, Bool, true, false, if◌then◌else◌, List, None, Option, ap, refl}
use Rattle.x25_link.specs.Link.{timer_runs}
use Rattle.x25_station.specs.{Config.{layer_settings}, Station.Told.{is_at_rest}, declared.timer.Timer.TheVariants.{Off, Begins}}
use Rattle.x25_clock.specs.declared.{times.Times.{Times}, wait.Wait.{Wait}}
use Rattle.x25_clock.specs.Clock.{Deadlines, deadline, heeded_on, nothing_awaited, running, since, spread, t1_after}
use Rattle.std.specs.Prelude.{map}
use Rattle.x25_clock.proofs.ListedLemmas.{none_listed}
use Rattle.x25_clock.proofs.clock.Clock.begin.Goals as goal

t1_since : (times : Times) (now : ℕ) (b : Bool) → since b now times.t1 ≡ t1_after times now (if b then Begins else Off) None
t1_since times now true = refl
t1_since times now false = refl

runs_since : (now time : ℕ) (b : Bool) → since b now time ≡ running b false None (deadline now time)
runs_since now time true = refl
runs_since now time false = refl

pub returns-clause-begins : goal.returns-clause-begins
returns-clause-begins c = λ d s fits.
    let v = c.args.self.now in
    let now = c.args.now in
    let f = heeded_on v.times now (layer_settings d) s.layer in
    let only : Option ℕ → Option ℕ → Option ℕ → List Wait → Deadlines = λ t1 idle restart ws. record { t1 = t1; idle = idle; restart = restart; waits = ws } in
    let waits = c.heed_channels.ensures.waits d s fits ∙ ap (λ (ws : List Wait). map f (spread v.channels 1 ws)) c.clear.ensures.items
    ∙ ap (map f) (none_listed v.channels 1) in
    let t1 = c.since-self.ensures ∙ ap (λ (b : Bool). since b now v.times.t1) (c.status-status.ensures.timer_runs d s fits)
    ∙ t1_since v.times now (timer_runs s.link.phase s.link) in
    let idle = c.since-self-2.ensures ∙ ap (λ (b : Bool). since b now v.times.t3) (c.status-status.ensures.is_at_rest d s fits)
    ∙ runs_since now v.times.t3 (is_at_rest s) in
    let restart = c.since-self-3.ensures ∙ ap (λ (b : Bool). since b now v.times.t20) (c.status-status.ensures.is_restarting d s fits)
    ∙ runs_since now v.times.t20 s.layer.restarting in
    let all = map f (nothing_awaited v.channels).waits in
    c.heed_channels.ensures.kept
    ∙ ap (only c.since-self.result c.since-self-2.result c.since-self-3.result) waits
    ∙ ap (λ (o : Option ℕ). only o c.since-self-2.result c.since-self-3.result all) t1
    ∙ ap (λ (o : Option ℕ). only (t1_after v.times now (if timer_runs s.link.phase s.link then Begins else Off) None) o c.since-self-3.result all) idle
    ∙ ap (λ (o : Option ℕ). only (t1_after v.times now (if timer_runs s.link.phase s.link then Begins else Off) None)
    (running (is_at_rest s) false None (deadline now v.times.t3)) o all) restart
