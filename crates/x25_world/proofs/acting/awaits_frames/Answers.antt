use Rattle.x25_world.proofs.Names.{sym, ap, ap₂, ◌∙◌, ◌&&◌, ◌||◌, settings_from, is_on_line, carries, Sabm, Ua}
use Rattle.x25_bits.specs.Role.{other}
use Rattle.x25_world.proofs.acting.awaits_frames.Goals as goal

pub returns-then-status : goal.returns-then-status
returns-then-status c = λ cfg w side.
    c.is_on_line.ensures ∙ ap₂ (λ out back. carries Sabm c.args.at out || carries Ua (other c.args.at) back) side.out side.back
    ∙ ap (λ b. b && is_on_line (settings_from c.args.at cfg) w) (sym c.if-status.true ∙ c.status.ensures.awaits_ua _ _ side.near)

pub returns-else-status : goal.returns-else-status
returns-else-status c = λ cfg w side. c.if-status.false
    ∙ ap (λ b. b && is_on_line (settings_from c.args.at cfg) w) (sym c.if-status.false ∙ c.status.ensures.awaits_ua _ _ side.near)
