use Rattle.x25_world.proofs.Names.{◌≡◌, ◌∙◌, ◌<◌, length, false, ap, arith, sym, subst, is_sealed, Cfg, World, shown_with, line_of, FitsWorld}
use Rattle.std.proofs.Common.{rules}
use Rattle.x25_world.proofs.BitDamageLemmas.{refuses_bits}
use Rattle.x25_world.proofs.world.World.damage_by.Goals as goal

pub returns : goal.returns
returns c =
    let octets = c.as_slice.result.now in
    let there : c.args.place < length (line_of c.args.self.now c.args.direction) = omega (arith, c.if-place-on_line.false, c.on_line.ensures) in
    let visible : is_sealed octets ≡ false = ap is_sealed c.as_slice.ensures.value ∙ c.in_ok-octets.ensures.visible in
    let inside : (cfg : Cfg) (w : World) → FitsWorld cfg c.args.self.now w → FitsWorld cfg (shown_with c.self.inside.dte c.self.inside.dce c.self.inside.line) w
    = λ cfg w fits. subst (λ v. FitsWorld cfg v w) (sym c.self.view_is) fits in
    record {
      step = search rules;
      accepted = search rules;
      harmless = search rules;
      refused = λ cfg w fits. refuses_bits c.args.direction c.args.place c.args.bits.now octets c.act_at_end.result fits there visible
          (c.act_at_end.ensures.acted cfg w (inside cfg w fits)).refused;
      stays = search rules;
      places = rw (← c.self.view_is) (record { to_dce = c.act_at_end.ensures.places.to_dce; to_dte = c.act_at_end.ensures.places.to_dte });
    }
