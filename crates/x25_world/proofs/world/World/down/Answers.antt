use Rattle.x25_world.proofs.{Names.{ap, err_from_is_err_and, config_refusal}, WorldLemmas.{made_as, refused_as, refused_later}}
use Rattle.x25_world.proofs.world.World.down.Goals as goal

pub returns-in_err-dte-clause-refused : goal.returns-in_err-dte-clause-refused
returns-in_err-dte-clause-refused c =
    let p = err_from_is_err_and c.from_residual.result c.from_residual.ensures.1 in
    rw (p.1, p.2) (refused_as _ _ (config_refusal c.args.cfg) c.in_err-dte.field-0.0 c.in_err-dte.ensures.refused)

pub returns-in-Err-clause-refused : goal.returns-in-Err-clause-refused
returns-in-Err-clause-refused c = refused_as _ _ (config_refusal c.args.cfg) c.in-Err.error c.in-Err.ensures.refused

pub returns-in-Err-new_step-clause-refused : goal.returns-in-Err-new_step-clause-refused
returns-in-Err-new_step-clause-refused c = refused_later _ _ c.in-Ok.dce c.in-Err-new_step.error c.in-Ok.ensures.refused c.in-Err-new_step.ensures

pub returns-in-Ok-new_step-clause-refused : goal.returns-in-Ok-new_step-clause-refused
returns-in-Ok-new_step-clause-refused c = made_as (config_refusal c.args.cfg) c.in-Ok.dce _ c.in-Ok.ensures.refused

pub returns-in-Ok-new_step-clause-fits : goal.returns-in-Ok-new_step-clause-fits
returns-in-Ok-new_step-clause-fits c = record {
  dte = c.in_ok-dte.ensures.fits;
  dce = c.in-Ok.ensures.fits;
  to_dce = ap (λ l. l.to_dce) c.new.ensures;
  to_dte = ap (λ l. l.to_dte) c.new.ensures;
}
