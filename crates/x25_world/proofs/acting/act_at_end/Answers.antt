use Rattle.x25_world.proofs.{Names.{◌∙◌, sym, mirrored}, WorldLemmas.{dte_acted, dce_acted}}
use Rattle.x25_world.proofs.acting.act_at_end.Goals as goal

pub returns-in-Dte-clause-acted : goal.returns-in-Dte-clause-acted
returns-in-Dte-clause-acted c = λ cfg w fits.
    let at = sym c.at.ensures ∙ c.in-Dte.is in
    dte_acted _ c.act.result _ at fits.dce (c.act.ensures.acted cfg w (record { near = fits.dte; out = fits.to_dce; back = fits.to_dte }))

pub returns-in-Dce-clause-acted : goal.returns-in-Dce-clause-acted
returns-in-Dce-clause-acted c = λ cfg w fits.
    let at = sym c.at.ensures ∙ c.in-Dce.is in
    dce_acted w _ c.act-in-Dce.result _ at fits.dte
    (c.act-in-Dce.ensures.acted cfg (mirrored w) (record { near = fits.dce; out = fits.to_dte; back = fits.to_dce }))
