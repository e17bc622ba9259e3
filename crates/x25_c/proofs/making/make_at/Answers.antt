use Rattle.x25_c.proofs.making.make_at.Goals as goal

pub returns-clause-made : goal.returns-clause-made
returns-clause-made c = c.boxed.ensures.made _ _ (c.new-3.ensures _ c.in-Ok.ensures.fits)
