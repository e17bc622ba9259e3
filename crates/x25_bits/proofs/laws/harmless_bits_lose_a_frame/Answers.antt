use Rattle.x25_bits.proofs.HarmlessLemmas.{contents_parted, content_of_frame, lost_one, lost_by_harmless, first_of_harmless}
use Rattle.x25_bits.proofs.laws.harmless_bits_lose_a_frame.Goals as goal

pub returns-clause-parts : goal.returns-clause-parts
returns-clause-parts c = contents_parted

pub returns-clause-frame : goal.returns-clause-frame
returns-clause-frame c = content_of_frame

pub returns-clause-others : goal.returns-clause-others
returns-clause-others c = lost_one

pub returns-clause-only : goal.returns-clause-only
returns-clause-only c = lost_by_harmless

pub returns-clause-first : goal.returns-clause-first
returns-clause-first c = first_of_harmless
