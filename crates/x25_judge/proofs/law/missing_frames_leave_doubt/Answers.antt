use Rattle.x25_judge.proofs.DoubtLemmas as lemma
use Rattle.x25_judge.proofs.law.missing_frames_leave_doubt.Goals as goal

pub returns-clause-gaps : goal.returns-clause-gaps
returns-clause-gaps c = lemma.gaps_leave_doubt

pub returns-clause-packets : goal.returns-clause-packets
returns-clause-packets c = lemma.packets_stay_in_doubt

pub returns-clause-octets : goal.returns-clause-octets
returns-clause-octets c = lemma.octets_are_certain

pub returns-clause-losses : goal.returns-clause-losses
returns-clause-losses c = lemma.losses_leave_doubt

pub returns-clause-worked : goal.returns-clause-worked
returns-clause-worked c = lemma.losses_are_told
