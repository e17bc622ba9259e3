use Rattle.x25_io.proofs.ToldLemmas.{told_prefix}
use Rattle.x25_bit_line.proofs.ReadsLemmas.{read_begun}
use Rattle.x25_bit_line.proofs.TellingLemmas.{told_all}
use Rattle.x25_bit_line.proofs.finder.FinderTextTaker.give_up.Goals as goal

pub returns-in-Ok-clause-part : goal.returns-in-Ok-clause-part
returns-in-Ok-clause-part g c = λ from old rest input h.
    read_begun c.cuts_agree.ensures.begins from old _ h.done rest input h.split (told_prefix old _ _ _ (c.in-Ok.ensures.tells old _ h.reads.tells))

pub returns-in-Ok-clause-lines : goal.returns-in-Ok-clause-lines
returns-in-Ok-clause-lines g c = λ from old rest input h read. record {
  done = h.done;
  split = h.split;
  appends = told_all old _ _ _ (c.in-Ok.ensures.tells old _ h.reads.tells) c.in-Ok.ensures.empty;
}

pub returns-clause-part : goal.returns-clause-part
returns-clause-part g c = λ from old rest input h.
    read_begun c.cuts_agree.ensures.begins from old _ h.done rest input h.split (c.in-Err.ensures.tells old _ h.reads.tells)
