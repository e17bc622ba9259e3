use Rattle.x25_station.proofs.{GivenLemmas.{given_told, given_written}, GivenReadLemmas.{given_heard, given_read}}
use Rattle.x25_station.proofs.law.what_is_given_is_told.Goals as goal

pub returns : goal.returns
returns c =
    let reads = c.reading_is_the_grammar.ensures.spelled in
    let written = c.what_is_written_is_read.ensures in
    let spelled = c.taking_keeps_octets.ensures.spelled in
    let alike = c.taking_keeps_octets.ensures.written in
    record {
      written = given_written reads spelled alike;
      read = given_read reads spelled alike written.read;
      told = given_told reads alike written.read written.form;
      heard = given_heard reads spelled alike written.read written.form;
    }
