use Rattle.std.proofs.lemmas.Result.{on_ok_weaker}
use Rattle.x25_io.specs.Loose.{asked_text}
use Rattle.x25_sim.proofs.WritesLemmas.{all_of_scripts, run_written}
use Rattle.x25_sim.proofs.running.sim.Goals as goal

pub returns-clause-claims : goal.returns-clause-claims
returns-clause-claims g c =
    let law = c.scripts_keep_order.ensures in
    let of = c.scripts_meet_in_sessions.ensures in
    let all = all_of_scripts of.step of.lawful of.named of.arrives of.unmet of.stand of.quiet of.window in
    on_ok_weaker c.play.result
    (run_written c.args.cfg c.requires.range c.args.shown (g.W.Sink.contents c.args.writer.now) _ law.told law.tapped c.args.down law.lawful law.named
    law.arrives law.window all of.confirmed (asked_text c.args.loose)
    (g.R.Source.remaining c.args.reader.now))
    c.play.ensures.answers.text
