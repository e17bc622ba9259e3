use Rattle.std.proofs.Common.{◌∙◌, ap, arith, sym}
use Rattle.std.specs.Str.{bytes_eq}
use Rattle.x25_settings.proofs.RangeLemmas.{find_on}
use Rattle.x25_settings.proofs.options.choice_named.Goals as goal
use Rattle.x25_settings.specs.Options.{choices, word_of}
use Rattle.x25_settings.specs.declared.options.Choice.TheVariants.{Clock}

pub loop-choice-preserved : goal.loop-choice-preserved
loop-choice-preserved c =
    find_on (λ x. bytes_eq c.args.word.now (word_of x)) choices c.loop-choice.choice-index Clock (omega (arith, c.loop-choice-test.true))
    (ap (bytes_eq c.args.word.now) (sym c.word.ensures) ∙ sym c.is.ensures ∙ c.if-is.false)
    ∙ c.loop-choice.invariant
