use Rattle.std.proofs.Common.{◌≡◌}
use Rattle.std.specs.{List.{find}, Prelude.{drop}, Str.{bytes_eq}}
use Rattle.x25_settings.specs.Options.{choice_in, word_of}
use Rattle.x25_settings.proofs.options.choice_named.Given as goal

-- the word is sought among those that are left
abbrev pub invariant-loop-choice : goal.invariant-loop-choice
invariant-loop-choice l = find (λ x. bytes_eq l.word (word_of x)) (drop l.choice-index l.choice-items) ≡ choice_in l.word
