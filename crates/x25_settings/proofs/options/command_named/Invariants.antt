use Rattle.std.proofs.Common.{◌≡◌}
use Rattle.std.specs.{List.{find}, Prelude.{drop}, Str.{bytes_eq}}
use Rattle.x25_settings.specs.Options.{command_in, command_word}
use Rattle.x25_settings.proofs.options.command_named.Given as goal

-- the word is sought among those that are left
abbrev pub invariant-loop-command : goal.invariant-loop-command
invariant-loop-command l = find (λ x. bytes_eq l.word (command_word x)) (drop l.command-index l.command-items) ≡ command_in l.word
