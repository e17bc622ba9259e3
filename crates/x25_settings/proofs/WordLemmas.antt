-- The words of the command line.
use Rattle.std.proofs.Common.{◌≡◌, ◌∙◌, ℕ, Bool, true, false, List, [], ◌∷◌, Option, Some, None, Result, Ok, Err, ap, refl, sym, subst, map, length}
use Rattle.std.proofs.lemmas.List.{length-map}
use Rattle.std.specs.Prelude.{cond, suc, IfOk}
use Rattle.x25_settings.proofs.RangeLemmas.{number_range}
use Rattle.x25_settings.specs.Items.{is_chosen, items}
use Rattle.x25_settings.specs.{Options.{command_in}, Words.{AreInRange, OptionsAreInRange, asked_behind, asked_by, asked_in, asks, asks_unless, clock_of, front_fault}}
use Rattle.x25_settings.specs.Words.{deframed_at, end_of, fault_of, file_of, fit_ranges, placed_at, refused, station_of, task_of}
use Rattle.x25_settings.specs.declared.options.{Command.{Command}, End.{End}}
use Rattle.x25_settings.specs.declared.options.Choice.TheVariants as choice
use Rattle.x25_settings.specs.declared.options.Command.TheVariants as command
use Rattle.x25_settings.specs.declared.words.{Asked.{Asked}, Refusal.{Refusal}, Task.{Task}, Task.TheVariants.{Station}, Why.{Why}, Why.TheVariants.{NoCommand, OneWay}}
use Rattle.x25_settings.specs.declared.items.Item.{Item}

module _ {S : Type 0} (text : S → List ℕ) (words : List S) where
  pub none_asked : words ≡ [] → refused None 0 NoCommand ≡ asked_in (map text words)
  unfolding asked_in
  none_asked e = ap (λ ws. asked_in (map text ws)) (sym e)

  module _ (word : List ℕ) (behind : List S) (r : Result Asked Refusal) (split : map text words ≡ word ∷ map text behind) where
    asked : r ≡ asked_by word (map text behind) (command_in word) → r ≡ asked_in (map text words)
    unfolding asked_in
    asked e = e ∙ sym (ap asked_in split)

    pub asked_command : (command : Command) → command_in word ≡ Some command
        → r ≡ asked_behind command (length words) (items command false (map text behind)) → r ≡ asked_in (map text words)
    asked_command command is e =
        let count : length words ≡ suc (length (map text behind)) = sym (length-map words text) ∙ ap length split in
        asked (e ∙ ap (λ n. asked_behind command n (items command false (map text behind))) count ∙ ap (asked_by word (map text behind)) (sym is))

    pub asked_none : command_in word ≡ None → r ≡ front_fault word (map text behind) → r ≡ asked_in (map text words)
    asked_none is e = asked (e ∙ ap (asked_by word (map text behind)) (sym is))

-- ---- the ranges

options_range : (command : Command) (words : List (List ℕ)) → OptionsAreInRange command (station_of (items command false words))
options_range command words = (
  number_range command choice.Window false words,
  number_range command choice.Tries false words,
  number_range command choice.Channels false words,
  number_range command choice.Message false words,
)

abbrev IsFine : Result Task Why → Type 0
IsFine r = IfOk r AreInRange

station_fine : (words : List (List ℕ)) (o : Option End) → IsFine (placed_at (items command.Station false words) o)
station_fine words None = tt
station_fine words (Some end) = go (fit_ranges (station_of (items command.Station false words))) refl
  where
    go : (b : Bool) → fit_ranges (station_of (items command.Station false words)) ≡ b → IsFine (cond b (Ok (Station (record {
      end = end;
      station = station_of (items command.Station false words);
      clock = clock_of (items command.Station false words);
      loose = is_chosen choice.Loose (items command.Station false words);
      reasons = is_chosen choice.Reasons (items command.Station false words);
    }))) (Err OneWay))
    go true fits = (options_range command.Station words, fits)
    go false fits = tt

deframe_fine : (o : Option End) → IsFine (deframed_at o)
deframe_fine None = tt
deframe_fine (Some end) = tt

task_fine : (command : Command) (words : List (List ℕ)) → IsFine (task_of command (items command false words))
task_fine command.Sim words = options_range command.Sim words
task_fine command.Station words = station_fine words (end_of (items command.Station false words))
task_fine command.Judge words = number_range command.Judge choice.Window false words
task_fine command.Deframe words = deframe_fine (end_of (items command.Deframe false words))
task_fine command words = tt

-- the task of words that ask for one has its numbers in their ranges
pub range : (command : Command) (count : ℕ) (words : List (List ℕ)) (r : Result Asked Refusal) → r ≡ asked_behind command count (items command false words)
    → IfOk r (λ asked. AreInRange asked.task)
range command count words r e = subst (λ (r : Result Asked Refusal). IfOk r (λ asked. AreInRange asked.task)) (sym e) (by_fault (fault_of command list))
  where
    list : List (ℕ × Item)
    list = items command false words

    by_task : (r : Result Task Why) → IsFine r → IfOk (asks command count (file_of command list) r) (λ asked. AreInRange asked.task)
    by_task (Ok task) fine = fine
    by_task (Err why) fine = tt

    by_fault : (o : Option (ℕ × Why)) → IfOk (asks_unless command count list o) (λ asked. AreInRange asked.task)
    by_fault None = by_task (task_of command list) (task_fine command words)
    by_fault (Some fault) = tt
