-- What every program ensures that reads an input and writes an answer.
use Rattle.std.specs.Prelude.{◌≡◌, ◌≤◌, ◌<◌, ◌-◌, ◌^◌, true, ℕ, List, length, Option, Some, IfSome, Result, IfOk}
use Rattle.std.specs.Prelude.{OnOk, OnErr, IsErrOf}
use Rattle.std.specs.Io.KnownBytes.{Appends}
use Rattle.x25_io.specs.code.Written.{AppendsPrefix}
use Rattle.x25_io.specs.declared.device.Sink.{Ghosts as SinkGhosts}
use Rattle.x25_io.specs.declared.device.Source.{Ghosts as SourceGhosts}
use Rattle.x25_io.specs.declared.fault.Fault.{Fault}
use Rattle.x25_io.specs.declared.fault.Fault.TheVariants.{Read, Write, NoMemory}

-- A program, by what it answers to an input. `Ended before now rest input`: the writer held `before` at first and holds
-- `now` at a failed read, with `rest` of the input still to come.
pub record Program : Type 1 where
  pub text : List ℕ → List ℕ
  pub status : List ℕ → ℕ
  pub Ended : Option (List ℕ) → Option (List ℕ) → List ℕ → List ℕ → Type 0

-- of an input that is known, and shorter than a reader is called at most
abbrev pub OfInput : Option (List ℕ) → (List ℕ → Type 0) → Type 0
OfInput input Holds = IfSome input (λ input. length input < 2 ^ 64 - 1 → Holds input)

-- What is written and answered for an input, of which `left` is to come in the end; the writer held `before` and holds
-- `now`.
pub record Answers (p : Program) (input left before now : Option (List ℕ)) (result : Result ℕ Fault) : Type 0 where
  -- all of the text, and its status
  pub text : OnOk result (OfInput input (λ input. Appends before now (p.text input)))
  pub status : IfOk result (λ status. OfInput input (λ input. status ≡ p.status input))
  -- at a fault a beginning of it
  pub fault : OnErr result (OfInput input (λ input. AppendsPrefix before now (p.text input)))
  -- at a failed read all that is to be said of what was read
  pub ended : IsErrOf result Read → IfSome input (λ input. (rest : List ℕ) × (left ≡ Some rest)
      × p.Ended before now rest input)

-- What a run does to the marks of its reader and its writer.
pub record MarksDevices {R W : Type 0} (source : SourceGhosts R) (sink : SinkGhosts W) (reader next_reader : R)
    (writer next_writer : W) (result : Result ℕ Fault) : Type 0 where
  -- where a status is answered no call of either failed
  pub clean : OnOk result ((source.is_marked next_reader ≡ source.is_marked reader)
      × (sink.is_marked next_writer ≡ sink.is_marked writer))
  pub read : IsErrOf result Read → source.is_marked next_reader ≡ true
  pub write : IsErrOf result Write → sink.is_marked next_writer ≡ true
  -- nor did any where want of memory is answered
  pub memory : IsErrOf result NoMemory → (source.is_marked next_reader ≡ source.is_marked reader)
      × (sink.is_marked next_writer ≡ sink.is_marked writer)

-- A run of a program over a reader and a writer.
pub record Runs {R W : Type 0} (source : SourceGhosts R) (sink : SinkGhosts W) (p : Program) (reader next_reader : R)
    (writer next_writer : W) (result : Result ℕ Fault) : Type 0 where
  pub zero_or_one : IfOk result (λ status. status ≤ 1)
  pub answers : Answers p (source.remaining reader) (source.remaining next_reader) (sink.contents writer)
      (sink.contents next_writer) result
  pub marks : MarksDevices source sink reader next_reader writer next_writer result
