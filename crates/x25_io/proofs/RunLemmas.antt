-- What a run comes to.
use Rattle.std.proofs.{Common.{◌≡◌, ◌∙◌, ◌<◌, ◌≤◌, ◌-◌, ◌^◌, ℕ, List, [], length, Option, Some, None, Result, Ok, Err, refl}, KnownBytes.{Appends-nil}}
use Rattle.std.{proofs.lemmas.Result.{on_ok_weaker}, specs.Io.KnownBytes.{Appends}, specs.Prelude.{IfOk, IsErrOf, MatchResult}, specs.Result.{IsErrAnd}}
use Rattle.x25_io.specs.code.{MarksFaults.{MarksFaults}, Runs.{Answers, MarksDevices, Program, Runs}, Written.{AppendsPrefix}}
use Rattle.x25_io.specs.declared.{device.Sink.{Ghosts as SinkGhosts}, device.Source.{Ghosts as SourceGhosts}, fault.Fault.{Fault}}
use Rattle.x25_io.specs.declared.fault.Fault.TheVariants.{Read, NoMemory}

-- no read failed
pub answered : (p : Program) (input left before now : Option (List ℕ)) (r : Result ℕ Fault)
    → ((text : List ℕ) → input ≡ Some text → length text < 2 ^ 64 - 1
    → MatchResult r (λ n. Appends before now (p.text text) × (n ≡ p.status text)) (λ _. AppendsPrefix before now (p.text text)))
    → (IsErrOf r Read → ⊥) → Answers p input left before now r
answered p None left before now (Ok n) told read = record { text = tt; status = tt; fault = tt; ended = λ err. absurd (read err) }
answered p None left before now (Err e) told read = record { text = tt; status = tt; fault = tt; ended = λ err. absurd (read err) }
answered p (Some text) left before now (Ok n) told read = record {
  text = λ few. (told text refl few).0;
  status = λ few. (told text refl few).1;
  fault = tt;
  ended = λ err. absurd (read err);
}
answered p (Some text) left before now (Err e) told read = record { text = tt; status = tt; fault = told text refl; ended = λ err. absurd (read err) }

-- a read failed, and what waited was written, unless that failed as well
pub cut_short : (p : Program) (input left before now : Option (List ℕ)) (e : Fault)
    → ((text : List ℕ) → input ≡ Some text → AppendsPrefix before now (p.text text)
    × (e ≡ Read → (rest : List ℕ) × (left ≡ Some rest) × p.Ended before now rest text))
    → Answers p input left before now (Err e)
cut_short p None left before now e told = record { text = tt; status = tt; fault = tt; ended = λ err. tt }
cut_short p (Some text) left before now e told = record {
  text = tt;
  status = tt;
  fault = λ few. (told text refl).0;
  ended = λ err. (told text refl).1 (cc err);
}

nothing_written : (p : Program) (input left before : Option (List ℕ)) → Answers p input left before before (Err NoMemory)
nothing_written p input left before =
    answered p input left before before (Err NoMemory) (λ text is few. ([], p.text text, refl, Appends-nil before)) (λ err. cc err)

-- a run that is refused its memory does nothing
pub none_ran : {R W : Type 0} (source : SourceGhosts R) (sink : SinkGhosts W) (p : Program) (reader : R) (writer : W) (r : Result ℕ Fault)
    → IsErrAnd r (λ e. e ≡ NoMemory) → Runs source sink p reader reader writer writer r
none_ran source sink p reader writer (Ok n) refused = absurd refused
none_ran source sink p reader writer (Err e) refused = rw refused (record {
  zero_or_one = tt;
  answers = nothing_written p (source.remaining reader) (source.remaining reader) (sink.contents writer);
  marks = record { clean = tt; read = λ err. cc err; write = λ err. cc err; memory = λ err. (refl, refl) };
})

module _ {R W : Type 0} (source : SourceGhosts R) (sink : SinkGhosts W) (p : Program) (reader : R) (writer next : W) where
  -- what comes before the first read was written, and then the run went on
  pub ran_on : (next_reader : R) (first : W) (r : Result ℕ Fault) → sink.is_marked first ≡ sink.is_marked writer → IfOk r (λ status. status ≤ 1)
      → Answers p (source.remaining reader) (source.remaining next_reader) (sink.contents writer) (sink.contents next) r
      → MarksDevices source sink reader next_reader first next r → Runs source sink p reader next_reader writer next r
  ran_on next_reader first r kept bound answers marks = record {
    zero_or_one = bound;
    answers = answers;
    marks = record {
      clean = on_ok_weaker r (λ clean. (clean.0, clean.1 ∙ kept)) marks.clean;
      read = marks.read;
      write = marks.write;
      memory = λ err. let same = marks.memory err in (same.0, same.1 ∙ kept);
    };
  }

  -- or it failed
  pub stopped : {T : Type 0} (e : Fault) (r : Result T Fault) → r ≡ Err e → MarksFaults sink writer next r
      → ((text : List ℕ) → AppendsPrefix (sink.contents writer) (sink.contents next) (p.text text))
      → Runs source sink p reader reader writer next (Err e)
  stopped e r is faults part = record {
    zero_or_one = tt;
    answers = cut_short p (source.remaining reader) (source.remaining reader) (sink.contents writer) (sink.contents next) e
        (λ text known. (part text, λ read. absurd (faults.read (cc (is, read)))));
    marks = record {
      clean = tt;
      read = λ err. absurd (faults.read (cc (is, err)));
      write = λ err. faults.write (cc (is, err));
      memory = λ err. (refl, faults.memory (cc (is, err)));
    };
  }
