use Rattle.std.proofs.Common.{◌≡◌, ◌≤◌, ℕ, Bool, true, false, ap, List, Option, Some, None, Result, Ok, Err, arith, refl}
use Rattle.std.specs.Prelude.{⊤, IfOk, IsErrOf, OnErr, OnOk, if◌then◌else◌}
use Rattle.std.specs.Io.KnownBytes.{Appends}
use Rattle.x25_decode.specs.TestVectors.{are_right, verdicts}
use Rattle.x25_io.specs.code.Runs.{OfInput, Runs}
use Rattle.x25_io.specs.code.Written.{AppendsPrefix}
use Rattle.x25_io.specs.declared.device.Sink.{Ghosts as SinkGhosts}
use Rattle.x25_io.specs.declared.device.Source.{Ghosts as SourceGhosts}
use Rattle.x25_io.specs.declared.fault.Fault.{Fault}
use Rattle.x25_io.specs.declared.fault.Fault.TheVariants.{Read, Write, NoMemory}
use Rattle.x25_settings.specs.declared.words.Task.TheVariants.{Vectors}
use Rattle.x25.specs.Tasks.{program_of}
use Rattle.x25.proofs.tasks.perform.Goals as goal

-- of a task that runs no script nothing is said
nothing : (r : Result ℕ Fault) (o : Option (List ℕ)) → OnOk r (OfInput o (λ script. ⊤))
nothing (Ok status) (Some script) = λ few. tt
nothing (Ok status) None = tt
nothing (Err e) o = tt

of_input : (o : Option (List ℕ)) (P : Type 0) → P → OfInput o (λ input. P)
of_input None P p = tt
of_input (Some input) P p = λ few. p

bit : (b : Bool) → (if b then 0 else 1) ≤ 1
bit true = omega arith
bit false = omega arith

-- a task that reads nothing
unread : {R W : Type 0} (source : SourceGhosts R) (sink : SinkGhosts W) (reader : R) (writer next : W) (r : Result ℕ Fault)
    → OnOk r (Appends (sink.contents writer) (sink.contents next) verdicts) → IfOk r (λ status. status ≡ (if are_right then 0 else 1))
    → OnOk r (sink.is_marked next ≡ sink.is_marked writer) → OnErr r (AppendsPrefix (sink.contents writer) (sink.contents next) verdicts)
    → (IsErrOf r NoMemory → next ≡ writer) → (IsErrOf r Read → ⊥) → (IsErrOf r Write → sink.is_marked next ≡ true)
    → Runs source sink (program_of Vectors) reader reader writer next r
unread source sink reader writer next (Ok n) text status clean fault memory read write = record {
  zero_or_one = rw status (bit are_right);
  answers = record {
    text = of_input (source.remaining reader) _ text;
    status = of_input (source.remaining reader) _ status;
    fault = tt;
    ended = λ err. absurd (read err);
  };
  marks = record { clean = (refl, clean); read = λ err. absurd (read err); write = write; memory = λ err. (refl, ap sink.is_marked (memory err)) };
}
unread source sink reader writer next (Err e) text status clean fault memory read write = record {
  zero_or_one = tt;
  answers = record { text = tt; status = tt; fault = of_input (source.remaining reader) _ fault; ended = λ err. absurd (read err) };
  marks = record { clean = tt; read = λ err. absurd (read err); write = write; memory = λ err. (refl, ap sink.is_marked (memory err)) };
}

pub returns-in-Decode-clause-runs : goal.returns-in-Decode-clause-runs
returns-in-Decode-clause-runs g c = rw c.in-Decode.is c.decode_lines.ensures.runs

pub returns-in-Decode-clause-claims : goal.returns-in-Decode-clause-claims
returns-in-Decode-clause-claims g c = rw c.in-Decode.is (nothing c.decode_lines.result _)

pub returns-in-Sim-clause-runs : goal.returns-in-Sim-clause-runs
returns-in-Sim-clause-runs g c = rw c.in-Sim.is c.simulate.ensures.runs

pub returns-in-Sim-clause-claims : goal.returns-in-Sim-clause-claims
returns-in-Sim-clause-claims g c = rw c.in-Sim.is c.simulate.ensures.claims

pub returns-in-Station-clause-runs : goal.returns-in-Station-clause-runs
returns-in-Station-clause-runs g c = rw c.in-Station.is c.answer_lines.ensures

pub returns-in-Station-clause-claims : goal.returns-in-Station-clause-claims
returns-in-Station-clause-claims g c = rw c.in-Station.is (nothing c.answer_lines.result _)

pub returns-in-Vectors-clause-runs : goal.returns-in-Vectors-clause-runs
returns-in-Vectors-clause-runs g c =
    let said = c.vectors.ensures in
    rw c.in-Vectors.is (unread g.R.Source g.W.Sink c.args.reader.now c.args.writer.now c.vectors.new.writer c.vectors.result said.text said.status said.clean
    said.fault said.memory said.read said.write)

pub returns-in-Vectors-clause-claims : goal.returns-in-Vectors-clause-claims
returns-in-Vectors-clause-claims g c = rw c.in-Vectors.is (nothing c.vectors.result _)

pub returns-in-Judge-clause-runs : goal.returns-in-Judge-clause-runs
returns-in-Judge-clause-runs g c = rw c.in-Judge.is (rw c.at_of.ensures at c.judge_lines.ensures.runs)

pub returns-in-Judge-clause-claims : goal.returns-in-Judge-clause-claims
returns-in-Judge-clause-claims g c = rw c.in-Judge.is (nothing c.judge_lines.result _)

pub returns-in-Deframe-clause-runs : goal.returns-in-Deframe-clause-runs
returns-in-Deframe-clause-runs g c = rw c.in-Deframe.is (rw c.role_of.ensures at c.deframe.ensures.runs)

pub returns-in-Deframe-clause-claims : goal.returns-in-Deframe-clause-claims
returns-in-Deframe-clause-claims g c = rw c.in-Deframe.is (nothing c.deframe.result _)

pub returns-in-Frame-clause-runs : goal.returns-in-Frame-clause-runs
returns-in-Frame-clause-runs g c = rw c.in-Frame.is c.frame.ensures

pub returns-in-Frame-clause-claims : goal.returns-in-Frame-clause-claims
returns-in-Frame-clause-claims g c = rw c.in-Frame.is (nothing c.frame.result _)

pub returns-in-Tabs-clause-runs : goal.returns-in-Tabs-clause-runs
returns-in-Tabs-clause-runs g c = rw c.in-Tabs.is c.write_records.ensures

pub returns-in-Tabs-clause-claims : goal.returns-in-Tabs-clause-claims
returns-in-Tabs-clause-claims g c = rw c.in-Tabs.is (nothing c.write_records.result _)
