use Rattle.x25_circuit.proofs.{Names.{arith}, ParamsLemmas.{terms_are_allowed}}
use Rattle.x25_circuit.proofs.params.FlowControl.terms.Goals as goal

pub invariant_of-result : goal.invariant_of-result
invariant_of-result c =
    let t = (terms_are_allowed c.args.self.params c.args.self.allowed).1 in
    let least = t.size_least in
    let most = t.size_most in
    record {
      window_least = t.window_least;
      window_most = t.window_most;
      size_least = omega (arith, least, most);
      size_most = omega (arith, least, most);
    }

pub invariant_of-result-2 : goal.invariant_of-result-2
invariant_of-result-2 c =
    let t = (terms_are_allowed c.args.self.params c.args.self.allowed).0 in
    let least = t.size_least in
    let most = t.size_most in
    record {
      window_least = t.window_least;
      window_most = t.window_most;
      size_least = omega (arith, least, most);
      size_most = omega (arith, least, most);
    }
