use Rattle.x25_layer.proofs.Names.{◌≡◌, ◌+◌, List, vec_len, vec_capacity, arith, sym, subst, at_rest, LayerSettings, two_way, FitsCircuits}
use Rattle.x25_layer.proofs.FitLemmas.{fits_push}
use Rattle.x25_circuit.specs.declared.circuit.Circuit as circuit_code
use Rattle.x25_layer.proofs.circuits.begun_circuits.Goals as goal

pub loop-preserved : goal.loop-preserved
loop-preserved c =
    let s : LayerSettings = record {
      channels = two_way c.args.channels;
      circuit = record { role = c.args.role; long_data = c.args.long_data; longest = c.args.longest };
    } in (
      subst (λ (vs : List circuit_code.Circuit). FitsCircuits s vs at_rest.circuits) (sym c.push_reserved.ensures.items)
          (fits_push s c.loop.circuits.items c.in-Ok-with.circuit at_rest.circuits c.loop.invariant.0 c.in-Ok-with.ensures.fits),
      (let e : vec_len c.push_reserved.new.self ≡ c.loop.counter + 1 = omega arith in e),
      (let e : vec_capacity c.push_reserved.new.self ≡ c.args.channels = omega arith in e),
    )
