use Rattle.std.{proofs.Common.{◌∙◌, ap}, specs.List.{list_all}, specs.Prelude.{◌&&◌}}
use Rattle.x25_decode.{proofs.VectorLemmas.{check_right, stored_right}, specs.TestVectors.{is_right, stored}}
use Rattle.x25_decode.proofs.test_vectors.vectors_hold.Goals as goal

pub returns : goal.returns
returns c = ap (λ b. b && list_all is_right stored) check_right ∙ stored_right
