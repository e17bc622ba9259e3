use Rattle.std.proofs.{Common.{◌≡◌, ◌∙◌, ◌++◌, ◌-◌, ℕ, List, length, take, drop, append_assoc}, KnownBytes.{Appends-trans}}
use Rattle.std.proofs.lemmas.List.{take-append-drop, take_rest}
use Rattle.x25_io.proofs.device.write_all.Goals as goal

-- what is left behind a part
split_more : (octets part rest : List ℕ) (n : ℕ) → octets ≡ part ++ rest → octets ≡ (part ++ take n rest) ++ take (length rest - n) (drop n rest)
split_more octets part rest n e = rw (take_rest rest n, append_assoc part (take n rest) (drop n rest), take-append-drop n rest) e

pub loop-rest-preserved : goal.loop-rest-preserved
loop-rest-preserved g c = record {
  part = _;
  split = split_more _ c.loop-rest.invariant.part c.loop-rest.rest.now c.in_ok-count.count c.loop-rest.invariant.split;
  written = Appends-trans _ _ _ _ _ c.loop-rest.invariant.written c.in_ok-count.ensures.octets;
  kept = c.in_ok-count.ensures.kept ∙ c.loop-rest.invariant.kept;
}
