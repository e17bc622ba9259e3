-- A list that begins another one.
use Rattle.std.proofs.Common.{◌∙◌, List, ◌++◌, ap, append_assoc}
use Rattle.x25_bits.specs.code.Prefix.{IsPrefix}

pub prefix_more : {A : Type 0} (a b c : List A) → IsPrefix a b → IsPrefix b c → IsPrefix a c
prefix_more a b c h k = (h.0 ++ k.0, k.1 ∙ ap (λ l. l ++ k.0) h.1 ∙ append_assoc a h.0 k.0)
