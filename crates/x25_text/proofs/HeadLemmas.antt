-- The text of a frame that LAPB modulo 8 lacks, by whether it has a name.
use Rattle.std.{proofs.Common.{codes}, specs.Prelude.{is_some, unwrap_or}}
use Rattle.x25_frame.specs.declared.error.FrameError.TheVariants.{Undefined}
use Rattle.x25_text.{proofs.Names.{ℕ, ◌≡◌, ◌++◌, true, false, List, [], refl, Option, Some, None}, specs.FrameText.{fault_text}}
use Rattle.x25_text.specs.WideFrameText.{headed_text, other_information_text}

differ : false ≡ true → ⊥
differ h = cc

pub headed : (control : ℕ) (information : List ℕ) (head : Option (List ℕ)) → is_some head ≡ true
    → unwrap_or head [] ++ other_information_text information ++ codes " ~ wide" ≡ headed_text control information head
headed control information None h = absurd (differ h)
headed control information (Some head) h = refl

pub unheaded : (control : ℕ) (information : List ℕ) (head : Option (List ℕ)) → is_some head ≡ false
    → fault_text (Undefined control) ≡ headed_text control information head
unheaded control information None h = refl
unheaded control information (Some head) h = let bad : true ≡ false = h in cc
