-- Both legs of a call have ended, or neither has.
use Rattle.std.proofs.Common.{◌≡◌, ◌∙◌, List, Bool, true, false, refl, sym}
use Rattle.x25_circuit.specs.Message.{Message}
use Rattle.x25_crossing.specs.declared.stage.Stage.{Stage}
use Rattle.x25_crossing.specs.declared.stage.Stage.TheVariants.{Clears, Gone, Open}
use Rattle.x25_crossing.specs.laws.EndLaw.{has_ended, BothEnd}
use Rattle.x25_crossing.specs.laws.HandingLaw.{after}
use Rattle.x25_crossing.proofs.HandingLemmas.{Kind, Waits, Opens, Ends, Left, kind, Hands, after_keeps}

abbrev ends : Kind → Bool
ends Ends = true
ends Left = true
ends k = false

ended_by_kind : (s : Stage) → has_ended s ≡ ends (kind s)
ended_by_kind Open = refl
ended_by_kind (Clears cause diagnostic) = refl
ended_by_kind Gone = refl
ended_by_kind s = refl

both : (j k : Kind) (down up wait : List Message) → Hands j k down up wait → ends j ≡ ends k
both Opens Opens down up wait h = refl
both Opens Waits down up wait h = refl
both Waits Opens down up wait h = refl
both Waits Waits down up wait h = refl
both Ends Left down up wait h = refl
both Ends Ends down up wait h = refl
both Left Ends down up wait h = refl
both Left Left down up wait h = refl
both j k down up wait h = absurd (h)

pub both_end : BothEnd
both_end most es =
    let r = after most es in
    ended_by_kind r.call.near.stage
    ∙ both (kind r.call.near.stage) (kind r.call.far.stage) r.near.down r.far.up r.call.far.messages (after_keeps most es).come
    ∙ sym (ended_by_kind r.call.far.stage)
