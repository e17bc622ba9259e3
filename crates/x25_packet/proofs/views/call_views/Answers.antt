use Rattle.std.proofs.Common.{◌≡◌, ◌≤◌, ◌∙◌, ap, arith, length, List, [], Option, Some, None, ℕ, refl, subst, sym}
use Rattle.std.specs.Option.{unwrap_or}
use Rattle.x25_packet.specs.declared.block.Fields.{Fields}
use Rattle.x25_packet.specs.Block.{PlainBlock, plain_fields}
use Rattle.x25_packet.specs.Classes.{none_own, own_in}
use Rattle.x25_packet.specs.Narrowing.{called_taken, calling_taken, field_asked, field_shown}
use Rattle.x25_packet.proofs.HalfLemmas.{called_few, calling_few}
use Rattle.x25_packet.proofs.views.call_views.Goals as goal

pub returns-clause-called_few : goal.returns-clause-called_few
returns-clause-called_few c =
    subst (λ (ds : List ℕ). length ds ≤ 15) (sym (c.taken.ensures ∙ ap (λ (b : PlainBlock). called_taken c.args.a b) c.of-block.ensures))
    (called_few c.args.a c.args.body.now)

pub returns-clause-calling_few : goal.returns-clause-calling_few
returns-clause-calling_few c =
    subst (λ (ds : List ℕ). length ds ≤ 15) (sym (c.taken-2.ensures ∙ ap (λ (b : PlainBlock). calling_taken c.args.a b) c.of-block.ensures))
    (calling_few c.args.a c.args.body.now (λ i. omega (arith, c.type_inv.body i)))

shown : (fields : Option Fields) (nothing : Fields) → nothing.facilities.now ≡ []
    → field_asked (own_in none_own 0 (unwrap_or fields nothing).facilities.now) ≡ field_shown (plain_fields fields)
unfolding own_in
shown (Some f) nothing none = refl
shown None nothing none = rw none refl

pub returns-clause-facilities : goal.returns-clause-facilities
returns-clause-facilities c =
    c.of.ensures ∙ ap field_asked c.asked-own.ensures ∙ ap (λ (f : Fields). field_asked (own_in none_own 0 f.facilities.now)) c.unwrap_or-fields.ensures
    ∙ shown c.of-block.result.fields _ refl ∙ ap (λ (b : PlainBlock). field_shown b.fields) c.of-block.ensures
