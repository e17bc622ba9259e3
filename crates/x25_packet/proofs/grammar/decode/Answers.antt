use Rattle.std.proofs.Common.{◌≡◌, ◌∙◌, arith, sym, Result, Ok, Err, IfOk, IsOkAnd}
use Rattle.x25_packet.specs.declared.error.PacketError.{PacketError}
use Rattle.x25_packet.specs.Form.{PlainForm, plain}
use Rattle.x25_packet.specs.Grammar.{Gives, form_in}
use Rattle.x25_packet.specs.Form.Spelling.{Spells}
use Rattle.x25_packet.specs.declared.form.Form.{Form}
use Rattle.x25_packet.specs.declared.form.Forms.TheVariants.{Any}
use Rattle.x25_packet.proofs.AgainLaws.{only_found}
use Rattle.x25_packet.proofs.FacilityLaws.{ok_err, ok_same}
use Rattle.x25_packet.proofs.FoundLaws.{found_spells, read_form}
use Rattle.x25_packet.proofs.grammar.decode.Goals as goal

pub returns-clause-exact : goal.returns-clause-exact
returns-clause-exact c = read_form c.read.result _ c.read.ensures

pub returns-clause-found : goal.returns-clause-found
returns-clause-found c = go c.read.result (read_form c.read.result _ c.read.ensures)
  where
    go : (r : Result Form PacketError) → Gives plain r (form_in c.args.most c.args.octets.now)
        → IfOk r (λ w. Spells Any c.args.most (plain w) c.args.octets.now)
    go (Ok w) e = found_spells Any c.args.most c.args.octets.now (plain w) (λ i. omega (arith, c.type_inv.octets i)) e
    go (Err f) e = tt

pub returns-clause-only : goal.returns-clause-only
returns-clause-only c = λ v spells. go c.read.result (read_form c.read.result _ c.read.ensures) v (only_found Any c.args.most c.args.octets.now v spells)
  where
    go : (r : Result Form PacketError) → Gives plain r (form_in c.args.most c.args.octets.now) → (v : PlainForm)
        → form_in c.args.most c.args.octets.now ≡ Ok v → IsOkAnd r (λ w. plain w ≡ v)
    go (Ok w) e v h = ok_same (sym e ∙ h)
    go (Err f) e v h = absurd (ok_err (sym e ∙ h))
