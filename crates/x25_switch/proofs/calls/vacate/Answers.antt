use Rattle.std.proofs.Common.{◌≡◌, List, sym, subst}
use Rattle.std.specs.Prelude.{OnOk}
use Rattle.x25_switch.specs.Calls.{PlainCall, legs_in, vacated}
use Rattle.x25_switch.specs.code.Plain.{plains}
use Rattle.x25_switch.proofs.ApartLemmas.{none_stands}
use Rattle.x25_switch.proofs.calls.vacate.Goals as goal

pub returns-in-Ok-clause-none : goal.returns-in-Ok-clause-none
returns-in-Ok-clause-none c = λ apart.
    let old = plains c.args.calls.now.items in
    let new = plains c.tell.new.calls.items in
    let is = subst (λ r. OnOk r (new ≡ vacated c.args.line c.args.channel old)) c.in-Ok.is c.tell.ensures.told in
    subst (λ (cs : List PlainCall). legs_in c.args.line c.args.channel cs ≡ 0) (sym is) (none_stands c.args.line c.args.channel old apart)
