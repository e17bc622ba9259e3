use Rattle.std.proofs.Common.{◌≡◌, ◌<◌, List, length, true, sym, subst, arith}
use Rattle.x25_switch.specs.Calls.{PlainCall, AreApart, Holds, Sweeps, end_of, is_on}
use Rattle.x25_switch.specs.code.Plain.{plain, plains}
use Rattle.x25_switch.proofs.ApartLemmas.{leads_apart}
use Rattle.x25_switch.proofs.CallLemmas.{get_plain, set_plains, set_same, as_none}
use Rattle.x25_switch.proofs.calls.ask.Goals as goal

pub returns-in_err-answer-clause-same : goal.returns-in_err-answer-clause-same
returns-in_err-answer-clause-same c =
    let xs = c.args.calls.now.items in
    let low : c.args.index < length xs = let a = c.requires.within in omega (arith, a) in
    as_none c.from_residual.result
    (set_same xs c.args.index c.ask.new.self c.index_mut.result.now low c.index_mut.ensures.value c.in_err-answer.ensures.same)

pub returns-in_err-answer-clause-apart : goal.returns-in_err-answer-clause-apart
returns-in_err-answer-clause-apart c = λ apart.
    let xs = c.args.calls.now.items in
    let low : c.args.index < length xs = let a = c.requires.within in omega (arith, a) in
    subst AreApart (sym (set_same xs c.args.index c.ask.new.self c.index_mut.result.now low c.index_mut.ensures.value
    c.in_err-answer.ensures.same)) apart

pub returns-clause-wanted : goal.returns-clause-wanted
returns-clause-wanted c =
    let xs = c.args.calls.now.items in
    let d = c.index_mut.result.now in
    let low : c.args.index < length xs = let a = c.requires.within in omega (arith, a) in
    let at = get_plain xs c.args.index d low c.index_mut.ensures.value in
    record {
      place = c.args.index;
      call = plain d;
      at = at;
      side = c.args.want.side;
      kind = c.args.want.kind;
      on = subst (λ o. Holds (λ (call : PlainCall). is_on c.args.line c.args.want.side call ≡ true) o) at c.requires.on;
      wanted = c.in_ok-answer.ensures.wanted;
      after = plain c.ask.new.self;
      leads = c.in_ok-answer.ensures.leads;
      sweeps = subst (λ (ps : List PlainCall). Sweeps ps (plains c.sweep.new.calls.items)) (set_plains xs c.args.index c.ask.new.self)
          c.sweep.ensures.swept;
    }

pub returns-clause-apart : goal.returns-clause-apart
returns-clause-apart c = λ apart.
    let xs = c.args.calls.now.items in
    let d = c.index_mut.result.now in
    let y = c.ask.new.self in
    let low : c.args.index < length xs = let a = c.requires.within in omega (arith, a) in
    let at = get_plain xs c.args.index d low c.index_mut.ensures.value in
    let wanted = c.in_ok-answer.ensures.wanted in
    c.sweep.ensures.apart (subst AreApart (sym (set_plains xs c.args.index y))
    (leads_apart c.args.want.kind c.args.role (end_of c.args.want.side (plain d)).channel c.args.want.side c.in_ok-answer.answer c.args.index
    (plains xs) (plain d) (plain y) wanted.command at wanted.is c.in_ok-answer.ensures.leads apart))
