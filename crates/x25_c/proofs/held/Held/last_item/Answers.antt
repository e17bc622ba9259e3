use Rattle.std.proofs.Common.{◌∙◌, Some, ap, sym, arith}
use Rattle.x25_c.{proofs.ItemLemmas.{before_last, at_last, behind_last, past_from}, specs.Held.{entries_of, timer_of}, specs.Item.{an_entry, the_timer}}
use Rattle.x25_c.proofs.held.Held.last_item.Goals as goal

pub returns-then-i-count : goal.returns-then-i-count
returns-then-i-count c =
    let h = c.args.self.now in
    ap (λ t. Some (the_timer t)) c.timer.ensures
    ∙ sym (at_last an_entry (entries_of h) (the_timer (timer_of h)) c.args.i (omega (arith, c.if-i-count.true, c.entries-count.ensures)))

pub returns-in-Some : goal.returns-in-Some
returns-in-Some c =
    let h = c.args.self.now in
    sym (before_last an_entry (entries_of h) (the_timer (timer_of h)) c.args.i _ (sym c.in-Some.ensures))

pub returns-in-None : goal.returns-in-None
returns-in-None c =
    let h = c.args.self.now in
    sym (behind_last an_entry (entries_of h) (the_timer (timer_of h)) c.args.i
    (omega (arith, c.if-i-count.false, c.entries-count.ensures, past_from (entries_of h) c.args.i (sym c.in-None.ensures))))
