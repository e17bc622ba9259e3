use Rattle.std.proofs.Common.{◌≡◌, ◌∙◌, ◌&&◌, Bool, false, ap, sym}
use Rattle.x25_clock.{proofs.AskLemmas.{accepted_itself, refused_itself, refused_full, done_behind, not_full}, specs.Due.{event_for, is_full, is_packet}}
use Rattle.x25_clock.proofs.due.Due.ask.Goals.{else-is_packet-via-then-is_packet+else-is_full, else-is_packet-via-else-is_packet}
use Rattle.x25_station.specs.laws.TimerLaw.{outcome}
use Rattle.x25_clock.specs.declared.due.Due.TheVariants as due
use Rattle.x25_clock.proofs.due.Due.ask.Goals as goal

pub returns-in-Ok : goal.returns-in-Ok
returns-in-Ok c =
    let d = c.args.self in
    let done = c.in-Ok.ensures in
    record { asked = d; is = λ k s fits. accepted_itself d (outcome k s (event_for d)) (done.does.refused k s fits); done = done }

pub returns-then-is_full : goal.returns-then-is_full
returns-then-is_full c =
    let d = c.args.self in
    let e = c.in-Err.error in
    let first = c.in-Err.ensures in
    let both = ap (λ (b : Bool). b && is_full e) (sym c.is_packet.ensures ∙ c.if-is_packet.true) ∙ (sym c.is_full.ensures ∙ c.if-is_full.true) in
    record {
      asked = due.Relink;
      is = λ k s fits. refused_full d e (outcome k s (event_for d)) both (first.only k s fits);
      done = done_behind c.args.station.now c.ask_alone.new.station _ _ _ due.Relink (λ k s fits. first.does.stays k s fits)
          c.ask_alone-then-is_full.ensures;
    }

pub returns-else-is_packet : goal.returns-else-is_packet
returns-else-is_packet c =
    let d = c.args.self in
    let e = c.in-Err.error in
    let first = c.in-Err.ensures in
    record {
      asked = d;
      is = λ k s fits. refused_itself d e (outcome k s (event_for d)) none (first.only k s fits);
      done = first;
    }
  where
    none : (is_packet c.args.self && is_full c.in-Err.error) ≡ false
    none = elim c.else-is_packet.branch [
      | else-is_packet-via-then-is_packet+else-is_full w ↦ not_full (is_packet c.args.self) (is_full c.in-Err.error) (sym w.is_full.ensures ∙ w.if-is_full.false)
      | else-is_packet-via-else-is_packet w ↦ ap (λ (b : Bool). b && is_full c.in-Err.error) (sym c.is_packet.ensures ∙ w.if-is_packet.false)
    ]
