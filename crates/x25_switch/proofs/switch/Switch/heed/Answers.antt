use Rattle.std.proofs.Common.{◌∙◌, ◌<◌, ◌≤◌, List, length, map, ap, subst, arith}
use Rattle.x25_layer.specs.code.FitsLayer.{awaited_at}
use Rattle.x25_station.specs.Config.{layer_settings}
use Rattle.x25_station.specs.Entry.{StationEntry}
use Rattle.x25_station.specs.code.PlainEntry.{plain_entry}
use Rattle.x25_station.specs.declared.lent.Lent.{Lent}
use Rattle.x25_switch.specs.Switch.{Heeds}
use Rattle.x25_switch.specs.code.Plain.{plains}
use Rattle.x25_switch.proofs.HeedLemmas.{none_left, one_heeded}
use Rattle.x25_switch.proofs.switch.Switch.heed.Goals as goal

pub loop-entry-preserved : goal.loop-entry-preserved
loop-entry-preserved c =
    let kept = c.loop-entry.invariant in
    let test = c.loop-entry-test.true in
    let n = c.loop-entry.entry-index in
    let entries = c.as_slice-entry-items.result.now in
    let lent = c.lent-lent.result.now in
    let old = plains c.loop-entry.self.calls.items in
    let mid = plains c.heed_entry.new.self.calls.items in
    let low : n < length entries = omega (arith, test) in (
      λ e s fits end rest.
          let awaited = awaited_at (layer_settings e) s.layer in
          kept.0 e s fits end (one_heeded c.args.self.now.octets c.loop-entry.self.octets c.args.line awaited lent entries n _ old mid end low
          kept.2 (c.heed_entry.ensures.heeds e s fits) rest),
      c.heed_entry.ensures.most ∙ kept.1,
      c.heed_entry.ensures.octets ∙ kept.2,
    )

pub returns-clause-heeds : goal.returns-clause-heeds
returns-clause-heeds c = λ e s fits.
    let kept = c.loop-entry.invariant in
    let test = c.loop-entry-test.false in
    let n = c.loop-entry.entry-index in
    let entries = c.as_slice-entry-items.result.now in
    let few : length entries ≤ n = omega (arith, test) in
    let now = plains c.loop-entry.self.calls.items in
    let awaited = awaited_at (layer_settings e) s.layer in
    let items = ap (λ (lent : Lent). map (plain_entry lent) entries) c.lent-lent.ensures ∙ c.as_slice-entry-items.ensures in
    subst (λ (es : List StationEntry). Heeds c.args.self.now.octets c.args.line awaited es (plains c.args.self.now.calls.items) now) items
    (kept.0 e s fits now (none_left c.args.self.now.octets c.args.line awaited c.lent-lent.result.now entries n now few))
