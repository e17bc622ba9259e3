use Rattle.x25_station.proofs.Names.{◌≡◌, ◌<◌, List, All, is_some, arith, ap, sym, subst, ◌∙◌, All-from_get_or, LayerNotice, answer_to, FitsLayer, LinkView, begin}
use Rattle.x25_station.proofs.Names.{rounds, hears, LinkState, FitsWhole, longest_user, read_in, link_settings, layer_settings, bringing, station_told, kept_of}
use Rattle.x25_layer.specs.Receiving.{layer_hears}
use Rattle.x25_station.proofs.{LinkLemmas.{put_by_put, seen_by, same_view}, NameLemmas.{rounds_name}, Names.{AreTellable, all_put, view_of}}
use Rattle.x25_station.proofs.{ShortLemmas.{told_tellable}, TellLemmas.{same_told}}
use Rattle.x25_station.proofs.receiving.hear.Goals as goal

pub returns-clause-puts : goal.returns-clause-puts
returns-clause-puts c = record {
  layer = λ c' l t fits link.
      let lc = layer_settings c' in
      let lk = link_settings c' in
      let a = layer_hears lc (is_some c.args.form.now) l c.args.packet.now in
      subst (λ (view : LinkView). FitsLayer lc c.drive.new.layer (rounds view lc (begin a.next a.owed)).layer) (same_view lk c.args.turn.now t)
      (c.drive.ensures.layer lc a.next a.owed (kept_of lk t) (c.hear-told.ensures.layer lc l fits) (c.hear-told.ensures.put lc l fits) link);
  link = λ c' l t fits link.
      let lc = layer_settings c' in
      let lk = link_settings c' in
      let a = layer_hears lc (is_some c.args.form.now) l c.args.packet.now in
      subst (λ (view : LinkView). FitsWhole c.drive.new.link (kept_of lk (all_put lk (rounds view lc (begin a.next a.owed)).put t))) (same_view lk c.args.turn.now t)
      (subst (λ (y : LinkState). FitsWhole c.drive.new.link y) (put_by_put lk (rounds (seen_by lk c.args.turn.now t) lc (begin a.next a.owed)).put t)
      (c.drive.ensures.link lc a.next a.owed (kept_of lk t) (c.hear-told.ensures.layer lc l fits) (c.hear-told.ensures.put lc l fits) link));
  turns = λ c' l t fits link.
      let lc = layer_settings c' in
      let lk = link_settings c' in
      let a = layer_hears lc (is_some c.args.form.now) l c.args.packet.now in
      subst (λ (view : LinkView). c.drive.new.turn ≡ (rounds view lc (begin a.next a.owed)).turn) (same_view lk c.args.turn.now t)
      (c.drive.ensures.turn lc a.next a.owed (kept_of lk t) (c.hear-told.ensures.layer lc l fits) (c.hear-told.ensures.put lc l fits) link);
}

pub returns-clause-bringing : goal.returns-clause-bringing
returns-clause-bringing c = λ c' l t fits link.
    c.bringing-channel.ensures _ ∙ ap (λ (ns : List LayerNotice). bringing ns) (c.hear-told.ensures.told (layer_settings c') l fits)

pub returns-clause-entries : goal.returns-clause-entries
returns-clause-entries c = λ c' l t fits link.
    let lc = layer_settings c' in
    let view : LinkView = view_of (link_settings c') c.args.turn.now t.near in
    let octets = c.args.packet.now in
    let a = answer_to lc l octets (read_in (is_some c.args.form.now) (longest_user lc.circuit.long_data) octets) in
    let told = c.hear-told.ensures.told lc l fits in
    let next = (hears view lc (is_some c.args.form.now) l octets).step.layer in
    let bytes : All (λ octet. octet < 256) octets = All-from_get_or (λ octet. octet < 256) octets 0 (λ i low. omega (arith, c.type_inv.packet i)) in
    let tellable = told_tellable c.taking_keeps_octets.ensures.range (is_some c.args.form.now) lc l octets bytes in
    c.enter_told.ensures.entered lc next
    (subst (λ (v : LinkView). FitsLayer lc c.drive.new.layer (rounds v lc (begin a.next a.owed)).layer) (same_view (link_settings c') c.args.turn.now t)
    (c.drive.ensures.layer lc a.next a.owed (kept_of (link_settings c') t) (c.hear-told.ensures.layer lc l fits) (c.hear-told.ensures.put lc l fits) link))
    (subst (λ (ns : List LayerNotice). AreTellable lc ns) (sym told) tellable)
    ∙ ap (λ ns. station_told next ns) told
    ∙ same_told next a.next a.notices (rounds_name view lc (begin a.next a.owed))
