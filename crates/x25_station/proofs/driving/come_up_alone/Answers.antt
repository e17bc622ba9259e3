use Rattle.x25_station.proofs.Names.{◌∙◌, refl, ap, sym, subst, option_to_list, goes_up, FitsLayer, Putting, LinkState, FitsWhole, after_put_to, link_settings}
use Rattle.x25_station.proofs.{LinkLemmas.{on_ok, put_by_put}, Names.{layer_settings, kept_of, all_put, view_of}}
use Rattle.x25_station.proofs.driving.come_up_alone.Goals as goal

pub returns : goal.returns
returns c = record {
  layer = λ c' l t fits link.
      let lc = layer_settings c' in
      subst (λ (p : Putting). FitsLayer lc c.up.new.self p.layer) (sym (c.calls_are_runs.ensures.up (view_of (link_settings c') c.args.turn.now t.near) lc))
      (c.up.ensures.layer lc l fits);
  link = λ c' l t fits link.
      let lc = layer_settings c' in
      let lk = link_settings c' in
      let owed = (goes_up lc).owed in
      subst (λ (p : Putting). FitsWhole c.put.new.self (kept_of lk (all_put lk p.put t))) (sym (c.calls_are_runs.ensures.up (view_of lk c.args.turn.now t.near) lc))
      (subst (λ (y : LinkState). FitsWhole c.put.new.self y)
      (ap (after_put_to (kept_of lk t)) (c.to_put.ensures ∙ c.up.ensures.put lc l fits) ∙ put_by_put lk (option_to_list owed) t)
      (on_ok c.put.result c.unwrap.result _ c.unwrap.ensures (c.put.ensures.state (kept_of lk t) link)));
  turns = λ c' l t fits link. refl;
}
