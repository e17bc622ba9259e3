use Rattle.x25_frame.specs.Spelling.{spelling_of}
use Rattle.x25_station.proofs.{Names.{◌∙◌, ◌++◌, map, ap, PullsAll, layer_settings}, OutcomeLemmas.{still_meant}, PullLemmas.{pulls_fit, pulls_made}}
use Rattle.x25_station.specs.Pulling.{pulled}
use Rattle.x25_station.proofs.station.Station.pull_frames.Goals as goal

pub invariant_of-self : goal.invariant_of-self
invariant_of-self c = record {
  meant = still_meant _ _ _ _ c.args.self.now.meant (λ c' s fits. (
    c',
    (pulled c' s).near,
    pulls_fit c' _ c.swap_frames.new.self _ s _ fits (ap (λ l. l.station) c.swap_frames.ensures.link) c.pull.result c.pull.new.link c.swap_frames-2.new.self
        _ _ c.pull.ensures.layer c.pull.ensures.link c.pull.ensures.turns c.pull.ensures.missing
        (c.pull.ensures.layer_stays (layer_settings c') s.layer fits.layer) c.pull.ensures.link_stays c.pull.ensures.turn_stays (ap (λ l. l.station) c.swap_frames-2.ensures.link)
        (ap (λ l. l.frames) c.swap_frames-2.ensures.link ∙ c.swap_frames.ensures.frames ∙ fits.sent)
        (c.steps_keep_bounds.ensures.request c' s PullsAll fits.kept),
  ));
}

pub returns : goal.returns
returns c = record {
  state = λ c' s fits.
      pulls_fit c' _ c.swap_frames.new.self _ s _ fits (ap (λ l. l.station) c.swap_frames.ensures.link) c.pull.result c.pull.new.link c.swap_frames-2.new.self
      _ _ c.pull.ensures.layer c.pull.ensures.link c.pull.ensures.turns c.pull.ensures.missing
      (c.pull.ensures.layer_stays (layer_settings c') s.layer fits.layer) c.pull.ensures.link_stays c.pull.ensures.turn_stays (ap (λ l. l.station) c.swap_frames-2.ensures.link)
      (ap (λ l. l.frames) c.swap_frames-2.ensures.link ∙ c.swap_frames.ensures.frames ∙ fits.sent)
      (c.steps_keep_bounds.ensures.request c' s PullsAll fits.kept);
  frames = λ c' s fits.
      c.swap_frames-2.ensures.frames
      ∙ pulls_made c' _ c.swap_frames.new.self _ s _ fits (ap (λ l. l.station) c.swap_frames.ensures.link) c.pull.result c.pull.new.link _ c.pull.ensures.layer
      c.pull.ensures.link c.pull.ensures.missing
      c.pull.ensures.link_stays
      ∙ ap (λ l. l.frames ++ map (spelling_of c'.role) (pulled c' s).out) c.swap_frames.ensures.link;
}
