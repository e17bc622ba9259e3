use Rattle.x25_station.proofs.Names.{arith, ◌≡◌, length, [], ◌++◌, ap, ◌∙◌, LinkStep, abandon_step, link_settings, layer_settings, entries_down, Step, receives}
use Rattle.x25_station.proofs.{AskLemmas.{taken_link}, DownLemmas.{fits_down, frames_down, entries_noted_down}}
use Rattle.x25_station.proofs.{OutcomeLemmas.{still_meant}, TookLemmas.{gives_up, gave_up_acknowledged}}
use Rattle.x25_station.proofs.station.Station.abandon.Goals as goal

pub invariant_of-self : goal.invariant_of-self
invariant_of-self c = record {
  meant = still_meant _ _ _ _ c.args.self.now.meant (λ c' s fits.
      let k : LinkStep = abandon_step (link_settings c') s.link in
      let step : Step = receives c' s c.args.octets.now in (
        c',
        step.near,
        fits_down c' fits.same _ _ s fits.turned k step _ (ap (λ (x : Step). x.near) (gives_up c' s c.args.octets.now (c.requires.full c' s fits)))
            (ap (λ n. n.down) (c.abandon-heard.ensures.heard (link_settings c') s.link fits.link).notes)
            (taken_link (link_settings c') c.abandon-heard.new.self c.swap_frames.new.self k.side.near (ap (λ l. l.station) c.swap_frames.ensures.link)
            (c.abandon-heard.ensures.state (link_settings c') s.link fits.link))
            (c.note_down.ensures.layer (layer_settings c') s.layer fits.layer)
            (ap (λ l. l.frames) c.swap_frames.ensures.link ∙ c.requires.empty.frames)
            (c.steps_keep_bounds.ensures.receive c' s c.args.octets.now fits.kept),
      ));
}

pub returns-clause-does : goal.returns-clause-does
returns-clause-does c = record {
  state = λ c' s fits.
      let k : LinkStep = abandon_step (link_settings c') s.link in
      let step : Step = receives c' s c.args.octets.now in
      fits_down c' fits.same _ _ s fits.turned k step _ (ap (λ (x : Step). x.near) (gives_up c' s c.args.octets.now (c.requires.full c' s fits)))
      (ap (λ n. n.down) (c.abandon-heard.ensures.heard (link_settings c') s.link fits.link).notes)
      (taken_link (link_settings c') c.abandon-heard.new.self c.swap_frames.new.self k.side.near (ap (λ l. l.station) c.swap_frames.ensures.link)
      (c.abandon-heard.ensures.state (link_settings c') s.link fits.link))
      (c.note_down.ensures.layer (layer_settings c') s.layer fits.layer)
      (ap (λ l. l.frames) c.swap_frames.ensures.link ∙ c.requires.empty.frames)
      (c.steps_keep_bounds.ensures.receive c' s c.args.octets.now fits.kept);
  frames = λ c' s fits.
      let k : LinkStep = abandon_step (link_settings c') s.link in
      frames_down c' s k _ (receives c' s c.args.octets.now) (gives_up c' s c.args.octets.now (c.requires.full c' s fits))
      (c.swap_frames.ensures.frames ∙ c.abandon-heard.ensures.frames (link_settings c') s.link fits.link);
  entries = λ c' s fits.
      let k : LinkStep = abandon_step (link_settings c') s.link in
      let heard = c.abandon-heard.ensures.heard (link_settings c') s.link fits.link in
      entries_noted_down s k [] _ _ (receives c' s c.args.octets.now) (gives_up c' s c.args.octets.now (c.requires.full c' s fits))
      (ap (λ n. n.down) heard.notes)
      (c.note_down.ensures.entries ∙ ap (λ es. es ++ entries_down c.abandon-heard.result.notes.down) c.requires.empty.entries);
  refused = λ c' s fits. tt;
  stays = λ c' s fits. tt;
  empty = tt;
  few_frames = (let same : length c.swap_frames.new.frames ≡ length c.abandon-heard.new.self.frames = ap length c.swap_frames.ensures.frames in
      omega (arith, same, c.abandon-heard.ensures.few));
  few_entries = c.note_down.new.entries.few;
}

pub returns-clause-acknowledged : goal.returns-clause-acknowledged
returns-clause-acknowledged c = λ c' s fits.
    let heard = c.abandon-heard.ensures.heard (link_settings c') s.link fits.link in
    heard.acknowledged ∙ gave_up_acknowledged c' s c.args.octets.now (c.requires.full c' s fits)
