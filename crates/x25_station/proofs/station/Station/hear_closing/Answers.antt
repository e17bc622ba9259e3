use Rattle.x25_station.proofs.Names.{arith, ◌≡◌, length, [], ◌++◌, ap, ◌∙◌, sym, true, refl, LinkStep, take_step, link_settings, layer_settings, entries_down, Step}
use Rattle.x25_station.proofs.{AskLemmas.{taken_link}, DownLemmas.{downs, fits_down, entries_noted_down}, Names.{receives, end_if, entries_ended, Closing}}
use Rattle.x25_station.proofs.{OutcomeLemmas.{still_meant}, TookLemmas.{closes_on, closing_acknowledged}}
use Rattle.x25_frame.specs.Spelling.{spelling_of}
use Rattle.std.specs.Prelude.{map}
use Rattle.x25_station.proofs.station.Station.hear_closing.Goals as goal

pub invariant_of-self : goal.invariant_of-self
invariant_of-self c = record {
  meant = still_meant _ _ _ _ c.args.self.now.meant (λ c' s fits.
      let k : LinkStep = take_step (link_settings c') c.args.octets.now s.link in
      let step : Step = receives c' s c.args.octets.now in
      let is = closes_on c.sets_up_by_rows.ensures.closes c' s c.args.octets.now (c.requires.closing c' s fits) in (
        c',
        step.near,
        fits_down c' fits.same _ _ s fits.turned k step _ (ap (λ (x : Step). x.near) is)
            (ap (λ n. n.down) (c.hear-answer.ensures.heard (link_settings c') s.link fits.link).notes)
            (taken_link (link_settings c') c.hear-answer.new.self c.swap_frames.new.self k.side.near (ap (λ l. l.station) c.swap_frames.ensures.link)
            (c.hear-answer.ensures.state (link_settings c') s.link fits.link))
            (c.note_down.ensures.layer (layer_settings c') s.layer fits.layer)
            (ap (λ l. l.frames) c.swap_frames.ensures.link ∙ c.requires.empty.frames)
            (c.steps_keep_bounds.ensures.receive c' s c.args.octets.now fits.kept),
      ));
}

pub returns-clause-does : goal.returns-clause-does
returns-clause-does c = record {
  state = λ c' s fits.
      let k : LinkStep = take_step (link_settings c') c.args.octets.now s.link in
      let step : Step = receives c' s c.args.octets.now in
      let is = closes_on c.sets_up_by_rows.ensures.closes c' s c.args.octets.now (c.requires.closing c' s fits) in
      fits_down c' fits.same _ _ s fits.turned k step _ (ap (λ (x : Step). x.near) is)
      (ap (λ n. n.down) (c.hear-answer.ensures.heard (link_settings c') s.link fits.link).notes)
      (taken_link (link_settings c') c.hear-answer.new.self c.swap_frames.new.self k.side.near (ap (λ l. l.station) c.swap_frames.ensures.link)
      (c.hear-answer.ensures.state (link_settings c') s.link fits.link))
      (c.note_down.ensures.layer (layer_settings c') s.layer fits.layer)
      (ap (λ l. l.frames) c.swap_frames.ensures.link ∙ c.requires.empty.frames)
      (c.steps_keep_bounds.ensures.receive c' s c.args.octets.now fits.kept);
  frames = λ c' s fits.
      let is = closes_on c.sets_up_by_rows.ensures.closes c' s c.args.octets.now (c.requires.closing c' s fits) in
      c.swap_frames.ensures.frames ∙ c.hear-answer.ensures.frames (link_settings c') s.link fits.link
      ∙ sym (ap (λ (x : Step). map (spelling_of c'.role) x.out) is);
  entries = λ c' s fits.
      let k : LinkStep = take_step (link_settings c') c.args.octets.now s.link in
      let heard = c.hear-answer.ensures.heard (link_settings c') s.link fits.link in
      let is = closes_on c.sets_up_by_rows.ensures.closes c' s c.args.octets.now (c.requires.closing c' s fits) in
      let near = taken_link (link_settings c') c.hear-answer.new.self c.swap_frames.new.self k.side.near (ap (λ l. l.station) c.swap_frames.ensures.link)
      (c.hear-answer.ensures.state (link_settings c') s.link fits.link) in
      let before = ap (λ (x : Closing). entries_ended (end_if true x)) (c.closing.ensures (link_settings c') k.side.near near) in
      entries_noted_down s k (entries_ended (end_if true k.side.near.closing)) _ _ (downs s k.side k.notes.down) refl (ap (λ n. n.down) heard.notes)
      (c.note_down.ensures.entries ∙ ap (λ es. es ++ entries_down c.hear-answer.result.notes.down) (c.enter_end.ensures ∙ before))
      ∙ sym (ap (λ (x : Step). x.entries) is);
  refused = λ c' s fits. tt;
  stays = λ c' s fits. tt;
  empty = tt;
  few_frames = (let same : length c.swap_frames.new.frames ≡ length c.hear-answer.new.self.frames = ap length c.swap_frames.ensures.frames in
      omega (arith, same, c.hear-answer.ensures.few));
  few_entries = c.note_down.new.entries.few;
}

pub returns-clause-acknowledged : goal.returns-clause-acknowledged
returns-clause-acknowledged c = λ c' s fits.
    let heard = c.hear-answer.ensures.heard (link_settings c') s.link fits.link in
    heard.acknowledged ∙ closing_acknowledged c.sets_up_by_rows.ensures.closes c' s c.args.octets.now (c.requires.closing c' s fits)
