use Rattle.x25_station.proofs.Names.{arith, ◌≡◌, length, sym, subst, ap, ◌∙◌, ◌++◌, Settings, link_settings, layer_settings, entries_down, Station, Step}
use Rattle.x25_link.specs.declared.heard.Heard.{Heard}
use Rattle.x25_station.proofs.{AskLemmas.{taken_link}, DoesLemmas.{declines}, DownLemmas.{call_down, leaves_down, frames_down, entries_noted_down}}
use Rattle.x25_station.proofs.{KeepLemmas.{call_kept}, Names.{follows, led_by, AreMeant, FitsParts, calls_link, link_refusal, step_of_call, LinkCall}}
use Rattle.x25_station.proofs.OutcomeLemmas.{leaves_some, still_meant, sends_unless, enters_unless, goes, refused, call_named, goes_only, refused_only}
use Rattle.x25_station.proofs.Names.{ap₂, Bool, Closing, LinkStep, end_between, end_if}
use Rattle.x25_station.specs.code.LinkCalls.{entries_called}
use Rattle.x25_station.specs.declared.step.Step as code_step
use Rattle.x25_station.proofs.station.Station.call_link.Goals as goal

-- what it does where the link doesn't refuse it
abbrev does : LinkCall → Settings → Station → Step
does call c s =
    let k : LinkStep = step_of_call call (link_settings c) s.link in
    led_by (entries_called call (end_between s.link k.side.near)) (follows c s k)

pub invariant_of-self : goal.invariant_of-self
invariant_of-self c = record {
  meant = still_meant _ _ _ _ c.args.self.now.meant (λ c' s fits.
      let k = step_of_call c.args.call (link_settings c') s.link in
      leaves_some c' _ _ _ (calls_link c.args.call c' s)
      (leaves_down c' fits.same _ _ c.args.self.now.turn (link_refusal c.args.call s.link) s fits.turned k (does c.args.call c' s) _
      (ap (λ (x : Step). x.near) (call_down c.args.call c' s s.link))
      (ap (λ n. n.down) (c.in-Ok.ensures.heard (link_settings c') s.link fits.link).notes)
      (taken_link (link_settings c') c.answer_of.new.link c.swap_frames.new.self k.side.near (ap (λ l. l.station) c.swap_frames.ensures.link)
      (c.in-Ok.ensures.state (link_settings c') s.link fits.link))
      (c.note_down.ensures.layer (layer_settings c') s.layer fits.layer)
      (ap (λ l. l.frames) c.swap_frames.ensures.link ∙ c.requires.frames)
      (call_kept c.steps_keep_bounds.ensures.timer c.steps_keep_bounds.ensures.command c.args.call c' s fits.kept))
      (goes _ (link_refusal c.args.call s.link) (does c.args.call c' s) (c.in-Ok.ensures.refused (link_settings c') s.link fits.link)));
}

pub invariant_of-self-in-Err-1 : goal.invariant_of-self-in-Err-1
invariant_of-self-in-Err-1 c = record {
  meant = subst (λ l. AreMeant c.args.self.now.manner l c.args.self.now.layer c.args.self.now.turn) (sym c.in-Err.ensures.err)
      c.args.self.now.meant;
}

pub returns-in-Ok-clause-does : goal.returns-in-Ok-clause-does
returns-in-Ok-clause-does c =
    let r : code_step.Step = record { frames = c.swap_frames.new.frames; entries = c.note_down.new.entries; timer = c.args.out.now.timer } in
    record {
      state = λ c' s fits.
          let k = step_of_call c.args.call (link_settings c') s.link in
          leaves_down c' fits.same _ _ c.args.self.now.turn (link_refusal c.args.call s.link) s fits.turned k (does c.args.call c' s) _
          (ap (λ (x : Step). x.near) (call_down c.args.call c' s s.link))
          (ap (λ n. n.down) (c.in-Ok.ensures.heard (link_settings c') s.link fits.link).notes)
          (taken_link (link_settings c') c.answer_of.new.link c.swap_frames.new.self k.side.near (ap (λ l. l.station) c.swap_frames.ensures.link)
          (c.in-Ok.ensures.state (link_settings c') s.link fits.link))
          (c.note_down.ensures.layer (layer_settings c') s.layer fits.layer)
          (ap (λ l. l.frames) c.swap_frames.ensures.link ∙ c.requires.frames)
          (call_kept c.steps_keep_bounds.ensures.timer c.steps_keep_bounds.ensures.command c.args.call c' s fits.kept);
      frames = λ c' s fits.
          let k = step_of_call c.args.call (link_settings c') s.link in
          sends_unless c' r (link_refusal c.args.call s.link) (does c.args.call c' s)
          (frames_down c' s k _ (follows c' s k) (call_down c.args.call c' s s.link)
          (c.swap_frames.ensures.frames ∙ c.in-Ok.ensures.frames (link_settings c') s.link fits.link));
      entries = λ c' s fits.
          let k = step_of_call c.args.call (link_settings c') s.link in
          enters_unless r (link_refusal c.args.call s.link) (does c.args.call c' s)
          (entries_noted_down s k (entries_called c.args.call (end_between s.link k.side.near)) _ _ (follows c' s k) (call_down c.args.call c' s s.link)
          (ap (λ n. n.down) (c.in-Ok.ensures.heard (link_settings c') s.link fits.link).notes)
          (c.note_down.ensures.entries ∙ ap (λ es. es ++ entries_down c.in-Ok.heard.notes.down) (c.enter_call.ensures
          ∙ ap₂ (λ (b : Bool) (x : Closing). entries_called c.args.call (end_if b x)) (c.is_closing-awaited.ensures (link_settings c') s.link fits.link)
          (c.closing.ensures (link_settings c') k.side.near (c.in-Ok.ensures.state (link_settings c') s.link fits.link)))));
      refused = λ c' s fits.
          goes _ (link_refusal c.args.call s.link) (does c.args.call c' s) (c.in-Ok.ensures.refused (link_settings c') s.link fits.link);
      stays = λ c' s fits. tt;
      empty = tt;
      few_frames = (let same : length c.swap_frames.new.frames ≡ length c.answer_of.new.link.frames = ap length c.swap_frames.ensures.frames in
          omega (arith, same, c.in-Ok.ensures.few));
      few_entries = c.note_down.new.entries.few;
    }

pub returns-in-Err-clause-does : goal.returns-in-Err-clause-does
returns-in-Err-clause-does c = declines c.args.self.now _ _ _ (calls_link c.args.call)
    (λ c' s fits. refused Heard Unit c.in-Err.error _ (link_refusal c.args.call s.link) (does c.args.call c' s) (call_named c.args.call s.link)
    c.of_link.ensures (c.in-Err.ensures.refused (link_settings c') s.link fits.link))
    (λ c' s fits. subst (λ l. FitsParts c' c.args.self.now.manner l c.args.self.now.layer c.args.self.now.turn s) (sym c.in-Err.ensures.err) fits)
    c.requires

pub returns-in-Ok-clause-only : goal.returns-in-Ok-clause-only
returns-in-Ok-clause-only c = λ c' s fits.
    goes_only _ (link_refusal c.args.call s.link) (does c.args.call c' s) (c.in-Ok.ensures.refused (link_settings c') s.link fits.link)

pub returns-in-Err-clause-only : goal.returns-in-Err-clause-only
returns-in-Err-clause-only c = λ c' s fits.
    refused_only Heard Unit c.in-Err.error _ (link_refusal c.args.call s.link) (does c.args.call c' s) (call_named c.args.call s.link)
    c.of_link.ensures (c.in-Err.ensures.refused (link_settings c') s.link fits.link)
