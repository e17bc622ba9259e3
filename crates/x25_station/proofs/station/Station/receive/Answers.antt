use Rattle.x25_station.proofs.Names.{◌≡◌, ◌-◌, ◌≤◌, length, option_copied, arith, ap, sym, ◌∙◌, LinkStep, take_step, FitsWhole, up_of, Notes, link_settings}
use Rattle.x25_station.proofs.Names.{ℕ, subst}
use Rattle.x25_station.specs.{Receiving.{PutsBehind}, Step.{layer_at}}
use Rattle.x25_layer.specs.Full.{IsNotFull}
use Rattle.x25_station.proofs.{FrameLemmas.{few_heard}, Names.{layer_settings, CanPut, kept_of, all_put, receives}, OutcomeLemmas.{still_meant}}
use Rattle.x25_station.proofs.TakeLemmas.{up_can_put, handed_can_put, handed_was_up, put_by_meaning, least_by_meaning, up_by_meaning, few_made, if_some}
use Rattle.x25_station.proofs.TookLemmas.{abandoned, is_open, not_full, and_left, put_behind, took_fits, took_sends, took_enters, took_acknowledged}
use Rattle.x25_station.proofs.station.Station.receive.Goals as goal

pub abandon-acknowledged-requires-clause-up : goal.abandon-acknowledged-requires-clause-up
abandon-acknowledged-requires-clause-up c = sym c.is_up.ensures.value ∙ and_left c.is_up.result c.full.result c.if-is_up-full.true

pub abandon-acknowledged-requires-clause-full : goal.abandon-acknowledged-requires-clause-full
abandon-acknowledged-requires-clause-full c = λ c' s fits. abandoned c' s (c.is_up.ensures.state (link_settings c') s.link fits.link)
    (c.full.ensures.value (layer_settings c') s.layer fits.layer) c.if-is_up-full.true

pub follow-requires-clause-up : goal.follow-requires-clause-up
follow-requires-clause-up c = λ is. put_by_meaning _ c.hear-heard.new.self _ c.args.self.now.meant (λ c' s fits.
    let lk = link_settings c' in
    up_can_put c.notes_what_changes.ensures.take c' c.hear-heard.new.self c.args.octets.now s.link (c.hear-heard.ensures.state lk s.link fits.link)
    c.hear-heard.ensures.few (sym (ap (λ (n : Notes). n.up) ((c.hear-heard.ensures.heard lk s.link fits.link).notes)) ∙ is))

pub follow-requires-clause-put : goal.follow-requires-clause-put
follow-requires-clause-put c = if_some c.hear-heard.result.packet (λ x. CanPut c.hear-heard.new.self)
    (λ p is. put_by_meaning _ c.hear-heard.new.self _ c.args.self.now.meant (λ c' s fits.
    let lk = link_settings c' in
    handed_can_put c.notes_what_changes.ensures.take c.notes_what_changes.ensures.take_hands_up c' c.hear-heard.new.self c.args.octets.now s.link p.now
    (c.hear-heard.ensures.state lk s.link fits.link) c.hear-heard.ensures.few
    (sym ((c.hear-heard.ensures.heard lk s.link fits.link).packet) ∙ ap option_copied is)))

pub follow-requires-clause-left : goal.follow-requires-clause-left
follow-requires-clause-left c = if_some c.hear-heard.result.packet (λ x. IsNotFull c.args.self.now.layer) (λ p is.
    c.full.ensures.left (not_full c.is_up.result c.full.result
    (c.is_up.ensures.value ∙ up_by_meaning _ _ (up_of c.args.self.now.link) c.args.self.now.meant (λ c' s fits.
    let lk = link_settings c' in
    handed_was_up c.notes_what_changes.ensures.take_hands_up c' c.args.self.now.link c.args.octets.now s.link p.now fits.link
    (sym ((c.hear-heard.ensures.heard lk s.link fits.link).packet) ∙ ap option_copied is))) c.if-is_up-full.false))

pub invariant_of-self-2 : goal.invariant_of-self-2
invariant_of-self-2 c = record {
  meant = still_meant _ _ _ _ c.args.self.now.meant (λ c' s fits.
      let lk = link_settings c' in
      let k : LinkStep = take_step lk c.args.octets.now s.link in
      let heard = c.hear-heard.ensures.heard lk s.link fits.link in
      let whole : FitsWhole c.hear-heard.new.self (kept_of lk k.side) =
      record { link = c.hear-heard.ensures.state lk s.link fits.link; kept = c.hear-heard.ensures.frames lk s.link fits.link } in
      let puts = (subst (λ (at : ℕ). PutsBehind c.args.self.now.layer c.hear-heard.new.self at c.follow.new.layer c.follow.new.link c.follow.new.turn
      (λ view cc l. layer_at view cc c.args.self.now.manner.wide l (option_copied c.hear-heard.result.packet) c.hear-heard.result.notes.down
      c.hear-heard.result.notes.up)) fits.turned c.follow.ensures.puts) in (
        c',
        (receives c' s c.args.octets.now).near,
        took_fits c' fits.same s c.args.octets.now (option_copied c.hear-heard.result.packet) c.hear-heard.result.notes c.follow.new.link
            c.swap_frames.new.self c.follow.new.layer
            (is_open c' s (c.is_up.ensures.state (link_settings c') s.link fits.link) (c.full.ensures.value (layer_settings c') s.layer fits.layer)
            c.if-is_up-full.false (c.is_closing.ensures (link_settings c') s.link fits.link) c.if-is_closing.false) (heard.packet, heard.notes)
            (puts.link c' s.layer k.side fits.layer whole) (puts.layer c' s.layer k.side fits.layer whole)
            (puts.turns c' s.layer k.side fits.layer whole)
            (ap (λ l. l.station) c.swap_frames.ensures.link) (ap (λ l. l.frames) c.swap_frames.ensures.link ∙ c.clear.ensures.frames)
            (c.steps_keep_bounds.ensures.receive c' s c.args.octets.now fits.kept),
      ));
}

pub returns-clause-does : goal.returns-clause-does
returns-clause-does c = record {
  state = λ c' s fits.
      let lk = link_settings c' in
      let k : LinkStep = take_step lk c.args.octets.now s.link in
      let heard = c.hear-heard.ensures.heard lk s.link fits.link in
      let whole : FitsWhole c.hear-heard.new.self (kept_of lk k.side) =
      record { link = c.hear-heard.ensures.state lk s.link fits.link; kept = c.hear-heard.ensures.frames lk s.link fits.link } in
      let puts = (subst (λ (at : ℕ). PutsBehind c.args.self.now.layer c.hear-heard.new.self at c.follow.new.layer c.follow.new.link c.follow.new.turn
      (λ view cc l. layer_at view cc c.args.self.now.manner.wide l (option_copied c.hear-heard.result.packet) c.hear-heard.result.notes.down
      c.hear-heard.result.notes.up)) fits.turned c.follow.ensures.puts) in
      took_fits c' fits.same s c.args.octets.now (option_copied c.hear-heard.result.packet) c.hear-heard.result.notes c.follow.new.link c.swap_frames.new.self
      c.follow.new.layer (is_open c' s (c.is_up.ensures.state (link_settings c') s.link fits.link)
      (c.full.ensures.value (layer_settings c') s.layer fits.layer) c.if-is_up-full.false (c.is_closing.ensures (link_settings c') s.link fits.link) c.if-is_closing.false) (heard.packet, heard.notes)
      (puts.link c' s.layer k.side fits.layer whole) (puts.layer c' s.layer k.side fits.layer whole)
      (puts.turns c' s.layer k.side fits.layer whole)
      (ap (λ l. l.station) c.swap_frames.ensures.link) (ap (λ l. l.frames) c.swap_frames.ensures.link ∙ c.clear.ensures.frames)
      (c.steps_keep_bounds.ensures.receive c' s c.args.octets.now fits.kept);
  frames = λ c' s fits.
      let lk = link_settings c' in
      let k : LinkStep = take_step lk c.args.octets.now s.link in
      let heard = c.hear-heard.ensures.heard lk s.link fits.link in
      let whole : FitsWhole c.hear-heard.new.self (kept_of lk k.side) =
      record { link = c.hear-heard.ensures.state lk s.link fits.link; kept = c.hear-heard.ensures.frames lk s.link fits.link } in
      let puts = (subst (λ (at : ℕ). PutsBehind c.args.self.now.layer c.hear-heard.new.self at c.follow.new.layer c.follow.new.link c.follow.new.turn
      (λ view cc l. layer_at view cc c.args.self.now.manner.wide l (option_copied c.hear-heard.result.packet) c.hear-heard.result.notes.down
      c.hear-heard.result.notes.up)) fits.turned c.follow.ensures.puts) in
      let link = puts.link c' s.layer k.side fits.layer whole in
      c.swap_frames.ensures.frames
      ∙ took_sends c' fits.same s c.args.octets.now (option_copied c.hear-heard.result.packet) c.hear-heard.result.notes
      _ (is_open c' s (c.is_up.ensures.state (link_settings c') s.link fits.link) (c.full.ensures.value (layer_settings c') s.layer fits.layer)
      c.if-is_up-full.false (c.is_closing.ensures (link_settings c') s.link fits.link) c.if-is_closing.false) (heard.packet, heard.notes) link.kept;
  entries = λ c' s fits.
      let lk = link_settings c' in
      let k : LinkStep = take_step lk c.args.octets.now s.link in
      let heard = c.hear-heard.ensures.heard lk s.link fits.link in
      let whole : FitsWhole c.hear-heard.new.self (kept_of lk k.side) =
      record { link = c.hear-heard.ensures.state lk s.link fits.link; kept = c.hear-heard.ensures.frames lk s.link fits.link } in
      took_enters c' fits.same s c.args.octets.now (option_copied c.hear-heard.result.packet) c.hear-heard.result.notes
      _ (is_open c' s (c.is_up.ensures.state (link_settings c') s.link fits.link) (c.full.ensures.value (layer_settings c') s.layer fits.layer)
      c.if-is_up-full.false (c.is_closing.ensures (link_settings c') s.link fits.link) c.if-is_closing.false) (heard.packet, heard.notes)
      (c.follow.ensures.entries c' s.layer k.side fits.layer whole);
  refused = λ c' s fits. tt;
  stays = λ c' s fits. tt;
  empty = tt;
  few_frames =
      let most : length c.follow.new.link.frames ≤ 9 = least_by_meaning _ _ (length c.follow.new.link.frames) 9 c.args.self.now.meant (λ c' s fits.
      let lk = link_settings c' in
      let k : LinkStep = take_step lk c.args.octets.now s.link in
      let whole : FitsWhole c.hear-heard.new.self (kept_of lk k.side) =
      record { link = c.hear-heard.ensures.state lk s.link fits.link; kept = c.hear-heard.ensures.frames lk s.link fits.link } in
      let puts = (subst (λ (at : ℕ). PutsBehind c.args.self.now.layer c.hear-heard.new.self at c.follow.new.layer c.follow.new.link c.follow.new.turn
      (λ view cc l. layer_at view cc c.args.self.now.manner.wide l (option_copied c.hear-heard.result.packet) c.hear-heard.result.notes.down
      c.hear-heard.result.notes.up)) fits.turned c.follow.ensures.puts) in
      let step = put_behind c' c.args.self.now.manner.wide s k (option_copied c.hear-heard.result.packet) c.hear-heard.result.notes in
      let link = puts.link c' s.layer k.side fits.layer whole in
      let few = few_heard lk c.args.octets.now s.link step.put (c.holds_few.ensures.window lk c.args.self.now.link s.link fits.link)
      (c.holds_few.ensures.stand lk c.args.self.now.link s.link fits.link).place_low in
      few_made c'.role c.follow.new.link.frames (all_put lk step.put k.side).out 9 link.kept few) in
      let same : length c.swap_frames.new.frames ≡ length c.follow.new.link.frames = ap length c.swap_frames.ensures.frames in
      omega (arith, most, same);
  few_entries = c.follow.new.entries.few;
}

pub returns-clause-timer : goal.returns-clause-timer
returns-clause-timer c = λ c' s fits.
    let lk = link_settings c' in
    let heard = c.hear-heard.ensures.heard lk s.link fits.link in
    let does = returns-clause-does c in
    c.timer_behind-out-2.ensures c' s (receives c' s c.args.octets.now) (c.timer_runs-ran.ensures lk s.link fits.link) (does.state c' s fits)
    (does.entries c' s fits)
    (heard.acknowledged ∙ took_acknowledged c' s c.args.octets.now
    (is_open c' s (c.is_up.ensures.state lk s.link fits.link) (c.full.ensures.value (layer_settings c') s.layer fits.layer) c.if-is_up-full.false (c.is_closing.ensures (link_settings c') s.link fits.link) c.if-is_closing.false))

pub returns-then-is_up-full-clause-does : goal.returns-then-is_up-full-clause-does
returns-then-is_up-full-clause-does c =
    let does = c.abandon-acknowledged.ensures.does in
    record {
      state = λ c' s fits. does.state c' s fits;
      frames = λ c' s fits. does.frames c' s fits;
      entries = λ c' s fits. does.entries c' s fits;
      refused = λ c' s fits. tt;
      stays = λ c' s fits. tt;
      empty = tt;
      few_frames = does.few_frames;
      few_entries = does.few_entries;
    }

pub returns-then-is_up-full-clause-timer : goal.returns-then-is_up-full-clause-timer
returns-then-is_up-full-clause-timer c = λ c' s fits.
    let does = c.abandon-acknowledged.ensures.does in
    c.timer_behind-out.ensures c' s (receives c' s c.args.octets.now) (c.timer_runs-ran.ensures (link_settings c') s.link fits.link) (does.state c' s fits)
    (does.entries c' s fits) (c.abandon-acknowledged.ensures.acknowledged c' s fits)

pub hear_closing-acknowledged-requires-clause-closing : goal.hear_closing-acknowledged-requires-clause-closing
hear_closing-acknowledged-requires-clause-closing c = λ c' s fits. sym (c.is_closing.ensures (link_settings c') s.link fits.link) ∙ c.if-is_closing.true

pub returns-then-is_closing-clause-does : goal.returns-then-is_closing-clause-does
returns-then-is_closing-clause-does c =
    let does = c.hear_closing-acknowledged.ensures.does in
    record {
      state = λ c' s fits. does.state c' s fits;
      frames = λ c' s fits. does.frames c' s fits;
      entries = λ c' s fits. does.entries c' s fits;
      refused = λ c' s fits. tt;
      stays = λ c' s fits. tt;
      empty = tt;
      few_frames = does.few_frames;
      few_entries = does.few_entries;
    }

pub returns-then-is_closing-clause-timer : goal.returns-then-is_closing-clause-timer
returns-then-is_closing-clause-timer c = λ c' s fits.
    let does = c.hear_closing-acknowledged.ensures.does in
    c.timer_behind-out-then-is_closing.ensures c' s (receives c' s c.args.octets.now) (c.timer_runs-ran.ensures (link_settings c') s.link fits.link) (does.state c' s fits)
    (does.entries c' s fits) (c.hear_closing-acknowledged.ensures.acknowledged c' s fits)
