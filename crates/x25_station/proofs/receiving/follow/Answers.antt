use Rattle.x25_station.proofs.Names.{◌≡◌, Bool, option_copied, refl, ap, sym, subst, ◌∙◌, FitsLayer, Putting, hears, FitsWhole, link_settings, layer_settings, kept_of}
use Rattle.x25_station.proofs.Names.{all_put, view_of, entries_of_packet, layer_down}
use Rattle.x25_station.proofs.FollowLemmas.{is_none, at_up, at_down, at_heard, at_quiet, heard_entries, strict_entries}
use Rattle.x25_station.proofs.receiving.follow.Goals as goal

pub returns-then-notes-clause-puts : goal.returns-then-notes-clause-puts
returns-then-notes-clause-puts c = record {
  layer = λ c' l t fits link.
      let lc = layer_settings c' in
      at_up (λ (s : Putting). FitsLayer lc c.come_up.new.layer s.layer) (view_of (link_settings c') c.args.turn.now t.near) lc c.args.wide l (option_copied c.args.packet)
      c.args.notes.down c.args.notes.up c.if-notes.true
      (c.come_up.ensures.puts.layer c' (layer_down l c.args.notes.down) t (c.note_down.ensures.layer lc l fits) link);
  link = λ c' l t fits link.
      let lc = layer_settings c' in
      let lk = link_settings c' in
      at_up (λ (s : Putting). FitsWhole c.come_up.new.link (kept_of lk (all_put lk s.put t))) (view_of lk c.args.turn.now t.near) lc c.args.wide l
      (option_copied c.args.packet) c.args.notes.down c.args.notes.up c.if-notes.true
      (c.come_up.ensures.puts.link c' (layer_down l c.args.notes.down) t (c.note_down.ensures.layer lc l fits) link);
  turns = λ c' l t fits link.
      let lc = layer_settings c' in
      at_up (λ (s : Putting). c.come_up.new.turn ≡ s.turn) (view_of (link_settings c') c.args.turn.now t.near) lc c.args.wide l (option_copied c.args.packet)
      c.args.notes.down c.args.notes.up c.if-notes.true
      (c.come_up.ensures.puts.turns c' (layer_down l c.args.notes.down) t (c.note_down.ensures.layer lc l fits) link);
}

pub returns-then-is_some-clause-puts : goal.returns-then-is_some-clause-puts
returns-then-is_some-clause-puts c = record {
  layer = λ c' l t fits link.
      let lc = layer_settings c' in
      at_down (λ (s : Putting). FitsLayer lc c.note_down.new.layer s.layer) (view_of (link_settings c') c.args.turn.now t.near) lc c.args.wide l (option_copied c.args.packet)
      c.args.notes.down c.args.notes.up c.if-notes.false
      (sym c.is_some.ensures ∙ c.if-is_some.true) (c.note_down.ensures.layer lc l fits);
  link = λ c' l t fits link.
      let lc = layer_settings c' in
      let lk = link_settings c' in
      at_down (λ (s : Putting). FitsWhole c.args.link.now (kept_of lk (all_put lk s.put t))) (view_of lk c.args.turn.now t.near) lc c.args.wide l (option_copied c.args.packet)
      c.args.notes.down c.args.notes.up c.if-notes.false
      (sym c.is_some.ensures ∙ c.if-is_some.true) link;
  turns = λ c' l t fits link.
      at_down (λ (s : Putting). c.args.turn.now ≡ s.turn) (view_of (link_settings c') c.args.turn.now t.near) (layer_settings c') c.args.wide l
      (option_copied c.args.packet) c.args.notes.down c.args.notes.up c.if-notes.false (sym c.is_some.ensures ∙ c.if-is_some.true) refl;
}

pub returns-then-wide-clause-puts : goal.returns-then-wide-clause-puts
returns-then-wide-clause-puts c = record {
  layer = λ c' l t fits link.
      let lc = layer_settings c' in
      let none = is_none _ (sym c.is_some.ensures ∙ c.if-is_some.false) in
      let stays = subst (λ y. FitsLayer lc y l) (sym (c.note_down.ensures.same none)) fits in
      at_heard (λ (s : Putting). FitsLayer lc c.hear_all.new.layer s.layer) (view_of (link_settings c') c.args.turn.now t.near) lc c.args.wide l (option_copied c.args.packet)
      c.in-Some.packet.now c.args.notes.down c.args.notes.up c.if-notes.false
      (sym c.is_some.ensures ∙ c.if-is_some.false) (ap option_copied c.in-Some.is)
      (subst (λ (b : Bool). FitsLayer lc c.hear_all.new.layer (hears (view_of (link_settings c') c.args.turn.now t.near) lc b l c.in-Some.packet.now).step.layer)
      (sym c.if-wide.true) (c.hear_all.ensures.puts.layer c' l t stays link));
  link = λ c' l t fits link.
      let lc = layer_settings c' in
      let lk = link_settings c' in
      let none = is_none _ (sym c.is_some.ensures ∙ c.if-is_some.false) in
      let stays = subst (λ y. FitsLayer lc y l) (sym (c.note_down.ensures.same none)) fits in
      at_heard (λ (s : Putting). FitsWhole c.hear_all.new.link (kept_of lk (all_put lk s.put t))) (view_of lk c.args.turn.now t.near) lc c.args.wide l
      (option_copied c.args.packet) c.in-Some.packet.now c.args.notes.down c.args.notes.up c.if-notes.false
      (sym c.is_some.ensures ∙ c.if-is_some.false) (ap option_copied c.in-Some.is)
      (subst (λ (b : Bool). FitsWhole c.hear_all.new.link (kept_of lk (all_put lk (hears (view_of lk c.args.turn.now t.near) lc b l c.in-Some.packet.now).step.put t)))
      (sym c.if-wide.true) (c.hear_all.ensures.puts.link c' l t stays link));
  turns = λ c' l t fits link.
      let lc = layer_settings c' in
      let none = is_none _ (sym c.is_some.ensures ∙ c.if-is_some.false) in
      let stays = subst (λ y. FitsLayer lc y l) (sym (c.note_down.ensures.same none)) fits in
      at_heard (λ (s : Putting). c.hear_all.new.turn ≡ s.turn) (view_of (link_settings c') c.args.turn.now t.near) lc c.args.wide l (option_copied c.args.packet)
      c.in-Some.packet.now c.args.notes.down c.args.notes.up c.if-notes.false
      (sym c.is_some.ensures ∙ c.if-is_some.false) (ap option_copied c.in-Some.is)
      (subst (λ (b : Bool). c.hear_all.new.turn ≡ (hears (view_of (link_settings c') c.args.turn.now t.near) lc b l c.in-Some.packet.now).step.turn)
      (sym c.if-wide.true) (c.hear_all.ensures.puts.turns c' l t stays link));
}

pub returns-then-wide-clause-entries : goal.returns-then-wide-clause-entries
returns-then-wide-clause-entries c = λ c' l t fits link.
    let lc = layer_settings c' in
    let none = is_none _ (sym c.is_some.ensures ∙ c.if-is_some.false) in
    let stays = subst (λ y. FitsLayer lc y l) (sym (c.note_down.ensures.same none)) fits in
    let octets = c.in-Some.packet.now in
    heard_entries lc c.args.wide l (option_copied c.args.packet) octets c.args.notes _ c.if-notes.false none (ap option_copied c.in-Some.is)
    (c.hear_all.ensures.entries c' l t stays link ∙ ap (λ (b : Bool). entries_of_packet lc b l octets) (sym c.if-wide.true))

pub returns-clause-puts : goal.returns-clause-puts
returns-clause-puts c = record {
  layer = λ c' l t fits link.
      let lc = layer_settings c' in
      at_heard (λ (s : Putting). FitsLayer lc c.hear.new.layer s.layer) (view_of (link_settings c') c.args.turn.now t.near) lc c.args.wide l (option_copied c.args.packet)
      c.in-Some.packet.now c.args.notes.down c.args.notes.up c.if-notes.false
      (sym c.is_some.ensures ∙ c.if-is_some.false) (ap option_copied c.in-Some.is)
      (subst (λ (b : Bool). FitsLayer lc c.hear.new.layer (hears (view_of (link_settings c') c.args.turn.now t.near) lc b l c.in-Some.packet.now).step.layer)
      (sym c.if-wide.false) (c.hear.ensures.puts.layer c' l t (subst (λ y. FitsLayer lc y l)
      (sym (c.note_down.ensures.same (is_none _ (sym c.is_some.ensures ∙ c.if-is_some.false)))) fits) link));
  link = λ c' l t fits link.
      let lc = layer_settings c' in
      let lk = link_settings c' in
      at_heard (λ (s : Putting). FitsWhole c.hear.new.link (kept_of lk (all_put lk s.put t))) (view_of lk c.args.turn.now t.near) lc c.args.wide l
      (option_copied c.args.packet) c.in-Some.packet.now c.args.notes.down c.args.notes.up c.if-notes.false
      (sym c.is_some.ensures ∙ c.if-is_some.false) (ap option_copied c.in-Some.is)
      (subst (λ (b : Bool). FitsWhole c.hear.new.link (kept_of lk (all_put lk (hears (view_of lk c.args.turn.now t.near) lc b l c.in-Some.packet.now).step.put t)))
      (sym c.if-wide.false) (c.hear.ensures.puts.link c' l t (subst (λ y. FitsLayer lc y l)
      (sym (c.note_down.ensures.same (is_none _ (sym c.is_some.ensures ∙ c.if-is_some.false)))) fits) link));
  turns = λ c' l t fits link.
      let lc = layer_settings c' in
      let none = is_none _ (sym c.is_some.ensures ∙ c.if-is_some.false) in
      let stays = subst (λ y. FitsLayer lc y l) (sym (c.note_down.ensures.same none)) fits in
      at_heard (λ (s : Putting). c.hear.new.turn ≡ s.turn) (view_of (link_settings c') c.args.turn.now t.near) lc c.args.wide l (option_copied c.args.packet)
      c.in-Some.packet.now c.args.notes.down c.args.notes.up c.if-notes.false
      (sym c.is_some.ensures ∙ c.if-is_some.false) (ap option_copied c.in-Some.is)
      (subst (λ (b : Bool). c.hear.new.turn ≡ (hears (view_of (link_settings c') c.args.turn.now t.near) lc b l c.in-Some.packet.now).step.turn)
      (sym c.if-wide.false) (c.hear.ensures.puts.turns c' l t stays link));
}

pub returns-clause-entries : goal.returns-clause-entries
returns-clause-entries c = λ c' l t fits link.
    let lc = layer_settings c' in
    let none = is_none _ (sym c.is_some.ensures ∙ c.if-is_some.false) in
    let stays = subst (λ y. FitsLayer lc y l) (sym (c.note_down.ensures.same none)) fits in
    let octets = c.in-Some.packet.now in
    heard_entries lc c.args.wide l (option_copied c.args.packet) octets c.args.notes _ c.if-notes.false none (ap option_copied c.in-Some.is)
    (c.hear.ensures.entries c' l t stays link ∙ sym (strict_entries lc l octets)
    ∙ ap (λ (b : Bool). entries_of_packet lc b l octets) (sym c.if-wide.false))

pub returns-in_default-clause-puts : goal.returns-in_default-clause-puts
returns-in_default-clause-puts c = record {
  layer = λ c' l t fits link.
      let lc = layer_settings c' in
      at_quiet (λ (s : Putting). FitsLayer lc c.note_down.new.layer s.layer) (view_of (link_settings c') c.args.turn.now t.near) lc c.args.wide l (option_copied c.args.packet)
      c.args.notes.down c.args.notes.up c.if-notes.false
      (sym c.is_some.ensures ∙ c.if-is_some.false) (ap option_copied c.in_default.is)
      (subst (λ y. FitsLayer lc y l) (sym (c.note_down.ensures.same (is_none _ (sym c.is_some.ensures ∙ c.if-is_some.false)))) fits);
  link = λ c' l t fits link.
      let lc = layer_settings c' in
      let lk = link_settings c' in
      at_quiet (λ (s : Putting). FitsWhole c.args.link.now (kept_of lk (all_put lk s.put t))) (view_of lk c.args.turn.now t.near) lc c.args.wide l
      (option_copied c.args.packet) c.args.notes.down c.args.notes.up c.if-notes.false
      (sym c.is_some.ensures ∙ c.if-is_some.false) (ap option_copied c.in_default.is) link;
  turns = λ c' l t fits link.
      at_quiet (λ (s : Putting). c.args.turn.now ≡ s.turn) (view_of (link_settings c') c.args.turn.now t.near) (layer_settings c') c.args.wide l
      (option_copied c.args.packet) c.args.notes.down c.args.notes.up c.if-notes.false
      (sym c.is_some.ensures ∙ c.if-is_some.false) (ap option_copied c.in_default.is) refl;
}
