-- What holds of two stations and the window machine behind the line, and that a step of the near end keeps it.
use Rattle.x25_line.proofs.Names.{◌≡◌, ℕ, ◌+◌, ◌%◌, List, [], ◌∷◌, ◌++◌, ◌⊎◌, inl, inr, length, map, remove, Bool, true, false, Option, Some, None, Result, Ok}
use Rattle.x25_line.proofs.Names.{Err, refl, sym, ap, ◌∙◌, subst, arith, append-nil, le-leb, option_to_list, ◌||◌, PlainFrame, info, rr, rnr, rej, sabm, disc}
use Rattle.x25_line.proofs.Names.{ua, dm, spelling_of, frame_of, ReadsSpelled, FrameError, Short, BadFcs, End, Numbered, Frame, after, Hear, Take, Phase}
use Rattle.x25_line.proofs.Names.{Waiting, Up, Reason, Retries, Disc, FrmrSent, Reset, LinkSettings, LinkStation, is_up, LinkStep, other, Window, Input, Shows}
use Rattle.x25_line.proofs.Names.{ShowAll, IsSound, window_of, brought_by, after_input, MayHandUp, ending_of, Stays, Follows, IsOut, AreDeclining, Line}
use Rattle.x25_line.proofs.Names.{StationEnd, Stations, sabm_of, said, AreJoined, MachineReaches, near_moves, number_in, numbered_on, NoFrmr, IsWhole, AreWhole}
use Rattle.std.proofs.lemmas.List.{replicate_more}
use Rattle.x25_frame.specs.declared.error.FrameError.TheVariants.{BadAddress}
use Rattle.x25_line.proofs.{Kept.{Kept, Way, Kept-moved, hears_valid}, Lists.{each_append}, Names.{given, first_of, taken_out}}
use Rattle.x25_line.proofs.StationLines.{shows_append, shows_first, Front, front_of, carried_of, IsOrderly, AreOrderly, consed, numbered_append, AreParting}
use Rattle.x25_line.proofs.StationLines.{IsPart, parts_of, no_frmr_append, good_no_frmr, parting_no_frmr, good_numbered, good_orderly, parting_numbered}
use Rattle.x25_line.proofs.StationLines.{parting_orderly, whole_more, good_whole, parting_whole, first_more}
use Rattle.x25_line.proofs.StationSends.{AllWithin, Sent, sent_given, runs_sent}
use Rattle.x25_line.specs.laws.{Line.{MayTake, FrontMayBeTaken, arrived, front_arrived, takes_item}, Line.Move.{Arrives, Loses}}
use Rattle.x25_line.specs.laws.{StationClaims.{NotesItsEnd, Each}, Stations.{after_step}, WholeNumbers.{counted, machine_after}}
use Rattle.x25_link.specs.{Outgoing.{Outgoing, no_packet}, Station.{lists_of, no_packets}, laws.NoteLaw.{IsQuiet, Tells}}
use Rattle.x25_link.specs.laws.{WindowLaw.{if_valid, ends_in, AreLast, Ends}, WindowMachine.{receives}}

-- a phase out of the session isn't Up
pub out_not_up : (p : Phase) → IsOut p → is_up p ≡ false
out_not_up Waiting h = absurd h
out_not_up Up h = absurd h
out_not_up p h = refl

-- a bit isn't both true and false, so anything follows
pub not_both : {A : Type 0} (b : Bool) → b ≡ true → b ≡ false → A
not_both b e f = absurd (never (sym e ∙ f))
  where
    never : true ≡ false → ⊥
    never e = cc

-- ---- what holds

-- an end that is Up has the machine's lists and numbers
pub record AsUp (c : LinkSettings) (s : LinkStation) (e : End (List ℕ)) : Type 0 where
  pub up : is_up s.phase ≡ true
  pub sound : IsSound c.window s.outgoing
  pub same : window_of c.window s ≡ e

-- any other has empty lists, and its machine's end stands still
pub record IsAway (s : LinkStation) : Type 0 where
  pub away : is_up s.phase ≡ false
  pub empty : lists_of s ≡ no_packets

-- the machine's end is that of a station that is Up, or the station is away
abbrev pub FitsEnd : LinkSettings → LinkStation → End (List ℕ) → Type 0
FitsEnd c s e = AsUp c s e ⊎ IsAway s

-- an end that is Up isn't away
pub up_of : {c : LinkSettings} {s : LinkStation} {e : End (List ℕ)} → FitsEnd c s e → is_up s.phase ≡ true → AsUp c s e
up_of (inl u) up = u
up_of {s = s} (inr away) up = not_both (is_up s.phase) up away.away

-- the link wasn't set up anew
pub record NotesOnce (e : StationEnd) : Type 0 where
  pub notes : NotesItsEnd e
  pub once : e.came_up ≡ false

-- what an end was handed down and has handed up is the machine's, and fits; and what it noted
pub record Has (longest : ℕ) (e : StationEnd) (l : End (List ℕ)) : Type 0 where
  pub down : e.down ≡ l.given
  pub up : e.up ≡ l.taken
  pub within : AllWithin longest l.given
  pub notes : NotesOnce e

pub record Joint (c d : LinkSettings) (w : Stations) (l : Line (List ℕ)) : Type 0 where
  pub reached : MachineReaches c.window d.window l
  pub kept : Kept l
  pub near : FitsEnd c w.near.station l.near
  pub far : FitsEnd d w.far.station l.far
  pub out : ShowAll (numbered_on (other d.role) d.longest w.out) l.out
  pub back : ShowAll (numbered_on (other c.role) c.longest w.back) l.back
  pub out_orderly : AreOrderly (other d.role) d.longest w.out
  pub back_orderly : AreOrderly (other c.role) c.longest w.back
  pub near_has : Has d.longest w.near l.near
  pub far_has : Has c.longest w.far l.far
  pub no_frmr : NoFrmr w.sent
  pub whole : AreWhole d.longest (w.near.down ++ w.far.down) w.sent

-- there is a window machine behind the two stations
abbrev pub Holds : LinkSettings → LinkSettings → Stations → Type 0
Holds c d w = (l : Line (List ℕ)) × Joint c d w l

-- ---- the machine goes on

-- it may lose what stands at a place of the line
lost : {c d : LinkSettings} {w : Stations} {l : Line (List ℕ)} → Joint c d w l → (gone : Option ℕ)
    → (let m = record l { back = taken_out gone l.back } in MachineReaches c.window d.window m × Kept m)
lost h None = (h.reached, h.kept)
lost {l = l} h (Some n) = (near_moves l (Loses n) h.reached tt, Kept-moved (Loses n) tt h.kept)

-- it is behind `v`, once the near end put these octets and what stands at a place is gone from the line to it
abbrev pub Leads : LinkSettings → LinkSettings → Line (List ℕ) → Option ℕ → List (List ℕ) → Stations → Type 0
Leads c d l gone put v = Joint c d v (machine_after c v.near.station put gone l)

-- so it is by a step of the near end
abbrev pub StepLeads : LinkSettings → LinkSettings → Stations → Line (List ℕ) → Option ℕ → List (List ℕ) → List (List ℕ) → LinkStep → Type 0
StepLeads c d w l gone back down step = Leads c d l gone (map (spelling_of c.role) step.side.out) (after_step c w back down step)

-- a machine of these ends and lines is the one that the definition says
pub machine_is : (c : LinkSettings) (station : LinkStation) (put : List (List ℕ)) (place : Option ℕ) (l : Line (List ℕ)) {near far : End (List ℕ)}
    {out back : List (Frame (List ℕ))} → near ≡ counted c.window station l.near → far ≡ l.far
    → out ≡ l.out ++ given near.acked (length near.taken) l.near.sent (numbered_on c.role c.longest put) → back ≡ taken_out place l.back
    → (let m : Line (List ℕ) = record { near = near; far = far; out = out; back = back } in m) ≡ machine_after c station put place l
machine_is c station put place l near far out back = rw (out, near, far, back) refl

pub counted_up : (k : ℕ) (s : LinkStation) (e : Window) → is_up s.phase ≡ true → counted k s e ≡ window_of k s
counted_up k s e up = rw up refl

pub counted_off : (k : ℕ) (s : LinkStation) (e : Window) → is_up s.phase ≡ false → counted k s e ≡ e
counted_off k s e off = rw off refl

-- a machine's end that fits the station has the numbers of that station
pub counted_fits : {c : LinkSettings} {s : LinkStation} {e : Window} → FitsEnd c s e → counted c.window s e ≡ e
counted_fits {c} {s} {e} (inl u) = counted_up c.window s e u.up ∙ u.same
counted_fits {c} {s} {e} (inr away) = counted_off c.window s e away.away

-- nothing that carries a number was put
pub none_put : (l : Line (List ℕ)) (a r : ℕ) (fs : List PlainFrame) → fs ≡ [] → l.out ≡ l.out ++ given a r l.near.sent fs
none_put l a r fs none = sym (append-nil l.out) ∙ ap (λ es. l.out ++ given a r l.near.sent es) (sym none)

-- the station is as it was, and so is the line, but for what is gone from that to the near end
pub left_joint : {c d : LinkSettings} {w : Stations} {l : Line (List ℕ)} → Joint c d w l → (gone : Option ℕ) {os : List (List ℕ)}
    → ShowAll (numbered_on (other c.role) c.longest os) (taken_out gone l.back) → AreOrderly (other c.role) c.longest os
    → Leads c d l gone [] (record w { back = os })
left_joint {c} {d} {w} {l} h gone {os} shows orderly =
    let left = lost h gone in
    subst (Joint c d (record w { back = os }))
    (machine_is c w.near.station [] gone l (sym (counted_fits h.near)) refl (sym (append-nil l.out)) refl)
    (record {
      reached = left.0;
      kept = left.1;
      near = h.near;
      far = h.far;
      out = h.out;
      back = shows;
      out_orderly = h.out_orderly;
      back_orderly = orderly;
      near_has = h.near_has;
      far_has = h.far_has;
      no_frmr = h.no_frmr;
      whole = h.whole;
    })

-- where nothing changes the same machine stays behind them
pub stands_still : {c d : LinkSettings} {w : Stations} {l : Line (List ℕ)} → Joint c d w l → Leads c d l None [] w
stands_still h = left_joint h None h.back h.back_orderly

-- ---- what is noted

-- a step that notes nothing, Up or out as before
pub quiet_notes : (c : LinkSettings) (w : Stations) (back down : List (List ℕ)) (step : LinkStep) → NotesOnce w.near → IsQuiet step → is_up step.side.near.phase
    ≡ is_up w.near.station.phase
    → NotesOnce (after_step c w back down step).near
quiet_notes c w back down step h quiet same =
    let reasons = ap (λ n. w.near.reasons ++ option_to_list n.down) quiet ∙ append-nil w.near.reasons in
    record {
      notes = record {
        still_up = λ on. reasons ∙ h.notes.still_up (sym same ∙ on);
        left = λ off. (let l = h.notes.left (sym same ∙ off) in (l.0, l.1, reasons ∙ l.2));
      };
      once = ap (λ n. w.near.came_up || n.up) quiet ∙ ap (λ b. b || false) h.once;
    }

-- LinkUp is noted by a station that begins afresh
pub not_afresh : {s : LinkStation} {step : LinkStep} → Tells s step → is_up step.side.near.phase ≡ false → step.notes.up ≡ false
not_afresh {step = step} tells off = go step.notes.up refl
  where
    go : (b : Bool) → step.notes.up ≡ b → step.notes.up ≡ false
    go true e = not_both (is_up step.side.near.phase) (ap (λ z. is_up z.phase) (tells.fresh_up e)) off
    go false e = e

-- ---- steps that hand nothing up, and steps that leave

-- nothing is handed up
pub no_packet_of : (input : Input) (packet : Option (List ℕ)) (v : Window) → ((y : List ℕ) → MayHandUp input (Some y) v → ⊥) → MayHandUp input packet v
    → packet ≡ None
no_packet_of input None v never up = refl
no_packet_of input (Some y) v never up = absurd (never y up)

-- Up is left for any reason but a fault of the peer, or set-up anew
abbrev pub Leaves : Reason → Type 0
Leaves FrmrSent = ⊥
Leaves Reset = ⊥
Leaves other = Unit {0}

pub last_parting : (reason : Reason) (fs : List PlainFrame) → Leaves reason → AreLast reason fs → AreParting fs
last_parting Disc fs l h = rw h.1 tt
last_parting FrmrSent fs l h = absurd l
last_parting Reset fs l h = absurd l
last_parting reason fs l h = rw h tt

pub last_away : (reason : Reason) (p : Phase) → Leaves reason → p ≡ ends_in reason → is_up p ≡ false
last_away FrmrSent p l h = absurd l
last_away Reset p l h = absurd l
last_away reason p l h = rw h refl

pub empty_lists : (o : Outgoing) (taken : List (List ℕ)) → o ≡ no_packet → taken ≡ [] → record { given = o.given; acked = o.acked; taken = taken } ≡ no_packets
empty_lists o taken none nothing_taken = rw (none, nothing_taken) refl

-- a station that is out declines
pub declining_parting : (fs : List PlainFrame) → AreDeclining fs → AreParting fs
declining_parting [] h = tt
declining_parting (dm f ∷ fs) h = declining_parting fs h
declining_parting (frame ∷ fs) h = absurd h

-- what is noted by a step behind which the station isn't Up: it left Up, it goes on to be out, or it asked in vain
pub data Noted (s : LinkStation) (step : LinkStep) : Type 0 where
  left_up : (reason : Reason) → Leaves reason → is_up s.phase ≡ true → step.notes.down ≡ Some reason → step.notes.up ≡ false → Noted s step
  stays_out : is_up s.phase ≡ false → IsQuiet step → Noted s step
  in_vain : s.phase ≡ Waiting → step.notes.down ≡ Some Retries → step.notes.up ≡ false → Noted s step

noted_once : (c : LinkSettings) (w : Stations) (back : List (List ℕ)) (step : LinkStep) → NotesOnce w.near → is_up step.side.near.phase ≡ false
    → Noted w.near.station step → NotesOnce (after_step c w back [] step).near
noted_once c w back step h off (stays_out out quiet) = quiet_notes c w back [] step h quiet (off ∙ sym out)
noted_once c w back step h off (left_up reason leaves up down not_up) = record {
  notes = record {
    still_up = λ on. not_both (is_up step.side.near.phase) on off;
    left = λ _. (reason, 0, ap (λ r. w.near.reasons ++ option_to_list r) down ∙ ap (λ rs. rs ++ reason ∷ []) (h.notes.still_up up));
  };
  once = ap (λ b. w.near.came_up || b) not_up ∙ ap (λ b. b || false) h.once;
}
noted_once c w back step h off (in_vain waits down not_up) =
    let l = h.notes.left (ap is_up waits) in
    record {
      notes = record {
        still_up = λ on. not_both (is_up step.side.near.phase) on off;
        left = λ _. (
          l.0,
          l.1 + 1,
          ap (λ r. w.near.reasons ++ option_to_list r) down ∙ ap (λ rs. rs ++ Retries ∷ []) l.2
              ∙ ap (λ rs. l.0 ∷ rs) (replicate_more l.1 Retries),
        );
      };
      once = ap (λ b. w.near.came_up || b) not_up ∙ ap (λ b. b || false) h.once;
    }

-- a step that sends nothing that has a number, behind which the station isn't Up
pub record Parts (s : LinkStation) (step : LinkStep) : Type 0 where
  pub frames : AreParting step.side.out
  pub away : IsAway step.side.near
  pub packet : step.packet ≡ None
  pub noted : Noted s step

-- so is each step by which a station leaves Up
pub ends_parts : {s : LinkStation} {reason : Reason} {step : LinkStep} → is_up s.phase ≡ true → Leaves reason → Tells s step → Ends reason step
    → Parts s step
ends_parts {s} {reason} {step} up leaves tells ends =
    let away = last_away reason step.side.near.phase leaves ends.phase in
    record {
      frames = last_parting reason step.side.out leaves ends.frames;
      away = record { away = away; empty = empty_lists step.side.near.outgoing step.side.near.taken ends.outgoing ends.taken };
      packet = ends.packet;
      noted = left_up reason leaves up ends.noted (not_afresh tells away);
    }

-- ---- a step of the near end, the machine's line being `l` once what comes has come

pub record Stage (c d : LinkSettings) (w : Stations) (start l : Line (List ℕ)) (back down : List (List ℕ)) (packet : Option (List ℕ))
    (v : Window) : Type 0 where
  pub reached : MachineReaches c.window d.window l
  pub kept : Kept l
  pub near : l.near ≡ v
  pub far : l.far ≡ start.far
  pub out : l.out ≡ start.out
  pub left : ShowAll (numbered_on (other c.role) c.longest back) l.back
  pub orderly : AreOrderly (other c.role) c.longest back
  pub given : w.near.down ++ down ≡ v.given
  pub taken : w.near.up ++ option_to_list packet ≡ v.taken
  pub within : AllWithin d.longest v.given
  pub same_sent : v.sent ≡ start.near.sent

module _ {c d : LinkSettings} (joined : AreJoined c d) (reads : ReadsSpelled) where
  -- what is put on the line, as the other end reads it
  numbers_out : (out : List (List ℕ)) (fs es : List PlainFrame) (gs hs : List (Frame (List ℕ))) → numbered_on c.role d.longest (map (spelling_of c.role) fs)
      ≡ es → ShowAll (numbered_on (other d.role) d.longest out) gs → ShowAll es hs
      → ShowAll (numbered_on (other d.role) d.longest (out ++ map (spelling_of c.role) fs)) (gs ++ hs)
  numbers_out out fs es gs hs is f e =
      let same : numbered_on (other d.role) d.longest (map (spelling_of c.role) fs) ≡ es =
      subst (λ r. numbered_on r d.longest (map (spelling_of c.role) fs) ≡ es) (sym joined.near_role) is in
      subst (λ ps. ShowAll ps (gs ++ hs))
      (sym (numbered_append (other d.role) d.longest out (map (spelling_of c.role) fs) ∙ ap (λ ps. numbered_on (other d.role) d.longest out ++ ps) same))
      (shows_append (numbered_on (other d.role) d.longest out) es gs hs f e)

  orderly_out : (out : List (List ℕ)) (fs : List PlainFrame) → AreOrderly c.role d.longest (map (spelling_of c.role) fs)
      → AreOrderly (other d.role) d.longest out
      → AreOrderly (other d.role) d.longest (out ++ map (spelling_of c.role) fs)
  orderly_out out fs more f = each_append (λ o. IsOrderly (frame_of (other d.role) d.longest o)) out (map (spelling_of c.role) fs) f (rw joined.near_role more)

  -- a station that stays Up: what comes has come, and then it sends
  pub stays_joint : {w : Stations} {l : Line (List ℕ)} (m : Line (List ℕ)) (gone : Option ℕ) → m.back ≡ taken_out gone l.back
      → {back down : List (List ℕ)} {input : Input} {step : LinkStep} → Joint c d w l
      → is_up w.near.station.phase ≡ true
      → Stage c d w l m back down step.packet (after_input input step.packet (window_of c.window w.near.station))
      → Stays c.window input w.near.station step
      → StepLeads c d w l gone back down step
  stays_joint {w} {l} m gone left {back} {down} {input} {step} h was_up g stays =
      let v : Window = after_input input step.packet (window_of c.window w.near.station) in
      let t = runs_sent g.reached g.kept g.near g.within stays.sends in
      let far = t.far ∙ g.far in
      subst (Joint c d (after_step c w back down step))
      (machine_is c step.side.near (map (spelling_of c.role) step.side.out) gone l (t.near ∙ sym (counted_up c.window step.side.near l.near stays.up)) far
      (t.out ∙ ap (λ gs. gs ++ t.behind) g.out
      ∙ ap (λ gs. l.out ++ gs) (sends m v (window_of c.window step.side.near) step.side.out t (ap (λ z. z.sent) g.near ∙ g.same_sent) t.near)
      ∙ ap (λ fs. l.out ++ given t.line.near.acked (length t.line.near.taken) l.near.sent fs)
      (sym (good_numbered reads c.role c.longest step.side.out (rw joined.longest t.good)))) (t.back ∙ left))
      (record {
        reached = t.reached;
        kept = t.kept;
        near = inl (record { up = stays.up; sound = stays.sound; same = sym t.near });
        far = rw far h.far;
        out = rw (t.out ∙ ap (λ gs. gs ++ t.behind) g.out)
            (numbers_out w.out step.side.out step.side.out l.out t.behind (good_numbered reads c.role d.longest step.side.out t.good) h.out t.shows);
        back = rw t.back g.left;
        out_orderly = orderly_out w.out step.side.out (good_orderly reads c.role d.longest step.side.out t.good) h.out_orderly;
        back_orderly = g.orderly;
        near_has = record {
          down = g.given ∙ sym t.given ∙ ap (λ z. z.given) (sym t.near);
          up = g.taken ∙ sym t.taken ∙ ap (λ z. z.taken) (sym t.near);
          within = subst (AllWithin d.longest) (sym t.given ∙ ap (λ z. z.given) (sym t.near)) g.within;
          notes = quiet_notes c w back down step h.near_has.notes stays.quiet (stays.up ∙ sym was_up);
        };
        far_has = rw far h.far_has;
        no_frmr = no_frmr_append w.sent step.side.out h.no_frmr (good_no_frmr d.longest step.side.out t.good);
        whole = each_append (IsWhole d.longest ((w.near.down ++ down) ++ w.far.down)) w.sent step.side.out
            (whole_more d.longest (w.near.down ++ w.far.down) ((w.near.down ++ down) ++ w.far.down) (first_more w.near.down w.far.down down) w.sent h.whole)
            (good_whole d.longest (w.near.down ++ down) w.far.down step.side.out t.good (rw g.given t.handed));
      })
    where
      sends : (m : Line (List ℕ)) (v z : Window) (fs : List PlainFrame) (t : Sent c.window d.window d.longest m v z fs) → m.near.sent ≡ l.near.sent
          → t.line.near ≡ z
          → t.behind ≡ given t.line.near.acked (length t.line.near.taken) l.near.sent fs
      sends m v z fs t same is =
          sent_given t ∙ ap (λ top. given z.acked (length z.taken) top fs) same
          ∙ ap (λ e. given e.acked (length e.taken) l.near.sent fs) (sym is)

  -- ---- what comes to an end that is Up

  abbrev is_some : Option (List ℕ) → Bool
  is_some None = false
  is_some (Some x) = true

  -- the line once its front frame has arrived
  abbrev come : Line (List ℕ) → Bool → Frame (List ℕ) → List (Frame (List ℕ)) → Line (List ℕ)
  come l b g gs = record { near = arrived b g l.near; far = l.far; out = l.out; back = gs }

  stage_arrives : {w : Stations} {l : Line (List ℕ)} → Joint c d w l → {os : List (List ℕ)} → AreOrderly (other c.role) c.longest os
      → (g : Frame (List ℕ)) {gs : List (Frame (List ℕ))} → l.back ≡ g ∷ gs
      → ShowAll (numbered_on (other c.role) c.longest os) gs → (packet : Option (List ℕ)) (v : Window) → arrived (is_some packet) g l.near ≡ v
      → MayTake (is_some packet) (length l.near.taken) g.carried → v.given ≡ l.near.given → w.near.up ++ option_to_list packet ≡ v.taken
      → Stage c d w l (come l (is_some packet) g gs) os [] packet v
  stage_arrives {w} {l} h orderly g is shows packet v near ok same_given taken =
      let e = l.near in
      let may = subst (λ bs. FrontMayBeTaken (is_some packet) (length e.taken) bs) (sym is) ok in
      record {
        reached = rw (sym (ap (λ bs. front_arrived (is_some packet) bs l) is)) (near_moves l (Arrives (is_some packet)) h.reached may);
        kept = subst (λ z. Kept z) (ap (λ bs. front_arrived (is_some packet) bs l) is) (Kept-moved (Arrives (is_some packet)) may h.kept);
        near = near;
        far = refl;
        out = refl;
        left = shows;
        orderly = orderly;
        given = append-nil w.near.down ∙ h.near_has.down ∙ sym same_given;
        taken = taken;
        within = subst (AllWithin d.longest) (sym same_given) h.near_has.within;
        same_sent = sym (ap (λ z. z.sent) near) ∙ arrived_sent (is_some packet) g.carried (after e (Hear (g.ack % 8)));
      }
    where
      arrived_sent : (b : Bool) (o : Option (Numbered (List ℕ))) (e : Window) → (takes_item b o e).sent ≡ e.sent
      arrived_sent true (Some q) e = refl
      arrived_sent true None e = refl
      arrived_sent false o e = refl

  hears_same : (s : LinkStation) (e : End (List ℕ)) (g : Frame (List ℕ)) (nr : ℕ) → window_of c.window s ≡ e → nr ≡ g.ack % 8 → after e (Hear (g.ack % 8))
      ≡ after (window_of c.window s) (Hear nr)
  hears_same s e g nr same is = ap (λ n. after e (Hear n)) (sym is) ∙ ap (λ z. after z (Hear nr)) (sym same)

  tell_stage : {w : Stations} {l : Line (List ℕ)} → Joint c d w l → AsUp c w.near.station l.near → {os : List (List ℕ)}
      → AreOrderly (other c.role) c.longest os → (g : Frame (List ℕ)) {gs : List (Frame (List ℕ))}
      → l.back ≡ g ∷ gs → ShowAll (numbered_on (other c.role) c.longest os) gs → (nr : ℕ) → nr ≡ g.ack % 8
      → Stage c d w l (come l false g gs) os [] None (after (window_of c.window w.near.station) (Hear nr))
  tell_stage {w} {l} h u {os} orderly g {gs} is shows nr number =
      stage_arrives h orderly g is shows None (after (window_of c.window w.near.station) (Hear nr)) (hears_same w.near.station l.near g nr u.same number) tt
      (ap (λ z. z.given) u.same) (append-nil w.near.up ∙ h.near_has.up ∙ sym (ap (λ z. z.taken) u.same))

  info_stage : {w : Stations} {l : Line (List ℕ)} → Joint c d w l → AsUp c w.near.station l.near → {os : List (List ℕ)}
      → AreOrderly (other c.role) c.longest os → {g : Frame (List ℕ)} {gs : List (Frame (List ℕ))}
      → l.back ≡ g ∷ gs → ShowAll (numbered_on (other c.role) c.longest os) gs → (ns nr : ℕ) (p : Bool) (x : List ℕ) → Shows (info ns nr p x) g
      → (packet : Option (List ℕ)) → MayHandUp (receives (info ns nr p x)) packet (window_of c.window w.near.station)
      → Stage c d w l (come l (is_some packet) g gs) os [] packet (after_input (receives (info ns nr p x)) packet (window_of c.window w.near.station))
  info_stage {w} {l} h u {os} orderly {g} {gs} is shows ns nr p x shown None up = tell_stage h u orderly g is shows nr shown.1
  info_stage {w} {l} h u {os} orderly {g} {gs} is shows ns nr p x shown (Some y) up =
      let e = l.near in
      let q = carried_of g.carried shown.0 in
      let heard : Window = after (window_of c.window w.near.station) (Hear nr) in
      stage_arrives h orderly g is shows (Some y) (after heard (Take 0 y))
      (ap (λ o. takes_item true o (after e (Hear (g.ack % 8)))) q.is
      ∙ ap (λ z. after z (Take 0 q.item.item)) (hears_same w.near.station e g nr u.same shown.1)
      ∙ ap (λ z. after heard (Take 0 z)) (sym q.same ∙ up.1))
      (rw q.is (sym q.number ∙ up.0 ∙ ap (λ z. length z.taken % 8) u.same))
      (ap (λ z. z.given) u.same)
      (ap (λ xs. xs ++ y ∷ []) (h.near_has.up ∙ sym (ap (λ z. z.taken) u.same)))

  numbered_joint : {w : Stations} {l : Line (List ℕ)} → Joint c d w l → AsUp c w.near.station l.near
      → (os : List (List ℕ)) {f : PlainFrame} (nr : ℕ) (step : LinkStep)
      (front : Front f (numbered_on (other c.role) c.longest os) l.back)
      → nr ≡ front.frame.ack % 8 → Follows (if_valid nr (window_of c.window w.near.station)) c.window (receives f) w.near.station step
      → ((packet : Option (List ℕ)) → MayHandUp (receives f) packet (window_of c.window w.near.station)
      → Stage c d w l (come l (is_some packet) front.frame front.others) os [] packet
      (after_input (receives f) packet (window_of c.window w.near.station)))
      → StepLeads c d w l (Some 0) os [] step
  numbered_joint {w} {l} h u os {f} nr step front number follows stage =
      let stays : Stays c.window (receives f) w.near.station step =
      subst (λ o. Follows o c.window (receives f) w.near.station step)
      (let e = l.near in let way = subst (λ bs. Way e l.far.taken (length l.far.taken) l.out bs) front.is h.kept.from_near in
      let valid = hears_valid front.others front.frame way in
      let there : if_valid (front.frame.ack % 8) e ≡ None = rw (valid.0, le-leb front.frame.ack e.sent valid.2) refl in
      ap (λ n. if_valid n (window_of c.window w.near.station)) number ∙ ap (λ z. if_valid (front.frame.ack % 8) z) u.same ∙ there) follows in
      stays_joint (come l (is_some step.packet) front.frame front.others) (Some 0) (sym (ap (λ bs. remove bs 0) front.is)) h u.up
      (stage step.packet stays.hands_up) stays

  -- ---- steps that bring nothing, and steps that leave

  quiet_stage : {w : Stations} {l : Line (List ℕ)} → Joint c d w l → AsUp c w.near.station l.near → {os : List (List ℕ)}
      → AreOrderly (other c.role) c.longest os → ShowAll (numbered_on (other c.role) c.longest os) l.back
      → (packet : Option (List ℕ)) → packet ≡ None → Stage c d w l l os [] packet (window_of c.window w.near.station)
  quiet_stage {w} h u orderly shows packet none =
      record {
        reached = h.reached;
        kept = h.kept;
        near = sym u.same;
        far = refl;
        out = refl;
        left = shows;
        orderly = orderly;
        given = append-nil w.near.down ∙ h.near_has.down ∙ sym (ap (λ z. z.given) u.same);
        taken = rw none (append-nil w.near.up ∙ h.near_has.up ∙ sym (ap (λ z. z.taken) u.same));
        within = subst (AllWithin d.longest) (sym (ap (λ z. z.given) u.same)) h.near_has.within;
        same_sent = ap (λ z. z.sent) u.same;
      }

  pub quiet_joint : {w : Stations} {l : Line (List ℕ)} → Joint c d w l → AsUp c w.near.station l.near → {os : List (List ℕ)}
      → AreOrderly (other c.role) c.longest os → ShowAll (numbered_on (other c.role) c.longest os) l.back
      → {input : Input} {step : LinkStep} → after_input input step.packet (window_of c.window w.near.station) ≡ window_of c.window w.near.station
      → ((y : List ℕ) → MayHandUp input (Some y) (window_of c.window w.near.station) → ⊥)
      → Stays c.window input w.near.station step → StepLeads c d w l None os [] step
  quiet_joint {w} {l} h u {os} orderly shows {input} {step} same never stays =
      stays_joint l None refl h u.up
      (rw same (quiet_stage h u orderly shows step.packet (no_packet_of input step.packet (window_of c.window w.near.station) never stays.hands_up))) stays

  -- a station that leaves or is out: a numbered frame that comes to it is lost to the machine
  pub parts_joint : {w : Stations} {l : Line (List ℕ)} → Joint c d w l → (gone : Option ℕ) {os : List (List ℕ)} {step : LinkStep}
      → ShowAll (numbered_on (other c.role) c.longest os) (taken_out gone l.back) → AreOrderly (other c.role) c.longest os
      → Parts w.near.station step → StepLeads c d w l gone os [] step
  parts_joint {w} {l} h gone {os} {step} shows orderly parts =
      subst (Joint c d (after_step c w os [] step))
      (machine_is c step.side.near (map (spelling_of c.role) step.side.out) gone l
      (sym (counted_off c.window step.side.near l.near off)) refl
      (none_put l l.near.acked (length l.near.taken) (numbered_on c.role c.longest (map (spelling_of c.role) step.side.out))
      (parting_numbered reads c.role c.longest step.side.out each)) refl)
      (record {
        reached = (lost h gone).0;
        kept = (lost h gone).1;
        near = inr parts.away;
        far = h.far;
        out = subst (ShowAll (numbered_on (other d.role) d.longest (w.out ++ map (spelling_of c.role) step.side.out))) (append-nil l.out)
            (numbers_out w.out step.side.out [] l.out [] (parting_numbered reads c.role d.longest step.side.out each) h.out tt);
        back = shows;
        out_orderly = orderly_out w.out step.side.out (parting_orderly reads c.role d.longest step.side.out each) h.out_orderly;
        back_orderly = orderly;
        near_has = record {
          down = append-nil w.near.down ∙ h.near_has.down;
          up = rw parts.packet (append-nil w.near.up ∙ h.near_has.up);
          within = h.near_has.within;
          notes = noted_once c w os step h.near_has.notes off parts.noted;
        };
        far_has = h.far_has;
        no_frmr = no_frmr_append w.sent step.side.out h.no_frmr (parting_no_frmr step.side.out each);
        whole = each_append (IsWhole d.longest ((w.near.down ++ []) ++ w.far.down)) w.sent step.side.out
            (whole_more d.longest (w.near.down ++ w.far.down) ((w.near.down ++ []) ++ w.far.down) (first_more w.near.down w.far.down []) w.sent h.whole)
            (parting_whole d.longest ((w.near.down ++ []) ++ w.far.down) step.side.out each);
      })
    where
      off : is_up step.side.near.phase ≡ false
      off = parts.away.away

      each : Each IsPart step.side.out
      each = parts_of step.side.out parts.frames

  -- the near end leaves Up
  pub ends_joint : {w : Stations} {l : Line (List ℕ)} → Joint c d w l → is_up w.near.station.phase ≡ true
      → {os : List (List ℕ)} {step : LinkStep} {reason : Reason} → Leaves reason
      → ShowAll (numbered_on (other c.role) c.longest os) l.back → AreOrderly (other c.role) c.longest os
      → Tells w.near.station step → Ends reason step → StepLeads c d w l None os [] step
  ends_joint {w} {l} h up {os} {step} {reason} leaves shows orderly tells ends = parts_joint h None shows orderly (ends_parts up leaves tells ends)

  -- ---- what comes, by what it reads as

  told_joint : {w : Stations} {l : Line (List ℕ)} → Joint c d w l → AsUp c w.near.station l.near
      → {os : List (List ℕ)} (f : PlainFrame) (nr : ℕ) (step : LinkStep)
      → AreOrderly (other c.role) c.longest os → ShowAll (f ∷ numbered_on (other c.role) c.longest os) l.back
      → ((g : Frame (List ℕ)) → Shows f g → nr ≡ g.ack % 8)
      → Follows (if_valid nr (window_of c.window w.near.station)) c.window (receives f) w.near.station step
      → ((packet : Option (List ℕ)) → after_input (receives f) packet (window_of c.window w.near.station) ≡ after (window_of c.window w.near.station) (Hear nr))
      → ((y : List ℕ) → MayHandUp (receives f) (Some y) (window_of c.window w.near.station) → ⊥)
      → StepLeads c d w l (Some 0) os [] step
  told_joint {w} {l} h u {os} f nr step orderly shows number follows hears never =
      let front = front_of f (numbered_on (other c.role) c.longest os) l.back shows in
      let told = number front.frame front.shows in
      numbered_joint h u os nr step front told follows
      (λ packet up. rw (hears packet, no_packet_of (receives f) packet (window_of c.window w.near.station) never up)
      (tell_stage h u orderly front.frame front.is front.rest_shows nr told))

  -- octets come to an end that is Up
  pub read_joint : {w : Stations} {l : Line (List ℕ)} → Joint c d w l → AsUp c w.near.station l.near
      → (r : Result PlainFrame FrameError) {os : List (List ℕ)} {step : LinkStep}
      → IsOrderly r → sabm_of (said r) ≡ 0 → AreOrderly (other c.role) c.longest os
      → ShowAll (consed (number_in r) (numbered_on (other c.role) c.longest os)) l.back → Tells w.near.station step
      → Follows (ending_of r (window_of c.window w.near.station)) c.window (brought_by r) w.near.station step
      → StepLeads c d w l (first_of (number_in r)) os [] step
  read_joint {w} {l} h u (Ok (info ns nr p x)) {os} {step} good none orderly shows tells follows =
      let front = front_of (info ns nr p x) (numbered_on (other c.role) c.longest os) l.back shows in
      numbered_joint h u os nr step front front.shows.1 follows (info_stage h u orderly front.is front.rest_shows ns nr p x front.shows)
  read_joint {w} {l} h u (Ok (rr command nr pf)) {os} {step} good none orderly shows tells follows =
      told_joint h u (rr command nr pf) nr step orderly shows (λ g shown. shown.1) follows (λ packet. refl) (λ y k. k)
  read_joint {w} {l} h u (Ok (rnr command nr pf)) {os} {step} good none orderly shows tells follows =
      told_joint h u (rnr command nr pf) nr step orderly shows (λ g shown. shown.1) follows (λ packet. refl) (λ y k. k)
  read_joint {w} {l} h u (Ok (rej command nr pf)) {os} {step} good none orderly shows tells follows =
      told_joint h u (rej command nr pf) nr step orderly shows (λ g shown. shown.1) follows (λ packet. refl) (λ y k. k)
  read_joint {w} {l} h u (Ok (disc p)) {os} {step} good none orderly shows tells follows = ends_joint h u.up tt shows orderly tells follows
  read_joint {w} {l} h u (Ok (ua f)) {os} {step} good none orderly shows tells follows = quiet_joint h u orderly shows refl (λ y k. k) follows
  read_joint {w} {l} h u (Ok (dm f)) {os} {step} good none orderly shows tells follows = ends_joint h u.up tt shows orderly tells follows
  read_joint {w} {l} h u (Err Short) {os} {step} good none orderly shows tells follows = quiet_joint h u orderly shows refl (λ y k. k) follows
  read_joint {w} {l} h u (Err BadFcs) {os} {step} good none orderly shows tells follows = quiet_joint h u orderly shows refl (λ y k. k) follows
  read_joint {w} {l} h u (Err BadAddress) {os} {step} good none orderly shows tells follows = quiet_joint h u orderly shows refl (λ y k. k) follows
  read_joint h u (Ok (sabm p)) good none orderly shows tells follows = absurd (omega (arith, none))
  read_joint h u r good none orderly shows tells follows = absurd good

  -- ---- what comes to an end that isn't Up

  pub away_joint : {w : Stations} {l : Line (List ℕ)} → Joint c d w l → (m : Option PlainFrame) {os : List (List ℕ)} {step : LinkStep}
      → AreOrderly (other c.role) c.longest os → ShowAll (consed m (numbered_on (other c.role) c.longest os)) l.back → Parts w.near.station step
      → StepLeads c d w l (first_of m) os [] step
  away_joint {l = l} h m {os} orderly shows = parts_joint h (first_of m) (shows_first m (numbered_on (other c.role) c.longest os) l.back shows) orderly
