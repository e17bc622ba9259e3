-- A step of the world, as it is told.
use Rattle.x25_sim.proofs.Names.{◌≡◌, ◌∙◌, ℕ, Bool, true, false, List, [], ◌∷◌, ◌++◌, length, drop, map, Some, None, append_assoc, ap, sym, refl, append-nil}
use Rattle.x25_sim.proofs.Names.{Role, Dte, Cfg, World, start, OnTap, Event, WorldOutcome, Happened, Declined, refusal_of, after, FitsWorld, WorldError, taps}
use Rattle.x25_sim.proofs.Names.{refuses, sayings_text, saying_line, has_refusal, refusal_line, quiet, and_then, frames_if, marked, told_between, turn_of}
use Rattle.std.proofs.{Math.Seq.{drop-append_seam}, lemmas.Option.{same_Some}}
use Rattle.x25_sim.{proofs.Names.{tried_of, Shown}, proofs.SayingLemmas.{text-append}, specs.Stage.{frames_told, step_told}}
use Rattle.x25_sim.specs.{Telling.{enters, enters_at, refusal_number}, code.Stands.{opening}}
use Rattle.x25_station.specs.Entry.{StationEntry}
use Rattle.x25_world.proofs.Established.{connected_tells, connected_taps}
use Rattle.x25_world.specs.{World.{entered, tapped, AtEnd}, code.ShownWorld.{ShownWorld, line_from}}

entries_first : (shown : Shown) (entries : List AtEnd) (frames : List OnTap)
    → sayings_text (step_told shown entries frames) ≡ sayings_text (map enters entries) ++ sayings_text (frames_told shown frames)
entries_first shown entries frames = text-append (map enters entries) (frames_told shown frames)

-- the entries of an end
enters_all : (at : Role) (entries : List StationEntry) → map enters (entered at entries) ≡ map (enters_at at) entries
enters_all at [] = refl
enters_all at (e ∷ entries) = ap (λ l. enters_at at e ∷ l) (enters_all at entries)

-- the entries that a step handed over, and behind them what is new on the tap
pub told_by : (shown : Shown) (w next : World) (at : Role) (entries : List StationEntry) → next.transcript ≡ w.transcript ++ entered at entries
    → sayings_text (told_between shown w next) ≡ sayings_text (map (enters_at at) entries) ++ sayings_text (frames_told shown (drop (length w.tap) next.tap))
told_by shown w next at entries told =
    let new = ap (drop (length w.transcript)) told ∙ drop-append_seam w.transcript (entered at entries) in
    entries_first shown (drop (length w.transcript) next.transcript) (drop (length w.tap) next.tap)
    ∙ ap (λ es. sayings_text es ++ sayings_text (frames_told shown (drop (length w.tap) next.tap))) (ap (map enters) new ∙ enters_all at entries)

pub told_alone : (shown : Shown) (told : List ℕ) (w next : World) (at : Role) (entries : List StationEntry) → shown.tap ≡ false → next.transcript
    ≡ w.transcript ++ entered at entries
    → told ++ sayings_text (map (enters_at at) entries) ≡ told ++ sayings_text (told_between shown w next)
told_alone shown told w next at entries off is =
    let text = sayings_text (map (enters_at at) entries) in
    ap (λ t. told ++ t) (sym (told_by shown w next at entries is ∙ ap (λ b. text ++ sayings_text (frames_if b (drop (length w.tap) next.tap))) off
    ∙ append-nil text))

pub told_with_frames : (shown : Shown) (told : List ℕ) (w next : World) (at : Role) (entries : List StationEntry) (put : List (List ℕ)) → shown.tap ≡ true
    → next.transcript ≡ w.transcript ++ entered at entries → next.tap ≡ w.tap ++ tapped at put
    → (told ++ sayings_text (map (enters_at at) entries)) ++ sayings_text (map taps (tapped at put)) ≡ told ++ sayings_text (told_between shown w next)
told_with_frames shown told w next at entries put on is behind =
    let frames = ap (drop (length w.tap)) behind ∙ drop-append_seam w.tap (tapped at put) in
    let text = sayings_text (map (enters_at at) entries) in
    append_assoc told text (sayings_text (map taps (tapped at put)))
    ∙ ap (λ t. told ++ t) (ap (λ fs. text ++ sayings_text (map taps fs)) (sym frames)
    ∙ ap (λ b. text ++ sayings_text (frames_if b (drop (length w.tap) next.tap))) (sym on) ∙ sym (told_by shown w next at entries is))

-- of the first world, of which no entry tells
first_told : (cfg : Cfg) (down : Bool) → (opening cfg down).transcript ≡ []
first_told cfg true = refl
first_told cfg false = connected_tells cfg

-- its frames are on the line to the DCE
first_put : (cfg : Cfg) (down : Bool) → (opening cfg down).tap ≡ tapped Dte (opening cfg down).out
first_put cfg true = refl
first_put cfg false = connected_taps cfg

pub first_frames : (cfg : Cfg) (shown : Shown) (down : Bool) (told : List ℕ) (v : ShownWorld) → shown.tap ≡ true → FitsWorld cfg v (opening cfg down)
    → told ++ sayings_text (map taps (tapped Dte (drop 0 (line_from v Dte)))) ≡ told ++ sayings_text (told_between shown start (opening cfg down))
first_frames cfg shown down told v on f =
    let frames = first_put cfg down ∙ ap (λ frames. tapped Dte frames) (sym f.to_dce) in
    ap (λ t. told ++ t) (sym (told_by shown start (opening cfg down) Dte [] (first_told cfg down)
    ∙ ap (λ b. sayings_text (frames_if b (opening cfg down).tap)) on ∙ ap (λ fs. sayings_text (map taps fs)) frames))

pub first_alone : (cfg : Cfg) (shown : Shown) (down : Bool) (told : List ℕ) → shown.tap ≡ false → told ≡ told
    ++ sayings_text (told_between shown start (opening cfg down))
first_alone cfg shown down told off = sym (append-nil told) ∙ ap (λ t. told ++ t) (sym (told_by shown start (opening cfg down) Dte [] (first_told cfg down)
    ∙ ap (λ b. sayings_text (frames_if b (opening cfg down).tap)) off))

-- ---- how it comes out

pub happened_turn : (shown : Shown) (w : World) (o : WorldOutcome) → refusal_of o ≡ None → turn_of shown w o
    ≡ record { next = after w o; sayings = told_between shown w (after w o) }
happened_turn shown w (Happened next) e = refl
happened_turn shown w (Declined error) e = absurd (cc)

pub declined_turn : (shown : Shown) (w : World) (o : WorldOutcome) (error : WorldError) → refusal_of o ≡ Some error → turn_of shown w o
    ≡ record { next = w; sayings = refuses error ∷ [] }
declined_turn shown w (Happened next) error e = absurd (cc)
declined_turn shown w (Declined found) error e = ap (λ x. record { next = w; sayings = refuses x ∷ [] }) (same_Some found error e)

pub happened_tried : (shown : Shown) (event : Event) (w : World) (o : WorldOutcome) → refusal_of o ≡ None → tried_of shown event w o
    ≡ and_then (marked shown event) (turn_of shown w o)
happened_tried shown event w (Happened next) e = refl
happened_tried shown event w (Declined error) e = absurd (cc)

pub declined_tried : (shown : Shown) (event : Event) (w : World) (o : WorldOutcome) (error : WorldError) → refusal_of o ≡ Some error → tried_of shown event w o
    ≡ quiet w
declined_tried shown event w (Happened next) error e = absurd (cc)
declined_tried shown event w (Declined found) error e = refl

-- entries and frames are no refusals
none_refused : (shown : Shown) (entries : List AtEnd) (frames : List OnTap) → has_refusal (step_told shown entries frames) ≡ false
none_refused shown [] frames = by_tap shown.tap frames
  where
    no_frame : (frames : List OnTap) → has_refusal (map taps frames) ≡ false
    no_frame [] = refl
    no_frame (f ∷ frames) = no_frame frames

    by_tap : (tap : Bool) (frames : List OnTap) → has_refusal (frames_if tap frames) ≡ false
    by_tap true frames = no_frame frames
    by_tap false frames = refl
none_refused shown (e ∷ entries) frames = none_refused shown entries frames

pub step_accepts : (shown : Shown) (w next : World) → has_refusal (told_between shown w next) ≡ false
step_accepts shown w next = none_refused shown (drop (length w.transcript) next.transcript) (drop (length w.tap) next.tap)

pub refusal_told : (error : WorldError) → sayings_text (refuses error ∷ []) ≡ refusal_line (refusal_number error)
unfolding saying_line
refusal_told error = append-nil (refusal_line (refusal_number error))
