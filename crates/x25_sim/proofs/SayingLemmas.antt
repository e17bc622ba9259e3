-- The text of what is said, one saying after another.
use Rattle.x25_sim.proofs.Names.{◌≡◌, ◌∙◌, ◌<◌, ℕ, List, [], ◌∷◌, ◌++◌, Some, None, length, drop, map, ap, refl, sym, arith, append-nil, Role, OnTap, Saying}
use Rattle.std.proofs.{Common.{◌+◌, ◌≤◌, slice_get, take, get_or}, lemmas.Grind.{flat_map-append}}
use Rattle.std.proofs.lemmas.{List.{map-append, take_more, take-append-drop, drop-append-le, length-take-le}, Option.{get_or_from_slice_get, slice_get-get_or}}
use Rattle.x25_console.specs.Telling.{entries_text}
use Rattle.x25_sim.{proofs.Names.{taps, saying_line, sayings_text}, specs.Telling.{enters_at}}
use Rattle.x25_station.specs.Entry.{StationEntry}
use Rattle.x25_transcript.specs.EntryText.{entry_line}
use Rattle.x25_world.specs.World.{tapped}

pub text-append : (xs ys : List Saying) → sayings_text (xs ++ ys) ≡ sayings_text xs ++ sayings_text ys
text-append xs ys = flat_map-append saying_line xs ys

-- the lines of entries
pub entries_said : (at : Role) (entries : List StationEntry) → entries_text at entries ≡ sayings_text (map (enters_at at) entries)
unfolding saying_line
entries_said at [] = refl
entries_said at (e ∷ entries) = ap (λ text. entry_line at e ++ text) (entries_said at entries)

module _ {X Y : Type 0} (plain : X → Y) (says : Y → Saying) where
  -- what is said of some
  abbrev pub text_of_all : List X → List ℕ
  text_of_all xs = sayings_text (map says (map plain xs))

  all-append : (xs ys : List X) → text_of_all (xs ++ ys) ≡ text_of_all xs ++ text_of_all ys
  all-append xs ys = ap (λ zs. sayings_text (map says zs)) (map-append plain xs ys) ∙ ap sayings_text (map-append says (map plain xs) (map plain ys))
      ∙ text-append (map says (map plain xs)) (map says (map plain ys))

  one : (x : X) → text_of_all (x ∷ []) ≡ saying_line (says (plain x))
  one x = append-nil (saying_line (says (plain x)))

-- ---- frames on the line, which an end put behind so many that were there before

-- the octets at this place
at_place : (frames : List (List ℕ)) (place : ℕ) (octets : List ℕ) → Some octets ≡ slice_get frames place → get_or frames place octets ≡ octets
at_place frames place octets is = get_or_from_slice_get frames place octets octets (sym is)

put_more : (frames : List (List ℕ)) (before place : ℕ) (octets : List ℕ) → before ≤ place → place < length frames → Some octets ≡ slice_get frames place
    → drop before (take (place + 1) frames) ≡ drop before (take place frames) ++ octets ∷ []
put_more frames before place octets behind within is =
    let len : length (take place frames) ≡ place = length-take-le place frames (omega arith) in
    ap (drop before) (take_more frames place octets within) ∙ drop-append-le before (take place frames) (get_or frames place octets ∷ []) (omega arith)
    ∙ ap (λ (o : List ℕ). drop before (take place frames) ++ o ∷ []) (at_place frames place octets is)

put_parts : (frames : List (List ℕ)) (before place : ℕ) → before ≤ place → place < length frames
    → drop before frames ≡ drop before (take (place + 1) frames) ++ drop (place + 1) frames
put_parts frames before place behind within =
    let len : length (take (place + 1) frames) ≡ place + 1 = length-take-le (place + 1) frames (omega arith) in
    ap (drop before) (sym (take-append-drop (place + 1) frames)) ∙ drop-append-le before (take (place + 1) frames) (drop (place + 1) frames) (omega arith)

-- something stands at each place
pub none_there : {A : Type 0} (frames : List (List ℕ)) (place : ℕ) → place < length frames → None ≡ slice_get frames place → A
none_there {A} frames place within none = absurd (never (none ∙ slice_get-get_or frames place [] within))
  where
    never : {x : List ℕ} → None ≡ Some x → ⊥
    never e = cc

module _ (from : Role) where
  abbrev frame_put : List ℕ → OnTap
  frame_put octets = record { from = from; octets = octets }

  -- what is said of frames
  abbrev pub frames_text : List (List ℕ) → List ℕ
  frames_text frames = sayings_text (map taps (tapped from frames))

  module _ (frames : List (List ℕ)) (before : ℕ) where
    -- of one more
    pub frame_more : (place : ℕ) (octets : List ℕ) → before ≤ place → place < length frames → Some octets ≡ slice_get frames place
        → frames_text (drop before (take (place + 1) frames)) ≡ frames_text (drop before (take place frames)) ++ saying_line (taps (frame_put octets))
    frame_more place octets behind within is =
        ap frames_text (put_more frames before place octets behind within is) ∙ all-append frame_put taps (drop before (take place frames)) (octets ∷ [])
        ∙ ap (λ t. frames_text (drop before (take place frames)) ++ t) (one frame_put taps octets)

    -- of those before a place, of the one there, and of the rest
    pub frame_parts : (place : ℕ) (octets : List ℕ) → before ≤ place → place < length frames → Some octets ≡ slice_get frames place
        → frames_text (drop before frames) ≡ (frames_text (drop before (take place frames)) ++ saying_line (taps (frame_put octets)))
        ++ frames_text (drop (place + 1) frames)
    frame_parts place octets behind within is =
        ap frames_text (put_parts frames before place behind within)
        ∙ all-append frame_put taps (drop before (take (place + 1) frames)) (drop (place + 1) frames)
        ∙ ap (λ t. t ++ frames_text (drop (place + 1) frames)) (frame_more place octets behind within is)
