-- Where the simulator stands after a turn.
use Rattle.x25_sim.proofs.Names.{◌≡◌, ◌∙◌, ℕ, Bool, true, false, List, [], ◌∷◌, ◌++◌, Option, Some, None, append_assoc, ap, sym, subst, refl, append-nil}
use Rattle.x25_sim.proofs.Names.{AppendsPrefix, Dte, Dce, Cfg, World, WorldOutcome, Event, Receives, Happened, Declined, happens, refusal_of, after, start}
use Rattle.x25_sim.proofs.Names.{FitsWorld, WorldError, Shown, Stage, Saying, refuses, sayings_text, saying_line, has_refusal, Turn, quiet, and_then, frames_if}
use Rattle.x25_sim.proofs.Names.{marked, turn_of, tried_of, tried, event_turn, told_between, asked_turn, set_up, opened, Stands, refusal_line}
use Rattle.std.proofs.{Common.{codes, inl, inr}, Math.Bool.{or_assoc, or-false, or-true}, lemmas.List.Folds.{list_any-append}}
use Rattle.std.specs.Prelude.{◌⊎◌, ◌||◌}
use Rattle.x25_io.proofs.ToldLemmas.{prefix_more}
use Rattle.x25_io.specs.code.Written.{Tells}
use Rattle.x25_sim.proofs.{SayingLemmas.{text-append}, StepLemmas.{happened_turn, declined_turn, happened_tried, declined_tried, step_accepts, refusal_told}}
use Rattle.x25_sim.specs.{Stage.{marks_if, connecting}, Telling.{reads_nothing, mark_line, refusal_number, is_refusal}, code.Stands.{opening}}
use Rattle.x25_world.specs.World.{AreAccepted, connected}

-- where it stands, by the turn that led there
abbrev pub StandsAt : Cfg → Shown → Option (List ℕ) → Option (List ℕ) → Stage → List ℕ → Bool → Turn → Type 0
StandsAt cfg shown old next u told refused t = Stands cfg shown old next u t.next (told ++ sayings_text t.sayings) (refused || has_refusal t.sayings)

abbrev pub BeginsAt : Option (List ℕ) → Option (List ℕ) → List ℕ → Turn → Type 0
BeginsAt old next told t = AppendsPrefix old next (told ++ sayings_text t.sayings)

module _ (cfg : Cfg) (shown : Shown) (old now next : Option (List ℕ)) (s u : Stage) (w : World) (o : WorldOutcome) (told : List ℕ) (refused : Bool)
    (h : Stands cfg shown old now s w told refused) where
  -- ---- an event happened

  module _ (accepted : refusal_of o ≡ None) where
    pub stands_moved : FitsWorld cfg u.world (after w o) → u.shown ≡ s.shown → u.is_refused ≡ s.is_refused
        → Tells old next u.output (told ++ sayings_text (told_between s.shown w (after w o))) → StandsAt cfg shown old next u told refused (turn_of shown w o)
    stands_moved fits asked status tells =
        let moved : Turn = record { next = after w o; sayings = told_between shown w (after w o) } in
        let stands : StandsAt cfg shown old next u told refused moved = record {
          fits = fits;
          asked = asked ∙ h.asked;
          tells = subst (λ b. Tells old next u.output (told ++ sayings_text (told_between b w (after w o)))) h.asked tells;
          status = status ∙ h.status ∙ sym (or-false refused) ∙ ap (λ b. refused || b) (sym (step_accepts shown w (after w o)));
        } in
        subst (StandsAt cfg shown old next u told refused) (sym (happened_turn shown w o accepted)) stands

    pub begins_moved : AppendsPrefix old next (told ++ sayings_text (told_between s.shown w (after w o))) → BeginsAt old next told (turn_of shown w o)
    begins_moved b =
        subst (BeginsAt old next told) (sym (happened_turn shown w o accepted))
        (subst (λ a. AppendsPrefix old next (told ++ sayings_text (told_between a w (after w o)))) h.asked b)

  -- ---- an event was refused

  module _ (error : WorldError) (refusal : refusal_of o ≡ Some error) where
    pub stands_refused : u.world ≡ s.world → u.shown ≡ s.shown → u.is_refused ≡ true → Tells old next u.output (told ++ refusal_line (refusal_number error))
        → StandsAt cfg shown old next u told refused (turn_of shown w o)
    stands_refused world asked status tells =
        let declined : Turn = record { next = w; sayings = refuses error ∷ [] } in
        let stands : StandsAt cfg shown old next u told refused declined = record {
          fits = subst (λ v. FitsWorld cfg v w) (sym world) h.fits;
          asked = asked ∙ h.asked;
          tells = subst (λ t. Tells old next u.output (told ++ t)) (sym (refusal_told error)) tells;
          status = status ∙ sym (or-true refused);
        } in
        subst (StandsAt cfg shown old next u told refused) (sym (declined_turn shown w o error refusal)) stands

    pub begins_refused : AppendsPrefix old next (told ++ refusal_line (refusal_number error)) → BeginsAt old next told (turn_of shown w o)
    begins_refused b =
        subst (BeginsAt old next told) (sym (declined_turn shown w o error refusal))
        (subst (λ t. AppendsPrefix old next (told ++ t)) (sym (refusal_told error)) b)

    -- nothing is said of the refusal
    pub stands_left_out : (event : Event) → FitsWorld cfg u.world w → u.shown ≡ s.shown → u.is_refused ≡ s.is_refused → Tells old next u.output told
        → StandsAt cfg shown old next u told refused (tried_of shown event w o)
    stands_left_out event fits asked status tells =
        let stays : StandsAt cfg shown old next u told refused (quiet w) = record {
          fits = fits;
          asked = asked ∙ h.asked;
          tells = subst (Tells old next u.output) (sym (append-nil told)) tells;
          status = status ∙ h.status ∙ sym (or-false refused);
        } in
        subst (StandsAt cfg shown old next u told refused) (sym (declined_tried shown event w o error refusal)) stays

pub refusal_is : {P Q : Type 0} → P ⊎ Q → (Q → ⊥) → P
refusal_is (inl p) other = p
refusal_is (inr q) other = absurd (other q)

-- a line that isn't in the grammar
nothing_read : sayings_text (reads_nothing ∷ []) ≡ codes "? 60\n"
unfolding saying_line
nothing_read = refl

module _ (cfg : Cfg) (shown : Shown) (old now next : Option (List ℕ)) (s u : Stage) (w : World) (told : List ℕ) (refused : Bool)
    (h : Stands cfg shown old now s w told refused) where
  pub stands_unread : u.world ≡ s.world → u.shown ≡ s.shown → u.is_refused ≡ true → Tells old next u.output (told ++ codes "? 60\n")
      → StandsAt cfg shown old next u told refused (asked_turn cfg shown w None)
  stands_unread world asked status tells = record {
    fits = subst (λ v. FitsWorld cfg v w) (sym world) h.fits;
    asked = asked ∙ h.asked;
    tells = subst (λ t. Tells old next u.output (told ++ t)) (sym nothing_read) tells;
    status = status ∙ sym (or-true refused);
  }

pub begins_unread : (cfg : Cfg) (shown : Shown) (old next : Option (List ℕ)) (w : World) (told : List ℕ) → AppendsPrefix old next (told ++ codes "? 60\n")
    → BeginsAt old next told (asked_turn cfg shown w None)
begins_unread cfg shown old next w told b = subst (λ t. AppendsPrefix old next (told ++ t)) (sym nothing_read) b

-- ---- an event is told

marks_text : (events : Bool) (e : Event) → events ≡ true → sayings_text (marks_if events e) ≡ mark_line e
unfolding saying_line
marks_text true e on = append-nil (mark_line e)
marks_text false e on = absurd (cc)

no_marks_text : (events : Bool) (e : Event) → events ≡ false → sayings_text (marks_if events e) ≡ []
no_marks_text true e off = absurd (cc)
no_marks_text false e off = refl

no_mark_refuses : (events : Bool) (e : Event) → has_refusal (marks_if events e) ≡ false
no_mark_refuses true e = refl
no_mark_refuses false e = refl

module _ (cfg : Cfg) (shown : Shown) (old now next : Option (List ℕ)) (s u : Stage) (w : World) (e : Event) (told : List ℕ) (refused : Bool)
    (h : Stands cfg shown old now s w told refused) where
  stands_so : u.world ≡ s.world → u.shown ≡ s.shown → u.is_refused ≡ s.is_refused → Tells old next u.output (told ++ sayings_text (marks_if shown.events e))
      → StandsAt cfg shown old next u told refused (marked shown e w)
  stands_so world asked status tells = record {
    fits = subst (λ v. FitsWorld cfg v w) (sym world) h.fits;
    asked = asked ∙ h.asked;
    tells = tells;
    status = status ∙ h.status ∙ sym (or-false refused) ∙ ap (λ b. refused || b) (sym (no_mark_refuses shown.events e));
  }

  are_told : s.shown.events ≡ true → shown.events ≡ true
  are_told on = sym (ap (λ (x : Shown). x.events) h.asked) ∙ on

  pub stands_marked : s.shown.events ≡ true → u.world ≡ s.world → u.shown ≡ s.shown → u.is_refused ≡ s.is_refused
      → Tells old next u.output (told ++ mark_line e)
      → StandsAt cfg shown old next u told refused (marked shown e w)
  stands_marked on world asked status tells = stands_so world asked status
      (subst (λ t. Tells old next u.output (told ++ t)) (sym (marks_text shown.events e (are_told on))) tells)

  pub begins_marked : s.shown.events ≡ true → AppendsPrefix old next (told ++ mark_line e) → BeginsAt old next told (marked shown e w)
  begins_marked on b = subst (λ t. AppendsPrefix old next (told ++ t)) (sym (marks_text shown.events e (are_told on))) b

  pub stands_unmarked : s.shown.events ≡ false → u.world ≡ s.world → u.shown ≡ s.shown → u.is_refused ≡ s.is_refused → Tells old next u.output told
      → StandsAt cfg shown old next u told refused (marked shown e w)
  stands_unmarked off world asked status tells = stands_so world asked status
      (subst (Tells old next u.output) (sym (append-nil told)
      ∙ ap (λ t. told ++ t) (sym (no_marks_text shown.events e (sym (ap (λ (x : Shown). x.events) h.asked) ∙ off)))) tells)

-- ---- one turn behind another

-- what is said in two parts
pub parts_text : (told : List ℕ) (first second : List Saying) → (told ++ sayings_text first) ++ sayings_text second ≡ told ++ sayings_text (first ++ second)
parts_text told first second = append_assoc told (sayings_text first) (sayings_text second) ∙ ap (λ t. told ++ t) (sym (text-append first second))

pub parts_refused : (refused : Bool) (first second : List Saying) → ((refused || has_refusal first) || has_refusal second)
    ≡ (refused || has_refusal (first ++ second))
parts_refused refused first second = or_assoc refused (has_refusal first) (has_refusal second)
    ∙ ap (λ b. refused || b) (sym (list_any-append is_refusal first second))

module _ (cfg : Cfg) (shown : Shown) (old next : Option (List ℕ)) (u : Stage) (told : List ℕ) (refused : Bool) (rest : World → Turn) (t : Turn) where
  pub stands_behind : StandsAt cfg shown old next u (told ++ sayings_text t.sayings) (refused || has_refusal t.sayings) (rest t.next)
      → StandsAt cfg shown old next u told refused (and_then rest t)
  stands_behind h =
      subst (λ text. Stands cfg shown old next u (rest t.next).next text (refused || has_refusal (and_then rest t).sayings))
      (parts_text told t.sayings (rest t.next).sayings)
      (subst (Stands cfg shown old next u (rest t.next).next ((told ++ sayings_text t.sayings) ++ sayings_text (rest t.next).sayings))
      (parts_refused refused t.sayings (rest t.next).sayings) h)

  pub begins_behind : BeginsAt old next (told ++ sayings_text t.sayings) (rest t.next) → BeginsAt old next told (and_then rest t)
  begins_behind b = subst (AppendsPrefix old next) (parts_text told t.sayings (rest t.next).sayings) b

  pub begins_before : BeginsAt old next told t → BeginsAt old next told (and_then rest t)
  begins_before b =
      subst (AppendsPrefix old next) (parts_text told t.sayings (rest t.next).sayings)
      (prefix_more old next (told ++ sayings_text t.sayings) (sayings_text (rest t.next).sayings) b)

-- ---- before the script

-- the first world, and what is said of it
abbrev pub first_turn : Cfg → Bool → Shown → Turn
first_turn cfg down shown = record { next = opening cfg down; sayings = told_between shown start (opening cfg down) }

pub stands_first : (cfg : Cfg) (down : Bool) (shown : Shown) (old next : Option (List ℕ)) (u : Stage) → FitsWorld cfg u.world (opening cfg down) → u.shown
    ≡ shown
    → u.is_refused ≡ false → Tells old next u.output (sayings_text (told_between shown start (opening cfg down)))
    → StandsAt cfg shown old next u [] false (first_turn cfg down shown)
stands_first cfg down shown old next u fits asked status tells =
    record { fits = fits; asked = asked; tells = tells; status = status ∙ sym (step_accepts shown start (opening cfg down)) }

abbrev sabm_arrives : Event
sabm_arrives = record { at = Dce; act = Receives }

abbrev ua_arrives : Event
ua_arrives = record { at = Dte; act = Receives }

-- both deliveries, each where it isn't refused
abbrev pub deliveries : Cfg → Shown → World → Turn
deliveries cfg shown w = and_then (tried cfg shown ua_arrives) (tried cfg shown sabm_arrives w)

accepted_turn : (cfg : Cfg) (shown : Shown) (e : Event) (w : World) → refusal_of (happens cfg w e) ≡ None → tried cfg shown e w ≡ event_turn cfg shown e w
unfolding tried event_turn
accepted_turn cfg shown e w accepted = happened_tried shown e w (happens cfg w e) accepted

turned_at : (cfg : Cfg) (shown : Shown) (e : Event) (w : World) → (event_turn cfg shown e w).next ≡ after w (happens cfg w e)
unfolding event_turn
turned_at cfg shown e w = go (happens cfg w e)
  where
    go : (o : WorldOutcome) → (turn_of shown w o).next ≡ after w o
    go (Happened next) = refl
    go (Declined error) = refl

no_frames : (tap : Bool) → frames_if tap [] ≡ []
no_frames true = refl
no_frames false = refl

-- SABM and UA are there where the DTE has asked, and nothing is on the line where both links are down
pub opens : (cfg : Cfg) (down : Bool) (shown : Shown) → AreAccepted cfg (sabm_arrives ∷ ua_arrives ∷ []) (connected cfg)
    → and_then (deliveries cfg shown) (first_turn cfg down shown) ≡ opened cfg down shown
unfolding tried set_up
opens cfg true shown accepted = ap (λ frames. record { next = start; sayings = frames ++ [] }) (no_frames shown.tap)
opens cfg false shown accepted =
    let w = connected cfg in
    let said = told_between shown start w in
    let sabm = event_turn cfg shown sabm_arrives w in
    let ua = event_turn cfg shown ua_arrives sabm.next in
    let there = subst (λ v. refusal_of (happens cfg v ua_arrives) ≡ None) (sym (turned_at cfg shown sabm_arrives w)) accepted.1.0 in
    ap (λ (t : Turn). and_then (λ v. and_then (tried cfg shown ua_arrives) t) (connecting cfg shown)) (accepted_turn cfg shown sabm_arrives w accepted.0)
    ∙ ap (λ (t : Turn). record { next = t.next; sayings = said ++ (sabm.sayings ++ t.sayings) }) (accepted_turn cfg shown ua_arrives sabm.next there)
    ∙ ap (λ says. record { next = ua.next; sayings = says }) (sym (append_assoc said sabm.sayings ua.sayings))
