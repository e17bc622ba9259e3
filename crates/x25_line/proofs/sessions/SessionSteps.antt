-- Steps of the near end keep what holds of two stations over sessions: of an end that is in the session, of one that is out of it,
-- and where sessions begin.
use Rattle.x25_line.proofs.Names.{◌≡◌, ◌≤◌, ℕ, List, [], ◌∷◌, ◌++◌, ◌⊎◌, inl, inr, map, false, Option, None, refl, sym, ap, ◌∙◌, subst, arith, append-nil}
use Rattle.x25_line.proofs.Names.{Contains-append_cases, option_to_list, Contains, PlainFrame, frmr, spelling_of, ReadsSpelled, Phase, Waiting, Closed}
use Rattle.x25_line.proofs.Names.{LinkSettings, LinkStep, other, Stations, AreJoined, NoFrmr, AreWhole, numbered_on, Said, ua_of, how_many, Entry, SessionEnd}
use Rattle.x25_line.proofs.Names.{Meeting, Sessions, letters, sent_in, extended, Standing, standing_after, AllOf}
use Rattle.x25_line.proofs.StationLines.{AreParting, parts_of, no_frmr_append, parting_no_frmr, parting_numbered, parting_whole}
use Rattle.x25_line.proofs.StationSteps.{StepLeads, FitsEnd, not_both}
use Rattle.x25_line.proofs.sessions.SessionHeld.{IsThere, Owes, HasLists, SameLists, lists_same, Held, stays_on, extended_nil, extended_same, extended_more}
use Rattle.x25_line.proofs.sessions.SessionHeld.{whole_on, whole_apart, is_there, is_out, there_more, counted_there}
use Rattle.x25_line.{proofs.sessions.SessionLines.{octets_sent, count, numbers, quiet_of, of_sent, many_sent}, specs.laws.WholeNumbers.{machine_after}}
use Rattle.x25_link.specs.Station.{awaits_ua}
use Rattle.x25_line.specs.laws.Stations as one

-- ---- the end, and both, after a step, in which its session is n

-- the end
abbrev pub end_after : SessionEnd → ℕ → List (List ℕ) → LinkStep → SessionEnd
end_after e n down step = record { station = step.side.near; begun = n; down = extended e.down n down; up = extended e.up n (option_to_list step.packet) }

-- both ends and the line
abbrev pub stepped : LinkSettings → Sessions → List Entry → List Meeting → List (List ℕ) → ℕ → LinkStep → Sessions
stepped c w es met down n step = record {
  near = end_after w.near n down step;
  far = w.far;
  out = w.out ++ sent_in n c.role step.side.out;
  back = es;
  met = met;
  sent = w.sent ++ step.side.out;
}

-- the sessions that stand go on by this step
abbrev pub went_by : LinkSettings → LinkStep → Option ℕ → Standing → Standing
went_by c step gone stand = standing_after c step.side.near (map (spelling_of c.role) step.side.out) gone stand

-- a step that hands nothing up or down leaves the lists of each session
pub nothing_handed : (e : SessionEnd) (n : ℕ) (step : LinkStep) → step.packet ≡ None → SameLists e (end_after e n [] step)
nothing_handed e n step none =
    record { down = λ m. extended_nil e.down n m; up = λ m. ap (λ o. extended e.up n (option_to_list o) m) none ∙ extended_nil e.up n m }

pub live_lists : (c : LinkSettings) {e : SessionEnd} {p : ℕ} (v : Stations) (os down : List (List ℕ)) (step : LinkStep) → e.begun ≡ p → HasLists e p v.near
    → HasLists (end_after e e.begun down step) p (one.after_step c v os down step).near
live_lists c {e} v os down step is h =
    record {
      down = ap (extended e.down e.begun down) (sym is) ∙ extended_same e.down e.begun down ∙ ap (λ x. x ++ down) (ap e.down is ∙ h.down);
      up = ap (extended e.up e.begun (option_to_list step.packet)) (sym is) ∙ extended_same e.up e.begun (option_to_list step.packet)
          ∙ ap (λ x. x ++ option_to_list step.packet) (ap e.up is ∙ h.up);
    }

-- ---- what stands behind

-- the later part of whole frames is whole
pub whole_behind : (n1 : ℕ) (given : List (List ℕ)) (xs ys : List PlainFrame) → AreWhole n1 given (xs ++ ys) → AreWhole n1 given ys
whole_behind n1 given [] ys h = h
whole_behind n1 given (f ∷ xs) ys h = whole_behind n1 given xs ys h.1

pub no_frmr_behind : (xs ys : List PlainFrame) → NoFrmr (xs ++ ys) → NoFrmr ys
no_frmr_behind [] ys h = h
no_frmr_behind (frmr g why ∷ xs) ys h = absurd h
no_frmr_behind (frame ∷ xs) ys h = no_frmr_behind xs ys h

-- no phase is Waiting and Closed
pub waiting_is_closed : {A : Type 0} (p : Phase) → p ≡ Waiting → p ≡ Closed → A
waiting_is_closed p e f = absurd (cc)

-- who has a SABM on the line waits, or is Closed
pub asked_by : (p : Phase) {n m : ℕ} → 1 ≤ n → Owes p n m → ((p ≡ Waiting) × (n ≤ 1) × (m ≡ 0)) ⊎ (p ≡ Closed)
asked_by Waiting h g = inl (refl, g.0, g.1)
asked_by Closed h g = inr refl
asked_by p h g = absurd (omega (arith, h, g.0))

-- UA is sent to an end that is Closed alone, and none is awaited
abbrev pub Answers : Sessions → LinkStep → Type 0
Answers w step = ((w.far.station.phase ≡ Closed) ⊎ (count ua_of step.side.out ≡ 0)) × (awaits_ua step.side.near.phase ≡ false)

module _ {c d : LinkSettings} (joined : AreJoined c d) (reads : ReadsSpelled) where
  pub many_out : (kind : Said → ℕ) (s : ℕ) (given : List (List ℕ)) (fs : List PlainFrame) → AreWhole d.longest given fs
      → how_many kind (letters (other d.role) d.longest (sent_in s c.role fs)) ≡ count kind fs
  many_out kind s given fs h = rw joined.near_role (many_sent reads c.role d.longest kind s given fs h)

  -- ---- an end that is in the session

  pub live_held : {stand : Standing} (w : Sessions) (h : Held stand c d w) → w.near.begun ≡ stand.near
      → (es : List Entry) (os : List (List ℕ)) (met : List Meeting) (down : List (List ℕ)) (step : LinkStep) (gone : Option ℕ)
      → StepLeads c d h.alone stand.machine gone os down step → numbers (other c.role) c.longest es
      ≡ numbered_on (other c.role) c.longest os → AllOf (other c.role) c.longest stand.far es
      → Answers w step → Held (went_by c step gone stand) c d (stepped c w es met down w.near.begun step)
  live_held {stand} w h near es os met down step gone holds comes from answers =
      go holds.near
    where
      fs : List PlainFrame
      fs = step.side.out

      more : List Entry
      more = sent_in w.near.begun c.role fs

      now : Stations
      now = one.after_step c h.alone os down step

      none_to : w.far.station.phase ≡ Waiting → how_many ua_of (letters (other d.role) d.longest more) ≡ 0
      none_to waiting =
          elim answers.0 [
            | inl closed ↦ waiting_is_closed w.far.station.phase waiting closed
            | inr none ↦ many_out ua_of w.near.begun (now.near.down ++ now.far.down) fs
                (whole_behind d.longest (now.near.down ++ now.far.down) h.alone.sent fs holds.whole) ∙ none
          ]

      same : numbers (other d.role) d.longest more ≡ numbered_on (other d.role) d.longest (map (spelling_of c.role) fs)
      same = ap (numbered_on (other d.role) d.longest) (octets_sent w.near.begun c.role fs)

      of : AllOf (other d.role) d.longest stand.near more
      of = rw (sym near) (of_sent (other d.role) d.longest c.role w.near.begun fs)

      -- what was handed down in the two sessions that stand
      handed : (x : List ℕ) → Contains (now.near.down ++ now.far.down) x
          → ((n : ℕ) × Contains ((end_after w.near w.near.begun down step).down n) x) ⊎ ((n : ℕ) × Contains (w.far.down n) x)
      handed x there =
          let lists = live_lists c h.alone os down step near h.near_lists in
          elim (Contains-append_cases now.near.down now.far.down x there) [
            | inl here ↦ inl (stand.near, subst (λ xs. Contains xs x) (sym lists.down) here)
            | inr there ↦ inr (stand.far, subst (λ xs. Contains xs x) (sym h.far_lists.down) there)
          ]

      by : IsThere step.side.near.phase (other c.role) c.longest step.side.near w.near.begun es step.side.near os stand.near stand.far
          → Held (went_by c step gone stand) c d (stepped c w es met down w.near.begun step)
      by there =
          record {
            alone = now;
            holds = holds;
            near = there;
            far = there_more more (map (spelling_of c.role) fs) same of none_to h.far;
            near_lists = live_lists c h.alone os down step near h.near_lists;
            far_lists = h.far_lists;
            no_frmr = no_frmr_append w.sent fs h.no_frmr (no_frmr_behind h.alone.sent fs holds.no_frmr);
            whole = whole_on d.longest w.near (end_after w.near w.near.begun down step) w.far (now.near.down ++ now.far.down) w.sent fs
                (λ n x old. extended_more w.near.down w.near.begun n down x old)
                handed (whole_behind d.longest (now.near.down ++ now.far.down) h.alone.sent fs holds.whole) h.whole;
          }

      go : FitsEnd c step.side.near (machine_after c step.side.near (map (spelling_of c.role) fs) gone stand.machine).near
          → Held (went_by c step gone stand) c d (stepped c w es met down w.near.begun step)
      go (inl u) = by (is_there step.side.near.phase u.up (record { station = refl; session = near; comes = comes; of = from }))
      go (inr away) = by (is_out step.side.near.phase away.away (λ waiting. not_both (awaits_ua step.side.near.phase) (ap awaits_ua waiting) answers.1))

  -- ---- an end that is out of the session, or goes into it

  -- a step of such an end, which hands nothing up, keeps what is held
  pub apart_held : {stand : Standing} (w : Sessions) (h : Held stand c d w) (es : List Entry) (met : List Meeting) (n : ℕ) (step : LinkStep)
      → step.packet ≡ None
      → IsThere step.side.near.phase (other c.role) c.longest step.side.near n es h.alone.near.station h.alone.back stand.near stand.far
      → AreParting step.side.out → count ua_of step.side.out ≡ 0
      → Held (went_by c step None stand) c d (stepped c w es met [] n step)
  apart_held {stand} w h es met n step none there parting no_ua =
      let same = nothing_handed w.near n step none in
      subst (λ z. Held z c d (stepped c w es met [] n step)) is_on (record {
        alone = h.alone;
        holds = h.holds;
        near = there;
        far = rw (sym (append-nil h.alone.out))
            (there_more more [] quiet (quiet_of (other d.role) d.longest stand.near more quiet) (λ waiting. many ua_of ∙ no_ua) h.far);
        near_lists = lists_same same h.near_lists;
        far_lists = h.far_lists;
        no_frmr = no_frmr_append w.sent fs h.no_frmr (parting_no_frmr fs (parts_of fs parting));
        whole = whole_apart fs same parting h.whole;
      })
    where
      fs : List PlainFrame
      fs = step.side.out

      more : List Entry
      more = sent_in n c.role step.side.out

      quiet : numbers (other d.role) d.longest more ≡ []
      quiet =
          ap (numbered_on (other d.role) d.longest) (octets_sent n c.role step.side.out)
          ∙ subst (λ r. numbered_on r d.longest (map (spelling_of c.role) step.side.out) ≡ []) (sym joined.near_role)
          (parting_numbered reads c.role d.longest step.side.out (parts_of step.side.out parting))

      many : (kind : Said → ℕ) → how_many kind (letters (other d.role) d.longest more) ≡ count kind step.side.out
      many kind = many_out kind n [] step.side.out (parting_whole d.longest [] step.side.out (parts_of step.side.out parting))

      is_on : stand ≡ went_by c step None stand
      is_on =
          stays_on c step.side.near (map (spelling_of c.role) fs) stand (counted_there (end_after w.near n [] step) there h.holds.near)
          (rw joined.longest (parting_numbered reads c.role d.longest fs (parts_of fs parting)))
