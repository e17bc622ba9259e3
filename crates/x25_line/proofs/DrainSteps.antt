-- What octets that come make of a station: it weighs less with what it sends; or it changes its session or hears a new number, of
-- which there are only so many.
use Rattle.x25_line.proofs.Names.{◌≡◌, ℕ, suc, zero, ◌+◌, ◌-◌, ◌*◌, ◌%◌, ◌<◌, ◌≤◌, List, [], ◌∷◌, ◌⊎◌, inl, inr, length, max, Bool, true, false, if◌then◌else◌}
use Rattle.x25_line.proofs.Names.{Result, Ok, Err, refl, sym, ap, subst, arith, leb-true, eqb-true, ◌&&◌, PlainFrame, info, rr, rnr, rej, sabm, disc, ua, dm}
use Rattle.x25_line.proofs.Names.{is_command, poll_or_final, frame_of, FrameError, Undefined, NoInfoAllowed, TooLong, Phase, Down, Waiting, Up, Closed}
use Rattle.x25_line.proofs.Names.{LinkSettings, LinkStation, Side, with_nothing, sends, ended, LinkStep, quiet, other, is_valid, acknowledged, hears_info}
use Rattle.std.{proofs.lemmas.Bool.{eqb-false}, specs.Prelude.{◌==◌}}
use Rattle.x25_line.proofs.DrainWeights.{more_if, times_more, seven_times, ready_weight, rej_weight, weight, read_weight, weights, to_take, station_weight}
use Rattle.x25_line.proofs.DrainWeights.{asks_set_up, IsSpelled, AreSpelled, Weighs, W-sends, W-ended, W-info, W-peer, W-polls, W-rej}
use Rattle.x25_line.proofs.{Names.{peer_is, goes_back, polls, rejects, alone, hears, take_step, heard}, StationSends.{AllWithin}}
use Rattle.x25_link.proofs.EndLemmas.{true_false}
use Rattle.x25_link.specs.declared.phase.{Closing.{Closing}, Closing.TheVariants.{Asked}, Ending.{Ending}, Ending.TheVariants.{ByUa, ByDm}}
use Rattle.x25_link.specs.{Hearing.{numbered, reject_of, row_of_frame, row_of}, Link.{answered, declines, when_closed, when_down, when_waiting}}

-- ---- how many changes may come yet

abbrev pub phase_weight : Phase → ℕ
phase_weight Waiting = 2
phase_weight Up = 1
phase_weight phase = 0

abbrev top_of : LinkStation → ℕ
top_of s = max s.outgoing.sent (length s.outgoing.given)

-- the numbers that may be heard to be acknowledged, and the phases
abbrev pub changes : LinkStation → ℕ
changes s = (top_of s - s.outgoing.acked) + phase_weight s.phase

abbrev pub asks_in : Result PlainFrame FrameError → ℕ
asks_in (Ok frame) = asks_set_up frame
asks_in (Err e) = 0

-- ---- what one step makes of a station

-- the same session, and no new number
pub record GoesOn (back low cost : ℕ) (s : LinkStation) (u : Side) : Type 0 where
  pub acked : u.near.outgoing.acked ≡ s.outgoing.acked
  pub changes : changes u.near ≤ changes s
  pub load : weights back u.near.outgoing.acked u.out + station_weight back low u.near + 1 ≤ cost + station_weight back low s

pub record Changes (back low cost asks : ℕ) (s : LinkStation) (u : Side) : Type 0 where
  pub fewer : changes u.near + 1 ≤ changes s + 2 * asks
  pub load : weights back u.near.outgoing.acked u.out + station_weight back low u.near ≤ cost + station_weight back low s + 8 * back

pub record Took (n1 back low cost asks : ℕ) (s : LinkStation) (u : Side) : Type 0 where
  pub given : (u.near.outgoing.given ≡ s.outgoing.given) ⊎ (u.near.outgoing.given ≡ [])
  pub spelled : AreSpelled n1 u.out
  pub by : GoesOn back low cost s u ⊎ Changes back low cost asks s u

-- each frame weighs something, and a command with P=1 more
ready_some : (back : ℕ) → 2 ≤ back → (command pf : Bool) → 1 ≤ ready_weight back command pf
ready_some back some true true = omega arith
ready_some back some false true = omega (arith, some)
ready_some back some true false = omega arith
ready_some back some false false = omega arith

rej_some : (back : ℕ) → 2 ≤ back → (command pf : Bool) → 1 ≤ rej_weight back command pf
rej_some back some command true = omega (arith, some)
rej_some back some command false = omega (arith, some)

weight_some : (back low : ℕ) → 2 ≤ back → (f : PlainFrame) → 1 ≤ weight back low f
weight_some back low some (info ns nr p x) = omega arith
weight_some back low some (rr command nr pf) = ready_some back some command pf
weight_some back low some (rnr command nr pf) = ready_some back some command pf
weight_some back low some (rej command nr pf) = rej_some back some command pf
weight_some back low some f = omega arith

pub read_weight_some : (back low : ℕ) → 2 ≤ back → (r : Result PlainFrame FrameError) → 1 ≤ read_weight back low r
read_weight_some back low some (Ok f) = weight_some back low some f
read_weight_some back low some (Err e) = omega arith

asking_weight : (back low : ℕ) → 2 ≤ back → (f : PlainFrame) → (is_command f && poll_or_final f) ≡ true → 2 ≤ weight back low f
asking_weight back low some (info ns nr p x) e = omega arith
asking_weight back low some (rr true nr true) e = omega arith
asking_weight back low some (rnr true nr true) e = omega arith
asking_weight back low some (rej true nr true) e = omega (arith, some)
asking_weight back low some (sabm p) e = omega arith
asking_weight back low some (disc p) e = omega arith
asking_weight back low some f e = true_false (sym e)

module _ (c : LinkSettings) (n1 back low : ℕ) (s : LinkStation) (small : c.window ≤ 7) (within : AllWithin n1 s.outgoing.given)
    (heavy : 4 * length s.outgoing.given + 2 ≤ back) (low_place : s.outgoing.acked ≤ s.outgoing.place) where
  some : 2 ≤ back
  some = omega (arith, heavy)

  many : length s.outgoing.given ≤ top_of s
  many = omega arith

  abbrev W : ℕ → ℕ → Side → Type 0
  W a n t = Weighs n1 c.window back low a (top_of s) s.outgoing.given s.phase small within many heavy n t

  abbrev before : ℕ
  before = station_weight back low s

  abbrev T : ℕ → ℕ → Side → Type 0
  T cost asks t = Took n1 back low cost asks s (ended c.window t)

  -- ---- the same session

  -- with nothing heard yet
  begins : W s.outgoing.acked before (alone s)
  begins = record { load = omega arith; stands = record { acked = refl; place = low_place; given = refl; sent = omega arith; phase = refl }; spelled = tt }

  goes_on : (cost asks : ℕ) {n : ℕ} {t : Side} → n + 1 ≤ cost + before → W s.outgoing.acked n t → T cost asks t
  goes_on cost asks {n} {t} le h =
      let e = W-ended n1 c.window back low s.outgoing.acked (top_of s) s.outgoing.given s.phase small within many heavy n h in
      let u : Side = ended c.window t in
      record {
        given = inl e.stands.given;
        spelled = e.spelled;
        by = inl (record {
          acked = e.stands.acked;
          changes = omega (arith, e.stands.acked, e.stands.sent, ap length e.stands.given, ap phase_weight e.stands.phase);
          load = omega (arith, le, e.load, ap (λ m. weights back m u.out) e.stands.acked);
        });
      }

  -- a new number is heard
  moves : (cost a n : ℕ) (t : Side) → n + 1 ≤ cost + before → s.outgoing.acked < a → a ≤ s.outgoing.sent → W a n t → T cost 0 t
  moves cost a n t le more high h =
      let e = W-ended n1 c.window back low a (top_of s) s.outgoing.given s.phase small within many heavy n h in
      let u : Side = ended c.window t in
      record {
        given = inl e.stands.given;
        spelled = e.spelled;
        by = inr (record {
          fewer = omega (arith, e.stands.acked, e.stands.sent, ap length e.stands.given, ap phase_weight e.stands.phase, more, high);
          load = omega (arith, le, e.load, ap (λ m. weights back m u.out) e.stands.acked);
        });
      }

  -- ---- another session, or none

  anew : (cost asks tries : ℕ) (p : Phase) (out : List PlainFrame) → weights back 0 out ≤ cost → AreSpelled n1 out → phase_weight p + 1 ≤ phase_weight s.phase
      + 2 * asks
      → T cost asks (record { near = with_nothing p tries; out = out })
  anew cost asks tries p out le spelled fewer =
      let t : Side = record { near = with_nothing p tries; out = out } in
      let first : to_take low 0 ≤ 7 = omega arith in
      let e = W-ended n1 c.window back low 0 0 [] p small tt (omega arith) some (cost + 8 * back)
      (record {
        load = omega (arith, le, times_more back (to_take low 0) 7 first, seven_times back);
        stands = record { acked = refl; place = omega arith; given = refl; sent = omega arith; phase = refl };
        spelled = spelled;
      }) in
      let u : Side = ended c.window t in
      record {
        given = inr e.stands.given;
        spelled = e.spelled;
        by = inr (record {
          fewer = omega (arith, e.stands.acked, e.stands.sent, ap length e.stands.given, ap phase_weight e.stands.phase, fewer);
          load = omega (arith, e.load, ap (λ m. weights back m u.out) e.stands.acked);
        });
      }

  -- ---- frames with a number

  hears_number : (nr : ℕ) → W (heard nr s) before (acknowledged nr (alone s))
  hears_number nr = record {
    load = omega arith;
    stands = record { acked = refl; place = omega arith; given = refl; sent = omega arith; phase = refl };
    spelled = tt;
  }

  went : (cost nr : ℕ) {n : ℕ} {t : Side} → n + 1 ≤ cost + before → is_valid nr s ≡ true → W (heard nr s) n t → T cost 0 t
  went cost nr {n} {t} le valid h = by (heard nr s == s.outgoing.acked) refl
    where
      high : heard nr s ≤ s.outgoing.sent
      high = leb-true _ _ valid

      same : heard nr s ≡ s.outgoing.acked → T cost 0 t
      same e = goes_on cost 0 le (subst (λ a. W a n t) e h)

      other_one : (heard nr s ≡ s.outgoing.acked → ⊥) → (i : ℕ) → heard nr s ≡ s.outgoing.acked + i → T cost 0 t
      other_one apart zero e = absurd (apart (omega (arith, e)))
      other_one apart (suc i) e = moves cost (heard nr s) n t le (omega (arith, e)) high h

      by : (b : Bool) → (heard nr s == s.outgoing.acked) ≡ b → T cost 0 t
      by true e = same (eqb-true _ _ e)
      by false e = other_one (eqb-false _ _ e) ((nr + 8 - s.outgoing.acked % 8) % 8) refl

  left_with : (octets : List ℕ) (why cost : ℕ) → 1 ≤ cost → s.phase ≡ Up → T cost 0 (rejects c octets why (alone s)).side
  left_with octets why cost le up =
      anew cost 0 s.tries Down (reject_of c octets why s ∷ []) (omega (arith, le)) (record { in_range = tt; carries = refl; within = tt; asks_not = refl }, tt)
      (omega (arith, ap phase_weight up))

  numbered_took : (octets : List ℕ) (nr cost : ℕ) (row : Side → LinkStep) → 1 ≤ cost → s.phase ≡ Up
      → ((t : Side) → W (heard nr s) before t → (n : ℕ) × (n + 1 ≤ cost + before) × W (heard nr s) n (row t).side)
      → T cost 0 (numbered c octets nr row (alone s)).side
  numbered_took octets nr cost row le up does = by (is_valid nr s) refl
    where
      by : (b : Bool) → is_valid nr s ≡ b → T cost 0 (let z : LinkStep = if b then row (acknowledged nr (alone s)) else rejects c octets 8 (alone s) in z.side)
      by true valid =
          let r = does (acknowledged nr (alone s)) (hears_number nr) in
          went cost nr r.1 valid r.2
      by false valid = left_with octets 8 cost le up

  abbrev cost_of : PlainFrame → ℕ
  cost_of f = weight back low f

  -- RR, or RNR of a busy peer
  ready_took : (octets : List ℕ) (busy command : Bool) (nr : ℕ) (pf : Bool) → s.phase ≡ Up
      → T (ready_weight back command pf) 0 (numbered c octets nr (λ u. quiet (polls command pf (peer_is busy u))) (alone s)).side
  ready_took octets busy command nr pf up =
      let w = ready_weight back command pf in
      let le = ready_some back some command pf in
      numbered_took octets nr w (λ u. quiet (polls command pf (peer_is busy u))) le up
      (λ t h. (
        before + (w - 1),
        omega (arith, le),
        W-polls n1 c.window back low (heard nr s) (top_of s) s.outgoing.given s.phase small within many heavy (before + (w - 1)) command pf (omega (arith, le))
            (W-peer n1 c.window back low (heard nr s) (top_of s) s.outgoing.given s.phase small within many heavy busy h),
      ))

  frame_took : (octets : List ℕ) (f : PlainFrame) → s.phase ≡ Up → T (cost_of f) (asks_set_up f) (row_of_frame c octets f (alone s)).side
  frame_took octets (info ns nr p x) up =
      numbered_took octets nr (cost_of (info ns nr p x)) (hears_info c.window ns p x) (weight_some back low some (info ns nr p x)) up
      (λ t h. (
        before + more_if back p + more_if (8 * back) (ns == (low + 7) % 8) + 2,
        omega arith,
        W-info n1 c.window back low (heard nr s) (top_of s) s.outgoing.given s.phase small within many heavy before ns p x t h,
      ))
  frame_took octets (rr command nr pf) up = ready_took octets false command nr pf up
  frame_took octets (rnr command nr pf) up = ready_took octets true command nr pf up
  frame_took octets (rej command nr pf) up =
      let w = rej_weight back command pf in
      let le = rej_some back some command pf in
      numbered_took octets nr w (λ u. quiet (polls command pf (goes_back (peer_is false u)))) le up
      (λ t h. (
        before + (w - 1),
        omega (arith, le),
        W-rej n1 c.window back low (heard nr s) (top_of s) s.outgoing.given s.phase small within many heavy before (before + (w - 1)) command pf t
            (omega (arith, le)) h,
      ))
  frame_took octets (sabm p) up = anew 2 1 0 Up (ua p ∷ []) (omega arith) (record { in_range = tt; carries = refl; within = tt; asks_not = refl }, tt)
      (omega (arith, ap phase_weight up))
  frame_took octets (disc p) up = anew 2 0 s.tries Down (ua p ∷ []) (omega arith) (record { in_range = tt; carries = refl; within = tt; asks_not = refl }, tt)
      (omega (arith, ap phase_weight up))
  frame_took octets (ua f) up = goes_on 1 0 (omega arith) begins
  frame_took octets f up = anew 1 0 s.tries Down [] (omega arith) tt (omega (arith, ap phase_weight up))

  read_took : (octets : List ℕ) (r : Result PlainFrame FrameError) → s.phase ≡ Up → T (read_weight back low r) (asks_in r) (row_of c octets r (alone s)).side
  read_took octets (Ok f) up = frame_took octets f up
  read_took octets (Err (Undefined control)) up = left_with octets 1 1 (omega arith) up
  read_took octets (Err (NoInfoAllowed control)) up = left_with octets 3 1 (omega arith) up
  read_took octets (Err TooLong) up = left_with octets 4 1 (omega arith) up
  read_took octets (Err error) up = goes_on 1 0 (omega arith) begins

  -- ---- outside of Up

  -- nothing is said, or one frame in a word
  silent : (f : PlainFrame) (asks : ℕ) → T (cost_of f) asks (alone s)
  silent f asks = goes_on (cost_of f) asks (omega (arith, weight_some back low some f)) begins

  says_one : (cost asks : ℕ) {g : PlainFrame} → 2 ≤ cost → weight back s.outgoing.acked g ≡ 1 → IsSpelled n1 g → T cost asks (sends g (alone s))
  says_one cost asks {g} le one spelled =
      goes_on cost asks (omega (arith, le, one))
      (W-sends n1 c.window back low s.outgoing.acked (top_of s) s.outgoing.given s.phase small within many heavy spelled begins)

  declined : (f : PlainFrame) → T (cost_of f) (asks_set_up f) (declines f (alone s))
  declined f = by (is_command f && poll_or_final f) refl
    where
      by : (b : Bool) → (is_command f && poll_or_final f) ≡ b → T (cost_of f) (asks_set_up f) (if b then sends (dm true) (alone s) else alone s)
      by true e = says_one (cost_of f) (asks_set_up f) (asking_weight back low some f e) refl
          (record { in_range = tt; carries = refl; within = tt; asks_not = refl })
      by false e = silent f (asks_set_up f)

  down_took : (f : PlainFrame) → s.phase ≡ Down → T (cost_of f) (asks_set_up f) (when_down f (alone s)).side
  down_took (sabm p) is = anew 2 1 0 Up (ua p ∷ []) (omega arith) (record { in_range = tt; carries = refl; within = tt; asks_not = refl }, tt) (omega arith)
  down_took (disc p) is = says_one 2 0 (omega arith) refl (record { in_range = tt; carries = refl; within = tt; asks_not = refl })
  down_took f is = declined f

  waiting_took : (f : PlainFrame) → s.phase ≡ Waiting → T (cost_of f) (asks_set_up f) (when_waiting f (alone s)).side
  waiting_took (sabm p) is = says_one 2 1 (omega arith) refl (record { in_range = tt; carries = refl; within = tt; asks_not = refl })
  waiting_took (disc p) is = says_one 2 0 (omega arith) refl (record { in_range = tt; carries = refl; within = tt; asks_not = refl })
  waiting_took (ua true) is = anew 1 0 0 Up [] (omega arith) tt (omega (arith, ap phase_weight is))
  waiting_took f is = silent f 0

  ends_took : (ending : Ending) (closing : Closing) → T 1 0 (answered ending closing (alone s))
  ends_took ending Asked = goes_on 1 0 {n = before} (omega arith) (record {
    load = omega arith;
    stands = record { acked = refl; place = low_place; given = refl; sent = omega arith; phase = refl };
    spelled = tt;
  })
  ends_took ending closing = goes_on 1 0 (omega arith) begins

  closed_took : (f : PlainFrame) → T (cost_of f) (asks_set_up f) (when_closed f (alone s)).side
  closed_took (ua true) = ends_took ByUa s.closing
  closed_took (dm true) = ends_took ByDm s.closing
  closed_took f = declined f

  hears_took : (octets : List ℕ) (r : Result PlainFrame FrameError) (p : Phase) → s.phase ≡ p
      → T (read_weight back low r) (asks_in r) (hears c octets r p (alone s)).side
  hears_took octets r Up is = read_took octets r is
  hears_took octets (Ok f) Down is = down_took f is
  hears_took octets (Ok f) Waiting is = waiting_took f is
  hears_took octets (Ok f) Closed is = closed_took f
  hears_took octets (Err e) p is = goes_on 1 0 (omega arith) begins

  -- what octets that come make of a station, in any phase
  pub took : (octets : List ℕ) (r : Result PlainFrame FrameError) → frame_of (other c.role) c.longest octets ≡ r
      → Took n1 back low (read_weight back low r) (asks_in r) s (take_step c octets s).side
  took octets r is = rw (sym is) (hears_took octets (frame_of (other c.role) c.longest octets) s.phase refl)
