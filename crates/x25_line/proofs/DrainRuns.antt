-- Deliveries alone drain each line: what comes makes the line and the stations weigh less, but for as many changes as the world bounds.
use Rattle.x25_line.proofs.Names.{◌≡◌, ℕ, suc, zero, ◌+◌, ◌*◌, ◌%◌, ◌≤◌, List, [], ◌∷◌, ◌++◌, ◌⊎◌, inl, inr, length, Bool, true, false, Result, Ok, refl, sym}
use Rattle.x25_line.proofs.Names.{ap, ◌∙◌, subst, arith, Role, PlainFrame, info, spelling_of, frame_of, ReadsSpelled, FrameError, LinkSettings, LinkStation}
use Rattle.x25_line.proofs.Names.{other, take_step, Deliver, LinkEvent, Near, Far, Entry, Meeting, Sessions, sent_in, begun_by, after_step, delivered, acts}
use Rattle.std.specs.Prelude.{◌==◌}
use Rattle.x25_line.proofs.DrainSteps.{changes, asks_in, read_weight_some, GoesOn, Changes, Took, took}
use Rattle.x25_line.proofs.DrainWeights.{more_if, times, times_more, seven_times, read_weight, weights, to_take, station_weight, AreSpelled}
use Rattle.x25_line.proofs.{HealingRuns.{Fit, keeps_fit, fit_from}, Names.{swapped, run, AreJoined, IsDelivery, HealingLaws, Each}}
use Rattle.x25_line.{proofs.StationRuns.{joined_swapped}, specs.Healing.{EachFindsIn, SessionsDrainEnd, SomeSessionsDrain}}

-- ---- what stands on a line

abbrev line_weight : ℕ → ℕ → Role → ℕ → List Entry → ℕ
line_weight back low from n1 [] = 0
line_weight back low from n1 (e ∷ es) = read_weight back low (frame_of from n1 e.octets) + line_weight back low from n1 es

abbrev asks_on : Role → ℕ → List Entry → ℕ
asks_on from n1 [] = 0
asks_on from n1 (e ∷ es) = asks_in (frame_of from n1 e.octets) + asks_on from n1 es

line_more : (back low : ℕ) (from : Role) (n1 : ℕ) (xs ys : List Entry) → line_weight back low from n1 (xs ++ ys) ≡ line_weight back low from n1 xs
    + line_weight back low from n1 ys
line_more back low from n1 [] ys = omega arith
line_more back low from n1 (x ∷ xs) ys = omega (arith, line_more back low from n1 xs ys)

asks_more : (from : Role) (n1 : ℕ) (xs ys : List Entry) → asks_on from n1 (xs ++ ys) ≡ asks_on from n1 xs + asks_on from n1 ys
asks_more from n1 [] ys = omega arith
asks_more from n1 (x ∷ xs) ys = omega (arith, asks_more from n1 xs ys)

-- what is sent reads as itself
spelled_weight : ReadsSpelled → (back low : ℕ) (from : Role) (n1 session : ℕ) (fs : List PlainFrame) → AreSpelled n1 fs
    → (line_weight back low from n1 (sent_in session from fs) ≡ weights back low fs) × (asks_on from n1 (sent_in session from fs) ≡ 0)
spelled_weight reads back low from n1 session [] h = (refl, refl)
spelled_weight reads back low from n1 session (f ∷ fs) h =
    let s = h.0 in
    let is : frame_of from n1 (spelling_of from f) ≡ Ok f = reads from n1 f (spelling_of from f)
    (record { in_range = s.in_range; carries = s.carries; within = s.within; spelling = refl }) in
    let more = spelled_weight reads back low from n1 session fs h.1 in
    (omega (arith, ap (read_weight back low) is, more.0), omega (arith, ap asks_in is, s.asks_not, more.1))

-- whatever else is acknowledged, each frame weighs so much more at most
more_high : (m : ℕ) (b : Bool) → more_if m b ≤ m
more_high m true = omega arith
more_high m false = omega arith

read_other : (back low now : ℕ) (r : Result PlainFrame FrameError) → read_weight back now r ≤ read_weight back low r + 8 * back
read_other back low now (Ok (info ns nr p x)) = omega (arith, more_high (8 * back) (ns == (now + 7) % 8))
read_other back low now r = omega arith

line_other : (back low now : ℕ) → 2 ≤ back → (from : Role) (n1 : ℕ) (es : List Entry) → line_weight back now from n1 es ≤ line_weight back low from n1 es
    + times (8 * back) (line_weight back low from n1 es)
line_other back low now some from n1 [] = omega arith
line_other back low now some from n1 (e ∷ es) =
    let l = line_weight back low from n1 es in
    omega (
      arith,
      read_other back low now (frame_of from n1 e.octets),
      line_other back low now some from n1 es,
      times_more (8 * back) (suc l) ((read_weight back low (frame_of from n1 e.octets)) + l)
          (omega (arith, read_weight_some back low some (frame_of from n1 e.octets))),
    )

station_other : (back low now : ℕ) (s : LinkStation) → station_weight back now s ≤ station_weight back low s + 7 * back
station_other back low now s =
    let small : to_take now (length s.taken) ≤ 7 = omega arith in
    omega (arith, times_more back (to_take now (length s.taken)) 7 small, seven_times back)

-- ---- how many deliveries find octets at most, where so many changes may come yet

abbrev grown : ℕ → ℕ → ℕ
grown back n = n + times (8 * back) n + 15 * back

abbrev most : ℕ → ℕ → ℕ → ℕ
most back zero n = n
most back (suc i) n = n + 1 + most back i (grown back n)

most_heavier : (back i n m : ℕ) → n ≤ m → most back i n ≤ most back i m
most_heavier back zero n m h = h
most_heavier back (suc i) n m h = omega (arith, h, most_heavier back i (grown back n) (grown back m) (omega (arith, h, times_more (8 * back) n m h)))

most_more : (back j i n : ℕ) → j ≤ i → most back j n ≤ most back i n
most_more back zero zero n h = omega arith
most_more back zero (suc i) n h = omega arith
most_more back (suc j) zero n h = absurd (omega (arith, h))
most_more back (suc j) (suc i) n h = omega (arith, most_more back j i (grown back n) (omega (arith, h)))

heavier : (back i n m : ℕ) → m + 1 ≤ n → most back i m + 1 ≤ most back i n
heavier back zero n m h = h
heavier back (suc i) n m h = omega (
  arith,
  h,
  most_heavier back i (grown back m) (grown back n) (omega (arith, h, times_more (8 * back) m n (omega (arith, h)))),
)

-- a change
falls_by : (back j i n m : ℕ) → j + 1 ≤ i → m ≤ grown back n → most back j m + 1 ≤ most back i n
falls_by back j zero n m le high = absurd (omega (arith, le))
falls_by back j (suc i) n m le high = omega (arith, most_more back j i m (omega (arith, le)), most_heavier back i m (grown back n) high)

-- ---- worlds

-- `back` is enough for each packet to be sent again
abbrev pub Enough : ℕ → Sessions → Type 0
Enough back w = 4 * (length w.near.station.outgoing.given + length w.far.station.outgoing.given) + 2 ≤ back

abbrev heap : ℕ → LinkSettings → LinkSettings → Sessions → ℕ
heap back c d w =
    line_weight back w.near.station.outgoing.acked (other d.role) d.longest w.out
    + line_weight back w.far.station.outgoing.acked (other c.role) c.longest w.back
    + station_weight back w.far.station.outgoing.acked w.near.station + station_weight back w.near.station.outgoing.acked w.far.station

abbrev to_change : LinkSettings → LinkSettings → Sessions → ℕ
to_change c d w = changes w.near.station + changes w.far.station + 2 * asks_on (other d.role) d.longest w.out + 2 * asks_on (other c.role) c.longest w.back

abbrev pub at_most : ℕ → LinkSettings → LinkSettings → Sessions → ℕ
at_most back c d w = most back (to_change c d w) (heap back c d w)

most_swapped : (back : ℕ) (c d : LinkSettings) (w : Sessions) → at_most back d c (swapped w) ≡ at_most back c d w
most_swapped back c d w =
    let one : to_change d c (swapped w) ≡ to_change c d w = omega arith in
    let two : heap back d c (swapped w) ≡ heap back c d w = omega arith in
    ap (λ i. most back i (heap back d c (swapped w))) one ∙ ap (λ n. most back (to_change c d w) n) two

-- ---- one delivery to the near end

pub record Falls (back : ℕ) (c d : LinkSettings) (w v : Sessions) : Type 0 where
  pub fit : Fit c d v
  pub enough : Enough back v
  pub less : at_most back c d v + 1 ≤ at_most back c d w

no_more : {old new : List (List ℕ)} → (new ≡ old) ⊎ (new ≡ []) → length new ≤ length old
no_more (inl same) = omega (arith, ap length same)
no_more (inr none) = omega (arith, ap length none)

module _ (reads : ReadsSpelled) (laws : HealingLaws) {c d : LinkSettings} (joined : AreJoined c d) (back : ℕ) where
  -- the front octets are taken
  takes_front : (w : Sessions) → Fit c d w → Enough back w → (e : Entry) (es : List Entry) (met : List Meeting) → w.back ≡ e ∷ es
      → Falls back c d w (after_step c w es met [] (take_step c e.octets w.near.station))
  takes_front w fit enough e es met is =
      record {
        fit = ((keeps_fit laws c d.longest joined.near_high joined.longest).takes o s fit.0, fit.1);
        enough = omega (arith, enough, no_more t.given);
        less = by t.by;
      }
    where
      s : LinkStation
      s = w.near.station

      o : List ℕ
      o = e.octets

      low : ℕ
      low = w.far.station.outgoing.acked

      read : Result PlainFrame FrameError
      read = frame_of (other c.role) c.longest o

      v : Sessions
      v = after_step c w es met [] (take_step c o s)

      t : Took d.longest back low (read_weight back low read) (asks_in read) s (take_step c o s).side
      t = took c d.longest back low s joined.near_high fit.0.within (omega (arith, enough)) fit.0.said.low o read refl

      put : List PlainFrame
      put = (take_step c o s).side.out

      session : ℕ
      session = begun_by (take_step c o s).notes.up w.near.begun

      now : ℕ
      now = v.near.station.outgoing.acked

      wrote : (line_weight back now (other d.role) d.longest (sent_in session c.role put) ≡ weights back now put)
          × (asks_on (other d.role) d.longest (sent_in session c.role put) ≡ 0)
      wrote =
          subst (λ from. (line_weight back now (other d.role) d.longest (sent_in session from put) ≡ weights back now put)
          × (asks_on (other d.role) d.longest (sent_in session from put) ≡ 0)) joined.near_role
          (spelled_weight reads back now (other d.role) d.longest session put t.spelled)

      out_is : line_weight back now (other d.role) d.longest v.out ≡ line_weight back now (other d.role) d.longest w.out + weights back now put
      out_is = omega (arith, line_more back now (other d.role) d.longest w.out (sent_in session c.role put), wrote.0)

      asks_is : asks_on (other d.role) d.longest v.out ≡ asks_on (other d.role) d.longest w.out
      asks_is = omega (arith, asks_more (other d.role) d.longest w.out (sent_in session c.role put), wrote.1)

      came : line_weight back low (other c.role) c.longest w.back ≡ read_weight back low read + line_weight back low (other c.role) c.longest es
      came = ap (line_weight back low (other c.role) c.longest) is

      asked : asks_on (other c.role) c.longest w.back ≡ asks_in read + asks_on (other c.role) c.longest es
      asked = ap (asks_on (other c.role) c.longest) is

      by : GoesOn back low (read_weight back low read) s (take_step c o s).side
          ⊎ Changes back low (read_weight back low read) (asks_in read) s (take_step c o s).side → at_most back c d v + 1 ≤ at_most back c d w
      by (inl g) =
          omega (
            arith,
            most_more back (to_change c d v) (to_change c d w) (heap back c d v) (omega (arith, g.changes, asks_is, asked)),
            heavier back (to_change c d w) (heap back c d w) (heap back c d v)
                (omega (
                  arith,
                  g.load,
                  out_is,
                  came,
                  (ap (λ m. line_weight back m (other d.role) d.longest w.out) g.acked),
                  ap (λ m. station_weight back m w.far.station) g.acked,
                )),
          )
      by (inr g) =
          let some : 2 ≤ back = omega (arith, enough) in
          falls_by back (to_change c d v) (to_change c d w) (heap back c d w) (heap back c d v) (omega (arith, g.fewer, asks_is, asked))
          (omega (
            arith,
            g.load,
            out_is,
            came,
            line_other back s.outgoing.acked now some (other d.role) d.longest w.out,
            station_other back s.outgoing.acked now w.far.station,
            times_more (8 * back) (line_weight back s.outgoing.acked (other d.role) d.longest w.out) (heap back c d w) (omega arith),
          ))

  near_falls : (w : Sessions) → Fit c d w → Enough back w → (w.back ≡ [] → ⊥) → Falls back c d w (acts c Deliver w)
  near_falls w fit enough finds = by w.back refl
    where
      by : (es : List Entry) → w.back ≡ es → Falls back c d w (delivered c es w)
      by [] is = absurd (finds is)
      by (e ∷ es) is = takes_front w fit enough e es _ is

module _ (reads : ReadsSpelled) (laws : HealingLaws) {c d : LinkSettings} (joined : AreJoined c d) (back : ℕ) where
  far_falls : (w : Sessions) → Fit c d w → Enough back w → (w.out ≡ [] → ⊥) → Falls back c d w (swapped (acts d Deliver (swapped w)))
  far_falls w fit enough finds =
      let f = near_falls reads laws (joined_swapped joined) back (swapped w) (fit.1, fit.0) (omega (arith, enough)) finds in
      let v : Sessions = acts d Deliver (swapped w) in
      record {
        fit = (f.fit.1, f.fit.0);
        enough = omega (arith, f.enough);
        less = omega (arith, f.less, most_swapped back c d w, most_swapped back d c v);
      }

  count : (es : List LinkEvent) (w : Sessions) → Each IsDelivery es → Fit c d w → Enough back w → EachFindsIn c d es w → length es ≤ at_most back c d w
  count [] w are fit enough finds = omega arith
  count (Near Deliver ∷ es) w are fit enough finds =
      let f = near_falls reads laws joined back w fit enough finds.0 in
      omega (arith, f.less, count es _ are.1 f.fit f.enough finds.1)
  count (Far Deliver ∷ es) w are fit enough finds =
      let f = far_falls w fit enough finds.0 in
      omega (arith, f.less, count es _ are.1 f.fit f.enough finds.1)
  count (event ∷ es) w are fit enough finds = absurd are.0

  -- some deliveries drain the line
  abbrev Drains : Sessions → Type 0
  Drains w = (deliveries : List LinkEvent) × Each IsDelivery deliveries × (let v = run c d deliveries w in (v.out ≡ []) × (v.back ≡ []))

  not_nil : (o : Entry) (os line : List Entry) → line ≡ o ∷ os → line ≡ [] → ⊥
  not_nil o os line is none = absurd (omega (arith, ap length (sym is ∙ none)))

  -- where what weighs less drains
  drains_on : (w : Sessions) → Fit c d w → Enough back w → ((v : Sessions) → Falls back c d w v → Drains v) → Drains w
  drains_on w fit enough go = by w.out refl w.back refl
    where
      by : (out : List Entry) → w.out ≡ out → (bs : List Entry) → w.back ≡ bs → Drains w
      by [] no_out [] no_back = ([], tt, (no_out, no_back))
      by [] no_out (o ∷ os) is =
          let rest = go (acts c Deliver w) (near_falls reads laws joined back w fit enough (not_nil o os w.back is)) in
          (Near Deliver ∷ rest.0, (tt, rest.1), rest.2)
      by (o ∷ os) is bs any =
          let rest = go (swapped (acts d Deliver (swapped w))) (far_falls w fit enough (not_nil o os w.out is)) in
          (Far Deliver ∷ rest.0, (tt, rest.1), rest.2)

  drains : (bound : ℕ) (w : Sessions) → Fit c d w → Enough back w → at_most back c d w ≤ bound → Drains w
  drains zero w fit enough le = drains_on w fit enough (λ v f. absurd (omega (arith, le, f.less)))
  drains (suc bound) w fit enough le = drains_on w fit enough (λ v f. drains bound v f.fit f.enough (omega (arith, le, f.less)))

-- ---- the laws

abbrev back_of : Sessions → ℕ
back_of w = 4 * (length w.near.station.outgoing.given + length w.far.station.outgoing.given) + 2

module _ (reads : ReadsSpelled) (laws : HealingLaws) where
  pub sessions_drain_end : SessionsDrainEnd
  sessions_drain_end c d joined begin is events =
      let w : Sessions = run c d events begin in
      (at_most (back_of w) c d w, λ es are finds. count reads laws joined (back_of w) es w are (fit_from laws joined is events) (omega arith) finds)

  pub some_sessions_drain : SomeSessionsDrain
  some_sessions_drain c d joined begin is events =
      let w : Sessions = run c d events begin in
      drains reads laws joined (back_of w) (at_most (back_of w) c d w) w (fit_from laws joined is events) (omega arith) (omega arith)
