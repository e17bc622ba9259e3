-- What counts as judged is told of: an N(S), and F=1.
use Rattle.x25_judge.proofs.verdicts.Names.{◌≡◌, ◌==◌, inl, inr, ℕ, ◌≤◌, arith, Bool, true, false, List, Option, Some, None, refl, sym, ap, ◌∙◌, subst, eq-eqb}
use Rattle.x25_judge.proofs.verdicts.Names.{le-leb, nat_le, nat_lt, ◌&&◌, ◌||◌, not, eqb-true, and_parts, and_cases, or_cases, or_parts, both_ways}
use Rattle.x25_judge.proofs.verdicts.Names.{cond_both, Role, PlainFrame, info, rr, rnr, rej, dm, frmr, differs, book_of, other_of, own_of, seen_by}
use Rattle.x25_judge.proofs.verdicts.Names.{first, Judge, End, Minding, Sent, Manners, Minded, Rule, Repeats, is_final, is_up, rule_of}
use Rattle.x25_judge.proofs.verdicts.Names.{IsOutOfPlace, JudgedFinalsAreTold, JudgedSendingsAreTold, Frame, Info, LinkSet, Told, Broken, Nothing}
use Rattle.x25_judge.proofs.{verdicts.Names.{Numbers, Stand, Up}, verdicts.{Lines.{IsTold, all_of, first_keeps}, Manners.{minds_has}}}
use Rattle.x25_judge.specs.declared.{rule.Rule.TheVariants.{Skips}, note.Note.TheVariants.{PollAgain, SentAgain}, manners.Place.{Place}}
use Rattle.x25_possible_links.specs.declared.set.Told.TheVariants.{Skips as SkipsOf}
use Rattle.std.proofs.lemmas.Bool.Decides.{nat_tests}
use Rattle.x25_packet_judge.specs.Numbers.{apart}
use Rattle.x25_judge.specs.Links as links
use Rattle.x25_judge.specs.Manners as manners
use Rattle.x25_possible_links.specs.code.Steps as steps

abbrev pub Tells : Minding → Type 0
Tells b = IsTold b.seen.rule

pub first_brings : (r last : Option Rule) → IsTold last → IsTold (first r last)
first_brings None last h = h
first_brings (Some rule) None h = refl
first_brings (Some rule) (Some last) h = first_keeps (Some rule) (Some last) refl

pub tells_of : (from : Role) (j : Judge) (frame : PlainFrame) → IsTold (seen_by j from frame).seen.rule → IsTold (rule_of j from frame)
tells_of from j frame h = all_of (seen_by j from frame).seen.rule (book_of j from frame (seen_by j from frame).seen).verdict.rule h

-- ---- F=1

answered_told : (is_shown : Bool) (m : Manners) → is_shown ≡ true → m.polls ≡ 0 → IsTold (manners.answered is_shown m).rule
answered_told true m shown none = cond_both (not (m.polls == 0)) _ _ (λ (x : Minded). IsTold x.rule)
    (λ some. absurd (both_ways (not (m.polls == 0)) (ap (λ x. not (x == 0)) none) some)) (λ _. refl)
answered_told false m shown none = absurd (both_ways false refl shown)

answers_tell : (is_shown : Bool) (b : Minding) → is_shown ≡ true → b.other.polls ≡ 0 → Tells (links.answers true is_shown b)
answers_tell is_shown b shown none = first_brings b.seen.rule (manners.answered is_shown b.other).rule (answered_told is_shown b.other shown none)

module _ (window : ℕ) (t : Sent) (to : LinkSet) (b : Minding) (known : t.facts.is_sure ≡ true → t.facts.is_known ≡ true) (none : b.other.polls ≡ 0) where
  minds_tells : (frame : PlainFrame) → is_final frame ≡ true → links.judges 0 frame t.facts ≡ true → Tells (links.minds window t to frame b)
  unfolding links.minds links.judges
  minds_tells (rr false nr true) final judged = answers_tell t.facts.is_known b (known judged) none
  minds_tells (rnr false nr true) final judged = answers_tell t.facts.is_known b (known judged) none
  minds_tells (rej false nr true) final judged = first_keeps (links.bits false true t.facts.is_known b).seen.rule
      _ (answers_tell t.facts.is_known b (known judged) none)
  minds_tells (dm true) final judged = answers_tell t.facts.is_shown b judged none
  minds_tells (frmr true why) final judged = answers_tell t.facts.is_shown b judged none
  minds_tells frame final judged = absurd (both_ways false refl final)

-- both ends behind a frame, with manners and all that is said
module _ (window : ℕ) (frame : PlainFrame) (x : Frame) (was : Bool) (own other : End) where
  abbrev pub t : Sent
  t = links.sent_by frame x own

  abbrev pub before : Minding
  before = record {
    own = own.manners;
    other = other.manners;
    seen = links.seen_of was (links.is_blind (links.end_sent frame x own) (links.end_shown x other)) (links.opens (links.end_sent frame x own).set frame)
        other.manners.polls frame x t;
  }

  judged_is : (links.sees_as window frame x was own other).seen.is_judged ≡ links.judges other.manners.polls frame (steps.facts x own.set)
  unfolding links.minds links.judges
  judged_is = minds_has (λ r judged. judged ≡ before.seen.is_judged) (λ r m judged fair h. h) window t (steps.shows_to x other.set) frame before refl

  final_is : is_final frame ≡ true → (links.sees_as window frame x was own other).seen.is_judged ≡ true → other.manners.polls ≡ 0
      → IsTold (links.sees_as window frame x was own other).seen.rule
  final_is final judged none = minds_tells window t (steps.shows_to x other.set) before (λ sure. (and_parts (steps.is_known own.set) _ sure).0) none frame final
      (subst (λ n. links.judges n frame (steps.facts x own.set) ≡ true) none (sym judged_is ∙ judged))

pub judged_finals_are_told : JudgedFinalsAreTold
judged_finals_are_told from j frame final judged none =
    let own = own_of from j in
    let x = links.shown frame (differs own.held frame) in
    tells_of from j frame (final_is j.window frame x (links.is_blind own (other_of from j)) own (other_of from j) final judged none)

-- ---- N(S)

abbrev Says : Minded → Type 0
Says x = IsTold x.rule

module _ (m : Manners) (at : Place) where
  again_told : (next : ℕ) (is_poll : Bool) (back : ℕ) → manners.goes_on at back m ≡ false → manners.may_go_back at is_poll back m ≡ false
      → IsTold (manners.sent_again at next is_poll back m).rule
  again_told next is_poll back out stays =
      cond_both (manners.goes_on at back m) (manners.notes SentAgain true (manners.repeated back m)) _ Says
      (λ on. absurd (both_ways (manners.goes_on at back m) out on))
      (λ _. cond_both (manners.may_go_back at is_poll back m) (manners.notes SentAgain true (manners.gone_back is_poll back m)) _ Says
      (λ may. absurd (both_ways (manners.may_go_back at is_poll back m) stays may))
      (λ _. cond_both (nat_lt back m.behind) (manners.breaks (Skips next) true (manners.repeated back m))
      (manners.breaks (Repeats next) true (manners.repeated back m)) Says (λ _. refl) (λ _. refl)))

  -- a number that is the next one goes on
  goes_first : (back : ℕ) → nat_lt 0 back ≡ false → manners.goes_on at back m ≡ false → (m.behind == 0 || at.pending == 0) ≡ true → ⊥
  goes_first back none out test =
      let zero : back ≡ 0 = grind (arith, nat_tests) in
      let parts = or_parts (back == m.behind) (nat_le at.pending back && nat_lt back m.behind)
      (or_parts m.is_adrift (back == m.behind || (nat_le at.pending back && nat_lt back m.behind)) out).1 in
      elim (or_cases (m.behind == 0) (at.pending == 0) test) [
        | inl now ↦ both_ways (back == m.behind) parts.0 (eq-eqb back m.behind (zero ∙ sym (eqb-true m.behind 0 now)))
        | inr acked ↦ elim (and_cases (nat_le at.pending back) (nat_lt back m.behind) parts.1) [
          | inl far ↦ both_ways (nat_le at.pending back) far (le-leb at.pending back (let e : at.pending ≡ 0 = eqb-true at.pending 0 acked in omega (arith, e)))
          | inr low ↦ both_ways (back == m.behind) parts.0
              (eq-eqb back m.behind (let e : m.behind ≤ back = grind (arith, nat_tests, low) in omega (arith, e, zero)))
        ]
      ]

  number_told : (window back next : ℕ) (is_poll : Bool) → manners.goes_on at back m ≡ false → manners.may_go_back at is_poll back m ≡ false
      → IsTold (manners.sends_from window at back next is_poll false m).rule
  number_told window back next is_poll out stays =
      cond_both (nat_lt 0 back) (manners.sent_again at next is_poll back m) _ Says (λ _. again_told next is_poll back out stays)
      (λ none. cond_both (m.behind == 0 || at.pending == 0) (manners.sent_new window at m) (manners.breaks (Skips next) false (manners.grown 1 m)) Says
      (λ test. absurd (goes_first back none out test)) (λ _. refl))

-- P=1 changes nothing of this
asked_is : (m : Manners) → (manners.asks m).manners ≡ manners.asks_on true m
asked_is m = cond_both m.is_polling (manners.notes PollAgain false (manners.asks_on true m)) (manners.quiet (manners.asks_on true m))
    (λ (x : Minded). x.manners ≡ manners.asks_on true m) (λ _. refl) (λ _. refl)

stays_out : (ns : ℕ) (p q : Bool) (at : Place) (b : Minding) → IsOutOfPlace ns p b.own at → IsOutOfPlace ns p (links.asks q b).own at
stays_out ns p true at b h = subst (λ m. IsOutOfPlace ns p m at) (sym (asked_is b.own)) (record { here = h.here; back = h.back })
stays_out ns p false at b h = h

module _ (window : ℕ) (t : Sent) (ns : ℕ) (p : Bool) (b : Minding) where
  pub number_tells : (told : Told) (x : Frame) (k : Numbers)
      → (told ≡ Nothing → IsTold (links.minded_as Nothing window k t ns p (links.is_differing b.seen.rule) b.own).rule)
      → (IsTold (links.rule_of told x) → Tells b) → Tells (links.by_own (links.minded_as told window k t ns p (links.is_differing b.seen.rule) b.own) b)
  number_tells (Broken s) x k told broken = first_keeps b.seen.rule _ (broken refl)
  number_tells (SkipsOf s) x k told broken = first_brings b.seen.rule (manners.sends window (manners.place_of k) ns p true b.own).rule refl
  number_tells Nothing x k told broken = first_brings b.seen.rule _ (told refl)

  stand_tells : (s : Stand) (x : Frame) → t.facts.is_counted ≡ true → is_up s ≡ true → (IsTold (links.rule_of t.told x) → Tells b)
      → IsOutOfPlace ns p b.own (links.place_in s) → Tells (links.counts_in s t.told window t ns p b)
  stand_tells (Up k) x counted up broken out = number_tells t.told x k
      (λ _. cond_both t.facts.is_counted (manners.sends window (manners.place_of k) ns p false b.own) _ (λ (y : Minded). IsTold y.rule)
      (λ _. number_told b.own (manners.seen_place (manners.place_of k) b.own) window (apart (manners.place_of k).next ns) _ p out.here out.back)
      (λ no. absurd (both_ways t.facts.is_counted no counted))) broken
  stand_tells s x counted up broken out = absurd (both_ways false refl up)

pub asks_tells : (p : Bool) (b : Minding) → Tells b → Tells (links.asks p b)
asks_tells true b h = first_keeps b.seen.rule (manners.asks b.own).rule h
asks_tells false b h = h

module _ (window : ℕ) (x : Frame) (was : Bool) (own other : End) (ns nr : ℕ) (p : Bool) (octets : List ℕ) where
  number_is : (links.sees_as window (info ns nr p octets) x was own other).seen.is_judged ≡ true → is_up (steps.numbers own.set) ≡ true
      → IsOutOfPlace ns p own.manners (links.place own) → IsTold (links.sees_as window (info ns nr p octets) x was own other).seen.rule
  unfolding links.minds links.judges
  number_is judged up out =
      let frame = info ns nr p octets in
      let b = before window frame x was own other in
      let sure = and_parts (steps.is_certain own.set) (steps.is_counted (steps.numbers own.set) own.set)
      (sym (judged_is window frame x was own other) ∙ judged) in
      stand_tells window (t window frame x was own other) ns p (links.asks p b) (steps.numbers own.set) x sure.1 up
      (λ broken. asks_tells p b broken) (stays_out ns p p (links.place own) b out)

pub judged_sendings_are_told : JudgedSendingsAreTold
unfolding links.shown
judged_sendings_are_told from j ns nr p octets judged up out =
    let own = own_of from j in
    let frame = info ns nr p octets in
    tells_of from j frame (number_is j.window (Info ns nr (differs own.held frame)) (links.is_blind own (other_of from j)) own (other_of from j) ns nr p octets
    judged up out)
