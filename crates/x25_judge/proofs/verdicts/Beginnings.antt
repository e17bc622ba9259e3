-- SABM and UA begin a session of both ends.
use Rattle.x25_judge.proofs.verdicts.Names.{◌≡◌, ◌==◌, ◌⊎◌, inl, inr, ℕ, arith, Bool, true, false, zero, suc, List, [], ◌∷◌, ◌++◌, length, drop, Option, Some}
use Rattle.x25_judge.proofs.verdicts.Names.{None, Result, Ok, Err, refl, sym, ap, ◌∙◌, subst, nat_le, not, ◌&&◌, ◌||◌, both_ways, cond_both, or_parts}
use Rattle.x25_judge.proofs.verdicts.Names.{and_parts, and_from, Role, Dte, Dce, gap_in, n1, sent_in, Reading, PlainFrame, sabm, ua, frame_of, FrameError}
use Rattle.x25_judge.proofs.verdicts.Names.{other, Held, no_octets, differs, all_told, answer_to, book_of, gap_of, missed_by, other_of, own_of, past_gap}
use Rattle.x25_judge.proofs.verdicts.Names.{read_of, seen_by, sent_of, Judge, Strictness, End, Rule, come, comes, has_answer, has_number, is_new, is_number}
use Rattle.x25_judge.proofs.verdicts.Names.{is_of_order, IsBegun, rule_of, Shows, after, IsClear, SetUpsBegin, PacketRule, IsIn, Place, at, At, Owes, State}
use Rattle.x25_judge.proofs.verdicts.Names.{fresh, has_ua, heard, is_asking, may_answer, owes, passes, sends, is_plain, onward, settled, upward, hastened}
use Rattle.x25_judge.proofs.verdicts.Names.{is_below, numbers_below, sends_to, set_as, shows_to, spot_at, trimmed, Frame, Before, Disc, Info, Ready, Sabm, Ua}
use Rattle.x25_judge.proofs.verdicts.Names.{Unread, LinkSet, Told, Broken, Nothing, Spot, Numbers, Stand, Asking, Free, Out, Up, AllAre, sent_all, shown_all}
use Rattle.x25_judge.proofs.verdicts.Names.{AreBelow, Below, below_on, below_self, HoldsAt, Leads, Stays, Steps, Has, HasIn, blind_sends, blind_shows, has_less}
use Rattle.x25_judge.proofs.verdicts.Names.{has_sent, has_shown, has_taken, shows_by, trim_has, is_of_manners, NoPoll, RejectAgain, OverWindow, Repeats, Packet}
use Rattle.x25_judge.proofs.{verdicts.Names.{if◌then◌else◌, eq-eqb, le-leb}, verdicts.Lines.{Goes, goes, next_goes, next_past, other_twice}}
use Rattle.x25_judge.specs.{Judge.{begins as judge_begins}, Rule.{first as first_rule}}
use Rattle.x25_possible_links.specs.{laws.Link.{asks, answers, begins}, laws.Places.{first}}
use Rattle.x25_possible_links.specs.declared.set.Told.TheVariants.{Skips as SkipsOf}
use Rattle.x25_judge.specs.declared.rule.Rule.TheVariants.{Skips}
use Rattle.std.specs.List.{list_any}
use Rattle.std.proofs.lemmas.Bool.Decides.{nat_tests}
use Rattle.std.proofs.lemmas.List.Folds.{list_any-append}
use Rattle.x25_possible_links.proofs.Covers.{Covers, Here, Asked, Later, Begins}
use Rattle.x25_judge.proofs.{verdicts.Octets.{HasRoom, each_room, keeps_room}, verdicts.Silences.{no_numbers, saw}}
use Rattle.x25_judge.proofs.verdicts.Silent.{Fits, IsWithin, comes_on, settled_comes, up_below, settled_within, upward_within}
use Rattle.x25_judge.proofs.verdicts.TakenUp.{down_if_over, ends_watch, over_on}
use Rattle.x25_judge.specs.{declared.midst.Watch.TheVariants.{Over}, laws.Tapes.{takes_up}}
use Rattle.x25_judge.proofs.{verdicts.Following.{owed_first}, verdicts.Innocents.{sent_end, shown_end}, verdicts.Manners.{IsFair, minds_has}}
use Rattle.x25_judge.specs.Links as links
use Rattle.x25_possible_links.specs.laws.Places as place
use Rattle.x25_possible_links.specs.code.Steps.{set_of}
use Rattle.x25_possible.specs.declared.packet.Defaults.{Defaults}

-- ---- a place from which a session may begin

step_comes : (u : Stand) (x : Frame) (way : List Frame) → Below fresh (comes way (onward u x)) → Below fresh (comes way (upward u x))
step_comes Asking x way b =
    cond_both (may_answer x) fresh Asking (λ (u : Stand). Below fresh (comes way u)) (λ _. up_below way no_numbers) (λ _. b)
step_comes u x way b = b

covers_come : (u : Stand) (way : List Frame) (s : State) (end : List Frame) → Covers u way s end → (g : Stand) → s ≡ At g → end ≡ [] → Below fresh g
    → Below fresh (comes way u)
covers_come _ _ _ _ (Here s u way below) g e none b =
    subst (λ w. Below fresh (comes w u)) (sym none) (below_on fresh s u (subst (λ r. Below fresh r) (sym cc) b) below)
covers_come _ _ _ _ (Asked s u r x way below is) g e none b = absurd cc
covers_come _ _ _ _ (Later u x way s end c) g e none b = step_comes u x way (covers_come (onward u x) way s end c g e none b)
covers_come _ _ _ _ (Begins x way s end may c) g e none b =
    subst (λ b. Below fresh (comes way (if b then fresh else Asking))) (sym may) (up_below way no_numbers)

leads_none : (u : Stand) (way : List Frame) (t : Stand) (end : List Frame) → Leads u way t end → way ≡ [] → (t ≡ u) × (end ≡ [])
leads_none _ _ _ _ (Stays u way) e = (refl, e)
leads_none _ _ _ _ (Steps u x way t end p l) e = absurd cc

holds_come : (u : Stand) (way : List Frame) → HoldsAt u way (At fresh) [] → Below fresh (comes way u)
holds_come u way h =
    let l = leads_none h.good [] h.stand h.end h.leads refl in
    covers_come u way (At h.stand) h.end h.covers h.stand refl l.1 (subst (λ s. Below fresh s) (sym l.0) h.below)

numbers_true : (k j : Numbers) → AreBelow k j → numbers_below k j ≡ true
numbers_true k j b =
    and_from (j.sent == k.sent) _ (eq-eqb j.sent k.sent b.sent)
    (and_from (nat_le k.acked j.acked) _ (le-leb k.acked j.acked b.acked)
    (and_from (nat_le k.taken j.taken) (nat_le j.told k.told) (le-leb k.taken j.taken b.taken) (le-leb j.told k.told b.told)))

below_is : (s : Stand) → Below fresh s → is_below fresh s ≡ true
below_is (Up j) b = numbers_true _ j b
below_is Free b = refl
below_is s b = absurd b

-- ---- a set of any places

passes_all : (qs : List Spot) (way : List Frame) (s : Stand) (end : List Frame) → HasIn qs way (At s) end → HasIn qs way (At s) []
passes_all qs way s [] g = g
passes_all qs way s (x ∷ end) g = passes_all qs way s end (has_taken qs way (At s) (At s) x end g (passes s x))

first_in : (q : Spot) (qs : List Spot) (way : List Frame) → HasIn (q ∷ qs) way (At q.stand) []
first_in q qs way =
    let s = q.stand in
    let w = drop q.at way in
    passes_all (q ∷ qs) way s w
    (q, inl refl, record { good = s; below = below_self s; stand = s; end = w; leads = Stays s w; covers = Here s s w (below_self s) })

covers_free : (way : List Frame) → Covers Free way (At Free) []
covers_free [] = Here Free Free [] tt
covers_free (x ∷ way) = Later Free x way (At Free) [] (covers_free way)

free_in : (n : ℕ) (way : List Frame) → HasIn (spot_at n Free ∷ []) way (At Free) []
free_in n way = (spot_at n Free, inl refl, record { good = Free; below = tt; stand = Free; end = []; leads = Stays Free []; covers = covers_free (drop n way) })

-- ---- SABM

asks_alone : (s : Stand) → asks s [] ≡ Some Asking
asks_alone Out = refl
asks_alone s = refl

abbrev set_in : List Frame → List Spot → Bool → LinkSet
set_in way qs b = record (set_of way qs) { is_blind = b }

abbrev Asks : LinkSet → Type 0
Asks s = Has (sends_to Sabm s).set (At Asking) []

asks_in : (way : List Frame) (qs : List Spot) (b : Bool) → Asks (set_in way qs b)
asks_in way [] b =
    let s = trimmed (set_as (set_in way [] b) way (spot_at (length way) Free ∷ [])) in
    has_less s.spots.items s.way.items Free Asking [] (trim_has (set_in way [] b) way (spot_at (length way) Free ∷ []) (At Free) [] (free_in (length way) way))
    tt
asks_in way (q ∷ qs) b =
    has_sent (set_in way (q ∷ qs) b) Sabm (At q.stand) (At Asking) [] (sends q.stand Asking [] Sabm 0 0 (asks_alone q.stand)) (first_in q qs way)

-- ---- the end that asks

asker : (s : LinkSet) → Has (shows_to Ua (sends_to Sabm s).set) (At fresh) []
asker s =
    let mid = (sends_to Sabm s).set in
    let last = shows_to Ua mid in
    has_taken last.spots.items last.way.items (At Asking) (At fresh) Ua []
    (has_shown Ua (At Asking) [] mid (λ full. omega arith) (asks_in s.way.items s.spots.items s.is_blind)) (begins Ua refl)

-- ---- the end that answers

something : (s : Stand) → Broken s ≡ Nothing → ⊥
something s e = cc

trimmed_none : (s : LinkSet) (way : List Frame) → (trimmed (set_as s way [])).spots.items ≡ []
trimmed_none s way =
    cond_both (length way == 0) (set_as s way []) (set_as s (drop (length way) way) []) (λ (t : LinkSet). t.spots.items ≡ []) (λ _. refl) (λ _. refl)

none_shown : (way : List Frame) (b : Bool) → (shows_to Sabm (set_in way [] b)).spots.items ≡ []
none_shown way b = go (length way == 128)
  where
    go : (full : Bool) → (shows_by full Sabm (set_in way [] b)).spots.items ≡ []
    go true = trimmed_none (hastened (set_in way [] b)) (drop 64 way ++ Sabm ∷ [])
    go false = trimmed_none (set_in way [] b) (way ++ Sabm ∷ [])

abbrev Answers : LinkSet → Type 0
Answers s = (sends_to Ua (shows_to Sabm s)).told ≡ Nothing → Has (sends_to Ua (shows_to Sabm s)).set (At fresh) []

answers_in : (way : List Frame) (qs : List Spot) (b : Bool) → Answers (set_in way qs b)
answers_in way [] b untold =
    let mid = shows_to Sabm (set_in way [] b) in
    absurd (something Free (sym (subst (λ (qs : List Spot). (sends_to Ua (set_in mid.way.items qs mid.is_blind)).told ≡ Broken Free)
    (sym (none_shown way b)) refl) ∙ untold))
answers_in way (q ∷ qs) b untold =
    let mid = shows_to Sabm (set_in way (q ∷ qs) b) in
    let shown = has_shown Sabm (At q.stand) [] (set_in way (q ∷ qs) b) (λ full. omega arith) (first_in q qs way) in
    has_sent mid Ua (Owes fresh) (At fresh) [] (answers fresh [])
    (has_taken mid.spots.items mid.way.items (At q.stand) (Owes fresh) Sabm [] shown (owes q.stand fresh Sabm (owed_first q.stand)))

answerer : (s : LinkSet) → Answers s
answerer s = answers_in s.way.items s.spots.items s.is_blind

-- ---- no more than a session that begins

fits_is_new : (s : Stand) → Fits no_numbers s → is_new s ≡ true
fits_is_new (Up j) b = numbers_true j no_numbers b
fits_is_new Free b = absurd b
fits_is_new s b = refl

abbrev IsNew : LinkSet → Type 0
IsNew s = AllAre (IsWithin no_numbers) s

-- the end that asks

none_left : (test : Frame → Bool) (n : ℕ) (way : List Frame) → list_any test way ≡ false → list_any test (drop n way) ≡ false
none_left test zero way e = e
none_left test (suc n) [] e = refl
none_left test (suc n) (x ∷ way) e = none_left test n way (or_parts (test x) (list_any test way) e).1

asking_comes : (way : List Frame) → has_answer way ≡ false → comes way Asking ≡ Asking
asking_comes [] e = refl
asking_comes (x ∷ way) e =
    let a = or_parts (may_answer x) (has_answer way) e in
    ap (λ b. comes way (if b then fresh else Asking)) a.0 ∙ asking_comes way a.1

abbrev Waits : Place Stand Frame → Type 0
Waits m = comes m.way m.state ≡ Asking

first_waits : (b : Bool) (way : List Frame) (later : List (Place Stand Frame)) (m : Place Stand Frame) → has_answer way ≡ false
    → (IsIn m later → Waits m) → IsIn m (first (if b then Some Asking else None) way later) → Waits m
first_waits false way later m free rest there = rest there
first_waits true way later m free rest (inl same) = subst Waits (sym same) (asking_comes way free)
first_waits true way later m free rest (inr h) = absurd h

goes_waits : (way : List Frame) (s : Stand) (m : Place Stand Frame) → has_answer way ≡ false → IsIn m (place.goes Sabm s way) → Waits m
goes_waits [] s m free there = first_waits (is_asking s || not (has_ua [])) [] [] m free (λ h. absurd h) there
goes_waits (y ∷ way) s m free there =
    first_waits (is_asking s || not (has_ua (y ∷ way))) (y ∷ way) (place.goes Sabm (upward s y) way) m free
    (λ h. goes_waits way (upward s y) m (or_parts (may_answer y) (has_answer way) free).1 h) there

asker_new : (s : LinkSet) → has_answer s.way.items ≡ false → (sends_to Sabm s).told ≡ Nothing → (sends_to Sabm s).set.is_blind ≡ false
    → (shows_to Ua (sends_to Sabm s).set).is_blind ≡ false → IsNew (shows_to Ua (sends_to Sabm s).set)
asker_new s free told some room =
    shown_all Waits (IsWithin no_numbers) (sends_to Sabm s).set Ua waits (λ u x v e h. subst (λ w. comes v w ≡ Asking) e h) each room
  where
    waits : AllAre Waits (sends_to Sabm s).set
    waits =
        (sent_all (λ p. has_answer p.way ≡ false) Waits s Sabm (λ q is. none_left may_answer q.at s.way.items free)
        (λ p m h there. settled_comes m.way m.state ∙ goes_waits p.way p.state m h there) some told).all

    each : (p : Place Stand Frame) → Waits p → IsWithin no_numbers (place.shown Ua p)
    each p e =
        subst (Fits no_numbers) (sym (settled_comes (p.way ++ Ua ∷ []) p.state ∙ (comes_on p.way p.state Ua ∙ ap (λ u. upward u Ua) e)))
        (below_self fresh)

-- the end that answers

settled_no_number : (way : List Frame) (s : Stand) → has_number way ≡ false → has_number (settled s way).way ≡ false
settled_no_number [] s e = e
settled_no_number (x ∷ way) s e =
    cond_both (is_plain s x) (settled (onward s x) way) (at s (x ∷ way)) (λ (p : Place Stand Frame). has_number p.way ≡ false)
    (λ _. settled_no_number way (onward s x) (or_parts (is_number x) (has_number way) e).1) (λ _. e)

heard_nothing : (x : Frame) → is_number x ≡ false → heard true true no_numbers x ≡ no_numbers
heard_nothing (Info ns nr d) e = absurd (both_ways true e refl)
heard_nothing (Ready nr) e = absurd (both_ways true e refl)
heard_nothing Unread e = absurd (both_ways true e refl)
heard_nothing x e = refl

fits_comes : (way : List Frame) (u : Stand) → has_number way ≡ false → Fits no_numbers u → Fits no_numbers (comes way u)
fits_comes [] u e b = b
fits_comes (x ∷ way) u e b =
    let a = or_parts (is_number x) (has_number way) e in
    fits_comes way (upward u x) a.1 (subst (λ (k : Numbers). Fits k (upward u x)) (heard_nothing x a.0) (upward_within u no_numbers x b))

answered_new : (b : Bool) (way : List Frame) (m : Place Stand Frame) → has_number way ≡ false
    → IsIn m (if b then at fresh way ∷ at Asking way ∷ [] else at fresh way ∷ []) → IsWithin no_numbers m
answered_new true way m free (inl same) = subst (IsWithin no_numbers) (sym same) (fits_comes way fresh free (below_self fresh))
answered_new true way m free (inr (inl same)) = subst (IsWithin no_numbers) (sym same) (fits_comes way Asking free (refl, refl))
answered_new true way m free (inr (inr h)) = absurd h
answered_new false way m free (inl same) = subst (IsWithin no_numbers) (sym same) (fits_comes way fresh free (below_self fresh))
answered_new false way m free (inr h) = absurd h

answers_new : (way : List Frame) (s : Stand) (m : Place Stand Frame) → has_number way ≡ false → IsIn m (place.answers s way) → IsWithin no_numbers m
answers_new [] s m free there = absurd there
answers_new (Sabm ∷ way) s m free there = answered_new (is_asking s) way m free there
answers_new (Unread ∷ way) s m free there = absurd (both_ways true free refl)
answers_new (Before ∷ way) s m free there = answered_new (is_asking s) (Before ∷ way) m free there
answers_new (Disc ∷ way) s m free (inl same) = subst (IsWithin no_numbers) (sym same) (fits_comes way Out free tt)
answers_new (Disc ∷ way) s m free (inr there) = answers_new way s m free there
answers_new (y ∷ way) s m free there = answers_new way s m (or_parts (is_number y) (has_number way) free).1 there

abbrev HasNone : Place Stand Frame → Type 0
HasNone p = has_number p.way ≡ false

answerer_new : (s : LinkSet) → has_number s.way.items ≡ false → (shows_to Sabm s).is_blind ≡ false
    → (sends_to Ua (shows_to Sabm s)).set.is_blind ≡ false → (sends_to Ua (shows_to Sabm s)).told ≡ Nothing → IsNew (sends_to Ua (shows_to Sabm s)).set
answerer_new s free some room told =
    (sent_all HasNone (IsWithin no_numbers) (shows_to Sabm s) Ua shown
    (λ p m h there. settled_within no_numbers m (answers_new p.way p.state m h there)) room told).all
  where
    shown : AllAre HasNone (shows_to Sabm s)
    shown =
        shown_all HasNone HasNone s Sabm (λ q is. none_left is_number q.at s.way.items free)
        (λ u x v e h. (or_parts (is_number x) (has_number v) h).1)
        (λ p h. settled_no_number (p.way ++ Sabm ∷ []) p.state (list_any-append is_number p.way (Sabm ∷ []) ∙ ap (λ b. b || false) h)) some

-- ---- the judge

opposite_is : (from : Role) (j : Judge) → other_of from j ≡ own_of (other from) j
opposite_is Dte j = refl
opposite_is Dce j = refl

-- a rule of order that is told of the set stays told
not_of_manners : (r : Rule) → is_of_order (Some r) ≡ true → is_of_manners r ≡ false
not_of_manners (OverWindow window) h = grind (arith, nat_tests, h)
not_of_manners NoPoll h = absurd (both_ways false refl h)
not_of_manners RejectAgain h = absurd (both_ways false refl h)
not_of_manners (Skips next) h = absurd (both_ways false refl h)
not_of_manners (Repeats next) h = absurd (both_ways false refl h)
not_of_manners (Packet rule) h = absurd (both_ways false refl h)
not_of_manners r h = refl

order_stays : (r m : Option Rule) (judged : Bool) → IsFair m → is_of_order r ≡ true → is_of_order (first_rule r m) ≡ true
order_stays None m judged fair h = absurd (both_ways false refl h)
order_stays (Some r) None judged fair h = h
order_stays (Some r) (Some m) judged fair h =
    cond_both (is_of_manners r && not (is_of_manners m)) (Some m) (Some r) (λ (o : Option Rule). is_of_order o ≡ true)
    (λ both. absurd (both_ways (is_of_manners r) (not_of_manners r h) (and_parts (is_of_manners r) (not (is_of_manners m)) both).0)) (λ _. h)

all_stays : (r : Option Rule) (packet : Option PacketRule) → is_of_order r ≡ true → is_of_order (all_told r packet) ≡ true
all_stays r None h = h
all_stays r (Some packet) h = order_stays r (Some (Packet packet)) true refl h

module _ (j : Judge) (from : Role) (frame : PlainFrame) (x : Frame) (is : (d : Bool) → links.shown frame d ≡ x)
    (quiet : is_of_order (rule_of j from frame) ≡ false) where
  not_of_order : is_of_order (links.rule_of (sends_to x (own_of from j).set).told x) ≡ true → ⊥
  not_of_order h =
      both_ways (is_of_order (rule_of j from frame)) quiet
      (all_stays (seen_by j from frame).seen.rule _
      (minds_has (λ r judged. is_of_order r ≡ true) order_stays j.window _ _ frame _
      (subst (λ y. is_of_order (links.rule_of (sends_to y (own_of from j).set).told y) ≡ true) (sym (is (differs (own_of from j).held frame))) h)))

  -- nothing is told where all that may be is of order
  not_told : ((stand : Stand) → is_of_order (links.rule_of (Broken stand) x) ≡ true) → ((stand : Stand) → is_of_order (links.rule_of (SkipsOf stand) x) ≡ true)
      → (sends_to x (own_of from j).set).told ≡ Nothing
  not_told broken skips = go (sends_to x (own_of from j).set).told refl
    where
      go : (told : Told) → (sends_to x (own_of from j).set).told ≡ told → (sends_to x (own_of from j).set).told ≡ Nothing
      go Nothing e = e
      go (Broken s) e = absurd (not_of_order (subst (λ (o : Told). is_of_order (links.rule_of o x) ≡ true) (sym e) (broken s)))
      go (SkipsOf s) e = absurd (not_of_order (subst (λ (o : Told). is_of_order (links.rule_of o x) ≡ true) (sym e) (skips s)))

not_up : (s : Stand) → is_of_order (Some (links.broken s Sabm)) ≡ true
not_up Out = refl
not_up s = refl

heard_by : (from : Role) (j : Judge) (line octets : List ℕ) (frame : PlainFrame) → Shows line from octets frame → takes_up j from frame ≡ false
    → (own_of (other from) (answer_to j line).next).set ≡ shows_to (links.shown frame (differs (own_of from j).held frame)) (own_of (other from) j).set
heard_by Dte j line octets frame shows down = (shown_end Dce j line octets frame shows down).places
heard_by Dce j line octets frame shows down = (shown_end Dte j line octets frame shows down).places

begun_by : (j : Judge) (r : Role) (s : LinkSet) → (own_of r j).set ≡ s → Has s (At fresh) [] → (s.is_blind ≡ false → IsNew s)
    → (own_of r j).set.is_blind ≡ false → HasRoom (own_of r j).held → (own_of r j).watch ≡ Over → IsBegun j r
begun_by j r s e h new sees room over = record {
  up = subst (λ (t : LinkSet). (q : Spot) × IsIn q t.spots.items × (is_below fresh (come t q) ≡ true)) (sym e)
      (h.0, h.1, below_is _ (holds_come h.0.stand (drop h.0.at s.way.items) h.2));
  new = subst (λ (t : LinkSet). (q : Spot) → IsIn q t.spots.items → is_new (come t q) ≡ true) (sym e)
      (λ q is. fits_is_new (come s q) (new (ap (λ (t : LinkSet). t.is_blind) (sym e) ∙ sees) q is));
  octets = room.octets;
  known = room.known;
  over = over;
}

-- ---- octets of both ends keep their room

abbrev AreRoomy : Judge → Type 0
AreRoomy j = (r : Role) → HasRoom (own_of r j).held

by_roles : (from : Role) (k : Judge) (P : End → Type 0) → P (own_of from k) → P (own_of (other from) k) → (r : Role) → P (own_of r k)
by_roles Dte k P a b Dce = b
by_roles Dce k P a b Dte = b
by_roles from k P a b r = a

told_room : (told : Told) (h : Held) → HasRoom h → HasRoom (links.held_by told h)
told_room (SkipsOf s) h g = record { octets = g.octets; known = refl }
told_room told h g = g

abbrev RoomOf : End → Type 0
RoomOf e = HasRoom e.held

goes_room : (k : Judge) (from : Role) (sender hearer : End) → Goes k from sender hearer → RoomOf sender → RoomOf hearer → AreRoomy k
goes_room k from sender hearer g a b = by_roles from k RoomOf (subst RoomOf (sym g.own) a) (subst RoomOf (sym g.opposite) b)

read_stays : (j : Judge) (from : Role) (octets : List ℕ) (r : Result PlainFrame FrameError) → AreRoomy j → AreRoomy (read_of j from octets r).next
read_stays j from octets (Ok frame) h =
    let t = seen_by j from frame in
    let s = book_of j from frame t.seen in
    goes_room _ from t.own t.other (next_goes from j frame t s _ (all_told t.seen.rule s.verdict.rule))
    (keeps_room _ frame (told_room _ (own_of from j).held (h from))) (subst RoomOf (sym (opposite_is from j)) (h (other from)))
read_stays j from octets (Err e) h =
    goes_room _ from (missed_by j from).own (missed_by j from).other (next_past from e _ j)
    (each_room (own_of from j).set.spots.items (own_of from j).held (h from)) (subst RoomOf (sym (opposite_is from j)) (h (other from)))

gap_stays : (j : Judge) (gap : Option Role) → AreRoomy j → AreRoomy (gap_of j gap).next
gap_stays j None h = h
gap_stays j (Some from) h =
    by_roles Dte (past_gap from j) RoomOf (record { octets = (h Dte).octets; known = refl }) (record { octets = (h Dce).octets; known = refl })

sent_stays : (j : Judge) (gap : Option Role) (s : Option (Role × List ℕ)) → AreRoomy j → AreRoomy (sent_of j gap s).next
sent_stays j gap None h = gap_stays j gap h
sent_stays j gap (Some (from, octets)) h = read_stays j from octets (frame_of from n1 octets) h

line_stays : (j : Judge) (line : List ℕ) → AreRoomy j → AreRoomy (answer_to j line).next
unfolding answer_to
line_stays j line h = sent_stays j (gap_in line) (sent_in line) h

lines_stay : (j : Judge) (lines : List (List ℕ)) → AreRoomy j → AreRoomy (after j lines)
lines_stay j [] h = h
lines_stay j (line ∷ lines) h = lines_stay (answer_to j line).next lines (line_stays j line h)

begins_so : (window : ℕ) (defaults : Defaults) (reading : Reading) (strictness : Strictness) → AreRoomy (judge_begins window defaults reading strictness)
unfolding no_octets
begins_so window defaults reading strictness Dte = record { octets = refl; known = refl }
begins_so window defaults reading strictness Dce = record { octets = refl; known = refl }

-- ---- the law

either : (from end : Role) → (end ≡ from) ⊎ (end ≡ other from)
either Dte Dce = inr refl
either Dce Dte = inr refl
either from end = inl refl

begin_both : (j : Judge) (from end : Role) (asks accepts asked accepted : List ℕ) (p f : Bool) → AreRoomy j → Shows asks from asked (sabm p)
    → Shows accepts (other from) accepted (ua f)
    → is_of_order (rule_of j from (sabm p)) ≡ false → is_of_order (rule_of (answer_to j asks).next (other from) (ua f)) ≡ false → IsClear j from end
    → (own_of end (after j (asks ∷ accepts ∷ []))).set.is_blind ≡ false → IsBegun (after j (asks ∷ accepts ∷ [])) end
unfolding links.shown
begin_both j from end asks accepts asked accepted p f stays first second asks_well quiet clear room = elim (either from end) [
  | inl e ↦ subst (λ (r : Role). (own_of r j2).set.is_blind ≡ false → IsBegun j2 r) (sym e)
      (by_asker (subst (λ (r : Role). has_answer (own_of r j).set.way.items ≡ false) e (clear.0 e))) room
  | inr e ↦ subst (λ (r : Role). (own_of r j2).set.is_blind ≡ false → IsBegun j2 r) (sym e)
      (by_answerer (subst (λ (r : Role). has_number (own_of r j).set.way.items ≡ false) e (clear.1 e))) room
]
  where
    j1 : Judge
    j1 = (answer_to j asks).next

    j2 : Judge
    j2 = (answer_to j1 accepts).next

    asks_down : takes_up j from (sabm p) ≡ false
    asks_down = down_if_over j from (sabm p) refl

    accepts_down : takes_up j1 (other from) (ua f) ≡ false
    accepts_down = down_if_over j1 (other from) (ua f) refl

    asker_over : (own_of from j2).watch ≡ Over
    asker_over = over_on j1 accepts accepted from (other from) (ua f) second (ends_watch j asks asked from (sabm p) first refl)

    answerer_over : (own_of (other from) j2).watch ≡ Over
    answerer_over = ends_watch j1 accepts accepted (other from) (ua f) second refl

    still : AreRoomy j2
    still = line_stays j1 accepts (line_stays j asks stays)

    asked_is : (own_of from j2).set ≡ shows_to Ua (sends_to Sabm (own_of from j).set).set
    asked_is =
        subst (λ (r : Role). (own_of r j2).set ≡ shows_to Ua (own_of r j1).set) (other_twice from)
        (heard_by (other from) j1 accepts accepted (ua f) second accepts_down) ∙ ap (shows_to Ua) (sent_end from j asks asked (sabm p) first asks_down).places

    shown_is : (own_of (other from) j1).set ≡ shows_to Sabm (own_of (other from) j).set
    shown_is = heard_by from j asks asked (sabm p) first asks_down

    untold : (sends_to Ua (shows_to Sabm (own_of (other from) j).set)).told ≡ Nothing
    untold =
        ap (λ (s : LinkSet). (sends_to Ua s).told) (sym shown_is) ∙ not_told j1 (other from) (ua f) Ua (λ d. refl) quiet (λ s. refl) (λ s. refl)

    by_asker : has_answer (own_of from j).set.way.items ≡ false → (own_of from j2).set.is_blind ≡ false → IsBegun j2 from
    by_asker free sees =
        let set = (own_of from j).set in
        begun_by j2 from _ asked_is (asker set)
        (λ s. asker_new set free (not_told j from (sabm p) Sabm (λ d. refl) asks_well not_up not_up)
        (saw (sends_to Sabm set).set.is_blind (shows_to Ua (sends_to Sabm set).set).is_blind (blind_shows (sends_to Sabm set).set Ua) s) s) sees
        (still from) asker_over

    by_answerer : has_number (own_of (other from) j).set.way.items ≡ false → (own_of (other from) j2).set.is_blind ≡ false → IsBegun j2 (other from)
    by_answerer free sees =
        let set = (own_of (other from) j).set in
        begun_by j2 (other from) _
        ((sent_end (other from) j1 accepts accepted (ua f) second accepts_down).places ∙ ap (λ (s : LinkSet). (sends_to Ua s).set) shown_is)
        (answerer set untold) (λ s. answerer_new set free
        (saw (shows_to Sabm set).is_blind (sends_to Ua (shows_to Sabm set)).set.is_blind (blind_sends (shows_to Sabm set) Ua) s) s untold) sees
        (still (other from)) answerer_over

after_on : (j : Judge) (xs ys : List (List ℕ)) → after j (xs ++ ys) ≡ after (after j xs) ys
after_on j [] ys = refl
after_on j (x ∷ xs) ys = after_on (answer_to j x).next xs ys

pub set_ups_begin : SetUpsBegin
set_ups_begin window defaults reading strictness lines from end asks accepts asked accepted p f first second asks_well quiet clear room =
    let j = after (judge_begins window defaults reading strictness) lines in
    let all = after_on (judge_begins window defaults reading strictness) lines (asks ∷ accepts ∷ []) in
    subst (λ k. IsBegun k end) (sym all)
    (begin_both j from end asks accepts asked accepted p f (lines_stay (judge_begins window defaults reading strictness) lines (begins_so window defaults reading strictness))
    first second asks_well
    (subst (λ k. is_of_order (rule_of k (other from) (ua f)) ≡ false) (after_on (judge_begins window defaults reading strictness) lines (asks ∷ [])) quiet) clear
    (subst (λ k. (own_of end k).set.is_blind ≡ false) all room))
