-- What no run of an end that keeps the rules explains is told, and the first rule of order is told of that alone.
use Rattle.x25_judge.proofs.verdicts.Names.{◌≡◌, ℕ, Bool, true, false, [], ◌∷◌, None, refl, sym, ap, ◌∙◌, subst, is_some, both_ways, Role, PlainFrame, info}
use Rattle.x25_judge.proofs.verdicts.Names.{differs, own_of, seen_by, Judge, Minding, Sent, is_of_order, rule_of, GuiltyAreTold, ToldAreGuilty, begun_as}
use Rattle.x25_judge.proofs.{verdicts.Names.{played, sends_to, Frame, Info, LinkSet, Told, Broken, Nothing, Skips, Stand, Up}, verdicts.Tapes.{told_is}}
use Rattle.x25_judge.proofs.{verdicts.Innocents.{none_of_order, seen_fair, sent_end}, verdicts.Manners.{minds_has}}
use Rattle.x25_judge.proofs.verdicts.{Lines.{IsTold, first_keeps}, Minded.{Tells, asks_tells, first_brings, number_tells, tells_of}}
use Rattle.x25_judge.specs.Links as links
use Rattle.x25_judge.specs.Manners as manners
use Rattle.x25_possible_links.proofs.SetLemmas as sets

-- ---- what is told of the set is told of the frame

abbrev IsSome : Told → Type 0
IsSome told = told ≡ Nothing → ⊥

module _ (window : ℕ) (t : Sent) (ns : ℕ) (p : Bool) (b : Minding) where
  counts_tell : (s : Stand) (told : Told) (x : Frame) → IsSome told → (IsTold (links.rule_of told x) → Tells b)
      → Tells (links.counts_in s told window t ns p b)
  counts_tell (Up k) told x some broken = number_tells window t ns p b told x k (λ e. absurd (some e)) broken
  counts_tell s (Broken u) x some broken = broken refl
  counts_tell s (Skips u) x some broken = first_brings b.seen.rule (manners.sends window (links.place_in s) ns p true b.own).rule refl
  counts_tell s Nothing x some broken = absurd (some refl)

Plain : Frame → Type 0
Plain (Info ns nr d) = ⊥
Plain x = Unit {0}

rule_some : (told : Told) (x : Frame) → IsSome told → Plain x → IsTold (links.rule_of told x)
unfolding Plain
rule_some Nothing x some plain = absurd (some refl)
rule_some (Skips s) (Info ns nr d) some plain = absurd plain
rule_some told x some plain = refl

frame_tells : (window : ℕ) (t : Sent) (to : LinkSet) (frame : PlainFrame) (d : Bool) (b : Minding) → IsSome t.told → b.seen.rule
    ≡ links.rule_of t.told (links.shown frame d) → Tells (links.minds window t to frame b)
unfolding links.minds links.shown Plain
frame_tells window t to (info ns nr p octets) d b some is =
    counts_tell window t ns p (links.asks p b) t.facts.stand t.told (Info ns nr d) some (λ broken. asks_tells p b (subst IsTold (sym is) broken))
frame_tells window t to frame d b some is =
    minds_has (λ r judged. IsTold r) (λ r m judged fair h. first_keeps r m h) window t to frame b
    (subst IsTold (sym is) (rule_some t.told (links.shown frame d) some tt))

-- and where none is told, nothing is
pub untold : (from : Role) (j : Judge) (frame : PlainFrame) → (seen_by j from frame).seen.rule ≡ None
    → (sends_to (links.shown frame (differs (own_of from j).held frame)) (own_of from j).set).told ≡ Nothing
untold from j frame none = go _ refl
  where
    go : (t : Told) → (sends_to (links.shown frame (differs (own_of from j).held frame)) (own_of from j).set).told ≡ t
        → (sends_to (links.shown frame (differs (own_of from j).held frame)) (own_of from j).set).told ≡ Nothing
    go Nothing e = e
    go t e =
        absurd (both_ways (is_some (seen_by j from frame).seen.rule) (ap is_some none)
        (frame_tells j.window _ _ frame (differs (own_of from j).held frame) _ (λ same. cc) refl))

-- ---- the laws

pub guilty_are_told : GuiltyAreTold
guilty_are_told of j begun tape s way line octets frame is h well shows down sees none =
    tells_of of j frame (frame_tells j.window _ _ frame (differs (own_of of j).held frame) _ not_nothing refl)
  where
    x : Frame
    x = links.shown frame (differs (own_of of j).held frame)

    all : sends_to x (own_of of j).set ≡ sends_to x (played (begun_as begun) tape)
    all = told_is of j begun tape x is

    room : (sends_to x (played (begun_as begun) tape)).set.is_blind ≡ false
    room = sym (ap (λ t. t.set.is_blind) all) ∙ sym (ap (λ (m : LinkSet). m.is_blind) (sent_end of j line octets frame shows down).places) ∙ sees

    not_nothing : (sends_to x (own_of of j).set).told ≡ Nothing → ⊥
    not_nothing e = sets.guilty_are_told begun tape x s way h well room none (sym (ap (λ t. t.told) all) ∙ e)

pub told_are_guilty : ToldAreGuilty
told_are_guilty of j begun tape frame s way is order run well =
    both_ways (is_of_order (rule_of j of frame))
    (none_of_order of j frame
    (seen_fair of j frame
    (ap (λ t. t.told) (told_is of j begun tape (links.shown frame (differs (own_of of j).held frame)) is)
    ∙ sets.innocents_stay_untold begun tape (links.shown frame (differs (own_of of j).held frame)) s way run well))) order
