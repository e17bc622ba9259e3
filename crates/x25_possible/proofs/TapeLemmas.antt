-- No rule is told of an end that keeps the rules, over a whole tape.
use Rattle.x25_possible.proofs.Names.{false, ◌≡◌, ◌⊎◌, inl, inr, refl, sym, ap, subst, ◌∙◌, ℕ, ◌≤◌, List, [], ◌∷◌, drop, drop_of_length-le, flat_map, length}
use Rattle.x25_possible.proofs.Names.{map, arith, Role, channel_choices, channel_rules, Item, Own, Other, IsUnexplained, Stands, at, possible, settled}
use Rattle.x25_possible.proofs.Names.{AreCounted, Fits, IsBroken, IsRude, IsUntold, placed, is_blind, quietly, sends_to, shows_to, standing, Packet, Phase}
use Rattle.x25_possible.proofs.{MannerLemmas.{polite_told}, Names.{Idle, Blind, Set, Broken, Spot}}
use Rattle.x25_possible.proofs.RoomLemmas.{counted_idle, counted_sends, counted_shows, guilty_told}
use Rattle.x25_possible.proofs.SetLemmas.{blind_known, sends_exactly, sends_role, sends_stay, shows_exactly, shows_role, shows_stay}
use Rattle.x25_possible.specs.{code.Steps.{behind, blind_by, played}, declared.set.Told.{Told}, laws.Possible.{Sends, Shows, Takes}}
use Rattle.x25_possible.specs.laws.Sets.{AreSame, FoundStayUntold, GuiltyAreTold, InnocentsStayUntold, PoliteStayUntold}

-- ---- what was sent before is explained too

IsStanding : List Phase → Role → List (Item Packet) → Type 0
IsStanding states role tape = (s : Phase) × (way : List Packet) × Stands (channel_rules role states) tape s way

before_own : (states : List Phase) (role : Role) (tape : List (Item Packet)) (x : Packet) (s : Phase) (way : List Packet)
    → Stands (channel_rules role states) (Own x ∷ tape) s way → IsStanding states role tape
unfolding IsStanding
before_own states role _ _ _ _ (Sends tape s r way x may h) = (s, way, h)
before_own states role tape x _ _ (Takes _ s r way y may h) = before_own states role tape x s (y ∷ way) h

before_other : (states : List Phase) (role : Role) (tape : List (Item Packet)) (x : Packet) (s : Phase) (way : List Packet)
    → Stands (channel_rules role states) (Other x ∷ tape) s way → IsStanding states role tape
unfolding IsStanding
before_other states role _ _ _ _ (Shows tape s way x h) = (s, way, h)
before_other states role tape x _ _ (Takes _ s r way y may h) = before_other states role tape x s (y ∷ way) h

-- ---- over the tape

-- the set is of the end, and fits the tape, or nothing is told
data IsFaithful (states : List Phase) (role : Role) (tape : List (Item Packet)) (s : Set) : Type 0 where
  Faithful : s.role ≡ role → Fits states tape s → IsFaithful states role tape s
  Dark : s.knowledge ≡ Blind → IsFaithful states role tape s

dark_sends : (s : Set) (x : Packet) → s.knowledge ≡ Blind → sends_to x s ≡ quietly s
dark_sends s x e = ap (λ k. sends_to x (standing s.role s.way.items s.spots.items k)) e
    ∙ sym (ap (λ k. quietly (standing s.role s.way.items s.spots.items k)) e)

dark_shows : (s : Set) (x : Packet) → s.knowledge ≡ Blind → shows_to x s ≡ s
dark_shows s x e =
    ap (λ k. shows_to x (standing s.role s.way.items s.spots.items k)) e ∙ sym (ap (λ k. standing s.role s.way.items s.spots.items k) e)

is_untold : (t : Told) → (IsBroken t → ⊥) → IsUntold t
is_untold (Broken s) h = h tt
is_untold t h = tt

module _ (states : List Phase) (role : Role) where
  abbrev StandsSo : List (Item Packet) → Phase → List Packet → Type 0
  StandsSo = Stands (channel_rules role states)

  untold_here : (tape : List (Item Packet)) (x : Packet) (set : Set) (s : Phase) (way : List Packet)
      → IsFaithful states role tape set → StandsSo (Own x ∷ tape) s way → IsUntold (sends_to x set).told
  untold_here tape x set s way (Faithful of fits) h =
      is_untold (sends_to x set).told (λ broken.
      sends_exactly.told set states tape x fits broken s way
      (subst (λ r. Stands (channel_rules r states) (Own x ∷ tape) s way) (sym of) h))
  untold_here tape x set s way (Dark e) h = subst (λ r. IsUntold r.told) (sym (dark_sends set x e)) tt

  own_next : (tape : List (Item Packet)) (x : Packet) (set : Set) (s : Phase) (way : List Packet)
      → IsFaithful states role tape set → StandsSo (Own x ∷ tape) s way → IsUntold (sends_to x set).told
      → IsFaithful states role (Own x ∷ tape) (sends_to x set).set
  own_next tape x set s way (Dark e) h untold = Dark (ap (λ r. r.set.knowledge) (dark_sends set x e) ∙ e)
  own_next tape x set s way (Faithful of fits) h untold = go (sends_stay set states tape x fits some)
    where
      some : IsUnexplained (channel_rules set.role states) (Own x ∷ tape) → ⊥
      some none = none s way (subst (λ r. Stands (channel_rules r states) (Own x ∷ tape) s way) (sym of) h)

      go : (is_blind (sends_to x set).set ≡ false) ⊎ ((sends_to x set).set.knowledge ≡ Blind)
          → IsFaithful states role (Own x ∷ tape) (sends_to x set).set
      go (inl lit) = Faithful (sends_role set states tape x fits some ∙ of) (sends_exactly.fits set states tape x fits untold lit)
      go (inr dark) = Dark dark

  other_next : (tape : List (Item Packet)) (x : Packet) (set : Set) → IsFaithful states role tape set
      → IsFaithful states role (Other x ∷ tape) (shows_to x set)
  other_next tape x set (Dark e) = Dark (ap (λ r. r.knowledge) (dark_shows set x e) ∙ e)
  other_next tape x set (Faithful of fits) = go (shows_stay set x fits.0)
    where
      go : (is_blind (shows_to x set) ≡ false) ⊎ ((shows_to x set).knowledge ≡ Blind)
          → IsFaithful states role (Other x ∷ tape) (shows_to x set)
      go (inl lit) = Faithful (shows_role set x fits.0 ∙ of) (shows_exactly set states tape x fits lit)
      go (inr dark) = Dark dark

  faithful : (set : Set) → set.role ≡ role → Fits states [] set → (tape : List (Item Packet)) → IsStanding states role tape
      → IsFaithful states role tape (played set tape)
  unfolding IsStanding
  faithful set of fits [] h = Faithful of fits
  faithful set of fits (Own x ∷ tape) h =
      let before = faithful set of fits tape (before_own states role tape x h.0 h.1 h.2) in
      own_next tape x (played set tape) h.0 h.1 before h.2 (untold_here tape x (played set tape) h.0 h.1 before h.2)
  faithful set of fits (Other x ∷ tape) h =
      other_next tape x (played set tape) (faithful set of fits tape (before_other states role tape x h.0 h.1 h.2))

restarted : (role : Role) (tape : List (Item Packet)) → IsStanding (Idle ∷ []) role tape → IsFaithful (Idle ∷ []) role tape (behind role tape)
restarted role tape h = faithful (Idle ∷ []) role (behind role []) refl (refl, λ q. (λ g. g, λ g. g)) tape h

pub innocents_stay_untold : InnocentsStayUntold
innocents_stay_untold role tape x s way h =
    untold_here (Idle ∷ []) role tape x (behind role tape) s way
    (restarted role tape (before_own (Idle ∷ []) role tape x s way h)) h

-- wherever nothing is on the way
nothing_left : (n : ℕ) (way : List Packet) → length way ≤ n → drop n way ≡ []
nothing_left n way far = drop_of_length-le way far

module _ (role : Role) where
  its_places : (qs : List Spot)
      → map (placed []) qs ≡ flat_map (settled (channel_choices role) []) (map (λ (q : Spot). q.phase) qs)
  its_places [] = refl
  its_places (q ∷ qs) =
      ap (λ w. at q.phase w ∷ map (placed []) qs) (nothing_left q.at [] (omega arith))
      ∙ ap (λ ps. at q.phase [] ∷ ps) (its_places qs)

abbrev ItsStates : Set → List Phase
ItsStates s = map (λ (q : Spot). q.phase) s.spots.items

pub found_stay_untold : FoundStayUntold
found_stay_untold s tape x p way lit none h =
    untold_here (ItsStates s) s.role tape x (played s tape) p way
    (faithful (ItsStates s) s.role s refl (lit, same) tape (before_own (ItsStates s) s.role tape x p way h)) h
  where
    same : AreSame (map (placed s.way.items) s.spots.items) (possible (channel_choices s.role) (ItsStates s) [])
    same =
        subst (λ w. AreSame (map (placed w) s.spots.items) (possible (channel_choices s.role) (ItsStates s) [])) (sym none)
        (subst (λ ps. AreSame (map (placed []) s.spots.items) ps) (its_places s.role s.spots.items) (λ q. (λ g. g, λ g. g)))

-- ---- and one is told of the first packet that breaks a rule

counted_behind : (role : Role) (tape : List (Item Packet)) → AreCounted (behind role tape).spots.items
counted_behind role [] = counted_idle
counted_behind role (Own x ∷ tape) = counted_sends (behind role tape) x (counted_behind role tape)
counted_behind role (Other x ∷ tape) = counted_shows (behind role tape) x (counted_behind role tape)

pub guilty_are_told : GuiltyAreTold
unfolding IsStanding
guilty_are_told role tape x s way h is none = go (restarted role tape (s, way, h))
  where
    go : IsFaithful (Idle ∷ []) role tape (behind role tape) → IsBroken (sends_to x (behind role tape)).told
    go (Dark e) = absurd (blind_known (behind role tape).knowledge (ap blind_by e) is)
    go (Faithful of fits) =
        guilty_told (behind role tape) (Idle ∷ []) tape x is (counted_behind role tape) fits
        (subst (λ r. IsUnexplained (channel_rules r (Idle ∷ [])) (Own x ∷ tape)) (sym of) none)

-- ---- nor is anything told of one that keeps the manners too

pub polite_stay_untold : PoliteStayUntold
unfolding IsStanding
polite_stay_untold role tape x s r way t h e polite = go (restarted role tape (s, way, h))
  where
    go : IsFaithful (Idle ∷ []) role tape (behind role tape) → IsRude (sends_to x (behind role tape)).told → ⊥
    go (Dark d) rude = subst (λ w. IsRude w.told) (dark_sends (behind role tape) x d) rude
    go (Faithful of fits) rude =
        polite_told (behind role tape) (Idle ∷ []) tape x s r way t (counted_behind role tape) fits
        (subst (λ w. Stands (channel_rules w (Idle ∷ [])) tape s way) (sym of) h) e polite rude
