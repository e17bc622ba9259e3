-- One state, with nothing on the way.
use Rattle.x25_possible.proofs.Names.{Bool, true, false, ◌≡◌, ◌==◌, if◌then◌else◌, refl, sym, ap, ap₂, subst, ◌∙◌, List, [], ◌∷◌, Option, Some, None, length}
use Rattle.x25_possible.proofs.Names.{eqb-true, none-some, same_Some, at_once, is_polite, sends, takes, all_of, and_then, goes, goes_by, grows, is_known}
use Rattle.x25_possible.proofs.Names.{is_large, may_send, quietly, rude_from, sends_to, sent_to, settles, settles_by, shown_to, shows_to, spot_at, standing}
use Rattle.std.{proofs.Common.{IfSome, get_or, set}, specs.List.{refill}}
use Rattle.x25_possible.proofs.{Names.{told_by, trimmed, trims, Packet, Phase, Idle, Talks, Talk, Known, Set, Spot}, SetLemmas.{is_so}}
use Rattle.x25_possible.specs.code.Steps.{IsAlone, IsStep, IsTaken, alone, alone_in, alone_sends, alone_takes, flow_in, flow_sends, flow_takes, is_numbered}
use Rattle.x25_possible.specs.code.Steps.{one_of, small, small_in, Stepped}

small_is : (s p : Phase) → small s ≡ Some p → (s ≡ p) × (is_large p ≡ false)
small_is s p e = go (is_large s) refl e
  where
    go : (b : Bool) → is_large s ≡ b → (if b then None else Some s) ≡ Some p → (s ≡ p) × (is_large p ≡ false)
    go true c same = absurd (none-some p same)
    go false c same = let is = same_Some s p same in (is, subst (λ i. is_large i ≡ false) is c)

small_in_is : (o : Option Phase) (p : Phase) → small_in o ≡ Some p → (o ≡ Some p) × (is_large p ≡ false)
small_in_is None p e = absurd (none-some p e)
small_in_is (Some s) p e = let is = small_is s p e in (ap Some is.0, is.1)

is_alone : (s : Set) (way : List Packet) (qs : List Spot) (k : Phase) → one_of way qs ≡ Some k
    → (standing s.role way qs Known ≡ alone_in k s) × (is_large k ≡ false)
is_alone s (x ∷ way) qs k e = absurd (none-some k e)
is_alone s [] [] k e = absurd (none-some k e)
is_alone s [] (q ∷ r ∷ qs) k e = absurd (none-some k e)
is_alone s [] (q ∷ []) k e = go (q.at == 0) refl e
  where
    go : (b : Bool) → (q.at == 0) ≡ b → (if b then small q.phase else None) ≡ Some k
        → (standing s.role [] (q ∷ []) Known ≡ alone_in k s) × (is_large k ≡ false)
    go true at is =
        let f = small_is q.phase k is in
        (ap₂ (λ p n. standing s.role [] (spot_at n p ∷ []) Known) f.0 (eqb-true q.at 0 at), f.1)
    go false at is = absurd (none-some k is)

alone_is : (s : Set) (k : Phase) → alone s ≡ Some k → (s ≡ alone_in k s) × (is_large k ≡ false)
alone_is s k e = go (is_known s) refl e
  where
    go : (b : Bool) → is_known s ≡ b → (if b then one_of s.way.items s.spots.items else None) ≡ Some k
        → (s ≡ alone_in k s) × (is_large k ≡ false)
    go true known same = let is = is_alone s s.way.items s.spots.items k same in (is_so s known ∙ is.0, is.1)
    go false known same = absurd (none-some k same)

-- ---- a packet that it sends

same_both : (b : Bool) (o : Option Phase) → (if b then o else o) ≡ o
same_both true o = refl
same_both false o = refl

module _ (k next : Phase) (x : Packet) (s : Set) (small : is_large k ≡ false) where
  abbrev went : Option Phase → Stepped
  went o =
      trims (sent_to x (and_then (goes_by s.role [] 0 o []) (all_of (goes false s.role [] x) [])) (alone_in k s))

  polite_told : is_polite k x ≡ true → rude_from x None (spot_at 0 k ∷ []) ≡ None
  polite_told polite =
      ap (λ b. if may_send k x then (if b then None else Some k) else None) polite
      ∙ same_both (may_send k x) None

  stepped : is_polite k x ≡ true → small_in (sends k x) ≡ Some next
      → sends_to x (alone_in k s) ≡ quietly (alone_in next s)
  stepped polite e =
      let is = small_in_is (sends k x) next e in
      ap (λ b. trims (sent_to x (and_then (if b then None else goes_by s.role [] 0 (sends k x) [])
      (all_of (goes false s.role [] x) [])) (alone_in k s))) small
      ∙ ap (λ o. went o) is.0
      ∙ ap (λ b. trims (sent_to x (and_then (if b then None else Some (spot_at 0 (next) ∷ []))
      (all_of (goes false s.role [] x) [])) (alone_in k s))) is.1
      ∙ ap (λ o. record { set = alone_in next s; told = told_by o }) (polite_told polite)

  sent_alone : alone_sends k x ≡ Some next → sends_to x (alone_in k s) ≡ quietly (alone_in next s)
  sent_alone e = go (is_polite k x) refl e
    where
      go : (b : Bool) → is_polite k x ≡ b → (if b then small_in (sends k x) else None) ≡ Some next
          → sends_to x (alone_in k s) ≡ quietly (alone_in next s)
      go true polite is = stepped polite is
      go false polite is = absurd (none-some next is)

  -- ---- one that comes

  taken_alone : alone_takes k x ≡ Some next → shows_to x (alone_in k s) ≡ alone_in next s
  taken_alone e =
      let is = small_in_is (at_once k x) next e in
      ap (λ b. trimmed (shown_to x (and_then (if b then None else settles_by (at_once k x) (takes s.role k x)
      (spot_at 0 k) (settles s.role 1 []) []) (all_of (grows s.role 0 (x ∷ [])) [])) (alone_in k s))) small
      ∙ ap (λ o. trimmed (shown_to x (and_then (settles_by o (takes s.role k x) (spot_at 0 k) (settles s.role 1 []) [])
      (all_of (grows s.role 0 (x ∷ [])) [])) (alone_in k s))) is.0
      ∙ ap (λ b. trimmed (shown_to x (and_then (if b then None else Some (spot_at 1 (next) ∷ []))
      (all_of (grows s.role 0 (x ∷ [])) [])) (alone_in k s))) is.1

pub steps_in : (s : Set) (k : Phase) (x : Packet) (o : Option Phase) → alone s ≡ Some k → o ≡ alone_sends k x
    → IfSome o (λ next. IsStep x next s)
steps_in s k x None e f = tt
steps_in s k x (Some next) e f = let is = alone_is s k e in record {
  before = record { phase = k; stands = is.0 };
  step = ap (λ w. sends_to x w) is.0 ∙ sent_alone k next x s is.1 (sym f);
}

pub takes_in : (s : Set) (k : Phase) (x : Packet) (o : Option Phase) → alone s ≡ Some k → o ≡ alone_takes k x
    → IfSome o (λ next. IsTaken x next s)
takes_in s k x None e f = tt
takes_in s k x (Some next) e f = let is = alone_is s k e in record {
  before = record { phase = k; stands = is.0 };
  step = ap (λ w. shows_to x w) is.0 ∙ taken_alone k next x s is.1 (sym f);
}

-- in flow control

flow_is : (o : Option Phase) (k : Talk) → flow_in o ≡ Some k → o ≡ Some (Talks k)
flow_is (Some (Talks j)) k e = ap (λ i. Some (Talks i)) (same_Some j k e)
flow_is o k e = absurd (none-some k e)

numbered : (k next : Talk) (x : Packet) → flow_sends k x ≡ Some next → alone_sends (Talks k) x ≡ Some (Talks next)
numbered k next x e = go (is_numbered x) e
  where
    go : (b : Bool) → (if b then flow_in (alone_sends (Talks k) x) else None) ≡ Some next
        → alone_sends (Talks k) x ≡ Some (Talks next)
    go true is = flow_is (alone_sends (Talks k) x) next is
    go false is = absurd (none-some next is)

pub flow_steps_in : (s : Set) (k : Talk) (x : Packet) (o : Option Talk) → flow_in (alone s) ≡ Some k → o ≡ flow_sends k x
    → IfSome o (λ next. IsStep x (Talks next) s)
flow_steps_in s k x None e f = tt
flow_steps_in s k x (Some next) e f =
    steps_in s (Talks k) x (Some (Talks next)) (flow_is (alone s) k e) (sym (numbered k next x (sym f)))

pub flow_takes_in : (s : Set) (k : Talk) (x : Packet) (o : Option Talk) → flow_in (alone s) ≡ Some k → o ≡ flow_takes k x
    → IfSome o (λ next. IsTaken x (Talks next) s)
flow_takes_in s k x None e f = tt
flow_takes_in s k x (Some next) e f =
    takes_in s (Talks k) x (Some (Talks next)) (flow_is (alone s) k e) (sym (flow_is (alone_takes (Talks k) x) next (sym f)))

-- its state is changed
abbrev changed : Phase → List Spot → Set → Set
changed k ps s = record s {
  spots = record {
    items = refill (length s.spots.items) s.spots.items
        (set ps 0 (record { phase = k; at = (get_or ps 0 (record { phase = Idle; at = 0 })).at }));
  };
}

pub stood : (s : Set) (k : Phase) (qs : List Spot) → IsAlone s → qs ≡ s.spots.items → changed k qs s ≡ alone_in k s
stood s k qs is same = ap (λ ps. changed k ps s) same ∙ ap (λ (t : Set). changed k t.spots.items t) is.stands
