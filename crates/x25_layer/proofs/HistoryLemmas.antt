-- The transcript of an end is what it sent and took, of each kind: calls, messages and interrupts. And what it handed up is a beginning of what the other
-- end handed down, under each name.
use Rattle.x25_layer.proofs.Names.{◌≡◌, ◌⊎◌, inl, inr, ℕ, List, [], ◌∷◌, ◌++◌, Bool, true, false, ◌==◌, if◌then◌else◌, refl, sym, ap, subst, ◌∙◌, arith}
use Rattle.x25_layer.proofs.Names.{append_assoc, eq-eqb, eqb-true, CallRequest, Message, Piece, carried, Live, At, state_of, has_left, Unused, Talking, Name, both, same_name}
use Rattle.x25_layer.proofs.Names.{IsEarlier, Lists, none, IsPrefix, Handed, nothing_handed, added, Entry, under, calls_in, messages_in, interrupts_in}
use Rattle.x25_handshakes.specs.laws.{Calls.{Stage}, Names.{IsEarlierCount}, PeerCalls.{PeerCall, stands}, PeerClaims.{peer_transfer_of}}
use Rattle.x25_handshakes.specs.laws.{PeerLayer.{PeerChannels}, PeerStretch.{PeerStretch}}
use Rattle.x25_layer.proofs.Ends.{circuit_at, held_stage, held_of, Adds, AfterReset, AfterClear, TurnOf, Here, Afresh, StepOf}
use Rattle.x25_layer.proofs.{RowLemmas.{append_nil}, StepLemmas.{name_eq}}
use Rattle.x25_layer.specs.laws.{PeerClaims.{peer_name}, Transcript.{says}}

abbrev pub joined : {M : Type 0} → Lists M → Lists M → Lists M
joined a b = record { down = a.down ++ b.down; up = a.up ++ b.up }

lists_are : {M : Type 0} (d d₂ u u₂ : List M) → d ≡ d₂ → u ≡ u₂ → ◌≡◌ {A = Lists M} (record { down = d; up = u }) (record { down = d₂; up = u₂ })
lists_are {M} d d₂ u u₂ p q = ap (λ (a : List M). record { down = a; up = u }) p ∙ ap (λ (a : List M). record { down = d₂; up = a }) q

joined_none : {M : Type 0} (l : Lists M) → joined l none ≡ l
joined_none l = lists_are (l.down ++ []) l.down (l.up ++ []) l.up (append_nil l.down) (append_nil l.up)

joined_assoc : {M : Type 0} (a b c : Lists M) → joined (joined a b) c ≡ joined a (joined b c)
joined_assoc a b c = lists_are _ _ _ _ (append_assoc a.down b.down c.down) (append_assoc a.up b.up c.up)

-- ---- kinds of what is handed down and up

-- The resets in the name that such things stand under, what a channel holds of them, and whether its end is where one may be handed up.
pub record Kind (M : Type 0) : Type 1 where
  pub resets : PeerCall → ℕ
  pub held : PeerCall → List Piece → Lists M
  pub live : At PeerChannels → ℕ → Type 0

abbrev pub name_at : {M : Type 0} → Kind M → At PeerChannels → ℕ → Name
name_at kind y k = record { restarts = y.epoch; clears = (circuit_at y k).epoch; resets = kind.resets (state_of (circuit_at y k).side) }

abbrev pub held_at : {M : Type 0} → Kind M → At PeerChannels → (ℕ → List Piece) → ℕ → Lists M
held_at kind y rest k = kind.held (state_of (circuit_at y k).side) (rest k)

-- no restart and no clear of its own is out
abbrev pub IsLive : At PeerChannels → ℕ → Type 0
IsLive y k = (has_left y.side ≡ false) × (has_left (circuit_at y k).side ≡ false)

abbrev pub transfer_at : At PeerChannels → ℕ → At PeerStretch
transfer_at y k = peer_transfer_of (state_of (circuit_at y k).side).stage

abbrev pub held_in : {M : Type 0} → (PeerStretch → List Piece → List M) → (PeerStretch → List M) → List Piece → Stage (At PeerStretch) → Lists M
held_in down up rest (Talking t b at) = record { down = down (state_of at.side) rest; up = up (state_of at.side) }
held_in down up rest other = none

-- what belongs to a stretch
abbrev pub of_stretch : {M : Type 0} → (PeerStretch → List Piece → List M) → (PeerStretch → List M) → Kind M
of_stretch down up = record {
  resets = λ c. (peer_transfer_of c.stage).epoch;
  held = λ c rest. held_in down up rest c.stage;
  live = λ y k. IsLive y k × (has_left (transfer_at y k).side ≡ false);
}

abbrev pub messages : Kind Message
messages = of_stretch (λ y rest. carried (y.sent ++ rest)) (λ y. carried y.taken)

abbrev pub interrupts : Kind (List ℕ)
interrupts = of_stretch (λ y rest. y.int_down) (λ y. y.int_up)

-- calls stand before the first reset of what they may become
abbrev pub calls : Kind CallRequest
calls = record { resets = λ c. 0; held = λ c rest. record { down = c.made; up = c.indicated }; live = IsLive }

-- ---- what a step does to a channel's name and lists

pub data Moves {M : Type 0} (kind : Kind M) (k : ℕ) (x : At PeerChannels) (rest : ℕ → List Piece) (y : At PeerChannels) (waiting : ℕ → List Piece)
    (s : Lists M) : Type 0 where
  StaysAt : name_at kind y k ≡ name_at kind x k → held_at kind y waiting k ≡ joined (held_at kind x rest k) s → (s.up ≡ []) ⊎ kind.live y k
      → Moves kind k x rest y waiting s
  GrowsAt : IsEarlier (name_at kind x k) (name_at kind y k) → held_at kind y waiting k ≡ none → s ≡ none → Moves kind k x rest y waiting s

-- what has to be known of a kind and its lists in a transcript
pub record IsListed {M : Type 0} (kind : Kind M) (lists : Handed → Lists M) : Type 0 where
  pub nothing : lists nothing_handed ≡ none
  pub more : (a b : Handed) → lists (added a b) ≡ joined (lists a) (lists b)
  pub moves : (k : ℕ) (x : At PeerChannels) (rest : ℕ → List Piece) (y : At PeerChannels) (waiting : ℕ → List Piece) (h : Handed)
      → TurnOf k x rest y waiting h → Moves kind k x rest y waiting (lists h)
  pub named : (k : ℕ) (x : At PeerChannels) (rest : ℕ → List Piece) (y : At PeerChannels) (waiting : ℕ → List Piece) (h : Handed)
      → TurnOf k x rest y waiting h → (lists h ≡ none) ⊎ (name_at kind y k ≡ peer_name y k)

under_more : {M : Type 0} (kind : Kind M) (lists : Handed → Lists M) → IsListed kind lists → (k : ℕ) (m : Name) (log es : List Entry)
    → lists (under k m (log ++ es)) ≡ joined (lists (under k m log)) (lists (under k m es))
under_more {M} kind lists listed k m [] es = ap (λ (l : Lists M). joined l (lists (under k m es))) (sym listed.nothing)
under_more {M} kind lists listed k m (e ∷ log) es =
    let one : Handed = if both (k == e.channel) (same_name m e.name) then says e.said else nothing_handed in
    listed.more one (under k m (log ++ es))
    ∙ ap (λ (l : Lists M). joined (lists one) l) (under_more kind lists listed k m log es)
    ∙ sym (joined_assoc (lists one) (lists (under k m log)) (lists (under k m es)))
    ∙ ap (λ (l : Lists M). joined l (lists (under k m es))) (sym (listed.more one (under k m log)))

pub same_name-is : (m n : Name) → same_name m n ≡ true → m ≡ n
same_name-is m n h =
    let a = both_are (m.restarts == n.restarts) (both (m.clears == n.clears) (m.resets == n.resets)) h in
    let b = both_are (m.clears == n.clears) (m.resets == n.resets) a.1 in
    name_eq m n (eqb-true m.restarts n.restarts a.0) (eqb-true m.clears n.clears b.0) (eqb-true m.resets n.resets b.1)
  where
    both_are : (a b : Bool) → both a b ≡ true → (a ≡ true) × (b ≡ true)
    both_are true b h = (refl, h)
    both_are false b h = absurd (cc)

-- what a step enters, under each name
entered : {M : Type 0} (kind : Kind M) (lists : Handed → Lists M) → IsListed kind lists → (k : ℕ) (x : At PeerChannels) (rest : ℕ → List Piece)
    (y : At PeerChannels) (waiting : ℕ → List Piece) (h : Handed) → TurnOf k x rest y waiting h → (m : Name)
    → lists (if same_name m (peer_name y k) then h else nothing_handed) ≡ (if same_name m (name_at kind y k) then lists h else none)
entered {M} kind lists listed k x rest y waiting h turn m = by (listed.named k x rest y waiting h turn)
  where
    as_lists : (b : Bool) → lists (if b then h else nothing_handed) ≡ (if b then lists h else none)
    as_lists true = refl
    as_lists false = listed.nothing

    all_none : (b c : Bool) → lists h ≡ none → (if b then lists h else none) ≡ (if c then lists h else none)
    all_none true false e = e
    all_none false true e = sym e
    all_none b c e = refl

    by : ((lists h ≡ none) ⊎ (name_at kind y k ≡ peer_name y k)) → lists (if same_name m (peer_name y k) then h else nothing_handed)
        ≡ (if same_name m (name_at kind y k) then lists h else none)
    by (inl e) = as_lists (same_name m (peer_name y k)) ∙ all_none (same_name m (peer_name y k)) (same_name m (name_at kind y k)) e
    by (inr e) = as_lists (same_name m (peer_name y k)) ∙ ap (λ (n : Name). if same_name m n then lists h else none) (sym e)

-- ---- what a transcript has

-- under the present name of each channel what it holds, and nothing under later ones
pub record Written {M : Type 0} (kind : Kind M) (lists : Handed → Lists M) (entries : List Entry) (y : At PeerChannels) (rest : ℕ → List Piece) : Type 0 where
  pub held : (k : ℕ) → lists (under k (name_at kind y k) entries) ≡ held_at kind y rest k
  pub later : (k : ℕ) (m : Name) → IsEarlier (name_at kind y k) m → lists (under k m entries) ≡ none

same_itself : (m : Name) → same_name m m ≡ true
same_itself m = rw (eq-eqb m.restarts m.restarts refl) (rw (eq-eqb m.clears m.clears refl) (eq-eqb m.resets m.resets refl))

not_itself : (m : Name) → IsEarlier m m → ⊥
not_itself m (inl less) = omega (arith, less)
not_itself m (inr (same, inl less)) = omega (arith, less)
not_itself m (inr (same, inr (also, less))) = omega (arith, less)

earlier_trans : (a b c : Name) → IsEarlier a b → IsEarlier b c → IsEarlier a c
earlier_trans a b c (inl p) (inl q) = inl (omega (arith, p, q))
earlier_trans a b c (inl p) (inr (same, q)) = inl (omega (arith, p, same))
earlier_trans a b c (inr (same, p)) (inl q) = inl (omega (arith, same, q))
earlier_trans a b c (inr (same, p)) (inr (same₂, q)) = inr (same ∙ same₂, counts p q)
  where
    counts : IsEarlierCount a.clears a.resets b.clears b.resets → IsEarlierCount b.clears b.resets c.clears c.resets
        → IsEarlierCount a.clears a.resets c.clears c.resets
    counts (inl p) (inl q) = inl (omega (arith, p, q))
    counts (inl p) (inr (e, q)) = inl (omega (arith, p, e))
    counts (inr (e, p)) (inl q) = inl (omega (arith, e, q))
    counts (inr (e, p)) (inr (f, q)) = inr (e ∙ f, omega (arith, p, q))

module _ {M : Type 0} (kind : Kind M) (lists : Handed → Lists M) (listed : IsListed kind lists) (x : At PeerChannels) (rest : ℕ → List Piece)
    (y : At PeerChannels) (waiting : ℕ → List Piece) (entries es : List Entry) (step : StepOf x rest y waiting es) (h : Written kind lists entries x rest) where
  abbrev old : ℕ → Name → Lists M
  old k m = lists (under k m entries)

  moves : (k : ℕ) → Moves kind k x rest y waiting (lists (step k).0)
  moves k = listed.moves k x rest y waiting (step k).0 (step k).1

  -- what is written is what the end holds, under its present name
  recorded : (k : ℕ) (m : Name) → lists (under k m (entries ++ es)) ≡ (if same_name m (name_at kind y k) then held_at kind y waiting k else old k m)
  recorded k m =
      under_more kind lists listed k m entries es
      ∙ ap (λ (l : Lists M). joined (old k m) l)
      (ap lists ((step k).2 m) ∙ entered kind lists listed k x rest y waiting (step k).0 (step k).1 m)
      ∙ by (same_name m (name_at kind y k)) refl
    where
      here : m ≡ name_at kind y k → Moves kind k x rest y waiting (lists (step k).0) → joined (old k m) (lists (step k).0) ≡ held_at kind y waiting k
      here is (StaysAt name more up) =
          ap (λ (j : Name). joined (old k j) (lists (step k).0)) (is ∙ name) ∙ ap (λ (l : Lists M). joined l (lists (step k).0)) (h.held k) ∙ sym more
      here is (GrowsAt less empty nothing) =
          ap (λ (l : Lists M). joined (old k m) l) nothing ∙ joined_none (old k m) ∙ ap (old k) is ∙ h.later k (name_at kind y k) less ∙ sym empty

      by : (b : Bool) → same_name m (name_at kind y k) ≡ b → joined (old k m) (if b then lists (step k).0 else none)
          ≡ (if b then held_at kind y waiting k else old k m)
      by true is = here (same_name-is m (name_at kind y k) is) (moves k)
      by false is = joined_none (old k m)

  pub written_on : Written kind lists (entries ++ es) y waiting
  written_on = record {
    held = λ k. recorded k (name_at kind y k) ∙ at_name k (same_name (name_at kind y k) (name_at kind y k)) (same_itself (name_at kind y k));
    later = λ k m earlier. recorded k m ∙ other k m (same_name m (name_at kind y k)) refl earlier;
  }
    where
      at_name : (k : ℕ) (b : Bool) → b ≡ true → (if b then held_at kind y waiting k else old k (name_at kind y k)) ≡ held_at kind y waiting k
      at_name k true is = refl
      at_name k false is = absurd (cc)

      before : (k : ℕ) (m : Name) → IsEarlier (name_at kind y k) m → Moves kind k x rest y waiting (lists (step k).0) → IsEarlier (name_at kind x k) m
      before k m earlier (StaysAt name more up) = subst (λ (n : Name). IsEarlier n m) name earlier
      before k m earlier (GrowsAt less empty nothing) = earlier_trans (name_at kind x k) (name_at kind y k) m less earlier

      other : (k : ℕ) (m : Name) (b : Bool) → same_name m (name_at kind y k) ≡ b → IsEarlier (name_at kind y k) m
          → (if b then held_at kind y waiting k else old k m) ≡ none
      other k m true is earlier = absurd (not_itself m (subst (λ (n : Name). IsEarlier n m) (sym (same_name-is m (name_at kind y k) is)) earlier))
      other k m false is earlier = h.later k m (before k m earlier (moves k))

-- ---- two transcripts

pub prefix_more : {T : Type 0} (a b s : List T) {c : List T} → b ++ s ≡ c → IsPrefix a b → IsPrefix a c
prefix_more a b s e p = (p.0 ++ s, sym (append_assoc a p.0 s) ∙ ap (λ l. l ++ s) p.1 ∙ e)

-- under each channel and name, what the one end handed up is a beginning of what the other handed down, and so back
pub record Begin {M : Type 0} (lists : Handed → Lists M) (near far : List Entry) : Type 0 where
  pub up : (k : ℕ) (m : Name) → IsPrefix (lists (under k m near)).up (lists (under k m far)).down
  pub there : (k : ℕ) (m : Name) → IsPrefix (lists (under k m far)).up (lists (under k m near)).down

module _ {M : Type 0} (kind : Kind M) (lists : Handed → Lists M) (listed : IsListed kind lists) (x : At PeerChannels) (rest : ℕ → List Piece)
    (y : At PeerChannels) (waiting : ℕ → List Piece) (entries es far : List Entry) (step : StepOf x rest y waiting es) (h : Written kind lists entries x rest)
  where
    -- A step of the near end keeps that: what it then hands up, where it may, is a beginning of what the far end handed down.
    pub begin_on : ((k : ℕ) → kind.live y k → IsPrefix (held_at kind y waiting k).up (lists (under k (name_at kind y k) far)).down) → Begin lists entries far
        → Begin lists (entries ++ es) far
    begin_on now b = record {
      up = λ k m. subst (λ (l : Lists M). IsPrefix l.up (lists (under k m far)).down)
          (sym (recorded kind lists listed x rest y waiting entries es step h k m)) (up k m (same_name m (name_at kind y k)) refl);
      there = λ k m. subst (λ (l : Lists M). IsPrefix (lists (under k m far)).up l.down)
          (sym (recorded kind lists listed x rest y waiting entries es step h k m)) (down k m (same_name m (name_at kind y k)) refl);
    }
      where
        up_here : (k : ℕ) → Moves kind k x rest y waiting (lists (step k).0)
            → IsPrefix (held_at kind y waiting k).up (lists (under k (name_at kind y k) far)).down
        up_here k (StaysAt name more (inl quiet)) =
            subst (λ (n : Name). IsPrefix (held_at kind y waiting k).up (lists (under k n far)).down) (sym name)
            (subst (λ (u : List M). IsPrefix u (lists (under k (name_at kind x k) far)).down)
            (ap (λ (l : Lists M). l.up) (h.held k) ∙ sym (ap (λ (l : Lists M). l.up) more ∙ ap (λ (u : List M). (held_at kind x rest k).up ++ u) quiet
            ∙ append_nil (held_at kind x rest k).up))
            (b.up k (name_at kind x k)))
        up_here k (StaysAt name more (inr live)) = now k live
        up_here k (GrowsAt less empty nothing) =
            subst (λ (l : Lists M). IsPrefix l.up (lists (under k (name_at kind y k) far)).down) (sym empty)
            ((lists (under k (name_at kind y k) far)).down, refl)

        up : (k : ℕ) (m : Name) (c : Bool) → same_name m (name_at kind y k) ≡ c
            → IsPrefix (if c then held_at kind y waiting k else lists (under k m entries)).up (lists (under k m far)).down
        up k m true is =
            subst (λ (n : Name). IsPrefix (held_at kind y waiting k).up (lists (under k n far)).down) (sym (same_name-is m (name_at kind y k) is))
            (up_here k (listed.moves k x rest y waiting (step k).0 (step k).1))
        up k m false is = b.up k m

        down_here : (k : ℕ) → Moves kind k x rest y waiting (lists (step k).0)
            → IsPrefix (lists (under k (name_at kind y k) far)).up (held_at kind y waiting k).down
        down_here k (StaysAt name more quiet) =
            subst (λ (n : Name). IsPrefix (lists (under k n far)).up (held_at kind y waiting k).down) (sym name)
            (prefix_more (lists (under k (name_at kind x k) far)).up (held_at kind x rest k).down (lists (step k).0).down
            (sym (ap (λ (l : Lists M). l.down) more))
            (subst (λ (l : Lists M). IsPrefix (lists (under k (name_at kind x k) far)).up l.down) (h.held k) (b.there k (name_at kind x k))))
        down_here k (GrowsAt less empty nothing) =
            subst (λ (l : Lists M). IsPrefix (lists (under k (name_at kind y k) far)).up l.down) (h.later k (name_at kind y k) less ∙ sym empty)
            (b.there k (name_at kind y k))

        down : (k : ℕ) (m : Name) (c : Bool) → same_name m (name_at kind y k) ≡ c
            → IsPrefix (lists (under k m far)).up (if c then held_at kind y waiting k else lists (under k m entries)).down
        down k m true is =
            subst (λ (n : Name). IsPrefix (lists (under k n far)).up (held_at kind y waiting k).down) (sym (same_name-is m (name_at kind y k) is))
            (down_here k (listed.moves k x rest y waiting (step k).0 (step k).1))
        down k m false is = b.there k m

-- ---- messages and interrupts

-- where something is handed up, the end is where that may come
where_live : {A : Type 0} (y : At PeerChannels) (h : Handed) (up : Handed → List A) → up nothing_handed ≡ [] → {B : Type 0}
    → (h ≡ nothing_handed) ⊎ (has_left y.side ≡ false) → (up h ≡ []) ⊎ B → (up h ≡ []) ⊎ ((has_left y.side ≡ false) × B)
where_live y h up empty (inl nothing) told = inl (ap up nothing ∙ empty)
where_live y h up empty (inr live) (inl quiet) = inl quiet
where_live y h up empty (inr live) (inr b) = inr (live, b)

nested : {A B C D : Type 0} → A ⊎ (B × (C × D)) → A ⊎ ((B × C) × D)
nested (inl a) = inl a
nested (inr b) = inr ((b.0, b.1.0), b.1.1)

stretch_listed : {M : Type 0} (down : PeerStretch → List Piece → List M) (up : PeerStretch → List M) (lists : Handed → Lists M) → lists nothing_handed ≡ none
    → ((a b : Handed) → lists (added a b) ≡ joined (lists a) (lists b)) → ((h : Handed) → h.up ≡ [] → h.int_up ≡ [] → (lists h).up ≡ [])
    → ((z : At PeerCall) (rest : List Piece) → lists (held_of z rest) ≡ held_in down up rest (state_of z.side).stage) → IsListed (of_stretch down up) lists
stretch_listed {M} down up lists nothing more quiet held =
    record { nothing = nothing; more = more; moves = moved; named = λ k x rest y waiting h turn. inr refl }
  where
    kind : Kind M
    kind = of_stretch down up

    told : (h : Handed) {B : Type 0} → ((h.up ≡ []) × (h.int_up ≡ [])) ⊎ B → ((lists h).up ≡ []) ⊎ B
    told h (inl empty) = inl (quiet h empty.0 empty.1)
    told h (inr b) = inr b

    moved : (k : ℕ) (x : At PeerChannels) (rest : ℕ → List Piece) (y : At PeerChannels) (waiting : ℕ → List Piece) (h : Handed)
        → TurnOf k x rest y waiting h → Moves (of_stretch down up) k x rest y waiting (lists h)
    moved k x rest y waiting h (Here e (Adds c r holds call tells) live) =
        StaysAt (name_eq (name_at (of_stretch down up) y k) (name_at (of_stretch down up) x k) e c r)
        (sym (held (circuit_at y k) (waiting k)) ∙ ap lists holds ∙ more (held_of (circuit_at x k) (rest k)) h
        ∙ ap (λ (l : Lists M). joined l (lists h)) (held (circuit_at x k) (rest k)))
        (nested (where_live y h (λ (h : Handed). (lists h).up) (ap (λ (l : Lists M). l.up) nothing) live (told h tells.stretch)))
    moved k x rest y waiting h (Here e (AfterReset c r empty holds) live) =
        GrowsAt (inr (sym e, inr (sym c, r))) (sym (held (circuit_at y k) (waiting k)) ∙ ap lists holds ∙ held_none (circuit_at x k) (rest k))
        (ap lists empty ∙ nothing)
      where
        held_none : (z : At PeerCall) (w : List Piece) → lists (held_stage (held_of z w).made (held_of z w).indicated [] Unused) ≡ none
        held_none z w = held (record { epoch = 0; side = Live (stands Unused (held_of z w).made (held_of z w).indicated) }) []
    moved k x rest y waiting h (Here e (AfterClear c empty holds) live) =
        GrowsAt (inr (sym e, inl c)) (sym (held (circuit_at y k) (waiting k)) ∙ ap lists holds ∙ nothing) (ap lists empty ∙ nothing)
    moved k x rest y waiting h (Afresh e holds empty) =
        GrowsAt (inl e) (sym (held (circuit_at y k) (waiting k)) ∙ ap lists holds ∙ nothing) (ap lists empty ∙ nothing)

messages_held : (made indicated : List CallRequest) (rest : List Piece) (a : Stage (At PeerStretch)) → messages_in (held_stage made indicated rest a)
    ≡ held_in (λ y rest. carried (y.sent ++ rest)) (λ y. carried y.taken) rest a
messages_held made indicated rest (Talking t b at) = refl
messages_held made indicated rest other = refl

interrupts_held : (made indicated : List CallRequest) (rest : List Piece) (a : Stage (At PeerStretch)) → interrupts_in (held_stage made indicated rest a)
    ≡ held_in (λ y rest. y.int_down) (λ y. y.int_up) rest a
interrupts_held made indicated rest (Talking t b at) = refl
interrupts_held made indicated rest other = refl

-- the entries of messages are what the lists of messages gain
pub messages_listed : IsListed messages messages_in
messages_listed = stretch_listed (λ y rest. carried (y.sent ++ rest)) (λ y. carried y.taken) messages_in refl (λ a b. refl) (λ h up int_up. up)
    (λ z rest. messages_held (state_of z.side).made (state_of z.side).indicated rest (state_of z.side).stage)

-- so are those of interrupts
pub interrupts_listed : IsListed interrupts interrupts_in
interrupts_listed = stretch_listed (λ y rest. y.int_down) (λ y. y.int_up) interrupts_in refl (λ a b. refl) (λ h up int_up. int_up)
    (λ z rest. interrupts_held (state_of z.side).made (state_of z.side).indicated rest (state_of z.side).stage)

-- ---- calls

calls_held : (made indicated : List CallRequest) (rest : List Piece) (a : Stage (At PeerStretch)) → calls_in (held_stage made indicated rest a)
    ≡ record { down = made; up = indicated }
calls_held made indicated rest (Talking t b at) = refl
calls_held made indicated rest other = refl

circuit_calls : (z : At PeerCall) (rest : List Piece) → calls_in (held_of z rest) ≡ record { down = (state_of z.side).made; up = (state_of z.side).indicated }
circuit_calls z rest = calls_held (state_of z.side).made (state_of z.side).indicated rest (state_of z.side).stage

calls_moved : (k : ℕ) (x : At PeerChannels) (rest : ℕ → List Piece) (y : At PeerChannels) (waiting : ℕ → List Piece) (h : Handed) → TurnOf k x rest y waiting h
    → Moves calls k x rest y waiting (calls_in h)
calls_moved k x rest y waiting h (Here e (Adds c r holds call tells) live) =
    StaysAt (name_eq (name_at calls y k) (name_at calls x k) e c refl)
    (sym (circuit_calls (circuit_at y k) (waiting k)) ∙ ap calls_in holds
    ∙ ap (λ (l : Lists CallRequest). joined l (calls_in h)) (circuit_calls (circuit_at x k) (rest k)))
    (where_live y h (λ (h : Handed). h.indicated) refl live tells.calls)
calls_moved k x rest y waiting h (Here e (AfterReset c r empty holds) live) =
    StaysAt (name_eq (name_at calls y k) (name_at calls x k) e c refl)
    (sym (circuit_calls (circuit_at y k) (waiting k)) ∙ ap calls_in holds ∙ circuit_calls (circuit_at x k) (rest k)
    ∙ sym (joined_none (held_at calls x rest k))
    ∙ ap (λ (l : Lists CallRequest). joined (held_at calls x rest k) l) (sym (ap calls_in empty)))
    (inl (ap (λ (h : Handed). h.indicated) empty))
calls_moved k x rest y waiting h (Here e (AfterClear c empty holds) live) =
    GrowsAt (inr (sym e, inl c)) (sym (circuit_calls (circuit_at y k) (waiting k)) ∙ ap calls_in holds) (ap calls_in empty)
calls_moved k x rest y waiting h (Afresh e holds empty) = GrowsAt (inl e) (sym (circuit_calls (circuit_at y k) (waiting k)) ∙ ap calls_in holds)
    (ap calls_in empty)

-- a call is made or indicated before the first reset
calls_named : (k : ℕ) (x : At PeerChannels) (rest : ℕ → List Piece) (y : At PeerChannels) (waiting : ℕ → List Piece) (h : Handed) → TurnOf k x rest y waiting h
    → (calls_in h ≡ none) ⊎ (name_at calls y k ≡ peer_name y k)
calls_named k x rest y waiting h (Here e (Adds c r holds (inl call) tells) live) = inl (lists_are h.made [] h.indicated [] call.0 call.1)
calls_named k x rest y waiting h (Here e (Adds c r holds (inr first) tells) live) = inr (name_eq (name_at calls y k) (peer_name y k) refl refl (sym first))
calls_named k x rest y waiting h (Here e (AfterReset c r empty holds) live) = inl (ap calls_in empty)
calls_named k x rest y waiting h (Here e (AfterClear c empty holds) live) = inl (ap calls_in empty)
calls_named k x rest y waiting h (Afresh e holds empty) = inl (ap calls_in empty)

-- the entries of calls are what the lists of calls gain
pub calls_listed : IsListed calls calls_in
calls_listed = record { nothing = refl; more = λ a b. refl; moves = calls_moved; named = calls_named }
