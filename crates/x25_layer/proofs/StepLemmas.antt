-- The entries of a step stand under the name after it, and are what the channels gain.
use Rattle.x25_layer.proofs.Names.{◌≡◌, inl, inr, ℕ, suc, List, [], ◌∷◌, ◌++◌, Bool, true, false, ◌==◌, if◌then◌else◌, refl, sym, ap, subst, ◌∙◌, arith}
use Rattle.x25_layer.proofs.Names.{eqb-true, Circuit, PlainNotice, Piece, Side, At, live, Name, both, same_name, Layer, notices_on, Handed, nothing_handed, added}
use Rattle.x25_layer.proofs.Names.{told_by_all, Entry, under, name_of, entries_told}
use Rattle.x25_handshakes.specs.laws.{PeerCalls.{PeerCall}, PeerLayer.{PeerChannels, put_peer, peer_fresh}}
use Rattle.x25_layer.proofs.Ends.{circuit_at, SeesLayer, put_rest, Here, Afresh, StepOf, Notes}
use Rattle.x25_layer.{proofs.RowLemmas.{still, append_nil}, specs.laws.PeerClaims.{peer_name}, specs.laws.Transcript.{told_by}}

-- a name is its three counts
pub name_eq : (m n : Name) → m.restarts ≡ n.restarts → m.clears ≡ n.clears → m.resets ≡ n.resets → m ≡ n
name_eq m n p q w =
    ap (λ (a : ℕ). record { restarts = a; clears = m.clears; resets = m.resets }) p
    ∙ ap (λ (a : ℕ). record { restarts = n.restarts; clears = a; resets = m.resets }) q
    ∙ ap (λ (a : ℕ). record { restarts = n.restarts; clears = n.clears; resets = a }) w

pub nothing_if : (b : Bool) → nothing_handed ≡ (if b then nothing_handed else nothing_handed)
nothing_if true = refl
nothing_if false = refl

-- a step that says nothing, and lets each name and list stay
pub quiet_step : (x : At PeerChannels) (rest : ℕ → List Piece) (y : At PeerChannels) (waiting : ℕ → List Piece) → y.epoch ≡ x.epoch
    → ((k : ℕ) → Notes (circuit_at x k) (rest k) (circuit_at y k) (waiting k) nothing_handed) → StepOf x rest y waiting []
quiet_step x rest y waiting same notes k = (nothing_handed, Here same (notes k) (inl refl), λ m. nothing_if (same_name m (peer_name y k)))

pub restart_step : (e : ℕ) (x : Side PeerChannels) (rest : ℕ → List Piece)
    → StepOf (record { epoch = e; side = x }) rest (live (suc e) peer_fresh) (λ k. []) []
restart_step e x rest k = (nothing_handed, Afresh (omega arith) refl refl, λ m. nothing_if (same_name m (peer_name (live (suc e) peer_fresh) k)))

chosen : (b : Bool) (a : At PeerCall) (rest : List Piece) (c : At PeerCall) (w : List Piece) (s : Handed) → (b ≡ true → Notes a rest c w s)
    → Notes a rest (if b then c else a) (if b then w else rest) (if b then s else nothing_handed)
chosen true a rest c w s f = f refl
chosen false a rest c w s f = still a rest

fix : (b c d : Bool) (s : Handed) → (b ≡ true → c ≡ d) → (if both b c then s else nothing_handed)
    ≡ (if d then (if b then s else nothing_handed) else nothing_handed)
fix true c d s f = ap (λ (e : Bool). if e then s else nothing_handed) (f refl)
fix false c d s f = nothing_if d

name_seen : (most : ℕ) (l : Layer) (e : ℕ) (y : PeerChannels) (rest : ℕ → List Piece) (h : ℕ) → SeesLayer most l (live e y) rest → name_of l h
    ≡ peer_name (live e y) h
name_seen most l e y rest h s = name_eq (name_of l h) (peer_name (live e y) h) s.restarts (ap (λ (c : Circuit). c.clears) (s.circuits h).is)
    (ap (λ (c : Circuit). c.resets) (s.circuits h).is)

-- a step on channel h
pub step_on : (most : ℕ) (e : ℕ) (x : PeerChannels) (rest : ℕ → List Piece) (h : ℕ) (c : At PeerCall) (w : List Piece) (l : Layer) (s : Handed) (es : List Entry)
    → SeesLayer most l (live e (put_peer x h c)) (put_rest rest h w) → Notes (x h) (rest h) c w s
    → ((k : ℕ) (m : Name) → under k m es ≡ (if both (k == h) (same_name m (name_of l h)) then s else nothing_handed))
    → StepOf (live e x) rest (live e (put_peer x h c)) (put_rest rest h w) es
step_on most e x rest h c w l s es sees notes is k = (
  if k == h then s else nothing_handed,
  Here refl (chosen (k == h) (x k) (rest k) c w s (λ at. subst (λ (j : ℕ). Notes (x j) (rest j) c w s) (sym (eqb-true k h at)) notes)) (inr refl),
  λ m. is k m ∙ fix (k == h) (same_name m (name_of l h)) (same_name m (peer_name (live e (put_peer x h c)) k)) s
      (λ at. ap (λ (j : Name). same_name m j)
      (name_seen most l e (put_peer x h c) (put_rest rest h w) h sees ∙ ap (λ (j : ℕ). peer_name (live e (put_peer x h c)) j) (sym (eqb-true k h at)))),
)

handed_append : (s : Handed) → added s nothing_handed ≡ s
handed_append s =
    ap (λ a. record { made = a; indicated = s.indicated ++ []; down = s.down ++ []; up = s.up ++ []; int_down = s.int_down ++ []; int_up = s.int_up ++ [] })
    (append_nil s.made)
    ∙ ap (λ a. record { made = s.made; indicated = a; down = s.down ++ []; up = s.up ++ []; int_down = s.int_down ++ []; int_up = s.int_up ++ [] })
    (append_nil s.indicated)
    ∙ ap (λ a. record { made = s.made; indicated = s.indicated; down = a; up = s.up ++ []; int_down = s.int_down ++ []; int_up = s.int_up ++ [] })
    (append_nil s.down)
    ∙ ap (λ a. record { made = s.made; indicated = s.indicated; down = s.down; up = a; int_down = s.int_down ++ []; int_up = s.int_up ++ [] }) (append_nil s.up)
    ∙ ap (λ a. record { made = s.made; indicated = s.indicated; down = s.down; up = s.up; int_down = a; int_up = s.int_up ++ [] }) (append_nil s.int_down)
    ∙ ap (λ a. record { made = s.made; indicated = s.indicated; down = s.down; up = s.up; int_down = s.int_down; int_up = a }) (append_nil s.int_up)

-- one entry
pub under_one : (k : ℕ) (m : Name) (e : Entry) (s : Handed) → (if both (k == e.channel) (same_name m e.name) then s else nothing_handed)
    ≡ added (if both (k == e.channel) (same_name m e.name) then s else nothing_handed) nothing_handed
under_one k m e s = sym (handed_append (if both (k == e.channel) (same_name m e.name) then s else nothing_handed))

-- the notices of channel h
pub told_under : (l : Layer) (h : ℕ) (ns : List PlainNotice) (k : ℕ) (m : Name) → under k m (entries_told l (notices_on h ns))
    ≡ (if both (k == h) (same_name m (name_of l h)) then told_by_all ns else nothing_handed)
told_under l h [] k m = nothing_if (both (k == h) (same_name m (name_of l h)))
told_under l h (x ∷ ns) k m =
    ap (λ (s : Handed). added (if both (k == h) (same_name m (name_of l h)) then told_by x else nothing_handed) s) (told_under l h ns k m)
    ∙ test (both (k == h) (same_name m (name_of l h)))
  where
    test : (b : Bool) → added (if b then told_by x else nothing_handed) (if b then told_by_all ns else nothing_handed)
        ≡ (if b then added (told_by x) (told_by_all ns) else nothing_handed)
    test true = refl
    test false = refl
