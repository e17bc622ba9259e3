-- How many messages a layer's moves confirm, and that an end is told of no more.
use Rattle.x25_world.proofs.Names.{◌≡◌, ℕ, ◌+◌, ◌≤◌, List, [], ◌∷◌, ◌++◌, if◌then◌else◌, refl, ap, ◌∙◌, arith, Role, Name, same_name, LayerSettings, Layer}
use Rattle.x25_world.proofs.Names.{goes_up, name_of, started, OwnMove, Takes, own_moves, own_run, Cfg, confirmed, StationEntry, confirmed_in}
use Rattle.x25_world.proofs.sessions.SessionTrace.{layer_of, Done, moved, own_in, own, own_more, TakesNone, TakeNothing}
use Rattle.x25_layer.specs.laws.TwoLayers as layer

-- from this layer to that, on a channel and of the stretch of this name
abbrev pub counted_at : LayerSettings → ℕ → Name → Layer → Layer → ℕ
counted_at c k name l next = if same_name name (name_of next k) then confirmed c l next k else 0

-- what a move confirms, in the stretch of this name on a channel
abbrev pub counted_by : LayerSettings → ℕ → Name → layer.End → OwnMove → ℕ
counted_by c k name e (Takes p) = counted_at c k name e.layer (own_moves c e (Takes p)).layer
counted_by c k name e what = 0

-- what moves confirm, one after the other
abbrev pub counted_in : LayerSettings → ℕ → Name → List OwnMove → layer.End → ℕ
counted_in c k name [] e = 0
counted_in c k name (what ∷ rest) e = counted_by c k name e what + counted_in c k name rest (own_moves c e what)

pub counted_append : (c : LayerSettings) (k : ℕ) (name : Name) (xs ys : List OwnMove) (e : layer.End) → counted_in c k name (xs ++ ys) e
    ≡ counted_in c k name xs e + counted_in c k name ys (own_run c xs e)
counted_append c k name [] ys e = omega arith
counted_append c k name (x ∷ xs) ys e = omega (arith, counted_append c k name xs ys (own_moves c e x))

none_by : (c : LayerSettings) (k : ℕ) (name : Name) (e : layer.End) (what : OwnMove) → TakesNone what → counted_by c k name e what ≡ 0
none_by c k name e (Takes p) none = absurd none
none_by c k name e what none = refl

pub none_counted : (c : LayerSettings) (k : ℕ) (name : Name) (moves : List OwnMove) (e : layer.End) → TakeNothing moves → counted_in c k name moves e ≡ 0
none_counted c k name [] e none = refl
none_counted c k name (what ∷ moves) e none = omega (arith, none_by c k name e what none.0, none_counted c k name moves (own_moves c e what) none.1)

pub confirmed_append : (k : ℕ) (name : Name) (xs ys : List StationEntry) → confirmed_in k name (xs ++ ys) ≡ confirmed_in k name xs + confirmed_in k name ys
confirmed_append k name [] ys = omega arith
confirmed_append k name (x ∷ xs) ys = omega (arith, confirmed_append k name xs ys)

-- ---- the entries of a session tell of no more than its moves confirm

-- each confirmation that is told is one of a move
abbrev pub IsCounted : Cfg → Role → ℕ → List Done → List StationEntry → Type 0
IsCounted cfg end n trace es = (k : ℕ) (name : Name) → confirmed_in k name es
    ≤ counted_in (layer_of cfg end) k name (own_in end n trace) (started (goes_up (layer_of cfg end)))

-- entries tell of none
abbrev pub CountNone : List StationEntry → Type 0
CountNone es = (k : ℕ) (name : Name) → confirmed_in k name es ≡ 0

-- by the same moves
pub counted_same : (cfg : Cfg) (end : Role) (n : ℕ) (trace trace₂ : List Done) (es : List StationEntry) → own_in end n trace₂ ≡ own_in end n trace
    → IsCounted cfg end n trace es → IsCounted cfg end n trace₂ es
counted_same cfg end n trace trace₂ es same counted k name =
    rw same (counted k name)

pub counted_rests : (cfg : Cfg) (end : Role) (n : ℕ) (trace : List Done) (before more all : List StationEntry) → IsCounted cfg end n trace before → all
    ≡ before ++ more → CountNone more → IsCounted cfg end n trace all
counted_rests cfg end n trace before more all counted is none k name =
    let sum : confirmed_in k name all ≡ confirmed_in k name before + confirmed_in k name more =
    ap (confirmed_in k name) is ∙ confirmed_append k name before more in
    omega (arith, counted k name, none k name, sum)

pub counted_goes : (cfg : Cfg) (end : Role) (n : ℕ) (trace : List Done) (moves : List OwnMove) (before more all : List StationEntry)
    → IsCounted cfg end n trace before → all ≡ before ++ more
    → ((k : ℕ) (name : Name) → confirmed_in k name more ≤ counted_in (layer_of cfg end) k name moves (own cfg end n trace))
    → IsCounted cfg end n (trace ++ moved end n moves) all
counted_goes cfg end n trace moves before more all counted is counts k name =
    let c = layer_of cfg end in
    let start = started (goes_up c) in
    let sum : confirmed_in k name all ≡ confirmed_in k name before + confirmed_in k name more =
    ap (confirmed_in k name) is ∙ confirmed_append k name before more in
    let together : counted_in c k name (own_in end n (trace ++ moved end n moves)) start ≡ counted_in c k name (own_in end n trace) start
    + counted_in c k name moves (own cfg end n trace) =
    ap (λ l. counted_in c k name l start) (own_more end n trace moves) ∙ counted_append c k name (own_in end n trace) moves start in
    omega (arith, counted k name, counts k name, sum, together)
