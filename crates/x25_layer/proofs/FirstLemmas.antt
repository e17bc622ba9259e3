-- Until a packet comes to an end, it gave its RESTART alone; and the first that comes in order is the other end's, which its user is told.
use Rattle.x25_layer.proofs.Names.{◌≡◌, ℕ, List, [], ◌∷◌, ◌++◌, option_to_list, Bool, true, false, ◌==◌, if◌then◌else◌, refl, sym, ap, subst, ◌∙◌, Role, Dte}
use Rattle.x25_layer.proofs.Names.{Dce, PlainPacket, restart, State, Free, Circuit, is_free_in, Pulled, pull_in, pulled, pulls_nothing, IsPrefix, Ranges}
use Rattle.x25_layer.proofs.Names.{LayerSettings, Layer, LayerNotice, is_channel, packet_on, answers_in, layer_answers, LayerRequest, LayerOutcome, Accepted}
use Rattle.x25_layer.proofs.Names.{Declined, outcome_in, layer_outcome, layer_pulled, AreQuiet, AreNoFaults, End, requested, pulled_in, moves_in, settings_of}
use Rattle.x25_layer.proofs.Names.{append-nil, restart_cause, goes_up, OwnMove, Takes, as_move, coming, alone, own_moves, own_run, Ends, ApartEvent}
use Rattle.x25_layer.proofs.{ApartLemmas.{event}, LayerLemmas.{true≢false}}
use Rattle.x25_layer.{proofs.Names.{apart_happens, apart_run, IsNext, IsInOrder, AreInOrder, as_world, AlwaysApart}, specs.Layer.{restarted}}
use Rattle.x25_layer.specs.laws.{Apart.{Requests, Pulls, GoesDown, apart_start}, ApartLaw.{BeginsRestarted, IsToldFirst, RestartsFirst, BeginsAlone}}
use Rattle.x25_layer.specs.laws.TwoLayers.{started}

-- ---- no packet came

-- a layer that is up still waits for the restart of the other end
record Waits (c : LayerSettings) (e : End) : Type 0 where
  waiting : e.is_out ≡ false → e.layer.restarting ≡ true
  given : e.given ≡ option_to_list (goes_up c).owed
  told : e.told ≡ []
  entries : e.entries ≡ []
  free : (k : ℕ) → (e.layer.circuits k).state ≡ Free

abbrev WaitsAlone : LayerSettings → End → Type 0
WaitsAlone c e = e.taken ≡ [] → Waits c e

not_empty : (ps : List PlainPacket) (p : PlainPacket) → ps ++ p ∷ [] ≡ [] → ⊥
not_empty [] p same = cc
not_empty (q ∷ ps) p same = cc

module _ (c : LayerSettings) (e : End) (h : WaitsAlone c e) where
  as_taken : (request : LayerRequest) (o : LayerOutcome) → (requested c (alone e []) request o).near.taken ≡ e.taken
  as_taken request (Accepted next packet) = refl
  as_taken request (Declined error) = refl

  -- what is asked before is refused
  asked_waits : e.is_out ≡ false → (full : Bool) (request : LayerRequest) (b : Bool) → e.layer.restarting ≡ b
      → WaitsAlone c (requested c (alone e []) request (outcome_in c full b e.layer.restarts e.layer.circuits request)).near
  asked_waits up full request true is = h
  asked_waits up full request false is = λ none.
      absurd (true≢false (sym ((h (sym (as_taken request (outcome_in c full false e.layer.restarts e.layer.circuits request)) ∙ none)).waiting up) ∙ is))

  -- in p1 nothing is pulled
  pulled_waits : e.is_out ≡ false → (k : ℕ) (b : Bool) → WaitsAlone c (if b then pulled_in (alone e []) (layer_pulled c e.layer k) else alone e []).near
  pulled_waits up k false = h
  pulled_waits up k true = λ none.
      let v : Waits c e = h none in
      let x : Circuit = e.layer.circuits k in
      let nothing : pulled c.circuit x ≡ pulls_nothing x = ap (λ (s : State). pull_in c.circuit x s) (v.free k) in
      record {
        waiting = λ on. v.waiting up;
        given = ap (λ (p : Pulled). e.given ++ option_to_list (packet_on k p.packet)) nothing ∙ append-nil e.given ∙ v.given;
        told = v.told;
        entries = append-nil e.entries ∙ v.entries;
        free = λ j. free_in j (j == k) nothing v;
      }
    where
      free_in : (j : ℕ) (b : Bool) → pulled c.circuit (e.layer.circuits k) ≡ pulls_nothing (e.layer.circuits k) → Waits c e
          → (if b then (pulled c.circuit (e.layer.circuits k)).next else e.layer.circuits j).state ≡ Free
      free_in j true nothing v = ap (λ (p : Pulled). p.next.state) nothing ∙ v.free k
      free_in j false nothing v = v.free j

  waits_in : (what : OwnMove) (gone : Bool) → e.is_out ≡ gone → WaitsAlone c (moves_in c (alone e (coming what)) gone (as_move what)).near
  waits_in what true is = h
  waits_in (Requests full request) false is = asked_waits is full request e.layer.restarting refl
  waits_in (Pulls k) false is = pulled_waits is k (is_channel c.channels k)
  waits_in (Takes p) false is = λ none. absurd (not_empty e.taken p none)
  waits_in GoesDown false is = λ none.
      let v : Waits c e = h none in
      record { waiting = λ on. absurd (true≢false on); given = v.given; told = v.told; entries = v.entries; free = λ k. refl }

all_wait : (c : LayerSettings) (own : List OwnMove) (e : End) → WaitsAlone c e → WaitsAlone c (own_run c own e)
all_wait c [] e h = h
all_wait c (what ∷ own) e h = all_wait c own (own_moves c e what) (waits_in c e h what e.is_out refl)

pub restart_is_quiet : (role : Role) (channels : Ranges) → AreQuiet channels (restart (restart_cause role) 0 ∷ [])
restart_is_quiet Dte channels = ((refl, λ no_channel. absurd no_channel), tt)
restart_is_quiet Dce channels = ((refl, λ no_channel. absurd no_channel), tt)

pub begins_alone : BeginsAlone
begins_alone c own none =
    let e : End = own_run c own (started (goes_up c)) in
    let v : Waits c e = all_wait c own (started (goes_up c))
    (λ start. record { waiting = λ up. refl; given = refl; told = refl; entries = refl; free = λ k. refl }) none in
    record {
      given = v.given;
      told = v.told;
      entries = v.entries;
      free = λ k. ap is_free_in (v.free k);
      quiet = record {
        given = subst (λ (l : List PlainPacket). AreQuiet c.channels l) (sym v.given) (restart_is_quiet c.circuit.role c.channels);
        told = subst AreNoFaults (sym v.told) tt;
      };
    }

-- ---- the first packet

abbrev BeginsRestart : List PlainPacket → Type 0
BeginsRestart (restart cause diagnostic ∷ packets) = Unit {0}
BeginsRestart packets = ⊥

restart_more : (given more : List PlainPacket) → BeginsRestart given → BeginsRestart (given ++ more)
restart_more (restart cause diagnostic ∷ packets) more begins = tt
restart_more given more begins = absurd begins

restarted_more : (told more : List LayerNotice) → BeginsRestarted told → BeginsRestarted (told ++ more)
restarted_more (restarted cause diagnostic ∷ notices) more begins = tt
restarted_more told more begins = absurd begins

-- a restart by the other end is told, whether the layer waits for it or not
restart_is_told : (c : LayerSettings) (b : Bool) (restarts : ℕ) (circuits : ℕ → Circuit) (p : PlainPacket) (packets : List PlainPacket)
    → BeginsRestart (p ∷ packets)
    → BeginsRestarted (answers_in c b restarts circuits p).notices
restart_is_told c true restarts circuits (restart cause diagnostic) packets begins = tt
restart_is_told c false restarts circuits (restart cause diagnostic) packets begins = tt
restart_is_told c b restarts circuits other packets begins = absurd begins

taken_is_told : (c : LayerSettings) (l : Layer) (taken : List PlainPacket) (told : List LayerNotice) (p : PlainPacket) (given : List PlainPacket)
    → IsToldFirst taken told → BeginsRestart given
    → IsPrefix (taken ++ p ∷ []) given → IsToldFirst (taken ++ p ∷ []) (told ++ (layer_answers c l p).notices)
taken_is_told c l [] told p given first begins next =
    subst (λ (before : List LayerNotice). BeginsRestarted (before ++ (layer_answers c l p).notices)) (sym first)
    (restart_is_told c l.restarting l.restarts l.circuits p next.0 (subst BeginsRestart (sym next.1) begins))
taken_is_told c l (q ∷ taken) told p given first begins next = restarted_more told (layer_answers c l p).notices first

-- of an end in an order: what it gave begins with its RESTART, and what it took is told first
abbrev First : End → Type 0
First e = BeginsRestart e.given × IsToldFirst e.taken e.told

first_in : (c : LayerSettings) (e giver : End) (what : OwnMove) (gone : Bool) → e.is_out ≡ gone → First e → BeginsRestart giver.given → IsNext e giver what
    → First (moves_in c (alone e (coming what)) gone (as_move what)).near
first_in c e giver what true is h begins next = h
first_in c e giver (Requests full request) false is h begins next = by (layer_outcome c full e.layer request)
  where
    by : (o : LayerOutcome) → First (requested c (alone e []) request o).near
    by (Accepted after packet) = (restart_more e.given (option_to_list packet) h.0, h.1)
    by (Declined error) = h
first_in c e giver (Pulls k) false is h begins next = by (is_channel c.channels k)
  where
    by : (b : Bool) → First (if b then pulled_in (alone e []) (layer_pulled c e.layer k) else alone e []).near
    by true = (restart_more e.given (option_to_list (layer_pulled c e.layer k).packet) h.0, h.1)
    by false = h
first_in c e giver (Takes p) false is h begins next =
    (restart_more e.given (option_to_list (layer_answers c e.layer p).owed) h.0, taken_is_told c e.layer e.taken e.told p giver.given h.1 begins (next is))
first_in c e giver GoesDown false is h begins next = h

one_first : (long_data : Bool) (channels : Ranges) (first : Bool) (what : OwnMove) (ends : Ends) → IsInOrder ends (event first what) → First ends.near
    → First ends.far
    → let next = apart_happens long_data channels ends (event first what) in First next.near × First next.far
one_first long_data channels true what ends next near far =
    (first_in (settings_of Dte long_data channels) ends.near ends.far what ends.near.is_out refl near far.0 next, far)
one_first long_data channels false what ends next near far =
    (near, first_in (settings_of Dce long_data channels) ends.far ends.near what ends.far.is_out refl far near.0 next)

run_first : (long_data : Bool) (channels : Ranges) (es : List ApartEvent) (ends : Ends) → AreInOrder long_data channels es ends → First ends.near
    → First ends.far
    → RestartsFirst (as_world (apart_run long_data channels es ends))
run_first long_data channels [] ends next near far = record { near = near.1; far = far.1 }
run_first long_data channels (e ∷ es) ends next near far =
    let h = one_first long_data channels e.first e.what ends next.0 near far in
    run_first long_data channels es (apart_happens long_data channels ends e) next.1 h.0 h.1

pub restarts_first : (long_data : Bool) (channels : Ranges) → AlwaysApart RestartsFirst long_data channels
restarts_first long_data channels es next = run_first long_data channels es (apart_start long_data channels) next (tt, refl) (tt, refl)
