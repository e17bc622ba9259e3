-- The entry of an accepted command stands under the name that the layer has after the whole call.
use Rattle.x25_station.proofs.Names.{◌≡◌, ℕ, zero, suc, ◌≤◌, nat_le, ◌&&◌, List, [], ◌∷◌, Option, Some, None, Bool, true, false, ◌==◌, if◌then◌else◌, refl, ap}
use Rattle.x25_station.proofs.Names.{sym, subst, ◌∙◌, arith, le-leb, none-some, same_Some, Role, Dte, Dce, Circuit, Proposal, in_brief, LayerRequest, Asks}
use Rattle.x25_station.proofs.Names.{Dials, Restarts, PullsAll, LayerOutcome, Accepted, Declined, layer_outcome, outcome_in, outcome_on, if_at_once}
use Rattle.x25_station.proofs.Names.{puts_at_once, free_channel, first_of, lowest_free, highest_free, first_free, where_callable, LayerSettings, Layer}
use Rattle.x25_station.proofs.Names.{is_channel, LayerError, Ranges, LinkView, Putting, begin, rounds, Answered, Went, Refuses, went, calls, Asked, name_of}
use Rattle.x25_station.proofs.Names.{shown, entry_of_dial, PlainPacket, StationEntry, of_channel, restart_asked, station_asked, of_channels, entries_of_outcome}
use Rattle.x25_circuit.specs.Circuit.{is_free}
use Rattle.x25_layer.specs.Ranges.{may_call}
use Rattle.x25_station.proofs.NameLemmas.{rounds_name, rounds_params}
use Rattle.x25_station.proofs.ShownLemmas.{same_shown}
use Rattle.x25_circuit.specs.Calling as circuit
use Rattle.x25_layer.specs.declared.error.LayerError.TheVariants as layer_error

-- ---- a call that went was accepted

refuses_went : (e : LayerError) (p : Putting) → Refuses e ≡ Went p → ⊥
refuses_went e p is = subst (λ (a : Answered). elim a as (λ _. Type 0) [ Went x ↦ ⊥ | Refuses y ↦ Unit {0} ]) is tt

step_in : Putting → Answered → Putting
step_in d (Went p) = p
step_in d (Refuses e) = d

went_is : (a b : Putting) → Went a ≡ Went b → a ≡ b
unfolding step_in
went_is a b is = ap (step_in a) is

pub record IsAccepted (view : LinkView) (c : LayerSettings) (l : Layer) (request : LayerRequest) (p : Putting) : Type 0 where
  pub next : Layer
  pub packet : Option PlainPacket
  pub outcome : layer_outcome c (view.waits [] == 256) l request ≡ Accepted next packet
  pub step : rounds view c (begin next packet) ≡ p

pub accepted : (view : LinkView) (c : LayerSettings) (l : Layer) (request : LayerRequest) (p : Putting) → calls view c l request ≡ Went p
    → IsAccepted view c l request p
accepted view c l request p is = test view.is_up is
  where
    by : (o : LayerOutcome) → layer_outcome c (view.waits [] == 256) l request ≡ o → went view c o ≡ Went p → IsAccepted view c l request p
    by (Accepted next packet) found same = record { next = next; packet = packet; outcome = found; step = went_is (rounds view c (begin next packet)) p same }
    by (Declined e) found same = absurd (refuses_went e p same)

    test : (b : Bool) → (if b then went view c (layer_outcome c (view.waits [] == 256) l request) else Refuses layer_error.NotUp) ≡ Went p
        → IsAccepted view c l request p
    test true same = by (layer_outcome c (view.waits [] == 256) l request) refl same
    test false same = absurd (refuses_went layer_error.NotUp p same)

-- ---- the entry

entries_are : (view : LinkView) (c : LayerSettings) (l : Layer) (request : LayerRequest) (p : Putting) (a : IsAccepted view c l request p)
    → entries_of_outcome c l request (layer_outcome c (view.waits [] == 256) l request) ≡ station_asked c l a.next request
entries_are view c l request p a = ap (entries_of_outcome c l request) a.outcome

next_name : (view : LinkView) (c : LayerSettings) (l : Layer) (request : LayerRequest) (p : Putting) (h : ℕ) (a : IsAccepted view c l request p)
    → name_of a.next h ≡ name_of p.layer h
next_name view c l request p h a = sym (rounds_name view c (begin a.next a.packet) h) ∙ ap (λ (s : Putting). name_of s.layer h) a.step

next_params : (view : LinkView) (c : LayerSettings) (l : Layer) (request : LayerRequest) (p : Putting) (h : ℕ) (a : IsAccepted view c l request p)
    → (a.next.circuits h).params ≡ (p.layer.circuits h).params
next_params view c l request p h a = sym (rounds_params view c (begin a.next a.packet) h) ∙ ap (λ (s : Putting). (s.layer.circuits h).params) a.step

pub asked_entry : (view : LinkView) (c : LayerSettings) (l : Layer) (h : ℕ) (request : circuit.Request) (p : Putting) → calls view c l (Asks h request) ≡ Went p
    → entries_of_outcome c l (Asks h request) (layer_outcome c (view.waits [] == 256) l (Asks h request))
    ≡ of_channel (record { channel = h; name = name_of p.layer h; said = Asked (shown (p.layer.circuits h) request) }) ∷ []
asked_entry view c l h request p is =
    let a = accepted view c l (Asks h request) p is in
    entries_are view c l (Asks h request) p a
    ∙ ap (λ n. of_channel (record { channel = h; name = n; said = Asked (shown (a.next.circuits h) request) }) ∷ []) (next_name view c l (Asks h request) p h a)
    ∙ ap (λ q. of_channel (record { channel = h; name = name_of p.layer h; said = Asked q }) ∷ [])
    (same_shown (a.next.circuits h) (p.layer.circuits h) request (next_params view c l (Asks h request) p h a))

pub dialled_entry : (view : LinkView) (c : LayerSettings) (l : Layer) (h : ℕ) (called calling user : List ℕ) (proposal : Proposal) (p : Putting)
    → calls view c l (Dials called calling user proposal) ≡ Went p → free_channel c.circuit.role l.circuits c.channels ≡ Some h
    → entries_of_outcome c l (Dials called calling user proposal) (layer_outcome c (view.waits [] == 256) l (Dials called calling user proposal))
    ≡ of_channel (record { channel = h; name = name_of p.layer h; said = Asked (circuit.Calls called calling user (in_brief proposal.params)) }) ∷ []
dialled_entry view c l h called calling user proposal p is free =
    let a = accepted view c l (Dials called calling user proposal) p is in
    entries_are view c l (Dials called calling user proposal) p a
    ∙ ap (λ (o : Option ℕ). of_dial a.next o) free
    ∙ ap (λ n. of_channel (record { channel = h; name = n; said = Asked (circuit.Calls called calling user (in_brief proposal.params)) }) ∷ [])
    (next_name view c l (Dials called calling user proposal) p h a)
  where
    of_dial : Layer → Option ℕ → List StationEntry
    of_dial next o = of_channels (entry_of_dial next o (circuit.Calls called calling user proposal))

pub restart_entry : (view : LinkView) (c : LayerSettings) (l : Layer) (cause diagnostic : ℕ) (p : Putting) → calls view c l (Restarts cause diagnostic) ≡ Went p
    → entries_of_outcome c l (Restarts cause diagnostic) (layer_outcome c (view.waits [] == 256) l (Restarts cause diagnostic))
    ≡ restart_asked cause diagnostic ∷ []
restart_entry view c l cause diagnostic p is = entries_are view c l (Restarts cause diagnostic) p (accepted view c l (Restarts cause diagnostic) p is)

pub pull_entry : (view : LinkView) (c : LayerSettings) (l : Layer) (p : Putting) → calls view c l PullsAll ≡ Went p
    → entries_of_outcome c l PullsAll (layer_outcome c (view.waits [] == 256) l PullsAll) ≡ []
pull_entry view c l p is = entries_are view c l PullsAll p (accepted view c l PullsAll p is)

-- ---- the channel of an accepted command is configured

declined_accepted : (e : LayerError) (next : Layer) (packet : Option PlainPacket) → Declined e ≡ Accepted next packet → ⊥
declined_accepted e next packet is = subst (λ (o : LayerOutcome). elim o as (λ _. Type 0) [ Accepted x y ↦ ⊥ | Declined z ↦ Unit {0} ]) is tt

pub asked_channel : (view : LinkView) (c : LayerSettings) (l : Layer) (h : ℕ) (request : circuit.Request) (p : Putting) → calls view c l (Asks h request)
    ≡ Went p → is_channel c.channels h ≡ true
asked_channel view c l h request p is = let a = accepted view c l (Asks h request) p is in
    at l.restarting (is_channel c.channels h) refl a.next a.packet a.outcome
  where
    full : Bool
    full = view.waits [] == 256

    good : LayerOutcome
    good = if_at_once (puts_at_once request) full (outcome_on l.restarts l.circuits h (circuit.outcome c.circuit (l.circuits h) request))

    at : (busy b : Bool) → is_channel c.channels h ≡ b → (next : Layer) (packet : Option PlainPacket)
        → outcome_in c full busy l.restarts l.circuits (Asks h request) ≡ Accepted next packet → is_channel c.channels h ≡ true
    at true b same next packet found = absurd (declined_accepted layer_error.Restarting next packet found)
    at false true same next packet found = same
    at false false same next packet found = absurd
        (declined_accepted layer_error.NoSuchChannel next packet (sym (ap (λ (x : Bool). if x then good else Declined layer_error.NoSuchChannel) same) ∙ found))

record LiesIn (n h : ℕ) : Type 0 where
  low : 1 ≤ h
  high : h ≤ n

lies_further : (n h : ℕ) → LiesIn n h → LiesIn (suc n) h
lies_further n h in_n = record { low = in_n.low; high = omega (arith, in_n.high) }

highest_lies : (f : ℕ → Circuit) (n h : ℕ) → highest_free f n ≡ Some h → LiesIn n h
highest_lies f zero h is = absurd (none-some h is)
highest_lies f (suc n) h is = test (is_free (f (suc n))) is (highest_lies f n h)
  where
    test : (b : Bool) → (if b then Some (suc n) else highest_free f n) ≡ Some h → (highest_free f n ≡ Some h → LiesIn n h) → LiesIn (suc n) h
    test true same below = subst (λ (k : ℕ). LiesIn (suc n) k) (same_Some (suc n) h same) (record { low = omega arith; high = omega arith })
    test false same below = lies_further n h (below same)

lowest_lies : (f : ℕ → Circuit) (n h : ℕ) → lowest_free f n ≡ Some h → LiesIn n h
lowest_lies f zero h is = absurd (none-some h is)
lowest_lies f (suc n) h is = first (lowest_free f n) refl is (lowest_lies f n h)
  where
    test : (b : Bool) → (if b then Some (suc n) else None) ≡ Some h → LiesIn (suc n) h
    test true same = subst (λ (k : ℕ). LiesIn (suc n) k) (same_Some (suc n) h same) (record { low = omega arith; high = omega arith })
    test false same = absurd (none-some h same)

    first : (o : Option ℕ) → lowest_free f n ≡ o → first_of o (is_free (f (suc n))) (suc n) ≡ Some h → (lowest_free f n ≡ Some h → LiesIn n h)
        → LiesIn (suc n) h
    first (Some k) found same below = lies_further n h (below (found ∙ same))
    first None found same below = test (is_free (f (suc n))) same

pub free_is_channel : (role : Role) (f : ℕ → Circuit) (channels : Ranges) (h : ℕ) → free_channel role f channels ≡ Some h → is_channel channels h ≡ true
free_is_channel role f channels h is = found (first_free role f channels.count) (λ k same. lies role k same) is
  where
    lies : (r : Role) (k : ℕ) → first_free r f channels.count ≡ Some k → LiesIn channels.count k
    lies Dte k same = highest_lies f channels.count k same
    lies Dce k same = lowest_lies f channels.count k same

    both : LiesIn channels.count h → is_channel channels h ≡ true
    both x = ap (λ (b : Bool). b && nat_le h channels.count) (le-leb 1 h x.low) ∙ le-leb h channels.count x.high

    may : (k : ℕ) (b : Bool) → LiesIn channels.count k → (if b then Some k else None) ≡ Some h → is_channel channels h ≡ true
    may k true x same = both (subst (λ (n : ℕ). LiesIn channels.count n) (same_Some k h same) x)
    may k false x same = absurd (none-some h same)

    found : (o : Option ℕ) → ((k : ℕ) → o ≡ Some k → LiesIn channels.count k) → where_callable role channels o ≡ Some h → is_channel channels h ≡ true
    found None at same = absurd (none-some h same)
    found (Some k) at same = may k (may_call role channels k) (at k refl) same
