-- What octets bring beside a packet: of those that a link is handed down what its user gave, in order, and of those that it hands up what its user
-- is told.
use Rattle.x25_world.proofs.Names.{◌≡◌, ℕ, ◌==◌, ◌≤◌, inl, inr, List, [], ◌∷◌, ◌++◌, length, Bool, true, false, nat_lt, ◌+◌, if◌then◌else◌, Option, Some, None}
use Rattle.x25_world.proofs.Names.{Result, Ok, Err, refl, sym, ap, ap₂, ◌∙◌, subst, append_assoc, append-nil, arith, cond_both, eqb-true, append_cancel_left}
use Rattle.x25_world.proofs.Names.{PlainPacket, call, accept, clear, user_data, Marks, channel_of, longest_user, PacketError, read_in, PlainGiven, may_give}
use Rattle.x25_world.proofs.Names.{Circuit, Proposal, default_params, field_for, may_answer, may_clear_for, State, Free, Calling, Arriving, Open, Clearing}
use Rattle.x25_world.proofs.Names.{BadParameter, LayerError, LayerSettings, Layer, is_channel, LayerRequest, Dials, LayerOutcome, Accepted, free_channel}
use Rattle.x25_world.proofs.Names.{outcome_on, where_room, dialled, outcome_in, layer_outcome, layer_pulled, pulled_in, moves_in, requested, moves_all}
use Rattle.x25_world.proofs.Names.{pulls_of, alone, PlainBeside, nothing, fields, beside_in, Cfg, said_by, suits, GivesOctets, AreOctets, AreReadable}
use Rattle.x25_world.proofs.Names.{StationEntry, Came, came_in, Gave, channel_for, IsGiven, AreSomeOf, Laws, spelled, spelled_with}
use Rattle.std.proofs.Common.{option_to_list}
use Rattle.x25_given.specs.Writing.{write, written}
use Rattle.x25_layer.specs.{Calls.{Asks, Declined}, declared.error.LayerError.TheVariants.{NoSuchChannel}}
use Rattle.x25_packet.specs.{Facilities.{IsFacilityField}, Form.{PlainKind, PlainForm}, Grammar.{form_in}, Narrowing.{with_field, narrowed, field_in, taken_of}}
use Rattle.x25_packet.specs.{Reading.{packet_of}, Spelling.{IsInRange, IsWithoutD, spelling_of}}
use Rattle.x25_station.specs.{Beside.{of_fields, beside_kind, beside_or_none, unless_written}, laws.GivenLaw.{told}, laws.ReadLaw.{IsReadable}}
use Rattle.x25_world.proofs.{Growing.{read_by}, Known.{true_false}}
use Rattle.x25_world.specs.laws.BesideClaims.{came_of}
use Rattle.x25_packet.specs.Form as form
use Rattle.x25_circuit.specs.Calling as circuit
use Rattle.x25_layer.specs.laws.TwoLayers as layer

-- ---- some of a list, in order

module _ {A B : Type 0} (IsOf : A → B → Type 0) where
  some_later : (us : List A) (ys vs : List B) → AreSomeOf IsOf us vs → AreSomeOf IsOf us (ys ++ vs)
  some_later [] ys vs h = tt
  some_later (u ∷ us) [] vs h = h
  some_later (u ∷ us) (y ∷ ys) vs h = inr (some_later (u ∷ us) ys vs h)

  pub some_append : (xs us : List A) (ys vs : List B) → AreSomeOf IsOf xs ys → AreSomeOf IsOf us vs → AreSomeOf IsOf (xs ++ us) (ys ++ vs)
  some_append [] us ys vs h g = some_later us ys vs g
  some_append (x ∷ xs) us [] vs h g = absurd h
  some_append (x ∷ xs) us (y ∷ ys) vs h g = elim h
      [ inl both ↦ inl (both.0, some_append xs us ys vs both.1 g) | inr rest ↦ inr (some_append (x ∷ xs) us ys vs rest g) ]

  pub some_begin : (xs us : List A) (ys : List B) → AreSomeOf IsOf (xs ++ us) ys → AreSomeOf IsOf xs ys
  some_begin [] us ys h = tt
  some_begin (x ∷ xs) us [] h = absurd h
  some_begin (x ∷ xs) us (y ∷ ys) h = elim h [ inl both ↦ inl (both.0, some_begin xs us ys both.1) | inr rest ↦ inr (some_begin (x ∷ xs) us ys rest) ]

  -- those of which some are these
  pub some_of_same : (xs ys : List A) (zs : List B) → AreSomeOf (λ (x y : A). x ≡ y) xs ys → AreSomeOf IsOf ys zs → AreSomeOf IsOf xs zs
  some_of_same [] ys zs h g = tt
  some_of_same (x ∷ xs) [] zs h g = absurd h
  some_of_same (x ∷ xs) (y ∷ ys) [] h g = absurd g
  some_of_same (x ∷ xs) (y ∷ ys) (z ∷ zs) h g = elim g [
    | inl both ↦ elim h [
      | inl here ↦ inl (rw here.0 both.0, some_of_same xs ys zs here.1 both.1)
      | inr there ↦ inr (some_of_same (x ∷ xs) ys zs there both.1)
    ]
    | inr rest ↦ inr (some_of_same (x ∷ xs) (y ∷ ys) zs h rest)
  ]

pub some_of_none : {A B : Type 0} (IsOf : A → B → Type 0) (xs : List A) → AreSomeOf IsOf xs [] → xs ≡ []
some_of_none IsOf [] h = refl
some_of_none IsOf (x ∷ xs) h = absurd h

-- ---- what octets bring

abbrev pub brought_as : Result PlainPacket PacketError → PlainBeside → List Came
brought_as (Ok p) (fields facilities user) = record { channel = channel_of p; facilities = facilities; user = user } ∷ []
brought_as read beside = []

abbrev pub brought_by : Cfg → List ℕ → List Came
brought_by cfg octets = brought_as (read_by cfg octets) (beside_in cfg.wide octets)

-- what stands beside the packets that these octets are read as
abbrev pub brought : Cfg → List (List ℕ) → List Came
brought cfg [] = []
brought cfg (octets ∷ rest) = brought_by cfg octets ++ brought cfg rest

pub brought_append : (cfg : Cfg) (xs ys : List (List ℕ)) → brought cfg (xs ++ ys) ≡ brought cfg xs ++ brought cfg ys
brought_append cfg [] ys = refl
brought_append cfg (x ∷ xs) ys = ap (λ l. brought_by cfg x ++ l) (brought_append cfg xs ys)
    ∙ sym (append_assoc (brought_by cfg x) (brought cfg xs) (brought cfg ys))

pub came_append : (xs ys : List StationEntry) → came_in (xs ++ ys) ≡ came_in xs ++ came_in ys
came_append [] ys = refl
came_append (x ∷ xs) ys = ap (λ l. came_of x ++ l) (came_append xs ys) ∙ sym (append_assoc (came_of x) (came_in xs) (came_in ys))

-- the first are some of the second, in order
abbrev pub AreTold : List Came → List Came → Type 0
AreTold xs ys = AreSomeOf (λ x y. x ≡ y) xs ys

-- as more is told, and more octets are handed up
pub told_more : (cfg : Cfg) (before es all : List StationEntry) (up came up₂ : List (List ℕ)) → AreTold (came_in before) (brought cfg up)
    → AreTold (came_in es) (brought cfg came) → all ≡ before ++ es → up₂ ≡ up ++ came
    → AreTold (came_in all) (brought cfg up₂)
told_more cfg before es all up came up₂ old new is more =
    rw is (subst (λ os. AreTold (came_in (before ++ es)) (brought cfg os)) (sym more)
    (subst (λ xs. AreTold xs (brought cfg (up ++ came))) (sym (came_append before es))
    (subst (λ ys. AreTold (came_in before ++ came_in es) ys) (sym (brought_append cfg up came))
    (some_append (λ x y. x ≡ y) (came_in before) (came_in es) (brought cfg up) (brought cfg came) old new))))

-- ---- what an end was handed down more, of what its user gave

pub record MoreIs (cfg : Cfg) (old new : List (List ℕ)) (gave : List Gave) : Type 0 where
  pub more : List (List ℕ)
  pub is : new ≡ old ++ more
  pub given : AreSomeOf IsGiven (brought cfg more) gave

-- it was handed down no more
pub none_more : (cfg : Cfg) (old new : List (List ℕ)) (gave : List Gave) → new ≡ old → MoreIs cfg old new gave
none_more cfg old new gave same = record { more = []; is = same ∙ sym (append-nil old); given = tt }

pub more_again : {cfg : Cfg} {old new newer : List (List ℕ)} {xs ys : List Gave} → MoreIs cfg old new xs → MoreIs cfg new newer ys
    → MoreIs cfg old newer (xs ++ ys)
more_again {cfg} {old} {xs} {ys} f g = record {
  more = f.more ++ g.more;
  is = g.is ∙ ap (λ l. l ++ g.more) f.is ∙ append_assoc old f.more g.more;
  given = rw (brought_append cfg f.more g.more) (some_append IsGiven (brought cfg f.more) (brought cfg g.more) xs ys f.given g.given);
}

-- ---- packets without anything given bring nothing

-- with more user data of a CALL at most
wider : {most : ℕ} → most ≤ 128 → (v : PlainPacket) → IsInRange most v → IsInRange 128 v
wider low (call h called calling field user) range = ((range.0, range.1, range.2, range.3, omega (arith, range.4, low)))
wider low v range = range

user_short : (long_data : Bool) → longest_user long_data ≤ 128
user_short true = omega arith
user_short false = omega arith

-- what is read as a data packet brings nothing
data_brings : (h : ℕ) (marks : Marks) (m : Bool) (ps pr : ℕ) (user : List ℕ) (w : PlainForm) (field : Result (List ℕ) PacketError) → narrowed w field
    ≡ Ok (user_data h marks m ps pr user) → beside_kind w.kind ≡ nothing
data_brings h marks m ps pr user w (Err e) is = absurd (cc)
data_brings h marks m ps pr user w (Ok field) is = by w.kind is
  where
    by : (kind : PlainKind) → with_field w.channel w.bit_8 w.d kind field ≡ Ok (user_data h marks m ps pr user) → beside_kind kind ≡ nothing
    by (form.call block) is = absurd (cc)
    by (form.accept block) is = absurd (cc)
    by (form.extended_clear cause reason block) is = absurd (cc)
    by (form.clear_conf block) is = absurd (cc)
    by (form.diagnostic number explanation) is = absurd (cc)
    by kind is = refl

module _ (laws : Laws) (cfg : Cfg) where
  in_range : (p : PlainPacket) → IsReadable cfg.wide cfg.long_data p → IsInRange 128 p
  in_range p r = wider (user_short cfg.long_data) p r.in_range

  read_plain : (p : PlainPacket) → IsWithoutD p → IsReadable cfg.wide cfg.long_data p → packet_of 128 (spelling_of p) ≡ Ok p
  read_plain p without r = (laws.grammar 128 p (spelling_of p) r.octets).1 (record { in_range = in_range p r; without_d = without; spelling = refl })

  plain_beside : (p : PlainPacket) → IsWithoutD p → IsReadable cfg.wide cfg.long_data p → beside_in true (spelling_of p) ≡ nothing
  plain_beside p without r = ap (λ read. unless_written read (beside_or_none (form_in 128 (spelling_of p)))) (read_plain p without r)

  data_beside : (h : ℕ) (marks : Marks) (m : Bool) (ps pr : ℕ) (user : List ℕ) → IsReadable cfg.wide cfg.long_data (user_data h marks m ps pr user)
      → beside_in true (spelling_of (user_data h marks m ps pr user)) ≡ nothing
  data_beside h marks m ps pr user r = by (packet_of 128 o) (form_in 128 o) (laws.taken 128 p (omega arith) r.octets (in_range p r))
    where
      p : PlainPacket
      p = user_data h marks m ps pr user

      o : List ℕ
      o = spelling_of p

      by : (read : Result PlainPacket PacketError) (wide : Result PlainForm PacketError) → taken_of wide ≡ Ok p → unless_written read (beside_or_none wide)
          ≡ nothing
      by (Ok u) wide is = refl
      by (Err e) (Err f) is = refl
      by (Err e) (Ok w) is = data_brings h marks m ps pr user w (field_in w.kind) is

  spelled_beside : (p : PlainPacket) → IsReadable cfg.wide cfg.long_data p → beside_in true (spelling_of p) ≡ nothing
  spelled_beside (user_data h marks m ps pr user) r = data_beside h marks m ps pr user r
  spelled_beside p r = plain_beside p tt r

  none_beside : (wide : Bool) (p : PlainPacket) → IsReadable cfg.wide cfg.long_data p → beside_in wide (spelling_of p) ≡ nothing
  none_beside false p r = refl
  none_beside true p r = spelled_beside p r

  plain_brings : (p : PlainPacket) → IsReadable cfg.wide cfg.long_data p → brought_by cfg (spelling_of p) ≡ []
  plain_brings p r = ap₂ brought_as r.reads (none_beside cfg.wide p r)

  -- packets that are spelled bring nothing beside
  pub spelled_bring : (packets : List PlainPacket) → AreReadable cfg.wide cfg.long_data packets → brought cfg (spelled packets) ≡ []
  spelled_bring [] h = refl
  spelled_bring (p ∷ packets) h = ap₂ (λ xs ys. xs ++ ys) (plain_brings p h.0) (spelled_bring packets h.1)

-- ---- the packet of a command with which something is given

-- it may go with it on this channel
abbrev pub MayGoOn : PlainGiven → Option ℕ → PlainPacket → Type 0
MayGoOn g channel (call h called calling field user) = (channel ≡ Some h) × (g.user ≡ [])
MayGoOn g channel (accept h field) = channel ≡ Some h
MayGoOn g channel (clear h cause diagnostic) = channel ≡ Some h
MayGoOn g channel p = Unit {0}

abbrev pub FirstMayGo : PlainGiven → Option ℕ → List PlainPacket → Type 0
FirstMayGo g channel [] = Unit {0}
FirstMayGo g channel (p ∷ packets) = MayGoOn g channel p

no_field : IsFacilityField []
no_field = (record { packet_size = None; window_size = None }, record { sizes = tt; windows = tt }, refl)

module _ (laws : Laws) (cfg : Cfg) (g : PlainGiven) (channel : Option ℕ) (wide : cfg.wide ≡ true) (allowed : may_give g ≡ true) (octets : GivesOctets g) where
  abbrev gave : List Gave
  gave = record { channel = channel; given = g } ∷ []

  -- fields that aren't both empty
  some_fields : (p : PlainPacket) (facilities user : List ℕ)
      → ((h : ℕ) → h ≡ channel_of p → IsGiven (record { channel = h; facilities = facilities; user = user }) (record { channel = channel; given = g }))
      → AreSomeOf IsGiven (brought_as (Ok p) (of_fields (Some (record { facilities = facilities; user = user })))) gave
  some_fields p facilities user is =
      cond_both (nat_lt 0 (length facilities + length user)) (fields facilities user) nothing (λ b. AreSomeOf IsGiven (brought_as (Ok p) b) gave)
      (λ _. inl (is (channel_of p) refl, tt)) (λ _. tt)

  told_brings : (p : PlainPacket) → MayGoOn g channel p → IsInRange 128 p → AreSomeOf IsGiven (brought_as (Ok p) (told g p)) gave
  told_brings (call h called calling field user) may range =
      some_fields (call h called calling field user) (field ++ g.facilities) []
      (λ k same. record { channel = may.0 ∙ ap (λ n. Some n) (sym same); own = field; of_own = range.3; facilities = refl; user = sym may.1 })
  told_brings (accept h field) may range =
      some_fields (accept h field) (field ++ g.facilities) g.user
      (λ k same. record { channel = may ∙ ap (λ n. Some n) (sym same); own = field; of_own = range.1; facilities = refl; user = refl })
  told_brings (clear h cause diagnostic) may range =
      some_fields (clear h cause diagnostic) g.facilities g.user
      (λ k same. record { channel = may ∙ ap (λ n. Some n) (sym same); own = []; of_own = no_field; facilities = refl; user = refl })
  told_brings p may range = tt

  form_brings : (p : PlainPacket) → IsWithoutD p → MayGoOn g channel p → IsReadable cfg.wide cfg.long_data p
      → AreSomeOf IsGiven (brought_by cfg (write g (spelling_of p))) gave
  form_brings p without may r = by (packet_of 128 o) refl
    where
      o : List ℕ
      o = write g (spelling_of p)

      is_written : o ≡ written g p
      is_written = laws.given_written g p (in_range laws cfg p r) r.octets

      reads : read_by cfg o ≡ Ok p
      reads = ap (λ b. read_in b (longest_user cfg.long_data) o) wide ∙ (laws.given_read cfg.wide cfg.long_data g p allowed octets r).reads

      err_ok : {A : Type 0} (e : PacketError) → Err e ≡ Ok p → A
      err_ok e is = absurd (cc)

      brings : (beside : PlainBeside) → beside_in cfg.wide o ≡ beside → AreSomeOf IsGiven (brought_as (Ok p) beside) gave
          → AreSomeOf IsGiven (brought_by cfg o) gave
      brings beside is h = rw (ap₂ brought_as reads is) h

      by : (read : Result PlainPacket PacketError) → packet_of 128 o ≡ read → AreSomeOf IsGiven (brought_by cfg o) gave
      by (Ok u) is = brings nothing (ap (λ b. beside_in b o) wide ∙ ap (λ read. unless_written read (beside_or_none (form_in 128 o))) is) tt
      by (Err e) is = brings (told g p)
          (ap (λ b. beside_in b o) wide ∙ ap (λ os. beside_in true os) is_written
          ∙ laws.given_told g p allowed (in_range laws cfg p r)
          (subst AreOctets is_written (laws.given_read cfg.wide cfg.long_data g p allowed octets r).octets)
          (λ same. err_ok e (sym is ∙ ap (λ os. packet_of 128 os) (is_written ∙ same) ∙ read_plain laws cfg p without r)))
          (told_brings p may (in_range laws cfg p r))

  with_brings : (p : PlainPacket) → MayGoOn g channel p → IsReadable cfg.wide cfg.long_data p
      → AreSomeOf IsGiven (brought_by cfg (write g (spelling_of p))) gave
  with_brings (user_data h marks m ps pr user) may r =
      let p = user_data h marks m ps pr user in
      subst (λ l. AreSomeOf IsGiven l gave)
      (sym (ap (brought_by cfg) (laws.given_written g p (in_range laws cfg p r) r.octets) ∙ plain_brings laws cfg p r)) tt
  with_brings p may r = form_brings p tt may r

  pub spelled_with_bring : (packets : List PlainPacket) → FirstMayGo g channel packets → AreReadable cfg.wide cfg.long_data packets
      → AreSomeOf IsGiven (brought cfg (spelled_with g packets)) gave
  spelled_with_bring [] may h = tt
  spelled_with_bring (p ∷ packets) may h =
      rw (spelled_bring laws cfg packets h.1)
      (subst (λ l. AreSomeOf IsGiven l gave) (sym (append-nil (brought_by cfg (write g (spelling_of p))))) (with_brings p may h.0))

-- ---- the layer puts the packet of such a command first

abbrev OwnMayGo : PlainGiven → Option ℕ → Option PlainPacket → Type 0
OwnMayGo g channel None = ⊥
OwnMayGo g channel (Some p) = MayGoOn g channel p

abbrev PutsOwn : PlainGiven → Option ℕ → LayerOutcome → Type 0
PutsOwn g channel (Accepted next packet) = OwnMayGo g channel packet
PutsOwn g channel (Declined error) = Unit {0}

if_room : (g : PlainGiven) (channel : Option ℕ) (full : Bool) (o : LayerOutcome) → PutsOwn g channel o → PutsOwn g channel (where_room full o)
if_room g channel true o h = tt
if_room g channel false o h = h

if_own : (g : PlainGiven) (channel : Option ℕ) (b : Bool) (o : LayerOutcome) (e : LayerError) → PutsOwn g channel o
    → PutsOwn g channel (if b then o else Declined e)
if_own g channel true o e h = h
if_own g channel false o e h = tt

module _ (c : LayerSettings) (g : PlainGiven) (restarts : ℕ) (circuits : ℕ → Circuit) (h : ℕ) where
  abbrev on_h : circuit.Outcome → LayerOutcome
  on_h o = outcome_on restarts circuits h o

  accepts_own : (answer : Option Proposal) → PutsOwn g (Some h) (on_h (circuit.outcome c.circuit (circuits h) (circuit.Accepts answer)))
  accepts_own answer = by (circuits h).state
    where
      if_may : (b : Bool) (p : Proposal) → PutsOwn g (Some h)
          (on_h (if b then circuit.does (circuits h) Open p.params false (accept 1 (field_for (circuits h).params p)) else circuit.Refused BadParameter))
      if_may true p = refl
      if_may false p = tt

      with_answer : (a : Option Proposal) → PutsOwn g (Some h) (on_h (circuit.accept_with (circuits h) a))
      with_answer None = refl
      with_answer (Some p) = if_may (may_answer (circuits h).params p.params) p

      by : (s : State) → PutsOwn g (Some h) (on_h (circuit.accept_in (circuits h) s answer))
      by Arriving = with_answer answer
      by s = tt

  clears_own : (cause diagnostic : ℕ) → PutsOwn g (Some h) (on_h (circuit.outcome c.circuit (circuits h) (circuit.Clears cause diagnostic)))
  clears_own cause diagnostic = by (circuits h).state
    where
      if_may : (b : Bool) → PutsOwn g (Some h)
          (on_h (if b then circuit.does (circuits h) Clearing default_params false (clear 1 cause diagnostic) else circuit.Refused BadParameter))
      if_may true = refl
      if_may false = tt

      by : (s : State) → PutsOwn g (Some h) (on_h (circuit.clear_in c.circuit (circuits h) s cause diagnostic))
      by Free = tt
      by Clearing = tt
      by s = if_may (may_clear_for c.circuit.role cause)

  calls_own : (called calling user : List ℕ) (proposal : Proposal) → g.user ≡ []
      → PutsOwn g (Some h) (on_h (circuit.outcome c.circuit (circuits h) (circuit.Calls called calling user proposal)))
  calls_own called calling user proposal none = by (circuits h).state
    where
      if_may : (b : Bool) → PutsOwn g (Some h)
          (on_h (if b then circuit.does (circuits h) Calling proposal.params true (circuit.call_sent called calling user proposal)
          else circuit.Refused BadParameter))
      if_may true = (refl, none)
      if_may false = tt

      by : (s : State) → PutsOwn g (Some h) (on_h (circuit.call_in c.circuit (circuits h) s called calling user proposal))
      by Free = if_may (circuit.may_call c.circuit.long_data called calling user proposal.params)
      by s = tt

none_long : (xs : List ℕ) → (length xs == 0) ≡ true → xs ≡ []
none_long [] e = refl
none_long (x ∷ xs) e = let is = eqb-true (length (x ∷ xs)) 0 e in absurd (omega (arith, is))

puts_own : (c : LayerSettings) (g : PlainGiven) (l : Layer) (full : Bool) (request : LayerRequest) → suits g request ≡ true
    → PutsOwn g (channel_for c l request) (layer_outcome c full l request)
puts_own c g l full request is = by l.restarting
  where
    ready : (request : LayerRequest) → suits g request ≡ true → PutsOwn g (channel_for c l request) (outcome_in c full false l.restarts l.circuits request)
    ready (Asks h (circuit.Accepts answer)) is =
        if_own g (Some h) (is_channel c.channels h) _ NoSuchChannel (if_room g (Some h) full _ (accepts_own c g l.restarts l.circuits h answer))
    ready (Asks h (circuit.Clears cause diagnostic)) is =
        if_own g (Some h) (is_channel c.channels h) _ NoSuchChannel (if_room g (Some h) full _ (clears_own c g l.restarts l.circuits h cause diagnostic))
    ready (Dials called calling user proposal) is = free (free_channel c.circuit.role l.circuits c.channels)
      where
        free : (o : Option ℕ) → PutsOwn g o (dialled c full l.restarts l.circuits o called calling user proposal)
        free None = tt
        free (Some h) = if_room g (Some h) full _ (calls_own c g l.restarts l.circuits h called calling user proposal (none_long g.user is))
    ready request is = true_false (sym is)

    by : (restarting : Bool) → PutsOwn g (channel_for c l request) (outcome_in c full restarting l.restarts l.circuits request)
    by true = tt
    by false = ready request is

-- what is said in full is of the same channel
pub said_channel : (c : LayerSettings) (l : Layer) (says : Bool) (request : LayerRequest) → channel_for c l (said_by says l request) ≡ channel_for c l request
said_channel c l says (Asks h request) = refl
said_channel c l says request = refl

-- ---- and behind it what waits

pulls_put : (c : LayerSettings) (w : layer.TwoLayers) (channels : List ℕ) → (rest : List PlainPacket)
    × ((moves_all c w (pulls_of channels)).near.given ≡ w.near.given ++ rest)
pulls_put c w [] = ([], sym (append-nil w.near.given))
pulls_put c w (h ∷ channels) =
    let one = first w.near.is_out (is_channel c.channels h) in
    let others = pulls_put c (layer.moves c w (layer.Pulls h)) channels in (
      one.0 ++ others.0,
      others.1 ∙ ap (λ l. l ++ others.0) one.1 ∙ append_assoc w.near.given one.0 others.0,
    )
  where
    none : (rest : List PlainPacket) × (w.near.given ≡ w.near.given ++ rest)
    none = ([], sym (append-nil w.near.given))

    if_channel : (b : Bool) → (rest : List PlainPacket) × ((if b then pulled_in w (layer_pulled c w.near.layer h) else w).near.given ≡ w.near.given ++ rest)
    if_channel true = (option_to_list (layer_pulled c w.near.layer h).packet, refl)
    if_channel false = none

    first : (gone b : Bool) → (rest : List PlainPacket) × ((moves_in c w gone (layer.Pulls h)).near.given ≡ w.near.given ++ rest)
    first true b = none
    first false b = if_channel (is_channel c.channels h)

-- an accepted command puts its own packet first
pub own_goes_first : (c : LayerSettings) (g : PlainGiven) (e : layer.End) (full : Bool) (request : LayerRequest) (channels : List ℕ)
    (packets : List PlainPacket) → e.is_out ≡ false → suits g request ≡ true
    → (next : Layer) (own : Option PlainPacket) → layer_outcome c full e.layer request ≡ Accepted next own
    → (moves_all c (alone e []) (layer.Requests full request ∷ pulls_of channels)).near.given ≡ e.given ++ packets
    → FirstMayGo g (channel_for c e.layer request) packets
own_goes_first c g e full request channels packets out suit next own accepted given =
    by own (subst (PutsOwn g (channel_for c e.layer request)) accepted (puts_own c g e.layer full request suit)) put
  where
    asked : layer.TwoLayers
    asked = layer.moves c (alone e []) (layer.Requests full request)

    asked_given : asked.near.given ≡ e.given ++ option_to_list own
    asked_given = ap (λ gone. (moves_in c (alone e []) gone (layer.Requests full request)).near.given) out
        ∙ ap (λ o. (requested c (alone e []) request o).near.given) accepted

    rest : (rest : List PlainPacket) × ((moves_all c asked (pulls_of channels)).near.given ≡ asked.near.given ++ rest)
    rest = pulls_put c asked channels

    put : packets ≡ option_to_list own ++ rest.0
    put = append_cancel_left e.given packets (option_to_list own ++ rest.0)
        (sym given ∙ rest.1 ∙ ap (λ l. l ++ rest.0) asked_given ∙ append_assoc e.given (option_to_list own) rest.0)

    by : (o : Option PlainPacket) → OwnMayGo g (channel_for c e.layer request) o → packets ≡ option_to_list o ++ rest.0
        → FirstMayGo g (channel_for c e.layer request) packets
    by None may is = absurd may
    by (Some p) may is = subst (FirstMayGo g (channel_for c e.layer request)) (sym is) may
