-- A switch between two lines.
use Rattle.std.proofs.Common.{◌≡◌, ℕ, ◌==◌, List, [], ◌∷◌, ◌++◌, length, drop, Bool, true, false, if◌then◌else◌, refl, sym, ap, ◌∙◌, append_assoc}
use Rattle.std.proofs.Common.{append-nil, subst}
use Rattle.std.proofs.lemmas.{Bool.{eqb-true}, List.{drop_at}}
use Rattle.x25_circuit.specs.Message.{carried}
use Rattle.x25_handshakes.specs.laws.{Names.{Name, both, same_name}, Histories.{IsPrefix}}
use Rattle.x25_layer.specs.laws.Transcript.{Entry, Handed, nothing_handed, says, under}
use Rattle.x25_layer.specs.laws.PeerClaims.{StretchIsInOrder}
use Rattle.x25_line.specs.{laws.Sessions.{Meeting}, laws.SessionClaims.{Each}}
use Rattle.x25_station.specs.{Config.{Settings}, Entry.{StationEntry, in_layer, layer_entries}, Step.{Step, link_receives, receives}}
use Rattle.x25_peer.specs.laws.BesideSessions.{Own, BesideSessions, in_session, own_after, StationDoes, Elsewhere, ReachedBeside}
use Rattle.x25_line.specs.laws.Sessions.{begun_by}
use Rattle.x25_peer.specs.laws.BesideSessions.{at_start, here, elsewhere, Asks, AsksWith, Connects, Disconnects, Probes, Relinks, Fires, Takes, Loses}
use Rattle.x25_peer.specs.laws.BesideSessions.{Links, Comes, LayerMoves}
use Rattle.x25_peer.specs.laws.BesideSessionClaims.{WithAnyPeer, MetAreInOrder, IsInOrder}
use Rattle.x25_switched.specs.laws.Switched.{Leg, Bond, Switched, handed_in, messages_up, messages_down, interrupts_up, interrupts_down, waiting}
use Rattle.x25_switched.specs.laws.Switched.{Goes, Here, There, HandsOn, Nothing, Next, Happens, Near, Far, ReachedThrough, goes_on}
use Rattle.x25_switched.specs.laws.Switched as switched
use Rattle.x25_switched.specs.laws.SwitchClaims.{ThroughTheSwitch, CountAlike, OfEachTwo, ComesThrough, InterruptsComeThrough, NoneIsLeft, AllCameThrough}
use Rattle.x25_switched.specs.laws.SwitchClaims.{there, circuit}

-- ---- beginnings

prefix_refl : {T : Type 0} (xs : List T) → IsPrefix xs xs
prefix_refl xs = ([], append-nil xs)

prefix_trans : {T : Type 0} (xs ys zs : List T) → IsPrefix xs ys → IsPrefix ys zs → IsPrefix xs zs
prefix_trans xs ys zs a b = (a.0 ++ b.0, sym (append_assoc xs a.0 b.0) ∙ ap (λ ws. ws ++ b.0) a.1 ∙ b.1)

prefix_drop : {T : Type 0} (xs ys : List T) → IsPrefix xs ys → xs ++ drop (length xs) ys ≡ ys
prefix_drop xs ys a = ap (λ zs. xs ++ drop (length xs) zs) (sym a.1) ∙ ap (λ zs. xs ++ zs) (drop_at xs a.0 (length xs) refl) ∙ a.1

none_waits : {T : Type 0} (xs ys : List T) → IsPrefix xs ys → drop (length xs) ys ≡ [] → xs ≡ ys
none_waits xs ys a e = sym (append-nil xs) ∙ ap (λ zs. xs ++ zs) (sym e) ∙ prefix_drop xs ys a

-- ---- what is handed on is a beginning

hands_on : {T : Type 0} (up down next : List T) → HandsOn up down next → IsPrefix down up → IsPrefix next up
hands_on up down next (Nothing e) a = subst (λ xs. IsPrefix xs up) (sym e) a
hands_on up down next (Next x rest e f) a =
    (rest, ap (λ xs. xs ++ rest) f ∙ append_assoc down (x ∷ []) rest ∙ ap (λ xs. down ++ xs) (sym e) ∙ prefix_drop down up a)

-- ---- a transcript grows

layer_append : (xs ys : List StationEntry) → layer_entries (xs ++ ys) ≡ layer_entries xs ++ layer_entries ys
layer_append [] ys = refl
layer_append (x ∷ xs) ys = ap (λ es. in_layer x ++ es) (layer_append xs ys) ∙ sym (append_assoc (in_layer x) (layer_entries xs) (layer_entries ys))

-- of what each stretch has
pub record Grows (a b : Handed) : Type 0 where
  pub up : IsPrefix a.up b.up
  pub down : IsPrefix a.down b.down
  pub int_up : IsPrefix a.int_up b.int_up
  pub int_down : IsPrefix a.int_down b.int_down

more_up : (k : ℕ) (m : Name) (es fs : List Entry) → (under k m (es ++ fs)).up ≡ (under k m es).up ++ (under k m fs).up
more_up k m [] fs = refl
more_up k m (e ∷ es) fs =
    ap (λ xs. (if both (k == e.channel) (same_name m e.name) then says e.said else nothing_handed).up ++ xs) (more_up k m es fs)
    ∙ sym (append_assoc (if both (k == e.channel) (same_name m e.name) then says e.said else nothing_handed).up (under k m es).up (under k m fs).up)

more_int_up : (k : ℕ) (m : Name) (es fs : List Entry) → (under k m (es ++ fs)).int_up ≡ (under k m es).int_up ++ (under k m fs).int_up
more_int_up k m [] fs = refl
more_int_up k m (e ∷ es) fs =
    ap (λ xs. (if both (k == e.channel) (same_name m e.name) then says e.said else nothing_handed).int_up ++ xs) (more_int_up k m es fs)
    ∙ sym (append_assoc (if both (k == e.channel) (same_name m e.name) then says e.said else nothing_handed).int_up (under k m es).int_up (under k m fs).int_up)

more_down : (k : ℕ) (m : Name) (es fs : List Entry) → (under k m (es ++ fs)).down ≡ (under k m es).down ++ (under k m fs).down
more_down k m [] fs = refl
more_down k m (e ∷ es) fs =
    ap (λ xs. (if both (k == e.channel) (same_name m e.name) then says e.said else nothing_handed).down ++ xs) (more_down k m es fs)
    ∙ sym (append_assoc (if both (k == e.channel) (same_name m e.name) then says e.said else nothing_handed).down (under k m es).down (under k m fs).down)

more_int_down : (k : ℕ) (m : Name) (es fs : List Entry) → (under k m (es ++ fs)).int_down ≡ (under k m es).int_down ++ (under k m fs).int_down
more_int_down k m [] fs = refl
more_int_down k m (e ∷ es) fs =
    ap (λ xs. (if both (k == e.channel) (same_name m e.name) then says e.said else nothing_handed).int_down ++ xs) (more_int_down k m es fs)
    ∙ sym (append_assoc (if both (k == e.channel) (same_name m e.name) then says e.said else nothing_handed).int_down (under k m es).int_down (under k m fs).int_down)

grows_by : (leg : Leg) (old more : List StationEntry)
    → Grows (under leg.channel leg.name (layer_entries old)) (under leg.channel leg.name (layer_entries (old ++ more)))
grows_by leg old more = record {
  down = (
    (under leg.channel leg.name (layer_entries more)).down,
    sym (ap (λ es. (under leg.channel leg.name es).down) (layer_append old more) ∙ more_down leg.channel leg.name (layer_entries old) (layer_entries more)),
  );
  int_down = (
    (under leg.channel leg.name (layer_entries more)).int_down,
    sym (ap (λ es. (under leg.channel leg.name es).int_down) (layer_append old more) ∙ more_int_down leg.channel leg.name (layer_entries old) (layer_entries more)),
  );
  up = (
    (under leg.channel leg.name (layer_entries more)).up,
    sym (ap (λ es. (under leg.channel leg.name es).up) (layer_append old more) ∙ more_up leg.channel leg.name (layer_entries old) (layer_entries more)),
  );
  int_up = (
    (under leg.channel leg.name (layer_entries more)).int_up,
    sym (ap (λ es. (under leg.channel leg.name es).int_up) (layer_append old more) ∙ more_int_up leg.channel leg.name (layer_entries old) (layer_entries more)),
  );
}

stays : (a : Handed) → Grows a a
stays a = record {
  up = prefix_refl a.up;
  down = prefix_refl a.down;
  int_up = prefix_refl a.int_up;
  int_down = prefix_refl a.int_down;
}

in_session_grows : (b : Bool) (leg : Leg) (o : Own) (s : Step) (old : Own) → (b ≡ true → o ≡ old)
    → Grows (under leg.channel leg.name (layer_entries old.entries)) (under leg.channel leg.name (layer_entries (if b then own_after o s else old).entries))
in_session_grows true leg o s old e =
    subst (λ (x : Own). Grows (under leg.channel leg.name (layer_entries x.entries))
    (under leg.channel leg.name (layer_entries (o.entries ++ s.entries)))) (e refl)
    (grows_by leg o.entries s.entries)
in_session_grows false leg o s old e = stays (under leg.channel leg.name (layer_entries old.entries))

step_grows : (leg : Leg) (w : BesideSessions) (session : ℕ) (s : Step)
    → Grows (handed_in w leg) (under leg.channel leg.name (layer_entries (in_session session (own_after (w.own session) s) w.own leg.session).entries))
step_grows leg w session s =
    in_session_grows (leg.session == session) leg (w.own session) s (w.own leg.session) (λ e. ap w.own (sym (eqb-true leg.session session e)))

station_grows : (c : Settings) (leg : Leg) (w : BesideSessions) {v : BesideSessions} → StationDoes c w v → Grows (handed_in w leg) (handed_in v leg)
station_grows c leg w (Asks request step a b) = step_grows leg w w.begun step
station_grows c leg w (AsksWith given request step a b e) = step_grows leg w w.begun step
station_grows c leg w (Connects step a) = step_grows leg w w.begun step
station_grows c leg w (Disconnects step a) = step_grows leg w w.begun step
station_grows c leg w (Probes step a) = step_grows leg w w.begun step
station_grows c leg w (Relinks step a) = step_grows leg w w.begun step
station_grows c leg w (Fires step a b) = step_grows leg w w.begun step
station_grows c leg w (Takes e rest a) =
    step_grows leg w (begun_by (link_receives c w.near e.octets).notes.up w.begun) (receives c w.near e.octets)

elsewhere_stays : (c : Settings) (leg : Leg) (w : BesideSessions) {v : BesideSessions} → Elsewhere c w v → Grows (handed_in w leg) (handed_in v leg)
elsewhere_stays c leg w (Loses back a) = stays (handed_in w leg)
elsewhere_stays c leg w (Links v a) = stays (handed_in w leg)
elsewhere_stays c leg w (Comes p octets rest a b e) = stays (handed_in w leg)
elsewhere_stays c leg w (LayerMoves y passed packets all a b e) = stays (handed_in w leg)

pub goes_grows : (c : Settings) (leg : Leg) (w v : BesideSessions) → Goes c w v → Grows (handed_in w leg) (handed_in v leg)
goes_grows c leg w v (Here does) = station_grows c leg w does
goes_grows c leg w v (There away) = elsewhere_stays c leg w away

-- ---- each line is a station beside a peer

goes_on_at : (c : Settings) (w v : BesideSessions) → ReachedBeside c w → Goes c w v → ReachedBeside c v
goes_on_at c w v reached (Here does) = here w v reached does
goes_on_at c w v reached (There away) = elsewhere w v reached away

pub near_line : (c d : Settings) (b : Bond) {s : Switched} → ReachedThrough c d b s → ReachedBeside c s.near
near_line c d b switched.at_start = at_start
near_line c d b (goes_on s t reached (Near v goes)) = goes_on_at c s.near v (near_line c d b reached) goes
near_line c d b (goes_on s t reached (Far v goes messages interrupts)) = near_line c d b reached

pub far_line : (c d : Settings) (b : Bond) {s : Switched} → ReachedThrough c d b s → ReachedBeside d s.far
far_line c d b switched.at_start = at_start
far_line c d b (goes_on s t reached (Near v goes)) = far_line c d b reached
far_line c d b (goes_on s t reached (Far v goes messages interrupts)) = goes_on_at d s.far v (far_line c d b reached) goes

-- ---- what the switch handed down is a beginning of what was reported to it

pub record Carries (b : Bond) (s : Switched) : Type 0 where
  pub messages : IsPrefix (messages_down s.far b.far) (messages_up s.near b.near)
  pub interrupts : IsPrefix (interrupts_down s.far b.far) (interrupts_up s.near b.near)

pub carries : (c d : Settings) (b : Bond) {s : Switched} → ReachedThrough c d b s → Carries b s
carries c d b switched.at_start = record { messages = ([], refl); interrupts = ([], refl) }
carries c d b (goes_on s t reached (Near v goes)) =
    let h = carries c d b reached in
    let g = goes_grows c b.near s.near v goes in
    record {
      messages = prefix_trans (messages_down s.far b.far) (messages_up s.near b.near) (messages_up v b.near) h.messages g.up;
      interrupts = prefix_trans (interrupts_down s.far b.far) (interrupts_up s.near b.near) (interrupts_up v b.near) h.interrupts g.int_up;
    }
carries c d b (goes_on s t reached (Far v goes messages interrupts)) =
    let h = carries c d b reached in
    record {
      messages = hands_on (messages_up s.near b.near) (messages_down s.far b.far) (messages_down v b.far) messages h.messages;
      interrupts = hands_on (interrupts_up s.near b.near) (interrupts_down s.far b.far) (interrupts_down v b.far) interrupts h.interrupts;
    }

-- ---- end to end

each_map : {P Q : Meeting → Type 0} (ms : List Meeting) → ((m : Meeting) → P m → Q m) → Each P ms → Each Q ms
each_map [] f ps = tt
each_map (m ∷ ms) f ps = (f m ps.0, each_map ms f ps.1)

-- of a stretch of a line, that both ends count alike
stretch_of : (w : BesideSessions) (leg : Leg) (m : Meeting) → CountAlike w leg m → IsInOrder leg.channel (w.own m.near) (w.theirs m.far).layer
    → StretchIsInOrder leg.channel leg.name (layer_entries (w.own leg.session).entries) (circuit w leg m) (there w leg m)
stretch_of w leg m alike known =
    subst (λ (n : ℕ). StretchIsInOrder leg.channel leg.name (layer_entries (w.own n).entries) (circuit w leg m) (there w leg m)) alike.session
    (subst (λ (name : Name). StretchIsInOrder leg.channel name (layer_entries (w.own m.near).entries) (circuit w leg m) (there w leg m)) alike.own
    (known.stretch (alike.own ∙ sym alike.peer)))

-- of both lines
pub record BothInOrder (b : Bond) (s : Switched) (m n : Meeting) : Type 0 where
  pub near : StretchIsInOrder b.near.channel b.near.name (layer_entries (s.near.own b.near.session).entries) (circuit s.near b.near m) (there s.near b.near m)
  pub far : StretchIsInOrder b.far.channel b.far.name (layer_entries (s.far.own b.far.session).entries) (circuit s.far b.far n) (there s.far b.far n)

module _ (order : WithAnyPeer MetAreInOrder) where
  of_each : (Holds : Bond → Switched → Meeting → Meeting → Type 0)
      → ((b : Bond) (s : Switched) (m n : Meeting) → Carries b s → BothInOrder b s m n → Holds b s m n) → ThroughTheSwitch (OfEachTwo Holds)
  of_each Holds proof c d ac ad b s reached =
      each_map s.near.met (λ m near. each_map s.far.met (λ n far alike alike_there.
      proof b s m n (carries c d b reached) (record {
        near = stretch_of s.near b.near m alike (near b.near.channel);
        far = stretch_of s.far b.far n alike_there (far b.far.channel);
      }))
      (order d ad.some ad.few ad.channels s.far (far_line c d b reached)))
      (order c ac.some ac.few ac.channels s.near (near_line c d b reached))

  pub comes_through : ComesThrough
  comes_through = of_each (λ (b : Bond) (s : Switched) (m n : Meeting).
      IsPrefix (carried (there s.far b.far n).taken) (carried (there s.near b.near m).sent))
      (λ b s m n h both.
      prefix_trans (carried (there s.far b.far n).taken) (messages_up s.near b.near) (carried (there s.near b.near m).sent)
      (prefix_trans (carried (there s.far b.far n).taken) (messages_down s.far b.far) (messages_up s.near b.near) both.far.there h.messages)
      both.near.up)

  pub interrupts_come_through : InterruptsComeThrough
  interrupts_come_through = of_each (λ (b : Bond) (s : Switched) (m n : Meeting).
      IsPrefix (there s.far b.far n).int_up (there s.near b.near m).int_down)
      (λ b s m n h both.
      prefix_trans (there s.far b.far n).int_up (interrupts_up s.near b.near) (there s.near b.near m).int_down
      (prefix_trans (there s.far b.far n).int_up (interrupts_down s.far b.far) (interrupts_up s.near b.near) both.far.int_there h.interrupts)
      both.near.int_up)

  pub all_came_through : AllCameThrough
  all_came_through = of_each (λ (b : Bond) (s : Switched) (m n : Meeting). NoneIsLeft b s m n
      → carried (there s.far b.far n).taken ≡ carried (there s.near b.near m).sent)
      (λ b s m n h both left.
      both.far.all_there left.opened left.went left.taken
      ∙ none_waits (messages_down s.far b.far) (messages_up s.near b.near) h.messages left.waits
      ∙ both.near.all left.acknowledged)
