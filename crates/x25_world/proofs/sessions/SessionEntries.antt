-- What entries that an end's step adds say of its sessions, and of whom they meet.
use Rattle.x25_station.specs.Entry.{disconnected}
use Rattle.x25_world.proofs.Names.{◌≡◌, ℕ, zero, suc, ◌+◌, ◌≤◌, ◌==◌, List, [], ◌∷◌, ◌++◌, inl, Bool, true, false, if◌then◌else◌, Option, Some, None, Ok, refl}
use Rattle.x25_world.proofs.Names.{sym, ap, ap₂, ◌∙◌, subst, append_assoc, append-nil, arith, eqb-true, cond_both, Name, both, same_name, Role, Dte, Dce}
use Rattle.x25_world.proofs.Names.{PlainPacket, restart, restart_conf, channel_of, Answer, answers, LayerSettings, Layer, LayerNotice, is_channel, answers_on}
use Rattle.x25_world.proofs.Names.{drops, answers_in, layer_answers, LayerRequest, Dials, Restarts, PullsAll, LayerOutcome, Accepted, Entry, name_of}
use Rattle.x25_world.proofs.Names.{entries_asked, BeginsRestarted, confirmed, PlainBeside, nothing, fields, beside_in, Cfg, Settings, settings_from}
use Rattle.x25_world.proofs.Names.{layer_settings, Station, StationEntry, connect_asked, disconnect_asked, relink_asked, link_up, link_down, entries_noted}
use Rattle.x25_world.proofs.Names.{layer_entries, layer_notices, follows, AtEnd, entered, Came, came_in, confirmed_in, Each, entry_of_end, entries_at, Progress}
use Rattle.x25_world.proofs.Names.{none_begun, after_entry, after_entries, is_in, entry_if, session_from, first_of, met_by, meets, other, LinkStep, IsQuiet}
use Rattle.x25_circuit.specs.Notice.{PlainNotice}
use Rattle.x25_layer.specs.{Calls.{Asks, Declined}, Layer.{on_channel, restarted, restart_done, layer_fault, notices_on}, Receiving.{answer_to}}
use Rattle.x25_layer.specs.laws.Transcript.{Said, Asked, Told}
use Rattle.x25_station.specs.{Beside.{diagnosed}, Confirming.{named_by}}
use Rattle.x25_station.specs.Entry.{bringing, entries_beside, entries_behind, of_channels, station_told, notice_of, of_channel, restart_asked, was_restarted}
use Rattle.x25_station.specs.Entry.{restart_confirmed, at_fault, came_beside, was_diagnosed, was_confirmed, may_bring}
use Rattle.x25_station.specs.Step.{entries_of_outcome, layer_answer, confirmed_by, entries_of_packet, entries_heard}
use Rattle.x25_world.proofs.Growing.{read_by}
use Rattle.x25_world.proofs.sessions.{SessionBeside.{brought_as, brought_by, brought, AreTold}, SessionCounts.{counted_at, CountNone}}
use Rattle.x25_world.specs.laws.Sessions.{met_at, meets_from}

-- ---- one behind the other

pub after_append : (p : Progress) (xs ys : List StationEntry) → after_entries p (xs ++ ys) ≡ after_entries (after_entries p xs) ys
after_append p [] ys = refl
after_append p (x ∷ xs) ys = after_append (after_entry p x) xs ys

pub session_append : (n : ℕ) (p : Progress) (xs ys : List StationEntry) → session_from n p (xs ++ ys) ≡ session_from n p xs
    ++ session_from n (after_entries p xs) ys
session_append n p [] ys = refl
session_append n p (x ∷ xs) ys =
    let q = after_entry p x in
    ap (λ l. entry_if (is_in n q) x ++ l) (session_append n q xs ys)
    ∙ sym (append_assoc (entry_if (is_in n q) x) (session_from n q xs) (session_from n (after_entries q xs) ys))

first_assoc : (a b c : Option ℕ) → first_of a (first_of b c) ≡ first_of (first_of a b) c
first_assoc None b c = refl
first_assoc (Some m) b c = refl

met_append : (end : Role) (n : ℕ) (here there : Progress) (xs ys : List AtEnd)
    → meets_from end n here there (xs ++ ys)
    ≡ first_of (meets_from end n here there xs)
    (meets_from end n (after_entries here (entries_at end xs)) (after_entries there (entries_at (other end) xs)) ys)
met_append end n here there [] ys = refl
met_append end n here there (x ∷ xs) ys =
    let own = entry_of_end end x.at x.entry in
    let others = entry_of_end (other end) x.at x.entry in
    let h = after_entries here own in
    let t = after_entries there others in
    ap (λ o. first_of (met_by n here there own) o) (met_append end n h t xs ys)
    ∙ first_assoc (met_by n here there own) (meets_from end n h t xs)
    (meets_from end n (after_entries h (entries_at end xs)) (after_entries t (entries_at (other end) xs)) ys)
    ∙ ap₂ (λ p q. first_of (first_of (met_by n here there own) (meets_from end n h t xs)) (meets_from end n p q ys))
    (sym (after_append here own (entries_at end xs)))
    (sym (after_append there others (entries_at (other end) xs)))

first_none : (a : Option ℕ) → first_of a None ≡ a
first_none None = refl
first_none (Some m) = refl

one_met : (n : ℕ) (here there : Progress) (e : StationEntry) → met_by n here there (e ∷ []) ≡ met_at n here there e
one_met n here there e = first_none (met_at n here there e)

-- entries of the end itself

met_entered : (end : Role) (n : ℕ) (here there : Progress) (entries : List StationEntry) → meets_from end n here there (entered end entries)
    ≡ met_by n here there entries
met_entered end n here there [] = refl
met_entered Dte n here there (e ∷ entries) = ap₂ (λ a b. first_of a b) (one_met n here there e) (met_entered Dte n (after_entry here e) there entries)
met_entered Dce n here there (e ∷ entries) = ap₂ (λ a b. first_of a b) (one_met n here there e) (met_entered Dce n (after_entry here e) there entries)

none_entered : (end : Role) (n : ℕ) (here there : Progress) (entries : List StationEntry) → meets_from (other end) n here there (entered end entries) ≡ None
none_entered end n here there [] = refl
none_entered Dte n here there (e ∷ entries) = none_entered Dte n here (after_entry there e) entries
none_entered Dce n here there (e ∷ entries) = none_entered Dce n here (after_entry there e) entries

pub meets_more : (end : Role) (n : ℕ) (transcript : List AtEnd) (entries : List StationEntry)
    → meets end n (transcript ++ entered end entries)
    ≡ first_of (meets end n transcript) (met_by n (after_entries none_begun (entries_at end transcript))
    (after_entries none_begun (entries_at (other end) transcript)) entries)
meets_more end n transcript entries =
    met_append end n none_begun none_begun transcript (entered end entries)
    ∙ ap (λ o. first_of (meets end n transcript) o)
    (met_entered end n (after_entries none_begun (entries_at end transcript)) (after_entries none_begun (entries_at (other end) transcript)) entries)

-- entries of the other end
pub meets_other : (end : Role) (n : ℕ) (transcript : List AtEnd) (entries : List StationEntry) → meets (other end) n (transcript ++ entered end entries)
    ≡ meets (other end) n transcript
meets_other end n transcript entries =
    met_append (other end) n none_begun none_begun transcript (entered end entries)
    ∙ ap (λ o. first_of (meets (other end) n transcript) o)
    (none_entered end n (after_entries none_begun (entries_at (other end) transcript)) (after_entries none_begun (entries_at (other (other end)) transcript))
    entries)
    ∙ first_none (meets (other end) n transcript)

-- ---- whether they tell of a restart by the other end

something : {A : Type 0} {B : Type 0} (x : B) (xs : List B) → x ∷ xs ≡ [] → A
something x xs e = absurd (cc)

pub none_met : (n : ℕ) (here there : Progress) (entries : List StationEntry) → layer_notices entries ≡ [] → met_by n here there entries ≡ None
none_met n here there [] none = refl
none_met n here there (of_channel e ∷ entries) none = none_met n here there entries (by e.said none)
  where
    by : (said : Said) → notice_of e.channel said ++ layer_notices entries ≡ [] → layer_notices entries ≡ []
    by (Asked request) none = none
    by (Told notice) none = something (on_channel e.channel notice) (layer_notices entries) none
none_met n here there (link_up ∷ entries) none = none_met n (after_entry here link_up) there entries none
none_met n here there (link_down reason ∷ entries) none = none_met n (after_entry here (link_down reason)) there entries none
none_met n here there (was_restarted cause diagnostic ∷ entries) none = something (restarted cause diagnostic) (layer_notices entries) none
none_met n here there (restart_confirmed ∷ entries) none = something restart_done (layer_notices entries) none
none_met n here there (at_fault diagnostic ∷ entries) none = something (layer_fault diagnostic) (layer_notices entries) none
none_met n here there (other ∷ entries) none = none_met n here there entries none

-- ---- entries that aren't the link's

abbrev pub IsPlain : StationEntry → Type 0
IsPlain link_up = ⊥
IsPlain (link_down reason) = ⊥
IsPlain entry = Unit {0}

-- none of these is LinkUp or LinkDown
abbrev pub ArePlain : List StationEntry → Type 0
ArePlain entries = Each IsPlain entries

plain_after : (p : Progress) (e : StationEntry) → IsPlain e → after_entry p e ≡ p
plain_after p link_up h = absurd h
plain_after p (link_down reason) h = absurd h
plain_after p e h = refl

pub plain_progress : (p : Progress) (entries : List StationEntry) → ArePlain entries → after_entries p entries ≡ p
plain_progress p [] h = refl
plain_progress p (e ∷ entries) h = ap (λ q. after_entries q entries) (plain_after p e h.0) ∙ plain_progress p entries h.1

-- they are of the session that stands
pub plain_here : (n : ℕ) (p : Progress) (entries : List StationEntry) → ArePlain entries → is_in n p ≡ true → session_from n p entries ≡ entries
plain_here n p [] h here = refl
plain_here n p (e ∷ entries) h here =
    ap (λ q. entry_if (is_in n q) e ++ session_from n q entries) (plain_after p e h.0) ∙ ap₂ (λ b l. entry_if b e ++ l) here (plain_here n p entries h.1 here)

pub plain_elsewhere : (n : ℕ) (p : Progress) (entries : List StationEntry) → ArePlain entries → is_in n p ≡ false → session_from n p entries ≡ []
plain_elsewhere n p [] h out = refl
plain_elsewhere n p (e ∷ entries) h out =
    ap (λ q. entry_if (is_in n q) e ++ session_from n q entries) (plain_after p e h.0)
    ∙ ap₂ (λ b l. entry_if b e ++ l) out (plain_elsewhere n p entries h.1 out)

-- where the first notice is a restart by the other end, its latest session is met
pub restart_met : (n : ℕ) (here there : Progress) (entries : List StationEntry) → ArePlain entries → is_in n here ≡ true
    → BeginsRestarted (layer_notices entries) → met_by n here there entries ≡ Some there.begun
restart_met n here there [] plain is begins = absurd begins
restart_met n here there (of_channel e ∷ entries) plain is begins = restart_met n here there entries plain.1 is (by e.said begins)
  where
    by : (said : Said) → BeginsRestarted (notice_of e.channel said ++ layer_notices entries) → BeginsRestarted (layer_notices entries)
    by (Asked request) begins = begins
    by (Told notice) begins = absurd begins
restart_met n here there (link_up ∷ entries) plain is begins = absurd plain.0
restart_met n here there (link_down reason ∷ entries) plain is begins = absurd plain.0
restart_met n here there (was_restarted cause diagnostic ∷ entries) plain is begins =
    ap (λ b. first_of (if b then Some there.begun else None) (met_by n here there entries)) is
restart_met n here there (restart_confirmed ∷ entries) plain is begins = absurd begins
restart_met n here there (at_fault diagnostic ∷ entries) plain is begins = absurd begins
restart_met n here there (other ∷ entries) plain is begins = restart_met n here there entries plain.1 is begins

-- in a session that doesn't stand none is met
pub elsewhere_met : (n : ℕ) (here there : Progress) (entries : List StationEntry) → ArePlain entries → is_in n here ≡ false → met_by n here there entries ≡ None
elsewhere_met n here there [] plain out = refl
elsewhere_met n here there (e ∷ entries) plain out =
    ap₂ (λ a b. first_of a b) (at_one e plain.0)
    (ap (λ p. met_by n p there entries) (plain_after here e plain.0) ∙ elsewhere_met n here there entries plain.1 out)
  where
    at_one : (e : StationEntry) → IsPlain e → met_at n here there e ≡ None
    at_one (of_channel e) h = refl
    at_one (restart_asked cause diagnostic) h = refl
    at_one connect_asked h = refl
    at_one disconnect_asked h = refl
    at_one relink_asked h = refl
    at_one link_up h = refl
    at_one (link_down reason) h = refl
    at_one (disconnected ending) h = refl
    at_one (was_restarted cause diagnostic) h = ap (λ b. if b then Some there.begun else None) out
    at_one restart_confirmed h = refl
    at_one (at_fault diagnostic) h = refl
    at_one (came_beside channel facilities user) h = refl
    at_one (was_diagnosed diagnostic) h = refl
    at_one (was_confirmed channel name count) h = refl

-- ---- entries of the link and of its commands

abbrev IsMute : StationEntry → Type 0
IsMute connect_asked = Unit {0}
IsMute disconnect_asked = Unit {0}
IsMute relink_asked = Unit {0}
IsMute link_up = Unit {0}
IsMute (link_down reason) = Unit {0}
IsMute (disconnected ending) = Unit {0}
IsMute entry = ⊥

-- all these are of the link or of its commands
abbrev pub AreMute : List StationEntry → Type 0
AreMute entries = Each IsMute entries

-- nothing of the layer is told
pub record TellNothing (entries : List StationEntry) : Type 0 where
  pub entered : layer_entries entries ≡ []
  pub told : layer_notices entries ≡ []
  pub beside : came_in entries ≡ []
  pub confirmed : CountNone entries

pub mute_tell : (entries : List StationEntry) → AreMute entries → TellNothing entries
mute_tell [] h = record { entered = refl; told = refl; beside = refl; confirmed = λ k name. refl }
mute_tell (e ∷ entries) h = by e h.0 (mute_tell entries h.1)
  where
    none_more : (n : ℕ) → n ≡ 0 → 0 + n ≡ 0
    none_more n none = omega (arith, none)

    by : (e : StationEntry) → IsMute e → TellNothing entries → TellNothing (e ∷ entries)
    by connect_asked is t = record { entered = t.entered; told = t.told; beside = t.beside; confirmed = λ k name. none_more _ (t.confirmed k name) }
    by disconnect_asked is t = record { entered = t.entered; told = t.told; beside = t.beside; confirmed = λ k name. none_more _ (t.confirmed k name) }
    by relink_asked is t = record { entered = t.entered; told = t.told; beside = t.beside; confirmed = λ k name. none_more _ (t.confirmed k name) }
    by link_up is t = record { entered = t.entered; told = t.told; beside = t.beside; confirmed = λ k name. none_more _ (t.confirmed k name) }
    by (link_down reason) is t = record { entered = t.entered; told = t.told; beside = t.beside; confirmed = λ k name. none_more _ (t.confirmed k name) }
    by (disconnected ending) is t = record { entered = t.entered; told = t.told; beside = t.beside; confirmed = λ k name. none_more _ (t.confirmed k name) }
    by e is t = absurd is

-- of these, those of a session
pub mute_in : (n : ℕ) (p : Progress) (entries : List StationEntry) → AreMute entries → AreMute (session_from n p entries)
mute_in n p [] h = tt
mute_in n p (e ∷ entries) h =
    let rest = mute_in n (after_entry p e) entries h.1 in
    cond_both (is_in n (after_entry p e)) (e ∷ []) [] (λ es. AreMute (es ++ session_from n (after_entry p e) entries)) (λ _. (h.0, rest)) (λ _. rest)

-- ---- those of a step that notes nothing are such

-- what is so of the entries of a command of a user: they are of channels, or one of its RESTART
outcome_all : (P : List StationEntry → Type 0) → P [] → ((e : Entry) (es : List StationEntry) → P es → P (of_channel e ∷ es))
    → ((cause diagnostic : ℕ) → P (restart_asked cause diagnostic ∷ []))
    → (c : LayerSettings) (l : Layer) (request : LayerRequest) (o : LayerOutcome) → P (entries_of_outcome c l request o)
outcome_all P none more one c l request (Declined e) = none
outcome_all P none more one c l request (Accepted next packet) = by request
  where
    channels : (es : List Entry) → P (of_channels es)
    channels [] = none
    channels (e ∷ es) = more e (of_channels es) (channels es)

    by : (request : LayerRequest) → P (entries_of_outcome c l request (Accepted next packet))
    by (Asks h request) = channels (entries_asked c l next (Asks h request))
    by (Dials called calling user params) = channels (entries_asked c l next (Dials called calling user params))
    by (Restarts cause diagnostic) = one cause diagnostic
    by PullsAll = none

-- a request tells neither LinkUp nor LinkDown
pub outcome_plain : (c : LayerSettings) (l : Layer) (request : LayerRequest) (o : LayerOutcome) → ArePlain (entries_of_outcome c l request o)
outcome_plain = outcome_all ArePlain tt (λ e es rest. (tt, rest)) (λ cause diagnostic. (tt, tt))

-- it tells nothing of what came beside, and of no confirmation
pub outcome_beside : (c : LayerSettings) (l : Layer) (request : LayerRequest) (o : LayerOutcome) → came_in (entries_of_outcome c l request o) ≡ []
outcome_beside = outcome_all (λ es. came_in es ≡ []) refl (λ e es rest. rest) (λ cause diagnostic. refl)

pub outcome_counts : (c : LayerSettings) (l : Layer) (request : LayerRequest) (o : LayerOutcome) → CountNone (entries_of_outcome c l request o)
outcome_counts = outcome_all CountNone (λ k name. refl) (λ e es none k name. (omega (arith, none k name))) (λ cause diagnostic k name. refl)

beside_plain : (b : PlainBeside) (o : Option ℕ) → ArePlain (entries_beside b o)
beside_plain nothing o = tt
beside_plain (fields facilities user) None = tt
beside_plain (fields facilities user) (Some h) = (tt, tt)
beside_plain (diagnosed diagnostic) o = (tt, tt)

behind_plain : (l : Layer) (h count : ℕ) (es : List StationEntry) → ArePlain es → ArePlain (entries_behind l h count es)
behind_plain l h zero es plain = plain
behind_plain l h (suc count) es plain = (tt, tt)

told_plain : (l : Layer) (notices : List LayerNotice) (es : List StationEntry) → ArePlain es → ArePlain (station_told l notices ++ es)
told_plain l [] es plain = plain
told_plain l (on_channel h notice ∷ notices) es plain = (tt, told_plain l notices es plain)
told_plain l (other ∷ notices) es plain = (tt, told_plain l notices es plain)

-- the entries of a packet that is handed up
heard_entries : (c : Settings) (s : Station) (k : LinkStep) (octets : List ℕ) → k.packet ≡ Some octets → IsQuiet k → (follows c s k).entries
    ≡ entries_of_packet (layer_settings c) c.wide s.layer octets
heard_entries c s k octets some quiet =
    ap (λ o. entries_noted k.notes ++ entries_heard (layer_settings c) c.wide s.layer o k.notes.down k.notes.up) some
    ∙ ap (λ n. entries_noted n ++ entries_heard (layer_settings c) c.wide s.layer (Some octets) n.down n.up) quiet

pub packet_plain : (c : LayerSettings) (wide : Bool) (l : Layer) (octets : List ℕ) → ArePlain (entries_of_packet c wide l octets)
packet_plain c wide l octets =
    let a = layer_answer c wide l octets in
    told_plain a.next a.notices _ (behind_plain a.next (named_by octets) (confirmed_by c wide l a.next (named_by octets))
    _ (beside_plain (beside_in wide octets) (bringing a.notices)))

pub heard_plain : (c : Settings) (s : Station) (k : LinkStep) (octets : List ℕ) → k.packet ≡ Some octets → IsQuiet k → ArePlain (follows c s k).entries
heard_plain c s k octets some quiet = subst ArePlain (sym (heard_entries c s k octets some quiet)) (packet_plain (layer_settings c) c.wide s.layer octets)

-- ---- what is confirmed

told_counts : (l : Layer) (notices : List LayerNotice) (es : List StationEntry) (k : ℕ) (name : Name) → confirmed_in k name (station_told l notices ++ es)
    ≡ confirmed_in k name es
told_counts l [] es k name = refl
told_counts l (on_channel h notice ∷ notices) es k name = omega (arith, told_counts l notices es k name)
told_counts l (other ∷ notices) es k name = omega (arith, told_counts l notices es k name)

beside_counts : (b : PlainBeside) (o : Option ℕ) → CountNone (entries_beside b o)
beside_counts nothing o = λ k name. refl
beside_counts (fields facilities user) None = λ k name. refl
beside_counts (fields facilities user) (Some h) = λ k name. refl
beside_counts (diagnosed diagnostic) o = λ k name. refl

-- what a packet confirms on its channel
behind_counts : (c : LayerSettings) (wide : Bool) (l next : Layer) (named : ℕ) (es : List StationEntry) (k : ℕ) (name : Name) → CountNone es
    → confirmed_in k name (entries_behind next named (confirmed_by c wide l next named) es) ≤ counted_at c k name l next
behind_counts c false l next named es k name none = omega (arith, none k name)
behind_counts c true l next named es k name none = by (confirmed c l next named) refl
  where
    here : (b : Bool) (m : ℕ) → confirmed c l next named ≡ suc m → (if both true b then suc m else 0) + 0 ≤ (if b then confirmed c l next named else 0)
    here true m e = omega (arith, e)
    here false m e = omega arith

    at : (b : Bool) (m : ℕ) → confirmed c l next named ≡ suc m → (k == named) ≡ b → (if both b (same_name name (name_of next named)) then suc m else 0) + 0
        ≤ counted_at c k name l next
    at true m e is =
        subst (λ j. (if both true (same_name name (name_of next named)) then suc m else 0) + 0 ≤ counted_at c j name l next) (sym (eqb-true k named is))
        (here (same_name name (name_of next named)) m e)
    at false m e is = omega arith

    by : (n : ℕ) → confirmed c l next named ≡ n → confirmed_in k name (entries_behind next named n es) ≤ counted_at c k name l next
    by zero e = omega (arith, none k name)
    by (suc m) e = at (k == named) m e refl

pub heard_confirms : (cfg : Cfg) (end : Role) (s : Station) (k : LinkStep) (octets : List ℕ) (p : PlainPacket) → k.packet ≡ Some octets → IsQuiet k
    → read_by cfg octets ≡ Ok p → (h : ℕ) (name : Name)
    → (let c = layer_settings (settings_from end cfg) in confirmed_in h name (follows (settings_from end cfg) s k).entries
    ≤ counted_at c h name s.layer (layer_answers c s.layer p).next)
heard_confirms cfg end s k octets p some quiet reads h name =
    let c = settings_from end cfg in
    let a = layer_answer (layer_settings c) c.wide s.layer octets in
    let es = entries_beside (beside_in c.wide octets) (bringing a.notices) in
    let behind = entries_behind a.next (named_by octets) (confirmed_by (layer_settings c) c.wide s.layer a.next (named_by octets)) es in
    let entries = heard_entries c s k octets some quiet in
    let answered : a ≡ layer_answers (layer_settings c) s.layer p = ap (λ r. answer_to (layer_settings c) s.layer octets r) reads in
    let is : confirmed_in h name (follows c s k).entries ≡ confirmed_in h name behind =
    ap (confirmed_in h name) entries ∙ told_counts a.next a.notices behind h name in
    let low : confirmed_in h name behind ≤ counted_at (layer_settings c) h name s.layer (layer_answers (layer_settings c) s.layer p).next =
    subst (λ x. confirmed_in h name behind ≤ counted_at (layer_settings c) h name s.layer x.next) answered
    (behind_counts (layer_settings c) c.wide s.layer a.next (named_by octets) es h name (beside_counts (beside_in c.wide octets) (bringing a.notices))) in
    omega (arith, is, low)

-- ---- what came beside a packet

told_beside : (l : Layer) (notices : List LayerNotice) (es : List StationEntry) → came_in (station_told l notices ++ es) ≡ came_in es
told_beside l [] es = refl
told_beside l (on_channel h notice ∷ notices) es = told_beside l notices es
told_beside l (other ∷ notices) es = told_beside l notices es

-- a notice is of the channel of its packet
bringing_on : (h k : ℕ) (notices : List PlainNotice) → bringing (notices_on k notices) ≡ Some h → k ≡ h
bringing_on h k [] e = absurd (cc)
bringing_on h k (notice ∷ notices) e = cond_both (may_bring notice) (Some k) (bringing (notices_on k notices)) (λ o. o ≡ Some h → k ≡ h) (λ _ first. cc)
    (λ _. bringing_on h k notices) e

answer_on : (c : LayerSettings) (l : Layer) (p : PlainPacket) (h : ℕ) → bringing (layer_answers c l p).notices ≡ Some h → channel_of p ≡ h
answer_on c l p h = by l.restarting p
  where
    none : {A : Type 0} → None ≡ Some h → A
    none e = absurd (cc)

    if_channel : (b : Bool) (k : ℕ) (a : Answer) → bringing (if b then answers_on l.restarts l.circuits k a else drops false l.restarts l.circuits).notices
        ≡ Some h → k ≡ h
    if_channel true k a e = bringing_on h k a.notices e
    if_channel false k a e = none e

    by : (restarting : Bool) (p : PlainPacket) → bringing (answers_in c restarting l.restarts l.circuits p).notices ≡ Some h → channel_of p ≡ h
    by true (restart cause diagnostic) e = none e
    by true restart_conf e = none e
    by true p e = none e
    by false (restart cause diagnostic) e = none e
    by false restart_conf e = none e
    by false p e = if_channel (is_channel c.channels (channel_of p)) (channel_of p) (answers c.circuit (l.circuits (channel_of p)) p) e

brings_told : (p : PlainPacket) (b : PlainBeside) (o : Option ℕ) → ((h : ℕ) → o ≡ Some h → channel_of p ≡ h)
    → AreTold (came_in (entries_beside b o)) (brought_as (Ok p) b)
brings_told p (fields facilities user) (Some h) is = inl (ap (λ k. record { channel = k; facilities = facilities; user = user }) (sym (is h refl)), tt)
brings_told p b o_2 is = tt

-- in the place of it may be told what the packet confirms
behind_told : (l : Layer) (h count : ℕ) (es : List StationEntry) (brought : List Came) → AreTold (came_in es) brought
    → AreTold (came_in (entries_behind l h count es)) brought
behind_told l h zero es brought told = told
behind_told l h (suc count) es brought told = tt

-- what is told of a packet that is handed up is what its octets bring, or nothing
pub heard_beside : (cfg : Cfg) (end : Role) (s : Station) (k : LinkStep) (octets : List ℕ) (p : PlainPacket) → k.packet ≡ Some octets → IsQuiet k
    → read_by cfg octets ≡ Ok p
    → AreTold (came_in (follows (settings_from end cfg) s k).entries) (brought cfg (octets ∷ []))
heard_beside cfg end s k octets p some quiet reads =
    let c = settings_from end cfg in
    let a = layer_answer (layer_settings c) c.wide s.layer octets in
    let entries = heard_entries c s k octets some quiet in
    let answered : a ≡ layer_answers (layer_settings c) s.layer p = ap (λ r. answer_to (layer_settings c) s.layer octets r) reads in
    let all : brought cfg (octets ∷ []) ≡ brought_as (Ok p) (beside_in c.wide octets) =
    append-nil (brought_by cfg octets) ∙ ap (λ r. brought_as r (beside_in c.wide octets)) reads in
    let count = confirmed_by (layer_settings c) c.wide s.layer a.next (named_by octets) in
    let es = entries_beside (beside_in c.wide octets) (bringing a.notices) in
    subst (λ xs. AreTold (came_in (follows c s k).entries) xs) (sym all)
    (rw (ap came_in entries ∙ told_beside a.next a.notices (entries_behind a.next (named_by octets) count es))
    (behind_told a.next (named_by octets) count es (brought_as (Ok p) (beside_in c.wide octets))
    (brings_told p (beside_in c.wide octets) (bringing a.notices)
    (λ h e. answer_on (layer_settings c) s.layer p h (ap (λ x. bringing x.notices) (sym answered) ∙ e)))))
