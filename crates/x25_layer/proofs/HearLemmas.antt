-- What octets are read as, and the channel that they name.
use Rattle.x25_layer.proofs.Names.{◌≡◌, ℕ, suc, ◌-◌, ◌<◌, ◌≤◌, ◌∙◌, List, [], ◌∷◌, length, Option, Some, None, Bool, true, false, Result, Ok, Err}
use Rattle.x25_layer.proofs.Names.{if◌then◌else◌, set, not, ◌&&◌, slice_get, get_or, refl, sym, ap, subst, arith, same_Some, PlainPacket, restart, restart_conf}
use Rattle.x25_layer.proofs.Names.{HasChannel, channel_of, is_number, LayerSettings, Layer, LayerAnswer, LayerNotice, notices_on, packet_on, answers_in}
use Rattle.x25_layer.proofs.Names.{is_channel, put_at, drops, All, IfOk, is_some, plain_read, FitsLayer, with_circuit, hears_on, answer_to, spelled, plain}
use Rattle.x25_circuit.specs.{Hearing.{hears as circuit_hears}, code.Replies.{RepliesWith, Says, plain_owed, notices_of, tells_message}}
use Rattle.x25_circuit.specs.declared.notice.{Notice.{Notice}, Reply.{Reply}}
use Rattle.x25_layer.proofs.{CallLemmas.{IsLike, configured, found_at, layer_put}, FitLemmas.{read_at}, Names.{read_in}}
use Rattle.x25_layer.specs.{Layer.{undecoded_in}, Receiving.{channel_hears, undecoded_at}, Report.{plain_report, has_message, is_of_channel}}
use Rattle.x25_layer.specs.{code.Answering.{Hears}, declared.report.Report.{Report}}
use Rattle.x25_packet.specs.{Grammar.{Gives, read_of}, Reading.{channel_in}, declared.error.PacketError.{PacketError}, declared.packet.Packet.{Packet}}
use Rattle.x25_packet.specs.laws.TakingLaw.{TakesOnItsChannel}
use Rattle.x25_layer.specs.declared.layer.Layer as code
use Rattle.x25_layer.specs.declared.report.Report.TheVariants as report
use Rattle.x25_circuit.specs.declared.circuit.Circuit as circuit_code

-- ---- what was read, by the laws of reading

-- ---- the answer of the layer, by the channel

hears_error : (c : LayerSettings) (l : Layer) (octets : List ℕ) (h : ℕ) (e : PacketError) → channel_in octets ≡ Some h → answer_to c l octets (Err e)
    ≡ hears_on c l l.restarting h (Err e)
hears_error c l octets h e at = ap (λ (o : Option ℕ). undecoded_at c l e o) at ∙ by l.restarting
  where
    by : (b : Bool) → undecoded_in c b l.restarts l.circuits h e ≡ hears_on c l b h (Err e)
    by true = refl
    by false = refl

pub ready_hears : (c : LayerSettings) (l : Layer) (v : PlainPacket) → HasChannel v → (b : Bool) → answers_in c b l.restarts l.circuits v
    ≡ hears_on c l b (channel_of v) (Ok v)
ready_hears c l (restart cause diagnostic) has b = absurd has
ready_hears c l restart_conf has b = absurd has
ready_hears c l v has true = refl
ready_hears c l v has false = refl

hears_packet : (c : LayerSettings) (l : Layer) (octets : List ℕ) (h : ℕ) (v : PlainPacket) → HasChannel v → channel_in octets ≡ Some (channel_of v)
    → channel_in octets ≡ Some h → answer_to c l octets (Ok v) ≡ hears_on c l l.restarting h (Ok v)
hears_packet c l octets h v has named at =
    let same : channel_of v ≡ h = same_Some (channel_of v) h (sym named ∙ at) in
    ready_hears c l v has l.restarting ∙ ap (λ (k : ℕ). hears_on c l l.restarting k (Ok v)) same

-- what a channel hears, by what was read
pub hears_read : TakesOnItsChannel → (wide : Bool) (most : ℕ) (c : LayerSettings) (l : Layer) (octets : List ℕ) (h : ℕ) (read : Result Packet PacketError)
    → All (λ octet. octet < 256) octets → Gives plain read (read_in wide most octets)
    → IfOk read (λ v. HasChannel (plain v)) → channel_in octets ≡ Some h → answer_to c l octets (read_in wide most octets)
    ≡ hears_on c l l.restarting h (plain_read read)
hears_read law wide most c l octets h (Ok packet) bytes exact has at =
    ap (λ (r : Result PlainPacket PacketError). answer_to c l octets r) exact
    ∙ hears_packet c l octets h (plain packet) has (law wide most (plain packet) octets bytes exact has) at
hears_read law wide most c l octets h (Err e) bytes exact has at =
    ap (λ (r : Result PlainPacket PacketError). answer_to c l octets r) exact ∙ hears_error c l octets h e at

-- what was heard, by a layer that stands for the same and by the same answer
pub heard_from : (old mid new : code.Layer) (told : Report) (before after : List ℕ) (f h : LayerSettings → Layer → LayerAnswer)
    → ((c : LayerSettings) (l : Layer) → FitsLayer c old l → FitsLayer c mid l)
    → ((c : LayerSettings) (l : Layer) → FitsLayer c old l → f c l ≡ h c l) → Hears mid new told before after f → Hears old new told before after h
heard_from old mid new told before after f h still same by = record {
  layer = λ c l fits. subst (λ (a : LayerAnswer). FitsLayer c new a.next) (same c l fits) (by.layer c l (still c l fits));
  put = λ c l fits. by.put c l (still c l fits) ∙ ap (λ (a : LayerAnswer). spelled a.owed) (same c l fits);
  told = λ c l fits. by.told c l (still c l fits) ∙ ap (λ (a : LayerAnswer). a.notices) (same c l fits);
  nothing = by.nothing;
  short = by.short;
  kept = by.kept;
}

-- a circuit that tells nothing
pub told_nothing : (message : List ℕ) (h : ℕ) (none b : Bool) (o : Option Notice) → is_some o ≡ not none → (none && not b) ≡ true
    → [] ≡ notices_on h (notices_of message b o)
told_nothing message h true false None has is = refl
told_nothing message h none b o has is = absurd (cc)

pub no_message : (none b : Bool) (o : Option Notice) → is_some o ≡ not none → (none && not b) ≡ true → tells_message o ≡ false
no_message true b None has is = refl
no_message true b (Some notice) has is = absurd (cc)
no_message false b o has is = absurd (cc)

-- and one that tells something
pub told_something : (h : ℕ) (none b : Bool) (o : Option Notice) → is_some o ≡ not none → (none && not b) ≡ false
    → notices_on h (notices_of [] b o) ≡ [] → ⊥
told_something h none true None has is empty = cc
told_something h none true (Some notice) has is empty = cc
told_something h none false (Some notice) has is empty = cc
told_something h true false None has is empty = cc
told_something h false false None has is empty = cc

-- a report of no channel is the same beside any message
pub reported_beside : (message : List ℕ) (t : Report) (told : List LayerNotice) → is_of_channel t ≡ false → plain_report [] t ≡ told
    → plain_report message t ≡ told
reported_beside message (report.Channel channel collided notice) told of same = absurd (cc)
reported_beside message t told of same = same

-- a layer fits what is equal
pub fits_as : (c : LayerSettings) (v : code.Layer) (l m : Layer) → l ≡ m → FitsLayer c v l → FitsLayer c v m
fits_as c v l m same fits = subst (λ (n : Layer). FitsLayer c v n) same fits

-- fewer than three octets are dropped
pub hears_none : (wide : Bool) (most : ℕ) (c : LayerSettings) (l : Layer) (octets : List ℕ) → channel_in octets ≡ None
    → answer_to c l octets (read_in wide most octets) ≡ drops l.restarting l.restarts l.circuits
unfolding read_of
hears_none true most c l [] none = refl
hears_none true most c l (a ∷ []) none = refl
hears_none true most c l (a ∷ b ∷ []) none = refl
hears_none false most c l [] none = refl
hears_none false most c l (a ∷ []) none = refl
hears_none false most c l (a ∷ b ∷ []) none = refl
hears_none wide most c l (a ∷ b ∷ d ∷ rest) none = absurd (cc)

-- ---- the circuit of a channel

-- a channel's circuit is read at its place
pub read_there : (vs : List circuit_code.Circuit) (h place : ℕ) (x : circuit_code.Circuit) → is_number (length vs) h ≡ true → place ≡ h → x
    ≡ get_or vs (place - 1) x → slice_get vs (place - 1) ≡ Some x
read_there vs h place x is same read =
    let within = configured (length vs) h is in
    read_at vs (place - 1) x (let e : place - 1 < length vs = omega (arith, within, same) in e) read

-- the place before a channel's number
pub place_of : (n h place : ℕ) → is_number n h ≡ true → place ≡ h → suc (place - 1) ≡ h
place_of n h place is same = let within = configured n h is in omega (arith, within, same)

pub hears_there : (c : LayerSettings) (l : Layer) (h : ℕ) (read : Result PlainPacket PacketError) → l.restarting ≡ false → is_channel c.channels h ≡ true
    → hears_on c l l.restarting h read ≡ channel_hears c l h read
hears_there c l h read ready is =
    ap (λ (b : Bool). hears_on c l b h read) ready ∙ ap (λ (b : Bool). if b then channel_hears c l h read else drops false l.restarts l.circuits) is

pub next_there : (c : LayerSettings) (l : Layer) (h : ℕ) (read : Result PlainPacket PacketError) → l.restarting ≡ false → is_channel c.channels h ≡ true
    → with_circuit l h (circuit_hears c.circuit (l.circuits h) read).next ≡ (hears_on c l l.restarting h read).next
next_there c l h read ready is =
    ap (λ (b : Bool). record { restarting = b; restarts = l.restarts; circuits = put_at l.circuits h (circuit_hears c.circuit (l.circuits h) read).next }) ready
    ∙ ap (λ (a : LayerAnswer). a.next) (sym (hears_there c l h read ready is))

-- what the circuit of a channel did is what the layer hears there
pub heard_there : (old new : code.Layer) (h place : ℕ) (v w : circuit_code.Circuit) (read : Result PlainPacket PacketError) (reply : Reply) (t : Report)
    (before after : List ℕ) → is_number (length old.circuits.items) h ≡ true → place ≡ h → v ≡ get_or old.circuits.items (place - 1) v
    → old.restarting ≡ false → IsLike old new → new.circuits.items ≡ set old.circuits.items (place - 1) w
    → RepliesWith v w reply before after (λ c x. circuit_hears c x read) → new.sheet ≡ spelled (packet_on h (plain_owed reply.packet))
    → plain_report after t ≡ notices_on h (notices_of after reply.collided reply.notice) → (plain_report [] t ≡ [] → t ≡ report.Nothing)
    → length new.sheet ≤ 260 → (has_message t ≡ false → tells_message reply.notice ≡ false)
    → Hears old new t before after (λ c l. hears_on c l l.restarting h read)
heard_there old new h place v w read reply t before after within at is idle like items by put told nothing short kept = record {
  layer = λ c l fits.
      let here = found_at c old l h place v fits within at is in
      fits_as c _ _ _ (next_there c l h read (sym fits.restarting ∙ idle) (number c l fits))
      (layer_put c old new l h (place - 1) w (circuit_hears c.circuit (l.circuits h) read).next fits here.0 like items (by.next c.circuit (l.circuits h) here.1));
  put = λ c l fits.
      put ∙ ap (λ (o : Option PlainPacket). spelled (packet_on h o)) (says c l fits).owed ∙ ap (λ (a : LayerAnswer). spelled a.owed) (there c l fits);
  told = λ c l fits. told ∙ ap (notices_on h) (says c l fits).notices ∙ ap (λ (a : LayerAnswer). a.notices) (there c l fits);
  nothing = nothing;
  short = short;
  kept = λ none. by.kept (kept none);
}
  where
    number : (c : LayerSettings) (l : Layer) → FitsLayer c old l → is_channel c.channels h ≡ true
    number c l fits = subst (λ (n : ℕ). is_number n h ≡ true) fits.channels within

    there : (c : LayerSettings) (l : Layer) → FitsLayer c old l → channel_hears c l h read ≡ hears_on c l l.restarting h read
    there c l fits = sym (hears_there c l h read (sym fits.restarting ∙ idle) (number c l fits))

    says : (c : LayerSettings) (l : Layer) → FitsLayer c old l
        → Says after reply (circuit_hears c.circuit (l.circuits h) read).owed (circuit_hears c.circuit (l.circuits h) read).notices
    says c l fits = by.says c.circuit (l.circuits h) (found_at c old l h place v fits within at is).1
