use Rattle.x25_layer.proofs.Names.{rules, ℕ, ◌≡◌, ◌<◌, ◌∙◌, All, Bool, IfOk, is_some, refl, sym, ap, arith, plain_read, LayerSettings, Layer, LayerAnswer}
use Rattle.x25_layer.proofs.Names.{answer_to, hears_on, spelled, FitsLayer, plain, HasChannel, longest_user, read_in}
use Rattle.std.proofs.lemmas.List.Elements.{All-from_get_or}
use Rattle.x25_layer.proofs.{CallLemmas.{layer_same}, HearLemmas.{fits_as, hears_none, hears_read, heard_from}}
use Rattle.x25_layer.{proofs.layer.Layer.hear.Goals.{in_default-read-via-in-Ok+in_default, in_default-read-via-in_default}, specs.Receiving.{layer_hears}}
use Rattle.x25_layer.proofs.layer.Layer.hear.Goals as goal

-- ---- fewer than three octets

pub returns-in_default : goal.returns-in_default
returns-in_default c =
    let none = λ (s : LayerSettings) (l : Layer). sym
    (hears_none (is_some c.args.form.now) (longest_user s.circuit.long_data) s l c.args.octets.now (sym c.channel.ensures ∙ c.in_default.is)) in
    record {
      layer = λ s l fits. fits_as s _ l _ (ap (λ (a : LayerAnswer). a.next) (none s l))
          (layer_same s c.args.self.now _ l (record { role = refl; long_data = refl; ranges = refl; restarting = refl; restarts = refl }) refl fits);
      put = λ s l fits. c.clear.ensures ∙ ap (λ (a : LayerAnswer). spelled a.owed) (none s l);
      told = λ s l fits. ap (λ (a : LayerAnswer). a.notices) (none s l);
      nothing = search rules;
      short = search rules;
      kept = search rules;
    }

-- ---- a packet of a channel, or octets that spell none

bytes : (c : goal.After-hear_on) → All (λ octet. octet < 256) c.args.octets.now
bytes c = All-from_get_or (λ octet. octet < 256) c.args.octets.now 0 (λ i low. omega (arith, c.type_inv.octets i))

-- what was read is of a channel
of : (c : goal.After-hear_on) → IfOk c.read-read.result (λ packet. HasChannel (plain packet))
of c = elim c.in_default-read.branch [
  | in_default-read-via-in-Ok+in_default w ↦ search rules
  | in_default-read-via-in_default w ↦ search rules
]

pub hear_on-requires-clause-kind : goal.hear_on-requires-clause-kind
hear_on-requires-clause-kind c = elim c.in_default-read.branch [
  | in_default-read-via-in-Ok+in_default w ↦ search rules
  | in_default-read-via-in_default w ↦ search rules
]

same : (c : goal.After-hear_on) (s : LayerSettings) (l : Layer) → FitsLayer s c.args.self.now l
    → hears_on s l l.restarting c.in-Some.channel (plain_read c.read-read.result) ≡ layer_hears s (is_some c.args.form.now) l c.args.octets.now
same c s l fits =
    sym (hears_read c.taking_keeps_octets.ensures.channel (is_some c.args.form.now) c.longest_user.result s l c.args.octets.now c.in-Some.channel
    c.read-read.result (bytes c) c.read-read.ensures (of c) (sym c.channel.ensures ∙ c.in-Some.is))
    ∙ ap (λ (most : ℕ). answer_to s l c.args.octets.now (read_in (is_some c.args.form.now) most c.args.octets.now)) c.longest_user.ensures.value
    ∙ ap (λ (b : Bool). answer_to s l c.args.octets.now (read_in (is_some c.args.form.now) (longest_user b) c.args.octets.now)) fits.long_data

pub returns-in_default-read : goal.returns-in_default-read
returns-in_default-read c = heard_from c.args.self.now _ c.hear_on.new.self c.hear_on.result
    _ _ _ _ (λ s l fits. layer_same s c.args.self.now _ l (record { role = refl; long_data = refl; ranges = refl; restarting = refl; restarts = refl }) refl
    fits) (λ s l fits. same c s l fits) c.hear_on.ensures
