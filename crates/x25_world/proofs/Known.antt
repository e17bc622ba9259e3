-- The settings of a world, as the laws of its links want them.
use Rattle.x25_world.proofs.Names.{◌≡◌, ◌≤◌, Bool, true, false, ◌&&◌, nat_le, if◌then◌else◌, Option, Some, None, refl, and_parts, leb-true, Cfg, StationError}
use Rattle.x25_world.proofs.Names.{config_refusal}
use Rattle.x25_layer.specs.Ranges.{is_number, are_ranges}
use Rattle.x25_station.specs.declared.error.StationError.TheVariants as error

-- ---- the settings

-- true isn't false
pub true_false : {A : Type 0} → true ≡ false → A
true_false e = absurd (cc)

-- k is 1 to 7, and there are 1 to 4,095 channels
pub record IsConfigured (cfg : Cfg) : Type 0 where
  pub low : 1 ≤ cfg.k
  pub high : cfg.k ≤ 7
  pub channels : cfg.channels.count ≤ 4095

abbrev all_fine : Cfg → Bool
all_fine cfg = nat_le 1 cfg.k && (nat_le cfg.k 7 && (nat_le 1 cfg.n2 && are_ranges cfg.channels))

abbrev refused_unless : Bool → Option StationError
refused_unless b = if b then None else Some error.BadConfig

-- settings that aren't refused are in range
pub is_configured : (cfg : Cfg) → config_refusal cfg ≡ None → IsConfigured cfg
is_configured cfg fine = found (all_fine cfg) refl fine
  where
    found : (b : Bool) → all_fine cfg ≡ b → refused_unless b ≡ None → IsConfigured cfg
    found false is fine = absurd (cc)
    found true is fine =
        let p = and_parts _ _ is in
        let q = and_parts _ _ p.1 in
        let r = and_parts _ _ q.1 in
        let s = and_parts (is_number 4095 cfg.channels.count) _ r.1 in
        let t = and_parts (nat_le 1 cfg.channels.count) _ s.0 in
        record { low = leb-true 1 cfg.k p.0; high = leb-true cfg.k 7 q.0; channels = leb-true cfg.channels.count 4095 t.1 }
