-- When no station is made for C (profile).
use Rattle.std.specs.Prelude.{ℕ, zero, suc, Option, Some, None}
use Rattle.x25_bits.specs.declared.role.Role.{Role}
use Rattle.x25_bits.specs.declared.role.Role.TheVariants.{Dte, Dce}
use Rattle.x25_station.specs.declared.config.Cfg.{Cfg}
use Rattle.x25_station.specs.declared.error.StationError.{StationError}
use Rattle.x25_station.specs.declared.error.StationError.TheVariants as error
use Rattle.x25_station.specs.Config.{config_refusal}

-- which end a number names
abbrev pub role_of : ℕ → Option Role
role_of zero = Some Dte
role_of (suc zero) = Some Dce
role_of (suc (suc n)) = None

abbrev pub making_refusal_at : Option Role → Cfg → Option StationError
making_refusal_at None cfg = Some error.BadConfig
making_refusal_at (Some role) cfg = config_refusal cfg

-- why no station is made, but for want of memory
abbrev pub making_refusal : ℕ → Cfg → Option StationError
making_refusal end cfg = making_refusal_at (role_of end) cfg
