-- What a station tells of itself.
use Rattle.x25_station.proofs.Names.{◌∙◌, ◌≡◌, Bool, true, false, if◌then◌else◌, Option, Some, None, sym, ap, none-some, same_Some, unwrap_or, Name, Stretch}
use Rattle.x25_station.proofs.Names.{plain_name}
use Rattle.x25_layer.specs.code.FitsLayer.{plain_stretch}

-- a channel is open only where it is configured
pub open_named : (configured opened : Bool) (name : Name) (o : Option Name) → (if configured then opened else false) ≡ true → o
    ≡ (if configured then Some name else None)
    → o ≡ (let is_open : Bool = if configured then opened else false in if is_open then Some name else None)
open_named true true name o is e = e
open_named true false name o is e = absurd (true_false (sym is))
  where
    true_false : true ≡ false → ⊥
    true_false x = cc
open_named false opened name o is e = absurd (true_false (sym is))
  where
    true_false : true ≡ false → ⊥
    true_false x = cc

pub closed_none : (is_open : Bool) (name : Name) → is_open ≡ false → None ≡ (if is_open then Some name else None)
closed_none is_open name is = sym (ap (λ (b : Bool). if b then Some name else None) is)

-- the name of a configured channel

named : (configured : Bool) (n m : Name) → configured ≡ true → Some n ≡ (if configured then Some m else None) → n ≡ m
named configured n m is same = same_Some n m (same ∙ ap (λ (b : Bool). if b then Some m else None) is)

not_unnamed : (configured : Bool) (m : Name) → configured ≡ true → None ≡ (if configured then Some m else None) → ⊥
not_unnamed configured m is same = none-some m (same ∙ ap (λ (b : Bool). if b then Some m else None) is)

pub named_or : (o : Option Stretch) (none : Stretch) (configured : Bool) (m : Name) → configured ≡ true → plain_stretch o ≡ (if configured then Some m else None)
    → plain_name (unwrap_or o none) ≡ m
named_or (Some name) none configured m is same = named configured (plain_name name) m is same
named_or None none configured m is same = absurd (not_unnamed configured m is same)
