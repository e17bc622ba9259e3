-- What may be given, fact by fact.
use Rattle.std.proofs.Common.{◌≤◌, ◌≡◌, true, length, refl, Option, Some, None}
use Rattle.std.specs.Prelude.{not, is_some}
use Rattle.std.proofs.lemmas.Bool.{and_parts, leb-true}
use Rattle.x25_packet.specs.Classes.{none_own, own_in, IsFacilityField}
use Rattle.x25_packet.proofs.FacilityLemmas.{field_found}
use Rattle.x25_given.specs.Given.{PlainGiven, may_give}

pub record IsGiven (g : PlainGiven) : Type 0 where
  pub facilities : IsFacilityField g.facilities
  pub few : length g.facilities ≤ 103
  pub sizes : (own_in none_own 0 g.facilities).packet_size ≡ None
  pub windows : (own_in none_own 0 g.facilities).window_size ≡ None
  pub short : length g.user ≤ 128

none_when : {A : Type 0} (o : Option A) → not (is_some o) ≡ true → o ≡ None
none_when None h = refl
none_when (Some a) h = cc

pub given_when : (g : PlainGiven) → may_give g ≡ true → IsGiven g
given_when g h =
    let a = and_parts _ _ h in
    let b = and_parts _ _ a.1 in
    let c = and_parts _ _ b.1 in
    let d = and_parts _ _ c.1 in
    record {
      facilities = field_found g.facilities a.0;
      few = leb-true _ _ b.0;
      sizes = none_when _ c.0;
      windows = none_when _ d.0;
      short = leb-true _ _ d.1;
    }
