-- The facility field that a station writes is facilities of all classes, is short, and says itself.
use Rattle.x25_packet.proofs.Names.{ℕ, ◌≤◌, ◌≡◌, ◌∙◌, false, List, [], ◌∷◌, ◌++◌, length, refl, ap, subst, sym, arith, Option, Some, None, Ok, Directions}
use Rattle.x25_packet.proofs.{FacilityLaws.{both_within}, Names.{Facilities, Own, field_said, class_b, none_own, own_in, IsFacilityField}}
use Rattle.x25_packet.specs.Facilities as strict_field

pub record SaysItself (field : List ℕ) : Type 0 where
  pub whole : IsFacilityField field
  pub few : length field ≤ 6
  pub said : field_said (own_in none_own 0 field) ≡ Ok field

-- what it asks for
says_own : (sizes windows : Option Directions)
    → (let own : Own = record { fast_select = false; packet_size = sizes; window_size = windows } in own
    ≡ own_in none_own 0 (strict_field.facility 66 sizes ++ strict_field.facility 67 windows))
unfolding own_in
says_own None None = refl
says_own (Some s) None = refl
says_own None (Some w) = refl
says_own (Some s) (Some w) = refl

pub own_written : (field : List ℕ) (facilities : Facilities) → field ≡ strict_field.field_of facilities
    → (let own : Own = record { fast_select = false; packet_size = facilities.packet_size; window_size = facilities.window_size } in own
    ≡ own_in none_own 0 field)
own_written field facilities e = says_own facilities.packet_size facilities.window_size ∙ ap (own_in none_own 0) (sym e)

says : (sizes windows : Option Directions) → strict_field.IfGiven sizes (strict_field.AreWithin 4 12)
    → strict_field.IfGiven windows (strict_field.AreWithin 1 7)
    → SaysItself (strict_field.facility 66 sizes ++ strict_field.facility 67 windows)
unfolding own_in
says None None h k = record { whole = ([], tt, refl); few = omega arith; said = refl }
says (Some s) None h k = record {
  whole = (class_b 66 s.called s.calling ∷ [], (refl, tt), refl);
  few = omega arith;
  said = rw (both_within 4 12 s h) refl;
}
says None (Some w) h k = record {
  whole = (class_b 67 w.called w.calling ∷ [], (refl, tt), refl);
  few = omega arith;
  said = rw (both_within 1 7 w k) refl;
}
says (Some s) (Some w) h k = record {
  whole = (class_b 66 s.called s.calling ∷ class_b 67 w.called w.calling ∷ [], (refl, (refl, tt)), refl);
  few = omega arith;
  said = rw (both_within 4 12 s h, both_within 1 7 w k) refl;
}

pub says_itself : (field : List ℕ) → strict_field.IsFacilityField field → SaysItself field
says_itself field (facilities, allowed, e) = subst SaysItself (sym e) (says facilities.packet_size facilities.window_size allowed.sizes allowed.windows)

pub field_few : (field : List ℕ) → strict_field.IsFacilityField field → length field ≤ 6
field_few field f = (says_itself field f).few

pub no_field : strict_field.IsFacilityField []
no_field = (record { packet_size = None; window_size = None }, record { sizes = tt; windows = tt }, refl)
