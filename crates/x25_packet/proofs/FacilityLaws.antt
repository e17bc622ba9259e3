-- A facility field is read exactly where it is one.
use Rattle.x25_packet.proofs.Names.{ℕ, ◌≤◌, ◌≡◌, ◌⊎◌, Bool, true, false, List, [], ◌∷◌, ◌++◌, refl, ap, subst, inl, inr, nat_eq, Result, Ok, Err, Option, Some}
use Rattle.x25_packet.proofs.Names.{None, cond, nat_le, ◌&&◌, and_parts, and_from, leb-true, le-leb, eqb-true, PacketError, Facilities, Directions, AreAllowed}
use Rattle.x25_packet.proofs.Names.{AreWithin, IfGiven, facilities_of, facility, field_of, is_within, last, windows_of, with_sizes}

-- which way a test went
pub chosen : {A : Type 0} (b : Bool) (x y z : A) → cond b x y ≡ z → ((b ≡ true) × (x ≡ z)) ⊎ ((b ≡ false) × (y ≡ z))
chosen true x y z e = inl (refl, e)
chosen false x y z e = inr (refl, e)

pub ok_err : {A : Type 0} {v : A} {e : PacketError} → (let x : Result A PacketError = Err e in let y : Result A PacketError = Ok v in x ≡ y) → ⊥
ok_err h = cc

pub ok_same : {A : Type 0} {v w : A} → (let x : Result A PacketError = Ok v in let y : Result A PacketError = Ok w in x ≡ y) → v ≡ w
ok_same h = cc

last_found : {A : Type 0} (value v : A) (rest : List ℕ) → last value rest ≡ Ok v → (rest ≡ []) × (value ≡ v)
last_found value v [] e = (refl, ok_same e)
last_found value v (code ∷ rest) e = absurd (ok_err e)

pub within : (least most called calling : ℕ) → (is_within least most called && is_within least most calling) ≡ true
    → AreWithin least most (record { called = called; calling = calling })
within least most called calling h =
    let parts = and_parts (is_within least most called) (is_within least most calling) h in
    let first = and_parts (nat_le least called) (nat_le called most) parts.0 in
    let second = and_parts (nat_le least calling) (nat_le calling most) parts.1 in
    record {
      called_least = leb-true _ _ first.0;
      called_most = leb-true _ _ first.1;
      calling_least = leb-true _ _ second.0;
      calling_most = leb-true _ _ second.1;
    }

is_within_when : (least most value : ℕ) → least ≤ value → value ≤ most → is_within least most value ≡ true
is_within_when least most value low high = and_from _ _ (le-leb _ _ low) (le-leb _ _ high)

pub both_within : (least most : ℕ) (values : Directions) → AreWithin least most values
    → (is_within least most values.called && is_within least most values.calling) ≡ true
both_within least most values h =
    and_from _ _ (is_within_when least most values.called h.called_least h.called_most)
    (is_within_when least most values.calling h.calling_least h.calling_most)

-- ---- what is read is spelled so

-- the windows that a field is read as
pub record Windows (field : List ℕ) (windows : Option Directions) : Type 0 where
  pub allowed : IfGiven windows (AreWithin 1 7)
  pub spelling : field ≡ facility 67 windows

pub windows_found : (field : List ℕ) (w : Option Directions) → windows_of field ≡ Ok w → Windows field w
windows_found [] w e = subst (Windows []) (ok_same e) (record { allowed = tt; spelling = refl })
windows_found (code ∷ []) w e = elim (chosen (nat_eq code 67) _ _ _ e) [
  | inl p ↦ absurd (ok_err p.1)
  | inr p ↦ absurd (ok_err p.1)
]
windows_found (code ∷ called ∷ []) w e = elim (chosen (nat_eq code 67) _ _ _ e) [
  | inl p ↦ absurd (ok_err p.1)
  | inr p ↦ absurd (ok_err p.1)
]
windows_found (code ∷ called ∷ calling ∷ rest) w e = elim (chosen (nat_eq code 67) _ _ _ e) [
  | inl p ↦ elim (chosen (is_within 1 7 called && is_within 1 7 calling) _ _ _ p.1) [
    | inl q ↦
        let ends = last_found _ w rest q.1 in
        let at : code ≡ 67 = eqb-true _ _ p.0 in
        subst (Windows (code ∷ called ∷ calling ∷ rest)) ends.1 (record { allowed = within 1 7 called calling q.0; spelling = rw (at, ends.0) refl })
    | inr q ↦ absurd (ok_err q.1)
  ]
  | inr p ↦ absurd (ok_err p.1)
]

with_sizes_ok : (sizes : Option Directions) (r : Result (Option Directions) PacketError) (f : Facilities) → with_sizes sizes r ≡ Ok f
    → (w : Option Directions) × (r ≡ Ok w) × ((let g : Facilities = record { packet_size = sizes; window_size = w } in g) ≡ f)
with_sizes_ok sizes (Ok w) f e = (w, refl, ok_same e)
with_sizes_ok sizes (Err x) f e = absurd (ok_err e)

front : (code known called calling : ℕ) (rest tail : List ℕ) → code ≡ known → rest ≡ tail → code ∷ called ∷ calling ∷ rest ≡ known ∷ called ∷ calling ∷ tail
front code known called calling rest tail e h = cc

pub record Found (field : List ℕ) (facilities : Facilities) : Type 0 where
  pub allowed : AreAllowed facilities
  pub spelling : field ≡ field_of facilities

without_sizes : (field : List ℕ) (f : Facilities) → with_sizes None (windows_of field) ≡ Ok f → Found field f
without_sizes field f e =
    let parts = with_sizes_ok None (windows_of field) f e in
    let windows = windows_found field parts.0 parts.1 in
    subst (Found field) parts.2 (record { allowed = record { sizes = tt; windows = windows.allowed }; spelling = windows.spelling })

pub facilities_found : (field : List ℕ) (f : Facilities) → facilities_of field ≡ Ok f → Found field f
unfolding facilities_of
facilities_found [] f e = subst (Found []) (ok_same e) (record { allowed = record { sizes = tt; windows = tt }; spelling = refl })
facilities_found (code ∷ []) f e = elim (chosen (nat_eq code 66) _ _ _ e) [
  | inl p ↦ absurd (ok_err p.1)
  | inr p ↦ without_sizes (code ∷ []) f p.1
]
facilities_found (code ∷ called ∷ []) f e = elim (chosen (nat_eq code 66) _ _ _ e) [
  | inl p ↦ absurd (ok_err p.1)
  | inr p ↦ without_sizes (code ∷ called ∷ []) f p.1
]
facilities_found (code ∷ called ∷ calling ∷ rest) f e = elim (chosen (nat_eq code 66) _ _ _ e) [
  | inl p ↦ elim (chosen (is_within 4 12 called && is_within 4 12 calling) _ _ _ p.1) [
    | inl q ↦
        let parts = with_sizes_ok _ (windows_of rest) f q.1 in
        let windows = windows_found rest parts.0 parts.1 in
        let at : code ≡ 66 = eqb-true _ _ p.0 in
        subst (Found (code ∷ called ∷ calling ∷ rest)) parts.2 (record {
          allowed = record { sizes = within 4 12 called calling q.0; windows = windows.allowed };
          spelling = front code 66 called calling rest (facility 67 parts.0) at windows.spelling;
        })
    | inr q ↦ absurd (ok_err q.1)
  ]
  | inr p ↦ without_sizes (code ∷ called ∷ calling ∷ rest) f p.1
]

-- ---- what is spelled so is read

windows_again : (windows : Option Directions) → IfGiven windows (AreWithin 1 7) → windows_of (facility 67 windows) ≡ Ok windows
windows_again None h = refl
windows_again (Some values) h = rw (both_within 1 7 values h) refl

parts_again : (sizes windows : Option Directions) → IfGiven sizes (AreWithin 4 12) → IfGiven windows (AreWithin 1 7)
    → facilities_of (facility 66 sizes ++ facility 67 windows) ≡ Ok (record { packet_size = sizes; window_size = windows })
unfolding facilities_of
parts_again None None h k = refl
parts_again None (Some values) h k = ap (with_sizes None) (windows_again (Some values) k)
parts_again (Some sizes) windows h k = rw (both_within 4 12 sizes h) (ap (with_sizes (Some sizes)) (windows_again windows k))

pub facilities_again : (f : Facilities) → AreAllowed f → facilities_of (field_of f) ≡ Ok f
facilities_again f h = parts_again f.packet_size f.window_size h.sizes h.windows
