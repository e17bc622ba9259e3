-- Entries, with what their step lends.
use Rattle.x25_station.proofs.Names.{◌≡◌, ℕ, List, [], ◌∷◌, map, ap, ap₂, arith, refl, sym, ◌∙◌, sum_by-cons, sum_by, Request, PlainNotice, StationEntry}
use Rattle.x25_station.{proofs.Names.{of_channel, comes_beside, plain_entry, plain_name, plain_told, Entry, Lent}, specs.code.PlainEntry.{plain_asked}}
use Rattle.x25_station.specs.declared.entry.{Asked.{Asked}, Told.{Told}}
use Rattle.x25_layer.specs.laws.Transcript as said
use Rattle.x25_station.specs.declared.entry.Entry.TheVariants as code
use Rattle.x25_station.specs.declared.entry.Asked.TheVariants as asked
use Rattle.x25_station.specs.declared.entry.Told.TheVariants as told

-- a list that shows none has none
pub none_listed : (lent : Lent) (list : List Entry) → map (plain_entry lent) list ≡ [] → list ≡ []
none_listed lent [] is = refl
none_listed lent (entry ∷ list) is = cc

-- where none came beside, what comes beside then changes none
module _ (lent : Lent) (facilities beside : List ℕ) where
  same_asked : (what : Asked) → plain_asked (record lent { facilities = facilities; beside = beside }) what ≡ plain_asked lent what
  same_asked (asked.Call params) = refl
  same_asked what = refl

  same_told : (what : Told) → plain_told (record lent { facilities = facilities; beside = beside }) what ≡ plain_told lent what
  same_told (told.Incoming params) = refl
  same_told what = refl

  same_entry : (e : Entry) → comes_beside (plain_entry lent e) ≡ 0
      → plain_entry (record lent { facilities = facilities; beside = beside }) e ≡ plain_entry lent e
  same_entry (code.Asked channel name what) none = ap
      (λ (r : Request). of_channel (record { channel = channel; name = plain_name name; said = said.Asked r })) (same_asked what)
  same_entry (code.Told channel name what) none = ap
      (λ (n : PlainNotice). of_channel (record { channel = channel; name = plain_name name; said = said.Told n })) (same_told what)
  same_entry (code.Beside channel) none = absurd (omega (arith, none))
  same_entry e none = refl

  pub same_entries : (list : List Entry) → sum_by comes_beside (map (plain_entry lent) list) ≡ 0
      → map (plain_entry (record lent { facilities = facilities; beside = beside })) list ≡ map (plain_entry lent) list
  same_entries [] none = refl
  same_entries (entry ∷ list) none =
      let none = sym (sum_by-cons comes_beside (plain_entry lent entry) (map (plain_entry lent) list)) ∙ none in
      ap₂ (λ (x : StationEntry) (xs : List StationEntry). x ∷ xs) (same_entry entry (omega (arith, none))) (same_entries list (omega (arith, none)))
