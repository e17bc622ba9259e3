-- What a circuit tells is entered one notice after another.
use Rattle.x25_station.proofs.Names.{◌≡◌, ℕ, List, [], ◌∷◌, ◌++◌, Option, Some, None, Bool, true, false, if◌then◌else◌, refl, ap, sym, subst, ◌∙◌, map}
use Rattle.x25_station.proofs.Names.{append_assoc, map-append, collided, plain_notice, Notice, Name, LayerSettings, Layer, LayerNotice, on_channel, restarted}
use Rattle.x25_station.proofs.Names.{restart_done, layer_fault, notices_on, Stretch, Told, name_of, StationEntry, of_channel, was_restarted, restart_confirmed}
use Rattle.x25_station.proofs.Names.{at_fault, station_told, entry_told, AreTellable, plain_entry, plain_name, plain_told, Entry, Lent}
use Rattle.x25_circuit.specs.code.Replies.{notices_of}
use Rattle.x25_station.specs.{Receiving.{IsTellable}, declared.entry.Told.{Told as CodeTold}}
use Rattle.x25_station.specs.declared.entry.Entry.TheVariants as code

abbrev pub told_first : ℕ → Layer → Bool → List StationEntry
told_first h l b = if b then entry_told l (on_channel h collided) ∷ [] else []

pub told_both : (octets : List ℕ) (l : Layer) (h : ℕ) (b : Bool) (o : Option Notice) (n : Notice) (before mid after : List StationEntry) → o ≡ Some n → mid ≡ before
    ++ told_first h l b → after ≡ mid ++ entry_told l (on_channel h (plain_notice octets n)) ∷ []
    → after ≡ before ++ station_told l (notices_on h (notices_of octets b o))
told_both octets l h b o n before mid after is first second = second ∙ ap (λ (es : List StationEntry). es ++ entry_told l (on_channel h (plain_notice octets n)) ∷ []) first
    ∙ at b ∙ ap (λ (x : Option Notice). before ++ station_told l (notices_on h (notices_of octets b x))) (sym is)
  where
    at : (b : Bool) → (before ++ told_first h l b) ++ entry_told l (on_channel h (plain_notice octets n)) ∷ [] ≡ before
        ++ station_told l (notices_on h (notices_of octets b (Some n)))
    at true = append_assoc before (entry_told l (on_channel h collided) ∷ []) (entry_told l (on_channel h (plain_notice octets n)) ∷ [])
    at false = append_assoc before [] (entry_told l (on_channel h (plain_notice octets n)) ∷ [])

-- and where no notice is behind
pub told_alone : (octets : List ℕ) (l : Layer) (h : ℕ) (b : Bool) (o : Option Notice) (after : List StationEntry) → o ≡ None → after ≡ told_first h l b
    → after ≡ station_told l (notices_on h (notices_of octets b o))
told_alone octets l h b o after is first = first ∙ at b ∙ ap (λ (x : Option Notice). station_told l (notices_on h (notices_of octets b x))) (sym is)
  where
    at : (b : Bool) → told_first h l b ≡ station_told l (notices_on h (notices_of octets b None))
    at true = refl
    at false = refl

-- each of them may be told
pub notice_tellable : (octets : List ℕ) (c : LayerSettings) (h : ℕ) (b : Bool) (o : Option Notice) (n : Notice) → o ≡ Some n → AreTellable c (notices_on h (notices_of octets b o))
    → IsTellable c (on_channel h (plain_notice octets n))
notice_tellable octets c h b o n is all = at b (subst (λ (x : Option Notice). AreTellable c (notices_on h (notices_of octets b x))) is all)
  where
    at : (b : Bool) → AreTellable c (notices_on h (notices_of octets b (Some n))) → IsTellable c (on_channel h (plain_notice octets n))
    at true x = x.1.0
    at false x = x.0

pub first_tellable : (octets : List ℕ) (c : LayerSettings) (h : ℕ) (b : Bool) (o : Option Notice) → b ≡ true → AreTellable c (notices_on h (notices_of octets b o))
    → IsTellable c (on_channel h collided)
first_tellable octets c h b o is all = (subst (λ (x : Bool). AreTellable c (notices_on h (notices_of octets x o))) is all).0

-- what is told stands under the names alone
pub same_told : (l m : Layer) (notices : List LayerNotice) → ((h : ℕ) → name_of l h ≡ name_of m h) → station_told l notices ≡ station_told m notices
same_told l m [] same = refl
same_told l m (on_channel h notice ∷ notices) same =
    ap (λ (n : Name). of_channel (record { channel = h; name = n; said = Told notice }) ∷ station_told l notices) (same h)
    ∙ ap (λ (es : List StationEntry). entry_told m (on_channel h notice) ∷ es) (same_told l m notices same)
same_told l m (restarted cause diagnostic ∷ notices) same = ap (λ (es : List StationEntry). was_restarted cause diagnostic ∷ es) (same_told l m notices same)
same_told l m (restart_done ∷ notices) same = ap (λ (es : List StationEntry). restart_confirmed ∷ es) (same_told l m notices same)
same_told l m (layer_fault diagnostic ∷ notices) same = ap (λ (es : List StationEntry). at_fault diagnostic ∷ es) (same_told l m notices same)

-- an entry of a channel behind the others
pub told_behind : (lent : Lent) (h : ℕ) (told : CodeTold) (n : Stretch) (m : Name) (before new : List Entry) → new ≡ before ++ code.Told h n told ∷ []
    → plain_name n ≡ m
    → map (plain_entry lent) new ≡ map (plain_entry lent) before
    ++ of_channel (record { channel = h; name = m; said = Told (plain_told lent told) }) ∷ []
told_behind lent h told n m before new is named = ap (λ es. map (plain_entry lent) es) is ∙ map-append (plain_entry lent) before (code.Told h n told ∷ [])
    ∙ ap (λ n. map (plain_entry lent) before ++ of_channel (record { channel = h; name = n; said = Told (plain_told lent told) }) ∷ []) named
