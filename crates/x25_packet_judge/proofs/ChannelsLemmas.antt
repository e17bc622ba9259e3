-- A channel of all that were seen, and of the others.
use Rattle.x25_packet_judge.proofs.Names.{◌≡◌, ◌∙◌, false, map, ◌<◌, ℕ, zero, suc, List, [], ◌∷◌, ◌++◌, Option, Some, None, length, replicate, refl, ap, arith}
use Rattle.x25_packet_judge.proofs.Names.{get_or-set_same, get_or-set_other, length-append, length-replicate, ◌-◌, ◌%◌, unwrap_or, happens, Channels}
use Rattle.x25_packet_judge.proofs.Names.{all_happens, channel_of, padded, put, Channel, Set}
use Rattle.std.specs.{Prelude.{slice_index_or}, Option.{option_map}}
use Rattle.std.proofs.Math.ListN.{get_or-map}
use Rattle.x25_packet_judge.specs.declared.{channel.Event.{Event}, channel.Event.TheVariants.{Loss}}
use Rattle.x25_possible.specs.code.Steps.{hidden_by, lost}
use Rattle.x25_possible.specs.declared.{set.Knowledge.{Knowledge}, set.Knowledge.TheVariants.{Blind, Lost}}

-- a place without a channel is none
abbrev none : Option Channel
none = None

in_none : (k i : ℕ) → slice_index_or (replicate k none) i none ≡ none
in_none zero i = refl
in_none (suc k) zero = refl
in_none (suc k) (suc i) = in_none k i

in_padded : (seen : List (Option Channel)) (k i : ℕ) → slice_index_or (seen ++ replicate k None) i None ≡ slice_index_or seen i None
in_padded [] k i = in_none k i
in_padded (c ∷ seen) k zero = refl
in_padded (c ∷ seen) k (suc i) = in_padded seen k i

has_place : (n : ℕ) (seen : List (Option Channel)) → n < length (padded n seen)
has_place n seen =
    let all = length-append seen (replicate (suc n - length seen) None) in
    let more = length-replicate (suc n - length seen) none in
    omega (arith, all, more)

pub put_same : (n m : ℕ) (c : Channel) (cs : Channels) → m % 4096 ≡ n % 4096 → channel_of m (put n c cs) ≡ c
put_same n m c cs same =
    ap (λ (k : ℕ). unwrap_or (slice_index_or (put n c cs).seen k None) cs.usual) same
    ∙ ap (λ o. unwrap_or o cs.usual) (get_or-set_same (padded (n % 4096) cs.seen) (n % 4096) (Some c) None (has_place (n % 4096) cs.seen))

pub put_other : (n m : ℕ) (c : Channel) (cs : Channels) → (m % 4096 ≡ n % 4096 → ⊥) → channel_of m (put n c cs) ≡ channel_of m cs
put_other n m c cs apart = ap (λ o. unwrap_or o cs.usual)
    (get_or-set_other (padded (n % 4096) cs.seen) (n % 4096) (m % 4096) (Some c) None apart ∙ in_padded cs.seen _ (m % 4096))

pub happens_on : (e : Event) (n : ℕ) (cs : Channels) → channel_of n (all_happens e cs) ≡ happens e (channel_of n cs)
happens_on e n cs =
    ap (λ o. unwrap_or o (happens e cs.usual)) (get_or-map (option_map (happens e)) cs.seen (n % 4096) None) ∙ go (slice_index_or cs.seen (n % 4096) None)
  where
    go : (o : Option Channel) → unwrap_or (option_map (happens e) o) (happens e cs.usual) ≡ happens e (unwrap_or o cs.usual)
    go None = refl
    go (Some c) = refl

any_default : (seen : List (Option Channel)) (i : ℕ) (d e : Option Channel) → i < length seen → slice_index_or seen i d ≡ slice_index_or seen i e
any_default [] i d e low = absurd (omega (arith, low))
any_default (c ∷ seen) zero d e low = refl
any_default (c ∷ seen) (suc i) d e low = any_default seen i d e (omega (arith, low))

-- what stands at a place that was made
pub place_is : (n : ℕ) (seen : List (Option Channel)) (d : Option Channel) → slice_index_or (padded n seen) n d ≡ slice_index_or seen n None
place_is n seen d = any_default (padded n seen) n d None (has_place n seen) ∙ in_padded seen _ n

-- ---- where packets of all were missed, it changes nothing that more are

lost_again : (k : Knowledge) (s : Set) → s.knowledge ≡ k → lost (hidden_by k Lost s) ≡ hidden_by k Lost s
lost_again Blind s is = ap (λ was. hidden_by was Lost s) is
lost_again k s is = refl

pub channel_again : (c : Channel) → happens Loss (happens Loss c) ≡ happens Loss c
channel_again c =
    ap (λ (s : Set). record { dte = s; dce = lost (lost c.dce); is_noted = false }) (lost_again c.dte.knowledge c.dte refl)
    ∙ ap (λ (s : Set). record { dte = lost c.dte; dce = s; is_noted = false }) (lost_again c.dce.knowledge c.dce refl)

abbrev all_lost : List (Option Channel) → List (Option Channel)
all_lost seen = map (option_map (happens Loss)) seen

pub seen_again : (seen : List (Option Channel)) → all_lost (all_lost seen) ≡ all_lost seen
seen_again [] = refl
seen_again (None ∷ seen) = ap (λ l. None ∷ l) (seen_again seen)
seen_again (Some c ∷ seen) = ap (λ d. Some d ∷ all_lost (all_lost seen)) (channel_again c) ∙ ap (λ l. Some (happens Loss c) ∷ l) (seen_again seen)
