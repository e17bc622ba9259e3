-- What calls and acceptances say, and what is asked of a channel that isn't configured.
use Rattle.x25_station.proofs.Names.{◌≡◌, ℕ, ◌==◌, List, [], Option, Some, None, Bool, true, false, ◌||◌, if◌then◌else◌, refl, sym, ap, ◌∙◌, same_Some, Request}
use Rattle.x25_station.proofs.Names.{Accepts, outcome, Proposal, in_brief, Params, Asks, LayerOutcome, Declined, layer_outcome, outcome_in, outcome_on}
use Rattle.x25_station.proofs.Names.{if_at_once, puts_at_once, LayerSettings, is_channel, LinkView, Refuses, went, alone, Settings, link_settings}
use Rattle.x25_station.proofs.Names.{layer_settings, StationEntry, Station, view_of, Outcome, did, entries_of_outcome, requests, requests_of}
use Rattle.x25_station.specs.Command.{proposal_said}
use Rattle.x25_layer.specs.declared.error.LayerError.TheVariants as layer_error

-- ---- what is said

pub or_false : (b : Bool) → (b || false) ≡ b
or_false true = refl
or_false false = refl

-- what a call, or an acceptance, says with the setting that the code has
pub said_so : (a b : Bool) (params : Params) → a ≡ b → proposal_said b (in_brief params) ≡ record { params = params; says_all = a }
said_so a b params same = ap (λ (says : Bool). record { params = params; says_all = says }) (or_false b ∙ sym same)

-- a proposal that was made
pub made : (v : Proposal) (params : Params) (says : Bool) → v.params ≡ params → v.says_all ≡ says → record { params = params; says_all = says } ≡ v
made v params says e f = ap (λ (p : Params). record { params = p; says_all = says }) (sym e)
    ∙ ap (λ (b : Bool). record { params = v.params; says_all = b }) (sym f)

pub none_of : (o : Option Params) → ((p : Params) → o ≡ Some p → ⊥) → o ≡ None
none_of None other = refl
none_of (Some p) other = absurd (other p refl)

-- ---- where no channel is

pub not_there : (there : Bool) (p : Params) → (if there then Some p else None) ≡ None → there ≡ false
not_there true p e = absurd (cc)
not_there false p e = refl

pub there_is : (there : Bool) (p q : Params) → (if there then Some p else None) ≡ Some q → p ≡ q
there_is true p q e = same_Some p q e
there_is false p q e = absurd (cc)

declined : Bool → LayerOutcome
declined true = Declined layer_error.Restarting
declined false = Declined layer_error.NoSuchChannel

module _ (c : Settings) (s : Station) (h : ℕ) (nowhere : is_channel c.channels h ≡ false) where
  view : LinkView
  view = view_of (link_settings c) s.turn s.link

  lc : LayerSettings
  lc = layer_settings c

  full : Bool
  full = view.waits [] == 256

  refused : (request : Request) → layer_outcome lc full s.layer (Asks h request) ≡ declined s.layer.restarting
  unfolding lc declined
  refused request = by s.layer.restarting
    where
      by : (b : Bool) → outcome_in lc full b s.layer.restarts s.layer.circuits (Asks h request) ≡ declined b
      by true = refl
      by false = ap (λ (there : Bool). if there
          then if_at_once (puts_at_once request) full (outcome_on s.layer.restarts s.layer.circuits h (outcome lc.circuit (s.layer.circuits h) request))
          else Declined layer_error.NoSuchChannel) nowhere

  no_entry : (request : Request) (b : Bool) → entries_of_outcome lc s.layer (Asks h request) (declined b) ≡ []
  unfolding declined
  no_entry request true = refl
  no_entry request false = refl

  with_outcome : LayerOutcome → List StationEntry → Outcome
  with_outcome o entries = did c (alone s.link) entries (if view.is_up then went view lc o else Refuses layer_error.NotUp)

  is_refused : (request : Request) → requests_of c s.link s.layer view (Asks h request) ≡ with_outcome (declined s.layer.restarting) []
  unfolding with_outcome view lc full
  is_refused request =
      ap (λ (o : LayerOutcome). with_outcome o (entries_of_outcome lc s.layer (Asks h request) o)) (refused request)
      ∙ ap (with_outcome (declined s.layer.restarting)) (no_entry request s.layer.restarting)

  -- it doesn't matter what an acceptance says
  pub nowhere_alike : (a b : Option Proposal) → requests c s (Asks h (Accepts a)) ≡ requests c s (Asks h (Accepts b))
  unfolding view
  nowhere_alike a b = is_refused (Accepts a) ∙ sym (is_refused (Accepts b))
