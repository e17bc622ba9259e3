-- What is said in a facility field is what is understood, and what is proposed and answered stays within bounds.
-- ITU-T X.25 (10/96), section 6.12.
use Rattle.std.specs.Prelude.{◌≡◌, ◌≤◌, ℕ, true, List, [], ◌∷◌}
use Rattle.x25_packet.specs.Facilities.{IsFacilityField}
use Rattle.x25_circuit.specs.declared.params.Params.{Params}
use Rattle.x25_circuit.specs.Params.{Terms, Proposal, in_brief, in_full, default_params, may_propose, may_answer}
use Rattle.x25_circuit.specs.Params.{field_for}
use Rattle.x25_circuit.specs.Params.{said_in, called_terms, calling_terms}

-- where both ends know the same, the one that reads understands what the other says, in brief or in full
abbrev pub FieldIsSaid : Type 0
FieldIsSaid = (known : Params) (said : Proposal) → may_propose said.params ≡ true
    → said_in known (field_for known said) ≡ said.params

-- what is said in full is read as the same, whatever the end that reads knows
abbrev pub FullIsReadAlike : Type 0
FullIsReadAlike = (known usual params : Params) → may_propose params ≡ true
    → said_in usual (field_for known (in_full params)) ≡ said_in usual (field_for usual (in_brief params))

-- the code and both values of packet sizes (0x42), then of windows (0x43)
abbrev pub FullSaysAll : Type 0
FullSaysAll = (known params : Params) → field_for known (in_full params)
    ≡ 66 ∷ params.size_called ∷ params.size_calling ∷ 67 ∷ params.win_called ∷ params.win_calling ∷ []

-- no field says that all is as known
abbrev pub NoFieldIsKnown : Type 0
NoFieldIsKnown = (known : Params) → said_in known [] ≡ known

abbrev pub KnownIsNoField : Type 0
KnownIsNoField = (known : Params) → field_for known (in_brief known) ≡ []

-- what is said is a field of facilities that are allowed
abbrev pub FieldIsAllowed : Type 0
FieldIsAllowed = (known : Params) (said : Proposal) → may_propose said.params ≡ true
    → IsFacilityField (field_for known said)

-- whatever the octets of a field are
abbrev pub SaidIsAllowed : Type 0
SaidIsAllowed = (known : Params) (field : List ℕ) → may_propose known ≡ true → may_propose (said_in known field) ≡ true

-- a proposal may be accepted as it is, and with the defaults
abbrev pub ProposalIsAnswer : Type 0
ProposalIsAnswer = (proposed : Params) → may_answer proposed proposed ≡ true

abbrev pub DefaultIsAnswer : Type 0
DefaultIsAnswer = (proposed : Params) → may_answer proposed default_params ≡ true

-- an answer might have been proposed
abbrev pub AnswerIsAllowed : Type 0
AnswerIsAllowed = (proposed answered : Params) → may_propose proposed ≡ true → may_answer proposed answered ≡ true
    → may_propose answered ≡ true

-- windows of 1 to 7 packets, and packets of 16 to 4,096 octets
pub record AreTerms (t : Terms) : Type 0 where
  pub window_least : 1 ≤ t.window
  pub window_most : t.window ≤ 7
  pub size_least : 16 ≤ t.size
  pub size_most : t.size ≤ 4096

abbrev pub TermsAreAllowed : Type 0
TermsAreAllowed = (p : Params) → may_propose p ≡ true → AreTerms (called_terms p) × AreTerms (calling_terms p)
