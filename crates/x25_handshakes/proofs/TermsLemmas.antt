-- Proposals and answers give sound terms.
use Rattle.x25_handshakes.proofs.Names.{◌≡◌, ℕ, ◌≤◌, true, arith, Params, Proposal, may_propose, may_answer, field_for, said_in, Laws, Terms, called_terms}
use Rattle.x25_circuit.specs.laws.ParamsLaws.{AreTerms}
use Rattle.x25_handshakes.{proofs.Names.{calling_terms}, specs.laws.Terms.{with_longest}}
use Rattle.x25_circuit.specs.Params as agreed

-- of one direction: one to seven packets unacknowledged, and at least one octet in a packet
pub record IsSound (t : Terms) : Type 0 where
  pub least : 1 ≤ t.window
  pub window : t.window ≤ 7
  pub size : 1 ≤ t.size

sound : (most : ℕ) {t : agreed.Terms} → AreTerms t → IsSound (with_longest most t)
sound most h = record { least = h.window_least; window = h.window_most; size = let least = h.size_least in omega arith }

-- of what each end sends
pub record AreSound (most : ℕ) (q : Params) : Type 0 where
  pub called : IsSound (called_terms most q)
  pub calling : IsSound (calling_terms most q)

pub answer_sound : Laws → (most : ℕ) (p q : Params) → may_propose p ≡ true → may_answer p q ≡ true → AreSound most q
answer_sound laws most p q proposed answered =
    let terms = laws.terms q (laws.answer p q proposed answered) in
    record { called = sound most terms.0; calling = sound most terms.1 }

-- who called reads the terms that the called end answered
pub answer_read : Laws → (p : Params) (q : Proposal) → may_propose p ≡ true → may_answer p q.params ≡ true → said_in p (field_for p q) ≡ q.params
answer_read laws p q proposed answered = laws.said p q (laws.answer p q.params proposed answered)
