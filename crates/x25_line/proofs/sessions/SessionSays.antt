-- What a station sends in its session, an end that keeps the rules may send.
use Rattle.x25_line.proofs.Names.{◌≡◌, ℕ, ◌+◌, ◌≤◌, List, [], ◌∷◌, ◌++◌, length, refl, sym, ap, ◌∙◌, append_assoc, append-nil, Role, PlainFrame, spelling_of}
use Rattle.x25_line.proofs.{Names.{LinkSettings, Up, Window, Runs, Entry, Meeting, sent_in, Peer, put_for}, StationLines.{good_reads}}
use Rattle.x25_line.proofs.{StationSays.{machine_of, Said, MaySay, said_run}, StationSends.{AllWithin}, ends.Puts.{put_same, put_alike}}
use Rattle.x25_line.proofs.sessions.SessionMay.{entry, Known, Kind}

pub sent_append : (b : ℕ) (from : Role) (fs es : List PlainFrame) → sent_in b from (fs ++ es) ≡ sent_in b from fs ++ sent_in b from es
sent_append b from [] es = refl
sent_append b from (f ∷ fs) es = ap (λ xs. record { session = b; octets = spelling_of from f } ∷ xs) (sent_append b from fs es)

-- what was handed down and taken, by sessions, as before
pub record SamePackets (all before : ℕ → Peer) : Type 0 where
  pub given : (n : ℕ) → (all n).given ≡ (before n).given
  pub taken : (n : ℕ) → (all n).taken ≡ (before n).taken

pub same_put : (b : ℕ) (r : Peer) {all before : ℕ → Peer} → r.given ≡ (all b).given → r.taken ≡ (all b).taken → SamePackets all before
    → SamePackets (put_for b r all) before
same_put b r {all} given taken h = record {
  given = λ n. put_alike (λ p. p.given) b r all given n ∙ h.given n;
  taken = λ n. put_alike (λ p. p.taken) b r all taken n ∙ h.taken n;
}

-- ---- all that is sent in a step

module _ {d : LinkSettings} (k : Kind d) (es : List Entry) (met : List Meeting) where
  abbrev R : Known
  R = k.R

  -- the end in each session, once it said these frames in this one, in which it is q
  pub record Spoken (b : ℕ) (before : ℕ → Peer) (out : List Entry) (q : Peer) (frames : List PlainFrame) : Type 0 where
    pub all : ℕ → Peer
    pub now : all b ≡ q
    pub reached : R es met Up b all (out ++ sent_in b d.role frames)
    pub packets : SamePackets all before

  speaks : (b : ℕ) (before : ℕ → Peer) (out : List Entry) → MaySay d (Spoken b before out)
  speaks b before out p q frames f good says next given taken h = record {
    all = put_for b q h.all;
    now = put_same b b q h.all refl;
    reached = rw (sym (append_assoc out (sent_in b d.role frames) (entry b (spelling_of d.role f) ∷ [])
        ∙ ap (λ xs. out ++ xs) (sym (sent_append b d.role frames (f ∷ [])))))
        (k.does.tells es met b h.all (out ++ sent_in b d.role frames) (spelling_of d.role f) f q (good_reads k.reads d.role d.longest good) good.number
        (rw h.now says) h.reached);
    packets = same_put b q (given ∙ ap (λ z. z.given) (sym h.now)) (taken ∙ ap (λ z. z.taken) (sym h.now)) h.packets;
  }

  pub runs_said : (b : ℕ) (before : ℕ → Peer) (out : List Entry) (from : Window) → R es met Up b before out → machine_of d.window (before b) ≡ from
      → (before b).sent ≤ (before b).acked + d.window
      → (before b).told ≤ length (before b).taken → AllWithin d.longest (before b).given → (w : Window) (frames : List PlainFrame) → Runs from w frames
      → Said d (Spoken b before out) (before b) w frames
  runs_said b before out from reached is room told within w frames runs =
      said_run k.high (speaks b before out) (before b) within (record {
        all = before;
        now = refl;
        reached = rw (append-nil out) reached;
        packets = record { given = λ n. refl; taken = λ n. refl };
      }) is room told runs
