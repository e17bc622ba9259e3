-- What is told of a packet, by the set of its sender.
use Rattle.x25_packet_judge.proofs.Names.{and_parts, or_parts, both_ways, cond_both, ◌≡◌, ◌∙◌, ℕ, Bool, true, false, Option, Some, None, refl, sym, ap, ◌-◌}
use Rattle.x25_packet_judge.proofs.Names.{◌%◌, ◌==◌, is_some, not, ◌&&◌, ◌||◌, if◌then◌else◌, nat_lt, nat_le, unwrap_or, Role, Dte, Dce, rule_of, sent}
use Rattle.x25_packet_judge.proofs.Names.{is_of_manners, is_order, Channel, PacketUnsent, end_of, is_manners, seen_by, behind_item, IsBroken, IsRude, IsUntold}
use Rattle.x25_packet_judge.proofs.Names.{is_known, sends_to, Packet, Data, RestartConf, Rr, Rnr, Set, Told, Nothing, Rude, Broken}
use Rattle.x25_packet_judge.specs.Numbers.{apart}
use Rattle.x25_packet_judge.specs.declared.{book.Verdict.{Verdict}, packet_rule.PacketRule.{PacketRule}}
use Rattle.x25_possible.specs.declared.{phase.Phase.{Phase}, phase.Phase.TheVariants.{Talks}, phase.Talk.{Talk}}
use Rattle.x25_packet_judge.specs.Channel as channels
use Rattle.x25_packet_judge.specs.Reason as reason

-- ---- reasons are of order, manners are not

manners_are : (s : Phase) → is_of_manners (reason.manners s) ≡ true
manners_are (Talks k) = cond_both (nat_lt 0 k.window && (nat_lt k.window 7 && nat_le k.window (k.sent - k.acked))) _ _
    (λ r. is_of_manners r ≡ true)
    (λ h. (and_parts (nat_lt k.window 7) _ (and_parts (nat_lt 0 k.window) _ h).1).0) (λ _. refl)
manners_are s = refl

strays_are : (ahead pending : ℕ) (k : Talk) (rule : PacketRule) → is_of_manners rule ≡ false → is_of_manners (unwrap_or (reason.strays ahead pending k) rule)
    ≡ false
strays_are ahead pending k rule h = cond_both (nat_le ahead pending) _ _ (λ r. is_of_manners (unwrap_or r rule) ≡ false) (λ _. h)
    (λ _. cond_both (nat_lt (8 - ahead) (ahead - pending)) _ _ (λ r. is_of_manners (unwrap_or r rule) ≡ false) (λ _. refl) (λ _. refl))

follows_is : (k : Talk) (ps size : ℕ) → is_of_manners (reason.follows k ps size) ≡ false
follows_is k ps size = cond_both (not (ps == k.sent % 8)) _ _ (λ r. is_of_manners r ≡ false) (λ _. refl)
    (λ _. cond_both (nat_le 7 (k.sent - k.acked)) _ _ (λ r. is_of_manners r ≡ false) (λ _. refl)
    (λ _. cond_both (nat_lt 0 k.most && nat_lt k.most size) _ _ (λ r. is_of_manners r ≡ false) (λ _. refl) (λ _. refl)))

in_call : (k : Talk) (x : Packet) → is_of_manners (reason.in_call k x) ≡ false
in_call k (Data q m ps pr size) = strays_are (apart pr (k.told % 8)) (k.taken - k.told) k (reason.follows k ps size) (follows_is k ps size)
in_call k (Rr pr) = strays_are (apart pr (k.told % 8)) (k.taken - k.told) k (PacketUnsent 0) refl
in_call k (Rnr pr) = strays_are (apart pr (k.told % 8)) (k.taken - k.told) k (PacketUnsent 0) refl
in_call k x = refl

reasons_are : (s : Phase) (x : Packet) → is_of_manners (reason.reason s x) ≡ false
reasons_are (Talks k) x = in_call k x
reasons_are s RestartConf = refl
reasons_are s x = refl

-- ---- by what is told of a set

pub broken : (t : Told) (x : Packet) → is_order (rule_of t x) ≡ true → IsBroken t
broken Nothing x h = absurd (both_ways false refl h)
broken (Rude s) x h = absurd (both_ways _ (ap not (manners_are s)) h)
broken (Broken s) x h = tt

pub unbroken : (t : Told) (x : Packet) → is_order (rule_of t x) ≡ false → IsUntold t
unbroken (Broken s) x h = absurd (both_ways _ h (ap not (reasons_are s x)))
unbroken t x h = tt

pub rude : (t : Told) (x : Packet) → is_manners (rule_of t x) ≡ true → IsRude t
rude Nothing x h = absurd (both_ways false refl h)
rude (Rude s) x h = tt
rude (Broken s) x h = absurd (both_ways _ (reasons_are s x) h)

pub untold : (t : Told) (x : Packet) → IsUntold t → is_order (rule_of t x) ≡ false
untold Nothing x h = refl
untold (Rude s) x h = ap not (manners_are s)
untold (Broken s) x h = elim h [ ]

pub polite : (t : Told) (x : Packet) → (IsRude t → ⊥) → is_manners (rule_of t x) ≡ false
polite Nothing x h = refl
polite (Rude s) x h = absurd (h tt)
polite (Broken s) x h = reasons_are s x

-- ---- a packet of a channel

pub ends_move : (role from : Role) (x : Packet) (c : Channel) → end_of role (channels.takes from x c).channel
    ≡ behind_item (seen_by role from x) (end_of role c)
ends_move Dte Dte x c = refl
ends_move Dte Dce x c = refl
ends_move Dce Dte x c = refl
ends_move Dce Dce x c = refl

pub judged_ends : (n : ℕ) (role from : Role) (x : Packet) (c : Channel) → end_of role (channels.judges n from x c).channel
    ≡ behind_item (seen_by role from x) (end_of role c)
unfolding channels.judges
judged_ends n role from x c = ends_move role from x c

-- nothing is told where it isn't judged
abbrev Unknown : Packet → Set → Type 0
Unknown x s = is_known s ≡ false → (sends_to x s).told ≡ Nothing

none_of : (r : Option PacketRule) → is_some r ≡ false → None ≡ r
none_of None h = refl
none_of (Some rule) h = absurd (both_ways true h refl)

none_known : (x : Packet) (s : Set) → Unknown x s → (known : Bool) → is_known s ≡ known
    → (known && (is_some (rule_of (sends_to x s).told x) || is_known (sends_to x s).set)) ≡ false → None ≡ rule_of (sends_to x s).told x
none_known x s unknown true is h = none_of _ (or_parts _ _ h).0
none_known x s unknown false is h = sym (ap (λ (t : Told). rule_of t x) (unknown is))

marked_judged : (g h : Verdict) (b : Bool) → h.is_judged ≡ false → g.is_judged ≡ b → (if b then g else h).is_judged ≡ b
marked_judged g h true none is = is
marked_judged g h false none is = none

marked_rule : (g h : Verdict) (b : Bool) → h.rule ≡ None → (b ≡ false → None ≡ g.rule) → (if b then g else h).rule ≡ g.rule
marked_rule g h true none is = refl
marked_rule g h false none is = none ∙ is refl

pub judged_rule : (n : ℕ) (from : Role) (x : Packet) (c : Channel) → Unknown x (end_of from c) → (channels.judges n from x c).verdict.rule
    ≡ rule_of (sends_to x (end_of from c)).told x
unfolding channels.judges
judged_rule n from x c unknown =
    marked_rule (channels.takes from x c).verdict (channels.passed n (channels.takes from x c).channel).verdict _ refl
    (none_known x (end_of from c) unknown _ refl)

pub judged_is : (n : ℕ) (from : Role) (x : Packet) (c : Channel) → (channels.judges n from x c).verdict.is_judged ≡ (sent x (end_of from c)).verdict.is_judged
unfolding channels.judges
judged_is n from x c = marked_judged (channels.takes from x c).verdict (channels.passed n (channels.takes from x c).channel).verdict _ refl refl
