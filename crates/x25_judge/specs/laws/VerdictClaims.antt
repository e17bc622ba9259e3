-- What the laws say of `judge`.
use Rattle.std.specs.Prelude.{◌≡◌, ◌⊎◌, ℕ, ◌≤◌, Bool, true, false, List, [], ◌∷◌, ◌++◌, is_some}
use Rattle.x25_bits.specs.declared.role.Role.{Role}
use Rattle.x25_decode.specs.Decoding.{n1}
use Rattle.x25_frame.specs.Frame.{PlainFrame, info, sabm, ua}
use Rattle.x25_judge.specs.{Judge.{answer_to, begins, other_of, own_of, seen_by}, Links.{place}}
use Rattle.x25_decode.specs.declared.answer.Reading.{Reading}
use Rattle.x25_judge.specs.Manners.{goes_on, may_go_back, seen_place}
use Rattle.x25_judge.specs.declared.{judge.Judge.{Judge}, judge.Strictness.{Strictness}, manners.Manners.{Manners}}
use Rattle.x25_judge.specs.declared.manners.Place.{Place}
use Rattle.x25_possible.specs.laws.Possible.{IsUnexplained, Item, Own, Stands}
use Rattle.x25_possible_links.specs.code.Steps.{numbers}
use Rattle.x25_possible_links.specs.laws.{Link.{State, link_rules}, Sets.{IsRoomy, IsTimely}}
use Rattle.x25_possible_links.specs.declared.frame.Frame.{Frame}
use Rattle.x25_line.specs.laws.{InWindow.{IsPrefix}, Peer.{Peer}}
use Rattle.x25_line.specs.laws.PeerSessions as sessions
use Rattle.x25_possible_links.specs.declared.stand.Stand.{Stand}
use Rattle.x25_link.specs.{Hearing.{other}, Station.{LinkSettings}}
use Rattle.x25_judge.specs.laws.{Explaining.{IsKept, IsUntold, Carries}, Sessions.{MaySay, MayStand}}
use Rattle.x25_judge.specs.laws.Tapes.{IsTape, seen_as, takes_up}
use Rattle.x25_judge.specs.laws.Session.{IsBegun, Shows, IsNumbered, has_answer, has_number, is_final, is_of_order}
use Rattle.x25_judge.specs.laws.{Session.{is_up, rule_of, Way}, Watching.{Watched, IsSilent, IsAny}}
use Rattle.x25_packet_judge.specs.Numbers.{apart}
use Rattle.x25_possible.specs.declared.packet.Defaults.{Defaults}

-- no rule of order is told of what an end sends that keeps the rules, over any number of set-ups
abbrev pub NoSessionIsAccused : Type 0
NoSessionIsAccused =
    (from : Role) (j : Judge) (stand next : sessions.Stand) (p q : Peer) (way rest : Way) (line octets : List ℕ)
    (frame : PlainFrame) → MayStand from j stand p way → Shows line from octets frame
    → MaySay stand p way frame next q rest → is_of_order (rule_of j from frame) ≡ false

-- nor of a station of ours, whatever the other end and the line do, as long as it isn't set up anew
abbrev pub NoStationIsAccused : Type 0
NoStationIsAccused =
    (c : LinkSettings) → c.window ≤ 7 → c.longest ≡ n1 → (w : Watched) → IsAny c w → w.near.came_up ≡ false
    → (line octets : List ℕ) (frame : PlainFrame) (rest : List (List ℕ)) → w.out ≡ octets ∷ rest
    → Shows line c.role octets frame → IsNumbered frame → is_of_order (rule_of w.judge c.role frame) ≡ false

-- where nothing is told and there is room, what the station handed up is a beginning of what the trace shows
abbrev pub SilenceMeansOrder : Type 0
SilenceMeansOrder =
    (c : LinkSettings) → 1 ≤ c.window → c.window ≤ 7 → c.longest ≡ n1 → (w : Watched) → IsSilent c w
    → (own_of (other c.role) w.judge).set.is_blind ≡ false → w.near.came_up ≡ false → IsPrefix w.near.up w.shown

-- and the lines of each end are those of an end that keeps the rules
abbrev pub SilenceMeansRules : Type 0
SilenceMeansRules =
    (from : Role) (j : Judge) (lines : List (List ℕ)) → IsUntold ⊥ from j lines → (own_of from j).set.is_blind ≡ false
    → (p : Peer) × IsKept from lines p

-- and where lines of the other end are damaged, whatever is told of it, each number of an end carries one packet
abbrev pub SilenceMeansNumbers : Type 0
SilenceMeansNumbers =
    (from : Role) (j : Judge) (lines : List (List ℕ)) → IsUntold (Unit {0}) from j lines
    → (own_of from j).set.is_blind ≡ false → (given : List (List ℕ)) × Carries from lines given

-- what the judge is behind these lines
abbrev pub after : Judge → List (List ℕ) → Judge
after j [] = j
after j (line ∷ lines) = after (answer_to j line).next lines

-- no UA is on the way to the end that asks, no number to the other one, and no octets that spell no frame to either
abbrev pub IsClear : Judge → Role → Role → Type 0
IsClear j from end =
    (end ≡ from → has_answer (own_of end j).set.way.items ≡ false)
    × (end ≡ other from → has_number (own_of end j).set.way.items ≡ false)

-- Wherever a trace shows SABM of an end and then UA of the other, where nothing is told of either and there is room, a
-- session of each begins, but for what of before is on the way.
abbrev pub SetUpsBegin : Type 0
SetUpsBegin =
    (window : ℕ) (defaults : Defaults) (reading : Reading) (strictness : Strictness)
    (lines : List (List ℕ)) (from end : Role) (asks accepts asked accepted : List ℕ) (p f : Bool)
    → Shows asks from asked (sabm p) → Shows accepts (other from) accepted (ua f)
    → is_of_order (rule_of (after (begins window defaults reading strictness) lines) from (sabm p)) ≡ false
    → is_of_order (rule_of (after (begins window defaults reading strictness) (lines ++ asks ∷ []))
    (other from) (ua f)) ≡ false
    → IsClear (after (begins window defaults reading strictness) lines) from end
    → (own_of end (after (begins window defaults reading strictness)
    (lines ++ asks ∷ accepts ∷ []))).set.is_blind ≡ false
    → IsBegun (after (begins window defaults reading strictness) (lines ++ asks ∷ accepts ∷ [])) end

-- ---- what is told

-- Where an end keeps the rules up to a frame, and no run of an end that keeps them explains the tape with it, a rule is
-- told, or that numbers are left out.
abbrev pub GuiltyAreTold : Type 0
GuiltyAreTold =
    (of : Role) (j : Judge) (begun : List Stand) (tape : List (Item Frame)) (s : State) (way : List Frame)
    (line octets : List ℕ) (frame : PlainFrame) → IsTape of j begun tape
    → (run : Stands (link_rules begun) tape s way) → IsTimely run ⊎ IsRoomy begun tape → Shows line of octets frame
    → takes_up j of frame ≡ false → (own_of of (answer_to j line).next).set.is_blind ≡ false
    → IsUnexplained (link_rules begun) (Own (seen_as j of frame) ∷ tape) → is_some (rule_of j of frame) ≡ true

-- And where a rule of order is told for the first time, no run does in which nothing comes too late; and none at all
-- where there was room on the way.
abbrev pub ToldAreGuilty : Type 0
ToldAreGuilty =
    (of : Role) (j : Judge) (begun : List Stand) (tape : List (Item Frame)) (frame : PlainFrame) (s : State)
    (way : List Frame) → IsTape of j begun tape → is_of_order (rule_of j of frame) ≡ true
    → (run : Stands (link_rules begun) (Own (seen_as j of frame) ∷ tape) s way) → IsTimely run ⊎ IsRoomy begun tape
    → ⊥

-- V(S) can't stand at the N(S), nor be set back to it
pub record IsOutOfPlace (ns : ℕ) (p : Bool) (m : Manners) (at : Place) : Type 0 where
  pub here : goes_on (seen_place at m) (apart at.next ns) m ≡ false
  pub back : may_go_back (seen_place at m) p (apart at.next ns) m ≡ false

-- a rule or manners are told of an I frame that counts as judged, where its N(S) is out of place
abbrev pub JudgedSendingsAreTold : Type 0
JudgedSendingsAreTold =
    (from : Role) (j : Judge) (ns nr : ℕ) (p : Bool) (octets : List ℕ)
    → (seen_by j from (info ns nr p octets)).seen.is_judged ≡ true → is_up (numbers (own_of from j).set) ≡ true
    → IsOutOfPlace ns p (own_of from j).manners (place (own_of from j))
    → is_some (rule_of j from (info ns nr p octets)) ≡ true

-- and of a response with F=1, where no P=1 of the other end is unanswered
abbrev pub JudgedFinalsAreTold : Type 0
JudgedFinalsAreTold =
    (from : Role) (j : Judge) (frame : PlainFrame) → is_final frame ≡ true
    → (seen_by j from frame).seen.is_judged ≡ true → (other_of from j).manners.polls ≡ 0
    → is_some (rule_of j from frame) ≡ true
