-- One session of a link, as a trace shows it: SABM and UA, and then frames with numbers.
use Rattle.std.specs.Prelude.{◌≡◌, ℕ, ◌<◌, All, drop, Bool, true, false, not, ◌&&◌, List, [], ◌∷◌, length, Option}
use Rattle.std.specs.{Prelude.{Some, None, Ok, nat_le}, List.{list_any}}
use Rattle.x25_bits.specs.declared.role.Role.{Role}
use Rattle.x25_decode.specs.Decoding.{n1, sent_in}
use Rattle.x25_frame.specs.{Frame.{PlainFrame, info, rr, rnr, rej, dm, frmr}, Reading.{frame_of}}
use Rattle.x25_judge.specs.Judge.{own_of, remark_of, seen_by}
use Rattle.x25_judge.specs.declared.{judge.Judge.{Judge}, midst.Watch.TheVariants.{Over}, rule.Rule.{Rule}}
use Rattle.x25_judge.specs.declared.rule.Rule.TheVariants.{Differs, Packet}
use Rattle.x25_judge.specs.declared.rule.Rule.TheVariants.{NoFrame, UaUnasked, NotUp, Unsent, Falls, OverWindow}
use Rattle.x25_line.specs.laws.Stations.{is_visible}
use Rattle.x25_possible.specs.laws.Possible.{IsIn}
use Rattle.x25_possible_links.specs.code.Steps.{is_below}
use Rattle.x25_possible_links.specs.laws.{Link.{fresh, may_answer}, Places.{upward}}
use Rattle.x25_possible_links.specs.declared.{frame.Frame.{Frame}, frame.Frame.TheVariants.{Info, Ready, Unread}}
use Rattle.x25_possible_links.specs.declared.{set.LinkSet.{LinkSet}, spots.Spot.{Spot}, stand.Stand.{Stand}}
use Rattle.x25_possible_links.specs.declared.stand.Stand.TheVariants.{Asking, Up}

-- where an end stands once all has come
abbrev pub comes : List Frame → Stand → Stand
comes [] s = s
comes (x ∷ way) s = comes way (upward s x)

-- and where one of its places does
abbrev pub come : LinkSet → Spot → Stand
come set q = comes (drop q.at set.way.items) q.stand

-- no more is known of it: it awaits UA, or all that it has sent, heard and taken is nothing
abbrev pub is_new : Stand → Bool
is_new Asking = true
is_new s = is_below s fresh

-- a session of the end may begin, with all numbers 0, and no other one may go on
pub record IsBegun (j : Judge) (from : Role) : Type 0 where
  pub up : (q : Spot) × IsIn q (own_of from j).set.spots.items × (is_below fresh (come (own_of from j).set q) ≡ true)
  pub new : (q : Spot) → IsIn q (own_of from j).set.spots.items → is_new (come (own_of from j).set q) ≡ true
  pub octets : length (own_of from j).held.octets ≡ 8
  pub known : length (own_of from j).held.known ≡ 8
  pub over : (own_of from j).watch ≡ Over

-- what may be UA is on the way, or numbers are
abbrev pub has_answer : List Frame → Bool
has_answer way = list_any may_answer way

abbrev pub is_number : Frame → Bool
is_number (Info ns nr differs) = true
is_number (Ready nr) = true
is_number Unread = true
is_number x = false

abbrev pub has_number : List Frame → Bool
has_number way = list_any is_number way

-- the trace has shown a set-up, and nothing behind it
abbrev pub IsSetUp : Judge → Type 0
IsSetUp j = (from : Role) → IsBegun j from

-- ---- lines

-- a line of the trace, what it spells and the frame that this is
pub record Shows (line : List ℕ) (from : Role) (octets : List ℕ) (frame : PlainFrame) : Type 0 where
  pub low : All (λ octet. octet < 256) octets
  pub spells : sent_in line ≡ Some (from, octets)
  pub reads : frame_of from n1 octets ≡ Ok frame

-- or octets that are visibly damaged
pub record IsDamaged (line : List ℕ) (from : Role) (octets : List ℕ) : Type 0 where
  pub spells : sent_in line ≡ Some (from, octets)
  pub visible : is_visible octets ≡ true

abbrev pub IsNumbered : PlainFrame → Type 0
IsNumbered (info ns nr pf octets) = Unit {0}
IsNumbered (rr command nr pf) = Unit {0}
IsNumbered (rnr command nr pf) = Unit {0}
IsNumbered (rej command nr pf) = Unit {0}
IsNumbered frame = ⊥

-- ---- what is on the way to an end, front first: frames, and damaged octets, which say nothing

abbrev pub Way : Type 0
Way = List (Option PlainFrame)

-- nothing comes behind which 64 lines more were shown
abbrev pub IsTimely : Way → Type 0
IsTimely way = length way < 64

-- it is a response with F=1, but for UA
abbrev pub is_final : PlainFrame → Bool
is_final (rr command nr pf) = not command && pf
is_final (rnr command nr pf) = not command && pf
is_final (rej command nr pf) = not command && pf
is_final (dm f) = f
is_final (frmr f why) = f
is_final frame = false

-- it is in a session
abbrev pub is_up : Stand → Bool
is_up (Up k) = true
is_up s = false

-- it has no N(S)
abbrev pub IsSupervisory : PlainFrame → Type 0
IsSupervisory (info ns nr pf octets) = ⊥
IsSupervisory frame = Unit {0}

-- ---- rules

-- the rule that is told of a frame
abbrev pub rule_of : Judge → Role → PlainFrame → Option Rule
rule_of j from frame = (remark_of j from frame (seen_by j from frame)).rule

-- it is one of the link layer
abbrev pub IsOfLink : Rule → Type 0
IsOfLink (Packet rule) = ⊥
IsOfLink rule = Unit {0}

-- those of the link layer that aren't of manners
abbrev pub is_of_order : Option Rule → Bool
is_of_order (Some NoFrame) = true
is_of_order (Some UaUnasked) = true
is_of_order (Some NotUp) = true
is_of_order (Some (Unsent most)) = true
is_of_order (Some (Falls least)) = true
is_of_order (Some (OverWindow window)) = nat_le 7 window
is_of_order (Some Differs) = true
is_of_order (Some rule) = false
is_of_order None = false
